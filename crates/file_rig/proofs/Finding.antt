-- Looking for a name in a list of units.
use Rattle.std.proofs.Common.{◌≡◌, ℕ, ◌<◌, List, [], map, length, get_or, Some, None, Option, MatchOption, ◌≢◌, sym, ◌∙◌, arith}
use Rattle.std.specs.List.{AllWithin, HoldsAt}
use Rattle.std.proofs.lemmas.List.{length-map, get_or-map}
use Rattle.std.proofs.lemmas.Simd.{map-map}
use Rattle.rig.proofs.Calling.{nth_some}
use Rattle.file_rig.specs.Adding.{FoundAt}

module _ {X Y : Type 0} (f : X → Y) (text : Y → List ℕ) (xs : List X) (name : List ℕ) where
  -- the first unit whose text is the name
  abbrev pub IsFirst : Option ℕ → Type 0
  IsFirst r = MatchOption r (AllWithin (λ x. text (f x) ≢ name) xs 0 (length xs)) (λ u. (u < length xs) × HoldsAt (λ x. text (f x) ≡ name) xs u × AllWithin (λ x. text (f x) ≢ name) xs 0 u)

  text_at : (k : ℕ) (x : X) → k < length xs → get_or (map text (map f xs)) k [] ≡ text (f (get_or xs k x))
  text_at k x inside = rw (map-map text f xs) (get_or-map (λ x. text (f x)) xs k x [] inside)

  not_at : (k : ℕ) → k < length xs → ((x : X) → text (f (get_or xs k x)) ≢ name) → get_or (map text (map f xs)) k [] ≢ name
  not_at k inside other e = let p = nth_some xs k inside in other p.0 (sym (text_at k p.0 inside) ∙ e)

  pub found_first : (r : Option ℕ) → IsFirst r → FoundAt (map text (map f xs)) name r
  found_first None none = λ k l. let inside = simp length-map at l in not_at k inside (λ x. none k x (omega arith) inside)
  found_first (Some u) w =
      let p = nth_some xs u w.0 in
      (simp length-map w.0, text_at u p.0 w.0 ∙ w.1 p.0, λ k l. not_at k (omega (arith, l, w.0)) (λ x. w.2 k x (omega arith) l))
