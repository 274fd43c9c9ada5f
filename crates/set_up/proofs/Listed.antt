-- The table of the outputs, as it grows.
use Rattle.std.proofs.Common.{◌≡◌, ℕ, zero, suc, ◌+◌, ◌-◌, ◌<◌, ◌≤◌, ◌≢◌, List, [], ◌∷◌, ◌++◌, length, take, get_or, refl, sym, ap, subst, ◌∙◌, ⊎_elim, append_assoc, add-one, arith}
use Rattle.std.specs.List.{slice_get}
use Rattle.std.proofs.lemmas.Bool.{cases_eq}
use Rattle.std.proofs.lemmas.List.{length-append, get_or_append_left, get_or-append_right, get_or-set_same, get_or-set_other}
use Rattle.rig.specs.Units.{RigUnit}
use Rattle.wiring.specs.declared.port.Port.{Port}
use Rattle.set_up.specs.declared.table.Output.{Output}
use Rattle.set_up.specs.declared.table.Outputs.{Outputs}
use Rattle.set_up.specs.Outputs.{ports_from, ports_by, ports_at, outputs_of, mask_at, no_port, output_count}
use Rattle.set_up.specs.Listing.{entry, no_output, Lists, OneMore}
use Rattle.set_up.proofs.Totals.{more, more_count, outputs_in}

-- the ports of a unit with one more
from_more : (u p n : ℕ) → ports_from u p (suc n) ≡ ports_from u p n ++ (record { unit = u; port = p + n } ∷ [])
from_more u p zero = let e : p ≡ p + 0 = omega arith in ap (λ z. record { unit = u; port = z } ∷ []) e
from_more u p (suc n) =
    let e : p + 1 + n ≡ p + suc n = omega arith in
    ap (λ z. record { unit = u; port = p } ∷ z) (from_more u (p + 1) n)
    ∙ ap (λ z. record { unit = u; port = p } ∷ (ports_from u (p + 1) n ++ (record { unit = u; port = z } ∷ []))) e

one_more : (u n : ℕ) → ports_from u 0 (n + 1) ≡ ports_from u 0 n ++ (record { unit = u; port = n } ∷ [])
one_more u n =
    let e : 0 + n ≡ n = omega arith in
    ap (ports_from u 0) (add-one n) ∙ from_more u 0 n ∙ ap (λ z. ports_from u 0 n ++ (record { unit = u; port = z } ∷ [])) e

module _ {S : Type 0} (us : List (RigUnit S)) where
  module _ (ports : List Port) (t v : Outputs) (o : Output) (l : Lists us ports t) (room : t.count < 64) (m : OneMore t o v) (masked : o.mask ≡ mask_at us o.port) where
    long : length (ports ++ (o.port ∷ [])) ≡ length ports + 1
    long = length-append ports (o.port ∷ [])

    old_entry : (n : ℕ) → n < length ports → entry v n ≡ entry t n
    old_entry n lt =
        let c = l.count in
        let ne : n ≢ t.count = omega arith in
        ap (λ z. get_or z n no_output) m.1 ∙ get_or-set_other t.list t.count n o no_output ne

    new_entry : (n : ℕ) → n ≡ length ports → entry v n ≡ o
    new_entry n e =
        let full = t.full in
        let inside : t.count < length t.list = omega arith in
        ap (entry v) (e ∙ sym l.count) ∙ ap (λ z. get_or z t.count no_output) m.1 ∙ get_or-set_same t.list t.count o no_output inside

    old_port : (n : ℕ) → n < length ports → get_or (ports ++ (o.port ∷ [])) n no_port ≡ get_or ports n no_port
    old_port n lt = get_or_append_left ports (o.port ∷ []) no_port n lt

    new_port : (n : ℕ) → n ≡ length ports → get_or (ports ++ (o.port ∷ [])) n no_port ≡ o.port
    new_port n e =
        let z : n - length ports ≡ 0 = omega arith in
        get_or-append_right ports (o.port ∷ []) (length ports) n no_port refl (omega arith) ∙ ap (λ k. get_or (o.port ∷ []) k no_port) z

    each_port : (n : ℕ) → n < length (ports ++ (o.port ∷ [])) → (entry v n).port ≡ get_or (ports ++ (o.port ∷ [])) n no_port
    each_port n lt =
        let k = long in
        ⊎_elim (λ (e : n ≡ length ports). ap (λ z. z.port) (new_entry n e) ∙ sym (new_port n e))
        (λ (ne : n ≡ length ports → ⊥).
        let less : n < length ports = omega arith in
        ap (λ z. z.port) (old_entry n less) ∙ l.each_port n less ∙ sym (old_port n less))
        (cases_eq n (length ports))

    each_mask : (n : ℕ) → n < length (ports ++ (o.port ∷ [])) → (entry v n).mask ≡ mask_at us (get_or (ports ++ (o.port ∷ [])) n no_port)
    each_mask n lt =
        let k = long in
        ⊎_elim (λ (e : n ≡ length ports). ap (λ z. z.mask) (new_entry n e) ∙ masked ∙ ap (mask_at us) (sym (new_port n e)))
        (λ (ne : n ≡ length ports → ⊥).
        let less : n < length ports = omega arith in
        ap (λ z. z.mask) (old_entry n less) ∙ l.each_mask n less ∙ ap (mask_at us) (sym (old_port n less)))
        (cases_eq n (length ports))

    -- the table with one output more
    pub pushed : Lists us (ports ++ (o.port ∷ [])) v
    pushed = let k = long in let c = l.count in record { count = m.0 ∙ ap (λ z. z + 1) c ∙ sym k; each_port = each_port; each_mask = each_mask }

  -- the table with one output more of unit u
  pub port_listed : (before : List Port) (u n : ℕ) (t v : Outputs) (o : Output) → Lists us (before ++ ports_from u 0 n) t → t.count < 64 → OneMore t o v
      → o.port ≡ record { unit = u; port = n } → o.mask ≡ mask_at us o.port → Lists us (before ++ ports_from u 0 (n + 1)) v
  port_listed before u n t v o l room m e masked =
      subst (λ z. Lists us z v)
      (append_assoc before (ports_from u 0 n) (o.port ∷ []) ∙ ap (λ z. before ++ (ports_from u 0 n ++ (z ∷ []))) e ∙ ap (λ z. before ++ z) (sym (one_more u n)))
      (pushed (before ++ ports_from u 0 n) t v o l room m masked)

  -- the table with the outputs of one unit more
  pub unit_listed : (u : ℕ) (v : Outputs) → Lists us (outputs_of (take u us) ++ ports_from u 0 (ports_at us u).outputs) v → Lists us (outputs_of (take (u + 1) us)) v
  unit_listed u v l =
      subst (λ z. Lists us z v)
      (ap (λ z. outputs_of (take u us) ++ ports_from u 0 z) (outputs_in (slice_get us u)) ∙ sym (more output_count us u)) l

part : {S : Type 0} (count : RigUnit S → ℕ) (k n : ℕ) (us : List (RigUnit S)) → length (ports_by count k (take n us)) ≤ length (ports_by count k us)
part count k zero us = omega arith
part count k (suc n) [] = omega arith
part count k (suc n) (x ∷ us) =
    let a = length-append (ports_from k 0 (count x)) (ports_by count (k + 1) (take n us)) in
    let b = length-append (ports_from k 0 (count x)) (ports_by count (k + 1) us) in
    let i = part count (k + 1) n us in
    omega arith

-- there is room for the outputs of one unit more
pub room : {S : Type 0} (us : List (RigUnit S)) (u : ℕ) (t : Outputs) → length (outputs_of us) ≤ 64 → Lists us (outputs_of (take u us)) t → t.count + (ports_at us u).outputs ≤ 64
room us u t few l =
    let c = l.count in
    let m = more_count output_count us u in
    let o = outputs_in (slice_get us u) in
    let p = part output_count 0 (u + 1) us in
    omega arith
