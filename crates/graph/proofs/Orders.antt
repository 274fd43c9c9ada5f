-- An order and a circle exclude one another.
use Rattle.std.proofs.Common.{◌≡◌, ℕ, zero, suc, ◌+◌, ◌-◌, ◌<◌, Bool, true, List, get_or, sym, ap, ◌∙◌, ⊎_elim, arith}
use Rattle.std.proofs.lemmas.Bool.{cases_eq}
use Rattle.graph.specs.Order.{LowestFirst, IsCircle, IsOrder}

-- no node of a circle has a place
unplaced : (f : ℕ → ℕ → Bool) (n : ℕ) (o : List ℕ) (k : ℕ) (c : List ℕ) (m : ℕ) → LowestFirst f n o k → IsCircle f n c m
    → (b i : ℕ) → i < m → (j : ℕ) → j < b → j < k → get_or o j 0 ≡ get_or c i 0 → ⊥
unplaced f n o k c m low ci zero i h j jb jk e = omega arith
unplaced f n o k c m low ci (suc b) i h j jb jk e =
    let go : (p : ℕ) → p < m → f (get_or c p 0) (get_or c i 0) ≡ true → ⊥ = λ p hp fd.
    let s = (low j jk).0.2 (get_or c p 0) (ci.nodes p hp) (ap (λ x. f (get_or c p 0) x) e ∙ fd) in
    unplaced f n o k c m low ci b p hp s.0 (let a = s.1 in omega arith) (let a = s.1 in omega arith) s.2
    in ⊎_elim
    (λ q. go (m - 1) (omega arith) (ap (λ x. f (get_or c (m - 1) 0) (get_or c x 0)) q ∙ ci.last))
    (λ ne. let q : (i - 1) + 1 ≡ i = omega arith in
    go (i - 1) (omega arith) (ap (λ x. f (get_or c (i - 1) 0) (get_or c x 0)) (sym q) ∙ ci.next (i - 1) (omega arith)))
    (cases_eq i 0)

-- where there is an order there is no circle
pub no_circle : (f : ℕ → ℕ → Bool) (n : ℕ) (o l : List ℕ) (k : ℕ) → IsOrder f n o → IsCircle f n l k → ⊥
no_circle f n o l k order circle =
    let s = order.all (get_or l 0 0) (circle.nodes 0 circle.some) in
    unplaced f n o n l k order.lowest circle n 0 circle.some s.0 s.1 s.1 s.2
