-- Placing nodes one by one: o has the first k places, and the marks m have 1 at each node placed.
use Rattle.std.proofs.Common.{◌≡◌, ℕ, zero, suc, ◌+◌, ◌<◌, ◌≤◌, Bool, cond, ◌≢◌, List, [], ◌∷◌, length, get_or, set, replicate, Some, None, Option, sym, refl, ap, ◌∙◌, subst, ⊎_elim, arith, length-set, get_or-set_other, get_or-set_same, MatchOption}
use lib.ListN.{length-replicate}
use Rattle.std.proofs.lemmas.List.Sums.{sum_by-set, get_or-le-sum_by, sum_by-cons}
use Rattle.std.proofs.lemmas.List.{get_or-replicate, get_or_past}
use Rattle.std.proofs.lemmas.Bool.{cases_eq, ne_eqb, cases_lt}
use Rattle.graph.specs.Order.{Stands, Ready, LowestFirst, IsOrder}
use Rattle.graph.specs.Placing.{NoneReady, FirstReady, Stuck, LeftOver}
use Rattle.graph.proofs.Walks.{is_zero, zeros}

pub record Placing (f : ℕ → ℕ → Bool) (n : ℕ) (m o : List ℕ) (k : ℕ) : Type 0 where
  pub few : n ≤ 64
  pub mlong : length m ≡ 64
  pub olong : length o ≡ 64
  pub room : k + zeros m ≡ 64
  pub bits : (v : ℕ) → get_or m v 0 ≤ 1
  pub past : (v : ℕ) → n ≤ v → get_or m v 0 ≡ 0
  pub low : LowestFirst f n o k
  pub placed : (v : ℕ) → get_or m v 0 ≡ 1 → Stands o k v
  pub marked : (v : ℕ) → Stands o k v → get_or m v 0 ≡ 1

set_here : (l : List ℕ) (i j x : ℕ) → i < length l → j ≡ i → get_or (set l i x) j 0 ≡ x
set_here l i j x lt e = ap (λ k. get_or (set l i x) k 0) e ∙ get_or-set_same l i x 0 lt

-- a write at k leaves what stands before k
stands_on : (o : List ℕ) (k x j v : ℕ) → j ≤ k → Stands o j v → Stands (set o k x) j v
stands_on o k x j v h s = (s.0, s.1, get_or-set_other o k s.0 x 0 (λ q. let b = s.1 in omega arith) ∙ s.2)

stands_off : (o : List ℕ) (k x j v : ℕ) → j ≤ k → Stands (set o k x) j v → Stands o j v
stands_off o k x j v h s = (s.0, s.1, sym (get_or-set_other o k s.0 x 0 (λ q. let b = s.1 in omega arith)) ∙ s.2)

ready_on : (f : ℕ → ℕ → Bool) (n : ℕ) (o : List ℕ) (k x j v : ℕ) → j ≤ k → Ready f n o j v → Ready f n (set o k x) j v
ready_on f n o k x j v h r = (r.0, (λ s. r.1 (stands_off o k x j v h s)), λ u hu fu. stands_on o k x j u h (r.2 u hu fu))

ready_off : (f : ℕ → ℕ → Bool) (n : ℕ) (o : List ℕ) (k x j v : ℕ) → j ≤ k → Ready f n (set o k x) j v → Ready f n o j v
ready_off f n o k x j v h r = (r.0, (λ s. r.1 (stands_on o k x j v h s)), λ u hu fu. stands_off o k x j u h (r.2 u hu fu))

pub some_place : (f : ℕ → ℕ → Bool) (n : ℕ) (m o : List ℕ) (k v : ℕ) → Placing f n m o k → FirstReady f n m v → k < 64
some_place f n m o k v w fr =
    let e : is_zero (get_or m v 0) ≡ 1 = ap is_zero fr.open_still in
    let b = fr.node in
    omega (arith, e, get_or-le-sum_by is_zero m v 0 (omega arith))

-- the node that is placed next is ready, and the lowest-numbered
here : (f : ℕ → ℕ → Bool) (n : ℕ) (m o : List ℕ) (k v : ℕ) → Placing f n m o k → FirstReady f n m v
    → Ready f n o k v × ((w : ℕ) → w < v → Ready f n o k w → ⊥)
here f n m o k v p fr = (
  (fr.node, (λ s. let a = p.marked v s in let b = fr.open_still in omega arith), λ u hu fu. p.placed u (fr.closed u hu fu)),
  λ w h r. fr.lowest w h
      (let b = p.bits w in let no : get_or m w 0 ≡ 1 → ⊥ = λ q. r.1 (p.placed w q) in omega arith)
      (λ u hu fu. p.marked u (r.2 u hu fu)),
)

-- one step of LowestFirst
low_more : (f : ℕ → ℕ → Bool) (n : ℕ) (o : List ℕ) (k v : ℕ) → k < length o → LowestFirst f n o k
    → Ready f n o k v × ((w : ℕ) → w < v → Ready f n o k w → ⊥) → LowestFirst f n (set o k v) (k + 1)
low_more f n o k v lt low hr j h =
    let R : ℕ → Type 0 = λ x. Ready f n (set o k v) j x × ((w : ℕ) → w < x → Ready f n (set o k v) j w → ⊥) in
    ⊎_elim
    (λ q. let e : v ≡ get_or (set o k v) j 0 = sym (set_here o k j v lt q) in
    let P : ℕ → Type 0 = λ i. Ready f n o i v × ((w : ℕ) → w < v → Ready f n o i w → ⊥) in
    let hj = subst P (sym q) hr in
    let jk : j ≤ k = omega arith in
    subst R e (ready_on f n o k v j v jk hj.0, λ w lw r. hj.1 w lw (ready_off f n o k v j w jk r)))
    (λ ne. let jk : j < k = omega arith in let jl : j ≤ k = omega arith in
    let e : get_or o j 0 ≡ get_or (set o k v) j 0 = sym (get_or-set_other o k j v 0 ne) in
    let b = low j jk in
    subst R e (ready_on f n o k v j (get_or o j 0) jl b.0, λ w lw r. b.1 w lw (ready_off f n o k v j w jl r)))
    (cases_eq j k)

pub place : (f : ℕ → ℕ → Bool) (n : ℕ) (m o : List ℕ) (k v : ℕ) → Placing f n m o k → FirstReady f n m v
    → Placing f n (set m v 1) (set o k v) (k + 1)
place f n m o k v p fr =
    let k64 = some_place f n m o k v p fr in
    let vn : v < n = fr.node in
    let vm : v < length m = omega arith in
    let ko : k < length o = omega arith in
    let one : is_zero (get_or m v 0) ≡ 1 = ap is_zero fr.open_still in
    record {
      few = p.few;
      mlong = length-set m v 1 ∙ p.mlong;
      olong = length-set o k v ∙ p.olong;
      room = omega (arith, sum_by-set is_zero m v 1 0 vm, one);
      bits = λ x. ⊎_elim (λ q. let e = set_here m v x 1 vm q in omega arith) (λ ne. let e = get_or-set_other m v x 1 0 ne in omega (arith, e, p.bits x)) (cases_eq x v);
      past = λ x h. get_or-set_other m v x 1 0 (λ q. omega arith) ∙ p.past x h;
      low = low_more f n o k v ko p.low (here f n m o k v p fr);
      placed = λ x q1. ⊎_elim
          (λ q. (k, omega arith, get_or-set_same o k v 0 ko ∙ sym q))
          (λ ne. let s = stands_on o k v k x (omega arith) (p.placed x (sym (get_or-set_other m v x 1 0 ne) ∙ q1)) in
          (s.0, omega (arith, s.1), s.2))
          (cases_eq x v);
      marked = λ x s. ⊎_elim
          (λ q. set_here m v x 1 vm q)
          (λ ne. let jk : s.0 ≢ k = λ q. ne (sym s.2 ∙ set_here o k s.0 v ko q) in
          let b = s.1 in
          get_or-set_other m v x 1 0 ne ∙ p.marked x (stands_off o k v k x (omega arith) (s.0, omega arith, s.2)))
          (cases_eq x v);
    }

zeros_none : (n : ℕ) → zeros (replicate n 0) ≡ n
zeros_none zero = refl
zeros_none (suc n) = sum_by-cons is_zero 0 (replicate n 0) ∙ (let e = zeros_none n in omega arith)

bare : (n v : ℕ) → ◌≡◌ {A = ℕ} (get_or (replicate n 0) v 0) 0
bare n v = ⊎_elim (λ h. get_or-replicate n v 0 0 h) (λ h. get_or_past (replicate n 0) v 0 (let e = length-replicate {A = ℕ} n 0 in omega arith)) (cases_lt v n)

pub start : (f : ℕ → ℕ → Bool) (n : ℕ) (m o : List ℕ) → n ≤ 64 → m ≡ replicate 64 0 → length o ≡ 64 → Placing f n m o 0
start f n m o few e ol =
    let z : (v : ℕ) → get_or m v 0 ≡ 0 = λ v. ap (λ s. get_or s v 0) e ∙ bare 64 v in
    record {
      few = few;
      mlong = ap length e ∙ length-replicate {A = ℕ} 64 0;
      olong = ol;
      room = (let k = ap zeros e ∙ zeros_none 64 in omega arith);
      bits = λ v. omega (arith, z v);
      past = λ v h. z v;
      low = λ j h. absurd (omega arith);
      placed = λ v q. absurd (omega (arith, z v));
      marked = λ v s. absurd (omega (arith, s.1));
    }

-- marks other than 0 at the nodes alone
zeros_rest : (m : List ℕ) (n : ℕ) → n ≤ length m → ((v : ℕ) → v < n → get_or m v 0 ≡ 0 → ⊥) → ((v : ℕ) → n ≤ v → get_or m v 0 ≡ 0)
    → zeros m + n ≡ length m
zeros_rest [] n h some none = omega arith
zeros_rest (x ∷ xs) zero h some none =
    let e = sum_by-cons is_zero x xs in
    let k : is_zero x ≡ 1 = ap is_zero (none 0 (omega arith)) in
    let r = zeros_rest xs zero (omega arith) (λ v lt. absurd (omega arith)) (λ v le. none (suc v) (omega arith)) in
    omega arith
zeros_rest (x ∷ xs) (suc n) h some none =
    let e = sum_by-cons is_zero x xs in
    let k : is_zero x ≡ 0 = ap (λ b. cond b 1 0) (ne_eqb x 0 (some 0 (omega arith))) in
    let r = zeros_rest xs n (omega arith) (λ v lt. some (suc v) (omega arith)) (λ v le. none (suc v) (omega arith)) in
    omega arith

-- every node is placed: the order
pub finish : (f : ℕ → ℕ → Bool) (n : ℕ) (m o : List ℕ) (k : ℕ) → Placing f n m o k → ((v : ℕ) → v < n → get_or m v 0 ≡ 0 → ⊥) → IsOrder f n o
finish f n m o k p full =
    let z = zeros_rest m n (omega arith) full p.past in
    let kn : k ≡ n = omega arith in
    let low : LowestFirst f n o n = subst (λ i. LowestFirst f n o i) kn p.low in
    let all : (v : ℕ) → v < n → Stands o n v = λ v h.
    subst (λ i. Stands o i v) kn (p.placed v (let b = p.bits v in let no = full v h in omega arith)) in
    record { lowest = low; all = all }

-- no node is ready: each that is not placed has a feeder that is not
pub stuck : (f : ℕ → ℕ → Bool) (n : ℕ) (m o : List ℕ) (k : ℕ) → Placing f n m o k → NoneReady f n m n → Stuck f n m
stuck f n m o k p nr v h no1 cl = nr v h (let b = p.bits v in omega arith) cl

-- what is told after the last place
pub outcome : (f : ℕ → ℕ → Bool) (n : ℕ) (m o : List ℕ) (k x : ℕ) (r : Option ℕ) → x ≡ n → Placing f n m o k → NoneReady f n m n
    → MatchOption r ((v : ℕ) → v < x → get_or m v 0 ≡ 0 → ⊥) (λ v. (v < x) × (get_or m v 0 ≡ 0)) → MatchOption r (IsOrder f n o) (λ v. LeftOver f n m v)
outcome f n m o k x None e p nr h = finish f n m o k p (λ v lt. h v (omega arith))
outcome f n m o k x (Some v) e p nr h =
    record { node = (let a = h.0 in omega arith); open_still = h.1; stuck = stuck f n m o k p nr; bits = p.bits }
