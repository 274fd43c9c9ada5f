-- A walk back over open feeders: the path p from t on, with 2 in the marks m at each of its nodes.
use Rattle.std.proofs.Common.{◌≡◌, ℕ, suc, ◌+◌, ◌-◌, ◌<◌, ◌≤◌, Bool, true, cond, eqb, ◌≢◌, List, length, take, drop, get_or, set, sum_by, sym, ap, ◌∙◌, ⊎_elim, arith, length-set, get_or-set_other, get_or-set_same}
use Rattle.std.proofs.lemmas.List.Sums.{sum_by-set, get_or-le-sum_by, count_by-le-length}
use Rattle.std.proofs.lemmas.List.{get_or-take, get_or-drop, length-take-le, length-drop}
use Rattle.std.proofs.lemmas.Bool.{cases_eq}
use Rattle.graph.specs.Order.{IsCircle, Shown}
use Rattle.graph.proofs.Orders.{no_circle}
use Rattle.graph.specs.Placing.{Feeder, Closed, Stuck, Lacks, Taken}

abbrev pub is_zero : ℕ → ℕ
is_zero x = cond (eqb x 0) 1 0

-- how many marks are 0
abbrev pub zeros : List ℕ → ℕ
zeros m = sum_by is_zero m

-- before a is marked
pub record Walking (f : ℕ → ℕ → Bool) (n : ℕ) (m p : List ℕ) (t a : ℕ) : Type 0 where
  pub few : n ≤ 64
  pub mlong : length m ≡ 64
  pub plong : length p ≡ 64
  pub node : a < n
  pub bare : get_or m a 0 ≡ 0
  pub room : zeros m ≤ t
  pub within : t ≤ 64
  pub stuck : Stuck f n m
  pub small : (v : ℕ) → get_or m v 0 ≤ 2
  pub back : (j : ℕ) → t ≤ j → j < 64 → (get_or p j 0 < n) × (get_or m (get_or p j 0) 0 ≡ 2)
  pub met : (v : ℕ) → get_or m v 0 ≡ 2 → ((j : ℕ) × (t ≤ j) × (j < 64) × (get_or p j 0 ≡ v))
  pub apart : (i j : ℕ) → t ≤ i → i < j → j < 64 → get_or p i 0 ≡ get_or p j 0 → ⊥
  pub chain : (j : ℕ) → t ≤ j → j + 1 < 64 → f (get_or p j 0) (get_or p (j + 1) 0) ≡ true
  pub head : t < 64 → f a (get_or p t 0) ≡ true

-- after a is marked, and stands at the path's head
pub record Walked (f : ℕ → ℕ → Bool) (n : ℕ) (m p : List ℕ) (t a : ℕ) : Type 0 where
  pub few : n ≤ 64
  pub mlong : length m ≡ 64
  pub plong : length p ≡ 64
  pub room : zeros m ≤ t
  pub within : t < 64
  pub stuck : Stuck f n m
  pub small : (v : ℕ) → get_or m v 0 ≤ 2
  pub back : (j : ℕ) → t ≤ j → j < 64 → (get_or p j 0 < n) × (get_or m (get_or p j 0) 0 ≡ 2)
  pub met : (v : ℕ) → get_or m v 0 ≡ 2 → ((j : ℕ) × (t ≤ j) × (j < 64) × (get_or p j 0 ≡ v))
  pub apart : (i j : ℕ) → t ≤ i → i < j → j < 64 → get_or p i 0 ≡ get_or p j 0 → ⊥
  pub chain : (j : ℕ) → t ≤ j → j + 1 < 64 → f (get_or p j 0) (get_or p (j + 1) 0) ≡ true
  pub here : get_or p t 0 ≡ a

set_here : (l : List ℕ) (i j x : ℕ) → i < length l → j ≡ i → get_or (set l i x) j 0 ≡ x
set_here l i j x lt e = ap (λ k. get_or (set l i x) k 0) e ∙ get_or-set_same l i x 0 lt

-- another mark than that of a bare node is left
left_mark : (m : List ℕ) (a v x : ℕ) → get_or m a 0 ≡ 0 → get_or m v 0 ≡ suc x → get_or (set m a 2) v 0 ≡ suc x
left_mark m a v x z e =
    let ne : v ≢ a = λ q. let w : get_or m v 0 ≡ get_or m a 0 = ap (λ k. get_or m k 0) q in omega arith in
    get_or-set_other m a v 2 0 ne ∙ e

-- a mark 1 was there before
was_mark : (m : List ℕ) (a v : ℕ) → a < length m → get_or (set m a 2) v 0 ≡ 1 → get_or m v 0 ≡ 1
was_mark m a v lt e =
    ⊎_elim (λ q. let w = set_here m a v 2 lt q in absurd (omega arith)) (λ ne. sym (get_or-set_other m a v 2 0 ne) ∙ e) (cases_eq v a)

-- one bare node less
fewer : (m : List ℕ) (a : ℕ) → a < length m → get_or m a 0 ≡ 0 → zeros (set m a 2) + 1 ≡ zeros m
fewer m a lt z =
    let e = sum_by-set is_zero m a 2 0 lt in
    let k : is_zero (get_or m a 0) ≡ 1 = ap is_zero z in
    omega (arith, e, k)

pub some_room : (f : ℕ → ℕ → Bool) (n : ℕ) (m p : List ℕ) (t a : ℕ) → Walking f n m p t a → 0 < t
some_room f n m p t a w =
    let k : is_zero (get_or m a 0) ≡ 1 = ap is_zero w.bare in
    omega (arith, k, get_or-le-sum_by is_zero m a 0 (omega arith))

pub step : (f : ℕ → ℕ → Bool) (n : ℕ) (m p : List ℕ) (s t a : ℕ) → s + 1 ≡ t → Walking f n m p t a
    → Walked f n (set m a 2) (set p s a) s a
step f n m p s t a e w =
    let am : a < length m = omega arith in
    let sp : s < length p = omega arith in
    let old : (j : ℕ) → t ≤ j → get_or (set p s a) j 0 ≡ get_or p j 0 = λ j h. get_or-set_other p s j a 0 (λ q. omega arith) in
    let new : get_or (set p s a) s 0 ≡ a = get_or-set_same p s a 0 sp in
    record {
      few = w.few;
      mlong = length-set m a 2 ∙ w.mlong;
      plong = length-set p s a ∙ w.plong;
      room = omega (arith, fewer m a am w.bare);
      within = omega arith;
      stuck = λ v h no1 cl. w.stuck v h (λ q. no1 (left_mark m a v 0 w.bare q)) (λ u hu fu. was_mark m a u am (cl u hu fu));
      small = λ v. ⊎_elim (λ q. let k = set_here m a v 2 am q in omega arith) (λ ne. let k = get_or-set_other m a v 2 0 ne in omega (arith, k, w.small v)) (cases_eq v a);
      back = λ j h lt. ⊎_elim
          (λ q. let k : get_or (set p s a) j 0 ≡ a = set_here p s j a sp q in
          (omega arith, ap (λ x. get_or (set m a 2) x 0) k ∙ get_or-set_same m a 2 0 am))
          (λ ne. let tj : t ≤ j = omega arith in let k = old j tj in let b = w.back j tj lt in
          (omega (arith, k, b.0), ap (λ x. get_or (set m a 2) x 0) k ∙ left_mark m a (get_or p j 0) 1 w.bare b.1))
          (cases_eq j s);
      met = λ v q2. ⊎_elim
          (λ q. (s, omega arith, omega arith, new ∙ sym q))
          (λ ne. let b = w.met v (sym (get_or-set_other m a v 2 0 ne) ∙ q2) in
          (b.0, omega (arith, b.1), b.2, old b.0 b.1 ∙ b.3))
          (cases_eq v a);
      apart = λ i j h lt hj q. ⊎_elim
          (λ is. let tj : t ≤ j = omega arith in
          let k : a ≡ get_or p j 0 = sym (set_here p s i a sp is) ∙ (q ∙ old j tj) in
          let z : get_or m a 0 ≡ 2 = ap (λ x. get_or m x 0) k ∙ (w.back j tj hj).1 in
          let b = w.bare in omega arith)
          (λ ne. let ti : t ≤ i = omega arith in
          w.apart i j ti lt hj (sym (old i ti) ∙ (q ∙ old j (omega arith))))
          (cases_eq i s);
      chain = λ j h hj. ⊎_elim
          (λ js. let k : j + 1 ≡ t = omega arith in
          let hd = w.head (omega arith) in
          let e1 : get_or (set p s a) j 0 ≡ a = set_here p s j a sp js in
          let e2 : get_or (set p s a) (j + 1) 0 ≡ get_or p t 0 = old (j + 1) (omega arith) ∙ ap (λ x. get_or p x 0) k in
          ap (λ x. f x (get_or (set p s a) (j + 1) 0)) e1 ∙ (ap (λ x. f a x) e2 ∙ hd))
          (λ ne. let tj : t ≤ j = omega arith in
          ap (λ x. f x (get_or (set p s a) (j + 1) 0)) (old j tj) ∙ (ap (λ x. f (get_or p j 0) x) (old (j + 1) (omega arith)) ∙ w.chain j tj hj))
          (cases_eq j s);
      here = new;
    }

pub never_closed : (f : ℕ → ℕ → Bool) (n : ℕ) (m p : List ℕ) (t a : ℕ) → Walked f n m p t a → Closed f n m a → ⊥
never_closed f n m p t a w cl =
    let b = w.back t (omega arith) w.within in
    let e = w.here in
    let k : get_or m a 0 ≡ 2 = ap (λ x. get_or m x 0) (sym e) ∙ b.1 in
    w.stuck a (omega (arith, b.0)) (λ q. omega arith) cl

pub onward : (f : ℕ → ℕ → Bool) (n : ℕ) (m p : List ℕ) (t a u : ℕ) → Walked f n m p t a → Feeder f n m a u
    → (get_or m u 0 ≡ 2 → ⊥) → Walking f n m p t u
onward f n m p t a u w fd no2 = record {
  few = w.few;
  mlong = w.mlong;
  plong = w.plong;
  node = fd.0;
  bare = (let k = w.small u in let no1 = fd.2 in omega arith);
  room = w.room;
  within = omega arith;
  stuck = w.stuck;
  small = w.small;
  back = w.back;
  met = w.met;
  apart = w.apart;
  chain = w.chain;
  head = λ _. ap (λ x. f u x) w.here ∙ fd.1;
}

-- a piece of the path, from its head to a node that feeds the head, is a circle
circled : (f : ℕ → ℕ → Bool) (n : ℕ) (m p c : List ℕ) (t a u r : ℕ) → Walked f n m p t a → f u a ≡ true
    → 0 < r → t + r ≤ 64 → get_or p (t + (r - 1)) 0 ≡ u → ((i : ℕ) → i < r → get_or c i 0 ≡ get_or p (t + i) 0) → IsCircle f n c r
circled f n m p c t a u r w fa r0 rt pu cp = record {
  some = r0;
  nodes = λ i h. let e = cp i h in omega (arith, e, (w.back (t + i) (omega arith) (omega arith)).0);
  different = λ i j h hj q. w.apart (t + i) (t + j) (omega arith) (omega arith) (omega arith) (sym (cp i (omega arith)) ∙ (q ∙ cp j hj));
  next = λ i h.
      let k : t + (i + 1) ≡ (t + i) + 1 = omega arith in
      let e2 : get_or c (i + 1) 0 ≡ get_or p ((t + i) + 1) 0 = cp (i + 1) h ∙ ap (λ x. get_or p x 0) k in
      ap (λ x. f x (get_or c (i + 1) 0)) (cp i (omega arith)) ∙ (ap (λ x. f (get_or p (t + i) 0) x) e2 ∙ w.chain (t + i) (omega arith) (omega arith));
  last =
      let e1 : get_or c (r - 1) 0 ≡ u = cp (r - 1) (omega arith) ∙ pu in
      let k : t + 0 ≡ t = omega arith in
      let e2 : get_or c 0 0 ≡ a = cp 0 r0 ∙ (ap (λ x. get_or p x 0) k ∙ w.here) in
      ap (λ x. f x (get_or c 0 0)) e1 ∙ (ap (λ x. f u x) e2 ∙ fa);
}

zeros_most : (m : List ℕ) → zeros m ≤ length m
zeros_most m = count_by-le-length (λ x. eqb x 0) m

-- where the walk begins
pub begin : (f : ℕ → ℕ → Bool) (n : ℕ) (m p : List ℕ) (a : ℕ) → n ≤ 64 → length m ≡ 64 → length p ≡ 64 → a < n
    → get_or m a 0 ≡ 0 → Stuck f n m → ((v : ℕ) → get_or m v 0 ≤ 1) → Walking f n m p 64 a
begin f n m p a few ml pl an z st sm = record {
  few = few;
  mlong = ml;
  plong = pl;
  node = an;
  bare = z;
  room = omega (arith, zeros_most m);
  within = omega arith;
  stuck = st;
  small = λ v. omega (arith, sm v);
  back = λ j h lt. absurd (omega arith);
  met = λ v q. absurd (omega (arith, sm v));
  apart = λ i j h lt hj q. omega arith;
  chain = λ j h hj. absurd (omega arith);
  head = λ h. absurd (omega arith);
}

-- the path from its head on
abbrev path_from : List ℕ → ℕ → List ℕ
path_from p t = take (64 - t) (drop t p)

length_from : (p : List ℕ) (t : ℕ) → length p ≡ 64 → length (path_from p t) ≡ 64 - t
length_from p t long = length-take-le (64 - t) (drop t p) (omega (arith, length-drop t p))

at_from : (p : List ℕ) (t i : ℕ) → t + i < 64 → get_or (path_from p t) i 0 ≡ get_or p (t + i) 0
at_from p t i lt = get_or-take (64 - t) (drop t p) i 0 (omega arith) ∙ get_or-drop t p i 0

-- the path is short enough to be copied
pub short_from : (f : ℕ → ℕ → Bool) (n : ℕ) (m p : List ℕ) (t a : ℕ) → Walked f n m p t a → length (path_from p t) ≤ 64
short_from f n m p t a w = omega (arith, length_from p t w.plong)

-- a node with mark 2 stands on the path
pub on_path : (f : ℕ → ℕ → Bool) (n : ℕ) (m p : List ℕ) (t a u : ℕ) → Walked f n m p t a → get_or m u 0 ≡ 2 → Lacks (path_from p t) u → ⊥
on_path f n m p t a u w two lacks =
    let b = w.met u two in
    let tj : t ≤ b.0 = b.1 in
    let j64 : b.0 < 64 = b.2 in
    let e : t + (b.0 - t) ≡ b.0 = omega arith in
    lacks (b.0 - t) (omega (arith, length_from p t w.plong)) (at_from p t (b.0 - t) (omega arith) ∙ ap (λ k. get_or p k 0) e ∙ b.3)

-- what the walk shows at its end
pub shown : (f : ℕ → ℕ → Bool) (n : ℕ) (m p before after : List ℕ) (t a u r : ℕ) → Walked f n m p t a → f u a ≡ true
    → Taken (path_from p t) u before after r → Shown f n before after r
shown f n m p before after t a u r w fa taken =
    let some = taken.some in
    let within : t + r ≤ 64 = omega (arith, length_from p t w.plong, taken.within, w.within) in
    let ends : get_or p (t + (r - 1)) 0 ≡ u = sym (at_from p t (r - 1) (omega arith)) ∙ taken.ends in
    let front : (i : ℕ) → i < r → get_or after i 0 ≡ get_or p (t + i) 0 = λ i lt. taken.front i lt ∙ at_from p t i (omega arith) in
    let c = circled f n m p after t a u r w fa some within ends front in
    record { circle = c; no_order = λ order o. no_circle f n order after r o c; rest = taken.rest }
