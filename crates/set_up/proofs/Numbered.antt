-- The outputs, and the inputs, by their numbers: each once, by unit, then port.
use Rattle.std.proofs.Common.{◌≡◌, ℕ, zero, suc, ◌+◌, ◌-◌, ◌<◌, ◌≤◌, Some, None, List, [], ◌∷◌, length, take, get_or, sym, ap, subst, ◌∙◌, ⊎_elim, arith}
use Rattle.std.specs.List.{slice_get}
use Rattle.std.proofs.lemmas.Bool.{cases_lt}
use Rattle.std.proofs.lemmas.List.{take_all, length-append, get_or_append_left, get_or-append_right}
use Rattle.std.proofs.lemmas.Option.{slice_get-get_or, slice_get_past}
use Rattle.rig.specs.Units.{RigUnit}
use Rattle.wiring.specs.declared.port.Port.{Port}
use Rattle.set_up.specs.Outputs.{ports_at, ports_from, ports_by, inputs_of, outputs_of, input_count, output_count, HasInput, HasOutput, no_port, Before, Numbers}
use Rattle.set_up.proofs.Totals.{length_from, count_in, inputs_in, outputs_in}

from_at : (u p n i : ℕ) → i < n → get_or (ports_from u p n) i no_port ≡ record { unit = u; port = p + i }
from_at u p zero i lt = absurd (omega arith)
from_at u p (suc n) zero lt = let e : p ≡ p + 0 = omega arith in ap (λ z. record { unit = u; port = z }) e
from_at u p (suc n) (suc i) lt =
    let e : p + 1 + i ≡ p + suc i = omega arith in
    from_at u (p + 1) n i (omega arith) ∙ ap (λ z. record { unit = u; port = z }) e

module _ {S : Type 0} (count : RigUnit S → ℕ) where
  -- a port of the units, which are numbered from k
  record Within (k : ℕ) (us : List (RigUnit S)) (p : Port) : Type 0 where
    place : ℕ
    unit : p.unit ≡ k + place
    port : p.port < count_in count (slice_get us place)

  module _ (k : ℕ) (x : RigUnit S) (us : List (RigUnit S)) where
    long : length (ports_by count k (x ∷ us)) ≡ count x + length (ports_by count (k + 1) us)
    long = length-append (ports_from k 0 (count x)) (ports_by count (k + 1) us) ∙ ap (λ z. z + length (ports_by count (k + 1) us)) (length_from k 0 (count x))

    first_at : (n : ℕ) → n < count x → get_or (ports_by count k (x ∷ us)) n no_port ≡ record { unit = k; port = 0 + n }
    first_at n lt =
        let l = length_from k 0 (count x) in
        get_or_append_left (ports_from k 0 (count x)) (ports_by count (k + 1) us) no_port n (omega arith) ∙ from_at k 0 (count x) n lt

    rest_at : (n : ℕ) → count x ≤ n → get_or (ports_by count k (x ∷ us)) n no_port ≡ get_or (ports_by count (k + 1) us) (n - count x) no_port
    rest_at n le = get_or-append_right (ports_from k 0 (count x)) (ports_by count (k + 1) us) (count x) n no_port (length_from k 0 (count x)) le

    here : (n : ℕ) → n < count x → Within k (x ∷ us) (get_or (ports_by count k (x ∷ us)) n no_port)
    here n lt =
        let e = first_at n lt in
        subst (Within k (x ∷ us)) (sym e) (record { place = 0; unit = omega arith; port = omega arith })

    there : (p : Port) → Within (k + 1) us p → Within k (x ∷ us) p
    there p i = let e = i.unit in record { place = suc i.place; unit = omega arith; port = i.port }

  each : (k : ℕ) (us : List (RigUnit S)) (n : ℕ) → n < length (ports_by count k us) → Within k us (get_or (ports_by count k us) n no_port)
  each k [] n lt = absurd (omega arith)
  each k (x ∷ us) n lt =
      let l = long k x us in
      ⊎_elim (λ (less : n < count x). here k x us n less)
      (λ (le : count x ≤ n). subst (Within k (x ∷ us)) (sym (rest_at k x us n le)) (there k x us _ (each (k + 1) us (n - count x) (omega arith))))
      (cases_lt n (count x))

  all : (k : ℕ) (us : List (RigUnit S)) (p : Port) (j : ℕ) → p.unit ≡ k + j → p.port < count_in count (slice_get us j)
      → (n : ℕ) × (n < length (ports_by count k us)) × (get_or (ports_by count k us) n no_port ≡ p)
  all k [] p zero e lt = absurd (omega arith)
  all k [] p (suc j) e lt = absurd (omega arith)
  all k (x ∷ us) p zero e lt =
      let l = long k x us in
      let u : k ≡ p.unit = omega arith in
      let z : 0 + p.port ≡ p.port = omega arith in
      (p.port, omega arith, first_at k x us p.port lt ∙ ap (λ i. record { unit = k; port = i }) z ∙ ap (λ i. record { unit = i; port = p.port }) u)
  all k (x ∷ us) p (suc j) e lt =
      let l = long k x us in
      let r = all (k + 1) us p j (omega arith) lt in
      let less = r.1 in
      let z : count x + r.0 - count x ≡ r.0 = omega arith in
      (count x + r.0, omega arith, rest_at k x us (count x + r.0) (omega arith) ∙ ap (λ n. get_or (ports_by count (k + 1) us) n no_port) z ∙ r.2)

  before_by : (p q a b : Port) → p ≡ a → q ≡ b → Before a b → Before p q
  before_by p q a b e f l = subst (λ z. Before z q) (sym e) (subst (Before a) (sym f) l)

  ordered : (k : ℕ) (us : List (RigUnit S)) (m n : ℕ) → m < n → n < length (ports_by count k us)
      → Before (get_or (ports_by count k us) m no_port) (get_or (ports_by count k us) n no_port)
  ordered k [] m n lt ln = absurd (omega arith)
  ordered k (x ∷ us) m n lt ln =
      let l = long k x us in
      ⊎_elim
      (λ (less : n < count x). before_by _ _ _ _ (first_at k x us m (omega arith)) (first_at k x us n less) (record { unit = omega arith; port = λ e. omega arith }))
      (λ (le : count x ≤ n).
      ⊎_elim
      (λ (less : m < count x).
      let i = each (k + 1) us (n - count x) (omega arith) in
      let u = i.unit in
      before_by _ _ _ _ (first_at k x us m less) (rest_at k x us n le) (record { unit = omega arith; port = λ e. absurd (omega arith) }))
      (λ (past : count x ≤ m). before_by _ _ _ _ (rest_at k x us m past) (rest_at k x us n le) (ordered (k + 1) us (m - count x) (n - count x) (omega arith) (omega arith)))
      (cases_lt m (count x)))
      (cases_lt n (count x))

  numbered : (P : Port → Type 0) (us : List (RigUnit S)) → ((p : Port) → p.port < count_in count (slice_get us p.unit) → P p)
      → ((p : Port) → P p → p.port < count_in count (slice_get us p.unit)) → Numbers P (ports_by count 0 us)
  numbered P us into out = record {
    each = λ n lt.
        let p = get_or (ports_by count 0 us) n no_port in
        let i = each 0 us n lt in
        let e : i.place ≡ p.unit = let u = i.unit in omega arith in
        into p (subst (λ z. p.port < count_in count (slice_get us z)) e i.port);
    all = λ p h. all 0 us p p.unit (omega arith) (out p h);
    in_order = λ m n lt ln. ordered 0 us m n lt ln;
  }

-- the output with port i of unit u stands after those of the units below u
module _ {S : Type 0} (count : RigUnit S → ℕ) where
  placed : (k : ℕ) (us : List (RigUnit S)) (u i : ℕ) → i < count_in count (slice_get us u)
      → (length (ports_by count k (take u us)) + i < length (ports_by count k us))
      × (get_or (ports_by count k us) (length (ports_by count k (take u us)) + i) no_port ≡ record { unit = k + u; port = i })
  placed k [] zero i lt = absurd (omega arith)
  placed k [] (suc u) i lt = absurd (omega arith)
  placed k (x ∷ us) zero i lt =
      let l = long count k x us in
      let e : k ≡ k + 0 = omega arith in
      let z : 0 + i ≡ i = omega arith in
      (omega arith, ap (λ n. get_or (ports_by count k (x ∷ us)) n no_port) z ∙ first_at count k x us i lt ∙ ap (λ p. record { unit = k; port = p }) z ∙ ap (λ v. record { unit = v; port = i }) e)
  placed k (x ∷ us) (suc u) i lt =
      let l = long count k x us in
      let m = long count k x (take u us) in
      let r = placed (k + 1) us u i lt in
      let less = r.0 in
      let n = length (ports_by count k (x ∷ take u us)) + i in
      let z : n - count x ≡ length (ports_by count (k + 1) (take u us)) + i = omega arith in
      let e : k + 1 + u ≡ k + suc u = omega arith in
      (omega arith, rest_at count k x us n (omega arith) ∙ ap (λ j. get_or (ports_by count (k + 1) us) j no_port) z ∙ r.1 ∙ ap (λ v. record { unit = v; port = i }) e)

pub output_found : {S : Type 0} (us : List (RigUnit S)) (u i n : ℕ) → i + length (outputs_of (take u us)) ≡ n → i < (ports_at us u).outputs
    → slice_get (outputs_of us) n ≡ Some (record { unit = u; port = i })
output_found us u i n e lt =
    let p = placed output_count 0 us u i (subst (λ z. i < z) (outputs_in (slice_get us u)) lt) in
    let q : length (outputs_of (take u us)) + i ≡ n = omega arith in
    let z : 0 + u ≡ u = omega arith in
    let less : n < length (outputs_of us) = subst (λ j. j < length (outputs_of us)) q p.0 in
    slice_get-get_or (outputs_of us) n no_port less ∙ ap (λ x. Some x) (ap (λ j. get_or (outputs_of us) j no_port) (sym q) ∙ p.1 ∙ ap (λ v. record { unit = v; port = i }) z)

pub output_past : {S : Type 0} (us : List (RigUnit S)) (u i n : ℕ) → i + length (outputs_of (take u us)) ≡ n → length us ≤ u → slice_get (outputs_of us) n ≡ None
output_past us u i n e le =
    let a = ap (λ vs. length (outputs_of vs)) (take_all u us le) in
    slice_get_past (outputs_of us) n (omega arith)

-- the numbers of the outputs, and of the inputs
pub outputs_numbered : {S : Type 0} (us : List (RigUnit S)) → Numbers (HasOutput us) (outputs_of us)
outputs_numbered us =
    numbered output_count (HasOutput us) us (λ p lt. subst (λ z. p.port < z) (sym (outputs_in (slice_get us p.unit))) lt) (λ p h. subst (λ z. p.port < z) (outputs_in (slice_get us p.unit)) h)

pub inputs_numbered : {S : Type 0} (us : List (RigUnit S)) → Numbers (HasInput us) (inputs_of us)
inputs_numbered us =
    numbered input_count (HasInput us) us (λ p lt. subst (λ z. p.port < z) (sym (inputs_in (slice_get us p.unit))) lt) (λ p h. subst (λ z. p.port < z) (inputs_in (slice_get us p.unit)) h)
