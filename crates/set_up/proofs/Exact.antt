-- The causes exclude each other, and any of them excludes that the set-up passes.
use Rattle.std.proofs.Common.{◌≡◌, ℕ, ◌<◌, ◌≤◌, true, List, is_some, Some, None, Ok, Err, Option, Result, refl, ap, ⊎_elim, arith}
use Rattle.std.proofs.lemmas.Bool.{cases_lt}
use Rattle.rig.specs.Units.{RigUnit}
use Rattle.wiring.specs.declared.port.Port.{Port}
use Rattle.wiring.specs.declared.table.Wiring.{Wiring}
use Rattle.graph.specs.declared.found.NodeOrder.{NodeOrder}
use Rattle.set_up.specs.declared.fault.CheckFault.{CheckFault}
use Rattle.set_up.specs.declared.fault.CheckFault.TheVariants.{ListLength, Size, InUse, Lacking, Unwired, Circle}
use Rattle.set_up.specs.Outputs.{Before}
use Rattle.set_up.specs.Passing.{Passes}
use Rattle.set_up.specs.Causes.{LowestUnit, LowestPort, BothLong, Joined, IsFirst, Checked, Exactly}

-- there is one lowest unit, and one lowest port
same_unit : (P : ℕ → Type 0) (u v : ℕ) → LowestUnit P u → LowestUnit P v → u ≡ v
same_unit P u v a b =
    ⊎_elim (λ (l : u < v). absurd (b.lowest u l a.holds))
    (λ (le : v ≤ u). ⊎_elim (λ (l : v < u). absurd (a.lowest v l b.holds)) (λ (ge : u ≤ v). omega arith) (cases_lt v u)) (cases_lt u v)

same_port : (P : Port → Type 0) (p q : Port) → LowestPort P p → LowestPort P q → p ≡ q
same_port P p q a b =
    let not_before : Before p q → ⊥ = λ l. b.lowest p l a.holds in
    let not_after : Before q p → ⊥ = λ l. a.lowest q l b.holds in
    let u : p.unit ≡ q.unit =
    ⊎_elim (λ (l : p.unit < q.unit). absurd (not_before (record { unit = omega arith; port = λ e. omega arith })))
    (λ (le : q.unit ≤ p.unit). ⊎_elim (λ (l : q.unit < p.unit). absurd (not_after (record { unit = omega arith; port = λ e. omega arith }))) (λ (ge : p.unit ≤ q.unit). omega arith) (cases_lt q.unit p.unit))
    (cases_lt p.unit q.unit) in
    let o : p.port ≡ q.port =
    ⊎_elim (λ (l : p.port < q.port). absurd (not_before (record { unit = omega arith; port = λ e. l })))
    (λ (le : q.port ≤ p.port). ⊎_elim (λ (l : q.port < p.port). absurd (not_after (record { unit = omega arith; port = λ e. l }))) (λ (ge : p.port ≤ q.port). omega arith) (cases_lt q.port p.port))
    (cases_lt p.port q.port) in
    λ i. record { unit = u i; port = o i }

module _ {S : Type 0} (us : List (RigUnit S)) (w : Wiring) (circle marks : List ℕ) where
  not_bare : (o : Option Port) → is_some o ≡ true → o ≡ None → ⊥
  not_bare None s e = cc
  not_bare (Some p) s e = cc

  not_first : (fault : CheckFault) → BothLong circle marks → Passes us w → IsFirst us w circle marks fault → ⊥
  not_first ListLength long p f = f long
  not_first Size long p f = f.1 p.fits
  not_first (InUse u) long p f = let h = f.1.holds in h.used (p.fresh u h.unit h.there)
  not_first (Lacking to) long p f = let h = f.1.holds in h.lacks (p.touches h.from to h.wire)
  not_first (Unwired to) long p f = let h = f.1.holds in not_bare _ (p.wired to h.input) h.bare
  not_first (Circle first count) long p f = f

  not_joined : (fault : CheckFault) → Joined us w circle marks → IsFirst us w circle marks fault → ⊥
  not_joined ListLength j f = f j.touching.unused.sized.both_long
  not_joined Size j f = f.1 j.touching.unused.sized.fits
  not_joined (InUse u) j f = j.touching.unused.none_used u f.1.holds
  not_joined (Lacking to) j f = j.touching.none_lacking to f.1.holds
  not_joined (Unwired to) j f = j.none_unwired to f.1.holds
  not_joined (Circle first count) j f = f

  same_cause : (f g : CheckFault) → IsFirst us w circle marks f → IsFirst us w circle marks g → f ≡ g
  same_cause ListLength ListLength a b = refl
  same_cause ListLength Size a b = absurd (a b.0)
  same_cause ListLength (InUse v) a b = absurd (a b.0.both_long)
  same_cause ListLength (Lacking q) a b = absurd (a b.0.sized.both_long)
  same_cause ListLength (Unwired q) a b = absurd (a b.0.unused.sized.both_long)
  same_cause ListLength (Circle q n) a b = absurd b
  same_cause Size ListLength a b = absurd (b a.0)
  same_cause Size Size a b = refl
  same_cause Size (InUse v) a b = absurd (a.1 b.0.fits)
  same_cause Size (Lacking q) a b = absurd (a.1 b.0.sized.fits)
  same_cause Size (Unwired q) a b = absurd (a.1 b.0.unused.sized.fits)
  same_cause Size (Circle q n) a b = absurd b
  same_cause (InUse u) ListLength a b = absurd (b a.0.both_long)
  same_cause (InUse u) Size a b = absurd (b.1 a.0.fits)
  same_cause (InUse u) (InUse v) a b = ap (λ z. InUse z) (same_unit _ u v a.1 b.1)
  same_cause (InUse u) (Lacking q) a b = absurd (b.0.none_used u a.1.holds)
  same_cause (InUse u) (Unwired q) a b = absurd (b.0.unused.none_used u a.1.holds)
  same_cause (InUse u) (Circle q n) a b = absurd b
  same_cause (Lacking p) ListLength a b = absurd (b a.0.sized.both_long)
  same_cause (Lacking p) Size a b = absurd (b.1 a.0.sized.fits)
  same_cause (Lacking p) (InUse v) a b = absurd (a.0.none_used v b.1.holds)
  same_cause (Lacking p) (Lacking q) a b = ap (λ z. Lacking z) (same_port _ p q a.1 b.1)
  same_cause (Lacking p) (Unwired q) a b = absurd (b.0.none_lacking p a.1.holds)
  same_cause (Lacking p) (Circle q n) a b = absurd b
  same_cause (Unwired p) ListLength a b = absurd (b a.0.unused.sized.both_long)
  same_cause (Unwired p) Size a b = absurd (b.1 a.0.unused.sized.fits)
  same_cause (Unwired p) (InUse v) a b = absurd (a.0.unused.none_used v b.1.holds)
  same_cause (Unwired p) (Lacking q) a b = absurd (a.0.none_lacking q b.1.holds)
  same_cause (Unwired p) (Unwired q) a b = ap (λ z. Unwired z) (same_port _ p q a.1 b.1)
  same_cause (Unwired p) (Circle q n) a b = absurd b
  same_cause (Circle p n) g a b = absurd a

  module _ (circle' marks' : List ℕ) where
    -- a refusal before the search
    refused : (fault : CheckFault) → IsFirst us w circle marks fault → Exactly us w circle marks (Err fault)
    refused fault f = record {
      passes = ((λ e. cc), λ p. absurd (not_first fault p.0 p.1 f));
      refuses = λ other o. ap (λ z. Err z) (same_cause fault other f o);
      circles = λ j h. absurd (not_joined fault j f);
    }

    pub exactly : (answer : Result NodeOrder CheckFault) → Checked us w circle circle' marks marks' answer → Exactly us w circle marks answer
    exactly (Ok order) k = record {
      passes = ((λ e. (k.both_long, k.passes)), λ p. refl);
      refuses = λ fault f. absurd (not_first fault k.both_long k.passes f);
      circles = λ j h. absurd (k.passes.no_circle h.0 h.1 h.2);
    }
    exactly (Err ListLength) k = refused ListLength k.cause
    exactly (Err Size) k = refused Size k.cause
    exactly (Err (InUse u)) k = refused (InUse u) k.cause
    exactly (Err (Lacking to)) k = refused (Lacking to) k.cause
    exactly (Err (Unwired to)) k = refused (Unwired to) k.cause
    exactly (Err (Circle first count)) k = record {
      passes = ((λ e. cc), λ p. absurd (p.1.no_circle circle' count k.shown.circle));
      refuses = λ fault f. absurd (not_joined fault k.joined f);
      circles = λ j h. (first, count, refl);
    }
