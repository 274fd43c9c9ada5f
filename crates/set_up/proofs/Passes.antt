-- What the causes and the search tell of the set-up.
use Rattle.std.proofs.Common.{◌≡◌, ℕ, ◌<◌, ◌≤◌, Bool, true, false, cond, ◌&&◌, nat_lt, List, length, Some, None, Option, refl, ap, ◌∙◌, ⊎_elim, arith}
use Rattle.std.specs.Option.{IsSome}
use Rattle.std.proofs.lemmas.Bool.{cases_lt, and_parts, ltb-true}
use Rattle.rig.specs.Units.{RigUnit}
use Rattle.wiring.specs.declared.port.Port.{Port}
use Rattle.wiring.specs.declared.table.Wiring.{Wiring}
use Rattle.wiring.specs.Wires.{source_of}
use Rattle.graph.specs.Order.{IsCircle}
use Rattle.set_up.specs.declared.table.Outputs.{Outputs}
use Rattle.set_up.specs.Outputs.{outputs_of, output_at, mask_at, reads, feeds, ports_at, HasInput, HasOutput}
use Rattle.set_up.specs.Passing.{Touches, Passes}
use Rattle.set_up.specs.Causes.{Joined}
use Rattle.set_up.specs.Listing.{entry, feeds_in, Lists}
use Rattle.set_up.proofs.Using.{fresh_unless}

both_less : (a b n : ℕ) → (nat_lt a n && nat_lt b n) ≡ true → (a < n) × (b < n)
both_less a b n e = let p = and_parts (nat_lt a n) (nat_lt b n) e in (ltb-true a n p.0, ltb-true b n p.1)

module _ {S : Type 0} (us : List (RigUnit S)) (w : Wiring) where
  module _ (t : Outputs) (l : Lists us (outputs_of us) t) where
    inside : (a b : ℕ) → a < length (outputs_of us) → b < length (outputs_of us)
        → reads w (entry t a).port (entry t b).port.unit (entry t b).mask ≡ reads w (output_at us a) (output_at us b).unit (mask_at us (output_at us b))
    inside a b la lb =
        ap (λ p. reads w p (entry t b).port.unit (entry t b).mask) (l.each_port a la)
        ∙ ap (λ p. reads w (output_at us a) p.unit (entry t b).mask) (l.each_port b lb)
        ∙ ap (reads w (output_at us a) (output_at us b).unit) (l.each_mask b lb)

    within : (p : Bool) (a b : ℕ) → (nat_lt a (length (outputs_of us)) && nat_lt b (length (outputs_of us))) ≡ p
        → cond p (reads w (entry t a).port (entry t b).port.unit (entry t b).mask) false
        ≡ cond p (reads w (output_at us a) (output_at us b).unit (mask_at us (output_at us b))) false
    within false a b e = refl
    within true a b e = let p = both_less a b (length (outputs_of us)) e in inside a b p.0 p.1

    alike : (a b : ℕ) → feeds_in w t a b ≡ feeds us w a b
    alike a b =
        ap (λ n. cond (nat_lt a n && nat_lt b n) (reads w (entry t a).port (entry t b).port.unit (entry t b).mask) false) l.count
        ∙ within (nat_lt a (length (outputs_of us)) && nat_lt b (length (outputs_of us))) a b refl

    -- the table feeds as the units and their wiring do
    pub same_feeds : feeds_in w t ≡ feeds us w
    same_feeds = λ i a b. alike a b i

  touches_unless : (from to : Port) → ((Touches us from to → ⊥) → ⊥) → Touches us from to
  touches_unless from to n =
      record {
        input = ⊎_elim (λ (lt : HasInput us to). lt) (λ (le : (ports_at us to.unit).inputs ≤ to.port). absurd (n (λ t. let i = t.input in omega arith))) (cases_lt to.port (ports_at us to.unit).inputs);
        output = ⊎_elim (λ (lt : HasOutput us from). lt) (λ (le : (ports_at us from.unit).outputs ≤ from.port). absurd (n (λ t. let o = t.output in omega arith))) (cases_lt from.port (ports_at us from.unit).outputs);
      }

  wired_unless : (o : Option Port) → (o ≡ None → ⊥) → IsSome o
  wired_unless None n = absurd (n refl)
  wired_unless (Some p) n = refl

  -- a set-up with no cause passes
  pub passes : (circle marks : List ℕ) → Joined us w circle marks → ((list : List ℕ) (count : ℕ) → IsCircle (feeds us w) (length (outputs_of us)) list count → ⊥) → Passes us w
  passes circle marks j none =
      record {
        fits = j.touching.unused.sized.fits;
        fresh = λ u x e. fresh_unless x (λ f. j.touching.unused.none_used u (record { unit = x; there = e; used = f }));
        touches = λ from to s. touches_unless from to (λ f. j.touching.none_lacking to (record { from = from; wire = s; lacks = f }));
        wired = λ to h. wired_unless (source_of w to.unit to.port) (λ e. j.none_unwired to (record { input = h; bare = e }));
        no_circle = none;
      }
