-- The test of feeding, by numbers, tells which output feeds which.
use Rattle.std.proofs.Common.{◌≡◌, ℕ, ◌<◌, true, false, cond, ◌&&◌, nat_lt, length, List, Decides, sym, subst}
use Rattle.std.proofs.lemmas.Bool.{and_from, lt-ltb}
use Rattle.std.proofs.lemmas.Bool.Decides.{Decides-like}
use Rattle.rig.specs.Units.{RigUnit}
use Rattle.wiring.specs.declared.port.Port.{Port}
use Rattle.wiring.specs.declared.table.Wiring.{Wiring}
use Rattle.set_up.specs.Outputs.{Feeds, outputs_of, output_at, mask_at, reads, feeds}
use Rattle.set_up.proofs.Reading.{below_decides}
use Rattle.set_up.proofs.Within.{wired_within}

module _ {S : Type 0} (us : List (RigUnit S)) (w : Wiring) where
  reads_decides : (a b : Port) → Decides (reads w a b.unit (mask_at us b)) (Feeds us w a b)
  reads_decides a b =
      Decides-like (reads w a b.unit (mask_at us b)) (λ r. (r.0, r.2)) (λ f. (f.0, (wired_within w b.unit f.0 a f.1.supplied).1, f.1))
      (below_decides w a b.unit (mask_at us b) 8)

  both : (a b : ℕ) → a < length (outputs_of us) → b < length (outputs_of us) → (nat_lt a (length (outputs_of us)) && nat_lt b (length (outputs_of us))) ≡ true
  both a b la lb = and_from (nat_lt a (length (outputs_of us))) (nat_lt b (length (outputs_of us))) (lt-ltb a (length (outputs_of us)) la) (lt-ltb b (length (outputs_of us)) lb)

  -- an output feeds another, by their numbers, exactly when it supplies an input in the other's mask
  pub feeds_decides : (a b : ℕ) → a < length (outputs_of us) → b < length (outputs_of us) → Decides (feeds us w a b) (Feeds us w (output_at us a) (output_at us b))
  feeds_decides a b la lb =
      subst (λ p. Decides (cond p (reads w (output_at us a) (output_at us b).unit (mask_at us (output_at us b))) false) (Feeds us w (output_at us a) (output_at us b)))
      (sym (both a b la lb)) (reads_decides (output_at us a) (output_at us b))
