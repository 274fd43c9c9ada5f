-- When an output reads what another supplies.
use Rattle.std.proofs.Common.{⊎_elim, ◌≡◌, ℕ, ◌<◌, true, false, Some, None, Option, Decides, refl, ap}
use Rattle.std.proofs.lemmas.Bool.{cases_Bool}
use Rattle.std.proofs.lemmas.Bool.Decides.{Decides-eqb, Decides-and, Decides-like, Decides-below_or}
use Rattle.rig.specs.Laws.{bit}
use Rattle.wiring.specs.declared.port.Port.{Port}
use Rattle.wiring.specs.declared.table.Wiring.{Wiring}
use Rattle.wiring.specs.Wires.{source_of}
use Rattle.set_up.specs.Outputs.{ReadsAt, is_source, reads_at, reads_below}

same_port : (p a : Port) → p.unit ≡ a.unit → p.port ≡ a.port → p ≡ a
same_port p a e f = λ i. record { unit = e i; port = f i }

pub source_decides : (a : Port) (o : Option Port) → Decides (is_source a o) (o ≡ Some a)
source_decides a None = ((λ e. cc), λ e. cc)
source_decides a (Some p) =
    Decides-like (is_source a (Some p)) (λ q. ap (λ z. Some z) (same_port p a q.0 q.1)) (λ e. let q : p ≡ a = cc in (ap (λ z. z.unit) q, ap (λ z. z.port) q))
    (Decides-and _ _ (Decides-eqb p.unit a.unit) (Decides-eqb p.port a.port))

module _ (w : Wiring) (a : Port) (u mask : ℕ) where
  at_decides : (i : ℕ) → Decides (reads_at w a u mask i) (ReadsAt w a u mask i)
  at_decides i =
      Decides-like (reads_at w a u mask i) (λ q. record { masked = q.0; supplied = q.1 }) (λ r. (r.masked, r.supplied))
      (Decides-and _ _ (Decides-eqb (bit mask i) 1) (source_decides a (source_of w u i)))

  pub below_decides : (n : ℕ) → Decides (reads_below w a u mask n) ((i : ℕ) × (i < n) × ReadsAt w a u mask i)
  unfolding reads_below
  below_decides n = Decides-below_or (reads_at w a u mask) (ReadsAt w a u mask) (reads_below w a u mask) at_decides refl (λ _. refl) n

  pub some_reads : (i n : ℕ) → i < n → ReadsAt w a u mask i → reads_below w a u mask n ≡ true
  some_reads i n lt r = (below_decides n).1 (i, lt, r)

  pub none_reads : (n : ℕ) → ((i : ℕ) → i < n → ReadsAt w a u mask i → ⊥) → reads_below w a u mask n ≡ false
  none_reads n none =
      ⊎_elim (λ (t : reads_below w a u mask n ≡ true). let r = (below_decides n).0 t in absurd (none r.0 r.1 r.2)) (λ (f : reads_below w a u mask n ≡ false). f)
      (cases_Bool (reads_below w a u mask n))
