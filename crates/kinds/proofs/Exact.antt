-- Sums of products fit 64 bits.
use Rattle.std.proofs.Common.{◌≡◌, ◌≤◌, ℤ, ◌+ℤ◌, arith, w32, w64, SFits}
use Rattle.std.specs.Prelude.{unsigned_abs}
use Rattle.std.proofs.lemmas.Int.{ints}

-- two signals times factors, and a signal
pub sum_fits : (p q c z : ℤ) → unsigned_abs p ≤ 2147483648000 → unsigned_abs q ≤ 2147483648000 → SFits w32 c → z ≡ p +ℤ q +ℤ c → SFits w64 z
sum_fits p q c z a b f e = grind (arith, ints)
