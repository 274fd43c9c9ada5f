-- Which texts are numbers: each number of the signal range has one text, its decimal digits after a minus sign where it is below 0.
-- So there is no plus sign, no leading zero and no −0.
use Rattle.std.specs.Prelude.{◌≡◌, ℕ, ◌+◌, ◌-◌, ◌*◌, Bool, cond, ◌&&◌, List, [], ◌∷◌, length, ℤ, pos, negsuc, ◌≤ℤ◌, Some, None, Option, ◌==◌, ◌≢◌, nat_le, slice_index}
use Rattle.std.specs.Option.{option_map}
use Rattle.std.specs.Fmt.{signed_decimal}
use Rattle.std.specs.Str.{all_ascii_digits}

-- the signal range, −2,147,483,648 to 2,147,483,647
pub record IsSignal (z : ℤ) : Type 0 where
  pub above : negsuc 2147483647 ≤ℤ z
  pub below : z ≤ℤ pos 2147483647

-- what a text says as a number: the one number with this text, or nothing where it is no number's
abbrev pub Says : List ℕ → Option ℤ → Type 0
Says text (Some z) = IsSignal z × (signed_decimal z ≡ text)
Says text None = (z : ℤ) → IsSignal z → signed_decimal z ≢ text

-- digits read on, after those that made n
abbrev pub read_on : ℕ → List ℕ → ℕ
read_on n [] = n
read_on n (d ∷ ds) = read_on (n * 10 + (d - 48)) ds

-- the same, where the number is at most this
abbrev pub read_in : ℕ → ℕ → List ℕ → Option ℕ
read_in most n ds = cond (all_ascii_digits ds && nat_le (read_on n ds) most) (Some (read_on n ds)) None

-- one digit, or more of which the first is not 0
abbrev pub is_numeral : List ℕ → Bool
is_numeral ds = cond (slice_index ds 0 == 48) (length ds == 1) (nat_le 1 (length ds)) && all_ascii_digits ds

-- the number that digits write, where it is within these two
abbrev pub whole_in : ℕ → ℕ → List ℕ → Option ℕ
whole_in least most ds = cond (is_numeral ds && (nat_le least (read_on 0 ds) && nat_le (read_on 0 ds) most)) (Some (read_on 0 ds)) None

-- the number that a text writes, found byte by byte; 45 is the minus sign
abbrev pub number_of : List ℕ → Option ℤ
number_of [] = None
number_of (b ∷ bs) = cond (b == 45) (option_map (λ n. negsuc (n - 1)) (whole_in 1 2147483648 bs)) (option_map pos (whole_in 0 2147483647 (b ∷ bs)))
