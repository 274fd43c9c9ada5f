-- A name is text.
use Rattle.std.proofs.Common.{◌≡◌, ℕ, zero, suc, ◌<◌, true, List, [], ◌∷◌, get_or, IsUtf8, arith}
use Rattle.std.proofs.lemmas.Bool.{and_parts}
use Rattle.std.proofs.lemmas.Bool.Decides.{nat_tests}
use Rattle.std.proofs.lemmas.Str.{IsUtf8-from_ascii}
use Rattle.names.specs.Naming.{is_name, is_name_byte, all_name_bytes}

small_byte : (b : ℕ) → is_name_byte b ≡ true → b < 128
small_byte b e = grind (arith, nat_tests)

small_bytes : (text : List ℕ) → all_name_bytes text ≡ true → (i : ℕ) → get_or text i 0 < 128
small_bytes [] e i = omega arith
small_bytes (b ∷ bs) e zero = small_byte b (and_parts (is_name_byte b) (all_name_bytes bs) e).0
small_bytes (b ∷ bs) e (suc i) = small_bytes bs (and_parts (is_name_byte b) (all_name_bytes bs) e).1 i

pub name_utf8 : (text : List ℕ) → is_name text ≡ true → IsUtf8 text
name_utf8 text e = IsUtf8-from_ascii text (small_bytes text (and_parts _ (all_name_bytes text) e).1)
