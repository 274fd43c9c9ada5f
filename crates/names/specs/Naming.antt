-- Which texts are names: 1 to 8 of a to z (97 to 122) and 0 to 9 (48 to 57).
use Rattle.std.specs.Prelude.{ℕ, Bool, ◌&&◌, ◌||◌, List, length, nat_le}
use Rattle.std.specs.List.{list_all}

abbrev pub is_name_byte : ℕ → Bool
is_name_byte b = (nat_le 97 b && nat_le b 122) || (nat_le 48 b && nat_le b 57)

abbrev pub all_name_bytes : List ℕ → Bool
all_name_bytes bs = list_all is_name_byte bs

abbrev pub is_name : List ℕ → Bool
is_name text = (nat_le 1 (length text) && nat_le (length text) 8) && all_name_bytes text
