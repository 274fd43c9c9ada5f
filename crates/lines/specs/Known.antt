-- Units by name, where names are listed by unit number.
use Rattle.std.specs.Prelude.{ℕ, suc, Bool, cond, List, [], ◌∷◌, Some, None, Option}
use Rattle.std.specs.Option.{option_map}
use Rattle.std.specs.Str.{bytes_eq}

-- whether two texts are the same
abbrev pub same_text : List ℕ → List ℕ → Bool
same_text s t = bytes_eq s t

-- the lowest unit with a name
abbrev pub unit_named : List (List ℕ) → List ℕ → Option ℕ
unit_named [] name = None
unit_named (n ∷ ns) name = cond (same_text n name) (Some 0) (option_map suc (unit_named ns name))
