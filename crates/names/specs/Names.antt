use Rattle.std.specs.Prelude.{ℕ, List}
use Rattle.names.specs.declared.name.Name.{Name}

-- the text of a name
abbrev pub text_of : Name → List ℕ
text_of n = n.text.bytes
