-- Text parted by a separator. A separator has a part on each side, so a text has one part more than it has separators.
use Rattle.std.specs.Prelude.{◌≡◌, ℕ, ◌<◌, ◌≤◌, List, length, Some, None, Option, ◌==◌, ◌≢◌, slice_index}
use Rattle.std.specs.List.{AllByRecursion, join_with_byte, slice_split}

-- parts with the separator between them
abbrev pub joined_by : ℕ → List (List ℕ) → List ℕ
joined_by sep ps = join_with_byte sep ps

-- no byte of the text is the separator
abbrev pub Lacks : ℕ → List ℕ → Type 0
Lacks sep text = AllByRecursion (λ b. b ≢ sep) text

-- the parts of a text: joined they are the text, and none of them holds the separator
pub record Parted (sep : ℕ) (text : List ℕ) (ps : List (List ℕ)) : Type 0 where
  pub some : 1 ≤ length ps
  pub whole : joined_by sep ps ≡ text
  pub apart : AllByRecursion (Lacks sep) ps

-- the parts of a text, found byte by byte
abbrev pub parts : ℕ → List ℕ → List (List ℕ)
parts sep text = slice_split (λ b. b == sep) text

-- what is found are the parts, and no other list is
pub record PartsLaw (sep : ℕ) (text : List ℕ) : Type 0 where
  pub found : Parted sep text (parts sep text)
  pub only : (ps : List (List ℕ)) → Parted sep text ps → ps ≡ parts sep text

-- where the first separator stands, if there is one
abbrev pub FirstAt : ℕ → List ℕ → Option ℕ → Type 0
FirstAt sep text None = (k : ℕ) → k < length text → slice_index text k ≢ sep
FirstAt sep text (Some i) = (i < length text) × (slice_index text i ≡ sep) × ((k : ℕ) → k < i → slice_index text k ≢ sep)
