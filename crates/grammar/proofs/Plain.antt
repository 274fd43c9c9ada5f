-- Fields without commas and line feeds, and lists of fields by what is read at each place.
use Rattle.std.proofs.Common.{◌≡◌, ℕ, suc, ◌≤◌, true, ◌&&◌, leb, List, [], ◌∷◌, length, get_or, ℤ, pos, decimal, sym, refl, ap, ◌∙◌, subst, ⊎_elim, arith}
use Rattle.std.specs.Fmt.{signed_decimal}
use Rattle.std.specs.List.{AllByRecursion}
use Rattle.std.proofs.ByRecursion.{All-append, All-from_get_or, All-weaker}
use Rattle.std.proofs.lemmas.Int.{ints}
use Rattle.std.proofs.lemmas.Bool.{and_parts, or_cases, leb-true}
use Rattle.fields.specs.Parts.{joined_by, Lacks}
use Rattle.fields.proofs.Parting.{parts_joined}
use Rattle.names.specs.Naming.{is_name_byte, all_name_bytes, is_name}
use Rattle.numerals.specs.Numbers.{IsSignal}
use Rattle.numerals.proofs.Texts.{number_bytes}
use Rattle.lines.specs.Fields.{fields}

-- no byte of the text is the comma (44) or one below it
abbrev pub Plain : List ℕ → Type 0
Plain text = AllByRecursion (λ b. 45 ≤ b) text

name_byte_plain : (b : ℕ) → is_name_byte b ≡ true → 45 ≤ b
name_byte_plain b e =
    ⊎_elim (λ h. let l = leb-true 97 b (and_parts (leb 97 b) (leb b 122) h).0 in omega arith)
    (λ h. let l = leb-true 48 b (and_parts (leb 48 b) (leb b 57) h).0 in omega arith)
    (or_cases (leb 97 b && leb b 122) (leb 48 b && leb b 57) e)

name_bytes_plain : (text : List ℕ) → all_name_bytes text ≡ true → Plain text
name_bytes_plain [] e = tt
name_bytes_plain (b ∷ bs) e = let g = and_parts (is_name_byte b) (all_name_bytes bs) e in (name_byte_plain b g.0, name_bytes_plain bs g.1)

pub name_plain : (text : List ℕ) → is_name text ≡ true → Plain text
name_plain text e = name_bytes_plain text (and_parts (leb 1 (length text) && leb (length text) 8) (all_name_bytes text) e).1

pub number_plain : (z : ℤ) → IsSignal z → Plain (signed_decimal z)
number_plain z s = All-from_get_or (λ b. 45 ≤ b) (signed_decimal z) 0 (λ k h. ⊎_elim (λ e. omega arith) (λ e. omega arith) (number_bytes z s k h))

pub decimal_plain : (n : ℕ) → n ≤ 2147483647 → Plain (decimal n)
decimal_plain n h = number_plain (pos n) (record { above = omega (arith, ints); below = omega (arith, ints) })

-- plain fields are found again in what they make when joined, and this has no line feed
pub fields_joined : (ps : List (List ℕ)) → 1 ≤ length ps → AllByRecursion Plain ps → fields (joined_by 44 ps) ≡ ps
fields_joined ps some a = parts_joined 44 ps some (All-weaker Plain (Lacks 44) (All-weaker (λ b. 45 ≤ b) (λ b. b ≡ 44 → ⊥) (λ b h e. omega arith)) ps a)

pub joined_feedless : (ps : List (List ℕ)) → AllByRecursion Plain ps → Lacks 10 (joined_by 44 ps)
joined_feedless ps a = All-weaker (λ b. 44 ≤ b) (λ b. b ≡ 10 → ⊥) (λ b h e. omega arith) (joined_by 44 ps) (high ps a)
  where
    wide : (p : List ℕ) → Plain p → AllByRecursion (λ b. 44 ≤ b) p
    wide = All-weaker (λ b. 45 ≤ b) (λ b. 44 ≤ b) (λ b h. omega arith)

    high : (ps : List (List ℕ)) → AllByRecursion Plain ps → AllByRecursion (λ b. 44 ≤ b) (joined_by 44 ps)
    high [] a = tt
    high (p ∷ []) a = wide p a.0
    high (p ∷ q ∷ ps) a = All-append (λ b. 44 ≤ b) p (44 ∷ joined_by 44 (q ∷ ps)) (wide p a.0) (omega arith, high (q ∷ ps) a.1)

-- from place k on these are read
abbrev pub Reads : List (List ℕ) → ℕ → List (List ℕ) → Type 0
Reads ps k [] = Unit {0}
Reads ps k (q ∷ qs) = (q ≡ get_or ps k []) × Reads ps (suc k) qs

later_reads : (p : List ℕ) (ps : List (List ℕ)) (k : ℕ) (qs : List (List ℕ)) → Reads (p ∷ ps) (suc k) qs → Reads ps k qs
later_reads p ps k [] r = tt
later_reads p ps k (q ∷ qs) r = (r.0, later_reads p ps (suc k) qs r.1)

reads_later : (p : List ℕ) (ps : List (List ℕ)) (k : ℕ) (qs : List (List ℕ)) → Reads ps k qs → Reads (p ∷ ps) (suc k) qs
reads_later p ps k [] r = tt
reads_later p ps k (q ∷ qs) r = (r.0, reads_later p ps (suc k) qs r.1)

-- as many as are read are all
pub reads_all : (ps qs : List (List ℕ)) → length ps ≡ length qs → Reads ps 0 qs → ps ≡ qs
reads_all [] [] l r = refl
reads_all [] (q ∷ qs) l r = absurd (omega arith)
reads_all (p ∷ ps) [] l r = absurd (omega arith)
reads_all (p ∷ ps) (q ∷ qs) l r = let rec = reads_all ps qs (omega arith) (later_reads p ps 0 qs r.1) in let e = r.0 in cc

all_reads : (ps : List (List ℕ)) → Reads ps 0 ps
all_reads [] = tt
all_reads (p ∷ ps) = (refl, reads_later p ps 0 ps (all_reads ps))

-- the fields of what plain fields make when joined
pub reads_joined : (text : List ℕ) (ps : List (List ℕ)) → joined_by 44 ps ≡ text → 1 ≤ length ps → AllByRecursion Plain ps → (length (fields text) ≡ length ps) × Reads (fields text) 0 ps
reads_joined text ps e some a =
    let f : fields text ≡ ps = sym (ap fields e) ∙ fields_joined ps some a in
    (ap length f, subst (λ qs. Reads qs 0 ps) (sym f) (all_reads ps))
