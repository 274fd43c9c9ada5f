-- The text before a cursor: the cap and the units that were said.
use Rattle.std.proofs.Common.{◌≡◌, ℕ, List, [], ◌∷◌, ◌++◌, map, drop, Some, Ok, sym, ap, ◌∙◌, subst, length}
use Rattle.std.proofs.lemmas.List.{append-nil, append_assoc, map_push}
use Rattle.fields.specs.Parts.{joined_by}
use Rattle.fields.proofs.Parting.{joined_parts}
use Rattle.lines.specs.UnitLines.{UnitSaid, unit_line}
use Rattle.lines.specs.Headers.{cap_of}
use Rattle.files.specs.Positions.{Position, ahead, passed}
use Rattle.grammar.specs.Texts.{unit_text, ProperUnit, cap_text}
use Rattle.grammar.specs.Files.{names_said}
use Rattle.grammar.specs.Laws.{lines_text, InTurn, units_text}
use Rattle.grammar.proofs.Lines.{unit_line_law, cap_law}
use Rattle.grammar.proofs.Whole.{joined_more}
use Rattle.load.specs.Loaded.{Begins}
use Rattle.load.proofs.Reading.{some_ahead}

-- the bytes from a place on
abbrev pub left : Position → List ℕ
left p = drop p.at p.bytes

-- they are the line there, its line feed, and the bytes past it
pub left_on : (p : Position) (text : List ℕ) → ahead p ≡ text ∷ ahead (passed p (length text)) → left p ≡ text ++ (10 ∷ left (passed p (length text)))
left_on p text e =
    let q = passed p (length text) in
    sym (joined_parts 10 (left p)) ∙ (ap (joined_by 10) e ∙ (joined_more text (ahead q) (some_ahead q) ∙ ap (λ t. text ++ (10 ∷ t)) (joined_parts 10 (left q))))

-- one line more
lines_push : (ts : List (List ℕ)) (t rest : List ℕ) → lines_text (ts ++ t ∷ []) ++ rest ≡ lines_text ts ++ (t ++ (10 ∷ rest))
lines_push [] t rest = append_assoc t (10 ∷ []) rest
lines_push (s ∷ ts) t rest =
    append_assoc s (10 ∷ lines_text (ts ++ t ∷ [])) rest ∙ (ap (λ r. s ++ (10 ∷ r)) (lines_push ts t rest)
    ∙ sym (append_assoc s (10 ∷ lines_text ts) (t ++ (10 ∷ rest))))

in_turn_push : {T : Type 0} (P : List T → T → Type 0) (before xs : List T) (x : T) → InTurn P before xs → P (before ++ xs) x → InTurn P before (xs ++ x ∷ [])
in_turn_push P before [] x i p = (subst (λ b. P b x) (append-nil before) p, tt)
in_turn_push P before (y ∷ ys) x i p =
    (i.0, in_turn_push P (before ++ y ∷ []) ys x i.1 (subst (λ b. P b x) (sym (append_assoc before (y ∷ []) ys)) p))

-- a first line that tells a cap
pub begun : (bytes first rest : List ℕ) (n : ℕ) → cap_of first ≡ Some n → bytes ≡ first ++ (10 ∷ rest) → Begins bytes n [] rest
begun bytes first rest n told e =
    let c = (cap_law first n).only told in
    record { text = append_assoc (cap_text n) (10 ∷ []) rest ∙ (ap (λ t. t ++ (10 ∷ rest)) c.0 ∙ sym e); cap = c.1; units = tt }

-- a line that says one unit more
pub begun_more : (bytes rest text later : List ℕ) (n : ℕ) (us : List UnitSaid) (u : UnitSaid) → Begins bytes n us rest → unit_line (names_said us) text ≡ Ok u
    → rest ≡ text ++ (10 ∷ later) → Begins bytes n (us ++ u ∷ []) later
begun_more bytes rest text later n us u b said e =
    let l = (unit_line_law (names_said us) text u).only said in
    record {
      text = ap (λ ts. lines_text (cap_text n ∷ ts) ++ later) (map_push unit_text us u) ∙ (lines_push (cap_text n ∷ map unit_text us) (unit_text u) later
          ∙ (ap (λ t. units_text n us ++ (t ++ (10 ∷ later))) l.0 ∙ (ap (λ r. units_text n us ++ r) (sym e) ∙ b.text)));
      cap = b.cap;
      units = in_turn_push (λ before x. ProperUnit (names_said before) x) [] us u b.units l.1;
    }
