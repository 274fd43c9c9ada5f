-- What a cursor gives out, as the lines of the whole file.
use Rattle.std.proofs.Common.{◌≡◌, ℕ, suc, ◌+◌, ◌-◌, ◌<◌, ◌≤◌, Bool, true, false, cond, eqb, List, [], ◌∷◌, ◌++◌, length, drop, Some, None, Ok, Err, Option, Result, sym, refl, ap, ◌∙◌, arith}
use Rattle.std.proofs.lemmas.List.{drop-drop}
use Rattle.std.specs.Result.{IsErrAnd}
use Rattle.std.specs.Option.{ok_or}
use Rattle.fields.specs.Parts.{parts}
use Rattle.fields.proofs.Parting.{parts_later, some_part}
use Rattle.lines.specs.declared.fault.LineFault.{LineFault}
use Rattle.lines.specs.declared.fault.LineFault.TheVariants.{Letter}
use Rattle.lines.specs.declared.fault.FileFault.{FileFault}
use Rattle.files.specs.Positions.{Position, start, ahead, front_of, passed, stopped}
use Rattle.files.specs.Heading.{bad_first, heading_in, heading_at, after_first, after_heading}
use Rattle.files.specs.Reading.{on_line, answer_to, answer_at, after_front, after_at}
use Rattle.grammar.specs.Files.{fault_at, onward, lines_from, headed, if_first}
use Rattle.grammar.proofs.Accepted.{not_ok, not_some}
use Rattle.grammar.proofs.Whole.{lines_more}

-- a line that is refused is not a line that was read
not_given : {T E P : Type 0} {e : E} {x : T} → ◌≡◌ {A = Option (Result T E)} (Some (Err e)) (Some (Ok x)) → P
not_given e = let z : ◌≡◌ {A = ℕ} 0 1 = cc in absurd (omega arith)

-- past a line the later lines are ahead
ahead_passed : (p : Position) (text : List ℕ) (later : List (List ℕ)) → 1 ≤ length later → ahead p ≡ text ∷ later → ahead (passed p (length text)) ≡ later
ahead_passed p text later some e =
    let n : p.at + length text + 1 ≡ p.at + suc (length text) = omega arith in
    ap (λ k. parts 10 (drop k p.bytes)) n ∙ (ap (parts 10) (sym (drop-drop (suc (length text)) p.at p.bytes)) ∙ parts_later 10 (drop p.at p.bytes) text later some e)

-- an error that `?` made of another
pub err_given : {T E : Type 0} (r : Result T E) (x : E) → IsErrAnd r (λ e. e ≡ x) → r ≡ Err x
err_given (Ok y) x e = absurd e
err_given (Err y) x e = ap (λ z. Err z) e

-- the line that a cursor gave out
pub record LineAhead {T : Type 0} (judge : List ℕ → Result T LineFault) (p : Position) (x : T) : Type 0 where
  pub text : List ℕ
  pub judged : judge text ≡ Ok x
  pub lines : ahead p ≡ text ∷ ahead (passed p (length text))
  pub after : after_at judge p ≡ passed p (length text)

module _ {T : Type 0} (judge : List ℕ → Result T LineFault) where
  judged_ok : (l : ℕ) (r : Result T LineFault) (x : T) → Some (on_line l r) ≡ Some (Ok x) → r ≡ Ok x
  judged_ok l (Ok y) x e = cc
  judged_ok l (Err f) x e = not_given e

  no_line : (l : ℕ) (b : Bool) (x : T) → answer_to judge l (cond b None (Some (Err Letter))) ≡ Some (Ok x) → ⊥
  no_line l true x e = not_some e
  no_line l false x e = not_given e

  line_in : (p : Position) (x : T) (ps : List (List ℕ)) → ahead p ≡ ps → answer_to judge p.line (front_of ps) ≡ Some (Ok x) → LineAhead judge p x
  line_in p x [] e a = not_some a
  line_in p x (rest ∷ []) e a = absurd (no_line p.line (eqb (length rest) 0) x a)
  line_in p x (text ∷ next ∷ later) e a =
      let j = judged_ok p.line (judge text) x a in
      record {
        text = text;
        judged = j;
        lines = e ∙ ap (λ ps. text ∷ ps) (sym (ahead_passed p text (next ∷ later) (omega arith) e));
        after = ap (λ ps. after_front judge p (front_of ps)) e ∙ ap (λ r. elim r as (λ _. Position) [ Ok y ↦ passed p (length text) | Err f ↦ stopped p ]) j;
      }

  pub line_ahead : (p : Position) (x : T) → Some (Ok x) ≡ answer_at judge p → LineAhead judge p x
  line_ahead p x a = line_in p x (ahead p) refl (sym a)

-- a line that cannot be read ends the file there
module _ {T : Type 0} (judge : List T → List ℕ → Result T LineFault) (said : List T) (l : ℕ) (f : FileFault) where
  rest_refused : (b : Bool) → answer_to (judge said) l (cond b None (Some (Err Letter))) ≡ Some (Err f) → cond b (Ok said) (Err (fault_at l Letter)) ≡ Err f
  rest_refused true e = not_some e
  rest_refused false e = cc

  line_refused : (r : Result T LineFault) (next : T → Result (List T) FileFault) → Some (on_line l r) ≡ Some (Err f) → onward l r next ≡ Err f
  line_refused (Ok x) next e = not_given (sym e)
  line_refused (Err d) next e = cc

  refused_at : (ps : List (List ℕ)) → answer_to (judge said) l (front_of ps) ≡ Some (Err f) → lines_from judge l said ps ≡ Err f
  refused_at [] e = not_some e
  refused_at (rest ∷ []) e = rest_refused (eqb (length rest) 0) e
  refused_at (text ∷ next ∷ later) e = line_refused (judge said text) (λ x. lines_from judge (l + 1) (said ++ x ∷ []) (next ∷ later)) e

pub lines_refused : {T : Type 0} (judge : List T → List ℕ → Result T LineFault) (said : List T) (p : Position) (f : FileFault) → Some (Err f) ≡ answer_at (judge said) p
    → lines_from judge p.line said (ahead p) ≡ Err f
lines_refused judge said p f e = refused_at judge said p.line f (ahead p) (sym e)

pub some_ahead : (p : Position) → 1 ≤ length (ahead p)
some_ahead p = some_part 10 (drop p.at p.bytes)

-- the lines from a line on, by what that line is judged to be after those before it
pub lines_on : {T : Type 0} (judge : List T → List ℕ → Result T LineFault) (before : List T) {alone : List ℕ → Result T LineFault} {p : Position} {x : T} (a : LineAhead alone p x)
    (r : Result T LineFault) → judge before a.text ≡ r
    → lines_from judge p.line before (ahead p) ≡ onward p.line r (λ y. lines_from judge (p.line + 1) (before ++ y ∷ []) (ahead (passed p (length a.text))))
lines_on judge before {p} a r e =
    let later = ahead (passed p (length a.text)) in
    ap (lines_from judge p.line before) a.lines ∙ (lines_more judge p.line before a.text later (some_ahead (passed p (length a.text)))
    ∙ ap (λ o. onward p.line o (λ y. lines_from judge (p.line + 1) (before ++ y ∷ []) later)) e)

-- fewer bytes are left past a line
pub fewer_left : (p q : Position) (n : ℕ) → q ≡ passed p n → q.at ≤ length q.bytes → length q.bytes - q.at < length p.bytes - p.at
fewer_left p q n e h =
    let b : q.bytes ≡ p.bytes = ap (λ r. r.bytes) e in let a : q.at ≡ p.at + n + 1 = ap (λ r. r.at) e in
    let l : length q.bytes ≡ length p.bytes = ap length b in omega arith

-- the first line: what follows it, or what is wrong with it
module _ {X T : Type 0} (head : List ℕ → Option X) (body : X → List (List ℕ) → Result T FileFault) where
  head_none : (b : Bool) (x : X) → heading_in head 1 (cond b None (Some (Err Letter))) ≡ Ok x → ⊥
  head_none true x e = not_ok e
  head_none false x e = not_ok e

  head_fault : (b : Bool) (f : FileFault) → heading_in head 1 (cond b None (Some (Err Letter))) ≡ Err f → ◌≡◌ {A = Result T FileFault} (Err (bad_first 1)) (Err f)
  head_fault true f e = cc
  head_fault false f e = cc

  after_none : (o : Option X) (f : FileFault) (ps : List (List ℕ)) → ok_or o (bad_first 1) ≡ Err f → if_first o (λ x. body x ps) ≡ Err f
  after_none None f ps e = cc
  after_none (Some x) f ps e = not_ok (sym e)

  refused_in : (ps : List (List ℕ)) (f : FileFault) → heading_in head 1 (front_of ps) ≡ Err f → headed head body ps ≡ Err f
  refused_in [] f e = cc
  refused_in (rest ∷ []) f e = head_fault (eqb (length rest) 0) f e
  refused_in (first ∷ next ∷ later) f e = after_none (head first) f (next ∷ later) e

  pub head_refused : (bytes : List ℕ) (f : FileFault) → Err f ≡ heading_at head (start bytes) → headed head body (parts 10 bytes) ≡ Err f
  head_refused bytes f e = refused_in (parts 10 bytes) f (sym e)

  some_head : (o : Option X) (x : X) → ok_or o (bad_first 1) ≡ Ok x → o ≡ Some x
  some_head None x e = not_ok e
  some_head (Some y) x e = cc

  -- the lines after the first, and where the cursor stands then
  pub record Headed (bytes : List ℕ) (x : X) : Type 0 where
    pub first : List ℕ
    pub told : head first ≡ Some x
    pub lines : ahead (start bytes) ≡ first ∷ ahead (passed (start bytes) (length first))
    pub after : after_heading head (start bytes) ≡ passed (start bytes) (length first)
    pub file : headed head body (parts 10 bytes) ≡ body x (ahead (passed (start bytes) (length first)))

  read_in_lem : (bytes : List ℕ) (ps : List (List ℕ)) (x : X) → ahead (start bytes) ≡ ps → heading_in head 1 (front_of ps) ≡ Ok x → Headed bytes x
  read_in_lem bytes [] x e a = not_ok a
  read_in_lem bytes (rest ∷ []) x e a = absurd (head_none (eqb (length rest) 0) x a)
  read_in_lem bytes (text ∷ next ∷ later) x e a =
      let j = some_head (head text) x a in
      let q = ahead_passed (start bytes) text (next ∷ later) (omega arith) e in
      record {
        first = text;
        told = j;
        lines = e ∙ ap (λ ps. text ∷ ps) (sym q);
        after = ap (λ ps. after_first head (start bytes) (front_of ps)) e
            ∙ ap (λ o. elim o as (λ _. Position) [ None ↦ stopped (start bytes) | Some y ↦ passed (start bytes) (length text) ]) j;
        file = ap (headed head body) e ∙ (ap (λ o. if_first o (λ y. body y (next ∷ later))) j ∙ ap (body x) (sym q));
      }

  pub head_read : (bytes : List ℕ) (x : X) → Ok x ≡ heading_at head (start bytes) → Headed bytes x
  head_read bytes x e = read_in_lem bytes (parts 10 bytes) x refl (sym e)
