-- The ways to judge a field of a line: what holds where one goes on to a line that is taken (`-ok`), and that it goes on where this holds (`-on`).
use Rattle.std.proofs.Common.{◌≡◌, ℕ, ◌<◌, ◌≤◌, Bool, true, false, cond, ◌&&◌, T, eqb, ltb, leb, List, length, ℤ, pos, negsuc, ◌≤ℤ◌, Some, None, Ok, Err, decimal, Option, Result, sym, refl, ap, ◌∙◌, subst, arith}
use lib.Signed.{le_z, le_z_yes}
use Rattle.std.specs.Option.{option_map}
use Rattle.std.specs.Fmt.{signed_decimal}
use Rattle.std.proofs.lemmas.Int.{ints}
use Rattle.std.proofs.lemmas.Bool.{eqb-true, eq-eqb, ltb-true, lt-ltb, leb-true, le-leb, and_parts, and_from, cond-true}
use Rattle.names.specs.Naming.{is_name}
use Rattle.numerals.specs.Numbers.{IsSignal, number_of}
use Rattle.numerals.proofs.Texts.{number_of_text, text_of_number}
use Rattle.lines.specs.declared.fault.LineFault.{LineFault}
use Rattle.lines.specs.declared.fault.LineFault.TheVariants.{FieldCount, TooManyUnits, NotName}
use Rattle.lines.specs.Known.{unit_named}
use Rattle.lines.specs.Fields.{fields, field, within, if_count, if_room, unless_used, if_new, by_unit, if_known, by_number, if_number, if_within}

-- a refusal takes nothing, and nothing is not something
pub not_ok : {T E P : Type 0} {e : E} {x : T} → ◌≡◌ {A = Result T E} (Err e) (Ok x) → P
not_ok e = let z : ◌≡◌ {A = ℕ} 0 1 = cc in absurd (omega arith)

pub not_some : {A P : Type 0} {x : A} → ◌≡◌ {A = Option A} None (Some x) → P
not_some e = let z : ◌≡◌ {A = ℕ} 0 1 = cc in absurd (omega arith)

-- a test
pub test_ok : {T E : Type 0} (b : Bool) (next : Result T E) (e : E) (x : T) → cond b next (Err e) ≡ Ok x → (b ≡ true) × (next ≡ Ok x)
test_ok true next e x h = (refl, h)
test_ok false next e x h = not_ok h

pub test_some : {A : Type 0} (b : Bool) (o : Option A) (x : A) → cond b o None ≡ Some x → (b ≡ true) × (o ≡ Some x)
test_some true o x h = (refl, h)
test_some false o x h = not_some h

pub mapped_some : {A B : Type 0} (f : A → B) (o : Option A) (y : B) → option_map f o ≡ Some y → (x : A) × (o ≡ Some x) × (f x ≡ y)
mapped_some f None y e = not_some e
mapped_some f (Some x) y e = (x, refl, cc)

-- a text that writes a number within two others
pub record Writes (low high z : ℤ) (text : List ℕ) : Type 0 where
  pub signal : IsSignal z
  pub is : signed_decimal z ≡ text
  pub range : (le_z low z && le_z z high) ≡ true

pub within_some : (low high : ℤ) (text : List ℕ) (z : ℤ) → within low high (number_of text) ≡ Some z → Writes low high z text
within_some low high text z e = by (number_of text) refl e
  where
    by : (o : Option ℤ) → number_of text ≡ o → within low high o ≡ Some z → Writes low high z text
    by None n h = not_some h
    by (Some y) n h =
        let g = test_some (le_z low y && le_z y high) (Some y) z h in
        let same : y ≡ z = let k = g.1 in cc in
        let t = text_of_number text z (n ∙ ap Some same) in
        record { signal = t.0; is = t.1; range = subst (λ v. (le_z low v && le_z v high) ≡ true) same g.0 }

pub some_within : (low high : ℤ) (text : List ℕ) (z : ℤ) → Writes low high z text → within low high (number_of text) ≡ Some z
some_within low high text z w =
    ap (within low high) (ap number_of (sym w.is) ∙ number_of_text z w.signal) ∙ cond-true _ _ _ w.range

-- between two numbers of the signal range every number is one of it
pub writes_in : (low high z : ℤ) (text : List ℕ) → negsuc 2147483647 ≤ℤ low → high ≤ℤ pos 2147483647 → signed_decimal z ≡ text → (le_z low z && le_z z high) ≡ true → Writes low high z text
writes_in low high z text l h e r =
    let g = and_parts (le_z low z) (le_z z high) r in
    let a : low ≤ℤ z = le_z_yes (subst T (sym g.0) tt) in
    let b : z ≤ℤ high = le_z_yes (subst T (sym g.1) tt) in
    record { signal = record { above = omega (arith, ints); below = omega (arith, ints) }; is = e; range = r }

module _ {T : Type 0} (line : List ℕ) (x : T) (next : Result T LineFault) where
  pub count_ok : (n : ℕ) → if_count n line next ≡ Ok x → (length (fields line) ≡ n) × (next ≡ Ok x)
  count_ok n e = let g = test_ok (eqb (length (fields line)) n) next FieldCount x e in (eqb-true _ n g.0, g.1)

  pub new_ok : (known : List (List ℕ)) (k : ℕ) → if_new known k line next ≡ Ok x
      → (is_name (field k line) ≡ true) × (unit_named known (field k line) ≡ None) × (next ≡ Ok x)
  new_ok known k e =
      let g = test_ok (is_name (field k line)) _ (NotName k) x e in
      let h = by (unit_named known (field k line)) g.1 in (g.0, h.0, h.1)
    where
      by : (o : Option ℕ) → unless_used k o next ≡ Ok x → (o ≡ None) × (next ≡ Ok x)
      by None h = (refl, h)
      by (Some u) h = not_ok h

pub room_ok : {T : Type 0} (known : List (List ℕ)) (next : Result T LineFault) (x : T) → if_room known next ≡ Ok x → (length known < 16) × (next ≡ Ok x)
room_ok known next x e = let g = test_ok (ltb (length known) 16) next TooManyUnits x e in (ltb-true _ 16 g.0, g.1)

module _ {T : Type 0} (line : List ℕ) (next : Result T LineFault) where
  pub count_on : (n : ℕ) → length (fields line) ≡ n → if_count n line next ≡ next
  count_on n e = cond-true _ _ _ (eq-eqb _ n e)

  pub room_on : (known : List (List ℕ)) → length known < 16 → if_room known next ≡ next
  room_on known h = cond-true _ _ _ (lt-ltb _ 16 h)

  pub new_on : (known : List (List ℕ)) (k : ℕ) → is_name (field k line) ≡ true → unit_named known (field k line) ≡ None → if_new known k line next ≡ next
  new_on known k n e = cond-true _ _ _ n ∙ ap (λ o. unless_used k o next) e

module _ {T : Type 0} (line : List ℕ) (k : ℕ) where
  pub known_ok : (known : List (List ℕ)) (next : ℕ → Result T LineFault) (x : T) → if_known known k line next ≡ Ok x
      → (u : ℕ) × (is_name (field k line) ≡ true) × (unit_named known (field k line) ≡ Some u) × (next u ≡ Ok x)
  known_ok known next x e =
      let g = test_ok (is_name (field k line)) _ (NotName k) x e in
      let h = by (unit_named known (field k line)) g.1 in (h.0, g.0, h.1, h.2)
    where
      by : (o : Option ℕ) → by_unit k o next ≡ Ok x → (u : ℕ) × (o ≡ Some u) × (next u ≡ Ok x)
      by None h = not_ok h
      by (Some u) h = (u, refl, h)

  pub known_on : (known : List (List ℕ)) (next : ℕ → Result T LineFault) (u : ℕ) → is_name (field k line) ≡ true → unit_named known (field k line) ≡ Some u
      → if_known known k line next ≡ next u
  known_on known next u n e = cond-true _ _ _ n ∙ ap (λ o. by_unit k o next) e

  module _ (next : ℤ → Result T LineFault) where
    by_number_ok : (o : Option ℤ) (x : T) → by_number k o next ≡ Ok x → (z : ℤ) × (o ≡ Some z) × (next z ≡ Ok x)
    by_number_ok None x h = not_ok h
    by_number_ok (Some z) x h = (z, refl, h)

    pub number_ok : (x : T) → if_number k line next ≡ Ok x → (z : ℤ) × IsSignal z × (signed_decimal z ≡ field k line) × (next z ≡ Ok x)
    number_ok x e =
        let g = by_number_ok (number_of (field k line)) x e in
        let t = text_of_number (field k line) g.0 g.1 in (g.0, t.0, t.1, g.2)

    pub number_on : (z : ℤ) → IsSignal z → signed_decimal z ≡ field k line → if_number k line next ≡ next z
    number_on z s e = ap (λ o. by_number k o next) (ap number_of (sym e) ∙ number_of_text z s)

    pub within_ok : (low high : ℤ) (x : T) → if_within low high k line next ≡ Ok x → (z : ℤ) × Writes low high z (field k line) × (next z ≡ Ok x)
    within_ok low high x e =
        let g = by_number_ok (within low high (number_of (field k line))) x e in
        (g.0, within_some low high (field k line) g.0 g.1, g.2)

    pub within_on : (low high z : ℤ) → Writes low high z (field k line) → if_within low high k line next ≡ next z
    within_on low high z w = ap (λ o. by_number k o next) (some_within low high (field k line) z w)

-- within two numbers that are not below 0 a number is not below 0
pub natural_writes : (low high : ℕ) (z : ℤ) (text : List ℕ) → Writes (pos low) (pos high) z text
    → (n : ℕ) × (z ≡ pos n) × (decimal n ≡ text) × (low ≤ n) × (n ≤ high)
natural_writes low high (pos n) text w =
    let r = and_parts (leb low n) (leb n high) w.range in (n, refl, w.is, leb-true low n r.0, leb-true n high r.1)
natural_writes low high (negsuc n) text w = let z : ◌≡◌ {A = Bool} false true = w.range in let y : ◌≡◌ {A = ℕ} 0 1 = cc in absurd (omega arith)

pub writes_natural : (low high n : ℕ) (text : List ℕ) → high ≤ 2147483647 → decimal n ≡ text → low ≤ n → n ≤ high → Writes (pos low) (pos high) (pos n) text
writes_natural low high n text small e l h =
    writes_in (pos low) (pos high) (pos n) text (omega (arith, ints)) (omega (arith, ints)) e (and_from _ _ (le-leb low n l) (le-leb n high h))
