-- Texts as numbers, and numbers as texts.
use Rattle.std.proofs.Common.{◌≡◌, ℕ, zero, suc, ◌+◌, ◌-◌, ◌*◌, ◌^◌, ◌<◌, ◌≤◌, Bool, true, false, cond, ◌&&◌, eqb, leb, ◌⊎◌, List, [], ◌∷◌, length, get_or, take, drop, ℤ, pos, negsuc, Some, None, decimal, Option, sym, refl, ap, ◌∙◌, inl, inr, arith, rules}
use Rattle.std.specs.Option.{option_map}
use Rattle.std.specs.Char.{is_ascii_digit}
use Rattle.std.specs.Fmt.{signed_decimal}
use Rattle.std.specs.Str.{all_ascii_digits}
use Rattle.std.proofs.lemmas.Fmt.{decimal_digit, decimal_nonempty, first_decimal, digits_decimal, digits_value-decimal, decimal-digits_value}
use Rattle.std.proofs.lemmas.List.{at_drop_more, at_drop_all, take_all}
use Rattle.std.proofs.lemmas.Str.Parse.{IsNumeralModel, numerals_by_fold, tells_all_ascii_digits, digit_at}
use Rattle.std.proofs.lemmas.Int.{ints}
use Rattle.std.proofs.lemmas.Option.{none-some, cond_some}
use Rattle.std.proofs.lemmas.Bool.{leb-true, leb-false, le-leb, lt-leb, eqb-true, eqb-false, eq-eqb, ne_eqb, and_parts, and_from, and_right, cond-true, cond-false}
use Rattle.numerals.specs.Numbers.{IsSignal, Says, read_on, read_in, is_numeral, whole_in, number_of}

-- ---- the loop over digits

-- digits read on make no less
read_grows : (n : ℕ) (ds : List ℕ) → n ≤ read_on n ds
read_grows n [] = omega arith
read_grows n (d ∷ ds) = let h = read_grows (n * 10 + (d - 48)) ds in omega arith

more_go : (most n m : ℕ) (ds : List ℕ) (a b : Bool) → leb n most ≡ b → cond ((a && true) && b) (Some n) None ≡ Some m
    → (m ≤ most) × (cond ((a && all_ascii_digits ds) && leb (read_on n ds) most) (Some (read_on n ds)) None ≡ read_in most m ds)
more_go most n m ds true true h e = let s : n ≡ m = cc in let l = leb-true n most h in (omega arith, ap (λ v. read_in most v ds) s)
more_go most n m ds true false h e = absurd (none-some m e)
more_go most n m ds false b h e = absurd (none-some m e)

stop_go : (most n : ℕ) (ds : List ℕ) (a b : Bool) → leb n most ≡ b → cond ((a && true) && b) (Some n) None ≡ None → ((a && all_ascii_digits ds) && leb (read_on n ds) most) ≡ false
stop_go most n ds true true h e = absurd (none-some n (sym e))
stop_go most n ds true false h e =
    let l = leb-false n most h in
    let g = read_grows n ds in and_right (all_ascii_digits ds) (leb (read_on n ds) most) (lt-leb (read_on n ds) most (omega arith))
stop_go most n ds false b h e = refl

module _ (most n : ℕ) (ds : List ℕ) (i : ℕ) (inside : i < length ds) where
  -- one digit more
  pub read_more : (m : ℕ) → read_in most n (get_or ds i 0 ∷ []) ≡ Some m → (m ≤ most) × (read_in most n (drop i ds) ≡ read_in most m (drop (i + 1) ds))
  read_more m e =
      let g = more_go most (n * 10 + (get_or ds i 0 - 48)) m (drop (i + 1) ds) (is_ascii_digit (get_or ds i 0)) _ refl e in
      (g.0, at_drop_more (read_in most n) ds i 0 inside ∙ g.1)

  -- another byte, or too large a number
  pub read_stop : read_in most n (get_or ds i 0 ∷ []) ≡ None → read_in most n (drop i ds) ≡ None
  read_stop e =
      at_drop_more (read_in most n) ds i 0 inside
      ∙ cond-false _ _ _ (stop_go most (n * 10 + (get_or ds i 0 - 48)) (drop (i + 1) ds) (is_ascii_digit (get_or ds i 0)) _ refl e)

-- no digit is left
pub read_all : (most n : ℕ) (ds : List ℕ) (i : ℕ) → length ds ≤ i → n ≤ most → read_in most n (drop i ds) ≡ Some n
read_all most n ds i l h = at_drop_all (read_in most n) ds i l ∙ cond-true _ _ _ (le-leb n most h)

-- ---- digits

-- digits, and the number that they write, as the library knows them
own : IsNumeralModel (λ ds. all_ascii_digits ds ≡ true) (read_on 0)
own = numerals_by_fold _ tells_all_ascii_digits read_on (search rules)

-- each byte of a number's digits is one of 0 to 9
decimal_bytes : (n : ℕ) → n < 2 ^ 64 → (k : ℕ) → k < length (decimal n) → (48 ≤ get_or (decimal n) k 0) × (get_or (decimal n) k 0 ≤ 57)
decimal_bytes n small k inside = digit_at (decimal n) k (own.to (decimal n) (digits_decimal own n small)) inside

-- a first digit 0 is the only one
lone_zero : (n : ℕ) → n < 2 ^ 64 → get_or (decimal n) 0 0 ≡ 48 → length (decimal n) ≡ 1
lone_zero zero small e = ap length (decimal_digit 0 (omega arith))
lone_zero (suc n) small e = let h = first_decimal (suc n) (omega arith) small in absurd (omega arith)

first_go : (ds : List ℕ) (b : Bool) → eqb (get_or ds 0 0) 48 ≡ b → 0 < length ds → (get_or ds 0 0 ≡ 48 → length ds ≡ 1)
    → cond b (eqb (length ds) 1) (leb 1 (length ds)) ≡ true
first_go ds true e some lone = eq-eqb (length ds) 1 (lone (eqb-true (get_or ds 0 0) 48 e))
first_go ds false e some lone = le-leb 1 (length ds) some

first_back : (ds : List ℕ) (b : Bool) → eqb (get_or ds 0 0) 48 ≡ b → cond b (eqb (length ds) 1) (leb 1 (length ds)) ≡ true
    → (0 < length ds) × (get_or ds 0 0 ≡ 48 → length ds ≡ 1)
first_back ds true e h = let l = eqb-true (length ds) 1 h in (omega arith, λ _. l)
first_back ds false e h = let l = leb-true 1 (length ds) h in (omega arith, λ k. absurd (eqb-false (get_or ds 0 0) 48 e k))

-- a number's digits write it
whole_of_text : (least most n : ℕ) → n < 2 ^ 64 → least ≤ n → n ≤ most → whole_in least most (decimal n) ≡ Some n
whole_of_text least most n small low high =
    let v = digits_value-decimal own n small in
    let first = first_go (decimal n) _ refl (decimal_nonempty n small) (lone_zero n small) in
    let l = le-leb least (read_on 0 (decimal n)) (omega arith) in
    let m = le-leb (read_on 0 (decimal n)) most (omega arith) in
    cond-true _ _ _ (and_from _ _ (and_from _ _ first (digits_decimal own n small)) (and_from _ _ l m)) ∙ ap Some v

-- the number that digits write has just these
text_of_whole : (least most : ℕ) (ds : List ℕ) (n : ℕ) → most < 2 ^ 64 → whole_in least most ds ≡ Some n → (decimal n ≡ ds) × (least ≤ n) × (n ≤ most)
text_of_whole least most ds n small e =
    let g = cond_some _ (read_on 0 ds) n e in
    let parts = and_parts (is_numeral ds) _ g.0 in
    let numeral = and_parts _ (all_ascii_digits ds) parts.0 in
    let first = first_back ds _ refl numeral.0 in
    let within = and_parts (leb least (read_on 0 ds)) _ parts.1 in
    let l = leb-true least (read_on 0 ds) within.0 in
    let m = leb-true (read_on 0 ds) most within.1 in
    (ap decimal (sym g.1) ∙ decimal-digits_value own ds numeral.1 first.0 first.1 (omega arith), omega (arith, g.1), omega (arith, g.1))

-- ---- numbers

-- a text that begins with a minus sign
pub number_minus : (text : List ℕ) → 0 < length text → get_or text 0 0 ≡ 45
    → number_of text ≡ option_map (λ n. negsuc (n - 1)) (whole_in 1 2147483648 (take (length text - 1) (drop 1 text)))
number_minus [] some minus = absurd (omega arith)
number_minus (b ∷ bs) some minus =
    cond-true _ _ _ (eq-eqb b 45 minus)
    ∙ ap (λ ds. option_map (λ n. negsuc (n - 1)) (whole_in 1 2147483648 ds)) (sym (take_all (length (b ∷ bs) - 1) bs (omega arith)))

-- a text that does not
number_plain : (text : List ℕ) → (get_or text 0 0 ≡ 45 → ⊥) → number_of text ≡ option_map pos (whole_in 0 2147483647 text)
number_plain [] plain = refl
number_plain (b ∷ bs) plain = cond-false _ _ _ (ne_eqb b 45 plain)

-- each number of the signal range is what its text writes
pub number_of_text : (z : ℤ) → IsSignal z → number_of (signed_decimal z) ≡ Some z
number_of_text (pos n) s =
    let high : n ≤ 2147483647 = let h = s.below in omega (arith, ints) in
    let some = decimal_nonempty n (omega arith) in
    let first = decimal_bytes n (omega arith) 0 some in
    number_plain (decimal n) (λ e. omega (arith, first.0)) ∙ ap (option_map pos) (whole_of_text 0 2147483647 n (omega arith) (omega arith) high)
number_of_text (negsuc n) s =
    let low : n ≤ 2147483647 = let h = s.above in omega (arith, ints) in
    let same : suc n - 1 ≡ n = omega arith in
    ap (option_map (λ m. negsuc (m - 1))) (whole_of_text 1 2147483648 (suc n) (omega arith) (omega arith) (omega arith)) ∙ ap (λ m. Some (negsuc m)) same

mapped_some : (f : ℕ → ℤ) (o : Option ℕ) (z : ℤ) → option_map f o ≡ Some z → (n : ℕ) × (o ≡ Some n) × (f n ≡ z)
mapped_some f None z e = absurd (none-some z e)
mapped_some f (Some n) z e = (n, refl, cc)

minus_go : (n : ℕ) (z : ℤ) → negsuc (n - 1) ≡ z → 1 ≤ n → n ≤ 2147483648 → IsSignal z × (signed_decimal z ≡ 45 ∷ decimal n)
minus_go zero z e low high = absurd (omega arith)
minus_go (suc n) z e low high =
    let same : n ≡ suc n - 1 = omega arith in
    (record { above = omega (arith, ints); below = omega (arith, ints) }, sym (ap (λ m. signed_decimal (negsuc m)) same ∙ ap signed_decimal e))

plain_go : (n : ℕ) (z : ℤ) → pos n ≡ z → n ≤ 2147483647 → IsSignal z × (signed_decimal z ≡ decimal n)
plain_go n z e high = (record { above = omega (arith, ints); below = omega (arith, ints) }, sym (ap signed_decimal e))

text_go : (b : ℕ) (bs : List ℕ) (z : ℤ) (t : Bool) → eqb b 45 ≡ t
    → cond t (option_map (λ n. negsuc (n - 1)) (whole_in 1 2147483648 bs)) (option_map pos (whole_in 0 2147483647 (b ∷ bs))) ≡ Some z
    → IsSignal z × (signed_decimal z ≡ b ∷ bs)
text_go b bs z true h e =
    let m = mapped_some _ (whole_in 1 2147483648 bs) z e in
    let w = text_of_whole 1 2147483648 bs m.0 (omega arith) m.1 in
    let g = minus_go m.0 z m.2 w.1 w.2 in
    (g.0, g.1 ∙ (ap (λ ds. 45 ∷ ds) w.0 ∙ ap (λ x. x ∷ bs) (sym (eqb-true b 45 h))))
text_go b bs z false h e =
    let m = mapped_some pos (whole_in 0 2147483647 (b ∷ bs)) z e in
    let w = text_of_whole 0 2147483647 (b ∷ bs) m.0 (omega arith) m.1 in
    let g = plain_go m.0 z m.2 w.2 in
    (g.0, g.1 ∙ w.0)

-- a text that writes a number is this number's text
pub text_of_number : (text : List ℕ) (z : ℤ) → number_of text ≡ Some z → IsSignal z × (signed_decimal z ≡ text)
text_of_number [] z e = absurd (none-some z e)
text_of_number (b ∷ bs) z e = text_go b bs z (eqb b 45) refl e

-- a result that is what the text writes is what it says
pub says_so : (text : List ℕ) (r : Option ℤ) → r ≡ number_of text → Says text r
says_so text (Some z) e = text_of_number text z (sym e)
says_so text None e = λ z s h. none-some z (e ∙ (ap number_of (sym h) ∙ number_of_text z s))

-- a text says the number that it writes
pub says : (text : List ℕ) → Says text (number_of text)
says text = says_so text (number_of text) refl

-- a number's text has no other bytes than the minus sign and the digits
pub number_bytes : (z : ℤ) → IsSignal z → (k : ℕ) → k < length (signed_decimal z) → (get_or (signed_decimal z) k 0 ≡ 45) ⊎ ((48 ≤ get_or (signed_decimal z) k 0) × (get_or (signed_decimal z) k 0 ≤ 57))
number_bytes (pos n) s k inside = let h = s.below in inr (decimal_bytes n (omega (arith, ints)) k inside)
number_bytes (negsuc n) s zero inside = inl refl
number_bytes (negsuc n) s (suc k) inside = let h = s.above in inr (decimal_bytes (suc n) (omega (arith, ints)) k (omega arith))
