-- A call of one of two rigs, as a call of the pair.
use Rattle.std.specs.Prelude.{◌≡◌, ℕ, zero, suc, ◌+◌, ◌<◌, ◌≤◌, min, List, [], ◌∷◌, ◌++◌, length, take, Some, None, Ok, Err, Option, Result, slice_set, refl}
use Rattle.std.proofs.Common.{sym, ap, ◌∙◌, arith, length-append}
use Rattle.std.specs.List.{slice_get, AllByRecursion}
use Rattle.std.proofs.lemmas.List.{length-take}
use Rattle.std.proofs.lemmas.Option.{slice_get_past}
use Rattle.rig.specs.declared.cause.Cause.{Cause}
use Rattle.rig.specs.declared.cause.Target.{Target}
use Rattle.rig.specs.Units.{RigUnit}
use Rattle.rig.specs.Laws.{Sound, SoundUnit}
use Rattle.rig.specs.Calls.{Call, blamed, renumbered, units_after, after_in, unit_after}
use Rattle.pair_rig.specs.Joined.{joined}

-- an element of the first list, and of the second
nth_left : {X : Type 0} (n : ℕ) (xs ys : List X) (u : ℕ) → u < length xs → u < n → slice_get (take n (xs ++ ys)) u ≡ slice_get xs u
nth_left n [] ys u h l = absurd (omega arith)
nth_left zero (x ∷ xs) ys u h l = absurd (omega arith)
nth_left (suc n) (x ∷ xs) ys zero h l = refl
nth_left (suc n) (x ∷ xs) ys (suc u) h l = nth_left n xs ys u (omega arith) (omega arith)

nth_take : {X : Type 0} (n : ℕ) (ys : List X) (u : ℕ) → u < n → slice_get (take n ys) u ≡ slice_get ys u
nth_take zero ys u h = absurd (omega arith)
nth_take (suc n) [] u h = refl
nth_take (suc n) (y ∷ ys) zero h = refl
nth_take (suc n) (y ∷ ys) (suc u) h = nth_take n ys u (omega arith)

nth_right : {X : Type 0} (n : ℕ) (xs ys : List X) (u v : ℕ) → u ≡ length xs + v → u < n → slice_get (take n (xs ++ ys)) u ≡ slice_get ys v
nth_right n [] ys u v e h = nth_take n ys u h ∙ ap (slice_get ys) (omega arith)
nth_right zero (x ∷ xs) ys u v e h = absurd (omega arith)
nth_right (suc n) (x ∷ xs) ys zero v e h = absurd (omega arith)
nth_right (suc n) (x ∷ xs) ys (suc u) v e h = nth_right n xs ys u v (omega arith) (omega arith)

-- a write to the first list, and to the second
set_take : {X : Type 0} (n : ℕ) (ys : List X) (u : ℕ) (y : X) → slice_set (take n ys) u y ≡ take n (slice_set ys u y)
set_take zero [] u y = refl
set_take zero (x ∷ ys) zero y = refl
set_take zero (x ∷ ys) (suc u) y = refl
set_take (suc n) [] u y = refl
set_take (suc n) (x ∷ ys) zero y = refl
set_take (suc n) (x ∷ ys) (suc u) y = ap (λ z. x ∷ z) (set_take n ys u y)

set_left : {X : Type 0} (xs ys : List X) (u : ℕ) (y : X) → u < length xs → slice_set (xs ++ ys) u y ≡ slice_set xs u y ++ ys
set_left [] ys u y h = absurd (omega arith)
set_left (x ∷ xs) ys zero y h = refl
set_left (x ∷ xs) ys (suc u) y h = ap (λ z. x ∷ z) (set_left xs ys u y (omega arith))

set_right : {X : Type 0} (xs ys : List X) (u v : ℕ) (y : X) → u ≡ length xs + v → slice_set (xs ++ ys) u y ≡ xs ++ slice_set ys v y
set_right [] ys u v y e = ap (λ w. slice_set ys w y) (omega arith)
set_right (x ∷ xs) ys zero v y e = absurd (omega arith)
set_right (x ∷ xs) ys (suc u) v y e = ap (λ z. x ∷ z) (set_right xs ys u v y (omega arith))

-- a fault renumbered is the fault of the unit with that number
pub renumbered_blamed : {T : Type 0} (u v : ℕ) (t : Target) (r : Result T Cause) → renumbered u (blamed v t r) ≡ blamed u t r
renumbered_blamed u v t (Ok x) = refl
renumbered_blamed u v t (Err e) = refl

-- the units after a call, through a change of the list under which a write to v is one to u
after_through : {S T : Type 0} (k : Call S T) (us vs : List (RigUnit S)) (u v : ℕ) (F : List (RigUnit S) → List (RigUnit S)) (o : Option (RigUnit S))
    → F vs ≡ us → ((y : RigUnit S) → slice_set us u y ≡ F (slice_set vs v y)) → F (after_in k vs v o) ≡ after_in k us u o
after_through k us vs u v F None e f = e
after_through k us vs u v F (Some x) e f = sym (f (unit_after k x (k.answer x)))

few_joined : {S : Type 0} (xs ys : List (RigUnit S)) → length (joined xs ys) ≤ 16
few_joined xs ys = simp length-take (omega arith)

-- unit u of a pair, and the units after a call of it: the first rig has it, or the second, or neither
pub first_at : {S : Type 0} (xs ys : List (RigUnit S)) (u : ℕ) → u < length xs → u < 16 → slice_get (joined xs ys) u ≡ slice_get xs u
first_at xs ys u l m = nth_left 16 xs ys u l m

pub first_after : {S T : Type 0} (k : Call S T) (xs ys : List (RigUnit S)) (u : ℕ) → u < length xs → u < 16 → units_after k (joined xs ys) u ≡ joined (units_after k xs u) ys
first_after k xs ys u l m =
    ap (after_in k (joined xs ys) u) (first_at xs ys u l m)
    ∙ sym (after_through k (joined xs ys) xs u u (λ z. joined z ys) (slice_get xs u) refl (λ y. set_take 16 (xs ++ ys) u y ∙ ap (take 16) (set_left xs ys u y l)))

pub second_at : {S : Type 0} (xs ys : List (RigUnit S)) (v : ℕ) → length xs + v < 16 → slice_get (joined xs ys) (length xs + v) ≡ slice_get ys v
second_at xs ys v m = nth_right 16 xs ys (length xs + v) v refl m

pub second_after : {S T : Type 0} (k : Call S T) (xs ys : List (RigUnit S)) (v : ℕ) → length xs + v < 16 → units_after k (joined xs ys) (length xs + v) ≡ joined xs (units_after k ys v)
second_after k xs ys v m =
    ap (after_in k (joined xs ys) (length xs + v)) (second_at xs ys v m)
    ∙ sym (after_through k (joined xs ys) ys (length xs + v) v (joined xs) (slice_get ys v) refl
    (λ y. set_take 16 (xs ++ ys) (length xs + v) y ∙ ap (take 16) (set_right xs ys (length xs + v) v y refl)))

pub neither_at : {S : Type 0} (xs ys : List (RigUnit S)) (u : ℕ) → 16 ≤ u → slice_get (joined xs ys) u ≡ None
neither_at xs ys u l = slice_get_past (joined xs ys) u (omega (arith, few_joined xs ys))

-- how many units a pair has
pub length_joined : {S : Type 0} (xs ys : List (RigUnit S)) → length (joined xs ys) ≡ min 16 (length xs + length ys)
length_joined xs ys = length-take 16 (xs ++ ys) ∙ ap (min 16) (length-append xs ys)

-- what the proofs of the calls of a pair go by
pub ruleset joining = (first_at, first_after, second_at, second_after, renumbered_blamed, length_joined)

-- a pair obeys the laws of a rig
all_take : {X : Type 0} (P : X → Type 0) (n : ℕ) (xs ys : List X) → AllByRecursion P xs → AllByRecursion P ys → AllByRecursion P (take n (xs ++ ys))
all_take P zero [] [] a b = tt
all_take P zero [] (y ∷ ys) a b = tt
all_take P zero (x ∷ xs) ys a b = tt
all_take P (suc n) [] [] a b = tt
all_take P (suc n) [] (y ∷ ys) a b = (b.0, all_take P n [] ys tt b.1)
all_take P (suc n) (x ∷ xs) ys a b = (a.0, all_take P n xs ys a.1 b)

pub sound_joined : {S : Type 0} (xs ys : List (RigUnit S)) → Sound xs → Sound ys → Sound (joined xs ys)
sound_joined xs ys a b = record { few = few_joined xs ys; each = all_take SoundUnit 16 xs ys a.each b.each }
