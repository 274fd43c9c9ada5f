-- What every rig owes of its units at all times.
use Rattle.std.specs.Prelude.{◌≡◌, ℕ, ◌/◌, ◌%◌, ◌^◌, ◌<◌, ◌≤◌, List, length, ℤ, Some, None, Option, slice_index}
use Rattle.std.specs.List.{slice_get, AllByRecursion}
use Rattle.rig.specs.Units.{Rules, Held, RigUnit}

-- bit i of a mask: 0 or 1
abbrev pub bit : ℕ → ℕ → ℕ
bit mask i = mask / 2 ^ i % 2

-- two lists of inputs agree on the inputs in a mask
abbrev pub AgreeOn : {S : Type 0} → ℕ → ℕ → List S → List S → Type 0
AgreeOn mask inputs xs ys = (i : ℕ) → i < inputs → bit mask i ≡ 1 → slice_get xs i ≡ slice_get ys i

-- OUT reads only the inputs in the output's mask
abbrev pub ReadsMasked : {S : Type 0} → Rules S → Type 0
ReadsMasked {S} k = (port : ℕ) → port < length k.masks → (st : List ℤ) (xs ys : List S) → length xs ≡ k.inputs → length ys ≡ k.inputs
    → AgreeOn (slice_index k.masks port) k.inputs xs ys → k.out port st xs ≡ k.out port st ys

-- contents that suit the rules: one signal for each input, and BOUND at most 1,000,000 whatever the inputs are
pub record Suits {S : Type 0} (k : Rules S) (a : Held S) : Type 0 where
  pub signals : length a.inputs ≡ k.inputs
  pub bound : (xs : List S) → length xs ≡ k.inputs → k.bound a.state xs ≤ 1000000

abbrev pub SuitsIn : {S : Type 0} → Rules S → Option (Held S) → Type 0
SuitsIn k None = Unit {0}
SuitsIn k (Some a) = Suits k a

-- rules that a rig can serve: at most 8 inputs and 8 outputs, masks of 8 bits, and OUT reads only what the masks say
pub record SoundRules {S : Type 0} (k : Rules S) : Type 0 where
  pub inputs : k.inputs ≤ 8
  pub outputs : length k.masks ≤ 8
  pub masks : AllByRecursion (λ m. m < 256) k.masks
  pub reads : ReadsMasked k

pub record SoundUnit {S : Type 0} (x : RigUnit S) : Type 0 where
  pub rules : SoundRules x.rules
  pub four : length x.places ≡ 4
  pub held : SuitsIn x.rules x.held
  pub kept : AllByRecursion (SuitsIn x.rules) x.places

pub record Sound {S : Type 0} (us : List (RigUnit S)) : Type 0 where
  pub few : length us ≤ 16
  pub each : AllByRecursion SoundUnit us
