-- The three kinds obey the laws of a unit.
use Rattle.std.proofs.Common.{◌≡◌, ℕ, zero, suc, ◌≤◌, List, ℤ, pos, negsuc, true, refl, sym, ap, ◌∙◌, subst, arith}
use Rattle.std.proofs.lemmas.Option.{unwrap_or-slice_get}
use Rattle.std.specs.List.{slice_get}
use Rattle.std.specs.Option.{unwrap_or}
use Rattle.rig.specs.Units.{item}
use Rattle.rig.specs.Laws.{ReadsMasked, SoundRules, Suits}
use Rattle.kinds.specs.declared.kind.Kind.{Kind}
use Rattle.kinds.specs.declared.kind.Kind.TheVariants as kinds
use Rattle.kinds.specs.declared.body.Body.{Body}
use Rattle.kinds.specs.declared.body.Body.TheVariants as bodies
use Rattle.kinds.specs.Rules.{bound_by, gain}
use Rattle.kinds.specs.Contents.{rules_of, kind_of, held_of}
use Rattle.kinds.specs.Owning.{same_kind, of_kind}

same_item : (xs ys : List ℤ) (i : ℕ) → slice_get xs i ≡ slice_get ys i → item xs i ≡ item ys i
same_item xs ys i e = sym (unwrap_or-slice_get xs i (pos 0)) ∙ ap (λ o. unwrap_or o (pos 0)) e ∙ unwrap_or-slice_get ys i (pos 0)

-- the mask of a gain has both inputs
gain_reads : ReadsMasked gain
gain_reads zero l st xs ys lx ly agree =
    let first = same_item xs ys 0 (agree 0 (omega arith) refl) in
    let second = same_item xs ys 1 (agree 1 (omega arith) refl) in
    cc
gain_reads (suc port) l st xs ys lx ly agree = absurd (omega arith)

pub sound_kind : (k : Kind) → SoundRules (rules_of k)
sound_kind kinds.Integrator = record { inputs = omega arith; outputs = omega arith; masks = (omega arith, tt); reads = λ port l st xs ys lx ly agree. refl }
sound_kind kinds.Gain = record { inputs = omega arith; outputs = omega arith; masks = (omega arith, tt); reads = gain_reads }
sound_kind kinds.Constant = record { inputs = omega arith; outputs = omega arith; masks = (omega arith, tt); reads = λ port l st xs ys lx ly agree. refl }

bound_few : (x lo hi : ℤ) (m : ℕ) (u : ℤ) → bound_by x lo hi m u ≤ m
bound_few x lo hi m (pos zero) = omega arith
bound_few x lo hi m (pos (suc n)) = omega arith
bound_few x lo hi m (negsuc n) = omega arith

pub suits : (b : Body) → Suits (rules_of (kind_of b)) (held_of b)
suits (bodies.Integrator i) = record { signals = refl; bound = λ xs l. omega (arith, bound_few i.x i.lo i.hi i.m.ticks (item xs 0), i.m.few) }
suits (bodies.Gain g) = record { signals = g.two; bound = λ xs l. omega arith }
suits (bodies.Constant k) = record { signals = refl; bound = λ xs l. omega arith }

pub same_kind_is : (k l : Kind) → same_kind k l ≡ true → l ≡ k
same_kind_is kinds.Integrator kinds.Integrator e = refl
same_kind_is kinds.Integrator kinds.Gain e = cc
same_kind_is kinds.Integrator kinds.Constant e = cc
same_kind_is kinds.Gain kinds.Integrator e = cc
same_kind_is kinds.Gain kinds.Gain e = refl
same_kind_is kinds.Gain kinds.Constant e = cc
same_kind_is kinds.Constant kinds.Integrator e = cc
same_kind_is kinds.Constant kinds.Gain e = cc
same_kind_is kinds.Constant kinds.Constant e = refl

-- contents of kind k suit its rules
pub suits_own : (k : Kind) (b : Body) → of_kind k b ≡ true → Suits (rules_of k) (held_of b)
suits_own k b e = subst (λ (z : Kind). Suits (rules_of z) (held_of b)) (same_kind_is k (kind_of b) e) (suits b)
