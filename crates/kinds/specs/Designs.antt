-- Which designs make a unit, and what a new unit holds.
use Rattle.std.specs.Prelude.{◌≡◌, ℕ, Bool, cond, ◌&&◌, [], ◌∷◌, ℤ, pos, negsuc, Some, None, Ok, Err, Option, Result, int_le, nat_le}
use Rattle.rig.specs.Units.{Held}
use Rattle.kinds.specs.declared.kind.Kind.{Kind}
use Rattle.kinds.specs.declared.kind.Kind.TheVariants as kinds
use Rattle.kinds.specs.declared.design.Design.{Design}
use Rattle.kinds.specs.declared.design.Design.TheVariants.{Integrator, Gain, Constant}
use Rattle.kinds.specs.declared.design.DesignFault.{DesignFault}
use Rattle.kinds.specs.declared.design.DesignFault.TheVariants.{StepLimit, FactorA, FactorB, Outside}
use Rattle.kinds.specs.declared.body.Body.{Body}
use Rattle.kinds.specs.declared.body.Body.TheVariants as bodies
use Rattle.kinds.specs.Contents.{kind_of, held_of}

-- a factor of a gain: −1,000 to 1,000
abbrev pub is_factor : ℤ → Bool
is_factor a = int_le (negsuc 999) a && int_le a (pos 1000)

-- the longest step of an integrator: 1 to 1,000,000 ticks
abbrev pub is_step_limit : ℕ → Bool
is_step_limit m = nat_le 1 m && nat_le m 1000000

-- the first cause for which a design makes no unit: ranges from the left, then x outside lo to hi
abbrev pub design_fault : Design → Option DesignFault
design_fault (Integrator x lo hi m) = cond (is_step_limit m) (cond (int_le lo x && int_le x hi) None (Some Outside)) (Some StepLimit)
design_fault (Gain a b k) = cond (is_factor a) (cond (is_factor b) None (Some FactorB)) (Some FactorA)
design_fault (Constant v) = None

abbrev pub kind_as : Design → Kind
kind_as (Integrator x lo hi m) = kinds.Integrator
kind_as (Gain a b k) = kinds.Gain
kind_as (Constant v) = kinds.Constant

-- the state of the design, each input 0
abbrev pub held_as : Design → Held ℤ
held_as (Integrator x lo hi m) = record { state = x ∷ lo ∷ hi ∷ pos m ∷ []; inputs = pos 0 ∷ [] }
held_as (Gain a b k) = record { state = a ∷ b ∷ k ∷ []; inputs = pos 0 ∷ pos 0 ∷ [] }
held_as (Constant v) = record { state = v ∷ []; inputs = [] }

-- the design of a body as it stands
abbrev pub design_of : Body → Design
design_of (bodies.Integrator i) = Integrator i.x i.lo i.hi i.m.ticks
design_of (bodies.Gain g) = Gain g.a.value g.b.value g.c
design_of (bodies.Constant k) = Constant k.v

-- contents made by a design, or the first cause against it
abbrev pub MadeBy : {X : Type 0} → Design → (X → Held ℤ) → Result X DesignFault → Type 0
MadeBy d f (Ok x) = (design_fault d ≡ None) × (f x ≡ held_as d)
MadeBy d f (Err e) = design_fault d ≡ Some e

abbrev pub OfKind : Kind → Result Body DesignFault → Type 0
OfKind k (Ok b) = kind_of b ≡ k
OfKind k (Err e) = Unit {0}

-- a body of the design's kind, with its contents
pub record Made (d : Design) (r : Result Body DesignFault) : Type 0 where
  pub contents : MadeBy d held_of r
  pub kind : OfKind (kind_as d) r
