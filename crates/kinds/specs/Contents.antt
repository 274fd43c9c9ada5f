-- What a body of each kind says in the words of the rules.
use Rattle.std.specs.Prelude.{◌≡◌, ℕ, ◌<◌, ◌≤◌, [], ◌∷◌, ℤ, pos, ◌+ℤ◌, ◌*ℤ◌, Option, MatchOption, slice_set}
use Rattle.rig.specs.Units.{Rules, Held}
use Rattle.kinds.specs.declared.kind.Kind.{Kind}
use Rattle.kinds.specs.declared.kind.Kind.TheVariants as kinds
use Rattle.kinds.specs.declared.integrator.Integrator.{Integrator}
use Rattle.kinds.specs.declared.gain.Gain.{Gain}
use Rattle.kinds.specs.declared.constant.Constant.{Constant}
use Rattle.kinds.specs.declared.body.Body.{Body}
use Rattle.kinds.specs.declared.body.Body.TheVariants as bodies
use Rattle.kinds.specs.Rules.{Takes, integrator, gain, constant}

abbrev pub integrator_held : Integrator → Held ℤ
integrator_held i = record { state = i.x ∷ i.lo ∷ i.hi ∷ pos i.m.ticks ∷ []; inputs = i.u ∷ [] }

abbrev pub gain_held : Gain → Held ℤ
gain_held g = record { state = g.a.value ∷ g.b.value ∷ g.c ∷ []; inputs = g.inputs }

abbrev pub constant_held : Constant → Held ℤ
constant_held k = record { state = k.v ∷ []; inputs = [] }

-- an integrator takes h ticks: neither m nor a stop comes first
abbrev pub TakesStep : Integrator → ℕ → Type 0
TakesStep i h = Takes i.x i.lo i.hi i.m.ticks i.u h

-- an integrator moved by h ticks, or none where it does not take them
abbrev pub Advanced : Integrator → ℕ → Option Integrator → Type 0
Advanced i h r = MatchOption r (TakesStep i h → ⊥)
    (λ j. TakesStep i h × (integrator_held j ≡ record { state = (i.x +ℤ i.u *ℤ pos h) ∷ i.lo ∷ i.hi ∷ pos i.m.ticks ∷ []; inputs = i.u ∷ [] }))

abbrev pub rules_of : Kind → Rules ℤ
rules_of kinds.Integrator = integrator
rules_of kinds.Gain = gain
rules_of kinds.Constant = constant

abbrev pub kind_of : Body → Kind
kind_of (bodies.Integrator i) = kinds.Integrator
kind_of (bodies.Gain g) = kinds.Gain
kind_of (bodies.Constant k) = kinds.Constant

abbrev pub held_of : Body → Held ℤ
held_of (bodies.Integrator i) = integrator_held i
held_of (bodies.Gain g) = gain_held g
held_of (bodies.Constant k) = constant_held k

-- OUT, BOUND and NEXT at a body
abbrev pub out_by : Body → ℤ
out_by b = (rules_of (kind_of b)).out 0 (held_of b).state (held_of b).inputs

abbrev pub bound_body : Body → ℕ
bound_body b = (rules_of (kind_of b)).bound (held_of b).state (held_of b).inputs

abbrev pub next_by : Body → ℕ → Held ℤ
next_by b h = record { state = (rules_of (kind_of b)).next (held_of b).state (held_of b).inputs h; inputs = (held_of b).inputs }

-- a body of the kind of b that holds a
pub record Becomes (b : Body) (a : Held ℤ) (after : Body) : Type 0 where
  pub kind : kind_of after ≡ kind_of b
  pub held : held_of after ≡ a

-- a body moved by NEXT, or none where BOUND is less than h
abbrev pub Nexts : Body → ℕ → Option Body → Type 0
Nexts b h r = MatchOption r (bound_body b < h) (λ after. (h ≤ bound_body b) × Becomes b (next_by b h) after)

-- one input set; a port that is no input sets none
abbrev pub fed_by : Body → ℕ → ℤ → Held ℤ
fed_by b port v = record { state = (held_of b).state; inputs = slice_set (held_of b).inputs port v }
