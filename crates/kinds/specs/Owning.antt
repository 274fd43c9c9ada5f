-- Contents that are a unit's own: those of its kind.
use Rattle.std.specs.Prelude.{Bool, true, false}
use Rattle.kinds.specs.declared.kind.Kind.{Kind}
use Rattle.kinds.specs.declared.kind.Kind.TheVariants.{Integrator, Gain, Constant}
use Rattle.kinds.specs.declared.body.Body.{Body}
use Rattle.kinds.specs.Contents.{kind_of}

abbrev pub same_kind : Kind → Kind → Bool
same_kind Integrator Integrator = true
same_kind Integrator Gain = false
same_kind Integrator Constant = false
same_kind Gain Integrator = false
same_kind Gain Gain = true
same_kind Gain Constant = false
same_kind Constant Integrator = false
same_kind Constant Gain = false
same_kind Constant Constant = true

abbrev pub of_kind : Kind → Body → Bool
of_kind k b = same_kind k (kind_of b)
