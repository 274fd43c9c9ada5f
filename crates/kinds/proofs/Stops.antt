-- BOUND of an integrator is the longest step, up to m, that keeps it within its stops.
use Rattle.std.proofs.Common.{◌≡◌, ℕ, zero, suc, ◌*◌, ◌/◌, ◌<◌, ◌≤◌, ◌⊎◌, ℤ, pos, negsuc, ◌+ℤ◌, ◌-ℤ◌, ◌≤ℤ◌, sym, subst, inl, inr, le-div_iff_mul-le, arith}
use Rattle.std.proofs.lemmas.Int.{ints}
use Rattle.std.proofs.lemmas.Bool.{cases_lt}
use Rattle.kinds.specs.declared.integrator.Integrator.{Integrator}
use Rattle.kinds.specs.declared.body.Body.{Body}
use Rattle.kinds.specs.declared.body.Body.TheVariants as bodies
use Rattle.kinds.specs.Rules.{Between, Takes, LongestStep, room, bound_by}
use Rattle.kinds.specs.Contents.{TakesStep, bound_body}

-- x and the room above it make hi
room_is : (x hi : ℤ) → x ≤ℤ hi → hi ≡ x +ℤ pos (room (hi -ℤ x))
room_is x hi h = grind (arith, ints)

-- h steps of size n + 1 within the room d
steps_in : (h d n : ℕ) → h ≤ d / suc n → h * suc n ≤ d
steps_in h d n l = (le-div_iff_mul-le {k = suc n} {x = h} {y = d} (omega arith)).0 l

in_steps : (h d n : ℕ) → h * suc n ≤ d → h ≤ d / suc n
in_steps h d n l = (le-div_iff_mul-le {k = suc n} {x = h} {y = d} (omega arith)).1 l

takes : (x lo hi : ℤ) (m : ℕ) (u : ℤ) (h : ℕ) → Between lo x hi → h ≤ bound_by x lo hi m u → Takes x lo hi m u h
takes x lo hi m (pos zero) h w l = record { limit = l; stops = record { above = omega (arith, ints, w.above); below = omega (arith, ints, w.below) } }
takes x lo hi m (pos (suc n)) h w l =
    let r = steps_in h (room (hi -ℤ x)) n (omega arith) in
    let d = room_is x hi w.below in
    record { limit = omega arith; stops = record { above = omega (arith, ints, w.above); below = omega (arith, ints) } }
takes x lo hi m (negsuc n) h w l =
    let r = steps_in h (room (x -ℤ lo)) n (omega arith) in
    let d = room_is lo x w.above in
    record { limit = omega arith; stops = record { above = omega (arith, ints); below = omega (arith, ints, w.below) } }

longest : (x lo hi : ℤ) (m : ℕ) (u : ℤ) (h : ℕ) → Between lo x hi → Takes x lo hi m u h → h ≤ bound_by x lo hi m u
longest x lo hi m (pos zero) h w t = t.limit
longest x lo hi m (pos (suc n)) h w t =
    let d = room_is x hi w.below in
    let b = t.stops.below in
    let r = in_steps h (room (hi -ℤ x)) n (omega (arith, ints)) in
    omega (arith, t.limit)
longest x lo hi m (negsuc n) h w t =
    let d = room_is lo x w.above in
    let b = t.stops.above in
    let r = in_steps h (room (x -ℤ lo)) n (omega (arith, ints)) in
    omega (arith, t.limit)

pub longest_step : (x lo hi : ℤ) (m : ℕ) (u : ℤ) → Between lo x hi → LongestStep x lo hi m u (bound_by x lo hi m u)
longest_step x lo hi m u w = record { takes = λ h l. takes x lo hi m u h w l; longest = λ h t. longest x lo hi m u h w t }

within : (i : Integrator) → Between i.lo i.x i.hi
within i = record { above = i.above; below = i.below }

-- an integrator's body: BOUND is not below a step that it takes, and below any other
pub body_takes : (b : Body) (i : Integrator) (h : ℕ) → b ≡ bodies.Integrator i → TakesStep i h → h ≤ bound_body b
body_takes b i h e t = subst (λ (z : Body). h ≤ bound_body z) (sym e) ((longest_step i.x i.lo i.hi i.m.ticks i.u (within i)).longest h t)

pub body_stays : (b : Body) (i : Integrator) (h : ℕ) → b ≡ bodies.Integrator i → (TakesStep i h → ⊥) → bound_body b < h
body_stays b i h e no_step = subst (λ (z : Body). bound_body z < h) (sym e) (stays (cases_lt (bound_body (bodies.Integrator i)) h)) where
  stays : (bound_body (bodies.Integrator i) < h) ⊎ (h ≤ bound_body (bodies.Integrator i)) → bound_body (bodies.Integrator i) < h
  stays (inl l) = l
  stays (inr l) = absurd (no_step ((longest_step i.x i.lo i.hi i.m.ticks i.u (within i)).takes h l))
