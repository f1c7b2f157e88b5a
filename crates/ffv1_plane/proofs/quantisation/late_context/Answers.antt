-- The context of a sample (RFC 9043, 3.5) by the early part of its sum and the samples that the
-- rest takes, as with `context`.
use Rattle.std.proofs.Common.{ℕ, ◌≡◌, ◌+◌, ◌<◌, pos, ◌-ℤ◌}
use Rattle.ffv1_plane.specs.declared.prediction.Around.{Around}
use Rattle.ffv1_plane.specs.Quantisation.{contexts_of}
use Rattle.ffv1_plane.specs.Context.{context_of, size_of}
use Rattle.ffv1_plane.specs.Early.{IsEarly}
use Rattle.ffv1_plane.proofs.Bounds.{size_below}
use Rattle.ffv1_plane.proofs.EarlySums.{late_is, late_of_three}
use Rattle.ffv1_plane.proofs.quantisation.late_context.Given.{Over}
use Rattle.ffv1_plane.proofs.quantisation.late_context.Goals.{After-set, After-unraised}
use Rattle.ffv1_plane.proofs.quantisation.late_context.Goals.{After-unraised-2}
use Rattle.ffv1_plane.proofs.quantisation.late_context.Goals as goal

-- the samples around the place
abbrev around : (l tl ll t tr tt : ℕ) → Around
around l tl ll t tr tt = record { l = l; t = t; tl = tl; tr = tr; ll = ll; tt = tt }

-- their context by three tables, and by five
by_three : (g : Over) (c : After-unraised g) (t tr tt : ℕ) → IsEarly c.args.set.now c.args.tl t tr
    tt c.args.sum → context_of c.args.set.now (around c.args.l c.args.tl c.args.ll t tr tt)
    ≡ pos (c.args.sum + c.raised.result) -ℤ pos 32768
by_three g c t tr tt early =
    let three = rw (← c.set.view_is) at (c.requires.three_tables c.if-three_tables.true) in
    rw (← c.set.view_is) (late_of_three c.set.inside.first c.set.inside.second c.set.inside.third
    c.set.inside.fourth c.set.inside.fifth c.set.inside.half c.set.invariant
    (around c.args.l c.args.tl c.args.ll t tr tt) c.args.sum c.raised.result three
    (rw (← c.set.view_is) at early) c.raised.ensures.value)

by_five : (g : Over) (c : After-unraised-2 g) (t tr tt : ℕ) → IsEarly c.args.set.now c.args.tl t tr
    tt c.args.sum → context_of c.args.set.now (around c.args.l c.args.tl c.args.ll t tr tt)
    ≡ pos (c.args.sum + c.raised.result + c.raised-2.result) -ℤ pos 32768
by_five g c t tr tt early = rw (← c.set.view_is)
    (late_is c.set.inside.first c.set.inside.second c.set.inside.third
    c.set.inside.fourth c.set.inside.fifth c.set.inside.half c.set.invariant
    (around c.args.l c.args.tl c.args.ll t tr tt) c.args.sum c.raised.result c.raised-2.result
    (rw (← c.set.view_is) at early) c.raised.ensures.value c.raised-2.ensures.value)

-- each context is one of the set
below : (g : Over) (c : After-set g) (a : Around) → size_of c.args.set.now a < contexts_of
    c.args.set.now
below g c a = rw (← c.set.view_is) (size_below _ a c.set.invariant.set)

pub returns-then-three_tables : goal.returns-then-three_tables
returns-then-three_tables g c =
    let here = goal.at.returns-then-three_tables g c in
    let is = by_three g here.After-unraised in
    let some = c.requires.early in
    let a = around c.args.l c.args.tl c.args.ll some.t some.tr some.tt in
    record {
      size = λ t tr tt early. c.unraised.ensures.size _ _ (is t tr tt early);
      flip = λ t tr tt early. c.unraised.ensures.flip _ _ (is t tr tt early);
      below = rw (c.unraised.ensures.size c.args.set.now a
          (is some.t some.tr some.tt some.early))
          (below g here.After-set a);
    }

pub returns : goal.returns
returns g c =
    let here = goal.at.returns g c in
    let is = by_five g here.After-unraised-2 in
    let some = c.requires.early in
    let a = around c.args.l c.args.tl c.args.ll some.t some.tr some.tt in
    record {
      size = λ t tr tt early. c.unraised-2.ensures.size _ _ (is t tr tt early);
      flip = λ t tr tt early. c.unraised-2.ensures.flip _ _ (is t tr tt early);
      below = rw (c.unraised-2.ensures.size c.args.set.now a
          (is some.t some.tr some.tt some.early))
          (below g here.After-set a);
    }
