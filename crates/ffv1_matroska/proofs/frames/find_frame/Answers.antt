-- The size of the next frame, and the place after it, except its sum; None at the end.
use Rattle.std.proofs.Common.{refl, arith}
use Rattle.std.proofs.lemmas.Result.{err_from_is_err_and}
use Rattle.ffv1_reads.proofs.Reading.{goes_none}
use Rattle.ffv1_matroska.specs.Files.{found_or_on, frame_found, frame_found_up_to}
use Rattle.ffv1_matroska.specs.Places.{amount}
use Rattle.ffv1_matroska.specs.Segments.{step_read}
use Rattle.ffv1_reads.proofs.EndReadings.{none_ends, none_given, none_read, none_refused_end}
use Rattle.ffv1_matroska.proofs.Steps.{fewer}
use Rattle.ffv1_reads.proofs.EndReadings.{some_read}
use Rattle.ffv1_reads.proofs.OffsetLaws.{reads_more, reads_none, stops_after}
use Rattle.ffv1_matroska.specs.Offsets.{element_taken}
use Rattle.ffv1_matroska.specs.Seen.{seen_taken}
use Rattle.ffv1_matroska.proofs.SeenElements.{seen_found, seen_read, seen_step}
use Rattle.ffv1_matroska.proofs.ElementReadings.{element_read, element_refused}
use Rattle.ffv1_reads.proofs.EndReadings.{none_err}
use Rattle.ffv1_matroska.proofs.frames.find_frame.Goals as goal

pub loop-next-init : goal.loop-next-init
loop-next-init g c =
    let place = c.args.place in (
      amount place,
      omega arith,
      omega arith,
      goes_none (frame_found c.args.track place)
          (g.R.ByteIn.remaining c.args.input.now) (g.R.ByteIn.failures c.args.input.now),
      0,
      reads_none (element_taken c.args.track) place _,
      refl,
      0,
      reads_none (seen_taken c.args.track) (place, c.args.seen.now) _,
    )

pub returns-in_err-next-clause-answer : goal.returns-in_err-next-clause-answer
unfolding frame_found_up_to
returns-in_err-next-clause-answer g c = none_err _ _ _ _ _ c.from_residual.ensures.1
    (none_refused_end _ _ _ _ _ (λ text. refl) c.loop-next.invariant.3 c.in_err-next.ensures.answer)

pub returns-in-Some-frame-clause-answer : goal.returns-in-Some-frame-clause-answer
unfolding frame_found_up_to
returns-in-Some-frame-clause-answer g c =
    let next = none_read _ _ _ _ c.in-Some.next c.loop-next.invariant.3
    (rw c.in-Some.is at c.in_ok-next.ensures.answer) in
    none_given _ (rw c.in-Some-frame.is at next)

pub loop-next-preserved : goal.loop-next-preserved
unfolding frame_found_up_to
loop-next-preserved g c =
    let inv = c.loop-next.invariant in
    let s = c.in-Some.next in
    let next = none_read (step_read c.args.track c.loop-next.here)
    (found_or_on (frame_found_up_to inv.0 c.args.track)) _ _ s inv.3
    (rw c.in-Some.is at c.in_ok-next.ensures.answer) in
    let less = rw c.in-Some.is at c.in_ok-next.ensures.less in
    let cued = rw (c.in-Some.is, inv.6) at c.in_ok-next.ensures.cued in
    let f = fewer inv.0 (amount s.place) (amount c.loop-next.here) inv.1 less in
    let read = element_read c.args.track c.loop-next.here s _ _ c.in_default-frame.is
    (some_read (step_read c.args.track c.loop-next.here) _ _ s
    (rw c.in-Some.is at c.in_ok-next.ensures.answer).1) in
    let seen = seen_step c.args.track c.loop-next.here c.loop-next.seen _ s _ _ cued in
    rw c.timed_by.ensures (
      f.0,
      f.1,
      omega (arith, less, inv.2),
      rw f.2 at (rw c.in_default-frame.is at next),
      _,
      reads_more _ inv.5 read refl,
      refl,
      _,
      reads_more _ inv.8 (seen_read c.args.track c.loop-next.here _ _ s _ _ c.in_default-frame.is seen)
          refl,
    )

pub returns-clause-answer : goal.returns-clause-answer
unfolding frame_found_up_to
returns-clause-answer g c = none_ends _ _ _ _ (λ text. refl) c.loop-next.invariant.3
    (rw c.in_default.is at c.in_ok-next.ensures.answer)

pub returns-in-Some-frame-clause-less : goal.returns-in-Some-frame-clause-less
returns-in-Some-frame-clause-less g c =
    let inv = c.loop-next.invariant in
    let less = rw c.in-Some.is at c.in_ok-next.ensures.less in
    omega (arith, less, inv.2)

pub returns-in_err-next-clause-from : goal.returns-in_err-next-clause-from
returns-in_err-next-clause-from g c =
    let p = err_from_is_err_and c.from_residual.result c.from_residual.ensures.1 in
    let inv = c.loop-next.invariant in
    rw (p.1, p.2) (
      inv.4,
      stops_after _ c.in_err-next.field-0.0 inv.3.same inv.5
          (element_refused c.args.track c.loop-next.here _ _ _ _ c.in_err-next.field-0.0
          c.in_err-next.ensures.answer),
    )

pub returns-in-Some-frame-clause-from : goal.returns-in-Some-frame-clause-from
returns-in-Some-frame-clause-from g c =
    let inv = c.loop-next.invariant in
    let s = c.in-Some.next in
    let read = some_read (step_read c.args.track c.loop-next.here) _ _ s
    (rw c.in-Some.is at c.in_ok-next.ensures.answer).1 in
    (_, inv.4, inv.5, s.time, rw c.in-Some-frame.is at read)

pub returns-in_err-next-clause-seen : goal.returns-in_err-next-clause-seen
returns-in_err-next-clause-seen g c =
    let p = err_from_is_err_and c.from_residual.result c.from_residual.ensures.1 in rw (p.1) tt

pub returns-in-Some-frame-clause-seen : goal.returns-in-Some-frame-clause-seen
returns-in-Some-frame-clause-seen g c =
    let inv = c.loop-next.invariant in
    let s = c.in-Some.next in
    let cued = rw (c.in-Some.is, inv.6) at c.in_ok-next.ensures.cued in
    let seen = seen_step c.args.track c.loop-next.here c.loop-next.seen _ s _ _ cued in
    rw c.timed_by.ensures (
      _,
      inv.7,
      c.loop-next.seen,
      s.time,
      inv.8,
      seen_found c.args.track _ _ s _ _ _
          c.in-Some-frame.is seen,
    )

pub returns-clause-seen : goal.returns-clause-seen
returns-clause-seen g c =
    let inv = c.loop-next.invariant in
    (_, inv.7, inv.8, (rw c.in_default.is at c.in_ok-next.ensures.answer).1)
