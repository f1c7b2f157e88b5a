-- Reads the line that begins a picture: true, with the input then after it; or false if the input
-- has ended.
use Rattle.std.proofs.Common.{◌≡◌, ◌==◌, ◌<◌, false, get_or, ◌∙◌, ap, arith}
use Rattle.std.proofs.lemmas.Result.{err_from_is_err_and}
use Rattle.std.proofs.lemmas.Grind.{common_steps}
use Rattle.ffv1_y4m.specs.Pictures.{frame_line}
use Rattle.ffv1_wire.specs.Failures.{one_more}
use Rattle.ffv1_y4m.proofs.Frames.{frame_failed, frame_differs, frame_nothing, frame_short}
use Rattle.ffv1_y4m.proofs.Frames.{frame_whole}
use Rattle.ffv1_y4m.proofs.reading.read_frame_line.Goals as goal

pub returns-in_err-byte-clause-answer : goal.returns-in_err-byte-clause-answer
returns-in_err-byte-clause-answer g c =
    let p = err_from_is_err_and c.from_residual.result c.from_residual.ensures.1 in
    let inv = c.loop-place.invariant in
    let new = c.in_err-byte.ensures in
    rw (p.1, p.2) (frame_failed _ _ _ c.loop-place.place _ _ (omega arith) inv.0 new.err
    (new.counted ∙ ap one_more inv.1))

pub returns-in-Some-2-clause-answer : goal.returns-in-Some-2-clause-answer
returns-in-Some-2-clause-answer g c =
    let inv = c.loop-place.invariant in
    let new = rw c.in-Some.is at c.in_ok-byte.ensures.ok in
    let differs : (c.in-Some.byte == get_or frame_line c.loop-place.place 0) ≡ false = grind
    (arith, common_steps, c.if-byte-place.false) in
    frame_differs _ _ _ c.loop-place.place c.in-Some.byte _ _ (omega arith) inv.0 new differs
    (c.in_ok-byte.ensures.counted ∙ inv.1)

pub returns-in-None-clause-answer : goal.returns-in-None-clause-answer
returns-in-None-clause-answer g c =
    let inv = c.loop-place.invariant in
    let new = rw c.in-None.is at c.in_ok-byte.ensures.ok in
    frame_nothing _ _ _ c.loop-place.place _ _ (omega (arith, c.if-place-eq0.true)) inv.0 new.0
    new.1 (c.in_ok-byte.ensures.counted ∙ inv.1)

pub returns-in-None-2-clause-answer : goal.returns-in-None-2-clause-answer
returns-in-None-2-clause-answer g c =
    let inv = c.loop-place.invariant in
    let new = rw c.in-None.is at c.in_ok-byte.ensures.ok in
    let some : 0 < c.loop-place.place = omega (arith, c.if-place-eq0.false) in
    frame_short _ _ _ c.loop-place.place _ _ some (omega arith) inv.0 new.0 new.1
    (c.in_ok-byte.ensures.counted ∙ inv.1)

pub returns-clause-answer : goal.returns-clause-answer
returns-clause-answer g c =
    let inv = c.loop-place.invariant in
    frame_whole _ _ c.loop-place.place _ _ (omega arith) inv.0 inv.1
