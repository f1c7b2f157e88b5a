-- Reads the header of a later image: true, with the input then after it; or false if the input has
-- ended.
use Rattle.std.proofs.Common.{sym}
use Rattle.std.proofs.lemmas.Result.{err_from_is_err_and}
use Rattle.ffv1_y4m.proofs.PpmSteps.{begun_failed, later_changed, later_refused, later_same}
use Rattle.ffv1_y4m.proofs.ppm_reading.read_later_header.Goals as goal

pub returns-in_err-byte-clause-answer : goal.returns-in_err-byte-clause-answer
returns-in_err-byte-clause-answer g c =
    let p = err_from_is_err_and c.from_residual.result c.from_residual.ensures.1 in
    rw (p.1, p.2) (begun_failed c.args.most c.args.said.now _ _ _ _ c.in_err-byte.ensures.err
    c.in_err-byte.ensures.counted)

pub returns-in_err-next-clause-answer : goal.returns-in_err-next-clause-answer
returns-in_err-next-clause-answer g c =
    let p = err_from_is_err_and c.from_residual-in_err-next.result
    c.from_residual-in_err-next.ensures.1 in
    let new = rw c.in-Some.is at c.in_ok-byte.ensures.ok in
    rw (p.1, p.2) (later_refused c.args.most c.args.said.now _ _ _ c.in-Some.byte _ _ _
    c.in_err-next.field-0.0 c.in_ok-byte.ensures.counted new c.in_err-next.ensures.answer)

pub returns-then-not-same_format-clause-answer : goal.returns-then-not-same_format-clause-answer
returns-then-not-same_format-clause-answer g c =
    let new = rw c.in-Some.is at c.in_ok-byte.ensures.ok in
    later_changed c.args.most c.args.said.now c.in_ok-next.next _ _ _ c.in-Some.byte _ _ _
    c.in_ok-byte.ensures.counted (sym c.if-not-same_format.ensures) new
    c.in_ok-next.ensures.answer

pub returns-clause-answer : goal.returns-clause-answer
returns-clause-answer g c =
    let new = rw c.in-Some.is at c.in_ok-byte.ensures.ok in
    later_same c.args.most c.args.said.now c.in_ok-next.next _ _ _ c.in-Some.byte _ _ _
    c.in_ok-byte.ensures.counted (sym c.if-not-same_format.ensures) new
    c.in_ok-next.ensures.answer
