-- Reads the line of the greatest sample: its depth, if it has one of at most `most`.
use Rattle.std.proofs.Common.{◌≡◌, ◌≤◌, length, arith}
use Rattle.std.proofs.lemmas.Result.{err_from_is_err_and}
use Rattle.std.proofs.lemmas.Grind.{common_steps}
use Rattle.ffv1_y4m.specs.Header.{line_read}
use Rattle.ffv1_y4m.specs.Reads.{Nowhere}
use Rattle.ffv1_y4m.proofs.PpmSteps.{maximum_stops, room_four, room_six, stands_fresh}
use Rattle.ffv1_y4m.proofs.ppm_reading.read_maximum.Goals as goal

pub returns-in_err-end-clause-answer : goal.returns-in_err-end-clause-answer
returns-in_err-end-clause-answer g c =
    let p = err_from_is_err_and c.from_residual.result c.from_residual.ensures.1 in
    let long : length c.read_line.new.line ≡ 4 = c.read_line.auto.line in
    let few : c.args.most ≤ 8 = omega arith in
    let read = rw long at c.in_err-end.ensures.answer in
    rw (p.1, p.2) (maximum_stops c.args.most 4 _ c.in_err-end.field-0.0 (room_four c.args.most few)
    (stands_fresh (line_read 4) Nowhere _ _ _ _ _ read))

pub returns-in_err-end-2-clause-answer : goal.returns-in_err-end-2-clause-answer
returns-in_err-end-2-clause-answer g c =
    let p = err_from_is_err_and c.from_residual-in_err-end-2.result
    c.from_residual-in_err-end-2.ensures.1 in
    let long : length c.read_line-2.new.line ≡ 6 = c.read_line-2.auto.line in
    let deep : 9 ≤ c.args.most = omega arith in
    let read = rw long at c.in_err-end-2.ensures.answer in
    rw (p.1, p.2) (maximum_stops c.args.most 6 _ c.in_err-end-2.field-0.0
    (room_six c.args.most deep) (stands_fresh (line_read 6) Nowhere _ _ _ _ _ read))

pub returns-clause-answer : goal.returns-clause-answer
returns-clause-answer g c = grind (arith, common_steps)
