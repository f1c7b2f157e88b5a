-- Reads so many bytes, at least one, in place of what the vector has, and makes room for as many in
-- another vector, which is emptied, before the last of them is read.
use Rattle.std.proofs.Common.{◌-◌, ◌∙◌, arith}
use Rattle.std.proofs.lemmas.Grind.{common_steps, elements}
use Rattle.std.proofs.lemmas.Result.{err_from_is_err_and}
use Rattle.ffv1_reads.specs.Reads.{Kept}
use Rattle.ffv1_reads.proofs.LoopReadings.{fill_done, fill_more, fill_refused, wanted_consumed}
use Rattle.ffv1_matroska.proofs.beginning.fill_with_room.Goals as goal

pub returns-in_err-append-clause-answer : goal.returns-in_err-append-clause-answer
returns-in_err-append-clause-answer g c =
    let p = err_from_is_err_and c.from_residual-in_err-append.result
    c.from_residual-in_err-append.ensures.1 in
    let size = c.args.size in
    let read = c.in_ok-fill.ensures.answer in
    let items = c.fill.new.bytes.items in
    let before = wanted_consumed Kept (size - 1) _ _ items read.1 in
    rw (p.1, p.2) (fill_refused _ _ _ items 1 size _ _ _ c.in_err-append.field-0.0
    (omega (arith, c.requires, c.in_ok-fill.ensures.long)) read.0 before
    c.in_err-append.ensures.answer)

pub returns-clause-answer : goal.returns-clause-answer
returns-clause-answer g c =
    let size = c.args.size in
    let read = c.in_ok-fill.ensures.answer in
    let items = c.fill.new.bytes.items in
    let before = wanted_consumed Kept (size - 1) _ _ items read.1 in
    let last = c.in_ok-append.ensures in
    let all = fill_more _ _ _ items c.append.new.bytes.items 1 before last.answer.1 in (
      last.answer.0 ∙ read.0,
      fill_done _ _ c.append.new.bytes.items size
          (omega (arith, c.requires, c.in_ok-fill.ensures.long, last.long)) all,
    )

pub returns-in_err-fill-clause-kept : goal.returns-in_err-fill-clause-kept
returns-in_err-fill-clause-kept g c =
    let p = err_from_is_err_and c.from_residual.result c.from_residual.ensures.1 in
    rw p.1 (grind (arith, common_steps))

pub returns-in_err-reserve_exact-clause-kept : goal.returns-in_err-reserve_exact-clause-kept
returns-in_err-reserve_exact-clause-kept g c =
    let p = err_from_is_err_and c.from_residual-in_err-reserve_exact.result
    c.from_residual-in_err-reserve_exact.ensures.1 in
    rw p.1 (grind (arith, common_steps))

pub returns-in_err-append-clause-kept : goal.returns-in_err-append-clause-kept
returns-in_err-append-clause-kept g c =
    let p = err_from_is_err_and c.from_residual-in_err-append.result
    c.from_residual-in_err-append.ensures.1 in
    rw p.1 (grind (arith, common_steps))

pub returns-clause-kept : goal.returns-clause-kept
returns-clause-kept g c = grind (arith, common_steps)

pub returns-in_err-fill-clause-grown : goal.returns-in_err-fill-clause-grown
returns-in_err-fill-clause-grown g c =
    let p = err_from_is_err_and c.from_residual.result c.from_residual.ensures.1 in
    rw p.1 (grind (arith, common_steps))

pub returns-in_err-reserve_exact-clause-grown : goal.returns-in_err-reserve_exact-clause-grown
returns-in_err-reserve_exact-clause-grown g c =
    let p = err_from_is_err_and c.from_residual-in_err-reserve_exact.result
    c.from_residual-in_err-reserve_exact.ensures.1 in
    rw p.1 (grind (arith, common_steps))

pub returns-in_err-append-clause-grown : goal.returns-in_err-append-clause-grown
returns-in_err-append-clause-grown g c =
    let p = err_from_is_err_and c.from_residual-in_err-append.result
    c.from_residual-in_err-append.ensures.1 in
    rw p.1 (grind (arith, common_steps))

pub returns-clause-grown : goal.returns-clause-grown
returns-clause-grown g c = grind (arith, common_steps)

pub returns-in_err-reserve_exact-clause-answer : goal.returns-in_err-reserve_exact-clause-answer
returns-in_err-reserve_exact-clause-answer g c = grind (arith, elements)
