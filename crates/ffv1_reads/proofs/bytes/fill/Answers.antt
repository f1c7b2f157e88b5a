-- Reads `size` bytes in place of what the vector has.
use Rattle.std.proofs.Common.{◌+◌, ◌≤◌, ◌∙◌, length, arith}
use Rattle.std.proofs.lemmas.Grind.{common_steps}
use Rattle.std.proofs.lemmas.Result.{err_from_is_err_and}
use Rattle.ffv1_reads.proofs.LoopReadings.{fill_begins, fill_more, fill_refused}
use Rattle.ffv1_reads.proofs.bytes.fill.Goals as goal

pub returns-in_err-append-clause-answer : goal.returns-in_err-append-clause-answer
returns-in_err-append-clause-answer g c =
    let p = err_from_is_err_and c.from_residual.result c.from_residual.ensures.1 in
    let inv = c.loop-bytes.invariant in
    let room : length c.loop-bytes.bytes.items + c.min-more.result ≤ c.args.size =
    omega (arith, inv.0, c.min-more.ensures, c.len-done.ensures) in
    rw (p.1, p.2) (fill_refused _ _ _ c.loop-bytes.bytes.items c.min-more.result c.args.size _ _ _
    c.in_err-append.field-0.0 room inv.1 inv.2 c.in_err-append.ensures.answer)

pub returns-in_err-append-clause-err : goal.returns-in_err-append-clause-err
returns-in_err-append-clause-err g c =
    let p = err_from_is_err_and c.from_residual.result c.from_residual.ensures.1 in
    let inv = c.loop-bytes.invariant in
    let room : length c.loop-bytes.bytes.items + c.min-more.result ≤ c.args.size =
    omega (arith, inv.0, c.min-more.ensures, c.len-done.ensures) in
    rw p.1 (fill_begins _ _ c.loop-bytes.bytes.items _ c.min-more.result c.args.size room inv.2
    c.in_err-append.ensures.err)

pub loop-bytes-preserved : goal.loop-bytes-preserved
loop-bytes-preserved g c =
    let inv = c.loop-bytes.invariant in
    let h = c.in_ok-append.ensures in (
      omega (arith, h.long, c.min-more.ensures, c.len-done.ensures),
      h.answer.0 ∙ inv.1,
      fill_more _
          _ _ c.loop-bytes.bytes.items c.append.new.bytes.items c.min-more.result inv.2 h.answer.1,
      grind (arith, common_steps),
    )

pub returns-in_err-append-clause-room : goal.returns-in_err-append-clause-room
returns-in_err-append-clause-room g c =
    let p = err_from_is_err_and c.from_residual.result c.from_residual.ensures.1 in
    rw p.1 (grind (arith, common_steps))

pub returns-clause-room : goal.returns-clause-room
returns-clause-room g c = grind (arith, common_steps)

pub returns-in_err-append-clause-limit : goal.returns-in_err-append-clause-limit
returns-in_err-append-clause-limit g c =
    let inv = c.loop-bytes.invariant in
    let within : length c.loop-bytes.bytes.items + c.min-more.result ≤ c.args.size =
    omega (arith, inv.0, c.min-more.ensures, c.len-done.ensures) in
    grind (arith, common_steps)

pub returns-clause-limit : goal.returns-clause-limit
returns-clause-limit g c = grind (arith, common_steps)
