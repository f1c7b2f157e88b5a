-- Reads a line, without its line feed, into the front of `line`, and answers how long it is.
use Rattle.std.proofs.Common.{◌≡◌, ◌≤◌, ◌∙◌, ap, arith, length}
use Rattle.ffv1_wire.specs.Failures.{one_more}
use Rattle.std.proofs.lemmas.Bool.{ne_eqb}
use Rattle.std.proofs.lemmas.Result.{err_from_is_err_and}
use Rattle.ffv1_y4m.proofs.Lines.{without_step, line_step, line_failed, line_ended, line_full}
use Rattle.ffv1_y4m.proofs.Lines.{line_whole, consumes_bare}
use Rattle.ffv1_y4m.proofs.reading.read_line.Goals as goal

pub returns-in-Some-eq10-clause-answer : goal.returns-in-Some-eq10-clause-answer
returns-in-Some-eq10-clause-answer g c =
    let inv = c.loop-len.invariant in
    let new = rw (c.in-Some-eq10.is, c.in-Some-eq10.field-0-test) at c.in_ok-next_byte.ensures.ok in
    line_whole _ _ _ c.loop-len.line c.loop-len.len _ _ (omega arith) inv.0 inv.1 new
    (c.in_ok-next_byte.ensures.counted ∙ inv.2)

pub returns-in-None-clause-answer : goal.returns-in-None-clause-answer
returns-in-None-clause-answer g c =
    let inv = c.loop-len.invariant in
    let new = rw c.in-None.is at c.in_ok-next_byte.ensures.ok in
    line_ended _ _ _ c.loop-len.line c.loop-len.len _ _ (omega arith) inv.0 inv.1 new.0 new.1
    (c.in_ok-next_byte.ensures.counted ∙ inv.2)

pub loop-len-preserved : goal.loop-len-preserved
loop-len-preserved g c =
    let inv = c.loop-len.invariant in
    let new = rw c.in-Some.is at c.in_ok-next_byte.ensures.ok in
    let taken = c.in_ok-next_byte.ensures.taken in (
      rw taken (line_step _ _ _ c.loop-len.line c.loop-len.len c.in-Some.byte (omega arith) inv.0
          new),
      without_step c.loop-len.line c.loop-len.len c.in-Some.byte (omega arith) inv.1
          (ne_eqb _ _ c.in-Some.byte-test.1),
      c.in_ok-next_byte.ensures.counted ∙ inv.2,
      λ _. taken,
    )

pub returns-in_err-next_byte-clause-answer : goal.returns-in_err-next_byte-clause-answer
returns-in_err-next_byte-clause-answer g c =
    let p = err_from_is_err_and c.from_residual.result c.from_residual.ensures.1 in
    let inv = c.loop-len.invariant in
    let new = c.in_err-next_byte.ensures in
    rw (p.1, p.2) (line_failed _ _ _ c.loop-len.line c.loop-len.len _ _ (omega arith) inv.0 inv.1
    new.err (new.counted ∙ ap one_more inv.2))

pub returns-clause-answer : goal.returns-clause-answer
returns-clause-answer g c =
    let inv = c.loop-len.invariant in
    let all : c.loop-len.len ≡ length c.loop-len.line = omega arith in
    let some : 1 ≤ c.loop-len.len = omega arith in
    let before = rw (inv.3 some) at inv.0 in
    line_full _ _ c.loop-len.line c.loop-len.len _ _ all (consumes_bare _ _ _ before) inv.1 inv.2
