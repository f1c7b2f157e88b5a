-- A chunk dmlh: the first number of the first one that has it is how many frames the file has.
use Rattle.std.proofs.Common.{rules, ◌≡◌, None}
use Rattle.byteorder.specs.Endian.{little_number}
use Rattle.ffv1_reads.proofs.Answered.{answers_err, answers_first, answers_given, answers_next}
use Rattle.ffv1_reads.proofs.Answered.{answers_most, answers_ok}
use Rattle.ffv1_avi.proofs.open.read_total.Goals as goal

pub returns-in_err-pass-3 : goal.returns-in_err-pass-3
returns-in_err-pass-3 g c =
    let none : c.args.frames ≡ None = search rules in
    rw none (answers_err _ _ _ _ c.from_residual-in_err-pass-3.ensures.1
    (answers_most _ c.if-size-lt4.false (answers_next _ c.in_ok-take.ensures
    (answers_first _ _ (rw c.padded-2.ensures at c.in_err-pass-3.ensures)))))

pub returns : goal.returns
returns g c =
    let none : c.args.frames ≡ None = search rules in
    let number : c.read_u32.result ≡ little_number 4 c.take.new.buf = c.read_u32.ensures in
    rw (number, none) (answers_ok (answers_most _ c.if-size-lt4.false
    (answers_next _ c.in_ok-take.ensures (answers_next _
    (rw c.padded-2.ensures at c.in_ok-pass-3.ensures) answers_given))))
