-- The configuration of a record (RFC 9043, 4.3), for pictures of a size that the container tells,
-- checked in a profile, which it keeps.
use Rattle.std.proofs.Common.{arith, inr}
use Rattle.ffv1_record.specs.Accepted.{deepest}
use Rattle.ffv1_record.specs.Reading.{IsRefused}
use Rattle.ffv1_record.proofs.CallsGive.{told}
use Rattle.ffv1_record.proofs.read.read_record_in.Goals as goal

pub returns-in_err-judge_record-clause-exact : goal.returns-in_err-judge_record-clause-exact
returns-in_err-judge_record-clause-exact g c = told _ c.from_residual.result
    c.from_residual.ensures.1 (inr c.in_err-judge_record.ensures.refused)

pub returns-in_err-judge_record-clause-memory : goal.returns-in_err-judge_record-clause-memory
returns-in_err-judge_record-clause-memory g c = told _ c.from_residual.result
    c.from_residual.ensures.1 (λ memory. absurd (c.in_err-judge_record.ensures.told memory))

pub returns-in_err-judge_record-clause-run : goal.returns-in_err-judge_record-clause-run
returns-in_err-judge_record-clause-run g c = told _ c.from_residual.result
    c.from_residual.ensures.1 (λ memory. absurd (c.in_err-judge_record.ensures.told memory))

pub returns-in_err-judge_record-clause-sound : goal.returns-in_err-judge_record-clause-sound
returns-in_err-judge_record-clause-sound g c = told _ c.from_residual.result
    c.from_residual.ensures.1 (λ memory. absurd (c.in_err-judge_record.ensures.told memory))

pub returns-in_err-judge_record-clause-only : goal.returns-in_err-judge_record-clause-only
returns-in_err-judge_record-clause-only g c = λ x t wide high low is passes stored.
    let refused : IsRefused c.args.profile (deepest c.args.profile c.args.most) c.args.bytes.now
    x.width x.height c.in_err-judge_record.field-0.0 =
    rw (wide, high) c.in_err-judge_record.ensures.refused in
    absurd (c.bytes_are_refused_for_one_reason.ensures.none c.args.profile
    (deepest c.args.profile c.args.most) c.args.bytes.now x t _
    (λ k. omega (arith, c.type_inv.bytes k)) is passes low stored refused)

pub returns-in-Err-clause-sound : goal.returns-in-Err-clause-sound
returns-in-Err-clause-sound g c = λ memory. c.in_ok-judge_record.ensures.sound
