-- What comes of a chunk of which these bytes were read.
use Rattle.std.proofs.Common.{◌≡◌, ℕ, List, Some, refl}
use Rattle.ffv1_reads.specs.Reads.{given}
use Rattle.ffv1_reads.proofs.Answered.{answers_given, answers_ok, answers_same}
use Rattle.ffv1_avi.specs.Internal.Came.{came_turn}
use Rattle.ffv1_avi.proofs.came.finish.Goals as goal

pub returns-in-Fault-clause-answer : goal.returns-in-Fault-clause-answer
returns-in-Fault-clause-answer g c =
    let same : (text : List ℕ) → came_turn c.args.place c.args.came c.args.bytes.now text
    ≡ given (Some c.fault_turn.result) text = λ text. rw (c.in-Fault.is, c.fault_turn.ensures) refl in
    answers_ok (answers_same same answers_given)
