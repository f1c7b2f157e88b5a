-- An RIFF in one without size, after its name.
use Rattle.std.proofs.Common.{◌≡◌, ◌++◌, ℕ, List, refl}
use Rattle.ffv1_reads.proofs.Answered.{answers_next, answers_of, answers_same, answers_tail}
use Rattle.ffv1_avi.specs.Internal.Came.{came_turn, riff_came}
use Rattle.ffv1_avi.specs.Internal.Hears.{further_turn}
use Rattle.ffv1_avi.proofs.turn.read_further.Goals as goal

pub returns-clause-answer : goal.returns-clause-answer
unfolding further_turn
returns-clause-answer g c =
    let more = c.take.new.buf in
    let same : (text : List ℕ) → came_turn c.args.place (riff_came c.args.place more)
    (c.args.name ++ more) text ≡ came_turn c.args.place c.riff_came.result c.joined.result text =
    λ text. rw (c.riff_came.ensures, c.joined.ensures) refl in
    answers_of _ (further_turn c.args.place c.args.name) _ _
    (answers_next _ c.in_ok-take.ensures (answers_same same (answers_tail _ _ _ _ c.finish.ensures.answer)))
