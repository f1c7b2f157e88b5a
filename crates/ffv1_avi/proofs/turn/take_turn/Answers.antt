-- The next turn, by what is pending; None at the end.
use Rattle.std.proofs.Common.{◌≡◌, ℕ, List, Option, refl}
use Rattle.ffv1_reads.proofs.Reading.{goes_none, goes_same}
use Rattle.ffv1_avi.specs.Internal.Hears.{heard_turn}
use Rattle.ffv1_avi.specs.Turns.{turn_read}
use Rattle.ffv1_avi.specs.declared.course.Turn.{Turn}
use Rattle.ffv1_avi.specs.declared.place.Extent.TheVariants.{EveryRiff}
use Rattle.ffv1_avi.proofs.EndReadings.{none_last}
use Rattle.ffv1_avi.proofs.EndedTurns.{in_any}
use Rattle.ffv1_avi.proofs.HeardOpens.{chunk_heard}
use Rattle.ffv1_avi.proofs.turn.take_turn.Goals as goal

pub returns-in-Nothing-clause-answer : goal.returns-in-Nothing-clause-answer
unfolding turn_read
returns-in-Nothing-clause-answer g c =
    let same : (text : List ℕ) → turn_read c.args.pending c.args.place text
    ≡ heard_turn c.args.place text = λ text. rw c.in-Nothing.is (chunk_heard c.args.place text) in
    none_last EveryRiff (heard_turn c.args.place) (λ (t : Option Turn). t) _ _ c.read_chunk.result
    (goes_same _ _ same (goes_none (turn_read c.args.pending c.args.place) _ _)) c.read_chunk.ensures.answer

pub returns-in-Nothing-clause-some : goal.returns-in-Nothing-clause-some
returns-in-Nothing-clause-some g c = rw c.in-Nothing.is c.read_chunk.ensures.some

pub returns-in-Passing-clause-some : goal.returns-in-Passing-clause-some
returns-in-Passing-clause-some g c = rw c.in-Passing.is
    (in_any c.read_passed.result (λ text is. refl))

pub returns-in-Seeking-clause-some : goal.returns-in-Seeking-clause-some
returns-in-Seeking-clause-some g c = rw c.in-Seeking.is
    (in_any c.seek_turn.result (λ text is. refl))
