-- The size and the form of an RIFF, after its name, where one may begin.
use Rattle.std.proofs.Common.{◌≡◌, ◌++◌, ℕ, List, Option, refl, arith}
use Rattle.std.proofs.lemmas.Bool.{le-ltb}
use Rattle.ffv1_reads.proofs.Reading.{goes_none, goes_same}
use Rattle.ffv1_avi.specs.Internal.Came.{came_turn, riff_came}
use Rattle.ffv1_avi.specs.Internal.Hears.{entered_turn}
use Rattle.ffv1_avi.specs.Opens.{or_end, taken_or_end}
use Rattle.ffv1_avi.specs.declared.course.Turn.{Turn}
use Rattle.ffv1_avi.specs.declared.place.Extent.TheVariants.{EveryRiff}
use Rattle.ffv1_avi.proofs.EndReadings.{none_read}
use Rattle.ffv1_avi.proofs.TurnAnswers.{every_last}
use Rattle.ffv1_avi.proofs.turn.read_entered.Goals as goal

pub returns : goal.returns
returns g c =
    let place = c.args.place in
    let more = c.take_some.new.bytes in
    let answer = rw (le-ltb c.in_ok-n.n 8 (omega (arith, c.if-n-lt8.false))) at
    c.in_ok-n.ensures.answer in
    let here = none_read EveryRiff (taken_or_end 8 place.owed)
    (or_end (λ more. came_turn place (riff_came place more) (c.args.name ++ more))) _ _ more
    (goes_none (entered_turn place c.args.name) _ _) answer in
    let same : (text : List ℕ) → came_turn place (riff_came place more) (c.args.name ++ more) text
    ≡ came_turn place c.riff_came.result c.joined.result text = λ text. rw
    (c.riff_came.ensures, c.joined.ensures) refl in
    every_last (came_turn place c.riff_came.result c.joined.result) (λ (t : Option Turn). t) _ _
    c.finish.result (goes_same _ _ same here) c.finish.ensures.answer
