-- The next chunk in an RIFF or a movi without size; None at the end of the input.
use Rattle.std.proofs.Common.{◌≡◌, ℕ, List, Option, true, false, codes, refl, sym}
use Rattle.ffv1_reads.proofs.Reading.{goes_none, goes_same}
use Rattle.ffv1_avi.specs.Internal.Hears.{further_turn, named_turn, open_named_turn, open_turn}
use Rattle.ffv1_avi.specs.Opens.{named_or_end, or_end}
use Rattle.ffv1_avi.specs.Walk.{is_name}
use Rattle.ffv1_avi.specs.declared.course.Turn.{Turn}
use Rattle.ffv1_avi.specs.declared.place.Extent.TheVariants.{EveryRiff}
use Rattle.ffv1_avi.proofs.EndReadings.{none_read}
use Rattle.ffv1_avi.proofs.TurnAnswers.{every_last}
use Rattle.ffv1_avi.proofs.turn.read_open.Goals as goal

pub returns-then-is_name-clause-answer : goal.returns-then-is_name-clause-answer
unfolding open_turn
returns-then-is_name-clause-answer g c =
    let place = c.args.place in
    let name = c.in-Some.name in
    let here = none_read EveryRiff (named_or_end place.owed) (or_end (open_named_turn place)) _ _ name
    (goes_none (open_turn place) _ _) (rw c.in-Some.is at c.in_ok-name.ensures.answer) in
    let test : is_name name (codes "RIFF") ≡ true = sym c.if-is_name.ensures in
    let same : (text : List ℕ) → open_named_turn place name text ≡ further_turn place name text =
    λ text. rw test refl in
    every_last (further_turn place name) (λ (t : Option Turn). t) _ _ c.read_further.result
    (goes_same _ _ same here) c.read_further.ensures.answer

pub returns-clause-answer : goal.returns-clause-answer
unfolding open_turn
returns-clause-answer g c =
    let place = c.args.place in
    let name = c.in-Some.name in
    let here = none_read EveryRiff (named_or_end place.owed) (or_end (open_named_turn place)) _ _ name
    (goes_none (open_turn place) _ _) (rw c.in-Some.is at c.in_ok-name.ensures.answer) in
    let test : is_name name (codes "RIFF") ≡ false = sym c.if-is_name.ensures in
    let same : (text : List ℕ) → open_named_turn place name text ≡ named_turn place name text =
    λ text. rw test refl in
    every_last (named_turn place name) (λ (t : Option Turn). t) _ _ c.read_named.result
    (goes_same _ _ same here) c.read_named.ensures.answer
