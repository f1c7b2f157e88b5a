-- `count_riff`: the same, which counts its first twelve bytes if there is one.
use Rattle.std.proofs.Common.{refl}
use Rattle.ffv1_avi.specs.declared.place.Extent.TheVariants.{EveryRiff}
use Rattle.ffv1_avi.specs.Files.{riff_begun}
use Rattle.ffv1_avi.proofs.EndReadings.{some_read}
use Rattle.ffv1_avi.proofs.RiffReadings.{next_reached, next_refused, stops_here}
use Rattle.ffv1_avi.proofs.TakenBytes.{told_after}
use Rattle.ffv1_avi.proofs.riff.count_riff.Goals as goal

pub returns-in-Ok-Some-clause-from : goal.returns-in-Ok-Some-clause-from
returns-in-Ok-Some-clause-from g c = λ known more. next_reached c.args.place c.in-Ok-Some.next known more
    (some_read EveryRiff (riff_begun c.args.place) _ _ c.in-Ok-Some.next
    (rw c.in-Ok-Some.field-0-is at c.in-Ok-Some.ensures.answer).1) c.saturating_add.ensures

pub returns-in-Err-clause-from : goal.returns-in-Err-clause-from
returns-in-Err-clause-from g c = λ known more. stops_here c.in-Err.fault
    (next_refused c.args.place _ _ _ _ c.in-Err.fault known more c.in-Err.ensures.answer)

pub returns-in-Ok-None-clause-told : goal.returns-in-Ok-None-clause-told
returns-in-Ok-None-clause-told g c = λ none. rw c.if_some.ensures
    (told_after c.begin_riff.new.some _ _ _
    (rw c.in-Ok-None.field-0-is at c.in-Ok-None.ensures.told refl))
