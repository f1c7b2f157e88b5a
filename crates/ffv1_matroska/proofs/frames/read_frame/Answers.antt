-- The next frame in place of what the vector has, and the place after it; None at the end.
use Rattle.std.proofs.Common.{◌≡◌, ◌∙◌, ℕ, List, Option, Some, true, false, refl, sym, arith}
use Rattle.std.proofs.lemmas.Grind.{common_steps}
use Rattle.std.proofs.lemmas.Result.{err_from_is_err_and}
use Rattle.ffv1_reads.specs.Reads.{Reading, given, refused}
use Rattle.ffv1_reads.specs.declared.fault.FileFault.TheVariants as fault
use Rattle.ffv1_reads.proofs.Reading.{faults_here, goes_fault, goes_none, goes_read, goes_same}
use Rattle.ffv1_ebml.specs.declared.sum.Sum.{Sum}
use Rattle.ffv1_matroska.specs.Files.{found_read, frame_found, frame_read}
use Rattle.ffv1_matroska.specs.Places.{closed, is_sound, summed_at}
use Rattle.ffv1_matroska.specs.declared.place.Place.{Place}
use Rattle.ffv1_reads.proofs.EndReadings.{none_ends, none_given, none_read, none_refused}
use Rattle.ffv1_reads.proofs.EndReadings.{none_refused_end, some_read}
use Rattle.ffv1_matroska.proofs.FoundFrames.{begins_all, leaves_begun}
use Rattle.ffv1_reads.proofs.OffsetLaws.{reads_more, stops_after}
use Rattle.ffv1_matroska.proofs.SeenElements.{seen_whole}
use Rattle.ffv1_matroska.proofs.ElementReadings.{frame_differs, frame_refused, frame_whole}
use Rattle.ffv1_reads.proofs.EndReadings.{none_err}
use Rattle.ffv1_matroska.proofs.frames.read_frame.Goals as goal

abbrev behind : Place → List ℕ × Sum → Reading (Option (List ℕ × Place))
behind after q = closed (Some (q.0, summed_at after q.1)) (summed_at after q.1)

pub returns-in_err-size-clause-answer : goal.returns-in_err-size-clause-answer
returns-in_err-size-clause-answer g c = none_err _ _ _ _ _ c.from_residual.ensures.1
    (none_refused_end _ _ _ _ _ (λ text. refl) (goes_none
    (frame_read c.args.track c.args.place) _ _) c.in_err-size.ensures.answer)

pub returns-in_default-clause-answer : goal.returns-in_default-clause-answer
returns-in_default-clause-answer g c = none_ends _ _ _ _ (λ text. refl)
    (goes_none (frame_read c.args.track c.args.place) _ _)
    (rw c.in_default.is at c.in_ok-size.ensures.answer)

pub returns-in_err-fill_summed-clause-answer : goal.returns-in_err-fill_summed-clause-answer
returns-in_err-fill_summed-clause-answer g c = none_err _ _ _ _ _
    c.from_residual-in_err-fill_summed.ensures.1 (none_refused _ _ _ _ _ (none_read _ _ _ _ _
    (goes_none _ _ _) (rw c.in-Some.is at c.in_ok-size.ensures.answer))
    c.in_err-fill_summed.ensures.answer)

pub returns-in_err-fill_summed-clause-err : goal.returns-in_err-fill_summed-clause-err
returns-in_err-fill_summed-clause-err g c =
    let p = err_from_is_err_and c.from_residual-in_err-fill_summed.result
    c.from_residual-in_err-fill_summed.ensures.1 in
    let frame : ℕ × Place = (c.in-Some.size, c.in-Some.after) in
    let read = some_read (frame_found c.args.track c.args.place) _ _ frame
    (rw c.in-Some.is at c.in_ok-size.ensures.answer).1 in
    rw p.1 (leaves_begun c.args.track c.args.place _ _ c.in-Some.size c.in-Some.after
    c.fill_summed.new.bytes.items read c.in_err-fill_summed.ensures.kept)

pub returns-then-not-is_sound-clause-answer : goal.returns-then-not-is_sound-clause-answer
returns-then-not-is_sound-clause-answer g c =
    let track = c.args.track in
    let place = c.args.place in
    let after = c.in-Some.after in
    let sum = c.fill_summed.new.sum in
    let next = goes_read _ (behind after) _ _ _ (none_read
    (frame_found track place) found_read _ _ _
    (goes_none _ _ _) (rw c.in-Some.is at c.in_ok-size.ensures.answer))
    c.in_ok-fill_summed.ensures.answer in
    let differs : is_sound (summed_at after sum) ≡ false = rw c.summed_at-last.ensures at
    (sym c.is_sound.ensures ∙ c.if-not-is_sound.true) in
    goes_fault fault.Checksum (goes_same _ (refused fault.Checksum) (λ text. rw differs refl) next)
    (refl, faults_here (Option (List ℕ × Place)) fault.Checksum _)

pub returns-then-not-is_sound-clause-err : goal.returns-then-not-is_sound-clause-err
returns-then-not-is_sound-clause-err g c =
    let frame : ℕ × Place = (c.in-Some.size, c.in-Some.after) in
    let read = some_read (frame_found c.args.track c.args.place) _ _ frame
    (rw c.in-Some.is at c.in_ok-size.ensures.answer).1 in
    leaves_begun c.args.track c.args.place _ _ c.in-Some.size c.in-Some.after
    c.fill_summed.new.bytes.items read
    (begins_all _ _ c.in-Some.size c.in-Some.after.sum
    (c.fill_summed.new.bytes.items, c.fill_summed.new.sum) c.in_ok-fill_summed.ensures.answer.1)

pub returns-clause-answer : goal.returns-clause-answer
returns-clause-answer g c =
    let track = c.args.track in
    let place = c.args.place in
    let after = c.in-Some.after in
    let bytes = c.fill_summed.new.bytes.items in
    let sum = c.fill_summed.new.sum in
    let last = summed_at after sum in
    let next = goes_read _ (behind after) _ _ _ (none_read
    (frame_found track place) found_read _ _ _
    (goes_none _ _ _) (rw c.in-Some.is at c.in_ok-size.ensures.answer))
    c.in_ok-fill_summed.ensures.answer in
    let sound : is_sound last ≡ true = rw c.summed_at-last.ensures at
    (sym c.is_sound.ensures ∙ c.if-not-is_sound.false) in
    rw c.summed_at-last.ensures (none_given (Some (bytes, last))
    (goes_same _ (given (Some (bytes, last))) (λ text. rw sound refl) next))

pub returns-in_err-size-clause-room : goal.returns-in_err-size-clause-room
returns-in_err-size-clause-room g c =
    let p = err_from_is_err_and c.from_residual.result c.from_residual.ensures.1 in
    rw p.1 (grind (arith, common_steps))

pub returns-in_default-clause-room : goal.returns-in_default-clause-room
returns-in_default-clause-room g c = grind (arith, common_steps)

pub returns-in_err-fill_summed-clause-room : goal.returns-in_err-fill_summed-clause-room
returns-in_err-fill_summed-clause-room g c =
    let p = err_from_is_err_and c.from_residual-in_err-fill_summed.result
    c.from_residual-in_err-fill_summed.ensures.1 in
    rw p.1 (grind (arith, common_steps))

pub returns-then-not-is_sound-clause-room : goal.returns-then-not-is_sound-clause-room
returns-then-not-is_sound-clause-room g c = grind (arith, common_steps)

pub returns-clause-room : goal.returns-clause-room
returns-clause-room g c = grind (arith, common_steps)

pub returns-in_err-fill_summed-clause-from : goal.returns-in_err-fill_summed-clause-from
returns-in_err-fill_summed-clause-from g c =
    let p = err_from_is_err_and c.from_residual-in_err-fill_summed.result
    c.from_residual-in_err-fill_summed.ensures.1 in
    let f = c.in_err-fill_summed.field-0.0 in
    let from = rw c.in-Some.is at c.in_ok-size.ensures.from in
    let same = (rw c.in-Some.is at c.in_ok-size.ensures.answer).0 in
    rw (p.1, p.2) (
      from.1,
      stops_after _ f same from.2
          (frame_refused c.args.track c.find_frame.new.here c.in-Some.after from.3 c.in-Some.size _ _ _ _
          _ f
          from.4 c.in_err-fill_summed.ensures.answer),
    )

pub returns-then-not-is_sound-clause-from : goal.returns-then-not-is_sound-clause-from
returns-then-not-is_sound-clause-from g c =
    let after = c.in-Some.after in
    let sum = c.fill_summed.new.sum in
    let from = rw c.in-Some.is at c.in_ok-size.ensures.from in
    let same = (rw c.in-Some.is at c.in_ok-size.ensures.answer).0 in
    let differs : is_sound (summed_at after sum) ≡ false = rw c.summed_at-last.ensures at
    (sym c.is_sound.ensures ∙ c.if-not-is_sound.true) in (
      from.1,
      stops_after _ fault.Checksum same from.2
          (frame_differs c.args.track c.find_frame.new.here after from.3 c.in-Some.size _ _ _ _ _
          (c.fill_summed.new.bytes.items, sum) differs from.4 c.in_ok-fill_summed.ensures.answer),
    )

pub returns-clause-from : goal.returns-clause-from
returns-clause-from g c =
    let after = c.in-Some.after in
    let sum = c.fill_summed.new.sum in
    let from = rw c.in-Some.is at c.in_ok-size.ensures.from in
    let sound : is_sound (summed_at after sum) ≡ true = rw c.summed_at-last.ensures at
    (sym c.is_sound.ensures ∙ c.if-not-is_sound.false) in
    let read = frame_whole c.args.track c.find_frame.new.here after from.3 c.in-Some.size _ _ _ _ _
    (c.fill_summed.new.bytes.items, sum) sound from.4 c.in_ok-fill_summed.ensures.answer in
    rw c.summed_at-last.ensures (_, reads_more _ from.2 read refl)

pub returns-in_err-size-clause-seen : goal.returns-in_err-size-clause-seen
returns-in_err-size-clause-seen g c =
    let p = err_from_is_err_and c.from_residual.result c.from_residual.ensures.1 in rw (p.1) tt

pub returns-in_default-clause-seen : goal.returns-in_default-clause-seen
returns-in_default-clause-seen g c = rw c.in_default.is at c.in_ok-size.ensures.seen

pub returns-in_err-fill_summed-clause-seen : goal.returns-in_err-fill_summed-clause-seen
returns-in_err-fill_summed-clause-seen g c =
    let p = err_from_is_err_and c.from_residual-in_err-fill_summed.result
    c.from_residual-in_err-fill_summed.ensures.1 in
    rw (p.1) tt

pub returns-clause-seen : goal.returns-clause-seen
returns-clause-seen g c =
    let after = c.in-Some.after in
    let sum = c.fill_summed.new.sum in
    let from = rw c.in-Some.is at c.in_ok-size.ensures.seen in
    let sound : is_sound (summed_at after sum) ≡ true = rw c.summed_at-last.ensures at
    (sym c.is_sound.ensures ∙ c.if-not-is_sound.false) in
    let read = seen_whole c.args.track c.find_frame.new.here after _ _ from.3 c.in-Some.size _ _ _
    (c.fill_summed.new.bytes.items, sum) sound from.5 c.in_ok-fill_summed.ensures.answer.1 in
    rw c.summed_at-last.ensures (_, reads_more _ from.4 read refl)
