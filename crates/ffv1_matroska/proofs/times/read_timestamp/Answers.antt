-- A Timestamp of so many bytes.
use Rattle.std.proofs.Common.{◌≡◌, ◌∙◌, ◌++◌, [], ℕ, List, ◌∷◌, true, false, length, take, drop, inl, refl, sym}
use Rattle.std.proofs.lemmas.List.{length-take-le}
use Rattle.ffv1_reads.specs.Reads.{Looked}
use Rattle.ffv1_reads.specs.declared.fault.FileFault.TheVariants as fault
use Rattle.ffv1_reads.proofs.Answered.{answers_err, answers_fault, answers_first, answers_given}
use Rattle.ffv1_reads.proofs.Answered.{answers_next, answers_ok, answers_refused, answers_same}
use Rattle.ffv1_reads.proofs.Results.{cut_front}
use Rattle.ffv1_reads.proofs.WantedBytes.{wanted_sound}
use Rattle.ffv1_matroska.specs.Places.{is_sound, summed_at}
use Rattle.ffv1_matroska.specs.Segments.{timestamp_read}
use Rattle.ffv1_matroska.proofs.ScaleReadings.{summed_taken}
use Rattle.ffv1_matroska.proofs.times.read_timestamp.Goals as goal

abbrev eight : List ℕ
eight = 0 ∷ 0 ∷ 0 ∷ 0 ∷ 0 ∷ 0 ∷ 0 ∷ 0 ∷ []

pub returns-in_err-take_summed-clause-answer : goal.returns-in_err-take_summed-clause-answer
unfolding timestamp_read
returns-in_err-take_summed-clause-answer g c =
    let long : length (take c.args.size eight) ≡ c.args.size =
    length-take-le c.args.size eight c.requires in
    answers_err _ (timestamp_read c.args.size c.args.place) _ _ c.from_residual.ensures.1
    (answers_first _ _ (rw long at c.in_err-take_summed.ensures.answer))

pub returns-then-not-is_sound-clause-answer : goal.returns-then-not-is_sound-clause-answer
unfolding timestamp_read
returns-then-not-is_sound-clause-answer g c =
    let long : length (take c.args.size eight) ≡ c.args.size =
    length-take-le c.args.size eight c.requires in
    let now = summed_at c.args.place c.take_summed.new.sum in
    let differs : is_sound now ≡ false = rw c.summed_at-after.ensures at
    (sym c.is_sound.ensures ∙ c.if-not-is_sound.true) in
    answers_fault fault.Checksum (timestamp_read c.args.size c.args.place)
    (answers_next _ (rw long at c.in_ok-take_summed.ensures.answer)
    (answers_same (λ text. rw differs refl) (answers_refused _ (inl refl))))

pub returns-clause-answer : goal.returns-clause-answer
unfolding timestamp_read
returns-clause-answer g c =
    let long : length (take c.args.size eight) ≡ c.args.size =
    length-take-le c.args.size eight c.requires in
    let now = summed_at c.args.place c.take_summed.new.sum in
    let sound : is_sound now ≡ true = rw c.summed_at-after.ensures at
    (sym c.is_sound.ensures ∙ c.if-not-is_sound.false) in
    let buf = c.take_summed.new.buf in
    let read = rw long at c.in_ok-take_summed.ensures.answer in
    let taken = summed_taken c.args.size c.args.place.sum _ _ (buf, c.take_summed.new.sum) read.1 in
    let few : length buf ≡ c.args.size = (wanted_sound Looked c.args.size (taken.bytes ++ [])
    (buf, []) (taken.is [])).1 in
    let all : take c.args.size (buf ++ drop c.args.size eight) ≡ buf =
    cut_front c.args.size buf (drop c.args.size eight) few in
    rw (c.summed_at-after.ensures, c.number_of-time.ensures.value, all)
    (answers_ok (answers_next _ read (answers_same (λ text. rw sound refl) answers_given)))
