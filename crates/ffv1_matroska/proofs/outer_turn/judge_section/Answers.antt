-- The content of an element whose CRC-32 is stated in its first element, after the header of that.
use Rattle.std.proofs.Common.{◌≡◌, ◌∙◌, ◌++◌, ℕ, List, [], true, false, length, refl, sym}
use Rattle.ffv1_reads.specs.Reads.{Looked, given}
use Rattle.ffv1_reads.specs.declared.fault.FileFault.TheVariants as fault
use Rattle.ffv1_reads.proofs.WantedBytes.{wanted_sound}
use Rattle.ffv1_sum.specs.Sum.{number_of as low_number}
use Rattle.ffv1_ebml.specs.Sums.{is_met}
use Rattle.ffv1_ebml.proofs.ContentReadings.{low_four}
use Rattle.ffv1_reads.proofs.Answered.{answers_err, answers_first, answers_given, answers_next}
use Rattle.ffv1_reads.proofs.Answered.{answers_ok, answers_same}
use Rattle.ffv1_matroska.specs.Turns.{section_end, summed_section}
use Rattle.ffv1_matroska.specs.declared.course.Pending.TheVariants as pending
use Rattle.ffv1_matroska.specs.declared.course.Turn.TheVariants.{On, Told}
use Rattle.ffv1_matroska.proofs.outer_turn.judge_section.Goals as goal

pub returns-in_err-take : goal.returns-in_err-take
unfolding summed_section
returns-in_err-take g c = answers_err _ (summed_section c.args.left c.args.place) _ _
    c.from_residual.ensures.1 (answers_first _ _ c.in_err-take.ensures)

pub returns-in_err-pass_summed : goal.returns-in_err-pass_summed
unfolding summed_section
returns-in_err-pass_summed g c =
    let buf = c.take.new.buf in
    let few : length buf ≡ 4 = (wanted_sound Looked 4 (c.in_ok-take.ensures.1.bytes ++ []) (buf, [])
    (c.in_ok-take.ensures.1.is [])).1 in
    let stated : c.from_le_bytes.result ≡ low_number buf = c.from_le_bytes.ensures ∙ low_four buf
    few in
    let why = rw stated at c.in_err-pass_summed.ensures.answer in
    answers_err _ (summed_section c.args.left c.args.place) _ _
    c.from_residual-in_err-pass_summed.ensures.1
    (answers_next _ c.in_ok-take.ensures (answers_first _ _ why))

pub returns-then-is_met : goal.returns-then-is_met
unfolding summed_section
returns-then-is_met g c =
    let buf = c.take.new.buf in
    let few : length buf ≡ 4 = (wanted_sound Looked 4 (c.in_ok-take.ensures.1.bytes ++ []) (buf, [])
    (c.in_ok-take.ensures.1.is [])).1 in
    let stated : c.from_le_bytes.result ≡ low_number buf = c.from_le_bytes.ensures ∙ low_four buf
    few in
    let met : is_met c.pass_summed.new.sum ≡ true = sym c.is_met.ensures ∙ c.if-is_met.true in
    let same : (text : List ℕ) → given (section_end c.args.place c.pass_summed.new.sum) text
    ≡ given (On pending.Nothing c.args.place) text = λ text. rw met refl in
    answers_ok (answers_next _ c.in_ok-take.ensures
    (answers_next _ (rw stated at c.in_ok-pass_summed.ensures.answer)
    (answers_same same answers_given)))

pub returns : goal.returns
unfolding summed_section
returns g c =
    let buf = c.take.new.buf in
    let few : length buf ≡ 4 = (wanted_sound Looked 4 (c.in_ok-take.ensures.1.bytes ++ []) (buf, [])
    (c.in_ok-take.ensures.1.is [])).1 in
    let stated : c.from_le_bytes.result ≡ low_number buf = c.from_le_bytes.ensures ∙ low_four buf
    few in
    let differs : is_met c.pass_summed.new.sum ≡ false = sym c.is_met.ensures ∙ c.if-is_met.false in
    let same : (text : List ℕ) → given (section_end c.args.place c.pass_summed.new.sum) text
    ≡ given (Told fault.Checksum pending.Nothing c.args.place) text = λ text. rw differs refl in
    answers_ok (answers_next _ c.in_ok-take.ensures
    (answers_next _ (rw stated at c.in_ok-pass_summed.ensures.answer)
    (answers_same same answers_given)))
