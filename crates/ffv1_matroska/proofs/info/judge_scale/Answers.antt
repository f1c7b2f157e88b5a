-- Passes a CRC-32 and so many bytes of elements after it, and answers the scale that they say.
use Rattle.std.proofs.Common.{◌≡◌, ◌∙◌, ◌++◌, [], length, inl, refl, sym}
use Rattle.ffv1_reads.specs.Reads.{Looked}
use Rattle.ffv1_reads.specs.declared.fault.FileFault.TheVariants as fault
use Rattle.ffv1_reads.proofs.Answered.{answers_err, answers_fault, answers_first, answers_given}
use Rattle.ffv1_reads.proofs.Answered.{answers_next, answers_ok, answers_refused, answers_same}
use Rattle.ffv1_reads.proofs.WantedBytes.{wanted_sound}
use Rattle.ffv1_sum.specs.Sum.{number_of as low_number}
use Rattle.ffv1_ebml.proofs.ContentReadings.{low_four, sum_differs, sum_met}
use Rattle.ffv1_matroska.specs.Scales.{crc_judged, scale_among}
use Rattle.ffv1_matroska.proofs.ScaleReadings.{known_taken}
use Rattle.ffv1_matroska.proofs.info.judge_scale.Goals as goal

pub returns-in_err-take-clause-answer : goal.returns-in_err-take-clause-answer
returns-in_err-take-clause-answer g c = answers_err _ (crc_judged c.args.left) _ _
    c.from_residual.ensures.1 (answers_first _ _ c.in_err-take.ensures)

pub returns-in_err-scale-clause-answer : goal.returns-in_err-scale-clause-answer
returns-in_err-scale-clause-answer g c =
    let buf = c.take.new.buf in
    let few : length buf ≡ 4 = (wanted_sound Looked 4 (c.in_ok-take.ensures.1.bytes ++ []) (buf, [])
    (c.in_ok-take.ensures.1.is [])).1 in
    let stated : c.from_le_bytes.result ≡ low_number buf = c.from_le_bytes.ensures ∙ low_four buf
    few in
    let why = rw stated at c.in_err-scale.ensures.answer in
    answers_err _ (crc_judged c.args.left) _ _
    c.from_residual-in_err-scale.ensures.1
    (answers_next _ c.in_ok-take.ensures (answers_first _ _ why))

pub returns-then-not-is_met-clause-answer : goal.returns-then-not-is_met-clause-answer
returns-then-not-is_met-clause-answer g c =
    let buf = c.take.new.buf in
    let few : length buf ≡ 4 = (wanted_sound Looked 4 (c.in_ok-take.ensures.1.bytes ++ []) (buf, [])
    (c.in_ok-take.ensures.1.is [])).1 in
    let stated : c.from_le_bytes.result ≡ low_number buf = c.from_le_bytes.ensures ∙ low_four buf
    few in
    let differs = sum_differs c.pass_scale.new.sum
    (sym c.is_met.ensures ∙ c.if-not-is_met.true) in
    answers_fault fault.Checksum (crc_judged c.args.left)
    (answers_next _ c.in_ok-take.ensures
    (answers_next _ (rw stated at c.in_ok-scale.ensures.answer)
    (answers_same differs (answers_refused _ (inl refl)))))

pub returns-clause-answer : goal.returns-clause-answer
returns-clause-answer g c =
    let buf = c.take.new.buf in
    let few : length buf ≡ 4 = (wanted_sound Looked 4 (c.in_ok-take.ensures.1.bytes ++ []) (buf, [])
    (c.in_ok-take.ensures.1.is [])).1 in
    let stated : c.from_le_bytes.result ≡ low_number buf = c.from_le_bytes.ensures ∙ low_four buf
    few in
    let met = sum_met c.pass_scale.new.sum
    (sym c.is_met.ensures ∙ c.if-not-is_met.false) in
    answers_ok (answers_next _ c.in_ok-take.ensures
    (answers_next _ (rw stated at c.in_ok-scale.ensures.answer) (answers_same met answers_given)))

pub returns-clause-scale : goal.returns-clause-scale
returns-clause-scale g c = known_taken 4 _ _ _ c.take.new.buf
    (λ z. c.in_ok-scale.scale ≡ scale_among c.args.left z) c.in_ok-take.ensures.1
    c.in_ok-scale.ensures.scale
