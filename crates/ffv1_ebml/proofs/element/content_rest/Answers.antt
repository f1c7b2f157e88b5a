-- Passes the rest of some content after the header of its first element, and judges its CRC-32.
use Rattle.std.proofs.Common.{◌≡◌, ◌∙◌, ◌++◌, [], length, refl, sym}
use Rattle.ffv1_reads.specs.Reads.{Looked}
use Rattle.ffv1_reads.specs.declared.fault.FileFault.TheVariants as fault
use Rattle.ffv1_reads.proofs.WantedBytes.{wanted_sound}
use Rattle.ffv1_sum.specs.Sum.{number_of as low_number}
use Rattle.ffv1_ebml.proofs.ContentReadings.{crc_first, low_four, sum_differs, sum_met}
use Rattle.ffv1_reads.proofs.Answered.{answers_err, answers_fault, answers_first, answers_given}
use Rattle.ffv1_reads.proofs.Answered.{answers_next, answers_ok, answers_refused, answers_same}
use Rattle.std.proofs.Common.{inl}
use Rattle.ffv1_ebml.proofs.element.content_rest.Goals as goal

pub returns-in_err-pass_summed : goal.returns-in_err-pass_summed
returns-in_err-pass_summed g c =
    let e = c.args.element in
    let buf = c.take.new.buf in
    let few : length buf ≡ 4 = (wanted_sound Looked 4 (c.in_ok-take.ensures.1.bytes ++ []) (buf, [])
    (c.in_ok-take.ensures.1.is [])).1 in
    let stated : c.from_le_bytes.result ≡ low_number buf = c.from_le_bytes.ensures ∙ low_four buf
    few in
    let why = rw stated at c.in_err-pass_summed.ensures.answer in
    answers_err _ _ _ _ c.from_residual-in_err-pass_summed.ensures.1
    (answers_same (crc_first e c.in-Some.size c.in-Some.is
    (sym c.is_crc.ensures ∙ c.if-is_crc.true)) (answers_next _ c.in_ok-take.ensures
    (answers_first _ _ why)))

pub returns-then-not-is_met : goal.returns-then-not-is_met
returns-then-not-is_met g c =
    let e = c.args.element in
    let buf = c.take.new.buf in
    let few : length buf ≡ 4 = (wanted_sound Looked 4 (c.in_ok-take.ensures.1.bytes ++ []) (buf, [])
    (c.in_ok-take.ensures.1.is [])).1 in
    let stated : c.from_le_bytes.result ≡ low_number buf = c.from_le_bytes.ensures ∙ low_four buf
    few in
    let differs = sum_differs c.pass_summed.new.sum (sym c.is_met.ensures ∙ c.if-not-is_met.true) in
    answers_fault fault.Checksum _ (answers_same (crc_first e c.in-Some.size c.in-Some.is
    (sym c.is_crc.ensures ∙ c.if-is_crc.true)) (answers_next _ c.in_ok-take.ensures
    (answers_next _ (rw stated at c.in_ok-pass_summed.ensures.answer)
    (answers_same differs (answers_refused _ (inl refl))))))

pub returns-then-is_crc : goal.returns-then-is_crc
returns-then-is_crc g c =
    let e = c.args.element in
    let buf = c.take.new.buf in
    let few : length buf ≡ 4 = (wanted_sound Looked 4 (c.in_ok-take.ensures.1.bytes ++ []) (buf, [])
    (c.in_ok-take.ensures.1.is [])).1 in
    let stated : c.from_le_bytes.result ≡ low_number buf = c.from_le_bytes.ensures ∙ low_four buf
    few in
    let met = sum_met c.pass_summed.new.sum (sym c.is_met.ensures ∙ c.if-not-is_met.false) in
    answers_ok (answers_same (crc_first e c.in-Some.size c.in-Some.is
    (sym c.is_crc.ensures ∙ c.if-is_crc.true)) (answers_next _ c.in_ok-take.ensures
    (answers_next _ (rw stated at c.in_ok-pass_summed.ensures.answer)
    (answers_same met answers_given))))
