-- With parity, a payload that differs from a good one within 32 neighbouring bits of one slice,
-- apart from its slice_size, is answered by the parity of that slice, before any line and any
-- decision.
use Rattle.std.proofs.Common.{ℕ, List, Result, Err, subst}
use Rattle.ffv1_slice.specs.declared.cutting.CutFault.{CutFault}
use Rattle.ffv1_slice.specs.declared.fault.SliceFault.TheVariants as fault
use Rattle.ffv1_frame.specs.Answer.{AnswersCut}
use Rattle.ffv1_frame.proofs.lemmas.laws.answer.Damaged.{is_damaged}
use Rattle.ffv1_frame.proofs.laws.answer.damage_is_found_by_parity.Goals as goal

pub returns : goal.returns
returns g c = λ a sent payload spans s old new tally result sent_are are cuts damage answer.
    let found = is_damaged a.configuration sent payload spans s sent_are are
    c.bursts_change_the_remainder.ensures cuts damage in
    let fault : CutFault = record { fault = fault.SliceParity; slice = s } in
    let cut = c.payload_is_cut_in_one_way.ensures.one a.configuration payload answer.cut (Err fault)
    answer.cuts found in
    let whole : AnswersCut g.S.LineSink.takes g.S.LineSink.refuses a payload old new tally result
    (Err fault) =
    subst (λ (z : Result (List ℕ) CutFault). AnswersCut g.S.LineSink.takes g.S.LineSink.refuses a
    payload old new tally result z) cut answer.answer in
    (whole.0, whole.1, whole.2)
