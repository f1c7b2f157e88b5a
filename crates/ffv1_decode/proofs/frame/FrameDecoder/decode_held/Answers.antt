-- Decodes a frame, in what is held.
use Rattle.std.proofs.Common.{◌≡◌, refl, ℕ, List, Result, Ok, Err, ap, ◌∙◌, subst, slice_index}
use Rattle.std.proofs.lemmas.Result.{err_from_is_err_and}
use Rattle.ffv1_wire.specs.Runs.{LineStep}
use Rattle.ffv1_range.specs.declared.tally.Tally.{Tally}
use Rattle.ffv1_record.specs.Accepted.{Accepted}
use Rattle.ffv1_slice.specs.Cutting.{CutsTo, IsRefused, coded_of}
use Rattle.ffv1_slice.specs.Footer.{foot_length}
use Rattle.ffv1_slice.specs.declared.cutting.CutFault.{CutFault}
use Rattle.ffv1_frame.specs.declared.fault.FrameFault.{FrameFault}
use Rattle.ffv1_frame.specs.SliceList.{Said}
use Rattle.ffv1_frame.specs.Answer.{Answers, AnswersCoded, Decoder, cut_fault, no_tally}
use Rattle.ffv1_decode.proofs.frame.FrameDecoder.decode_held.Goals as goal

module _ {S : Type 0} (takes refuses : LineStep S) (a : Accepted) (payload : List ℕ) (old : S)
    (tally : Tally) (result : Result Said FrameFault) where
  not_cut : (c : CutFault) (f : FrameFault) → IsRefused a.configuration payload c → result ≡ Err f →
      f ≡ cut_fault c → tally ≡ no_tally → Answers takes refuses a payload old old tally result
  not_cut c f refused is same none = record {
    cut = Err c;
    cuts = refused;
    answer =
        (is ∙ ap Err same, none, refl);
  }

  was_cut : (new : S) (os : List ℕ) → CutsTo a.configuration payload (Ok os) → AnswersCoded takes
      refuses a (coded_of payload (foot_length a.configuration.ec) (slice_index os)) old new tally
      result →
      Answers takes refuses a payload old new tally result
  was_cut new os cuts answer = record { cut = Ok os; cuts = cuts; answer = answer }

pub returns-in_err-cut_payload-clause-exact : goal.returns-in_err-cut_payload-clause-exact
returns-in_err-cut_payload-clause-exact g c =
    let is : c.self.inside.checked ≡ c.args.self.now.accepted = ap (λ (x : Decoder). x.accepted)
    c.self.view_is in
    let p = err_from_is_err_and c.from_residual.result c.from_residual.ensures.1 in
    let refused = c.in_err-cut_payload.ensures.err in
    let payload = c.args.payload.now in
    let tally = c.no_tally-self-inside.result in
    subst (λ (a : Accepted). Answers g.S.LineSink.takes g.S.LineSink.refuses a payload
    c.args.sink.now c.args.sink.now tally c.from_residual.result) is
    (not_cut g.S.LineSink.takes g.S.LineSink.refuses c.self.inside.checked payload c.args.sink.now
    tally c.from_residual.result refused.0 p.0 refused.1 p.1 (p.2 ∙ refused.2)
    c.no_tally-self-inside.ensures)

pub returns-clause-exact : goal.returns-clause-exact
returns-clause-exact g c =
    let is : c.self.inside.checked ≡ c.args.self.now.accepted = ap (λ (x : Decoder). x.accepted)
    c.self.view_is in
    let payload = c.args.payload.now in
    subst (λ (a : Accepted). Answers g.S.LineSink.takes g.S.LineSink.refuses a payload
    c.args.sink.now c.decode_rows.new.sink c.decode_rows.new.tally c.decode_rows.result) is
    (was_cut g.S.LineSink.takes g.S.LineSink.refuses c.self.inside.checked payload c.args.sink.now
    c.decode_rows.new.tally c.decode_rows.result c.decode_rows.new.sink
    c.cut_payload.new.spans.offsets c.in_ok-cut_payload.ensures.ok c.decode_rows.ensures.exact)
