-- What a frame's decoding answers.
use Rattle.std.proofs.Common.{◌≡◌, ◌≢◌, refl, ℕ, Result, Ok, Err, List, [], inl, inr, ap}
use Rattle.ffv1_range.specs.declared.tally.Tally.{Tally}
use Rattle.ffv1_wire.specs.Passage.{Passage}
use Rattle.ffv1_wire.specs.Runs.{LineStep}
use Rattle.ffv1_record.specs.Accepted.{Accepted}
use Rattle.ffv1_slice.specs.Cutting.{CutsTo}
use Rattle.ffv1_slice.specs.declared.cutting.CutFault.{CutFault}
use Rattle.ffv1_codec.specs.Answer.{AnswersCut, Answers, cut_fault}
use Rattle.ffv1_codec.specs.SliceList.{Said}
use Rattle.ffv1_frame.specs.declared.fault.CodecFault.TheVariants as codec_fault
use Rattle.ffv1_frame.specs.declared.fault.FrameFault.{FrameFault}
use Rattle.ffv1_unpack.specs.Internal.FrameLines.{WritesPart}
use Rattle.ffv1_codec.specs.Outcome.{CountOf, FaultsOf}
use Rattle.ffv1_unpack.specs.Located.{WritesLine}

not_both : (info : Said) (f : FrameFault) (r : Result Said FrameFault) → r ≡ Ok info → r ≡ Err f → ⊥
not_both info f r e g = cc

pub same_fault : (f g : FrameFault) (r : Result Said FrameFault) → r ≡ Err f → r ≡ Err g → f ≡ g
same_fault f g r e h = cc

module _ {S : Type 0} (takes refuses : LineStep S) (a : Accepted) (payload : List ℕ) (old new : S) (tally : Tally) where
  decided_by_cut : (info : Said) (cut : Result (List ℕ) CutFault) → CutsTo a.configuration payload cut → AnswersCut takes refuses a payload old new tally (Ok info) cut → CountOf a payload tally
  decided_by_cut info (Err f) is answer = absurd (not_both info (cut_fault f) (Ok info) refl answer.0)
  decided_by_cut info (Ok os) is answer = record { offsets = os; cut = is; state = answer.state; decodes = answer.decodes; decided = answer.decided }

  pub is_decided : (info : Said) → Answers takes refuses a payload old new tally (Ok info) → CountOf a payload tally
  is_decided info answer = decided_by_cut info answer.cut answer.cuts answer.answer

  faults_by_cut : (f : FrameFault) (cut : Result (List ℕ) CutFault) → CutsTo a.configuration payload cut → f.fault ≢ codec_fault.Sink →
      AnswersCut takes refuses a payload old new tally (Err f) cut → FaultsOf a payload f tally
  faults_by_cut f (Err g) is own answer = inl (g, is, same_fault f (cut_fault g) (Err f) refl answer.0, answer.1)
  faults_by_cut f (Ok os) is own answer = elim answer [
    | inl faults ↦ inr (record { offsets = os; cut = is; state = faults.state; refused = faults.refused; decided = faults.decided })
    | inr sink ↦ absurd (own (ap (λ (z : FrameFault). z.fault) sink.is))
  ]

  pub is_faulty : (f : FrameFault) → f.fault ≢ codec_fault.Sink → Answers takes refuses a payload old new tally (Err f) → FaultsOf a payload f tally
  is_faulty f own answer = faults_by_cut f answer.cut answer.cuts own answer.answer

-- a line that was written, or not, if that is not told
pub line_written : {E : Type 0} (line : List ℕ) (p : Passage) (r : Result (Unit {0}) E) → WritesPart line p r → WritesLine [] line p
line_written line p (Ok done) h = inl (h.0, h.1)
line_written line p (Err f) h = inr (h.0, h.1.0, h.1.1, h.1.2)
