-- A fault is the sink's exactly if it refused the line that came next.
use Rattle.std.proofs.Common.{◌≡◌, ◌≢◌, refl, ℕ, ◌+◌, Result, Ok, Err, List, [], ◌∷◌, get_or, inl, inr, ap, sym, subst}
use Rattle.std.specs.Prelude.{slice_index}
use Rattle.ffv1_wire.specs.Runs.{LineStep}
use Rattle.ffv1_range.specs.declared.tally.Tally.{Tally}
use Rattle.ffv1_record.specs.Accepted.{Accepted}
use Rattle.ffv1_slice.specs.Cutting.{coded_of}
use Rattle.ffv1_slice.specs.Footer.{foot_length}
use Rattle.ffv1_slice.specs.Grid.{division_of}
use Rattle.ffv1_slice.specs.declared.cutting.CutFault.{CutFault}
use Rattle.ffv1_frame.specs.declared.fault.CodecFault.TheVariants as fault
use Rattle.ffv1_frame.specs.declared.fault.FrameFault.{FrameFault}
use Rattle.ffv1_frame.specs.SliceList.{Said}
use Rattle.ffv1_frame.specs.Kept.{IsLine}
use Rattle.ffv1_frame.specs.Lines.{places_of}
use Rattle.ffv1_frame.specs.Order.Event.{Hand}
use Rattle.ffv1_frame.specs.Answer.{AnswersCut, SinkRefuses, cut_fault}
use Rattle.ffv1_frame.specs.Decoding.{Offers, State, top_of}
use Rattle.ffv1_frame.specs.Turns.{RefusesInTurn, TakesInTurn}
use Rattle.ffv1_frame.proofs.lemmas.laws.sink.LinePlaces.{places_at, places_begun, places_refused}
use Rattle.ffv1_frame.proofs.lemmas.laws.sink.OfferedLines.{fault_own, other_fault, slice_own}

module _ {S : Type 0} (takes refuses : LineStep S) (a : Accepted) (payload : List ℕ) (old new : S) (tally : Tally) (f : FrameFault) where
  -- a payload that is not cut has no fault of the sink
  uncut : (g : CutFault) → ◌≡◌ {A = Result Said FrameFault} (Err f) (Err (cut_fault g)) → f.fault ≢ fault.Sink
  uncut g e = let is : f ≡ cut_fault g = cc in other_fault f.fault _ (ap (λ (z : FrameFault). z.fault) is) (slice_own g.fault)

  -- the line that the sink refused is the next one
  refused_in_turn : (coded : ℕ → List ℕ) → ((r i p y : ℕ) (t : State) → Offers a coded r i p y t → IsLine (division_of a.configuration) p (top_of a.configuration p r + y) (get_or t.out i [])) →
      SinkRefuses takes refuses a coded old new tally f → RefusesInTurn takes refuses a.configuration old new f.plane f.line
  refused_in_turn coded lines sink =
      let offers = sink.offers in
      let place : RefusesInTurn takes refuses a.configuration old new sink.plane (top_of a.configuration sink.plane sink.row + sink.line) = record {
        lines = sink.state.lines;
        samples = get_or sink.state.out sink.number [];
        rest = places_at a.configuration offers.after;
        between = sink.between;
        turn = places_begun a coded offers.before (Hand sink.row sink.number sink.plane sink.line ∷ offers.after) sink.state offers.parts offers.runs;
        line = lines sink.row sink.number sink.plane sink.line sink.state offers;
        grows = sink.grows;
        last = sink.last;
      } in
      subst (λ (z : FrameFault). RefusesInTurn takes refuses a.configuration old new z.plane z.line) (sym sink.is) place

  pub sink_faults : (cut : Result (List ℕ) CutFault) →
      ((coded : ℕ → List ℕ) (r i p y : ℕ) (t : State) → Offers a coded r i p y t → IsLine (division_of a.configuration) p (top_of a.configuration p r + y) (get_or t.out i [])) →
      AnswersCut takes refuses a payload old new tally (Err f) cut → f.fault ≡ fault.Sink → RefusesInTurn takes refuses a.configuration old new f.plane f.line
  sink_faults (Err g) lines answer same = absurd (uncut g answer.0 same)
  sink_faults (Ok os) lines answer same =
      let coded = coded_of payload (foot_length a.configuration.ec) (slice_index os) in
      elim answer [
        | inl faults ↦ absurd (fault_own a coded f faults.state faults.refused same)
        | inr sink ↦ refused_in_turn coded (lines coded) sink
      ]

  pub other_faults : (cut : Result (List ℕ) CutFault) → AnswersCut takes refuses a payload old new tally (Err f) cut → f.fault ≢ fault.Sink → TakesInTurn takes a.configuration old new
  other_faults (Err g) answer other = record { lines = []; rest = places_of a.configuration; turn = refl; grows = answer.2 }
  other_faults (Ok os) answer other =
      let coded = coded_of payload (foot_length a.configuration.ec) (slice_index os) in
      elim answer [
        | inl faults ↦
            let places = places_refused a coded f faults.state faults.refused in
            record { lines = faults.state.lines; rest = places.0; turn = places.1; grows = faults.grows }
        | inr sink ↦ absurd (other (ap (λ (z : FrameFault). z.fault) sink.is))
      ]
