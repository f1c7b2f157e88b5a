-- What the answer to a payload says of the pictures that it codes.
use Rattle.std.proofs.Common.{◌≡◌, refl, ℕ, ◌+◌, ◌≤◌, Some, Result, Ok, Err, List, [], ◌∷◌, ◌++◌, get_or, inl, inr, ap, sym, subst, ◌∙◌, append-nil, append_assoc, arith}
use Rattle.std.specs.Prelude.{MatchResult, slice_index}
use Rattle.ffv1_wire.specs.Runs.{LineStep, Line, Grows}
use Rattle.ffv1_wire.specs.Runs as wire
use Rattle.ffv1_range.specs.declared.tally.Tally.{Tally}
use Rattle.ffv1_record.specs.Accepted.{Accepted}
use Rattle.ffv1_slice.specs.Footer.{foot_length}
use Rattle.ffv1_slice.specs.Cutting.{Cuts, CutsTo, coded_of}
use Rattle.ffv1_slice.specs.declared.cutting.CutFault.{CutFault}
use Rattle.ffv1_frame.specs.declared.fault.CodecFault.TheVariants as fault
use Rattle.ffv1_frame.specs.declared.fault.FrameFault.{FrameFault}
use Rattle.ffv1_frame.specs.Picture.{Planes}
use Rattle.ffv1_frame.specs.SliceList.{Said}
use Rattle.ffv1_frame.specs.Frame.{CodesPicture}
use Rattle.ffv1_frame.specs.Lines.{lines_of}
use Rattle.ffv1_frame.specs.Order.{Event, events_of}
use Rattle.ffv1_frame.specs.Order.Event.{Open, Read, Finish, Hand, Close}
use Rattle.ffv1_frame.specs.Runs.{Runs}
use Rattle.ffv1_frame.specs.Decoding as decoding
use Rattle.ffv1_frame.specs.Decoding.{State, StepsBy, Decodes, Offers, at_first, top_of}
use Rattle.ffv1_frame.specs.Answer.{AnswersCut, AnswersCoded, Ends, SinkRefuses, HasDecided, cut_fault, decisions_in, decided_by}
use Rattle.ffv1_range.specs.Table.{Table}
use Rattle.ffv1_frame.proofs.lemmas.laws.decoding.Machines.{runs_split}

-- lines are only handed over, never taken back
pub record MoreLines (s t : State) : Type 0 where
  pub more : List Line
  pub behind : t.lines ≡ s.lines ++ more

same_lines : (s t : State) → t.lines ≡ s.lines → MoreLines s t
same_lines s t e = record { more = []; behind = e ∙ sym (append-nil s.lines) }

then_lines : (s m t : State) → MoreLines s m → MoreLines m t → MoreLines s t
then_lines s m t f g = record { more = f.more ++ g.more; behind = g.behind ∙ ap (λ ls. ls ++ g.more) f.behind ∙ append_assoc s.lines f.more g.more }

module _ (a : Accepted) (coded : ℕ → List ℕ) where
  step_lines : (s t : State) (e : Event) → StepsBy a coded s e t → MoreLines s t
  step_lines s t (Open r k) f = same_lines s t (ap (λ (z : State). z.lines) f.3)
  step_lines s t (Read r k p y) f = same_lines s t (ap (λ (z : State). z.lines) f.3)
  step_lines s t (Finish r planes y) f = same_lines s t (ap (λ (z : State). z.lines) f.2)
  step_lines s t (Hand r i p y) f = record {
    more = record { plane = p; row = top_of a.configuration p r + y; samples = get_or s.out i [] } ∷ [];
    behind = ap (λ (z : State). z.lines) f;
  }
  step_lines s t Close f = same_lines s t (ap (λ (z : State). z.lines) f)

  pub more_lines : (es : List Event) (s t : State) → Runs (StepsBy a coded) s es t → MoreLines s t
  more_lines [] s t f = same_lines s t (ap (λ (z : State). z.lines) f)
  more_lines (e ∷ es) s t f = then_lines s f.0 t (step_lines s f.0 e f.1) (more_lines es f.0 t f.2)

same_some : (x y : Said) → Some x ≡ Some y → x ≡ y
same_some x y e = cc

not_both : (info : Said) (f : FrameFault) (r : Result Said FrameFault) → r ≡ Ok info → r ≡ Err f → ⊥
not_both info f r e g = cc

module _ {S : Type 0} (takes refuses : LineStep S) (a : Accepted) (payload : List ℕ) (old new : S) (tally : Tally) where
  -- a payload that is answered Ok codes a picture
  pub record Found (info : Said) : Type 0 where
    pub planes : Planes
    pub codes : CodesPicture a payload planes info
    pub grows : Grows takes old (lines_of a.configuration planes) new

  pub found : (info : Said) (cut : Result (List ℕ) CutFault) → CutsTo a.configuration payload cut →
      ((os : List ℕ) (t : State) → Cuts a.configuration payload (slice_index os) → Decodes a (coded_of payload (foot_length a.configuration.ec) (slice_index os)) t →
      (planes : Planes) × (info : Said) × CodesPicture a payload planes info × (t.info ≡ Some info) × (t.lines ≡ lines_of a.configuration planes)) →
      AnswersCut takes refuses a payload old new tally (Ok info) cut → Found info
  found info (Err f) cuts decoded answer = absurd (not_both info (cut_fault f) (Ok info) refl answer.0)
  found info (Ok os) cuts decoded answer =
      let made = decoded os answer.state cuts.1 answer.decodes in
      let same : made.1 ≡ info = same_some made.1 info (sym made.3 ∙ answer.says) in
      record {
        planes = made.0;
        codes = subst (CodesPicture a payload made.0) same made.2;
        grows = subst (λ ls. Grows takes old ls new) made.4 answer.grows;
      }

  module _ (coded : ℕ → List ℕ) (planes : Planes) (info : Said) (t : State) (decodes : Decodes a coded t) (says : t.info ≡ Some info) (lines : t.lines ≡ lines_of a.configuration planes) where
    ended : (said : Said) → ((s : State) → Decodes a coded s → s ≡ t) → Ends takes refuses a coded old new tally said → (said ≡ info) × Grows takes old (lines_of a.configuration planes) new
    ended said one ends =
        let same = one ends.state ends.decodes in (
          same_some said info (sym ends.says ∙ ap (λ (z : State). z.info) same ∙ says),
          subst (λ ls. Grows takes old ls new) (ap (λ (z : State). z.lines) same ∙ lines) ends.grows,
        )

    refused : (f : FrameFault) → ((before after : List Event) (s m : State) → events_of a.configuration ≡ before ++ after → Runs (StepsBy a coded) (at_first a.configuration) before s →
        Runs (StepsBy a coded) (at_first a.configuration) before m → s ≡ m) → SinkRefuses takes refuses a coded old new tally f →
        (f.fault ≡ fault.Sink) × wire.Refuses takes refuses old (lines_of a.configuration planes) new
    refused f one sink =
        let c = a.configuration in
        let hand = Hand sink.row sink.number sink.plane sink.line in
        let run : Runs (StepsBy a coded) (at_first c) (sink.offers.before ++ (hand ∷ sink.offers.after)) t = subst (λ es. Runs (StepsBy a coded) (at_first c) es t) sink.offers.parts decodes in
        let parts = runs_split (StepsBy a coded) (at_first c) t sink.offers.before (hand ∷ sink.offers.after) run in
        let same : parts.0 ≡ sink.state = one sink.offers.before (hand ∷ sink.offers.after) parts.0 sink.state sink.offers.parts parts.1 sink.offers.runs in
        let more = more_lines a coded sink.offers.after parts.2.0 t parts.2.2 in
        let line : State → Line = λ s. record { plane = sink.plane; row = top_of c sink.plane sink.row + sink.line; samples = get_or s.out sink.number [] } in (
          ap (λ (g : FrameFault). g.fault) sink.is,
          record {
            before = sink.state.lines;
            line = line sink.state;
            after = more.more;
            between = sink.between;
            parts =
                sym lines ∙ more.behind ∙ ap (λ (z : State). z.lines ++ more.more) parts.2.1
                ∙ append_assoc parts.0.lines (line parts.0 ∷ []) more.more
                ∙ ap (λ (z : State). z.lines ++ (line z ∷ more.more)) same;
            grows = sink.grows;
            last = sink.last;
          },
        )

    -- a payload that codes a picture is answered so
    pub answered : (result : Result Said FrameFault) → ((s : State) → Decodes a coded s → s ≡ t) → ((f : FrameFault) (s : State) → decoding.Refuses a coded f s → ⊥) →
        ((before after : List Event) (s m : State) → events_of a.configuration ≡ before ++ after → Runs (StepsBy a coded) (at_first a.configuration) before s →
        Runs (StepsBy a coded) (at_first a.configuration) before m → s ≡ m) →
        AnswersCoded takes refuses a coded old new tally result →
        MatchResult result
        (λ said. (said ≡ info) × Grows takes old (lines_of a.configuration planes) new)
        (λ f. (f.fault ≡ fault.Sink) × wire.Refuses takes refuses old (lines_of a.configuration planes) new)
    answered (Ok said) one apart beginning answer = ended said one answer
    answered (Err f) one apart beginning answer = elim answer [
      | inl faults ↦ absurd (apart f faults.state faults.refused)
      | inr sink ↦ refused f beginning sink
    ]

-- few decisions are counted, if few were made
module _ {S : Type 0} (takes refuses : LineStep S) (a : Accepted) (payload : List ℕ) (old new : S) (tally : Tally) (most : ℕ) where
  told : (t : Table) (s : State) → HasDecided t s tally → decisions_in s ≤ most → decided_by tally ≤ most
  told t s decided few = let all = decided.in_all in omega (arith, all, few)

  pub few_told : (result : Result Said FrameFault) (cut : Result (List ℕ) CutFault) → CutsTo a.configuration payload cut →
      ((os : List ℕ) (s : State) → Cuts a.configuration payload (slice_index os) → Decodes a (coded_of payload (foot_length a.configuration.ec) (slice_index os)) s → decisions_in s ≤ most) →
      ((os : List ℕ) (f : FrameFault) (s : State) → Cuts a.configuration payload (slice_index os) → decoding.Refuses a (coded_of payload (foot_length a.configuration.ec) (slice_index os)) f s → decisions_in s ≤ most) →
      ((os : List ℕ) (r i p y : ℕ) (s : State) → Cuts a.configuration payload (slice_index os) → Offers a (coded_of payload (foot_length a.configuration.ec) (slice_index os)) r i p y s → decisions_in s ≤ most) →
      AnswersCut takes refuses a payload old new tally result cut → decided_by tally ≤ most
  few_told result (Err f) cuts end fault offered answer = rw answer.1 (omega arith)
  few_told (Ok said) (Ok os) cuts end fault offered answer = told a.table answer.state answer.decided (end os answer.state cuts.1 answer.decodes)
  few_told (Err f) (Ok os) cuts end fault offered answer = elim answer [
    | inl faults ↦ told a.table faults.state faults.decided (fault os f faults.state cuts.1 faults.refused)
    | inr sink ↦
        told a.table sink.state sink.decided (offered os sink.row sink.number sink.plane sink.line sink.state cuts.1 sink.offers)
  ]
