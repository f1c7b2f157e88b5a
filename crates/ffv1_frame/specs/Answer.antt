-- What decoding a payload answers, what it decided, and what it makes of a sink.
use Rattle.std.specs.Prelude.{◌≡◌, ◌⊎◌, ℕ, ◌+◌, ◌-◌, Some, Result, Ok, Err, MatchResult}
use Rattle.std.specs.Prelude.{List, [], ◌++◌, length, slice_index}
use Rattle.std.proofs.Common.{get_or}
use Rattle.std.specs.List.{sum_by}
use Rattle.ffv1_wire.specs.Runs.{LineStep, Grows}
use Rattle.ffv1_range.specs.declared.tally.Tally.{Tally}
use Rattle.ffv1_range.specs.Interval.{interval_of}
use Rattle.ffv1_range.specs.Table.{Table}
use Rattle.ffv1_range.specs.History.{decisions_after}
use Rattle.ffv1_range.specs.Counts.{saturated, ones_in, zeros_in}
use Rattle.ffv1_record.specs.Accepted.{Accepted}
use Rattle.ffv1_record.specs.declared.checked.Held.{Held}
use Rattle.ffv1_slice.specs.Footer.{foot_length}
use Rattle.ffv1_slice.specs.Cutting.{coded_of, CutsTo}
use Rattle.ffv1_slice.specs.declared.cutting.CutFault.{CutFault}
use Rattle.ffv1_frame.specs.declared.fault.CodecFault.TheVariants as fault
use Rattle.ffv1_frame.specs.declared.fault.FrameFault.{FrameFault}
use Rattle.ffv1_frame.specs.SliceList.{Said}
use Rattle.ffv1_frame.specs.Decoding as decoding
use Rattle.ffv1_frame.specs.Decoding.{State, Slice, Decodes, Offers, fault_in, of_slice, in_slice}
use Rattle.ffv1_frame.specs.Decoding.{top_of}

-- a decoder of frames, as its callers see it: its configuration, what the last call decided, how
-- long its five vectors are, and for how much each has memory
pub record Decoder : Type 0 where
  pub accepted : Accepted
  pub tally : Tally
  pub held : Held
  pub capacities : Held

-- the slices of a frame of which something may be known
abbrev pub slices_in : State → List Slice
slices_in s = s.done ++ s.columns

-- how many decisions were made in the slices, each counted by itself
abbrev pub decisions_in : State → ℕ
decisions_in s = sum_by (λ (q : Slice). length q.past) (slices_in s)

-- how often the coder of a slice renormalised after its decisions
abbrev pub renormalisations_in : Table → Slice → ℕ
renormalisations_in t q = (interval_of (decisions_after t [] q.past)).count - 2

-- how many decisions were 1, how many 0, and how often their coders renormalised
abbrev pub tally_of : Table → State → Tally
tally_of t s = record {
  ones = saturated (sum_by (λ (q : Slice). ones_in q.past) (slices_in s));
  zeros = saturated (sum_by (λ (q : Slice). zeros_in q.past) (slices_in s));
  renormalisations = saturated (sum_by (renormalisations_in t) (slices_in s));
}

-- how many decisions a tally shows
abbrev pub decided_by : Tally → ℕ
decided_by t = saturated (t.ones + t.zeros)

-- what was decided up to a state: by kind, and in all
pub record HasDecided (t : Table) (s : State) (tally : Tally) : Type 0 where
  pub by_kind : tally ≡ tally_of t s
  pub in_all : decided_by tally ≡ saturated (decisions_in s)

module _ {S : Type 0} (takes refuses : LineStep S) (a : Accepted) (coded : ℕ → List ℕ)
    (old new : S) (tally : Tally) where
  -- decoding came to its end
  pub record Ends (info : Said) : Type 0 where
    pub state : State
    pub decodes : Decodes a coded state
    pub says : state.info ≡ Some info
    pub decided : HasDecided a.table state tally
    pub grows : Grows takes old state.lines new

  -- decoding was refused at its first fault
  pub record Faults (f : FrameFault) : Type 0 where
    pub state : State
    pub refused : decoding.Refuses a coded f state
    pub decided : HasDecided a.table state tally
    pub grows : Grows takes old state.lines new

  -- the sink refused the line that came next
  pub record SinkRefuses (f : FrameFault) : Type 0 where
    pub state : State
    pub row : ℕ
    pub number : ℕ
    pub plane : ℕ
    pub line : ℕ
    pub offers : Offers a coded row number plane line state
    pub is : f ≡ fault_in a.configuration fault.Sink row 0 plane line 0
    pub decided : HasDecided a.table state tally
    pub between : S
    pub grows : Grows takes old state.lines between
    pub last : refuses between plane (top_of a.configuration plane row + line)
        (get_or state.out number []) new

  -- the answer to a payload with these coded bytes
  abbrev pub AnswersCoded : Result Said FrameFault → Type 0
  AnswersCoded result = MatchResult result Ends (λ f. Faults f ⊎ SinkRefuses f)

-- a payload that is not cut has this fault
abbrev pub cut_fault : CutFault → FrameFault
cut_fault f = in_slice (of_slice f.fault) f.slice

-- nothing was decided
abbrev pub no_tally : Tally
no_tally = record { ones = 0; zeros = 0; renormalisations = 0 }

module _ {S : Type 0} (takes refuses : LineStep S) (a : Accepted) (payload : List ℕ)
    (old new : S) (tally : Tally) (result : Result Said FrameFault) where
  -- the answer to a payload that was cut, or to one that was not
  abbrev pub AnswersCut : Result (List ℕ) CutFault → Type 0
  AnswersCut (Err f) = (result ≡ Err (cut_fault f)) × (tally ≡ no_tally) × (new ≡ old)
  AnswersCut (Ok offsets) = AnswersCoded takes refuses a
      (coded_of payload (foot_length a.configuration.ec) (slice_index offsets)) old new tally
      result

  -- the answer to a payload, by what it is cut to
  pub record Answers : Type 0 where
    pub cut : Result (List ℕ) CutFault
    pub cuts : CutsTo a.configuration payload cut
    pub answer : AnswersCut cut
