-- What a call of the decoder is for, whatever the payload and the sink.
use Rattle.std.specs.Prelude.{◌≡◌, ℕ, ◌<◌, ◌≤◌, ◌==◌, false, Result, Ok, MatchResult, List, [], ◌∷◌}
use Rattle.std.specs.Prelude.{map, length}
use Rattle.std.specs.List.{filter, range_with_len}
use Rattle.ffv1_wire.specs.Runs.{LineStep, Line, Grows}
use Rattle.ffv1_wire.specs.Runs as wire
use Rattle.ffv1_range.specs.declared.tally.Tally.{Tally}
use Rattle.ffv1_range.specs.Standard.{standard}
use Rattle.ffv1_range.specs.Renormalising.{decisions_a_byte}
use Rattle.ffv1_record.specs.Configuration.{Configuration}
use Rattle.ffv1_record.specs.Accepted.{Accepted}
use Rattle.ffv1_record.specs.Accepted.{is_rice}
use Rattle.ffv1_record.specs.Held.{held_of}
use Rattle.ffv1_record.specs.declared.config.Profile.TheVariants as profile
use Rattle.ffv1_record.specs.declared.checked.Held.{Held}
use Rattle.ffv1_frame.specs.declared.fault.CodecFault.TheVariants as fault
use Rattle.ffv1_frame.specs.declared.fault.FrameFault.{FrameFault}
use Rattle.ffv1_frame.specs.Picture.{Planes, IsPicture, plane_count, plane_height}
use Rattle.ffv1_frame.specs.SliceList.{Said}
use Rattle.ffv1_frame.specs.Frame.{IsSaid, CodesPicture, HasLongSlice, frame_of}
use Rattle.ffv1_frame.specs.Lines.{line_in, lines_of}
use Rattle.ffv1_frame.specs.Length.{frame_most}
use Rattle.ffv1_frame.specs.Bounds.{most_decisions, most_by_bytes, most_by_standard}
use Rattle.ffv1_frame.specs.Answer.{decided_by}

-- each row of each plane stands once among the lines of a picture, in each plane from the top
abbrev pub StandsOnce : Accepted → Planes → Type 0
StandsOnce a planes =
    (p : ℕ) → p < plane_count a.configuration →
    map (λ (l : Line). l.row)
    (filter (λ (l : Line). l.plane == p) (lines_of a.configuration planes))
    ≡ range_with_len 0 (plane_height a.configuration p)

-- the lines in row y of plane p
abbrev pub lines_at : ℕ → ℕ → List Line → List Line
lines_at p y lines = filter (λ (l : Line). l.row == y) (filter (λ (l : Line). l.plane == p) lines)

-- among the lines of a picture there is at each place of its planes that line of it, once, and at
-- no other place any
pub record StandsAtEachPlace (c : Configuration) (planes : Planes) : Type 0 where
  pub inside : (p y : ℕ) → p < plane_count c → y < plane_height c p →
      lines_at p y (lines_of c planes) ≡ line_in c planes y p ∷ []
  pub plane : (p y : ℕ) → plane_count c ≤ p → lines_at p y (lines_of c planes) ≡ []
  pub row : (p y : ℕ) → plane_height c p ≤ y → lines_at p y (lines_of c planes) ≡ []

-- the frames that an encoder writes are short: 2 n + 1 bytes for a residual of n binary digits, and
-- for a slice 109, 6 more with transparency, 2 with more than 16 columns, and 2 with more than 16
-- rows
abbrev pub AreShort : Accepted → Type 0
AreShort a =
    (planes : Planes) (info : Said) → IsPicture a.configuration planes → IsSaid info →
    length (frame_of a planes info) ≤ frame_most a.configuration planes info

module _ {S : Type 0} (takes refuses : LineStep S) (a : Accepted) (old new : S)
    (result : Result Said FrameFault) where
  -- Ok with what the picture says, and the sink took its lines; or the sink refused the line that
  -- came next
  abbrev pub DecodesTo : Planes → Said → Type 0
  DecodesTo planes info =
      MatchResult result
      (λ said. (said ≡ info) × Grows takes old (lines_of a.configuration planes) new)
      (λ f. (f.fault ≡ fault.Sink)
      × wire.Refuses takes refuses old (lines_of a.configuration planes) new)

  -- decoding accepts exactly the payloads that code a picture, every range coded frame of an
  -- encoder among them, and hands over each sample, once and in its place; such a frame is short;
  -- whatever bytes come, few decisions are made, at most 63 for each sample that a slice codes and
  -- 559 a slice, with transparency 621, and in Wide few for what the payload weighs: by the
  -- standard's table at most 197 for each coded byte and 197 a slice, and beside them 63 for each
  -- sample of one line of its cell; and no more is held than the configuration says, of which the
  -- height says only whether two lines of chroma are kept
  pub record Headline (payload : List ℕ) (tally : Tally) (held : Held) : Type 0 where
    pub found : (info : Said) → result ≡ Ok info →
        (planes : Planes) × CodesPicture a payload planes info
        × Grows takes old (lines_of a.configuration planes) new
    pub only : (planes : Planes) (info : Said) → CodesPicture a payload planes info →
        DecodesTo planes info
    pub once : (planes : Planes) → StandsOnce a planes
    pub encoded : is_rice a.configuration.coder ≡ false → (planes : Planes) (info : Said) →
        IsPicture a.configuration planes → IsSaid info → (HasLongSlice a planes info → ⊥) →
        payload ≡ frame_of a planes info → DecodesTo planes info
    pub short : AreShort a
    pub few : decided_by tally ≤ most_decisions a.configuration
    pub few_by_bytes : a.profile ≡ profile.Wide → decided_by tally
        ≤ most_by_bytes (decisions_a_byte a.table.floor) a.configuration payload
    pub few_by_standard : a.profile ≡ profile.Wide → a.table ≡ standard → decided_by tally
        ≤ most_by_standard a.configuration payload
    pub holds : held ≡ held_of a.configuration
