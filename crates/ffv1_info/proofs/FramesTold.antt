-- The facts of frames are written, or not.
use Rattle.std.proofs.Common.{◌≡◌, ℕ, Bool, true, false, Option, Some, None, Result, Err, List, [], ◌++◌, length, inl, inr, ap, sym, subst, ◌∙◌, append_assoc, ◌⊎◌}
use Rattle.ffv1_range.specs.Counts.{saturated}
use Rattle.ffv1_wire.specs.Failures.{one_more}
use Rattle.ffv1_wire.specs.Passage.{Passage, between}
use Rattle.ffv1_record.specs.Accepted.{Accepted}
use Rattle.ffv1_files.specs.Places.{Place}
use Rattle.ffv1_frame.specs.SliceList.{Said}
use Rattle.ffv1_reads.specs.Head.{Head}
use Rattle.ffv1_reads.specs.Known.{Known}
use Rattle.ffv1_video.specs.declared.fault.Fault.{Fault}
use Rattle.ffv1_video.specs.Faults.{Cause, cause_of}
use Rattle.ffv1_video.specs.Faults.Cause.{Reading, Writing, Memory, Content}
use Rattle.ffv1_outline.specs.declared.facts.Form.{Form}
use Rattle.ffv1_unpack.specs.Internal.Told.{WritesFrame}
use Rattle.ffv1_unpack.specs.Plays.{HasThen, NextHasFault, NextIsPayload, NextPayloadLacks, NextReadFails, NextStays}
use Rattle.ffv1_unpack.specs.Stream.{Again, Coded, Frame, Stream}
use Rattle.ffv1_info.specs.StreamInfo.{CountStops, CountedStops, EndsBehind, EndsBy, FirstStops, FramesDone, FramesStop, PictureStops, ReadsMost, Wrote, first_facts, said_of}
use Rattle.ffv1_info.specs.StreamFacts.{counted_facts, picture_facts}
use Rattle.ffv1_info.specs.Internal.Frames.{ReadsFirst, ReadsOthers, has_some, is_frame, next_of, said_in, with_others}
use Rattle.ffv1_unpack.specs.declared.player.NextFrame.{NextFrame}
use Rattle.ffv1_info.proofs.FramesRead.{all_counted, all_read, one_read, others_end}
use Rattle.ffv1_info.proofs.Groups.{group_stops, stops_after, stops_behind, wrote_behind, wrote_still}

-- what was answered of the first frame
pub is_some : (first : Option Frame) (next : NextFrame Said) → next ≡ next_of first → is_frame next ≡ has_some first
is_some None next is = ap is_frame is
is_some (Some Again) next is = ap is_frame is
is_some (Some (Coded f)) next is = ap is_frame is

pub said_some : (first : Option Frame) (next : NextFrame Said) → next ≡ next_of first → said_in next ≡ said_of first
said_some None next is = ap said_in is
said_some (Some Again) next is = ap said_in is
said_some (Some (Coded f)) next is = ap said_in is

-- the facts of a picture of that size are those of the stream's
pub picture_told : (form : Form) (s : Stream) (first : Option Frame) (said : Option Said) (w h : ℕ) (p : Passage) (r : Result (Unit {0}) Fault) → said ≡ said_of first → w ≡ s.accepted.configuration.width →
    h ≡ s.accepted.configuration.height → WritesFrame (picture_facts form w h said) p r → WritesFrame (first_facts form s first) p r
picture_told form s first said w h p r is wide high writes =
    subst (λ z. WritesFrame (picture_facts form s.accepted.configuration.width s.accepted.configuration.height z) p r) is
    (subst (λ z. WritesFrame (picture_facts form s.accepted.configuration.width z said) p r) high (subst (λ z. WritesFrame (picture_facts form z h said) p r) wide writes))

-- and so are those of how many frames there are
pub counted_told : (form : Form) (n : ℕ) (p : Passage) (r : Result (Unit {0}) Fault) {h k : Head} → h ≡ k → WritesFrame (counted_facts form h n) p r → WritesFrame (counted_facts form k n) p r
counted_told form n p r same writes = subst (λ (z : Head). WritesFrame (counted_facts form z n) p r) same writes

-- if frames were not counted yet, it does not matter whether they are
module _ (Has : List (List ℕ) → (Place → List ℕ → List ℕ → Type 0) → List ℕ → List ℕ → Type 0) (form : Form) (s : Stream) (text : List ℕ) (input output : Passage) (f : Fault) where
  pub before_count : (count : Bool) → (Wrote text output × FirstStops Has input s.accepted f) ⊎ PictureStops Has form s text input output f → FramesStop Has form s text input output count f
  before_count false h = h
  before_count true h = elim h [
    | inl first ↦ inl first
    | inr picture ↦ inr (inl picture)
  ]

-- ---- after the first frame was read

module _ (form : Form) (s : Stream) (from mid : Place) (i0 i1 : Option (List ℕ)) (ib im : ℕ) (first : Option Frame) (reads : ReadsFirst s.accepted from mid (between i0 i1 ib im) first) (o0 o1 : Option (List ℕ)) (ob om : ℕ) where
  -- the facts of its picture are not written whole
  pub picture_stops : (count : Bool) (f : Fault) → WritesFrame (first_facts form s first) (between o0 o1 ob om) (Err f) → FramesStop (HasThen from) form s [] (between i0 i1 ib im) (between o0 o1 ob om) count f
  picture_stops count f h =
      before_count (HasThen from) form s [] (between i0 i1 ib im) (between o0 o1 ob om) f count
      (inr (record { first = first; reads = one_read s.accepted from mid i0 i1 i1 ib im im first reads; stops = group_stops (first_facts form s first) o0 o1 ob om f h }))

  module _ (wrote : Wrote (first_facts form s first) (between o0 o1 ob om)) where
    -- they are, and frames are not counted
    pub frames_told : FramesDone (HasThen from) form s [] (between i0 i1 ib im) (between o0 o1 ob om) false
    frames_told = record { first = first; reads = one_read s.accepted from mid i0 i1 i1 ib im im first reads; wrote = wrote }

    -- the others are not read to their end
    pub count_stops : (i2 : Option (List ℕ)) (ia : ℕ) (others : List (List ℕ)) (f : Fault) → has_some first ≡ true → EndsBy (HasThen mid) (between i1 i2 im ia) others f (cause_of f) →
        FramesStop (HasThen from) form s [] (between i0 i2 ib ia) (between o0 o1 ob om) true f
    count_stops i2 ia others f some h =
        let ends = others_end s.accepted from mid i0 i1 i2 ib im ia first reads some others f (cause_of f) h in
        inr (inr (inl (record { first = first; held = ends.0; begins = ends.1; ends = ends.2; wrote = wrote })))

    module _ (i2 : Option (List ℕ)) (ia : ℕ) (others : List (List ℕ)) (more : ReadsOthers (has_some first) mid (between i1 i2 im ia) others) (n : ℕ) (is : n ≡ saturated (with_others (has_some first) others)) where
      abbrev all : ReadsMost (HasThen from) (between i0 i2 ib ia) s.accepted None first
      all = all_read s.accepted from mid i0 i1 i2 ib im ia first reads others more

      number : n ≡ saturated (length all.held)
      number = is ∙ ap saturated (all_counted s.accepted from mid i0 i1 i2 ib im ia first reads others more)

      module _ (o2 : Option (List ℕ)) (oa : ℕ) where
        -- how many they are is written, or not
        pub frames_counted : Wrote (counted_facts form s.head n) (between o1 o2 om oa) → FramesDone (HasThen from) form s [] (between i0 i2 ib ia) (between o0 o2 ob oa) true
        frames_counted h = record {
          first = first;
          reads = all;
          wrote =
              wrote_behind (first_facts form s first) o0 o1 o2 ob om oa wrote (counted_facts form s.head (saturated (length all.held)))
              (subst (λ z. Wrote (counted_facts form s.head z) (between o1 o2 om oa)) number h);
        }

        pub counted_stops : (f : Fault) → WritesFrame (counted_facts form s.head n) (between o1 o2 om oa) (Err f) → FramesStop (HasThen from) form s [] (between i0 i2 ib ia) (between o0 o2 ob oa) true f
        counted_stops f h = inr (inr (inr (record {
          first = first;
          reads = all;
          stops =
              stops_after (first_facts form s first) o0 o1 o2 ob om oa wrote (counted_facts form s.head (saturated (length all.held))) f
              (group_stops (counted_facts form s.head (saturated (length all.held))) o1 o2 om oa f (subst (λ z. WritesFrame (counted_facts form s.head z) (between o1 o2 om oa) (Err f)) number h));
        })))

-- ---- what is told of frames from a place on is told of the file

module _ (Here There : List (List ℕ) → (Place → List ℕ → List ℕ → Type 0) → List ℕ → List ℕ → Type 0) (i0 i1 i2 : Option (List ℕ)) (ib im ia : ℕ)
    (leads : (ps : List (List ℕ)) (Next : Place → List ℕ → List ℕ → Type 0) → Known i1 i2 (Here ps Next) → Known i0 i2 (There ps Next)) (kept : im ≡ ib) where
  abbrev reads_there : (a : Accepted) (most : Option ℕ) (first : Option Frame) → ReadsMost Here (between i1 i2 im ia) a most first → ReadsMost There (between i0 i2 ib ia) a most first
  reads_there a most first h = record { held = h.held; begins = h.begins; few = h.few; has = leads h.held (EndsBehind most (length h.held)) h.has; kept = h.kept ∙ kept }

  ends_there : (held : List (List ℕ)) (f : Fault) (why : Cause) → EndsBy Here (between i1 i2 im ia) held f why → EndsBy There (between i0 i2 ib ia) held f why
  ends_there held f Reading h = (h.0 ∙ ap one_more kept, leads held NextReadFails h.1)
  ends_there held f Writing h = h
  ends_there held f Memory h = (h.0 ∙ kept, leads held NextPayloadLacks h.1)
  ends_there held f Content h = (h.0 ∙ kept, leads held (NextHasFault f) h.1)

  first_there : (a : Accepted) (f : Fault) → FirstStops Here (between i1 i2 im ia) a f → FirstStops There (between i0 i2 ib ia) a f
  first_there a f h = elim h [
    | inl none ↦ inl (record { is = none.is; has = leads [] NextStays none.has; kept = none.kept ∙ kept })
    | inr other ↦ elim other [
      | inl faults ↦ inr (inl (record {
        payload = faults.payload;
        fault = faults.fault;
        tally = faults.tally;
        has = leads [] (NextIsPayload faults.payload) faults.has;
        faulty = faults.faulty;
        is = faults.is;
        kept = faults.kept ∙ kept;
      }))
      | inr ends ↦ inr (inr (ends_there [] f (cause_of f) ends))
    ]
  ]

  -- after a text
  module _ (form : Form) (s : Stream) (text : List ℕ) (o0 o1 o2 : Option (List ℕ)) (ob om oa : ℕ) (before : Wrote text (between o0 o1 ob om)) where
    pub done_there : (count : Bool) → FramesDone Here form s [] (between i1 i2 im ia) (between o1 o2 om oa) count → FramesDone There form s text (between i0 i2 ib ia) (between o0 o2 ob oa) count
    done_there false h = record { first = h.first; reads = reads_there s.accepted (Some 1) h.first h.reads; wrote = wrote_behind text o0 o1 o2 ob om oa before (first_facts form s h.first) h.wrote }
    done_there true h =
        let first = first_facts form s h.first in
        let counted = counted_facts form s.head (saturated (length h.reads.held)) in
        record {
          first = h.first;
          reads = reads_there s.accepted None h.first h.reads;
          wrote = subst (λ z. Wrote z (between o0 o2 ob oa)) (sym (append_assoc text first counted)) (wrote_behind text o0 o1 o2 ob om oa before (first ++ counted) h.wrote);
        }

    early_there : (f : Fault) → Wrote [] (between o1 o2 om oa) × FirstStops Here (between i1 i2 im ia) s.accepted f → Wrote text (between o0 o2 ob oa) × FirstStops There (between i0 i2 ib ia) s.accepted f
    early_there f h = (wrote_still text o0 o1 o2 ob om oa before h.0, first_there s.accepted f h.1)

    picture_there : (f : Fault) → PictureStops Here form s [] (between i1 i2 im ia) (between o1 o2 om oa) f → PictureStops There form s text (between i0 i2 ib ia) (between o0 o2 ob oa) f
    picture_there f h =
        record { first = h.first; reads = reads_there s.accepted (Some 1) h.first h.reads; stops = stops_after text o0 o1 o2 ob om oa before (first_facts form s h.first) f h.stops }

    count_there : (f : Fault) → CountStops Here form s [] (between i1 i2 im ia) (between o1 o2 om oa) f → CountStops There form s text (between i0 i2 ib ia) (between o0 o2 ob oa) f
    count_there f h = record {
      first = h.first;
      held = h.held;
      begins = h.begins;
      ends = ends_there h.held f (cause_of f) h.ends;
      wrote = wrote_behind text o0 o1 o2 ob om oa before (first_facts form s h.first) h.wrote;
    }

    counted_there : (f : Fault) → CountedStops Here form s [] (between i1 i2 im ia) (between o1 o2 om oa) f → CountedStops There form s text (between i0 i2 ib ia) (between o0 o2 ob oa) f
    counted_there f h = record {
      first = h.first;
      reads = reads_there s.accepted None h.first h.reads;
      stops = stops_behind text o0 o1 o2 ob om oa before (first_facts form s h.first) (counted_facts form s.head (saturated (length h.reads.held))) f h.stops;
    }

    pub stops_there : (count : Bool) (f : Fault) → FramesStop Here form s [] (between i1 i2 im ia) (between o1 o2 om oa) count f → FramesStop There form s text (between i0 i2 ib ia) (between o0 o2 ob oa) count f
    stops_there false f h = elim h [
      | inl early ↦ inl (early_there f early)
      | inr picture ↦ inr (picture_there f picture)
    ]
    stops_there true f h = elim h [
      | inl early ↦ inl (early_there f early)
      | inr later ↦ elim later [
        | inl picture ↦ inr (inl (picture_there f picture))
        | inr last ↦ elim last [
          | inl count ↦ inr (inr (inl (count_there f count)))
          | inr counted ↦ inr (inr (inr (counted_there f counted)))
        ]
      ]
    ]
