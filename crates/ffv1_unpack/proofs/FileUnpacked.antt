-- A file is unpacked.
use Rattle.std.proofs.Common.{◌≡◌, refl, ℕ, Bool, true, false, Option, List, [], ◌∷◌, ◌++◌, length, inl, inr, ap, subst, ◌∙◌, arith}
use Rattle.ffv1_range.specs.Counts.{saturated}
use Rattle.ffv1_wire.specs.Failures.{one_more}
use Rattle.ffv1_wire.specs.Passage.{between}
use Rattle.ffv1_record.specs.Accepted.{Accepted}
use Rattle.ffv1_record.specs.Configuration.{Configuration}
use Rattle.ffv1_files.specs.Places.{Place}
use Rattle.ffv1_files.specs.declared.notes.Notes.{Notes}
use Rattle.ffv1_files.specs.Readers.{Standing}
use Rattle.ffv1_reads.specs.Head.{Head}
use Rattle.ffv1_reads.specs.Known.{Known}
use Rattle.ffv1_words.specs.declared.order.FrameRange.{FrameRange}
use Rattle.ffv1_video.specs.declared.profile.Profile.{Profile}
use Rattle.ffv1_video.specs.declared.fault.Fault.{Fault}
use Rattle.ffv1_video.specs.declared.fault.Fault.TheVariants as fault
use Rattle.ffv1_video.specs.Faults.{Cause, cause_of}
use Rattle.ffv1_video.specs.Faults.Cause.{Reading, Writing, Memory, Content}
use Rattle.ffv1_unpack.specs.Behind.{NotedIn}
use Rattle.ffv1_unpack.specs.Internal.Opens.{OpensPart, OpensStream, stream_of}
use Rattle.ffv1_unpack.specs.Plays.{GoesThen, NextBehind, NextHasFault, NextPayloadLacks, NextReadFails, NextStays, NotedAfter, has_more}
use Rattle.ffv1_unpack.specs.Ranges.{NextShows, PartThen}
use Rattle.ffv1_unpack.specs.Internal.Carried.{ShowsThen}
use Rattle.ffv1_unpack.specs.Stream.{Coded, Frame, IsFrame, IsStream, Stream, frame_payload, payloads}
use Rattle.ffv1_unpack.specs.Unpack.{IsUnpackFault, LacksUnpacking, UnpackGoes, UnpackNone, UnpackRangeDone, UnpackRangeStops}
use Rattle.ffv1_unpack.specs.Unpacked.{HasText, LacksTextBy, is_ppm_stream, shown_text}
use Rattle.ffv1_unpack.specs.Unpacking.{FormatChanges, GoesTo, PayloadStops, PictureFails, RowFails, UnpackingStopsIn, UnpacksMost, UnpacksThen}
use Rattle.ffv1_unpack.proofs.FilePlayed.{fails_file, file_has, goes_file, plays_file}
use Rattle.ffv1_unpack.proofs.FileRead.{no_items, positive}
use Rattle.ffv1_unpack.proofs.FramesInTurn.{reads_none}
use Rattle.ffv1_unpack.proofs.FramesNoted.{noted_by}
use Rattle.ffv1_unpack.proofs.FramesCarried.{part_has}
use Rattle.ffv1_unpack.proofs.FramesPlayed.{has_stays}

pub text_own : (ppm : Bool) (c : Configuration) (f : Fault) → LacksTextBy ppm c f → IsUnpackFault f
text_own false c f lacks = inr (inr (inr (inr (inl lacks.1))))
text_own true c f lacks = inr (inr (inr (inr (inr lacks.1))))

-- it is opened, and its pictures have no text
pub lacks_text : (profile : Profile) (i0 i1 : Option (List ℕ)) (ib im : ℕ) (r : Standing) (a : Accepted) (f : Fault) → OpensStream profile r a (between i0 i1 ib im) →
    LacksTextBy (is_ppm_stream (stream_of r a)) a.configuration f → LacksUnpacking profile (between i0 i1 ib im) f
lacks_text profile i0 i1 ib im r a f opens lacks =
    inr (record {
      stream = stream_of r a;
      is = opens.stream;
      has = file_has profile i0 i1 i1 r.head r.place opens.known [] NextStays (has_stays r.place r.place i1 i1 [] (reads_none r.place i1));
      kept = opens.kept;
      lacks = lacks;
    })

module _ (profile : Profile) (i0 i1 i2 o0 o1 : Option (List ℕ)) (ib im ia ob om : ℕ) where
  -- what is unpacked of what a reader has left is unpacked of what has it
  module _ (s : Stream) (is : IsStream profile s) (text : HasText s) (Here : List (List ℕ) → (Place → List ℕ → List ℕ → Type 0) → List ℕ → List ℕ → Type 0)
      (Held : Head → List (List ℕ) → (Place → List ℕ → List ℕ → Type 0) → List ℕ → List ℕ → Type 0)
      (leads : (ps : List (List ℕ)) (Next : Place → List ℕ → List ℕ → Type 0) → Known i1 i2 (Here ps Next) → Known i0 i2 (Held s.head ps Next)) (kept : im ≡ ib) where
    goes : (frames : List Frame) (Next : Place → List ℕ → List ℕ → Type 0) → GoesThen (IsFrame s.accepted) frame_payload Here (shown_text s) (between i1 i2 im ia) (between o0 o1 ob om) frames Next →
        GoesThen (IsFrame s.accepted) frame_payload (Held s.head) (shown_text s) (between i0 i2 ib ia) (between o0 o1 ob om) frames Next
    goes = goes_file (IsFrame s.accepted) frame_payload (shown_text s) Here (Held s.head) i0 i1 i2 o0 o1 ib im ia ob om leads kept

    unpacks : (frames : List Frame) (Next : Place → List ℕ → List ℕ → Type 0) → UnpacksThen Here s (between i1 i2 im ia) (between o0 o1 ob om) frames Next →
        UnpacksThen (Held s.head) s (between i0 i2 ib ia) (between o0 o1 ob om) frames Next
    unpacks frames Next h = record { plays = plays_file (IsFrame s.accepted) frame_payload (shown_text s) Here (Held s.head) i0 i1 i2 o0 o1 ib im ia ob om leads kept frames Next h.plays; alike = h.alike }

    picture_fails : (frames : List Frame) → PictureFails Here s (between i1 i2 im ia) (between o0 o1 ob om) frames →
        PictureFails (Held s.head) s (between i0 i2 ib ia) (between o0 o1 ob om) frames
    picture_fails frames h = record { fails = fails_file (IsFrame s.accepted) frame_payload (shown_text s) Here (Held s.head) i0 i1 i2 o0 o1 ib im ia ob om leads kept frames h.fails; alike = h.alike }

    format_changes : (f : Fault) → FormatChanges Here s (between i1 i2 im ia) (between o0 o1 ob om) f → FormatChanges (Held s.head) s (between i0 i2 ib ia) (between o0 o1 ob om) f
    format_changes f h = record {
      frames = h.frames;
      last = h.last;
      goes = goes (h.frames ++ (Coded h.last ∷ [])) NextStays h.goes;
      alike = h.alike;
      changed = h.changed;
      is = h.is;
      wrote = record { written = h.wrote.written; writes = h.wrote.writes };
    }

    -- by how a payload comes after those of frames
    module _ (HereComes HeldComes : List (List ℕ) → List ℕ → Place → List ℕ → List ℕ → Type 0)
        (comes : (ps : List (List ℕ)) (payload : List ℕ) → Known i1 i2 (Here ps (HereComes ps payload)) → Known i0 i2 (Held s.head ps (HeldComes ps payload))) where
      goes_to : (frames : List Frame) (payload : List ℕ) → GoesTo Here s (between i1 i2 im ia) (between o0 o1 ob om) HereComes frames payload → GoesTo (Held s.head) s (between i0 i2 ib ia) (between o0 o1 ob om) HeldComes frames payload
      goes_to frames payload h = record { are = h.are; has = comes (payloads frames) payload h.has }

      row_fails : RowFails Here s (between i1 i2 im ia) (between o0 o1 ob om) HereComes → RowFails (Held s.head) s (between i0 i2 ib ia) (between o0 o1 ob om) HeldComes
      row_fails h = record {
        frames = h.frames;
        payload = h.payload;
        source = h.source;
        shows = h.shows;
        lines = h.lines;
        next = h.next;
        ppm = h.ppm;
        goes = goes_to h.frames h.payload h.goes;
        hands = h.hands;
        kept = h.kept ∙ kept;
        written = h.written;
        writes = h.writes;
      }

      payload_stops : (f : Fault) → PayloadStops Here s (between i1 i2 im ia) (between o0 o1 ob om) HereComes f → PayloadStops (Held s.head) s (between i0 i2 ib ia) (between o0 o1 ob om) HeldComes f
      payload_stops f h = record {
        frames = h.frames;
        payload = h.payload;
        fault = h.fault;
        tally = h.tally;
        goes = goes_to h.frames h.payload h.goes;
        alike = h.alike;
        faulty = h.faulty;
        is = h.is;
        written = h.written;
        writes = h.writes;
      }

      stops_by : (f : Fault) (why : Cause) → UnpackingStopsIn Here s (between i1 i2 im ia) (between o0 o1 ob om) HereComes f why →
          UnpackingStopsIn (Held s.head) s (between i0 i2 ib ia) (between o0 o1 ob om) HeldComes f why
      stops_by f Writing h = elim h [
        | inl picture ↦ inl (picture.0, picture_fails picture.0 picture.1)
        | inr row ↦ inr (row_fails row)
      ]
      stops_by f Reading h = (h.0 ∙ ap one_more kept, h.1, unpacks h.1 NextReadFails h.2)
      stops_by f Memory h = (
        h.0 ∙ kept,
        elim h.1 [
          | inl next ↦ inl (next.0, unpacks next.0 NextPayloadLacks next.1)
          | inr first ↦ inr (unpacks [] NextStays first)
        ],
      )
      stops_by f Content h = (
        h.0 ∙ kept,
        elim h.1 [
          | inl file ↦ inl (file.0, unpacks file.0 (NextHasFault f) file.1)
          | inr more ↦ elim more [
            | inl payload ↦ inr (inl (payload_stops f payload))
            | inr changes ↦ inr (inr (format_changes f changes))
          ]
        ],
      )

      pub unpack_goes : (f : Fault) → UnpackingStopsIn Here s (between i1 i2 im ia) (between o0 o1 ob om) HereComes f (cause_of f) → UnpackGoes profile (between i0 i2 ib ia) (between o0 o1 ob om) Held HeldComes f
      unpack_goes f h = record { stream = s; is = is; text = text; stops = stops_by f (cause_of f) h }

    module _ (notes : Notes) (most : Option ℕ) (frames : List Frame) where
      all_held : UnpacksMost Here s (between i1 i2 im ia) (between o0 o1 ob om) notes most frames → UnpacksMost (Held s.head) s (between i0 i2 ib ia) (between o0 o1 ob om) notes most frames
      all_held all = record { unpacks = unpacks frames (NextBehind notes most (length frames)) all.unpacks; few = all.few; kept = all.kept ∙ kept }

      pub unpack_none : length frames ≡ 0 → UnpacksMost Here s (between i1 i2 im ia) (between o0 o1 ob om) notes most frames → UnpackNone profile (between i0 i2 ib ia) (between o0 o1 ob om) Held most
      unpack_none none all = record {
        stream = s;
        is = is;
        text = text;
        notes = notes;
        all = subst (UnpacksMost (Held s.head) s (between i0 i2 ib ia) (between o0 o1 ob om) notes most) (no_items frames none) (all_held all);
      }

-- ---- the frames of a range

module _ (profile : Profile) (range : FrameRange) (carried : List ℕ) (i0 i1 i2 o0 o1 : Option (List ℕ)) (ib im ia ob om : ℕ) (r : Standing) (a : Accepted) (opens : OpensPart profile range.first carried r a (between i0 i1 ib im))
    (text : HasText (stream_of r a)) where
  has : (ps : List (List ℕ)) (Next : Place → List ℕ → List ℕ → Type 0) → Known i1 i2 (ShowsThen carried r.place ps Next) → Known i0 i2 (PartThen profile range.first carried r.head ps Next)
  has = part_has profile range.first carried r.head r.place i0 i1 i2 opens.known

  pub unpack_stops : (f : Fault) → UnpackingStopsIn (ShowsThen carried r.place) (stream_of r a) (between i1 i2 im ia) (between o0 o1 ob om) (NextShows carried) f (cause_of f) →
      UnpackRangeStops profile range (between i0 i2 ib ia) (between o0 o1 ob om) f
  unpack_stops f h =
      inr (inl (
        carried,
        unpack_goes profile i0 i1 i2 o0 o1 ib im ia ob om (stream_of r a) opens.stream text (ShowsThen carried r.place) (PartThen profile range.first carried) has opens.kept (NextShows carried) (NextShows carried)
            (λ ps payload. has ps (NextShows carried ps payload)) f h,
      ))

  module _ (notes : Notes) (frames : List Frame) (count : ℕ) (is : count ≡ saturated (length frames))
      (all : UnpacksMost (ShowsThen carried r.place) (stream_of r a) (between i1 i2 im ia) (between o0 o1 ob om) notes range.count frames) where
    pub no_frames : count ≡ 0 → UnpackRangeStops profile range (between i0 i2 ib ia) (between o0 o1 ob om) fault.NoFrames
    no_frames none =
        let few : length frames ≡ 0 = omega (arith, is, none) in
        inr (inr (
          refl,
          carried,
          unpack_none profile i0 i1 i2 o0 o1 ib im ia ob om (stream_of r a) opens.stream text (ShowsThen carried r.place) (PartThen profile range.first carried) has opens.kept notes range.count frames few all,
        ))

    pub done : (count ≡ 0 → ⊥) → (told : Notes) → (has_more range.count (length frames) ≡ true → told ≡ notes) → NotedAfter told range.count (length frames) →
        (has_more range.count (length frames) ≡ true → NotedIn profile (between i0 i2 ib ia) told) → UnpackRangeDone profile range (between i0 i2 ib ia) (between o0 o1 ob om) count told
    done some_frames told read unread noted = record {
      stream = stream_of r a;
      frames = frames;
      some = positive frames (λ none. some_frames (let zero_is : count ≡ 0 = omega (arith, is, none) in zero_is));
      few = all.few;
      counted = is;
      text = text;
      played = record { stream = opens.stream; decoded = all.unpacks.plays.goes.are };
      alike = all.unpacks.alike;
      carried = carried;
      reads = noted_by (λ Next. Known i0 i2 (PartThen profile range.first carried r.head (payloads frames) Next)) notes told (has_more range.count (length frames)) read
          (has (payloads frames) (NextBehind notes range.count (length frames)) all.unpacks.plays.goes.has);
      noted = unread;
      of_file = noted;
      kept = all.kept ∙ opens.kept;
      written = all.unpacks.plays.wrote.written;
      writes = all.unpacks.plays.wrote.writes;
    }
