-- A whole file is played.
use Rattle.std.proofs.Common.{◌≡◌, refl, ℕ, Bool, Option, Ok, List, [], length, map, inl, inr, ap, subst, ◌∙◌, arith}
use Rattle.ffv1_range.specs.Counts.{saturated}
use Rattle.ffv1_wire.specs.Failures.{one_more}
use Rattle.ffv1_wire.specs.Passage.{between}
use Rattle.ffv1_record.specs.Accepted.{Accepted}
use Rattle.ffv1_files.specs.declared.container.Scope.{Scope}
use Rattle.ffv1_files.specs.Files.{open_read}
use Rattle.ffv1_files.specs.Places.{Place}
use Rattle.ffv1_files.specs.declared.notes.Notes.{Notes}
use Rattle.ffv1_files.specs.Readers.{Standing}
use Rattle.ffv1_reads.specs.Head.{Head}
use Rattle.ffv1_reads.specs.Known.{Known}
use Rattle.ffv1_video.specs.declared.profile.Profile.{Profile}
use Rattle.ffv1_video.specs.declared.fault.Fault.{Fault}
use Rattle.ffv1_video.specs.declared.fault.Fault.TheVariants as fault
use Rattle.ffv1_video.specs.Faults.{Cause, cause_of}
use Rattle.ffv1_video.specs.Faults.Cause.{Reading, Writing, Memory, Content}
use Rattle.ffv1_unpack.specs.Behind.{NotedIn}
use Rattle.ffv1_unpack.specs.Internal.Located.{LocatedAfter}
use Rattle.ffv1_unpack.specs.Located.{LocatedFault, Stands, WritesLine, located_text}
use Rattle.ffv1_unpack.specs.Opens.{LacksOpening, OpensKnown}
use Rattle.ffv1_unpack.specs.Internal.Opens.{OpensStream, stream_of}
use Rattle.ffv1_unpack.specs.Play.End.{Over}
use Rattle.ffv1_unpack.specs.Plays.{FileStops, FileThen, FramesThen, GoesFrom, GoesThen, HasThen, NextEnds, NextHasFault, NextLacks, NextReadFails, NextStays, PlaysFile, PlaysThen, PlayStops, PlayStopsBy, ReadsFile, RefusedFrom, StreamGoes, TextFails}
use Rattle.ffv1_unpack.specs.Internal.Plays.{PlaysAll}
use Rattle.ffv1_video.specs.Profiles.{scope_in}
use Rattle.ffv1_unpack.specs.Stream.{Frame, IsFrame, IsStream, Stream, frame_payload}
use Rattle.ffv1_unpack.proofs.FileRead.{no_items, positive}
use Rattle.ffv1_video.proofs.KnownTexts.{known_map, known_then}
use Rattle.ffv1_video.proofs.Output.{silent}

-- what a file has after its head is what the file has
pub file_has : (profile : Profile) (i0 i1 i2 : Option (List ℕ)) (head : Head) (from : Place) → OpensKnown profile i0 i1 head from → (ps : List (List ℕ)) (Next : Place → List ℕ → List ℕ → Type 0) →
    Known i1 i2 (HasThen from ps Next) → Known i0 i2 (FileThen profile head ps Next)
file_has profile i0 i1 i2 head from opens ps Next has =
    known_map i0 i2 (λ file rest. (left : List ℕ) × (open_read (scope_in profile) file ≡ Ok ((head, from), left)) × HasThen from ps Next left rest) (FileThen profile head ps Next)
    (λ file rest p. (from, p.0, p.1, p.2))
    (known_then i0 i1 i2 (λ file rest. open_read (scope_in profile) file ≡ Ok ((head, from), rest)) (HasThen from ps Next) opens has)

-- where a file is refused after what a reader has read is where the whole file is
pub moves_whole : (scope : Scope) (r : Standing) (i0 i1 i2 : Option (List ℕ)) (ib im ia : ℕ) → im ≡ ib → Stands scope i0 i1 r → (f : Fault) (offset : ℕ) →
    LocatedAfter r (between i1 i2 im ia) f offset → LocatedFault scope (between i0 i2 ib ia) f offset
moves_whole scope r i0 i1 i2 ib im ia kept reached f offset h = subst (λ z. LocatedFault scope (between i0 i2 z ia) f offset) kept (h scope i0 reached)

-- what is played of what a reader has left is played of what has it
module _ {X : Type 0} (Is : X → Type 0) (payload : X → List ℕ) (text : List X → List ℕ) (Here There : List (List ℕ) → (Place → List ℕ → List ℕ → Type 0) → List ℕ → List ℕ → Type 0)
    (i0 i1 i2 o0 o1 : Option (List ℕ)) (ib im ia ob om : ℕ) (leads : (ps : List (List ℕ)) (Next : Place → List ℕ → List ℕ → Type 0) → Known i1 i2 (Here ps Next) → Known i0 i2 (There ps Next)) (kept : im ≡ ib) where
  pub goes_file : (xs : List X) (Next : Place → List ℕ → List ℕ → Type 0) → GoesThen Is payload Here text (between i1 i2 im ia) (between o0 o1 ob om) xs Next →
      GoesThen Is payload There text (between i0 i2 ib ia) (between o0 o1 ob om) xs Next
  goes_file xs Next h = record { are = h.are; has = leads (map payload xs) Next h.has }

  pub plays_file : (xs : List X) (Next : Place → List ℕ → List ℕ → Type 0) → PlaysThen Is payload Here text (between i1 i2 im ia) (between o0 o1 ob om) xs Next →
      PlaysThen Is payload There text (between i0 i2 ib ia) (between o0 o1 ob om) xs Next
  plays_file xs Next h = record { goes = goes_file xs Next h.goes; wrote = record { written = h.wrote.written; writes = h.wrote.writes } }

  pub fails_file : (xs : List X) → TextFails Is payload Here text (between i1 i2 im ia) (between o0 o1 ob om) xs → TextFails Is payload There text (between i0 i2 ib ia) (between o0 o1 ob om) xs
  fails_file xs h = record { goes = goes_file xs NextStays h.goes; kept = h.kept ∙ kept; written = h.written; writes = h.writes }

  module _ (number counted : ℕ → ℕ) (same : (n : ℕ) → number n ≡ counted n) (Stops Whole : Fault → ℕ → Type 0) (moves : (f : Fault) (offset : ℕ) → Stops f offset → Whole f offset) (byte : Bool) where
    located : (xs : List X) (f : Fault) → RefusedFrom Is payload Here text (between i1 i2 im ia) (between o0 o1 ob om) number Stops byte xs f →
        RefusedFrom Is payload There text (between i0 i2 ib ia) (between o0 o1 ob om) counted Whole byte xs f
    located xs f h = record {
      offset = h.offset;
      stops = moves f h.offset h.stops;
      writes = subst (λ n. WritesLine (text xs) (located_text byte n f h.offset) (between o0 o1 ob om)) (same (length xs)) h.writes;
    }

    pub refused_file : (f : Fault) (why : Cause) → GoesFrom Is payload Here text (between i1 i2 im ia) (between o0 o1 ob om) number Stops byte f why →
        GoesFrom Is payload There text (between i0 i2 ib ia) (between o0 o1 ob om) counted Whole byte f why
    refused_file f Writing h = (h.0, fails_file h.0 h.1)
    refused_file f Reading h = (h.0, located h.0 f h.1, h.2 ∙ ap one_more kept, goes_file h.0 NextReadFails h.3)
    refused_file f Memory h = (h.0, h.1 ∙ kept, plays_file h.0 (NextLacks Is payload) h.2)
    refused_file f Content h = (h.0, located h.0 f h.1, h.2 ∙ kept, goes_file h.0 (NextHasFault f) h.3)

module _ (profile : Profile) (text : Stream → List Frame → List ℕ) (i0 i1 i2 o0 o1 : Option (List ℕ)) (ib im ia ob om : ℕ) where
  -- a file that is not opened
  pub lacks_opening : (f : Fault) → LacksOpening profile (between i0 i1 ib im) f → FileStops profile text (between i0 i1 ib im) (between o0 o0 ob ob) f
  lacks_opening f h = inl (silent o0 ob, h)

  -- frames of a stream
  module _ (s : Stream) (is : IsStream profile s) (Here : List (List ℕ) → (Place → List ℕ → List ℕ → Type 0) → List ℕ → List ℕ → Type 0)
      (Held : Head → List (List ℕ) → (Place → List ℕ → List ℕ → Type 0) → List ℕ → List ℕ → Type 0)
      (leads : (ps : List (List ℕ)) (Next : Place → List ℕ → List ℕ → Type 0) → Known i1 i2 (Here ps Next) → Known i0 i2 (Held s.head ps Next)) (kept : im ≡ ib) where
    pub then_file : (frames : List Frame) (Next : Place → List ℕ → List ℕ → Type 0) → FramesThen Here s.accepted (text s) (between i1 i2 im ia) (between o0 o1 ob om) frames Next →
        FramesThen (Held s.head) s.accepted (text s) (between i0 i2 ib ia) (between o0 o1 ob om) frames Next
    then_file = plays_file (IsFrame s.accepted) frame_payload (text s) Here (Held s.head) i0 i1 i2 o0 o1 ib im ia ob om leads kept

    stops_file : (f : Fault) (why : Cause) → PlayStopsBy Here s.accepted (text s) (between i1 i2 im ia) (between o0 o1 ob om) f why →
        PlayStopsBy (Held s.head) s.accepted (text s) (between i0 i2 ib ia) (between o0 o1 ob om) f why
    stops_file f Writing h = (h.0, fails_file (IsFrame s.accepted) frame_payload (text s) Here (Held s.head) i0 i1 i2 o0 o1 ib im ia ob om leads kept h.0 h.1)
    stops_file f Reading h = (h.0 ∙ ap one_more kept, h.1, then_file h.1 NextReadFails h.2)
    stops_file f Memory h = (
      h.0 ∙ kept,
      elim h.1 [
        | inl next ↦ inl (next.0, then_file next.0 (NextLacks (IsFrame s.accepted) frame_payload) next.1)
        | inr first ↦ inr (then_file [] NextStays first)
      ],
    )
    stops_file f Content h =
        (h.0 ∙ kept, record { frames = h.1.frames; end = h.1.end; plays = then_file h.1.frames (NextEnds h.1.end) h.1.plays; faulty = h.1.faulty; is = h.1.is })

    pub stream_goes : (f : Fault) (why : Cause) → PlayStopsBy Here s.accepted (text s) (between i1 i2 im ia) (between o0 o1 ob om) f why →
        StreamGoes profile text (between i0 i2 ib ia) (between o0 o1 ob om) Held f why
    stream_goes f why h = record { stream = s; is = is; stops = stops_file f why h }

  module _ (r : Standing) (a : Accepted) (opens : OpensStream profile r a (between i0 i1 ib im)) where
    pub whole_stops : (f : Fault) → PlayStops (HasThen r.place) a (text (stream_of r a)) (between i1 i2 im ia) (between o0 o1 ob om) f →
        FileStops profile text (between i0 i2 ib ia) (between o0 o1 ob om) f
    whole_stops f h =
        inr (stream_goes (stream_of r a) opens.stream (HasThen r.place) (FileThen profile) (file_has profile i0 i1 i2 r.head r.place opens.known) opens.kept f (cause_of f) h)

    module _ (frames : List Frame) (count : ℕ) (is : count ≡ saturated (length frames))
        (notes : Notes) (all : PlaysAll (IsFrame a) frame_payload (HasThen r.place) (text (stream_of r a)) (between i1 i2 im ia) (between o0 o1 ob om) notes frames) where
      pub no_frames : count ≡ 0 → FileStops profile text (between i0 i2 ib ia) (between o0 o1 ob om) fault.NoFrames
      no_frames none =
          whole_stops fault.NoFrames
          (all.kept, record { frames = frames; end = Over notes; plays = all.plays; faulty = tt; is = (no_items frames (let few : length frames ≡ 0 = omega (arith, is, none) in few), refl) })

      pub done : (count ≡ 0 → ⊥) → ReadsFile profile notes i0 i2 (stream_of r a) frames → NotedIn profile (between i0 i2 ib ia) notes → PlaysFile profile text (between i0 i2 ib ia) (between o0 o1 ob om) notes
      done some_frames reads noted = record {
        stream = stream_of r a;
        frames = frames;
        some = positive frames (λ none. some_frames (let zero_is : count ≡ 0 = omega (arith, is, none) in zero_is));
        played = record { stream = opens.stream; decoded = all.plays.goes.are };
        reads = reads;
        of_file = noted;
        kept = all.kept ∙ opens.kept;
        written = all.plays.wrote.written;
        writes = all.plays.wrote.writes;
      }
