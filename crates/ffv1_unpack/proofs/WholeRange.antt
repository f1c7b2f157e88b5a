-- The range of all frames is the whole file.
use Rattle.std.proofs.Common.{◌≡◌, refl, ℕ, ◌+◌, Bool, Option, None, Ok, List, [], ◌++◌, length, inl, inr, subst, sym, ap, arith}
use Rattle.ffv1_range.specs.Counts.{saturated}
use Rattle.ffv1_wire.specs.Passage.{Passage, between}
use Rattle.ffv1_record.specs.Accepted.{Accepted}
use Rattle.ffv1_record.specs.Configuration.{Configuration}
use Rattle.ffv1_files.specs.Files.{frame_read, open_read}
use Rattle.ffv1_files.specs.Places.{Place}
use Rattle.ffv1_files.specs.declared.notes.Notes.{Notes}
use Rattle.ffv1_reads.specs.Head.{Head}
use Rattle.ffv1_reads.specs.Known.{Known}
use Rattle.ffv1_video.specs.declared.profile.Profile.{Profile}
use Rattle.ffv1_video.specs.Profiles.{byte_told, scope_in}
use Rattle.ffv1_video.specs.declared.fault.Fault.{Fault}
use Rattle.ffv1_video.specs.declared.fault.Fault.TheVariants as fault
use Rattle.ffv1_video.specs.Faults.{Cause, cause_of}
use Rattle.ffv1_video.specs.Faults.Cause.{Reading, Writing, Memory, Content}
use Rattle.ffv1_unpack.specs.declared.frame_line.FrameLine.TheVariants as line
use Rattle.ffv1_unpack.specs.Check.{CheckRangeStops, CheckStops, frame_count}
use Rattle.ffv1_unpack.specs.CheckAll.{CheckAllDone, CheckAllRangeDone}
use Rattle.ffv1_unpack.specs.Checked.{AllOver, CheckedRangeStops, CheckedStops, LastStopsBy, LastStopsFrom}
use Rattle.ffv1_unpack.specs.FrameLines.{frame_lines, place_text}
use Rattle.ffv1_unpack.specs.Judged.{payloads_of}
use Rattle.ffv1_unpack.specs.Located.{LocatedFault, WritesLine}
use Rattle.ffv1_unpack.specs.Play.End.{Over}
use Rattle.ffv1_unpack.specs.Plays.{FileStops, FileThen, HoldsNoted, NextBehind, NextOver, NextIsPayload, PlaysFile, StreamGoes}
use Rattle.ffv1_unpack.specs.Ranges.{NextShows, PartThen, PassStopsBy, PlaysRange, RangeNone, RangeStops, RangeThen, all_frames, number_in}
use Rattle.ffv1_unpack.specs.Stream.{Frame, HoldsPayloads, IsFrame, ReadsFrames, Stream, frame_payload, payloads}
use Rattle.ffv1_unpack.specs.Unpack.{UnpackDone, UnpackRangeDone, UnpackRangeStops, UnpackStops}
use Rattle.ffv1_unpack.proofs.FilePlayed.{goes_file, refused_file, stream_goes, then_file}
use Rattle.ffv1_unpack.proofs.FileRead.{holds_noted, no_items}
use Rattle.ffv1_unpack.proofs.FileUnpacked.{unpack_goes, unpack_none}
use Rattle.ffv1_unpack.proofs.FramesCarried.{part_comes, part_file}
use Rattle.ffv1_video.proofs.KnownTexts.{known_map}

-- what a file has after no frames is what it has
pub range_file : (profile : Profile) (head : Head) (i0 i2 : Option (List ℕ)) (ps : List (List ℕ)) (Next : Place → List ℕ → List ℕ → Type 0) →
    Known i0 i2 (RangeThen profile 0 head ps Next) → Known i0 i2 (FileThen profile head ps Next)
range_file profile head i0 i2 ps Next has =
    known_map i0 i2 (RangeThen profile 0 head ps Next) (FileThen profile head ps Next) (λ file rest p. subst (λ b. FileThen profile head (b ++ ps) Next file rest) (no_items p.0 p.1) p.2) has

-- and it always has as many
pub none_passed : (profile : Profile) (input : Passage) (passed : ℕ) (f : Fault) (why : Cause) → PassStopsBy profile 0 input passed f why → ⊥
none_passed profile input passed f Reading h = let few = h.1.few in omega (arith, few)
none_passed profile input passed f Writing h = h
none_passed profile input passed f Memory h = let few = h.1.few in omega (arith, few)
none_passed profile input passed f Content h = elim h.1 [
  | inl faulty ↦ let few = faulty.few in omega (arith, few)
  | inr none ↦ let few = none.2.few in omega (arith, few)
]

all_numbers : (n : ℕ) → number_in all_frames n ≡ saturated n
all_numbers n = let same : 0 + n ≡ n = omega arith in ap saturated same

-- ---- by what text the frames of a stream have

module _ (profile : Profile) (text : Stream → List Frame → List ℕ) (i0 i2 o0 o1 : Option (List ℕ)) (ib ia ob om : ℕ) where
  -- there is no frame
  none_file : RangeNone profile all_frames text (between i0 i2 ib ia) (between o0 o1 ob om) → StreamGoes profile text (between i0 i2 ib ia) (between o0 o1 ob om) (FileThen profile) fault.NoFrames Content
  none_file h = record {
    stream = h.stream;
    is = h.is;
    stops = (
      h.kept,
      record {
        frames = [];
        end = Over h.notes;
        plays = then_file profile text i0 i0 i2 o0 o1 ib ib ia ob om h.stream h.is (RangeThen profile 0 h.stream.head) (FileThen profile) (range_file profile h.stream.head i0 i2) refl [] (NextOver h.notes) h.none;
        faulty = tt;
        is = (refl, refl);
      },
    );
  }

  pub file_stops : (f : Fault) → RangeStops profile all_frames text (between i0 i2 ib ia) (between o0 o1 ob om) f → FileStops profile text (between i0 i2 ib ia) (between o0 o1 ob om) f
  file_stops f h = elim h [
    | inl early ↦ elim early.1 [
      | inl opening ↦ inl (early.0, opening)
      | inr pass ↦ absurd (none_passed profile (between i0 i2 ib ia) pass.0 f (cause_of f) pass.1)
    ]
    | inr late ↦ elim late [
      | inl goes ↦
          inr (stream_goes profile text i0 i0 i2 o0 o1 ib ib ia ob om goes.stream goes.is (RangeThen profile 0 goes.stream.head) (FileThen profile) (range_file profile goes.stream.head i0 i2) refl f (cause_of f) goes.stops)
      | inr none ↦ subst (FileStops profile text (between i0 i2 ib ia) (between o0 o1 ob om)) (sym none.0) (inr (none_file none.1))
    ]
  ]

-- ---- checked

module _ {X : Type 0} (Is : Accepted → X → Type 0) (payload : X → List ℕ) (text : Configuration → List X → List ℕ) (last : List X → List ℕ) (profile : Profile) (place : Bool)
    (i0 i2 o0 o1 : Option (List ℕ)) (ib ia ob om : ℕ) where
  over_file : (s : Stream) (xs : List X) → AllOver Is payload text last (RangeThen profile 0) None (number_in all_frames) profile place (between i0 i2 ib ia) (between o0 o1 ob om) s xs →
      AllOver Is payload text last (FileThen profile) None saturated profile place (between i0 i2 ib ia) (between o0 o1 ob om) s xs
  over_file s xs h = record {
    is = h.is;
    notes = h.notes;
    goes =
        goes_file (Is s.accepted) payload (text s.accepted.configuration) (RangeThen profile 0 s.head) (FileThen profile s.head) i0 i0 i2 o0 o1 ib ib ia ob om (range_file profile s.head i0 i2) refl xs
        (NextBehind h.notes None (length xs)) h.goes;
    kept = h.kept;
  }

  last_file : (f : Fault) (why : Cause) → LastStopsFrom Is payload text last (RangeThen profile 0) None (number_in all_frames) profile place (between i0 i2 ib ia) (between o0 o1 ob om) f why →
      LastStopsBy Is payload text last profile place (between i0 i2 ib ia) (between o0 o1 ob om) f why
  last_file f Writing h = record { stream = h.stream; xs = h.xs; over = over_file h.stream h.xs h.over; written = h.written; writes = h.writes }
  last_file f Reading h = h
  last_file f Memory h = record { stream = h.stream; xs = h.xs; over = over_file h.stream h.xs h.over; wrote = record { written = h.wrote.written; writes = h.wrote.writes } }
  last_file f Content h = (h.0, record { stream = h.1.stream; over = over_file h.1.stream [] h.1.over; nothing = h.1.nothing })

  pub checked_file : (f : Fault) → CheckedRangeStops Is payload text last profile place all_frames (between i0 i2 ib ia) (between o0 o1 ob om) f →
      CheckedStops Is payload text last profile place (between i0 i2 ib ia) (between o0 o1 ob om) f
  checked_file f h = elim h [
    | inl early ↦ elim early [
      | inl opening ↦ inl opening
      | inr pass ↦ absurd (none_passed profile (between i0 i2 ib ia) pass.0 f (cause_of f) pass.2)
    ]
    | inr late ↦ elim late [
      | inl goes ↦
          let stops = LocatedFault (scope_in profile) (between i0 i2 ib ia) in
          inr (inl (record {
            stream = goes.stream;
            is = goes.is;
            goes =
                refused_file (Is goes.stream.accepted) payload (text goes.stream.accepted.configuration) (RangeThen profile 0 goes.stream.head) (FileThen profile goes.stream.head) i0 i0 i2 o0 o1 ib ib ia ob om
                (range_file profile goes.stream.head i0 i2) refl (number_in all_frames) saturated all_numbers stops stops (λ g offset at. at) (byte_told profile place) f (cause_of f) goes.goes;
          }))
      | inr ends ↦ inr (inr (last_file f (cause_of f) ends))
    ]
  ]

pub check_file : (profile : Profile) (place : Bool) (i0 i2 o0 o1 : Option (List ℕ)) (ib ia ob om : ℕ) (f : Fault) → CheckRangeStops profile place all_frames (between i0 i2 ib ia) (between o0 o1 ob om) f →
    CheckStops profile place (between i0 i2 ib ia) (between o0 o1 ob om) f
check_file profile place i0 i2 o0 o1 ib ia ob om f h = elim h [
  | inl payload ↦
      let s = payload.stream in
      let p = payload.stops in
      inl (record {
        stream = s;
        is = payload.is;
        stops = record {
          frames = p.frames;
          payload = p.payload;
          fault = p.fault;
          tally = p.tally;
          goes =
              goes_file (IsFrame s.accepted) frame_payload (frame_lines line.Sizes s.accepted.configuration) (RangeThen profile 0 s.head) (FileThen profile s.head) i0 i0 i2 o0 o1 ib ib ia ob om
              (range_file profile s.head i0 i2) refl p.frames (NextIsPayload p.payload) p.goes;
          faulty = p.faulty;
          is = p.is;
          content = p.content;
          kept = p.kept;
          writes =
              subst (λ n. WritesLine (frame_lines line.Sizes s.accepted.configuration p.frames) (place_text place n p.fault p.tally) (between o0 o1 ob om)) (all_numbers (length p.frames)) p.writes;
        };
      })
  | inr other ↦ inr (checked_file IsFrame frame_payload (frame_lines line.Sizes) frame_count profile place i0 i2 o0 o1 ib ia ob om f other)
]

-- ---- what was read of it

-- a file whose payloads are read to its end holds them
module _ (holds : (profile : Profile) (file behind rest : List ℕ) (head : Head) (from to : Place) (at : List ℕ) (held : List (List ℕ)) → open_read (scope_in profile) file ≡ Ok ((head, from), behind) →
    ReadsFrames from behind held to at → frame_read to at ≡ Ok (None, rest) → HoldsPayloads profile file rest head held) where
  holds_range : (profile : Profile) (notes : Notes) (head : Head) (i0 i2 : Option (List ℕ)) (ps : List (List ℕ)) → Known i0 i2 (RangeThen profile 0 head ps (NextOver notes)) → Known i0 i2 (HoldsNoted profile notes head ps)
  holds_range profile notes head i0 i2 ps has =
      known_map i0 i2 (FileThen profile head ps (NextOver notes)) (HoldsNoted profile notes head ps)
      (holds_noted holds profile notes head ps) (range_file profile head i0 i2 ps (NextOver notes) has)

  pub plays_whole : (profile : Profile) (text : Stream → List Frame → List ℕ) (input output : Passage) (notes : Notes) → PlaysRange profile all_frames text input output notes → PlaysFile profile text input output notes
  plays_whole profile text input output notes h = record {
    stream = h.stream;
    frames = h.frames;
    some = h.some;
    played = h.played;
    reads = holds_range profile notes h.stream.head input.old input.new (payloads h.frames) h.reads;
    of_file = h.of_file refl;
    kept = h.kept;
    written = h.written;
    writes = h.writes;
  }

  pub judges_whole : (profile : Profile) (place : Bool) (input output : Passage) (first : Option Fault) (notes : Notes) → CheckAllRangeDone profile place all_frames input output first notes →
      CheckAllDone profile place input output first notes
  judges_whole profile place input output first notes h = record {
    stream = h.stream;
    judged = h.judged;
    some = h.some;
    is = h.is;
    are = h.are;
    reads = holds_range profile notes h.stream.head input.old input.new (payloads_of h.judged) h.reads;
    of_file = h.of_file refl;
    kept = h.kept;
    written = h.written;
    writes = h.writes;
    told = h.told;
  }

  pub unpacks_whole : (profile : Profile) (input output : Passage) (told : ℕ × Notes) → UnpackRangeDone profile all_frames input output told.0 told.1 → UnpackDone profile input output told.0 told.1
  unpacks_whole profile input output told h = record {
    stream = h.stream;
    frames = h.frames;
    some = h.some;
    counted = h.counted;
    text = h.text;
    played = h.played;
    alike = h.alike;
    reads =
        known_map input.old input.new (FileThen profile h.stream.head (payloads h.frames) (NextOver told.1)) (HoldsNoted profile told.1 h.stream.head (payloads h.frames))
        (holds_noted holds profile told.1 h.stream.head (payloads h.frames)) (part_file profile h.stream.head h.carried input.old input.new (payloads h.frames) (NextOver told.1) h.reads);
    of_file = h.of_file refl;
    kept = h.kept;
    written = h.written;
    writes = h.writes;
  }

-- ---- unpacked

pub unpack_file : (profile : Profile) (i0 i2 o0 o1 : Option (List ℕ)) (ib ia ob om : ℕ) (f : Fault) → UnpackRangeStops profile all_frames (between i0 i2 ib ia) (between o0 o1 ob om) f →
    UnpackStops profile (between i0 i2 ib ia) (between o0 o1 ob om) f
unpack_file profile i0 i2 o0 o1 ib ia ob om f h = elim h [
  | inl early ↦ elim early.1 [
    | inl opening ↦ inl (early.0, opening)
    | inr pass ↦ absurd (none_passed profile (between i0 i2 ib ia) pass.0 f (cause_of f) pass.1)
  ]
  | inr late ↦ elim late [
    | inl part ↦
        let goes = part.1 in
        let s = goes.stream in
        inr (inl (unpack_goes profile i0 i0 i2 o0 o1 ib ib ia ob om s goes.is goes.text (PartThen profile 0 part.0 s.head) (FileThen profile) (part_file profile s.head part.0 i0 i2) refl (NextShows part.0) (λ before. NextIsPayload)
        (part_comes profile s.head part.0 i0 i2) f goes.stops))
    | inr none ↦
        let goes = none.2 in
        let s = goes.stream in
        inr (inr (none.0, unpack_none profile i0 i0 i2 o0 o1 ib ib ia ob om s goes.is goes.text (PartThen profile 0 none.1 s.head) (FileThen profile) (part_file profile s.head none.1 i0 i2) refl goes.notes None [] refl goes.all))
  ]
]
