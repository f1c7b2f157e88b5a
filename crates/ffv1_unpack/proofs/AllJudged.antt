-- All frames of a file that was opened are judged: they are the range of all of them.
use Rattle.std.proofs.Common.{◌≡◌, refl, ℕ, Bool, true, false, Option, None, Ok, Err, List, []}
use Rattle.std.specs.Io.KnownBytes.{Appends}
use Rattle.ffv1_wire.specs.Passage.{between}
use Rattle.ffv1_record.specs.Accepted.{Accepted}
use Rattle.ffv1_files.specs.Files.{frame_read, open_read}
use Rattle.ffv1_files.specs.Places.{Place}
use Rattle.ffv1_files.specs.declared.notes.Notes.{Notes}
use Rattle.ffv1_files.specs.Readers.{Standing}
use Rattle.ffv1_reads.specs.Head.{Head}
use Rattle.ffv1_video.specs.declared.profile.Profile.{Profile}
use Rattle.ffv1_video.specs.Profiles.{byte_told, scope_in}
use Rattle.ffv1_video.specs.declared.fault.Fault.{Fault}
use Rattle.ffv1_video.specs.declared.fault.Fault.TheVariants as fault
use Rattle.ffv1_video.specs.Faults.{cause_of}
use Rattle.ffv1_unpack.specs.declared.judging.JudgedCounts.{JudgedCounts}
use Rattle.ffv1_unpack.specs.Behind.{NotedIn}
use Rattle.ffv1_unpack.specs.CheckAll.{CheckAllDone, CheckAllRangeStops, CheckAllStops, judged_count}
use Rattle.ffv1_unpack.specs.Judged.{IsJudged, Judged, counts_line, judged_from, judged_lines, payload_of}
use Rattle.ffv1_unpack.specs.Internal.Judged.{AreCounts}
use Rattle.ffv1_unpack.specs.Internal.Located.{LocatedAfter}
use Rattle.ffv1_unpack.specs.Located.{Stands}
use Rattle.ffv1_unpack.specs.Internal.Opens.{OpensRange, OpensStream}
use Rattle.ffv1_unpack.specs.Internal.Plays.{PlaysMost}
use Rattle.ffv1_unpack.specs.Internal.Told.{WritesFrame}
use Rattle.ffv1_unpack.specs.Plays.{GoesFrom, HasThen}
use Rattle.ffv1_unpack.specs.Ranges.{all_frames, number_in}
use Rattle.ffv1_unpack.specs.Stream.{HoldsPayloads, ReadsFrames}
use Rattle.ffv1_unpack.proofs.FileJudged.{all_done, count_stops, judging_stops, none_judged}
use Rattle.ffv1_unpack.proofs.FramesPassed.{opens_range, pass_none}
use Rattle.ffv1_unpack.proofs.WholeRange.{checked_file, judges_whole}

module _ (profile : Profile) (place : Bool) (i0 i1 i2 o0 o1 o2 : Option (List ℕ)) (ib im ia ob om oa : ℕ) (r : Standing) (a : Accepted) (opens : OpensStream profile r a (between i0 i1 ib im)) where
  -- no frame comes before them
  begins : OpensRange profile 0 r a (between i0 i1 ib im)
  begins = opens_range profile 0 i0 i1 i1 ib im im r a opens r a [] refl (pass_none r.place i1 im) refl refl refl opens.sound

  stops_file : (o : Option (List ℕ)) (n : ℕ) (f : Fault) → CheckAllRangeStops profile place all_frames (between i0 i2 ib ia) (between o0 o ob n) f → CheckAllStops profile place (between i0 i2 ib ia) (between o0 o ob n) f
  stops_file o n f h = checked_file IsJudged payload_of (judged_lines place) judged_count profile place i0 i2 o0 o ib ia ob n f h

  pub all_stop : Stands (scope_in profile) i0 i1 r → (f : Fault) →
      GoesFrom (IsJudged a) payload_of (HasThen r.place) (judged_from place a.configuration 0) (between i1 i2 im ia) (between o0 o1 ob om) (number_in all_frames) (LocatedAfter r (between i1 i2 im ia)) (byte_told profile place) f (cause_of f) →
      CheckAllStops profile place (between i0 i2 ib ia) (between o0 o1 ob om) f
  all_stop reached f h = stops_file o1 om f (judging_stops profile place all_frames i0 i1 i2 o0 o1 o2 ib im ia ob om oa r a begins reached f h)

  module _ (notes : Notes) (js : List Judged) (counts : JudgedCounts) (counted : AreCounts counts js)
      (all : PlaysMost (IsJudged a) payload_of (HasThen r.place) (judged_from place a.configuration 0) (between i1 i2 im ia) (between o0 o1 ob om) notes None js) where
    pub all_none : counts.frames ≡ 0 → CheckAllStops profile place (between i0 i2 ib ia) (between o0 o1 ob om) fault.NoFrames
    all_none none = stops_file o1 om fault.NoFrames (none_judged profile place all_frames i0 i1 i2 o0 o1 o2 ib im ia ob om oa r a begins notes js counts counted all none)

    pub all_uncounted : (f : Fault) → WritesFrame (counts_line counts.frames counts.faults) (between o1 o2 om oa) (Err f) → CheckAllStops profile place (between i0 i2 ib ia) (between o0 o2 ob oa) f
    all_uncounted f h = stops_file o2 oa f (count_stops profile place all_frames i0 i1 i2 o0 o1 o2 ib im ia ob om oa r a begins notes js counts counted all f h)

    pub all_judged :
        ((profile : Profile) (file behind rest : List ℕ) (head : Head) (from to : Place) (at : List ℕ) (held : List (List ℕ)) → open_read (scope_in profile) file ≡ Ok ((head, from), behind) →
        ReadsFrames from behind held to at → frame_read to at ≡ Ok (None, rest) → HoldsPayloads profile file rest head held) →
        (counts.frames ≡ 0 → ⊥) → oa ≡ om → Appends o1 o2 (counts_line counts.frames counts.faults) → NotedIn profile (between i0 i2 ib ia) notes → CheckAllDone profile place (between i0 i2 ib ia) (between o0 o2 ob oa) counts.first notes
    all_judged holds some kept writes noted =
        judges_whole holds profile place (between i0 i2 ib ia) (between o0 o2 ob oa) counts.first notes
        (all_done profile place all_frames i0 i1 i2 o0 o1 o2 ib im ia ob om oa r a begins notes js counts counted all some kept writes notes (λ room. refl) (λ full. absurd (let no : true ≡ false = full in cc)) (λ room. noted))
