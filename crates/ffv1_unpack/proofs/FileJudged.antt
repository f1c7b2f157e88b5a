-- The frames of a range are judged.
use Rattle.std.proofs.Common.{◌≡◌, refl, ℕ, Bool, true, Option, Err, List, ◌++◌, length, inl, inr, subst, ◌∙◌, arith}
use Rattle.std.specs.Io.KnownBytes.{Appends}
use Rattle.std.proofs.KnownBytes.{Appends-trans}
use Rattle.ffv1_range.specs.Counts.{saturated}
use Rattle.ffv1_wire.specs.Passage.{between}
use Rattle.ffv1_record.specs.Accepted.{Accepted}
use Rattle.ffv1_record.specs.Configuration.{Configuration}
use Rattle.ffv1_files.specs.Places.{Place}
use Rattle.ffv1_files.specs.declared.notes.Notes.{Notes}
use Rattle.ffv1_files.specs.Readers.{Standing}
use Rattle.ffv1_reads.specs.Known.{Known}
use Rattle.ffv1_words.specs.declared.order.FrameRange.{FrameRange}
use Rattle.ffv1_video.specs.declared.profile.Profile.{Profile}
use Rattle.ffv1_video.specs.Profiles.{byte_told, scope_in}
use Rattle.ffv1_video.specs.declared.fault.Fault.{Fault}
use Rattle.ffv1_video.specs.declared.fault.Fault.TheVariants as fault
use Rattle.ffv1_video.specs.Faults.{cause_of}
use Rattle.ffv1_unpack.specs.declared.judging.JudgedCounts.{JudgedCounts}
use Rattle.ffv1_unpack.specs.Behind.{NotedIn}
use Rattle.ffv1_unpack.specs.CheckAll.{CheckAllRangeDone, CheckAllRangeStops, judged_count}
use Rattle.ffv1_unpack.specs.Judged.{IsJudged, Judged, counts_line, judged_from, payload_of, payloads_of}
use Rattle.ffv1_unpack.specs.Internal.Judged.{AreCounts}
use Rattle.ffv1_unpack.specs.Internal.Located.{LocatedAfter}
use Rattle.ffv1_unpack.specs.Internal.Opens.{OpensRange, stream_of}
use Rattle.ffv1_unpack.specs.Located.{Stands}
use Rattle.ffv1_unpack.specs.Plays.{GoesFrom, HasThen, NextBehind, NotedAfter, has_more}
use Rattle.ffv1_unpack.specs.Ranges.{RangeThen, number_in}
use Rattle.ffv1_unpack.specs.Internal.Plays.{PlaysMost}
use Rattle.ffv1_unpack.specs.Internal.Told.{WritesFrame}
use Rattle.ffv1_unpack.proofs.FileChecked.{check_goes, last_stops, no_frames}
use Rattle.ffv1_unpack.proofs.FilePlayed.{goes_file}
use Rattle.ffv1_unpack.proofs.FileRead.{positive}
use Rattle.ffv1_unpack.proofs.FramesNoted.{noted_by}
use Rattle.ffv1_unpack.proofs.FramesPassed.{range_has}

module _ (profile : Profile) (place : Bool) (range : FrameRange) (i0 i1 i2 o0 o1 o2 : Option (List ℕ)) (ib im ia ob om oa : ℕ) (r : Standing) (a : Accepted)
    (opens : OpensRange profile range.first r a (between i0 i1 ib im)) where
  abbrev told : Configuration → List Judged → List ℕ
  told c = judged_from place c range.first

  abbrev leads : (ps : List (List ℕ)) (Next : Place → List ℕ → List ℕ → Type 0) → Known i1 i2 (HasThen r.place ps Next) → Known i0 i2 (RangeThen profile range.first r.head ps Next)
  leads = range_has profile range.first r.head r.place i0 i1 i2 opens.known

  pub judging_stops : Stands (scope_in profile) i0 i1 r → (f : Fault) →
      GoesFrom (IsJudged a) payload_of (HasThen r.place) (told a.configuration) (between i1 i2 im ia) (between o0 o1 ob om) (number_in range) (LocatedAfter r (between i1 i2 im ia)) (byte_told profile place) f (cause_of f) →
      CheckAllRangeStops profile place range (between i0 i2 ib ia) (between o0 o1 ob om) f
  judging_stops reached f h =
      inr (inl (check_goes IsJudged payload_of told judged_count (RangeThen profile range.first) range.count (number_in range) profile place i0 i1 i2 o0 o1 o2 ib im ia ob om oa r a opens.stream leads opens.kept
      reached f (cause_of f) h))

  module _ (notes : Notes) (js : List Judged) (counts : JudgedCounts) (counted : AreCounts counts js)
      (all : PlaysMost (IsJudged a) payload_of (HasThen r.place) (told a.configuration) (between i1 i2 im ia) (between o0 o1 ob om) notes range.count js) where
    pub none_judged : counts.frames ≡ 0 → CheckAllRangeStops profile place range (between i0 i2 ib ia) (between o0 o1 ob om) fault.NoFrames
    none_judged none =
        let is = counted.frames in
        let few : length js ≡ 0 = omega (arith, is, none) in
        inr (inr (no_frames IsJudged payload_of told judged_count (RangeThen profile range.first) range.count (number_in range) profile place i0 i1 i2 o0 o1 o2 ib im ia ob om oa r a opens.stream leads opens.kept
        notes js all refl few))

    pub count_stops : (f : Fault) → WritesFrame (counts_line counts.frames counts.faults) (between o1 o2 om oa) (Err f) → CheckAllRangeStops profile place range (between i0 i2 ib ia) (between o0 o2 ob oa) f
    count_stops f h =
        inr (inr (last_stops IsJudged payload_of told judged_count (RangeThen profile range.first) range.count (number_in range) profile place i0 i1 i2 o0 o1 o2 ib im ia ob om oa r a opens.stream leads opens.kept
        notes js all f
        (subst (λ n. WritesFrame (counts_line (saturated (length js)) n) (between o1 o2 om oa) (Err f)) counted.faults
        (subst (λ n. WritesFrame (counts_line n counts.faults) (between o1 o2 om oa) (Err f)) counted.frames h))))

    pub all_done : (counts.frames ≡ 0 → ⊥) → oa ≡ om → Appends o1 o2 (counts_line counts.frames counts.faults) → (noted : Notes) → (has_more range.count (length js) ≡ true → noted ≡ notes) →
        NotedAfter noted range.count (length js) → (has_more range.count (length js) ≡ true → NotedIn profile (between i0 i2 ib ia) noted) → CheckAllRangeDone profile place range (between i0 i2 ib ia) (between o0 o2 ob oa) counts.first noted
    all_done some_frames kept writes noted read unread of_file = record {
      stream = stream_of r a;
      judged = js;
      some = positive js (λ none. some_frames (let is = counted.frames in let zero_is : counts.frames ≡ 0 = omega (arith, is, none) in zero_is));
      few = all.few;
      is = opens.stream;
      are = all.plays.goes.are;
      reads = noted_by (λ Next. Known i0 i2 (RangeThen profile range.first r.head (payloads_of js) Next)) notes noted (has_more range.count (length js)) read
          (goes_file (IsJudged a) payload_of (told a.configuration) (HasThen r.place) (RangeThen profile range.first r.head) i0 i1 i2 o0 o1 ib im ia ob om leads opens.kept js
          (NextBehind notes range.count (length js)) all.plays.goes).has;
      noted = unread;
      of_file = of_file;
      kept = all.kept ∙ opens.kept;
      written = kept ∙ all.plays.wrote.written;
      writes =
          subst (λ n. Appends o0 o2 (told a.configuration js ++ counts_line (saturated (length js)) n)) counted.faults
          (subst (λ n. Appends o0 o2 (told a.configuration js ++ counts_line n counts.faults)) counted.frames
          (Appends-trans o0 o1 o2 (told a.configuration js) (counts_line counts.frames counts.faults) all.plays.wrote.writes writes));
      told = counted.first;
    }
