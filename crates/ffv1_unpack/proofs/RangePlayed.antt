-- The frames of a range are played.
use Rattle.std.proofs.Common.{◌≡◌, ◌⊎◌, refl, ℕ, true, Option, List, [], length, inl, inr, subst, ◌∙◌, arith}
use Rattle.ffv1_range.specs.Counts.{saturated}
use Rattle.ffv1_wire.specs.Passage.{between}
use Rattle.ffv1_record.specs.Accepted.{Accepted}
use Rattle.ffv1_files.specs.Places.{Place}
use Rattle.ffv1_files.specs.declared.notes.Notes.{Notes}
use Rattle.ffv1_files.specs.Readers.{Standing}
use Rattle.ffv1_reads.specs.Known.{Known}
use Rattle.ffv1_words.specs.declared.order.FrameRange.{FrameRange}
use Rattle.ffv1_video.specs.declared.profile.Profile.{Profile}
use Rattle.ffv1_video.specs.declared.fault.Fault.{Fault}
use Rattle.ffv1_video.specs.declared.fault.Fault.TheVariants as fault
use Rattle.ffv1_video.specs.Faults.{cause_of}
use Rattle.ffv1_video.proofs.Output.{silent}
use Rattle.ffv1_unpack.specs.Behind.{NotedIn}
use Rattle.ffv1_unpack.specs.Internal.Opens.{OpensRange, stream_of}
use Rattle.ffv1_unpack.specs.Internal.Plays.{PlaysMost}
use Rattle.ffv1_unpack.specs.Opens.{LacksOpening}
use Rattle.ffv1_unpack.specs.Plays.{FramesThen, HasThen, NextBehind, NotedAfter, PlayStops, has_more}
use Rattle.ffv1_unpack.specs.Ranges.{PassStops, PlaysRange, RangeStops, RangeThen}
use Rattle.ffv1_unpack.specs.Stream.{Frame, IsFrame, Stream, frame_payload, payloads}
use Rattle.ffv1_unpack.proofs.FilePlayed.{stream_goes, then_file}
use Rattle.ffv1_unpack.proofs.FileRead.{no_items, positive}
use Rattle.ffv1_unpack.proofs.FramesNoted.{noted_by}
use Rattle.ffv1_unpack.proofs.FramesPassed.{range_has}

module _ (profile : Profile) (range : FrameRange) (text : Stream → List Frame → List ℕ) (i0 i1 i2 o0 o1 : Option (List ℕ)) (ib im ia ob om : ℕ) where
  -- none of them is read
  pub lacks_range : (f : Fault) → (LacksOpening profile (between i0 i1 ib im) f) ⊎ ((passed : ℕ) × PassStops profile range.first (between i0 i1 ib im) passed f) →
      RangeStops profile range text (between i0 i1 ib im) (between o0 o0 ob ob) f
  lacks_range f h = inl (silent o0 ob, h)

  module _ (r : Standing) (a : Accepted) (opens : OpensRange profile range.first r a (between i0 i1 ib im)) where
    abbrev leads : (ps : List (List ℕ)) (Next : Place → List ℕ → List ℕ → Type 0) → Known i1 i2 (HasThen r.place ps Next) → Known i0 i2 (RangeThen profile range.first r.head ps Next)
    leads = range_has profile range.first r.head r.place i0 i1 i2 opens.known

    pub range_stops : (f : Fault) → PlayStops (HasThen r.place) a (text (stream_of r a)) (between i1 i2 im ia) (between o0 o1 ob om) f →
        RangeStops profile range text (between i0 i2 ib ia) (between o0 o1 ob om) f
    range_stops f h =
        inr (inl (stream_goes profile text i0 i1 i2 o0 o1 ib im ia ob om (stream_of r a) opens.stream (HasThen r.place) (RangeThen profile range.first) leads opens.kept f (cause_of f) h))

    module _ (notes : Notes) (frames : List Frame) (count : ℕ) (is : count ≡ saturated (length frames))
        (all : PlaysMost (IsFrame a) frame_payload (HasThen r.place) (text (stream_of r a)) (between i1 i2 im ia) (between o0 o1 ob om) notes range.count frames) where
      all_held : FramesThen (RangeThen profile range.first r.head) a (text (stream_of r a)) (between i0 i2 ib ia) (between o0 o1 ob om) frames (NextBehind notes range.count (length frames))
      all_held =
          then_file profile text i0 i1 i2 o0 o1 ib im ia ob om (stream_of r a) opens.stream (HasThen r.place) (RangeThen profile range.first) leads opens.kept frames (NextBehind notes range.count (length frames)) all.plays

      pub range_none : count ≡ 0 → RangeStops profile range text (between i0 i2 ib ia) (between o0 o1 ob om) fault.NoFrames
      range_none none =
          let empty : frames ≡ [] = no_items frames (let few : length frames ≡ 0 = omega (arith, is, none) in few) in
          inr (inr (
            refl,
            record {
              stream = stream_of r a;
              is = opens.stream;
              notes = notes;
              none = subst (λ xs. FramesThen (RangeThen profile range.first r.head) a (text (stream_of r a)) (between i0 i2 ib ia) (between o0 o1 ob om) xs (NextBehind notes range.count (length xs))) empty all_held;
              kept = all.kept ∙ opens.kept;
            },
          ))

      pub range_done : (count ≡ 0 → ⊥) → (told : Notes) → (has_more range.count (length frames) ≡ true → told ≡ notes) → NotedAfter told range.count (length frames) →
          (has_more range.count (length frames) ≡ true → NotedIn profile (between i0 i2 ib ia) told) → PlaysRange profile range text (between i0 i2 ib ia) (between o0 o1 ob om) told
      range_done some_frames told read unread noted = record {
        stream = stream_of r a;
        frames = frames;
        some = positive frames (λ none. some_frames (let zero_is : count ≡ 0 = omega (arith, is, none) in zero_is));
        few = all.few;
        played = record { stream = opens.stream; decoded = all.plays.goes.are };
        reads = noted_by (λ Next. Known i0 i2 (RangeThen profile range.first r.head (payloads frames) Next)) notes told (has_more range.count (length frames)) read all_held.goes.has;
        noted = unread;
        of_file = noted;
        kept = all.kept ∙ opens.kept;
        written = all.plays.wrote.written;
        writes = all.plays.wrote.writes;
      }
