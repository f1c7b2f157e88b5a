-- Frames are looked at one after the other.
use Rattle.std.proofs.Common.{◌≡◌, ℕ, suc, ◌+◌, ◌⊎◌, Bool, Option, Some, Ok, List, [], ◌∷◌, ◌++◌, length, inl, inr, ap, sym, subst, ◌∙◌, arith, append-nil, append_assoc}
use Rattle.ffv1_range.specs.Counts.{saturated}
use Rattle.ffv1_wire.specs.Passage.{between}
use Rattle.ffv1_record.specs.Configuration.{Configuration}
use Rattle.ffv1_record.specs.Accepted.{Accepted}
use Rattle.ffv1_files.specs.Places.{Place}
use Rattle.ffv1_files.specs.Files.{frame_read}
use Rattle.ffv1_files.specs.Readers.{Standing}
use Rattle.ffv1_words.specs.declared.order.FrameRange.{FrameRange}
use Rattle.ffv1_video.specs.declared.fault.Fault.{Fault}
use Rattle.ffv1_unpack.specs.declared.frame_line.FrameLine.{FrameLine}
use Rattle.ffv1_video.specs.Faults.{cause_of}
use Rattle.ffv1_unpack.specs.FrameLines.{line_of, lines_from, place_text}
use Rattle.ffv1_unpack.specs.Located.{WritesLine}
use Rattle.ffv1_unpack.specs.Internal.Located.{LocatedAfter, StaysReached}
use Rattle.ffv1_unpack.specs.Plays.{HasThen, NextIsPayload}
use Rattle.ffv1_unpack.specs.Stream.{Frame, IsFrame, frame_payload}
use Rattle.ffv1_unpack.specs.Ranges.{number_in}
use Rattle.ffv1_unpack.specs.Told.{PayloadStopsFrom}
use Rattle.ffv1_unpack.specs.Internal.Told.{FrameStops, FrameStopsBy, TellingStops, told_line}
use Rattle.ffv1_unpack.proofs.FramesPlayed.{PlayedSo, goes_by, goes_on, line_behind}
use Rattle.ffv1_video.proofs.KnownTexts.{known_map}

lines_more : (kind : FrameLine) (c : Configuration) (i : ℕ) (frames : List Frame) (f : Frame) →
    lines_from kind c i (frames ++ (f ∷ [])) ≡ lines_from kind c i frames ++ line_of kind c (saturated (i + length frames)) f
lines_more kind c i [] f =
    let same : i ≡ i + 0 = omega arith in
    append-nil (line_of kind c (saturated i) f) ∙ ap (λ n. line_of kind c (saturated n) f) same
lines_more kind c i (g ∷ gs) f =
    let here = line_of kind c (saturated i) g in
    let same : suc i + length gs ≡ i + suc (length gs) = omega arith in
    ap (λ z. here ++ z) (lines_more kind c (suc i) gs f)
    ∙ sym (append_assoc here (lines_from kind c (suc i) gs) (line_of kind c (saturated (suc i + length gs)) f))
    ∙ ap (λ n. (here ++ lines_from kind c (suc i) gs) ++ line_of kind c (saturated n) f) same

pub all_lines : (kind : FrameLine) (c : Configuration) (range : FrameRange) (number : ℕ) (frames : List Frame) (f : Frame) → number ≡ number_in range (length frames) →
    lines_from kind c range.first (frames ++ (f ∷ [])) ≡ lines_from kind c range.first frames ++ told_line kind c number f
all_lines kind c range number frames f is =
    lines_more kind c range.first frames f ∙ ap (λ n. lines_from kind c range.first frames ++ line_of kind c n f) (sym is)

module _ (kind : FrameLine) (place byte : Bool) (range : FrameRange) (a : Accepted) (from to : Standing) (last : Place) (count number : ℕ) (i0 i1 i2 o0 o1 o2 : Option (List ℕ)) (ib im ia ob om oa : ℕ)
    (so : PlayedSo a (lines_from kind a.configuration range.first) from.place (between i0 i1 ib im) (between o0 o1 ob om) count to.place) (is : number ≡ number_in range (length so.frames))
    (reached : StaysReached from to (between i0 i1 ib im)) where
  payload_stops : (f : Fault) → FrameStops kind place byte a number to last (between i1 i2 im ia) (between o1 o2 om oa) f →
      PayloadStopsFrom (HasThen from.place) (lines_from kind a.configuration range.first) (number_in range) place a (between i0 i2 ib ia) (between o0 o2 ob oa) f
  payload_stops f h =
      let p = h.payload in
      let lines = lines_from kind a.configuration range.first in
      record {
        frames = so.frames;
        payload = p.payload;
        fault = p.fault;
        tally = p.tally;
        goes =
            goes_on (IsFrame a) frame_payload lines from.place to.place last i0 i1 i2 o0 o1 o2 ib im ia ob om oa so.frames so.so (NextIsPayload p.payload)
            (known_map i1 i2 (λ bytes rest. frame_read to.place bytes ≡ Ok (Some (p.payload, last), rest)) (NextIsPayload p.payload to.place) (λ bytes rest is. (last, is)) p.reads.next);
        faulty = p.faulty;
        is = p.is;
        content = p.content;
        kept = p.reads.kept ∙ so.so.kept;
        writes =
            subst (λ n. WritesLine (lines so.frames) (place_text place n p.fault p.tally) (between o0 o2 ob oa)) is
            (line_behind o0 o1 o2 ob om oa (lines so.frames) (place_text place number p.fault p.tally) so.so.written so.so.writes h.writes);
      }

  pub telling_stops : (f : Fault) → FrameStops kind place byte a number to last (between i1 i2 im ia) (between o1 o2 om oa) f ⊎
      FrameStopsBy kind place byte a number to last (between i1 i2 im ia) (between o1 o2 om oa) f (cause_of f) →
      TellingStops (HasThen from.place) kind range place a (between i0 i2 ib ia) (between o0 o2 ob oa) (LocatedAfter from (between i0 i2 ib ia)) byte f
  telling_stops f h = elim h [
    | inl payload ↦ inl (payload_stops f payload)
    | inr other ↦
        inr (goes_by (IsFrame a) frame_payload (lines_from kind a.configuration range.first) byte (number_in range) from to last i0 i1 i2 o0 o1 o2 ib im ia ob om oa so.frames so.so reached
        (told_line kind a.configuration number) (λ x. all_lines kind a.configuration range number so.frames x is) number is f (cause_of f) other)
  ]
