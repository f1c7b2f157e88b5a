-- Frames are unpacked one after the other.
use Rattle.std.proofs.Common.{◌≡◌, refl, ℕ, ◌+◌, ◌<◌, ◌≤◌, true, false, Option, Some, Ok, List, [], ◌∷◌, ◌++◌, length, take, ap, sym, subst, ◌∙◌, arith, length-append}
use Rattle.std.specs.Io.KnownBytes.{Appends}
use Rattle.std.proofs.KnownBytes.{Appends-trans, Appends-kept}
use Rattle.ffv1_wire.specs.Failures.{one_more}
use Rattle.ffv1_wire.specs.Passage.{Passage, between}
use Rattle.ffv1_files.specs.Places.{Place}
use Rattle.ffv1_files.specs.declared.notes.Notes.{Notes}
use Rattle.ffv1_files.specs.Files.{frame_read}
use Rattle.ffv1_reads.specs.Known.{Known}
use Rattle.ffv1_unpack.specs.Internal.Carried.{PlaysCarried, ReadsCarried, ShowsThen}
use Rattle.ffv1_unpack.specs.Internal.Play.{ReadsEnd}
use Rattle.ffv1_unpack.specs.Plays.{AtMost, GoesThen, NextBehindBy, NextOver, NextStays, has_more}
use Rattle.ffv1_unpack.specs.Ranges.{NextShows}
use Rattle.ffv1_unpack.specs.Stream.{AreFrames, Frame, IsFrame, Stream, carried_after, frame_payload, payloads, shown_frames}
use Rattle.ffv1_video.specs.Output.{Silent}
use Rattle.ffv1_unpack.specs.Unpacked.{AreAlike, shown_text}
use Rattle.ffv1_unpack.specs.Unpacking.{GoesTo, PictureFails, UnpacksMost, UnpacksThen}
use Rattle.ffv1_unpack.proofs.FramesCarried.{ReadsShown, payloads_more, read_more, shown_none, shows_stays, shows_then}
use Rattle.ffv1_unpack.proofs.FramesInTurn.{all_more, but_last_more}
use Rattle.ffv1_video.proofs.KnownTexts.{known_map}
use Rattle.ffv1_video.proofs.Output.{take_past}

-- these were unpacked, up to this place
pub record Unpacked (s : Stream) (carried : List ℕ) (from : Place) (input output : Passage) (frames : List Frame) (to : Place) : Type 0 where
  pub are : AreFrames s.accepted frames
  pub read : Known input.old input.new (λ bytes rest. ReadsShown carried from bytes (payloads frames) to rest)
  pub kept : input.after ≡ input.before
  pub written : output.after ≡ output.before
  pub writes : Appends output.old output.new (shown_text s frames)
  pub alike : AreAlike s (shown_frames frames)

pub nothing_unpacked : (s : Stream) (carried : List ℕ) (from : Place) (i o : Option (List ℕ)) (ib ob : ℕ) → AreAlike s [] → Appends o o (shown_text s []) → Unpacked s carried from (between i i ib ib) (between o o ob ob) [] from
nothing_unpacked s carried from i o ib ob alike no_text = record { are = tt; read = shown_none carried from i; kept = refl; written = refl; writes = no_text; alike = alike }

module _ (s : Stream) (carried : List ℕ) (from to last : Place) (i0 i1 i2 o0 o1 o2 : Option (List ℕ)) (ib im ia ob om oa : ℕ) (frames : List Frame)
    (un : Unpacked s carried from (between i0 i1 ib im) (between o0 o1 ob om) frames to) where
  -- and then this
  goes_on : (Next : Place → List ℕ → List ℕ → Type 0) → Known i1 i2 (Next to) →
      GoesThen (IsFrame s.accepted) frame_payload (ShowsThen carried from) (shown_text s) (between i0 i2 ib ia) (between o0 o2 ob oa) frames Next
  goes_on Next next = record { are = un.are; has = shows_then carried from to i0 i1 i2 (payloads frames) Next un.read next }

  pub unpacks_on : (Next : Place → List ℕ → List ℕ → Type 0) → Silent (between o1 o2 om oa) → Known i1 i2 (Next to) →
      UnpacksThen (ShowsThen carried from) s (between i0 i2 ib ia) (between o0 o2 ob oa) frames Next
  unpacks_on Next none next = record {
    plays = record { goes = goes_on Next next; wrote = record { written = none.same ∙ un.written; writes = Appends-kept o0 o1 o2 (shown_text s frames) un.writes none.kept } };
    alike = un.alike;
  }

  -- and there is no further one
  pub unpacks_over : (notes : Notes) (most : Option ℕ) → has_more most (length frames) ≡ true → AtMost most (length frames) → ReadsEnd to notes (between i1 i2 im ia) → Silent (between o1 o2 om oa) →
      UnpacksMost (ShowsThen carried from) s (between i0 i2 ib ia) (between o0 o2 ob oa) notes most frames
  unpacks_over notes most room few over none = record {
    unpacks = subst (λ b. UnpacksThen (ShowsThen carried from) s (between i0 i2 ib ia) (between o0 o2 ob oa) frames (NextBehindBy notes b)) (sym room) (unpacks_on (NextOver notes) none over.over);
    few = few;
    kept = over.kept ∙ un.kept;
  }

  pub goes_to : (payload : List ℕ) → ReadsCarried (carried_after carried (payloads frames)) to last payload (between i1 i2 im ia) →
      GoesTo (ShowsThen carried from) s (between i0 i2 ib ia) (between o0 o2 ob oa) (NextShows carried) frames payload
  goes_to payload here =
      goes_on (NextShows carried (payloads frames) payload)
      (known_map i1 i2 (λ bytes rest. frame_read to bytes ≡ Ok (Some (here.own, last), rest)) (NextShows carried (payloads frames) payload to) (λ bytes rest is. (here.own, here.is, (last, is))) here.reads.next)

  -- a frame more
  pub frame_read_on : (f : Frame) → PlaysCarried s.accepted (carried_after carried (payloads frames)) to last (between i1 i2 im ia) f → Known i0 i2 (λ bytes rest. ReadsShown carried from bytes (payloads (frames ++ (f ∷ []))) last rest)
  frame_read_on f plays =
      subst (λ ps. Known i0 i2 (λ bytes rest. ReadsShown carried from bytes ps last rest)) (sym (payloads_more frames f))
      (read_more carried from to last i0 i1 i2 im ia (payloads frames) (frame_payload f) un.read plays.reads)

  -- whose text comes next
  module _ (line : Frame → List ℕ) (more : (f : Frame) → shown_text s (frames ++ (f ∷ [])) ≡ shown_text s frames ++ line f) (f : Frame)
      (plays : PlaysCarried s.accepted (carried_after carried (payloads frames)) to last (between i1 i2 im ia) f) (alike : AreAlike s (shown_frames (frames ++ (f ∷ [])))) where
    pub unpacks_more : oa ≡ om → Appends o1 o2 (line f) → Unpacked s carried from (between i0 i2 ib ia) (between o0 o2 ob oa) (frames ++ (f ∷ [])) last
    unpacks_more same writes = record {
      are = all_more (IsFrame s.accepted) frames f un.are plays.is;
      read = frame_read_on f plays;
      kept = plays.reads.reads.kept ∙ un.kept;
      written = same ∙ un.written;
      writes = subst (Appends o0 o2) (sym (more f)) (Appends-trans o0 o1 o2 (shown_text s frames) (line f) un.writes writes);
      alike = alike;
    }

    pub picture_fails : oa ≡ one_more om → (k : ℕ) → k < length (line f) → Appends o1 o2 (take k (line f)) → PictureFails (ShowsThen carried from) s (between i0 i2 ib ia) (between o0 o2 ob oa) (frames ++ (f ∷ []))
    picture_fails counted k short writes =
        let all = frames ++ (f ∷ []) in
        let text = shown_text s frames in
        let long : length (text ++ line f) ≡ length text + length (line f) = length-append text (line f) in
        let enough : length text ≤ length text + k = omega arith in
        let few : length text + k < length (text ++ line f) = omega (arith, long, short) in
        record {
          fails = record {
            goes = record {
              are = all_more (IsFrame s.accepted) frames f un.are plays.is;
              has = shows_stays carried from last i0 i2 (payloads all) (frame_read_on f plays);
            };
            kept = plays.reads.reads.kept ∙ un.kept;
            written = counted ∙ ap one_more un.written;
            writes = record {
              count = length text + k;
              enough = subst (λ ys. length (shown_text s ys) ≤ length text + k) (sym (but_last_more frames f)) enough;
              short = subst (λ t. length text + k < length t) (sym (more f)) few;
              writes =
                  subst (λ t. Appends o0 o2 (take (length text + k) t)) (sym (more f))
                  (subst (Appends o0 o2) (sym (take_past text (line f) k)) (Appends-trans o0 o1 o2 text (take k (line f)) un.writes writes));
            };
          };
          alike = alike;
        }

-- as many were unpacked as are wanted
pub unpacks_full : (s : Stream) (carried : List ℕ) (from to : Place) (i0 i1 o0 o1 : Option (List ℕ)) (ib im ob om : ℕ) (frames : List Frame) → Unpacked s carried from (between i0 i1 ib im) (between o0 o1 ob om) frames to →
    (notes : Notes) (most : Option ℕ) → has_more most (length frames) ≡ false → AtMost most (length frames) → UnpacksMost (ShowsThen carried from) s (between i0 i1 ib im) (between o0 o1 ob om) notes most frames
unpacks_full s carried from to i0 i1 o0 o1 ib im ob om frames un notes most full few = record {
  unpacks = subst (λ b. UnpacksThen (ShowsThen carried from) s (between i0 i1 ib im) (between o0 o1 ob om) frames (NextBehindBy notes b)) (sym full) (record {
    plays = record {
      goes = record { are = un.are; has = shows_stays carried from to i0 i1 (payloads frames) un.read };
      wrote = record { written = un.written; writes = un.writes };
    };
    alike = un.alike;
  });
  few = few;
  kept = un.kept;
}

-- memory was refused before the first one
pub none_unpacked : (s : Stream) (carried : List ℕ) (from : Place) (i o : Option (List ℕ)) (ib ob : ℕ) → AreAlike s [] → Appends o o (shown_text s []) →
    UnpacksThen (ShowsThen carried from) s (between i i ib ib) (between o o ob ob) [] NextStays
none_unpacked s carried from i o ib ob alike no_text = record {
  plays = record { goes = record { are = tt; has = shows_stays carried from from i i [] (shown_none carried from i) }; wrote = record { written = refl; writes = no_text } };
  alike = alike;
}
