-- Images are written one after the other.
use Rattle.std.proofs.Common.{◌≡◌, refl, ℕ, ◌+◌, ◌<◌, ◌≤◌, true, Option, Some, None, List, [], ◌∷◌, ◌++◌, length, take, inl, inr, ap, sym, subst, ◌∙◌, arith, append-nil, append_assoc, length-append}
use Rattle.std.specs.List.{flat_map}
use Rattle.std.specs.Io.KnownBytes.{Appends}
use Rattle.std.proofs.KnownBytes.{Appends-nil, Appends-trans}
use Rattle.ffv1_range.specs.Counts.{saturated}
use Rattle.ffv1_wire.specs.Failures.{one_more}
use Rattle.ffv1_wire.specs.Passage.{Passage, between}
use Rattle.ffv1_wire.specs.Runs.{Line}
use Rattle.ffv1_files.specs.Places.{Place}
use Rattle.ffv1_files.specs.declared.notes.Notes.{Notes}
use Rattle.ffv1_reads.specs.Known.{Known}
use Rattle.ffv1_y4m.specs.Images.{image_text}
use Rattle.ffv1_video.specs.declared.fault.Fault.{Fault}
use Rattle.ffv1_video.specs.declared.fault.Fault.TheVariants as fault
use Rattle.ffv1_video.specs.Faults.{Cause, cause_of}
use Rattle.ffv1_video.specs.Faults.Cause.{Reading, Writing, Memory, Content}
use Rattle.ffv1_unpack.specs.Internal.ImagesOut.{ImageFaults, ImageStopsBy, RowCut, image_next, image_of, rows_so_far}
use Rattle.ffv1_unpack.specs.Stream.{Again, Coded, CodedFrame, Frame, Stream, carried_after, coded_frames, last_of, payloads, shown_frames, those}
use Rattle.ffv1_video.specs.Output.{Silent}
use Rattle.ffv1_codec.specs.Outcome.{lines_before}
use Rattle.ffv1_unpack.specs.Unpacked.{AlikeBy, is_ppm_stream, ppm_text, rows_by, shown_text, text_by, text_of}
use Rattle.ffv1_unpack.specs.Unpacking.{GoesTo, PayloadStops, RowFails, UnpackingStopsIn, UnpacksMost, UnpacksThen}
use Rattle.ffv1_unpack.specs.Plays.{AtMost, NextHasFault, NextPayloadLacks, NextReadFails, has_more}
use Rattle.ffv1_unpack.specs.Ranges.{NextShows}
use Rattle.ffv1_unpack.specs.Internal.Carried.{PlaysCarried, ReadsCarried, ShowsThen}
use Rattle.ffv1_unpack.specs.Internal.Play.{ReadsEnd}
use Rattle.ffv1_video.proofs.Output.{take_past}
use Rattle.ffv1_unpack.proofs.FramesShown.{shown_more}
use Rattle.ffv1_unpack.proofs.FramesUnpacked.{Unpacked, goes_to, none_unpacked, nothing_unpacked, unpacks_over, unpacks_more, unpacks_on}

-- the text grows by the next image
pub text_more : (s : Stream) (frames : List CodedFrame) (f : CodedFrame) →
    ppm_text s (frames ++ (f ∷ [])) ≡ ppm_text s frames ++ image_text s.accepted.configuration.depth s.accepted.configuration.width s.accepted.configuration.height f.planes
text_more s [] f = append-nil (image_text s.accepted.configuration.depth s.accepted.configuration.width s.accepted.configuration.height f.planes)
text_more s (g ∷ gs) f =
    let image = image_text s.accepted.configuration.depth s.accepted.configuration.width s.accepted.configuration.height in
    ap (λ z. image g.planes ++ z) (text_more s gs f) ∙ sym (append_assoc (image g.planes) (ppm_text s gs) (image f.planes))

module _ (s : Stream) (ppm : is_ppm_stream s ≡ true) (carried : List ℕ) (from : Place) where
  all_alike : (frames : List CodedFrame) → AlikeBy (is_ppm_stream s) frames
  all_alike frames = subst (λ b. AlikeBy b frames) (sym ppm) tt

  images_text : (frames : List CodedFrame) → text_by (is_ppm_stream s) s frames ≡ ppm_text s frames
  images_text frames = ap (λ b. text_by b s frames) ppm

  rows_text : (lines : List Line) → rows_so_far s.accepted.configuration lines ≡ rows_by (is_ppm_stream s) s lines
  rows_text lines = sym (ap (λ b. rows_by b s lines) ppm)

  coded_text : (frames : List CodedFrame) (f : CodedFrame) → text_of s (frames ++ (f ∷ [])) ≡ text_of s frames ++ image_of s.accepted.configuration f
  coded_text frames f =
      images_text (frames ++ (f ∷ [])) ∙ text_more s frames f
      ∙ ap (λ z. z ++ image_of s.accepted.configuration f) (sym (images_text frames))

  -- the text grows by what the next frame shows
  whole_text : (frames : List Frame) (f : Frame) → shown_text s (frames ++ (f ∷ [])) ≡ shown_text s frames ++ image_next s.accepted.configuration frames f
  whole_text frames (Coded f) = ap (text_of s) (shown_more frames (Coded f)) ∙ coded_text (shown_frames frames) f
  whole_text frames Again = ap (text_of s) (shown_more frames Again) ∙ on_last (last_of (coded_frames frames))
    where
      on_last : (last : Option CodedFrame) → text_of s (shown_frames frames ++ those last) ≡ shown_text s frames ++ flat_map (image_of s.accepted.configuration) (those last)
      on_last None = ap (text_of s) (append-nil (shown_frames frames)) ∙ sym (append-nil (shown_text s frames))
      on_last (Some f) = coded_text (shown_frames frames) f ∙ ap (λ z. shown_text s frames ++ z) (sym (append-nil (image_of s.accepted.configuration f)))

  pub images_none : (i o : Option (List ℕ)) (ib ob : ℕ) → Unpacked s carried from (between i i ib ib) (between o o ob ob) [] from
  images_none i o ib ob = nothing_unpacked s carried from i o ib ob (all_alike []) (subst (Appends o o) (sym (images_text [])) (Appends-nil o))

  -- memory for the lines that an image is written from was refused
  pub images_lack : (i o : Option (List ℕ)) (ib ob : ℕ) (f : Fault) → f ≡ fault.OutOfMemory → UnpackingStopsIn (ShowsThen carried from) s (between i i ib ib) (between o o ob ob) (NextShows carried) f (cause_of f)
  images_lack i o ib ob f is =
      subst (λ z. UnpackingStopsIn (ShowsThen carried from) s (between i i ib ib) (between o o ob ob) (NextShows carried) z (cause_of z)) (sym is)
      (refl, inr (none_unpacked s carried from i o ib ob (all_alike []) (subst (Appends o o) (sym (images_text [])) (Appends-nil o))))

  module _ (to last : Place) (i0 i1 i2 o0 o1 o2 : Option (List ℕ)) (ib im ia ob om oa : ℕ) (frames : List Frame)
      (un : Unpacked s carried from (between i0 i1 ib im) (between o0 o1 ob om) frames to) where
    pub images_more : (f : Frame) → PlaysCarried s.accepted (carried_after carried (payloads frames)) to last (between i1 i2 im ia) f → oa ≡ om → Appends o1 o2 (image_next s.accepted.configuration frames f) →
        Unpacked s carried from (between i0 i2 ib ia) (between o0 o2 ob oa) (frames ++ (f ∷ [])) last
    images_more f plays same writes = unpacks_more s carried from to last i0 i1 i2 o0 o1 o2 ib im ia ob om oa frames un (image_next s.accepted.configuration frames) (whole_text frames) f plays (all_alike (shown_frames (frames ++ (f ∷ [])))) same writes

    pub images_over : (notes : Notes) (most : Option ℕ) → has_more most (length frames) ≡ true → AtMost most (length frames) → ReadsEnd to notes (between i1 i2 im ia) → Silent (between o1 o2 om oa) →
        UnpacksMost (ShowsThen carried from) s (between i0 i2 ib ia) (between o0 o2 ob oa) notes most frames
    images_over = unpacks_over s carried from to last i0 i1 i2 o0 o1 o2 ib im ia ob om oa frames un

    then : (Next : Place → List ℕ → List ℕ → Type 0) → Silent (between o1 o2 om oa) → Known i1 i2 (Next to) → UnpacksThen (ShowsThen carried from) s (between i0 i2 ib ia) (between o0 o2 ob oa) frames Next
    then = unpacks_on s carried from to last i0 i1 i2 o0 o1 o2 ib im ia ob om oa frames un

    comes : (payload : List ℕ) → ReadsCarried (carried_after carried (payloads frames)) to last payload (between i1 i2 im ia) → GoesTo (ShowsThen carried from) s (between i0 i2 ib ia) (between o0 o2 ob oa) (NextShows carried) frames payload
    comes = goes_to s carried from to last i0 i1 i2 o0 o1 o2 ib im ia ob om oa frames un

    row_fails : RowCut s.accepted (carried_after carried (payloads frames)) frames to last (between i1 i2 im ia) (between o1 o2 om oa) → RowFails (ShowsThen carried from) s (between i0 i2 ib ia) (between o0 o2 ob oa) (NextShows carried)
    row_fails p =
        let text = shown_text s frames in
        let before = rows_so_far s.accepted.configuration p.lines in
        let all = rows_so_far s.accepted.configuration (p.lines ++ (p.next ∷ [])) in
        let count = length text + p.writes.count in
        let least_long : length (text ++ before) ≡ length text + length before = length-append text before in
        let all_long : length (text ++ all) ≡ length text + length all = length-append text all in
        let enough : length (text ++ before) ≤ count = omega (arith, least_long, p.writes.enough) in
        let short : count < length (text ++ all) = omega (arith, all_long, p.writes.short) in
        let writes = subst (Appends o0 o2) (sym (take_past text all p.writes.count)) (Appends-trans o0 o1 o2 text (take p.writes.count all) un.writes p.writes.writes) in
        record {
          frames = frames;
          payload = p.payload;
          source = p.source;
          shows = p.shows;
          lines = p.lines;
          next = p.next;
          ppm = ppm;
          goes = comes p.payload p.reads;
          hands = p.hands;
          kept = p.reads.reads.kept ∙ un.kept;
          written = p.written ∙ ap one_more un.written;
          writes = record {
            count = count;
            enough = subst (λ t. length (text ++ t) ≤ count) (rows_text p.lines) enough;
            short = subst (λ t. count < length (text ++ t)) (rows_text (p.lines ++ (p.next ∷ []))) short;
            writes = subst (λ t. Appends o0 o2 (take count (text ++ t))) (rows_text (p.lines ++ (p.next ∷ []))) writes;
          };
        }

    payload_faults : (f : Fault) → ImageFaults s.accepted (carried_after carried (payloads frames)) frames to last (between i1 i2 im ia) (between o1 o2 om oa) f → PayloadStops (ShowsThen carried from) s (between i0 i2 ib ia) (between o0 o2 ob oa) (NextShows carried) f
    payload_faults f h =
        let p = h.payload in
        let text = shown_text s frames in
        let rows = rows_so_far s.accepted.configuration (lines_before p.faulty.faulty) in
        record {
          frames = frames;
          payload = p.payload;
          fault = p.fault;
          tally = p.tally;
          goes = comes p.payload p.reads;
          alike = un.alike;
          faulty = p.faulty;
          is = p.is;
          written = h.written ∙ un.written;
          writes = subst (λ t. Appends o0 o2 (text ++ t)) (rows_text (lines_before p.faulty.faulty)) (Appends-trans o0 o1 o2 text rows un.writes h.writes);
        }

    pub images_stop : (f : Fault) (why : Cause) → ImageStopsBy s.accepted (carried_after carried (payloads frames)) frames to last (between i1 i2 im ia) (between o1 o2 om oa) f why →
        UnpackingStopsIn (ShowsThen carried from) s (between i0 i2 ib ia) (between o0 o2 ob oa) (NextShows carried) f why
    images_stop f Writing p = inr (row_fails p)
    images_stop f Reading p = (p.1 ∙ ap one_more un.kept, frames, then NextReadFails p.0 p.2)
    images_stop f Memory p = (p.1 ∙ un.kept, inl (frames, then NextPayloadLacks p.0 p.2))
    images_stop f Content p = (
      p.0 ∙ un.kept,
      elim p.1 [
        | inl file ↦ inl (frames, then (NextHasFault f) file.0 file.1)
        | inr faults ↦ inr (inl (payload_faults f faults))
      ],
    )

-- so many images were written
pub record ImagesSo (s : Stream) (carried : List ℕ) (from : Place) (input output : Passage) (left : List ℕ) (count : ℕ) (to : Place) : Type 0 where
  pub frames : List Frame
  pub is : count ≡ saturated (length frames)
  pub un : Unpacked s carried from input output frames to
  pub left_is : left ≡ carried_after carried (payloads frames)
