-- Pictures are written one after the other.
use Rattle.std.proofs.Common.{rules, ◌≡◌, ◌≢◌, refl, ℕ, true, false, Option, Some, None, Err, List, [], ◌∷◌, ◌++◌, length, inl, inr, ap, sym, subst, ◌∙◌, append-nil, append_assoc}
use Rattle.std.specs.List.{flat_map}
use Rattle.std.specs.Io.KnownBytes.{Appends}
use Rattle.std.proofs.KnownBytes.{Appends-nil, Appends-kept}
use Rattle.ffv1_range.specs.Counts.{saturated}
use Rattle.ffv1_wire.specs.Failures.{one_more}
use Rattle.ffv1_wire.specs.Passage.{Passage, between}
use Rattle.ffv1_record.specs.Accepted.{Accepted}
use Rattle.ffv1_codec.specs.DecodeFaults.{is_decode_fault}
use Rattle.ffv1_codec.specs.Picture.{Planes}
use Rattle.ffv1_codec.specs.SliceList.{Said}
use Rattle.ffv1_frame.specs.declared.fault.CodecFault.{CodecFault}
use Rattle.ffv1_frame.specs.declared.fault.CodecFault.TheVariants as codec_fault
use Rattle.ffv1_y4m.specs.Canonical.{header_text}
use Rattle.ffv1_y4m.specs.Pictures.{picture_text}
use Rattle.ffv1_y4m.specs.declared.head.VideoHead.{VideoHead}
use Rattle.ffv1_files.specs.Places.{Place}
use Rattle.ffv1_files.specs.declared.notes.Notes.{Notes}
use Rattle.ffv1_reads.specs.Head.{Head}
use Rattle.ffv1_reads.specs.Known.{Known}
use Rattle.ffv1_video.specs.declared.fault.Fault.{Fault}
use Rattle.ffv1_video.specs.Faults.{Cause, cause_of, of_codec}
use Rattle.ffv1_video.specs.Faults.Cause.{Reading, Writing, Memory, Content}
use Rattle.ffv1_unpack.specs.Internal.PicturesOut.{Begun, FrameChanges, begun_behind, IsBegun, KeepsLast, NextStopsBy, RepeatsPicture, SaysAgain, SaysNext, WritesPicture, begun_next, head_saying, planes_next, said_in, text_behind, text_next, writer_behind}
use Rattle.ffv1_unpack.specs.Stream.{Again, Coded, CodedFrame, Frame, IsFrame, Stream, carried_after, coded_frames, last_of, payloads, shown_frames}
use Rattle.ffv1_unpack.specs.Internal.Told.{StopsFromBy}
use Rattle.ffv1_video.specs.Output.{Silent}
use Rattle.ffv1_codec.specs.Outcome.{lines_before}
use Rattle.ffv1_unpack.specs.Unpacked.{AlikeBy, AllSay, is_ppm_stream, pictures, rows_by, shown_text, text_by, text_of, video_of, y4m_text}
use Rattle.ffv1_unpack.specs.Unpacking.{FormatChanges, PayloadStops, UnpackingStopsIn, UnpacksMost, UnpacksThen}
use Rattle.ffv1_unpack.specs.Plays.{AtMost, NextHasFault, NextPayloadLacks, NextReadFails, has_more}
use Rattle.ffv1_unpack.specs.Ranges.{NextShows}
use Rattle.ffv1_unpack.specs.Internal.Carried.{CarriedFaults, PlaysCarried, ShowsThen}
use Rattle.ffv1_unpack.specs.Internal.Play.{ReadsEnd}
use Rattle.ffv1_reads.proofs.Results.{some_is}
use Rattle.ffv1_unpack.proofs.FramesCarried.{shows_stays}
use Rattle.ffv1_unpack.proofs.FramesInTurn.{all_more}
use Rattle.ffv1_unpack.proofs.FramesShown.{coded_again, coded_more, last_is, no_last, shown_last, shown_more, shows_after}
use Rattle.ffv1_video.proofs.Output.{silent}
use Rattle.ffv1_unpack.proofs.FramesUnpacked.{Unpacked, frame_read_on, goes_to, none_unpacked, nothing_unpacked, picture_fails, unpacks_over, unpacks_more, unpacks_on}

pub is_begun : (depth : ℕ) (h : VideoHead) (frames : List CodedFrame) → IsBegun depth h (begun_behind depth h frames)
is_begun depth h [] = tt
is_begun depth h (f ∷ fs) = refl

pub begun_more : (depth : ℕ) (h : VideoHead) (frames : List CodedFrame) (f : CodedFrame) → SaysAgain (said_in (begun_behind depth h frames)) f.said →
    Some (f.said, writer_behind depth h f.said) ≡ begun_behind depth h (frames ++ (f ∷ []))
begun_more depth h [] f again = refl
begun_more depth h (g ∷ gs) f again = ap (λ said. Some (said, writer_behind depth h said)) again

all_say_more : (said : Said) (frames : List CodedFrame) (f : CodedFrame) → AllSay said frames → f.said ≡ said → AllSay said (frames ++ (f ∷ []))
all_say_more said [] f all same = (same, tt)
all_say_more said (g ∷ gs) f all same = (all.0, all_say_more said gs f all.1 same)

alike_more : (depth : ℕ) (h : VideoHead) (frames : List CodedFrame) (f : CodedFrame) → AlikeBy false frames → SaysAgain (said_in (begun_behind depth h frames)) f.said → AlikeBy false (frames ++ (f ∷ []))
alike_more depth h [] f alike again = tt
alike_more depth h (g ∷ gs) f alike again = all_say_more g.said gs f alike again

last_says : (said : Said) (frames : List CodedFrame) (f : CodedFrame) → AllSay said (frames ++ (f ∷ [])) → f.said ≡ said
last_says said [] f all = all.0
last_says said (g ∷ gs) f all = last_says said gs f all.1

last_alike : (depth : ℕ) (h : VideoHead) (frames : List CodedFrame) (f : CodedFrame) → AlikeBy false (frames ++ (f ∷ [])) → SaysAgain (said_in (begun_behind depth h frames)) f.said
last_alike depth h [] f alike = tt
last_alike depth h (g ∷ gs) f alike = last_says g.said gs f alike

texts_more : (frames : List CodedFrame) (f : CodedFrame) → flat_map picture_text (pictures (frames ++ (f ∷ []))) ≡ flat_map picture_text (pictures frames) ++ picture_text f.planes
texts_more [] f = append-nil (picture_text f.planes)
texts_more (g ∷ gs) f =
    ap (λ z. picture_text g.planes ++ z) (texts_more gs f) ∙ sym (append_assoc (picture_text g.planes) (flat_map picture_text (pictures gs)) (picture_text f.planes))

-- the text grows by that of the next picture
pub text_more : (s : Stream) (h : VideoHead) (frames : List CodedFrame) (f : CodedFrame) → ((said : Said) → head_saying h said ≡ video_of s said) →
    let depth = s.accepted.configuration.depth in y4m_text s (frames ++ (f ∷ [])) ≡ y4m_text s frames ++ text_behind depth h (said_in (begun_behind depth h frames)) f.said f.planes
text_more s h [] f heads =
    ap (λ z. header_text s.accepted.configuration.depth (video_of s f.said) ++ z) (append-nil (picture_text f.planes)) ∙ ap (λ z. header_text s.accepted.configuration.depth z ++ picture_text f.planes) (sym (heads f.said))
text_more s h (g ∷ gs) f heads =
    ap (λ z. header_text s.accepted.configuration.depth (video_of s g.said) ++ z) (texts_more (g ∷ gs) f)
    ∙ sym (append_assoc (header_text s.accepted.configuration.depth (video_of s g.said)) (flat_map picture_text (pictures (g ∷ gs))) (picture_text f.planes))

-- all of them say the same, and so does the last
last_said : (g : CodedFrame) (gs : List CodedFrame) (f : CodedFrame) → AllSay g.said gs → last_of (g ∷ gs) ≡ Some f → f.said ≡ g.said
last_said g [] f all is = sym (ap (λ (z : CodedFrame). z.said) (some_is g f is))
last_said g (x ∷ xs) f all is = last_said x xs f (subst (λ z. AllSay z xs) (sym all.0) all.1) is ∙ all.0

no_some : (f : CodedFrame) → ◌≡◌ {A = Option CodedFrame} None (Some f) → ⊥
no_some f e = absurd (cc)

-- the last picture may be written once more
again_says : (depth : ℕ) (h : VideoHead) (shown : List CodedFrame) (f : CodedFrame) → AlikeBy false shown → last_of shown ≡ Some f → SaysAgain (said_in (begun_behind depth h shown)) f.said
again_says depth h [] f alike is = absurd (no_some f is)
again_says depth h (g ∷ gs) f alike is = last_said g gs f alike is

-- as its planes are kept
again_text : (depth : ℕ) (h : VideoHead) (shown : List CodedFrame) (f : CodedFrame) (kept : Planes) → last_of shown ≡ Some f → kept ≡ f.planes →
    text_behind depth h (said_in (begun_behind depth h shown)) f.said f.planes ≡ text_next depth h (said_in (begun_behind depth h shown)) kept Again
again_text depth h [] f kept is same = absurd (no_some f is)
again_text depth h (g ∷ gs) f kept is same = ap picture_text (sym same)

module _ (s : Stream) (h : VideoHead) (heads : (said : Said) → head_saying h said ≡ video_of s said) (plain : is_ppm_stream s ≡ false) (carried : List ℕ) (from : Place) where
  abbrev depth : ℕ
  depth = s.accepted.configuration.depth

  plain_alike : (frames : List CodedFrame) → AlikeBy false frames → AlikeBy (is_ppm_stream s) frames
  plain_alike frames alike = subst (λ b. AlikeBy b frames) (sym plain) alike

  alike_plain : (frames : List CodedFrame) → AlikeBy (is_ppm_stream s) frames → AlikeBy false frames
  alike_plain frames alike = subst (λ b. AlikeBy b frames) plain alike

  plain_text : (frames : List CodedFrame) → text_by (is_ppm_stream s) s frames ≡ y4m_text s frames
  plain_text frames = ap (λ b. text_by b s frames) plain

  -- the text of a coded frame more
  coded_text : (frames : List CodedFrame) (f : CodedFrame) →
      text_by (is_ppm_stream s) s (frames ++ (f ∷ [])) ≡ text_by (is_ppm_stream s) s frames ++ text_behind depth h (said_in (begun_behind depth h frames)) f.said f.planes
  coded_text frames f =
      let behind = text_behind depth h (said_in (begun_behind depth h frames)) f.said f.planes in
      plain_text (frames ++ (f ∷ [])) ∙ text_more s h frames f heads ∙ ap (λ z. z ++ behind) (sym (plain_text frames))

  -- and of any frame more, if the planes of the last picture are kept
  whole_text : (kept : Planes) (frames : List Frame) → KeepsLast kept frames → (f : Frame) → shown_text s (frames ++ (f ∷ [])) ≡ shown_text s frames ++ text_next depth h (said_in (begun_behind depth h (shown_frames frames))) kept f
  whole_text kept frames keeps (Coded f) = ap (text_of s) (shown_more frames (Coded f)) ∙ coded_text (shown_frames frames) f
  whole_text kept frames keeps Again = ap (text_of s) (shown_more frames Again) ∙ on_last (last_of (coded_frames frames)) refl
    where
      on_last : (last : Option CodedFrame) → last_of (coded_frames frames) ≡ last → text_of s (shown_frames frames ++ shows_after last Again) ≡ shown_text s frames ++ text_next depth h (said_in (begun_behind depth h (shown_frames frames))) kept Again
      on_last None is =
          let nothing : shown_frames frames ≡ [] = no_last (shown_frames frames) (shown_last frames ∙ is) in
          ap (text_of s) (append-nil (shown_frames frames)) ∙ sym (append-nil (shown_text s frames))
          ∙ ap (λ z. shown_text s frames ++ text_next depth h (said_in (begun_behind depth h z)) kept Again) (sym nothing)
      on_last (Some f) is =
          coded_text (shown_frames frames) f
          ∙ ap (λ z. shown_text s frames ++ z) (again_text depth h (shown_frames frames) f kept (shown_last frames ∙ is) (keeps f is))

  whole_alike : (frames : List Frame) (f : Frame) → AlikeBy false (shown_frames frames) → SaysNext (said_in (begun_behind depth h (shown_frames frames))) f → AlikeBy false (shown_frames (frames ++ (f ∷ [])))
  whole_alike frames (Coded f) alike says = subst (AlikeBy false) (sym (shown_more frames (Coded f))) (alike_more depth h (shown_frames frames) f alike says)
  whole_alike frames Again alike says = subst (AlikeBy false) (sym (shown_more frames Again)) (on_last (last_of (coded_frames frames)) refl)
    where
      on_last : (last : Option CodedFrame) → last_of (coded_frames frames) ≡ last → AlikeBy false (shown_frames frames ++ shows_after last Again)
      on_last None is = subst (AlikeBy false) (sym (append-nil (shown_frames frames))) alike
      on_last (Some f) is = alike_more depth h (shown_frames frames) f alike (again_says depth h (shown_frames frames) f alike (shown_last frames ∙ is))

  pub unpacked_none : (i o : Option (List ℕ)) (ib ob : ℕ) → Unpacked s carried from (between i i ib ib) (between o o ob ob) [] from
  unpacked_none i o ib ob = nothing_unpacked s carried from i o ib ob (plain_alike [] tt) (subst (Appends o o) (sym (plain_text [])) (Appends-nil o))

  module _ (to last : Place) (i0 i1 i2 o0 o1 o2 : Option (List ℕ)) (ib im ia ob om oa : ℕ) (frames : List Frame)
      (un : Unpacked s carried from (between i0 i1 ib im) (between o0 o1 ob om) frames to) (kept : Planes) (keeps : KeepsLast kept frames) where
    abbrev behind : Frame → List ℕ
    behind f = text_next depth h (said_in (begun_behind depth h (shown_frames frames))) kept f

    more_alike : (f : Frame) → SaysNext (said_in (begun_behind depth h (shown_frames frames))) f → AlikeBy (is_ppm_stream s) (shown_frames (frames ++ (f ∷ [])))
    more_alike f says = plain_alike (shown_frames (frames ++ (f ∷ []))) (whole_alike frames f (alike_plain (shown_frames frames) un.alike) says)

    pub unpacked_more : (f : Frame) → PlaysCarried s.accepted (carried_after carried (payloads frames)) to last (between i1 i2 im ia) f → SaysNext (said_in (begun_behind depth h (shown_frames frames))) f → oa ≡ om → Appends o1 o2 (behind f) →
        Unpacked s carried from (between i0 i2 ib ia) (between o0 o2 ob oa) (frames ++ (f ∷ [])) last
    unpacked_more f plays says same writes = unpacks_more s carried from to last i0 i1 i2 o0 o1 o2 ib im ia ob om oa frames un behind (whole_text kept frames keeps) f plays (more_alike f says) same writes

    pub unpacked_over : (notes : Notes) (most : Option ℕ) → has_more most (length frames) ≡ true → AtMost most (length frames) → ReadsEnd to notes (between i1 i2 im ia) → Silent (between o1 o2 om oa) →
        UnpacksMost (ShowsThen carried from) s (between i0 i2 ib ia) (between o0 o2 ob oa) notes most frames
    unpacked_over = unpacks_over s carried from to last i0 i1 i2 o0 o1 o2 ib im ia ob om oa frames un

    then : (Next : Place → List ℕ → List ℕ → Type 0) → Silent (between o1 o2 om oa) → Known i1 i2 (Next to) → UnpacksThen (ShowsThen carried from) s (between i0 i2 ib ia) (between o0 o2 ob oa) frames Next
    then = unpacks_on s carried from to last i0 i1 i2 o0 o1 o2 ib im ia ob om oa frames un

    kept_text : Silent (between o1 o2 om oa) → Appends o0 o2 (shown_text s frames)
    kept_text none = Appends-kept o0 o1 o2 (shown_text s frames) un.writes none.kept

    payload_faults : (f : Fault) → Silent (between o1 o2 om oa) → CarriedFaults s.accepted (carried_after carried (payloads frames)) to last (between i1 i2 im ia) f → PayloadStops (ShowsThen carried from) s (between i0 i2 ib ia) (between o0 o2 ob oa) (NextShows carried) f
    payload_faults f none p =
        let text = shown_text s frames in
        let rows : text ++ rows_by (is_ppm_stream s) s (lines_before p.faulty.faulty) ≡ text = ap (λ b. text ++ rows_by b s (lines_before p.faulty.faulty)) plain ∙ append-nil text in
        record {
          frames = frames;
          payload = p.payload;
          fault = p.fault;
          tally = p.tally;
          goes = goes_to s carried from to last i0 i1 i2 o0 o1 o2 ib im ia ob om oa frames un p.payload p.reads;
          alike = un.alike;
          faulty = p.faulty;
          is = p.is;
          written = none.same ∙ un.written;
          writes = subst (Appends o0 o2) (sym rows) (kept_text none);
        }

    format_changes : (f : Fault) → Silent (between o1 o2 om oa) → FrameChanges s.accepted (carried_after carried (payloads frames)) h (begun_behind depth h (shown_frames frames)) kept to last (between i1 i2 im ia) (between o1 o2 om oa) f →
        FormatChanges (ShowsThen carried from) s (between i0 i2 ib ia) (between o0 o2 ob oa) f
    format_changes f none p = record {
      frames = frames;
      last = p.frame;
      goes = record {
        are = all_more (IsFrame s.accepted) frames (Coded p.frame) un.are p.plays.is;
        has = shows_stays carried from last i0 i2 (payloads (frames ++ (Coded p.frame ∷ []))) (frame_read_on s carried from to last i0 i1 i2 o0 o1 o2 ib im ia ob om oa frames un (Coded p.frame) p.plays);
      };
      alike = un.alike;
      changed = λ alike. p.changed (last_alike depth h (shown_frames frames) p.frame (subst (AlikeBy false) (shown_more frames (Coded p.frame)) (alike_plain (shown_frames (frames ++ (Coded p.frame ∷ []))) alike)));
      is = p.is;
      wrote = record { written = none.same ∙ un.written; writes = kept_text none };
    }

    pub unpacking_stops : (f : Fault) (why : Cause) → NextStopsBy s.accepted (carried_after carried (payloads frames)) h (begun_behind depth h (shown_frames frames)) kept to last (between i1 i2 im ia) (between o1 o2 om oa) f why →
        UnpackingStopsIn (ShowsThen carried from) s (between i0 i2 ib ia) (between o0 o2 ob oa) (NextShows carried) f why
    unpacking_stops f Writing p = inl (frames ++ (p.0 ∷ []), picture_fails s carried from to last i0 i1 i2 o0 o1 o2 ib im ia ob om oa frames un behind (whole_text kept frames keeps) p.0 p.1 (more_alike p.0 p.2) p.3 p.4.0 p.4.1 p.4.2)
    unpacking_stops f Reading p = (p.1 ∙ ap one_more un.kept, frames, then NextReadFails p.0 p.2)
    unpacking_stops f Memory p = (p.1 ∙ un.kept, inl (frames, then NextPayloadLacks p.0 p.2))
    unpacking_stops f Content p = (
      p.1 ∙ un.kept,
      elim p.2 [
        | inl file ↦ inl (frames, then (NextHasFault f) p.0 file)
        | inr more ↦ elim more [
          | inl payload ↦ inr (inl (payload_faults f p.0 payload))
          | inr changes ↦ inr (inr (format_changes f p.0 changes))
        ]
      ],
    )

-- a fault of decoding that is not the sink's comes from what was read
pub decode_cause : (f : CodecFault) → is_decode_fault f ≡ true → f ≢ codec_fault.Sink → cause_of (of_codec f) ≡ Content
decode_cause codec_fault.OutOfMemory is own = absurd (search rules)
decode_cause codec_fault.BadStart is own = refl
decode_cause codec_fault.SymbolTooLong is own = refl
decode_cause codec_fault.Colour is own = refl
decode_cause codec_fault.Overread is own = refl
decode_cause codec_fault.Ending is own = refl
decode_cause codec_fault.BitsEnd is own = refl
decode_cause codec_fault.BadCode is own = refl
decode_cause codec_fault.Padding is own = refl
decode_cause codec_fault.NotKey is own = refl
decode_cause codec_fault.Place is own = refl
decode_cause codec_fault.SetIndex is own = refl
decode_cause codec_fault.Structure is own = refl
decode_cause codec_fault.Aspect is own = refl
decode_cause codec_fault.Footer is own = refl
decode_cause codec_fault.Leftover is own = refl
decode_cause codec_fault.SliceParity is own = refl
decode_cause codec_fault.SliceStatus is own = refl
decode_cause codec_fault.Overlap is own = refl
decode_cause codec_fault.SliceTooLong is own = absurd (search rules)
decode_cause codec_fault.InfoDiffers is own = refl
decode_cause codec_fault.Sink is own = absurd (own refl)

-- the head of a text is that of its stream
pub heads_of : (x y : Head) (b a : Accepted) (h : VideoHead) → x ≡ y → b ≡ a → ((said : Said) → head_saying h said ≡ video_of (record { head = x; accepted = b }) said) →
    (said : Said) → head_saying h said ≡ video_of (record { head = y; accepted = a }) said
heads_of x y b a h head same heads =
    subst (λ z. (said : Said) → head_saying h said ≡ video_of (record { head = y; accepted = z }) said) same
    (subst (λ z. (said : Said) → head_saying h said ≡ video_of (record { head = z; accepted = b }) said) head heads)

-- memory for the sink was refused
pub wants_memory : (s : Stream) (carried : List ℕ) (from : Place) (i o : Option (List ℕ)) (ib ob : ℕ) (f : CodecFault) → is_ppm_stream s ≡ false → f ≡ codec_fault.OutOfMemory →
    UnpackingStopsIn (ShowsThen carried from) s (between i i ib ib) (between o o ob ob) (NextShows carried) (of_codec f) (cause_of (of_codec f))
wants_memory s carried from i o ib ob f plain is =
    let no_text = subst (λ b. Appends o o (text_by b s [])) (sym plain) (Appends-nil o) in
    subst (λ z. UnpackingStopsIn (ShowsThen carried from) s (between i i ib ib) (between o o ob ob) (NextShows carried) (of_codec z) (cause_of (of_codec z))) (sym is)
    (refl, inr (none_unpacked s carried from i o ib ob (subst (λ b. AlikeBy b []) (sym plain) tt) no_text))

module _ (a : Accepted) (carried : List ℕ) (h : VideoHead) (begun : Begun) (kept : Planes) (from to : Place) (input : Passage) where
  -- a frame was decoded, and its picture was not written
  pub picture_stops : (output : Passage) (after : Begun) (frame : CodedFrame) (f : Fault) → PlaysCarried a carried from to input (Coded frame) → WritesPicture a.configuration.depth h (said_in begun) frame.said frame.planes output after (Err f) →
      NextStopsBy a carried h begun kept from to input output f (cause_of f)
  picture_stops output after frame f plays answer = elim answer [
    | inl write ↦
        subst (λ z. NextStopsBy a carried h begun kept from to input output z (cause_of z)) (sym write.0) (Coded frame, plays, write.1, write.2, write.3)
    | inr other ↦
        subst (λ z. NextStopsBy a carried h begun kept from to input output z (cause_of z)) (sym other.0)
        (other.2, plays.reads.reads.kept, inr (inr (record { frame = frame; plays = plays; changed = other.1; is = refl })))
  ]

  -- a frame repeats the one before, and its picture was not written once more
  pub again_stops : (output : Passage) (after : Begun) (f : Fault) → PlaysCarried a carried from to input Again → RepeatsPicture a.configuration.depth h begun kept output after (Err f) → NextStopsBy a carried h begun kept from to input output f (cause_of f)
  again_stops output after f plays answer = subst (λ z. NextStopsBy a carried h begun kept from to input output z (cause_of z)) (sym answer.0) (Again, plays, tt, answer.1, answer.2)

  -- there is none
  pub file_stops : (o : Option (List ℕ)) (n : ℕ) (f : Fault) (why : Cause) → StopsFromBy from input f why → NextStopsBy a carried h begun kept from to input (between o o n n) f why
  file_stops o n f Reading stops = (silent o n, stops.0, stops.1)
  file_stops o n f Writing stops = absurd stops
  file_stops o n f Memory stops = (silent o n, stops.0, stops.1)
  file_stops o n f Content stops = (silent o n, stops.0, inl stops.1)

  -- its payload has a fault
  pub payload_stops : (o : Option (List ℕ)) (n : ℕ) (f : Fault) → CarriedFaults a carried from to input f → NextStopsBy a carried h begun kept from to input (between o o n n) f (cause_of f)
  payload_stops o n f p = subst (NextStopsBy a carried h begun kept from to input (between o o n n) f) (sym p.content) (silent o n, p.reads.reads.kept, inr (inl p))

-- so many frames were unpacked
pub record UnpackedSo (s : Stream) (h : VideoHead) (carried : List ℕ) (from : Place) (input output : Passage) (begun : Begun) (kept : Planes) (left : List ℕ) (count : ℕ) (to : Place) : Type 0 where
  pub frames : List Frame
  pub is : count ≡ saturated (length frames)
  pub un : Unpacked s carried from input output frames to
  pub begun_is : begun ≡ begun_behind s.accepted.configuration.depth h (shown_frames frames)
  pub keeps : KeepsLast kept frames
  pub left_is : left ≡ carried_after carried (payloads frames)

-- what is begun, and what is kept, after one more
pub begun_then : (depth : ℕ) (h : VideoHead) (frames : List Frame) (f : Frame) → AlikeBy false (shown_frames frames) → SaysNext (said_in (begun_behind depth h (shown_frames frames))) f →
    begun_next depth h (begun_behind depth h (shown_frames frames)) f ≡ begun_behind depth h (shown_frames (frames ++ (f ∷ [])))
begun_then depth h frames (Coded f) alike says = begun_more depth h (shown_frames frames) f says ∙ ap (begun_behind depth h) (sym (shown_more frames (Coded f)))
begun_then depth h frames Again alike says = on_last (last_of (coded_frames frames)) refl ∙ ap (begun_behind depth h) (sym (shown_more frames Again))
  where
    again_begun : (shown : List CodedFrame) (f : CodedFrame) → last_of shown ≡ Some f → begun_behind depth h shown ≡ begun_behind depth h (shown ++ (f ∷ []))
    again_begun [] f is = absurd (no_some f is)
    again_begun (g ∷ gs) f is = refl

    on_last : (last : Option CodedFrame) → last_of (coded_frames frames) ≡ last → begun_behind depth h (shown_frames frames) ≡ begun_behind depth h (shown_frames frames ++ shows_after last Again)
    on_last None is = ap (begun_behind depth h) (sym (append-nil (shown_frames frames)))
    on_last (Some f) is = again_begun (shown_frames frames) f (shown_last frames ∙ is)

pub keeps_next : (kept : Planes) (frames : List Frame) (f : Frame) → KeepsLast kept frames → KeepsLast (planes_next kept f) (frames ++ (f ∷ []))
keeps_next kept frames (Coded f) keeps = λ last is. ap (λ (z : CodedFrame). z.planes) (some_is f last (sym (last_is (coded_frames frames) f) ∙ ap last_of (sym (coded_more frames f)) ∙ is))
keeps_next kept frames Again keeps = λ last is. keeps last (ap last_of (sym (coded_again frames)) ∙ is)

pub keeps_none : (kept : Planes) → KeepsLast kept []
keeps_none kept = λ f is. absurd (no_some f is)
