-- The text of pictures grows by that of the next one.
use Rattle.std.proofs.Common.{◌≡◌, refl, ℕ, suc, ◌+◌, Bool, false, not, List, [], ◌∷◌, ◌++◌, length, ap, sym, ◌∙◌, arith, append-nil, append_assoc}
use Rattle.ffv1_range.specs.Counts.{saturated}
use Rattle.ffv1_codec.specs.SliceList.{Said}
use Rattle.ffv1_y4m.specs.declared.head.VideoHead.{VideoHead}
use Rattle.ffv1_words.specs.declared.order.FrameRange.{FrameRange}
use Rattle.ffv1_unpack.specs.FrameMd5.{md5_from, md5_rows}
use Rattle.ffv1_unpack.specs.Ranges.{number_in}
use Rattle.ffv1_unpack.specs.Internal.FrameMd5.{begun_by, frame_md5, is_begun}
use Rattle.ffv1_video.specs.Md5Text.{md5_head, md5_line}
use Rattle.ffv1_video.proofs.Md5sGrown.{counted_line}
use Rattle.ffv1_unpack.specs.Internal.PicturesOut.{head_saying}
use Rattle.ffv1_video.specs.RawPicture.{raw_bytes}
use Rattle.ffv1_unpack.specs.Stream.{Again, Coded, Frame, Stream}
use Rattle.ffv1_unpack.specs.Unpacked.{is_ppm_stream, video_of}
use Rattle.ffv1_unpack.proofs.FramesInParts.{text_in_parts}

-- the line of a frame, if it has one
abbrev row_of : Bool → ℕ → ℕ → Frame → List ℕ
row_of rct depth i (Coded f) = md5_line i (raw_bytes rct depth f.planes)
row_of rct depth i Again = []

rows_more : (rct : Bool) (depth i : ℕ) (frames : List Frame) (f : Frame) → md5_rows rct depth i (frames ++ (f ∷ [])) ≡ md5_rows rct depth i frames ++ row_of rct depth (i + length frames) f
rows_more rct depth i [] (Coded f) =
    let same : i ≡ i + 0 = omega arith in
    append-nil (md5_line i (raw_bytes rct depth f.planes)) ∙ ap (λ n. md5_line n (raw_bytes rct depth f.planes)) same
rows_more rct depth i [] Again = refl
rows_more rct depth i (Coded g ∷ gs) f =
    let here = md5_line i (raw_bytes rct depth g.planes) in
    let same : suc i + length gs ≡ i + suc (length gs) = omega arith in
    ap (λ z. here ++ z) (rows_more rct depth (suc i) gs f)
    ∙ sym (append_assoc here (md5_rows rct depth (suc i) gs) (row_of rct depth (suc i + length gs) f))
    ∙ ap (λ n. (here ++ md5_rows rct depth (suc i) gs) ++ row_of rct depth n f) same
rows_more rct depth i (Again ∷ gs) f =
    let same : suc i + length gs ≡ i + suc (length gs) = omega arith in
    rows_more rct depth (suc i) gs f ∙ ap (λ n. md5_rows rct depth (suc i) gs ++ row_of rct depth n f) same

-- the lines of frames in parts
rows_step : (rct : Bool) (depth i : ℕ) (f : Frame) (fs : List Frame) → md5_rows rct depth i (f ∷ fs) ≡ row_of rct depth i f ++ md5_rows rct depth (suc i) fs
rows_step rct depth i (Coded f) fs = refl
rows_step rct depth i Again fs = refl

pub rows_in_parts : (rct : Bool) (depth i : ℕ) (xs ys : List Frame) → md5_rows rct depth i (xs ++ ys) ≡ md5_rows rct depth i xs ++ md5_rows rct depth (i + length xs) ys
rows_in_parts rct depth i xs ys = text_in_parts (md5_rows rct depth) (λ n f. row_of rct depth n f) (λ n. refl) (λ n f fs. rows_step rct depth n f fs) i xs ys

-- whether a coded frame came
pub begun_more : (frames : List Frame) (f : Frame) → begun_by (is_begun frames) f ≡ is_begun (frames ++ (f ∷ []))
begun_more [] (Coded f) = refl
begun_more [] Again = refl
begun_more (Coded g ∷ gs) (Coded f) = refl
begun_more (Coded g ∷ gs) Again = refl
begun_more (Again ∷ gs) f = begun_more gs f

module _ (s : Stream) (h : VideoHead) (heads : (said : Said) → head_saying h said ≡ video_of s said) where
  abbrev rct : Bool
  rct = is_ppm_stream s

  abbrev depth : ℕ
  depth = s.accepted.configuration.depth

  -- after a coded one
  row_then : (i number : ℕ) (f : Frame) → number ≡ saturated i → row_of rct depth i f ≡ frame_md5 s.accepted h false number f
  row_then i number (Coded f) is = counted_line rct depth number i f.planes is
  row_then i number Again is = refl

  from_more : (i : ℕ) (frames : List Frame) (f : Frame) (number : ℕ) → number ≡ saturated (i + length frames) →
      md5_from i s (frames ++ (f ∷ [])) ≡ md5_from i s frames ++ frame_md5 s.accepted h (not (is_begun frames)) number f
  from_more i [] (Coded f) number is =
      let bytes = raw_bytes rct depth f.planes in
      let none : i + 0 ≡ i = omega arith in
      ap (λ z. md5_head (video_of s f.said) ++ z) (append-nil (md5_line i bytes) ∙ counted_line rct depth number i f.planes (is ∙ ap saturated none))
      ∙ ap (λ v. md5_head v ++ md5_line number bytes) (sym (heads f.said))
  from_more i [] Again number is = refl
  from_more i (Coded g ∷ gs) f number is =
      let head = md5_head (video_of s g.said) in
      let rows = md5_rows rct depth i (Coded g ∷ gs) in
      let last = i + length (Coded g ∷ gs) in
      ap (λ z. head ++ z) (rows_more rct depth i (Coded g ∷ gs) f)
      ∙ sym (append_assoc head rows (row_of rct depth last f))
      ∙ ap (λ z. (head ++ rows) ++ z) (row_then last number f is)
  from_more i (Again ∷ gs) f number is =
      let same : i + suc (length gs) ≡ suc i + length gs = omega arith in
      from_more (suc i) gs f number (is ∙ ap saturated same)

  -- the text grows by that of the next frame
  pub text_more : (range : FrameRange) (frames : List Frame) (f : Frame) (begun : Bool) (number : ℕ) → begun ≡ is_begun frames → number ≡ number_in range (length frames) →
      md5_from range.first s (frames ++ (f ∷ [])) ≡ md5_from range.first s frames ++ frame_md5 s.accepted h (not begun) number f
  text_more range frames f begun number is counted = from_more range.first frames f number counted ∙ ap (λ b. md5_from range.first s frames ++ frame_md5 s.accepted h (not b) number f) (sym is)
