-- What is written of frames in two parts is what is written of them in one, but for heads and last
-- lines.
use Rattle.std.proofs.Common.{refl}
use Rattle.ffv1_range.specs.Counts.{saturated}
use Rattle.ffv1_video.specs.Md5Text.{md5_line, md5_lines}
use Rattle.ffv1_video.specs.RawPicture.{raw_bytes}
use Rattle.ffv1_y4m.specs.Images.{image_text}
use Rattle.ffv1_unpack.specs.FrameLines.{line_of, lines_from}
use Rattle.ffv1_unpack.specs.Judged.{judged_from, judged_line}
use Rattle.ffv1_unpack.specs.Stream.{CodedFrame}
use Rattle.ffv1_y4m.specs.Pictures.{picture_text}
use Rattle.ffv1_unpack.proofs.FramesShown.{shown_behind}
use Rattle.ffv1_unpack.proofs.FramesInParts.{flat_in_parts, text_in_parts}
use Rattle.ffv1_unpack.proofs.Md5sSoFar.{rows_in_parts}
use Rattle.ffv1_unpack.proofs.laws.parts_make_up_the_whole.Goals as goal

pub returns-clause-lines : goal.returns-clause-lines
returns-clause-lines c = λ kind k i xs ys.
    text_in_parts (lines_from kind k) (λ n f. line_of kind k (saturated n) f)
    (λ n. refl) (λ n f fs. refl) i xs ys

pub returns-clause-judged : goal.returns-clause-judged
returns-clause-judged c = λ place k i xs ys.
    text_in_parts (judged_from place k) (λ n j. judged_line place k (saturated n) j)
    (λ n. refl) (λ n j js. refl) i xs ys

pub returns-clause-md5s : goal.returns-clause-md5s
returns-clause-md5s c = λ rct depth i xs ys.
    text_in_parts (md5_lines rct depth) (λ n p. md5_line n (raw_bytes rct depth p)) (λ n. refl)
    (λ n p ps. refl) i xs ys

pub returns-clause-rows : goal.returns-clause-rows
returns-clause-rows c = rows_in_parts

pub returns-clause-images : goal.returns-clause-images
returns-clause-images c = λ s xs ys.
    flat_in_parts (image_text s.accepted.configuration.depth s.accepted.configuration.width
    s.accepted.configuration.height) (λ (f : CodedFrame). f.planes) xs ys

pub returns-clause-header : goal.returns-clause-header
returns-clause-header c = λ s f fs. refl

pub returns-clause-pictures : goal.returns-clause-pictures
returns-clause-pictures c = λ xs ys. flat_in_parts picture_text (λ (f : CodedFrame). f.planes) xs ys

pub returns-clause-shown : goal.returns-clause-shown
returns-clause-shown c = shown_behind
