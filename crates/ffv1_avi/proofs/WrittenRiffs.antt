-- What is written is a file of one RIFF.
use Rattle.std.proofs.Common.{◌≡◌, ℕ, ◌+◌, ◌^◌, ◌<◌, ◌==◌, List, [], ◌∷◌, ◌++◌, length, codes, flat_map, map, ap, ◌∙◌, sym, subst, arith, refl, append-nil, true, false}
use Rattle.std.proofs.lemmas.Bool.{ne_eqb}
use Rattle.ffv1_avi.specs.Walk.{is_known}
use Rattle.byteorder.specs.Endian.{little_number}
use Rattle.ffv1_reads.specs.Bitmap.{number}
use Rattle.ffv1_avi.specs.declared.place.Extent.TheVariants.{EveryRiff}
use Rattle.ffv1_avi.specs.declared.place.Names.TheVariants.{Closed}
use Rattle.ffv1_avi.specs.Names.{is_barred, is_frame, is_stream_frame}
use Rattle.ffv1_avi.specs.Chunks.{AreFrames, Chunk, IsWritable, chunks_text}
use Rattle.ffv1_reads.specs.Head.{Head, frame_limit, without_colour}
use Rattle.ffv1_avi.specs.Riffs.{RiffFile, riffs_text, sections_text}
use Rattle.ffv1_avi.specs.Written.{file_of, frame_chunk, front, head_text, movi, movi_size, padding, riff_size, spelled}
use Rattle.ffv1_avi.proofs.PartLaws.{parts_text}
use Rattle.ffv1_avi.proofs.WrittenLaws.{back, frame_of, frames_are, frames_fit, frames_long, frames_text, header_is, header_of, parts_long, stream_of, tail_same, written_stream}

-- 00dc is the name of a frame of the first stream
first_named : is_frame (Closed 0 1) (codes "00dc") ≡ true
unfolding is_stream_frame
first_named = refl

first_stands : is_barred (Closed 0 1) (codes "00dc") ≡ false
unfolding is_stream_frame
first_stands = refl

-- a size that is not too great is known
small_known : (n : ℕ) → 0 < n → n < 4294967295 → is_known n ≡ true
small_known n some small =
    let first : (n == 0) ≡ false = ne_eqb _ _ (λ e. omega (arith, e, some)) in
    let last : (n == 4294967295) ≡ false = ne_eqb _ _ (λ e. omega (arith, e, small)) in
    rw (first, last) refl

pub written_riff : (head : Head) (frames : List (List ℕ)) → IsWritable EveryRiff head frames → RiffFile (file_of head frames) (without_colour head) frames
written_riff head frames is =
    let count = length frames in
    let size = movi_size frames in
    let chunks = map frame_of frames in
    let long = frames_long frame_limit frames is.sized in
    let small : size < 2 ^ 32 = omega (arith, is.small) in
    let said = back size small in
    let counted : little_number 4 (number size) ≡ 4 + length (chunks_text chunks) = said ∙ sym long.0 in
    let riff : little_number 4 (number (riff_size head frames)) ≡ riff_size head frames = back (riff_size head frames) (omega (arith, is.small)) in
    let known : is_known (little_number 4 (number (riff_size head frames))) ≡ true = rw riff (small_known (riff_size head frames) (omega arith) (omega (arith, is.small))) in
    let filled : little_number 4 (number (riff_size head frames)) ≡ 4 + length (parts_text (header_of head count ∷ [])) + (8 + little_number 4 (number size)) + 0 = rw (riff, said) (omega (arith, parts_long head count)) in
    let behind : spelled (movi size) ++ flat_map frame_chunk frames ≡ spelled (movi size) ++ (chunks_text chunks ++ []) = ap (λ z. spelled (movi size) ++ z) (sym (append-nil (chunks_text chunks) ∙ frames_text frames)) in
    let whole : file_of head frames ≡ (codes "RIFF" ++ number (riff_size head frames) ++ codes "AVI ") ++ (parts_text (header_of head count ∷ []) ++ ((codes "LIST" ++ number size ++ codes "movi") ++ (chunks_text chunks ++ []))) =
    ap (λ z. head_text head count (riff_size head frames) ++ z) behind
    ∙ ap (λ z. front head count (riff_size head frames) ++ z) (tail_same head.config_record (padding (40 + length head.config_record)) (spelled (movi size) ++ (chunks_text chunks ++ []))) in
    let P : List Chunk → Type 0 = λ z. AreFrames (Closed 0 1) z frames in
    let framed : AreFrames (Closed 0 1) (chunks ++ []) frames = subst P (sym (append-nil chunks)) (frames_are (Closed 0 1) first_stands first_named frames is.sized) in
    record { riff_size = number (riff_size head frames); parts = header_of head count ∷ []; movi_size = number size; chunks = chunks; sections = []; riffs = []; before = []; stream = stream_of head count; after = []; extended = []; bytes = whole; riff_sized = refl; riff_known = known; movi_sized = refl; counted = counted; fit = frames_fit (Closed 0 1) frames is.sized; filled = filled; each = (header_is head count is.short, tt); sections_are = tt; riffs_are = tt; bounded = omega arith; streams_are = refl; others = tt; few = omega arith; says = written_stream EveryRiff EveryRiff head frames count is; extended_are = tt; framed = framed; enough = omega arith }

-- its movi is the last of it
pub written_once : (head : Head) (frames : List (List ℕ)) (is : IsWritable EveryRiff head frames) → sections_text (written_riff head frames is).sections ++ riffs_text (written_riff head frames is).riffs ≡ []
unfolding written_riff
written_once head frames is = refl
