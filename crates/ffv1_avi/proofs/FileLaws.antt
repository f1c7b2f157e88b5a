-- A whole file, of which the first movi alone is read.
use Rattle.std.proofs.Common.{◌≡◌, ℕ, ◌+◌, ◌-◌, ◌≤◌, Ok, List, ◌++◌, length, codes, flat_map, ap, ◌∙◌, sym, subst, arith, refl}
use Rattle.byteorder.specs.Endian.{little_number}
use Rattle.ffv1_avi.specs.declared.place.Extent.TheVariants.{FirstMovi}
use Rattle.ffv1_avi.specs.declared.place.Place.{Place}
use Rattle.ffv1_avi.specs.Chunks.{AviFile, chunks_text, header_chunks}
use Rattle.ffv1_avi.specs.Files.{file_read, frames_read, no_headers, open_read}
use Rattle.ffv1_reads.specs.Head.{Head}
use Rattle.ffv1_reads.specs.Reads.{given, read_on, ◌>>=◌}
use Rattle.ffv1_avi.specs.Padding.{padded}
use Rattle.ffv1_avi.proofs.MoviFrames.{frames_complete, frames_sound, in_movi}
use Rattle.ffv1_avi.proofs.HeaderLaws.{first_found, headed, run_some, run_streams}
use Rattle.ffv1_avi.proofs.OpenLaws.{first_sized, open_complete, open_sound}
use Rattle.ffv1_avi.proofs.PartLaws.{parts_text}
use Rattle.ffv1_reads.proofs.Results.{read_on_ok}
use Rattle.ffv1_reads.proofs.Results.{ok_is}
use Rattle.std.proofs.lemmas.Bool.{leb-true}

pub file_sound : (file : List ℕ) (w : (Head × List (List ℕ)) × List ℕ) → file_read FirstMovi file ≡ Ok w → AviFile file w.0.0 w.0.1
file_sound file w h =
    let first = read_on_ok (open_read FirstMovi file) (λ p. (frames_read p.1 >>= λ frames. given (p.0, frames))) w h in
    let opening = open_sound FirstMovi file first.0 first.1 in
    let top = opening.top in
    let movi = first_sized (little_number 4 opening.riff_size) (length (parts_text top.parts)) top.movi_size top.known first.0.0.1 top.movi in
    let left = little_number 4 top.movi_size - 4 in
    let second = read_on_ok (frames_read first.0.0.1 first.0.1) (λ frames. given (first.0.0.0, frames)) w first.2 in
    let placed : frames_read (in_movi left) first.0.1 ≡ Ok second.0 = ap (λ (p : Place). frames_read p first.0.1) (sym movi.place_is) ∙ second.1 in
    let read = frames_sound left first.0.1 second.0 placed in
    let found = first_found _ first.0.0.0 _ (run_streams FirstMovi (flat_map header_chunks top.parts) no_headers top.known first.0.0.0 refl top.head top.run) in
    let whole : file ≡ (codes "RIFF" ++ opening.riff_size ++ codes "AVI ") ++ (parts_text top.parts ++ ((codes "LIST" ++ top.movi_size ++ codes "movi") ++ (chunks_text read.chunks ++ second.0.1))) =
    opening.text_is ∙ ap (λ z. (codes "RIFF" ++ opening.riff_size ++ codes "AVI ") ++ z) (top.text_is ∙ ap (λ z. parts_text top.parts ++ ((codes "LIST" ++ top.movi_size ++ codes "movi") ++ z)) read.text_is) in
    let counted : little_number 4 top.movi_size ≡ 4 + length (chunks_text read.chunks) = omega (arith, read.long, movi.named) in
    let fits : 4 + length (parts_text top.parts) + (8 + padded (little_number 4 top.movi_size)) ≤ little_number 4 opening.riff_size = omega (arith, movi.counted, leb-true _ _ opening.riff_formed) in
    let here : AviFile file first.0.0.0 second.0.0 = record { riff_size = opening.riff_size; parts = top.parts; movi_size = top.movi_size; chunks = read.chunks; rest = second.0.1; stream = found.0; others = found.1; bytes = whole; riff_sized = opening.riff_sized; movi_sized = top.movi_sized; counted = counted; fits = fits; each = top.each; first = found.2; says = found.3; framed = read.framed } in
    let P : (Head × List (List ℕ)) × List ℕ → Type 0 = λ z. AviFile file z.0.0 z.0.1 in
    let pair : Head × List (List ℕ) = (first.0.0.0, second.0.0) in
    subst P (ok_is (pair, second.0.1) w second.2) here

pub file_complete : (file : List ℕ) (head : Head) (frames : List (List ℕ)) (is : AviFile file head frames) → file_read FirstMovi file ≡ Ok ((head, frames), is.rest)
file_complete file head frames is =
    let behind = chunks_text is.chunks ++ is.rest in
    let size = little_number 4 is.movi_size in
    let after = little_number 4 is.riff_size - (4 + length (parts_text is.parts) + (8 + padded size)) in
    let run = run_some (flat_map header_chunks is.parts) is.stream is.others head is.first is.says in
    let opened = open_complete FirstMovi is.riff_size is.parts is.movi_size after (headed head) head behind is.riff_sized is.movi_sized (omega (arith, is.counted)) (λ no. absurd (cc)) (omega (arith, is.fits)) is.each run refl in
    let left : size - 4 ≡ length (chunks_text is.chunks) = omega (arith, is.counted) in
    let frames_there : frames_read (in_movi (size - 4)) behind ≡ Ok (frames, is.rest) = ap (λ n. frames_read (in_movi n) behind) left ∙ frames_complete is.chunks frames is.rest is.framed in
    ap (file_read FirstMovi) is.bytes
    ∙ ap (λ z. read_on z (λ p. (frames_read p.1 >>= λ frames. given (p.0, frames)))) opened
    ∙ ap (λ z. read_on z (λ frames. given (head, frames))) frames_there

-- a file has one head and one list of frames
pub file_only : (file : List ℕ) (head other : Head) (frames others : List (List ℕ)) → AviFile file head frames → AviFile file other others → (head ≡ other) × (frames ≡ others)
file_only file head other frames others is also =
    let one : Head × List (List ℕ) = (head, frames) in
    let two : Head × List (List ℕ) = (other, others) in
    let same = ok_is (one, is.rest) (two, also.rest) (sym (file_complete file head frames is) ∙ file_complete file other others also) in
    (ap (λ (z : (Head × List (List ℕ)) × List ℕ). z.0.0) same, ap (λ (z : (Head × List (List ℕ)) × List ℕ). z.0.1) same)
