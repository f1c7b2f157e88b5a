-- A file of which an RIFF, or the first movi, has no size, by its chunks, is read.
use Rattle.std.proofs.Common.{◌≡◌, inl, inr, ℕ, ◌+◌, ◌-◌, ◌≤◌, Some, None, Result, Ok, List, [], ◌∷◌, ◌++◌, length, codes, flat_map, ap, ◌∙◌, sym, subst, arith, refl, append_assoc, length-append, min, zero-add}
use Rattle.byteorder.specs.Endian.{little_number}
use Rattle.ffv1_avi.specs.declared.place.Extent.TheVariants.{EveryRiff}
use Rattle.ffv1_avi.specs.declared.place.Names.{Names}
use Rattle.ffv1_avi.specs.declared.place.Names.TheVariants.{Closed}
use Rattle.ffv1_avi.specs.declared.place.Open.TheVariants.{Sized, OpenRiff, OpenMovi}
use Rattle.ffv1_avi.specs.declared.place.Place.{Place}
use Rattle.ffv1_avi.specs.Chunks.{Chunk, chunks_text, first_of, header_chunks, streams, those}
use Rattle.ffv1_avi.specs.Files.{Headers, file_read, frames_read, no_headers, open_read, owed, place_in, room_in}
use Rattle.ffv1_avi.specs.Names.{opens}
use Rattle.ffv1_avi.specs.OpenFiles.{ArePieces, BeginsOpen, OpenFile, Opens, OpensBehind, OpensMovi, OpensRiff, Piece, piece_text, pieces_chunks, pieces_text, Sizes, sizes_of}
use Rattle.ffv1_avi.specs.Places.{first_open, first_place, most_input, unsized}
use Rattle.ffv1_avi.specs.Riffs.{Riff, Section, is_total, movis, names_of, riff_movis, riffs_text, sections_text, total}
use Rattle.ffv1_reads.specs.Head.{Head}
use Rattle.ffv1_reads.specs.Reads.{Stop, given, read_on, ◌>>=◌}
use Rattle.ffv1_reads.proofs.Results.{ok_is}
use Rattle.ffv1_avi.specs.Behind.{RiffFileThen}
use Rattle.ffv1_avi.proofs.BegunRiffs.{open_there}
use Rattle.ffv1_avi.proofs.EveryRiffLaws.{every_then, framed_own, place_read}
use Rattle.ffv1_avi.proofs.FrameLaws.{frames_after, frames_none, frames_on, placed}
use Rattle.ffv1_avi.proofs.MoviFrames.{movi_frames}
use Rattle.ffv1_avi.proofs.HeaderRuns.{Counts, Heads, counts_found, heads}
use Rattle.ffv1_avi.proofs.LaterFrames.{Framed, frames_behind, frames_both, frames_in, framed_apart, in_riff, preceded}
use Rattle.ffv1_avi.proofs.Moves.{movi_empty}
use Rattle.ffv1_avi.proofs.OpenLaws.{open_complete, open_headed, open_stays, top_read_complete, top_read_open}
use Rattle.ffv1_avi.proofs.OpenPieces.{in_open, pieces_read}
use Rattle.ffv1_avi.proofs.PartLaws.{parts_text}
use Rattle.ffv1_avi.proofs.StreamCounts.{run_counted}
use Rattle.ffv1_avi.proofs.TakenChunks.{taken_even}
use Rattle.ffv1_avi.proofs.WholeLaws.{all_of, owed_total}

pub no_text : (cs : List Chunk) (ss : List Section) (rs : List Riff) (rest : List ℕ) → cs ≡ [] → ss ≡ [] → rs ≡ [] → chunks_text cs ++ (sections_text ss ++ (riffs_text rs ++ rest)) ≡ rest
no_text cs ss rs rest a b c = rw (a, b, c) refl

pub no_chunks : (cs : List Chunk) (ss : List Section) (rs : List Riff) (rest : List Chunk) → cs ≡ [] → ss ≡ [] → rs ≡ [] → cs ++ (movis ss ++ (riff_movis rs ++ rest)) ≡ rest
no_chunks cs ss rs rest a b c = rw (a, b, c) refl

pub no_text_behind : (ss : List Section) (rs : List Riff) (rest : List ℕ) → ss ≡ [] → rs ≡ [] → sections_text ss ++ (riffs_text rs ++ rest) ≡ rest
no_text_behind ss rs rest b c = rw (b, c) refl

pub no_chunks_behind : (ss : List Section) (rs : List Riff) (rest : List Chunk) → ss ≡ [] → rs ≡ [] → movis ss ++ (riff_movis rs ++ rest) ≡ rest
no_chunks_behind ss rs rest b c = rw (b, c) refl

-- the frames of an RIFF without size, and of what comes after it
behind_open : (pieces : List Piece) (input : ℕ) (names : Names) (owed : ℕ) → BeginsOpen pieces → ArePieces names input Sized pieces → Framed names (pieces_chunks pieces) → owed ≤ length (frames_in names (pieces_chunks pieces)) →
    frames_behind (in_riff input names 0 owed) (pieces_text pieces) ≡ Ok (frames_in names (pieces_chunks pieces), [])
behind_open [] input names owed begins are framed enough = absurd begins
behind_open (Piece.Unsized size ∷ ps) input names owed begins are framed enough = absurd begins
behind_open (Piece.Beside c ∷ ps) input names owed begins are framed enough = absurd begins
behind_open (Piece.Within s ∷ ps) input names owed begins are framed enough = absurd begins
behind_open (Piece.Further size ∷ ps) input names owed begins are framed enough =
    let text = pieces_text ps in
    let long : 12 ≡ length (piece_text (Piece.Further size)) = omega (arith, are.0.0, spelled, length-append (codes "RIFF" ++ size) (codes "AVIX"), length-append (codes "RIFF") size) in
    ap (λ z. read_on z frames_on) (open_there (in_riff input names 0 owed) size text are.0.0 begins are.0.1)
    ∙ frames_none (in_open OpenRiff (input - 12) names owed) text text (movi_empty names text)
    ∙ ap (λ k. frames_after (in_open OpenRiff (input - k) names owed) text) long
    ∙ pieces_read ps OpenRiff (input - length (piece_text (Piece.Further size))) names owed refl are.1 framed enough
  where
    spelled : (length (codes "RIFF") ≡ 4) × (length (codes "AVIX") ≡ 4)
    spelled = (refl, refl)

-- what is known of its streams
abbrev pub heads_of : {file : List ℕ} {head : Head} {frames : List (List ℕ)} (is : OpenFile file head frames) → Heads no_headers (flat_map header_chunks is.parts) is.extended (Some head) (length is.before)
heads_of {head = head} is =
    let P : ℕ → Type 0 = λ n. Counts None 0 (streams is.parts) (Some head) n in
    let same : 0 + length is.before ≡ length is.before = omega arith in
    heads (flat_map header_chunks is.parts) no_headers is.extended (Some head) (length is.before) (subst P same (counts_found 0 (streams is.parts) is.before is.stream is.after head is.streams_are is.others is.says (omega (arith, is.few)))) is.extended_are

module _ (file : List ℕ) (head : Head) (frames : List (List ℕ)) (is : OpenFile file head frames) where
  abbrev pub names : Names
  names = names_of is.before (streams is.parts)

  abbrev pub owes : ℕ
  owes = total is.extended

  abbrev pub said : ℕ
  said = little_number 4 is.riff_size

  abbrev pub size : ℕ
  size = little_number 4 is.movi_size

  abbrev pub sizes : Sizes
  sizes = sizes_of is.riff_size (length (parts_text is.parts)) is.movi_size

  abbrev pub known : Headers
  known = (heads_of is).known

  abbrev pub front : List ℕ
  front = codes "RIFF" ++ is.riff_size ++ codes "AVI "

  abbrev pub movi : List ℕ
  movi = codes "LIST" ++ is.movi_size ++ codes "movi"

  abbrev pub mid : List ℕ
  mid = chunks_text is.chunks ++ (sections_text is.sections ++ (riffs_text is.riffs ++ pieces_text is.pieces))

  abbrev all : List Chunk
  all = is.chunks ++ (movis is.sections ++ (riff_movis is.riffs ++ pieces_chunks is.pieces))

  framed : Framed names all
  framed = framed_own names all frames is.framed

  total_is : owed known.frames ≡ owes
  total_is = ap owed (heads_of is).frames_are ∙ owed_total (first_of (those is_total (all_of is.extended)))

  names_are : Closed known.passed known.streams ≡ names
  names_are =
      let counted = run_counted (flat_map header_chunks is.parts) no_headers known (omega arith) (heads_of is).run in
      ap (λ n. Closed n known.streams) (heads_of is).number ∙ ap (Closed (length is.before)) (counted ∙ ap (λ n. min n 100) (zero-add (length (streams is.parts))))

  abbrev Whole : Type 0
  Whole = file_read EveryRiff (front ++ (parts_text is.parts ++ (movi ++ mid))) ≡ Ok ((head, frames), [])

  -- it is read from where its first movi stands
  whole : (place : Place) → open_read EveryRiff (front ++ (parts_text is.parts ++ (movi ++ mid))) ≡ Ok ((head, place), mid) → frames_read place mid ≡ Ok (frames, []) → Whole
  whole place opened read =
      ap (λ z. read_on z (λ p. (frames_read p.1 >>= λ frames. given (p.0, frames)))) opened
      ∙ ap (λ z. read_on z (λ frames. given (head, frames))) read

  -- what is known there
  named_so : (made : Names → ℕ → Place) (rest : List ℕ) → ◌≡◌ {A = Result ((Head × Place) × List ℕ) Stop} (Ok ((head, made (Closed known.passed known.streams) (owed known.frames)), rest)) (Ok ((head, made names owes), rest))
  named_so made rest =
      ap (λ (z : Names). Ok ((head, made z (owed known.frames)), rest)) names_are
      ∙ ap (λ (n : ℕ). Ok ((head, made names n), rest)) total_is

  abbrev pub Opening : Place → List ℕ → Type 0
  Opening place rest = open_read EveryRiff (front ++ (parts_text is.parts ++ (movi ++ rest))) ≡ Ok ((head, place), rest)

  -- a first movi without size
  pub movi_opened : OpensMovi names sizes is.chunks is.sections is.riffs is.pieces → (rest : List ℕ) → Opening (first_open names owes) rest
  movi_opened o rest =
      open_headed EveryRiff is.riff_size (parts_text is.parts ++ (movi ++ rest)) is.riff_sized o.formed
      ∙ top_read_open said is.parts is.movi_size known head rest is.movi_sized o.unknown o.room o.bare is.each (heads_of is).run (heads_of is).head_is
      ∙ ap (λ p. Ok ((head, p), rest)) (open_stays said (first_open (Closed known.passed known.streams) (owed known.frames)) refl)
      ∙ named_so (λ n k. first_open n k) rest

  pub movi_framed : OpensMovi names sizes is.chunks is.sections is.riffs is.pieces → Framed names (pieces_chunks is.pieces)
  movi_framed o =
      let P : List Chunk → Type 0 = λ z. Framed names z in
      subst P (no_chunks is.chunks is.sections is.riffs (pieces_chunks is.pieces) o.no_chunks o.no_sections o.no_riffs) framed

  pub movi_text : OpensMovi names sizes is.chunks is.sections is.riffs is.pieces → mid ≡ pieces_text is.pieces
  movi_text o = no_text is.chunks is.sections is.riffs (pieces_text is.pieces) o.no_chunks o.no_sections o.no_riffs

  movi_whole : OpensMovi names sizes is.chunks is.sections is.riffs is.pieces → Whole
  movi_whole o =
      let chunks : all ≡ pieces_chunks is.pieces = no_chunks is.chunks is.sections is.riffs (pieces_chunks is.pieces) o.no_chunks o.no_sections o.no_riffs in
      let same : frames_in names (pieces_chunks is.pieces) ≡ frames = ap (frames_in names) (sym chunks) ∙ is.framed.those_of in
      whole (first_open names owes) (movi_opened o mid)
      (ap (frames_read (first_open names owes)) (movi_text o)
      ∙ frames_none (first_open names owes) (pieces_text is.pieces) (pieces_text is.pieces) (movi_empty names (pieces_text is.pieces))
      ∙ pieces_read is.pieces OpenMovi most_input names owes refl o.are (movi_framed o) (omega (arith, is.enough, ap length same))
      ∙ ap (λ z. Ok (z, [])) same)

  -- a first RIFF without size
  pub riff_framed : OpensRiff names sizes is.chunks is.sections is.riffs is.pieces → Framed names is.chunks × Framed names (pieces_chunks is.pieces)
  riff_framed o =
      let P : List Chunk → Type 0 = λ z. Framed names z in
      let chunks : all ≡ is.chunks ++ pieces_chunks is.pieces = ap (λ z. is.chunks ++ z) (no_chunks_behind is.sections is.riffs (pieces_chunks is.pieces) o.no_sections o.no_riffs) in
      framed_apart names is.chunks (pieces_chunks is.pieces) (subst P chunks framed)

  pub riff_text : OpensRiff names sizes is.chunks is.sections is.riffs is.pieces → mid ≡ chunks_text is.chunks ++ pieces_text is.pieces
  riff_text o = ap (λ z. chunks_text is.chunks ++ z) (no_text_behind is.sections is.riffs (pieces_text is.pieces) o.no_sections o.no_riffs)

  pub riff_opened : OpensRiff names sizes is.chunks is.sections is.riffs is.pieces → (rest : List ℕ) → Opening (placed (in_open OpenRiff most_input names owes) (length (chunks_text is.chunks)) owes) rest
  riff_opened o rest =
      let even = taken_even (opens names) is.chunks (riff_framed o).0.each in
      let left = room_in EveryRiff said - (length (parts_text is.parts) + (8 + size)) in
      let made : Names → ℕ → Place = λ n k. unsized Sized (first_place EveryRiff left (size - 4) n k) in
      let stays : place_in EveryRiff said (first_place EveryRiff left (size - 4) (Closed known.passed known.streams) (owed known.frames)) ≡ made (Closed known.passed known.streams) (owed known.frames) = rw o.unknown refl in
      let room : size - 4 ≡ length (chunks_text is.chunks) = omega (arith, o.counted) in
      open_headed EveryRiff is.riff_size (parts_text is.parts ++ (movi ++ rest)) is.riff_sized o.formed
      ∙ top_read_complete EveryRiff said is.parts is.movi_size left known head rest is.movi_sized (omega (arith, o.counted)) (omega (arith, o.room, o.counted, even)) is.each (heads_of is).run (heads_of is).head_is
      ∙ ap (λ p. Ok ((head, p), rest)) stays
      ∙ named_so made rest
      ∙ ap (λ n. Ok ((head, placed (in_open OpenRiff most_input names owes) n owes), rest)) room

  riff_whole : OpensRiff names sizes is.chunks is.sections is.riffs is.pieces → Whole
  riff_whole o =
      let chunks : all ≡ is.chunks ++ pieces_chunks is.pieces = ap (λ z. is.chunks ++ z) (no_chunks_behind is.sections is.riffs (pieces_chunks is.pieces) o.no_sections o.no_riffs) in
      let apart = riff_framed o in
      let fs = frames_in names is.chunks in
      let gs = frames_in names (pieces_chunks is.pieces) in
      let same : fs ++ gs ≡ frames = sym (frames_both names is.chunks (pieces_chunks is.pieces)) ∙ ap (frames_in names) (sym chunks) ∙ is.framed.those_of in
      let place = in_open OpenRiff most_input names owes in
      let here = placed place (length (chunks_text is.chunks)) owes in
      whole here (riff_opened o mid)
      (ap (frames_read here) (riff_text o)
      ∙ movi_frames place is.chunks owes (pieces_text is.pieces) apart.0.each o.fit apart.0.none_barred apart.0.sized
      ∙ ap (preceded fs) (pieces_read is.pieces OpenRiff most_input names (owes - length fs) refl o.are apart.1 (omega (arith, is.enough, ap length same, length-append fs gs)))
      ∙ ap (λ z. Ok (z, [])) same)

  -- a later one
  abbrev pub sized : List Chunk
  sized = is.chunks ++ (movis is.sections ++ riff_movis is.riffs)

  sized_first : all ≡ sized ++ pieces_chunks is.pieces
  sized_first = in_a_row is.chunks (movis is.sections) (riff_movis is.riffs) (pieces_chunks is.pieces)
    where
      in_a_row : (a b c d : List Chunk) → a ++ (b ++ (c ++ d)) ≡ (a ++ (b ++ c)) ++ d
      in_a_row a b c d = simp append_assoc

  pub behind_framed : Framed names sized × Framed names (pieces_chunks is.pieces)
  behind_framed = let P : List Chunk → Type 0 = λ z. Framed names z in framed_apart names sized (pieces_chunks is.pieces) (subst P sized_first framed)

  pub behind_opened : OpensBehind names sizes is.chunks is.sections is.riffs is.pieces → (rest : List ℕ) → Opening (placed (in_riff most_input names (length (sections_text is.sections)) 0) (length (chunks_text is.chunks)) owes) rest
  behind_opened o rest =
      let own = (framed_apart names is.chunks (movis is.sections ++ riff_movis is.riffs) behind_framed.0).0 in
      let even = taken_even (opens names) is.chunks own.each in
      let left = length (sections_text is.sections) in
      let room : size - 4 ≡ length (chunks_text is.chunks) = omega (arith, o.counted) in
      open_complete EveryRiff is.riff_size is.parts is.movi_size left known head rest is.riff_sized is.movi_sized (omega (arith, o.counted)) (λ e. o.known) (omega (arith, o.filled, o.counted, even)) is.each (heads_of is).run (heads_of is).head_is
      ∙ named_so (λ n k. first_place EveryRiff left (size - 4) n k) rest
      ∙ ap (λ n. Ok ((head, placed (in_riff most_input names left 0) n owes), rest)) room

  behind_whole : OpensBehind names sizes is.chunks is.sections is.riffs is.pieces → Whole
  behind_whole o =
      let apart = behind_framed in
      let fs = frames_in names sized in
      let gs = frames_in names (pieces_chunks is.pieces) in
      let same : fs ++ gs ≡ frames = sym (frames_both names sized (pieces_chunks is.pieces)) ∙ ap (frames_in names) (sym sized_first) ∙ is.framed.those_of in
      let more = most_input - length (riffs_text is.riffs) in
      whole (placed (in_riff most_input names (length (sections_text is.sections)) 0) (length (chunks_text is.chunks)) owes) (behind_opened o mid)
      (place_read most_input names owes is.chunks is.sections is.riffs (pieces_text is.pieces) o.sections_are o.riffs_are o.bounded o.fit apart.0
      ∙ ap (preceded fs) (behind_open is.pieces more names (owes - length fs) o.begins o.are apart.1 (omega (arith, is.enough, ap length same, length-append fs gs)))
      ∙ ap (λ z. Ok (z, [])) same)

  any_whole : Opens names sizes is.chunks is.sections is.riffs is.pieces → Whole
  any_whole (inl o) = movi_whole o
  any_whole (inr (inl o)) = riff_whole o
  any_whole (inr (inr o)) = behind_whole o

  -- so a file with a size that is not known is read whole
  pub open_file_read : file_read EveryRiff file ≡ Ok ((head, frames), [])
  open_file_read = ap (file_read EveryRiff) is.bytes ∙ any_whole is.opens_so

-- as one head and one list of frames
pub open_file_only : (file : List ℕ) (head other : Head) (frames others : List (List ℕ)) → OpenFile file head frames → OpenFile file other others → (head ≡ other) × (frames ≡ others)
open_file_only file head other frames others is also =
    let one : Head × List (List ℕ) = (head, frames) in
    let two : Head × List (List ℕ) = (other, others) in
    let same = ok_is (one, []) (two, []) (sym (open_file_read file head frames is) ∙ open_file_read file other others also) in
    (ap (λ (z : (Head × List (List ℕ)) × List ℕ). z.0.0) same, ap (λ (z : (Head × List (List ℕ)) × List ℕ). z.0.1) same)

pub open_file_sized : (file : List ℕ) (head other : Head) (frames others : List (List ℕ)) (rest : List ℕ) → OpenFile file head frames → RiffFileThen file other others rest → (head ≡ other) × (frames ≡ others) × (rest ≡ [])
open_file_sized file head other frames others rest is also =
    let one : Head × List (List ℕ) = (head, frames) in
    let two : Head × List (List ℕ) = (other, others) in
    let same = ok_is (one, []) (two, rest) (sym (open_file_read file head frames is) ∙ every_then file other others rest also) in
    (ap (λ (z : (Head × List (List ℕ)) × List ℕ). z.0.0) same, ap (λ (z : (Head × List (List ℕ)) × List ℕ). z.0.1) same, sym (ap (λ (z : (Head × List (List ℕ)) × List ℕ). z.1) same))
