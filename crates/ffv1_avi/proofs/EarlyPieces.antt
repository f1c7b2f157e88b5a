-- What stands in an RIFF or a movi without size, cut off: elsewhere than at an edge it ends early.
use Rattle.std.proofs.Common.{false, true, ◌≡◌, ◌⊎◌, inl, inr, ℕ, ◌+◌, ◌-◌, ◌<◌, ◌==◌, Bool, Option, Some, None, Result, Ok, Err, List, [], ◌∷◌, ◌++◌, length, codes, ap, ◌∙◌, sym, arith, refl, length-append}
use Rattle.std.proofs.lemmas.Bool.{ne_eqb}
use Rattle.byteorder.specs.Endian.{little_number}
use Rattle.ffv1_reads.specs.Reads.{EndsEarly, Kept, Looked, Reading, Short, Stop, Want, given, read_on, ◌>>=◌}
use Rattle.ffv1_reads.proofs.Made.{Made, any, beginning_ends, made_given, made_local, made_then}
use Rattle.ffv1_avi.specs.declared.place.Names.{Names}
use Rattle.ffv1_avi.specs.declared.place.Open.{Open}
use Rattle.ffv1_avi.specs.declared.place.Open.TheVariants.{OpenRiff}
use Rattle.ffv1_avi.specs.declared.place.Place.{Place}
use Rattle.ffv1_avi.specs.Chunks.{Chunk, barred_in, chunk_text, chunks_text, frame_in}
use Rattle.ffv1_avi.specs.Files.{frames_read}
use Rattle.ffv1_avi.specs.Names.{opens, rule_of}
use Rattle.ffv1_avi.specs.OpenEdges.{IsPieceEdge}
use Rattle.ffv1_avi.specs.OpenFiles.{ArePieces, IsPiece, IsWithin, Piece, leads_to, piece_chunks, piece_text, pieces_chunks, pieces_text}
use Rattle.ffv1_avi.specs.Opens.{Step, open_found, open_named, or_end, rest_named}
use Rattle.ffv1_avi.specs.Padding.{content, padded}
use Rattle.ffv1_avi.specs.Places.{is_open, open_at}
use Rattle.ffv1_avi.specs.Riffs.{Section, section_text}
use Rattle.ffv1_avi.proofs.EarlyEnds.{CutFirst, CutLater, chunks_early, cut}
use Rattle.ffv1_avi.proofs.FrameLaws.{frames_after, frames_stepped}
use Rattle.ffv1_avi.proofs.LaterFrames.{Framed, frames_both, frames_in, framed_apart, movi_long, preceded}
use Rattle.ffv1_avi.proofs.OpenPieces.{after_open, found_frame, found_further, found_movi, found_other, found_passed, found_unsized, front_long, in_open, leads_open, piece_read}
use Rattle.ffv1_avi.proofs.PassedBytes.{content_complete}
use Rattle.ffv1_avi.proofs.ReadingFaults.{of_content, of_named_found}
use Rattle.ffv1_avi.proofs.TakenBytes.{enough_there, owed_short}
use Rattle.ffv1_avi.proofs.TakenChunks.{IsTaken, size_fits, taken_as, taken_even, taken_first, text_long}

-- ---- a step, with the bytes of its frame

abbrev content_of : Option Step → Reading (Unit {0})
content_of None = given tt
content_of (Some (None, next)) = given tt
content_of (Some (Some size, next)) = content Kept size >>= λ bytes. given tt

of_content_of : (s : Option Step) → Made any false (content_of s)
of_content_of None = made_given tt
of_content_of (Some (None, next)) = made_given tt
of_content_of (Some (Some size, next)) = made_then (content Kept size) (λ bytes. given tt) (of_content any false Kept size) (λ bytes. made_given tt)

-- after its first byte
abbrev from_first : Place → ℕ → Reading (Option Step)
from_first place x = rest_named (Some (x ∷ [])) >>= or_end (open_named place)

found_first : (place : Place) (x : ℕ) (text : List ℕ) → (place.input ≡ 0 → ⊥) → open_found place (x ∷ text) ≡ from_first place x text
unfolding open_found
found_first place x text some =
    let more : (place.input == 0) ≡ false = ne_eqb place.input 0 some in
    rw more (ap (λ z. read_on (read_on z rest_named) (or_end (open_named place))) (enough_there 1 place.owed (x ∷ []) text refl))

same_stop : {X Y : Type 0} (s t : Stop) → ◌≡◌ {A = Result (X × List ℕ) Stop} (Err s) (Err t) → ◌≡◌ {A = Result (Y × List ℕ) Stop} (Err s) (Err t)
same_stop s t e = let same : s ≡ t = cc (e) in ap Err same

early_stepped : (z : Result (Option Step × List ℕ) Stop) (w : Want) → read_on z content_of ≡ Err (Short w) → read_on z frames_stepped ≡ Err (Short w)
early_stepped (Err why) w e = same_stop why (Short w) e
early_stepped (Ok (None, rest)) w e = absurd (cc (e))
early_stepped (Ok (Some (None, next), rest)) w e = absurd (cc (e))
early_stepped (Ok (Some (Some size, next), rest)) w e = on_content (content Kept size rest) refl e
  where
    on_content : (c : Result (List ℕ × List ℕ) Stop) → content Kept size rest ≡ c → read_on c (λ (bytes : List ℕ). given {X = Unit {0}} (tt {0})) ≡ Err (Short w) → frames_stepped (Some (Some size, next)) rest ≡ Err (Short w)
    on_content (Ok p) is e = absurd (cc (e))
    on_content (Err why) is e = rw is (same_stop why (Short w) e)

module _ (o : Open) (input : ℕ) (names : Names) (owed : ℕ) (unknown : is_open o ≡ true) where
  abbrev place : Place
  place = in_open o input names owed

  -- it is cut off in a step that is read whole
  step_early : (text a b : List ℕ) → (input ≡ 0 → ⊥) → text ≡ a ++ b → (a ≡ [] → ⊥) → 0 < length b → (open_found place >>= content_of) (text ++ []) ≡ Ok (tt, []) → EndsEarly (frames_after place) a
  step_early text [] b some parted begun left whole = absurd (begun refl)
  step_early text (x ∷ xs) b some parted begun left whole =
      let after : Reading (Unit {0}) = from_first place x >>= content_of in
      let all : after ((xs ++ b) ++ []) ≡ Ok (tt, []) =
      ap (λ z. read_on z content_of) (sym (found_first place x ((xs ++ b) ++ []) some)) ∙ ap (λ z. (open_found place >>= content_of) (z ++ [])) (sym parted) ∙ whole in
      let made : Made any false after = made_then (from_first place x) content_of (of_named_found any false refl refl refl refl refl place (x ∷ [])) of_content_of in
      let stop = beginning_ends after (made_local made) ((xs ++ b) ++ []) tt [] xs b all refl left in
      (stop.0, after_open o input names owed (x ∷ xs) unknown ∙ ap (λ z. read_on z frames_stepped) (found_first place x xs some) ∙ early_stepped (from_first place x xs) stop.0 stop.1)

  -- a chunk of movi
  beside_whole : (c : Chunk) → IsPiece names input o (Piece.Beside c) → Framed names (c ∷ []) → length (chunk_text c) < input → (open_found place >>= content_of) (chunk_text c ++ []) ≡ Ok (tt, [])
  beside_whole c is framed short = on_names (barred_in names c) (frame_in names c) refl refl
    where
      taken : IsTaken (opens names) c
      taken = (taken_first (opens names) c [] is.0).0

      on_names : (a b : Bool) → barred_in names c ≡ a → frame_in names c ≡ b → (open_found place >>= content_of) (chunk_text c ++ []) ≡ Ok (tt, [])
      on_names true b p q = let gone : c ∷ [] ≡ [] = rw p at framed.none_barred in absurd (cc)
      on_names false false p q = ap (λ z. read_on z content_of) (found_passed place c [] taken p q is.1 is.2 is.3 short)
      on_names false true p q =
          let sizes = rw q at framed.sized in
          let chunk = taken_as (rule_of names) c taken in
          ap (λ z. read_on z content_of) (found_frame place c [] taken p q sizes.1 sizes.0 is.1 is.2 is.3 short)
          ∙ ap (λ z. read_on z (λ bytes. given tt)) (content_complete Kept (length c.bytes) c.bytes c.padding [] refl chunk.odd)

  -- a movi of a known size
  movi_early : (size : List ℕ) (cs : List Chunk) → IsWithin names input o (Section.Movi size cs) → Framed names cs → (a b : List ℕ) → section_text (Section.Movi size cs) ≡ a ++ b → (a ≡ [] → ⊥) → 0 < length b → EndsEarly (frames_after place) a
  movi_early size cs is framed a b parted begun left = on_cut (cut front (chunks_text cs) a b parted)
    where
      n : ℕ
      n = little_number 4 size

      front : List ℕ
      front = codes "LIST" ++ size ++ codes "movi"

      room : n - 4 ≡ length (chunks_text cs)
      room = omega (arith, is.0.1)

      found : (rest : List ℕ) → open_found place (front ++ rest) ≡ Ok (Some (None, open_at place OpenRiff (input - (8 + padded n)) (n - 4)), rest)
      found rest = found_movi place size rest is.0.0 is.1 is.2 (omega (arith, is.0.1)) is.3

      on_cut : CutFirst front (chunks_text cs) a b ⊎ CutLater front (chunks_text cs) a b → EndsEarly (frames_after place) a
      on_cut (inl k) = step_early front a k.left (λ z. omega (arith, z, is.3)) k.first begun k.some (ap (λ z. read_on z content_of) (found []))
      on_cut (inr k) =
          let stop = chunks_early (in_open OpenRiff (input - (8 + padded n)) names owed) cs owed framed is.0.2 k.later b k.parted left in (
            stop.0,
            ap (frames_after place) k.whole
                ∙ after_open o input names owed (front ++ k.later) unknown
                ∙ ap (λ z. read_on z frames_stepped) (found k.later)
                ∙ ap (λ m. frames_read (open_at place OpenRiff (input - (8 + padded n)) m) k.later) room
                ∙ stop.1,
          )

-- a piece has fewer bytes than are read at most
piece_shorter : (names : Names) (input : ℕ) (o : Open) (p : Piece) → IsPiece names input o p → Framed names (piece_chunks p) → length (piece_text p) < input
piece_shorter names input o (Piece.Further size) is framed = omega (arith, is.1, front_long (codes "RIFF") size (codes "AVIX") refl is.0 refl)
piece_shorter names input o (Piece.Unsized size) is framed = omega (arith, is.3, front_long (codes "LIST") size (codes "movi") refl is.0 refl)
piece_shorter names input o (Piece.Beside c) is framed =
    let chunk = taken_as (rule_of names) c (taken_first (opens names) c [] is.0).0 in
    let fits = size_fits (rule_of names) c.name (little_number 4 c.size) chunk.room in
    omega (arith, chunk.long, ap padded chunk.size, fits, is.3)
piece_shorter names input o (Piece.Within (Section.Movi size cs)) is framed =
    let even = taken_even (opens names) cs framed.each in
    omega (arith, is.0.1, even, movi_long size cs is.0.0, is.3)
piece_shorter names input o (Piece.Within (Section.Other c)) is framed =
    let one = is.0.0 in
    omega (arith, text_long c one.named one.sized one.padded, ap padded one.counted, is.4)

piece_early : (o : Open) (input : ℕ) (names : Names) (owed : ℕ) (p : Piece) → is_open o ≡ true → IsPiece names input o p → Framed names (piece_chunks p) → (a b : List ℕ) → piece_text p ≡ a ++ b → (a ≡ [] → ⊥) → 0 < length b → EndsEarly (frames_after (in_open o input names owed)) a
piece_early o input names owed (Piece.Further size) unknown is framed a b parted begun left =
    step_early o input names owed unknown (codes "RIFF" ++ size ++ codes "AVIX") a b (λ z. omega (arith, z, is.1)) parted begun left (ap (λ z. read_on z content_of) (found_further (in_open o input names owed) size [] is.0 is.1))
piece_early o input names owed (Piece.Unsized size) unknown is framed a b parted begun left =
    step_early o input names owed unknown (codes "LIST" ++ size ++ codes "movi") a b (λ z. omega (arith, z, is.3)) parted begun left (ap (λ z. read_on z content_of) (found_unsized (in_open o input names owed) size [] is.0 is.1 is.2 is.3))
piece_early o input names owed (Piece.Beside c) unknown is framed a b parted begun left =
    let short = piece_shorter names input o (Piece.Beside c) is framed in
    step_early o input names owed unknown (chunk_text c) a b (λ z. omega (arith, z, short)) parted begun left (beside_whole o input names owed unknown c is framed short)
piece_early o input names owed (Piece.Within (Section.Movi size cs)) unknown is framed a b parted begun left = movi_early o input names owed unknown size cs is framed a b parted begun left
piece_early o input names owed (Piece.Within (Section.Other c)) unknown is framed a b parted begun left =
    step_early o input names owed unknown (chunk_text c) a b (λ z. omega (arith, z, is.4)) parted begun left (ap (λ z. read_on z content_of) (found_other (in_open o input names owed) c [] is.0.0 is.0.1 is.0.2 is.1 is.2 is.3 is.4))

-- pieces are cut off, elsewhere than at the edge of one
pub pieces_early : (pieces : List Piece) (o : Open) (input : ℕ) (names : Names) (owed : ℕ) → is_open o ≡ true → ArePieces names input o pieces → Framed names (pieces_chunks pieces) → (a b : List ℕ) → pieces_text pieces ≡ a ++ b → (IsPieceEdge pieces b → ⊥) → EndsEarly (frames_after (in_open o input names owed)) a
pieces_early [] o input names owed unknown are framed [] b parted inside = absurd (inside ([], [], refl, sym parted))
pieces_early [] o input names owed unknown are framed (x ∷ xs) b parted inside = absurd (cc)
pieces_early (p ∷ ps) o input names owed unknown are framed a b parted inside =
    on_cut (cut (piece_text p) (pieces_text ps) a b parted) (λ i k d e n. pieces_early ps (leads_to p) i names k (leads_open p) e apart.1 d b n)
  where
    apart : Framed names (piece_chunks p) × Framed names (pieces_chunks ps)
    apart = framed_apart names (piece_chunks p) (pieces_chunks ps) framed

    Again : Type 0
    Again = (i k : ℕ) (d : List ℕ) → ArePieces names i (leads_to p) ps → pieces_text ps ≡ d ++ b → (IsPieceEdge ps b → ⊥) → EndsEarly (frames_after (in_open (leads_to p) i names k)) d

    on_cut : CutFirst (piece_text p) (pieces_text ps) a b ⊎ CutLater (piece_text p) (pieces_text ps) a b → Again → EndsEarly (frames_after (in_open o input names owed)) a
    on_cut (inl k) again =
        let begun : a ≡ [] → ⊥ = λ none. inside ([], p ∷ ps, refl, k.more ∙ ap (λ z. z ++ pieces_text ps) (sym (k.first ∙ ap (λ z. z ++ k.left) none))) in
        piece_early o input names owed p unknown are.0 apart.0 a k.left k.first begun k.some
    on_cut (inr k) again =
        let fs = frames_in names (piece_chunks p) in
        let outside : IsPieceEdge ps b → ⊥ = λ e. inside (p ∷ e.0, e.1, ap (λ z. p ∷ z) e.2, e.3) in
        let stop = again (input - length (piece_text p)) (owed - length fs) k.later are.1 k.parted outside in
        (stop.0, ap (frames_after (in_open o input names owed)) k.whole ∙ piece_read o input names owed p k.later unknown are.0 apart.0 ∙ ap (preceded fs) stop.1)

-- if frames are owed at the end
end_owed : (place : Place) → (place.input ≡ 0 → ⊥) → 0 < place.owed → open_found place [] ≡ Err (Short Looked)
unfolding open_found
end_owed place some owes =
    let more : (place.input == 0) ≡ false = ne_eqb place.input 0 some in
    rw more (ap (λ z. read_on (read_on z rest_named) (or_end (open_named place))) (owed_short 1 place.owed [] owes (omega arith)))

pub pieces_owed : (pieces : List Piece) (o : Open) (input : ℕ) (names : Names) (owed : ℕ) → is_open o ≡ true → (input ≡ 0 → ⊥) → ArePieces names input o pieces → Framed names (pieces_chunks pieces) → length (frames_in names (pieces_chunks pieces)) < owed → EndsEarly (frames_after (in_open o input names owed)) (pieces_text pieces)
pieces_owed [] o input names owed unknown some are framed fewer =
    (Looked, after_open o input names owed [] unknown ∙ ap (λ z. read_on z frames_stepped) (end_owed (in_open o input names owed) some (omega (arith, fewer))))
pieces_owed (p ∷ ps) o input names owed unknown some are framed fewer =
    let apart = framed_apart names (piece_chunks p) (pieces_chunks ps) framed in
    let fs = frames_in names (piece_chunks p) in
    let gs = frames_in names (pieces_chunks ps) in
    let both : frames_in names (pieces_chunks (p ∷ ps)) ≡ fs ++ gs = frames_both names (piece_chunks p) (pieces_chunks ps) in
    let short = piece_shorter names input o p are.0 apart.0 in
    let stop = pieces_owed ps (leads_to p) (input - length (piece_text p)) names (owed - length fs) (leads_open p) (λ z. omega (arith, z, short)) are.1 apart.1 (omega (arith, fewer, ap length both, length-append fs gs)) in
    (stop.0, piece_read o input names owed p (pieces_text ps) unknown are.0 apart.0 ∙ ap (preceded fs) stop.1)
