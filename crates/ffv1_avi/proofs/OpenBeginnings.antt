-- Beginnings of a file of which an RIFF, or the first movi, has no size.
use Rattle.std.proofs.Common.{false, ◌≡◌, ◌⊎◌, inl, inr, ℕ, ◌-◌, ◌<◌, Ok, List, [], ◌∷◌, ◌++◌, length, codes, ap, ◌∙◌, sym, subst, arith, refl, append_assoc, append-nil, length-append}
use Rattle.ffv1_reads.specs.Head.{Head}
use Rattle.ffv1_reads.specs.Reads.{EndsEarly, given, read_on, ◌>>=◌}
use Rattle.ffv1_reads.proofs.Made.{any, beginning_ends, made_local}
use Rattle.ffv1_avi.specs.declared.place.Extent.TheVariants.{EveryRiff}
use Rattle.ffv1_avi.specs.declared.place.Names.{Names}
use Rattle.ffv1_avi.specs.declared.place.Open.TheVariants.{Sized, OpenRiff, OpenMovi}
use Rattle.ffv1_avi.specs.declared.place.Place.{Place}
use Rattle.ffv1_avi.specs.Begun.{parts_text}
use Rattle.ffv1_avi.specs.Chunks.{Chunk, chunks_text}
use Rattle.ffv1_avi.specs.Edges.{IsNearEdge}
use Rattle.ffv1_avi.specs.Files.{file_read, frames_read, open_read}
use Rattle.ffv1_avi.specs.OpenEdges.{IsFurther, IsNearOpen, IsPieceEdge}
use Rattle.ffv1_avi.specs.OpenFiles.{ArePieces, BeginsOpen, OpenFile, Opens, OpensBehind, OpensMovi, OpensRiff, Piece, piece_text, pieces_chunks, pieces_text}
use Rattle.ffv1_avi.specs.Places.{first_open, most_input}
use Rattle.ffv1_avi.specs.Riffs.{movis, riff_movis, riffs_text, sections_text}
use Rattle.ffv1_avi.proofs.BegunRiffs.{open_there}
use Rattle.ffv1_avi.proofs.EarlyEnds.{CutFirst, CutLater, chunks_early, cut}
use Rattle.ffv1_avi.proofs.EarlyPieces.{pieces_early}
use Rattle.ffv1_avi.proofs.EarlyRiffs.{riffs_early, sections_early}
use Rattle.ffv1_avi.proofs.EveryRiffLaws.{place_read}
use Rattle.ffv1_avi.proofs.FrameLaws.{frames_after, frames_none, frames_on, placed}
use Rattle.ffv1_avi.proofs.LaterFrames.{Framed, frames_behind, frames_in, framed_apart, in_riff, preceded}
use Rattle.ffv1_avi.proofs.MoviFrames.{movi_frames}
use Rattle.ffv1_avi.proofs.Moves.{movi_empty}
use Rattle.ffv1_avi.proofs.OpenFileLaws.{Opening, behind_framed, behind_opened, front, mid, movi, movi_framed, movi_opened, movi_text, names, owes, riff_framed, riff_opened, riff_text, sized, sizes}
use Rattle.ffv1_avi.proofs.OpenPieces.{front_long, in_open}
use Rattle.ffv1_avi.proofs.ReadingFaults.{of_open}

-- a further RIFF without size is cut off behind its first twelve bytes
behind_early : (pieces : List Piece) (input : ℕ) (n : Names) (owed : ℕ) → BeginsOpen pieces → ArePieces n input Sized pieces → Framed n (pieces_chunks pieces) → (a b : List ℕ) → pieces_text pieces ≡ a ++ b → (length a < 12 → ⊥) → (IsPieceEdge pieces b → ⊥) → EndsEarly (frames_behind (in_riff input n 0 owed)) a
behind_early [] input n owed begins are framed a b parted deep inside = absurd begins
behind_early (Piece.Unsized size ∷ ps) input n owed begins are framed a b parted deep inside = absurd begins
behind_early (Piece.Beside c ∷ ps) input n owed begins are framed a b parted deep inside = absurd begins
behind_early (Piece.Within s ∷ ps) input n owed begins are framed a b parted deep inside = absurd begins
behind_early (Piece.Further size ∷ ps) input n owed begins are framed a b parted deep inside = on_cut (cut (piece_text (Piece.Further size)) (pieces_text ps) a b parted)
  where
    twelve : length (piece_text (Piece.Further size)) ≡ 12
    twelve = front_long (codes "RIFF") size (codes "AVIX") refl are.0.0 refl

    on_cut : CutFirst (piece_text (Piece.Further size)) (pieces_text ps) a b ⊎ CutLater (piece_text (Piece.Further size)) (pieces_text ps) a b → EndsEarly (frames_behind (in_riff input n 0 owed)) a
    on_cut (inl k) = absurd (deep (omega (arith, twelve, ap length k.first, length-append a k.left, k.some)))
    on_cut (inr k) =
        let outside : IsPieceEdge ps b → ⊥ = λ e. inside (Piece.Further size ∷ e.0, e.1, ap (λ z. Piece.Further size ∷ z) e.2, e.3) in
        let stop = pieces_early ps OpenRiff (input - length (piece_text (Piece.Further size))) n owed refl are.1 framed k.later b k.parted outside in (
          stop.0,
          ap (frames_behind (in_riff input n 0 owed)) k.whole
              ∙ ap (λ z. read_on z frames_on) (open_there (in_riff input n 0 owed) size k.later are.0.0 begins are.0.1)
              ∙ frames_none (in_open OpenRiff (input - 12) n owed) k.later k.later (movi_empty n k.later)
              ∙ ap (λ m. frames_after (in_open OpenRiff (input - m) n owed) k.later) (sym twelve)
              ∙ stop.1,
        )

module _ (file : List ℕ) (head : Head) (frames : List (List ℕ)) (is : OpenFile file head frames) (beginning more : List ℕ) (parted : file ≡ beginning ++ more) (left : 0 < length more) where
  abbrev Early : Type 0
  Early = EndsEarly (file_read EveryRiff) beginning

  abbrev before_movi : List ℕ
  before_movi = front file head frames is ++ (parts_text is.parts ++ movi file head frames is)

  in_a_row : (a b c d : List ℕ) → a ++ (b ++ (c ++ d)) ≡ (a ++ (b ++ c)) ++ d
  in_a_row a b c d = simp append_assoc

  -- it is cut off before the chunks of its first movi, or after that
  opened_early : (place : Place) → ((rest : List ℕ) → Opening file head frames is place rest) → ((d : List ℕ) → mid file head frames is ≡ d ++ more → EndsEarly (frames_read place) d) → Early
  opened_early place opened later = on_cut (cut before_movi (mid file head frames is) beginning more (sym (in_a_row (front file head frames is) (parts_text is.parts) (movi file head frames is) (mid file head frames is)) ∙ sym is.bytes ∙ parted))
    where
      read : (rest : List ℕ) → open_read EveryRiff (before_movi ++ rest) ≡ Ok ((head, place), rest)
      read rest = ap (open_read EveryRiff) (sym (in_a_row (front file head frames is) (parts_text is.parts) (movi file head frames is) rest)) ∙ opened rest

      on_cut : CutFirst before_movi (mid file head frames is) beginning more ⊎ CutLater before_movi (mid file head frames is) beginning more → Early
      on_cut (inl k) =
          let stop = beginning_ends (open_read EveryRiff) (made_local (of_open any false refl refl refl refl EveryRiff)) (before_movi ++ []) (head, place) [] beginning k.left (read []) (ap (λ z. z ++ []) k.first) k.some in
          (stop.0, ap (λ z. read_on z (λ p. (frames_read p.1 >>= λ frames. given (p.0, frames)))) stop.1)
      on_cut (inr k) =
          let stop = later k.later k.parted in (
            stop.0,
            ap (file_read EveryRiff) k.whole
                ∙ ap (λ z. read_on z (λ p. (frames_read p.1 >>= λ frames. given (p.0, frames)))) (read k.later)
                ∙ ap (λ z. read_on z (λ frames. given (head, frames))) stop.1,
          )

  module _ (inside : IsPieceEdge is.pieces more → ⊥) where
    -- the first movi has no size
    movi_begun : OpensMovi (names file head frames is) (sizes file head frames is) is.chunks is.sections is.riffs is.pieces → Early
    movi_begun o = opened_early place (movi_opened file head frames is o) later
      where
        place : Place
        place = first_open (names file head frames is) (owes file head frames is)

        later : (d : List ℕ) → mid file head frames is ≡ d ++ more → EndsEarly (frames_read place) d
        later d cut_at =
            let stop = pieces_early is.pieces OpenMovi most_input (names file head frames is) (owes file head frames is) refl o.are (movi_framed file head frames is o) d more (sym (movi_text file head frames is o) ∙ cut_at) inside in
            (stop.0, frames_none place d d (movi_empty (names file head frames is) d) ∙ stop.1)

    -- the first RIFF has none
    riff_begun : OpensRiff (names file head frames is) (sizes file head frames is) is.chunks is.sections is.riffs is.pieces → Early
    riff_begun o = opened_early (placed place (length (chunks_text is.chunks)) owe) (riff_opened file head frames is o) (λ d cut_at. on_cut d (cut (chunks_text is.chunks) (pieces_text is.pieces) d more (sym (riff_text file head frames is o) ∙ cut_at)))
      where
        n : Names
        n = names file head frames is

        owe : ℕ
        owe = owes file head frames is

        place : Place
        place = in_open OpenRiff most_input n owe

        framed : Framed n is.chunks × Framed n (pieces_chunks is.pieces)
        framed = riff_framed file head frames is o

        fs : List (List ℕ)
        fs = frames_in n is.chunks

        on_cut : (d : List ℕ) → CutFirst (chunks_text is.chunks) (pieces_text is.pieces) d more ⊎ CutLater (chunks_text is.chunks) (pieces_text is.pieces) d more → EndsEarly (frames_read (placed place (length (chunks_text is.chunks)) owe)) d
        on_cut d (inl k) = chunks_early place is.chunks owe framed.0 o.fit d k.left k.first k.some
        on_cut d (inr k) =
            let stop = pieces_early is.pieces OpenRiff most_input n (owe - length fs) refl o.are framed.1 k.later more k.parted inside in (
              stop.0,
              ap (frames_read (placed place (length (chunks_text is.chunks)) owe)) k.whole
                  ∙ movi_frames place is.chunks owe k.later framed.0.each o.fit framed.0.none_barred framed.0.sized
                  ∙ ap (preceded fs) stop.1,
            )

    -- a later one has none
    behind_begun : OpensBehind (names file head frames is) (sizes file head frames is) is.chunks is.sections is.riffs is.pieces → (IsNearOpen is.riffs is.pieces more → ⊥) → Early
    behind_begun o outside = opened_early here (behind_opened file head frames is o) (λ d cut_at. on_chunks d (cut (chunks_text is.chunks) (sections_text is.sections ++ (riffs_text is.riffs ++ pieces_text is.pieces)) d more cut_at))
      where
        n : Names
        n = names file head frames is

        owe : ℕ
        owe = owes file head frames is

        place : Place
        place = in_riff most_input n (length (sections_text is.sections)) 0

        here : Place
        here = placed place (length (chunks_text is.chunks)) owe

        framed : Framed n (sized file head frames is) × Framed n (pieces_chunks is.pieces)
        framed = behind_framed file head frames is

        first : Framed n is.chunks × Framed n (movis is.sections ++ riff_movis is.riffs)
        first = framed_apart n is.chunks (movis is.sections ++ riff_movis is.riffs) framed.0

        second : Framed n (movis is.sections) × Framed n (riff_movis is.riffs)
        second = framed_apart n (movis is.sections) (riff_movis is.riffs) first.1

        fs : List (List ℕ)
        fs = frames_in n is.chunks

        all : List (List ℕ)
        all = frames_in n (sized file head frames is)

        to_chunks : (d : List ℕ) → frames_read here (chunks_text is.chunks ++ d) ≡ preceded fs (frames_after (in_riff most_input n (length (sections_text is.sections)) (owe - length fs)) d)
        to_chunks d = movi_frames place is.chunks owe d first.0.each o.fit first.0.none_barred first.0.sized

        on_riffs : (d : List ℕ) → CutFirst (riffs_text is.riffs) (pieces_text is.pieces) d more ⊎ CutLater (riffs_text is.riffs) (pieces_text is.pieces) d more → EndsEarly (frames_read here) (chunks_text is.chunks ++ (sections_text is.sections ++ d))
        on_riffs d (inl k) =
            let near : IsNearEdge is.riffs k.left → ⊥ = λ e. outside (e.0, e.1, e.2, e.3, ap (λ z. z ++ pieces_text is.pieces) e.4 ∙ append_assoc e.2 k.left (pieces_text is.pieces) ∙ ap (λ z. e.2 ++ z) (sym k.more), e.5) in
            let firsts = frames_in n (is.chunks ++ (movis is.sections ++ [])) in
            let none : length {A = ℕ} [] < most_input = omega arith in
            let P : List Chunk → Type 0 = λ z. Framed n z in
            let early : Framed n (is.chunks ++ (movis is.sections ++ [])) = (framed_apart n (is.chunks ++ (movis is.sections ++ [])) (riff_movis is.riffs) (subst P (regrouped is.chunks (movis is.sections) (riff_movis is.riffs)) framed.0)).0 in
            let stop = riffs_early is.riffs (most_input - 0) n (owe - length firsts) o.riffs_are o.bounded second.1 d k.left k.first near in
            (stop.0, place_read most_input n owe is.chunks is.sections [] d o.sections_are tt none o.fit early ∙ ap (preceded firsts) stop.1)
          where
            regrouped : (a b c : List Chunk) → a ++ (b ++ c) ≡ (a ++ (b ++ [])) ++ c
            regrouped a b c = ap (λ z. a ++ (z ++ c)) (sym (append-nil b)) ∙ sym (append_assoc a (b ++ []) c)
        on_riffs d (inr k) =
            let deep : length k.later < 12 → ⊥ = λ few. outside (is.riffs, [], k.later, sym (append-nil is.riffs), k.parted, few) in
            let stop = behind_early is.pieces (most_input - length (riffs_text is.riffs)) n (owe - length all) o.begins o.are framed.1 k.later more k.parted deep inside in (
              stop.0,
              ap (λ z. frames_read here (chunks_text is.chunks ++ (sections_text is.sections ++ z))) k.whole
                  ∙ place_read most_input n owe is.chunks is.sections is.riffs k.later o.sections_are o.riffs_are o.bounded o.fit framed.0
                  ∙ ap (preceded all) stop.1,
            )

        on_sections : (d : List ℕ) → CutFirst (sections_text is.sections) (riffs_text is.riffs ++ pieces_text is.pieces) d more ⊎ CutLater (sections_text is.sections) (riffs_text is.riffs ++ pieces_text is.pieces) d more → EndsEarly (frames_read here) (chunks_text is.chunks ++ d)
        on_sections d (inl k) =
            let stop = sections_early most_input n (owe - length fs) is.sections (λ e. omega (arith, e)) o.sections_are second.0 d k.left k.first k.some in
            (stop.0, to_chunks d ∙ ap (preceded fs) stop.1)
        on_sections d (inr k) =
            let stop = on_riffs k.later (cut (riffs_text is.riffs) (pieces_text is.pieces) k.later more k.parted) in
            (stop.0, ap (λ z. frames_read here (chunks_text is.chunks ++ z)) k.whole ∙ stop.1)

        on_chunks : (d : List ℕ) → CutFirst (chunks_text is.chunks) (sections_text is.sections ++ (riffs_text is.riffs ++ pieces_text is.pieces)) d more ⊎ CutLater (chunks_text is.chunks) (sections_text is.sections ++ (riffs_text is.riffs ++ pieces_text is.pieces)) d more → EndsEarly (frames_read here) d
        on_chunks d (inl k) = chunks_early place is.chunks owe first.0 o.fit d k.left k.first k.some
        on_chunks d (inr k) =
            let stop = on_sections k.later (cut (sections_text is.sections) (riffs_text is.riffs ++ pieces_text is.pieces) k.later more k.parted) in
            (stop.0, ap (frames_read here) k.whole ∙ stop.1)

    pub open_within : (IsFurther is.opens_so × IsNearOpen is.riffs is.pieces more → ⊥) → Early
    open_within outside = on_opens is.opens_so outside
      where
        on_opens : (o : Opens (names file head frames is) (sizes file head frames is) is.chunks is.sections is.riffs is.pieces) → (IsFurther o × IsNearOpen is.riffs is.pieces more → ⊥) → Early
        on_opens (inl o) h = movi_begun o
        on_opens (inr (inl o)) h = riff_begun o
        on_opens (inr (inr o)) h = behind_begun o (λ near. h (tt, near))
