-- A file of which an RIFF or the first movi has no size may end after any chunk behind that.
use Rattle.std.proofs.Common.{◌≡◌, inl, inr, ℕ, ◌-◌, ◌≤◌, ◌<◌, Ok, List, [], ◌∷◌, ◌++◌, length, codes, ap, ◌∙◌, sym, subst, arith, refl, append_assoc, length-append}
use Rattle.std.proofs.lemmas.Grind.{flat_map-append}
use Rattle.std.proofs.lemmas.List.{append_cancel_right}
use Rattle.ffv1_reads.specs.Head.{Head}
use Rattle.ffv1_reads.specs.Reads.{EndsEarly, given, read_on, ◌>>=◌}
use Rattle.ffv1_avi.specs.declared.place.Extent.TheVariants.{EveryRiff}
use Rattle.ffv1_avi.specs.declared.place.Names.{Names}
use Rattle.ffv1_avi.specs.declared.place.Open.{Open}
use Rattle.ffv1_avi.specs.declared.place.Open.TheVariants.{Sized, OpenRiff, OpenMovi}
use Rattle.ffv1_avi.specs.declared.place.Place.{Place}
use Rattle.ffv1_avi.specs.Begun.{parts_text}
use Rattle.ffv1_avi.specs.Chunks.{Chunk, chunks_text}
use Rattle.ffv1_avi.specs.Files.{file_read, frames_read}
use Rattle.ffv1_avi.specs.OpenEdges.{IsFurther, frames_before}
use Rattle.ffv1_avi.specs.OpenFiles.{ArePieces, BeginsOpen, OpenFile, Opens, OpensBehind, OpensMovi, OpensRiff, Piece, Sizes, leads_to, piece_chunks, piece_text, pieces_chunks, pieces_text}
use Rattle.ffv1_avi.specs.Places.{first_open, most_input}
use Rattle.ffv1_avi.specs.Riffs.{Riff, Section, movis, riff_movis, riffs_text, sections_text, total}
use Rattle.ffv1_avi.proofs.BegunRiffs.{open_there}
use Rattle.ffv1_avi.proofs.EarlyPieces.{pieces_owed}
use Rattle.ffv1_avi.proofs.EveryRiffLaws.{framed_own, place_read}
use Rattle.ffv1_avi.proofs.FrameLaws.{frames_after, frames_none, frames_on, placed}
use Rattle.ffv1_avi.proofs.LaterFrames.{Framed, frames_behind, frames_both, frames_in, framed_apart, in_riff, preceded}
use Rattle.ffv1_avi.proofs.MoviFrames.{movi_frames}
use Rattle.ffv1_avi.proofs.Moves.{movi_empty}
use Rattle.ffv1_avi.proofs.OpenFileLaws.{Opening, behind_framed, behind_opened, front, movi, movi_framed, movi_opened, names, no_chunks, no_chunks_behind, no_text, no_text_behind, open_file_read, owes, riff_framed, riff_opened, sized, sizes}
use Rattle.ffv1_avi.proofs.OpenPieces.{front_long, in_open}

-- the first pieces
pieces_apart : (n : Names) (input : ℕ) (o : Open) (xs ys : List Piece) → ArePieces n input o (xs ++ ys) → ArePieces n input o xs
pieces_apart n input o [] ys h = tt
pieces_apart n input o (x ∷ xs) ys h = (h.0, pieces_apart n (input - length (piece_text x)) (leads_to x) xs ys h.1)

begins_apart : (xs ys : List Piece) → (xs ≡ [] → ⊥) → BeginsOpen (xs ++ ys) → BeginsOpen xs
begins_apart [] ys some h = absurd (some refl)
begins_apart (Piece.Further size ∷ xs) ys some h = h
begins_apart (Piece.Unsized size ∷ xs) ys some h = h
begins_apart (Piece.Beside c ∷ xs) ys some h = h
begins_apart (Piece.Within s ∷ xs) ys some h = h

opens_apart : (n : Names) (said : Sizes) (chunks : List Chunk) (sections : List Section) (riffs : List Riff) (xs ys : List Piece) (o : Opens n said chunks sections riffs (xs ++ ys)) → (IsFurther o → xs ≡ [] → ⊥) → Opens n said chunks sections riffs xs
opens_apart n said chunks sections riffs xs ys (inl o) some =
    inl (record { unknown = o.unknown; formed = o.formed; room = o.room; bare = o.bare; no_chunks = o.no_chunks; no_sections = o.no_sections; no_riffs = o.no_riffs; are = pieces_apart n most_input OpenMovi xs ys o.are })
opens_apart n said chunks sections riffs xs ys (inr (inl o)) some =
    inr (inl (record { unknown = o.unknown; formed = o.formed; counted = o.counted; fit = o.fit; room = o.room; no_sections = o.no_sections; no_riffs = o.no_riffs; are = pieces_apart n most_input OpenRiff xs ys o.are }))
opens_apart n said chunks sections riffs xs ys (inr (inr o)) some =
    inr (inr (record { known = o.known; counted = o.counted; fit = o.fit; filled = o.filled; sections_are = o.sections_are; riffs_are = o.riffs_are; bounded = o.bounded; begins = begins_apart xs ys (some tt) o.begins; are = pieces_apart n (most_input - length (riffs_text riffs)) Sized xs ys o.are }))

-- a further RIFF without size, at whose end frames are owed
behind_owed : (pieces : List Piece) (input : ℕ) (n : Names) (owed : ℕ) → BeginsOpen pieces → ArePieces n input Sized pieces → Framed n (pieces_chunks pieces) → length (frames_in n (pieces_chunks pieces)) < owed → EndsEarly (frames_behind (in_riff input n 0 owed)) (pieces_text pieces)
behind_owed [] input n owed begins are framed fewer = absurd begins
behind_owed (Piece.Unsized size ∷ ps) input n owed begins are framed fewer = absurd begins
behind_owed (Piece.Beside c ∷ ps) input n owed begins are framed fewer = absurd begins
behind_owed (Piece.Within s ∷ ps) input n owed begins are framed fewer = absurd begins
behind_owed (Piece.Further size ∷ ps) input n owed begins are framed fewer =
    let text = pieces_text ps in
    let twelve : length (piece_text (Piece.Further size)) ≡ 12 = front_long (codes "RIFF") size (codes "AVIX") refl are.0.0 refl in
    let some : input - length (piece_text (Piece.Further size)) ≡ 0 → ⊥ = λ z. omega (arith, z, twelve, are.0.1) in
    let stop = pieces_owed ps OpenRiff (input - length (piece_text (Piece.Further size))) n owed refl some are.1 framed fewer in (
      stop.0,
      ap (λ z. read_on z frames_on) (open_there (in_riff input n 0 owed) size text are.0.0 begins are.0.1)
          ∙ frames_none (in_open OpenRiff (input - 12) n owed) text text (movi_empty n text)
          ∙ ap (λ k. frames_after (in_open OpenRiff (input - k) n owed) text) (sym twelve)
          ∙ stop.1,
    )

module _ (file : List ℕ) (head : Head) (frames : List (List ℕ)) (is : OpenFile file head frames) (before after : List Piece) (parted : is.pieces ≡ before ++ after) where
  -- the file up to there
  abbrev text_before : List ℕ
  text_before = front file head frames is ++ (parts_text is.parts ++ (movi file head frames is ++ (chunks_text is.chunks ++ (sections_text is.sections ++ (riffs_text is.riffs ++ pieces_text before)))))

  file_apart : file ≡ text_before ++ pieces_text after
  file_apart =
      let text : pieces_text is.pieces ≡ pieces_text before ++ pieces_text after = ap pieces_text parted ∙ flat_map-append piece_text before after in
      is.bytes
      ∙ ap (λ z. front file head frames is ++ (parts_text is.parts ++ (movi file head frames is ++ (chunks_text is.chunks ++ (sections_text is.sections ++ (riffs_text is.riffs ++ z)))))) text
      ∙ regrouped (front file head frames is) (parts_text is.parts) (movi file head frames is) (chunks_text is.chunks) (sections_text is.sections) (riffs_text is.riffs) (pieces_text before) (pieces_text after)
    where
      regrouped : (a b c d e f g h : List ℕ) → a ++ (b ++ (c ++ (d ++ (e ++ (f ++ (g ++ h)))))) ≡ (a ++ (b ++ (c ++ (d ++ (e ++ (f ++ g)))))) ++ h
      regrouped a b c d e f g h = simp append_assoc

  abbrev chunks_before : List Chunk
  chunks_before = is.chunks ++ (movis is.sections ++ (riff_movis is.riffs ++ pieces_chunks before))

  chunks_apart : is.chunks ++ (movis is.sections ++ (riff_movis is.riffs ++ pieces_chunks is.pieces)) ≡ chunks_before ++ pieces_chunks after
  chunks_apart =
      ap (λ z. is.chunks ++ (movis is.sections ++ (riff_movis is.riffs ++ z))) (ap pieces_chunks parted ∙ flat_map-append piece_chunks before after)
      ∙ in_a_row is.chunks (movis is.sections) (riff_movis is.riffs) (pieces_chunks before) (pieces_chunks after)
    where
      in_a_row : (a b c d e : List Chunk) → a ++ (b ++ (c ++ (d ++ e))) ≡ (a ++ (b ++ (c ++ d))) ++ e
      in_a_row a b c d e = simp append_assoc

  abbrev Above : Type 0
  Above = Opens (names file head frames is) (sizes file head frames is) is.chunks is.sections is.riffs is.pieces

  -- so it is a file, too
  module _ (some : IsFurther is.opens_so → before ≡ [] → ⊥) where
    opens_before : Opens (names file head frames is) (sizes file head frames is) is.chunks is.sections is.riffs before
    opens_before = on_pieces is.pieces parted is.opens_so some
      where
        on_pieces : (ps : List Piece) → ps ≡ before ++ after → (o : Opens (names file head frames is) (sizes file head frames is) is.chunks is.sections is.riffs ps) → (IsFurther o → before ≡ [] → ⊥) → Opens (names file head frames is) (sizes file head frames is) is.chunks is.sections is.riffs before
        on_pieces ps same (inl o) some = let P : List Piece → Type 0 = λ z. OpensMovi (names file head frames is) (sizes file head frames is) is.chunks is.sections is.riffs z in opens_apart (names file head frames is) (sizes file head frames is) is.chunks is.sections is.riffs before after (inl (subst P same o)) (λ z. absurd z)
        on_pieces ps same (inr (inl o)) some = let P : List Piece → Type 0 = λ z. OpensRiff (names file head frames is) (sizes file head frames is) is.chunks is.sections is.riffs z in opens_apart (names file head frames is) (sizes file head frames is) is.chunks is.sections is.riffs before after (inr (inl (subst P same o))) (λ z. absurd z)
        on_pieces ps same (inr (inr o)) some = let P : List Piece → Type 0 = λ z. OpensBehind (names file head frames is) (sizes file head frames is) is.chunks is.sections is.riffs z in opens_apart (names file head frames is) (sizes file head frames is) is.chunks is.sections is.riffs before after (inr (inr (subst P same o))) some

    file_before : total is.extended ≤ length (frames_before is before) → OpenFile text_before head (frames_before is before)
    file_before enough =
        let n = names file head frames is in
        let P : List Chunk → Type 0 = λ z. Framed n z in
        let apart = framed_apart n chunks_before (pieces_chunks after) (subst P chunks_apart (framed_own n _ frames is.framed)) in
        record {
          riff_size = is.riff_size;
          parts = is.parts;
          movi_size = is.movi_size;
          chunks = is.chunks;
          sections = is.sections;
          riffs = is.riffs;
          pieces = before;
          before = is.before;
          stream = is.stream;
          after = is.after;
          extended = is.extended;
          bytes = refl;
          riff_sized = is.riff_sized;
          movi_sized = is.movi_sized;
          each = is.each;
          opens_so = opens_before;
          streams_are = is.streams_are;
          others = is.others;
          few = is.few;
          says = is.says;
          extended_are = is.extended_are;
          framed = apart.0;
          enough = enough;
        }

  -- if frames are owed
  module _ (fewer : length (frames_before is before) < total is.extended) where
    abbrev mid_before : List ℕ
    mid_before = chunks_text is.chunks ++ (sections_text is.sections ++ (riffs_text is.riffs ++ pieces_text before))

    opened_owed : (place : Place) → ((rest : List ℕ) → Opening file head frames is place rest) → EndsEarly (frames_read place) mid_before → EndsEarly (file_read EveryRiff) text_before
    opened_owed place opened stop =
        (stop.0, ap (λ z. read_on z (λ p. (frames_read p.1 >>= λ frames. given (p.0, frames)))) (opened mid_before) ∙ ap (λ z. read_on z (λ frames. given (head, frames))) stop.1)

    first_pieces : Framed (names file head frames is) (pieces_chunks is.pieces) → Framed (names file head frames is) (pieces_chunks before)
    first_pieces framed =
        let P : List Chunk → Type 0 = λ z. Framed (names file head frames is) z in
        (framed_apart (names file head frames is) (pieces_chunks before) (pieces_chunks after) (subst P (ap pieces_chunks parted ∙ flat_map-append piece_chunks before after) framed)).0

    first_are : (input : ℕ) (o : Open) → ArePieces (names file head frames is) input o is.pieces → ArePieces (names file head frames is) input o before
    first_are input o are =
        let P : List Piece → Type 0 = λ z. ArePieces (names file head frames is) input o z in
        pieces_apart (names file head frames is) input o before after (subst P parted are)

    movi_owed : OpensMovi (names file head frames is) (sizes file head frames is) is.chunks is.sections is.riffs is.pieces → EndsEarly (file_read EveryRiff) text_before
    movi_owed o =
        let n = names file head frames is in
        let place = first_open n (owes file head frames is) in
        let text : mid_before ≡ pieces_text before = no_text is.chunks is.sections is.riffs (pieces_text before) o.no_chunks o.no_sections o.no_riffs in
        let same : frames_before is before ≡ frames_in n (pieces_chunks before) = ap (frames_in n) (no_chunks is.chunks is.sections is.riffs (pieces_chunks before) o.no_chunks o.no_sections o.no_riffs) in
        let stop = pieces_owed before OpenMovi most_input n (owes file head frames is) refl (λ z. omega (arith, z)) (first_are most_input OpenMovi o.are) (first_pieces (movi_framed file head frames is o)) (omega (arith, fewer, ap length same)) in
        opened_owed place (movi_opened file head frames is o) (stop.0, ap (frames_read place) text ∙ frames_none place (pieces_text before) (pieces_text before) (movi_empty n (pieces_text before)) ∙ stop.1)

    riff_owed : OpensRiff (names file head frames is) (sizes file head frames is) is.chunks is.sections is.riffs is.pieces → EndsEarly (file_read EveryRiff) text_before
    riff_owed o =
        let n = names file head frames is in
        let owe = owes file head frames is in
        let place = in_open OpenRiff most_input n owe in
        let here = placed place (length (chunks_text is.chunks)) owe in
        let framed = riff_framed file head frames is o in
        let fs = frames_in n is.chunks in
        let gs = frames_in n (pieces_chunks before) in
        let text : mid_before ≡ chunks_text is.chunks ++ pieces_text before = ap (λ z. chunks_text is.chunks ++ z) (no_text_behind is.sections is.riffs (pieces_text before) o.no_sections o.no_riffs) in
        let same : frames_before is before ≡ fs ++ gs = ap (λ z. frames_in n (is.chunks ++ z)) (no_chunks_behind is.sections is.riffs (pieces_chunks before) o.no_sections o.no_riffs) ∙ frames_both n is.chunks (pieces_chunks before) in
        let stop = pieces_owed before OpenRiff most_input n (owe - length fs) refl (λ z. omega (arith, z)) (first_are most_input OpenRiff o.are) (first_pieces framed.1) (omega (arith, fewer, ap length same, length-append fs gs)) in
        opened_owed here (riff_opened file head frames is o)
        (stop.0, ap (frames_read here) text ∙ movi_frames place is.chunks owe (pieces_text before) framed.0.each o.fit framed.0.none_barred framed.0.sized ∙ ap (preceded fs) stop.1)

    further_owed : (before ≡ [] → ⊥) → OpensBehind (names file head frames is) (sizes file head frames is) is.chunks is.sections is.riffs is.pieces → EndsEarly (file_read EveryRiff) text_before
    further_owed some o =
        let n = names file head frames is in
        let owe = owes file head frames is in
        let left = length (sections_text is.sections) in
        let here = placed (in_riff most_input n left 0) (length (chunks_text is.chunks)) owe in
        let framed = behind_framed file head frames is in
        let fs = frames_in n (sized file head frames is) in
        let gs = frames_in n (pieces_chunks before) in
        let more = most_input - length (riffs_text is.riffs) in
        let P : List Piece → Type 0 = λ z. BeginsOpen z in
        let begins = begins_apart before after some (subst P parted o.begins) in
        let same : frames_before is before ≡ fs ++ gs = ap (frames_in n) (in_a_row is.chunks (movis is.sections) (riff_movis is.riffs) (pieces_chunks before)) ∙ frames_both n (sized file head frames is) (pieces_chunks before) in
        let stop = behind_owed before more n (owe - length fs) begins (first_are more Sized o.are) (first_pieces framed.1) (omega (arith, fewer, ap length same, length-append fs gs)) in
        opened_owed here (behind_opened file head frames is o)
        (stop.0, place_read most_input n owe is.chunks is.sections is.riffs (pieces_text before) o.sections_are o.riffs_are o.bounded o.fit framed.0 ∙ ap (preceded fs) stop.1)
      where
        in_a_row : (a b c d : List Chunk) → a ++ (b ++ (c ++ d)) ≡ (a ++ (b ++ c)) ++ d
        in_a_row a b c d = simp append_assoc

    any_owed : (o : Above) → (IsFurther o → before ≡ [] → ⊥) → EndsEarly (file_read EveryRiff) text_before
    any_owed (inl o) some = movi_owed o
    any_owed (inr (inl o)) some = riff_owed o
    any_owed (inr (inr o)) some = further_owed (some tt) o

  module _ (beginning : List ℕ) (cut_at : file ≡ beginning ++ pieces_text after) (some : IsFurther is.opens_so → before ≡ [] → ⊥) where
    begins_so : text_before ≡ beginning
    begins_so = append_cancel_right text_before beginning (pieces_text after) (sym file_apart ∙ cut_at)

    pub open_edge : total is.extended ≤ length (frames_before is before) → OpenFile beginning head (frames_before is before)
    open_edge enough = let P : List ℕ → Type 0 = λ z. OpenFile z head (frames_before is before) in subst P begins_so (file_before some enough)

    pub open_edge_read : total is.extended ≤ length (frames_before is before) → file_read EveryRiff beginning ≡ Ok ((head, frames_before is before), [])
    open_edge_read enough = open_file_read beginning head (frames_before is before) (open_edge enough)

    pub open_owed : length (frames_before is before) < total is.extended → EndsEarly (file_read EveryRiff) beginning
    open_owed fewer = let P : List ℕ → Type 0 = λ z. EndsEarly (file_read EveryRiff) z in subst P begins_so (any_owed fewer is.opens_so some)
