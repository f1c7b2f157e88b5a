-- Beginnings of a file of which a further RIFF has no size, up to the edge of one of its RIFFs, or to
-- one of the first twelve bytes of it.
use Rattle.std.proofs.Common.{◌≡◌, inl, inr, ℕ, ◌-◌, ◌≤◌, ◌<◌, Ok, List, [], ◌∷◌, ◌++◌, length, take, drop, codes, ap, ◌∙◌, sym, arith, refl, append_assoc, append-nil}
use Rattle.std.proofs.lemmas.Grind.{flat_map-append}
use Rattle.std.proofs.lemmas.List.{append_cancel_right, take-append-drop, take-append-le}
use Rattle.ffv1_reads.specs.Head.{Head}
use Rattle.ffv1_reads.specs.Reads.{EndsEarly, Looked, given, read_on, ◌>>=◌}
use Rattle.ffv1_avi.specs.declared.place.Extent.TheVariants.{EveryRiff}
use Rattle.ffv1_avi.specs.declared.place.Place.{Place}
use Rattle.ffv1_avi.specs.Begun.{parts_text}
use Rattle.ffv1_avi.specs.Behind.{looked_past}
use Rattle.ffv1_avi.specs.Chunks.{chunks_text}
use Rattle.ffv1_avi.specs.Files.{file_read, frames_read}
use Rattle.ffv1_avi.specs.OpenEdges.{IsFurther, frames_sized}
use Rattle.ffv1_avi.specs.OpenFiles.{BeginsOpen, OpenFile, Opens, OpensBehind, Piece, pieces_text}
use Rattle.ffv1_avi.specs.Places.{most_input}
use Rattle.ffv1_avi.specs.Riffs.{Riff, riff_text, riffs_text, sections_text, total}
use Rattle.ffv1_avi.proofs.EdgeLaws.{part_over, part_owed}
use Rattle.ffv1_avi.proofs.EveryRiffLaws.{place_read, riffs_before}
use Rattle.ffv1_avi.proofs.FrameLaws.{frames_on}
use Rattle.ffv1_avi.proofs.LaterFrames.{behind_over, frames_behind, in_riff, preceded}
use Rattle.ffv1_avi.proofs.OpenFileLaws.{behind_framed, behind_opened, front, movi, names, owes, sizes}

-- an RIFF, or a further one without size, begins with its name
behind_begins : (after : List Riff) (pieces : List Piece) → BeginsOpen pieces → take 4 (riffs_text after ++ pieces_text pieces) ≡ codes "RIFF"
behind_begins [] [] begins = absurd begins
behind_begins [] (Piece.Unsized size ∷ ps) begins = absurd begins
behind_begins [] (Piece.Beside c ∷ ps) begins = absurd begins
behind_begins [] (Piece.Within s ∷ ps) begins = absurd begins
behind_begins [] (Piece.Further size ∷ ps) begins = refl
behind_begins (r ∷ rs) pieces begins = refl

module _ (file : List ℕ) (head : Head) (frames : List (List ℕ)) (is : OpenFile file head frames) (before after : List Riff) (beginning some more : List ℕ) (parted : is.riffs ≡ before ++ after) (cut_at : file ≡ (beginning ++ some) ++ more) (edge : riffs_text after ++ pieces_text is.pieces ≡ some ++ more) (few : length some < 12) where
  abbrev behind : List ℕ
  behind = chunks_text is.chunks ++ (sections_text is.sections ++ (riffs_text before ++ some))

  there : beginning ++ some ≡ front file head frames is ++ (parts_text is.parts ++ (movi file head frames is ++ behind))
  there =
      let riffs : riffs_text is.riffs ++ pieces_text is.pieces ≡ riffs_text before ++ (some ++ more) =
      ap (λ z. z ++ pieces_text is.pieces) (ap riffs_text parted ∙ flat_map-append riff_text before after) ∙ append_assoc (riffs_text before) (riffs_text after) (pieces_text is.pieces) ∙ ap (λ z. riffs_text before ++ z) edge in
      append_cancel_right (beginning ++ some) (front file head frames is ++ (parts_text is.parts ++ (movi file head frames is ++ behind))) more
      (sym cut_at ∙ is.bytes
      ∙ ap (λ z. front file head frames is ++ (parts_text is.parts ++ (movi file head frames is ++ (chunks_text is.chunks ++ (sections_text is.sections ++ z))))) riffs
      ∙ regrouped (front file head frames is) (parts_text is.parts) (movi file head frames is) (chunks_text is.chunks) (sections_text is.sections) (riffs_text before) some more)
    where
      regrouped : (a b c d e f g h : List ℕ) → a ++ (b ++ (c ++ (d ++ (e ++ (f ++ (g ++ h)))))) ≡ (a ++ (b ++ (c ++ (d ++ (e ++ (f ++ g)))))) ++ h
      regrouped a b c d e f g h = simp append_assoc

  module _ (o : OpensBehind (names file head frames is) (sizes file head frames is) is.chunks is.sections is.riffs is.pieces) where
    abbrev place : Place
    place = in_riff (most_input - length (riffs_text before)) (names file head frames is) 0 (owes file head frames is - length (frames_sized is before))

    riff : 4 ≤ length some → some ≡ codes "RIFF" ++ drop 4 some
    riff enough =
        let name : take 4 some ≡ codes "RIFF" = sym (take-append-le 4 some more enough) ∙ sym (ap (take 4) edge) ∙ behind_begins after is.pieces o.begins in
        sym (take-append-drop 4 some) ∙ ap (λ z. z ++ drop 4 some) name

    reads : file_read EveryRiff (beginning ++ some) ≡ read_on (preceded (frames_sized is before) (frames_behind place some)) (λ frames. given (head, frames))
    reads =
        let known = riffs_before (names file head frames is) is.chunks is.sections is.riffs before after parted o.riffs_are o.bounded (behind_framed file head frames is).0 in
        ap (file_read EveryRiff) there
        ∙ ap (λ z. read_on z (λ p. (frames_read p.1 >>= λ frames. given (p.0, frames)))) (behind_opened file head frames is o behind)
        ∙ ap (λ z. read_on z (λ frames. given (head, frames))) (place_read most_input (names file head frames is) (owes file head frames is) is.chunks is.sections before some o.sections_are known.0 known.1 o.fit known.2)

    behind_near : total is.extended ≤ length (frames_sized is before) → file_read EveryRiff (beginning ++ some) ≡ Ok ((head, frames_sized is before), [])
    behind_near enough =
        let all = frames_sized is before in
        let none : owes file head frames is - length all ≡ 0 = omega (arith, enough) in
        let other = part_over some riff few in
        reads
        ∙ ap (λ z. read_on (preceded all z) (λ frames. given (head, frames))) (behind_over (most_input - length (riffs_text before)) (names file head frames is) (owes file head frames is - length all) some none other.0)
        ∙ ap (λ z. Ok ((head, z), looked_past some)) (append-nil all)
        ∙ ap (λ z. Ok ((head, all), z)) other.1

    behind_owed : length (frames_sized is before) < total is.extended → EndsEarly (file_read EveryRiff) (beginning ++ some)
    behind_owed fewer =
        (Looked, reads ∙ ap (λ z. read_on (preceded (frames_sized is before) (read_on z frames_on)) (λ frames. given (head, frames))) (part_owed place some (omega (arith, fewer)) riff few))

  further : (o : Opens (names file head frames is) (sizes file head frames is) is.chunks is.sections is.riffs is.pieces) → IsFurther o → OpensBehind (names file head frames is) (sizes file head frames is) is.chunks is.sections is.riffs is.pieces
  further (inl o) h = absurd h
  further (inr (inl o)) h = absurd h
  further (inr (inr o)) h = o

  pub open_near : IsFurther is.opens_so → total is.extended ≤ length (frames_sized is before) → file_read EveryRiff (beginning ++ some) ≡ Ok ((head, frames_sized is before), [])
  open_near h enough = behind_near (further is.opens_so h) enough

  pub open_near_owed : IsFurther is.opens_so → length (frames_sized is before) < total is.extended → EndsEarly (file_read EveryRiff) (beginning ++ some)
  open_near_owed h fewer = behind_owed (further is.opens_so h) fewer
