-- Beginnings of a file with an RIFF, or a first movi, whose size is not known.
use Rattle.std.specs.Prelude.{◌≡◌, ◌<◌, List, ◌++◌, length, ℕ}
use Rattle.std.proofs.Common.{inl, inr}
use Rattle.ffv1_avi.specs.declared.place.Names.{Names}
use Rattle.ffv1_avi.specs.Chunks.{Chunk, streams}
use Rattle.ffv1_avi.specs.Edges.{bytes_framed}
use Rattle.ffv1_avi.specs.OpenFiles.{OpenFile, Opens, Piece, Sizes, pieces_chunks, pieces_text}
use Rattle.ffv1_avi.specs.Riffs.{Riff, Section, movis, names_of, riff_movis, riffs_text}
use Rattle.ffv1_reads.specs.Head.{Head}

-- these bytes are the last pieces, from the edge of one of them on
abbrev pub IsPieceEdge : List Piece → List ℕ → Type 0
IsPieceEdge pieces bytes =
    (before after : List Piece) × (pieces ≡ before ++ after) × (bytes ≡ pieces_text after)

-- the first size that is not known is that of a further RIFF
abbrev pub IsFurther : {names : Names} {sizes : Sizes} {chunks : List Chunk}
    {sections : List Section} {riffs : List Riff} {pieces : List Piece} →
    Opens names sizes chunks sections riffs pieces → Type 0
IsFurther (inl o) = ⊥
IsFurther (inr (inl o)) = ⊥
IsFurther (inr (inr o)) = Unit {0}

-- these bytes are the last ones of RIFFs and of the pieces after them, from the edge of one of the
-- RIFFs on, or from one of its first twelve bytes on; or of those of the pieces
abbrev pub IsNearOpen : List Riff → List Piece → List ℕ → Type 0
IsNearOpen riffs pieces bytes =
    (before after : List Riff) × (some : List ℕ) × (riffs ≡ before ++ after)
    × (riffs_text after ++ pieces_text pieces ≡ some ++ bytes) × (length some < 12)

-- the frames of a file up to some of its pieces
abbrev pub frames_before : {file : List ℕ} {head : Head} {frames : List (List ℕ)} →
    OpenFile file head frames → List Piece → List (List ℕ)
frames_before is pieces =
    bytes_framed (names_of is.before (streams is.parts))
    (is.chunks ++ (movis is.sections ++ (riff_movis is.riffs ++ pieces_chunks pieces)))

-- and up to some of its RIFFs
abbrev pub frames_sized : {file : List ℕ} {head : Head} {frames : List (List ℕ)} →
    OpenFile file head frames → List Riff → List (List ℕ)
frames_sized is riffs =
    bytes_framed (names_of is.before (streams is.parts))
    (is.chunks ++ (movis is.sections ++ riff_movis riffs))
