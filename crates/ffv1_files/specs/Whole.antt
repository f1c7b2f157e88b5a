-- Files that are read whole, by their chunks or their elements.
use Rattle.std.specs.Prelude.{◌≡◌, ◌⊎◌, ℕ, List, [], true}
use Rattle.ffv1_avi.specs.Behind.{RiffFileThen}
use Rattle.ffv1_avi.specs.OpenFiles.{OpenFile}
use Rattle.ffv1_matroska.specs.SegmentFiles.{SegmentFile}
use Rattle.ffv1_reads.specs.Head.{Head}
use Rattle.ffv1_files.specs.Files.{is_matroska}

-- an AVI with these frames in every RIFF, after which no other file begins, and of what stands
-- there this was not looked at, or one with an RIFF or a first movi without size; or a Matroska
-- file with them, which begins with its first byte, and after whose Segment this stands
abbrev pub IsWhole : List ℕ → Head → List (List ℕ) → List ℕ → Type 0
IsWhole file head frames rest =
    (RiffFileThen file head frames rest ⊎ (OpenFile file head frames × (rest ≡ [])))
    ⊎ ((is_matroska file ≡ true) × ((is : SegmentFile file head frames) × (is.rest ≡ rest)))
