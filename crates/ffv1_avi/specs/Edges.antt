-- Files of several RIFFs, up to the edge of one of them.
use Rattle.std.specs.Prelude.{◌≡◌, ◌<◌, ℕ, List, [], ◌∷◌, ◌++◌, length, map, Some, Ok, Err}
use Rattle.ffv1_avi.specs.declared.place.Extent.TheVariants.{EveryRiff}
use Rattle.ffv1_avi.specs.declared.place.Place.{Place}
use Rattle.ffv1_avi.specs.declared.place.Names.{Names}
use Rattle.ffv1_avi.specs.Chunks.{Chunk, frame_in, streams, those}
use Rattle.ffv1_avi.specs.Files.{frame_read, open_read}
use Rattle.ffv1_reads.specs.Head.{Head}
use Rattle.ffv1_reads.specs.Reads.{Stop}
use Rattle.ffv1_avi.specs.Riffs.{Riff, RiffFile, movis, names_of, riff_movis, riffs_text}

-- the bytes of the chunks that are frames
abbrev pub bytes_framed : Names → List Chunk → List (List ℕ)
bytes_framed names chunks = map (λ (c : Chunk). c.bytes) (those (frame_in names) chunks)

-- these bytes are the last ones of some RIFFs, from the edge of one of them on, or from one of its
-- first twelve bytes on
abbrev pub IsNearEdge : List Riff → List ℕ → Type 0
IsNearEdge riffs bytes =
    (before after : List Riff) × (some : List ℕ) × (riffs ≡ before ++ after)
    × (riffs_text after ≡ some ++ bytes) × (length some < 12)

-- the frames of a file's first RIFF and of some after it
abbrev pub frames_to : {file : List ℕ} {head : Head} {frames : List (List ℕ)} →
    RiffFile file head frames → List Riff → List (List ℕ)
frames_to is riffs =
    bytes_framed (names_of is.before (streams is.parts))
    (is.chunks ++ (movis is.sections ++ riff_movis riffs))

-- from this place this text begins with these frames, one after the other, and after them it is
-- refused so
abbrev pub FramesThen : Place → List ℕ → List (List ℕ) → Stop → Type 0
FramesThen place text [] why = frame_read place text ≡ Err why
FramesThen place text (f ∷ fs) why =
    (after : Place) × (rest : List ℕ) × (frame_read place text ≡ Ok (Some (f, after), rest))
    × FramesThen after rest fs why

-- a file is opened, and its frames are given, before it is refused so
abbrev pub GivesThen : List ℕ → Head → List (List ℕ) → Stop → Type 0
GivesThen file head frames why =
    (place : Place) × (rest : List ℕ) × (open_read EveryRiff file ≡ Ok ((head, place), rest))
    × FramesThen place rest frames why
