-- What a file reads as, of either container.
use Rattle.std.specs.Prelude.{ℕ, ◌==◌, Bool, false, if◌then◌else◌, List, [], ◌∷◌, Option, Some}
use Rattle.std.specs.Prelude.{None}
use Rattle.ffv1_reads.specs.Head.{Head}
use Rattle.ffv1_reads.specs.Reads.{Reading, given, ◌>>=◌}
use Rattle.ffv1_avi.specs.declared.place.Extent.{Extent}
use Rattle.ffv1_avi.specs.declared.place.Extent.TheVariants.{FirstMovi, EveryRiff}
use Rattle.ffv1_avi.specs.declared.place.Place.{Place as AviPlace}
use Rattle.ffv1_avi.specs.Files as avi
use Rattle.ffv1_matroska.specs.declared.place.Place.{Place as MatroskaPlace}
use Rattle.ffv1_matroska.specs.Files as matroska
use Rattle.ffv1_matroska.specs.Late.{again_read}
use Rattle.ffv1_matroska.specs.Opened as beginning
use Rattle.ffv1_matroska.specs.Opened.{Opened}
use Rattle.ffv1_files.specs.declared.container.Scope.{Scope}
use Rattle.ffv1_files.specs.declared.container.Scope.TheVariants as scope
use Rattle.ffv1_files.specs.Places.{InAvi, InMatroska, Place}
use Rattle.ffv1_matroska.specs.declared.track.TrackNumbers.{TrackNumbers}

-- an AVI up to its frames
abbrev pub avi_opened : Extent → Reading (Head × Place)
avi_opened extent = avi.open_read extent >>= λ p. given (p.0, InAvi p.1)

-- where the frames of a Matroska file begin
abbrev pub matroska_begun : Opened → Reading (Head × Place)
matroska_begun o = given (o.track.head, InMatroska o.segment o.track.numbers o.place)

-- a Matroska file up to its frames, wherever its Tracks stand
abbrev pub matroska_opened : Reading (Head × Place)
matroska_opened = again_read >>= matroska_begun

-- the same of an input that can't begin again
abbrev pub matroska_once : Reading (Head × Place)
matroska_once = beginning.open_read >>= matroska_begun

-- the first byte of an ID of EBML, with which a Matroska file begins (RFC 8794, 11.2.1)
abbrev pub is_matroska : List ℕ → Bool
is_matroska [] = false
is_matroska (b ∷ bs) = b == 26

-- a file up to its frames: its head, and where they begin. What begins with that byte is read as
-- Matroska, and all else as AVI; up to its first movi a file is read as AVI alone
unfoldable pub open_read : Scope → Reading (Head × Place)
open_read scope.FirstMovi = avi_opened FirstMovi
open_read scope.Whole = λ text.
    (if is_matroska text then matroska_opened text else avi_opened EveryRiff text)

-- the same of an input that can't begin again
unfoldable pub once_read : Scope → Reading (Head × Place)
once_read scope.FirstMovi = avi_opened FirstMovi
once_read scope.Whole = λ text.
    (if is_matroska text then matroska_once text else avi_opened EveryRiff text)

-- a frame, and the place after it, of an AVI
abbrev pub avi_place : Option (List ℕ × AviPlace) → Option (List ℕ × Place)
avi_place None = None
avi_place (Some p) = Some (p.0, InAvi p.1)

-- of a Segment
abbrev pub matroska_place : Option ℕ → TrackNumbers → Option (List ℕ × MatroskaPlace) →
    Option (List ℕ × Place)
matroska_place segment track None = None
matroska_place segment track (Some p) = Some (p.0, InMatroska segment track p.1)

-- the next frame, and the place after it; none at the end
unfoldable pub frame_read : Place → Reading (Option (List ℕ × Place))
frame_read (InAvi place) = avi.frame_read place >>= λ o. given (avi_place o)
frame_read (InMatroska segment track place) =
    matroska.frame_read track place >>= λ o. given (matroska_place segment track o)

-- all frames from a position on
unfoldable pub frames_read : Place → Reading (List (List ℕ))
frames_read (InAvi place) = avi.frames_read place
frames_read (InMatroska segment track place) = matroska.frames_read track place

-- the frames, one after the other
abbrev pub more_frames : (Place → Reading (List (List ℕ))) → Option (List ℕ × Place) →
    Reading (List (List ℕ))
more_frames on None = given []
more_frames on (Some p) = on p.1 >>= λ frames. given (p.0 ∷ frames)

-- a file: its head and its frames
abbrev pub file_read : Scope → Reading (Head × List (List ℕ))
file_read scope = open_read scope >>= λ p. (frames_read p.1 >>= λ frames. given (p.0, frames))
