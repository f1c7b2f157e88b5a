-- What stands after the last RIFF of a file: nothing, or bytes with which neither an RIFF nor
-- another file begins.
use Rattle.std.specs.Prelude.{◌≡◌, ◌++◌, ◌<◌, ℕ, Bool, true, false, if◌then◌else◌, nat_le, List, []}
use Rattle.std.specs.Prelude.{length, take, drop, codes, Option, Some, None, Result, Ok, Err}
use Rattle.std.specs.Io.KnownBytes.{Consumes, IsAtEnd}
use Rattle.ffv1_wire.specs.Passage.{Passage}
use Rattle.ffv1_reads.specs.Behind.{begins_file}
use Rattle.ffv1_reads.specs.Ends.{ReadOrNone}
use Rattle.ffv1_reads.specs.Head.{Head}
use Rattle.ffv1_reads.specs.declared.fault.FileFault.{FileFault}
use Rattle.ffv1_avi.specs.declared.place.Extent.{Extent}
use Rattle.ffv1_avi.specs.declared.place.Extent.TheVariants.{FirstMovi, EveryRiff}
use Rattle.ffv1_avi.specs.declared.place.Open.{Open}
use Rattle.ffv1_avi.specs.declared.place.Open.TheVariants.{Sized, OpenRiff, OpenMovi}
use Rattle.ffv1_avi.specs.declared.place.Place.{Place}
use Rattle.ffv1_avi.specs.Files.{riff_begun}
use Rattle.ffv1_avi.specs.Opens.{open_found}
use Rattle.ffv1_avi.specs.Offsets.{ReadsUpTo}
use Rattle.ffv1_avi.specs.Places.{extent_of, is_open}
use Rattle.ffv1_avi.specs.Riffs.{RiffFile}
use Rattle.ffv1_avi.specs.Walk.{is_name}

-- an RIFF, or another file, begins with these bytes: RIFF, a size and a form; or the ID of EBML
-- (RFC 8794, 11.2.1)
abbrev pub begins_another : List ℕ → Bool
begins_another bytes =
    if is_name (take 4 bytes) (codes "RIFF") then nat_le 12 (length bytes)
    else begins_file (take 4 bytes)

-- what is left of others once they were looked at: of the first bytes of an RIFF nothing
abbrev pub looked_past : List ℕ → List ℕ
looked_past bytes = if is_name (take 4 bytes) (codes "RIFF") then [] else drop 4 bytes

-- a file of every RIFF with this head and these frames, and after it bytes with which neither an
-- RIFF nor another file begins, of which these were not looked at
pub record RiffFileThen (file : List ℕ) (head : Head) (frames : List (List ℕ)) (rest : List ℕ)
    : Type 0 where
  pub whole : List ℕ
  pub behind : List ℕ
  pub bytes : file ≡ whole ++ behind
  pub is : RiffFile whole head frames
  pub other : begins_another behind ≡ false
  pub left : rest ≡ looked_past behind

-- whether bytes stand at a position of the input: it ends there, or some were read
abbrev pub Stand : Option (List ℕ) → Option (List ℕ) → Bool → Type 0
Stand old new false = Consumes old new [] × IsAtEnd new
Stand old new true = (bytes : List ℕ) × (0 < length bytes) × Consumes old new bytes

-- the bytes of the file before others that stand after its end, after so many; none if it is the
-- end of the input
abbrev pub StandAfter : Option (List ℕ) → Option (List ℕ) → ℕ → Option ℕ → Type 0
StandAfter old new end None = Stand old new false
StandAfter old new end (Some after) = (after ≡ end) × Stand old new true

-- no RIFF begins at a place; in an RIFF or a movi without size, no chunk
abbrev pub OverAt : Open → Place → Option (List ℕ) → Option (List ℕ) → Type 0
OverAt Sized place old new = ReadOrNone (riff_begun place) old new None
OverAt OpenRiff place old new = ReadOrNone (open_found place) old new None
OverAt OpenMovi place old new = ReadOrNone (open_found place) old new None

-- the same of bytes that are left
abbrev pub IsOver : Open → Place → List ℕ → List ℕ → Type 0
IsOver Sized place text rest = riff_begun place text ≡ Ok (None, rest)
IsOver OpenRiff place text rest = open_found place text ≡ Ok (None, rest)
IsOver OpenMovi place text rest = open_found place text ≡ Ok (None, rest)

-- chunks were read whole from one position up to the end of an RIFF, where the frames end, or up to
-- that of the input in one without size; and what is told of the bytes that stand there
pub record EndsBehind (from : Place) (old new : Option (List ℕ)) (before : ℕ) (after : Option ℕ)
    : Type 0 where
  pub to : Place
  pub between : Option (List ℕ)
  pub end : ℕ
  pub chunks : ReadsUpTo from old between to before end
  pub movi : to.movi ≡ 0
  pub riff : to.open_in ≡ Sized → to.riff ≡ 0
  pub every : extent_of to ≡ EveryRiff
  pub over : OverAt to.open_in to between new
  pub told : StandAfter between new end after

-- the same, and whether the place is one in an RIFF or a movi without size
abbrev pub EndsOpen : Place → Option (List ℕ) → Option (List ℕ) → ℕ → Option ℕ → Bool → Type 0
EndsOpen from old new before after open_ended =
    (ends : EndsBehind from old new before after) × (open_ended ≡ is_open ends.to.open_in)

-- whether a reader came to an RIFF or a movi without size, after a call that came to the end; if
-- the first movi alone is read there is none
abbrev pub OpenEnd : Extent → Place → ℕ → Bool → Passage → Option ℕ → Bool → Type 0
OpenEnd FirstMovi from before was p after open_ended = was ≡ false → open_ended ≡ false
OpenEnd EveryRiff from before was p after open_ended =
    EndsOpen from p.old p.new before after open_ended

-- and after any call for a frame
abbrev pub OpenAfter : Place → ℕ → Bool → Passage → Result Bool FileFault → Option ℕ → Bool →
    Type 0
OpenAfter from before was p (Ok false) after open_ended =
    OpenEnd (extent_of from) from before was p after open_ended
OpenAfter from before was p (Ok true) after open_ended = open_ended ≡ was
OpenAfter from before was p (Err f) after open_ended = open_ended ≡ was

-- what a reader tells of bytes after the last RIFF after a call that came to the end: what was
-- found there; nothing if the first movi alone is read, and nothing more if it had come to the end
abbrev pub BehindEnd : Extent → Place → ℕ → Option ℕ → Passage → Option ℕ → Type 0
BehindEnd FirstMovi from before was p after = was ≡ None → after ≡ None
BehindEnd EveryRiff from before was p after = EndsBehind from p.old p.new before after

-- and after any call for a frame
abbrev pub BehindAfter : Place → ℕ → Option ℕ → Passage → Result Bool FileFault → Option ℕ →
    Type 0
BehindAfter from before was p (Ok false) after =
    BehindEnd (extent_of from) from before was p after
BehindAfter from before was p (Ok true) after = after ≡ was
BehindAfter from before was p (Err f) after = after ≡ was
