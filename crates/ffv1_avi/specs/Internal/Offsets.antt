-- Up to which chunk the steps of a reader go: the frames of a movi, the lists movi of RIFF, and the
-- chunks before the first one.
use Rattle.std.specs.Prelude.{◌≡◌, ◌++◌, ◌-◌, ℕ, Bool, false, if◌then◌else◌, length, nat_lt}
use Rattle.std.specs.Prelude.{List, Option, Some, None, Result, Ok, Err, ⊤}
use Rattle.std.specs.Io.KnownBytes.{Consumes}
use Rattle.ffv1_wire.specs.Passage.{Passage}
use Rattle.ffv1_reads.specs.Reads.{Kept, Read, given, ◌>>=◌}
use Rattle.ffv1_reads.specs.declared.fault.FileFault.{FileFault}
use Rattle.ffv1_avi.specs.declared.chunk.Entry.{Entry}
use Rattle.ffv1_avi.specs.declared.place.Extent.{Extent}
use Rattle.ffv1_avi.specs.declared.place.Extent.TheVariants.{FirstMovi, EveryRiff}
use Rattle.ffv1_avi.specs.declared.place.Place.{Place}
use Rattle.ffv1_avi.specs.declared.stream.Sizes.{Sizes}
use Rattle.ffv1_avi.specs.Behind.{EndsOpen}
use Rattle.ffv1_avi.specs.Opens.{visit_movi}
use Rattle.ffv1_avi.specs.Internal.Views.{head_with}
use Rattle.ffv1_avi.specs.Places.{frame_at, movi_at}
use Rattle.ffv1_avi.specs.Names.{rule_of}
use Rattle.ffv1_avi.specs.Walk.{entry_in}
use Rattle.ffv1_avi.specs.Offsets.{ReadsTo, ReadsUpTo, StopsAt, StopsIn, chunk_taken}
use Rattle.ffv1_avi.specs.Padding.{content}
use Rattle.ffv1_avi.specs.Offsets.{Start, BeforeFrames}
use Rattle.ffv1_avi.specs.Offsets.{movi_left, riff_at_size, riff_left, spot_taken}

-- the frame that was found is in a chunk that begins at a position
pub record FrameBegins (to : Place) (old new : Option (List ℕ)) (found : ℕ × ℕ) : Type 0 where
  pub between : Option (List ℕ)
  pub entry : Entry
  pub header : Read (entry_in (rule_of to.names) to.movi) old between (Some entry)
  pub visit : Read (visit_movi to.names tt entry) between new (tt, Some found)

-- up to the chunk of the frame that was found in movi; or to the end of that
abbrev pub FindsInMovi : Place → Passage → Result (Option (ℕ × ℕ)) FileFault → ℕ → ℕ → Type 0
FindsInMovi place p (Ok None) before after =
    ReadsUpTo place p.old p.new (movi_left place 0) before after
FindsInMovi place p (Ok (Some found)) before after =
    (to : Place) × (between : Option (List ℕ)) × FrameBegins to between p.new found
    × (frame_at to found.1 ≡ frame_at place found.1)
    × ReadsUpTo place p.old between to before after
FindsInMovi place p (Err f) before after = StopsAt place p f before after

-- up to the next movi of RIFF, which was entered; or to the end of RIFF
abbrev pub SeeksMovi : Place → Passage → Result (Option (ℕ × ℕ)) FileFault → ℕ → ℕ → Type 0
SeeksMovi place p (Ok None) before after =
    ReadsUpTo (riff_left place place.riff) p.old p.new (riff_left place 0) before after
SeeksMovi place p (Ok (Some movi)) before after =
    ReadsUpTo (riff_left place place.riff) p.old p.new (movi_at place movi) before after
SeeksMovi place p (Err f) before after = StopsAt (riff_left place place.riff) p f before after

-- up to the next movi, or RIFF
abbrev pub MovesTo : Place → Passage → Result (Option Place) FileFault → ℕ → ℕ → Type 0
MovesTo place p (Ok None) before after = ⊤
MovesTo place p (Ok (Some next)) before after = ReadsUpTo place p.old p.new next before after
MovesTo place p (Err f) before after = StopsAt place p f before after

-- what a call that came to the end tells of bytes after it, and whether an RIFF or a movi there has
-- no size; nothing if the first movi alone is read
abbrev pub TellsBehind : Extent → Place → Option (List ℕ) → Option (List ℕ) → ℕ → Option ℕ → Bool →
    Type 0
TellsBehind FirstMovi from old new before after open_ended =
    (after ≡ None) × (open_ended ≡ false)
TellsBehind EveryRiff from old new before after open_ended =
    EndsOpen from old new before after open_ended

-- a frame of so many bytes comes next, in a chunk of which the header was read
pub record FrameStarts (to : Place) (old new : Option (List ℕ)) (size : ℕ) (next : Place)
    : Type 0 where
  pub bytes : List ℕ
  pub consumed : Consumes old new bytes
  pub is : (rest : List ℕ) →
      chunk_taken to (bytes ++ rest) ≡ (content Kept size >>= λ bytes. given next) rest
  pub counted : length bytes ≡ 8

-- up to the chunk of the next frame
abbrev pub FindsFrom : Place → Passage → Result (Option (ℕ × Place)) FileFault → ℕ → ℕ → Type 0
FindsFrom place p (Ok None) before after = ⊤
FindsFrom place p (Ok (Some found)) before after =
    (to : Place) × (between : Option (List ℕ)) × FrameStarts to between p.new found.0 found.1
    × ReadsUpTo place p.old between to before after
FindsFrom place p (Err f) before after = StopsAt place p f before after

-- how many bytes a chunk without a frame took in an RIFF or a movi without size, from one place to
-- the next: of a movi its header and its own name
abbrev pub step_size : Place → Place → ℕ
step_size place next = if nat_lt 0 next.movi then 12 else place.input - next.input

-- chunks of RIFF up to the first movi, with what the stream says that counts
abbrev pub TopFrom : Extent → ℕ → Passage → List ℕ → Result (Sizes × Place) FileFault → ℕ → ℕ →
    Type 0
TopFrom extent size p bytes (Ok n) before after =
    ReadsTo (spot_taken extent) (riff_at_size extent size) p.old p.new
    (BeforeFrames (head_with n.0 bytes) n.1) before after
TopFrom extent size p bytes (Err f) before after =
    StopsIn (spot_taken extent) (riff_at_size extent size) p f before after

-- a file up to its first movi
abbrev pub OpensFrom : Extent → Passage → List ℕ → Result (Sizes × Place) FileFault → ℕ → Type 0
OpensFrom extent p bytes (Ok n) offset =
    ReadsTo (spot_taken extent) Start p.old p.new (BeforeFrames (head_with n.0 bytes) n.1) 0 offset
OpensFrom extent p bytes (Err f) offset = StopsIn (spot_taken extent) Start p f 0 offset
