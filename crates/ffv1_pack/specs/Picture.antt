-- The first picture of a text, if it is mono.
use Rattle.std.specs.Prelude.{◌≡◌, ℕ, ◌*◌, ◌≤◌, if◌then◌else◌, List, [], ◌∷◌, length, Option}
use Rattle.std.specs.Prelude.{Some, None, Result, Ok, Err, Bool, true, false}
use Rattle.ffv1_y4m.specs.Header.{header_of}
use Rattle.ffv1_y4m.specs.Pictures.{picture_read}
use Rattle.ffv1_y4m.specs.Sequence.{Outcome}
use Rattle.ffv1_y4m.specs.declared.head.VideoHead.{VideoHead}
use Rattle.ffv1_reads.specs.Known.{Known}
use Rattle.ffv1_video.specs.declared.fault.Fault.{Fault}
use Rattle.ffv1_y4m.specs.declared.fault.Fault.TheVariants as y4m_fault
use Rattle.ffv1_video.specs.declared.fault.Fault.TheVariants as fault
use Rattle.ffv1_video.specs.Faults.{is_text_fault, of_y4m}

-- a mono picture: its sizes, and its samples row by row
pub record Mono : Type 0 where
  pub width : ℕ
  pub height : ℕ
  pub samples : List ℕ

-- sizes of 1 to 8192, and as many samples as their product
pub record IsMono (m : Mono) : Type 0 where
  pub some_wide : 1 ≤ m.width
  pub wide : m.width ≤ 8192
  pub some_high : 1 ≤ m.height
  pub high : m.height ≤ 8192
  pub whole : length m.samples ≡ m.width * m.height

-- one reading after the other: the first fault, and what is left of the text
abbrev pub and_then : {X Y : Type 0} → Outcome X →
    (X × List ℕ → Result (Y × List ℕ) (Fault × List ℕ)) →
    Result (Y × List ℕ) (Fault × List ℕ)
and_then (Ok x) next = next x
and_then (Err f) next = Err (of_y4m f.0, f.1)

-- the one plane of a picture, if there is one
abbrev pub mono_in : VideoHead → Option (List (List ℕ)) → List ℕ →
    Result (Mono × List ℕ) (Fault × List ℕ)
mono_in head None rest = Err (fault.NoFrames, rest)
mono_in head (Some []) rest = Err (fault.NoFrames, rest)
mono_in head (Some (samples ∷ more)) rest =
    Ok (record { width = head.width; height = head.height; samples = samples }, rest)

-- the first picture after a header, which is judged whole before it
abbrev pub picture_behind : ℕ → VideoHead → List ℕ → Result (Mono × List ℕ) (Fault × List ℕ)
picture_behind depth head text =
    if head.chroma_planes then Err (fault.Text y4m_fault.Unsupported, text)
    else and_then (picture_read depth head text) (λ read. mono_in head read.0 read.1)

-- the first picture of a text
unfoldable pub mono_of : List ℕ → Result (Mono × List ℕ) (Fault × List ℕ)
mono_of text =
    and_then (header_of 8 text) (λ said. picture_behind said.0.depth said.0.head said.1)

-- if the text is known, it reads as this picture, with this left
abbrev pub ReadsMono : Option (List ℕ) → Option (List ℕ) → Mono → Type 0
ReadsMono old new m = Known old new (λ text rest. mono_of text ≡ Ok (m, rest))

-- if the text is known, it reads as this fault, with this left
abbrev pub FaultsMono : Option (List ℕ) → Option (List ℕ) → Fault → Type 0
FaultsMono old new f = Known old new (λ text rest. mono_of text ≡ Err (f, rest))

-- the faults that reading one has, whatever the text
abbrev pub is_mono_fault : Fault → Bool
is_mono_fault fault.OutOfMemory = true
is_mono_fault fault.Read = true
is_mono_fault fault.NoFrames = true
is_mono_fault (fault.Text f) = is_text_fault f
is_mono_fault f = false
