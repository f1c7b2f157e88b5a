-- Unpacking all of a file that may be damaged: which pictures are written of what it gives, and
-- what is told of it. For a frame that is refused the last good picture is written again.
use Rattle.std.specs.Prelude.{ℕ, ◌==◌, ◌&&◌, Bool, true, false, not, List, [], ◌∷◌, ◌++◌}
use Rattle.std.specs.Prelude.{length, codes, decimal, Option, Some, None}
use Rattle.std.proofs.Common.{suc}
use Rattle.ffv1_range.specs.Counts.{saturated}
use Rattle.ffv1_codec.specs.SliceList.{Said}
use Rattle.ffv1_video.specs.declared.fault.Fault.{Fault}
use Rattle.ffv1_video.specs.declared.fault.Fault.TheVariants as fault
use Rattle.ffv1_video.specs.Faults.{of_avi, of_codec}
use Rattle.ffv1_unpack.specs.Judged.{Decoded, Judged, Refused, Repeats, refused_line}
use Rattle.ffv1_unpack.specs.JudgedItems.{JudgedItem, OfFrame, ToldAt, frames_of, told_line}
use Rattle.ffv1_unpack.specs.Stream.{Again, Coded, CodedFrame, Frame, last_of, those}

-- ---- what each gives, by those before it

abbrev pub each_from : {X Y : Type 0} → (List X → X → List Y) → List X → List X → List Y
each_from gives before [] = []
each_from gives before (x ∷ xs) = gives before x ++ each_from gives (before ++ (x ∷ [])) xs

abbrev pub each : {X Y : Type 0} → (List X → X → List Y) → List X → List Y
each gives xs = each_from gives [] xs

-- ---- the pictures

-- the frame that an item is, if it is decoded
abbrev pub good_of : JudgedItem → List CodedFrame
good_of (OfFrame (Decoded f)) = f ∷ []
good_of (OfFrame (Refused payload f tally)) = []
good_of (OfFrame Repeats) = []
good_of (ToldAt f offset) = []

-- a frame that has no fault, as an item
abbrev pub judged_sound : Frame → Judged
judged_sound (Coded f) = Decoded f
judged_sound Again = Repeats

abbrev pub of_sound : Frame → JudgedItem
of_sound f = OfFrame (judged_sound f)

-- those that are decoded
abbrev pub good_frames : List JudgedItem → List CodedFrame
good_frames [] = []
good_frames (x ∷ xs) = good_of x ++ good_frames xs

-- the frame whose picture is written for an item: its own; or the last good one again if it is
-- refused, or has no bytes, and none if there is no such
abbrev pub picture_for : List JudgedItem → JudgedItem → List CodedFrame
picture_for before (OfFrame (Decoded f)) = f ∷ []
picture_for before (OfFrame (Refused payload f tally)) = those (last_of (good_frames before))
picture_for before (OfFrame Repeats) = those (last_of (good_frames before))
picture_for before (ToldAt f offset) = []

-- the frames whose pictures are written
abbrev pub shown : List JudgedItem → List CodedFrame
shown xs = each picture_for xs

-- how many frames come before the first good one
abbrev pub leading : List JudgedItem → ℕ
leading [] = 0
leading (OfFrame (Decoded f) ∷ xs) = 0
leading (OfFrame (Refused payload f tally) ∷ xs) = suc (leading xs)
leading (OfFrame Repeats ∷ xs) = suc (leading xs)
leading (ToldAt f offset ∷ xs) = leading xs

-- ---- what is told

-- two frames say the same structure and the same aspect
abbrev pub says_same : Said → Said → Bool
says_same s t =
    (s.structure == t.structure) && ((s.sar_num == t.sar_num) && (s.sar_den == t.sar_den))

-- what the first of these says
abbrev pub said_of : List CodedFrame → Option Said
said_of [] = None
said_of (f ∷ fs) = Some f.said

-- a frame says something else than the header of the text, which says what the first good one says:
-- YUV4MPEG2 has one header, and images of PPM say neither structure nor aspect
abbrev pub differs : Bool → Option Said → Said → Bool
differs true header said = false
differs false None said = false
differs false (Some header) said = not (says_same said header)

abbrev pub is_changed : Bool → List JudgedItem → CodedFrame → Bool
is_changed ppm before f = differs ppm (said_of (good_frames before)) f.said

-- the fault of that
abbrev pub changed_fault : Bool → Option Fault
changed_fault false = None
changed_fault true = Some fault.FormatChanged

-- the fault of an item, if it has one
abbrev pub fault_for : Bool → List JudgedItem → JudgedItem → Option Fault
fault_for ppm before (OfFrame (Decoded f)) = changed_fault (is_changed ppm before f)
fault_for ppm before (OfFrame (Refused payload f tally)) = Some (of_codec f.fault)
fault_for ppm before (OfFrame Repeats) = None
fault_for ppm before (ToldAt f offset) = Some (of_avi f)

-- those of all, in turn
abbrev pub salvage_faults : Bool → List JudgedItem → List Fault
salvage_faults ppm xs = each (λ before x. those (fault_for ppm before x)) xs

-- the line of a frame that says something else than the header
unfoldable pub changed_line : ℕ → List ℕ
changed_line i = codes "frame " ++ decimal i ++ codes ": fault 71 FormatChanged\n"

abbrev pub changed_text : ℕ → Bool → List ℕ
changed_text i false = []
changed_text i true = changed_line i

-- the line of an item, where the next frame has this number; a frame that is good has none, nor has
-- one of no bytes
abbrev pub line_numbered : Bool → ℕ → List JudgedItem → JudgedItem → List ℕ
line_numbered ppm i before (OfFrame (Decoded f)) = changed_text i (is_changed ppm before f)
line_numbered ppm i before (OfFrame (Refused payload f tally)) = refused_line i f.fault
line_numbered ppm i before (OfFrame Repeats) = []
line_numbered ppm i before (ToldAt f offset) = told_line offset f

abbrev pub line_for : Bool → List JudgedItem → JudgedItem → List ℕ
line_for ppm before x = line_numbered ppm (saturated (length (frames_of before))) before x

-- the lines of all
abbrev pub salvage_lines : Bool → List JudgedItem → List ℕ
salvage_lines ppm xs = each (line_for ppm) xs
