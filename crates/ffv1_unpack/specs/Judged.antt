-- Judging each payload of a file: it codes a picture, or is refused, and its lines are written at
-- once. How far that goes, and why it goes no further.
use Rattle.std.specs.Prelude.{ℕ, Bool, List, [], ◌∷◌, ◌++◌, map, codes, decimal}
use Rattle.std.specs.Prelude.{Option, Some, None, ⊤}
use Rattle.std.proofs.Common.{suc}
use Rattle.ffv1_range.specs.declared.tally.Tally.{Tally}
use Rattle.ffv1_range.specs.Counts.{saturated}
use Rattle.ffv1_record.specs.Configuration.{Configuration}
use Rattle.ffv1_record.specs.Accepted.{Accepted}
use Rattle.ffv1_frame.specs.declared.fault.CodecFault.{CodecFault}
use Rattle.ffv1_frame.specs.declared.fault.CodecFault.TheVariants as codec_fault
use Rattle.ffv1_frame.specs.declared.fault.FrameFault.{FrameFault}
use Rattle.ffv1_video.specs.declared.fault.Fault.{Fault}
use Rattle.ffv1_unpack.specs.declared.frame_line.FrameLine.TheVariants as line
use Rattle.ffv1_video.specs.Faults.{of_codec}
use Rattle.ffv1_unpack.specs.Stream.{CodedFrame, IsCoded, IsRefusedPayload}
use Rattle.ffv1_unpack.specs.FrameLines.{again_line, frame_line, place_text}

-- ---- payloads that are judged

-- a payload codes a frame; or it has this first fault, after so much was decided; or it has no
-- bytes, and the frame before is repeated
pub data Judged : Type 0 where
  Decoded : CodedFrame → Judged
  Refused : List ℕ → FrameFault → Tally → Judged
  Repeats : Judged

abbrev pub IsJudged : Accepted → Judged → Type 0
IsJudged a (Decoded f) = IsCoded a f
IsJudged a (Refused payload f tally) = IsRefusedPayload a payload f tally
IsJudged a Repeats = ⊤

abbrev pub payload_of : Judged → List ℕ
payload_of (Decoded f) = f.payload
payload_of (Refused payload f tally) = payload
payload_of Repeats = []

abbrev pub payloads_of : List Judged → List (List ℕ)
payloads_of js = map payload_of js

-- the fault of one that is refused
abbrev pub refusal_of : Judged → Option Fault
refusal_of (Decoded f) = None
refusal_of (Refused payload f tally) = Some (of_codec f.fault)
refusal_of Repeats = None

abbrev pub with_refusal : Option Fault → List Fault → List Fault
with_refusal None faults = faults
with_refusal (Some f) faults = f ∷ faults

-- the faults of those that are refused, in turn
abbrev pub refusals : List Judged → List Fault
refusals [] = []
refusals (j ∷ js) = with_refusal (refusal_of j) (refusals js)

-- ---- the lines of them

-- the number and the name of a fault of a payload
unfoldable pub fault_word : CodecFault → List ℕ
fault_word codec_fault.OutOfMemory = codes "2 OutOfMemory"
fault_word codec_fault.BadStart = codes "3 BadStart"
fault_word codec_fault.SymbolTooLong = codes "4 SymbolTooLong"
fault_word codec_fault.Colour = codes "7 Colour"
fault_word codec_fault.Overread = codes "8 Overread"
fault_word codec_fault.Ending = codes "9 Ending"
fault_word codec_fault.BitsEnd = codes "27 BitsEnd"
fault_word codec_fault.BadCode = codes "28 BadCode"
fault_word codec_fault.Padding = codes "29 Padding"
fault_word codec_fault.NotKey = codes "30 NotKey"
fault_word codec_fault.Place = codes "31 Place"
fault_word codec_fault.SetIndex = codes "32 SetIndex"
fault_word codec_fault.Structure = codes "33 Structure"
fault_word codec_fault.Aspect = codes "34 Aspect"
fault_word codec_fault.Footer = codes "35 Footer"
fault_word codec_fault.Leftover = codes "36 Leftover"
fault_word codec_fault.SliceParity = codes "37 SliceParity"
fault_word codec_fault.SliceStatus = codes "38 SliceStatus"
fault_word codec_fault.Overlap = codes "39 Overlap"
fault_word codec_fault.SliceTooLong = codes "40 SliceTooLong"
fault_word codec_fault.InfoDiffers = codes "41 InfoDiffers"
fault_word codec_fault.Sink = codes "42 Sink"

-- the number of a frame that is refused, and its fault
unfoldable pub refused_line : ℕ → CodecFault → List ℕ
refused_line i f =
    codes "frame " ++ decimal i ++ codes ": fault " ++ fault_word f ++ codes "\n"

-- the lines of one, by its number; if it is refused, also that of the place, if it is asked for
abbrev pub judged_line : Bool → Configuration → ℕ → Judged → List ℕ
judged_line place c i (Decoded f) = frame_line line.Sizes c i f.payload f.tally
judged_line place c i (Refused payload f tally) =
    refused_line i f.fault ++ place_text place i f tally
judged_line place c i Repeats = again_line line.Sizes i

-- the lines of those from a number on
abbrev pub judged_from : Bool → Configuration → ℕ → List Judged → List ℕ
judged_from place c i [] = []
judged_from place c i (j ∷ js) =
    judged_line place c (saturated i) j ++ judged_from place c (suc i) js

-- the lines of all
abbrev pub judged_lines : Bool → Configuration → List Judged → List ℕ
judged_lines place c js = judged_from place c 0 js

-- how many frames there were, and how many of them were refused
unfoldable pub counts_line : ℕ → ℕ → List ℕ
counts_line n m = codes "frames " ++ decimal n ++ codes " faults " ++ decimal m ++ codes "\n"
