-- What a reader of pictures knows, and what a call of `next` answers and leaves.
use Rattle.std.specs.Prelude.{◌≡◌, ℕ, Bool, true, false, List, map, Option, Some, None, Result, Ok}
use Rattle.std.specs.Prelude.{Err, [], ◌∷◌, ◌≤◌}
use Rattle.std.specs.declared.vec.Vec.{Vec}
use Rattle.std.specs.Vec.{vec_capacity}
use Rattle.ffv1_y4m.specs.declared.head.DeepHead.{DeepHead}
use Rattle.ffv1_y4m.specs.declared.head.VideoHead.{VideoHead}
use Rattle.ffv1_y4m.specs.declared.fault.Fault.{Fault}
use Rattle.ffv1_y4m.specs.declared.fault.Fault.TheVariants as fault
use Rattle.ffv1_y4m.specs.Passage.{Passage}
use Rattle.ffv1_y4m.specs.Reads.{Answers}
use Rattle.ffv1_y4m.specs.Sequence.{Reading}
use Rattle.ffv1_y4m.specs.VideoHead.{IsSized, colour_head}

-- a reader of YUV4MPEG2: the head that it read, the depth, and the fault that it met
pub record Y4mReading : Type 0 where
  pub head : VideoHead
  pub depth : ℕ
  pub failed : Option Fault

-- a reader of PPM: the greatest depth that it reads, the head that it read, the depth, whether the
-- samples of an image come next, and the fault that it met
pub record PpmReading : Type 0 where
  pub most : ℕ
  pub head : VideoHead
  pub depth : ℕ
  pub begun : Bool
  pub failed : Option Fault

-- what a reader's header says
abbrev pub said_by : Y4mReading → DeepHead
said_by r = record { head = r.head; depth = r.depth }

-- what an image's header says
abbrev pub image_said : PpmReading → DeepHead
image_said r = record { head = r.head; depth = r.depth }

-- the samples of planes
abbrev pub samples_of : {A : Type 0} → List (Vec ℕ A) → List (List ℕ)
samples_of planes = map (λ plane. plane.items) planes

-- the picture that a call of `next` gave: these planes, or none
abbrev pub shown : {A : Type 0} → List (Vec ℕ A) → Bool → Option (List (List ℕ))
shown planes false = None
shown planes true = Some (samples_of planes)

-- a call on a reader that may have met a fault: that fault again, of no byte; else what the text
-- reads as
abbrev pub NextAnswers : {X Y : Type 0} → Option Fault → (Y → X) → Reading X → (List ℕ → Type 0) →
    Passage → Result Y Fault → Type 0
NextAnswers (Some f) view reading grows p r = (r ≡ Err f) × (p.new ≡ p.old) × (p.after ≡ p.before)
NextAnswers None view reading grows p r = Answers view reading grows p r

-- planes that were lent: if no picture was read for the input's end or an earlier fault, they
-- are as they were
abbrev pub Lent : {A : Type 0} → Option Fault → A → A → Result Bool Fault → Type 0
Lent (Some f) old new r = new ≡ old
Lent None old new (Ok false) = new ≡ old
Lent None old new (Ok true) = Unit {0}
Lent None old new (Err f) = Unit {0}

-- the fault that a reader has met after a call
abbrev pub failing : {Y : Type 0} → Option Fault → Result Y Fault → Option Fault
failing (Some f) r = Some f
failing None (Ok y) = None
failing None (Err f) = Some f

-- the head of a reader of PPM
pub record IsColour (h : VideoHead) : Type 0 where
  pub sized : IsSized h
  pub colour : h ≡ colour_head h.width h.height

-- vectors with room for planes of these sizes
abbrev pub HasRoom : {A : Type 0} → List ℕ → List (Vec ℕ A) → Type 0
HasRoom [] planes = Unit {0}
HasRoom (size ∷ sizes) [] = ⊥
HasRoom (size ∷ sizes) (plane ∷ planes) = (size ≤ vec_capacity plane) × HasRoom sizes planes

abbrev pub is_memory : Fault → Bool
is_memory fault.OutOfMemory = true
is_memory f = false

-- no memory was refused
abbrev pub NoWant : {X : Type 0} → Result X Fault → Type 0
NoWant (Ok x) = Unit {0}
NoWant (Err f) = is_memory f ≡ false

-- a refusal is of this kind
abbrev pub OnFault : {X : Type 0} → (Fault → Type 0) → Result X Fault → Type 0
OnFault are (Ok x) = Unit {0}
OnFault are (Err f) = are f

-- the faults of a header
abbrev pub IsHeaderFault : Fault → Type 0
IsHeaderFault fault.Read = Unit {0}
IsHeaderFault fault.Header = Unit {0}
IsHeaderFault fault.Tag = Unit {0}
IsHeaderFault fault.Unsupported = Unit {0}
IsHeaderFault f = ⊥

-- the faults of a header of PPM
abbrev pub IsLineFault : Fault → Type 0
IsLineFault fault.Read = Unit {0}
IsLineFault fault.Header = Unit {0}
IsLineFault f = ⊥

-- the faults of a picture of YUV4MPEG2
abbrev pub IsPictureFault : Fault → Type 0
IsPictureFault fault.OutOfMemory = Unit {0}
IsPictureFault fault.Read = Unit {0}
IsPictureFault fault.FrameLine = Unit {0}
IsPictureFault fault.FrameTruncated = Unit {0}
IsPictureFault fault.SampleTooLarge = Unit {0}
IsPictureFault f = ⊥

-- the faults of an image of PPM
abbrev pub IsImageFault : Fault → Type 0
IsImageFault fault.OutOfMemory = Unit {0}
IsImageFault fault.Read = Unit {0}
IsImageFault fault.Header = Unit {0}
IsImageFault fault.FrameTruncated = Unit {0}
IsImageFault fault.SampleTooLarge = Unit {0}
IsImageFault fault.FormatChanged = Unit {0}
IsImageFault f = ⊥
