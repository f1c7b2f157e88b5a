-- What `info` writes of a file: what its first bytes say, and then the facts of its stream.
use Rattle.std.specs.Prelude.{◌≡◌, ◌⊎◌, ℕ, Bool, true, List, [], Option}
use Rattle.std.specs.Io.KnownBytes.{Appends, Keeps}
use Rattle.ffv1_wire.specs.Passage.{Passage, between}
use Rattle.ffv1_video.specs.Output.{Silent}
use Rattle.ffv1_video.specs.declared.fault.Fault.{Fault}
use Rattle.ffv1_video.specs.declared.fault.Fault.TheVariants as fault
use Rattle.ffv1_video.specs.declared.profile.Profile.{Profile}
use Rattle.ffv1_outline.specs.Beginnings.{IsBeginning}
use Rattle.ffv1_outline.specs.Outline.{outline_facts}
use Rattle.ffv1_outline.specs.declared.facts.Form.{Form}
use Rattle.ffv1_unpack.specs.Opens.{IsReadAgain}
use Rattle.ffv1_info.specs.StreamInfo.{GroupStops, StreamInfoDone, StreamInfoStops}

-- the first bytes of a file were read, and all of it is as it was to who reads it on; whether a
-- read failed there
pub record Begins (file : Option (List ℕ)) : Type 0 where
  pub bytes : List ℕ
  pub broken : Bool
  pub are : IsBeginning file broken bytes
  pub input : Option (List ℕ)
  pub same : Keeps file input

module _ (form : Form) (file : Option (List ℕ)) (output : Passage) where
  -- what they say was written; and then this stands of the input, the rest that is left of it, how
  -- many reads failed, and what was written behind
  pub record OutlineThen (Then : Passage → Passage → Type 0) : Type 0 where
    pub begins : Begins file
    pub written : Option (List ℕ)
    pub writes : Appends output.old written (outline_facts form begins.bytes)
    pub rest : Option (List ℕ)
    pub failures : ℕ
    pub behind : Then (between begins.input rest 0 failures)
        (between written output.new output.before output.after)

  -- what they say was not written whole
  pub record OutlineStops (f : Fault) : Type 0 where
    pub begins : Begins file
    pub stops : GroupStops [] (outline_facts form begins.bytes) output f

module _ (profile : Profile) (form : Form) (count : Bool) (file : Option (List ℕ))
    (output : Passage) where
  -- all facts were written
  abbrev pub InfoDone : Type 0
  InfoDone = OutlineThen form file output (StreamInfoDone profile form count)

  -- why it stops: memory for the first bytes was refused, and nothing was written; what they say
  -- was not written whole; or it was, and the facts of the stream are not written to their end
  abbrev pub InfoStops : Fault → Type 0
  InfoStops f =
      ((f ≡ fault.OutOfMemory) × Silent output) ⊎ OutlineStops form file output f
      ⊎ OutlineThen form file output (λ p q. StreamInfoStops profile form count p q f)

-- that a file lacks Tracks is, if its input can begin again, its fault as it is read again, where
-- this is left of it; of any other fault this says nothing
abbrev pub IsInfoReadAgain : Profile → Option (List ℕ) → Fault → Type 0
IsInfoReadAgain profile file f =
    (rest : Option (List ℕ)) × IsReadAgain profile true (between file rest 0 0) f
