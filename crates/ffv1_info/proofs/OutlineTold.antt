-- What the first bytes of a file say is written, and then the facts of its stream.
use Rattle.std.proofs.Common.{◌≡◌, ℕ, Bool, true, Option, Some, None, Err, Ok, List, inl, inr, subst, sym}
use Rattle.std.specs.Io.KnownBytes.{Keeps}
use Rattle.ffv1_wire.specs.Passage.{Passage, between}
use Rattle.ffv1_video.specs.declared.fault.Fault.{Fault}
use Rattle.ffv1_reads.specs.declared.fault.FileFault.TheVariants as file_fault
use Rattle.ffv1_video.specs.declared.fault.Fault.TheVariants as fault
use Rattle.ffv1_video.specs.declared.profile.Profile.{Profile}
use Rattle.ffv1_outline.specs.Beginnings.{IsBeginning}
use Rattle.ffv1_outline.specs.Outline.{outline_facts}
use Rattle.ffv1_outline.specs.declared.facts.Form.{Form}
use Rattle.ffv1_unpack.specs.Internal.Told.{WritesFrame}
use Rattle.ffv1_unpack.specs.Opens.{IsReadAgain}
use Rattle.ffv1_info.specs.Info.{Begins, InfoDone, InfoStops, IsInfoReadAgain, OutlineThen}
use Rattle.ffv1_info.specs.StreamInfo.{StreamInfoDone, StreamInfoStops}
use Rattle.ffv1_unpack.proofs.ReadAgain.{line_again}
use Rattle.ffv1_info.proofs.Groups.{group_stops}

module _ (file : Option (List ℕ)) (bytes first : List ℕ) (broken : Bool) (input : Option (List ℕ)) (is : bytes ≡ first) (are : IsBeginning file broken first) (same : Keeps file input) where
  abbrev pub begun : Begins file
  begun = record { bytes = bytes; broken = broken; are = subst (IsBeginning file broken) (sym is) are; input = input; same = same }

module _ (form : Form) (file : Option (List ℕ)) (begins : Begins file) (o0 o1 o2 i2 : Option (List ℕ)) (ob om oa z ia : ℕ) where
  then : (Then : Passage → Passage → Type 0) (done : Unit {0}) → WritesFrame (outline_facts form begins.bytes) (between o0 o1 ob om) (Ok done) → z ≡ 0 → Then (between begins.input i2 z ia) (between o1 o2 om oa) →
      OutlineThen form file (between o0 o2 ob oa) Then
  then Then done wrote none h = record {
    begins = begins;
    written = o1;
    writes = wrote.1;
    rest = i2;
    failures = ia;
    behind = subst (λ n. Then (between begins.input i2 n ia) (between o1 o2 ob oa)) none (subst (λ n. Then (between begins.input i2 z ia) (between o1 o2 n oa)) wrote.0 h);
  }

  module _ (profile : Profile) (count : Bool) (done : Unit {0}) (wrote : WritesFrame (outline_facts form begins.bytes) (between o0 o1 ob om) (Ok done)) (none : z ≡ 0) where
    pub all_told : StreamInfoDone profile form count (between begins.input i2 z ia) (between o1 o2 om oa) → InfoDone profile form count file (between o0 o2 ob oa)
    all_told h = then (StreamInfoDone profile form count) done wrote none h

    pub rest_stops : (f : Fault) → StreamInfoStops profile form count (between begins.input i2 z ia) (between o1 o2 om oa) f → InfoStops profile form count file (between o0 o2 ob oa) f
    rest_stops f h = inr (inr (then (λ p q. StreamInfoStops profile form count p q f) done wrote none h))

pub outline_stops : (profile : Profile) (form : Form) (count : Bool) (file : Option (List ℕ)) (begins : Begins file) (o0 o1 : Option (List ℕ)) (ob om : ℕ) (f : Fault) → WritesFrame (outline_facts form begins.bytes) (between o0 o1 ob om) (Err f) →
    InfoStops profile form count file (between o0 o1 ob om) f
outline_stops profile form count file begins o0 o1 ob om f h = inr (inl (record { begins = begins; stops = group_stops (outline_facts form begins.bytes) o0 o1 ob om f h }))

-- what is read of the reader that begins with the first bytes is read of the file
again_there : (profile : Profile) (file input rest : Option (List ℕ)) (before after : ℕ) → Keeps file input → IsReadAgain profile true (between input rest before after) (fault.File file_fault.NoTracks) → IsReadAgain profile true (between file rest 0 0) (fault.File file_fault.NoTracks)
again_there profile None input rest before after same h = λ on. tt
again_there profile (Some text) None rest before after same h = absurd same
again_there profile (Some text) (Some all) rest before after same h = subst (λ z. IsReadAgain profile true (between (Some z) rest 0 0) (fault.File file_fault.NoTracks)) same h

pub file_again : (profile : Profile) (file input rest : Option (List ℕ)) (before after : ℕ) (begins : Bool) (f : Fault) → Keeps file input → begins ≡ true → IsReadAgain profile begins (between input rest before after) f → IsInfoReadAgain profile file f
file_again profile file input rest before after begins (fault.File file_fault.NoTracks) same able h = (rest, again_there profile file input rest before after same (λ on. h able))
file_again profile file input rest before after begins f same able h = (None, tt)

-- a line that was not written
pub line_info_again : (profile : Profile) (file : Option (List ℕ)) (line : List ℕ) (written : Passage) (f : Fault) → WritesFrame line written (Err f) → IsInfoReadAgain profile file f
line_info_again profile file line written f h = (None, line_again profile true (between file None 0 0) line written f h)
