-- A file is opened, or not.
use Rattle.std.proofs.Common.{◌≡◌, ◌⊎◌, refl, ℕ, Bool, List, Option, Some, None, inl, inr, ap, sym, subst, ◌∙◌}
use Rattle.ffv1_wire.specs.Failures.{one_more}
use Rattle.ffv1_wire.specs.Passage.{Passage}
use Rattle.ffv1_record.specs.Accepted.{Accepted}
use Rattle.ffv1_record.specs.Reading.{IsRefused, ReachesSets}
use Rattle.ffv1_record.specs.declared.fault.RecordFault.{RecordFault}
use Rattle.ffv1_record.specs.declared.fault.RecordFault.TheVariants as record_fault
use Rattle.ffv1_files.specs.Again.{AgainFails, AgainWants, StopsAgain, StopsOpening}
use Rattle.ffv1_files.specs.Answers as files
use Rattle.ffv1_files.specs.Answers.{ReadFails, WantsMore}
use Rattle.ffv1_files.specs.Endings.{opening_endings}
use Rattle.ffv1_files.specs.Places.{Place}
use Rattle.ffv1_files.specs.Readers.{Standing}
use Rattle.ffv1_files.specs.Files.{once_read, open_read}
use Rattle.ffv1_files.specs.declared.container.Scope.TheVariants.{Whole}
use Rattle.ffv1_files.proofs.Answering.{known_map}
use Rattle.ffv1_reads.specs.Known.{Known}
use Rattle.ffv1_reads.specs.Reads.{Kept}
use Rattle.ffv1_reads.specs.declared.fault.FileFault.TheVariants as file_fault
use Rattle.ffv1_reads.specs.Head.{Head}
use Rattle.ffv1_reads.specs.declared.fault.FileFault.{FileFault}
use Rattle.ffv1_video.specs.declared.profile.Profile.{Profile}
use Rattle.ffv1_video.specs.Profiles.{greatest_depth, record_profile, scope_in}
use Rattle.ffv1_video.specs.declared.fault.Fault.{Fault}
use Rattle.ffv1_video.specs.declared.fault.Fault.TheVariants as fault
use Rattle.ffv1_video.specs.Faults.{Cause, cause_of, of_avi, of_record}
use Rattle.ffv1_video.specs.Faults.Cause.{Reading, Writing, Memory, Content}
use Rattle.ffv1_unpack.specs.Play.{FaultsOpening, FaultsRead, LacksStream}
use Rattle.ffv1_unpack.specs.Opens.{HasSoundRecord, OpensKnown, LacksOpening, LacksOpeningBy, OpeningKeeps, OpeningWants}
use Rattle.ffv1_unpack.specs.Internal.Opens.{OpensStream, stream_of}
use Rattle.ffv1_unpack.specs.Internal.Told.{FileStopsBy}
use Rattle.ffv1_unpack.proofs.FileSteps.{file_stops}

record_cause : (r : RecordFault) → (r ≡ record_fault.OutOfMemory) ⊎ (cause_of (of_record r) ≡ Content)
record_cause record_fault.StateTable = inr refl
record_cause record_fault.OutOfMemory = inl refl
record_cause record_fault.BadStart = inr refl
record_cause record_fault.SymbolTooLong = inr refl
record_cause record_fault.Runs = inr refl
record_cause record_fault.Contexts = inr refl
record_cause record_fault.Size = inr refl
record_cause record_fault.Grid = inr refl
record_cause record_fault.ChromaEdge = inr refl
record_cause record_fault.Subsampling = inr refl
record_cause record_fault.Sets = inr refl
record_cause record_fault.Short = inr refl
record_cause record_fault.Parity = inr refl
record_cause record_fault.Version = inr refl
record_cause record_fault.MicroVersion = inr refl
record_cause record_fault.Coder = inr refl
record_cause record_fault.ColourSpace = inr refl
record_cause record_fault.Depth = inr refl
record_cause record_fault.CodedStates = inr refl
record_cause record_fault.Ec = inr refl
record_cause record_fault.Intra = inr refl
record_cause record_fault.ExtraPlane = inr refl

lacks_known : (profile : Profile) (old new : Option (List ℕ)) (head : Head) (place : Place) (r : RecordFault) → OpensKnown profile old new head place → IsRefused (record_profile profile) (greatest_depth profile) head.config_record head.width head.height r →
    LacksStream profile old new (of_record r)
lacks_known profile None new head place r opens refused = tt
lacks_known profile (Some file) None head place r opens refused = absurd opens
lacks_known profile (Some file) (Some rest) head place r opens refused =
    inr (record { head = head; place = place; opened = opens; refusal = r; refused = refused; is = refl })

lacks_read : (profile : Profile) (old new : Option (List ℕ)) (f : Fault) → Known old new (λ file rest. FaultsOpening profile file rest f) → LacksStream profile old new f
lacks_read profile None new f faults = tt
lacks_read profile (Some file) None f faults = absurd faults
lacks_read profile (Some file) (Some rest) f faults = inl faults

-- what a file is refused for before its frames, by the cause
abbrev pub LacksHeadBy : Profile → Passage → Fault → Cause → Type 0
LacksHeadBy profile p f Reading = (p.after ≡ one_more p.before) × OpeningWants profile p.old p.new
LacksHeadBy profile p f Writing = ⊥
LacksHeadBy profile p f Memory = (p.after ≡ p.before) × Known p.old p.new (OpeningKeeps profile)
LacksHeadBy profile p f Content = (p.after ≡ p.before) × Known p.old p.new (λ file rest. FaultsOpening profile file rest f)

-- what is read again
pub again_faults : (profile : Profile) (f : FileFault) (file rest : List ℕ) → scope_in profile ≡ Whole → files.FaultsRead (open_read Whole) file rest f → FaultsRead (open_read (scope_in profile)) file rest (of_avi f)
again_faults profile f file rest is (inl (w, short, over, same)) = inl (w, ap (λ s. open_read s file) is ∙ short, over, ap of_avi same)
again_faults profile f file rest is (inr met) = inr (f, ap (λ s. open_read s file) is ∙ met, refl)

module _ (profile : Profile) (p : Passage) where
  abbrev On : (List ℕ → List ℕ → Type 0) → (List ℕ → List ℕ → Type 0) → Type 0
  On P Q = Known p.old p.new P → Known p.old p.new Q

  on_known : (P Q : List ℕ → List ℕ → Type 0) → ((file rest : List ℕ) → P file rest → Q file rest) → On P Q
  on_known P Q f h = known_map p.old p.new P Q f h

  -- read once
  once_by : (f : Fault) (why : Cause) → FileStopsBy (opening_endings (scope_in profile)) (once_read (scope_in profile)) p f why → LacksHeadBy profile p f why
  once_by f Reading (counted, h) = (counted, on_known (ReadFails (opening_endings (scope_in profile)) (once_read (scope_in profile))) _ (λ file rest is. inl is) h)
  once_by f Writing h = h
  once_by f Memory (same, h) = (same, on_known (WantsMore (once_read (scope_in profile)) Kept) (OpeningKeeps profile) (λ file rest is. inl is) h)
  once_by f Content (same, h) = (same, on_known (λ file rest. FaultsRead (once_read (scope_in profile)) file rest f) (λ file rest. FaultsOpening profile file rest f) (λ file rest is. inr is) h)

  -- or again
  again_content : (f : FileFault) → scope_in profile ≡ Whole → (p.after ≡ p.before) × Known p.old p.new (λ file rest. files.FaultsRead (open_read Whole) file rest f) → (p.after ≡ p.before) × Known p.old p.new (λ file rest. FaultsOpening profile file rest (of_avi f))
  again_content f is (same, h) = (same, on_known (λ file rest. files.FaultsRead (open_read Whole) file rest f) (λ file rest. FaultsOpening profile file rest (of_avi f)) (λ file rest k. inl (again_faults profile f file rest is k)) h)

  again_by : (f : FileFault) → scope_in profile ≡ Whole → StopsAgain p f → LacksHeadBy profile p (of_avi f) (cause_of (of_avi f))
  again_by file_fault.OutOfMemory is (same, h) = (same, on_known (AgainWants Kept) (OpeningKeeps profile) (λ file rest k. inr (is, k)) h)
  again_by file_fault.NotAvi is h = again_content file_fault.NotAvi is h
  again_by file_fault.NoFfv1 is h = again_content file_fault.NoFfv1 is h
  again_by file_fault.Truncated is h = again_content file_fault.Truncated is h
  again_by file_fault.ChunkTooLong is h = again_content file_fault.ChunkTooLong is h
  again_by file_fault.EmptyFrame is h = again_content file_fault.EmptyFrame is h
  again_by file_fault.TooLarge is h = absurd h
  again_by file_fault.Read is (counted, h) = (counted, on_known AgainFails _ (λ file rest k. inr (is, k)) h)
  again_by file_fault.Write is h = absurd h
  again_by file_fault.NotMatroska is h = again_content file_fault.NotMatroska is h
  again_by file_fault.BadElement is h = again_content file_fault.BadElement is h
  again_by file_fault.NoTracks is h = again_content file_fault.NoTracks is h
  again_by file_fault.Encoded is h = again_content file_fault.Encoded is h
  again_by file_fault.Laced is h = again_content file_fault.Laced is h
  again_by file_fault.Checksum is h = again_content file_fault.Checksum is h
  again_by file_fault.Rate is h = absurd h
  again_by file_fault.Another is h = again_content file_fault.Another is h

  pub head_by : (again : Bool) (f : FileFault) → StopsOpening again (scope_in profile) p f → LacksHeadBy profile p (of_avi f) (cause_of (of_avi f))
  head_by again f (inl (h, able)) = once_by (of_avi f) (cause_of (of_avi f)) (file_stops (once_read (scope_in profile)) (opening_endings (scope_in profile)) p f h)
  head_by again f (inr (is, able, h)) = again_by f is h

-- a file that is not read up to its frames
head_lacks : (profile : Profile) (p : Passage) (f : Fault) (why : Cause) → LacksHeadBy profile p f why → LacksOpeningBy profile p f why
head_lacks profile p f Reading h = h
head_lacks profile p f Writing h = h
head_lacks profile p f Memory h = (h.0, inl h.1)
head_lacks profile p f Content h = (h.0, lacks_read profile p.old p.new f h.1)

pub lacks_file : (profile : Profile) (p : Passage) (again : Bool) (f : FileFault) → StopsOpening again (scope_in profile) p f → LacksOpening profile p (of_avi f)
lacks_file profile p again f h = head_lacks profile p (of_avi f) (cause_of (of_avi f)) (head_by profile p again f h)

pub lacks_record : (profile : Profile) (p : Passage) (head : Head) (place : Place) (r : RecordFault) → p.after ≡ p.before → OpensKnown profile p.old p.new head place →
    (r ≡ record_fault.OutOfMemory) ⊎ IsRefused (record_profile profile) (greatest_depth profile) head.config_record head.width head.height r → (r ≡ record_fault.OutOfMemory → ReachesSets (record_profile profile) (greatest_depth profile) head.config_record) → (r ≡ record_fault.OutOfMemory → HasSoundRecord profile head) → LacksOpening profile p (of_record r)
lacks_record profile p head place r kept known why reaches sound = elim (record_cause r) [
  | inl memory ↦
      subst (λ z. LacksOpening profile p (of_record z)) (sym memory)
      (kept, inr (inl (record { head = head; place = place; known = known; reaches = reaches memory; sound = sound memory })))
  | inr content ↦
      subst (LacksOpeningBy profile p (of_record r)) (sym content) (
        kept,
        elim why [
          | inl memory ↦ absurd (let other : Memory ≡ Content = sym (ap (λ z. cause_of (of_record z)) memory) ∙ content in cc)
          | inr refused ↦ lacks_known profile p.old p.new head place r known refused
        ],
      )
]

-- a decoder that was refused its memory
pub lacks_decoder : (profile : Profile) (p : Passage) (r : Standing) (a : Accepted) (f : Fault) → OpensStream profile r a p → f ≡ fault.OutOfMemory → LacksOpening profile p f
lacks_decoder profile p r a f opens is =
    subst (LacksOpening profile p) (sym is) (opens.kept, inr (inr (record { stream = stream_of r a; is = opens.stream; place = r.place; known = opens.known })))
