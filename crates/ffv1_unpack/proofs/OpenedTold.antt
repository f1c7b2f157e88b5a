-- A file that may be damaged is opened, and something is told of it, or nothing.
use Rattle.std.proofs.Common.{◌≡◌, ◌⊎◌, refl, ℕ, Bool, false, true, Err, inl, inr, ap, sym, subst, ◌∙◌}
use Rattle.ffv1_wire.specs.Passage.{Passage}
use Rattle.ffv1_record.specs.Reading.{IsRefused, ReachesSets}
use Rattle.ffv1_record.specs.declared.fault.RecordFault.{RecordFault}
use Rattle.ffv1_record.specs.declared.fault.RecordFault.TheVariants as record_fault
use Rattle.ffv1_reads.specs.Head.{Head}
use Rattle.ffv1_reads.specs.Reads.{Met}
use Rattle.ffv1_reads.specs.declared.fault.FileFault.{FileFault}
use Rattle.ffv1_reads.specs.declared.fault.FileFault.TheVariants as file_fault
use Rattle.ffv1_matroska.specs.Salvaged.{may_be_told}
use Rattle.ffv1_files.specs.Again.{StopsOpening, lacks_tracks}
use Rattle.ffv1_files.specs.Files.{once_read, open_read}
use Rattle.ffv1_files.specs.Salvaged.{EndsTelling, RefusedPlainly}
use Rattle.ffv1_files.specs.Ways.{tells}
use Rattle.ffv1_files.specs.declared.way.Way.{Way}
use Rattle.ffv1_files.specs.declared.way.Way.TheVariants as way
use Rattle.ffv1_reads.specs.Known.{Known}
use Rattle.ffv1_files.specs.declared.container.Scope.TheVariants.{Whole}
use Rattle.ffv1_video.specs.declared.profile.Profile.{Profile}
use Rattle.ffv1_video.specs.declared.profile.Profile.TheVariants as profile
use Rattle.ffv1_video.specs.declared.fault.Fault.{Fault}
use Rattle.ffv1_video.specs.declared.fault.Fault.TheVariants as fault
use Rattle.ffv1_video.specs.Faults.{of_avi, of_record}
use Rattle.ffv1_video.specs.Profiles.{greatest_depth, record_profile, scope_in}
use Rattle.ffv1_video.proofs.KnownTexts.{known_map}
use Rattle.ffv1_unpack.specs.Containers.{is_profile_fault}
use Rattle.ffv1_unpack.specs.Located.{LocatedFault}
use Rattle.ffv1_unpack.specs.Opens.{LacksOpening, is_opening_fault}
use Rattle.ffv1_unpack.specs.Play.{FaultsOpening, LacksRecord}
use Rattle.ffv1_unpack.specs.ToldItems.{HasToldFault, HeadLacks, IsReadAgainTelling, IsTried, LacksTelling, is_told}
use Rattle.ffv1_unpack.proofs.FaultsLocated.{memory_located}
use Rattle.ffv1_unpack.proofs.OwnFaults.{record_opens}
use Rattle.ffv1_unpack.proofs.ReadAgain.{file_again, memory_again}
use Rattle.ffv1_unpack.proofs.ToldChecks.{either_way, told_content}
use Rattle.ffv1_unpack.proofs.UnpackedTold.{opening_untold, tried_untold}

-- which faults may be told
may_told : (f : FileFault) → is_told (of_avi f) ≡ true → may_be_told f ≡ true
may_told file_fault.Checksum is = refl
may_told file_fault.BadElement is = refl
may_told f is = absurd (cc (is))

told_may : (f : FileFault) → may_be_told f ≡ true → is_told (of_avi f) ≡ true
told_may file_fault.Checksum is = refl
told_may file_fault.BadElement is = refl
told_may f is = absurd (cc (is))

-- a file that is refused plainly has such a fault
has_told : (p : Passage) → RefusedPlainly (once_read Whole) p.old → HasToldFault profile.Wide p
has_told p h = (
  h.left,
  of_avi h.refusal,
  told_may h.refusal h.told,
  known_map p.old h.left (λ file rest. once_read Whole file ≡ Err (Met h.refusal rest))
      (λ file rest. FaultsOpening profile.Wide file rest (of_avi h.refusal) ⊎ LacksRecord profile.Wide file rest (of_avi h.refusal))
      (λ file rest met. inl (inr (inr (h.refusal, met, refl)))) h.known,
)

-- and so has one that is refused when it is read again
has_told_again : (p : Passage) → RefusedPlainly (open_read Whole) p.old → HasToldFault profile.Wide p
has_told_again p h = (
  h.left,
  of_avi h.refusal,
  told_may h.refusal h.told,
  known_map p.old h.left (λ file rest. open_read Whole file ≡ Err (Met h.refusal rest))
      (λ file rest. FaultsOpening profile.Wide file rest (of_avi h.refusal) ⊎ LacksRecord profile.Wide file rest (of_avi h.refusal))
      (λ file rest met. inl (inl (inr (h.refusal, met, refl)))) h.known,
)

pub tells_has : (p : Passage) (w : Way) → (w ≡ way.Telling → RefusedPlainly (once_read Whole) p.old) → (w ≡ way.TellingLate → RefusedPlainly (open_read Whole) p.old) → tells w ≡ true → HasToldFault profile.Wide p
tells_has p way.Plainly once late telling = absurd (let no : false ≡ true = telling in cc)
tells_has p way.Telling once late telling = has_told p (once refl)
tells_has p way.TellingLate once late telling = has_told_again p (late refl)

-- ---- the file is refused

pub file_again_told : (p : Passage) (begins : Bool) (w : Way) (f : FileFault) → (w ≡ way.Plainly → StopsOpening begins Whole p f) → (tells w ≡ true → begins ≡ true → lacks_tracks f ≡ true → Known p.old p.new (EndsTelling f)) → IsReadAgainTelling profile.Wide begins p (of_avi f)
file_again_told p begins w f plain told = elim (either_way w) [
  | inl plainly ↦ inl (file_again profile.Wide begins p f (plain plainly))
  | inr telling ↦ by f (told telling)
]
  where
    on_begins : (b : Bool) → (b ≡ true → Known p.old p.new (EndsTelling file_fault.NoTracks)) → IsReadAgainTelling profile.Wide b p (of_avi file_fault.NoTracks)
    on_begins true h = inr (refl, h refl)
    on_begins false h = inl (λ able. absurd (let no : false ≡ true = able in cc))

    by : (g : FileFault) → (begins ≡ true → lacks_tracks g ≡ true → Known p.old p.new (EndsTelling g)) → IsReadAgainTelling profile.Wide begins p (of_avi g)
    by file_fault.NoTracks h = on_begins begins (λ able. h able refl)
    by g h = inl tt

pub file_tried : (p : Passage) (f : FileFault) → (may_be_told f ≡ true → IsTried p (of_avi f)) → IsTried p (of_avi f)
file_tried p f tried told = tried (may_told f told) told

pub told_may_be : (f : FileFault) → is_told (of_avi f) ≡ true → may_be_told f ≡ true
told_may_be = may_told

-- its record is

pub record_tried : (p : Passage) (r : RecordFault) → IsTried p (of_record r)
record_tried p r = tried_untold p (of_record r) (opening_untold (of_record r) (record_opens r))

pub record_lacks : (head : Head) (r : RecordFault) → (r ≡ record_fault.OutOfMemory) ⊎ IsRefused (record_profile profile.Wide) (greatest_depth profile.Wide) head.config_record head.width head.height r →
    (r ≡ record_fault.OutOfMemory → ReachesSets (record_profile profile.Wide) (greatest_depth profile.Wide) head.config_record) → HeadLacks profile.Wide head (of_record r)
record_lacks head r (inl memory) reaches = inl (ap of_record memory, inl (reaches memory))
record_lacks head r (inr refused) reaches = inr (r, refl, refused)

-- memory is refused for the decoder
pub memory_tried : (p : Passage) (f : Fault) → f ≡ fault.OutOfMemory → IsTried p f
memory_tried p f is = tried_untold p f (ap is_told is)

-- ---- nothing is told

module _ (profile : Profile) (p : Passage) (begins : Bool) (f g : Fault) (how : ((is_told f ≡ true) × (g ≡ fault.OutOfMemory)) ⊎ ((is_told f ≡ false) × (g ≡ f))) where
  pub untold_lacks : LacksOpening profile p f → LacksOpening profile p g ⊎ LacksTelling profile p g
  untold_lacks lacks = elim how [
    | inl told ↦
        let content = told_content profile p f told.0 lacks in
        inr ((p.new, f, told.0, content.1), told.1, content.0)
    | inr other ↦ inl (subst (LacksOpening profile p) (sym other.1) lacks)
  ]

  pub untold_located : (offset : ℕ) → LocatedFault (scope_in profile) p f offset → LocatedFault (scope_in profile) p g offset
  untold_located offset located = elim how [
    | inl told ↦ memory_located (scope_in profile) p g offset told.1
    | inr other ↦ subst (λ z. LocatedFault (scope_in profile) p z offset) (sym other.1) located
  ]

  pub untold_own : (is_opening_fault f ≡ true) ⊎ (is_profile_fault profile f ≡ true) → (is_opening_fault g ≡ true) ⊎ (is_profile_fault profile g ≡ true)
  untold_own own = elim how [
    | inl told ↦ inl (ap is_opening_fault told.1)
    | inr other ↦ subst (λ z. (is_opening_fault z ≡ true) ⊎ (is_profile_fault profile z ≡ true)) (sym other.1) own
  ]

  pub untold_again : IsReadAgainTelling profile begins p f → IsReadAgainTelling profile begins p g
  untold_again again = elim how [
    | inl told ↦ inl (memory_again profile begins p g told.1)
    | inr other ↦ subst (IsReadAgainTelling profile begins p) (sym other.1) again
  ]

  pub untold_tried : IsTried p g
  untold_tried = elim how [
    | inl told ↦ memory_tried p g told.1
    | inr other ↦ tried_untold p g (ap is_told other.1 ∙ other.0)
  ]

-- the first movi alone is read
pub strict_tried : (p : Passage) (f : Fault) → (is_opening_fault f ≡ true) ⊎ (is_profile_fault profile.Strict f ≡ true) → IsTried p f
strict_tried p f (inl own) = tried_untold p f (opening_untold f own)
strict_tried p f (inr own) = absurd (let no : false ≡ true = own in cc)
