-- That a file lacks Tracks is its fault as it is read again, if its input can begin again.
use Rattle.std.proofs.Common.{◌≡◌, ◌⊎◌, refl, ℕ, Bool, true, false, Option, List, Err, inl, inr, sym, subst, ◌∙◌}
use Rattle.ffv1_wire.specs.Passage.{Passage}
use Rattle.ffv1_record.specs.declared.fault.RecordFault.{RecordFault}
use Rattle.ffv1_reads.specs.declared.fault.FileFault.{FileFault}
use Rattle.ffv1_reads.specs.declared.fault.FileFault.TheVariants as file_fault
use Rattle.ffv1_files.specs.Again.{StopsAgain, StopsOpening, lacks_tracks}
use Rattle.ffv1_files.specs.Answers as files
use Rattle.ffv1_files.specs.Files.{open_read}
use Rattle.ffv1_files.specs.Places.{InAvi, InMatroska, Place}
use Rattle.ffv1_files.specs.Readers.{Standing}
use Rattle.ffv1_files.specs.declared.container.Scope.TheVariants.{Whole}
use Rattle.ffv1_files.proofs.Answering.{known_map}
use Rattle.ffv1_video.specs.declared.profile.Profile.{Profile}
use Rattle.ffv1_video.specs.Profiles.{scope_in}
use Rattle.ffv1_video.specs.declared.fault.Fault.{Fault}
use Rattle.ffv1_video.specs.declared.fault.Fault.TheVariants as fault
use Rattle.ffv1_video.specs.Faults.{of_avi, of_record}
use Rattle.ffv1_unpack.specs.Play.{FaultsRead}
use Rattle.ffv1_unpack.specs.Opens.{IsReadAgain, is_opening_fault}
use Rattle.ffv1_unpack.specs.Told.{is_telling_fault}
use Rattle.ffv1_unpack.specs.Unpack.{IsUnpackFault}
use Rattle.ffv1_unpack.specs.Compared.{IsUnlike}
use Rattle.ffv1_unpack.specs.declared.comparing.Unlike.{Unlike}
use Rattle.ffv1_unpack.specs.declared.comparing.Unlike.TheVariants as unlike
use Rattle.ffv1_unpack.specs.Internal.Containers.{IsContainerFault, told_at}
use Rattle.ffv1_unpack.specs.Internal.Told.{IsToldFault, WritesFrame}
use Rattle.ffv1_unpack.specs.Internal.Unpack.{IsWritingFault}
use Rattle.ffv1_unpack.proofs.Openings.{again_faults}
use Rattle.ffv1_unpack.proofs.OwnFaults.{record_opens}
use Rattle.ffv1_unpack.proofs.ItemsJudged.{line_own}

-- the faults of reading on do not say it
opening_none : (f : Fault) → is_opening_fault f ≡ true → f ≡ fault.File file_fault.NoTracks → ⊥
opening_none f own is = absurd (let no : false ≡ true = subst (λ z. is_opening_fault z ≡ true) is own in cc)

telling_none : (f : Fault) → is_telling_fault f ≡ true → f ≡ fault.File file_fault.NoTracks → ⊥
telling_none f own is = absurd (let no : false ≡ true = subst (λ z. is_telling_fault z ≡ true) is own in cc)

told_none : (r : Standing) (left : Option (List ℕ)) (place : Place) → told_at r left place (fault.File file_fault.NoTracks) → ⊥
told_none r left (InAvi place) (is, whole) = absurd (cc)
told_none r left (InMatroska segment track place) other = absurd (let no : false ≡ true = other in cc)

container_none : (r : Standing) (left : Option (List ℕ)) (f : Fault) → IsContainerFault r left f → f ≡ fault.File file_fault.NoTracks → ⊥
container_none r left f own is = told_none r left r.place (subst (IsContainerFault r left) is own)

unpack_none : IsUnpackFault (fault.File file_fault.NoTracks) → ⊥
unpack_none (inl own) = absurd (let no : false ≡ true = own in cc)
unpack_none (inr (inl own)) = absurd (let no : false ≡ true = own in cc)
unpack_none (inr (inr (inl is))) = absurd (cc)
unpack_none (inr (inr (inr (inl is)))) = absurd (cc)
unpack_none (inr (inr (inr (inr (inl is))))) = absurd (cc)
unpack_none (inr (inr (inr (inr (inr is))))) = absurd (cc)

module _ (profile : Profile) (begins : Bool) (p : Passage) where
  -- of another fault it says nothing
  pub other_again : (f : Fault) → (f ≡ fault.File file_fault.NoTracks → ⊥) → IsReadAgain profile begins p f
  other_again (fault.File file_fault.NoTracks) other = absurd (other refl)
  other_again f other = tt

  -- a file that was read once, or again
  once : (f : FileFault) → (lacks_tracks f ≡ true → begins ≡ false) → IsReadAgain profile begins p (of_avi f)
  once file_fault.NoTracks able = λ on. absurd (let no : false ≡ true = sym (able refl) ∙ on in cc)
  once f able = tt

  again : (f : FileFault) → scope_in profile ≡ Whole → StopsAgain p f → IsReadAgain profile begins p (of_avi f)
  again file_fault.NoTracks is (same, h) = λ on. known_map p.old p.new (λ file rest. files.FaultsRead (open_read Whole) file rest file_fault.NoTracks) (λ file rest. FaultsRead (open_read (scope_in profile)) file rest (fault.File file_fault.NoTracks)) (λ file rest k. again_faults profile file_fault.NoTracks file rest is k) h
  again f is h = tt

  pub file_again : (f : FileFault) → StopsOpening begins (scope_in profile) p f → IsReadAgain profile begins p (of_avi f)
  file_again f (inl (read, able)) = once f able
  file_again f (inr (is, on, h)) = again f is h

  -- its record
  pub record_again : (r : RecordFault) → IsReadAgain profile begins p (of_record r)
  record_again r = other_again (of_record r) (opening_none (of_record r) (record_opens r))

  -- reading on
  pub telling_again : (f : Fault) → is_telling_fault f ≡ true → IsReadAgain profile begins p f
  telling_again f own = other_again f (telling_none f own)

  pub told_again : (r : Standing) (left : Option (List ℕ)) (f : Fault) → IsToldFault r left f → IsReadAgain profile begins p f
  told_again r left f (inl own) = telling_again f own
  told_again r left f (inr own) = other_again f (container_none r left f own)

  pub passing_again : (r : Standing) (left : Option (List ℕ)) (f : Fault) → (f ≡ fault.NoFrames) ⊎ IsToldFault r left f → IsReadAgain profile begins p f
  passing_again r left f (inl is) = subst (IsReadAgain profile begins p) (sym is) tt
  passing_again r left f (inr told) = told_again r left f told

  -- writing pictures
  pub unpack_again : (f : Fault) → IsUnpackFault f → IsReadAgain profile begins p f
  unpack_again f own = other_again f (λ is. unpack_none (subst IsUnpackFault is own))

  pub written_again : (r : Standing) (left : Option (List ℕ)) (f : Fault) → IsWritingFault r left f → IsReadAgain profile begins p f
  written_again r left f (inl own) = unpack_again f own
  written_again r left f (inr own) = other_again f (container_none r left f own)

  -- writing lines
  pub line_again : (line : List ℕ) (written : Passage) (f : Fault) → WritesFrame line written (Err f) → IsReadAgain profile begins p f
  line_again line written f h = telling_again f (line_own line written f h)

  -- memory
  pub memory_again : (f : Fault) → f ≡ fault.OutOfMemory → IsReadAgain profile begins p f
  memory_again f is = subst (IsReadAgain profile begins p) (sym is) tt

  -- comparing pictures
  pub unlike_again : (r : Standing) (left : Option (List ℕ)) (u : Unlike) → IsUnlike (IsToldFault r left) u → IsUnlike (IsReadAgain profile begins p) u
  unlike_again r left (unlike.Differs n) told = tt
  unlike_again r left (unlike.Fault f) told = told_again r left f told
