-- What looking behind the items of a file answers.
use Rattle.std.proofs.Common.{◌≡◌, refl, ℕ, Bool, true, false, Option, Ok, Err, List, inl, inr, sym, subst}
use Rattle.ffv1_wire.specs.Passage.{Passage, between}
use Rattle.ffv1_reads.specs.declared.fault.FileFault.{FileFault}
use Rattle.ffv1_reads.specs.declared.fault.FileFault.TheVariants as file_fault
use Rattle.ffv1_files.specs.Answers.{FaultsRead, ReadsAs, StopsReading}
use Rattle.ffv1_files.specs.Behind.{any_value, is_behind_fault, items_noted}
use Rattle.ffv1_files.specs.Noted.{no_notes}
use Rattle.ffv1_files.specs.Places.{InAvi, InMatroska, Place, container_of}
use Rattle.ffv1_files.specs.declared.container.Container.TheVariants as container
use Rattle.ffv1_files.specs.Readers.{Standing}
use Rattle.ffv1_files.specs.declared.course.Course.{Course}
use Rattle.ffv1_files.specs.declared.notes.Notes.{Notes}
use Rattle.ffv1_video.specs.declared.fault.Fault.{Fault}
use Rattle.ffv1_video.specs.declared.fault.Fault.TheVariants as fault
use Rattle.ffv1_video.specs.Faults.{cause_of, of_avi}
use Rattle.ffv1_video.proofs.KnownTexts.{known_map}
use Rattle.ffv1_video.proofs.Output.{silent}
use Rattle.ffv1_unpack.specs.ItemsEnd.{BeginsAnother}
use Rattle.ffv1_unpack.specs.JudgedItems.{told_line}
use Rattle.ffv1_unpack.specs.declared.judging.JudgedCounts.{JudgedCounts}
use Rattle.ffv1_unpack.specs.Internal.ItemsEnd.{AnotherBehind, BehindAnswers, BehindFailsBy}
use Rattle.ffv1_unpack.specs.Internal.JudgedItems.{told_counted}
use Rattle.ffv1_unpack.specs.Internal.Told.{WritesFrame}
use Rattle.ffv1_unpack.specs.Told.{is_telling_fault}

-- looking behind an AVI meets no fault
pub avi_unread : (place : Place) (f : FileFault) → is_behind_fault place f ≡ true → container_of place ≡ container.Avi → ⊥
avi_unread (InAvi p) f own avi = let no : false ≡ true = own in cc
avi_unread (InMatroska size track p) f own avi = cc (avi)

module _ (r : Standing) (course : Course) (cued : Bool) (input : Passage) where
  met_another : (text rest : List ℕ) → FaultsRead (items_noted r course cued) text rest file_fault.Another → BeginsAnother (items_noted r course cued) text rest
  met_another text rest (inl (w, is, none, same)) = absurd (cc (same))
  met_another text rest (inr is) = is

  -- another file begins there
  pub another_is : (output : Passage) → StopsReading any_value (items_noted r course cued) input file_fault.Another → AnotherBehind r course cued input output
  another_is output h = record { kept = h.0; is = known_map input.old input.new (λ text rest. FaultsRead (items_noted r course cued) text rest file_fault.Another) (BeginsAnother (items_noted r course cued)) met_another h.1 }

  module _ (o : Option (List ℕ)) (n : ℕ) (counts : JudgedCounts) where
    -- these are the notes
    pub notes_told : (notes : Notes) → ReadsAs (items_noted r course cued) input notes → BehindAnswers r course cued input (between o o n n) counts counts (Ok notes)
    notes_told notes h = inl (h, silent o n, refl)

    -- a read failed
    pub behind_unread : (place : Place) (f : FileFault) → is_behind_fault place f ≡ true → (f ≡ file_fault.Another → ⊥) → StopsReading any_value (items_noted r course cued) input f → BehindFailsBy r course cued input (between o o n n) (cause_of (of_avi f))
    behind_unread (InAvi p) f own other h = absurd (let no : false ≡ true = own in cc)
    behind_unread (InMatroska size track p) file_fault.Read own other h = (silent o n, h.0, h.1)
    behind_unread (InMatroska size track p) file_fault.Another own other h = absurd (other refl)
    behind_unread (InMatroska size track p) f own other h = absurd (let no : false ≡ true = own in cc)

    pub unread_own : (place : Place) (f : FileFault) → is_behind_fault place f ≡ true → (f ≡ file_fault.Another → ⊥) → is_telling_fault (of_avi f) ≡ true
    unread_own (InAvi p) f own other = absurd (let no : false ≡ true = own in cc)
    unread_own (InMatroska size track p) file_fault.Read own other = refl
    unread_own (InMatroska size track p) file_fault.Another own other = absurd (other refl)
    unread_own (InMatroska size track p) f own other = absurd (let no : false ≡ true = own in cc)

  module _ (o1 o2 : Option (List ℕ)) (om oa : ℕ) (another : (output : Passage) → AnotherBehind r course cued input output) where
    -- its line was written
    pub another_told : (old new : JudgedCounts) → WritesFrame (told_line r.end file_fault.Another) (between o1 o2 om oa) (Ok tt) → new ≡ told_counted old (fault.File file_fault.Another) → BehindAnswers r course cued input (between o1 o2 om oa) old new (Ok no_notes)
    another_told old new h is = inr (another (between o1 o2 om oa), refl, h.0, h.1, is)

    -- or not
    pub another_untold : (f : Fault) → WritesFrame (told_line r.end file_fault.Another) (between o1 o2 om oa) (Err f) → BehindFailsBy r course cued input (between o1 o2 om oa) (cause_of f)
    another_untold f h = elim h [
      | inl write ↦ subst (λ z. BehindFailsBy r course cued input (between o1 o2 om oa) (cause_of z)) (sym write.0) (another (between o1 o2 om oa), write.1, write.2)
      | inr none ↦ subst (λ z. BehindFailsBy r course cued input (between o1 o2 om oa) (cause_of z)) (sym none.0) (record { same = none.1; kept = none.2 }, another (between o1 o2 om oa))
    ]
