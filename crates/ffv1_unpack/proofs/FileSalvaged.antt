-- All items of a file are salvaged.
use Rattle.std.proofs.Common.{◌≡◌, refl, ℕ, Bool, true, false, Option, List, [], ◌∷◌, ◌++◌, length, inl, inr, ap, ◌∙◌, arith}
use Rattle.ffv1_wire.specs.Failures.{one_more}
use Rattle.ffv1_wire.specs.Passage.{Passage, between}
use Rattle.ffv1_record.specs.Accepted.{Accepted}
use Rattle.ffv1_files.specs.Items.{course_of}
use Rattle.ffv1_files.specs.Offsets.{Reached}
use Rattle.ffv1_files.specs.Readers.{Standing}
use Rattle.ffv1_reads.specs.Items.{Given}
use Rattle.ffv1_video.specs.declared.profile.Profile.{Profile}
use Rattle.ffv1_video.specs.declared.fault.Fault.{Fault}
use Rattle.ffv1_video.specs.Faults.{Cause, cause_of}
use Rattle.ffv1_video.specs.Faults.Cause.{Reading, Writing, Memory, Content}
use Rattle.ffv1_video.specs.Profiles.{scope_in}
use Rattle.ffv1_unpack.specs.Internal.Opens.{OpensStream, stream_of}
use Rattle.ffv1_unpack.specs.ItemsEnd.{ItemsEnd}
use Rattle.ffv1_unpack.specs.JudgedItems.{ItemIs, ItemsFrom, ItemsNext, ItemsStay, ItemsThen, JudgedItem, OfFrame, ToldAt, frames_of, given_as}
use Rattle.ffv1_unpack.specs.Salvaged.{salvage_faults}
use Rattle.ffv1_unpack.specs.Stream.{Stream}
use Rattle.ffv1_unpack.specs.UnpackAll.{FaultNext, LacksNext, LineCut, LinesTold, PictureCut, PictureWritten, PicturesShown, ReadFailsNext, SalvageGoes, SalvageStopsBy, SalvagedThen, SalvageRefused}
use Rattle.ffv1_unpack.specs.Unpacked.{HasText, is_ppm_stream}
use Rattle.ffv1_unpack.proofs.FileItems.{has_file}

-- neither a frame nor a fault: no item
pub none_came : (ppm : Bool) (xs : List JudgedItem) → length (frames_of xs) ≡ 0 → length (salvage_faults ppm xs) ≡ 0 → xs ≡ []
none_came ppm [] no_frame no_fault = refl
none_came ppm (OfFrame j ∷ xs) no_frame no_fault = absurd (omega (arith, no_frame))
none_came ppm (ToldAt f offset ∷ xs) no_frame no_fault = absurd (omega (arith, no_fault))

module _ (profile : Profile) (i0 i1 i2 : Option (List ℕ)) (ib im ia : ℕ) (r : Standing) (a : Accepted) (opens : OpensStream profile r a (between i0 i1 ib im)) (reached : Reached (scope_in profile) i0 i1 r)
    (text : HasText (stream_of r a)) (lines output : Passage) where
  abbrev s : Stream
  s = stream_of r a

  abbrev Here : List Given → ItemsNext → List ℕ → List ℕ → Type 0
  Here = ItemsFrom r.place (course_of r)

  abbrev File : List Given → ItemsNext → List ℕ → List ℕ → Type 0
  File = ItemsThen profile r.head

  abbrev Rest : Passage
  Rest = between i1 i2 im ia

  abbrev Whole : Passage
  Whole = between i0 i2 ib ia

  goes_file : (xs : List JudgedItem) (Next : ItemsNext) → SalvageGoes Here s Rest lines output xs Next → SalvageGoes File s Whole lines output xs Next
  goes_file xs Next go = record { are = go.are; has = has_file profile i0 i1 i2 ib im ia r a opens reached _ Next go.has }

  told_file : (xs : List JudgedItem) → LinesTold Here s Rest lines output xs → LinesTold File s Whole lines output xs
  told_file xs told = record { written = told.written; writes = told.writes }

  shown_file : (xs : List JudgedItem) → PicturesShown Here s Rest lines output xs → PicturesShown File s Whole lines output xs
  shown_file xs showed = record { written = showed.written; writes = showed.writes }

  then_file : (xs : List JudgedItem) (Next : ItemsNext) → SalvagedThen Here s Rest lines output xs Next → SalvagedThen File s Whole lines output xs Next
  then_file xs Next h = record { goes = goes_file xs Next h.goes; told = told_file xs h.told; showed = shown_file xs h.showed }

  line_file : (xs : List JudgedItem) (x : JudgedItem) → LineCut Here s Rest lines output xs x → LineCut File s Whole lines output xs x
  line_file xs x h = record { written = h.written; writes = h.writes; showed = shown_file xs h.showed }

  written_file : (b : Bool) (xs : List JudgedItem) (x : JudgedItem) → PictureWritten Here s Rest lines output b xs x → PictureWritten File s Whole lines output b xs x
  written_file false xs x h = h
  written_file true xs x h = h

  picture_file : (xs : List JudgedItem) (x : JudgedItem) → PictureCut Here s Rest lines output xs x → PictureCut File s Whole lines output xs x
  picture_file xs x h = record { told = told_file (xs ++ (x ∷ [])) h.told; written = h.written; writes = written_file (is_ppm_stream s) xs x h.writes }

  stops_file : (f : Fault) (why : Cause) → SalvageStopsBy Here s Rest lines output f why → SalvageStopsBy File s Whole lines output f why
  stops_file f Writing (xs, x, is, go, same, how) = (
    xs,
    x,
    is,
    goes_file xs (ItemIs (given_as x)) go,
    same ∙ opens.kept,
    elim how [
      | inl line ↦ inl (line_file xs x line)
      | inr picture ↦ inr (picture_file xs x picture)
    ],
  )
  stops_file f Reading (xs, h, failed) = (xs, then_file xs ReadFailsNext h, failed ∙ ap one_more opens.kept)
  stops_file f Memory (same, how) = (
    same ∙ opens.kept,
    elim how [
      | inl next ↦ inl (next.0, then_file next.0 LacksNext next.1)
      | inr more ↦ elim more [
        | inl line ↦ inr (inl (line.0, line.1, line.2, then_file line.0 (ItemIs (given_as line.1)) line.3))
        | inr none ↦ inr (inr (then_file [] ItemsStay none))
      ]
    ],
  )
  stops_file f Content (xs, h, same) = (xs, then_file xs (FaultNext f) h, same ∙ opens.kept)

  pub all_fails : (f : Fault) → SalvageStopsBy Here s Rest lines output f (cause_of f) → SalvageRefused (ItemsThen profile) (ItemsEnd profile) profile Whole lines output f
  all_fails f h = inl (record { stream = s; is = opens.stream; text = text; stops = stops_file f (cause_of f) h })
