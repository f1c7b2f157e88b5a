-- A file of which something is told before its first frame is checked, or is refused.
use Rattle.std.proofs.Common.{◌≡◌, ◌⊎◌, refl, ℕ, Bool, false, true, Option, Result, Ok, Err, IfErr, IfOk, List, [], ◌∷◌, ◌++◌, inl, inr, ap, sym, subst, ◌∙◌, arith}
use Rattle.std.proofs.KnownBytes.{Appends-trans}
use Rattle.std.specs.Io.KnownBytes.{Appends}
use Rattle.ffv1_wire.specs.Failures.{one_more}
use Rattle.ffv1_wire.specs.Passage.{Passage, between}
use Rattle.ffv1_matroska.specs.declared.told.ToldFault.{ToldFault}
use Rattle.ffv1_files.specs.Items.{course_by, course_of}
use Rattle.ffv1_files.specs.Places.{InAvi, InMatroska, Place, container_of}
use Rattle.ffv1_files.specs.Readers.{Standing}
use Rattle.ffv1_files.specs.Salvaged.{SomeTold}
use Rattle.ffv1_files.specs.Ways.{tells}
use Rattle.ffv1_files.specs.declared.way.Way.{Way}
use Rattle.ffv1_files.specs.declared.way.Way.TheVariants as way
use Rattle.ffv1_video.specs.declared.profile.Profile.{Profile}
use Rattle.ffv1_video.specs.declared.fault.Fault.{Fault}
use Rattle.ffv1_reads.specs.declared.fault.FileFault.TheVariants as file_fault
use Rattle.ffv1_video.specs.declared.fault.Fault.TheVariants as fault
use Rattle.ffv1_video.specs.Output.{Silent}
use Rattle.ffv1_video.specs.Profiles.{byte_told, scope_in}
use Rattle.ffv1_unpack.specs.Check.{IsCheckFault}
use Rattle.ffv1_unpack.specs.CheckAll.{AllStops, judged_count}
use Rattle.ffv1_unpack.specs.Judged.{IsJudged, judged_lines, payload_of}
use Rattle.ffv1_unpack.specs.Located.{LocatedFault, WritesLine, located_text}
use Rattle.ffv1_unpack.specs.Opens.{IsReadAgain, LacksOpening}
use Rattle.ffv1_unpack.specs.Play.{LacksStream}
use Rattle.ffv1_unpack.specs.Told.{is_telling_fault}
use Rattle.ffv1_unpack.specs.ToldItems.{HasToldFault, IsReadAgainTelling, IsTried, LacksTelling, ToldLacks, ToldWrites, is_told}
use Rattle.ffv1_unpack.specs.Internal.Containers.{is_segment, told_at}
use Rattle.ffv1_unpack.specs.Internal.Plainly.{is_plain}
use Rattle.ffv1_unpack.specs.Internal.Told.{IsToldFault}
use Rattle.ffv1_unpack.proofs.FaultsLocated.{none_appended}
use Rattle.ffv1_unpack.proofs.FileChecked.{lacks_opening}
use Rattle.ffv1_unpack.proofs.FileItems.{items_unopened}
use Rattle.ffv1_unpack.proofs.ItemsCourse.{plain_avi}
use Rattle.ffv1_unpack.proofs.OpenedAs.{either_on}
use Rattle.ffv1_unpack.proofs.ReadAgain.{telling_again}

pub ok_so : {X E : Type 0} (P Q : X → Type 0) (r : Result X E) → ((x : X) → P x → Q x) → IfOk r P → IfOk r Q
ok_so P Q (Ok x) so h = so x h
ok_so P Q (Err e) so h = h

pub err_so : {X E : Type 0} (P Q : E → Type 0) (r : Result X E) → ((e : E) → P e → Q e) → IfErr r P → IfErr r Q
err_so P Q (Ok x) so h = h
err_so P Q (Err e) so h = so e h

-- such a fault is one of the file's content
pub told_content : (profile : Profile) (p : Passage) (f : Fault) → is_told f ≡ true → LacksOpening profile p f → (p.after ≡ p.before) × LacksStream profile p.old p.new f
told_content profile p (fault.File file_fault.Checksum) is h = h
told_content profile p (fault.File file_fault.BadElement) is h = h
told_content profile p f is h = absurd (cc)

-- ---- it is refused before its first frame

pub either_told : (ts : List ToldFault) → (ts ≡ []) ⊎ SomeTold ts
either_told [] = inl refl
either_told (t ∷ ts) = inr (λ none. absurd (cc (none)))

pub either_way : (w : Way) → (w ≡ way.Plainly) ⊎ (tells w ≡ true)
either_way way.Plainly = inl refl
either_way way.Telling = inr refl
either_way way.TellingLate = inr refl

-- what the call says of that
pub way_plain : (w : Way) (b : Bool) → b ≡ tells w → b ≡ false → w ≡ way.Plainly
way_plain w b is none = elim (either_way w) [
  | inl plainly ↦ plainly
  | inr telling ↦ absurd (let no : false ≡ true = sym none ∙ is ∙ telling in cc)
]

pub way_tells : (w : Way) (b : Bool) → b ≡ tells w → b ≡ true → tells w ≡ true
way_tells w b is so = sym is ∙ so

pub not_plain : {P : Type 0} → tells way.Plainly ≡ true → P
not_plain telling = absurd (let no : false ≡ true = telling in cc)

-- no line of a byte
no_line : (byte : Bool) (offset : ℕ) → located_text byte 0 fault.OutOfMemory offset ≡ []
no_line true offset = refl
no_line false offset = refl

pub nothing_written : (output : Passage) → WritesLine [] [] output → Silent output
nothing_written output (inl (same, none)) = record { kept = none_appended output.old output.new none; same = same }
nothing_written output (inr (failed, k, few, some)) = absurd (omega (arith, few))

pub memory_silent : (byte : Bool) (offset : ℕ) (f : Fault) (output : Passage) → f ≡ fault.OutOfMemory → WritesLine [] (located_text byte 0 f offset) output → Silent output
memory_silent byte offset f output is writes = nothing_written output (subst (λ z. WritesLine [] z output) (ap (λ z. located_text byte 0 z offset) is ∙ no_line byte offset) writes)

-- the line of the byte comes after the lines of what is told
pub line_after : (o0 o1 o2 : Option (List ℕ)) (ob om oa : ℕ) (lines last : List ℕ) → om ≡ ob → Appends o0 o1 lines → WritesLine [] last (between o1 o2 om oa) → WritesLine lines last (between o0 o2 ob oa)
line_after o0 o1 o2 ob om oa lines last same first (inl (kept, next)) = inl (kept ∙ same, Appends-trans o0 o1 o2 lines last first next)
line_after o0 o1 o2 ob om oa lines last same first (inr (failed, k, few, next)) = inr (failed ∙ ap one_more same, k, few, Appends-trans o0 o1 o2 lines _ first next)

-- what is told was written, if anything is, and the line of the byte
pub writes_told : (byte : Bool) (output : Passage) (start : ℕ) (ts : List ToldFault) (f : Fault) (offset : ℕ) (g : Fault) → (ts ≡ [] → (g ≡ f) × WritesLine [] (located_text byte 0 f offset) output) → (SomeTold ts → ToldWrites byte output start ts f offset g) → ToldWrites byte output start ts f offset g
writes_told byte output start [] f offset g plain writes = inl (plain refl)
writes_told byte output start (t ∷ ts) f offset g plain writes = writes (λ none. absurd (cc (none)))

module _ (profile : Profile) (place : Bool) (i0 i1 o0 o1 : Option (List ℕ)) (ib im ob om : ℕ) (start : ℕ) (ts : List ToldFault) (f : Fault) (offset : ℕ) (byte : Bool) (g : Fault) where
  abbrev input : Passage
  input = between i0 i1 ib im

  abbrev output : Passage
  output = between o0 o1 ob om

  plainly_refused : LacksOpening profile input f ⊎ LacksTelling profile input f → LocatedFault (scope_in profile) input f offset → WritesLine [] (located_text (byte_told profile place) 0 f offset) output → AllStops profile place input output f
  plainly_refused (inl lacks) located writes = elim (either_on profile i0) [
    | inl avi ↦ inl (avi, lacks_opening IsJudged payload_of (judged_lines place) judged_count profile place i0 i1 o0 o1 ib im ob om f offset lacks located writes)
    | inr matroska ↦ inr (inl (matroska, items_unopened profile place i0 i1 o0 o1 ib im ob om f offset lacks located writes))
  ]
  plainly_refused (inr (has, is, kept)) located writes =
      let silent = memory_silent (byte_told profile place) offset f output is writes in
      subst (AllStops profile place input output) (sym is) (inr (inr (inl (has, inr (inr (silent, kept))))))

  pub check_refused : (w : Way) → byte ≡ byte_told profile place → (w ≡ way.Plainly → ts ≡ []) → (w ≡ way.Plainly → LacksOpening profile input f ⊎ LacksTelling profile input f) → (w ≡ way.Plainly → LocatedFault (scope_in profile) input f offset) →
      (tells w ≡ true → HasToldFault profile input) → (tells w ≡ true → ToldLacks profile input start ts f offset) → (ts ≡ [] → (g ≡ f) × WritesLine [] (located_text byte 0 f offset) output) → (SomeTold ts → ToldWrites byte output start ts f offset g) → AllStops profile place input output g
  check_refused w byted nothing lacks located has told plain writes = elim (either_way w) [
    | inl is ↦
        let line = plain (nothing is) in
        subst (AllStops profile place input output) (sym line.0)
        (plainly_refused (lacks is) (located is) (subst (λ b. WritesLine [] (located_text b 0 f offset) output) byted line.1))
    | inr telling ↦ inr (inr (inr (record {
      refusal = f;
      refused = record { start = start; faults = ts; plainly = has telling; offset = offset; lacks = told telling };
      writes = subst (λ b. ToldWrites b output start ts f offset g) byted (writes_told byte output start ts f offset g plain writes);
    })))
  ]

-- which fault that is
module _ (profile : Profile) (f g : Fault) (own : (g ≡ f) ⊎ (is_telling_fault g ≡ true)) where
  pub refused_own : IsCheckFault profile f → IsCheckFault profile g
  refused_own is_own = elim own [
    | inl same ↦ subst (IsCheckFault profile) (sym same) is_own
    | inr telling ↦ inr (inl telling)
  ]

  pub refused_again : (begins : Bool) (p : Passage) → IsReadAgainTelling profile begins p f → IsReadAgainTelling profile begins p g
  refused_again begins p again = elim own [
    | inl same ↦ subst (IsReadAgainTelling profile begins p) (sym same) again
    | inr telling ↦ inl (telling_again profile begins p g telling)
  ]

-- ---- that it was tried

no_telling : {P : Type 0} (f : Fault) → is_telling_fault f ≡ true → is_told f ≡ true → P
no_telling (fault.File file_fault.Checksum) telling told = absurd (cc (telling))
no_telling (fault.File file_fault.BadElement) telling told = absurd (cc (telling))
no_telling f telling told = absurd (cc (told))

module _ (p : Passage) where
  pub tried_telling : (f : Fault) → is_telling_fault f ≡ true → IsTried p f
  tried_telling f telling = λ told. no_telling f telling told

  pub refused_tried : (f g : Fault) → (g ≡ f) ⊎ (is_telling_fault g ≡ true) → IsTried p f → IsTried p g
  refused_tried f g (inl same) tried = subst (IsTried p) (sym same) tried
  refused_tried f g (inr telling) tried = tried_telling g telling

  told_avi : (r : Standing) (left : Option (List ℕ)) (place : Place) (f : Fault) → is_segment (container_of place) ≡ false → told_at r left place f → IsTried p f
  told_avi r left (InAvi q) f avi (is, whole) = λ told. absurd (let no : false ≡ true = subst (λ z. is_told z ≡ true) is told in cc)
  told_avi r left (InMatroska size track q) f avi h = absurd (let no : true ≡ false = avi in cc)

  tried_avi : (r : Standing) (left : Option (List ℕ)) (f : Fault) → is_segment (container_of r.place) ≡ false → IsToldFault r left f → IsTried p f
  tried_avi r left f avi (inl telling) = tried_telling f telling
  tried_avi r left f avi (inr h) = told_avi r left r.place f avi h

  none_tried : (f : Fault) → f ≡ fault.NoFrames → IsTried p f
  none_tried f none = subst (IsTried p) (sym none) (λ told. absurd (let no : false ≡ true = told in cc))

-- where the first movi alone is read
plain_place : (place : Place) (offset : ℕ) → is_plain (course_by place offset) ≡ true → is_segment (container_of place) ≡ false
plain_place place offset plain = ap is_segment (plain_avi place offset plain)

module _ (p : Passage) where
  pub plain_tried : (r : Standing) (left : Option (List ℕ)) → is_plain (course_of r) ≡ true → (f : Fault) → (f ≡ fault.NoFrames) ⊎ IsToldFault r left f → IsTried p f
  plain_tried r left plain f (inl none) = none_tried p f none
  plain_tried r left plain f (inr told) = tried_avi p r left f (plain_place r.place r.offset plain) told

  -- and where items are judged
  pub on_tried : (f : Fault) → (is_telling_fault f ≡ true) ⊎ (f ≡ fault.NoFrames) → IsTried p f
  on_tried f (inl telling) = tried_telling p f telling
  on_tried f (inr none) = none_tried p f none

pub on_again : (profile : Profile) (begins : Bool) (p : Passage) (f : Fault) → (is_telling_fault f ≡ true) ⊎ (f ≡ fault.NoFrames) → IsReadAgain profile begins p f
on_again profile begins p f (inl telling) = telling_again profile begins p f telling
on_again profile begins p f (inr none) = subst (IsReadAgain profile begins p) (sym none) tt

pub on_checks : (profile : Profile) (f : Fault) → (is_telling_fault f ≡ true) ⊎ (f ≡ fault.NoFrames) → IsCheckFault profile f
on_checks profile f (inl telling) = inr (inl telling)
on_checks profile f (inr none) = inr (inr (inl none))
