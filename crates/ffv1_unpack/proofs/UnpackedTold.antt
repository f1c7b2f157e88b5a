-- A file of which something is told before its first frame is unpacked, or is refused.
use Rattle.std.proofs.Common.{◌≡◌, ◌⊎◌, refl, ℕ, Bool, false, true, Option, List, [], inl, inr, ap, sym, subst, ◌∙◌}
use Rattle.ffv1_wire.specs.Passage.{Passage}
use Rattle.ffv1_record.specs.Configuration.{Configuration}
use Rattle.ffv1_matroska.specs.declared.told.ToldFault.{ToldFault}
use Rattle.ffv1_files.specs.Places.{InAvi, InMatroska, Place, container_of}
use Rattle.ffv1_files.specs.Readers.{Standing}
use Rattle.ffv1_files.specs.Salvaged.{SomeTold}
use Rattle.ffv1_files.specs.Ways.{tells}
use Rattle.ffv1_files.specs.declared.way.Way.{Way}
use Rattle.ffv1_files.specs.declared.way.Way.TheVariants as way
use Rattle.ffv1_video.specs.declared.profile.Profile.{Profile}
use Rattle.ffv1_video.specs.declared.profile.Profile.TheVariants as profile
use Rattle.ffv1_video.specs.declared.fault.Fault.{Fault}
use Rattle.ffv1_reads.specs.declared.fault.FileFault.TheVariants as file_fault
use Rattle.ffv1_video.specs.declared.fault.Fault.TheVariants as fault
use Rattle.ffv1_video.specs.Output.{Silent}
use Rattle.ffv1_unpack.specs.Located.{WritesLine, located_text}
use Rattle.ffv1_unpack.specs.Opens.{IsReadAgain, LacksOpening, is_opening_fault}
use Rattle.ffv1_unpack.specs.Told.{is_telling_fault}
use Rattle.ffv1_unpack.specs.ToldItems.{HasToldFault, IsTried, LacksTelling, ToldLacks, ToldWrites, is_told}
use Rattle.ffv1_unpack.specs.Unpack.{IsUnpackFault, IsUnpackFaultIn, LacksUnpacking}
use Rattle.ffv1_unpack.specs.UnpackAll.{ToldLacksText, UnpackAllStops}
use Rattle.ffv1_unpack.specs.Unpacked.{LacksTextBy}
use Rattle.ffv1_unpack.specs.Internal.Containers.{is_segment, is_segment_fault, told_at}
use Rattle.ffv1_unpack.specs.Internal.Told.{IsToldFault}
use Rattle.ffv1_unpack.specs.Internal.Unpack.{IsWritingFault}
use Rattle.ffv1_unpack.proofs.OwnFaults.{segment_matroska}
use Rattle.ffv1_unpack.proofs.ReadAgain.{other_again, unpack_again}
use Rattle.ffv1_unpack.proofs.ToldChecks.{either_way, nothing_written, writes_told}

-- ---- which faults are not told before the frames

pub opening_untold : (f : Fault) → is_opening_fault f ≡ true → is_told f ≡ false
opening_untold (fault.File file_fault.Checksum) own = absurd (cc (own))
opening_untold (fault.File file_fault.BadElement) own = absurd (cc (own))
opening_untold f own = refl

pub telling_untold : (f : Fault) → is_telling_fault f ≡ true → is_told f ≡ false
telling_untold (fault.File file_fault.Checksum) own = absurd (cc (own))
telling_untold (fault.File file_fault.BadElement) own = absurd (cc (own))
telling_untold f own = refl

pub unpack_untold : (f : Fault) → IsUnpackFault f → is_told f ≡ false
unpack_untold f (inl own) = opening_untold f own
unpack_untold f (inr (inl own)) = telling_untold f own
unpack_untold f (inr (inr (inl is))) = ap is_told is
unpack_untold f (inr (inr (inr (inl is)))) = ap is_told is
unpack_untold f (inr (inr (inr (inr (inl is))))) = ap is_told is
unpack_untold f (inr (inr (inr (inr (inr is))))) = ap is_told is

pub text_untold : (ppm : Bool) (c : Configuration) (f : Fault) → LacksTextBy ppm c f → is_told f ≡ false
text_untold false c f lacks = ap is_told lacks.1
text_untold true c f lacks = ap is_told lacks.1

avi_untold_at : (r : Standing) (left : Option (List ℕ)) (place : Place) (f : Fault) → is_segment (container_of place) ≡ false → told_at r left place f → is_told f ≡ false
avi_untold_at r left (InAvi p) f avi (is, whole) = ap is_told is
avi_untold_at r left (InMatroska size track p) f avi h = absurd (let no : true ≡ false = avi in cc)

pub avi_untold : (r : Standing) (left : Option (List ℕ)) (f : Fault) → is_segment (container_of r.place) ≡ false → IsToldFault r left f → is_told f ≡ false
avi_untold r left f avi (inl own) = telling_untold f own
avi_untold r left f avi (inr own) = avi_untold_at r left r.place f avi own

pub tried_untold : (p : Passage) (f : Fault) → is_told f ≡ false → IsTried p f
tried_untold p f untold = λ told. absurd (let no : false ≡ true = sym untold ∙ told in cc)

-- ---- which faults one has of which something is told

writing_at : (r : Standing) (left : Option (List ℕ)) (place : Place) (f : Fault) → is_segment (container_of place) ≡ true → told_at r left place f → is_segment_fault f ≡ true
writing_at r left (InAvi p) f segment h = absurd (let no : false ≡ true = segment in cc)
writing_at r left (InMatroska size track p) f segment h = h

pub segment_writes : (r : Standing) (left : Option (List ℕ)) (f : Fault) → is_segment (container_of r.place) ≡ true → IsWritingFault r left f → IsUnpackFault f ⊎ (is_segment_fault f ≡ true)
segment_writes r left f segment (inl own) = inl own
segment_writes r left f segment (inr own) = inr (writing_at r left r.place f segment own)

pub own_told : (p : Profile) (g : Fault) → p ≡ profile.Wide → IsUnpackFault g ⊎ (is_segment_fault g ≡ true) → IsUnpackFaultIn p g
own_told p g wide (inl unpack) = inl unpack
own_told p g wide (inr segment) = subst (λ z. IsUnpackFaultIn z g) (sym wide) (inr (segment_matroska g segment))

no_tracks : (g : Fault) → is_segment_fault g ≡ true → g ≡ fault.File file_fault.NoTracks → ⊥
no_tracks g segment same = absurd (let no : false ≡ true = subst (λ z. is_segment_fault z ≡ true) same segment in cc)

pub reads_again : (profile : Profile) (begins : Bool) (p : Passage) (g : Fault) → IsUnpackFault g ⊎ (is_segment_fault g ≡ true) → IsReadAgain profile begins p g
reads_again profile begins p g (inl own) = unpack_again profile begins p g own
reads_again profile begins p g (inr segment) = other_again profile begins p g (no_tracks g segment)

-- ---- it is refused before its first frame

module _ (p : Profile) (input lines output : Passage) (silent : Silent output) (start : ℕ) (ts : List ToldFault) (f g : Fault) where
  plainly_refused : Silent lines → LacksUnpacking p input f ⊎ LacksTelling p input f ⊎ (HasToldFault p input × ToldLacksText p input f) → UnpackAllStops p input lines output f
  plainly_refused none (inl lacks) = inl (inl (none, silent, lacks))
  plainly_refused none (inr (inl (has, is, kept))) = subst (UnpackAllStops p input lines output) (sym is) (inr (inl (has, inr (inr (inr (inl ((none, kept), silent)))))))
  plainly_refused none (inr (inr (has, lacks))) = inr (inl (has, inr (inr (inr (inr (lacks, none, silent))))))

  pub unpack_refused : (w : Way) → (w ≡ way.Plainly → ts ≡ []) → (w ≡ way.Plainly → LacksUnpacking p input f ⊎ LacksTelling p input f ⊎ (HasToldFault p input × ToldLacksText p input f)) → (tells w ≡ true → HasToldFault p input) → (tells w ≡ true → (offset : ℕ) × ToldLacks p input start ts f offset) →
      (ts ≡ [] → (g ≡ f) × WritesLine [] (located_text false 0 f 0) lines) → (SomeTold ts → ToldWrites false lines start ts f 0 g) → UnpackAllStops p input lines output g
  unpack_refused w nothing lacks has told plain writes = elim (either_way w) [
    | inl is ↦
        let line = plain (nothing is) in
        subst (UnpackAllStops p input lines output) (sym line.0) (plainly_refused (nothing_written lines line.1) (lacks is))
    | inr telling ↦ inr (inr (
      record {
        refusal = f;
        refused = record { start = start; faults = ts; plainly = has telling; offset = (told telling).0; lacks = (told telling).1 };
        writes = writes_told false lines start ts f 0 g plain writes;
      },
      silent,
    ))
  ]

pub refused_unpacks : (p : Profile) (f g : Fault) → (g ≡ f) ⊎ (is_telling_fault g ≡ true) → IsUnpackFaultIn p f → IsUnpackFaultIn p g
refused_unpacks p f g (inl same) own = subst (IsUnpackFaultIn p) (sym same) own
refused_unpacks p f g (inr telling) own = inl (inr (inl telling))

pub text_tried : (p : Passage) (ppm : Bool) (c : Configuration) (f : Fault) → LacksTextBy ppm c f → IsTried p f
text_tried p ppm c f lacks = tried_untold p f (text_untold ppm c f lacks)

pub plainly_lacks : (p : Profile) (input : Passage) (f : Fault) → LacksOpening p input f ⊎ LacksTelling p input f → LacksUnpacking p input f ⊎ LacksTelling p input f ⊎ (HasToldFault p input × ToldLacksText p input f)
plainly_lacks p input f (inl lacks) = inl (inl lacks)
plainly_lacks p input f (inr lacks) = inr (inl lacks)
