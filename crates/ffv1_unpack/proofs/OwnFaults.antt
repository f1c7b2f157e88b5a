-- Which faults the calls on a file have, whatever it is.
use Rattle.std.proofs.Common.{◌≡◌, ◌≢◌, ◌⊎◌, refl, ℕ, Bool, true, false, ◌||◌, Err, List, inl, inr, ap, sym, subst, Option}
use Rattle.ffv1_wire.specs.Passage.{Passage}
use Rattle.ffv1_record.specs.declared.fault.RecordFault.{RecordFault}
use Rattle.ffv1_record.specs.declared.fault.RecordFault.TheVariants as record_fault
use Rattle.ffv1_frame.specs.declared.fault.CodecFault.{CodecFault}
use Rattle.ffv1_frame.specs.declared.fault.CodecFault.TheVariants as codec_fault
use Rattle.ffv1_codec.specs.DecodeFaults.{is_decode_fault}
use Rattle.ffv1_reads.specs.declared.fault.FileFault.{FileFault}
use Rattle.ffv1_reads.specs.declared.fault.FileFault.TheVariants as avi_fault
use Rattle.ffv1_files.specs.declared.container.Container.TheVariants as container
use Rattle.ffv1_files.specs.declared.container.Scope.{Scope}
use Rattle.ffv1_files.specs.declared.container.Scope.TheVariants.{FirstMovi, Whole}
use Rattle.ffv1_files.specs.Offsets.{PlaceReached}
use Rattle.ffv1_files.specs.Readers.{Standing}
use Rattle.ffv1_reads.specs.Head.{Head}
use Rattle.ffv1_avi.specs.Places.{extent_of}
use Rattle.ffv1_avi.specs.Readers.{reads_on}
use Rattle.ffv1_avi.specs.declared.place.Place.{Place as AviPlace}
use Rattle.ffv1_files.specs.Places.{InAvi, InMatroska, Place, container_of}
use Rattle.ffv1_files.specs.Behind.{is_behind_fault}
use Rattle.ffv1_files.specs.Readers as files
use Rattle.ffv1_video.specs.declared.profile.Profile.{Profile}
use Rattle.ffv1_video.specs.declared.profile.Profile.TheVariants.{Strict, Wide}
use Rattle.ffv1_unpack.specs.Containers.{is_profile_fault}
use Rattle.ffv1_unpack.specs.Internal.Containers.{IsContainerFault, IsWithin, is_segment_fault, told_at}
use Rattle.ffv1_unpack.specs.Internal.Located.{StaysReached}
use Rattle.ffv1_unpack.specs.Located.{Stands}
use Rattle.ffv1_video.specs.Profiles.{scope_in}
use Rattle.ffv1_video.specs.declared.fault.Fault.{Fault}
use Rattle.ffv1_video.specs.declared.fault.Fault.TheVariants as fault
use Rattle.ffv1_video.specs.Faults.{is_matroska_fault, of_avi, of_codec, of_record}
use Rattle.ffv1_unpack.specs.Opens.{is_opening_fault}
use Rattle.ffv1_unpack.specs.Check.{IsCheckFault}
use Rattle.ffv1_unpack.specs.Show.{IsShowFault, is_show_fault, is_write}
use Rattle.ffv1_unpack.specs.Unpack.{IsUnpackFaultIn}
use Rattle.ffv1_unpack.specs.Internal.Unpack.{IsWritingFault}
use Rattle.ffv1_unpack.specs.Told.{is_telling_fault}
use Rattle.ffv1_unpack.specs.Internal.Plainly.{IsItemFault}
use Rattle.ffv1_unpack.specs.Internal.Told.{IsToldFault, WritesFrame}
use Rattle.ffv1_unpack.proofs.FirstMovis.{reads_alone}

pub record_opens : (r : RecordFault) → is_opening_fault (of_record r) ≡ true
record_opens record_fault.OutOfMemory = refl
record_opens r = refl

-- those of the reader of files
pub file_opens : (profile : Profile) (f : FileFault) → files.is_opening_fault (scope_in profile) f ≡ true → (is_opening_fault (of_avi f) ≡ true) ⊎ (is_profile_fault profile (of_avi f) ≡ true)
file_opens profile avi_fault.OutOfMemory own = inl refl
file_opens profile avi_fault.NotAvi own = inl refl
file_opens profile avi_fault.NoFfv1 own = inl refl
file_opens profile avi_fault.Truncated own = inl refl
file_opens profile avi_fault.ChunkTooLong own = inl refl
file_opens profile avi_fault.Read own = inl refl
file_opens Wide avi_fault.NotMatroska own = inr refl
file_opens Wide avi_fault.BadElement own = inr refl
file_opens Wide avi_fault.NoTracks own = inr refl
file_opens Wide avi_fault.Encoded own = inr refl
file_opens Wide avi_fault.Checksum own = inr refl
file_opens Strict f own = absurd (let no : false ≡ true = own in cc)
file_opens Wide f own = absurd (let no : false ≡ true = own in cc)

-- another file behind an AVI is met only if all of the file is read
only_whole : (scope : Scope) (text left : Option (List ℕ)) (head : Head) (place : AviPlace) (offset : ℕ) → PlaceReached scope text left head (InAvi place) offset → reads_on (extent_of place) ≡ true → scope ≡ Whole
only_whole FirstMovi text left head place offset h every = absurd (reads_alone head h.first place text h.between left h.before h.after h.opened h.framed every)
only_whole Whole text left head place offset h every = refl

frame_told : (r : Standing) (left : Option (List ℕ)) (place : Place) (f : FileFault) → ((scope : Scope) (text : Option (List ℕ)) → Stands scope text left r → PlaceReached scope text left r.head place r.offset) → files.is_frame_fault place f ≡ true →
    (is_telling_fault (of_avi f) ≡ true) ⊎ told_at r left place (of_avi f)
frame_told r left place avi_fault.OutOfMemory whole own = inl refl
frame_told r left place avi_fault.NotAvi whole own = inl refl
frame_told r left place avi_fault.Truncated whole own = inl refl
frame_told r left place avi_fault.ChunkTooLong whole own = inl refl
frame_told r left place avi_fault.EmptyFrame whole own = inl refl
frame_told r left place avi_fault.Read whole own = inl refl
frame_told r left (InMatroska segment track place) avi_fault.BadElement whole own = inr refl
frame_told r left (InMatroska segment track place) avi_fault.Laced whole own = inr refl
frame_told r left (InMatroska segment track place) avi_fault.Checksum whole own = inr refl
frame_told r left (InAvi place) avi_fault.Another whole own = inr (refl, λ scope text stands. only_whole scope text left r.head place r.offset (whole scope text stands) own)
frame_told r left (InAvi place) f whole own = absurd (let no : false ≡ true = own in cc)
frame_told r left (InMatroska segment track place) f whole own = absurd (let no : false ≡ true = own in cc)

pub frame_tells : (r : Standing) (left : Option (List ℕ)) (f : FileFault) → files.is_frame_fault r.place f ≡ true → IsToldFault r left (of_avi f)
frame_tells r left f own = frame_told r left r.place f (λ scope text stands. stands.reached.whole) own

-- and those of what stands behind the end, which is in that container
behind_told : (r : Standing) (left : Option (List ℕ)) (place last : Place) (f : FileFault) → container_of last ≡ container_of place → is_behind_fault last f ≡ true → (is_telling_fault (of_avi f) ≡ true) ⊎ told_at r left place (of_avi f)
behind_told r left place (InAvi last) f same own = absurd (let no : false ≡ true = own in cc)
behind_told r left (InAvi place) (InMatroska segment track last) f same own = absurd (cc)
behind_told r left (InMatroska size numbers place) (InMatroska segment track last) avi_fault.Read same own = inl refl
behind_told r left (InMatroska size numbers place) (InMatroska segment track last) avi_fault.Another same own = inr refl
behind_told r left (InMatroska size numbers place) (InMatroska segment track last) f same own = absurd (let no : false ≡ true = own in cc)

pub behind_tells : (r : Standing) (left : Option (List ℕ)) (last : Standing) (f : FileFault) → container_of last.place ≡ container_of r.place → is_behind_fault last.place f ≡ true → IsToldFault r left (of_avi f)
behind_tells r left last f same own = behind_told r left r.place last.place f same own

-- those of a later position are those of the one before
at_on : (old new : Standing) (p : Passage) (place last : Place) (f : Fault) → container_of last ≡ container_of place → (container_of place ≡ container.Avi → StaysReached old new p) → told_at new p.new last f → told_at old p.old place f
at_on old new p (InAvi place) (InAvi last) f same stays (is, whole) = (is, λ scope text stands. whole scope text (stays refl scope text stands))
at_on old new p (InMatroska size numbers place) (InMatroska segment track last) f same stays own = own
at_on old new p (InAvi place) (InMatroska segment track last) f same stays own = absurd (cc)
at_on old new p (InMatroska size numbers place) (InAvi last) f same stays own = absurd (cc)

pub told_after : (old new : Standing) (p : Passage) (f : Fault) → container_of new.place ≡ container_of old.place → (container_of old.place ≡ container.Avi → StaysReached old new p) → IsToldFault new p.new f → IsToldFault old p.old f
told_after old new p f same stays h = elim h [
  | inl own ↦ inl own
  | inr own ↦ inr (at_on old new p old.place new.place f same stays own)
]

-- those of plain reading, as those of an item
pub plain_tells : (plain : Bool) (r : Standing) (left : Option (List ℕ)) (f : Fault) → plain ≡ true → IsToldFault r left f → IsItemFault plain r left f
plain_tells plain r left f is h = elim h [
  | inl own ↦ inl own
  | inr own ↦ inr (is, own)
]

-- and of reading items on
pub item_told : (old new : Standing) (p : Passage) (f : Fault) (plain : Bool) → container_of new.place ≡ container_of old.place → (plain ≡ true → StaysReached old new p) → IsItemFault plain new p.new f → IsToldFault old p.old f
item_told old new p f plain same stays h = elim h [
  | inl own ↦ inl own
  | inr own ↦ told_after old new p f same (λ avi. stays own.0) (inr own.1)
]

pub told_on : (old new : Standing) (p : Passage) (f : Fault) → container_of new.place ≡ container_of old.place → StaysReached old new p → IsToldFault new p.new f → IsToldFault old p.old f
told_on old new p f same stays h = told_after old new p f same (λ avi. stays) h

pub written_on : (old new : Standing) (p : Passage) (f : Fault) → container_of new.place ≡ container_of old.place → StaysReached old new p → IsWritingFault new p.new f → IsWritingFault old p.old f
written_on old new p f same stays h = elim h [
  | inl own ↦ inl own
  | inr own ↦ inr (at_on old new p old.place new.place f same (λ avi. stays) own)
]

-- a profile that reads AVI alone
pub within_of : (profile : Profile) (place : Place) → (scope_in profile ≡ FirstMovi → container_of place ≡ container.Avi) → IsWithin profile place
within_of Strict place avi = avi refl
within_of Wide place avi = tt

-- those of a Segment are those of Matroska
pub segment_matroska : (f : Fault) → is_segment_fault f ≡ true → is_matroska_fault f ≡ true
segment_matroska (fault.File avi_fault.BadElement) own = refl
segment_matroska (fault.File avi_fault.Laced) own = refl
segment_matroska (fault.File avi_fault.Checksum) own = refl
segment_matroska (fault.File avi_fault.Another) own = refl
segment_matroska f own = absurd (let no : false ≡ true = own in cc)

-- those of a container are those of a profile that reads it
own_at : (profile : Profile) (r : Standing) (text left : Option (List ℕ)) (place : Place) (f : Fault) → Stands (scope_in profile) text left r → IsWithin profile place → told_at r left place f → is_profile_fault profile f ≡ true
own_at Strict r text left (InAvi place) f stands within (is, whole) = absurd (let no : FirstMovi ≡ Whole = whole FirstMovi text stands in cc)
own_at Strict r text left (InMatroska segment track place) f stands within own = absurd (cc)
own_at Wide r text left (InAvi place) f stands within (is, whole) = ap is_matroska_fault is
own_at Wide r text left (InMatroska segment track place) f stands within own = segment_matroska f own

pub container_own : (profile : Profile) (r : Standing) (text left : Option (List ℕ)) (f : Fault) → Stands (scope_in profile) text left r → IsWithin profile r.place → IsContainerFault r left f → is_profile_fault profile f ≡ true
container_own profile r text left f stands within own = own_at profile r text left r.place f stands within own

pub told_checks : (profile : Profile) (r : Standing) (text left : Option (List ℕ)) (f : Fault) → Stands (scope_in profile) text left r → IsWithin profile r.place → IsToldFault r left f → IsCheckFault profile f
told_checks profile r text left f stands within h = elim h [
  | inl own ↦ inr (inl own)
  | inr own ↦ inr (inr (inr (container_own profile r text left f stands within own)))
]

-- those of reading on and of writing lines are those of writing pictures
pub told_writes : (r : Standing) (left : Option (List ℕ)) (f : Fault) → IsToldFault r left f → IsWritingFault r left f
told_writes r left f h = elim h [
  | inl own ↦ inl (inr (inl own))
  | inr own ↦ inr own
]

pub written_unpacks : (profile : Profile) (r : Standing) (text left : Option (List ℕ)) (f : Fault) → Stands (scope_in profile) text left r → IsWithin profile r.place → IsWritingFault r left f → IsUnpackFaultIn profile f
written_unpacks profile r text left f stands within h = elim h [
  | inl own ↦ inl own
  | inr own ↦ inr (container_own profile r text left f stands within own)
]

-- and so are those of passing frames
pub passing_checks : (profile : Profile) (r : Standing) (text left : Option (List ℕ)) (f : Fault) → Stands (scope_in profile) text left r → IsWithin profile r.place → (f ≡ fault.NoFrames) ⊎ IsToldFault r left f → IsCheckFault profile f
passing_checks profile r text left f stands within h = elim h [
  | inl none ↦ inr (inr (inl none))
  | inr told ↦ told_checks profile r text left f stands within told
]

pub passing_unpacks : (profile : Profile) (r : Standing) (text left : Option (List ℕ)) (f : Fault) → Stands (scope_in profile) text left r → IsWithin profile r.place → (f ≡ fault.NoFrames) ⊎ IsToldFault r left f → IsUnpackFaultIn profile f
passing_unpacks profile r text left f stands within h = elim h [
  | inl none ↦ inl (inr (inr (inl none)))
  | inr told ↦ elim told [
    | inl own ↦ inl (inr (inl own))
    | inr own ↦ inr (container_own profile r text left f stands within own)
  ]
]

-- and those of opening it
pub opening_checks : (profile : Profile) (f : Fault) → (is_opening_fault f ≡ true) ⊎ (is_profile_fault profile f ≡ true) → IsCheckFault profile f
opening_checks profile f h = elim h [
  | inl own ↦ inl own
  | inr own ↦ inr (inr (inr own))
]

pub opening_unpacks : (profile : Profile) (f : Fault) → (is_opening_fault f ≡ true) ⊎ (is_profile_fault profile f ≡ true) → IsUnpackFaultIn profile f
opening_unpacks profile f h = elim h [
  | inl own ↦ inl (inl own)
  | inr own ↦ inr own
]

pub payload_tells : (g : CodecFault) → is_decode_fault g ≡ true → g ≢ codec_fault.Sink → is_telling_fault (of_codec g) ≡ true
payload_tells codec_fault.OutOfMemory decode own = refl
payload_tells codec_fault.SliceTooLong decode own = absurd (let no : false ≡ true = decode in cc)
payload_tells codec_fault.Sink decode own = absurd (own refl)
payload_tells g decode own = refl

either_left : (a b : Bool) → a ≡ true → (a || b) ≡ true
either_left true b h = refl
either_left false b h = absurd (let no : false ≡ true = h in cc)

either_right : (a b : Bool) → b ≡ true → (a || b) ≡ true
either_right true b h = refl
either_right false b h = h

pub opening_shows : (cost : Bool) (f : Fault) → is_opening_fault f ≡ true → is_show_fault cost f ≡ true
opening_shows false f h = either_left (is_opening_fault f) (is_write f) h
opening_shows true f h = either_left (is_opening_fault f) (is_telling_fault f) h

pub opened_shows : (profile : Profile) (cost : Bool) (f : Fault) → (is_opening_fault f ≡ true) ⊎ (is_profile_fault profile f ≡ true) → IsShowFault profile cost f
opened_shows profile cost f h = elim h [
  | inl own ↦ inl (opening_shows cost f own)
  | inr own ↦ inr own
]

pub told_shows : (profile : Profile) (r : Standing) (text left : Option (List ℕ)) (f : Fault) → Stands (scope_in profile) text left r → IsWithin profile r.place → IsToldFault r left f → IsShowFault profile true f
told_shows profile r text left f stands within h = elim h [
  | inl own ↦ inl (either_right (is_opening_fault f) (is_telling_fault f) own)
  | inr own ↦ inr (container_own profile r text left f stands within own)
]

pub line_shows : (cost : Bool) (line : List ℕ) (p : Passage) (f : Fault) → WritesFrame line p (Err f) → is_show_fault cost f ≡ true
line_shows cost line p f h = elim h [
  | inl write ↦ subst (λ z. is_show_fault cost z ≡ true) (sym write.0) (is_own cost)
  | inr none ↦ opening_shows cost f (subst (λ z. is_opening_fault z ≡ true) (sym none.0) refl)
]
  where
    is_own : (cost : Bool) → is_show_fault cost fault.Write ≡ true
    is_own false = refl
    is_own true = refl

pub line_checks : (profile : Profile) (line : List ℕ) (p : Passage) (f : Fault) → WritesFrame line p (Err f) → IsCheckFault profile f
line_checks profile line p f h = elim h [
  | inl write ↦ inr (inl (subst (λ z. is_telling_fault z ≡ true) (sym write.0) refl))
  | inr none ↦ inr (inl (subst (λ z. is_telling_fault z ≡ true) (sym none.0) refl))
]
