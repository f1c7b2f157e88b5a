-- A file that was opened is read as what its first byte says.
use Rattle.std.proofs.Common.{◌≡◌, ◌⊎◌, refl, Bool, if◌then◌else◌, true, false, Option, Some, None, Result, Ok, Err, List, ℕ, not, inl, inr, ap, sym, ◌∙◌}
use Rattle.ffv1_reads.specs.Head.{Head}
use Rattle.ffv1_reads.specs.Reads.{Stop, given, read_on}
use Rattle.ffv1_reads.proofs.Results.{ok_is}
use Rattle.ffv1_avi.specs.Files as avi
use Rattle.ffv1_avi.specs.declared.place.Extent.TheVariants.{FirstMovi, EveryRiff}
use Rattle.ffv1_avi.specs.declared.place.Place.{Place as AviPlace}
use Rattle.ffv1_matroska.specs.Late.{again_read}
use Rattle.ffv1_matroska.specs.Opened.{Opened}
use Rattle.ffv1_files.specs.Files.{avi_opened, is_matroska, matroska_begun, matroska_opened, open_read}
use Rattle.ffv1_files.specs.Places.{InAvi, InMatroska, Place, container_of}
use Rattle.ffv1_video.specs.declared.profile.Profile.{Profile}
use Rattle.ffv1_video.specs.declared.profile.Profile.TheVariants.{Strict, Wide}
use Rattle.ffv1_video.specs.Profiles.{scope_in}
use Rattle.ffv1_reads.specs.Known.{Known}
use Rattle.ffv1_files.specs.Items.{course_of}
use Rattle.ffv1_files.specs.Noted.{notes_reached}
use Rattle.ffv1_files.specs.Readers.{Standing}
use Rattle.ffv1_unpack.specs.Containers.{IsReadAs, IsReadOn, reads_matroska, reads_on}
use Rattle.ffv1_unpack.specs.Located.{Stands}
use Rattle.ffv1_unpack.specs.Internal.Plainly.{is_plain}
use Rattle.ffv1_unpack.proofs.ItemsCourse.{first_plain, whole_reads}
use Rattle.ffv1_unpack.specs.Internal.Containers.{is_segment}
use Rattle.ffv1_unpack.specs.Opens.{OpensKnown}

module _ (head : Head) (place : Place) (rest : List ℕ) where
  as_avi : (z : Result ((Head × AviPlace) × List ℕ) Stop) → read_on {Y = Head × Place} z (λ p. given (p.0, InAvi p.1)) ≡ Ok ((head, place), rest) → false ≡ is_segment (container_of place)
  as_avi (Ok (p, more)) is = ap (λ (z : (Head × Place) × List ℕ). is_segment (container_of z.0.1)) (ok_is ((p.0, InAvi p.1), more) ((head, place), rest) is)
  as_avi (Err why) is = absurd (cc)

  as_matroska : (z : Result (Opened × List ℕ) Stop) → read_on {Y = Head × Place} z matroska_begun ≡ Ok ((head, place), rest) → true ≡ is_segment (container_of place)
  as_matroska (Ok (o, more)) is =
      ap (λ (z : (Head × Place) × List ℕ). is_segment (container_of z.0.1)) (ok_is ((o.track.head, InMatroska o.segment o.track.numbers o.place), more) ((head, place), rest) is)
  as_matroska (Err why) is = absurd (cc)

  as_whole : (file : List ℕ) (b : Bool) → is_matroska file ≡ b → (if b then matroska_opened file else avi_opened EveryRiff file) ≡ Ok ((head, place), rest) → b ≡ is_segment (container_of place)
  as_whole file true test is = as_matroska (again_read file) is
  as_whole file false test is = as_avi (avi.open_read EveryRiff file) is

  opened_as : (profile : Profile) (file : List ℕ) → open_read (scope_in profile) file ≡ Ok ((head, place), rest) → reads_matroska profile file ≡ is_segment (container_of place)
  unfolding open_read
  opened_as Strict file is = as_avi (avi.open_read FirstMovi file) is
  opened_as Wide file is = as_whole file (is_matroska file) refl is

-- if its bytes are known
pub read_as : (profile : Profile) (o n : Option (List ℕ)) (head : Head) (place : Place) → OpensKnown profile o n head place → (matroska : Bool) → is_segment (container_of place) ≡ matroska → IsReadAs matroska profile o
read_as profile None n head place known matroska is = tt
read_as profile (Some file) None head place known matroska is = absurd known
read_as profile (Some file) (Some rest) head place known matroska is = opened_as head place rest profile file known ∙ is

-- it is read as one of both
either_test : (b : Bool) → (b ≡ false) ⊎ (b ≡ true)
either_test false = inl refl
either_test true = inr refl

pub either_read : (profile : Profile) (o : Option (List ℕ)) → IsReadAs false profile o ⊎ IsReadAs true profile o
either_read profile None = inl tt
either_read profile (Some file) = either_test (reads_matroska profile file)

-- whether it is read on
on_by : (profile : Profile) (o n : Option (List ℕ)) (r : Standing) → Known o n (notes_reached (scope_in profile) r.place r.end r.cued r.after r.open_ended) → (plain : Bool) → is_plain (course_of r) ≡ plain → IsReadOn (not plain) profile o
on_by profile None n r known plain is = tt
on_by profile (Some file) None r known plain is = absurd known
on_by Strict (Some file) (Some left) r known plain is = ap not (sym (first_plain r.place r.offset r.end r.cued r.after r.open_ended file left known) ∙ is)
on_by Wide (Some file) (Some left) r known plain is = ap not (sym (whole_reads r.place r.offset r.end r.cued r.after r.open_ended file left known) ∙ is)

pub read_on_as : (profile : Profile) (o n : Option (List ℕ)) (r : Standing) → Stands (scope_in profile) o n r → (plain : Bool) → is_plain (course_of r) ≡ plain → IsReadOn (not plain) profile o
read_on_as profile o n r stands plain is = on_by profile o n r stands.noted.known plain is

pub either_on : (profile : Profile) (o : Option (List ℕ)) → IsReadOn false profile o ⊎ IsReadOn true profile o
either_on profile None = inl tt
either_on profile (Some file) = either_test (reads_on profile)
