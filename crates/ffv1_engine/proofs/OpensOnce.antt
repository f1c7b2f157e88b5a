-- A file that was packed is opened in one reading: no Cluster comes before its Tracks.
use Rattle.std.specs.Prelude.{if◌then◌else◌}
use Rattle.std.proofs.Common.{◌≡◌, refl, ℕ, true, false, Result, Ok, Err, List, ap, sym, ◌∙◌}
use Rattle.ffv1_avi.specs.declared.place.Extent.TheVariants.{EveryRiff}
use Rattle.ffv1_files.specs.Files.{avi_opened, is_matroska, matroska_begun, matroska_once, matroska_opened, once_read, open_read}
use Rattle.ffv1_files.specs.Places.{InMatroska, Place}
use Rattle.ffv1_files.specs.declared.container.Scope.TheVariants.{FirstMovi, Whole}
use Rattle.ffv1_matroska.specs.Opened as matroska
use Rattle.ffv1_reads.specs.Head.{Head}
use Rattle.ffv1_reads.specs.Reads as avi
use Rattle.ffv1_video.specs.Profiles.{scope_in}
use Rattle.ffv1_video.specs.declared.profile.Profile.{Profile}
use Rattle.ffv1_video.specs.declared.profile.Profile.TheVariants.{Strict, Wide}
use Rattle.ffv1_engine.specs.RoundTrip.{IsFileIn}

-- its head is read, and where its frames begin
abbrev pub OpensOnce : Profile → List ℕ → Type 0
OpensOnce profile file = (p : (Head × Place) × List ℕ) × (once_read (scope_in profile) file ≡ Ok p)

-- an AVI is read in one reading
first_once : (file : List ℕ) → once_read FirstMovi file ≡ open_read FirstMovi file
unfolding open_read once_read
first_once file = refl

riffs_once : (file : List ℕ) → is_matroska file ≡ false → once_read Whole file ≡ open_read Whole file
unfolding open_read once_read
riffs_once file none =
    ap (λ b. if b then matroska_once file else avi_opened EveryRiff file) none
    ∙ sym (ap (λ b. if b then matroska_opened file else avi_opened EveryRiff file) none)

pub avi_once : (profile : Profile) (file : List ℕ) (head : Head) (frames : List (List ℕ)) (p : (Head × Place) × List ℕ) → IsFileIn profile file head frames →
    open_read (scope_in profile) file ≡ Ok p → OpensOnce profile file
avi_once Strict file head frames p is e = (p, first_once file ∙ e)
avi_once Wide file head frames p is e = (p, riffs_once file (ap is_matroska is.bytes) ∙ e)

-- and so is a Matroska file that is read so
first_part : {X Y : Type 0} (r : Result (X × List ℕ) avi.Stop) (next : X → avi.Reading Y) (y : Y × List ℕ) → avi.read_on r next ≡ Ok y → (x : X × List ℕ) × (r ≡ Ok x)
first_part (Err why) next y e = absurd (cc)
first_part (Ok x) next y e = (x, refl)

pub matroska_file_once : (file : List ℕ) (whole : (Head × List (List ℕ)) × List ℕ) → is_matroska file ≡ true → matroska.file_read file ≡ Ok whole → OpensOnce Wide file
unfolding once_read matroska.file_read
matroska_file_once file whole first e =
    let o = first_part (matroska.open_read file) _ whole e in (
      ((o.0.0.track.head, InMatroska o.0.0.segment o.0.0.track.numbers o.0.0.place), o.0.1),
      ap (λ b. if b then matroska_once file else avi_opened EveryRiff file) first
          ∙ ap (λ r. avi.read_on r matroska_begun) o.1,
    )
