-- The end of what a file gives that may be damaged: what its items say of Cues, where reading has
-- come to, and what stands after it.
use Rattle.std.specs.Prelude.{◌≡◌, ◌⊎◌, ◌-◌, ◌^◌, ℕ, suc, zero, Bool, false, List, [], ◌∷◌, length}
use Rattle.std.specs.Prelude.{Some, None, Result, Ok, Err, ⊤}
use Rattle.ffv1_reads.specs.Head.{Head}
use Rattle.ffv1_reads.specs.Items.{Given}
use Rattle.ffv1_reads.specs.Reads.{Met, Stop}
use Rattle.ffv1_reads.specs.declared.fault.FileFault.TheVariants as file_fault
use Rattle.ffv1_avi.specs.Files.{others_read}
use Rattle.ffv1_avi.specs.declared.place.Extent.TheVariants.{EveryRiff}
use Rattle.ffv1_files.specs.Behind.{EndsThere, items_noted}
use Rattle.ffv1_files.specs.Files.{open_read}
use Rattle.ffv1_files.specs.Items.{Next, course_ended, course_of, cued_item, item_read}
use Rattle.ffv1_files.specs.Noted.{no_notes}
use Rattle.ffv1_files.specs.Offsets.{PlaceReached}
use Rattle.ffv1_files.specs.Places.{Place}
use Rattle.ffv1_files.specs.Readers.{Standing}
use Rattle.ffv1_files.specs.declared.course.Course.{Course}
use Rattle.ffv1_files.specs.declared.course.Course.TheVariants as course
use Rattle.ffv1_files.specs.declared.notes.Notes.{Notes}
use Rattle.ffv1_video.specs.declared.profile.Profile.{Profile}
use Rattle.ffv1_video.specs.Profiles.{scope_in}
use Rattle.ffv1_unpack.specs.Behind.{IsNoted, Looks}
use Rattle.ffv1_unpack.specs.JudgedItems.{ItemsFrom, ItemsOver, JudgedItem, ToldAt}

-- ---- whether Cues came after the last Cluster

abbrev pub cued_on : (Place → Course → Bool → List ℕ → Bool) → Bool →
    Result (Next × List ℕ) Stop → Bool
cued_on on cued (Err why) = cued
cued_on on cued (Ok (None, rest)) = cued
cued_on on cued (Ok (Some p, rest)) = on p.1 p.2 cued rest

-- after all items from here on, at most so many
unfoldable pub cued_up_to : ℕ → Place → Course → Bool → List ℕ → Bool
cued_up_to zero from c cued text = cued
cued_up_to (suc most) from c cued text =
    cued_on (cued_up_to most) (cued_item from c cued text) (item_read from c text)

unfoldable pub cued_left : Place → Course → Bool → List ℕ → Bool
cued_left from c cued text = cued_up_to (2 ^ 64 - 1) from c cued text

-- ---- where reading has come to

abbrev pub course_on : (Place → Course → List ℕ → Course) → Course → Result (Next × List ℕ) Stop →
    Course
course_on on over (Err why) = over
course_on on over (Ok (None, rest)) = over
course_on on over (Ok (Some p, rest)) = on p.1 p.2 rest

-- the course after all items from here on, at most so many: once no further one comes it says how
-- the frames of an AVI have ended
unfoldable pub course_up_to : ℕ → Place → Course → List ℕ → Course
course_up_to zero from c text = c
course_up_to (suc most) from c text =
    course_on (course_up_to most) (course_ended c text) (item_read from c text)

unfoldable pub course_left : Place → Course → List ℕ → Course
course_left from c text = course_up_to (2 ^ 64 - 1) from c text

-- ---- what comes after the end

-- of an AVI of which every RIFF is read so many further streams begin as FFV1 video
abbrev pub OthersRead : Course → ℕ → List ℕ → Type 0
OthersRead (course.Avi c repeated) others file =
    (begun : List ℕ) × (others_read EveryRiff file ≡ Ok (others, begun))
OthersRead course.Plain others file = ⊤
OthersRead (course.Matroska c) others file = ⊤

-- a reader was opened on a file with this head, and this is left of the file
pub record OpensAt (profile : Profile) (head : Head) (r : Standing) (file left : List ℕ)
    : Type 0 where
  pub opens : open_read (scope_in profile) file ≡ Ok ((head, r.place), left)
  pub reached : PlaceReached (scope_in profile) (Some file) (Some left) head r.place r.offset
  pub ends : EndsThere r
  pub others : OthersRead (course_of r) r.others file

-- this is said of how notes are read after all items from where a reader stands, by how many bytes
-- come before the end of its Segment, and of what is left; so many bytes are left where it stands
abbrev pub EndLooks : Standing → List ℕ → (ℕ → Looks) → List ℕ → List ℕ → Type 0
EndLooks r behind Looked left rest =
    Looked r.end (items_noted r (course_left r.place (course_of r) behind)
    (cued_left r.place (course_of r) false behind)) left rest

-- a file has this head and these items, and no further one is read; and this is said of how notes
-- are read of what comes after its end, and of what is left
abbrev pub ItemsEnd : Profile → Head → List Given → (ℕ → Looks) → List ℕ → List ℕ → Type 0
ItemsEnd profile head items Looked file rest =
    (r : Standing) × (behind : List ℕ) × (left : List ℕ) × OpensAt profile head r file behind
    × ItemsFrom r.place (course_of r) items (ItemsOver (length items)) behind left
    × EndLooks r behind Looked left rest

-- another file begins there
abbrev pub BeginsAnother : Looks
BeginsAnother reading text rest = reading text ≡ Err (Met file_fault.Another rest)

-- nothing is told of it, and this is noted; or another file is told there
abbrev pub EndTold : List JudgedItem → Notes → ℕ → Looks
EndTold told notes end reading text rest =
    ((told ≡ []) × IsNoted notes reading text rest)
    ⊎ ((told ≡ ToldAt file_fault.Another end ∷ []) × (notes ≡ no_notes)
    × BeginsAnother reading text rest)
