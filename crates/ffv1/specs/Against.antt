-- What comes of a file that is compared with a list of MD5s, by what opens files.
use Rattle.std.specs.Prelude.{◌≡◌, ◌⊎◌, ℕ, List, Option, Ok, Err, MatchResult, length}
use Rattle.ffv1_wire.specs.Passage.{Passage, passage}
use Rattle.ffv1_unpack.specs.Compared.{Agrees, ComparingStops}
use Rattle.ffv1_unpack.specs.Md5List.{IsListed, ListStops}
use Rattle.ffv1_unpack.specs.declared.comparing.Unlike.{Unlike}
use Rattle.ffv1_unpack.specs.declared.comparing.Unlike.TheVariants as unlike
use Rattle.ffv1_unpack.specs.declared.md5_list.ListFault.{ListFault}
use Rattle.ffv1_unpack.specs.declared.md5_list.ListFault.TheVariants as list_fault
use Rattle.ffv1_video.specs.declared.fault.Fault.{Fault}
use Rattle.ffv1_video.specs.declared.fault.Fault.TheVariants as fault
use Rattle.ffv1_video.specs.declared.profile.Profile.TheVariants as profile
use Rattle.ffv1_orders.specs.Looked.{Outcome, Printed}
use Rattle.ffv1_orders.specs.Telling.{IsUntold}
use Rattle.ffv1_orders.specs.Noted.{noted}
use Rattle.ffv1.specs.Opened.{OfFile, unnoted, unread}
use Rattle.ffv1_orders.specs.declared.comparing.Comparing.{Comparing}
use Rattle.ffv1_orders.specs.declared.refusal.Refusal.{Refusal}
use Rattle.ffv1_orders.specs.declared.refusal.Refusal.TheVariants as refusal
use Rattle.ffv1_orders.specs.declared.telling.Telling.{Telling}

-- the refusal of a list
abbrev pub list_refusal : ListFault → Refusal
list_refusal list_fault.Read = refusal.Fault fault.Read
list_refusal list_fault.OutOfMemory = refusal.Fault fault.OutOfMemory
list_refusal (list_fault.Line number) = refusal.List number

-- the refusal of a file that is compared with one
abbrev pub unlike_refusal : Unlike → Refusal
unlike_refusal (unlike.Fault f) = refusal.Fault f
unlike_refusal (unlike.Differs frame) = refusal.Differs frame

-- the pictures of a file are compared with these MD5s
abbrev pub Compares : List ℕ → Passage → Outcome → Type 0
Compares md5s input outcome = MatchResult outcome (Agrees profile.Wide md5s input)
    (λ r. (u : Unlike) × ComparingStops profile.Wide md5s input u × (r ≡ unlike_refusal u))

-- what prints what came of comparing a file with a list: the bytes of the path, in which way, of
-- how many MD5s the list is, what came of comparing, and of printing
abbrev pub Comparisons : Type 1
Comparisons = List ℕ → Telling → ℕ → Printed → Printed → Type 0

-- by which readers are of the list that was opened, why it could not be, and what they give
module _ {L : Type 0} (lists : L → Type 0) (lacks : Fault → Type 0)
    (lines : L → Option (List ℕ)) (list_failures : L → ℕ) where
  -- the list was read, and has these MD5s
  abbrev pub ListsIn : List ℕ → Type 0
  ListsIn md5s = (first : L) × (last : L) × lists first
      × IsListed (passage lines list_failures first last) md5s

  -- the list is refused, or could not be opened
  abbrev pub UnlistedIn : Refusal → Type 0
  UnlistedIn r =
      ((first : L) × (last : L) × lists first × (f : ListFault)
      × ListStops (passage lines list_failures first last) f × (r ≡ list_refusal f))
      ⊎ ((f : Fault) × lacks f × (r ≡ refusal.Fault f))

  -- and so is the file
  module _ {R : Type 0} (opens : R → Type 0) (misses : Type 0) (bytes : R → Option (List ℕ))
      (failures : R → ℕ) where
    -- the file is compared with the MD5s of the list, if that is read: the path of the one that
    -- this is about, and how many MD5s there are
    abbrev pub ComparesIn : Comparing → List ℕ → ℕ → Outcome → Type 0
    ComparesIn comparing path frames outcome =
        ((md5s : List ℕ) × ListsIn md5s
        × OfFile opens misses bytes failures (λ first last.
        Compares md5s (passage bytes failures first last) outcome) (outcome ≡ unread)
        × (path ≡ comparing.input.now) × (frames ≡ length md5s))
        ⊎ ((r : Refusal) × UnlistedIn r × (outcome ≡ Err r)
        × (path ≡ comparing.list.now) × (frames ≡ 0))

    -- what comes of comparing is printed, and comes of the order, if a note is a fault or if it is
    -- none; or why it is not printed does
    abbrev pub TellsIn : Comparisons → Comparing → Outcome → Type 0
    TellsIn tells comparing outcome =
        (path : List ℕ) × (frames : ℕ) × (done : Outcome) × ComparesIn comparing path frames done
        × ((tells path comparing.told frames (unnoted done) (Ok tt)
        × (outcome ≡ noted comparing.notes_as_faults done))
        ⊎ ((r : Refusal) × tells path comparing.told frames (unnoted done) (Err r) × IsUntold r
        × (outcome ≡ Err r)))
