-- Bytes among which no frame is found, and where no fault was told; and the first fault that is.
use Rattle.std.specs.Prelude.{◌≡◌, ◌++◌, ◌∷◌, [], ◌||◌, ℕ, List, None, Some, Ok, length, take}
use Rattle.std.specs.Prelude.{false, true}
use Rattle.ffv1_reads.specs.Items.{GivesFrame, Tells}
use Rattle.ffv1_reads.specs.declared.fault.FileFault.{FileFault}
use Rattle.ffv1_avi.specs.Behind.{EndsOpen}
use Rattle.ffv1_avi.specs.Items.{item_read}
use Rattle.ffv1_avi.specs.Places.{is_open}
use Rattle.ffv1_avi.specs.Turns.{begins_index, begins_sized}
use Rattle.ffv1_avi.specs.declared.course.Course.{Course}
use Rattle.ffv1_avi.specs.declared.course.Pending.TheVariants as pending
use Rattle.ffv1_avi.specs.declared.place.Names.{Names}
use Rattle.ffv1_avi.specs.declared.place.Place.{Place}

-- at none of these bytes, with others after them, begins a header of frames that have bytes, and
-- not too many, nor one of an index
abbrev pub HasNoHeader : Names → List ℕ → List ℕ → Type 0
HasNoHeader names bytes others =
    (a b : List ℕ) → bytes ≡ a ++ b → (length b ≡ 0 → ⊥) →
    (begins_sized names (take 8 (b ++ others)) || begins_index (take 8 (b ++ others))) ≡ false

-- where reading goes on at a place in a file of which no fault was told
abbrev pub plain_at : Place → ℕ → ℕ → Course
plain_at place begun at = record {
  place = place;
  pending = pending.Nothing;
  lost = false;
  begun = begun;
  at = at;
  open_ended = false;
  after = None;
}

-- in an RIFF whose size is not known the bytes of the input alone are counted
abbrev pub CountsInput : Place → Type 0
CountsInput place = is_open place.open_in ≡ true → place.riff ≡ 0

-- these frames come one by one, and then this fault is told, at this offset
abbrev pub TellsAfter : Course → List ℕ → List (List ℕ) → FileFault → ℕ → Type 0
TellsAfter c text [] f offset =
    (d : Course) × (more : List ℕ) × (item_read c text ≡ Ok (Some (Tells f offset, d), more))
TellsAfter c text (bytes ∷ frames) f offset =
    (d : Course) × (more : List ℕ) × (item_read c text ≡ Ok (Some (GivesFrame bytes, d), more))
    × TellsAfter d more frames f offset

-- what a course says where a file has ended is what a reader says that came from the same place to
-- the end of the same bytes
abbrev pub SaysEnd : Place → ℕ → List ℕ → List ℕ → Course → Type 0
SaysEnd place at text rest c = EndsOpen place (Some text) (Some rest) at c.after c.open_ended
