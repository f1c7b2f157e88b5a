-- What is noted of a file, and what comes of that.
use Rattle.std.specs.Prelude.{◌≡◌, ◌&&◌, ◌||◌, Bool, if◌then◌else◌, is_some, nat_lt, Result, Ok}
use Rattle.std.specs.Prelude.{Err}
use Rattle.ffv1_files.specs.Noted.{no_notes}
use Rattle.ffv1_files.specs.declared.notes.Notes.{Notes}
use Rattle.ffv1_orders.specs.declared.refusal.Refusal.{Refusal}
use Rattle.ffv1_orders.specs.declared.refusal.Refusal.TheVariants as refusal

-- anything is
abbrev pub is_noted : Notes → Bool
is_noted notes =
    (((notes.is_open || nat_lt 0 notes.others) || is_some notes.times) || nat_lt 0 notes.repeated)
    || is_some notes.after

-- what comes of what was done of a file, if a note is a fault or if it is none
abbrev pub noted : Bool → Result Notes Refusal → Result Notes Refusal
noted as_faults (Ok notes) =
    if as_faults && is_noted notes then Err (refusal.Notes notes) else Ok notes
noted as_faults (Err r) = Err r

-- a refusal that is a note
abbrev pub IsOfNotes : Refusal → Type 0
IsOfNotes r = (notes : Notes) × (r ≡ refusal.Notes notes)

-- what is noted of a file of whose order this came
abbrev pub notes_of : Result Notes Refusal → Notes
notes_of (Ok notes) = notes
notes_of (Err (refusal.Fault f)) = no_notes
notes_of (Err refusal.OneFile) = no_notes
notes_of (Err refusal.Exists) = no_notes
notes_of (Err (refusal.Differs frame)) = no_notes
notes_of (Err (refusal.List line)) = no_notes
notes_of (Err (refusal.Judged f notes)) = notes
notes_of (Err (refusal.Notes notes)) = notes
