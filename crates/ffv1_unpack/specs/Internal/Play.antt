-- What reading a payload answers.
use Rattle.std.specs.Prelude.{◌≡◌, ℕ, List, Option, Some, Ok}
use Rattle.ffv1_wire.specs.Passage.{Passage}
use Rattle.ffv1_files.specs.Places.{Place}
use Rattle.ffv1_files.specs.Files.{frame_read}
use Rattle.ffv1_files.specs.declared.notes.Notes.{Notes}
use Rattle.ffv1_reads.specs.Known.{Known}
use Rattle.ffv1_unpack.specs.Plays.{NextOver}

-- if the text is known, it reads so from this place of the file
abbrev pub NextIs : Place → Option (List ℕ) → Option (List ℕ) →
    Option (List ℕ × Place) → Type 0
NextIs from old new next = Known old new (λ text rest. frame_read from text ≡ Ok (next, rest))

-- nothing failed, and from this place of the file comes this payload, and then that place
pub record ReadsPayload (from to : Place) (payload : List ℕ) (p : Passage) : Type 0 where
  pub kept : p.after ≡ p.before
  pub next : NextIs from p.old p.new (Some (payload, to))

-- nothing failed, and from this place of the file there is no frame; this is noted of the end
pub record ReadsEnd (from : Place) (notes : Notes) (p : Passage) : Type 0 where
  pub kept : p.after ≡ p.before
  pub over : Known p.old p.new (NextOver notes from)
