-- What stands written when a call is refused.
use Rattle.std.specs.Prelude.{◌≡◌, ℕ, List, length, Option}
use Rattle.std.specs.Io.KnownBytes.{Appends, Keeps}
use Rattle.ffv1_wire.specs.Passage.{Passage}
use Rattle.std.specs.Prelude.{◌<◌, ◌≤◌, take}

-- nothing was written
pub record Silent (output : Passage) : Type 0 where
  pub kept : Keeps output.old output.new
  pub same : output.after ≡ output.before

-- written is the text of all frames but the last, and of what stands after it a beginning
pub record WritesUpTo (old new : Option (List ℕ)) (least : ℕ) (all : List ℕ) : Type 0 where
  pub count : ℕ
  pub enough : least ≤ count
  pub short : count < length all
  pub writes : Appends old new (take count all)
