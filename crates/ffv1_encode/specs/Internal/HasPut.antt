-- Where an encoder of a slice stands.
use Rattle.std.specs.Prelude.{◌≡◌, ℕ, ◌*◌, List, [], ◌++◌}
use Rattle.ffv1_range.specs.Interval.{interval_of}
use Rattle.ffv1_range.specs.Table.{Table}
use Rattle.ffv1_range.specs.Writing.{Writing}
use Rattle.ffv1_range.specs.Symbols.{Step}
use Rattle.ffv1_range.specs.History.{decisions_after, HasStates}
use Rattle.ffv1_range.specs.Counts.{Counted, uncounted}
use Rattle.ffv1_record.specs.Configuration.{Configuration}
use Rattle.ffv1_record.specs.Sets.{most_contexts}
use Rattle.ffv1_record.specs.Held.{classes_of}
use Rattle.ffv1_encode.specs.declared.slice.Slice.{Slice}
use Rattle.ffv1_frame.specs.Picture.{cell_in}
use Rattle.ffv1_frame.specs.SliceList.{chosen_body, chosen_head, lines_in}

-- an encoder has put these steps of a slice, and the states of the classes, whose first slot is 33,
-- are those after them
pub record HasPut (t : Table) (past : List Step) (w : Writing) (states : List ℕ) : Type 0 where
  pub interval : w.interval ≡ interval_of (decisions_after t [] past)
  pub has : HasStates t states 33 past
  pub counts : Counted uncounted past w.counts

-- whatever was put before, these steps were put
pub record PutsAfter (t : Table) (old : Writing) (states : List ℕ) (new : Writing)
    (after : List ℕ) (steps : List Step) : Type 0 where
  pub behind : (past : List Step) → HasPut t past old states →
      HasPut t (past ++ steps) new after

-- the samples of a slice were put, as an encoder takes them
abbrev pub PutsSamples : {A B : Type 0} →
    Slice A B → Writing → List ℕ → Writing → List ℕ → Type 0
PutsSamples s old states new after =
    PutsAfter s.checked.now.table old states new after
    (chosen_body s.checked.now.configuration (chosen_head s.checked.now.configuration s.info)
    (cell_in s.checked.now.configuration s.picture.now s.number)
    (lines_in s.checked.now.configuration s.number))

-- so many states there are, of all classes of planes
abbrev pub states_in : Configuration → ℕ
states_in c = 32 * (most_contexts c.sets * classes_of c.chroma_planes c.extra_plane)
