-- A quantisation table whose entries are raised by the greatest.
use Rattle.std.specs.Prelude.{ℕ, ◌≡◌, ◌+◌, ◌-◌, ◌*◌, ◌<◌, ◌≤◌, IsTrue, List, [], ◌∷◌, length}
use Rattle.std.specs.Prelude.{slice_index, slice_index_or, pos, ◌+ℤ◌, unsigned_abs, if◌then◌else◌}
use Rattle.std.specs.Prelude.{nat_lt, sum, take, replicate}
use Rattle.ffv1_plane.specs.declared.prediction.Around.{Around}
use Rattle.ffv1_plane.specs.declared.table.Steps.{Steps}
use Rattle.ffv1_plane.specs.declared.table.TableLanes.{TableLanes}
use Rattle.ffv1_plane.specs.declared.quantisation.SetLanes.{SetLanes}
use Rattle.ffv1_plane.specs.Context.{context_of}
use Rattle.ffv1_plane.specs.Quantisation.{Set, is_filled, entry_of, scale_behind, contexts_of}
use Rattle.ffv1_plane.specs.Quantisation.{IsSet}

-- a table of a set, by its runs and its scale
pub record RaisedTable : Type 0 where
  pub runs : List ℕ
  pub scale : ℕ

abbrev pub table_of : List ℕ → ℕ → RaisedTable
table_of runs scale = record { runs = runs; scale = scale }

-- the greatest entry
abbrev pub half_of : RaisedTable → ℕ
half_of t = t.scale * (length t.runs - 1)

-- entry k, raised by the greatest
unfoldable pub raised_entry : RaisedTable → ℕ → ℕ
raised_entry t k = unsigned_abs (entry_of t.runs t.scale k +ℤ pos (half_of t))

-- the last place of level k of a table's lower half, or 255 if that is its last level or none
abbrev pub last_place : List ℕ → ℕ → ℕ
last_place runs k = if nat_lt (k + 1) (length runs) then sum (take (k + 1) runs) - 1 else 255

-- the last places of the first five levels
pub record AreLastPlaces (runs last_places : List ℕ) : Type 0 where
  pub each : (k : ℕ) → k < 5 → slice_index last_places k ≡ last_place runs k

-- the same and the greatest level, in 16 lanes each
pub record AreSteps (runs : List ℕ) (s : Steps) : Type 0 where
  pub first : s.first ≡ replicate 16 (last_place runs 0)
  pub second : s.second ≡ replicate 16 (last_place runs 1)
  pub third : s.third ≡ replicate 16 (last_place runs 2)
  pub fourth : s.fourth ≡ replicate 16 (last_place runs 3)
  pub fifth : s.fifth ≡ replicate 16 (last_place runs 4)
  pub most : s.most ≡ replicate 16 (length runs - 1)

-- the same and the scale, in 16 lanes each
pub record AreTableLanes (t : RaisedTable) (l : TableLanes) : Type 0 where
  pub steps : AreSteps t.runs l.steps
  pub scale : l.scale ≡ replicate 16 t.scale

-- each entry is raised by the greatest, and none is negative
pub record IsRaised (runs : List ℕ) (scale : ℕ) (raised : List ℕ) : Type 0 where
  pub filled : IsTrue (is_filled runs)
  pub room : scale * (2 * length runs - 1) < 65536
  pub each : (k : ℕ) → k < 256 →
      pos (slice_index raised k) ≡ entry_of runs scale k +ℤ pos (scale * (length runs - 1))
  pub most : (k : ℕ) → k < 256 → slice_index raised k ≤ 2 * (scale * (length runs - 1))

-- the five tables of a set, each at the scale after those before it, and the sum of their greatest
-- entries
pub record AreRaised (first second third fourth fifth : RaisedTable) (half : ℕ) : Type 0 where
  pub set : IsSet (first.runs ∷ second.runs ∷ third.runs ∷ fourth.runs ∷ fifth.runs ∷ [])
  pub first_scale : first.scale ≡ 1
  pub second_scale : second.scale ≡ scale_behind 1 (first.runs ∷ [])
  pub third_scale : third.scale ≡ scale_behind 1 (first.runs ∷ second.runs ∷ [])
  pub fourth_scale : fourth.scale ≡ scale_behind 1 (first.runs ∷ second.runs ∷ third.runs ∷ [])
  pub fifth_scale : fifth.scale ≡ scale_behind 1
      (first.runs ∷ second.runs ∷ third.runs ∷ fourth.runs ∷ [])
  pub contexts : contexts_of (first.runs ∷ second.runs ∷ third.runs ∷ fourth.runs ∷ fifth.runs ∷
      []) ≡ half + 1
  pub halves : half_of first + half_of second + half_of third + half_of fourth + half_of
      fifth ≡ half

-- table i of a set, at the scale after those before it
abbrev pub table_at : Set → ℕ → RaisedTable
table_at set i = table_of (slice_index_or set i []) (scale_behind 1 (take i set))

-- the lanes of each table of a set, and in 16 lanes what the early part of a sum is raised by
-- beside them, and the sum of the greatest entries
pub record AreSetLanes (set : Set) (l : SetLanes) : Type 0 where
  pub first : AreTableLanes (table_at set 0) l.first
  pub second : AreTableLanes (table_at set 1) l.second
  pub third : AreTableLanes (table_at set 2) l.third
  pub fourth : AreTableLanes (table_at set 3) l.fourth
  pub fifth : AreTableLanes (table_at set 4) l.fifth
  pub raise : l.raise ≡ replicate 16 (32769 - contexts_of set)
  pub half : l.half ≡ replicate 16 (contexts_of set - 1)

-- the sum of the look-ups of a sample, each raised by the greatest entry
unfoldable pub raised_sum : Set → Around → ℕ
raised_sum set a = unsigned_abs (context_of set a +ℤ pos (contexts_of set - 1))
