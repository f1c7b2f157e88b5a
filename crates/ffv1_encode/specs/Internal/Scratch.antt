-- For how much an encoder has memory, from its vectors.
use Rattle.std.specs.Prelude.{ℕ, ◌+◌, vec_capacity}
use Rattle.std.specs.declared.vec.Vec.{Vec}
use Rattle.ffv1_line.specs.declared.cell.rows.RollingRows.{RollingRows}
use Rattle.ffv1_encode.specs.declared.cell_rows.PlaneRows.{PlaneRows}
use Rattle.ffv1_encode.specs.declared.slice_bytes.Scratch.{Scratch}
use Rattle.ffv1_frame.specs.Length.{Capacities}

-- for how many samples three rolling rows have memory. The rows change places, so they are added up
abbrev pub capacity_of_rows : {W A : Type 0} → RollingRows (Vec W A) → ℕ
capacity_of_rows rows = vec_capacity rows.two + vec_capacity rows.one + vec_capacity rows.cur

-- for how many samples the rows of all planes do
abbrev pub capacity_of_planes : {W A : Type 0} → PlaneRows W A → ℕ
capacity_of_planes rows =
    capacity_of_rows rows.first
    + capacity_of_rows rows.second
    + capacity_of_rows rows.third
    + capacity_of_rows rows.fourth

-- what is kept from a slice to the next
abbrev pub capacities_of : {A : Type 0} → Scratch A → Capacities
capacities_of scratch = record {
  states = vec_capacity scratch.states;
  narrow = capacity_of_planes scratch.rows.narrow;
  wide = capacity_of_planes scratch.rows.wide;
}
