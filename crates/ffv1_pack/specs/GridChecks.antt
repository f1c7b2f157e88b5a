-- The checks of a configuration that look at its grid.
use Rattle.std.specs.Prelude.{◌≤◌, ℕ}
use Rattle.ffv1_record.specs.Accepted.{PassesIn}
use Rattle.ffv1_record.specs.Configuration.{Configuration}
use Rattle.ffv1_record.specs.declared.config.Profile.{Profile}
use Rattle.ffv1_record.specs.declared.fault.RecordFault.TheVariants as record_fault
use Rattle.ffv1_words.specs.declared.order.Choice.{Choice}

-- from 1 to 32 columns and rows
pub record AreParts (columns rows : ℕ) : Type 0 where
  pub some_columns : 1 ≤ columns
  pub few_columns : columns ≤ 32
  pub some_rows : 1 ≤ rows
  pub few_rows : rows ≤ 32

-- a choice with so many
abbrev pub with_parts : Choice → ℕ → ℕ → Choice
with_parts choice columns rows = record choice { columns = columns; rows = rows }

-- a configuration is refused in a profile neither for its grid nor for the edges of its slices
abbrev pub PassesGrid : Profile → Configuration → Type 0
PassesGrid p c = PassesIn p record_fault.Grid c × PassesIn p record_fault.ChromaEdge c
