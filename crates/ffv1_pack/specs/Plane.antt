-- A mono plane as the content of one slice: its samples alone, without keyframe and head.
use Rattle.std.specs.Prelude.{ℕ, ◌*◌, false, List, [], replicate, ℤ}
use Rattle.ffv1_range.specs.Interval.{Interval, Decision, narrow, interval_of}
use Rattle.ffv1_range.specs.Codes.{sentinel_of}
use Rattle.ffv1_range.specs.Symbols.{Step}
use Rattle.ffv1_range.specs.Table.{Table}
use Rattle.ffv1_range.specs.History.{decisions_after}
use Rattle.ffv1_plane.specs.Quantisation.{Set, contexts_of}
use Rattle.ffv1_line.specs.Coding.{coding_by}
use Rattle.ffv1_line.specs.Cell.{cell_of}
use Rattle.ffv1_line.specs.Row.{cell_steps, chosen_rows}
use Rattle.ffv1_line.specs.Coded.{CodesCellBy}

-- the folded residuals of all samples, row by row (RFC 9043, 3.1 to 3.8)
abbrev pub plane_residuals : Set → ℕ → ℕ → List ℕ → List (List ℤ)
plane_residuals set width height samples = chosen_rows set 8 (cell_of width samples) height

-- their decisions, by slots
abbrev pub plane_steps : Set → ℕ → ℕ → List ℕ → List Step
plane_steps set width height samples =
    cell_steps set (cell_of width samples) 0 (plane_residuals set width height samples)

-- the same with the state of each: 128, moved once for each earlier decision of its slot
abbrev pub plane_decisions : Table → Set → ℕ → ℕ → List ℕ → List Decision
plane_decisions t set width height samples =
    decisions_after t [] (plane_steps set width height samples)

-- the interval after them and the sentinel, a decision 0 by the state 129: its count is that of
-- the renormalisations and two
abbrev pub plane_end : Table → Set → ℕ → ℕ → List ℕ → Interval
plane_end t set width height samples =
    narrow (interval_of (plane_decisions t set width height samples)) 129 false

-- their bytes, by the sentinel ending
abbrev pub plane_code : Table → Set → ℕ → ℕ → List ℕ → List ℕ
plane_code t set width height samples =
    sentinel_of (interval_of (plane_decisions t set width height samples))

-- the bytes code the residuals of all samples, from fresh states
abbrev pub CodesPlane : Table → Set → ℕ → ℕ → List ℕ → List ℕ → Type 0
CodesPlane t set width height samples bytes =
    CodesCellBy bytes [] (coding_by t set 8) (replicate (contexts_of set * 32) 128)
    (cell_of width samples) (plane_residuals set width height samples)
