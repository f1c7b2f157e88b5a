-- The residuals that an encoder takes of a picture, how many bytes its frame has at most, and what
-- is counted (RFC 9043, 3.8.1.2 and 4.4 to 4.9).
use Rattle.std.specs.Prelude.{ℕ, ℤ, ◌+◌, ◌-◌, ◌*◌, ◌≤◌, nat_lt, false, if◌then◌else◌}
use Rattle.std.specs.Prelude.{List, [], map, sum}
use Rattle.std.specs.List.{flat_map, range_with_len}
use Rattle.ffv1_range.specs.Interval.{narrow, interval_of}
use Rattle.ffv1_range.specs.History.{decisions_after}
use Rattle.ffv1_line.specs.Cell.{Cell}
use Rattle.ffv1_line.specs.Row.{chosen_row}
use Rattle.ffv1_line.specs.Length.{row_decisions}
use Rattle.ffv1_record.specs.Configuration.{Configuration}
use Rattle.ffv1_record.specs.Accepted.{Accepted}
use Rattle.ffv1_slice.specs.declared.head.SliceHead.{SliceHead}
use Rattle.ffv1_frame.specs.declared.frame_counts.FrameCounts.{FrameCounts}
use Rattle.ffv1_frame.specs.Picture.{Planes, cell_in}
use Rattle.ffv1_frame.specs.SliceList.{Said, Line, bits_of, set_in, lines_in, chosen_head}
use Rattle.ffv1_frame.specs.SliceList.{chosen_slice}

-- the residuals of a line, of some lines, of slice n, and of all slices
abbrev pub line_residuals : Configuration → SliceHead → (ℕ → Cell) → Line → List ℤ
line_residuals c h cell l =
    chosen_row (set_in c h l.plane) (bits_of c) (cell l.plane) l.y (cell l.plane).width

abbrev pub body_residuals : Configuration → SliceHead → (ℕ → Cell) → List Line → List ℤ
body_residuals c h cell ls = flat_map (line_residuals c h cell) ls

abbrev pub slice_residuals : Configuration → Planes → Said → ℕ → List ℤ
slice_residuals c planes info n =
    body_residuals c (chosen_head c info) (cell_in c planes n) (lines_in c n)

abbrev pub frame_residuals : Configuration → Planes → Said → List ℤ
frame_residuals c planes info =
    flat_map (slice_residuals c planes info) (range_with_len 0 (c.columns * c.rows))

-- at most so many bytes of a slice beside the decisions of its residuals: of its key and its head,
-- each decision at most one, two of the sentinel's, and eight of its footer
abbrev pub slice_most : Configuration → ℕ
slice_most c =
    109
    + (if c.extra_plane then 6 else 0)
    + (if nat_lt 16 c.columns then 2 else 0)
    + (if nat_lt 16 c.rows then 2 else 0)

-- at most so many bytes of a frame: 2 n + 1 for each residual of n binary digits, and those
abbrev pub frame_most : Configuration → Planes → Said → ℕ
frame_most c planes info =
    row_decisions (frame_residuals c planes info) + c.columns * c.rows * slice_most c

-- how many renormalisations a slice's decisions make, that of the sentinel among them
abbrev pub slice_renormalisations : Accepted → Planes → Said → ℕ → ℕ
slice_renormalisations a planes info n =
    (narrow (interval_of (decisions_after a.table [] (chosen_slice a.configuration planes info n)))
    129 false).count - 2

-- what is counted of slice n, of a frame, and of none
abbrev pub slice_counts : Accepted → Planes → Said → ℕ → FrameCounts
slice_counts a planes info n = record {
  decisions = row_decisions (slice_residuals a.configuration planes info n);
  renormalisations = slice_renormalisations a planes info n;
}

abbrev pub frame_counts : Accepted → Planes → Said → FrameCounts
frame_counts a planes info = record {
  decisions = row_decisions (frame_residuals a.configuration planes info);
  renormalisations =
      sum (map (slice_renormalisations a planes info)
      (range_with_len 0 (a.configuration.columns * a.configuration.rows)));
}

abbrev pub uncounted : FrameCounts
uncounted = record { decisions = 0; renormalisations = 0 }

-- for how much an encoder has memory from one frame to the next: for states, and for samples in all
-- its rows of words of 16 bits, and of 32
pub record Capacities : Type 0 where
  pub states : ℕ
  pub narrow : ℕ
  pub wide : ℕ

abbrev pub no_capacities : Capacities
no_capacities = record { states = 0; narrow = 0; wide = 0 }

-- none of them is smaller than before
pub record KeepsCapacities (old new : Capacities) : Type 0 where
  pub states : old.states ≤ new.states
  pub narrow : old.narrow ≤ new.narrow
  pub wide : old.wide ≤ new.wide

-- an encoder: its configuration, what was counted of the last frame that was answered, and for how
-- much it has memory
pub record Encoding : Type 0 where
  pub accepted : Accepted
  pub counts : FrameCounts
  pub capacities : Capacities
