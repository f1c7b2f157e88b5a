use Rattle.std.proofs.Common.{◌≡◌, ℕ, ◌≤◌, ◌+◌, ◌++◌, length}
use Rattle.ffv1_outline.specs.Outline.{entry_in, step_in}
use Rattle.ffv1_outline.specs.Tracks.{entries, tracks_in, tracks_up_to}
use Rattle.ffv1_outline.proofs.tracks.push_entries.Given as goal

abbrev pub invariant-loop-step : goal.invariant-loop-step
invariant-loop-step g l =
    (n : ℕ) × (length l.rest ≤ n) × (l.number + length l.rest ≤ 1 + length l.content)
    × (l.text.items
    ++ entries (entry_in l.layout l.form) l.number (tracks_up_to (step_in l.layout) n l.rest)
    ≡ l.initial.text.items
    ++ entries (entry_in l.layout l.form) 1 (tracks_in (step_in l.layout) l.content))

abbrev pub decreases-loop-step : goal.decreases-loop-step
decreases-loop-step g l = length l.rest
