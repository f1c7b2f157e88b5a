use Rattle.std.proofs.Common.{◌≡◌, ◌+◌, ◌≤◌, ℕ, List, length}
use Rattle.ffv1_range.specs.Standard.{standard}
use Rattle.ffv1_range.specs.Symbols.{AreHeld}
use Rattle.ffv1_record.proofs.TableRuns.{LeadsTable}
use Rattle.ffv1_record.proofs.judge.judge_table.Given as goal

abbrev pub invariant-loop-left : goal.invariant-loop-left
invariant-loop-left l = record {
  held : AreHeld standard l.states;
  few : l.runs + l.left ≤ 128;
  leads : (runs : List ℕ) × (length runs ≡ l.runs) × LeadsTable l.left runs l.fn.reader l.reader l.states;
}

abbrev pub decreases-loop-left : goal.decreases-loop-left
decreases-loop-left l = l.left
