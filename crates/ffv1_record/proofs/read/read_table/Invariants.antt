use Rattle.std.proofs.Common.{◌≡◌, ◌+◌, sum, IsTrue, nat_lt}
use Rattle.std.specs.List.{list_all}
use Rattle.ffv1_range.specs.Standard.{standard}
use Rattle.ffv1_range.specs.Symbols.{AreHeld}
use Rattle.ffv1_record.proofs.FirstRun.{HasBegun}
use Rattle.ffv1_record.proofs.TableRuns.{LeadsTable}
use Rattle.ffv1_record.proofs.read.read_table.Given as goal

abbrev pub invariant-loop-left : goal.invariant-loop-left
invariant-loop-left g l = record {
  held : AreHeld standard l.states;
  filled : sum l.runs.items + l.left ≡ 128;
  each : IsTrue (list_all (λ r. nat_lt 0 r) l.runs.items);
  leads : LeadsTable l.left l.runs.items l.fn.reader l.reader l.states;
  begun : HasBegun l.left l.fn.reader l.reader l.states;
}

abbrev pub decreases-loop-left : goal.decreases-loop-left
decreases-loop-left g l = l.left
