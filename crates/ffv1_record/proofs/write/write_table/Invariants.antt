use Rattle.std.proofs.Common.{take}
use Rattle.ffv1_range.specs.Standard.{standard}
use Rattle.ffv1_range.specs.Symbols.{AreHeld}
use Rattle.ffv1_record.proofs.EncoderSteps.{Running}
use Rattle.ffv1_record.proofs.write.write_table.Given as goal

abbrev pub invariant-loop-k : goal.invariant-loop-k
invariant-loop-k g l = record {
  held : AreHeld standard l.states;
  running : Running (take l.k l.runs) l.fn.writer l.writer l.states;
}
