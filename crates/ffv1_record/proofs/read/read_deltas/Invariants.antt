use Rattle.std.proofs.Common.{◌≡◌, ◌-◌, length, take, []}
use Rattle.ffv1_record.specs.Reading.{deltas_onto}
use Rattle.ffv1_record.proofs.ReadingLoops.{Leads}
use Rattle.ffv1_record.proofs.read.read_deltas.Given as goal

abbrev pub invariant-loop-k : goal.invariant-loop-k
invariant-loop-k l = record {
  long : length l.deltas ≡ 255;
  leads : Leads (deltas_onto (255 - l.k) (take l.k l.deltas)) (deltas_onto 255 []) l.fn.reader
      l.reader;
}
