use Rattle.std.proofs.Common.{◌-◌}
use Rattle.ffv1_record.specs.Reading.{uncoded}
use Rattle.ffv1_record.proofs.ReadingLoops.{Leads}
use Rattle.ffv1_record.proofs.read.read_uncoded.Given as goal

abbrev pub invariant-loop-index : goal.invariant-loop-index
invariant-loop-index l = Leads (uncoded (l.count - l._index)) (uncoded l.count) l.fn.reader l.reader
