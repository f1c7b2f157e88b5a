use Rattle.std.proofs.Common.{◌≡◌, ◌-◌, ◌⊎◌, []}
use Rattle.ffv1_record.specs.Internal.Given.{IsRead}
use Rattle.ffv1_record.specs.Reading.{sets_onto, first_run}
use Rattle.ffv1_record.proofs.ReadingLoops.{Leads}
use Rattle.ffv1_record.proofs.read.read_sets.Given as goal

abbrev pub invariant-loop-index : goal.invariant-loop-index
invariant-loop-index g l = record {
  leads : Leads (sets_onto (l.count - l._index) l.sets) (sets_onto l.count []) l.fn.reader l.reader;
  begun : (l.reader ≡ l.fn.reader) ⊎ IsRead first_run l.fn.reader;
}
