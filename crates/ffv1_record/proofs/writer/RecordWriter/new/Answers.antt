-- Nothing was written yet.
use Rattle.std.proofs.Common.{ap, arith}
use Rattle.ffv1_range.specs.Standard.{standard}
use Rattle.ffv1_range.specs.Writing.{Writing}
use Rattle.ffv1_range.proofs.HistoryLemmas.{fresh_has}
use Rattle.ffv1_record.proofs.writer.RecordWriter.new.Goals as goal

pub invariant_of-result : goal.invariant_of-result
invariant_of-result g c = (
  c.standard.ensures.value,
  rw c.standard.ensures.value at
      c.standard.ensures.fresh,
)

pub returns : goal.returns
returns g c = record {
  interval = ap (λ (w : Writing). w.interval) c.new.ensures;
  states = fresh_has standard 32 0;
  below = tt;
  room = omega arith;
}
