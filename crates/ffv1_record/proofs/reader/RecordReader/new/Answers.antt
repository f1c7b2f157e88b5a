-- Begins at the bytes.
use Rattle.std.proofs.Common.{arith}
use Rattle.ffv1_range.specs.Standard.{standard}
use Rattle.ffv1_range.proofs.HistoryLemmas.{fresh_has}
use Rattle.ffv1_record.proofs.reader.RecordReader.new.Goals as goal

pub invariant_of-result : goal.invariant_of-result
invariant_of-result c = (
  c.standard.ensures.value,
  rw c.standard.ensures.value at
      c.standard.ensures.fresh,
)

pub returns-clause-ok : goal.returns-clause-ok
returns-clause-ok c = record {
  bytes = c.in-Ok.ensures.bytes;
  at = c.in-Ok.ensures.at;
  states = fresh_has standard 32 0;
  below = tt;
  room = omega arith;
}
