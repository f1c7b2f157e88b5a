-- The places of a row of numbers from `from` to before `upto`, each after a base.
use Rattle.std.proofs.Common.{arith}
use Rattle.ffv1_range.proofs.SymbolTable.{listed_next}
use Rattle.ffv1_range.proofs.encoder.batch.list_places.Goals as goal

pub loop-k-preserved : goal.loop-k-preserved
loop-k-preserved c = record {
  ordered = omega arith;
  so_far = λ before is. rw c.from.ensures (listed_next c.loop-k.list c.args.row.now before c.args.at
      c.loop-k.k c.args.base (omega arith) (omega arith) (c.loop-k.invariant.so_far before is));
}
