use Rattle.std.proofs.Common.{◌≡◌, ◌≤◌, take}
use Rattle.ffv1_record.specs.Sets.{most_contexts}
use Rattle.ffv1_record.proofs.sets.Sets.most_contexts.Given as goal

abbrev pub invariant-loop-index : goal.invariant-loop-index
invariant-loop-index g l = record {
  value : l.most ≡ most_contexts (take l.index l.self-inside.sets.items);
  few : l.most ≤ 32768;
}
