use Rattle.std.proofs.Common.{◌≡◌, ℕ, ◌%◌, ◌^◌, ◌<◌}
use Rattle.ffv1_record.specs.Accepted.{edge}
use Rattle.ffv1_record.proofs.config.are_multiples.Given as goal

abbrev pub invariant-loop-k : goal.invariant-loop-k
invariant-loop-k l = (k : ℕ) → 0 < k → k < l.k → edge k l.size l.count % 2 ^ l.log2 ≡ 0
