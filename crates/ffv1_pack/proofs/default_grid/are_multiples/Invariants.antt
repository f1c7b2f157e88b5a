use Rattle.std.proofs.Common.{◌-◌, ◌≡◌, ◌≤◌, ◌%◌, ◌^◌, ◌==◌}
use Rattle.std.specs.List.{list_all, range_with_len}
use Rattle.ffv1_record.specs.Accepted.{edge, are_multiples}
use Rattle.ffv1_pack.proofs.default_grid.are_multiples.Given as goal

abbrev pub invariant-loop-k : goal.invariant-loop-k
invariant-loop-k l =
    (list_all (λ k. edge k l.size l.count % 2 ^ l.log2 == 0) (range_with_len l.k (l.count - l.k)) ≡
    are_multiples l.size l.count l.log2)
    × (1 ≤ l.k)

abbrev pub decreases-loop-k : goal.decreases-loop-k
decreases-loop-k l = l.count - l.k
