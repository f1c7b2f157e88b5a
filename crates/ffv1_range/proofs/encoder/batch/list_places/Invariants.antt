use Rattle.std.proofs.Common.{◌≡◌, ℕ, ◌+◌, ◌≤◌, List, ◌++◌, map, take}
use Rattle.ffv1_range.proofs.encoder.batch.list_places.Given as goal

abbrev pub invariant-loop-k : goal.invariant-loop-k
invariant-loop-k l = record {
  ordered : l.from ≤ l.k;
  so_far : (before : List ℕ) → take (l.at + l.from) l.fn.list ≡ before ++ map
      (λ (n : ℕ). l.base + n) (take l.from l.row) →
      take (l.at + l.k) l.list ≡ before ++ map (λ (n : ℕ). l.base + n) (take l.k l.row);
}
