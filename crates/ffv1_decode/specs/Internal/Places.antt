-- The parts of a side lie beside one another, from 0 to its end; no cell is empty or passes it, and
-- neighbours have one sample in common at most.
use Rattle.std.specs.Prelude.{◌≡◌, ℕ, ◌+◌, ◌<◌, ◌≤◌}
use Rattle.std.proofs.Common.{suc}
use Rattle.ffv1_slice.specs.Grid.{Side, begin_of, length_of, first_of, coded_of, shared_of}
use Rattle.ffv1_slice.specs.Grid.{whole_of}

pub record AreParts (s : Side) : Type 0 where
  pub first : begin_of s 0 ≡ 0
  pub next : (k : ℕ) → k < s.count → begin_of s k + length_of s k ≡ begin_of s (suc k)
  pub some : (k : ℕ) → k < s.count → 0 < coded_of s k
  pub begins : (k : ℕ) → k < s.count → first_of s k ≤ begin_of s k
  pub ends : (k : ℕ) → k < s.count → first_of s k + coded_of s k ≤ whole_of s
  pub few : (k : ℕ) → k < s.count → shared_of s k ≤ 1
  pub last : begin_of s s.count ≡ whole_of s
  pub fits : whole_of s ≤ s.size
