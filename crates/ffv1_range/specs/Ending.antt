-- Where bytes end. RFC 9043, 3.8.1.1.1: a last decision by state 129 is read beside what was coded,
-- and if the bytes' length is known it is 0.
use Rattle.std.specs.Prelude.{◌≡◌, ℕ, ◌+◌, ◌-◌, false, List, length}
use Rattle.ffv1_range.specs.Interval.{Interval, narrow}
use Rattle.ffv1_range.specs.Codes.{Inside}

-- the bytes end an interval: they code one more decision 0 by state 129, and are one fewer than the
-- interval after it counts
pub record IsEnded (bytes : List ℕ) (i : Interval) : Type 0 where
  pub codes : Inside bytes (narrow i 129 false)
  pub whole : length bytes + 1 ≡ (narrow i 129 false).count

-- the byte at which bits may begin behind decisions of which the last is that one: the byte that a
-- coder read last
abbrev pub bits_place : Interval → ℕ
bits_place i = i.count - 1
