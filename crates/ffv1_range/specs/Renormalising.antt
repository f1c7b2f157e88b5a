-- How many decisions an interval lasts until it is renormalised (RFC 9043, 3.8.1.1).
use Rattle.std.specs.Prelude.{ℕ, ◌+◌, ◌-◌, ◌*◌, ◌^◌, ◌≤◌, ◌<◌, Bool, true, false, nat_lt}
use Rattle.std.proofs.Common.{zero, suc}
use Rattle.ffv1_range.specs.Interval.{Interval}

-- the width of an interval between decisions
pub record IsNormalised (i : Interval) : Type 0 where
  pub least : 256 ≤ i.width
  pub most : i.width ≤ 65280

-- a width in parts, for a table of this floor
abbrev pub parts_of : ℕ → ℕ
parts_of floor = 256 * (floor + 1)

-- how many of them a decision leaves at most
abbrev pub left_of : ℕ → ℕ
left_of floor = 256 * (floor + 1) - floor * floor

-- so many decisions in a row leave less than 256 of a width of 65280, which is 255 times as much
abbrev pub AreEnough : ℕ → ℕ → Type 0
AreEnough floor n = 255 * left_of floor ^ n < parts_of floor ^ n

-- this number, or the answer for the next one
abbrev pub this_or_next : Bool → ℕ → (ℕ → ℕ) → ℕ
this_or_next true n next = n
this_or_next false n next = next (suc n)

-- the first number from n on that is enough, tried so often
unfoldable pub first_enough : ℕ → ℕ → ℕ → ℕ
first_enough zero floor n = n
first_enough (suc tries) floor n =
    this_or_next (nat_lt (255 * left_of floor ^ n) (parts_of floor ^ n)) n
    (first_enough tries floor)

-- the least number of decisions that is enough, by a table of this floor; 2^17 always are
unfoldable pub decisions_a_byte : ℕ → ℕ
decisions_a_byte floor = first_enough (2 ^ 17) floor 0
