-- The interval that a list of decisions leaves, over numbers without a limit (RFC 9043, 3.8.1.1).
use Rattle.std.specs.Prelude.{ℕ, ◌+◌, ◌-◌, ◌*◌, ◌/◌, Bool, true, false, if◌then◌else◌, nat_lt, List}
use Rattle.std.specs.Prelude.{[], ◌∷◌}
use Rattle.std.proofs.Common.{suc}

-- the numbers from low to below low + width, each of count bytes
pub record Interval : Type 0 where
  pub low : ℕ
  pub width : ℕ
  pub count : ℕ

-- a bit, and the state that it was decided with
pub record Decision : Type 0 where
  pub state : ℕ
  pub bit : Bool

-- where each coder begins
abbrev pub start : Interval
start = record { low = 0; width = 65280; count = 2 }

-- how much of a width goes to a decision 1
abbrev pub share : ℕ → ℕ → ℕ
share width state = width * state / 256

-- the part of a decision: the lower for a 0, the upper for a 1
abbrev pub part : Interval → ℕ → Bool → Interval
part i state false = record { low = i.low; width = i.width - share i.width state; count = i.count }
part i state true =
    record {
      low = i.low + (i.width - share i.width state);
      width = share i.width state;
      count = i.count;
    }

-- one byte more if the width is below 256
abbrev pub renormalised : Interval → Interval
renormalised i =
    if nat_lt i.width 256
    then record { low = 256 * i.low; width = 256 * i.width; count = suc i.count } else i

-- the interval after one decision
abbrev pub narrow : Interval → ℕ → Bool → Interval
narrow i state bit = renormalised (part i state bit)

-- the interval after a list of decisions
abbrev pub narrowed : Interval → List Decision → Interval
narrowed i [] = i
narrowed i (d ∷ ds) = narrowed (narrow i d.state d.bit) ds

-- the interval of a list of decisions
abbrev pub interval_of : List Decision → Interval
interval_of ds = narrowed start ds
