-- What is known of the differences of a context (RFC 9043, 3.8.2.3 and 3.8.2.4).
use Rattle.std.specs.Prelude.{ℕ, ◌+◌, ◌-◌, ◌*◌, ◌/◌, ◌^◌, ◌≤◌, ◌==◌, nat_le, Bool}
use Rattle.std.specs.Prelude.{if◌then◌else◌, ℤ, pos, ◌+ℤ◌, ◌-ℤ◌, ◌<ℤ◌, ◌≤ℤ◌, int_le, int_lt}
use Rattle.std.specs.Prelude.{unsigned_abs}
use Rattle.std.specs.Int.{int_div_euclid, int_max, int_min}
use Rattle.std.proofs.Common.{zero, suc}
use Rattle.ffv1_rice.specs.declared.state.State.{State}

-- what is known before the first difference
abbrev pub fresh : State
fresh = record { drift = pos 0; error_sum = 4; bias = pos 0; count = 1 }

-- what holds of the states of differences of so many bits
pub record IsState (bits : ℕ) (s : State) : Type 0 where
  pub some : 1 ≤ s.count
  pub few : s.count ≤ 128
  pub above : (pos 0 -ℤ pos s.count) <ℤ s.drift
  pub below : s.drift ≤ℤ pos 0
  pub least : (pos 0 -ℤ pos 128) ≤ℤ s.bias
  pub most : s.bias ≤ℤ pos 127
  pub sum : s.error_sum ≤ s.count * 2 ^ (bits - 1)

-- what the bias is moved by
pub record IsNearState (s : State) : Type 0 where
  pub few : s.count ≤ 128
  pub near : unsigned_abs s.drift ≤ 512
  pub bias_near : unsigned_abs s.bias ≤ 128

-- the least k, from this one on and within so many, for which so many differences of 2^k have at
-- least this sum
unfoldable pub parameter_from : ℕ → ℕ → State → ℕ
parameter_from zero k s = k
parameter_from (suc more) k s =
    if nat_le s.error_sum (s.count * 2 ^ k) then k else parameter_from more (suc k) s

-- how many low bits of a number are written as they are: the least k for which the mean of the
-- differences, without their signs, is at most 2^k
abbrev pub parameter : State → ℕ
parameter s = parameter_from s.error_sum 0 s

-- whether numbers below 0 come first: the mean of the differences is below -1/2
abbrev pub turns : State → Bool
turns s = int_lt (s.drift +ℤ s.drift +ℤ pos s.count) (pos 0)

-- of 128 differences half are forgotten
abbrev pub halved : State → State
halved s =
    if s.count == 128
    then record s {
      drift = int_div_euclid s.drift (pos 2);
      error_sum = s.error_sum / 2;
      count = 64;
    }
    else s

-- the bias moves by one towards a mean that is not from just above -1 to 0
abbrev pub biased : State → State
biased s =
    if int_le s.drift (pos 0 -ℤ pos s.count)
    then record s {
      bias = int_max (s.bias -ℤ pos 1) (pos 0 -ℤ pos 128);
      drift = int_max (s.drift +ℤ pos s.count) (pos 1 -ℤ pos s.count);
    }
    else if int_lt (pos 0) s.drift
    then record s {
      bias = int_min (s.bias +ℤ pos 1) (pos 127);
      drift = int_min (s.drift -ℤ pos s.count) (pos 0);
    }
    else s

abbrev pub summed : State → ℤ → State
summed s v = record s { error_sum = s.error_sum + unsigned_abs v; drift = s.drift +ℤ v }

abbrev pub counted : State → State
counted s = record s { count = s.count + 1 }

-- after one difference more, less the bias
abbrev pub after : State → ℤ → State
after s v = biased (counted (halved (summed s v)))
