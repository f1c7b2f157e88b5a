-- The bias moves by one towards a mean that is not from just above -1 to 0.
use Rattle.std.proofs.Common.{◌≡◌, ap₂, true, false, pos, ◌+ℤ◌, ◌-ℤ◌, int_le, int_lt, to_z, of_z}
use Rattle.std.proofs.Common.{w32, arith}
use Rattle.std.proofs.lemmas.Int.{ints, clamps}
use Rattle.std.specs.Int.{int_max, int_min}
use Rattle.ffv1_rice.proofs.States.{same_order}
use Rattle.ffv1_rice.proofs.state.State.biased.Goals as goal

pub returns-then-self-count : goal.returns-then-self-count
returns-then-self-count c =
    let s = c.args.self in
    let few = c.requires.few in
    let near = c.requires.near in
    let bias_near = c.requires.bias_near in
    let test : int_le s.drift (pos 0 -ℤ pos s.count) ≡ true = same_order true
    (to_z w32 (of_z w32 s.drift)) (to_z w32 (of_z w32 (pos 0 -ℤ to_z w32 s.count))) s.drift
    (pos 0 -ℤ pos s.count) c.if-self-count.true (omega (arith, ints, near))
    (omega (arith, ints, few)) in
    let drift : to_z w32 (of_z w32 c.max.result) ≡ int_max (s.drift +ℤ pos s.count)
    (pos 1 -ℤ pos s.count) = omega (arith, ints, clamps, c.max.ensures.value, few, near) in
    let bias : to_z w32 (of_z w32 c.max-then-self-count.result) ≡ int_max (s.bias -ℤ pos 1)
    (pos 0 -ℤ pos 128) = omega (
      arith,
      ints,
      clamps,
      c.max-then-self-count.ensures.value,
      bias_near,
    ) in
    rw test (ap₂ (λ d b. record { drift = d; error_sum = s.error_sum; bias = b; count = s.count })
    drift bias)

pub returns-then-self-gt0 : goal.returns-then-self-gt0
returns-then-self-gt0 c =
    let s = c.args.self in
    let few = c.requires.few in
    let near = c.requires.near in
    let bias_near = c.requires.bias_near in
    let low : int_le s.drift (pos 0 -ℤ pos s.count) ≡ false = same_order false
    (to_z w32 (of_z w32 s.drift)) (to_z w32 (of_z w32 (pos 0 -ℤ to_z w32 s.count))) s.drift
    (pos 0 -ℤ pos s.count) c.if-self-count.false (omega (arith, ints, near))
    (omega (arith, ints, few)) in
    let up : int_lt (pos 0) s.drift ≡ true = grind (arith, ints, c.if-self-gt0.true, near) in
    let drift : to_z w32 (of_z w32 c.min.result) ≡ int_min (s.drift -ℤ pos s.count) (pos 0) =
    omega (arith, ints, clamps, c.min.ensures.value, few, near) in
    let bias : to_z w32 (of_z w32 c.min-then-self-gt0.result) ≡ int_min (s.bias +ℤ pos 1)
    (pos 127) = omega (arith, ints, clamps, c.min-then-self-gt0.ensures.value, bias_near) in
    rw (low, up) (ap₂ (λ d b. record {
      drift = d;
      error_sum = s.error_sum;
      bias = b;
      count = s.count;
    }) drift bias)
