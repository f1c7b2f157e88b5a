-- A difference by the state of its context (RFC 9043, 3.8.2.3).
use Rattle.std.specs.Prelude.{ℕ, ◌+◌, ◌*◌, if◌then◌else◌, Bool, List, ℤ, pos, negsuc}
use Rattle.std.specs.Prelude.{◌-ℤ◌}
use Rattle.ffv1_plane.specs.Residual.{folded}
use Rattle.ffv1_rice.specs.declared.state.State.{State}
use Rattle.ffv1_rice.specs.States.{parameter, turns, after}
use Rattle.ffv1_rice.specs.Number.{number_bits}

-- a number with a sign as one without: 0, -1, 1, -2, 2 and so on
abbrev pub unsigned : ℤ → ℕ
unsigned (pos n) = 2 * n
unsigned (negsuc n) = 2 * n + 1

-- -1 less a number
abbrev pub mirrored : ℤ → ℤ
mirrored (pos n) = negsuc n
mirrored (negsuc n) = pos n

-- a difference less the bias
abbrev pub unbiased : ℕ → State → ℤ → ℤ
unbiased bits s d = folded bits (d -ℤ s.bias)

-- the number that is written for a difference less the bias
abbrev pub written_for : State → ℤ → ℕ
written_for s v = unsigned (if turns s then mirrored v else v)

-- the bits of a difference
abbrev pub scalar_bits : ℕ → State → ℤ → List Bool
scalar_bits bits s d = number_bits bits (parameter s) (written_for s (unbiased bits s d))

-- the state after it
abbrev pub scalar_after : ℕ → State → ℤ → State
scalar_after bits s d = after s (unbiased bits s d)
