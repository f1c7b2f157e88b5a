-- States in bytes, 32 for each context.
use Rattle.std.specs.Prelude.{ℕ, ◌+◌, ◌*◌, ◌<◌, List, slice_index, pos, ◌-ℤ◌}
use Rattle.ffv1_rice.specs.declared.state.State.{State}
use Rattle.ffv1_rice.specs.States.{IsState}

-- the state of five bytes: the drift with its sign flipped, the sum, its low byte first, the bias
-- raised by 128, the count
abbrev pub state_of : List ℕ → ℕ → State
state_of bytes at = record {
  drift = pos 0 -ℤ pos (slice_index bytes at);
  error_sum = slice_index bytes (at + 1) + 256 * slice_index bytes (at + 2);
  bias = pos (slice_index bytes (at + 3)) -ℤ pos 128;
  count = slice_index bytes (at + 4);
}

-- the state of a context, which begins its 32 bytes
abbrev pub state_at : List ℕ → ℕ → State
state_at bytes context = state_of bytes (32 * context)

-- those of so many contexts are states of differences of so many bits
pub record AreStates (depth contexts : ℕ) (bytes : List ℕ) : Type 0 where
  pub each : (context : ℕ) → context < contexts → IsState depth (state_at bytes context)
