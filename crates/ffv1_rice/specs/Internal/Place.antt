-- Where a reader of bits stands.
use Rattle.std.specs.Prelude.{ℕ, ◌+◌, ◌*◌, ◌<◌, ◌≤◌}

-- after some whole bytes and some bits of the next, within so many bytes
pub record IsPlace (long place turn : ℕ) : Type 0 where
  pub few : turn < 8
  pub within : 8 * place + turn ≤ 8 * long
