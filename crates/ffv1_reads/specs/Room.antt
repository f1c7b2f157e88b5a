-- How much room a vector has after bytes were read into it.
use Rattle.std.specs.Prelude.{ℕ, ◌+◌, ◌*◌, ◌≤◌, max, List, length, Option, Result, MatchResult}
use Rattle.std.specs.Io.KnownBytes.{Consumes}

-- for as many bytes as it had room for, or as it holds, if that is more. After a fault at most for
-- as many as before, or for twice those that it holds and 65536: no growth was for more bytes than
-- had been read and 65536
abbrev pub HasRoom : {Y Z : Type 0} → ℕ → ℕ → ℕ → Result Y Z → Type 0
HasRoom old new held result =
    MatchResult result (λ _. new ≤ max old held) (λ _. new ≤ max old (2 * held + 65536))

-- bytes were read, and room became greater by at most as many
pub record RoomRead (old new : Option (List ℕ)) (before after : ℕ) : Type 0 where
  pub bytes : List ℕ
  pub consumed : Consumes old new bytes
  pub within : after ≤ before + length bytes
