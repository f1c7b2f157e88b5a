-- What is said of bytes if they are known.
use Rattle.std.specs.Prelude.{ℕ, List, Option, Some, None, ⊤}

-- if the bytes that were left before a call are known, those that are left after it are so, too,
-- and this holds of both
abbrev pub Known : Option (List ℕ) → Option (List ℕ) → (List ℕ → List ℕ → Type 0) → Type 0
Known None new holds = ⊤
Known (Some text) None holds = ⊥
Known (Some text) (Some rest) holds = holds text rest
