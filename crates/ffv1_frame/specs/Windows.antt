-- A part of a list.
use Rattle.std.specs.Prelude.{ℕ, List, take, drop}

-- so many elements of a list from one on
abbrev pub window : ℕ → ℕ → List ℕ → List ℕ
window at count xs = take count (drop at xs)
