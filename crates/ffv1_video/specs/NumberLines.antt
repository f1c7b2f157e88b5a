-- Lines of words and numbers.
use Rattle.std.specs.Prelude.{ℕ, List, ◌++◌, codes, decimal}

-- a line of a name and two numbers, with a sign between them
unfoldable pub pair_line : List ℕ → ℕ → List ℕ → ℕ → List ℕ
pair_line name a sign b = name ++ decimal a ++ sign ++ decimal b ++ codes "\n"
