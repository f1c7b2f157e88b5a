-- Parts of a text that are put one after the other.
use Rattle.std.proofs.Common.{◌≡◌, ℕ, List, ◌++◌, append_assoc}

pub eleven : (o a b c d e f g h i j k : List ℕ) → o ++ a ++ b ++ c ++ d ++ e ++ f ++ g ++ h ++ i ++ j ++ k ≡ o ++ (a ++ b ++ c ++ d ++ e ++ f ++ g ++ h ++ i ++ j ++ k)
eleven o a b c d e f g h i j k = simp append_assoc
