-- Quantisation table sets in a list.
use Rattle.std.specs.Prelude.{ℕ, max, List, [], ◌∷◌}
use Rattle.ffv1_plane.specs.Quantisation.{Set, IsSet, contexts_of}

abbrev pub AreSets : List Set → Type 0
AreSets [] = Unit {0}
AreSets (s ∷ ss) = IsSet s × AreSets ss

-- the largest number of contexts of some sets
abbrev pub most_contexts : List Set → ℕ
most_contexts [] = 0
most_contexts (s ∷ ss) = max (contexts_of s) (most_contexts ss)
