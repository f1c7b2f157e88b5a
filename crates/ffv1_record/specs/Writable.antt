-- Which deltas have a record.
use Rattle.std.specs.Prelude.{◌≡◌, ◌<◌, ◌^◌, List, [], ◌∷◌, length, ℤ, unsigned_abs}
use Rattle.ffv1_record.specs.declared.config.Coder.{Coder}
use Rattle.ffv1_record.specs.declared.config.Coder.TheVariants as coder

-- each has a symbol
abbrev pub AreDeltas : List ℤ → Type 0
AreDeltas [] = Unit {0}
AreDeltas (d ∷ ds) = (unsigned_abs d < 2 ^ 31) × AreDeltas ds

-- there are 255 deltas, each with a symbol
abbrev pub IsWritable : Coder → Type 0
IsWritable coder.Rice = Unit {0}
IsWritable coder.One = Unit {0}
IsWritable (coder.Two deltas) = (length deltas ≡ 255) × AreDeltas deltas
