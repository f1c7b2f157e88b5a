-- Among samples of up to 15 bits the prediction is by numbers without a sign.
use Rattle.std.proofs.Common.{◌≡◌, rules, ℕ}
use Rattle.ffv1_plane.specs.declared.prediction.Around.{Around}
use Rattle.ffv1_plane.specs.Prediction.{predicted, predicted_in}
use Rattle.ffv1_line.specs.Internal.Along.{AreUnsigned}

pub unsigned_below : (bits : ℕ) → AreUnsigned bits → (a : Around) → predicted_in bits a ≡ predicted a
unsigned_below bits are a = search rules
