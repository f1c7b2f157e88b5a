-- The rule after the standard's table gives it.
use Rattle.std.proofs.Common.{◌≡◌, refl}
use Rattle.ffv1_range.specs.Standard.{default_state_transition}
use Rattle.ffv1_range.specs.Generator.{chained, filled, generated}

pub generates : generated ≡ default_state_transition
unfolding chained filled
generates = refl
