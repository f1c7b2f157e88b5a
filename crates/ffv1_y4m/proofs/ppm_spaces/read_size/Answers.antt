-- Reads a size, if the next word is one.
use Rattle.std.proofs.Common.{◌≤◌, ℕ, Option, subst, sym}
use Rattle.std.specs.Prelude.{IfSome}
use Rattle.ffv1_y4m.proofs.SpacedHeaders.{size_bounds}
use Rattle.ffv1_y4m.proofs.ppm_spaces.read_size.Goals as goal

pub returns-clause-sized : goal.returns-clause-sized
returns-clause-sized g c = subst (λ (o : Option ℕ). IfSome o (λ n. (1 ≤ n) × (n ≤ 8192)))
    (sym c.size.ensures) (size_bounds _)
