-- The default grid of Matroska is chosen among those with which a configuration is accepted: of 1
-- to 32 columns and rows a picture may have those that pass the checks of the grid and of the edges
-- of its slices, and whose greatest slice has fewer bytes of samples than 12 MiB.
use Rattle.ffv1_pack.proofs.GridsPass.{grid_passes, passes_grid}
use Rattle.ffv1_pack.proofs.laws.default_grid_passes_its_checks.Goals as goal

pub returns : goal.returns
returns c = λ p choice ppm h columns rows parts.
    (grid_passes p choice ppm h columns rows parts, passes_grid p choice ppm h columns rows parts)
