-- Row y of transparency in RCT, if there is such a plane.
use Rattle.std.proofs.Common.{◌≡◌, ◌∙◌, ap, Bool, true, false}
use Rattle.ffv1_record.specs.Configuration.{Configuration}
use Rattle.ffv1_encode.proofs.cell_rows.load_transparency.Goals as goal

neither : (b : Bool) → b ≡ false → b ≡ true → ⊥
neither b off on = cc

pub returns-else-config-clause-loaded : goal.returns-else-config-clause-loaded
returns-else-config-clause-loaded g c = λ on. absurd (neither _
    (ap (λ (k : Configuration). k.extra_plane) c.config.ensures.value ∙ c.if-config.false) on)
