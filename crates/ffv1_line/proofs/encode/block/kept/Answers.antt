-- A residual as a block has it.
use Rattle.std.proofs.Common.{◌∙◌, ap, rules, unsigned_abs}
use Rattle.std.proofs.lemmas.Int.{to_z-of_z}
use Rattle.std.specs.Int.{w32}
use mir.Val.{SFits}
use Rattle.ffv1_line.proofs.lemmas.encode.BlockLanes.{kept_nine, kept_deep, half_word, raised_fits}
use Rattle.ffv1_line.proofs.encode.block.kept.Goals as goal

pub returns-then-bits-lt10 : goal.returns-then-bits-lt10
returns-then-bits-lt10 c =
    let fits : SFits w32 c.args.residual = search rules in
    let fits_rest : SFits w32 c.rem_euclid.result = search rules in
    let value = simp to_z-of_z at c.rem_euclid.ensures.value in
    simp to_z-of_z (ap unsigned_abs value ∙ kept_nine c.args.bits c.args.residual c.if-bits-lt10.true)

pub returns : goal.returns
returns c =
    let fits : SFits w32 c.args.residual = search rules in
    let half = half_word c.args.bits c.requires.bits.most in
    let fits_sum = raised_fits c.args.bits c.args.residual c.requires.bits c.requires.folded in
    simp to_z-of_z (rw half (simp to_z-of_z (kept_deep c.args.bits c.args.residual c.if-bits-lt10.false)))
