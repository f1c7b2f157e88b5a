-- The footer of coded bytes:
use Rattle.std.proofs.Common.{arith}
use Rattle.std.proofs.lemmas.Grind.{common_steps}
use Rattle.ffv1_slice.proofs.foot.footer.Goals as goal

pub returns-clause-ok : goal.returns-clause-ok
returns-clause-ok c =
    let seal = c.parity_behind-seal.ensures c.args.coded.now c.parity.ensures in
    grind (arith, common_steps)
