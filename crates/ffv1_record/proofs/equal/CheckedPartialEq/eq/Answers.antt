-- `eq` of `PartialEq` for `Coder`.
use Rattle.std.proofs.Common.{◌≡◌, arith}
use Rattle.std.proofs.lemmas.Grind.{common_steps}
use Rattle.ffv1_record.specs.Equal.{is_same_checked}
use Rattle.ffv1_record.proofs.RoundTrip.{same_checked}
use Rattle.ffv1_record.proofs.equal.CheckedPartialEq.eq.Goals as goal

pub returns-then-depth-clause-same : goal.returns-then-depth-clause-same
returns-then-depth-clause-same g c =
    let is : c.eq-then-depth.result ≡ is_same_checked c.args.self.now c.args.other.now = grind
    (arith, common_steps) in
    same_checked c.args.self.now c.args.other.now c.eq-then-depth.result is
    c.config.ensures.accepted c.config-then-depth.ensures.accepted
