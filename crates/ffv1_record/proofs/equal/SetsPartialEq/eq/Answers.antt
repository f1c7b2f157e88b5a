-- `eq` of `PartialEq` for `Coder`.
use Rattle.std.proofs.Common.{◌≡◌, rules}
use Rattle.std.proofs.lemmas.Bool.Decides.{Decides-at}
use Rattle.ffv1_record.specs.Equal.{are_same_sets, same_sets}
use Rattle.ffv1_record.proofs.equal.SetsPartialEq.eq.Goals as goal

pub returns-clause-same : goal.returns-clause-same
returns-clause-same g c =
    let is : c.eq.result ≡ are_same_sets c.args.self.now c.args.other.now = search rules in
    Decides-at c.eq.result (are_same_sets c.args.self.now c.args.other.now) is
    (same_sets c.args.self.now c.args.other.now)
