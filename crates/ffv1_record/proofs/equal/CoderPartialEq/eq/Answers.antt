-- `eq` of `PartialEq` for `Coder`.
use Rattle.std.proofs.Common.{◌≡◌, rules}
use Rattle.std.proofs.lemmas.Bool.Decides.{Decides-at}
use Rattle.ffv1_record.specs.Equal.{is_same_coder, same_coder}
use Rattle.ffv1_record.proofs.equal.CoderPartialEq.eq.Goals as goal

pub returns-in-Two-Two-clause-same : goal.returns-in-Two-Two-clause-same
returns-in-Two-Two-clause-same c =
    let is : c.eq.result ≡ is_same_coder c.args.self.now c.args.other.now = search rules in
    Decides-at c.eq.result (is_same_coder c.args.self.now c.args.other.now) is
    (same_coder c.args.self.now c.args.other.now)
