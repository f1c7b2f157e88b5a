-- `eq` of `PartialEq` for `Coder`.
use Rattle.std.proofs.Common.{◌≡◌, rules}
use Rattle.std.proofs.lemmas.Bool.Decides.{Decides-at}
use Rattle.ffv1_record.specs.Configuration.{configuration_of}
use Rattle.ffv1_record.specs.Equal.{is_same, same_configuration}
use Rattle.ffv1_record.proofs.equal.ConfigPartialEq.eq.Goals as goal

pub returns-then-are_same_planes-clause-same : goal.returns-then-are_same_planes-clause-same
returns-then-are_same_planes-clause-same g c =
    let is : c.is_same_coding.result ≡ is_same (configuration_of c.args.self.now)
    (configuration_of c.args.other.now) = search rules in
    Decides-at c.is_same_coding.result (is_same (configuration_of c.args.self.now)
    (configuration_of c.args.other.now)) is
    (same_configuration (configuration_of c.args.self.now) (configuration_of c.args.other.now))
