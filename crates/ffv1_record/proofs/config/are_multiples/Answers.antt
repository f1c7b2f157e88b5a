-- Whether each inner edge of a size that is divided into some parts is a multiple of the chroma
-- factor.
use Rattle.std.proofs.Common.{rules, sym}
use Rattle.ffv1_record.specs.Accepted.{AreMultiples}
use Rattle.ffv1_record.proofs.Edges.{multiples_complete, not_multiples}
use Rattle.ffv1_record.proofs.config.are_multiples.Goals as goal

pub returns-then-k-size-ne0-clause-value : goal.returns-then-k-size-ne0-clause-value
returns-then-k-size-ne0-clause-value c =
    let none : AreMultiples c.args.size c.args.count c.args.log2 → ⊥ = search rules in
    not_multiples c.args.size c.args.count c.args.log2 none

pub returns-clause-value : goal.returns-clause-value
returns-clause-value c =
    let are : AreMultiples c.args.size c.args.count c.args.log2 = search rules in
    sym (multiples_complete c.args.size c.args.count c.args.log2 are)
