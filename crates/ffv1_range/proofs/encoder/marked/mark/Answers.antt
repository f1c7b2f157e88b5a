-- The registers of an encoder, marked: no byte is held back.
use Rattle.std.proofs.Common.{arith, ap, sym, subst, ◌∙◌}
use Rattle.ffv1_range.specs.Internal.Registers.{IsWriting, interval_from}
use Rattle.ffv1_range.proofs.Marks.{begun_interval, begun_marked, held_none}
use Rattle.ffv1_range.proofs.encoder.marked.mark.Goals as goal

pub returns-clause-same : goal.returns-clause-same
returns-clause-same c =
    begun_interval _ c.from.result _ (omega (arith, c.from.ensures, c.requires.below)) ∙
    ap (λ n. interval_from c.args.bytes.now n c.args.span.now.width) c.from.ensures

pub returns-clause-marked : goal.returns-clause-marked
returns-clause-marked c =
    begun_marked _ c.from.result _ (subst (λ n. IsWriting c.args.bytes.now n
    c.args.span.now.width) (sym c.from.ensures) c.requires)

pub returns-clause-few : goal.returns-clause-few
returns-clause-few c = rw (held_none c.from.result
    (omega (arith, c.from.ensures, c.requires.below))) (omega arith)
