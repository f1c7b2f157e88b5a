-- A configuration that passes the checks of `Strict` has slices with no sample in common, so that
-- no answer is that two of them say different values of one.
use Rattle.ffv1_frame.proofs.lemmas.laws.answer.NoOverlap.{no_overlap}
use Rattle.ffv1_frame.proofs.laws.answer.strict_slices_do_not_differ.Goals as goal

pub returns : goal.returns
returns g c = λ a payload old new tally f is passes answer.
    no_overlap a
    (λ p k. c.strict_slices_share_nothing.ensures.across a.configuration a.table p k is passes)
    (λ p r. c.strict_slices_share_nothing.ensures.down a.configuration a.table p r is passes)
    g.S.LineSink.takes g.S.LineSink.refuses payload old new tally f answer.cut answer.answer
