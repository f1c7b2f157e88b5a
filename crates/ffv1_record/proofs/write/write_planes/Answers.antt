-- Colour, bits and chroma.
use Rattle.ffv1_record.proofs.EncoderSteps.{wrote_on}
use Rattle.ffv1_record.proofs.write.write_planes.Goals as goal

pub returns-clause-ok : goal.returns-clause-ok
returns-clause-ok g c =
    wrote_on _ _ (wrote_on _ _ (wrote_on _ _ (wrote_on _ _
    (wrote_on _ _ (rw (c.one_if.ensures, c.is_rct.ensures) at c.in_ok-number.ensures.ok)
    c.in_ok-number-2.ensures.ok)
    c.in_ok-truth.ensures.ok) c.in_ok-number-3.ensures.ok) c.in_ok-number-4.ensures.ok)
    c.in_ok-truth-2.ensures.ok
