-- Nothing was written yet.
use Rattle.ffv1_codec_tests.proofs.tests.record.symbols.Symbols.new.Goals as goal

pub invariant_of-result : goal.invariant_of-result
invariant_of-result c = (
  c.standard.ensures.value,
  rw c.standard.ensures.value at
      c.standard.ensures.fresh,
)
