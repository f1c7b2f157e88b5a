-- A low end without its mark, and beside it how many bytes are held back.
use Rattle.std.proofs.Common.{arith, refl}
use Rattle.ffv1_range.specs.Internal.Registers.{low_in}
use Rattle.ffv1_range.proofs.Marks.{shifted_mark, is_marked}
use Rattle.ffv1_range.proofs.encoder.marked.unmark.Goals as goal

pub overflow_sub-result : goal.overflow_sub-result
overflow_sub-result c =
    let whole = is_marked c.args.marked.low c.requires.some in
    rw (c.held_back-held.ensures, shifted_mark _ c.requires.few) (omega (arith, whole))

pub returns-clause-low : goal.returns-clause-low
unfolding low_in
returns-clause-low c = rw (c.held_back-held.ensures, shifted_mark _ c.requires.few) refl
