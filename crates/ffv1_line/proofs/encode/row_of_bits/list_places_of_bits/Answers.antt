-- Lists the decisions of a part of more than 9 bits, by the block that was prepared of it.
use Rattle.std.proofs.Common.{refl, arith, ◌*◌, ◌%◌, ◌∙◌, ◌++◌, ap, sym, get_or}
use Rattle.ffv1_range.specs.Symbols.{shifted, signed_steps}
use Rattle.ffv1_range.specs.Listed.{of_nine_bits}
use Rattle.ffv1_line.proofs.lemmas.cell.Beside.{places-none, listed_next, below_next}
use Rattle.ffv1_line.proofs.encode.row_of_bits.list_places_of_bits.Goals as goal

pub loop-k-init : goal.loop-k-init
loop-k-init g c = record {
  block = c.requires.block;
  nine = c.requires.nine;
  short = omega arith;
  steps = sym (places-none _ _ _ _ _ _);
  below = tt;
}

pub loop-k-preserved : goal.loop-k-preserved
loop-k-preserved g c =
    let k = c.loop-k.k in
    let is = c.loop-k.invariant.block in
    let context = get_or c.loop-k.block.contexts k 0 in
    let residual = get_or c.loop-k.block.residuals k 0 % 512 in
    record {
      block = is;
      nine = c.loop-k.invariant.nine;
      short = omega (arith, c.list_signed-at.ensures.few);
      steps = listed_next _ c.args.part.now.count k context residual _ _
          (c.loop-k.invariant.nine.each k c.loop-k-test.true) is c.loop-k-test.true refl _
          (c.list_signed-at.ensures.steps ∙ ap (λ l. l ++ shifted (context * 32)
          (signed_steps (of_nine_bits residual))) c.loop-k.invariant.steps);
      below = below_next _ context residual _ _ (is.few k c.loop-k-test.true)
          c.loop-k.invariant.below c.list_signed-at.ensures.steps;
    }
