-- The residuals of a part as signed numbers, by the block that was prepared of it.
use Rattle.std.proofs.Common.{◌∙◌, arith, rules}
use Rattle.std.proofs.lemmas.Int.{to_z-of_z}
use Rattle.std.specs.Int.{w32}
use mir.Val.{SFits}
use Rattle.ffv1_line.proofs.lemmas.cell.Beside.{numbered_next}
use Rattle.ffv1_line.proofs.encode.block.number_places.Goals as goal

pub loop-k-preserved : goal.loop-k-preserved
loop-k-preserved g c =
    let fits : SFits w32 c.residual_from.result = search rules in
    let k = c.loop-k.k in
    record {
      same = c.loop-k.invariant.same;
      block = c.loop-k.invariant.block;
      numbers = simp to_z-of_z (numbered_next c.args.part.now.set.now c.args.part.now.bits
          c.args.part.now.two.now c.args.part.now.one.now c.args.part.now.cur.now
          c.args.part.now.from c.loop-k.block.numbers k c.residual_from.result c.loop-k.invariant.numbers (omega arith)
          (c.residual_from.ensures.value ∙ c.loop-k.invariant.block.residual k c.loop-k-test.true) c.residual_from.ensures.size);
    }
