-- The symbols of a part of a row, by an encoder that has not failed: one by one where nearly all
-- residuals are zero, else by a list.
use Rattle.ffv1_range.proofs.Growth.{on_err}
use Rattle.ffv1_line.proofs.lemmas.cell.Beside.{counts_no_places}
use Rattle.ffv1_line.proofs.encode.encode_block.Goals as goal

pub returns-in_err-put_all-clause-kept : goal.returns-in_err-put_all-clause-kept
returns-in_err-put_all-clause-kept g c =
    on_err c.from_residual-in_err-put_all.result
    (record {
      first = 0;
      few = λ some. some;
      counted = counts_no_places c.args.part.now.set.now c.args.part.now.bits
          c.args.part.now.two.now c.args.part.now.one.now c.args.part.now.cur.now
          c.args.part.now.from _ _ c.in_err-put_all.ensures.kept;
    })

pub returns-in_err-block-clause-kept : goal.returns-in_err-block-clause-kept
returns-in_err-block-clause-kept g c =
    on_err c.from_residual.result
    (record {
      first = 0;
      few = λ some. some;
      counted = counts_no_places c.args.part.now.set.now c.args.part.now.bits
          c.args.part.now.two.now c.args.part.now.one.now c.args.part.now.cur.now
          c.args.part.now.from _ _ c.in_err-block.ensures.kept;
    })
