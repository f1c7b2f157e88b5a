-- The symbols of numbers in their rows.
use Rattle.std.proofs.Common.{arith, refl, rules, length, pos}
use Rattle.std.proofs.lemmas.Int.{to_z-of_z}
use Rattle.std.specs.Int.{w32}
use Rattle.std.specs.Prelude.{slice_index_or}
use mir.Val.{SFits}
use Rattle.ffv1_range.proofs.Steps.{writes_none}
use Rattle.ffv1_range.proofs.Growth.{on_err}
use Rattle.ffv1_range.proofs.Rows.{rows-none, rows_next, rows_grow}
use Rattle.ffv1_range.proofs.encoder.rows.put_each.Goals as goal

pub loop-k-init : goal.loop-k-init
loop-k-init g c = record {
  held = c.requires.held;
  sound = c.requires.sound;
  long = refl;
  grown = omega arith;
  writes = rw (rows-none c.args.rows.now c.args.numbers.now) (writes_none _ _ _);
}

pub loop-k-preserved : goal.loop-k-preserved
loop-k-preserved g c =
    let fits : SFits w32 (slice_index_or c.args.numbers.now c.loop-k.k (pos 0)) = search rules in
    let writes = simp to_z-of_z at c.in_ok-put_in_row.ensures.writes in
    record {
      held = c.put_in_row.ensures.held;
      sound = c.put_in_row.ensures.sound;
      long = omega arith;
      grown = omega (arith, c.loop-k.invariant.grown, c.in_ok-put_in_row.ensures.grown);
      writes = rows_next _ _ _ _ _ _ _ c.args.rows.now c.args.numbers.now c.loop-k.k
          c.loop-k.invariant.writes writes;
    }

pub returns-in_err-put_in_row-clause-refused : goal.returns-in_err-put_in_row-clause-refused
returns-in_err-put_in_row-clause-refused g c =
    let fits : SFits w32 (slice_index_or c.args.numbers.now c.loop-k.k (pos 0)) = search rules in
    let refused = simp to_z-of_z at c.in_err-put_in_row.ensures.refused in
    on_err c.from_residual.result (rows_grow _ _ _ _ _ c.args.rows.now c.args.numbers.now c.loop-k.k
    (length c.args.rows.now) c.loop-k-test.true c.loop-k.invariant.writes refused)
