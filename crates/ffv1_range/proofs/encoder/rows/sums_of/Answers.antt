-- How many decisions of the symbols of numbers are 1, and how many 0.
use Rattle.std.proofs.Common.{◌≡◌, ◌+◌, arith, refl, rules, sym, ap, length, pos}
use Rattle.std.proofs.lemmas.Int.{to_z-of_z}
use Rattle.std.specs.Int.{w32}
use Rattle.std.specs.Prelude.{slice_index_or}
use mir.Val.{SFits}
use Rattle.ffv1_range.specs.Symbols.{signed_steps}
use Rattle.ffv1_range.specs.Counts.{ones_in}
use Rattle.ffv1_range.proofs.Counting.{steps_counted}
use Rattle.ffv1_range.proofs.Rows.{rows-none, rows_ones, rows_length}
use Rattle.ffv1_range.proofs.encoder.rows.sums_of.Goals as goal

pub loop-number-init : goal.loop-number-init
loop-number-init c = record {
  few = omega arith;
  ones = λ rows. sym (ap ones_in (rows-none rows c.args.numbers.now));
  all = λ rows. sym (ap length (rows-none rows c.args.numbers.now));
}

pub loop-number-preserved : goal.loop-number-preserved
loop-number-preserved c =
    let k = c.loop-number.number-index in
    let v = slice_index_or c.args.numbers.now k (pos 0) in
    let fits : SFits w32 v = search rules in
    let ones = simp to_z-of_z at c.count_signed.ensures.ones in
    let zeros = simp to_z-of_z at c.count_signed.ensures.zeros in
    let both = steps_counted (signed_steps v) in
    record {
      few = omega (arith, c.loop-number.invariant.few, c.count_signed.ensures.few);
      ones = λ rows. rw ones (rows_ones rows c.args.numbers.now k _ _
          (c.loop-number.invariant.ones rows) refl);
      all = λ rows.
          let all : c.count_signed.new.self.ones + c.count_signed.new.self.zeros ≡
          (c.loop-number.sums.ones + c.loop-number.sums.zeros) + length (signed_steps v) =
          omega (arith, ones, zeros, both) in
          rw all (rows_length rows c.args.numbers.now k _ _ (c.loop-number.invariant.all rows) refl);
    }
