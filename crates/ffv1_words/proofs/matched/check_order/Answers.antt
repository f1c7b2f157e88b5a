-- The order that the matches of `check` name.
use Rattle.std.proofs.Common.{refl}
use Rattle.clap.specs.Words.{found_of, rows_of}
use Rattle.ffv1_words.proofs.RangesNamed.{none_checked}
use Rattle.ffv1_words.proofs.matched.check_order.Goals as goal

pub returns-in_err-range-clause-none : goal.returns-in_err-range-clause-none
returns-in_err-range-clause-none c = λ _.
    none_checked (rows_of (found_of c.args.rows.now)) (c.in_err-range.ensures.none refl)
