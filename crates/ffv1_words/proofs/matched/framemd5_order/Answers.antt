-- The order that the matches of `framemd5` name.
use Rattle.std.proofs.Common.{refl}
use Rattle.clap.specs.Words.{found_of, rows_of}
use Rattle.ffv1_words.proofs.RangesNamed.{none_hashed}
use Rattle.ffv1_words.proofs.matched.framemd5_order.Goals as goal

pub returns-in_err-range-clause-none : goal.returns-in_err-range-clause-none
returns-in_err-range-clause-none c = λ _.
    none_hashed (rows_of (found_of c.args.rows.now)) (c.in_err-range.ensures.none refl)
