-- The number of an option without a default.
use Rattle.std.proofs.Common.{refl}
use Rattle.clap.specs.Words.{found_of, rows_of}
use Rattle.ffv1_words.proofs.RangesNamed.{no_count}
use Rattle.ffv1_words.proofs.matched.count.Goals as goal

pub returns-in_err-n-in-Some-clause-none : goal.returns-in_err-n-in-Some-clause-none
returns-in_err-n-in-Some-clause-none c = λ _.
    no_count (rows_of (found_of c.args.rows.now)) c.args.id.now c.args.low c.args.high
    c.path.result c.in-Some.field-0 c.path.ensures c.in-Some.is (c.in_err-n-in-Some.ensures.none refl)
