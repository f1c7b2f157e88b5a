-- A part that is narrower than 256 takes a byte more.
use Rattle.std.proofs.Common.{arith}
use Rattle.ffv1_range.proofs.HeldBack.{renormalised_held, renormalised_holding}
use Rattle.ffv1_range.proofs.Marks.{held_times, low_times, times_fits}
use Rattle.ffv1_range.proofs.encoder.marked.renormalise_marked.Goals as goal

pub overflow_mul-result : goal.overflow_mul-result
overflow_mul-result c = let fits = times_fits c.args.part.low c.args.part.width c.requires.some
    c.requires.part.few c.requires.part.below in omega arith

pub returns-then-width-lt256 : goal.returns-then-width-lt256
returns-then-width-lt256 c =
    let held = held_times c.args.part.low c.args.part.width c.requires.some c.requires.part.few
    c.requires.part.below c.requires.part.least in
    let low = low_times c.args.part.low c.args.part.width c.requires.some c.requires.part.few
    c.requires.part.below c.requires.part.least in
    record {
      interval = rw (held, low) (renormalised_held _ _ _ _ c.if-width-lt256.true);
      marked = record {
        some = omega (arith, c.requires.some);
        holding = rw (held, low)
            (renormalised_holding _ _ _ _ c.if-width-lt256.true c.requires.part);
      };
    }
