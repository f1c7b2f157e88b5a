-- As `get_signed_in_row`, but that a number is given by its size and its sign, and 0 as none, and
-- that nothing is counted but `nonzeros`: their symbol, where the number is not zero.
use Rattle.std.proofs.Common.{◌≡◌, ◌+◌, ◌-◌, ◌*◌, arith}
use Rattle.ffv1_range.specs.Signed.{number_of}
use Rattle.ffv1_range.specs.Symbols.{signed_steps, too_long}
use Rattle.ffv1_range.proofs.Windows.{follows_part, all_held_part, signed_below, too_long_below}
use Rattle.ffv1_range.proofs.decoder.RangeDecoder.tally_signed_in_row.Goals as goal

pub returns-in-Ok-clause-follows : goal.returns-in-Ok-clause-follows
returns-in-Ok-clause-follows c = λ n within.
    let number = number_of c.in-Ok.number in
    let wide : c.args.row * 32 + 32 - c.args.row * 32 ≡ 32 = omega arith in
    rw wide
    (follows_part c.args.table.now c.args.states.now (c.args.row * 32) 32 (signed_steps number)
    c.requires.rows (signed_below number) _ _ _ (rw wide at (c.in-Ok.ensures.follows n within)))

pub returns-in-Ok-clause-held : goal.returns-in-Ok-clause-held
returns-in-Ok-clause-held c =
    let wide : c.args.row * 32 + 32 - c.args.row * 32 ≡ 32 = omega arith in
    rw wide (all_held_part c.args.table.now c.args.states.now c.tally_signed.new.states
    (c.args.row * 32) 32 c.requires.rows c.requires.held c.tally_signed.ensures.held)

pub returns-in-Err-clause-refused : goal.returns-in-Err-clause-refused
returns-in-Err-clause-refused c = λ n within.
    let wide : c.args.row * 32 + 32 - c.args.row * 32 ≡ 32 = omega arith in
    rw wide
    (follows_part c.args.table.now c.args.states.now (c.args.row * 32) 32 too_long c.requires.rows
    too_long_below _ _ _ (rw wide at (c.in-Err.ensures.refused n within)))

pub returns-in-Err-clause-held : goal.returns-in-Err-clause-held
returns-in-Err-clause-held c =
    let wide : c.args.row * 32 + 32 - c.args.row * 32 ≡ 32 = omega arith in
    rw wide (all_held_part c.args.table.now c.args.states.now c.tally_signed.new.states
    (c.args.row * 32) 32 c.requires.rows c.requires.held c.tally_signed.ensures.held)
