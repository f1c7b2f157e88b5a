-- The signed number whose symbol comes next, by row `row` of many states, 32 a row.
use Rattle.std.proofs.Common.{◌≡◌, ◌+◌, ◌-◌, ◌*◌, arith, rules}
use Rattle.std.proofs.lemmas.Int.{to_z-of_z}
use Rattle.std.specs.Int.{w32}
use mir.Val.{SFits}
use Rattle.ffv1_range.specs.Symbols.{signed_steps, too_long}
use Rattle.ffv1_range.proofs.Windows.{follows_part, all_held_part, signed_below, too_long_below}
use Rattle.ffv1_range.proofs.decoder.RangeDecoder.get_signed_in_row.Goals as goal

pub returns-in-Ok-clause-follows : goal.returns-in-Ok-clause-follows
returns-in-Ok-clause-follows c =
    let fits : SFits w32 c.in-Ok.number = search rules in
    let wide : c.args.row * 32 + 32 - c.args.row * 32 ≡ 32 = omega arith in
    simp (to_z-of_z, wide)
    (follows_part c.args.table.now c.args.states.now (c.args.row * 32) 32
    (signed_steps c.in-Ok.number) c.requires.rows (signed_below c.in-Ok.number) _ _ _
    (rw wide at c.in-Ok.ensures.follows))

pub returns-in-Ok-clause-held : goal.returns-in-Ok-clause-held
returns-in-Ok-clause-held c =
    let wide : c.args.row * 32 + 32 - c.args.row * 32 ≡ 32 = omega arith in
    rw wide (all_held_part c.args.table.now c.args.states.now c.get_signed.new.states
    (c.args.row * 32) 32 c.requires.rows c.requires.held c.get_signed.ensures.held)

pub returns-in-Err-clause-refused : goal.returns-in-Err-clause-refused
returns-in-Err-clause-refused c =
    let wide : c.args.row * 32 + 32 - c.args.row * 32 ≡ 32 = omega arith in (
      c.in-Err.ensures.refused.0,
      rw wide
          (follows_part c.args.table.now c.args.states.now (c.args.row * 32) 32 too_long
          c.requires.rows too_long_below _ _ _ (rw wide at c.in-Err.ensures.refused.1)),
    )

pub returns-in-Err-clause-held : goal.returns-in-Err-clause-held
returns-in-Err-clause-held c =
    let wide : c.args.row * 32 + 32 - c.args.row * 32 ≡ 32 = omega arith in
    rw wide (all_held_part c.args.table.now c.args.states.now c.get_signed.new.states
    (c.args.row * 32) 32 c.requires.rows c.requires.held c.get_signed.ensures.held)
