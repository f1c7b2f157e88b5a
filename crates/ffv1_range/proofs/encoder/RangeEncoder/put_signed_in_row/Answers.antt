-- The symbol of a signed number, by row `row` of many states, 32 a row, by an encoder that has not
-- failed.
use Rattle.std.proofs.Common.{◌≡◌, ◌+◌, ◌-◌, ◌*◌, arith, rules}
use Rattle.std.proofs.lemmas.Int.{to_z-of_z}
use Rattle.std.specs.Int.{w32}
use mir.Val.{SFits}
use Rattle.ffv1_range.specs.Symbols.{signed_steps}
use Rattle.ffv1_range.proofs.Growth.{refused_part}
use Rattle.ffv1_range.proofs.Windows.{puts_part, all_held_part, signed_below}
use Rattle.ffv1_range.proofs.encoder.RangeEncoder.put_signed_in_row.Goals as goal

pub returns-in-Ok-clause-ok : goal.returns-in-Ok-clause-ok
returns-in-Ok-clause-ok g c =
    let fits : SFits w32 c.args.value = search rules in
    let wide : c.args.row * 32 + 32 - c.args.row * 32 ≡ 32 = omega arith in
    let puts = simp to_z-of_z at c.in-Ok.ensures.ok in
    rw wide
    (puts_part c.args.table.now c.args.states.now (c.args.row * 32) 32 (signed_steps c.args.value)
    c.requires.rows (signed_below c.args.value) _ _ _ (rw wide at puts))

pub returns-in-Ok-clause-held : goal.returns-in-Ok-clause-held
returns-in-Ok-clause-held g c =
    let wide : c.args.row * 32 + 32 - c.args.row * 32 ≡ 32 = omega arith in
    rw wide (all_held_part c.args.table.now c.args.states.now c.write_signed.new.states
    (c.args.row * 32) 32 c.requires.rows c.requires.held c.write_signed.ensures.held)

pub returns-in-Err-clause-held : goal.returns-in-Err-clause-held
returns-in-Err-clause-held g c =
    let wide : c.args.row * 32 + 32 - c.args.row * 32 ≡ 32 = omega arith in
    rw wide (all_held_part c.args.table.now c.args.states.now c.write_signed.new.states
    (c.args.row * 32) 32 c.requires.rows c.requires.held c.write_signed.ensures.held)

pub returns-in-Err-clause-refused : goal.returns-in-Err-clause-refused
returns-in-Err-clause-refused g c =
    let fits : SFits w32 c.args.value = search rules in
    let wide : c.args.row * 32 + 32 - c.args.row * 32 ≡ 32 = omega arith in
    let refused = simp to_z-of_z at c.in-Err.ensures.refused in
    refused_part c.args.table.now c.args.self.now c.args.states.now (c.args.row * 32) 32
    (signed_steps c.args.value) c.requires.rows (signed_below c.args.value) (rw wide at refused)
