-- The symbol of a number in its row.
use Rattle.std.proofs.Common.{◌≡◌, ◌+◌, ◌-◌, ◌*◌, arith, rules}
use Rattle.std.proofs.lemmas.Int.{to_z-of_z}
use Rattle.std.specs.Int.{w32}
use mir.Val.{SFits}
use Rattle.ffv1_range.specs.Symbols.{signed_steps}
use Rattle.ffv1_range.proofs.Growth.{grows_part}
use Rattle.ffv1_range.proofs.Windows.{writes_part, all_held_part, signed_below}
use Rattle.ffv1_range.proofs.encoder.rows.put_in_row.Goals as goal

pub returns-in-Ok-clause-writes : goal.returns-in-Ok-clause-writes
returns-in-Ok-clause-writes g c =
    let fits : SFits w32 c.args.number = search rules in
    let wide : c.args.row * 32 + 32 - c.args.row * 32 ≡ 32 = omega arith in
    let writes = simp to_z-of_z at c.in-Ok.ensures.writes in
    rw wide
    (writes_part c.args.table.now c.args.states.now (c.args.row * 32) 32
    (signed_steps c.args.number) c.requires.rows (signed_below c.args.number) _ _ _
    (rw wide at writes))

pub returns-in-Ok-clause-held : goal.returns-in-Ok-clause-held
returns-in-Ok-clause-held g c =
    let wide : c.args.row * 32 + 32 - c.args.row * 32 ≡ 32 = omega arith in
    rw wide (all_held_part c.args.table.now c.args.states.now c.put_number.new.states
    (c.args.row * 32) 32 c.requires.rows c.requires.held c.put_number.ensures.held)

pub returns-in-Err-clause-held : goal.returns-in-Err-clause-held
returns-in-Err-clause-held g c =
    let wide : c.args.row * 32 + 32 - c.args.row * 32 ≡ 32 = omega arith in
    rw wide (all_held_part c.args.table.now c.args.states.now c.put_number.new.states
    (c.args.row * 32) 32 c.requires.rows c.requires.held c.put_number.ensures.held)

pub returns-in-Err-clause-refused : goal.returns-in-Err-clause-refused
returns-in-Err-clause-refused g c =
    let fits : SFits w32 c.args.number = search rules in
    let wide : c.args.row * 32 + 32 - c.args.row * 32 ≡ 32 = omega arith in
    let refused = simp to_z-of_z at c.in-Err.ensures.refused in
    grows_part c.args.table.now _ c.args.states.now (c.args.row * 32) 32
    (signed_steps c.args.number) c.requires.rows (signed_below c.args.number) (rw wide at refused)
