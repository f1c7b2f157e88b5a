-- The symbols of a part of a row one by one, with the interval in locals.
use Rattle.std.proofs.Common.{◌≡◌, ◌∙◌, ◌≤◌, take, length, pos, arith}
use Rattle.std.proofs.lemmas.List.{get_or-take, length-take-le}
use Rattle.ffv1_range.specs.Rows.{rows_steps}
use Rattle.ffv1_line.specs.Internal.Parts.{part_steps}
use Rattle.ffv1_line.proofs.lemmas.cell.Beside.{rows_are}
use Rattle.ffv1_line.proofs.encode.put_numbers.Given.{Over}
use Rattle.ffv1_line.proofs.encode.put_numbers.Goals.{After-number_places}
use Rattle.ffv1_line.proofs.encode.put_numbers.Goals as goal

-- the symbols are those of the part
steps : (g : Over) (c : After-number_places g) →
    c.args.part.now.count ≤ length c.number_places.new.block.contexts →
    rows_steps (take c.args.part.now.count c.number_places.new.block.contexts)
    (take c.args.part.now.count c.number_places.new.block.numbers)
    (length (take c.args.part.now.count c.number_places.new.block.contexts)) ≡
    part_steps c.args.part.now c.args.part.now.count
steps g c wide =
    let p = c.args.part.now in
    let contexts = c.number_places.new.block.contexts in
    let numbers = c.number_places.new.block.numbers in
    let block = c.number_places.ensures.block in
    let long = length-take-le p.count contexts wide in
    rw long
    (rows_are p.set.now p.bits p.two.now p.one.now p.cur.now p.from (take p.count contexts)
    (take p.count numbers) p.count
    (λ k less. get_or-take p.count contexts k 0 less ∙ block.context k less)
    (λ k less. get_or-take p.count numbers k (pos 0) less ∙
    c.number_places.ensures.numbers.number k less))

pub returns-clause-ok : goal.returns-clause-ok
returns-clause-ok g c =
    rw (steps g (goal.at.returns-clause-ok g c).After-number_places
    (rw c.number_places.ensures.same (omega (arith, c.requires.part.few)))) at c.put_rows.ensures.ok

pub returns-clause-refused : goal.returns-clause-refused
returns-clause-refused g c =
    rw (steps g (goal.at.returns-clause-refused g c).After-number_places
    (rw c.number_places.ensures.same (omega (arith, c.requires.part.few)))) at
    c.put_rows.ensures.refused
