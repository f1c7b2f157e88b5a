-- What comes next, by what is pending; None at the end.
use Rattle.std.proofs.Common.{◌≡◌, ℕ, Option, Some, None, refl}
use Rattle.std.specs.Option.{unwrap_or}
use Rattle.ffv1_wire.specs.Passage.{passage}
use Rattle.ffv1_matroska.specs.CuedItems.{cued_turn}
use Rattle.ffv1_matroska.specs.Internal.{bytes_of}
use Rattle.ffv1_matroska.specs.Turns.{open_at, outer_turn, turn_read}
use Rattle.ffv1_matroska.proofs.TurnReadings.{some_answers}
use Rattle.ffv1_matroska.proofs.CuedTurns.{cued_kept_turn}
use Rattle.ffv1_matroska.proofs.outer_turn.take_turn.Goals as goal

or_none : (size : Option ℕ) → unwrap_or size 0 ≡ bytes_of size
or_none None = refl
or_none (Some n) = refl

pub returns-in-Grouped-clause-cued : goal.returns-in-Grouped-clause-cued
unfolding cued_turn
returns-in-Grouped-clause-cued g c = rw (c.in-Grouped.is, c.turn_of.ensures)
    (cued_kept_turn _ c.args.cued.now _ _ c.read_grouped.result (λ text. refl)
    c.read_grouped.ensures)

pub returns-in-Passing-clause-cued : goal.returns-in-Passing-clause-cued
unfolding cued_turn
returns-in-Passing-clause-cued g c = rw (c.in-Passing.is, c.turn_of-in-Passing.ensures)
    (cued_kept_turn _ c.args.cued.now _ _ c.pass_turn.result (λ text. refl) c.pass_turn.ensures)

pub returns-in-Named-clause-cued : goal.returns-in-Named-clause-cued
unfolding cued_turn
returns-in-Named-clause-cued g c = rw (c.in-Named.is, c.turn_of-in-Named.ensures)
    (cued_kept_turn _ c.cued_by.result _ _ c.read_named.result (λ text. c.cued_by.ensures)
    c.read_named.ensures)

pub returns-in-Headed-clause-answer : goal.returns-in-Headed-clause-answer
unfolding turn_read
returns-in-Headed-clause-answer g c =
    let size = c.in-Headed.size in
    let reading = outer_turn c.args.track c.in-Headed.ident
    (open_at (bytes_of size) c.args.place) size in
    rw (c.in-Headed.is, c.turn_of-in-Headed.ensures) (some_answers reading
    (passage g.R.ByteIn.remaining g.R.ByteIn.failures c.args.input.now c.read_outer.new.input)
    c.read_outer.result (rw (c.open_at-after.ensures, c.unwrap_or.ensures, or_none size) at
    c.read_outer.ensures))

pub returns-in-Headed-clause-cued : goal.returns-in-Headed-clause-cued
unfolding cued_turn
returns-in-Headed-clause-cued g c = rw (c.in-Headed.is, c.turn_of-in-Headed.ensures)
    (cued_kept_turn _ c.args.cued.now _ _ c.read_outer.result (λ text. refl) c.read_outer.ensures)
