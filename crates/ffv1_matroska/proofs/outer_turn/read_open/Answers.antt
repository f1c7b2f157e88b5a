-- The next element of a Segment; None at its end.
use Rattle.std.proofs.Common.{◌≡◌, ◌==◌, ℕ, List, Option, false, true, refl, arith}
use Rattle.std.proofs.lemmas.Bool.{eq-eqb, ne_eqb}
use Rattle.ffv1_reads.proofs.EndReadings.{none_last}
use Rattle.ffv1_reads.proofs.Reading.{goes_none, goes_same}
use Rattle.ffv1_matroska.specs.Turns.{open_turn, segment_turn, some_turn, turn_or_end}
use Rattle.ffv1_matroska.proofs.TurnReadings.{some_last}
use Rattle.ffv1_matroska.specs.declared.course.Turn.{Turn}
use Rattle.ffv1_matroska.specs.CuedItems.{cued_open, cued_outer}
use Rattle.ffv1_matroska.proofs.CuedTurns.{cued_here, cued_same, cued_turn_of}
use Rattle.ffv1_matroska.proofs.outer_turn.read_open.Goals as goal

pub returns-then-place-clause-answer : goal.returns-then-place-clause-answer
unfolding open_turn
returns-then-place-clause-answer g c =
    let track = c.args.track in
    let place = c.args.place in
    let some : (place.segment == 0) ≡ false = ne_eqb _ _
    (λ z. omega (arith, z, c.if-place-eq0.false)) in
    let same : (text : List ℕ) → open_turn track place text ≡ turn_or_end track place text =
    λ text. rw (some, c.if-place.true) refl in
    none_last (turn_or_end track place) (λ (t : Option Turn). t) _ _ _
    (goes_same (open_turn track place) (turn_or_end track place) same
    (goes_none (open_turn track place) _ _)) c.read_or_end.ensures.answer

pub returns-clause-answer : goal.returns-clause-answer
unfolding open_turn
returns-clause-answer g c =
    let track = c.args.track in
    let place = c.args.place in
    let some : (place.segment == 0) ≡ false = ne_eqb _ _
    (λ z. omega (arith, z, c.if-place-eq0.false)) in
    let same : (text : List ℕ) → open_turn track place text ≡ some_turn (segment_turn track place)
    text =
    λ text. rw (some, c.if-place.false) refl in
    rw c.turn_of.ensures (some_last (segment_turn track place) _ _ c.read_element.result
    (goes_same (open_turn track place) (some_turn (segment_turn track place)) same
    (goes_none (open_turn track place) _ _)) c.read_element.ensures.answer)

pub returns-then-place-eq0-clause-cued : goal.returns-then-place-eq0-clause-cued
unfolding cued_open
returns-then-place-eq0-clause-cued g c =
    let none : (c.args.place.segment == 0) ≡ true = eq-eqb _ _ c.if-place-eq0.true in
    cued_here (cued_open c.args.place c.args.cued.now) c.args.cued.now _ (λ text. rw none refl)

pub returns-then-place-clause-cued : goal.returns-then-place-clause-cued
unfolding cued_open
returns-then-place-clause-cued g c =
    let some : (c.args.place.segment == 0) ≡ false = ne_eqb _ _
    (λ z. omega (arith, z, c.if-place-eq0.false)) in
    cued_same (cued_open c.args.place c.args.cued.now) (cued_outer c.args.cued.now) _ _ _
    c.read_or_end.result (λ text. rw some refl) c.read_or_end.ensures.cued

pub returns-clause-cued : goal.returns-clause-cued
unfolding cued_open
returns-clause-cued g c =
    let some : (c.args.place.segment == 0) ≡ false = ne_eqb _ _
    (λ z. omega (arith, z, c.if-place-eq0.false)) in
    rw c.turn_of.ensures (cued_same (cued_open c.args.place c.args.cued.now)
    (cued_outer c.args.cued.now) _ _ _ _ (λ text. rw some refl)
    (cued_turn_of _ _ _ _ c.read_element.result c.read_element.ensures.cued))
