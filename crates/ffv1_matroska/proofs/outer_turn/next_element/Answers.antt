-- The next element; a Cluster that was read to its end, and whose CRC-32 is not the sum, is told
-- first.
use Rattle.std.proofs.Common.{◌≡◌, ◌∙◌, nat_lt, true, false, arith, refl, sym}
use Rattle.std.proofs.lemmas.Bool.{le-ltb, lt-ltb}
use Rattle.ffv1_matroska.specs.CuedItems.{cued_element, cued_open}
use Rattle.ffv1_matroska.specs.Places.{is_sound}
use Rattle.ffv1_matroska.proofs.CuedTurns.{cued_here, cued_kept_turn, cued_same}
use Rattle.ffv1_matroska.proofs.outer_turn.next_element.Goals as goal

pub returns-then-not-is_sound-clause-cued : goal.returns-then-not-is_sound-clause-cued
unfolding cued_element
returns-then-not-is_sound-clause-cued g c =
    let broken : is_sound c.args.place ≡ false = sym c.is_sound.ensures ∙ c.if-not-is_sound.true in
    cued_here (cued_element c.args.place c.args.cued.now) c.args.cued.now _
    (λ text. rw broken refl)

pub returns-then-place-gt0-clause-cued : goal.returns-then-place-gt0-clause-cued
unfolding cued_element
returns-then-place-gt0-clause-cued g c =
    let sound : is_sound c.args.place ≡ true = sym c.is_sound.ensures ∙ c.if-not-is_sound.false in
    let some : nat_lt 0 c.args.place.group ≡ true = lt-ltb _ _ c.if-place-gt0.true in
    rw c.turn_of.ensures (cued_kept_turn (cued_element c.args.place c.args.cued.now)
    c.args.cued.now _ _ c.read_group.result (λ text. rw (sound, some) refl) c.read_group.ensures)

pub returns-then-place-gt0-2-clause-cued : goal.returns-then-place-gt0-2-clause-cued
unfolding cued_element
returns-then-place-gt0-2-clause-cued g c =
    let sound : is_sound c.args.place ≡ true = sym c.is_sound.ensures ∙ c.if-not-is_sound.false in
    let none : nat_lt 0 c.args.place.group ≡ false = le-ltb _ _ (omega
    (arith, c.if-place-gt0.false)) in
    let some : nat_lt 0 c.args.place.cluster ≡ true = lt-ltb _ _ c.if-place-gt0-2.true in
    rw c.turn_of-then-place-gt0-2.ensures (cued_kept_turn (cued_element c.args.place c.args.cued.now)
    c.args.cued.now _ _ c.read_cluster.result (λ text. rw (sound, none, some) refl)
    c.read_cluster.ensures)

pub returns-clause-cued : goal.returns-clause-cued
unfolding cued_element
returns-clause-cued g c =
    let sound : is_sound c.args.place ≡ true = sym c.is_sound.ensures ∙ c.if-not-is_sound.false in
    let none : nat_lt 0 c.args.place.group ≡ false = le-ltb _ _ (omega
    (arith, c.if-place-gt0.false)) in
    let outside : nat_lt 0 c.args.place.cluster ≡ false = le-ltb _ _ (omega
    (arith, c.if-place-gt0-2.false)) in
    cued_same (cued_element c.args.place c.args.cued.now) (cued_open c.args.place c.args.cued.now)
    _ _ _ c.read_open.result (λ text. rw (sound, none, outside) refl) c.read_open.ensures.cued
