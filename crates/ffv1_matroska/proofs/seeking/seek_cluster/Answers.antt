-- Seeks the next Cluster.
use Rattle.std.proofs.Common.{false}
use Rattle.ffv1_reads.proofs.EndReadings.{none_read, some_read}
use Rattle.ffv1_reads.proofs.Reading.{goes_none}
use Rattle.ffv1_matroska.specs.Turns.{found_turn, scanned, seek_found, seek_turn}
use Rattle.ffv1_matroska.proofs.TurnReadings.{some_last}
use Rattle.ffv1_matroska.proofs.CuedTurns.{cued_found, cued_none, cued_turn_of}
use Rattle.ffv1_matroska.proofs.seeking.seek_cluster.Goals as goal

pub returns-clause-answer : goal.returns-clause-answer
unfolding seek_turn
returns-clause-answer g c =
    let place = c.args.place in
    let next = none_read (scanned place.segment 0) (seek_found place) _ _ c.in-Some.left
    (goes_none (seek_turn place) _ _) (rw c.in-Some.is at c.in_ok-left.ensures) in
    rw c.turn_of.ensures (some_last (found_turn place c.in-Some.left) _ _ _ next
    c.read_found.ensures)

pub returns-in_default-clause-cued : goal.returns-in_default-clause-cued
returns-in_default-clause-cued g c = cued_none c.args.cued.now c.args.place.segment _ _
    (rw c.in_default.is at c.in_ok-left.ensures).1

pub returns-clause-cued : goal.returns-clause-cued
returns-clause-cued g c =
    let read = some_read (scanned c.args.place.segment 0) _ _ c.in-Some.left
    (rw c.in-Some.is at c.in_ok-left.ensures).1 in
    rw c.turn_of.ensures (cued_turn_of _ false _ _ c.read_found.result
    (cued_found c.args.cued.now c.args.place.segment c.in-Some.left _ _ _ _ _ _ c.read_found.result
    read c.read_found.ensures))
