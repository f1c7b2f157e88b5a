-- The set of five tables by their runs and scales.
use Rattle.std.proofs.Common.{refl}
use Rattle.ffv1_plane.specs.Raised.{table_of}
use Rattle.ffv1_plane.proofs.Scales.{rooms}
use Rattle.ffv1_plane.proofs.quantisation.build.Goals as goal

pub new-requires-clause-room : goal.new-requires-clause-room
new-requires-clause-room g c = (rooms (table_of c.args.runs.now.first.now 1)
    (table_of c.args.runs.now.second.now c.args.scales.second)
    (table_of c.args.runs.now.third.now c.args.scales.third)
    (table_of c.args.runs.now.fourth.now c.args.scales.fourth)
    (table_of c.args.runs.now.fifth.now c.args.scales.fifth) c.args.scales.half
    c.requires).first_room

pub new-requires-2-clause-room : goal.new-requires-2-clause-room
new-requires-2-clause-room g c = (rooms (table_of c.args.runs.now.first.now 1)
    (table_of c.args.runs.now.second.now c.args.scales.second)
    (table_of c.args.runs.now.third.now c.args.scales.third)
    (table_of c.args.runs.now.fourth.now c.args.scales.fourth)
    (table_of c.args.runs.now.fifth.now c.args.scales.fifth) c.args.scales.half
    c.requires).second_room

pub new-requires-3-clause-room : goal.new-requires-3-clause-room
new-requires-3-clause-room g c = (rooms (table_of c.args.runs.now.first.now 1)
    (table_of c.args.runs.now.second.now c.args.scales.second)
    (table_of c.args.runs.now.third.now c.args.scales.third)
    (table_of c.args.runs.now.fourth.now c.args.scales.fourth)
    (table_of c.args.runs.now.fifth.now c.args.scales.fifth) c.args.scales.half
    c.requires).third_room

pub new-requires-4-clause-room : goal.new-requires-4-clause-room
new-requires-4-clause-room g c = (rooms (table_of c.args.runs.now.first.now 1)
    (table_of c.args.runs.now.second.now c.args.scales.second)
    (table_of c.args.runs.now.third.now c.args.scales.third)
    (table_of c.args.runs.now.fourth.now c.args.scales.fourth)
    (table_of c.args.runs.now.fifth.now c.args.scales.fifth) c.args.scales.half
    c.requires).fourth_room

pub new-requires-5-clause-room : goal.new-requires-5-clause-room
new-requires-5-clause-room g c = (rooms (table_of c.args.runs.now.first.now 1)
    (table_of c.args.runs.now.second.now c.args.scales.second)
    (table_of c.args.runs.now.third.now c.args.scales.third)
    (table_of c.args.runs.now.fourth.now c.args.scales.fourth)
    (table_of c.args.runs.now.fifth.now c.args.scales.fifth) c.args.scales.half
    c.requires).fifth_room

pub invariant_of-result : goal.invariant_of-result
invariant_of-result g c = rw (
  c.in_ok-first.ensures,
  c.in_ok-second.ensures,
  c.in_ok-third.ensures,
  c.in_ok-fourth.ensures,
  c.in_ok-fifth.ensures,
) c.requires

pub returns : goal.returns
returns g c = rw (
  c.in_ok-first.ensures,
  c.in_ok-second.ensures,
  c.in_ok-third.ensures,
  c.in_ok-fourth.ensures,
  c.in_ok-fifth.ensures,
) refl
