-- Gives out the first of the bytes that are held back.
use Rattle.std.proofs.Common.{arith, rules}
use Rattle.ffv1_range.proofs.HeldBack.{places_are, unit_is, released_top, released_room}
use Rattle.ffv1_range.proofs.HeldBack.{released_holding, released_same}
use Rattle.ffv1_range.proofs.encoder.marked.release.Goals as goal

pub overflow_cast-low : goal.overflow_cast-low
overflow_cast-low g c =
    let top = released_top _ _ _ _ c.requires.some c.requires.few c.requires.holding in
    rw (places_are c.args.holding.now.held c.requires.some c.requires.few) (omega arith)

pub emit-requires-clause-below : goal.emit-requires-clause-below
emit-requires-clause-below g c =
    rw (places_are c.args.holding.now.held c.requires.some c.requires.few)
    (released_top _ _ _ _ c.requires.some c.requires.few c.requires.holding)

pub emit-requires-clause-room : goal.emit-requires-clause-room
emit-requires-clause-room g c =
    rw (places_are c.args.holding.now.held c.requires.some c.requires.few)
    (released_room _ _ _ _ c.requires.some c.requires.few c.requires.holding)

pub returns : goal.returns
returns g c =
    let number = rw (places_are c.args.holding.now.held c.requires.some c.requires.few) at
    c.in_ok-emit.ensures.value in
    let unit = unit_is c.args.holding.now.held c.requires.some c.requires.few in
    record {
      same = rw unit (released_same _ _ _ _ c.requires.some c.requires.few c.requires.holding _
          number c.in_ok-emit.ensures.long);
      holding = rw unit (released_holding _ _ _ _ c.requires.some c.requires.few
          c.requires.holding _ number c.in_ok-emit.ensures.long
          c.in_ok-emit.ensures.bytes_fit);
      less = omega arith;
      long = search rules;
      full = search rules;
      room = search rules;
    }
