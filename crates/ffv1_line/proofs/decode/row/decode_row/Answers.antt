-- A row of a cell of 8 to 15 bits, by a body of its own for each kind of set, for 8 and for 9 bits,
-- and one for all others, whose `BITS` is 0.
use Rattle.std.proofs.Common.{◌≡◌, arith, rules, length}
use Rattle.ffv1_line.proofs.lemmas.cell.Rows.{lined_none, same_from_start}
use Rattle.ffv1_line.proofs.decode.row.decode_row.Goals as goal

pub parts-init : goal.parts-init
parts-init g c =
    let copy : c.take-local.result ≡ c.args.decoder.now = search rules in
    record {
      held = rw (← c.coding.view_is) at c.requires.held;
      rows = rw (← c.coding.view_is) at c.requires.rows;
      within = omega arith;
      behind = same_from_start _;
      lined = rw copy (lined_none _ _ _ _);
    }

pub decode_block_by-requires-clause-ready : goal.decode_block_by-requires-clause-ready
decode_block_by-requires-clause-ready g c =
    let one_long : length c.above.inside.one.now ≡ length c.args.cur.now = rw (← c.above.view_is) at
    c.requires.one_long in
    rw c.below-places.ensures (record {
      places = record {
        bits = rw c.fixed_bits-bits.ensures (rw (← c.coding.view_is) at c.requires.depth);
        three_tables = rw (← c.coding.view_is) at c.requires.three_tables;
        some = omega (arith, c.requires.some, one_long);
        few = omega (arith, c.min-count.ensures);
        within = omega (arith, c.min-count.ensures, one_long);
        wide = c.above.invariant;
        filled = record {
          above = c.fill.ensures.above;
          bounds = c.fill.ensures.bounds;
          early =
              c.fill.ensures.early;
        };
      };
      long = omega (arith, one_long);
      rows = c.parts.invariant.rows;
      held = c.parts.invariant.held;
    })

pub parts-preserved : goal.parts-preserved
parts-preserved g c =
    let kept = c.parts.invariant in
    let read = rw c.below-places.ensures at c.in-Ok.ensures.ok in
    record {
      held = rw c.below-places.ensures at c.decode_block_by.ensures.ready.held;
      rows = rw c.below-places.ensures at c.decode_block_by.ensures.ready.rows;
      within = omega (arith, c.min-count.ensures);
      behind = read.on _ kept.behind;
      lined = read.lined _ kept.lined;
    }
