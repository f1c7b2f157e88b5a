-- A row of a cell of 8 or 9 bits, by an encoder that has not failed, by a body of its own for each
-- depth and each kind of set.
use Rattle.std.proofs.Common.{◌≡◌, ◌∙◌, length, arith, rules}
use Rattle.ffv1_range.proofs.Growth.{on_err}
use Rattle.ffv1_line.proofs.lemmas.cell.Rows.{written_none}
use Rattle.ffv1_line.proofs.lemmas.cell.Beside.{written_block, refused_block, counts_block}
use Rattle.ffv1_line.proofs.encode.encode_row.Goals as goal

pub parts-init : goal.parts-init
parts-init g c = record {
  held = rw (← c.coding.view_is) at c.requires.held;
  rows = rw (← c.coding.view_is) at c.requires.rows;
  within = omega arith;
  sound = c.requires.sound;
  written = written_none _ _ _ _;
}

pub encode_block-requires-clause-part : goal.encode_block-requires-clause-part
encode_block-requires-clause-part g c =
    let one_long : length c.above.inside.one.now ≡ length c.args.cur.now = rw (← c.above.view_is) at
    c.requires.one_long in
    record {
      bits = record {
        least = omega (arith, c.fixed_bits-bits.ensures, c.coding.invariant.0);
        most = omega (arith, c.fixed_bits-bits.ensures, rw (← c.coding.view_is) at c.requires.depth);
      };
      three_tables = rw (← c.coding.view_is) at c.requires.three_tables;
      some = c.requires.some;
      few = omega (arith, c.min-count.ensures);
      within = omega (arith, c.min-count.ensures);
      two_long = c.above.invariant ∙ one_long;
      one_long = one_long;
    }

pub parts-preserved : goal.parts-preserved
parts-preserved g c =
    let one_long : length c.above.inside.one.now ≡ length c.args.cur.now = rw (← c.above.view_is) at
    c.requires.one_long in
    record {
      held = c.encode_block.ensures.held;
      rows = omega (arith, c.parts.invariant.rows);
      within = omega (arith, c.min-count.ensures);
      sound = c.in_ok-encode_block.ensures.ok.failed ∙ c.parts.invariant.sound;
      written = written_block _ _ _ _ _ _ c.parts.from c.min-count.result
          (omega (arith, c.min-count.ensures, one_long)) c.parts.invariant.written
          c.in_ok-encode_block.ensures.ok;
    }

pub returns-in_err-encode_block : goal.returns-in_err-encode_block
returns-in_err-encode_block g c =
    let one_long : length c.above.inside.one.now ≡ length c.args.cur.now = rw (← c.above.view_is) at
    c.requires.one_long in
    let bits : c.coding.inside.bits ≡ c.fixed_bits-bits.result = search rules in
    let kept = c.in_err-encode_block.ensures.kept in
    let few = kept.few (omega (arith, c.min-count.ensures)) in
    record {
      ok = search rules;
      refused = rw (← c.coding.view_is, ← c.above.view_is, bits)
          (on_err c.from_residual.result (refused_block _ _ _ _ _ c.parts.from c.min-count.result
          (omega (arith, c.min-count.ensures)) one_long c.parts.invariant.written
          c.in_err-encode_block.ensures.refused));
      held = search rules;
      err = search rules;
      kept = rw (← c.coding.view_is, ← c.above.view_is, bits)
          (on_err c.from_residual.result (counts_block _ _ _ _ _ _ c.parts.from kept.first
          (omega (arith, few, c.min-count.ensures)) one_long c.parts.invariant.written
          kept.counted));
    }
