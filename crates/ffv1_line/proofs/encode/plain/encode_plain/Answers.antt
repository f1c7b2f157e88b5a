-- A row of a cell in blocks, by an encoder that has not failed, by a body of its own for each kind
-- of words and of set.
use Rattle.std.proofs.Common.{◌≡◌, ◌∙◌, take, length, pos, arith, rules}
use Rattle.std.proofs.lemmas.List.{get_or-take, length-take-le}
use Rattle.ffv1_range.specs.Rows.{rows_steps}
use Rattle.ffv1_range.proofs.Growth.{on_err}
use Rattle.ffv1_line.specs.Beside.{places_steps}
use Rattle.ffv1_line.specs.Coding.{RowCoding, coding_by}
use Rattle.ffv1_line.specs.Coder.{Encoder, encoder_by}
use Rattle.ffv1_line.specs.Above.{rows_above}
use Rattle.ffv1_line.proofs.lemmas.cell.Rows.{written_none}
use Rattle.ffv1_line.proofs.lemmas.cell.Beside.{rows_are, written_block, refused_block, counts_block}
use Rattle.ffv1_line.proofs.lemmas.cell.Beside.{counts_no_places}
use Rattle.ffv1_line.proofs.encode.plain.encode_plain.Given.{Over}
use Rattle.ffv1_line.proofs.encode.plain.encode_plain.Goals.{Start, After-number_words-count}
use Rattle.ffv1_line.proofs.encode.plain.encode_plain.Goals as goal

-- the row above is as long as the row
one_long : (g : Over) (c : Start g) → length (g.W.Word.samples c.args.one.now) ≡ length
    (g.W.Word.samples c.args.cur.now)
one_long g c =
    let one_is = g.met.W.Word.lengths c.args.one.now in
    let cur_is = g.met.W.Word.lengths c.args.cur.now in
    omega (arith, one_is, cur_is, c.requires.one_long)

-- how the row is coded, and the encoder before it
abbrev coding : (g : Over) (c : Start g) → RowCoding
coding g c = coding_by c.args.way.now.table.now c.args.way.now.set.now c.args.way.now.bits

abbrev before : (g : Over) (c : Start g) → Encoder
before g c = encoder_by c.args.encoder.now c.args.states.now

-- the symbols are those of the places
steps : (g : Over) (c : After-number_words-count g) →
    rows_steps (take c.number_words-count.result c.number_words-count.new.block.contexts)
    (take c.number_words-count.result c.number_words-count.new.block.numbers)
    (length (take c.number_words-count.result c.number_words-count.new.block.contexts)) ≡
    places_steps c.args.way.now.set.now c.args.way.now.bits (g.W.Word.samples c.args.two.now)
    (g.W.Word.samples c.args.one.now) (g.W.Word.samples c.args.cur.now) c.parts.from
    c.number_words-count.result
steps g c =
    let count = c.number_words-count.result in
    let contexts = c.number_words-count.new.block.contexts in
    let numbers = c.number_words-count.new.block.numbers in
    let made = c.number_words-count.ensures in
    let set = c.args.way.now.set.now in
    let bits = c.args.way.now.bits in
    let two = g.W.Word.samples c.args.two.now in
    let one = g.W.Word.samples c.args.one.now in
    let cur = g.W.Word.samples c.args.cur.now in
    let from = c.parts.from in
    rw (length-take-le count contexts made.room)
    (rows_are set bits two one cur from (take count contexts) (take count numbers) count
    (λ k less. rw (get_or-take count contexts k 0 less) (made.contexts.context k less))
    (λ k less. rw (get_or-take count numbers k (pos 0) less) (made.numbers.number k less)))

pub parts-init : goal.parts-init
parts-init g c = record {
  held = c.requires.held;
  rows = c.requires.rows;
  within = omega arith;
  sound = c.requires.sound;
  written = written_none _ _ _ _;
}

pub parts-preserved : goal.parts-preserved
parts-preserved g c =
    let here = goal.at.parts-preserved g c in
    let two = g.W.Word.samples c.args.two.now in
    let one = g.W.Word.samples c.args.one.now in
    let cur = g.W.Word.samples c.args.cur.now in
    let cur_is = g.met.W.Word.lengths c.args.cur.now in
    let count = c.number_words-count.result in
    let within = c.number_words-count.ensures.within in
    let puts = rw (steps g here.After-number_words-count) at c.in_ok-put_contexts.ensures.ok in
    record {
      held = c.in_ok-put_contexts.ensures.held;
      rows = omega (arith, c.parts.invariant.rows);
      within = within;
      sound = puts.failed ∙ c.parts.invariant.sound;
      written = written_block (coding g here.Start) (before g here.Start)
          (encoder_by c.parts.encoder c.parts.states)
          (encoder_by c.put_contexts.new.encoder c.put_contexts.new.states)
          (rows_above two one) cur c.parts.from count
          (omega (arith, within, one_long g here.Start, cur_is)) c.parts.invariant.written puts;
    }

pub returns-in_err-put_contexts : goal.returns-in_err-put_contexts
returns-in_err-put_contexts g c =
    let here = goal.at.returns-in_err-put_contexts g c in
    let two = g.W.Word.samples c.args.two.now in
    let one = g.W.Word.samples c.args.one.now in
    let cur = g.W.Word.samples c.args.cur.now in
    let cur_is = g.met.W.Word.lengths c.args.cur.now in
    let one_long = one_long g here.Start in
    let coding = coding g here.Start in
    let old = before g here.Start in
    let mid = encoder_by c.parts.encoder c.parts.states in
    let made = c.number_words-count.ensures in
    let refused = rw (steps g here.After-number_words-count) at
    c.in_err-put_contexts.ensures.refused in
    record {
      ok = search rules;
      refused = rw (← cur_is) (on_err c.from_residual.result (refused_block coding old mid
          (rows_above two one) cur c.parts.from c.number_words-count.result
          (omega (arith, made.within, cur_is)) one_long c.parts.invariant.written refused));
      held = search rules;
      err = search rules;
      kept = on_err c.from_residual.result (counts_block coding old mid _ (rows_above two one) cur
          c.parts.from 0 (omega (arith, made.some, made.within, cur_is)) one_long
          c.parts.invariant.written (counts_no_places c.args.way.now.set.now c.args.way.now.bits
          two one cur c.parts.from _ _ c.in_err-put_contexts.ensures.kept));
    }
