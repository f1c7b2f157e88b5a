-- A row of a cell, sample by sample, by a decoder of its own.
use Rattle.std.proofs.Common.{ℕ, ◌≡◌, ◌+◌, ◌-◌, ◌∙◌, ap, subst, min, length, slice_index, arith}
use Rattle.ffv1_line.proofs.lemmas.cell.Rows.{stands_first, stands_next, lined_none, lined_next, lined_refused}
use Rattle.ffv1_line.proofs.lemmas.cell.Rows.{same_from_start, same_from_next}
use Rattle.ffv1_range.specs.Follows.{Follows}
use Rattle.ffv1_line.specs.Row.{refused_steps}
use Rattle.ffv1_line.specs.Above.{rows_above}
use Rattle.ffv1_line.proofs.decode.plain.decode_words.Goals as goal

pub loop-x-init : goal.loop-x-init
loop-x-init g c =
    let two = g.W.Word.samples c.args.two.now in
    let one = g.W.Word.samples c.args.one.now in
    let two_is = g.met.W.Word.lengths c.args.two.now in
    let one_is = g.met.W.Word.lengths c.args.one.now in
    record {
      held = c.requires.held;
      rows = c.requires.rows;
      top = λ inside. c.read-l.ensures;
      stands = rw (c.read-l.ensures, c.read-tl.ensures)
          (stands_first (rows_above two one) _
          (omega (arith, one_is, c.requires.one_long, c.requires.some))
          (omega (arith, one_is, two_is, c.requires.one_long, c.requires.two_long)));
      behind = same_from_start _;
      lined = lined_none _ _ _ _;
    }

pub returns-in-Err-clause-refused : goal.returns-in-Err-clause-refused
returns-in-Err-clause-refused g c =
    let two = g.W.Word.samples c.args.two.now in
    let one = g.W.Word.samples c.args.one.now in
    let one_is = g.met.W.Word.lengths c.args.one.now in
    let cur_is = g.met.W.Word.lengths c.loop-x.cur in
    let k : ℕ = min (c.loop-x.x + 1) (length c.args.cur.now - 1) in
    let right : k ≡ min (c.loop-x.x + 1) (length one - 1) =
    omega (arith, one_is, c.requires.one_long) in
    let is : c.word_right_above-tr.result ≡ slice_index one k = c.word_right_above-tr.ensures in
    let above : c.read.result ≡ slice_index two c.loop-x.x = c.read.ensures in
    let follows : ℕ → ℕ → Type 0 = λ tr tt. Follows c.args.way.now.table.now c.loop-x.decoder
    c.loop-x.states c.decode_word.new.decoder c.decode_word.new.states
    (refused_steps c.args.way.now.set.now (record {
      l = c.loop-x.l;
      t = c.loop-x.t;
      tl =
          c.loop-x.tl;
      tr = tr;
      ll = c.loop-x.ll;
      tt = tt;
    })) in
    let first : follows (slice_index one k) c.read.result = subst (λ tr. follows tr c.read.result)
    is c.in-Err.ensures.refused in
    let both : follows (slice_index one k) (slice_index two c.loop-x.x) =
    subst (follows (slice_index one k)) above first in
    lined_refused _ _ _ _ _ _ c.loop-x.x k _ _ _ _ right (omega (arith, cur_is))
    (omega (arith, one_is, cur_is, c.requires.one_long)) c.loop-x.invariant.stands
    c.loop-x.invariant.lined both

pub loop-x-preserved : goal.loop-x-preserved
loop-x-preserved g c =
    let two = g.W.Word.samples c.args.two.now in
    let one = g.W.Word.samples c.args.one.now in
    let one_is = g.met.W.Word.lengths c.args.one.now in
    let cur_is = g.met.W.Word.lengths c.loop-x.cur in
    let k : ℕ = min (c.loop-x.x + 1) (length c.args.cur.now - 1) in
    let right : k ≡ min (c.loop-x.x + 1) (length one - 1) =
    omega (arith, one_is, c.requires.one_long) in
    let is : c.word_right_above-tr.result ≡ slice_index one k = c.word_right_above-tr.ensures in
    let above : c.read.result ≡ slice_index two c.loop-x.x = c.read.ensures in
    record {
      top = λ inside. let next : k ≡ c.loop-x.x + 1 = omega (arith, inside, c.requires.one_long) in
          is ∙ ap (λ n. slice_index one n) next;
      held = c.in-Ok.ensures.held;
      rows = omega arith;
      stands = rw (is, c.write.ensures) (stands_next (rows_above two one) _ _ k _ _ _ _ _ right
          (omega (arith, cur_is)) (omega (arith, one_is, cur_is, c.requires.one_long))
          c.loop-x.invariant.stands);
      behind = rw c.write.ensures (same_from_next _ _ _ _ c.loop-x.invariant.behind);
      lined = rw c.write.ensures (lined_next _ _ _ _ _ _ c.loop-x.x k _ _ _ _ _ right
          (omega (arith, cur_is)) (omega (arith, one_is, cur_is, c.requires.one_long))
          c.loop-x.invariant.stands c.loop-x.invariant.lined
          (rw (is, above) at c.in-Ok.ensures.ok));
    }
