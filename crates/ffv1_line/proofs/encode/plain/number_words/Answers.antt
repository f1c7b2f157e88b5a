-- The contexts and the residuals of places of a row from `from` on: of all that are left, or of
-- 64.
use Rattle.std.proofs.Common.{◌∙◌, ◌+◌, ◌-◌, length, get_or, ap, arith, rules}
use Rattle.std.proofs.lemmas.Int.{to_z-of_z}
use Rattle.std.proofs.lemmas.List.{length-set}
use Rattle.std.specs.Int.{w32}
use mir.Val.{SFits}
use Rattle.ffv1_plane.specs.declared.prediction.Around.{Around}
use Rattle.ffv1_plane.specs.Prediction.{predicted_in}
use Rattle.ffv1_plane.specs.Context.{size_of, flip_of}
use Rattle.ffv1_plane.specs.Residual.{chosen_of}
use Rattle.ffv1_line.proofs.lemmas.cell.Rows.{scalars}
use Rattle.ffv1_line.proofs.lemmas.cell.Beside.{beside_by, before_next, two_before_next, numbered_next}
use Rattle.ffv1_line.proofs.lemmas.cell.Beside.{contexts_next}
use Rattle.ffv1_line.proofs.encode.plain.number_words.Goals as goal

pub loop-k-preserved : goal.loop-k-preserved
loop-k-preserved g c =
    let k = c.loop-k.k in
    let from = c.args.from in
    let x = from + k in
    let set = c.args.way.now.set.now in
    let bits = c.args.way.now.bits in
    let two = g.W.Word.samples c.args.two.now in
    let one = g.W.Word.samples c.args.one.now in
    let cur = g.W.Word.samples c.args.cur.now in
    let one_is = g.met.W.Word.lengths c.args.one.now in
    let fits : SFits w32 c.chosen_word-context.result.1 = search rules in
    let at : Around = scalars c.loop-k.l (get_or one x 0) c.loop-k.tl c.word_right_above.result
    c.loop-k.ll (get_or two x 0) in
    let is = beside_by two one cur x (length c.args.cur.now - 1) c.loop-k.ll c.loop-k.l c.loop-k.tl
    c.word_right_above.result (omega (arith, one_is, c.requires.one_long))
    c.loop-k.invariant.two_left c.loop-k.invariant.left
    c.loop-k.invariant.top_left c.word_right_above.ensures in
    let size = rw (c.read-t.ensures, c.read.ensures) at c.chosen_word-context.ensures.context in
    let chosen = rw (c.read-t.ensures, c.read.ensures, c.read-sample.ensures) at
    c.chosen_word-context.ensures.residual in
    record {
      room = length-set c.loop-k.block.contexts k c.chosen_word-context.result.0
          ∙ c.loop-k.invariant.room;
      two_left = two_before_next one cur from k c.loop-k.l c.loop-k.invariant.left;
      left = c.read-sample.ensures ∙ before_next one cur from k;
      top_left = c.read-t.ensures ∙ before_next two one from k;
      contexts = contexts_next set two one cur from c.loop-k.block.contexts k
          c.chosen_word-context.result.0 c.loop-k.invariant.contexts (omega arith)
          (size ∙ ap (size_of set) is) c.chosen_word-context.ensures.below;
      numbers = simp to_z-of_z (numbered_next set bits two one cur from c.loop-k.block.numbers k
          c.chosen_word-context.result.1 c.loop-k.invariant.numbers (omega arith)
          (chosen ∙ ap (λ (a : Around). chosen_of bits (predicted_in bits a) (flip_of set a)
          (get_or cur x 0)) is) c.chosen_word-context.ensures.size);
    }

pub returns-clause-room : goal.returns-clause-room
returns-clause-room g c = omega (arith, c.min-count.ensures, c.loop-k.invariant.room)
