-- The contexts and the residuals of places `start` to before `end` of a part, after those before
-- them.
use Rattle.std.proofs.Common.{arith, rules, ◌+◌, ◌-◌, ◌<◌, ◌∙◌, ap, sym, length, get_or}
use Rattle.std.proofs.Common.{Bool, ℤ}
use Rattle.std.proofs.lemmas.Int.{to_z-of_z}
use Rattle.std.specs.Int.{w32}
use mir.Val.{SFits}
use Rattle.ffv1_plane.specs.declared.prediction.Around.{Around}
use Rattle.ffv1_plane.specs.Prediction.{predicted_in}
use Rattle.ffv1_plane.specs.Context.{size_of, flip_of}
use Rattle.ffv1_plane.specs.Residual.{chosen_of}
use Rattle.ffv1_line.proofs.lemmas.cell.Narrow.{unsigned_below}
use Rattle.ffv1_line.proofs.lemmas.encode.BlockLanes.{kept_back, kept_small}
use Rattle.ffv1_line.proofs.lemmas.cell.Rows.{scalars}
use Rattle.ffv1_line.proofs.lemmas.cell.Beside.{beside_by, folded_by, before_next, two_before_next, block_next}
use Rattle.ffv1_line.proofs.encode.block.prepare_places.Goals as goal

pub kept-requires-clause-folded : goal.kept-requires-clause-folded
kept-requires-clause-folded g c =
    let fits : SFits w32 c.chosen_residual-residual.result = search rules in
    let some : 0 < c.args.part.now.bits = omega (arith, c.requires.part.bits.least) in
    let fits_prediction : SFits w32 c.predict.result = search rules in
    let value = simp to_z-of_z at c.chosen_residual-residual.ensures in
    simp to_z-of_z (folded_by c.args.part.now.bits c.predict.result c.context_by-size.result.1
    (get_or c.args.part.now.cur.now (c.args.part.now.from + c.loop-k.k) 0)
    c.chosen_residual-residual.result some value)

pub loop-k-preserved : goal.loop-k-preserved
loop-k-preserved g c =
    let x = c.args.part.now.from + c.loop-k.k in
    let set = c.args.part.now.set.now in
    let two = c.args.part.now.two.now in
    let one = c.args.part.now.one.now in
    let cur = c.args.part.now.cur.now in
    let sample = get_or cur x 0 in
    let at : Around = scalars c.loop-k.l (get_or one x 0) c.loop-k.tl c.right_above.result
    c.loop-k.ll (get_or two x 0) in
    let fits : SFits w32 c.chosen_residual-residual.result = search rules in
    let fits_prediction : SFits w32 c.predict.result = search rules in
    let kept = simp to_z-of_z at c.kept.ensures in
    let value = simp to_z-of_z at c.chosen_residual-residual.ensures in
    let bits = c.requires.part.bits in
    let folded = folded_by c.args.part.now.bits c.predict.result c.context_by-size.result.1 sample
    c.chosen_residual-residual.result (omega (arith, bits.least)) value in
    let is = beside_by two one cur x (length cur - 1) c.loop-k.ll c.loop-k.l c.loop-k.tl
    c.right_above.result (omega arith) c.loop-k.invariant.two_left c.loop-k.invariant.left
    c.loop-k.invariant.top_left c.right_above.ensures in
    let chosen = value ∙ ap (λ (p : ℤ). chosen_of c.args.part.now.bits p
    c.context_by-size.result.1 sample) (c.predict.ensures ∙
    sym (unsigned_below c.args.part.now.bits bits at))
    ∙ ap (λ (f : Bool). chosen_of c.args.part.now.bits (predicted_in c.args.part.now.bits at) f
    sample) c.context_by-size.ensures.flip
    ∙ ap (λ (a : Around). chosen_of c.args.part.now.bits (predicted_in c.args.part.now.bits a)
    (flip_of set a) sample) is in
    record {
      two_left = two_before_next one cur c.args.part.now.from c.loop-k.k c.loop-k.l
          c.loop-k.invariant.left;
      left = before_next one cur c.args.part.now.from c.loop-k.k;
      top_left = before_next two one c.args.part.now.from c.loop-k.k;
      block = block_next _ c.loop-k.k _ _ _ _ c.loop-k.invariant.block (omega arith) (omega arith)
          (c.context_by-size.ensures.size ∙ ap (size_of set) is) c.context_by-size.ensures.below
          (rw kept (kept_back c.args.part.now.bits c.chosen_residual-residual.result bits folded ∙ chosen))
          (rw kept (kept_small c.args.part.now.bits c.chosen_residual-residual.result bits folded));
    }
