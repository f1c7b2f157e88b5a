-- The sample that comes next, at place `i` of a block, which adds its symbol to `nonzeros`.
use Rattle.std.proofs.Common.{refl, sym, ◌∙◌, rules, arith}
use Rattle.std.proofs.lemmas.Int.{to_z-of_z}
use Rattle.std.specs.Int.{w32}
use Rattle.std.proofs.lemmas.Grind.{elements}
use mir.Val.{SFits}
use Rattle.ffv1_line.proofs.lemmas.cell.Narrow.{unsigned_below}
use Rattle.ffv1_line.proofs.lemmas.decode.Prepared.{sampled_by_zero, sampled_by_sign, refused_by}
use Rattle.ffv1_line.specs.Internal.Places.{coding_of, around_place}
use Rattle.ffv1_line.proofs.decode.sample.decode_sample.Goals as goal

pub returns-in-Ok-None-clause-ok : goal.returns-in-Ok-None-clause-ok
returns-in-Ok-None-clause-ok g c = λ tr tt prepared.
    let a = around_place c.args.places.now c.args.i c.args.behind tr tt in
    let prediction : SFits w32 c.predict_late-prediction.result = search rules in
    sampled_by_zero (coding_of c.args.places.now) _ _ a c.sample_of_bits.result
    c.late_context-context.result.0 c.late_context-context.result.1
    c.predict_late-prediction.result
    (c.late_context-context.ensures.size _ tr tt prepared.early)
    (c.late_context-context.ensures.flip _ tr tt prepared.early)
    (c.predict_late-prediction.ensures a refl refl prepared.least_is prepared.most_is ∙
    sym (unsigned_below c.args.places.now.bits c.requires.places.bits a))
    (simp to_z-of_z at c.sample_of_bits.ensures.value)
    (rw c.in-Ok-None.field-0-is at (c.in-Ok-None.ensures.follows c.args.i c.requires.few))

pub returns-in-Ok-Some-clause-ok : goal.returns-in-Ok-Some-clause-ok
returns-in-Ok-Some-clause-ok g c = λ tr tt prepared.
    let a = around_place c.args.places.now c.args.i c.args.behind tr tt in
    let prediction : SFits w32 c.predict_late-prediction.result = search rules in
    sampled_by_sign (coding_of c.args.places.now) _ _ a c.sample_by_sign.result
    c.late_context-context.result.0 c.late_context-context.result.1
    c.predict_late-prediction.result c.in-Ok-Some.field-0-0.size c.in-Ok-Some.field-0-0.negative
    (c.late_context-context.ensures.size _ tr tt prepared.early)
    (c.late_context-context.ensures.flip _ tr tt prepared.early)
    (c.predict_late-prediction.ensures a refl refl prepared.least_is prepared.most_is ∙
    sym (unsigned_below c.args.places.now.bits c.requires.places.bits a))
    (rw c.in-Ok-Some.field-0-is at c.in-Ok-Some.ensures.size)
    (simp to_z-of_z at c.sample_by_sign.ensures.value)
    (rw c.in-Ok-Some.field-0-is at (c.in-Ok-Some.ensures.follows c.args.i c.requires.few))

pub returns-in-Err-clause-refused : goal.returns-in-Err-clause-refused
returns-in-Err-clause-refused g c = λ tr tt prepared.
    let a = around_place c.args.places.now c.args.i c.args.behind tr tt in
    refused_by c.args.places.now.table.now c.args.places.now.set.now _ _ _ _ a
    c.late_context-context.result.0 (c.late_context-context.ensures.size _ tr tt prepared.early)
    (c.in-Err.ensures.refused c.args.i c.requires.few)

pub late_context-context-requires-clause-early : goal.late_context-context-requires-clause-early
late_context-context-requires-clause-early g c = grind (arith, elements)
