-- Samples of 8 bits as they are coded.
use Rattle.std.proofs.Common.{◌≡◌, suc, ◌+◌, ◌<◌, length, slice_set, subst, take, arith}
use Rattle.ffv1_frame.proofs.lemmas.picture.Words.{more_same, all_same}
use Rattle.ffv1_encode.proofs.cell_rows.widen.Goals as goal

pub write-requires-clause-few : goal.write-requires-clause-few
write-requires-clause-few g c = let room = g.met.W.LineWord.room in omega (arith, room)

pub loop-x-preserved : goal.loop-x-preserved
loop-x-preserved g c =
    let x = c.loop-x.x in
    let row = g.W.Word.samples c.loop-x.row in
    let row_is = g.met.W.Word.lengths c.loop-x.row in
    let samples = c.args.samples.now in
    let value = c.from.result in
    let next : suc x ≡ x + 1 = omega arith in
    let long : length samples ≡ length row = omega (arith, row_is, c.requires, c.loop-x.auto.row) in
    let inside : x < length row = omega (arith, row_is, c.loop-x.auto.row) in
    rw c.write.ensures (subst (λ n. take n (slice_set row x value) ≡ take n samples) next
    (more_same row samples x value long inside c.from.ensures c.loop-x.invariant))

pub returns : goal.returns
returns g c =
    let row_is = g.met.W.Word.lengths c.loop-x.row in
    all_same (g.W.Word.samples c.loop-x.row) c.args.samples.now c.loop-x.x
    (omega (arith, row_is, c.requires, c.loop-x.auto.row))
    (omega (arith, row_is, c.loop-x.auto.row)) c.loop-x.invariant
