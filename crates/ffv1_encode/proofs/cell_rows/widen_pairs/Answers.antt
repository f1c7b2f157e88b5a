-- Samples of more than 8 bits, each of two bytes, the low byte first.
use Rattle.std.proofs.Common.{◌≡◌, suc, ◌+◌, ◌*◌, ◌<◌, length, get_or, slice_set, subst, take}
use Rattle.std.proofs.Common.{arith}
use Rattle.ffv1_samples.specs.Samples.{numbers_of_pairs}
use Rattle.ffv1_frame.proofs.lemmas.picture.Words.{more_pairs, all_pairs}
use Rattle.ffv1_encode.proofs.cell_rows.widen_pairs.Goals as goal

pub write-requires-clause-few : goal.write-requires-clause-few
write-requires-clause-few g c = let room = g.met.W.LineWord.room in omega (arith, room)

pub loop-x-preserved : goal.loop-x-preserved
loop-x-preserved g c =
    let x = c.loop-x.x in
    let row = g.W.Word.samples c.loop-x.row in
    let row_is = g.met.W.Word.lengths c.loop-x.row in
    let samples = c.args.samples.now in
    let value = c.from.result + 256 * c.from-in-loop-x.result in
    let next : suc x ≡ x + 1 = omega arith in
    let long : length samples ≡ 2 * length row =
    omega (arith, row_is, c.requires, c.loop-x.auto.row) in
    let inside : x < length row = omega (arith, row_is, c.loop-x.auto.row) in
    let is : value ≡ get_or samples (2 * x) 0 + 256 * get_or samples (2 * x + 1) 0 =
    omega (arith, c.from.ensures, c.from-in-loop-x.ensures) in
    rw c.write.ensures (subst (λ n. take n (slice_set row x value) ≡ take n
    (numbers_of_pairs samples)) next (more_pairs row samples x value long inside is
    c.loop-x.invariant))

pub returns : goal.returns
returns g c =
    let row_is = g.met.W.Word.lengths c.loop-x.row in
    all_pairs (g.W.Word.samples c.loop-x.row) c.args.samples.now c.loop-x.x
    (omega (arith, row_is, c.requires, c.loop-x.auto.row))
    (omega (arith, row_is, c.loop-x.auto.row)) c.loop-x.invariant
