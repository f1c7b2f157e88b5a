-- The transform of 16 places from `at` on.
use Rattle.std.proofs.Common.{ℕ, ◌≤◌, ◌+◌, List, length, slice_index, arith}
use Rattle.ffv1_rct.proofs.Vectors.{loaded, mapped, splat, zipped}
use Rattle.ffv1_rct.proofs.Rounded.{plus, minus, right, coded_rounded}
use Rattle.ffv1_rct.proofs.LinesMore.{coded_block}
use Rattle.ffv1_rct.proofs.forward.forward_block.Goals as goal

pub returns : goal.returns
returns c =
    let at = c.args.at in
    let q = c.requires in
    let byte = λ (xs : List ℕ) (room : at + 16 ≤ length xs). mapped at 16 (λ x. x) _ _
    (loaded at 16 xs room) in
    let red = byte c.args.line.now.r.now q.at in
    let green = byte c.args.line.now.g.now (omega (arith, q.at, q.g)) in
    let blue = byte c.args.line.now.b.now (omega (arith, q.at, q.b)) in
    let raised = zipped at 16 minus _ _ _ _ (splat at 16 256) green in
    coded_block 8 c.args.line.now.r.now c.args.line.now.g.now c.args.line.now.b.now c.args.y.now
    c.args.cb.now c.args.cr.now at 16 _ _ _ _ _ _
    (omega (arith, q.at, q.y)) (omega (arith, q.at, q.cb)) (omega (arith, q.at, q.cr))
    q.done
    (zipped at 16 right _ _ _ _ (zipped at 16 plus _ _ _ _
    (zipped at 16 plus _ _ _ _ red (zipped at 16 plus _ _ _ _ green green)) blue)
    (splat at 16 2))
    (zipped at 16 plus _ _ _ _ blue raised)
    (zipped at 16 plus _ _ _ _ red raised)
    (λ k. coded_rounded (slice_index c.args.line.now.r.now k) (slice_index c.args.line.now.g.now k)
    (slice_index c.args.line.now.b.now k) (c.are_bytes.ensures k) (c.are_bytes-2.ensures k)
    (c.are_bytes-3.ensures k))
