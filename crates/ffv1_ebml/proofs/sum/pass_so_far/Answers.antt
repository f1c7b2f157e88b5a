-- Passes so many bytes, and goes on with a sum.
use Rattle.std.proofs.Common.{◌≡◌, ◌≤◌, ◌-◌, ◌++◌, [], length, take, drop, fold, arith}
use Rattle.std.proofs.lemmas.Grind.{common_steps}
use Rattle.std.proofs.lemmas.Result.{err_from_is_err_and}
use Rattle.ffv1_reads.proofs.Results.{cut_front}
use Rattle.ffv1_reads.specs.Reads.{Looked, taken}
use Rattle.ffv1_reads.proofs.WantedBytes.{wanted_sound}
use Rattle.ffv1_reads.proofs.Reading.{goes_read, goes_refused, goes_same}
use Rattle.ffv1_sum.specs.Sum.{byte_step}
use Rattle.ffv1_ebml.specs.Sums.{passed_so_far}
use Rattle.ffv1_ebml.proofs.SumReadings.{passed_piece, piece_then}
use Rattle.ffv1_ebml.proofs.sum.pass_so_far.Goals as goal

pub returns-in_err-take : goal.returns-in_err-take
returns-in_err-take g c =
    let p = err_from_is_err_and c.from_residual.result c.from_residual.ensures.1 in
    let n = c.min-len.result in
    let left = c.loop-left.left in
    let sum = c.loop-left.sum in
    let fits : n ≤ left = grind (arith, common_steps, c.min-len.ensures) in
    let long : length (take n c.loop-left.room) ≡ n = grind
    (arith, common_steps, c.min-len.ensures) in
    let start = goes_same _ (piece_then n left sum) (passed_piece n left sum fits)
    c.loop-left.invariant in
    rw (p.1, p.2) (goes_refused (taken n) (λ bytes. passed_so_far (left - n)
    (fold byte_step sum bytes)) _ _ c.in_err-take.field-0.0 start
    (rw long at c.in_err-take.ensures))

pub loop-left-preserved : goal.loop-left-preserved
loop-left-preserved g c =
    let n = c.min-len.result in
    let left = c.loop-left.left in
    let sum = c.loop-left.sum in
    let buf = c.take.new.buf in
    let fits : n ≤ left = grind (arith, common_steps, c.min-len.ensures) in
    let long : length (take n c.loop-left.room) ≡ n = grind
    (arith, common_steps, c.min-len.ensures) in
    let start = goes_same _ (piece_then n left sum) (passed_piece n left sum fits)
    c.loop-left.invariant in
    let read = rw long at c.in_ok-take.ensures in
    let few : length buf ≡ n = (wanted_sound Looked n (read.1.bytes ++ []) (buf, [])
    (read.1.is [])).1 in
    let next = goes_read (taken n) (λ bytes. passed_so_far (left - n) (fold byte_step sum bytes)) _
    _ buf start read in
    let all : take n (buf ++ drop n c.loop-left.room) ≡ buf = cut_front n buf
    (drop n c.loop-left.room) few in
    rw (c.more-sum.ensures, all) next
