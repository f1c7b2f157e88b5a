-- Passes so many bytes of elements, and answers the scale that they say.
use Rattle.std.proofs.Common.{◌≡◌, ◌≤◌, ◌-◌, ◌++◌, [], ℕ, List, length, take, drop, min, nat_le, replicate, arith}
use Rattle.std.proofs.lemmas.Grind.{common_steps}
use Rattle.std.proofs.lemmas.List.{length-replicate, length-take-le}
use Rattle.ffv1_reads.specs.Reads.{Looked}
use Rattle.ffv1_reads.proofs.Answered.{answers_err, answers_first, answers_last, answers_next}
use Rattle.ffv1_reads.proofs.Answered.{answers_ok, answers_same, answers_whole}
use Rattle.ffv1_reads.proofs.Results.{cut_front}
use Rattle.ffv1_reads.proofs.WantedBytes.{wanted_sound}
use Rattle.ffv1_ebml.specs.Contents.{found}
use Rattle.ffv1_ebml.specs.Sums.{passed_summed}
use Rattle.ffv1_matroska.specs.Scales.{scale_told}
use Rattle.ffv1_matroska.specs.WrittenIdents.{timestamp_scale}
use Rattle.ffv1_matroska.proofs.ScaleReadings.{known_front, summed_pieces, summed_taken}
use Rattle.ffv1_matroska.proofs.info.pass_scale.Goals as goal

abbrev zeros : List ℕ
zeros = replicate 4096 0

long : (n left : ℕ) → n ≡ min left 4096 → length (take n zeros) ≡ n
long n left is = length-take-le n zeros (let all = length-replicate {A = ℕ} 4096 0 in let few : n ≤ 4096 = grind (arith, common_steps, is) in omega (arith, all, few))

fits : (n left : ℕ) → n ≡ min left 4096 → n ≤ left
fits n left is = grind (arith, common_steps, is)

pub returns-in_err-take_summed-clause-answer : goal.returns-in_err-take_summed-clause-answer
returns-in_err-take_summed-clause-answer g c =
    let n = c.min-few.result in
    answers_err _ (passed_summed c.args.left c.args.sum.now) _ _ c.from_residual.ensures.1
    (answers_same (λ text. summed_pieces n c.args.left (fits n _ c.min-few.ensures) text
    c.args.sum.now) (answers_first _ _
    (rw (long n _ c.min-few.ensures) at c.in_err-take_summed.ensures.answer)))

pub returns-in_err-pass_summed-clause-answer : goal.returns-in_err-pass_summed-clause-answer
returns-in_err-pass_summed-clause-answer g c =
    let n = c.min-few.result in
    answers_err _ (passed_summed c.args.left c.args.sum.now) _ _
    c.from_residual-in_err-pass_summed.ensures.1
    (answers_same (λ text. summed_pieces n c.args.left (fits n _ c.min-few.ensures) text
    c.args.sum.now) (answers_next _
    (rw (long n _ c.min-few.ensures) at c.in_ok-take_summed.ensures.answer)
    (answers_last _ c.in_err-pass_summed.ensures.answer)))

pub returns-clause-answer : goal.returns-clause-answer
returns-clause-answer g c =
    let n = c.min-few.result in
    answers_ok (answers_same (λ text. summed_pieces n c.args.left (fits n _ c.min-few.ensures) text
    c.args.sum.now) (answers_next _
    (rw (long n _ c.min-few.ensures) at c.in_ok-take_summed.ensures.answer)
    (answers_whole c.in_ok-pass_summed.ensures.answer)))

pub returns-clause-scale : goal.returns-clause-scale
returns-clause-scale g c =
    let n = c.min-few.result in
    let left = c.args.left in
    let buf = c.take_summed.new.buf in
    let read = rw (long n _ c.min-few.ensures) at c.in_ok-take_summed.ensures.answer in
    let taken = summed_taken n c.args.sum.now _ _ (buf, c.take_summed.new.sum) read.1 in
    let few : length buf ≡ n = (wanted_sound Looked n (taken.bytes ++ []) (buf, [])
    (taken.is [])).1 in
    let all : take n (buf ++ drop n zeros) ≡ buf = cut_front n buf (drop n zeros) few in
    rw (c.scale_told.ensures, all, ← c.min-few.ensures) (known_front n
    (passed_summed (left - n) c.take_summed.new.sum) c.pass_summed.new.sum _ _ _ buf
    (λ z. scale_told (nat_le left 4096) (found timestamp_scale z)) taken
    c.in_ok-pass_summed.ensures.answer.1)
