-- Reads a TimestampScale of at most 8 bytes, and passes those that are left after it.
use Rattle.std.proofs.Common.{◌≡◌, ◌+◌, ◌++◌, ◌∷◌, [], ℕ, List, length, take, drop}
use Rattle.std.proofs.lemmas.List.{length-take-le}
use Rattle.ffv1_reads.specs.Reads.{Looked, passed}
use Rattle.ffv1_reads.proofs.Answered.{answers_err, answers_first, answers_last, answers_next}
use Rattle.ffv1_reads.proofs.Answered.{answers_ok, answers_same, answers_whole}
use Rattle.ffv1_reads.proofs.Results.{cut_front}
use Rattle.ffv1_reads.proofs.WantedBytes.{wanted_sound}
use Rattle.ffv1_ebml.specs.Contents.{number_in}
use Rattle.ffv1_matroska.specs.Scales.{scale_of}
use Rattle.ffv1_matroska.proofs.ScaleReadings.{known_front, taken_passed}
use Rattle.ffv1_matroska.proofs.info.short_scale.Goals as goal

abbrev eight : List ℕ
eight = 0 ∷ 0 ∷ 0 ∷ 0 ∷ 0 ∷ 0 ∷ 0 ∷ 0 ∷ []

pub returns-in_err-take-clause-answer : goal.returns-in_err-take-clause-answer
returns-in_err-take-clause-answer g c =
    let long : length (take c.args.size eight) ≡ c.args.size =
    length-take-le c.args.size eight c.requires in
    answers_err _ (passed (c.args.size + c.args.left)) _ _ c.from_residual.ensures.1
    (answers_same (taken_passed c.args.size c.args.left)
    (answers_first _ _ (rw long at c.in_err-take.ensures)))

pub returns-in_err-pass-clause-answer : goal.returns-in_err-pass-clause-answer
returns-in_err-pass-clause-answer g c =
    let long : length (take c.args.size eight) ≡ c.args.size =
    length-take-le c.args.size eight c.requires in
    answers_err _ (passed (c.args.size + c.args.left)) _ _
    c.from_residual-in_err-pass.ensures.1
    (answers_same (taken_passed c.args.size c.args.left)
    (answers_next _ (rw long at c.in_ok-take.ensures) (answers_last _ c.in_err-pass.ensures)))

pub returns-clause-answer : goal.returns-clause-answer
returns-clause-answer g c =
    let long : length (take c.args.size eight) ≡ c.args.size =
    length-take-le c.args.size eight c.requires in
    answers_ok (answers_same (taken_passed c.args.size c.args.left)
    (answers_next _ (rw long at c.in_ok-take.ensures) (answers_whole c.in_ok-pass.ensures)))

pub returns-clause-scale : goal.returns-clause-scale
returns-clause-scale g c =
    let long : length (take c.args.size eight) ≡ c.args.size =
    length-take-le c.args.size eight c.requires in
    let buf = c.take.new.buf in
    let read = rw long at c.in_ok-take.ensures in
    let few : length buf ≡ c.args.size = (wanted_sound Looked c.args.size (read.1.bytes ++ [])
    (buf, []) (read.1.is [])).1 in
    let all : take c.args.size (buf ++ drop c.args.size eight) ≡ buf =
    cut_front c.args.size buf (drop c.args.size eight) few in
    rw (c.scale_of.ensures, all) (known_front c.args.size (passed c.args.left) tt _ _ _ buf
    (λ z. scale_of (number_in 1000000 z)) read.1 c.in_ok-pass.ensures.1)
