-- The integer whose first byte was read, of at most `most` bytes, in a parent that has `left`.
use Rattle.std.proofs.Common.{◌≡◌, ◌-◌, ◌++◌, ◌∷◌, [], ℕ, List, length, take, arith}
use Rattle.std.proofs.lemmas.List.{length-take-le}
use Rattle.ffv1_reads.specs.Reads.{Looked}
use Rattle.ffv1_reads.proofs.WantedBytes.{wanted_sound}
use Rattle.ffv1_ebml.proofs.VintReadings.{vint_stored}
use Rattle.ffv1_ebml.proofs.TriedReadings.{tried_others}
use Rattle.ffv1_reads.proofs.Answered.{answers_given, answers_next, answers_ok, answers_same}
use Rattle.ffv1_ebml.proofs.tried.try_vint_after.Goals as goal

abbrev seven : List ℕ
seven = 0 ∷ 0 ∷ 0 ∷ 0 ∷ 0 ∷ 0 ∷ 0 ∷ []

pub returns-clause-answer : goal.returns-clause-answer
returns-clause-answer g c =
    let first : List ℕ = c.args.first ∷ [] in
    let n = c.length_of-len.result in
    let buf = c.take.new.buf in
    let others = tried_others c.args.most c.args.left n first c.length_of-len.ensures.value
    (omega arith) (omega arith) in
    let long : length (take (n - 1) seven) ≡ n - 1 = length-take-le (n - 1) seven
    (omega (arith, c.length_of-len.ensures.most, c.if-len-most.false, c.requires)) in
    let read = rw long at c.in_ok-take.ensures in
    let few : length buf ≡ n - 1 = (wanted_sound Looked (n - 1) (read.1.bytes ++ []) (buf, [])
    (read.1.is [])).1 in
    rw (vint_stored c.args.first n buf _ c.length_of-len.ensures.least few)
    (answers_ok (answers_same others (answers_next _ read answers_given)))
