-- The next integer of at most `most` bytes, in a parent that has `left` bytes left.
use Rattle.std.proofs.Common.{◌≡◌, ◌++◌, [], length, arith}
use Rattle.ffv1_reads.specs.Reads.{Looked}
use Rattle.ffv1_reads.proofs.WantedBytes.{wanted_sound}
use Rattle.ffv1_ebml.proofs.TriedReadings.{tried_whole}
use Rattle.ffv1_ebml.proofs.VintReadings.{one_byte}
use Rattle.ffv1_reads.proofs.Answered.{answers_next, answers_of, answers_same, answers_tail}
use Rattle.ffv1_ebml.proofs.tried.try_vint.Goals as goal

pub returns-clause-answer : goal.returns-clause-answer
returns-clause-answer g c =
    let first = c.take.new.buf in
    let one : length first ≡ 1 = (wanted_sound Looked 1 (c.in_ok-take.ensures.1.bytes ++ [])
    (first, []) (c.in_ok-take.ensures.1.is [])).1 in
    answers_of _ _ _ _ (answers_same (tried_whole c.args.most c.args.left
    (λ e. omega (arith, e, c.if-left-eq0.false))) (answers_next _ c.in_ok-take.ensures
    (answers_tail _ _ _ _ (rw (one_byte first one) c.try_vint_after.ensures.answer))))
