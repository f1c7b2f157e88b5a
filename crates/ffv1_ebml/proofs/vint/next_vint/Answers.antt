-- The next integer of at most `most` bytes, in a parent that has `left` bytes left.
use Rattle.std.proofs.Common.{◌≡◌, ◌++◌, [], length, arith}
use Rattle.ffv1_reads.specs.Reads.{Looked}
use Rattle.ffv1_reads.proofs.WantedBytes.{wanted_sound}
use Rattle.ffv1_ebml.proofs.VintReadings.{one_byte, vint_whole}
use Rattle.ffv1_reads.proofs.Answered.{answers_next, answers_of, answers_same, answers_tail}
use Rattle.ffv1_ebml.proofs.vint.next_vint.Goals as goal

pub returns-clause-answer : goal.returns-clause-answer
returns-clause-answer g c =
    let first = c.take.new.buf in
    let one : length first ≡ 1 = (wanted_sound Looked 1 (c.in_ok-take.ensures.1.bytes ++ [])
    (first, []) (c.in_ok-take.ensures.1.is [])).1 in
    answers_of _ _ _ _ (answers_same (vint_whole c.args.most c.args.left
    (λ e. omega (arith, e, c.if-left-eq0.false))) (answers_next _ c.in_ok-take.ensures
    (answers_tail _ _ _ _ (rw (one_byte first one) c.vint_rest.ensures.answer))))
