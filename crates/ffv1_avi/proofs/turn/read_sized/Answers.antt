-- The next chunk of movi, or of RIFF, that has so many bytes left.
use Rattle.std.proofs.Common.{◌≡◌, ◌≤◌, ℕ, List, refl, arith}
use Rattle.ffv1_reads.proofs.Answered.{answers_most, answers_next, answers_of, answers_same, answers_tail}
use Rattle.ffv1_avi.specs.Internal.Came.{header_turn}
use Rattle.ffv1_avi.specs.Internal.Hears.{header_of, sized_turn}
use Rattle.ffv1_avi.proofs.turn.read_sized.Goals as goal

pub returns-clause-answer : goal.returns-clause-answer
unfolding sized_turn
returns-clause-answer g c =
    let head = c.take.new.buf in
    let least : 8 ≤ c.args.left = omega (arith, c.if-left-lt8.false) in
    let same : (text : List ℕ) → header_turn c.args.in_movi c.args.place
    (header_of c.args.in_movi c.args.place c.args.left head) head text ≡ header_turn c.args.in_movi
    c.args.place c.header_of-header.result head text = λ text. rw c.header_of-header.ensures refl in
    answers_of _ (sized_turn c.args.in_movi c.args.place c.args.left) _ _
    (answers_most _ least (answers_next _ c.in_ok-take.ensures
    (answers_same same (answers_tail _ _ _ _ c.read_behind.ensures.answer))))
