-- A chunk after its header, of which a list has its own name next.
use Rattle.std.proofs.Common.{◌≡◌, ◌++◌, ℕ, List, Option, refl}
use Rattle.ffv1_reads.specs.Reads.{Reading, taken, ◌>>=◌}
use Rattle.ffv1_reads.proofs.Answered.{answers_next, answers_of, answers_same, answers_tail}
use Rattle.ffv1_avi.specs.Internal.Came.{came_turn, header_turn, own_came}
use Rattle.ffv1_avi.specs.declared.course.Turn.{Turn}
use Rattle.ffv1_avi.proofs.turn.read_behind.Goals as goal

pub returns-in_ok-own-in-Named-clause-answer : goal.returns-in_ok-own-in-Named-clause-answer
returns-in_ok-own-in-Named-clause-answer g c =
    let k : List ℕ → Reading (Option Turn) = λ own. came_turn c.args.place
    (own_came c.args.in_movi c.in-Named.enters c.in-Named.next c.in-Named.size own)
    (c.args.head ++ own) in
    let first : (text : List ℕ) → header_turn c.args.in_movi c.args.place c.args.header c.args.head text
    ≡ (taken 4 >>= k) text = λ text. rw c.in-Named.is refl in
    let last : (text : List ℕ) → k c.in_ok-own-in-Named.own text
    ≡ came_turn c.args.place c.own_came-came.result c.joined.result text = λ text. rw
    (c.own_came-came.ensures, c.joined.ensures) refl in
    answers_of _ (header_turn c.args.in_movi c.args.place c.args.header c.args.head) _ _
    (answers_same first (answers_next k c.in_ok-own-in-Named.ensures
    (answers_same last (answers_tail _ _ _ _ c.finish-in-Named.ensures.answer))))
