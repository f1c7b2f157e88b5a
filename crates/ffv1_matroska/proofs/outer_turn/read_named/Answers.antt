-- An element of the Segment whose ID was read, so many bytes after a place.
use Rattle.std.proofs.Common.{◌≡◌, ◌+◌, ℕ, List, Ok, length, take, refl}
use Rattle.ffv1_reads.proofs.Answered.{answers_next, answers_of, answers_same, answers_tail}
use Rattle.ffv1_matroska.specs.Turns.{named_sized, named_turn, sized_turn}
use Rattle.ffv1_matroska.proofs.outer_turn.read_named.Goals as goal

pub returns-in-Ok : goal.returns-in-Ok
unfolding named_turn
returns-in-Ok g c =
    let r = c.in_ok-fault.ensures in
    let size = take c.in-Ok.size.len c.in-Ok.size.bytes in
    let long : length size ≡ c.in-Ok.size.len = rw c.in-Ok.is at r.len in
    let same : (text : List ℕ) → named_sized c.args.track c.args.ident c.args.count c.args.place
    (Ok size) text ≡ sized_turn c.args.track c.args.ident (c.args.count + c.in-Ok.size.len)
    c.args.place c.size_of-said.result text = λ text. rw (long, c.size_of-said.ensures) refl in
    answers_of _ (named_turn c.args.track c.args.ident c.args.count c.args.place) _ _
    (answers_next _ (rw c.in-Ok.is at r.answer) (answers_same same
    (answers_tail _ _ _ _ c.judge_outer.ensures)))
