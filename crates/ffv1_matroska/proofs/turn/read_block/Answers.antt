-- A block of so many bytes before a place, up to its frame.
use Rattle.std.proofs.Common.{◌≡◌, ◌-◌, ℕ, List, Ok, length, take, refl}
use Rattle.ffv1_reads.proofs.Answered.{answers_next, answers_of, answers_same, answers_tail}
use Rattle.ffv1_matroska.specs.Turns.{block_named, block_turn, numbered_turn}
use Rattle.ffv1_matroska.proofs.turn.read_block.Goals as goal

pub returns : goal.returns
unfolding block_turn
returns g c =
    let r = c.in_ok-fault.ensures in
    let number = take c.in-Ok.number.len c.in-Ok.number.bytes in
    let long : length number ≡ c.in-Ok.number.len = rw c.in-Ok.is at r.len in
    let same : (text : List ℕ) → block_named c.args.track c.args.size c.args.place (Ok number) text
    ≡ numbered_turn c.args.track c.data_of.result (c.args.size - c.in-Ok.number.len)
    c.summed_at-after.result text = λ text. rw
    (c.data_of.ensures.value, c.summed_at-after.ensures, c.after.ensures, long) refl in
    answers_of _ (block_turn c.args.track c.args.size c.args.place) _ _
    (answers_next _ (rw c.in-Ok.is at r.answer) (answers_same same
    (answers_tail _ _ _ _ c.read_numbered.ensures)))
