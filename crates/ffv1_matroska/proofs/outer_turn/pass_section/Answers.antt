-- The content of an element of the Segment, of so many bytes, before a place.
use Rattle.std.proofs.Common.{◌≡◌, arith}
use Rattle.ffv1_reads.proofs.Answered.{answers_differ, answers_next, answers_of, answers_tail}
use Rattle.ffv1_matroska.specs.Turns.{section_turn}
use Rattle.ffv1_matroska.proofs.outer_turn.pass_section.Goals as goal

pub returns : goal.returns
unfolding section_turn
returns g c =
    let some : c.args.size ≡ 0 → ⊥ = λ z. omega (arith, z, c.if-size-eq0.false) in
    answers_of _ (section_turn c.args.size c.args.place) _ _ (answers_differ _ some
    (answers_next _ c.in_ok-header.ensures (answers_tail _ _ _ _ c.pass_headed.ensures)))
