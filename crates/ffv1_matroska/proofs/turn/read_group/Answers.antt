-- The next element of a BlockGroup that has bytes left; after one that is no Block this is pending.
use Rattle.ffv1_reads.proofs.Answered.{answers_next, answers_of, answers_tail}
use Rattle.ffv1_matroska.specs.Turns.{group_turn}
use Rattle.ffv1_matroska.proofs.turn.read_group.Goals as goal

pub returns : goal.returns
unfolding group_turn
returns g c = answers_of _ (group_turn c.args.track c.args.pending c.args.place) _ _
    (answers_next _ c.in_ok-header.ensures (answers_tail _ _ _ _ c.read_member.ensures))
