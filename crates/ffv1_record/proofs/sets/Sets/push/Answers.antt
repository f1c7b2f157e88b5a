-- One set more, as the last.
use Rattle.ffv1_record.proofs.SetLists.{sets_more}
use Rattle.ffv1_record.proofs.sets.Sets.push.Goals as goal

pub invariant_of-self-2 : goal.invariant_of-self-2
invariant_of-self-2 g c = rw c.in_ok-push.ensures.items
    (sets_more _ _ c.self.invariant c.is_a_bounded_set.ensures.set)
