-- The first fault that is told is that of plain reading, at its byte.
use Rattle.ffv1_avi.proofs.FollowedFaults.{fault_told}
use Rattle.ffv1_avi.proofs.OpenedCounts.{opened_counts}
use Rattle.ffv1_avi.proofs.damage_laws.the_first_fault_is_told_at_its_byte.Goals as goal

pub returns-clause-told : goal.returns-clause-told
returns-clause-told c = λ place begun at text frames why f count counts held plain here.
    fault_told f place begun at text frames why count counts held plain here

pub returns-clause-opened : goal.returns-clause-opened
returns-clause-opened c = λ extent file rest head place read. opened_counts extent file (head, place) rest read
