-- Opens a file that may be damaged, and tells the faults before its first frame.
use Rattle.std.proofs.Common.{inl, inr, refl}
use Rattle.ffv1_wire.specs.Passage.{passage}
use Rattle.ffv1_unpack.proofs.OpenedTold.{strict_tried, untold_again, untold_lacks, untold_located, untold_own, untold_tried}
use Rattle.ffv1_unpack.proofs.opening_all.open_telling.Goals as goal

pub returns-in-Ok-open_player_told-clause-ok : goal.returns-in-Ok-open_player_told-clause-ok
returns-in-Ok-open_player_told-clause-ok g c = λ none.
    rw c.in-Wide.is (c.in-Ok-open_player_told.ensures.ok none)

pub returns-in-Ok-open_player_told-clause-told : goal.returns-in-Ok-open_player_told-clause-told
returns-in-Ok-open_player_told-clause-told g c = λ some.
    rw c.in-Wide.is (c.in-Ok-open_player_told.ensures.told some)

pub returns-in-Ok-open_player_told-clause-plainly : goal.returns-in-Ok-open_player_told-clause-plainly
returns-in-Ok-open_player_told-clause-plainly g c = λ some.
    rw c.in-Wide.is (c.in-Ok-open_player_told.ensures.plainly some)

pub returns-in-Err-open_player_told-clause-plainly : goal.returns-in-Err-open_player_told-clause-plainly
returns-in-Err-open_player_told-clause-plainly g c = λ some.
    rw c.in-Wide.is (c.in-Err-open_player_told.ensures.plainly some)
