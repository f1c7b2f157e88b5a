-- The code of a plane codes its residuals, from fresh states, and is a start of a decoder: so each
-- row is read back as it was.
use Rattle.ffv1_pack.proofs.PlaneBack.{plane_coded, plane_starts}
use Rattle.ffv1_pack.proofs.laws.plane_code_is_read_back.Goals as goal

pub returns-clause-coded : goal.returns-clause-coded
returns-clause-coded c = λ t set w h samples table bound some are. plane_coded t set w h samples
    table bound some are

pub returns-clause-start : goal.returns-clause-start
returns-clause-start c = λ t set w h samples table bound some are. plane_starts t set w h samples
    table bound some are
