-- A residual that was read has a symbol; so a sample that was read takes at most 63 decisions, a
-- symbol that is refused 32, and a sample of `bits` bits that was written `2 * bits + 1`.
use Rattle.std.proofs.Common.{◌-◌, arith}
use Rattle.ffv1_line.proofs.lemmas.laws.MostDecisions.{lined_small, refused_small, lined_most, refused_most}
use Rattle.ffv1_line.proofs.lemmas.laws.MostDecisions.{written_most}
use Rattle.ffv1_line.proofs.laws.sample_takes_at_most_63_decisions.Goals as goal

pub returns-clause-small : goal.returns-clause-small
returns-clause-small c = λ coding old new over cur n few l. lined_small coding old new over cur n
    few l

pub returns-clause-small_refused : goal.returns-clause-small_refused
returns-clause-small_refused c = λ coding old new over cur n few r. refused_small coding old new
    over cur n few r

pub returns-clause-read : goal.returns-clause-read
returns-clause-read c = λ coding old new over cur n few l. lined_most coding old new over cur n few
    l

pub returns-clause-refused : goal.returns-clause-refused
returns-clause-refused c = λ coding old new over cur n few r. refused_most coding old new over cur n
    few r

pub returns-clause-written : goal.returns-clause-written
returns-clause-written c = λ coding old new over cur n some below few w.
    written_most coding old new over cur n (coding.bits - 1) (omega (arith, some))
    (omega (arith, below)) few w
