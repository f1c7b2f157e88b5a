-- Samples that were read have `bits` bits.
use Rattle.ffv1_line.proofs.lemmas.laws.SamplesBelow.{lined_below, refused_below}
use Rattle.ffv1_line.proofs.laws.read_samples_fit_their_bits.Goals as goal

pub returns-clause-read : goal.returns-clause-read
returns-clause-read c = λ coding old new over cur n few l x h. lined_below coding old new over cur n
    few l x h

pub returns-clause-refused : goal.returns-clause-refused
returns-clause-refused c = λ coding old new over cur n few r x h. refused_below coding old new over
    cur n few r x h
