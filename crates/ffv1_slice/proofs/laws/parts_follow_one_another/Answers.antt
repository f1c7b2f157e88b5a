-- The parts of a side stand one after the other, from 0 to its end, and none is empty.
use Rattle.ffv1_slice.proofs.Parts.{begin_first, begin_next, coded_some, begins, shares_few, coded_fits, lies_in_one, lies_only}
use Rattle.ffv1_slice.proofs.Parts.{lies_inside}
use Rattle.ffv1_slice.proofs.laws.parts_follow_one_another.Goals as goal

pub returns-clause-first : goal.returns-clause-first
returns-clause-first c = λ s is. begin_first s is.some

pub returns-clause-next : goal.returns-clause-next
returns-clause-next c = λ s k is inside. begin_next s k is inside

pub returns-clause-some : goal.returns-clause-some
returns-clause-some c = λ s k is inside. coded_some s k is.some is.fits

pub returns-clause-few : goal.returns-clause-few
returns-clause-few c = λ s k is inside. ((begins s k is.some is.fits).0, shares_few s k is.some is.fits)

pub returns-clause-coded : goal.returns-clause-coded
returns-clause-coded c = λ s k is inside. coded_fits s k is inside

pub returns-clause-one : goal.returns-clause-one
returns-clause-one c = λ s x is h.
    let k = lies_in_one s x is h in
    (k.0, k.1, λ other lies. lies_only s x other k.0 is lies k.1)

pub returns-clause-inside : goal.returns-clause-inside
returns-clause-inside c = λ s x k is lies. lies_inside s x k is lies
