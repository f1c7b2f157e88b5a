-- A payload is cut in exactly one way: to the offsets of its slices, or it is refused, for one
-- fault in one slice.
use Rattle.ffv1_slice.proofs.OneWay.{its_offsets, not_refused, one_way, some_way}
use Rattle.ffv1_slice.proofs.laws.payload_is_cut_in_one_way.Goals as goal

pub returns-clause-some : goal.returns-clause-some
returns-clause-some c = some_way

pub returns-clause-one : goal.returns-clause-one
returns-clause-one c = one_way

pub returns-clause-only : goal.returns-clause-only
returns-clause-only c = its_offsets

pub returns-clause-refused : goal.returns-clause-refused
returns-clause-refused c = not_refused
