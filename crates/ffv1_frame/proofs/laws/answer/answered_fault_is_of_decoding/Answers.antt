-- Whatever the payload and the sink, a fault that is answered is one of decoding: of cutting it, of
-- a slice's start, key or head, of a symbol or a colour, or the sink's.
use Rattle.ffv1_frame.proofs.lemmas.laws.answer.DecodeFaults.{answered_own}
use Rattle.ffv1_frame.proofs.laws.answer.answered_fault_is_of_decoding.Goals as goal

pub returns : goal.returns
returns g c = λ a payload old new tally f answer.
    answered_own g.S.LineSink.takes g.S.LineSink.refuses a payload old new tally f answer.cut
    answer.cuts answer.answer
