-- Whatever the payload, a fault that is answered is the sink's exactly if the sink refused a line.
-- After a beginning of the lines it refused the one that came next, a line of the configuration,
-- and the fault names its plane and its row.
use Rattle.ffv1_frame.proofs.lemmas.laws.sink.SinkFaults.{other_faults, sink_faults}
use Rattle.ffv1_frame.proofs.laws.sink.sink_fault_is_a_refused_line.Goals as goal

pub returns-clause-sink : goal.returns-clause-sink
returns-clause-sink g c = λ a payload old new tally f is answer same.
    sink_faults g.S.LineSink.takes g.S.LineSink.refuses a payload old new tally f answer.cut
    (λ coded r i p y t offers. c.offered_lines_fit_the_configuration.ensures a coded r i p y t is
    offers) answer.answer same

pub returns-clause-other : goal.returns-clause-other
returns-clause-other g c = λ a payload old new tally f answer other.
    other_faults g.S.LineSink.takes g.S.LineSink.refuses a payload old new tally f answer.cut
    answer.answer other
