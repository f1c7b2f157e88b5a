-- What decoding makes of a payload, whatever the sink: an answer Ok comes with the payload's count.
-- A fault, if it is not the sink's, comes with what was decided before it, and is the payload's
-- first fault.
use Rattle.std.proofs.Common.{ℕ, List, slice_index}
use Rattle.ffv1_range.specs.Codes.{AreBytes}
use Rattle.ffv1_record.specs.Accepted.{Accepted, IsAccepted}
use Rattle.ffv1_slice.specs.Footer.{foot_length}
use Rattle.ffv1_frame.proofs.lemmas.laws.decoding.FromCoded.{coded_bytes}
use Rattle.ffv1_frame.proofs.lemmas.laws.answer.OneOutcome.{OneEnd, apart, coded, counts, faults, one_count, one_fault}
use Rattle.ffv1_frame.proofs.lemmas.laws.answer.OneOutcome.{stopped}
use Rattle.ffv1_frame.proofs.laws.answer.payload_has_one_outcome.Given as given
use Rattle.ffv1_frame.proofs.laws.answer.payload_has_one_outcome.Goals as goal

one : (g : given.Over) (c : goal.After-decoding_has_one_end g) (a : Accepted) (payload : List ℕ) →
    IsAccepted a.configuration a.table → AreBytes payload → OneEnd a payload
one g c a payload is bytes =
    let are = λ (os : List ℕ) (n : ℕ). coded_bytes payload (foot_length a.configuration.ec)
    (slice_index os) n bytes in
    record {
      cut = c.payload_is_cut_in_one_way.ensures.one a.configuration payload;
      end = λ os s t. c.decoding_has_one_end.ensures.end a (coded a payload os) s t is (are os);
      apart = λ os s t f. c.decoding_has_one_end.ensures.apart a (coded a payload os) s t f is
          (are os);
      fault = λ os s t f g. c.decoding_has_one_end.ensures.fault a (coded a payload os) s t f g is
          (are os);
    }

pub returns-clause-count : goal.returns-clause-count
returns-clause-count g c = λ a payload old new tally info answer. counts g.S.LineSink.takes
    g.S.LineSink.refuses a payload old new tally info answer

pub returns-clause-fault : goal.returns-clause-fault
returns-clause-fault g c = λ a payload old new tally f own answer. faults g.S.LineSink.takes
    g.S.LineSink.refuses a payload old new tally f own answer

pub returns-clause-lines : goal.returns-clause-lines
returns-clause-lines g c = λ a payload old new tally f answer. stopped g.S.LineSink.takes
    g.S.LineSink.refuses a payload old new tally f answer

pub returns-clause-one_count : goal.returns-clause-one_count
returns-clause-one_count g c = λ a payload t u is bytes first second. one_count a payload
    (one g c a payload is bytes) t u first second

pub returns-clause-apart : goal.returns-clause-apart
returns-clause-apart g c = λ a payload t u f is bytes count faulty. apart a payload
    (one g c a payload is bytes) t u f count faulty

pub returns-clause-one_fault : goal.returns-clause-one_fault
returns-clause-one_fault g c = λ a payload t u f h is bytes first second. one_fault a payload
    (one g c a payload is bytes) t u f h first second
