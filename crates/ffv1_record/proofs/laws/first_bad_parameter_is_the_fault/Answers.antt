-- The first parameter that is not good, in the order of the record, is the fault that is answered:
-- where the bytes code good symbols of all parameters before it, and then symbols that are a fault
-- in its place.
use Rattle.std.proofs.Common.{inl, inr, length, ◌-◌}
use Rattle.ffv1_record.specs.Accepted.{least_coder}
use Rattle.ffv1_record.specs.Record.{body_of}
use Rattle.ffv1_record.proofs.Checks.{least_few}
use Rattle.ffv1_record.proofs.RecordIsRead.{taken_bytes}
use Rattle.ffv1_record.proofs.FirstBadParameter.{ordered}
use Rattle.ffv1_record.proofs.RefusedParameters.{first_bad, refused_because}
use Rattle.ffv1_record.proofs.laws.first_bad_parameter_is_the_fault.Goals as goal

pub returns-clause-read : goal.returns-clause-read
returns-clause-read c = λ p most bytes width height bits x f are h. ordered bytes are bits x f
    (least_coder p) (least_few p) most width height h

pub returns-clause-refused : goal.returns-clause-refused
returns-clause-refused c = λ p most bytes width height bits x f are long whole h.
    inr (inr (
      long,
      whole,
      inr (inl (ordered (body_of bytes)
          (taken_bytes bytes (length bytes - 4) are) bits x f (least_coder p) (least_few p) most width
          height h)),
    ))

pub returns-clause-found : goal.returns-clause-found
returns-clause-found c = λ p most bytes width height f h. first_bad bytes (least_coder p) most width
    height f h

pub returns-clause-because : goal.returns-clause-because
returns-clause-because c = λ p most bytes width height f h. refused_because p most bytes width height
    f h
