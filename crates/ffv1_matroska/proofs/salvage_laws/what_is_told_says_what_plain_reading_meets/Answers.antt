-- What is told of a file says what plain reading comes to.
use Rattle.ffv1_matroska.proofs.SalvagedTold.{first_told, none_told, opened_told}
use Rattle.ffv1_matroska.proofs.salvage_laws.what_is_told_says_what_plain_reading_meets.Goals as goal

pub returns-clause-none : goal.returns-clause-none
returns-clause-none c = λ text none. none_told text none

pub returns-clause-first : goal.returns-clause-first
returns-clause-first c = λ text t others is. first_told text t others is

pub returns-clause-all : goal.returns-clause-all
returns-clause-all c = λ text rest s is. opened_told text rest s is
