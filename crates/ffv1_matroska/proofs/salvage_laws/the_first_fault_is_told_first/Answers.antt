-- A file that opens plainly opens as the same, and nothing is told.
use Rattle.ffv1_matroska.proofs.SalvageLaws.{open_fault, open_same}
use Rattle.ffv1_matroska.proofs.salvage_laws.the_first_fault_is_told_first.Goals as goal

pub returns-clause-sound : goal.returns-clause-sound
returns-clause-sound c = λ text rest o is. open_same text rest o is

pub returns-clause-first : goal.returns-clause-first
returns-clause-first c = λ text rest left f s fails ok.
    (let first = open_fault text rest left f s fails ok in
    (first.position, first.others, first.told, first.may))
