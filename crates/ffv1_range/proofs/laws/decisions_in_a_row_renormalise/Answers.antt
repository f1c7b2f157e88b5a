-- At states that a table of a floor m holds each decision leaves at most 1 - m² / (256 (m + 1)) of
-- an interval's width, 35/36 by the standard's table.
use Rattle.ffv1_range.proofs.Enough.{are_enough, are_least, for_standard, for_lowest, for_highest}
use Rattle.ffv1_range.proofs.Renormalising.{all_normalised, narrow_normalised, decision_leaves}
use Rattle.ffv1_range.proofs.Renormalising.{standard_leaves, once, few}
use Rattle.ffv1_range.proofs.laws.decisions_in_a_row_renormalise.Goals as goal

pub returns-clause-normalised : goal.returns-clause-normalised
returns-clause-normalised c = all_normalised

pub returns-clause-stays : goal.returns-clause-stays
returns-clause-stays c = narrow_normalised

pub returns-clause-each : goal.returns-clause-each
returns-clause-each c = decision_leaves

pub returns-clause-each_of_standard : goal.returns-clause-each_of_standard
returns-clause-each_of_standard c = standard_leaves

pub returns-clause-enough : goal.returns-clause-enough
returns-clause-enough c = are_enough

pub returns-clause-least : goal.returns-clause-least
returns-clause-least c = are_least

pub returns-clause-of_standard : goal.returns-clause-of_standard
returns-clause-of_standard c = for_standard

pub returns-clause-of_lowest : goal.returns-clause-of_lowest
returns-clause-of_lowest c = for_lowest

pub returns-clause-of_highest : goal.returns-clause-of_highest
returns-clause-of_highest c = for_highest

pub returns-clause-once : goal.returns-clause-once
returns-clause-once c = once

pub returns-clause-few : goal.returns-clause-few
returns-clause-few c = few
