-- The aspect of a picture is in lowest terms.
use Rattle.ffv1_info.proofs.LowestTerms.{lowest}
use Rattle.ffv1_info.proofs.laws.aspect_is_in_lowest_terms.Goals as goal

pub returns : goal.returns
returns c = lowest
