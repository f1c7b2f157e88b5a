-- A sum of bytes goes on by others as the sum of both.
use Rattle.std.proofs.lemmas.List.Sums.{fold-append}
use Rattle.ffv1_sum.specs.Sum.{byte_step}
use Rattle.ffv1_sum.proofs.laws.sum_goes_on_over_further_bytes.Goals as goal

pub returns : goal.returns
returns c = λ sum xs ys. fold-append byte_step sum xs ys
