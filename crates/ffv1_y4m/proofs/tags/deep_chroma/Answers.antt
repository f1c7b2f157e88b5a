-- The chroma of a name of more than 8 bits.
use Rattle.std.proofs.Common.{arith}
use Rattle.std.proofs.lemmas.Grind.{common_steps}
use Rattle.ffv1_y4m.specs.Header.{deep_chroma_of}
use Rattle.ffv1_y4m.proofs.tags.deep_chroma.Goals as goal

pub returns : goal.returns
unfolding deep_chroma_of
returns c = grind (arith, common_steps)
