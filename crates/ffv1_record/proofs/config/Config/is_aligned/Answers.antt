-- Whether each inner edge is a multiple of its chroma factor.
use Rattle.ffv1_record.proofs.Checks.{sized}
use Rattle.ffv1_record.specs.Configuration.{configuration_of}
use Rattle.ffv1_record.proofs.config.Config.is_aligned.Goals as goal

pub are_multiples-requires-clause-size : goal.are_multiples-requires-clause-size
are_multiples-requires-clause-size g c = (sized (configuration_of c.args.self.now)
    c.requires.sized).wide
