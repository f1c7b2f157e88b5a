-- Does what the words of the command line ask for.
use Rattle.std.proofs.Common.{inl, inr, refl}
use Rattle.clap.specs.Words.{kind_of}
use Rattle.ffv1_orders.proofs.LineStatuses.{line_status}
use Rattle.ffv1_orders.proofs.lines.command.Goals as goal

pub returns-in-Err-clause-does : goal.returns-in-Err-clause-does
returns-in-Err-clause-does g c = inr (inl (
  c.in-Err.error,
  c.in-Err.ensures.err,
  line_status (kind_of c.in-Err.error) c.tell_line.result c.tell_line.ensures.asked
      c.tell_line.ensures.refused,
  refl,
))
