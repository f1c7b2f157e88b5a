-- Appends the line of how much a decoder holds.
use Rattle.std.proofs.Common.{codes, decimal}
use Rattle.ffv1_unpack.specs.StreamLines.{held_line}
use Rattle.ffv1_unpack.proofs.StreamText.{eleven}
use Rattle.ffv1_unpack.proofs.stream_lines.push_held.Goals as goal

pub returns : goal.returns
unfolding held_line
returns g c =
    let h = c.args.held in
    rw (
      c.in_ok-extend_from_slice.ensures.items,
      c.in_ok-push_number-5.ensures,
      c.in_ok-push_number-4.ensures,
      c.in_ok-push_number-3.ensures,
      c.in_ok-push_number-2.ensures,
      c.in_ok-push_number.ensures,
    )
    (eleven c.args.text.now.items (codes "held states ") (decimal h.states) (codes " samples ")
    (decimal h.samples) (codes " output ") (decimal h.output) (codes " columns ")
    (decimal h.columns) (codes " offsets ") (decimal h.offsets) (codes "\n"))
