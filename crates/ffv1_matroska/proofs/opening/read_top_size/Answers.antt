-- A size, or None if it is unknown, whose bytes are counted.
use Rattle.std.proofs.Common.{◌+◌, ◌-◌, ◌^◌, ◌∙◌, arith}
use Rattle.ffv1_reads.specs.Reads.{given}
use Rattle.ffv1_reads.proofs.OffsetLaws.{counted_given, counted_then, offset_same, reads_counted}
use Rattle.ffv1_reads.proofs.Taking.{takes_read}
use Rattle.ffv1_ebml.specs.Elements.{data_read}
use Rattle.ffv1_ebml.specs.declared.sum.Sum.TheVariants.{Absent}
use Rattle.ffv1_matroska.specs.Opening.{top_size}
use Rattle.ffv1_matroska.specs.Sizes.{size_with}
use Rattle.ffv1_matroska.proofs.ElementTaken.{data_takes}
use Rattle.ffv1_matroska.proofs.opening.read_top_size.Goals as goal

pub returns-clause-counted : goal.returns-clause-counted
unfolding top_size
returns-clause-counted g c =
    let d = c.in_ok-data.«data» in
    let read = c.in_ok-data.ensures.answer.1 in
    let all = takes_read (data_takes 8 0 Absent) read in
    let counted = counted_then (data_read 8 Absent)
    (λ p. given (size_with (8 - p.0.left) p.0.value))
    (reads_counted (8 - d.left) (data_takes 8 0 Absent) (omega (arith, all)) read)
    (counted_given (size_with (8 - d.left) d.value) _) in
    rw c.size_with.ensures (
      8 - d.left + 0,
      counted,
      c.saturating_add.ensures ∙ offset_same
          c.args.offset.now (8 - d.left) (2 ^ 64 - 1),
    )
