-- Narrows the interval by a decision, and gives out four bytes where they are held back.
use Rattle.std.proofs.Common.{arith, ap, ◌∙◌, ◌≡◌, ◌%◌, rules, []}
use Rattle.ffv1_range.specs.Interval.{narrow}
use Rattle.ffv1_range.specs.Internal.Registers.{interval_marked, IsMarked, IsWriting}
use Rattle.ffv1_range.proofs.Marks.{full, not_full, holding_full, held_none, emptied_interval}
use Rattle.ffv1_range.proofs.Marks.{emptied_marked, begun_marked}
use Rattle.ffv1_range.proofs.encoder.marked.MarkedRegisters.narrow.Given.{Over}
use Rattle.ffv1_range.proofs.encoder.marked.MarkedRegisters.narrow.Goals.{After-renormalise_marked-next}
use Rattle.ffv1_range.proofs.encoder.marked.MarkedRegisters.narrow.Goals as goal

module _ (g : Over) (c : After-renormalise_marked-next g) where
  narrowed : interval_marked c.args.bytes.now.items c.renormalise_marked-next.result.low
      c.renormalise_marked-next.result.width ≡ narrow
      (interval_marked c.args.bytes.now.items c.args.self.now.low c.args.self.now.width)
      c.args.state c.args.bit
  narrowed = search rules

  is_marked : IsMarked c.args.bytes.now.items c.renormalise_marked-next.result.low
      c.renormalise_marked-next.result.width
  is_marked = search rules

pub returns-then-next-lt-FULL-clause-sound : goal.returns-then-next-lt-FULL-clause-sound
returns-then-next-lt-FULL-clause-sound g c =
    let here = (goal.at.returns-then-next-lt-FULL-clause-sound g c).After-renormalise_marked-next in
    (is_marked g here, not_full c.renormalise_marked-next.result.low (omega arith))

pub emit_word-requires : goal.emit_word-requires
emit_word-requires g c =
    let here = (goal.at.emit_word-requires g c).After-renormalise_marked-next in
    let holding = holding_full _ _ _ (omega arith) (is_marked g here) in
    record {
      bytes_fit = search rules;
      below = omega (arith, holding.below, holding.least);
      room = omega (arith, holding.room, holding.least);
    }

pub returns-in-Err-clause-refused : goal.returns-in-Err-clause-refused
returns-in-Err-clause-refused g c =
    let here = (goal.at.returns-in-Err-clause-refused g c).After-renormalise_marked-next in
    let count = ap (λ i. i.count) (narrowed g here) in
    let four = full c.renormalise_marked-next.result.low (omega arith) in
    omega (arith, count, four, c.requires.sound.1)

pub returns-in-Ok-clause-ok : goal.returns-in-Ok-clause-ok
returns-in-Ok-clause-ok g c =
    let here = (goal.at.returns-in-Ok-clause-ok g c).After-renormalise_marked-next in
    emptied_interval _ _ c.renormalise_marked-next.result.low _ (omega arith)
    c.in-Ok.ensures.value c.in-Ok.ensures.long
    ∙ narrowed g here

pub returns-in-Ok-clause-sound : goal.returns-in-Ok-clause-sound
returns-in-Ok-clause-sound g c =
    let here = (goal.at.returns-in-Ok-clause-sound g c).After-renormalise_marked-next in (
      emptied_marked _ _ c.renormalise_marked-next.result.low _ (omega arith)
          c.in-Ok.ensures.value c.in-Ok.ensures.long (is_marked g here)
          c.in-Ok.ensures.bytes_fit,
      rw (held_none (c.renormalise_marked-next.result.low % 65536) (omega arith)) (omega arith),
    )

pub returns-in-Err-clause-sound : goal.returns-in-Err-clause-sound
returns-in-Err-clause-sound g c =
    let fresh : IsWriting [] 0 65280 = search (rules, arith) in
    rw c.clear.ensures.items
    (begun_marked [] 0 65280 fresh, rw (held_none 0 (omega arith)) (omega arith))
