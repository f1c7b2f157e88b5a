-- Whether so many bits are left, at most 32.
use Rattle.std.proofs.Common.{rules, ◌≡◌, ◌∙◌, ◌≤◌, sym, ap, ◌+◌, ◌-◌, ◌*◌, length, arith, le-leb}
use Rattle.std.proofs.Common.{leb-true}
use Rattle.ffv1_rice.proofs.Fields.{length-bits_from}
use Rattle.ffv1_rice.proofs.bits.Bits.has.Goals as goal

pub returns-then-left-ge5 : goal.returns-then-left-ge5
returns-then-left-ge5 c =
    let b = c.self.inside in
    let long : length c.args.self.now ≡ 8 * length b.bytes.now - (8 * b.place + b.turn) =
    ap length (sym c.self.view_is) ∙ length-bits_from b.bytes.now (8 * b.place + b.turn)
    (8 * length b.bytes.now - (8 * b.place + b.turn)) in
    let few = c.self.invariant.few in (
      λ is. omega (arith, long, few, c.if-left-ge5.true, c.requires),
      λ enough. rw (le-leb 5 (length b.bytes.now - b.place) c.if-left-ge5.true) (search rules),
    )

pub returns-else-left-ge5 : goal.returns-else-left-ge5
returns-else-left-ge5 c =
    let b = c.self.inside in
    let long : length c.args.self.now ≡ 8 * length b.bytes.now - (8 * b.place + b.turn) =
    ap length (sym c.self.view_is) ∙ length-bits_from b.bytes.now (8 * b.place + b.turn)
    (8 * length b.bytes.now - (8 * b.place + b.turn)) in
    let within = c.self.invariant.within in (
      λ is. let less : b.turn + c.args.count ≤ 8 * (length b.bytes.now - b.place) = search
          (rules, is, leb-true) in
          omega (arith, long, less, within),
      λ enough. let less : b.turn + c.args.count ≤ 8 * (length b.bytes.now - b.place) =
          omega (arith, long, within, enough, c.self.invariant.few) in
          rw (le-leb (b.turn + c.args.count) (8 * (length b.bytes.now - b.place)) less)
          (search rules),
    )
