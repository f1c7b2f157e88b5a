-- The places of a block from `start` on whose neighbours are equal and whose symbols are zeros: the
-- samples above and to the left are one, and so is each that comes.
use Rattle.std.proofs.Common.{refl, ◌≡◌, ◌*◌, ◌<◌, length, slice_index, arith, rules, ◌∙◌}
use Rattle.std.proofs.lemmas.Grind.{common_steps, elements, moves, pieces}
use Rattle.ffv1_line.specs.Internal.Along.{IsEqualContext}
use Rattle.ffv1_line.proofs.decode.equal.decode_equal.Goals as goal

pub returns-clause-read : goal.returns-clause-read
returns-clause-read g c =
    let p = c.args.places.now in
    let b = c.args.behind.now in
    let sum = slice_index p.early.now.sum c.args.start in
    let size = c.late_context-size.result.0 in
    let same : size ≡ c.late_context-next.result.0 = c.if-size-next.false in
    let fits : size * 32 < length c.args.states.now =
    omega (arith, c.late_context-size.ensures.below, c.requires.stands.ready.rows) in
    let first : IsEqualContext p.set.now sum b.l b.ll size =
    record { each = λ tr tt early. c.late_context-size.ensures.size b.l tr tt early } in
    let next : IsEqualContext p.set.now sum b.l b.l size =
    record { each = λ tr tt early. same ∙ c.late_context-next.ensures.size b.l tr tt early } in
    let copy : c.take-local.result ≡ c.args.decoder.now = search rules in
    rw copy at ((c.take_zeros-left.ensures.read size (first, next)).by c.args.states.now fits refl)

pub late_context-size-requires-clause-early : goal.late_context-size-requires-clause-early
late_context-size-requires-clause-early g c = grind (arith, common_steps)

pub late_context-next-requires-clause-early : goal.late_context-next-requires-clause-early
late_context-next-requires-clause-early g c = grind (arith, elements)

pub returns-clause-stands : goal.returns-clause-stands
returns-clause-stands g c = grind (arith, moves)

pub take_zeros-left-requires : goal.take_zeros-left-requires
take_zeros-left-requires g c = search (pieces, arith)
