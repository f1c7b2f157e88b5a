-- Whether each delta has a symbol, which the least number of 32 bits has not.
use Rattle.std.proofs.Common.{◌<◌, length, take, get_or, ap, arith, pos, rules}
use Rattle.std.specs.Int.{w32}
use mir.Val.{SFits, of_z}
use Rattle.ffv1_record.proofs.Checks.{small_delta}
use Rattle.ffv1_record.proofs.EncoderSteps.{deltas_more, taken_more}
use Rattle.ffv1_record.proofs.config.have_symbols.Goals as goal

pub loop-k-preserved : goal.loop-k-preserved
loop-k-preserved c =
    let delta = get_or c.args.deltas.now c.loop-k.k (pos 0) in
    let inside : c.loop-k.k < length c.args.deltas.now = omega (arith, c.told-deltas) in
    let fits : SFits w32 (get_or c.args.deltas.now c.loop-k.k (pos 0)) = search rules in
    let more = taken_more c.args.deltas.now c.loop-k.k (pos 0) inside in
    rw more (deltas_more (take c.loop-k.k c.args.deltas.now) delta c.loop-k.invariant
    (small_delta delta fits (λ same. c.if-deltas-k.false (ap (of_z w32) same))))
