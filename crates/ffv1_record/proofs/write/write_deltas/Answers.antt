-- The 255 deltas of coder_type 2.
use Rattle.std.proofs.Common.{◌≡◌, ◌<◌, length, take, get_or, arith, sym, pos, rules}
use Rattle.std.specs.Int.{w32}
use mir.Val.{SFits, to_z, of_z}
use Rattle.std.proofs.lemmas.Int.{to_z-of_z}
use Rattle.ffv1_record.proofs.Checks.{small_delta}
use Rattle.ffv1_record.proofs.EncoderSteps.{wrote_on, wrote_as, deltas_last, deltas_more}
use Rattle.ffv1_record.proofs.EncoderSteps.{taken_more}
use Rattle.ffv1_record.proofs.write.write_deltas.Goals as goal

pub signed_number-requires : goal.signed_number-requires
signed_number-requires g c =
    let delta = get_or c.args.deltas.now c.loop-k.k (pos 0) in
    let inside : c.loop-k.k < length c.args.deltas.now = omega (arith, c.told-deltas) in
    let fits : SFits w32 (get_or c.args.deltas.now c.loop-k.k (pos 0)) = search rules in
    let is : to_z w32 (of_z w32 (get_or c.args.deltas.now c.loop-k.k (pos 0))) ≡ get_or
    c.args.deltas.now c.loop-k.k (pos 0) = to_z-of_z w32 delta fits in
    rw is (small_delta delta fits (c.requires c.loop-k.k inside))

pub loop-k-preserved : goal.loop-k-preserved
loop-k-preserved g c =
    let delta = get_or c.args.deltas.now c.loop-k.k (pos 0) in
    let inside : c.loop-k.k < length c.args.deltas.now = omega (arith, c.told-deltas) in
    let fits : SFits w32 (get_or c.args.deltas.now c.loop-k.k (pos 0)) = search rules in
    let is : to_z w32 (of_z w32 (get_or c.args.deltas.now c.loop-k.k (pos 0))) ≡ get_or
    c.args.deltas.now c.loop-k.k (pos 0) = to_z-of_z w32 delta fits in
    let more = taken_more c.args.deltas.now c.loop-k.k (pos 0) inside in
    rw more (record {
      wrote = wrote_as _ _ (sym (deltas_last (take c.loop-k.k c.args.deltas.now) delta))
          (wrote_on _ _ c.loop-k.invariant.wrote (rw is at c.in_ok-signed_number.ensures.ok));
      writable = deltas_more (take c.loop-k.k c.args.deltas.now) delta c.loop-k.invariant.writable
          (small_delta delta fits (c.requires c.loop-k.k inside));
    })
