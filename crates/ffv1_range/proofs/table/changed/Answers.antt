-- Where each state goes after a decision 1, by deltas; 0 for what is no byte.
use Rattle.std.proofs.Common.{refl, ◌≡◌, ◌∙◌, ap, length-set, arith, ◌+◌, add-one, pos, get_or}
use Rattle.std.proofs.Common.{rules}
use Rattle.std.proofs.lemmas.Int.{to_z-of_z}
use Rattle.std.specs.Int.{w32}
use mir.Val.{of_z, SFits}
use Rattle.ffv1_range.proofs.DeltaTables.{entries_next, sound_next}
use Rattle.ffv1_range.proofs.table.changed.Goals as goal

pub loop-k-init : goal.loop-k-init
loop-k-init c = record {
  long = refl;
  sound = λ k below. absurd (omega arith);
  entries = λ state below. let first : state ≡ 0 = omega arith in rw first refl;
}

pub loop-k-preserved : goal.loop-k-preserved
loop-k-preserved c =
    let fits : SFits w32 (get_or c.args.deltas.now c.loop-k.k (pos 0)) = search rules in
    let plain = simp to_z-of_z at c.byte.ensures in
    let byte = rw add-one at plain in
    record {
      long = length-set c.loop-k.one (c.loop-k.k + 1) c.byte.result ∙ c.loop-k.invariant.long;
      sound = sound_next c.args.deltas.now c.loop-k.k (λ h. c.if-delta.false (ap (of_z w32) h))
          c.loop-k.invariant.sound;
      entries = entries_next c.args.deltas.now c.loop-k.one c.loop-k.k c.byte.result
          (omega (arith, c.loop-k.invariant.long)) (rw add-one byte) c.loop-k.invariant.entries;
    }

pub returns-clause-sound : goal.returns-clause-sound
returns-clause-sound c = λ k below. c.loop-k.invariant.sound k (omega (arith, c.told-deltas))
