-- The counts of items, with those of the faults that were told before.
use Rattle.std.proofs.Common.{◌≡◌, refl, length, arith}
use Rattle.ffv1_unpack.proofs.SalvageTold.{salvage_counts}
use Rattle.ffv1_unpack.proofs.ToldAgain.{told_counts}
use Rattle.ffv1_unpack.proofs.told_first.with_told.Goals as goal

pub returns-clause-judged : goal.returns-clause-judged
returns-clause-judged g c = λ start xs are.
    (let long : c.len.result ≡ length c.args.told.now.faults.items = omega (arith, c.len.ensures) in
    told_counts start c.args.told.now.faults.items c.args.counts _ xs refl
    (rw long at c.saturating_add.ensures) (rw c.as_slice.ensures.value at c.first_fault.ensures) are)

pub returns-clause-salvaged : goal.returns-clause-salvaged
returns-clause-salvaged g c = λ start ppm xs are.
    (let long : c.len.result ≡ length c.args.told.now.faults.items = omega (arith, c.len.ensures) in
    salvage_counts start c.args.told.now.faults.items c.args.counts _ ppm xs refl
    (rw long at c.saturating_add.ensures) (rw c.as_slice.ensures.value at c.first_fault.ensures) are)
