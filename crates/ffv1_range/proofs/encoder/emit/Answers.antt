-- One place more of a number with its bytes big end first.
use Rattle.std.proofs.Common.{arith, length, ◌≡◌, ◌-◌}
use Rattle.std.proofs.Math.Seq.{take-append_seam}
use Rattle.std.proofs.lemmas.Grind.{common_steps}
use Rattle.ffv1_range.proofs.EmittedBytes.{value-pushed}
use Rattle.ffv1_range.proofs.encoder.emit.Goals as goal

pub returns-then-top-lt256-clause-value : goal.returns-then-top-lt256-clause-value
returns-then-top-lt256-clause-value g c =
    rw c.in_ok-push.ensures.items (value-pushed c.args.bytes.now.items c.args.top)

pub returns-clause-value : goal.returns-clause-value
returns-clause-value g c =
    let long : c.args.bytes.now.len ≡ length c.carry.new.bytes = omega arith in
    let carried = rw c.deref_mut.ensures.value at c.carry.ensures.carried in
    let pushed = value-pushed c.carry.new.bytes (c.args.top - 256) in
    rw (c.in_ok-push-2.ensures.items, long, take-append_seam) (omega arith)

pub returns-then-top-lt256-clause-bytes_fit : goal.returns-then-top-lt256-clause-bytes_fit
returns-then-top-lt256-clause-bytes_fit g c = grind (arith, common_steps)

pub returns-clause-bytes_fit : goal.returns-clause-bytes_fit
returns-clause-bytes_fit g c = grind (arith, common_steps)
