-- The 255 deltas of coder_type 2.
use Rattle.std.proofs.Common.{◌≡◌, arith, rules, ◌∙◌}
use Rattle.std.specs.Int.{w32}
use mir.Val.{SFits, to_z, of_z}
use Rattle.std.proofs.lemmas.Int.{to_z-of_z}
use Rattle.std.proofs.lemmas.List.{length-set}
use Rattle.ffv1_record.proofs.CallsGive.{handed}
use Rattle.ffv1_record.proofs.ReadingLoops.{deltas_next, deltas_end, deltas_refuse_at}
use Rattle.ffv1_record.proofs.read.read_deltas.Goals as goal

pub returns-in_err-deltas-clause-gives : goal.returns-in_err-deltas-clause-gives
returns-in_err-deltas-clause-gives c =
    handed c.from_residual.result c.from_residual.ensures.1
    (deltas_refuse_at 255 c.loop-k.k _ _ _ _ _ _ c.loop-k-test.true c.loop-k.invariant.leads
    c.in_err-deltas.ensures.gives)

pub loop-k-preserved : goal.loop-k-preserved
loop-k-preserved c =
    let fits : SFits w32 c.in_ok-deltas.field-0 = search rules in
    let is : to_z w32 (of_z w32 c.in_ok-deltas.field-0) ≡ c.in_ok-deltas.field-0 = to_z-of_z w32
    c.in_ok-deltas.field-0 fits in
    rw is (record {
      long = length-set _ _ _ ∙ c.loop-k.invariant.long;
      leads = deltas_next 255 _ _ _ _ _ _ _ c.loop-k-test.true c.loop-k.invariant.long
          c.loop-k.invariant.leads c.in_ok-deltas.ensures.gives;
    })

pub returns-clause-gives : goal.returns-clause-gives
returns-clause-gives c =
    let end : c.loop-k.k ≡ 255 = omega arith in
    deltas_end 255 _ _ _ _ c.loop-k.invariant.long (rw end at c.loop-k.invariant.leads)
