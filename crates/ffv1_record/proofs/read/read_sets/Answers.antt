-- So many sets.
use Rattle.std.proofs.Common.{◌≡◌, ◌-◌, arith, refl, inl, inr}
use Rattle.ffv1_record.proofs.CallsGive.{handed, told, gives_memory}
use Rattle.ffv1_record.proofs.FirstRun.{set_begun, either_begun}
use Rattle.ffv1_record.proofs.ReadingLoops.{leads_none, sets_next, sets_refuse, sets_end}
use Rattle.ffv1_record.proofs.read.read_sets.Goals as goal

pub returns-in_err-set-clause-gives : goal.returns-in_err-set-clause-gives
returns-in_err-set-clause-gives g c = handed c.from_residual.result c.from_residual.ensures.1
    (sets_refuse _ _ _ _ _ _ _ _ c.loop-index-test.true c.loop-index.invariant.leads
    c.in_err-set.ensures.gives)

pub loop-index-init : goal.loop-index-init
loop-index-init g c =
    let all : c.args.count - 0 ≡ c.args.count = omega arith in
    record { leads = rw (all, c.new-sets.ensures) (leads_none _ _); begun = inl refl }

pub loop-index-preserved : goal.loop-index-preserved
loop-index-preserved g c = record {
  leads = rw c.in_ok-push.ensures.ok (sets_next _ _ _ _ _ _ _ _ c.loop-index-test.true
      c.loop-index.invariant.leads c.in_ok-set.ensures.gives);
  begun = inr (either_begun _ _ c.loop-index.invariant.begun (set_begun c.in_ok-set.ensures.gives));
}

pub returns-clause-gives : goal.returns-clause-gives
returns-clause-gives g c =
    let end : c.loop-index._index ≡ c.args.count = omega arith in
    sets_end _ _ _ _ _ (rw end at c.loop-index.invariant.leads)

pub returns-in_err-push-clause-gives : goal.returns-in_err-push-clause-gives
returns-in_err-push-clause-gives g c = handed c.from_residual-in_err-push.result
    c.from_residual-in_err-push.ensures.1 (gives_memory _ _ _ _ _ refl)

pub returns-in_err-set-clause-memory : goal.returns-in_err-set-clause-memory
returns-in_err-set-clause-memory g c = told _ c.from_residual.result c.from_residual.ensures.1
    (λ memory. either_begun _ _ c.loop-index.invariant.begun (c.in_err-set.ensures.memory memory))

pub returns-in_err-push-clause-memory : goal.returns-in_err-push-clause-memory
returns-in_err-push-clause-memory g c = told _ c.from_residual-in_err-push.result
    c.from_residual-in_err-push.ensures.1 (λ memory. either_begun _ _ c.loop-index.invariant.begun
    (set_begun c.in_ok-set.ensures.gives))
