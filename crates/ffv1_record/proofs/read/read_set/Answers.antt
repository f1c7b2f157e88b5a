-- A quantisation table set.
use Rattle.std.proofs.Common.{inl, inr}
use Rattle.ffv1_record.proofs.CallsGive.{and_then, handed, stop, told, gives_required}
use Rattle.ffv1_record.proofs.CallsGive.{gives_refused, gives_done, gives_memory}
use Rattle.ffv1_record.proofs.FirstRun.{table_begun}
use Rattle.ffv1_record.proofs.TableRuns.{few_contexts, many_contexts}
use Rattle.ffv1_record.proofs.read.read_set.Goals as goal

pub returns-in_err-first-clause-gives : goal.returns-in_err-first-clause-gives
returns-in_err-first-clause-gives g c = handed c.from_residual.result c.from_residual.ensures.1
    (stop c.in_err-first.ensures.gives)

pub returns-in_err-second-clause-gives : goal.returns-in_err-second-clause-gives
returns-in_err-second-clause-gives g c = handed c.from_residual-in_err-second.result
    c.from_residual-in_err-second.ensures.1 (and_then c.in_ok-first.ensures.gives
    (stop c.in_err-second.ensures.gives))

pub returns-in_err-third-clause-gives : goal.returns-in_err-third-clause-gives
returns-in_err-third-clause-gives g c = handed c.from_residual-in_err-third.result
    c.from_residual-in_err-third.ensures.1 (and_then c.in_ok-first.ensures.gives
    (and_then c.in_ok-second.ensures.gives (stop c.in_err-third.ensures.gives)))

pub returns-in_err-fourth-clause-gives : goal.returns-in_err-fourth-clause-gives
returns-in_err-fourth-clause-gives g c = handed c.from_residual-in_err-fourth.result
    c.from_residual-in_err-fourth.ensures.1 (and_then c.in_ok-first.ensures.gives
    (and_then c.in_ok-second.ensures.gives (and_then c.in_ok-third.ensures.gives
    (stop c.in_err-fourth.ensures.gives))))

pub returns-in_err-fifth-clause-gives : goal.returns-in_err-fifth-clause-gives
returns-in_err-fifth-clause-gives g c = handed c.from_residual-in_err-fifth.result
    c.from_residual-in_err-fifth.ensures.1 (and_then c.in_ok-first.ensures.gives
    (and_then c.in_ok-second.ensures.gives (and_then c.in_ok-third.ensures.gives
    (and_then c.in_ok-fourth.ensures.gives (stop c.in_err-fifth.ensures.gives)))))

pub returns-in_err-set-clause-gives : goal.returns-in_err-set-clause-gives
returns-in_err-set-clause-gives g c = handed c.from_residual-in_err-set.result
    c.from_residual-in_err-set.ensures.1 (elim c.in_err-set.ensures.err [
      | inl memory ↦ gives_memory _ _ _ _ _ memory
      | inr many ↦ rw many.0 (and_then c.in_ok-first.ensures.gives
          (and_then c.in_ok-second.ensures.gives (and_then c.in_ok-third.ensures.gives
          (and_then c.in_ok-fourth.ensures.gives (and_then c.in_ok-fifth.ensures.gives
          (gives_refused _ _ _ _ _ _ (many_contexts _
          (rw (
            c.deref.ensures.value,
            c.deref-2.ensures.value,
            c.deref-3.ensures.value,
            c.deref-4.ensures.value,
            c.deref-5.ensures.value,
          ) at many.1))))))))
    ])

pub returns-clause-gives : goal.returns-clause-gives
returns-clause-gives g c =
    let whole = rw (
      c.deref.ensures.value,
      c.deref-2.ensures.value,
      c.deref-3.ensures.value,
      c.deref-4.ensures.value,
      c.deref-5.ensures.value,
    ) at c.in_ok-set.ensures.ok in
    (and_then c.in_ok-first.ensures.gives (and_then c.in_ok-second.ensures.gives
    (and_then c.in_ok-third.ensures.gives (and_then c.in_ok-fourth.ensures.gives
    (and_then c.in_ok-fifth.ensures.gives (gives_required _ _ _ _ _ _ _
    (few_contexts _ (rw whole at c.in_ok-set.ensures.few)) (rw whole (gives_done _ _ _))))))))

pub returns-in_err-first-clause-memory : goal.returns-in_err-first-clause-memory
returns-in_err-first-clause-memory g c = told _ c.from_residual.result c.from_residual.ensures.1
    c.in_err-first.ensures.memory

pub returns-in_err-second-clause-memory : goal.returns-in_err-second-clause-memory
returns-in_err-second-clause-memory g c = told _ c.from_residual-in_err-second.result
    c.from_residual-in_err-second.ensures.1 (λ memory. table_begun c.in_ok-first.ensures.gives)

pub returns-in_err-third-clause-memory : goal.returns-in_err-third-clause-memory
returns-in_err-third-clause-memory g c = told _ c.from_residual-in_err-third.result
    c.from_residual-in_err-third.ensures.1 (λ memory. table_begun c.in_ok-first.ensures.gives)

pub returns-in_err-fourth-clause-memory : goal.returns-in_err-fourth-clause-memory
returns-in_err-fourth-clause-memory g c = told _ c.from_residual-in_err-fourth.result
    c.from_residual-in_err-fourth.ensures.1 (λ memory. table_begun c.in_ok-first.ensures.gives)

pub returns-in_err-fifth-clause-memory : goal.returns-in_err-fifth-clause-memory
returns-in_err-fifth-clause-memory g c = told _ c.from_residual-in_err-fifth.result
    c.from_residual-in_err-fifth.ensures.1 (λ memory. table_begun c.in_ok-first.ensures.gives)

pub returns-in_err-set-clause-memory : goal.returns-in_err-set-clause-memory
returns-in_err-set-clause-memory g c = told _ c.from_residual-in_err-set.result
    c.from_residual-in_err-set.ensures.1 (λ memory. table_begun c.in_ok-first.ensures.gives)
