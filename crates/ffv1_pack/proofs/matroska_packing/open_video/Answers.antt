-- Reads the head of a video, and makes what encodes and writes its pictures.
use Rattle.std.proofs.Common.{inl, inr, refl}
use Rattle.std.proofs.lemmas.Result.{err_from_is_err_and}
use Rattle.ffv1_pack.proofs.ConfigurationJudged.{has_timed, no_memory_head}
use Rattle.ffv1_pack.proofs.MatroskaPacked.{made, no_head, no_memory, not_accepted, not_made}
use Rattle.ffv1_pack.proofs.MatroskaPacked.{untimed}
use Rattle.ffv1_pack.proofs.matroska_packing.open_video.Goals as goal

pub returns-in_err-reader-clause-err : goal.returns-in_err-reader-clause-err
returns-in_err-reader-clause-err g c =
    let p = err_from_is_err_and c.from_residual.result c.from_residual.ensures.1 in
    rw (p.1, p.2) (no_head c.args.profile c.args.choice.now _ c.in_err-reader.field-0.0
    c.in_err-reader.ensures.err)

pub returns-in_err-encoder-clause-err : goal.returns-in_err-encoder-clause-err
returns-in_err-encoder-clause-err g c =
    let p = err_from_is_err_and c.from_residual-in_err-encoder.result
    c.from_residual-in_err-encoder.ensures.1 in
    rw (p.1, p.2) (not_accepted c.args.profile c.args.choice.now _ _ c.in_err-encoder.field-0.0
    c.in_ok-reader.ensures.ok (rw c.choice_for-chosen.ensures at c.in_err-encoder.ensures.err))

pub returns-in_err-judge-clause-err : goal.returns-in_err-judge-clause-err
returns-in_err-judge-clause-err g c =
    let p = err_from_is_err_and c.from_residual-in_err-judge.result
    c.from_residual-in_err-judge.ensures.1 in
    rw (p.1, p.2) (not_accepted c.args.profile c.args.choice.now _ _ c.in_err-judge.field-0.0
    c.in_ok-reader.ensures.ok (inr (rw c.choice_for-chosen.ensures at c.in_err-judge.ensures.err)))

pub returns-in_err-judge_rate-clause-err : goal.returns-in_err-judge_rate-clause-err
returns-in_err-judge_rate-clause-err g c =
    let p = err_from_is_err_and c.from_residual-in_err-judge_rate.result
    c.from_residual-in_err-judge_rate.ensures.1 in
    let has = rw c.choice_for-chosen.ensures at c.in_ok-judge.ensures.ok in
    let refused = c.in_err-judge_rate.ensures.err in
    rw (p.1, p.2, refused.0) (untimed c.args.profile c.args.choice.now _ _ has.0
    c.in_ok-reader.ensures.ok has.1 (refused.1 has.0.configuration))

pub returns-in_err-judge_rate-clause-own : goal.returns-in_err-judge_rate-clause-own
returns-in_err-judge_rate-clause-own g c =
    let p = err_from_is_err_and c.from_residual-in_err-judge_rate.result
    c.from_residual-in_err-judge_rate.ensures.1 in
    rw (p.1, p.2, c.in_err-judge_rate.ensures.err.0) (inl refl)

pub returns-in_err-head-clause-err : goal.returns-in_err-head-clause-err
returns-in_err-head-clause-err g c =
    let p = err_from_is_err_and c.from_residual-in_err-head.result
    c.from_residual-in_err-head.ensures.1 in
    rw (p.1, p.2) (no_memory c.args.profile _ _ _ _ c.in_ok-reader.ensures.ok c.in_err-head.ensures.err)

pub returns-in_err-writer-clause-err : goal.returns-in_err-writer-clause-err
returns-in_err-writer-clause-err g c =
    let p = err_from_is_err_and c.from_residual-in_err-writer.result
    c.from_residual-in_err-writer.ensures.1 in
    rw (p.1, p.2) (not_made c.args.profile c.args.choice.now _ _ _ _ c.details_for.result
    c.in_err-writer.field-0.0
    c.in_ok-reader.ensures.ok (rw c.choice_for-chosen.ensures at c.in_ok-encoder.ensures.ok)
    (rw c.config.ensures at c.in_ok-head.ensures.ok) c.in_err-writer.ensures).0

pub returns-in_err-writer-clause-own : goal.returns-in_err-writer-clause-own
returns-in_err-writer-clause-own g c =
    let p = err_from_is_err_and c.from_residual-in_err-writer.result
    c.from_residual-in_err-writer.ensures.1 in
    rw (p.1, p.2) (inl (not_made c.args.profile c.args.choice.now _ _ _ _ c.details_for.result
    c.in_err-writer.field-0.0 c.in_ok-reader.ensures.ok
    (rw c.choice_for-chosen.ensures at c.in_ok-encoder.ensures.ok)
    (rw c.config.ensures at c.in_ok-head.ensures.ok) c.in_err-writer.ensures).1)

pub returns-clause-ok : goal.returns-clause-ok
returns-clause-ok g c =
    made c.args.profile c.args.choice.now _ _ _ _ _ _ c.in_ok-reader.ensures.ok
    c.in_ok-reader.ensures.head (rw c.choice_for-chosen.ensures at c.in_ok-encoder.ensures.ok)
    (rw c.config.ensures at c.in_ok-head.ensures.ok)
    c.details_for.ensures c.in_ok-writer.ensures

pub returns-in_err-reader-clause-sound : goal.returns-in_err-reader-clause-sound
returns-in_err-reader-clause-sound g c =
    let p = err_from_is_err_and c.from_residual.result c.from_residual.ensures.1 in
    rw (p.1, p.2) (λ e. absurd (no_memory_head _ _ _ c.in_err-reader.ensures.err e))

pub returns-in_err-judge-clause-sound : goal.returns-in_err-judge-clause-sound
returns-in_err-judge-clause-sound g c =
    let p = err_from_is_err_and c.from_residual-in_err-judge.result
    c.from_residual-in_err-judge.ensures.1 in
    rw (p.1, p.2) (λ e. absurd (c.in_err-judge.ensures.memory e))

pub returns-in_err-encoder-clause-sound : goal.returns-in_err-encoder-clause-sound
returns-in_err-encoder-clause-sound g c =
    let p = err_from_is_err_and c.from_residual-in_err-encoder.result
    c.from_residual-in_err-encoder.ensures.1 in
    let has = rw c.choice_for-chosen.ensures at c.in_ok-judge.ensures.ok in
    rw (p.1, p.2) (λ _. has_timed c.args.profile c.args.choice.now _ _ has.0
    c.in_ok-reader.ensures.ok has.1 (c.in_ok-judge_rate.ensures.ok has.0.configuration))

pub returns-in_err-head-clause-sound : goal.returns-in_err-head-clause-sound
returns-in_err-head-clause-sound g c =
    let p = err_from_is_err_and c.from_residual-in_err-head.result
    c.from_residual-in_err-head.ensures.1 in
    let has = rw c.choice_for-chosen.ensures at c.in_ok-judge.ensures.ok in
    rw (p.1, p.2) (λ _. has_timed c.args.profile c.args.choice.now _ _ has.0
    c.in_ok-reader.ensures.ok has.1 (c.in_ok-judge_rate.ensures.ok has.0.configuration))

pub returns-in_err-writer-clause-sound : goal.returns-in_err-writer-clause-sound
returns-in_err-writer-clause-sound g c =
    let p = err_from_is_err_and c.from_residual-in_err-writer.result
    c.from_residual-in_err-writer.ensures.1 in
    let has = rw c.choice_for-chosen.ensures at c.in_ok-judge.ensures.ok in
    rw (p.1, p.2) (λ _. has_timed c.args.profile c.args.choice.now _ _ has.0
    c.in_ok-reader.ensures.ok has.1 (c.in_ok-judge_rate.ensures.ok has.0.configuration))
