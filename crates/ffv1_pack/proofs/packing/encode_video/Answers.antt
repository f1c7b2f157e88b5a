-- Reads a video and encodes it.
use Rattle.std.proofs.lemmas.Result.{err_from_is_err_and}
use Rattle.std.proofs.Common.{refl, ◌≡◌, ◌⊎◌, ◌<◌, length, arith, ap, inl, inr, subst, true}
use Rattle.std.proofs.lemmas.Grind.{common_steps}
use Rattle.ffv1_pack.proofs.ConfigurationJudged.{has_accepted, no_memory_head}
use Rattle.ffv1_pack.proofs.FrameBytes.{empty_of}
use Rattle.ffv1_pack.proofs.VideoEnds.{encodes_video, no_frames, some_frames}
use Rattle.ffv1_pack.proofs.VideoEncoded.{no_head, none, rejected, stops, wants_memory}
use Rattle.ffv1_reads.specs.declared.fault.FileFault.TheVariants as file_fault
use Rattle.ffv1_video.specs.declared.fault.Fault.TheVariants as fault
use Rattle.ffv1_pack.specs.Pack.{is_pack_fault}
use Rattle.ffv1_pack.proofs.ReadableFrames.{own_in}
use Rattle.ffv1_record.specs.declared.config.Profile.TheVariants as record_profiles
use Rattle.ffv1_pack.proofs.packing.encode_video.Goals as goal

pub returns-in_err-reader-clause-err : goal.returns-in_err-reader-clause-err
returns-in_err-reader-clause-err g c =
    let p = err_from_is_err_and c.from_residual.result c.from_residual.ensures.1 in
    rw (p.1, p.2) (no_head c.args.profile c.args.choice.now _ c.in_err-reader.field-0.0
    c.in_err-reader.ensures.err)

pub returns-in_err-head-clause-err : goal.returns-in_err-head-clause-err
returns-in_err-head-clause-err g c =
    let p = err_from_is_err_and c.from_residual-in_err-head.result
    c.from_residual-in_err-head.ensures.1 in
    rw (p.1, p.2) (wants_memory c.args.profile _ _ _ _ c.in_ok-reader.ensures.ok c.in_err-head.ensures.err)

pub returns-in_err-head-clause-own : goal.returns-in_err-head-clause-own
returns-in_err-head-clause-own g c =
    let p = err_from_is_err_and c.from_residual-in_err-head.result
    c.from_residual-in_err-head.ensures.1 in
    rw (p.1, p.2) (inl (ap is_pack_fault c.in_err-head.ensures.err))

pub returns-in_err-encoder-clause-err : goal.returns-in_err-encoder-clause-err
returns-in_err-encoder-clause-err g c =
    let p = err_from_is_err_and c.from_residual-in_err-encoder.result
    c.from_residual-in_err-encoder.ensures.1 in
    rw (p.1, p.2) (rejected c.args.profile c.args.choice.now _ _ c.in_err-encoder.field-0.0
    c.in_ok-reader.ensures.ok c.in_err-encoder.ensures.err)

pub returns-in_err-encode_pictures-clause-err : goal.returns-in_err-encode_pictures-clause-err
returns-in_err-encode_pictures-clause-err g c =
    let p = err_from_is_err_and c.from_residual-in_err-encode_pictures.result
    c.from_residual-in_err-encode_pictures.ensures.1 in
    let for = c.in_ok-encoder.ensures.ok in
    rw (p.1, p.2) (stops c.args.profile c.args.choice.now _ _ _ _ refl refl
    c.in_ok-reader.ensures.ok for c.in_err-encode_pictures.field-0.0 c.in_err-encode_pictures.ensures.err)

pub returns-in_err-encode_pictures-clause-own : goal.returns-in_err-encode_pictures-clause-own
returns-in_err-encode_pictures-clause-own g c =
    let p = err_from_is_err_and c.from_residual-in_err-encode_pictures.result
    c.from_residual-in_err-encode_pictures.ensures.1 in
    rw (p.1, p.2) (own_in c.args.profile c.in_err-encode_pictures.field-0.0
    (subst (λ k. (is_pack_fault c.in_err-encode_pictures.field-0.0 ≡ true)
    ⊎ ((k ≡ record_profiles.Wide) × (c.in_err-encode_pictures.field-0.0 ≡ fault.File file_fault.ChunkTooLong)))
    c.in_ok-encoder.ensures.ok.profiled c.in_err-encode_pictures.ensures.own))

pub returns-then-is_empty-clause-err : goal.returns-then-is_empty-clause-err
returns-then-is_empty-clause-err g c =
    let for = c.in_ok-encoder.ensures.ok in
    let empty : length c.encode_pictures.new.frames.items ≡ 0 = empty_of
    c.encode_pictures.new.frames _ c.is_empty.ensures c.if-is_empty.true in
    none c.args.profile c.args.choice.now _ _ _ _ _ refl refl c.in_ok-reader.ensures.ok for
    c.in_ok-encode_pictures.ensures.ok (no_frames _ empty)

pub returns-in_err-judge-clause-err : goal.returns-in_err-judge-clause-err
returns-in_err-judge-clause-err g c =
    let p = err_from_is_err_and c.from_residual-in_err-judge.result
    c.from_residual-in_err-judge.ensures.1 in
    rw (p.1, p.2) (rejected c.args.profile c.args.choice.now _ _ c.in_err-judge.field-0.0
    c.in_ok-reader.ensures.ok (inr c.in_err-judge.ensures.err))

pub returns-in_err-reader-clause-sound : goal.returns-in_err-reader-clause-sound
returns-in_err-reader-clause-sound g c =
    let p = err_from_is_err_and c.from_residual.result c.from_residual.ensures.1 in
    rw (p.1, p.2) (λ e. absurd (no_memory_head _ _ _ c.in_err-reader.ensures.err e))

pub returns-in_err-judge-clause-sound : goal.returns-in_err-judge-clause-sound
returns-in_err-judge-clause-sound g c =
    let p = err_from_is_err_and c.from_residual-in_err-judge.result
    c.from_residual-in_err-judge.ensures.1 in
    rw (p.1, p.2) (λ e. absurd (c.in_err-judge.ensures.memory e))

pub returns-in_err-encoder-clause-sound : goal.returns-in_err-encoder-clause-sound
returns-in_err-encoder-clause-sound g c =
    let p = err_from_is_err_and c.from_residual-in_err-encoder.result
    c.from_residual-in_err-encoder.ensures.1 in
    rw (p.1, p.2) (λ _. has_accepted c.args.profile c.args.choice.now _ _
    c.in_ok-reader.ensures.ok c.in_ok-judge.ensures.ok)

pub returns-in_err-head-clause-sound : goal.returns-in_err-head-clause-sound
returns-in_err-head-clause-sound g c =
    let p = err_from_is_err_and c.from_residual-in_err-head.result
    c.from_residual-in_err-head.ensures.1 in
    rw (p.1, p.2) (λ _. has_accepted c.args.profile c.args.choice.now _ _
    c.in_ok-reader.ensures.ok c.in_ok-judge.ensures.ok)

pub returns-in_err-encode_pictures-clause-sound : goal.returns-in_err-encode_pictures-clause-sound
returns-in_err-encode_pictures-clause-sound g c =
    let p = err_from_is_err_and c.from_residual-in_err-encode_pictures.result
    c.from_residual-in_err-encode_pictures.ensures.1 in
    rw (p.1, p.2) (λ _. has_accepted c.args.profile c.args.choice.now _ _
    c.in_ok-reader.ensures.ok c.in_ok-judge.ensures.ok)

pub returns-clause-ok : goal.returns-clause-ok
returns-clause-ok g c =
    let for = c.in_ok-encoder.ensures.ok in
    let some : 0 < length c.encode_pictures.new.frames.items = grind
    (arith, common_steps, c.is_empty.ensures, c.if-is_empty.false) in
    let head = rw c.config.ensures at c.in_ok-head.ensures.ok in
    encodes_video c.text_is_read_as_its_pictures.ensures.only
    c.text_is_read_as_its_images.ensures.told c.args.profile c.args.choice.now _ _ _ _ _ _ refl refl
    c.in_ok-reader.ensures.ok c.in_ok-reader.ensures.head for c.in_ok-encode_pictures.ensures.ok
    c.in_ok-encode_pictures.ensures.readable (some_frames _ some) head
