-- Encodes all pictures for an AVI.
use Rattle.std.proofs.lemmas.Result.{err_from_is_err_and}
use Rattle.std.proofs.Common.{refl, ◌≡◌, ◌∙◌, ap, arith, inr, subst, sym, true, false}
use Rattle.std.proofs.lemmas.Grind.{common_steps}
use Rattle.ffv1_wire.specs.Passage.{passage}
use Rattle.ffv1_avi.specs.Written.{frames_of}
use Rattle.ffv1_pack.specs.Internal.Encoding.{Encoded}
use Rattle.ffv1_pack.specs.Internal.VideoReads.{reading_of}
use Rattle.ffv1_pack.specs.Packing.{AreReadableIn, IsLongIn}
use Rattle.ffv1_video.specs.declared.fault.Fault.TheVariants as fault
use Rattle.ffv1_pack.proofs.PicturesEncoded.{frames_behind}
use Rattle.ffv1_pack.proofs.PicturesSoFar.{encoded_all, encoded_more, encoded_none, encoding_stops, long_stops}
use Rattle.ffv1_pack.proofs.ReadableFrames.{more_readable_in}
use Rattle.ffv1_pack.proofs.encoding.encode_pictures.Goals as goal

pub loop-planes-init : goal.loop-planes-init
loop-planes-init g c = (
  rw c.requires.none (encoded_none _ _ _ _ c.requires.working
      c.requires.begun),
  refl,
  rw c.requires.none (λ wide. tt),
)

pub returns-in_err-frame-clause-err : goal.returns-in_err-frame-clause-err
returns-in_err-frame-clause-err g c =
    let p = err_from_is_err_and c.from_residual.result c.from_residual.ensures.1 in
    let i = c.loop-planes.invariant in
    rw (p.1, p.2) (encoding_stops _ _ _ _ _ _ i.0 refl refl i.2 c.in_err-frame.field-0.0
    (rw i.1 at c.in_err-frame.ensures.err))

pub returns-then-is_long_in-clause-err : goal.returns-then-is_long_in-clause-err
returns-then-is_long_in-clause-err g c =
    let i = c.loop-planes.invariant in
    let one = rw i.1 at (rw c.in-Some.is at c.in_ok-frame.ensures.ok) in
    let kept = c.profile-profile.ensures.value ∙ ap (λ a. a.profile) c.config.ensures in
    let long = subst (λ k. IsLongIn k c.in-Some.frame.items) kept
    (subst (λ b. IsLongIn c.profile-profile.result b) c.as_slice.ensures.value
    (c.is_long_in.ensures.0 c.if-is_long_in.true)) in
    long_stops _ _ _ _ _ _ i.0 refl refl i.2 _ c.in-Some.frame.items one long

pub returns-then-is_long_in-clause-own : goal.returns-then-is_long_in-clause-own
returns-then-is_long_in-clause-own g c =
    let kept = c.profile-profile.ensures.value ∙ ap (λ a. a.profile) c.config.ensures in
    inr (sym kept ∙ (c.is_long_in.ensures.0 c.if-is_long_in.true).0, refl)

pub returns-in_err-push-clause-err : goal.returns-in_err-push-clause-err
returns-in_err-push-clause-err g c =
    let p = err_from_is_err_and c.from_residual-in_err-push.result
    c.from_residual-in_err-push.ensures.1 in
    let i = c.loop-planes.invariant in
    let one = rw i.1 at (rw c.in-Some.is at c.in_ok-frame.ensures.ok) in
    rw (p.1, p.2) (encoding_stops _ _ _ _ _ _ i.0 refl refl i.2 fault.OutOfMemory
    (inr (one.0, _, one.1)))

never : false ≡ true → ⊥
never e = absurd (cc)

pub loop-planes-preserved : goal.loop-planes-preserved
loop-planes-preserved g c =
    let i = c.loop-planes.invariant in
    let one = rw i.1 at (rw c.in-Some.is at c.in_ok-frame.ensures.ok) in
    let kept = c.profile-profile.ensures.value ∙ ap (λ a. a.profile) c.config.ensures in
    let all = ap frames_of c.in_ok-push.ensures.items ∙
    frames_behind c.loop-planes.frames.items c.in-Some.frame in
    let short : IsLongIn c.args.encoder.now.accepted.profile c.in-Some.frame.items → ⊥ = λ long.
    never (sym c.if-is_long_in.false ∙ c.is_long_in.ensures.1
    (subst (λ k. IsLongIn k c.as_slice.result.now) (sym kept)
    (subst (λ b. IsLongIn c.args.encoder.now.accepted.profile b) (sym c.as_slice.ensures.value) long))) in (
      subst (λ fs. Encoded (passage g.R.ByteIn.remaining g.R.ByteIn.failures c.args.input.now
          c.encode_picture.new.input) c.args.encoder.now.accepted (reading_of c.args.reader.now)
          (reading_of c.encode_picture.new.reader) fs) (sym all)
          (encoded_more _ _ _ _ _ _ i.0 refl refl _ c.in-Some.frame.items one),
      c.in_ok-frame.ensures.same ∙ i.1,
      subst (AreReadableIn c.args.encoder.now.accepted.profile) (sym all)
          (more_readable_in _ _ c.in-Some.frame.items i.2 short),
    )

pub returns-clause-ok : goal.returns-clause-ok
returns-clause-ok g c =
    let i = c.loop-planes.invariant in
    encoded_all _ _ _ _ _ _ i.0 refl refl _ (rw c.in_default.is at c.in_ok-frame.ensures.ok)

pub loop-planes-smaller : goal.loop-planes-smaller
loop-planes-smaller g c = grind (arith, common_steps)
