-- The prediction of a sample among samples of 16 bits, which are read as signed numbers: the median
-- of `l`, `t` and `l + t - tl` where a sample from 32768 on stands for itself less 65536 (RFC 9043,
-- 3.3), from -32768 to 32767.
use Rattle.std.proofs.Common.{◌≡◌, ap, ◌∙◌, refl, arith, pos, ◌-ℤ◌, to_z, of_z}
use Rattle.std.proofs.lemmas.Int.{ints, int_min_is, int_max_is}
use Rattle.std.specs.Int.{w32}
use Rattle.ffv1_plane.proofs.Signed.{predicted_raised}
use Rattle.ffv1_plane.proofs.prediction.predict_signed.Goals as goal

pub returns : goal.returns
returns c =
    let a = c.args.around.now in
    let inner : to_z w32 (of_z w32 c.predict.result) ≡ c.predict.result = omega (arith, ints) in
    let same : to_z w32 (of_z w32 (c.predict.result -ℤ pos 32768)) ≡ c.predict.result -ℤ pos 32768 =
    rw c.predict.ensures (omega (arith, ints, int_min_is, int_max_is)) in
    ap (λ v. to_z w32 (of_z w32 (v -ℤ pos 32768))) inner ∙ same ∙ ap (λ v. v -ℤ pos 32768)
    c.predict.ensures
    ∙ predicted_raised a.l a.t a.tl _ _ _ (omega arith) (omega arith) (omega arith) refl refl refl
