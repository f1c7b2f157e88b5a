-- How many bytes a plane has.
use Rattle.std.proofs.Common.{ℕ, ◌*◌, ◌<◌, ◌≤◌, ◌∙◌, ap, sym, subst, arith}
use Rattle.std.proofs.Math.Nat.{mul-le-mul_left}
use Rattle.ffv1_samples.specs.Samples.{sample_bytes}
use Rattle.ffv1_slice.specs.Grid.{across, whole_of}
use Rattle.ffv1_frame.proofs.lemmas.Lengths.{whole_wide, whole_high}
use Rattle.ffv1_frame.proofs.plane_sizes.plane_bytes.Goals as goal

room : (b w h : ℕ) → b ≤ 2 → w ≤ 8192 → h ≤ 8192 → b * (w * h) < 18446744073709551616
room b w h few wide high =
    let first : w * h ≤ w * 8192 = mul-le-mul_left {m = h} {n = 8192} w high in
    let size : w * h ≤ 67108864 = omega (arith, first, wide) in
    let all : b * (w * h) ≤ b * 67108864 = mul-le-mul_left {m = w * h} {n = 67108864} b size in
    omega (arith, all, few)

pub overflow_mul-result : goal.overflow_mul-result
overflow_mul-result c =
    let d = c.args.grid.now in
    let p = c.args.plane in
    let wide : c.width.result ≤ 8192 = subst (λ n. n ≤ 8192) (sym c.width.ensures)
    (whole_wide d p c.requires) in
    let high : c.height.result ≤ 8192 = subst (λ n. n ≤ 8192) (sym c.height.ensures)
    (whole_high d p c.requires) in
    let few = room c.sample_bytes.result c.width.result c.height.result c.sample_bytes.ensures.most
    wide high in
    omega (arith, few)

pub returns : goal.returns
returns c =
    let d = c.args.grid.now in
    let p = c.args.plane in
    ap (λ b. b * (c.width.result * c.height.result)) c.sample_bytes.ensures.value ∙
    ap (λ w. sample_bytes d.depth * (w * c.height.result)) c.width.ensures ∙
    ap (λ h. sample_bytes d.depth * (whole_of (across d p) * h)) c.height.ensures
