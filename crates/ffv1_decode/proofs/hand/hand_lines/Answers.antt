-- Hands over a line of each of its planes, of which the bytes stand in `out`.
use Rattle.std.proofs.Common.{◌≡◌, ℕ, suc, ◌+◌, ◌-◌, ◌*◌, ◌≤◌, ◌<◌, ◌∙◌, ap, sym, subst, take, drop}
use Rattle.std.proofs.Common.{arith}
use Rattle.std.proofs.lemmas.Result.{err_from_is_err_and}
use Rattle.ffv1_record.specs.Configuration.{Configuration}
use Rattle.std.proofs.Math.Nat.{mul-le-mul_left}
use Rattle.ffv1_samples.specs.Samples.{sample_bytes}
use Rattle.ffv1_slice.specs.Grid.{Division}
use Rattle.ffv1_frame.specs.Picture.{line_bytes, width_bytes}
use Rattle.ffv1_frame.specs.Windows.{window}
use Rattle.ffv1_decode.specs.Internal.Progress.{Handed}
use Rattle.ffv1_frame.proofs.lemmas.Sizes.{part_apart}
use Rattle.ffv1_decode.proofs.lemmas.hand.LinesHanded.{one_handed, one_refused}
use Rattle.ffv1_decode.proofs.hand.hand_lines.Given.{Over}
use Rattle.ffv1_decode.proofs.hand.hand_lines.Goals.{After-width}
use Rattle.ffv1_decode.proofs.hand.hand_lines.Goals as goal

thick : (at long : ℕ) → at + long - at ≡ long
thick at long = omega arith

hand_fits : (at long a l w all out : ℕ) → at ≡ a → long ≡ l → l ≤ w → a + w ≤ all → all ≤ out → at +
    long ≤ out
hand_fits at long a l w all out e f g h i = omega (arith, e, f, g, h, i)

-- where the line of a plane stands
module _ (g : Over) (c : After-width g) where
  bytes_are : c.sample_bytes-bytes.result ≡ sample_bytes
      c.args.frame.now.checked.now.configuration.depth
  bytes_are = c.sample_bytes-bytes.ensures.value ∙ ap (λ (d : Division). sample_bytes d.depth)
      c.requires.frame.grid

  width_is : c.sample_bytes-bytes.result * c.config.result.now.width ≡ width_bytes
      c.args.frame.now.checked.now.configuration
  width_is = ap (λ k. k * c.config.result.now.width) bytes_are ∙ ap (λ (z : Configuration).
      sample_bytes c.args.frame.now.checked.now.configuration.depth * z.width)
      (sym c.config.ensures.value)

  wide_is : c.sample_bytes-bytes.result * c.width.result ≡ line_bytes
      c.args.frame.now.checked.now.configuration (c.args.line.now.first + c.loop-index.index)
  wide_is = ap (λ k. k * c.width.result) bytes_are ∙ ap (λ n. sample_bytes
      c.args.frame.now.checked.now.configuration.depth * n) (rw c.requires.frame.grid at
      c.width.ensures)

  samples_are :
      let conf = c.args.frame.now.checked.now.configuration in
      let n = c.loop-index.index in
      let at = n * (c.sample_bytes-bytes.result * c.config.result.now.width) in
      let long = c.sample_bytes-bytes.result * c.width.result in
      window (n * width_bytes conf) (line_bytes conf (c.args.line.now.first + n)) c.args.out.now
      ≡ take (at + long - at) (drop at c.args.out.now)
  samples_are =
      let conf = c.args.frame.now.checked.now.configuration in
      let n = c.loop-index.index in
      let at = n * (c.sample_bytes-bytes.result * c.config.result.now.width) in
      sym (ap (λ z. take z (drop at c.args.out.now))
      (thick at (c.sample_bytes-bytes.result * c.width.result) ∙ wide_is) ∙
      ap (λ z. take (line_bytes conf (c.args.line.now.first + n)) (drop (n * z) c.args.out.now))
      width_is)

pub slice_bounds-hand_line-end : goal.slice_bounds-hand_line-end
slice_bounds-hand_line-end g c =
    let a = c.args.frame.now.checked.now in
    let conf = a.configuration in
    let line = c.args.line.now in
    let n = c.loop-index.index in
    let plane = line.first + n in
    let few : n < line.count = omega arith in
    let b = c.sample_bytes-bytes.result in
    let here = (goal.at.slice_bounds-hand_line-end g c).After-width in
    let are = c.slices_lie_beside_one_another.ensures.across conf a.table plane
    c.requires.frame.accepted in
    let part = part_apart n line.count (width_bytes conf) few in
    let at : n * (b * c.config.result.now.width) ≡ n * width_bytes conf = ap (λ z. n * z)
    (width_is g here) in
    let narrow : line_bytes conf plane ≤ width_bytes conf = mul-le-mul_left
    (sample_bytes conf.depth) are.fits in
    hand_fits (n * (b * c.config.result.now.width)) (b * c.width.result) (n * width_bytes conf)
    (line_bytes conf plane) (width_bytes conf) _ _ at (wide_is g here) narrow part c.requires.out

pub returns-in_err-hand_line-clause-exact : goal.returns-in_err-hand_line-clause-exact
returns-in_err-hand_line-clause-exact g c = λ coded initial columns s grows told stands.
    let a = c.args.frame.now.checked.now in
    let line = c.args.line.now in
    let n = c.loop-index.index in
    let few : n < line.count = omega arith in
    let b = c.sample_bytes-bytes.result in
    let here = (goal.at.returns-in_err-hand_line-clause-exact g c).After-width in
    let at = n * (b * c.config.result.now.width) in
    let long = b * c.width.result in
    let samples = take (at + long - at) (drop at c.args.out.now) in
    let done = c.loop-index.invariant.handed coded initial s grows stands in
    let p = err_from_is_err_and c.from_residual.result c.from_residual.ensures.1 in
    rw (p.1, p.2) (one_refused g.S.LineSink.takes g.S.LineSink.refuses a coded initial line.row
    line.first line.y s n c.loop-index.sink c.hand_line.new.sink samples done
    (stands n few ∙ samples_are g here) columns line.count c.in_err-hand_line.field-0.0 few told
    c.in_err-hand_line.ensures.err.0 c.in_err-hand_line.ensures.err.1)

pub loop-index-preserved : goal.loop-index-preserved
loop-index-preserved g c =
    let a = c.args.frame.now.checked.now in
    let line = c.args.line.now in
    let n = c.loop-index.index in
    let few : n < line.count = omega arith in
    let b = c.sample_bytes-bytes.result in
    let here = (goal.at.loop-index-preserved g c).After-width in
    let at = n * (b * c.config.result.now.width) in
    let long = b * c.width.result in
    let samples = take (at + long - at) (drop at c.args.out.now) in
    record {
      counted = c.in_ok-hand_line.ensures.counted ∙ c.loop-index.invariant.counted;
      handed = λ coded initial s grows stands.
          let done = c.loop-index.invariant.handed coded initial s grows stands in
          let next : suc n ≡ n + 1 = omega arith in
          subst (λ z. Handed g.S.LineSink.takes g.S.LineSink.refuses a coded initial line.row
          line.first z line.y c.hand_line.new.sink s) next
          (one_handed g.S.LineSink.takes g.S.LineSink.refuses a coded initial line.row line.first
          line.y s n c.loop-index.sink c.hand_line.new.sink samples done
          (stands n few ∙ samples_are g here) c.in_ok-hand_line.ensures.ok);
    }

pub returns-clause-exact : goal.returns-clause-exact
returns-clause-exact g c = λ coded initial columns s grows told stands.
    let all : c.loop-index.index ≡ c.args.line.now.count = omega arith in
    subst (λ z. Handed g.S.LineSink.takes g.S.LineSink.refuses c.args.frame.now.checked.now coded
    initial c.args.line.now.row c.args.line.now.first z c.args.line.now.y c.loop-index.sink s)
    all
    (c.loop-index.invariant.handed coded initial s grows stands)
