-- Makes a line of what was read: the samples as they are, or for RCT the colours.
use Rattle.std.proofs.Common.{◌≡◌, ℕ, ◌*◌, ◌^◌, ◌<◌, ◌≤◌, ◌∙◌, ap, sym, subst, length, slice_index}
use Rattle.std.proofs.Common.{take, drop, true, false, arith, refl}
use Rattle.std.proofs.Math.Nat.{mul-le-mul_left}
use Rattle.std.proofs.lemmas.List.{length-take-le}
use Rattle.std.proofs.lemmas.Grind.{common_steps}
use Rattle.ffv1_samples.specs.Samples.{bytes_of, sample_bytes}
use Rattle.ffv1_slice.specs.Grid.{Division}
use Rattle.ffv1_record.specs.Configuration.{Configuration, is_rct}
use Rattle.ffv1_frame.specs.Picture.{plane_count, plane_width, width_bytes}
use Rattle.ffv1_decode.proofs.lemmas.finish.LineFinished.{together_one, together_all, rct_is, all_small}
use Rattle.ffv1_frame.proofs.lemmas.picture.PlaneWidths.{wide_none}
use Rattle.ffv1_decode.proofs.lemmas.finish.LineFinished.{samples_finished, colours_missing, colours_finished}
use Rattle.ffv1_frame.proofs.lemmas.picture.WideLines.{rct_bits}
use Rattle.ffv1_decode.proofs.finish.finish.Given.{Over}
use Rattle.ffv1_decode.proofs.finish.finish.Goals.{After-sample_bytes, In-Rct}
use Rattle.ffv1_decode.proofs.finish.finish.Goals as goal

room : (b s w width long count : ℕ) → b ≡ s → w ≤ width → count ≡ 1 → long ≡ count * (s * width) → b
    * w ≤ long
room b s w width long count same narrow one is =
    let more : b * w ≤ b * width = mul-le-mul_left b narrow in
    let all : b * width ≡ s * width = ap (λ k. k * width) same in
    let whole : count * (s * width) ≡ 1 * (s * width) = ap (λ k. k * (s * width)) one in
    omega (arith, more, all, whole, is)

-- a line of one plane
module _ (g : Over) (c : After-sample_bytes g) where
  plain : is_rct c.args.frame.now.checked.now.configuration.colour ≡ false
  plain = ap (λ (z : Configuration). is_rct z.colour) c.config.ensures.value ∙ ap is_rct
      c.in-YCbCr.is

  one : c.args.line.now.count ≡ 1
  one = (together_one c.args.frame.now.checked.now.configuration c.args.line.now.first
      c.args.line.now.count plain c.requires.together).0

  wide_is : c.width-wide.result ≡ plane_width c.args.frame.now.checked.now.configuration
      c.args.line.now.first
  wide_is = rw c.requires.frame.grid at c.width-wide.ensures

  narrow : c.width-wide.result ≤ c.args.frame.now.checked.now.configuration.width
  narrow =
      let a = c.args.frame.now.checked.now in
      let are = c.slices_lie_beside_one_another.ensures.across a.configuration a.table
      c.args.line.now.first c.requires.frame.accepted in
      omega (arith, wide_is, are.fits)

  fits : c.width-wide.result ≤ length c.args.samples.now
  fits =
      let width = c.args.frame.now.checked.now.configuration.width in
      let count : c.args.line.now.count * width ≡ width = ap (λ n. n * width) one ∙
      (let m : 1 * width ≡ width = omega arith in m) in
      omega (arith, narrow, count, c.requires.samples)

  out : c.sample_bytes.result * c.width-wide.result ≤ length c.args.out.now
  out =
      let conf = c.args.frame.now.checked.now.configuration in
      let same : c.sample_bytes.result ≡ sample_bytes conf.depth = c.sample_bytes.ensures.value ∙
      ap (λ (d : Division). sample_bytes d.depth) c.requires.frame.grid in
      room c.sample_bytes.result (sample_bytes conf.depth) c.width-wide.result conf.width
      (length c.args.out.now) c.args.line.now.count same narrow one c.requires.out

-- lines of RCT
module _ (g : Over) (c : In-Rct g) where
  yes : is_rct c.args.frame.now.checked.now.configuration.colour ≡ true
  yes = ap (λ (z : Configuration). is_rct z.colour) c.config.ensures.value ∙ ap is_rct c.in-Rct.is

  all : (c.args.line.now.first ≡ 0) × (c.args.line.now.count ≡ plane_count
      c.args.frame.now.checked.now.configuration)
  all = together_all c.args.frame.now.checked.now.configuration c.args.line.now.first
      c.args.line.now.count yes c.requires.together

  flat : (c.args.frame.now.checked.now.configuration.chroma_planes ≡ true) ×
      (c.args.frame.now.checked.now.configuration.log2_h ≡ 0) ×
      (c.args.frame.now.checked.now.configuration.log2_v ≡ 0)
  flat = c.accepted_configuration_has_sound_parts.ensures.rct _ _ c.requires.frame.accepted
      (rct_is _ yes)

pub slice_bounds-copy_to-end : goal.slice_bounds-copy_to-end
slice_bounds-copy_to-end g c =
    sym (length-take-le c.width-wide.result c.args.samples.now
    (fits g (goal.at.slice_bounds-copy_to-end g c).After-sample_bytes))

pub slice_bounds-copy_to-end-in-YCbCr : goal.slice_bounds-copy_to-end-in-YCbCr
slice_bounds-copy_to-end-in-YCbCr g c = out g (goal.at.slice_bounds-copy_to-end-in-YCbCr g
    c).After-sample_bytes

pub slice_bounds-copy_to-end-in-YCbCr-2 : goal.slice_bounds-copy_to-end-in-YCbCr-2
slice_bounds-copy_to-end-in-YCbCr-2 g c =
    sym (length-take-le (c.sample_bytes.result * c.width-wide.result) c.args.out.now
    (out g (goal.at.slice_bounds-copy_to-end-in-YCbCr-2 g c).After-sample_bytes))

pub returns-in-YCbCr-clause-exact : goal.returns-in-YCbCr-clause-exact
returns-in-YCbCr-clause-exact g c = λ coded s stand.
    let here = (goal.at.returns-in-YCbCr-clause-exact g c).After-sample_bytes in
    let conf = c.args.frame.now.checked.now.configuration in
    let line = c.args.line.now in
    let wide = c.width-wide.result in
    let d_is = c.depth.ensures.value in
    let small = all_small conf line.first line.count line.y c.args.samples.now s stand
    (plain g here) (one g here) wide (wide_is g here) (fits g here) in
    let copied = c.copy_to.ensures (λ x h. subst (λ d. slice_index (take wide c.args.samples.now) x
    < 2 ^ d) (sym d_is) (small x h)) ∙ ap (λ d. bytes_of d (take wide c.args.samples.now))
    d_is in
    samples_finished conf line.first line.count line.y c.args.samples.now s stand (plain g here)
    (one g here) wide (wide_is g here) (fits g here) c.copy_to.new.out
    (drop (c.sample_bytes.result * wide) c.args.out.now) copied

pub finish_colours-requires-clause-shallow : goal.finish_colours-requires-clause-shallow
finish_colours-requires-clause-shallow g c =
    let bits = rct_bits c.args.frame.now.checked.now.configuration
    (yes g (goal.at.finish_colours-requires-clause-shallow g c).In-Rct) in
    omega (arith, bits, c.requires.bits)

pub colourless-requires-clause-x : goal.colourless-requires-clause-x
colourless-requires-clause-x g c =
    let a = c.args.frame.now.checked.now in
    let flat = flat g (goal.at.colourless-requires-clause-x g c).In-Rct in
    let wide : plane_width a.configuration 0 ≡ a.configuration.width = wide_none a.configuration 0
    flat.1 in
    let end = c.in-Err.ensures.err in
    omega (arith, wide, end.inside)

pub returns-in-Ok-clause-exact : goal.returns-in-Ok-clause-exact
returns-in-Ok-clause-exact g c = λ coded s stand.
    let a = c.args.frame.now.checked.now in
    let conf = a.configuration in
    let line = c.args.line.now in
    let here = (goal.at.returns-in-Ok-clause-exact g c).In-Rct in
    let long : length c.finish_colours.new.out ≡ line.count * width_bytes conf =
    c.finish_colours.auto.out ∙ c.requires.out in
    colours_finished conf line.first line.count line.y c.args.samples.now s stand (yes g here)
    (flat g here).1 (all g here).0
    (all g here).1 (flat g here).0 c.finish_colours.new.out long c.are_bytes.ensures
    c.in-Ok.ensures.ok

pub returns-in-Err-clause-exact : goal.returns-in-Err-clause-exact
returns-in-Err-clause-exact g c = λ coded s stand.
    let a = c.args.frame.now.checked.now in
    let conf = a.configuration in
    let line = c.args.line.now in
    let here = (goal.at.returns-in-Err-clause-exact g c).In-Rct in
    let missing = colours_missing conf line.first line.count line.y c.args.samples.now s stand
    (yes g here)
    (flat g here).1 (all g here).0 (all g here).1 (flat g here).0 c.in-Err.x c.in-Err.ensures.err in
    let f = c.colourless.ensures.fault in
    (c.in-Err.x, f.0, missing, f.1, f.2, refl)

pub copy_to-requires-clause-out : goal.copy_to-requires-clause-out
copy_to-requires-clause-out g c = grind (arith, common_steps)
