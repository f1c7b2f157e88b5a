-- Red, green and blue of a line, or the first place that has none.
use Rattle.std.proofs.Common.{◌≡◌, ◌++◌, ◌*◌, ◌<◌, ℕ, ◌∙◌, sym, subst, length, arith}
use Rattle.ffv1_samples.specs.Samples.{samples_of}
use Rattle.ffv1_decode.specs.Internal.Finished.{AreMade}
use Rattle.ffv1_decode.proofs.lemmas.finish.FinishedLines.{line_0, line_1, line_2, plain, three_parts}
use Rattle.ffv1_decode.proofs.lemmas.finish.FinishedLines.{colours_made, colours_end}
use Rattle.ffv1_frame.proofs.lemmas.picture.Words.{words_long, three_samples}
use Rattle.ffv1_decode.proofs.wide_colours.straight.Goals.{After-split_at-2}
use Rattle.ffv1_decode.proofs.wide_colours.straight.Goals as goal

-- the lines of the three coded planes
module _ (c : After-split_at-2) where
  parts_are : c.args.samples.now ≡ c.split_at.result.0.now
      ++ (c.split_at-2.result.0.now ++ c.split_at-2.result.1.now)
  parts_are = three_parts c.args.width c.args.samples.now c.split_at.result.0.now
      c.split_at.result.1.now
      c.split_at-2.result.0.now c.split_at-2.result.1.now c.split_at.ensures.front
      c.split_at.ensures.back c.split_at-2.ensures.front c.split_at-2.ensures.back

  last_long : length c.split_at-2.result.1.now ≡ c.args.width
  last_long = omega (
    arith,
    c.split_at.ensures.back_len,
    c.split_at-2.ensures.back_len,
    c.requires.samples,
  )

pub returns-in-Ok-clause-ok : goal.returns-in-Ok-clause-ok
returns-in-Ok-clause-ok c =
    let w = c.args.width in
    let d : ℕ = 16 in
    let deep : 8 < 16 = omega arith in
    let y = c.split_at.result.0.now in
    let cb = c.split_at-2.result.0.now in
    let cr = c.split_at-2.result.1.now in
    let here = (goal.at.returns-in-Ok-clause-ok c).After-split_at-2 in
    let is = parts_are here in
    let y_long : length y ≡ w = c.split_at.ensures.front_len in
    let cb_long : length cb ≡ w = c.split_at-2.ensures.front_len in
    let cr_long = last_long here in
    let red = c.inverse_wide.new.r in
    let second = c.inverse_wide.new.g in
    let third = c.inverse_wide.new.b in
    let red_long : length red ≡ 2 * w = c.inverse_wide.auto.r ∙
    c.split_at_mut-red.ensures.front_len in
    let second_long : length second ≡ 2 * w = c.inverse_wide.auto.g ∙
    c.split_at_mut-green.ensures.front_len in
    let third_long : length third ≡ 2 * w = c.inverse_wide.auto.b ∙
    omega (
      arith,
      c.split_at_mut-red.ensures.back_len,
      c.split_at_mut-green.ensures.back_len,
      c.requires.out,
    ) in
    let all = three_samples d w deep red second third red_long second_long in
    let r = samples_of d red in
    let s = samples_of d second in
    let t = samples_of d third in
    let r_long = words_long d w deep red red_long in
    let s_long = words_long d w deep second second_long in
    let t_long = words_long d w deep third third_long in
    let made : AreMade (plain d w 1 2) c.args.samples.now (r ++ (s ++ t)) =
    colours_made w c.args.samples.now y cb cr is y_long cb_long cr_long d 1 2 (r ++ (s ++ t)) r s t
    (line_0 w r s t r_long s_long t_long) (line_1 w r s t r_long s_long t_long)
    (line_2 w r s t r_long s_long t_long) c.in-Ok.ensures.ok in
    subst (AreMade (plain d w 1 2) c.args.samples.now) (sym all) made

pub returns-in-Err-clause-err : goal.returns-in-Err-clause-err
returns-in-Err-clause-err c =
    let w = c.args.width in
    let d : ℕ = 16 in
    let y = c.split_at.result.0.now in
    let cb = c.split_at-2.result.0.now in
    let cr = c.split_at-2.result.1.now in
    let here = (goal.at.returns-in-Err-clause-err c).After-split_at-2 in
    let is = parts_are here in
    let y_long : length y ≡ w = c.split_at.ensures.front_len in
    let cb_long : length cb ≡ w = c.split_at-2.ensures.front_len in
    let cr_long = last_long here in
    colours_end w c.args.samples.now y cb cr is y_long cb_long cr_long d 1 2
    (samples_of d c.inverse_wide.new.r) (samples_of d c.inverse_wide.new.g)
    (samples_of d c.inverse_wide.new.b) c.in-Err.none.x c.in-Err.ensures.inside
    c.in-Err.ensures.filled c.in-Err.ensures.none
