-- Red, green and blue of a line, or the first place that has none.
use Rattle.std.proofs.Common.{◌≡◌, ◌++◌, ◌∙◌, length, arith}
use Rattle.ffv1_decode.proofs.lemmas.finish.FinishedLines.{line_0, line_1, line_2, three_parts, colours_made}
use Rattle.ffv1_decode.proofs.lemmas.finish.FinishedLines.{colours_end}
use Rattle.ffv1_decode.proofs.colours.colours.Goals.{After-split_at-2}
use Rattle.ffv1_decode.proofs.colours.colours.Goals as goal

-- the lines of the three coded planes
module _ (c : After-split_at-2) where
  parts_are : c.args.samples.now ≡ c.split_at.result.0.now
      ++ (c.split_at-2.result.0.now ++ c.split_at-2.result.1.now)
  parts_are = three_parts c.args.width c.args.samples.now c.split_at.result.0.now
      c.split_at.result.1.now
      c.split_at-2.result.0.now c.split_at-2.result.1.now c.split_at.ensures.front
      c.split_at.ensures.back c.split_at-2.ensures.front c.split_at-2.ensures.back

  last_long : length c.split_at-2.result.1.now ≡ c.args.width
  last_long = omega (
    arith,
    c.split_at.ensures.back_len,
    c.split_at-2.ensures.back_len,
    c.requires.samples,
  )

pub returns-in-Ok-clause-ok : goal.returns-in-Ok-clause-ok
returns-in-Ok-clause-ok c =
    let w = c.args.width in
    let y = c.split_at.result.0.now in
    let cb = c.split_at-2.result.0.now in
    let cr = c.split_at-2.result.1.now in
    let here = (goal.at.returns-in-Ok-clause-ok c).After-split_at-2 in
    let is = parts_are here in
    let y_long : length y ≡ w = c.split_at.ensures.front_len in
    let cb_long : length cb ≡ w = c.split_at-2.ensures.front_len in
    let cr_long = last_long here in
    let r_long : length c.inverse_line.new.r ≡ w = c.inverse_line.auto.r ∙
    c.split_at_mut-red.ensures.front_len in
    let g_long : length c.inverse_line.new.g ≡ w = c.inverse_line.auto.g ∙
    c.split_at_mut-green.ensures.front_len in
    let b_long : length c.inverse_line.new.b ≡ w = c.inverse_line.auto.b ∙
    omega (
      arith,
      c.split_at_mut-red.ensures.back_len,
      c.split_at_mut-green.ensures.back_len,
      c.requires.out,
    ) in
    let r = c.inverse_line.new.r in
    let g = c.inverse_line.new.g in
    let b = c.inverse_line.new.b in
    colours_made w c.args.samples.now y cb cr is y_long cb_long cr_long 8 1 2 (r ++ (g ++ b)) r g b
    (line_0 w r g b r_long g_long b_long) (line_1 w r g b r_long g_long b_long)
    (line_2 w r g b r_long g_long b_long) c.in-Ok.ensures.ok

pub returns-in-Err-clause-err : goal.returns-in-Err-clause-err
returns-in-Err-clause-err c =
    let w = c.args.width in
    let y = c.split_at.result.0.now in
    let cb = c.split_at-2.result.0.now in
    let cr = c.split_at-2.result.1.now in
    let here = (goal.at.returns-in-Err-clause-err c).After-split_at-2 in
    let is = parts_are here in
    let y_long : length y ≡ w = c.split_at.ensures.front_len in
    let cb_long : length cb ≡ w = c.split_at-2.ensures.front_len in
    let cr_long = last_long here in
    colours_end w c.args.samples.now y cb cr is y_long cb_long cr_long 8 1 2 c.inverse_line.new.r
    c.inverse_line.new.g c.inverse_line.new.b c.in-Err.none.x c.in-Err.ensures.inside
    c.in-Err.ensures.filled c.in-Err.ensures.none
