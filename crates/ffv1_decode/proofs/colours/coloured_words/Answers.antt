-- Red, green and blue of a line of samples of more than 8 bits, or the first place that has none.
use Rattle.std.proofs.Common.{◌≡◌, ◌++◌, ◌*◌, ◌∙◌, sym, subst, length, arith}
use Rattle.std.proofs.lemmas.Result.{on_ok_weaker}
use Rattle.ffv1_samples.specs.Samples.{samples_of}
use Rattle.ffv1_decode.specs.Internal.Finished.{AreMade}
use Rattle.ffv1_decode.proofs.lemmas.colours.Outcomes.{err_all}
use Rattle.ffv1_decode.proofs.lemmas.finish.FinishedLines.{plain, green_at, blue_at, three_parts, in_order}
use Rattle.ffv1_decode.proofs.lemmas.finish.FinishedLines.{colours_end}
use Rattle.ffv1_frame.proofs.lemmas.picture.Words.{words_long, three_samples}
use Rattle.ffv1_decode.proofs.colours.coloured_words.Goals.{After-split_at-2}
use Rattle.ffv1_decode.proofs.colours.coloured_words.Goals as goal

-- the lines of the three coded planes
module _ (c : After-split_at-2) where
  parts_are : c.args.samples.now ≡ c.split_at.result.0.now
      ++ (c.split_at-2.result.0.now ++ c.split_at-2.result.1.now)
  parts_are = three_parts c.args.words.now.width c.args.samples.now c.split_at.result.0.now
      c.split_at.result.1.now c.split_at-2.result.0.now c.split_at-2.result.1.now
      c.split_at.ensures.front c.split_at.ensures.back c.split_at-2.ensures.front
      c.split_at-2.ensures.back

  last_long : length c.split_at-2.result.1.now ≡ c.args.words.now.width
  last_long = omega (
    arith,
    c.split_at.ensures.back_len,
    c.split_at-2.ensures.back_len,
    c.requires.samples,
  )

pub returns-clause-ok : goal.returns-clause-ok
returns-clause-ok c =
    let k = c.args.words.now in
    let w = k.width in
    let d = k.depth in
    let here = (goal.at.returns-clause-ok c).After-split_at-2 in
    let red = c.inverse_in_order.new.red in
    let second = c.inverse_in_order.new.second in
    let third = c.inverse_in_order.new.third in
    let red_long : length red ≡ 2 * w = c.inverse_in_order.auto.red ∙
    c.split_at_mut-red.ensures.front_len in
    let second_long : length second ≡ 2 * w = c.inverse_in_order.auto.second ∙
    c.split_at_mut-second.ensures.front_len in
    let third_long : length third ≡ 2 * w = c.inverse_in_order.auto.third ∙
    omega (
      arith,
      c.split_at_mut-red.ensures.back_len,
      c.split_at_mut-second.ensures.back_len,
      c.requires.out,
    ) in
    let all = three_samples d w c.requires.deep red second third red_long second_long in
    let long = words_long d w c.requires.deep in
    on_ok_weaker c.inverse_in_order.result (λ made.
    subst (AreMade (plain d w (green_at k.swaps) (blue_at k.swaps)) c.args.samples.now) (sym all)
    (in_order k.swaps d w c.args.samples.now c.split_at.result.0.now c.split_at-2.result.0.now
    c.split_at-2.result.1.now (samples_of d red) (samples_of d second) (samples_of d third)
    (parts_are here) c.split_at.ensures.front_len c.split_at-2.ensures.front_len (last_long here)
    (long red red_long) (long second second_long) (long third third_long) made))
    c.inverse_in_order.ensures.ok

pub returns-clause-err : goal.returns-clause-err
returns-clause-err c =
    let k = c.args.words.now in
    let here = (goal.at.returns-clause-err c).After-split_at-2 in
    err_all c.inverse_in_order.result c.inverse_in_order.ensures.inside
    c.inverse_in_order.ensures.filled c.inverse_in_order.ensures.none
    (λ x inside filled none. colours_end k.width c.args.samples.now c.split_at.result.0.now
    c.split_at-2.result.0.now c.split_at-2.result.1.now (parts_are here)
    c.split_at.ensures.front_len c.split_at-2.ensures.front_len (last_long here) k.depth
    (green_at k.swaps) (blue_at k.swaps) _ _ _ x inside filled none)
