-- Both, or the first place that has no colour or no transparency of so many bits.
use Rattle.std.proofs.Common.{◌≡◌, ℕ, ◌*◌, ◌^◌, ◌<◌, ◌≤◌, ◌++◌, ◌∙◌, ap, sym, subst, length, take}
use Rattle.std.proofs.Common.{slice_index, arith}
use Rattle.std.proofs.lemmas.Result.{err_from_is_err_and}
use Rattle.std.proofs.lemmas.List.{get_or-take, length-take-le}
use Rattle.ffv1_decode.proofs.lemmas.colours.Outcomes.{ok_both, err_all}
use Rattle.ffv1_samples.specs.Samples.{samples_of}
use Rattle.ffv1_samples.proofs.Depths.{samples_back}
use Rattle.ffv1_decode.specs.Internal.Finished.{AreMade}
use Rattle.ffv1_frame.proofs.lemmas.picture.Words.{words_append, words_long}
use Rattle.ffv1_decode.proofs.lemmas.finish.FinishedLines.{full, two_parts, both_made, alpha_end, colour_end}
use Rattle.ffv1_decode.proofs.lemmas.finish.FinishedLines.{sooner_end, green_at, blue_at, green_few, blue_few}
use Rattle.ffv1_decode.proofs.colours.transparent_words.Goals.{After-split_at}
use Rattle.ffv1_decode.proofs.colours.transparent_words.Goals as goal

-- the coded samples, and beside them those of transparency
module _ (c : After-split_at) where
  parts_are : c.args.samples.now ≡ c.split_at.result.0.now ++ c.split_at.result.1.now
  parts_are = two_parts (3 * c.args.words.now.width) c.args.samples.now c.split_at.result.0.now
      c.split_at.result.1.now c.split_at.ensures.front c.split_at.ensures.back

  rest_long : length c.split_at.result.1.now ≡ c.args.words.now.width
  rest_long = omega (arith, c.split_at.ensures.back_len, c.requires.samples)

pub returns-in-Ok-clause-ok : goal.returns-in-Ok-clause-ok
returns-in-Ok-clause-ok c =
    let k = c.args.words.now in
    let w = k.width in
    let d = k.depth in
    let coded = c.split_at.result.0.now in
    let alpha = c.split_at.result.1.now in
    let here = (goal.at.returns-in-Ok-clause-ok c).After-split_at in
    let is = parts_are here in
    let coded_long : length coded ≡ 3 * w = c.split_at.ensures.front_len in
    let alpha_long = rest_long here in
    let three = c.coloured_words.new.out in
    let fourth = c.transparency_words.new.out in
    let room : length three ≡ 2 * (3 * w) = c.coloured_words.auto.out ∙
    c.split_at_mut-three.ensures.front_len in
    let long : length (samples_of d three) ≡ 3 * w = words_long d (3 * w) c.requires.deep three
    room in
    let all = words_append d (3 * w) c.requires.deep three fourth room in
    ok_both c.transparency_words.result c.transparency_words.ensures.ok
    c.transparency_words.ensures.small
    (λ u made small. subst (AreMade (full d w (green_at k.swaps) (blue_at k.swaps))
    c.args.samples.now) (sym all)
    (both_made w c.args.samples.now coded alpha is coded_long alpha_long d (green_at k.swaps)
    (blue_at k.swaps) (green_few k.swaps) (blue_few k.swaps) (samples_of d three) (samples_of d
    fourth) long c.in-Ok.ensures.ok
    (ap (samples_of d) made ∙ samples_back d alpha) small))

pub returns-in-Ok-clause-err : goal.returns-in-Ok-clause-err
returns-in-Ok-clause-err c =
    let k = c.args.words.now in
    let w = k.width in
    let d = k.depth in
    let coded = c.split_at.result.0.now in
    let alpha = c.split_at.result.1.now in
    let here = (goal.at.returns-in-Ok-clause-err c).After-split_at in
    let is = parts_are here in
    let coded_long : length coded ≡ 3 * w = c.split_at.ensures.front_len in
    let alpha_long = rest_long here in
    err_all c.transparency_words.result c.transparency_words.ensures.inside
    c.transparency_words.ensures.before c.transparency_words.ensures.above
    (λ x inside before above. alpha_end w c.args.samples.now coded alpha is coded_long alpha_long d
    (green_at k.swaps) (blue_at k.swaps) (samples_of d c.coloured_words.new.out) x
    c.in-Ok.ensures.ok inside before above)

pub returns-in_ok-transparency_words-in-Err-clause-err :
    goal.returns-in_ok-transparency_words-in-Err-clause-err
returns-in_ok-transparency_words-in-Err-clause-err c =
    let k = c.args.words.now in
    let w = k.width in
    let d = k.depth in
    let coded = c.split_at.result.0.now in
    let alpha = c.split_at.result.1.now in
    let here = (goal.at.returns-in_ok-transparency_words-in-Err-clause-err c).After-split_at in
    let is = parts_are here in
    let coded_long : length coded ≡ 3 * w = c.split_at.ensures.front_len in
    let alpha_long = rest_long here in
    let x = c.in-Err.x in
    let small : (y : ℕ) → y < x → slice_index alpha y < 2 ^ d = λ y h. subst (λ z. z < 2 ^ d)
    (get_or-take x alpha y 0 h) (c.in_ok-transparency_words-in-Err.ensures.small y) in
    colour_end w c.args.samples.now coded alpha is coded_long alpha_long d
    (green_at k.swaps) (blue_at k.swaps) x
    c.in-Err.ensures.err small

pub returns-in_err-transparency_words-in-Err-clause-err :
    goal.returns-in_err-transparency_words-in-Err-clause-err
returns-in_err-transparency_words-in-Err-clause-err c =
    let k = c.args.words.now in
    let w = k.width in
    let d = k.depth in
    let coded = c.split_at.result.0.now in
    let alpha = c.split_at.result.1.now in
    let here = (goal.at.returns-in_err-transparency_words-in-Err-clause-err c).After-split_at in
    let is = parts_are here in
    let coded_long : length coded ≡ 3 * w = c.split_at.ensures.front_len in
    let alpha_long = rest_long here in
    let x = c.in-Err.x in
    let y = c.in_err-transparency_words-in-Err.field-0.0 in
    let end = c.in-Err.ensures.err in
    let taken : length (take x alpha) ≡ x = length-take-le x alpha
    (omega (arith, end.inside, alpha_long)) in
    let less : y < x = omega (arith, c.in_err-transparency_words-in-Err.ensures.inside, taken) in
    let before : (z : ℕ) → z < y → slice_index alpha z < 2 ^ d = λ z h. subst (λ v. v < 2 ^ d)
    (get_or-take x alpha z 0 (omega (arith, h, less)))
    (c.in_err-transparency_words-in-Err.ensures.before z h) in
    let above : 2 ^ d ≤ slice_index alpha y = subst (λ v. 2 ^ d ≤ v) (get_or-take x alpha y 0 less)
    c.in_err-transparency_words-in-Err.ensures.above in
    let stop = err_from_is_err_and c.from_residual.result c.from_residual.ensures.1 in
    rw (stop.1, stop.2) (sooner_end w c.args.samples.now coded alpha is coded_long alpha_long d
    (green_at k.swaps) (blue_at k.swaps) x y end less before above)
