-- Both, or the first place that has no colour or no transparency of 8 bits.
use Rattle.std.proofs.Common.{◌≡◌, ℕ, ◌*◌, ◌<◌, ◌++◌, ◌∙◌, subst, length, take}
use Rattle.std.proofs.Common.{slice_index, arith}
use Rattle.std.proofs.lemmas.Result.{err_from_is_err_and}
use Rattle.std.proofs.lemmas.List.{get_or-take, length-take-le}
use Rattle.ffv1_decode.proofs.lemmas.colours.Outcomes.{ok_both, err_all}
use Rattle.ffv1_decode.proofs.lemmas.finish.FinishedLines.{two_parts, both_made, alpha_end, colour_end, sooner_end}
use Rattle.ffv1_decode.proofs.colours.transparent_colours.Goals.{After-split_at}
use Rattle.ffv1_decode.proofs.colours.transparent_colours.Goals as goal

-- the coded samples, and beside them those of transparency
module _ (c : After-split_at) where
  parts_are : c.args.samples.now ≡ c.split_at.result.0.now ++ c.split_at.result.1.now
  parts_are = two_parts (3 * c.args.width) c.args.samples.now c.split_at.result.0.now
      c.split_at.result.1.now c.split_at.ensures.front c.split_at.ensures.back

  rest_long : length c.split_at.result.1.now ≡ c.args.width
  rest_long = omega (arith, c.split_at.ensures.back_len, c.requires.samples)

pub returns-in-Ok-clause-ok : goal.returns-in-Ok-clause-ok
returns-in-Ok-clause-ok c =
    let w = c.args.width in
    let coded = c.split_at.result.0.now in
    let alpha = c.split_at.result.1.now in
    let here = (goal.at.returns-in-Ok-clause-ok c).After-split_at in
    let is = parts_are here in
    let coded_long : length coded ≡ 3 * w = c.split_at.ensures.front_len in
    let alpha_long = rest_long here in
    let long : length c.colours.new.out ≡ 3 * w = c.colours.auto.out ∙
    c.split_at_mut-three.ensures.front_len in
    ok_both c.transparency.result c.transparency.ensures.ok c.transparency.ensures.small
    (λ u made small. both_made w c.args.samples.now coded alpha is coded_long alpha_long 8 1 2
    (omega arith) (omega arith) c.colours.new.out c.transparency.new.out long c.in-Ok.ensures.ok
    made small)

pub returns-in-Ok-clause-err : goal.returns-in-Ok-clause-err
returns-in-Ok-clause-err c =
    let w = c.args.width in
    let coded = c.split_at.result.0.now in
    let alpha = c.split_at.result.1.now in
    let here = (goal.at.returns-in-Ok-clause-err c).After-split_at in
    let is = parts_are here in
    let coded_long : length coded ≡ 3 * w = c.split_at.ensures.front_len in
    let alpha_long = rest_long here in
    err_all c.transparency.result c.transparency.ensures.inside c.transparency.ensures.before
    c.transparency.ensures.above
    (λ x inside before above. alpha_end w c.args.samples.now coded alpha is coded_long alpha_long 8
    1 2 c.colours.new.out x c.in-Ok.ensures.ok inside before above)

pub returns-in_ok-transparency-in-Err-clause-err : goal.returns-in_ok-transparency-in-Err-clause-err
returns-in_ok-transparency-in-Err-clause-err c =
    let w = c.args.width in
    let coded = c.split_at.result.0.now in
    let alpha = c.split_at.result.1.now in
    let here = (goal.at.returns-in_ok-transparency-in-Err-clause-err c).After-split_at in
    let is = parts_are here in
    let coded_long : length coded ≡ 3 * w = c.split_at.ensures.front_len in
    let alpha_long = rest_long here in
    let x = c.in-Err.x in
    let small : (y : ℕ) → y < x → slice_index alpha y < 256 = λ y h. subst (λ z. z < 256)
    (get_or-take x alpha y 0 h) (c.in_ok-transparency-in-Err.ensures.small y) in
    colour_end w c.args.samples.now coded alpha is coded_long alpha_long 8 1 2 x
    c.in-Err.ensures.err small

pub returns-in_err-transparency-in-Err-clause-err :
    goal.returns-in_err-transparency-in-Err-clause-err
returns-in_err-transparency-in-Err-clause-err c =
    let w = c.args.width in
    let coded = c.split_at.result.0.now in
    let alpha = c.split_at.result.1.now in
    let here = (goal.at.returns-in_err-transparency-in-Err-clause-err c).After-split_at in
    let is = parts_are here in
    let coded_long : length coded ≡ 3 * w = c.split_at.ensures.front_len in
    let alpha_long = rest_long here in
    let x = c.in-Err.x in
    let y = c.in_err-transparency-in-Err.field-0.0 in
    let end = c.in-Err.ensures.err in
    let taken : length (take x alpha) ≡ x = length-take-le x alpha
    (omega (arith, end.inside, alpha_long)) in
    let less : y < x = omega (arith, c.in_err-transparency-in-Err.ensures.inside, taken) in
    let before : (z : ℕ) → z < y → slice_index alpha z < 256 = λ z h. subst (λ v. v < 256)
    (get_or-take x alpha z 0 (omega (arith, h, less)))
    (c.in_err-transparency-in-Err.ensures.before z h) in
    let above : 255 < slice_index alpha y = subst (λ v. 255 < v) (get_or-take x alpha y 0 less)
    c.in_err-transparency-in-Err.ensures.above in
    let stop = err_from_is_err_and c.from_residual.result c.from_residual.ensures.1 in
    rw (stop.1, stop.2) (sooner_end w c.args.samples.now coded alpha is coded_long alpha_long 8 1 2
    x y end less before above)
