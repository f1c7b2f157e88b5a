-- The scales of five tables by their runs, or why the runs make no set.
use Rattle.std.proofs.Common.{◌≡◌, ◌<◌, true, arith, rules}
use Rattle.ffv1_plane.specs.Quantisation.{is_filled}
use Rattle.ffv1_plane.proofs.Scales.{half_is, scaled}
use Rattle.ffv1_plane.proofs.quantisation.scales_of.Goals.{Else-scale-gt65536}
use Rattle.ffv1_plane.proofs.quantisation.scales_of.Goals as goal

-- the last scale is odd, so that it is below 65536
below : (c : Else-scale-gt65536) → c.scale_after-scale.result < 65536
below c =
    let ffirst : is_filled c.args.runs.now.first.now ≡ true = search rules in
    let fsecond : is_filled c.args.runs.now.second.now ≡ true = search rules in
    let fthird : is_filled c.args.runs.now.third.now ≡ true = search rules in
    let ffourth : is_filled c.args.runs.now.fourth.now ≡ true = search rules in
    let ffifth : is_filled c.args.runs.now.fifth.now ≡ true = search rules in
    let odd = half_is c.args.runs.now.first.now c.args.runs.now.second.now c.args.runs.now.third.now
    c.args.runs.now.fourth.now c.args.runs.now.fifth.now _ _ _ _ _ ffirst fsecond fthird ffourth
    ffifth
    c.scale_after-second_scale.ensures.value c.scale_after-third_scale.ensures.value
    c.scale_after-fourth_scale.ensures.value c.scale_after-fifth_scale.ensures.value
    c.scale_after-scale.ensures.value in
    omega (arith, odd, c.if-scale-gt65536.false)

pub overflow_cast-result-3 : goal.overflow_cast-result-3
overflow_cast-result-3 c =
    let below = below (goal.at.overflow_cast-result-3 c).Else-scale-gt65536 in
    let one = c.scale_after-fifth_scale.ensures.least in
    let two = c.scale_after-scale.ensures.least in
    omega arith

pub overflow_cast-result-4 : goal.overflow_cast-result-4
overflow_cast-result-4 c =
    let below = below (goal.at.overflow_cast-result-4 c).Else-scale-gt65536 in
    let two = c.scale_after-scale.ensures.least in
    omega arith

pub returns-clause-ok : goal.returns-clause-ok
returns-clause-ok c =
    let ffirst : is_filled c.args.runs.now.first.now ≡ true = search rules in
    let fsecond : is_filled c.args.runs.now.second.now ≡ true = search rules in
    let fthird : is_filled c.args.runs.now.third.now ≡ true = search rules in
    let ffourth : is_filled c.args.runs.now.fourth.now ≡ true = search rules in
    let ffifth : is_filled c.args.runs.now.fifth.now ≡ true = search rules in
    scaled c.args.runs.now.first.now c.args.runs.now.second.now c.args.runs.now.third.now
    c.args.runs.now.fourth.now c.args.runs.now.fifth.now _ _ _ _ _ ffirst fsecond fthird ffourth
    ffifth
    c.scale_after-second_scale.ensures.value c.scale_after-third_scale.ensures.value
    c.scale_after-fourth_scale.ensures.value c.scale_after-fifth_scale.ensures.value
    c.scale_after-scale.ensures.value c.if-scale-gt65536.false
