-- The header of the first stream of video in a list `hdrl`, or no bytes if there is none.
use Rattle.std.proofs.Common.{◌≡◌, ◌∙◌, true, false, sym, refl, ap, length, arith}
use Rattle.ffv1_outline.specs.AviOutline.{avi_step, header_in, is_video}
use Rattle.ffv1_outline.specs.Steps.{slices}
use Rattle.ffv1_outline.specs.Tracks as tracks
use Rattle.ffv1_outline.specs.declared.tracks.Step.{Step}
use Rattle.ffv1_outline.proofs.VideoSearch.{video_here, video_none, video_on}
use Rattle.ffv1_outline.proofs.avi_outline.video_header.Goals as goal

abbrev seen : Step → tracks.Step
seen s = record { track = slices s.track; rest = s.rest.now }

pub loop-step-init : goal.loop-step-init
loop-step-init c = (length c.args.hdrl.now, omega arith, refl)

pub loop-step-preserved : goal.loop-step-preserved
loop-step-preserved c =
    let inv = c.loop-step.invariant in
    let value = rw c.in-Some.is at c.avi_step.ensures.value in
    let less = rw c.in-Some.is at c.avi_step.ensures.less in
    let other : is_video (header_in (slices c.in-Some.step.track)) ≡ false =
    ap is_video (sym c.header_in-header.ensures) ∙ sym c.if-is_video.ensures in
    let on = video_on avi_step inv.0 c.loop-step.rest.now (seen c.in-Some.step) inv.1
    (sym value) less other in
    (on.0, on.1, sym on.2 ∙ inv.2)

pub returns-then-is_video : goal.returns-then-is_video
returns-then-is_video c =
    let inv = c.loop-step.invariant in
    let value = rw c.in-Some.is at c.avi_step.ensures.value in
    let less = rw c.in-Some.is at c.avi_step.ensures.less in
    let video : is_video (header_in (slices c.in-Some.step.track)) ≡ true =
    ap is_video (sym c.header_in-header.ensures) ∙ sym c.if-is_video.ensures in
    c.header_in-header.ensures
    ∙ sym (video_here avi_step inv.0 c.loop-step.rest.now (seen c.in-Some.step) inv.1 (sym value)
    less video) ∙ inv.2

pub returns : goal.returns
returns c =
    let inv = c.loop-step.invariant in
    let value = rw c.in_default.is at c.avi_step.ensures.value in
    sym (video_none avi_step inv.0 c.loop-step.rest.now (sym value)) ∙ inv.2
