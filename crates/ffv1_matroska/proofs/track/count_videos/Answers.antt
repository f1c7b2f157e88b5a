-- Counts the entries of FFV1 video of Tracks, up to the first element that can't be read.
use Rattle.std.proofs.Common.{◌≡◌, ◌∙◌, ◌<◌, Some, Ok, length, sym, arith, refl}
use Rattle.ffv1_ebml.specs.Children.{part_of}
use Rattle.ffv1_ebml.specs.Contents.{first_part}
use Rattle.ffv1_matroska.proofs.TrackWalks.{videos_cut, videos_end, videos_next}
use Rattle.ffv1_matroska.proofs.track.count_videos.Goals as goal

pub loop-child-init : goal.loop-child-init
loop-child-init c = (length c.args.content.now, omega arith, refl)

pub loop-child-preserved : goal.loop-child-preserved
loop-child-preserved c =
    let inv = c.loop-child.invariant in
    let first : first_part c.loop-child.rest.now ≡ Ok (Some (part_of c.in-Some.child)) =
    sym (c.in_ok-child.ensures.value) ∙ (rw c.in-Some.is refl) in
    let shorter = rw c.in-Some.is at c.in_ok-child.ensures.less in
    let less : length c.in-Some.child.rest.now < length c.loop-child.rest.now =
    omega (arith, shorter) in
    let next = videos_next inv.0 c.loop-child.count c.loop-child.rest.now (part_of c.in-Some.child)
    first inv.1 less in
    rw c.videos_with.ensures (next.0, next.1, inv.2 ∙ next.2)

pub returns-in_err-child : goal.returns-in_err-child
returns-in_err-child c =
    let inv = c.loop-child.invariant in
    sym (inv.2 ∙ videos_cut inv.0 c.loop-child.count c.loop-child.rest.now _
    (sym c.in_err-child.ensures.value))

pub returns : goal.returns
returns c =
    let inv = c.loop-child.invariant in
    sym (inv.2 ∙ videos_end inv.0 c.loop-child.count c.loop-child.rest.now
    (sym c.in_ok-child.ensures.value ∙ (rw c.in_default.is refl)))
