-- Adds the numbers of the entries of Tracks, up to the first element that can't be read.
use Rattle.std.proofs.Common.{◌≡◌, ◌∙◌, ◌<◌, Some, Ok, length, sym, arith, refl}
use Rattle.ffv1_ebml.specs.Children.{part_of}
use Rattle.ffv1_ebml.specs.Contents.{first_part}
use Rattle.ffv1_matroska.proofs.TrackWalks.{known_bad, known_cut, known_end, known_next}
use Rattle.ffv1_matroska.proofs.track.gather.Goals as goal

pub loop-child-init : goal.loop-child-init
loop-child-init c = (length c.args.content.now, omega arith, refl)

pub loop-child-preserved : goal.loop-child-preserved
loop-child-preserved c =
    let inv = c.loop-child.invariant in
    let first : first_part c.loop-child.rest.now ≡ Ok (Some (part_of c.in-Some.child)) =
    sym (c.in_ok-child.ensures.value) ∙ (rw c.in-Some.is refl) in
    let shorter = rw c.in-Some.is at c.in_ok-child.ensures.less in
    let less : length c.in-Some.child.rest.now < length c.loop-child.rest.now =
    omega (arith, shorter) in
    let next = known_next inv.0 c.loop-child.known c.loop-child.rest.now (part_of c.in-Some.child)
    _ first (sym c.in_ok-known.ensures) inv.1 less in
    (next.0, next.1, inv.2 ∙ next.2)

pub returns-in_err-child : goal.returns-in_err-child
returns-in_err-child c =
    let inv = c.loop-child.invariant in
    sym (inv.2 ∙ known_cut inv.0 c.loop-child.known c.loop-child.rest.now _
    (sym c.in_err-child.ensures.value))

pub returns-in_err-known : goal.returns-in_err-known
returns-in_err-known c =
    let inv = c.loop-child.invariant in
    let first : first_part c.loop-child.rest.now ≡ Ok (Some (part_of c.in-Some.child)) =
    sym (c.in_ok-child.ensures.value) ∙ (rw c.in-Some.is refl) in
    sym (inv.2 ∙ known_bad inv.0 c.loop-child.known c.loop-child.rest.now
    (part_of c.in-Some.child) _ first (sym c.in_err-known.ensures))

pub returns : goal.returns
returns c =
    let inv = c.loop-child.invariant in
    sym (inv.2 ∙ known_end inv.0 c.loop-child.known c.loop-child.rest.now
    (sym c.in_ok-child.ensures.value ∙ (rw c.in_default.is refl)))
