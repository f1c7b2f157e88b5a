-- The track that the content of Tracks says: its first entry of FFV1 video.
use Rattle.std.proofs.Common.{◌≡◌, ◌∙◌, ◌<◌, Some, None, Ok, length, sym, arith, refl}
use Rattle.std.proofs.lemmas.Result.{err_from_is_err_and}
use Rattle.ffv1_ebml.specs.Children.{part_of}
use Rattle.ffv1_ebml.specs.Contents.{first_part}
use Rattle.ffv1_matroska.specs.Internal.{track_lent}
use Rattle.ffv1_matroska.specs.Tracks.{track_at}
use Rattle.ffv1_matroska.proofs.TrackWalks.{judged, track_bad, track_cut, track_here, track_next}
use Rattle.ffv1_matroska.proofs.TrackWalks.{track_none}
use Rattle.ffv1_matroska.proofs.track.first_track.Goals as goal

pub loop-child-init : goal.loop-child-init
loop-child-init c = (length c.args.content.now, omega arith, omega arith, refl)

pub loop-child-preserved : goal.loop-child-preserved
loop-child-preserved c =
    let inv = c.loop-child.invariant in
    let first : first_part c.loop-child.rest.now ≡ Ok (Some (part_of c.in-Some.child)) =
    sym (c.in_ok-child.ensures.value) ∙ (rw c.in-Some.is refl) in
    let none : track_at c.in-Some.child.ident c.in-Some.child.content.now ≡ Ok None =
    sym c.in_ok-track.ensures.value ∙ (rw c.in_default-2.is refl) in
    let shorter = rw c.in-Some.is at c.in_ok-child.ensures.less in
    let less : length c.in-Some.child.rest.now < length c.loop-child.rest.now =
    omega (arith, shorter) in
    let next = track_next inv.0 c.loop-child.rest.now (part_of c.in-Some.child) first none inv.1
    less in
    (next.0, next.1, omega (arith, less, inv.2), inv.3 ∙ next.2)

pub returns-in-Some-2-clause-value : goal.returns-in-Some-2-clause-value
returns-in-Some-2-clause-value c =
    let inv = c.loop-child.invariant in
    let first : first_part c.loop-child.rest.now ≡ Ok (Some (part_of c.in-Some.child)) =
    sym (c.in_ok-child.ensures.value) ∙ (rw c.in-Some.is refl) in
    let some : track_at c.in-Some.child.ident c.in-Some.child.content.now ≡ Ok
    (Some (track_lent c.in-Some-2.track)) = sym c.in_ok-track.ensures.value ∙
    (rw c.in-Some-2.is refl) in
    let shorter = rw c.in-Some.is at c.in_ok-child.ensures.less in
    let less : length c.in-Some.child.rest.now < length c.loop-child.rest.now =
    omega (arith, shorter) in
    sym (judged c.args.content.now _ _ _ c.in_ok-judge.ensures inv.3
    (track_here inv.0 c.loop-child.rest.now (part_of c.in-Some.child)
    (track_lent c.in-Some-2.track) first some inv.1 less))

pub returns-in_err-child-clause-value : goal.returns-in_err-child-clause-value
returns-in_err-child-clause-value c =
    let p = err_from_is_err_and c.from_residual-in_err-child.result
    c.from_residual-in_err-child.ensures.1 in
    let inv = c.loop-child.invariant in
    rw (p.1, p.2) (sym (judged c.args.content.now _ _ _ c.in_ok-judge.ensures inv.3
    (track_cut inv.0 c.loop-child.rest.now _ (sym c.in_err-child.ensures.value) inv.1)))

pub returns-in_err-track-clause-value : goal.returns-in_err-track-clause-value
returns-in_err-track-clause-value c =
    let p = err_from_is_err_and c.from_residual-in_err-track.result
    c.from_residual-in_err-track.ensures.1 in
    let inv = c.loop-child.invariant in
    let first : first_part c.loop-child.rest.now ≡ Ok (Some (part_of c.in-Some.child)) =
    sym (c.in_ok-child.ensures.value) ∙ (rw c.in-Some.is refl) in
    let shorter = rw c.in-Some.is at c.in_ok-child.ensures.less in
    let less : length c.in-Some.child.rest.now < length c.loop-child.rest.now =
    omega (arith, shorter) in
    rw (p.1, p.2) (sym (judged c.args.content.now _ _ _ c.in_ok-judge.ensures inv.3
    (track_bad inv.0 c.loop-child.rest.now (part_of c.in-Some.child) _ first
    (sym c.in_err-track.ensures.value) inv.1 less)))

pub returns-clause-value : goal.returns-clause-value
returns-clause-value c =
    let inv = c.loop-child.invariant in
    sym (judged c.args.content.now _ _ _ c.in_ok-judge.ensures inv.3
    (track_none inv.0 c.loop-child.rest.now
    (sym c.in_ok-child.ensures.value ∙ (rw c.in_default.is refl))))
