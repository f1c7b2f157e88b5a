-- Puts zeros in place of all lines that are missing.
use Rattle.std.proofs.Common.{◌≡◌, ◌<◌, ◌≤◌, ◌∙◌, ap, sym, subst, ℕ, List, length, get_or}
use Rattle.std.proofs.Common.{slice_set, inl, inr, arith}
use Rattle.std.specs.Vec.{vec_capacity}
use Rattle.std.specs.declared.vec.Vec.{Vec}
use Rattle.std.proofs.lemmas.Bool.{cases_eq}
use Rattle.std.proofs.lemmas.Grind.{common_steps}
use Rattle.ffv1_decode.specs.Filled.{filled, filled_planes, plane_size}
use Rattle.ffv1_frame.specs.Picture.{plane, planes_of}
use Rattle.ffv1_decode.proofs.lemmas.sinks.Filling.{all_whole, filled_long, plane_kept, plane_new, set_self}
use Rattle.ffv1_decode.proofs.lemmas.sinks.Filling.{still_begun}
use Rattle.ffv1_frame.proofs.lemmas.picture.LinesKept.{plane_of, planes_long}
use Rattle.ffv1_decode.proofs.sinks.fill.Goals as goal

pub loop-plane-preserved : goal.loop-plane-preserved
loop-plane-preserved g c =
    let d = c.args.grid.now in
    let k = c.loop-plane.plane in
    let items = c.loop-plane.planes in
    let v = c.fill_up.new.plane in
    let begun = c.loop-plane.invariant.0 in
    let low : k < d.planes = let test = c.loop-plane-test.true in let end =
    c.planes-plane-end.ensures in omega (arith, test, end) in
    let inside : k < length items = omega (arith, low, begun.count) in
    let size : c.plane_bytes.result ≡ plane_size d k = c.plane_bytes.ensures in
    let entry : Vec ℕ _ = get_or items k c.index-planes-plane.result in
    let old : entry.items ≡ plane (planes_of items) k =
    sym (plane_of items k c.index-planes-plane.result inside) in
    let made : v.items ≡ filled (plane_size d k) (plane (planes_of items) k) =
    c.fill_up.ensures.items ∙ ap (λ n. filled n entry.items) size ∙ ap (filled (plane_size d k))
    old in
    let long : length v.items ≡ plane_size d k = ap (λ (z : List ℕ). length z) made ∙ filled_long
    (plane_size d k) (plane (planes_of items) k) (begun.few k low) in
    let room : vec_capacity entry ≡ plane_size d k = begun.room k c.index-planes-plane.result low in
    let room_now : vec_capacity v ≡ plane_size d k = let same = c.fill_up.ensures.capacity in
    omega (arith, room, same) in
    let still = still_begun d items begun k v low (omega (arith, long)) room_now in
    let same : filled_planes d (planes_of (slice_set items k v)) ≡ filled_planes d
    (planes_of items) = set_self d items begun k v low made in (
      still,
      same ∙ c.loop-plane.invariant.1,
      λ q h. elim (cases_eq q k) [
        | inl here ↦ subst (λ z. length (plane (planes_of (slice_set items k v)) z) ≡ plane_size d
            z) (sym here) (ap (λ (z : List ℕ). length z) (plane_new d items begun k v low) ∙ long)
        | inr other ↦ ap (λ (z : List ℕ). length z) (plane_kept d items begun k v low q other) ∙
            c.loop-plane.invariant.2 q (omega (arith, h, other))
      ],
    )

pub returns-clause-planes : goal.returns-clause-planes
returns-clause-planes g c =
    let d = c.args.grid.now in
    let items = c.loop-plane.planes in
    let begun = c.loop-plane.invariant.0 in
    let end : d.planes ≤ c.loop-plane.plane = let test = c.loop-plane-test.false in let end =
    c.planes-plane-end.ensures in omega (arith, test, end) in
    all_whole d (planes_of items) (planes_long items ∙ begun.count)
    (λ p h. c.loop-plane.invariant.2 p (omega (arith, h, end)))
    ∙ c.loop-plane.invariant.1

pub fill_up-requires : goal.fill_up-requires
fill_up-requires g c =
    let d = c.args.grid.now in
    let k = c.loop-plane.plane in
    let begun = c.loop-plane.invariant.0 in
    let low : k < d.planes = let test = c.loop-plane-test.true in let end =
    c.planes-plane-end.ensures in omega (arith, test, end) in
    let room = begun.room k c.index-planes-plane.result low in
    let size = c.plane_bytes.ensures in
    omega (arith, room, size)

pub offset_bounds-planes-plane : goal.offset_bounds-planes-plane
offset_bounds-planes-plane g c = grind (arith, common_steps)
