-- Planes without lines, each with room for all of them.
use Rattle.std.proofs.Common.{◌≡◌, ◌+◌, ◌≤◌, ◌∙◌, ap, sym, subst, ℕ, [], ◌∷◌, ◌++◌, List, length}
use Rattle.std.proofs.Common.{get_or, inl, inr, arith}
use Rattle.std.specs.Vec.{vec_capacity}
use Rattle.std.specs.declared.vec.Vec.{Vec}
use Rattle.std.proofs.lemmas.Bool.{cases_lt}
use Rattle.ffv1_decode.specs.Filled.{plane_size}
use Rattle.ffv1_frame.specs.Picture.{plane, planes_of}
use Rattle.ffv1_decode.proofs.lemmas.sinks.Filling.{all_empty, last_item, last_plane, length_more, other_item}
use Rattle.ffv1_decode.proofs.lemmas.sinks.Filling.{other_plane}
use Rattle.ffv1_decode.proofs.sinks.rooms.Goals as goal

pub loop-plane-preserved : goal.loop-plane-preserved
loop-plane-preserved g c =
    let d = c.args.grid.now in
    let n = c.loop-plane.plane in
    let items = c.loop-plane.planes.items in
    let v = c.in_ok-with_capacity.field-0 in
    let count : length items ≡ n = c.loop-plane.invariant.0 in
    let pushed : c.push.new.self.items ≡ items ++ (v ∷ []) = c.in_ok-push.ensures.items in
    let room : vec_capacity v ≡ plane_size d n = let exact = c.in_ok-with_capacity.ensures.exact in
    let size = c.plane_bytes.ensures in omega (arith, exact, size) in (
      ap (λ (z : List (Vec ℕ _)). length z) pushed ∙ length_more items v ∙ ap (λ k. k + 1) count,
      λ p h. ap (λ z. plane (planes_of z) p) pushed ∙ elim (cases_lt p n) [
        | inl less ↦ other_plane items v p (omega (arith, less, count)) ∙ c.loop-plane.invariant.1 p
            less
        | inr over ↦ let here : p ≡ length items = omega (arith, h, over, count) in last_plane items
            v p here ∙ c.in_ok-with_capacity.ensures.items
      ],
      λ p w h. subst (λ z. vec_capacity (get_or z p w) ≡ plane_size d p) (sym pushed)
          (elim (cases_lt p n) [
            | inl less ↦ subst (λ z. vec_capacity z ≡ plane_size d p)
                (sym (other_item items v p w (omega (arith, less, count))))
                (c.loop-plane.invariant.2 p w less)
            | inr over ↦
                let here : p ≡ length items = omega (arith, h, over, count) in
                let is_n : p ≡ n = omega (arith, here, count) in
                subst (λ z. vec_capacity z ≡ plane_size d p) (sym (last_item items v p w here))
                (subst (λ k. vec_capacity v ≡ plane_size d k) (sym is_n) room)
          ]),
    )

pub returns-clause-zeros : goal.returns-clause-zeros
returns-clause-zeros g c =
    let d = c.args.grid.now in
    let end : d.planes ≤ c.loop-plane.plane = let test = c.loop-plane-test.false in let end =
    c.planes-plane-end.ensures in omega (arith, test, end) in
    all_empty d (planes_of c.loop-plane.planes.items)
    (λ p h. c.loop-plane.invariant.1 p (omega (arith, h, end)))
