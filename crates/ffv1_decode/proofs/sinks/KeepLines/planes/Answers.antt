-- The planes: each accepted line in its place, and 0 where there was none.
use Rattle.std.proofs.Common.{◌≡◌, ◌∙◌, ap, sym, subst, refl, ℕ, List, length, arith}
use Rattle.std.specs.Vec.{with_items}
use Rattle.std.specs.declared.vec.Vec.{Vec}
use Rattle.std.proofs.lemmas.List.{with_items_is}
use Rattle.std.proofs.lemmas.Grind.{common_steps}
use Rattle.ffv1_decode.specs.Filled.{AreRooms, filled_planes}
use Rattle.ffv1_frame.specs.Kept.{Kept}
use Rattle.ffv1_frame.specs.Picture.{AreOf, Planes, planes_of}
use Rattle.ffv1_decode.proofs.lemmas.sinks.Filling.{are_of, filled_again}
use Rattle.ffv1_decode.proofs.sinks.KeepLines.planes.Goals as goal

pub fill-requires-clause-division : goal.fill-requires-clause-division
fill-requires-clause-division g c = c.self.invariant.division

pub returns : goal.returns
returns g c =
    let d = c.self.inside.grid in
    let items = c.self.inside.planes.items in
    let all = filled_planes d (planes_of items) in
    let new = c.fill.new.planes in
    let given : c.deref_mut.result.now ≡ items = c.deref_mut.ensures.value in
    let made : planes_of new ≡ all = c.fill.ensures.planes ∙
    ap (λ (z : List (Vec ℕ _)). filled_planes d (planes_of z)) given in
    let long : length new ≡ c.self.inside.planes.len = c.fill.auto.planes ∙
    c.deref_mut.ensures.len in
    let held : (with_items c.self.inside.planes new).items ≡ new = with_items_is
    c.self.inside.planes new long in
    let back : filled_planes d (planes_of (with_items c.self.inside.planes new).items) ≡ all =
    ap (λ (z : List (Vec ℕ _)). filled_planes d (planes_of z)) held ∙ ap (filled_planes d) made ∙
    filled_again d items c.self.invariant in
    let f : Planes → Kept = λ z. record {
      grid = d;
      planes = z;
      failures = c.self.inside.failures;
    } in
    let lent : planes_of c.as_slice.result.now ≡ all = ap (λ (z : List (Vec ℕ _)). planes_of z)
    (c.as_slice.ensures.value ∙ held) ∙ made in (
      (refl, (λ _. tt), ap f back ∙ c.self.view_is),
      record {
        value = sym (ap (λ (k : Kept). k.planes) c.self.view_is) ∙ sym lent;
        sizes = subst (λ (k : Kept). AreOf k.grid k.planes) c.self.view_is
            (are_of d items c.self.invariant);
        rooms = subst (λ (k : Kept). AreRooms k.grid c.as_slice.result.now) c.self.view_is
            (subst (λ (z : List (Vec ℕ _)). AreRooms d z)
            (sym (c.as_slice.ensures.value ∙ held)) c.fill.ensures.begun.room);
        same = tt;
      },
    )

pub invariant_of-self : goal.invariant_of-self
invariant_of-self g c = grind (arith, common_steps)
