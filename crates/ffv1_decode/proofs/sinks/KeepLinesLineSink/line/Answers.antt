-- `line` of `LineSink` for `KeepLines`.
use Rattle.std.proofs.Common.{◌≡◌, ◌+◌, ◌*◌, ◌<◌, ◌≤◌, ◌∙◌, ap, sym, subst, refl, ℕ, List, length}
use Rattle.std.proofs.Common.{slice_set, arith}
use Rattle.std.specs.Vec.{vec_capacity}
use Rattle.std.specs.declared.vec.Vec.{Vec}
use Rattle.ffv1_decode.specs.Filled.{filled, filled_planes, plane_size}
use Rattle.ffv1_frame.specs.Picture.{Planes, plane, planes_of}
use Rattle.ffv1_frame.specs.Kept.{Kept, IsLine, with_samples, with_line}
use Rattle.ffv1_decode.proofs.lemmas.sinks.Filling.{filled_plane, filled_set, line_few, line_filled, line_within}
use Rattle.ffv1_decode.proofs.lemmas.sinks.Filling.{still_begun}
use Rattle.ffv1_frame.proofs.lemmas.picture.LinesKept.{plane_of}
use Rattle.ffv1_decode.proofs.sinks.KeepLinesLineSink.line.Given.{Over}
use Rattle.ffv1_decode.proofs.sinks.KeepLinesLineSink.line.Goals.{After-keep}
use Rattle.ffv1_decode.proofs.sinks.KeepLinesLineSink.line.Goals as goal

-- it was kept in its place
made : (g : Over) (c : After-keep g) → c.keep.new.plane.items ≡ with_samples
    (filled (c.args.y * length c.args.samples.now + length c.args.samples.now)
    (plane (planes_of c.self.inside.planes.items) c.args.plane)) c.args.y c.args.samples.now
made g c =
    let items = c.self.inside.planes.items in
    let p = c.args.plane in
    let y = c.args.y in
    let samples = c.args.samples.now in
    let line : IsLine c.self.inside.grid p y samples = c.if-not-is_line.ensures.yes refl in
    let inside : p < length items = omega (arith, line.in_plane, c.self.invariant.count) in
    let old : c.index_mut.result.now.items ≡ plane (planes_of items) p =
    ap (λ (z : Vec ℕ _). z.items) c.index_mut.ensures.value ∙
    sym (plane_of items p c.index_mut.result.now inside) in
    c.keep.ensures.items ∙ ap (λ z. with_samples (filled (y * length samples + length samples) z) y
    samples) old

pub keep-requires : goal.keep-requires
keep-requires g c =
    let d = c.self.inside.grid in
    let p = c.args.plane in
    let line : IsLine d p c.args.y c.args.samples.now = c.if-not-is_line.ensures.yes refl in
    let fits = line_within d c.self.inside.planes.items c.self.invariant p c.args.y
    c.args.samples.now line in
    let room = subst (λ (v : Vec ℕ _). vec_capacity v ≡ plane_size d p)
    (sym c.index_mut.ensures.value) (c.self.invariant.room p c.index_mut.result.now
    line.in_plane) in
    record { room = omega (arith, fits, room) }

pub invariant_of-self-2 : goal.invariant_of-self-2
invariant_of-self-2 g c =
    let d = c.self.inside.grid in
    let items = c.self.inside.planes.items in
    let p = c.args.plane in
    let y = c.args.y in
    let samples = c.args.samples.now in
    let begun = c.self.invariant in
    let line : IsLine d p y samples = c.if-not-is_line.ensures.yes refl in
    let fits = line_within d items begun p y samples line in
    let few = subst (λ (z : List ℕ). length z ≤ plane_size d p)
    (sym (made g (goal.at.invariant_of-self-2 g c).After-keep))
    (line_few (plane_size d p) y (plane (planes_of items) p) samples (begun.few p line.in_plane)
    fits) in
    let room = subst (λ (v : Vec ℕ _). vec_capacity v ≡ plane_size d p)
    (sym c.index_mut.ensures.value) (begun.room p c.index_mut.result.now line.in_plane) in
    let room_now : vec_capacity c.keep.new.plane ≡ plane_size d p = let same =
    c.keep.ensures.capacity in omega (arith, room, same) in
    still_begun d items begun p c.keep.new.plane line.in_plane few room_now

pub returns-clause-taken : goal.returns-clause-taken
returns-clause-taken g c =
    let d = c.self.inside.grid in
    let items = c.self.inside.planes.items in
    let p = c.args.plane in
    let y = c.args.y in
    let samples = c.args.samples.now in
    let begun = c.self.invariant in
    let line : IsLine d p y samples = c.if-not-is_line.ensures.yes refl in
    let fits = line_within d items begun p y samples line in
    let now : filled (plane_size d p) c.keep.new.plane.items ≡ with_samples
    (plane (filled_planes d (planes_of items)) p) y samples =
    ap (filled (plane_size d p)) (made g (goal.at.returns-clause-taken g c).After-keep) ∙
    line_filled (plane_size d p) y (plane (planes_of items) p)
    samples (begun.few p line.in_plane) fits
    ∙ ap (λ z. with_samples z y samples) (sym (filled_plane d (planes_of items) p line.in_plane)) in
    let planes : filled_planes d (planes_of (slice_set items p c.keep.new.plane)) ≡ with_line
    (filled_planes d (planes_of items)) p y samples =
    filled_set d items begun p c.keep.new.plane line.in_plane
    (with_samples (plane (filled_planes d (planes_of items)) p) y samples) now in
    let view : Kept → Kept = λ k. record k { planes = with_line k.planes p y samples } in
    let f : Planes → Kept = λ z. record {
      grid = d;
      planes = z;
      failures = c.self.inside.failures;
    } in
    let is = c.self.view_is in
    (subst (λ (k : Kept). IsLine k.grid p y samples) is line, ap f planes ∙ ap view is)
