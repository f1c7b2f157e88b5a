-- Whether there are as many planes as a grid has, each of its size, and no sample has more bits
-- than the grid's depth.
use Rattle.std.proofs.Common.{◌≡◌, ℕ, ◌*◌, ◌^◌, ◌<◌, List, length, get_or, sym, ◌∙◌, ap, arith}
use Rattle.std.proofs.Common.{rules, subst}
use Rattle.std.proofs.lemmas.Grind.{common_steps}
use borrow.Author.Count.{below_more}
use Rattle.ffv1_samples.specs.Samples.{AreBelow, sample_bytes, samples_of}
use Rattle.ffv1_slice.specs.Grid.{across, down, whole_of}
use Rattle.ffv1_frame.specs.Picture.{plane, planes_of}
use Rattle.ffv1_frame.proofs.lemmas.picture.Lines.{plane_of, all_planes, all_in_depth}
use Rattle.ffv1_frame.proofs.lemmas.picture.LinesKept.{planes_long}
use Rattle.ffv1_frame.proofs.picture.fit.Given.{Over}
use Rattle.ffv1_frame.proofs.picture.fit.Goals.{After-as_slice-samples}
use Rattle.ffv1_frame.proofs.picture.fit.Goals as goal

-- what was lent is the plane
here : (g : Over) (c : After-as_slice-samples g) → plane (planes_of c.args.planes.now)
    c.loop-plane.plane ≡ c.as_slice-samples.result.now
here g c =
    let inside : c.loop-plane.plane < length c.args.planes.now = omega (
      arith,
      c.if-planes.false,
      c.planes-plane-end.ensures,
      c.planes.ensures,
    ) in
    plane_of c.args.planes.now c.loop-plane.plane c.index-planes-plane.result inside
    c.index-planes-plane.is ∙ sym c.as_slice-samples.ensures.value

pub loop-plane-preserved : goal.loop-plane-preserved
loop-plane-preserved g c =
    let planes = c.args.planes.now in
    let d = c.args.grid.now in
    let p : ℕ = c.loop-plane.plane in
    let here = here g (goal.at.loop-plane-preserved g c).After-as_slice-samples in
    let size : length (plane (planes_of planes) p) ≡ sample_bytes d.depth *
    (whole_of (across d p) * whole_of (down d p)) =
    ap length here ∙ c.if-not-has.ensures.yes (search rules) ∙ c.plane_bytes.ensures in
    let few : AreBelow (2 ^ c.depth.result) (samples_of c.depth.result
    c.as_slice-samples.result.now) = c.if-not-are_small.ensures.yes (search rules) in
    let few : AreBelow (2 ^ d.depth) (samples_of d.depth c.as_slice-samples.result.now) =
    subst (λ n. AreBelow (2 ^ n) (samples_of n c.as_slice-samples.result.now))
    c.depth.ensures.value few in
    record {
      sizes = below_more (λ k. length (plane (planes_of planes) k) ≡ sample_bytes d.depth *
          (whole_of (across d k) * whole_of (down d k))) p c.loop-plane.invariant.sizes size;
      bytes = λ k i. below_more (λ j. get_or (plane (planes_of planes) j) i 0 < 256) p
          (λ j. c.loop-plane.invariant.bytes j i)
          (subst (λ (l : List ℕ). get_or l i 0 < 256) (sym here) (c.has.ensures.bytes i)) k;
      small = below_more (λ k. AreBelow (2 ^ d.depth)
          (samples_of d.depth (plane (planes_of planes) k))) p c.loop-plane.invariant.small
          (subst (λ (l : List ℕ). AreBelow (2 ^ d.depth) (samples_of d.depth l)) (sym here) few);
    }

pub returns-clause-yes : goal.returns-clause-yes
returns-clause-yes g c = λ _.
    let d = c.args.grid.now in
    let long : length c.args.planes.now ≡ c.loop-plane.plane =
    omega (arith, c.if-planes.false, c.planes-plane-end.ensures, c.planes.ensures) in
    let count : length (planes_of c.args.planes.now) ≡ d.planes = planes_long c.args.planes.now ∙
    omega (arith, c.if-planes.false, c.planes.ensures) in
    record {
      are = record {
        count = count;
        sizes = λ p h. c.loop-plane.invariant.sizes p
            (omega (arith, h, c.planes-plane-end.ensures));
      };
      small = λ deep. all_in_depth c.args.planes.now c.loop-plane.plane d.depth long
          c.loop-plane.invariant.small;
    }

pub returns-clause-samples : goal.returns-clause-samples
returns-clause-samples g c = λ _.
    let long : length c.args.planes.now ≡ c.loop-plane.plane =
    omega (arith, c.if-planes.false, c.planes-plane-end.ensures, c.planes.ensures) in
    all_planes c.args.planes.now c.loop-plane.plane long c.loop-plane.invariant.bytes

pub returns-then-not-are_small-clause-no : goal.returns-then-not-are_small-clause-no
returns-then-not-are_small-clause-no g c = λ _ fits.
    let d = c.args.grid.now in
    let p : ℕ = c.loop-plane.plane in
    let here = here g (goal.at.returns-then-not-are_small-clause-no g c).After-as_slice-samples in
    let deep = c.if-not-are_small.ensures.deep (search rules) in
    let small = fits.small (λ e. deep (c.depth.ensures.value ∙ e)) p in
    let small : AreBelow (2 ^ d.depth) (samples_of d.depth c.as_slice-samples.result.now) =
    subst (λ (l : List ℕ). AreBelow (2 ^ d.depth) (samples_of d.depth l)) here small in
    c.if-not-are_small.ensures.no (search rules)
    (subst (λ n. AreBelow (2 ^ n) (samples_of n c.as_slice-samples.result.now))
    (sym c.depth.ensures.value) small)

pub returns-then-planes-clause-no : goal.returns-then-planes-clause-no
returns-then-planes-clause-no g c = grind (arith, common_steps)

pub returns-then-not-has-clause-no : goal.returns-then-not-has-clause-no
returns-then-not-has-clause-no g c = grind (arith, common_steps)
