-- The slices of a row lie beside one another in each plane, and rows below one another.
use Rattle.std.proofs.Common.{◌≡◌, refl, ℕ, zero, suc, ◌+◌, ◌-◌, ◌*◌, ◌^◌, ◌%◌, ◌≤◌, Bool}
use Rattle.std.proofs.Common.{true, false, if◌then◌else◌, inl, inr, sym, subst, ◌∙◌, arith}
use Rattle.ffv1_record.specs.Accepted.{AreMultiples, are_multiples, edge, reduced}
use Rattle.ffv1_record.specs.Configuration.{Configuration, is_rct}
use Rattle.ffv1_record.specs.Held.{kept_of, planes_of}
use Rattle.ffv1_record.specs.declared.config.Colour.{Colour}
use Rattle.ffv1_record.specs.declared.config.Colour.TheVariants as colours
use Rattle.ffv1_slice.specs.Grid.{division_of, across, down, factor_of, planes_in}
use Rattle.ffv1_frame.specs.Picture.{plane_count}
use Rattle.ffv1_decode.specs.Internal.Shared.{KeepsChroma, ShareNoLine}
use Rattle.ffv1_decode.proofs.places.slices_lie_beside_one_another.Goals as goal

pub factor_small : (log2 p : ℕ) → log2 ≤ 2 → factor_of log2 p ≤ 2
factor_small log2 zero h = omega arith
factor_small log2 (suc zero) h = h
factor_small log2 (suc (suc zero)) h = h
factor_small log2 (suc (suc (suc p))) h = omega arith

pub reduced_fits : (log2 n : ℕ) → log2 ≤ 2 → reduced log2 n ≤ n
unfolding reduced
reduced_fits zero n h = omega arith
reduced_fits (suc zero) n h = omega arith
reduced_fits (suc (suc zero)) n h = omega arith
reduced_fits (suc (suc (suc l))) n h = absurd (omega (arith, h))

pub returns-clause-across : goal.returns-clause-across
returns-clause-across c = λ conf t p is.
    let d = c.accepted_pictures_are_divided.ensures conf t is in
    let s = across (division_of conf) p in
    let side = c.cells_tile_their_plane.ensures.across (division_of conf) p d in
    record {
      first = c.parts_follow_one_another.ensures.first s side;
      next = λ k h. c.parts_follow_one_another.ensures.next s k side h;
      some = λ k h. c.parts_follow_one_another.ensures.some s k side h;
      begins = λ k h. (c.parts_follow_one_another.ensures.few s k side h).0;
      ends = λ k h. c.parts_follow_one_another.ensures.coded s k side h;
      few = λ k h. (c.parts_follow_one_another.ensures.few s k side h).1;
      last = c.parts_follow_one_another.ensures.last s side;
      fits = reduced_fits (factor_of conf.log2_h p) conf.width
          (factor_small conf.log2_h p d.log2_h);
    }

pub returns-clause-down : goal.returns-clause-down
returns-clause-down c = λ conf t p is.
    let d = c.accepted_pictures_are_divided.ensures conf t is in
    let s = down (division_of conf) p in
    let side = c.cells_tile_their_plane.ensures.down (division_of conf) p d in
    record {
      first = c.parts_follow_one_another.ensures.first s side;
      next = λ k h. c.parts_follow_one_another.ensures.next s k side h;
      some = λ k h. c.parts_follow_one_another.ensures.some s k side h;
      begins = λ k h. (c.parts_follow_one_another.ensures.few s k side h).0;
      ends = λ k h. c.parts_follow_one_another.ensures.coded s k side h;
      few = λ k h. (c.parts_follow_one_another.ensures.few s k side h).1;
      last = c.parts_follow_one_another.ensures.last s side;
      fits = reduced_fits (factor_of conf.log2_v p) conf.height
          (factor_small conf.log2_v p d.log2_v);
    }

pub returns-clause-lines : goal.returns-clause-lines
returns-clause-lines c = λ conf. omega arith

-- without a factor each edge is a multiple
flat_multiples : (size count log2 : ℕ) → log2 ≡ 0 → AreMultiples size count log2
flat_multiples size count log2 flat = λ k some inside.
    subst (λ n. edge k size count % 2 ^ n ≡ 0) (sym flat) (omega arith)

plane_multiples : (size count log2 p : ℕ) → AreMultiples size count log2 → AreMultiples size count
    (factor_of log2 p)
plane_multiples size count log2 zero are = flat_multiples size count 0 refl
plane_multiples size count log2 (suc zero) are = are
plane_multiples size count log2 (suc (suc zero)) are = are
plane_multiples size count log2 (suc (suc (suc p))) are = flat_multiples size count 0 refl

-- what is kept of a configuration whose rows are so, and whose chroma is too
kept_by : (c : Configuration) (b : Bool) → (b ≡ true → (p : ℕ) → ShareNoLine c p) → (b ≡ false →
    (is_rct c.colour ≡ false) × (3 ≤ plane_count c) × ShareNoLine c 0 × ShareNoLine c 3) →
    KeepsChroma c (if b then 0 else 2 * reduced c.log2_h c.width)
kept_by c true none some = inl (refl, none refl)
kept_by c false none some =
    let all = some refl in
    inr (refl, all.0, all.1, all.2, all.3)

-- with RCT a record has no chroma factors, nor without planes of chroma
by_colour : (colour : Colour) → (colour ≡ colours.Rct → ⊥) → is_rct colour ≡ false
by_colour colours.YCbCr other = refl
by_colour colours.Rct other = absurd (other refl)

by_chroma : (chroma extra : Bool) → (chroma ≡ false → ⊥) → 3 ≤ planes_in chroma extra
by_chroma true true some = omega arith
by_chroma true false some = omega arith
by_chroma false extra some = absurd (some refl)

-- what is held after the lines of planes that are coded together
behind : (planes width kept : ℕ) → 3 * planes * width + kept - 3 * (planes * width) ≡ kept
behind planes width kept = omega arith

pub returns-clause-kept : goal.returns-clause-kept
returns-clause-kept c = λ conf t is.
    let rows = c.accepted_configuration_is_in_range.ensures.rows conf t is in
    let decided = c.strict_checks_are_the_narrower.ensures.decided conf.height conf.rows
    conf.log2_v in
    let sound = c.accepted_configuration_has_sound_parts.ensures in
    let none : (p : ℕ) → AreMultiples conf.height conf.rows (factor_of conf.log2_v p) →
    ShareNoLine conf p = λ p are r inside.
    c.sides_share_nothing_at_multiples.ensures.none (down (division_of conf) p) r rows.0 rows.2
    are inside in
    let factor : are_multiples conf.height conf.rows conf.log2_v ≡ false → conf.log2_v ≡ 0 → ⊥ =
    λ e flat.
    let all = decided.1 (flat_multiples conf.height conf.rows conf.log2_v flat) in
    absurd (let no : true ≡ false = sym all ∙ e in cc) in
    subst (KeepsChroma conf)
    (sym (behind (planes_of conf.colour conf.extra_plane) conf.width (kept_of conf)))
    (kept_by conf (are_multiples conf.height conf.rows conf.log2_v)
    (λ e p. none p (plane_multiples conf.height conf.rows conf.log2_v p (decided.0 e)))
    (λ e. (
      by_colour conf.colour (λ rct. factor e (sound.rct conf t is rct).2),
      by_chroma conf.chroma_planes conf.extra_plane
          (λ luma. factor e (sound.luma conf t is luma).2),
      none 0 (flat_multiples conf.height conf.rows 0 refl),
      none 3 (flat_multiples conf.height conf.rows 0 refl),
    )))
