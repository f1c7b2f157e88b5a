-- What an encoder takes of a picture: a head of the profile that says what is to be said, and
-- residuals that suit the samples of its slice.
use Rattle.std.proofs.Common.{◌≡◌, refl, ℕ, ◌+◌, ◌%◌, ◌<◌, ◌≤◌, Bool, true, false, if◌then◌else◌}
use Rattle.std.proofs.Common.{List, [], ◌∷◌, length, arith}
use Rattle.ffv1_plane.specs.Quantisation.{Set}
use Rattle.ffv1_line.specs.Cell.{Cell}
use Rattle.ffv1_line.specs.Row.{AreSuiting, chosen_row}
use Rattle.ffv1_record.specs.Configuration.{Configuration, is_rct}
use Rattle.ffv1_slice.specs.declared.head.SliceHead.{SliceHead}
use Rattle.ffv1_slice.specs.Grid.{division_of, across}
use Rattle.ffv1_slice.specs.Head.{IsThird}
use Rattle.ffv1_frame.specs.Picture.{cell_in}
use Rattle.ffv1_frame.specs.SliceList.{IsBody, Line, bits_of, set_in, chosen_index, chosen_body}
use Rattle.ffv1_frame.specs.SliceList.{lines_in, chosen_head}
use Rattle.ffv1_frame.proofs.lemmas.Aspects.{has_itself}
use Rattle.ffv1_frame.proofs.laws.chosen_slices_suit_their_picture.Goals as goal

index_below : (c : Configuration) (k : ℕ) → 1 ≤ length c.sets → chosen_index c k < length c.sets
index_below c k some = omega (arith, some)

third_index : (c : Configuration) (extra : Bool) → 1 ≤ length c.sets → IsThird extra
    (if extra then chosen_index c 2 else 0) (length c.sets)
third_index c true some = index_below c 2 some
third_index c false some = refl

few_bits : (rct : Bool) (depth : ℕ) → 8 ≤ depth → depth ≤ 16 →
    (0 < (if rct then depth + 1 else depth)) × ((if rct then depth + 1 else depth) < 32)
few_bits true depth least most = (omega (arith, least), omega (arith, most))
few_bits false depth least most = (omega (arith, least), omega (arith, most))

body_of_lines : (c : Configuration) (h : SliceHead) (cell : ℕ → Cell) (ls : List Line) →
    ((set : Set) (p y : ℕ) → AreSuiting set (bits_of c) (cell p) y 0
    (chosen_row set (bits_of c) (cell p) y (cell p).width)) →
    ((set : Set) (p y : ℕ) → length (chosen_row set (bits_of c) (cell p) y (cell p).width) ≡
    (cell p).width) →
    IsBody c h cell ls (chosen_body c h cell ls)
unfolding IsBody
body_of_lines c h cell [] suits long = refl
body_of_lines c h cell (l ∷ ls) suits long =
    let set = set_in c h l.plane in (
      chosen_row set (bits_of c) (cell l.plane) l.y (cell l.plane).width,
      chosen_body c h cell ls,
      long set l.plane l.y,
      suits set l.plane l.y,
      body_of_lines c h cell ls suits long,
      refl,
    )

column_inside : (n columns : ℕ) → 1 ≤ columns → n % columns < columns
column_inside n columns some = grind (arith, some)

pub returns-clause-head : goal.returns-clause-head
returns-clause-head c = λ a info is said.
    let some = (c.accepted_configuration_is_in_range.ensures.sets a.configuration a.table is).0 in
    record {
      long = refl;
      first = index_below a.configuration 0 some;
      second = index_below a.configuration 1 some;
      third = third_index a.configuration a.configuration.extra_plane some;
      structure = said.structure;
      aspect = has_itself a.profile info.sar_num info.sar_den said.aspect;
    }

pub returns-clause-body : goal.returns-clause-body
returns-clause-body c = λ a planes info n is picture.
    let conf = a.configuration in
    let cell : ℕ → Cell = cell_in conf planes n in
    let division = c.accepted_pictures_are_divided.ensures conf a.table is in
    let depth = c.accepted_configuration_is_in_range.ensures.depth conf a.table is in
    let bits = few_bits (is_rct conf.colour) conf.depth depth.0 depth.1 in
    let columns = (c.accepted_configuration_is_in_range.ensures.columns conf a.table is).0 in
    let wide : (p : ℕ) → 0 < (cell p).width = λ p. c.parts_follow_one_another.ensures.some
    (across (division_of conf) p) (n % conf.columns)
    (c.cells_tile_their_plane.ensures.across (division_of conf) p division)
    (column_inside n conf.columns columns) in
    body_of_lines conf (chosen_head conf info) cell (lines_in conf n)
    (λ set p y. c.chosen_residuals_suit_their_samples.ensures.suit set (bits_of conf) (cell p) y
    (cell p).width bits.0 bits.1 (wide p) (λ x inside. c.coded_samples_fit_their_bits.ensures a
    planes p _ _ picture))
    (λ set p y. c.chosen_residuals_suit_their_samples.ensures.long set (bits_of conf) (cell p) y
    (cell p).width)
