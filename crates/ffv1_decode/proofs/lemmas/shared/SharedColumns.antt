-- The samples that a cell has in common with the one to its left and the one above.
use Rattle.std.proofs.Common.{◌≡◌, ◌≢◌, refl, ℕ, zero, suc, ◌+◌, ◌-◌, ◌*◌, ◌<◌, ◌≤◌, min, List, length, get_or, slice_index, ap, sym, ◌∙◌, arith, inl, inr}
use Rattle.std.proofs.lemmas.Grind.{same_number_lists}
use Rattle.ffv1_record.specs.Configuration.{Configuration}
use Rattle.ffv1_line.specs.Cell.{Rolls, Above, cell_of, seen}
use Rattle.ffv1_slice.specs.Grid.{Side, division_of, across, down, first_of, shared_of}
use Rattle.ffv1_frame.specs.Picture.{plane}
use Rattle.ffv1_frame.specs.Sides.{Tiles}
use Rattle.ffv1_decode.specs.Internal.Places.{AreParts}
use Rattle.ffv1_frame.specs.Decoding.{State, slice_at, left_of, width_in, row_in, left_sample, above_sample, SaidBefore, Agrees}
use Rattle.ffv1_decode.specs.Internal.Tied.{TiedLine, TiedKept, IsKept, part_of, rolling_lines}
use Rattle.ffv1_decode.specs.Internal.Shared.{StandsKept}
use Rattle.ffv1_frame.proofs.lemmas.WrittenParts.{window_at, window_long}

-- the row above is the last one that was read
module _ (w y : ℕ) (samples two one : List ℕ) (rolls : Rolls w samples two one (suc y)) where
  abbrev all : Above (cell_of w samples) (suc y) two one
  all = rolls.above (cell_of w samples) refl (record { each = λ x z h upto. refl })

  at_place : (x : ℕ) → x < w → get_or one x 0 ≡ get_or samples (y * w + x) 0
  unfolding seen
  at_place x h =
      let least : min x (w - 1) ≡ x = omega (arith, h) in
      all.first.each x h ∙ ap (λ i. get_or samples (y * w + i) 0) least

  pub rolled_row : one ≡ row_in w y samples
  rolled_row =
      let fits : y * w + w ≤ length samples = omega (arith, rolls.long) in
      let long : length (row_in w y samples) ≡ w = window_long (y * w) w samples fits in
      same_number_lists one (row_in w y samples) (rolls.one_long ∙ sym long)
      (λ i h. let h : i < w = omega (arith, h, rolls.one_long) in at_place i h ∙ sym (window_at (y * w) w samples i h))

module _ (c : Configuration) (p offset y : ℕ) (two one cur : List ℕ) (s : State) (are : AreParts (across (division_of c) p)) where
  abbrev side : Side
  side = across (division_of c) p

  -- what the slice to the left says of it is what stands there
  pub left_stands : (k x : ℕ) → k < c.columns → TiedLine c p offset k y (rolling_lines two one cur) s → x < shared_of (across (division_of c) p) k →
      get_or cur (offset + left_of c p k + x) 0 ≡ left_sample c s k p y
  left_stands zero x inside line shared = absurd (omega (arith, shared))
  left_stands (suc j) x inside line shared =
      let w = width_in c p j in
      let here : j < c.columns = omega (arith, inside) in
      let some : 0 < w = are.some j here in
      let few : (first_of side j + w) - first_of side (suc j) ≤ 1 = are.few (suc j) inside in
      let begins : first_of side (suc j) ≤ first_of side j + w = are.begins (suc j) inside in
      let less : x < (first_of side j + w) - first_of side (suc j) = shared in
      let place : offset + left_of c p (suc j) + x ≡ offset + left_of c p j + (w - 1) = omega (arith, some, few, begins, less) in
      let samples = plane (slice_at s j).cells p in
      let last : suc j - 1 ≡ j = omega arith in
      let inner : w - 1 < w = omega (arith, some) in
      ap (λ n. get_or cur n 0) place
      ∙ sym (window_at (offset + left_of c p j) w cur (w - 1) inner)
      ∙ ap (λ xs. get_or xs (w - 1) 0) (rolled_row w y samples (part_of c p offset j one) (part_of c p offset j cur) (line.read j (omega arith) here))
      ∙ window_at (y * w) w samples (w - 1) inner
      ∙ ap (λ i. get_or (plane (slice_at s i).cells p) (y * width_in c p i + (width_in c p i - 1)) 0) (sym last)

-- if columns of slices have no column of chroma in common, they have none of any plane
pub none_shared : (c : Configuration) (p k : ℕ) → Tiles (across (division_of c) p) → k < c.columns → shared_of (across (division_of c) 1) k ≡ 0 → shared_of (across (division_of c) p) k ≡ 0
none_shared c zero k tiles inside none = tiles.flat refl k inside
none_shared c (suc zero) k tiles inside none = none
none_shared c (suc (suc zero)) k tiles inside none = none
none_shared c (suc (suc (suc p))) k tiles inside none = tiles.flat refl k inside

-- a row that was read when some line had another one
module _ (c : Configuration) (r k p offset y : ℕ) (two one old cur row : List ℕ) (s : State) (are : AreParts (across (division_of c) p)) (inside : k < c.columns)
    (line : TiedLine c p offset k y (rolling_lines two one old) s) (row_is : part_of c p offset k cur ≡ row) where
  row_at : (x : ℕ) → x < width_in c p k → slice_index row x ≡ get_or cur (offset + left_of c p k + x) 0
  row_at x less = ap (λ xs. get_or xs x 0) (sym row_is) ∙ window_at (offset + left_of c p k) (width_in c p k) cur x less

  first_place : (x : ℕ) → x < shared_of (across (division_of c) p) k → offset + left_of c p k + x ≡ offset + left_of c p k
  first_place x shared = omega (arith, shared, are.few k inside)

  -- what the row of slices above has of the line is kept
  module _ (long : ℕ) (kept : List ℕ) (has : IsKept c r p y long) (tied : TiedKept c r p y kept s) where
    some_kept : y < shared_of (down (division_of c) p) r → 0 < long
    some_kept shared = elim has [
      | inl none ↦ absurd (omega (arith, shared, none.1))
      | inr all ↦ omega (arith, all.0, are.ends k inside, are.some k inside)
    ]

    codes_line : 0 < long → y < shared_of (down (division_of c) p) r
    codes_line some = elim has [
      | inl none ↦ absurd (omega (arith, some, none.0))
      | inr all ↦ all.1
    ]

    -- the row agrees as far as it has in the line what stood there, and what is kept
    pub agrees_upto : (count : ℕ) → count ≤ width_in c p k →
        (0 < shared_of (across (division_of c) p) k → slice_index cur (offset + left_of c p k) ≡ slice_index old (offset + left_of c p k)) →
        (0 < long → (x : ℕ) → x < count → StandsKept c p k offset kept cur x) → Agrees c s r k p y count row
    agrees_upto count few same stands = λ x v less said. elim said [
      | inl left ↦
          let place = first_place x left.0 in
          row_at x (omega (arith, less, few)) ∙ ap (λ n. get_or cur n 0) place ∙ same (omega (arith, left.0)) ∙ ap (λ n. get_or old n 0) (sym place)
          ∙ left_stands c p offset y two one old s are k x inside line left.0 ∙ sym left.1
      | inr above ↦
          let small : x < width_in c p k = omega (arith, less, few) in
          row_at x small ∙ stands (some_kept above.0) x less ∙ tied above.0 k x inside small ∙ sym above.1
    ]

    -- and differs if it has not
    pub differs_above : 0 < long → (x : ℕ) → x < width_in c p k → (StandsKept c p k offset kept cur x → ⊥) →
        SaidBefore c s r k p y x (above_sample c s r k p x) × (slice_index row x ≢ above_sample c s r k p x)
    differs_above some x small other =
        let shared = codes_line some in
        (inr (shared, refl), λ same. other (sym (row_at x small) ∙ same ∙ sym (tied shared k x inside small)))

  pub differs_left : 0 < shared_of (across (division_of c) p) k → slice_index cur (offset + left_of c p k) ≢ slice_index old (offset + left_of c p k) → slice_index row 0 ≢ left_sample c s k p y
  differs_left shared other = λ same.
      let place = first_place 0 shared in
      other (ap (λ n. get_or cur n 0) (sym place) ∙ sym (row_at 0 (are.some k inside)) ∙ same ∙ sym (left_stands c p offset y two one old s are k 0 inside line shared) ∙ ap (λ n. get_or old n 0) place)
