-- The picture that decoding to the end makes.
use Rattle.std.proofs.Common.{◌≡◌, refl, ℕ, ◌-◌, ◌*◌, ◌^◌, ◌<◌, ◌≤◌, true, if◌then◌else◌, Option, List, [], ◌∷◌, ◌++◌, map, length, get_or, inl, inr, ap, sym, subst, ◌∙◌, arith}
use Rattle.std.specs.List.{flat_map, range_with_len}
use Rattle.std.proofs.lemmas.Bool.{cases_lt, cases_eq, eq-eqb, ne_eqb}
use Rattle.std.proofs.lemmas.List.{map-append, get_or_past}
use Rattle.std.proofs.lemmas.Nat.{pow_pos}
use Rattle.std.proofs.lemmas.List.FromFn.{length-map-range_with_len, get_or-map-range_with_len}
use Rattle.ffv1_wire.specs.Runs as wire
use Rattle.ffv1_samples.specs.Samples.{AreBelow, sample_bytes, samples_of}
use Rattle.ffv1_samples.proofs.Depths.{samples_append}
use Rattle.ffv1_record.specs.Configuration.{is_rct}
use Rattle.ffv1_record.specs.Accepted.{Accepted}
use Rattle.ffv1_slice.specs.Grid.{coded_of, across, down, division_of}
use Rattle.ffv1_frame.specs.Sides.{Tiles}
use Rattle.ffv1_frame.specs.Picture.{Planes, AreOf, IsPicture, plane, plane_count, plane_width, plane_height, line_bytes}
use Rattle.ffv1_frame.specs.SliceList.{Line, Said}
use Rattle.ffv1_frame.specs.Order.{lines_down}
use Rattle.ffv1_frame.specs.Decoding.{Slice, row_in, width_in}
use Rattle.ffv1_frame.specs.Lines.{lines_of}
use Rattle.ffv1_frame.proofs.lemmas.laws.decoding.Machines.{each_both, Each, each_append}
use Rattle.ffv1_frame.proofs.lemmas.laws.decoding.LinesRead.{row_lines}
use Rattle.ffv1_frame.proofs.lemmas.laws.decoding.Groups.{group_lines, groups_of, groups_are, lines_by_groups}
use Rattle.ffv1_frame.proofs.lemmas.laws.decoding.SliceBodies.{CellLaws, IsRead, plane_is}
use Rattle.ffv1_frame.proofs.lemmas.laws.decoding.RowsDone.{SuitsFew, RowPart, AllRows}
use Rattle.ffv1_frame.proofs.lemmas.picture.PlanesMade.{key_of, samples_in, samples_if, rows_in, IsRowOf, Stand, stand}
use Rattle.ffv1_frame.proofs.lemmas.picture.Keys.{keys_of, row_keys, line_of, lines_by_keys, made_keys, rows_of_plane, keys_are}
use Rattle.ffv1_frame.proofs.lemmas.JoinedLines.{joined_small}
use Rattle.ffv1_frame.proofs.lemmas.picture.Words.{none_samples}
use Rattle.ffv1_frame.proofs.lemmas.picture.LineSizes.{IsSized, IsThere, sized_groups, each_back}
use Rattle.ffv1_frame.proofs.lemmas.laws.decoding.CellsShown.{InRct, down_alike, alike_down, IsLine}

turned : (b w h : ℕ) → h * (b * w) ≡ b * (w * h)
turned b w h = omega arith

-- what is known of a configuration, its division and its cells
pub record PictureLaws (a : Accepted) : Type 0 where
  pub tiles_h : (p : ℕ) → Tiles (across (division_of a.configuration) p)
  pub tiles_v : (p : ℕ) → Tiles (down (division_of a.configuration) p)
  pub in_rct : InRct a.configuration
  pub deep : a.configuration.depth ≤ 16
  pub columns : 0 < a.configuration.columns
  pub rows : 0 < a.configuration.rows
  pub cells : CellLaws
  pub few : SuitsFew

pub each_all : (count : ℕ) (P : ℕ → Line → Type 0) (ls : List Line) → ((k : ℕ) → k < count → Each (P k) ls) → Each (λ l. (k : ℕ) → k < count → P k l) ls
each_all count P [] all = tt
each_all count P (l ∷ ls) all = ((λ k inside. (all k inside).0), each_all count P ls (λ k inside. (all k inside).1))

module _ (a : Accepted) (laws : PictureLaws a) where
  pub alike_lines : is_rct a.configuration.colour ≡ true → (p r : ℕ) → lines_down a.configuration p r ≡ lines_down a.configuration 0 r
  alike_lines rct p r = ap (λ s. coded_of s r) (down_alike a.configuration (laws.in_rct.alike rct) p)

  pub some_wide : (p k : ℕ) → k < a.configuration.columns → 0 < width_in a.configuration p k
  some_wide p k inside = (laws.tiles_h p).some k inside

  module _ (coded : ℕ → List ℕ) (info : Option Said) where
    abbrev pub Part : ℕ → List wire.Line → Type 0
    Part r ls = RowPart a coded laws.cells laws.few some_wide alike_lines r info ls

    abbrev pub Rows : (ℕ → Slice) → List ℕ → List wire.Line → Type 0
    Rows above rs ls = AllRows a coded laws.cells laws.few some_wide alike_lines info above rs ls

    -- each line was read in each slice of its row
    pub all_there : (r : ℕ) (ls : List wire.Line) → (part : Part r ls) → Each (IsThere a.configuration part.slice laws.tiles_h laws.in_rct.wide laws.in_rct.few r) (flat_map group_lines (groups_of a.configuration r))
    all_there r ls part =
        subst (Each (IsThere a.configuration part.slice laws.tiles_h laws.in_rct.wide laws.in_rct.few r)) (lines_by_groups a.configuration r)
        (each_all a.configuration.columns (λ k. IsRead a coded r k (part.slice k)) (row_lines a.configuration r) (λ k inside. (part.done k inside).are))

    part_sized : (r : ℕ) (ls : List wire.Line) → Part r ls → Each (IsSized a.configuration) ls
    part_sized r ls part =
        sized_groups a.configuration part.slice laws.tiles_h laws.in_rct.wide laws.in_rct.few r (λ k p i inside. part.small k p i inside) laws.deep
        (groups_of a.configuration r) ls (groups_are a.configuration r (λ rct p. alike_lines rct p r)) (all_there r ls part) part.made

    pub all_sized : (above : ℕ → Slice) (rs : List ℕ) (ls : List wire.Line) → Rows above rs ls → Each (IsSized a.configuration) ls
    all_sized above [] ls rows = subst (Each (IsSized a.configuration)) (sym rows) tt
    all_sized above (r ∷ rs) ls rows =
        subst (Each (IsSized a.configuration)) (sym rows.4)
        (each_append (IsSized a.configuration) rows.0 rows.1 (part_sized r rows.0 rows.2) (all_sized rows.2.slice rs rows.1 rows.3))

    pub all_keys : (above : ℕ → Slice) (rs : List ℕ) (ls : List wire.Line) → Rows above rs ls → map key_of ls ≡ flat_map (row_keys a.configuration) rs
    all_keys above [] ls rows = ap (map key_of) rows
    all_keys above (r ∷ rs) ls rows =
        ap (map key_of) rows.4 ∙ map-append key_of rows.0 rows.1
        ∙ ap (λ z. z ++ map key_of rows.1) (made_keys a.configuration r rows.2.slice (groups_of a.configuration r) rows.0 rows.2.made)
        ∙ ap (λ z. row_keys a.configuration r ++ z) (all_keys rows.2.slice rs rows.1 rows.3)

  -- the planes of some lines
  pub planes_made : List wire.Line → Planes
  planes_made ls = map (λ p. samples_in p ls) (range_with_len 0 (plane_count a.configuration))

  plane_made : (ls : List wire.Line) (p : ℕ) → p < plane_count a.configuration → plane (planes_made ls) p ≡ samples_in p ls
  unfolding planes_made
  plane_made ls p inside =
      plane_is (map (λ p. samples_in p ls) (range_with_len 0 (plane_count a.configuration))) p
      ∙ get_or-map-range_with_len (λ p. samples_in p ls) 0 (plane_count a.configuration) p p [] inside (omega arith)

  no_plane : (ls : List wire.Line) (p : ℕ) → plane_count a.configuration ≤ p → plane (planes_made ls) p ≡ []
  unfolding planes_made
  no_plane ls p past =
      let all = map (λ p. samples_in p ls) (range_with_len 0 (plane_count a.configuration)) in
      plane_is all p ∙ get_or_past {X = List ℕ} all p [] (rw (length-map-range_with_len (λ p. samples_in p ls) 0 (plane_count a.configuration)) past)

  module _ (ls : List wire.Line) (sized : Each (IsSized a.configuration) ls) (keys : map key_of ls ≡ keys_of a.configuration) where
    stands : (p : ℕ) → p < plane_count a.configuration → Stand (line_bytes a.configuration p) p 0 (plane_height a.configuration p) ls
    stands p inside =
        stand (line_bytes a.configuration p) p 0 (plane_height a.configuration p) ls
        (each_both (IsSized a.configuration) (λ (l : wire.Line). l.plane ≡ p → length l.samples ≡ line_bytes a.configuration p) ls sized
        (λ l is same. is.long ∙ ap (line_bytes a.configuration) same))
        (ap (rows_in p) keys ∙ rows_of_plane a.configuration p inside laws.tiles_v (λ rct q r. alike_down a.configuration (laws.in_rct.alike rct) laws.tiles_v q r) (λ rct r. alike_lines rct p r))

    lines_stand : (some : List wire.Line) → Each (λ (l : wire.Line). l.plane < plane_count a.configuration) some →
        ((p : ℕ) → p < plane_count a.configuration → Each (IsRowOf (line_bytes a.configuration p) p 0 (samples_in p ls)) some) → Each (IsLine a.configuration (planes_made ls)) some
    lines_stand [] inside all = tt
    lines_stand (l ∷ some) inside all =
        let width = line_bytes a.configuration l.plane in
        let here = ((all l.plane inside.0).0.row refl).1 in
        let none : l.row - 0 ≡ l.row = omega arith in (
          here ∙ ap (λ y. row_in width y (samples_in l.plane ls)) none ∙ ap (row_in width l.row) (sym (plane_made ls l.plane inside.0)),
          lines_stand some inside.1 (λ p below. (all p below).1),
        )

    planes_inside : Each (λ (l : wire.Line). l.plane < plane_count a.configuration) ls
    planes_inside =
        each_back (λ (k : Line). k.plane < plane_count a.configuration) key_of ls
        (subst (Each (λ (k : Line). k.plane < plane_count a.configuration)) (sym keys) (keys_are a.configuration alike_lines))

    -- each line is the picture's
    pub lines_are : Each (IsLine a.configuration (planes_made ls)) ls
    lines_are = lines_stand ls planes_inside (λ p inside. (stands p inside).each)

    by_keys : (planes : Planes) (some : List wire.Line) → Each (IsLine a.configuration planes) some → some ≡ map (line_of a.configuration planes) (map key_of some)
    by_keys planes [] all = refl
    by_keys planes (l ∷ some) all =
        let with_samples : List ℕ → wire.Line = λ xs. record { plane = l.plane; row = l.row; samples = xs } in
        ap (λ xs. with_samples xs ∷ some) all.0 ∙ ap (λ z. line_of a.configuration planes (key_of l) ∷ z) (by_keys planes some all.1)

    -- and they are all its lines
    pub all_lines : ls ≡ lines_of a.configuration (planes_made ls)
    all_lines = by_keys (planes_made ls) ls lines_are ∙ ap (map (line_of a.configuration (planes_made ls))) keys ∙ sym (lines_by_keys a.configuration (planes_made ls))

    if_small : (p : ℕ) (l : wire.Line) → IsSized a.configuration l → AreBelow 256 (samples_if p l)
    if_small p l is i = elim (cases_eq l.plane p) [
      | inl same ↦ subst (λ b. get_or (if b then l.samples else []) i 0 < 256) (sym (eq-eqb l.plane p same)) (is.bytes i)
      | inr other ↦ subst (λ b. get_or (if b then l.samples else []) i 0 < 256) (sym (ne_eqb l.plane p other)) (omega arith)
    ]

    planes_long : length (planes_made ls) ≡ plane_count a.configuration
    unfolding planes_made
    planes_long = length-map-range_with_len (λ p. samples_in p ls) 0 (plane_count a.configuration)

    bytes_small : (p : ℕ) (some : List wire.Line) → Each (IsSized a.configuration) some → (i : ℕ) → get_or (samples_in p some) i 0 < 256
    bytes_small p [] all i = omega arith
    bytes_small p (l ∷ some) all i = joined_small 256 i (samples_if p l) (samples_in p some) (if_small p l all.0) (bytes_small p some all.1)

    -- the samples of the lines one after the other
    samples_small : (p : ℕ) (some : List wire.Line) → Each (IsSized a.configuration) some → AreBelow (2 ^ a.configuration.depth) (samples_of a.configuration.depth (samples_in p some))
    samples_small p [] all i = subst (λ (xs : List ℕ). get_or xs i 0 < 2 ^ a.configuration.depth) (sym (none_samples a.configuration.depth)) (pow_pos a.configuration.depth)
    samples_small p (l ∷ some) all i =
        let d = a.configuration.depth in
        let rest = samples_small p some all.1 in
        elim (cases_eq l.plane p) [
          | inl same ↦
              let parts = samples_append d (plane_width a.configuration l.plane) l.samples (samples_in p some) all.0.long in
              subst (λ b. get_or (samples_of d ((if b then l.samples else []) ++ samples_in p some)) i 0 < 2 ^ d) (sym (eq-eqb l.plane p same))
              (subst (λ (xs : List ℕ). get_or xs i 0 < 2 ^ d) (sym parts) (joined_small (2 ^ d) i (samples_of d l.samples) (samples_of d (samples_in p some)) all.0.small rest))
          | inr other ↦ subst (λ b. get_or (samples_of d ((if b then l.samples else []) ++ samples_in p some)) i 0 < 2 ^ d) (sym (ne_eqb l.plane p other)) (rest i)
        ]

    planes_small : (p : ℕ) → AreBelow (2 ^ a.configuration.depth) (samples_of a.configuration.depth (plane (planes_made ls) p))
    planes_small p = elim (cases_lt p (plane_count a.configuration)) [
      | inl inside ↦ subst (λ xs. AreBelow (2 ^ a.configuration.depth) (samples_of a.configuration.depth xs)) (sym (plane_made ls p inside)) (samples_small p ls sized)
      | inr past ↦ subst (λ xs. AreBelow (2 ^ a.configuration.depth) (samples_of a.configuration.depth xs)) (sym (no_plane ls p (omega (arith, past)))) (samples_small p [] tt)
    ]

    planes_are : AreOf (division_of a.configuration) (planes_made ls)
    planes_are = record {
      count = planes_long;
      sizes = λ p inside.
          let long = (stands p inside).long in
          ap (λ (xs : List ℕ). length xs) (plane_made ls p inside) ∙ long ∙ turned (sample_bytes a.configuration.depth) (plane_width a.configuration p) (plane_height a.configuration p);
    }

    -- the planes are a picture
    pub picture_made : IsPicture a.configuration (planes_made ls)
    picture_made = record {
      fits = record { are = planes_are; small = λ deep. planes_small };
      bytes = λ p i. elim (cases_lt p (plane_count a.configuration)) [
        | inl inside ↦ subst (λ xs. get_or xs i 0 < 256) (sym (plane_made ls p inside)) (bytes_small p ls sized i)
        | inr past ↦ subst (λ xs. get_or xs i 0 < 256) (sym (no_plane ls p (omega (arith, past)))) (omega arith)
      ];
    }
