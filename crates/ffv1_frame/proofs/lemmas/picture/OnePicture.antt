-- Lines determine the planes that they are of.
use Rattle.std.proofs.Common.{◌≡◌, refl, ℕ, zero, suc, ◌+◌, ◌*◌, ◌<◌, true, if◌then◌else◌, ◌==◌, List, [], ◌∷◌, ◌++◌, map, length, take, drop, inl, inr, ap, sym, subst, ◌∙◌, arith}
use Rattle.std.specs.List.{flat_map, range_with_len, filter}
use Rattle.std.proofs.lemmas.Bool.{cases_eq, eq-eqb, ne_eqb}
use Rattle.std.proofs.lemmas.List.{ext_get_or, take_all, drop-drop}
use Rattle.std.proofs.Math.Seq.{take-add}
use Rattle.ffv1_wire.specs.Runs as wire
use Rattle.ffv1_samples.specs.Samples.{sample_bytes}
use Rattle.ffv1_record.specs.Configuration.{Configuration, is_rct}
use Rattle.ffv1_slice.specs.Grid.{down, division_of, shared_of}
use Rattle.ffv1_frame.specs.Picture.{Planes, AreOf, Fits, plane, plane_count, plane_width, plane_height, line_bytes}
use Rattle.ffv1_frame.specs.SliceList.{Line}
use Rattle.ffv1_frame.specs.Decoding.{row_in}
use Rattle.ffv1_frame.specs.Order.{lines_down}
use Rattle.ffv1_frame.specs.Lines.{lines_of}
use Rattle.ffv1_frame.proofs.lemmas.laws.decoding.SliceBodies.{plane_is}
use Rattle.ffv1_frame.proofs.lemmas.picture.PlanesMade.{key_of, samples_in, rows_in}
use Rattle.ffv1_frame.proofs.lemmas.picture.Keys.{keys_of, line_of, lines_by_keys, rows_of_plane}
use Rattle.ffv1_frame.specs.Sides.{Tiles}

module _ (c : Configuration) (planes : Planes) (p : ℕ) where
  abbrev pub row : ℕ → List ℕ
  row y = row_in (line_bytes c p) y (plane planes p)

  -- the samples of a plane are its rows
  rows_are : (ks : List Line) → samples_in p (map (line_of c planes) ks) ≡ flat_map row (rows_in p ks)
  rows_are [] = refl
  rows_are (k ∷ ks) = elim (cases_eq k.plane p) [
    | inl same ↦
        let yes = eq-eqb k.plane p same in
        ap (λ b. (if b then row_in (line_bytes c k.plane) k.y (plane planes k.plane) else []) ++ samples_in p (map (line_of c planes) ks)) yes
        ∙ ap (λ j. row_in (line_bytes c j) k.y (plane planes j) ++ samples_in p (map (line_of c planes) ks)) same
        ∙ ap (λ z. row k.y ++ z) (rows_are ks)
        ∙ sym (ap (λ b. flat_map row ((if b then k.y ∷ [] else []) ++ rows_in p ks)) yes)
    | inr other ↦
        let no = ne_eqb k.plane p other in
        ap (λ b. (if b then row_in (line_bytes c k.plane) k.y (plane planes k.plane) else []) ++ samples_in p (map (line_of c planes) ks)) no
        ∙ rows_are ks
        ∙ sym (ap (λ b. flat_map row ((if b then k.y ∷ [] else []) ++ rows_in p ks)) no)
  ]

-- rows one after the other are the samples
rows_joined : (width : ℕ) (xs : List ℕ) (from count : ℕ) → flat_map (λ y. row_in width y xs) (range_with_len from count) ≡ take (count * width) (drop (from * width) xs)
rows_joined width xs from zero = ap (λ n. take n (drop (from * width) xs)) (let none : 0 ≡ 0 * width = omega arith in none)
rows_joined width xs from (suc count) =
    let ys = drop (from * width) xs in
    let next : from * width + width ≡ (from + 1) * width = omega arith in
    let more : width + count * width ≡ suc count * width = omega arith in
    ap (λ z. take width ys ++ z) (rows_joined width xs (from + 1) count)
    ∙ ap (λ n. take width ys ++ take (count * width) (drop n xs)) (sym next)
    ∙ ap (λ zs. take width ys ++ take (count * width) zs) (sym (drop-drop width (from * width) xs))
    ∙ sym (take-add width (count * width) ys)
    ∙ ap (λ n. take n ys) more

-- a plane is its rows
turned : (b w h : ℕ) → b * (w * h) ≡ h * (b * w)
turned b w h = omega arith

pub plane_by_rows : (c : Configuration) (planes : Planes) → AreOf (division_of c) planes → (p : ℕ) → p < plane_count c → flat_map (row c planes p) (range_with_len 0 (plane_height c p)) ≡ plane planes p
plane_by_rows c planes fits p inside =
    let width = line_bytes c p in
    let height = plane_height c p in
    let xs = plane planes p in
    let long : length xs ≡ height * width = fits.sizes p inside ∙ turned (sample_bytes c.depth) (plane_width c p) height in
    rows_joined width xs 0 height
    ∙ ap (λ n. take (height * width) (drop n xs)) (let none : 0 * width ≡ 0 = omega arith in none)
    ∙ take_all (height * width) xs (omega (arith, long))

module _ (c : Configuration) (tiles : (p : ℕ) → Tiles (down (division_of c) p)) (flat : is_rct c.colour ≡ true → (q r : ℕ) → r < c.rows → shared_of (down (division_of c) q) r ≡ 0) (same_lines : is_rct c.colour ≡ true → (p r : ℕ) → lines_down c p r ≡ lines_down c 0 r) where
  -- a plane is the samples of its lines
  plane_of_lines : (planes : Planes) → AreOf (division_of c) planes → (p : ℕ) → p < plane_count c → samples_in p (lines_of c planes) ≡ plane planes p
  plane_of_lines planes fits p inside =
      ap (samples_in p) (lines_by_keys c planes)
      ∙ rows_are c planes p (keys_of c)
      ∙ ap (flat_map (row c planes p)) (rows_of_plane c p inside tiles flat (λ rct r. same_lines rct p r))
      ∙ plane_by_rows c planes fits p inside

  -- planes with the same lines are the same
  pub one_of_lines : (planes others : Planes) → Fits c planes → Fits c others → lines_of c planes ≡ lines_of c others → planes ≡ others
  one_of_lines planes others fits other same =
      ext_get_or {A = List ℕ} [] planes others (fits.are.count ∙ sym other.are.count) (λ p h.
      let inside : p < plane_count c = subst (λ n. p < n) fits.are.count h in
      sym (plane_is planes p) ∙ sym (plane_of_lines planes fits.are p inside) ∙ ap (samples_in p) same ∙ plane_of_lines others other.are p inside ∙ plane_is others p)

  own_keys : (planes : Planes) (ks : List Line) → map key_of (map (line_of c planes) ks) ≡ ks
  own_keys planes [] = refl
  own_keys planes (k ∷ ks) = ap (λ z. k ∷ z) (own_keys planes ks)

  rows_filtered : (p : ℕ) (ls : List wire.Line) → map (λ (l : wire.Line). l.row) (filter (λ (l : wire.Line). l.plane == p) ls) ≡ rows_in p (map key_of ls)
  rows_filtered p [] = refl
  rows_filtered p (l ∷ ls) = elim (cases_eq l.plane p) [
    | inl same ↦
        let yes = eq-eqb l.plane p same in
        ap (λ b. map (λ (l : wire.Line). l.row) (if b then l ∷ filter (λ (l : wire.Line). l.plane == p) ls else filter (λ (l : wire.Line). l.plane == p) ls)) yes
        ∙ ap (λ z. l.row ∷ z) (rows_filtered p ls)
        ∙ sym (ap (λ b. (if b then l.row ∷ [] else []) ++ rows_in p (map key_of ls)) yes)
    | inr other ↦
        let no = ne_eqb l.plane p other in
        ap (λ b. map (λ (l : wire.Line). l.row) (if b then l ∷ filter (λ (l : wire.Line). l.plane == p) ls else filter (λ (l : wire.Line). l.plane == p) ls)) no
        ∙ rows_filtered p ls
        ∙ sym (ap (λ b. (if b then l.row ∷ [] else []) ++ rows_in p (map key_of ls)) no)
  ]

  -- each plane has each of its rows once
  pub rows_once : (planes : Planes) (p : ℕ) → p < plane_count c →
      map (λ (l : wire.Line). l.row) (filter (λ (l : wire.Line). l.plane == p) (lines_of c planes)) ≡ range_with_len 0 (plane_height c p)
  rows_once planes p inside =
      rows_filtered p (lines_of c planes)
      ∙ ap (λ ls. rows_in p (map key_of ls)) (lines_by_keys c planes)
      ∙ ap (rows_in p) (own_keys planes (keys_of c))
      ∙ rows_of_plane c p inside tiles flat (λ rct r. same_lines rct p r)
