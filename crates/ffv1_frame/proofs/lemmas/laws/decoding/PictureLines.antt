-- Of slices that have read a line of a picture the picture's line is made.
use Rattle.std.proofs.Common.{◌≡◌, refl, ℕ, suc, ◌+◌, ◌-◌, ◌*◌, ◌^◌, ◌<◌, ◌≤◌, Bool, true, false, if◌then◌else◌, List, [], ◌∷◌, map, length, get_or, inl, inr, ap, sym, subst, ◌∙◌, arith, unsigned_abs}
use Rattle.std.specs.List.{range_with_len}
use Rattle.std.proofs.Math.Nat.{mul-le-mul_left}
use Rattle.std.proofs.lemmas.List.{ext_get_or}
use Rattle.std.proofs.lemmas.List.FromFn.{length-map-range_with_len, get_or-map-range_with_len}
use Rattle.ffv1_samples.specs.Samples.{bytes_of}
use Rattle.ffv1_samples.proofs.Depths.{length_samples}
use Rattle.ffv1_rct.specs.Transform.{IsCodedIn, IsColourIn, IsOnlyColourIn, luma_of, chroma_in}
use Rattle.ffv1_record.specs.Configuration.{Configuration, is_rct}
use Rattle.ffv1_slice.specs.Grid.{begin_of, length_of, first_of, shared_of, whole_of, across, down, division_of, planes_in}
use Rattle.ffv1_frame.specs.Sides.{HasPart, Tiles}
use Rattle.ffv1_frame.specs.Picture.{Planes, IsPicture, plane, plane_count, plane_width, plane_height, plane_samples, green_of, blue_of, sample_at, transformed_at, coded_at}
use Rattle.ffv1_frame.specs.SliceList.{Line}
use Rattle.ffv1_frame.specs.Order.{lines_down}
use Rattle.ffv1_frame.specs.Decoding.{Slice, Finishes, FinishesBy, width_in, left_of, own_row, top_of}
use Rattle.ffv1_frame.proofs.lemmas.picture.CodedSamples.{Small, is_colour}
use Rattle.ffv1_frame.proofs.lemmas.laws.decoding.Machines.{Each}
use Rattle.ffv1_frame.proofs.lemmas.laws.decoding.Groups.{Group, IsGroup, group_lines}
use Rattle.ffv1_frame.proofs.lemmas.laws.decoding.LinesRead.{lines_at}
use Rattle.ffv1_frame.proofs.lemmas.laws.decoding.LinesMade.{joined_line, map_each}
use Rattle.ffv1_frame.proofs.lemmas.laws.decoding.SlicesMade.{at_number, at_range}
use Rattle.ffv1_frame.proofs.lemmas.JoinedLines.{row_long, row_at, own_long, tiled_long}
use Rattle.ffv1_frame.proofs.lemmas.picture.Words.{picture_small, row_bytes, sample_row, green_few, blue_few}
use Rattle.ffv1_frame.proofs.lemmas.laws.decoding.CellsShown.{InRct, down_alike, inside_side, Shown, IsThere, joined_at, picture_row}

-- the laws of colours
pub record ColourLaws : Type 0 where
  pub small : Small
  pub only : (depth r g b s h d y cb cr : ℕ) → IsCodedIn depth r g b y cb cr → IsCodedIn depth s h d y cb cr → (s ≡ r) × (h ≡ g) × (d ≡ b)

module _ (c : Configuration) (planes : Planes) (picture : IsPicture c planes) (tiles : (p : ℕ) → Tiles (across (division_of c) p)) (tiles_v : (p : ℕ) → Tiles (down (division_of c) p))
    (part : (p x : ℕ) → x < whole_of (across (division_of c) p) → HasPart (across (division_of c) p) x) (colours : ColourLaws) (in_rct : InRct c) (slice : ℕ → Slice) (r : ℕ) (r_inside : r < c.rows) where
  -- the slices' line shows the coded samples
  joined_coded : (y p x : ℕ) → IsThere c planes slice tiles r (record { plane = p; y = y }) → Shown c planes slice tiles r (record { plane = p; y = y }) → x < plane_width c p →
      get_or (joined_line c slice y p) x 0 ≡ coded_at c planes p x (top_of c p r + y)
  joined_coded y p x there shown inside =
      let side = across (division_of c) p in
      let has = part p x inside in
      let k = has.part in
      let offset = x - left_of c p k in
      let begins = (tiles p).begins k has.lies.inside in
      let next : begin_of side k + length_of side k ≡ left_of c p k + width_in c p k = (tiles p).next k has.lies.inside in
      let place : left_of c p k + offset ≡ x = omega (arith, has.lies.least, begins) in
      let small : offset < width_in c p k = omega (arith, has.lies.least, has.lies.most, begins, next) in
      let own : shared_of side k ≤ offset = omega (arith, has.lies.least, begins) in
      ap (λ n. get_or (joined_line c slice y p) n 0) (sym place)
      ∙ joined_at c planes slice tiles r y p k offset there has.lies.inside small own
      ∙ shown k offset has.lies.inside small
      ∙ ap (λ n. coded_at c planes p n (top_of c p r + y)) place

  joined_wide : (y p : ℕ) → IsThere c planes slice tiles r (record { plane = p; y = y }) → length (joined_line c slice y p) ≡ plane_width c p
  joined_wide y p there =
      tiled_long (across (division_of c) p) (tiles p) (λ k. own_row c p k y (plane (slice k).cells p))
      (λ k inside. own_long c p k y (plane (slice k).cells p) ((tiles p).begins k inside) (there k inside))

  -- the picture's line is as long as the plane is wide
  picture_wide : (y p : ℕ) → p < plane_count c → y < lines_down c p r → length (sample_row c planes (top_of c p r + y) p) ≡ plane_width c p
  picture_wide y p inside below =
      let width = plane_width c p in
      let height = plane_height c p in
      let place : top_of c p r + y < height = inside_side (down (division_of c) p) (tiles_v p) r y r_inside below in
      let all : length (plane_samples c planes p) ≡ width * height = length_samples c.depth (width * height) (plane planes p) (picture.fits.are.sizes p inside) in
      let many : length (plane_samples c planes p) ≡ height * width = all ∙ (let turned : width * height ≡ height * width = omega arith in turned) in
      let fits = mul-le-mul_left {m = suc (top_of c p r + y)} {n = height} width place in
      row_long width (top_of c p r + y) (plane_samples c planes p) (omega (arith, fits, many))

  picture_at_place : (y p x : ℕ) → x < plane_width c p → get_or (sample_row c planes y p) x 0 ≡ sample_at c planes p x y
  picture_at_place y p x inside = row_at (plane_width c p) y x (plane_samples c planes p) inside

  coded_plain : (p x y : ℕ) → is_rct c.colour ≡ false → coded_at c planes p x y ≡ sample_at c planes p x y
  coded_plain p x y rct = ap (λ b. if b then transformed_at c planes p x y else sample_at c planes p x y) rct

  coded_rct : (p x y : ℕ) → is_rct c.colour ≡ true → coded_at c planes p x y ≡ transformed_at c planes p x y
  coded_rct p x y rct = ap (λ b. if b then transformed_at c planes p x y else sample_at c planes p x y) rct

  -- without RCT the two lines are one
  plain_same : (y p : ℕ) → is_rct c.colour ≡ false → p < plane_count c → y < lines_down c p r → IsThere c planes slice tiles r (record { plane = p; y = y }) →
      Shown c planes slice tiles r (record { plane = p; y = y }) → sample_row c planes (top_of c p r + y) p ≡ joined_line c slice y p
  plain_same y p rct inside below there shown =
      let wide = picture_wide y p inside below in
      ext_get_or 0 (sample_row c planes (top_of c p r + y) p) (joined_line c slice y p) (wide ∙ sym (joined_wide y p there)) (λ x h.
      let place : x < plane_width c p = subst (λ n. x < n) wide h in
      picture_at_place (top_of c p r + y) p x place ∙ sym (coded_plain p x (top_of c p r + y) rct) ∙ sym (joined_coded y p x there shown place))

  all_same : (y : ℕ) (ps : List ℕ) → is_rct c.colour ≡ false → Each (λ p. p < plane_count c) ps → Each (λ p. y < lines_down c p r) ps → Each (IsThere c planes slice tiles r) (lines_at ps y) →
      Each (Shown c planes slice tiles r) (lines_at ps y) → Each (λ p. sample_row c planes (top_of c p r + y) p ≡ joined_line c slice y p) ps
  all_same y [] rct inside below there shown = tt
  all_same y (p ∷ ps) rct inside below there shown =
      (plain_same y p rct inside.0 below.0 there.0 shown.0, all_same y ps rct inside.1 below.1 there.1 shown.1)

  -- in RCT the picture's lines are the only colours
  module _ (rct : is_rct c.colour ≡ true) (y : ℕ) (below : (p : ℕ) → p < plane_count c → y < lines_down c p r)
      (there : (p : ℕ) → p < plane_count c → IsThere c planes slice tiles r (record { plane = p; y = y }))
      (shown : (p : ℕ) → p < plane_count c → Shown c planes slice tiles r (record { plane = p; y = y })) where
    abbrev pub all : List ℕ
    all = range_with_len 0 (plane_count c)

    abbrev pub read : List (List ℕ)
    read = map (joined_line c slice y) (range_with_len 0 (plane_count c))

    abbrev pub out : List (List ℕ)
    out = map (λ p. sample_row c planes (top_of c p r + y) p) (range_with_len 0 (plane_count c))

    many : 2 < plane_count c
    many = elim (in_rct.few rct) [ inl is ↦ omega (arith, is) | inr is ↦ omega (arith, is.0) ]

    read_is : (p : ℕ) → p < plane_count c → get_or (map (joined_line c slice y) (range_with_len 0 (plane_count c))) p [] ≡ joined_line c slice y p
    read_is p inside = get_or-map-range_with_len (joined_line c slice y) 0 (plane_count c) p p [] inside (omega arith)

    out_is : (p : ℕ) → p < plane_count c → get_or (map (λ p. sample_row c planes (top_of c p r + y) p) (range_with_len 0 (plane_count c))) p [] ≡ sample_row c planes (top_of c p r + y) p
    out_is p inside = get_or-map-range_with_len (λ p. sample_row c planes (top_of c p r + y) p) 0 (plane_count c) p p [] inside (omega arith)

    -- by the row of plane 0, since all planes are divided alike
    sample : ℕ → ℕ → ℕ
    sample p x = sample_at c planes p x (top_of c 0 r + y)

    top_alike : (p : ℕ) → top_of c p r ≡ top_of c 0 r
    top_alike p = ap (λ s. first_of s r) (down_alike c (in_rct.alike rct) p)

    out_sample : (p x : ℕ) → p < plane_count c → x < c.width → get_or (get_or out p []) x 0 ≡ sample_at c planes p x (top_of c 0 r + y)
    out_sample p x inside small =
        ap (λ xs. get_or xs x 0) (out_is p inside)
        ∙ picture_at_place (top_of c p r + y) p x (subst (λ n. x < n) (sym (in_rct.wide rct p)) small)
        ∙ ap (λ n. sample_at c planes p x (n + y)) (top_alike p)

    read_sample : (p x : ℕ) → p < plane_count c → x < c.width → get_or (get_or read p []) x 0 ≡ transformed_at c planes p x (top_of c 0 r + y)
    read_sample p x inside small =
        ap (λ xs. get_or xs x 0) (read_is p inside)
        ∙ joined_coded y p x (there p inside) (shown p inside) (subst (λ n. x < n) (sym (in_rct.wide rct p)) small)
        ∙ coded_rct p x (top_of c p r + y) rct
        ∙ ap (λ n. transformed_at c planes p x (n + y)) (top_alike p)

    only_colours : (x : ℕ) → x < c.width →
        IsOnlyColourIn c.depth (get_or (get_or read 0 []) x 0) (get_or (get_or read 1 []) x 0) (get_or (get_or read 2 []) x 0) (get_or (get_or out 0 []) x 0) (get_or (get_or out (green_of c) []) x 0)
        (get_or (get_or out (blue_of c) []) x 0)
    only_colours x small =
        let two = many in
        let at_green : green_of c < plane_count c = omega (arith, two, green_few c) in
        let at_blue : blue_of c < plane_count c = omega (arith, two, blue_few c) in
        let red = sample_at c planes 0 x (top_of c 0 r + y) in
        let green = sample_at c planes (green_of c) x (top_of c 0 r + y) in
        let blue = sample_at c planes (blue_of c) x (top_of c 0 r + y) in
        let colour : IsColourIn c.depth (unsigned_abs (luma_of red green blue)) (unsigned_abs (chroma_in c.depth blue green)) (unsigned_abs (chroma_in c.depth red green)) red green blue =
        is_colour colours.small c.depth red green blue (picture_small c planes picture 0 _) (picture_small c planes picture (green_of c) _) (picture_small c planes picture (blue_of c) _) in
        let base : IsOnlyColourIn c.depth (unsigned_abs (luma_of red green blue)) (unsigned_abs (chroma_in c.depth blue green)) (unsigned_abs (chroma_in c.depth red green)) red green blue =
        record { colour = colour; only = λ s h d is. colours.only c.depth red green blue s h d _ _ _ colour.coded is } in
        let r0 = read_sample 0 x (omega (arith, two)) small in
        let r1 = read_sample 1 x (omega (arith, two)) small in
        let r2 = read_sample 2 x two small in
        let o0 = out_sample 0 x (omega (arith, two)) small in
        let o1 = out_sample (green_of c) x at_green small in
        let o2 = out_sample (blue_of c) x at_blue small in
        subst (λ n. IsOnlyColourIn c.depth n (get_or (get_or read 1 []) x 0) (get_or (get_or read 2 []) x 0) (get_or (get_or out 0 []) x 0) (get_or (get_or out (green_of c) []) x 0) (get_or (get_or out (blue_of c) []) x 0)) (sym r0)
        (subst (λ n. IsOnlyColourIn c.depth (unsigned_abs (luma_of red green blue)) n (get_or (get_or read 2 []) x 0) (get_or (get_or out 0 []) x 0) (get_or (get_or out (green_of c) []) x 0) (get_or (get_or out (blue_of c) []) x 0)) (sym r1)
        (subst (λ n. IsOnlyColourIn c.depth (unsigned_abs (luma_of red green blue)) (unsigned_abs (chroma_in c.depth blue green)) n (get_or (get_or out 0 []) x 0) (get_or (get_or out (green_of c) []) x 0) (get_or (get_or out (blue_of c) []) x 0)) (sym r2)
        (subst (λ n. IsOnlyColourIn c.depth (unsigned_abs (luma_of red green blue)) (unsigned_abs (chroma_in c.depth blue green)) (unsigned_abs (chroma_in c.depth red green)) n (get_or (get_or out (green_of c) []) x 0) (get_or (get_or out (blue_of c) []) x 0)) (sym o0)
        (subst (λ n. IsOnlyColourIn c.depth (unsigned_abs (luma_of red green blue)) (unsigned_abs (chroma_in c.depth blue green)) (unsigned_abs (chroma_in c.depth red green)) red n (get_or (get_or out (blue_of c) []) x 0)) (sym o1)
        (subst (λ n. IsOnlyColourIn c.depth (unsigned_abs (luma_of red green blue)) (unsigned_abs (chroma_in c.depth blue green)) (unsigned_abs (chroma_in c.depth red green)) red green n) (sym o2) base)))))

    four : c.extra_plane ≡ true → 3 < plane_count c
    four extra = subst (λ b. 3 < planes_in c.chroma_planes b) (sym extra) (omega arith)

    out_long : (p : ℕ) → p < plane_count c → length (get_or out p []) ≡ c.width
    out_long p inside = ap (λ (xs : List ℕ). length xs) (out_is p inside) ∙ picture_wide y p inside (below p inside) ∙ in_rct.wide rct p

    fourth : c.extra_plane ≡ true → (get_or out 3 [] ≡ get_or read 3 []) × ((x : ℕ) → x < c.width → get_or (get_or read 3 []) x 0 < 2 ^ c.depth)
    fourth extra =
        let inside = four extra in
        let read_long : length (get_or read 3 []) ≡ c.width = ap (λ (xs : List ℕ). length xs) (read_is 3 inside) ∙ joined_wide y 3 (there 3 inside) ∙ in_rct.wide rct 3 in (
          ext_get_or 0 (get_or out 3 []) (get_or read 3 []) (out_long 3 inside ∙ sym read_long) (λ x h.
              let small : x < c.width = subst (λ n. x < n) (out_long 3 inside) h in
              out_sample 3 x inside small ∙ sym (read_sample 3 x inside small)),
          λ x small. subst (λ n. n < 2 ^ c.depth) (sym (read_sample 3 x inside small)) (picture_small c planes picture 3 _),
        )

    pub colours_finish : FinishesBy true c read out
    colours_finish = (
      length-map-range_with_len (λ p. sample_row c planes (top_of c p r + y) p) 0 (plane_count c) ∙ sym (length-map-range_with_len (joined_line c slice y) 0 (plane_count c)),
      λ i h. out_long i (subst (λ n. i < n) (length-map-range_with_len (joined_line c slice y) 0 (plane_count c)) h),
      only_colours,
      fourth,
    )

  shown_by : (ps : List ℕ) (y : ℕ) (P : Line → Type 0) → Each P (lines_at ps y) → ps ≡ range_with_len 0 (plane_count c) → (p : ℕ) → p < plane_count c → P (record { plane = p; y = y })
  shown_by ps y P all is p inside =
      at_number P (λ p. record { plane = p; y = y }) 0 (plane_count c) p (omega arith) (omega (arith, inside)) (subst (λ qs. Each P (lines_at qs y)) is all)

  finish_by : (rct : Bool) → is_rct c.colour ≡ rct → (g : Group) → IsGroup c r g → Each (IsThere c planes slice tiles r) (group_lines g) → Each (Shown c planes slice tiles r) (group_lines g) →
      FinishesBy rct c (map (joined_line c slice g.y) g.planes) (map (λ p. sample_row c planes (top_of c p r + g.y) p) g.planes)
  finish_by true e g is there shown =
      let all = is.rct e in
      let below : (p : ℕ) → p < plane_count c → g.y < lines_down c p r = λ p inside.
      at_range (λ p. g.y < lines_down c p r) 0 (plane_count c) p (omega arith) (omega (arith, inside)) (subst (Each (λ p. g.y < lines_down c p r)) all is.down) in
      subst (λ ps. FinishesBy true c (map (joined_line c slice g.y) ps) (map (λ p. sample_row c planes (top_of c p r + g.y) p) ps)) (sym all)
      (colours_finish e g.y below (shown_by g.planes g.y (IsThere c planes slice tiles r) there all) (shown_by g.planes g.y (Shown c planes slice tiles r) shown all))
  finish_by false e g is there shown =
      map_each (λ p. sample_row c planes (top_of c p r + g.y) p) (joined_line c slice g.y) g.planes (all_same g.y g.planes e is.inside is.down there shown)

  -- the bytes of the picture's lines
  rows_bytes : (y : ℕ) (ps : List ℕ) → Each (λ p. p < plane_count c) ps → Each (λ p. y < lines_down c p r) ps →
      map (λ p. picture_row c planes (top_of c p r + y) p) ps ≡ map (bytes_of c.depth) (map (λ p. sample_row c planes (top_of c p r + y) p) ps)
  rows_bytes y [] inside below = refl
  rows_bytes y (p ∷ ps) inside below =
      let place : top_of c p r + y < plane_height c p = inside_side (down (division_of c) p) (tiles_v p) r y r_inside below.0 in
      ap (λ z. z ∷ map (λ q. picture_row c planes (top_of c q r + y) q) ps) (sym (row_bytes c planes (top_of c p r + y) p picture inside.0 place))
      ∙ ap (λ zs. bytes_of c.depth (sample_row c planes (top_of c p r + y) p) ∷ zs) (rows_bytes y ps inside.1 below.1)

  -- the picture's lines are made of the slices'
  pub picture_finishes : (g : Group) → IsGroup c r g → Each (IsThere c planes slice tiles r) (group_lines g) → Each (Shown c planes slice tiles r) (group_lines g) →
      Finishes c (map (joined_line c slice g.y) g.planes) (map (λ p. picture_row c planes (top_of c p r + g.y) p) g.planes)
  picture_finishes g is there shown = record {
    made = map (λ p. sample_row c planes (top_of c p r + g.y) p) g.planes;
    by = finish_by (is_rct c.colour) refl g is there shown;
    bytes = rows_bytes g.y g.planes is.inside is.down;
  }
