-- If the lines that were made are those of a picture, the slices have read its coded samples.
use Rattle.std.proofs.Common.{◌≡◌, refl, ℕ, ℤ, zero, suc, ◌+◌, ◌-◌, ◌*◌, ◌<◌, ◌≤◌, Bool, true, false, if◌then◌else◌, List, [], ◌∷◌, ◌++◌, map, length, get_or, inl, inr, ap, sym, subst, ◌∙◌, arith, unsigned_abs, pos}
use Rattle.std.specs.List.{flat_map, range_with_len}
use Rattle.std.proofs.lemmas.Bool.{cases_eq, cases_lt}
use Rattle.std.proofs.lemmas.List.FromFn.{get_or-map-range_with_len}
use Rattle.ffv1_wire.specs.Runs as wire
use Rattle.ffv1_samples.specs.Samples.{bytes_of, samples_of}
use Rattle.ffv1_samples.proofs.Depths.{samples_back}
use Rattle.ffv1_rct.specs.Transform.{IsCodedIn, luma_of, chroma_in}
use Rattle.ffv1_record.specs.Configuration.{Configuration, is_rct}
use Rattle.ffv1_slice.specs.Grid.{Side, begin_of, length_of, first_of, coded_of, shared_of, whole_of, across, down, division_of, factor_of}
use Rattle.ffv1_frame.specs.Sides.{Alike, Tiles}
use Rattle.ffv1_frame.specs.Picture.{Planes, plane, plane_count, plane_width, plane_samples, line_bytes, green_of, blue_of, sample_at, transformed_at, coded_at}
use Rattle.ffv1_frame.specs.SliceList.{Line}
use Rattle.ffv1_frame.specs.Order.{numbered, new_planes}
use Rattle.ffv1_frame.specs.Decoding.{Slice, FinishesBy, width_in, left_of, own_row, row_in, top_of}
use Rattle.ffv1_frame.proofs.lemmas.laws.decoding.Machines.{each_left, each_right, Each, each_append}
use Rattle.ffv1_frame.proofs.lemmas.laws.decoding.OneColour.{AreFew}
use Rattle.ffv1_frame.proofs.lemmas.laws.decoding.Groups.{Group, IsGroup, group_lines}
use Rattle.ffv1_frame.proofs.lemmas.laws.decoding.LinesRead.{lines_at}
use Rattle.ffv1_frame.proofs.lemmas.laws.decoding.LinesMade.{MadeOf, handed, joined_line}
use Rattle.ffv1_frame.proofs.lemmas.JoinedLines.{tiled_at, own_long, own_at, row_at}
use Rattle.ffv1_frame.proofs.lemmas.picture.LineSizes.{by_number}
use Rattle.ffv1_frame.proofs.lemmas.laws.decoding.NewPlanes.{all_new, new_one}
use Rattle.ffv1_frame.proofs.lemmas.picture.Words.{get_or_bytes, row_samples, sample_row, green_few, blue_few}

factor_zero : (p : ℕ) → factor_of 0 p ≡ 0
factor_zero zero = refl
factor_zero (suc zero) = refl
factor_zero (suc (suc zero)) = refl
factor_zero (suc (suc (suc p))) = refl

pub across_alike : (c : Configuration) → Alike c → (p : ℕ) → across (division_of c) p ≡ across (division_of c) 0
across_alike c alike p =
    let side : ℕ → Side = λ log2. record { size = c.width; count = c.columns; log2 = log2 } in
    ap (λ n. side (factor_of n p)) alike.h ∙ ap side (factor_zero p)

pub down_alike : (c : Configuration) → Alike c → (p : ℕ) → down (division_of c) p ≡ down (division_of c) 0
down_alike c alike p =
    let side : ℕ → Side = λ log2. record { size = c.height; count = c.rows; log2 = log2 } in
    ap (λ n. side (factor_of n p)) alike.v ∙ ap side (factor_zero p)

-- so no two slices have a sample in common
pub alike_across : (c : Configuration) → Alike c → ((p : ℕ) → Tiles (across (division_of c) p)) → (p k : ℕ) → k < c.columns → shared_of (across (division_of c) p) k ≡ 0
alike_across c alike tiles p k inside = ap (λ s. shared_of s k) (across_alike c alike p) ∙ (tiles 0).flat refl k inside

pub alike_down : (c : Configuration) → Alike c → ((p : ℕ) → Tiles (down (division_of c) p)) → (p r : ℕ) → r < c.rows → shared_of (down (division_of c) p) r ≡ 0
alike_down c alike tiles p r inside = ap (λ s. shared_of s r) (down_alike c alike p) ∙ (tiles 0).flat refl r inside

-- a sample of a cell is a sample of the side
pub inside_side : (s : Side) → Tiles s → (k x : ℕ) → k < s.count → x < coded_of s k → first_of s k + x < whole_of s
inside_side s tiles k x here small = omega (arith, tiles.ends k here, small)

-- of lines with their numbers the line of a number
pub at_own : (Q : ℕ × ℕ → Type 0) (from count p : ℕ) → from ≤ p → p < from + count → Each Q (numbered from (range_with_len from count)) → Q (p, p)
at_own Q from zero p least most all = absurd (omega (arith, least, most))
at_own Q from (suc count) p least most all = elim (cases_eq from p) [
  | inl same ↦ subst (λ n. Q (n, n)) same all.0
  | inr other ↦
      let next : suc from ≡ from + 1 = omega arith in
      at_own Q (from + 1) count p (omega (arith, least, other)) (omega (arith, most)) (subst (λ n. Each Q (numbered n (range_with_len (from + 1) count))) next all.1)
]

absolute : (a : ℕ) (z : ℤ) → pos a ≡ z → a ≡ unsigned_abs z
absolute a z e = ap unsigned_abs e

-- what holds of the planes in RCT
pub record InRct (c : Configuration) : Type 0 where
  pub alike : is_rct c.colour ≡ true → Alike c
  pub wide : is_rct c.colour ≡ true → (p : ℕ) → plane_width c p ≡ c.width
  pub few : is_rct c.colour ≡ true → AreFew c (plane_count c)

module _ (c : Configuration) (planes : Planes) where
  -- a line of the picture, in bytes
  abbrev pub IsLine : wire.Line → Type 0
  IsLine l = l.samples ≡ row_in (line_bytes c l.plane) l.row (plane planes l.plane)

  abbrev pub picture_row : ℕ → ℕ → List ℕ
  picture_row y p = row_in (line_bytes c p) y (plane planes p)

  module _ (slice : ℕ → Slice) (tiles : (p : ℕ) → Tiles (across (division_of c) p)) (r : ℕ) where
    -- what was read of a line is the picture's
    abbrev pub Shown : Line → Type 0
    Shown l =
        (k x : ℕ) → k < c.columns → x < width_in c l.plane k →
        get_or (plane (slice k).cells l.plane) (l.y * width_in c l.plane k + x) 0 ≡ coded_at c planes l.plane (left_of c l.plane k + x) (top_of c l.plane r + l.y)

    abbrev pub IsThere : Line → Type 0
    IsThere l = (k : ℕ) → k < c.columns → suc l.y * width_in c l.plane k ≤ length (plane (slice k).cells l.plane)

    -- a position of the slices' line that the column before does not code
    pub joined_at : (y p k x : ℕ) → ((k : ℕ) → k < c.columns → suc y * width_in c p k ≤ length (plane (slice k).cells p)) → k < c.columns → x < width_in c p k →
        shared_of (across (division_of c) p) k ≤ x → get_or (joined_line c slice y p) (left_of c p k + x) 0 ≡ get_or (plane (slice k).cells p) (y * width_in c p k + x) 0
    joined_at y p k x there inside small own =
        let s = across (division_of c) p in
        let shared = shared_of s k in
        let begins = (tiles p).begins k inside in
        let place : first_of s k + x ≡ begin_of s k + (x - shared) = omega (arith, begins, own) in
        let from : shared + (x - shared) ≡ x = omega (arith, own) in
        let here : x - shared < length_of s k = omega (arith, begins, own, small) in
        ap (λ n. get_or (joined_line c slice y p) n 0) place
        ∙ tiled_at s (tiles p) (λ k. own_row c p k y (plane (slice k).cells p))
        (λ k inside. own_long c p k y (plane (slice k).cells p) ((tiles p).begins k inside) (there k inside)) k (x - shared) inside here
        ∙ own_at c p k y (x - shared) (plane (slice k).cells p) begins here
        ∙ ap (λ n. get_or (plane (slice k).cells p) (y * width_in c p k + n) 0) from

    nothing_shared : Alike c → (p k x : ℕ) → k < c.columns → shared_of (across (division_of c) p) k ≤ x
    nothing_shared alike p k x inside = omega (arith, alike_across c alike tiles p k inside)

    -- a position of the picture's line
    picture_at : (y p k x : ℕ) → k < c.columns → x < width_in c p k → get_or (sample_row c planes y p) (left_of c p k + x) 0 ≡ sample_at c planes p (left_of c p k + x) y
    picture_at y p k x inside small = row_at (plane_width c p) y (left_of c p k + x) (plane_samples c planes p) (inside_side (across (division_of c) p) (tiles p) k x inside small)

    -- what slices have of the sample that they share with the one to the left
    abbrev pub AgreesLeft : Line → Type 0
    AgreesLeft l =
        (j x : ℕ) → suc j < c.columns → x < shared_of (across (division_of c) l.plane) (suc j) →
        get_or (plane (slice (suc j)).cells l.plane) (l.y * width_in c l.plane (suc j) + x) 0 ≡ get_or (plane (slice j).cells l.plane) (l.y * width_in c l.plane j + (width_in c l.plane j - 1)) 0

    -- column by column
    by_column : (y p : ℕ) → AgreesLeft (record { plane = p; y = y }) →
        ((k x : ℕ) → k < c.columns → x < width_in c p k → shared_of (across (division_of c) p) k ≤ x →
        get_or (plane (slice k).cells p) (y * width_in c p k + x) 0 ≡ coded_at c planes p (left_of c p k + x) (top_of c p r + y)) → Shown (record { plane = p; y = y })
    by_column y p beside own zero x inside small = own zero x inside small (omega arith)
    by_column y p beside own (suc j) x inside small = elim (cases_lt x (shared_of (across (division_of c) p) (suc j))) [
      | inl shared ↦
          let side = across (division_of c) p in
          let w = width_in c p j in
          let here : j < c.columns = omega (arith, inside) in
          let some : 0 < w = (tiles p).some j here in
          let few = (tiles p).few (suc j) inside in
          let begins : first_of side (suc j) ≤ first_of side j + w = (tiles p).begins (suc j) inside in
          let shares : (first_of side j + w) - first_of side (suc j) ≤ 1 = few in
          let less : x < (first_of side j + w) - first_of side (suc j) = shared in
          let place : left_of c p j + (w - 1) ≡ left_of c p (suc j) + x = omega (arith, some, shares, begins, less) in
          beside j x inside shared ∙ by_column y p beside own j (w - 1) here (omega (arith, some)) ∙ ap (λ n. coded_at c planes p n (top_of c p r + y)) place
      | inr owned ↦ own (suc j) x inside small (omega (arith, owned))
    ]

    plain_shown : (y p : ℕ) → is_rct c.colour ≡ false → ((k : ℕ) → k < c.columns → suc y * width_in c p k ≤ length (plane (slice k).cells p)) → AgreesLeft (record { plane = p; y = y }) →
        joined_line c slice y p ≡ sample_row c planes (top_of c p r + y) p → Shown (record { plane = p; y = y })
    plain_shown y p rct there beside same =
        let side = across (division_of c) p in
        let own : (k x : ℕ) → k < c.columns → x < width_in c p k → shared_of side k ≤ x →
        get_or (plane (slice k).cells p) (y * width_in c p k + x) 0 ≡ coded_at c planes p (left_of c p k + x) (top_of c p r + y) = λ k x inside small owned.
        sym (joined_at y p k x there inside small owned)
        ∙ ap (λ xs. get_or xs (left_of c p k + x) 0) same
        ∙ picture_at (top_of c p r + y) p k x inside small
        ∙ ap (λ b. if b then transformed_at c planes p (left_of c p k + x) (top_of c p r + y) else sample_at c planes p (left_of c p k + x) (top_of c p r + y)) (sym rct) in
        by_column y p beside own

    module _ (rct : is_rct c.colour ≡ true) (alike : Alike c) (wide : (p : ℕ) → plane_width c p ≡ c.width) (few : AreFew c (plane_count c))
        (y : ℕ) (out : List (List ℕ)) (f : FinishesBy true c (map (joined_line c slice y) (range_with_len 0 (plane_count c))) out)
        (own : (p : ℕ) → p < plane_count c → get_or out p [] ≡ sample_row c planes (top_of c p r + y) p) where
      read : List (List ℕ)
      read = map (joined_line c slice y) (range_with_len 0 (plane_count c))

      abbrev pub out_at : ℕ → ℕ → ℕ
      out_at i x = get_or (get_or out i []) x 0

      three : 2 < plane_count c
      three = elim few [ inl is ↦ omega (arith, is) | inr is ↦ omega (arith, is.0) ]

      -- what is read is the slices' line
      read_is : (p x : ℕ) → p < plane_count c → get_or (get_or (map (joined_line c slice y) (range_with_len 0 (plane_count c))) p []) x 0 ≡ get_or (joined_line c slice y p) x 0
      read_is p x inside = ap (λ xs. get_or xs x 0) (get_or-map-range_with_len (joined_line c slice y) 0 (plane_count c) p p [] inside (omega arith))

      top_alike : (i p : ℕ) → top_of c i r ≡ top_of c p r
      top_alike i p = ap (λ s. first_of s r) (down_alike c alike i ∙ sym (down_alike c alike p))

      -- what was made is the picture's
      out_is : (i p x : ℕ) → i < plane_count c → x < c.width → out_at i x ≡ sample_at c planes i x (top_of c p r + y)
      out_is i p x inside small =
          ap (λ xs. get_or xs x 0) (own i inside)
          ∙ row_at (plane_width c i) (top_of c i r + y) x (plane_samples c planes i) (rw (wide i) small)
          ∙ ap (λ n. sample_at c planes i x (n + y)) (top_alike i p)

      coded_there : (x : ℕ) → x < c.width →
          IsCodedIn c.depth (out_at 0 x) (out_at (green_of c) x) (out_at (blue_of c) x) (get_or (joined_line c slice y 0) x 0) (get_or (joined_line c slice y 1) x 0) (get_or (joined_line c slice y 2) x 0)
      coded_there x small =
          let coded = (f.2 x small).colour.coded in
          let two = three in record {
            luma = ap (λ n. pos n) (sym (read_is 0 x (omega (arith, two)))) ∙ coded.luma;
            blue = ap (λ n. pos n) (sym (read_is 1 x (omega (arith, two)))) ∙ coded.blue;
            red = ap (λ n. pos n) (sym (read_is 2 x two)) ∙ coded.red;
          }

      -- the slices' line is the transform
      transformed : (p x : ℕ) → p < plane_count c → x < c.width → get_or (joined_line c slice y p) x 0 ≡ transformed_at c planes p x (top_of c p r + y)
      transformed zero x inside small =
          let two = three in
          let green : green_of c < plane_count c = omega (arith, two, green_few c) in
          let blue : blue_of c < plane_count c = omega (arith, two, blue_few c) in
          absolute _ _ (coded_there x small).luma
          ∙ ap (λ n. unsigned_abs (luma_of n (out_at (green_of c) x) (out_at (blue_of c) x))) (out_is 0 0 x inside small)
          ∙ ap (λ n. unsigned_abs (luma_of (sample_at c planes 0 x (top_of c 0 r + y)) n (out_at (blue_of c) x))) (out_is (green_of c) 0 x green small)
          ∙ ap (λ n. unsigned_abs (luma_of (sample_at c planes 0 x (top_of c 0 r + y)) (sample_at c planes (green_of c) x (top_of c 0 r + y)) n)) (out_is (blue_of c) 0 x blue small)
      transformed (suc zero) x inside small =
          let two = three in
          let green : green_of c < plane_count c = omega (arith, two, green_few c) in
          let blue : blue_of c < plane_count c = omega (arith, two, blue_few c) in
          absolute _ _ (coded_there x small).blue
          ∙ ap (λ n. unsigned_abs (chroma_in c.depth n (out_at (green_of c) x))) (out_is (blue_of c) 1 x blue small)
          ∙ ap (λ n. unsigned_abs (chroma_in c.depth (sample_at c planes (blue_of c) x (top_of c 1 r + y)) n)) (out_is (green_of c) 1 x green small)
      transformed (suc (suc zero)) x inside small =
          let two = three in
          let green : green_of c < plane_count c = omega (arith, two, green_few c) in
          absolute _ _ (coded_there x small).red
          ∙ ap (λ n. unsigned_abs (chroma_in c.depth n (out_at (green_of c) x))) (out_is 0 2 x (omega (arith, two)) small)
          ∙ ap (λ n. unsigned_abs (chroma_in c.depth (sample_at c planes 0 x (top_of c 2 r + y)) n)) (out_is (green_of c) 2 x green small)
      transformed (suc (suc (suc zero))) x inside small = elim few [
        | inl is ↦ absurd (omega (arith, inside, is))
        | inr is ↦
            sym (read_is 3 x inside) ∙ sym (ap (λ xs. get_or xs x 0) (f.3 is.1).0) ∙ out_is 3 3 x inside small
      ]
      transformed (suc (suc (suc (suc p)))) x inside small = elim few [
        | inl is ↦ absurd (omega (arith, inside, is))
        | inr is ↦ absurd (omega (arith, inside, is.0))
      ]

      pub colours_shown : (p : ℕ) → p < plane_count c → ((k : ℕ) → k < c.columns → suc y * width_in c p k ≤ length (plane (slice k).cells p)) → Shown (record { plane = p; y = y })
      colours_shown p inside there = λ k x here small.
          let place : left_of c p k + x < c.width = subst (λ n. left_of c p k + x < n) (wide p) (inside_side (across (division_of c) p) (tiles p) k x here small) in
          sym (joined_at y p k x there here small (nothing_shared alike p k x here))
          ∙ transformed p (left_of c p k + x) inside place
          ∙ ap (λ b. if b then transformed_at c planes p (left_of c p k + x) (top_of c p r + y) else sample_at c planes p (left_of c p k + x) (top_of c p r + y)) (sym rct)

    -- the samples that were made are those of the picture's lines
    made_lines : (y : ℕ) (made : List (List ℕ)) (ips : List (ℕ × ℕ)) → Each IsLine (map (handed c r y (map (bytes_of c.depth) made)) ips) →
        Each (λ (ip : ℕ × ℕ). get_or made ip.0 [] ≡ sample_row c planes (top_of c ip.1 r + y) ip.1) ips
    made_lines y made [] lines = tt
    made_lines y made (ip ∷ ips) lines = (
      sym (samples_back c.depth (get_or made ip.0 [])) ∙ ap (samples_of c.depth) (sym (get_or_bytes c.depth ip.0 made) ∙ lines.0) ∙ row_samples c planes (top_of c ip.1 r + y) ip.1,
      made_lines y made ips lines.1,
    )

    all_plain : (y i : ℕ) (out : List (List ℕ)) (ps : List ℕ) → is_rct c.colour ≡ false → Each IsThere (lines_at ps y) → Each AgreesLeft (lines_at ps y) →
        Each (λ (ip : ℕ × ℕ). get_or out ip.0 [] ≡ joined_line c slice y ip.1) (numbered i ps) →
        Each (λ (ip : ℕ × ℕ). get_or out ip.0 [] ≡ sample_row c planes (top_of c ip.1 r + y) ip.1) (numbered i ps) → Each Shown (lines_at ps y)
    all_plain y i out [] rct there beside same lines = tt
    all_plain y i out (p ∷ ps) rct there beside same lines =
        (plain_shown y p rct there.0 beside.0 (sym same.0 ∙ lines.0), all_plain y (suc i) out ps rct there.1 beside.1 same.1 lines.1)

    all_colours : (ps : List ℕ) (y : ℕ) → Each (λ p. p < plane_count c) ps → Each IsThere (lines_at ps y) →
        ((p : ℕ) → p < plane_count c → ((k : ℕ) → k < c.columns → suc y * width_in c p k ≤ length (plane (slice k).cells p)) → Shown (record { plane = p; y = y })) → Each Shown (lines_at ps y)
    all_colours [] y inside there shown = tt
    all_colours (p ∷ ps) y inside there shown = (shown p inside.0 there.0, all_colours ps y inside.1 there.1 shown)

    group_shown : InRct c → (rct : Bool) → is_rct c.colour ≡ rct → (g : Group) (made : List (List ℕ)) → IsGroup c r g → Each IsThere (group_lines g) → Each AgreesLeft (group_lines g) →
        FinishesBy rct c (map (joined_line c slice g.y) g.planes) made →
        Each (λ (ip : ℕ × ℕ). get_or made ip.0 [] ≡ sample_row c planes (top_of c ip.1 r + g.y) ip.1) (numbered 0 g.planes) → Each Shown (group_lines g)
    group_shown in_rct true e g made is there beside f lines =
        let own : (p : ℕ) → p < plane_count c → get_or made p [] ≡ sample_row c planes (top_of c p r + g.y) p = λ p inside.
        at_own (λ (ip : ℕ × ℕ). get_or made ip.0 [] ≡ sample_row c planes (top_of c ip.1 r + g.y) ip.1) 0 (plane_count c) p (omega arith) (omega (arith, inside))
        (subst (λ ps. Each (λ (ip : ℕ × ℕ). get_or made ip.0 [] ≡ sample_row c planes (top_of c ip.1 r + g.y) ip.1) (numbered 0 ps)) (is.rct e) lines) in
        all_colours g.planes g.y is.inside there
        (colours_shown e (in_rct.alike e) (in_rct.wide e) (in_rct.few e) g.y made (subst (λ ps. FinishesBy true c (map (joined_line c slice g.y) ps) made) (is.rct e) f) own)
    group_shown in_rct false e g made is there beside f lines =
        all_plain g.y 0 made g.planes e there beside
        (subst (λ xs. Each (λ (ip : ℕ × ℕ). get_or xs ip.0 [] ≡ joined_line c slice g.y ip.1) (numbered 0 g.planes)) (sym f) (by_number (joined_line c slice g.y) [] g.planes)) lines

    -- a line that the row above has handed over is shown by what slices have of it
    abbrev pub IsOld : Line → Type 0
    IsOld l = l.y < shared_of (down (division_of c) l.plane) r → Shown l

    group_by : InRct c → (is_rct c.colour ≡ true → (p : ℕ) → shared_of (down (division_of c) p) r ≡ 0) → (rct : Bool) → is_rct c.colour ≡ rct → (g : Group) (made : List (List ℕ)) → IsGroup c r g →
        Each IsThere (group_lines g) → Each AgreesLeft (group_lines g) → Each IsOld (group_lines g) → FinishesBy rct c (map (joined_line c slice g.y) g.planes) made →
        Each (λ (ip : ℕ × ℕ). get_or made ip.0 [] ≡ sample_row c planes (top_of c ip.1 r + g.y) ip.1) (numbered 0 (new_planes c r g.planes g.y)) → Each Shown (group_lines g)
    group_by in_rct flat true e g made is there beside old f lines =
        let new = all_new c r g.planes g.y (λ p. let none = flat e p in omega (arith, none)) in
        group_shown in_rct true e g made is there beside f (subst (λ ps. Each (λ (ip : ℕ × ℕ). get_or made ip.0 [] ≡ sample_row c planes (top_of c ip.1 r + g.y) ip.1) (numbered 0 ps)) new lines)
    group_by in_rct flat false e g made is there beside old f lines =
        let one = is.one e in
        let p = one.0 in
        elim (cases_lt g.y (shared_of (down (division_of c) p) r)) [
          | inl shared ↦ subst (λ ps. Each Shown (lines_at ps g.y)) (sym one.1) ((subst (λ ps. Each IsOld (lines_at ps g.y)) one.1 old).0 shared, tt)
          | inr fresh ↦
              let new : new_planes c r g.planes g.y ≡ g.planes = ap (λ ps. new_planes c r ps g.y) one.1 ∙ new_one c r p g.y (omega (arith, fresh)) ∙ sym one.1 in
              group_shown in_rct false e g made is there beside f (subst (λ ps. Each (λ (ip : ℕ × ℕ). get_or made ip.0 [] ≡ sample_row c planes (top_of c ip.1 r + g.y) ip.1) (numbered 0 ps)) new lines)
        ]

    pub groups_shown : InRct c → (is_rct c.colour ≡ true → (p : ℕ) → shared_of (down (division_of c) p) r ≡ 0) → (gs : List Group) (ls : List wire.Line) → Each (IsGroup c r) gs →
        Each IsThere (flat_map group_lines gs) → Each AgreesLeft (flat_map group_lines gs) → Each IsOld (flat_map group_lines gs) → MadeOf c r slice gs ls → Each IsLine ls → Each Shown (flat_map group_lines gs)
    groups_shown in_rct flat [] ls are there beside old made lines = tt
    groups_shown in_rct flat (g ∷ gs) ls are there beside old made lines =
        let ips = numbered 0 (new_planes c r g.planes g.y) in
        let here = map (handed c r g.y made.0) ips in
        let f = made.2 in
        let all : Each IsLine (here ++ made.1) = subst (Each IsLine) made.4 lines in
        let gl = group_lines g in
        let rest = flat_map group_lines gs in
        each_append Shown gl rest
        (group_by in_rct flat (is_rct c.colour) refl g f.made are.0 (each_left IsThere gl rest there) (each_left AgreesLeft gl rest beside) (each_left IsOld gl rest old) f.by
        (made_lines g.y f.made ips (subst (λ out. Each IsLine (map (handed c r g.y out) ips)) f.bytes (each_left IsLine here made.1 all))))
        (groups_shown in_rct flat gs made.1 are.1 (each_right IsThere gl rest there) (each_right AgreesLeft gl rest beside) (each_right IsOld gl rest old) made.3 (each_right IsLine here made.1 all))
