-- The lines of a picture of RCT are those of an image.
use Rattle.std.proofs.Common.{◌≡◌, refl, ℕ, zero, suc, ◌+◌, ◌*◌, Bool, true, false, true≢false, List, [], ◌∷◌, length, map, take, drop, ap, ap₂, sym, ◌∙◌, arith, drop-drop}
use Rattle.std.specs.List.{flat_map, range_with_len}
use Rattle.ffv1_wire.specs.Runs.{Line}
use Rattle.ffv1_record.specs.Configuration.{Configuration, is_rct}
use Rattle.ffv1_record.specs.Equal.{is_same_colour}
use Rattle.ffv1_record.specs.declared.config.Colour.{Colour}
use Rattle.ffv1_record.specs.declared.config.Colour.TheVariants as colour
use Rattle.ffv1_slice.specs.Grid.{division_of, planes_in}
use Rattle.ffv1_codec.specs.Lines.{line_in, lines_of, places_of}
use Rattle.ffv1_codec.specs.Picture.{Fits, Planes, line_bytes, plane, plane_height, plane_width}
use Rattle.ffv1_samples.specs.Samples.{sample_bytes}
use Rattle.ffv1_video.proofs.Depths.{bytes_are}
use Rattle.ffv1_y4m.specs.Ppm.{bytes_for}
use Rattle.ffv1_y4m.specs.Images.{image_lines}

pub colour_of : (c : Colour) → is_rct c ≡ true → c ≡ colour.Rct
colour_of colour.YCbCr is = absurd (true≢false (sym is))
colour_of colour.Rct is = refl

pub other_colour : (c : Colour) (same : Bool) → same ≡ is_same_colour c colour.Rct → same ≡ false → is_rct c ≡ false
other_colour colour.YCbCr same e differs = refl
other_colour colour.Rct same e differs = sym e ∙ differs

-- red, green and blue of a row
abbrev three : ℕ → List (ℕ × ℕ)
three y = (0, y) ∷ (1, y) ∷ (2, y) ∷ []

-- what is left of a plane after some rows of it, and one more
next_row : (w y : ℕ) (xs : List ℕ) → drop w (drop (y * w) xs) ≡ drop (suc y * w) xs
next_row w y xs =
    let more : y * w + w ≡ suc y * w = omega arith in
    drop-drop w (y * w) xs ∙ ap (λ n. drop n xs) more

module _ (c : Configuration) (red green blue : List ℕ) (w : ℕ) (wide : (p : ℕ) → line_bytes c p ≡ w) where
  abbrev line_at : ℕ × ℕ → Line
  line_at k = line_in c (red ∷ green ∷ blue ∷ []) k.1 k.0

  row_is : (p y : ℕ) (xs : List ℕ) → plane (red ∷ green ∷ blue ∷ []) p ≡ xs → line_at (p, y) ≡ record { plane = p; row = y; samples = take w (drop (y * w) xs) }
  row_is p y xs is =
      ap₂ (λ n z. record { plane = p; row = y; samples = take n (drop (y * n) z) }) (wide p) is

  rows_from : (n y : ℕ) →
      map line_at (flat_map three (range_with_len y n)) ≡ image_lines w y n (drop (y * w) red) (drop (y * w) green) (drop (y * w) blue)
  rows_from zero y = refl
  rows_from (suc n) y =
      let more : y + 1 ≡ suc y = omega arith in
      let rest : map line_at (flat_map three (range_with_len (y + 1) n))
      ≡ image_lines w (suc y) n (drop w (drop (y * w) red)) (drop w (drop (y * w) green)) (drop w (drop (y * w) blue)) =
      ap (λ k. map line_at (flat_map three (range_with_len k n))) more ∙ rows_from n (suc y)
      ∙ sym (ap₂ (λ r g. image_lines w (suc y) n r g (drop w (drop (y * w) blue))) (next_row w y red) (next_row w y green)
      ∙ ap (λ b. image_lines w (suc y) n (drop (suc y * w) red) (drop (suc y * w) green) b) (next_row w y blue)) in
      ap₂ (λ l ls. l ∷ ls) (row_is 0 y red refl) (ap₂ (λ l ls. l ∷ ls) (row_is 1 y green refl) (ap₂ (λ l ls. l ∷ ls) (row_is 2 y blue refl) rest))

  rows_all : (h : ℕ) → map line_at (flat_map three (range_with_len 0 h)) ≡ image_lines w 0 h red green blue
  rows_all h =
      let none : 0 * w ≡ 0 = omega arith in
      rows_from h 0 ∙ ap (λ n. image_lines w 0 h (drop n red) (drop n green) (drop n blue)) none

-- planes of red, green and blue, whose lines are those of an image
pub record IsImage (c : Configuration) (planes : Planes) : Type 0 where
  pub red : List ℕ
  pub green : List ℕ
  pub blue : List ℕ
  pub are : planes ≡ red ∷ green ∷ blue ∷ []
  pub long : length red ≡ c.height * bytes_for c.depth c.width
  pub lines : lines_of c planes ≡ image_lines (bytes_for c.depth c.width) 0 c.height red green blue

module _ (c : Configuration) (wide : (p : ℕ) → plane_width c p ≡ c.width) (high : (p : ℕ) → plane_height c p ≡ c.height)
    (order : places_of c ≡ flat_map (λ y. (0, y) ∷ (1, y) ∷ (2, y) ∷ []) (range_with_len 0 c.height)) where
  three_planes : (planes : Planes) → lines_of c planes ≡ map (λ (k : ℕ × ℕ). line_in c planes k.1 k.0) (places_of c) → length planes ≡ 3 → length (plane planes 0) ≡ sample_bytes c.depth * (plane_width c 0 * plane_height c 0) →
      IsImage c planes
  three_planes [] turn few size = absurd (omega (arith, few))
  three_planes (r ∷ []) turn few size = absurd (omega (arith, few))
  three_planes (r ∷ g ∷ []) turn few size = absurd (omega (arith, few))
  three_planes (r ∷ g ∷ b ∷ []) turn few size =
      let whole : length r ≡ sample_bytes c.depth * (c.width * c.height) = size ∙ ap (λ n. sample_bytes c.depth * n) (ap₂ (λ x y. x * y) (wide 0) (high 0)) in
      let other : sample_bytes c.depth * (c.width * c.height) ≡ c.height * (sample_bytes c.depth * c.width) = omega arith in
      record {
        red = r;
        green = g;
        blue = b;
        are = refl;
        long = whole ∙ other ∙ ap (λ n. c.height * n) (bytes_are c.depth c.width);
        lines = turn ∙ ap (map (λ (k : ℕ × ℕ). line_in c (r ∷ g ∷ b ∷ []) k.1 k.0)) order ∙ rows_all c r g b (bytes_for c.depth c.width) (λ p. ap (λ n. sample_bytes c.depth * n) (wide p) ∙ bytes_are c.depth c.width) c.height;
      }
  three_planes (r ∷ g ∷ b ∷ x ∷ more) turn few size = absurd (omega (arith, few))

  pub image_of : (planes : Planes) → lines_of c planes ≡ map (λ (k : ℕ × ℕ). line_in c planes k.1 k.0) (places_of c) → Fits c planes → c.chroma_planes ≡ true → c.extra_plane ≡ false → IsImage c planes
  image_of planes turn fits chroma opaque =
      let count : (division_of c).planes ≡ 3 = ap₂ planes_in chroma opaque in
      three_planes planes turn (fits.are.count ∙ count) (fits.are.sizes 0 (omega (arith, count)))
