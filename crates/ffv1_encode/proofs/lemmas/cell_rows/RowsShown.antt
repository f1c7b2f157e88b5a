-- Rows that were filled show the rows of their cells.
use Rattle.std.proofs.Common.{◌≡◌, refl, ℕ, zero, suc, ◌+◌, ◌-◌, ◌/◌, ◌%◌, ◌<◌, min, true, if◌then◌else◌, List, get_or, unsigned_abs, sym, subst, ◌∙◌, ap, arith}
use Rattle.ffv1_line.specs.Cell.{Cell, Shows, seen}
use Rattle.ffv1_samples.specs.Samples.{samples_of}
use Rattle.ffv1_rct.specs.Transform.{luma_of, chroma_in}
use Rattle.ffv1_rct.specs.Lines.{AreCodedIn}
use Rattle.ffv1_record.specs.Configuration.{Configuration, is_rct}
use Rattle.ffv1_record.specs.declared.config.Colour.{Colour}
use Rattle.ffv1_record.specs.declared.config.Colour.TheVariants as colour
use Rattle.ffv1_slice.specs.Grid.{first_of, coded_of, division_of, across, down}
use Rattle.ffv1_frame.specs.Picture.{Planes, green_of, blue_of, sample_at, coded_at, transformed_at, cell_in}
use Rattle.ffv1_encode.specs.Internal.CellRows.{IsLine}

-- inside a cell the sample that is seen is the cell's
pub shows_cell : (c : Cell) (y : ℕ) (row : List ℕ) → ((x : ℕ) → x < c.width → get_or row x 0 ≡ c.at x y) → Shows c (suc (suc y)) row c.width
unfolding seen
shows_cell c y row each = record {
  each = λ x inside.
      let same : x ≡ min x (c.width - 1) = omega (arith, inside) in
      each x inside ∙ ap (λ k. c.at k y) same;
}

-- where a cell begins
abbrev pub left_of : Configuration → ℕ → ℕ → ℕ
left_of c n p = first_of (across (division_of c) p) (n % c.columns)

abbrev pub top_of : Configuration → ℕ → ℕ → ℕ
top_of c n p = first_of (down (division_of c) p) (n / c.columns)

-- a line that is coded as it is
pub plain_shows : (c : Configuration) (planes : Planes) (n p y : ℕ) (row : List ℕ) → IsLine c planes n p y row → ((u v : ℕ) → coded_at c planes p u v ≡ sample_at c planes p u v) →
    Shows (cell_in c planes n p) (suc (suc y)) (samples_of c.depth row) (cell_in c planes n p).width
plain_shows c planes n p y row is plain =
    shows_cell (cell_in c planes n p) y (samples_of c.depth row) (λ x inside. is.each x inside ∙ sym (plain (left_of c n p + x) (top_of c n p + y)))

pub is_colour : (k : Colour) → is_rct k ≡ true → k ≡ colour.Rct
is_colour colour.YCbCr e = cc
is_colour colour.Rct e = refl

-- in RCT all planes are as wide and as high as the first
pub same_left : (c : Configuration) (n p : ℕ) → c.log2_h ≡ 0 → left_of c n p ≡ left_of c n 0
same_left c n zero flat = refl
same_left c n (suc zero) flat = ap (λ k. first_of (record { size = c.width; count = c.columns; log2 = k }) (n % c.columns)) flat
same_left c n (suc (suc zero)) flat = ap (λ k. first_of (record { size = c.width; count = c.columns; log2 = k }) (n % c.columns)) flat
same_left c n (suc (suc (suc p))) flat = refl

pub same_top : (c : Configuration) (n p : ℕ) → c.log2_v ≡ 0 → top_of c n p ≡ top_of c n 0
same_top c n zero flat = refl
same_top c n (suc zero) flat = ap (λ k. first_of (record { size = c.height; count = c.rows; log2 = k }) (n / c.columns)) flat
same_top c n (suc (suc zero)) flat = ap (λ k. first_of (record { size = c.height; count = c.rows; log2 = k }) (n / c.columns)) flat
same_top c n (suc (suc (suc p))) flat = refl

pub same_width : (c : Configuration) (planes : Planes) (n p : ℕ) → c.log2_h ≡ 0 → (cell_in c planes n p).width ≡ (cell_in c planes n 0).width
same_width c planes n zero flat = refl
same_width c planes n (suc zero) flat = ap (λ k. coded_of (record { size = c.width; count = c.columns; log2 = k }) (n % c.columns)) flat
same_width c planes n (suc (suc zero)) flat = ap (λ k. coded_of (record { size = c.width; count = c.columns; log2 = k }) (n % c.columns)) flat
same_width c planes n (suc (suc (suc p))) flat = refl

-- a line's sample, by the first plane's cell
sample_here : (c : Configuration) (planes : Planes) (n p y x : ℕ) (row : List ℕ) → c.log2_h ≡ 0 → c.log2_v ≡ 0 → IsLine c planes n p y row → x < (cell_in c planes n p).width →
    get_or (samples_of c.depth row) x 0 ≡ sample_at c planes p (left_of c n 0 + x) (top_of c n 0 + y)
sample_here c planes n p y x row flat_h flat_v is inside =
    is.each x inside ∙ ap (λ u. sample_at c planes p (u + x) (top_of c n p + y)) (same_left c n p flat_h) ∙ ap (λ v. sample_at c planes p (left_of c n 0 + x) (v + y)) (same_top c n p flat_v)

-- lines of red and of what is taken for green and blue, and their transform
pub record Transformed (c : Configuration) (planes : Planes) (n y : ℕ) (r g b luma blue red : List ℕ) : Type 0 where
  pub rct : is_rct c.colour ≡ true
  pub flat_h : c.log2_h ≡ 0
  pub flat_v : c.log2_v ≡ 0
  pub first : IsLine c planes n 0 y r
  pub second : IsLine c planes n (green_of c) y g
  pub third : IsLine c planes n (blue_of c) y b
  pub coded : AreCodedIn c.depth (cell_in c planes n 0).width (samples_of c.depth r) (samples_of c.depth g) (samples_of c.depth b) luma blue red

coded_here : (c : Configuration) (planes : Planes) (p u v : ℕ) → is_rct c.colour ≡ true → coded_at c planes p u v ≡ transformed_at c planes p u v
coded_here c planes p u v rct = ap (λ k. if k then transformed_at c planes p u v else sample_at c planes p u v) rct

three : {X : Type 0} (f : ℕ → ℕ → ℕ → X) (a b d k l m : ℕ) → a ≡ k → b ≡ l → d ≡ m → f a b d ≡ f k l m
three f a b d k l m p q r = ap (λ z. f z b d) p ∙ ap (λ z. f k z d) q ∙ ap (λ z. f k l z) r

-- what is coded of plane p at a sample of its cell
coded_cell : (c : Configuration) (planes : Planes) (n p x y : ℕ) → is_rct c.colour ≡ true → c.log2_h ≡ 0 → c.log2_v ≡ 0 →
    transformed_at c planes p (left_of c n 0 + x) (top_of c n 0 + y) ≡ (cell_in c planes n p).at x y
coded_cell c planes n p x y rct flat_h flat_v =
    ap (λ u. transformed_at c planes p (u + x) (top_of c n 0 + y)) (sym (same_left c n p flat_h))
    ∙ ap (λ v. transformed_at c planes p (left_of c n p + x) (v + y)) (sym (same_top c n p flat_v))
    ∙ sym (coded_here c planes p (left_of c n p + x) (top_of c n p + y) rct)

module _ (c : Configuration) (planes : Planes) (n y : ℕ) (r g b luma blue red : List ℕ) (t : Transformed c planes n y r g b luma blue red) where
  -- a sample of a line of one of the planes
  own : (p x : ℕ) (row : List ℕ) → IsLine c planes n p y row → x < (cell_in c planes n 0).width → get_or (samples_of c.depth row) x 0 ≡ sample_at c planes p (left_of c n 0 + x) (top_of c n 0 + y)
  own p x row is inside = sample_here c planes n p y x row t.flat_h t.flat_v is (subst (λ w. x < w) (sym (same_width c planes n p t.flat_h)) inside)

  pub luma_shows : Shows (cell_in c planes n 0) (suc (suc y)) luma (cell_in c planes n 0).width
  luma_shows =
      shows_cell (cell_in c planes n 0) y luma (λ x inside.
      ap unsigned_abs (t.coded x inside).luma
      ∙ three (λ i j k. unsigned_abs (luma_of i j k)) _ _ _ _ _ _ (own 0 x r t.first inside) (own (green_of c) x g t.second inside) (own (blue_of c) x b t.third inside)
      ∙ coded_cell c planes n 0 x y t.rct t.flat_h t.flat_v)

  pub blue_shows : Shows (cell_in c planes n 1) (suc (suc y)) blue (cell_in c planes n 1).width
  blue_shows =
      shows_cell (cell_in c planes n 1) y blue (λ x here.
      let inside : x < (cell_in c planes n 0).width = subst (λ w. x < w) (same_width c planes n 1 t.flat_h) here in
      ap unsigned_abs (t.coded x inside).blue
      ∙ three (λ i j k. unsigned_abs (chroma_in c.depth i j)) _ _ 0 _ _ 0 (own (blue_of c) x b t.third inside) (own (green_of c) x g t.second inside) refl
      ∙ coded_cell c planes n 1 x y t.rct t.flat_h t.flat_v)

  pub red_shows : Shows (cell_in c planes n 2) (suc (suc y)) red (cell_in c planes n 2).width
  red_shows =
      shows_cell (cell_in c planes n 2) y red (λ x here.
      let inside : x < (cell_in c planes n 0).width = subst (λ w. x < w) (same_width c planes n 2 t.flat_h) here in
      ap unsigned_abs (t.coded x inside).red
      ∙ three (λ i j k. unsigned_abs (chroma_in c.depth i j)) _ _ 0 _ _ 0 (own 0 x r t.first inside) (own (green_of c) x g t.second inside) refl
      ∙ coded_cell c planes n 2 x y t.rct t.flat_h t.flat_v)
