-- The bits of lines: of lists in two parts, and of cells that agree.
use Rattle.std.proofs.Common.{◌≡◌, refl, ℕ, zero, suc, ◌+◌, ◌-◌, ◌*◌, ◌<◌, ◌≤◌, min, Bool, List, [], ◌∷◌, ◌++◌, map, length, get_or, ap, sym, subst, ◌∙◌, arith, append_assoc}
use Rattle.std.specs.List.{range_with_len}
use Rattle.std.proofs.lemmas.List.{get_or_append_left, ext_get_or}
use Rattle.std.proofs.lemmas.List.FromFn.{length-map-range_with_len, get_or-map-range_with_len}
use Rattle.ffv1_line.specs.Cell.{Cell, seen, Agree, cell_of}
use Rattle.ffv1_rice.specs.Rows.{Reading, reading_of}
use Rattle.ffv1_record.specs.Configuration.{Configuration}
use Rattle.ffv1_slice.specs.declared.head.SliceHead.{SliceHead}
use Rattle.ffv1_frame.specs.SliceList.{Line, class_of, set_in, bits_of}
use Rattle.ffv1_frame.specs.RiceLines.{LineCoder, row_coder, shown, bits_in, coder_after, with_row, line_bits, line_after, lines_bits, lines_after}
use Rattle.ffv1_frame.proofs.lemmas.laws.decoding.Machines.{Each}
use Rattle.ffv1_frame.proofs.lemmas.laws.decoding.OneLine.{in_rows, row_shown}

-- a list in two parts
pub bits_append : (c : Configuration) (h : SliceHead) (cell : ℕ → Cell) (k : LineCoder) (xs ys : List Line) →
    lines_bits c h cell k (xs ++ ys) ≡ lines_bits c h cell k xs ++ lines_bits c h cell (lines_after c h cell k xs) ys
unfolding lines_bits lines_after
bits_append c h cell k [] ys = refl
bits_append c h cell k (l ∷ xs) ys =
    ap (λ z. line_bits c h cell k l ++ z) (bits_append c h cell (line_after c h cell k l) xs ys)
    ∙ sym (append_assoc (line_bits c h cell k l) (lines_bits c h cell (line_after c h cell k l) xs) (lines_bits c h cell (lines_after c h cell (line_after c h cell k l) xs) ys))

pub after_append : (c : Configuration) (h : SliceHead) (cell : ℕ → Cell) (k : LineCoder) (xs ys : List Line) →
    lines_after c h cell k (xs ++ ys) ≡ lines_after c h cell (lines_after c h cell k xs) ys
unfolding lines_after
after_append c h cell k [] ys = refl
after_append c h cell k (l ∷ xs) ys = after_append c h cell (line_after c h cell k l) xs ys

pub bits_none : (c : Configuration) (h : SliceHead) (cell : ℕ → Cell) (k : LineCoder) → lines_bits c h cell k [] ≡ []
unfolding lines_bits
bits_none c h cell k = refl

pub after_none : (c : Configuration) (h : SliceHead) (cell : ℕ → Cell) (k : LineCoder) → lines_after c h cell k [] ≡ k
unfolding lines_after
after_none c h cell k = refl

pub bits_first : (c : Configuration) (h : SliceHead) (cell : ℕ → Cell) (k : LineCoder) (l : Line) (ls : List Line) →
    lines_bits c h cell k (l ∷ ls) ≡ line_bits c h cell k l ++ lines_bits c h cell (line_after c h cell k l) ls
unfolding lines_bits
bits_first c h cell k l ls = refl

pub after_first : (c : Configuration) (h : SliceHead) (cell : ℕ → Cell) (k : LineCoder) (l : Line) (ls : List Line) →
    lines_after c h cell k (l ∷ ls) ≡ lines_after c h cell (line_after c h cell k l) ls
unfolding lines_after
after_first c h cell k l ls = refl

-- rows that are shown
pub shown_long : (c : Cell) (n : ℕ) → length (shown c n) ≡ c.width
shown_long c n = length-map-range_with_len (λ x. seen c (suc (suc x)) n) 0 c.width

pub shown_at : (c : Cell) (n x : ℕ) → x < c.width → get_or (shown c n) x 0 ≡ seen c (suc (suc x)) n
shown_at c n x inside = get_or-map-range_with_len (λ x. seen c (suc (suc x)) n) 0 c.width x x 0 inside (omega arith)

least_of : (x w : ℕ) → x < w → min x (w - 1) ≡ x
least_of x w inside = omega (arith, inside)

seen_alike : (c d : Cell) (y n x : ℕ) → Agree c d y → n ≤ suc (suc y) → x < c.width → seen c (suc (suc x)) n ≡ seen d (suc (suc x)) n
unfolding seen
seen_alike c d y zero x agree few inside = refl
seen_alike c d y (suc zero) x agree few inside = refl
seen_alike c d y (suc (suc z)) x agree few inside =
    let there : x < d.width = rw (sym agree.wide) inside in
    ap (λ k. c.at k z) (least_of x c.width inside) ∙ agree.each x z inside (omega (arith, few)) ∙ sym (ap (λ k. d.at k z) (least_of x d.width there))

pub shown_alike : (c d : Cell) (y n : ℕ) → Agree c d y → n ≤ suc (suc y) → shown c n ≡ shown d n
shown_alike c d y n agree few =
    ext_get_or 0 (shown c n) (shown d n) (shown_long c n ∙ agree.wide ∙ sym (shown_long d n)) (λ x h.
    let inside : x < c.width = subst (λ k. x < k) (shown_long c n) h in
    let there : x < d.width = rw (sym agree.wide) inside in
    shown_at c n x inside ∙ seen_alike c d y n x agree few inside ∙ sym (shown_at d n x there))

-- rows above a row that is added
seen_above : (width y n x : ℕ) (samples row : List ℕ) → length samples ≡ y * width → n ≤ suc y → x < width →
    seen (cell_of width (samples ++ row)) (suc (suc x)) n ≡ seen (cell_of width samples) (suc (suc x)) n
unfolding seen
seen_above width y zero x samples row long few inside = refl
seen_above width y (suc zero) x samples row long few inside = refl
seen_above width y (suc (suc z)) x samples row long few inside =
    let here : z * width + min x (width - 1) ≡ z * width + x = ap (λ k. z * width + k) (least_of x width inside) in
    let place : z * width + x < length samples = rw long (in_rows width x z y inside (omega (arith, few))) in
    ap (λ k. get_or (samples ++ row) k 0) here ∙ get_or_append_left samples row 0 (z * width + x) place ∙ sym (ap (λ k. get_or samples k 0) here)

pub shown_above : (width y n : ℕ) (samples row : List ℕ) → length samples ≡ y * width → n ≤ suc y → shown (cell_of width (samples ++ row)) n ≡ shown (cell_of width samples) n
shown_above width y n samples row long few =
    ext_get_or 0 (shown (cell_of width (samples ++ row)) n) (shown (cell_of width samples) n) (shown_long (cell_of width (samples ++ row)) n ∙ sym (shown_long (cell_of width samples) n)) (λ x h.
    let inside : x < width = subst (λ k. x < k) (shown_long (cell_of width (samples ++ row)) n) h in
    shown_at (cell_of width (samples ++ row)) n x inside ∙ seen_above width y n x samples row long few inside ∙ sym (shown_at (cell_of width samples) n x inside))

-- the row itself
pub shown_row : (width y : ℕ) (samples row : List ℕ) → length samples ≡ y * width → length row ≡ width → shown (cell_of width (samples ++ row)) (suc (suc y)) ≡ row
shown_row width y samples row long wide =
    ext_get_or 0 (shown (cell_of width (samples ++ row)) (suc (suc y))) row (shown_long (cell_of width (samples ++ row)) (suc (suc y)) ∙ sym wide) (λ x h.
    let inside : x < width = subst (λ k. x < k) (shown_long (cell_of width (samples ++ row)) (suc (suc y))) h in
    shown_at (cell_of width (samples ++ row)) (suc (suc y)) x inside ∙ row_shown width y x samples row long inside)

-- how a line is read by the rows above it
abbrev pub by_rows : Configuration → SliceHead → LineCoder → ℕ → ℕ → List ℕ → List ℕ → Reading
by_rows c h k p y two one = reading_of (set_in c h p) (bits_of c) two one (row_coder c k p y) []

-- lines of which the rows are the same
pub record SameRows (c d : Cell) (y : ℕ) : Type 0 where
  pub two : shown c y ≡ shown d y
  pub one : shown c (suc y) ≡ shown d (suc y)
  pub row : shown c (suc (suc y)) ≡ shown d (suc (suc y))

pub same_bits : (c : Configuration) (h : SliceHead) (cell other : ℕ → Cell) (k : LineCoder) (l : Line) → SameRows (cell l.plane) (other l.plane) l.y → line_bits c h cell k l ≡ line_bits c h other k l
same_bits c h cell other k l same =
    let by = by_rows c h k l.plane l.y in
    let mine = cell l.plane in
    let that = other l.plane in
    ap (λ z. bits_in (by z (shown mine (suc l.y))) (shown mine (suc (suc l.y)))) same.two
    ∙ ap (λ z. bits_in (by (shown that l.y) z) (shown mine (suc (suc l.y)))) same.one
    ∙ ap (λ z. bits_in (by (shown that l.y) (shown that (suc l.y))) z) same.row

pub same_after : (c : Configuration) (h : SliceHead) (cell other : ℕ → Cell) (k : LineCoder) (l : Line) → SameRows (cell l.plane) (other l.plane) l.y → line_after c h cell k l ≡ line_after c h other k l
same_after c h cell other k l same =
    let by = by_rows c h k l.plane l.y in
    let mine = cell l.plane in
    let that = other l.plane in
    ap (λ z. with_row k (class_of l.plane) (coder_after (by z (shown mine (suc l.y))) (shown mine (suc (suc l.y))))) same.two
    ∙ ap (λ z. with_row k (class_of l.plane) (coder_after (by (shown that l.y) z) (shown mine (suc (suc l.y))))) same.one
    ∙ ap (λ z. with_row k (class_of l.plane) (coder_after (by (shown that l.y) (shown that (suc l.y))) z)) same.row

pub same_rows : (c d : Cell) (y : ℕ) → Agree c d y → SameRows c d y
same_rows c d y agree = record {
  two = shown_alike c d y y agree (omega arith);
  one = shown_alike c d y (suc y) agree (omega arith);
  row = shown_alike c d y (suc (suc y)) agree (omega arith);
}

-- cells that agree have the same bits, and leave the same behind
pub bits_alike : (c : Configuration) (h : SliceHead) (cell other : ℕ → Cell) (k : LineCoder) (ls : List Line) → Each (λ (l : Line). Agree (cell l.plane) (other l.plane) l.y) ls →
    lines_bits c h cell k ls ≡ lines_bits c h other k ls
unfolding lines_bits
bits_alike c h cell other k [] agree = refl
bits_alike c h cell other k (l ∷ ls) agree =
    let same = same_rows (cell l.plane) (other l.plane) l.y agree.0 in
    ap (λ z. z ++ lines_bits c h cell (line_after c h cell k l) ls) (same_bits c h cell other k l same)
    ∙ ap (λ z. line_bits c h other k l ++ lines_bits c h cell z ls) (same_after c h cell other k l same)
    ∙ ap (λ z. line_bits c h other k l ++ z) (bits_alike c h cell other (line_after c h other k l) ls agree.1)

pub after_alike : (c : Configuration) (h : SliceHead) (cell other : ℕ → Cell) (k : LineCoder) (ls : List Line) → Each (λ (l : Line). Agree (cell l.plane) (other l.plane) l.y) ls →
    lines_after c h cell k ls ≡ lines_after c h other k ls
unfolding lines_after
after_alike c h cell other k [] agree = refl
after_alike c h cell other k (l ∷ ls) agree =
    let same = same_rows (cell l.plane) (other l.plane) l.y agree.0 in
    ap (λ z. lines_after c h cell z ls) (same_after c h cell other k l same)
    ∙ after_alike c h cell other (line_after c h other k l) ls agree.1

-- the line of a row that is added below some samples
module _ (c : Configuration) (h : SliceHead) (cell : ℕ → Cell) (k : LineCoder) (p width y : ℕ) (samples row : List ℕ) (long : length samples ≡ y * width) (wide : length row ≡ width)
    (is : cell p ≡ cell_of width (samples ++ row)) where
  abbrev pub line : Line
  line = record { plane = p; y = y }

  two_is : shown (cell p) y ≡ shown (cell_of width samples) y
  two_is = ap (λ (z : Cell). shown z y) is ∙ shown_above width y y samples row long (omega arith)

  one_is : shown (cell p) (suc y) ≡ shown (cell_of width samples) (suc y)
  one_is = ap (λ (z : Cell). shown z (suc y)) is ∙ shown_above width y (suc y) samples row long (omega arith)

  row_is : shown (cell p) (suc (suc y)) ≡ row
  row_is = ap (λ (z : Cell). shown z (suc (suc y))) is ∙ shown_row width y samples row long wide

  pub bits_added : line_bits c h cell k line ≡ bits_in (by_rows c h k p y (shown (cell_of width samples) y) (shown (cell_of width samples) (suc y))) row
  bits_added =
      let by = by_rows c h k p y in
      ap (λ z. bits_in (by z (shown (cell p) (suc y))) (shown (cell p) (suc (suc y)))) two_is
      ∙ ap (λ z. bits_in (by (shown (cell_of width samples) y) z) (shown (cell p) (suc (suc y)))) one_is
      ∙ ap (λ z. bits_in (by (shown (cell_of width samples) y) (shown (cell_of width samples) (suc y))) z) row_is

  pub after_added : line_after c h cell k line ≡ with_row k (class_of p) (coder_after (by_rows c h k p y (shown (cell_of width samples) y) (shown (cell_of width samples) (suc y))) row)
  after_added =
      let by = by_rows c h k p y in
      ap (λ z. with_row k (class_of p) (coder_after (by z (shown (cell p) (suc y))) (shown (cell p) (suc (suc y))))) two_is
      ∙ ap (λ z. with_row k (class_of p) (coder_after (by (shown (cell_of width samples) y) z) (shown (cell p) (suc (suc y))))) one_is
      ∙ ap (λ z. with_row k (class_of p) (coder_after (by (shown (cell_of width samples) y) (shown (cell_of width samples) (suc y))) z)) row_is
