-- After what was decided in a slice its bytes code one line at most, or are refused in one place.
use Rattle.std.proofs.Common.{◌≡◌, refl, ℕ, ℤ, zero, suc, ◌+◌, ◌-◌, ◌*◌, ◌<◌, ◌≤◌, min, List, [], ◌∷◌, ◌++◌, length, take, drop, replicate, get_or, ap, sym, subst, ◌∙◌, arith, true, false, inl, inr}
use Rattle.std.proofs.lemmas.List.{get_or_append_left, get_or-append-add, ext_get_or, take-append-drop, length-take-le, length-drop}
use Rattle.std.proofs.Math.Nat.{mul-le-mul_left}
use Rattle.ffv1_range.specs.Table.{Table}
use Rattle.ffv1_range.specs.Symbols.{Step}
use Rattle.ffv1_plane.specs.Quantisation.{Set}
use Rattle.ffv1_line.specs.Cell.{Cell, seen, Above, BeginsWith, Rolls, cell_of}
use Rattle.ffv1_line.specs.Coded.{AreSame, CodesRow, RefusesRow}
use Rattle.ffv1_record.specs.Accepted.{Accepted}
use Rattle.ffv1_frame.specs.Picture.{plane}
use Rattle.ffv1_record.specs.Accepted.{is_rice}
use Rattle.ffv1_rice.specs.declared.fault.Fault.{Fault}
use Rattle.ffv1_frame.specs.Decoding.{Slice, ReadsLine, StopsInLine, RefusesLine, cell_with}
use Rattle.ffv1_frame.proofs.lemmas.laws.rice.BitLines.{BitLaws, one_row, row_or_refused}
use Rattle.std.proofs.lemmas.Bool.{cases_Bool}
use Rattle.ffv1_line.specs.Coding.{coding_by}

-- the laws of rows, and of the rows above them
pub record RowLaws (bytes : List ℕ) (t : Table) : Type 0 where
  pub top : (width : ℕ) → Rolls width [] (replicate width 0) (replicate width 0) 0
  pub rolls : (width n : ℕ) (samples two one cur : List ℕ) → length cur ≡ width → Rolls width samples two one n → Rolls width (samples ++ cur) one cur (n + 1)
  pub one : (base : ℕ) (past : List Step) (set : Set) (bits : ℕ) (c d : Cell) (y z : ℕ) (two one : List ℕ) (ps qs : List ℤ) →
      0 < length one → Above c y two one → Above d z two one → length ps ≡ length qs →
      CodesRow bytes (coding_by t set bits) base past c y ps → CodesRow bytes (coding_by t set bits) base past d z qs → (ps ≡ qs) × AreSame c y d z (length ps)
  pub whole_or_refused : (base : ℕ) (past : List Step) (set : Set) (bits : ℕ) (c d : Cell) (y z : ℕ) (two one : List ℕ) (ps qs : List ℤ) →
      0 < length one → Above c y two one → Above d z two one → length qs < length ps →
      CodesRow bytes (coding_by t set bits) base past c y ps → RefusesRow bytes (coding_by t set bits) base past d z qs → ⊥
  pub one_refusal : (base : ℕ) (past : List Step) (set : Set) (bits : ℕ) (c d : Cell) (y z : ℕ) (two one : List ℕ) (ps qs : List ℤ) →
      0 < length one → Above c y two one → Above d z two one →
      RefusesRow bytes (coding_by t set bits) base past c y ps → RefusesRow bytes (coding_by t set bits) base past d z qs → (ps ≡ qs) × AreSame c y d z (length ps)

-- the samples so far, and the rows two and one above the next row
pub record Rolled (width n : ℕ) (samples : List ℕ) : Type 0 where
  pub two : List ℕ
  pub one : List ℕ
  pub rolls : Rolls width samples two one n

pub in_rows : (w x y n : ℕ) → x < w → y < n → y * w + x < n * w
in_rows w x y n h k =
    let more = mul-le-mul_left {m = suc y} {n = n} w k in
    omega arith

-- a cell whose rows so far stand before any others begins with them
pub begins : (width n : ℕ) (samples more : List ℕ) → length samples ≡ n * width → BeginsWith (cell_of width (samples ++ more)) samples n
begins width n samples more long = record {
  each = λ x y h k.
      let inside : y * width + x < length samples = rw long (in_rows width x y n h k) in
      sym (get_or_append_left samples more 0 (y * width + x) inside);
}

-- a row is shown after the rows so far
pub row_shown : (width n x : ℕ) (samples row : List ℕ) → length samples ≡ n * width → x < width → seen (cell_of width (samples ++ row)) (suc (suc x)) (suc (suc n)) ≡ get_or row x 0
unfolding seen
row_shown width n x samples row long h =
    ap (λ k. get_or (samples ++ row) (n * width + k) 0) (let least : min x (width - 1) ≡ x = omega (arith, h) in least)
    ∙ ap (λ k. get_or (samples ++ row) (k + x) 0) (sym long)
    ∙ get_or-append-add samples row x 0

pub same_row : (width n count : ℕ) (samples row other : List ℕ) → length samples ≡ n * width → count ≤ width → length row ≡ count → length other ≡ count →
    AreSame (cell_of width (samples ++ row)) n (cell_of width (samples ++ other)) n count → row ≡ other
same_row width n count samples row other long few row_long other_long same =
    ext_get_or 0 row other (row_long ∙ sym other_long) (λ x h.
    let here : x < count = omega (arith, h, row_long) in
    let inside : x < width = omega (arith, here, few) in
    sym (row_shown width n x samples row long inside) ∙ same.each x here ∙ row_shown width n x samples other long inside)

module _ (bytes : List ℕ) (t : Table) (laws : RowLaws bytes t) where
  pub rolled : (width n : ℕ) (samples : List ℕ) → length samples ≡ n * width → Rolled width n samples
  rolled width zero [] long = record { two = replicate width 0; one = replicate width 0; rolls = laws.top width }
  rolled width zero (s ∷ samples) long = absurd (omega (arith, long))
  rolled width (suc n) samples long =
      let front : length (take (n * width) samples) ≡ n * width = length-take-le (n * width) samples (omega (arith, long)) in
      let back : length (drop (n * width) samples) ≡ width = rw (length-drop (n * width) samples) (omega (arith, long)) in
      let before = rolled width n (take (n * width) samples) front in
      let more : n + 1 ≡ suc n = omega arith in
      record {
        two = before.one;
        one = drop (n * width) samples;
        rolls =
            subst (λ xs. Rolls width xs before.one (drop (n * width) samples) (suc n)) (take-append-drop (n * width) samples)
            (subst (λ k. Rolls width (take (n * width) samples ++ drop (n * width) samples) before.one (drop (n * width) samples) k) more
            (laws.rolls width n (take (n * width) samples) before.two before.one (drop (n * width) samples) back before.rolls));
      }

module _ (a : Accepted) (coded : ℕ → List ℕ) (n : ℕ) (laws : RowLaws (coded n) a.table) (bits : BitLaws a (coded n)) (p width y : ℕ) (wide : 0 < width) (q : Slice) where
  above_row : (samples row : List ℕ) → length samples ≡ y * width → (r : Rolled width y samples) → Above (cell_of width (samples ++ row)) y r.two r.one
  above_row samples row long r = r.rolls.above (cell_of width (samples ++ row)) refl (begins width y samples row long)

  some_above : (samples : List ℕ) (r : Rolled width y samples) → 0 < length r.one
  some_above samples r = rw r.rolls.one_long wide

  one_coded : is_rice a.configuration.coder ≡ false → (qs ps : List ℤ) (row other : List ℕ) → ReadsLine a coded n p width y q qs row → ReadsLine a coded n p width y q ps other → (qs ≡ ps) × (row ≡ other)
  one_coded is qs ps row other f g =
      let samples = plane q.cells p in
      let r = rolled (coded n) a.table laws width y samples f.above in
      let one = laws.one _ _ _ _ (cell_with q p width row) (cell_with q p width other) y y r.two r.one qs ps (some_above samples r)
      (above_row samples row f.above r) (above_row samples other f.above r) (f.long.range is ∙ sym (g.long.range is)) (f.codes.range is) (g.codes.range is) in
      let same : AreSame (cell_with q p width row) y (cell_with q p width other) y width =
      subst (λ k. AreSame (cell_with q p width row) y (cell_with q p width other) y k) (f.long.range is) one.1 in
      (one.0, same_row width y width samples row other f.above (omega arith) f.row_long g.row_long same)

  pub one_line : (qs ps : List ℤ) (row other : List ℕ) → ReadsLine a coded n p width y q qs row → ReadsLine a coded n p width y q ps other → (qs ≡ ps) × (row ≡ other)
  one_line qs ps row other f g = elim (cases_Bool (is_rice a.configuration.coder)) [
    | inl is ↦ (
      f.long.rice is ∙ sym (g.long.rice is),
      one_row a coded n bits is p width y q row other (f.row_long ∙ sym g.row_long) (f.codes.rice is) (g.codes.rice is),
    )
    | inr is ↦ one_coded is qs ps row other f g
  ]

  pub line_or_refused : is_rice a.configuration.coder ≡ true → (qs : List ℤ) (row other : List ℕ) (x : ℕ) (reason : Fault) → ReadsLine a coded n p width y q qs row → RefusesLine a coded n p width y q other x reason → ⊥
  line_or_refused is qs row other x reason f g = row_or_refused a coded n bits is p width y q row other x reason f.row_long (f.codes.rice is) g

  pub line_or_stop : is_rice a.configuration.coder ≡ false → (qs ps : List ℤ) (row other : List ℕ) → ReadsLine a coded n p width y q qs row → StopsInLine a coded n p width y q ps other → ⊥
  line_or_stop is qs ps row other f g =
      let samples = plane q.cells p in
      let r = rolled (coded n) a.table laws width y samples f.above in
      laws.whole_or_refused _ _ _ _ (cell_with q p width row) (cell_with q p width other) y y r.two r.one qs ps (some_above samples r)
      (above_row samples row f.above r) (above_row samples other f.above r) (rw (f.long.range is) g.short) (f.codes.range is) g.refuses

  pub one_stop : (qs ps : List ℤ) (row other : List ℕ) → StopsInLine a coded n p width y q qs row → StopsInLine a coded n p width y q ps other → (qs ≡ ps) × (row ≡ other)
  one_stop qs ps row other f g =
      let samples = plane q.cells p in
      let r = rolled (coded n) a.table laws width y samples f.above in
      let one = laws.one_refusal _ _ _ _ (cell_with q p width row) (cell_with q p width other) y y r.two r.one qs ps (some_above samples r)
      (above_row samples row f.above r) (above_row samples other f.above r) f.refuses g.refuses in
      let few : length qs ≤ width = omega (arith, f.short) in
      (one.0, same_row width y (length qs) samples row other f.above few f.row_long (g.row_long ∙ sym (ap (λ ks. length ks) one.0)) one.1)
