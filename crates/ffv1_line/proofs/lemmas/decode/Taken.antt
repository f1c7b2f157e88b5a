-- One row more of a cell that is handed over.
use Rattle.std.proofs.Common.{◌≡◌, refl, ℕ, ◌+◌, ◌<◌, replicate, List, [], ◌∷◌, ◌++◌, length, get_or, arith, ap, sym, subst, ◌∙◌, inl, inr, length-append, append_assoc, append-nil, ℤ}
use Rattle.std.proofs.lemmas.Bool.{cases_lt}
use Rattle.std.proofs.lemmas.List.{get_or_append_left, get_or-append-add}
use Rattle.ffv1_line.specs.Coding.{RowCoding}
use Rattle.ffv1_line.specs.Coder.{Decoder}
use Rattle.ffv1_line.specs.Above.{RowsAbove}
use Rattle.ffv1_line.specs.Cell.{Cell, Above, Shows, Rolls}
use Rattle.ffv1_line.specs.Decoded.{Lined, RowsRead}
use Rattle.ffv1_range.specs.Interval.{Decision}
use Rattle.ffv1_line.specs.Coded.{StandsAfter}
use Rattle.ffv1_line.specs.Taken.{RowStep, TakesRows, samples_in, RowsTaken, TakesCell}
use Rattle.ffv1_line.proofs.lemmas.decode.CellBack.{back_more}
use Rattle.ffv1_line.proofs.lemmas.cell.Cells.{rolls_first, rolls_next, read_none, read_next, above_more}

takes_next : {S : Type 0} (takes : RowStep S) (s : S) (rows : List (List ℕ)) (m : S) (row : List ℕ) (t : S) → TakesRows takes s rows m → takes m row t → TakesRows takes s (rows ++ (row ∷ [])) t
takes_next takes s [] m row t before now = (t, subst (λ k. takes k row t) before now, refl)
takes_next takes s (r ∷ rows) m row t before now = (before.0, before.1, takes_next takes before.0 rows m row t before.2 now)

samples-append : (rows : List (List ℕ)) (row : List ℕ) → samples_in (rows ++ (row ∷ [])) ≡ samples_in rows ++ row
samples-append [] row = append-nil row
samples-append (r ∷ rows) row = ap (λ l. r ++ l) (samples-append rows row) ∙ sym (append_assoc r (samples_in rows) row)

wide_next : (width : ℕ) (rows : List (List ℕ)) (cur : List ℕ) → length cur ≡ width → ((y : ℕ) → y < length rows → length (get_or rows y []) ≡ width) →
    (y : ℕ) → y < length (rows ++ (cur ∷ [])) → length (get_or (rows ++ (cur ∷ [])) y []) ≡ width
wide_next width rows cur wide before y h =
    let all = rows ++ (cur ∷ []) in
    let many : length all ≡ length rows + 1 = length-append rows (cur ∷ []) in
    let here : length rows ≡ length rows + 0 = omega arith in
    let last : get_or all (length rows) [] ≡ cur = ap (λ k. get_or all k []) here ∙ get_or-append-add rows (cur ∷ []) 0 [] in
    elim (cases_lt y (length rows)) [
      | inl k ↦ subst (λ r. length r ≡ width) (sym (get_or_append_left rows (cur ∷ []) [] y k)) (before y k)
      | inr k ↦ let at : y ≡ length rows = omega (arith, h, k, many) in subst (λ r. length r ≡ width) (sym (ap (λ j. get_or all j []) at ∙ last)) wide
    ]

module _ {S : Type 0} (takes : RowStep S) where
  pub taken_none : (coding : RowCoding) (r : Decoder) (width : ℕ) (s : S) →
      RowsTaken takes s s width (λ count samples. (count ≡ 0) × (RowsRead coding r r width samples 0) × (Rolls width samples (replicate width 0) (replicate width 0) 0))
  taken_none coding r width s = record { rows = []; taken = refl; wide = λ y h. absurd (omega (arith, h)); holds = (refl, read_none coding r width, rolls_first width) }

  pub taken_next : (coding : RowCoding) (a b d : Decoder) (width n : ℕ) (over : RowsAbove) (cur : List ℕ) (s m t : S) → length cur ≡ width →
      RowsTaken takes s m width (λ count samples. (count ≡ n) × (RowsRead coding a b width samples n) × (Rolls width samples over.two over.one n)) → Lined coding b d over cur (length cur) → takes m cur t →
      RowsTaken takes s t width (λ count samples. (count ≡ n + 1) × (RowsRead coding a d width samples (n + 1)) × (Rolls width samples over.one cur (n + 1)))
  taken_next coding a b d width n over cur s m t wide before lined now =
      let same = sym (samples-append before.rows cur) in
      let old = samples_in before.rows in
      record {
        rows = before.rows ++ (cur ∷ []);
        taken = takes_next takes s before.rows m cur t before.taken now;
        wide = wide_next width before.rows cur wide before.wide;
        holds = (
          length-append before.rows (cur ∷ []) ∙ ap (λ k. k + 1) before.holds.0,
          subst (λ l. RowsRead coding a d width l (n + 1)) same (read_next coding a b d width old over cur n wide before.holds.2 before.holds.1 lined),
          subst (λ l. Rolls width l over.one cur (n + 1)) same (rolls_next width old over.two over.one cur n wide before.holds.2),
        );
      }

  pub cell_taken_none : (c : Cell) (s : S) → TakesCell takes c 0 s s
  cell_taken_none c s = record { rows = []; taken = refl; count = refl; wide = λ y h. absurd (omega (arith, h)); shows = λ y h. absurd (omega (arith, h)) }

  pub cell_taken_next : (c : Cell) (n : ℕ) (cur : List ℕ) (s m t : S) → length cur ≡ c.width → Shows c (n + 2) cur c.width → TakesCell takes c n s m → takes m cur t → TakesCell takes c (n + 1) s t
  cell_taken_next c n cur s m t wide shows before now =
      let rows = before.rows ++ (cur ∷ []) in
      let here : n ≡ length before.rows + 0 = omega (arith, before.count) in
      let last : get_or rows n [] ≡ cur = ap (λ k. get_or rows k []) here ∙ get_or-append-add before.rows (cur ∷ []) 0 [] in
      let first : (y : ℕ) → y < n → get_or rows y [] ≡ get_or before.rows y [] = λ y h. get_or_append_left before.rows (cur ∷ []) [] y (omega (arith, h, before.count)) in
      record {
        rows = rows;
        taken = takes_next takes s before.rows m cur t before.taken now;
        count = length-append before.rows (cur ∷ []) ∙ ap (λ k. k + 1) before.count;
        wide = λ y h. elim (cases_lt y n) [
          | inl h ↦ subst (λ r. length r ≡ c.width) (sym (first y h)) (before.wide y h)
          | inr k ↦ let at : y ≡ n = omega (arith, h, k) in subst (λ r. length r ≡ c.width) (sym (ap (λ j. get_or rows j []) at ∙ last)) wide
        ];
        shows = λ y h. elim (cases_lt y n) [
          | inl h ↦ subst (λ r. Shows c (y + 2) r c.width) (sym (first y h)) (before.shows y h)
          | inr k ↦ let at : y ≡ n = omega (arith, h, k) in rw at (subst (λ r. Shows c (n + 2) r c.width) (sym last) shows)
        ];
      }

  -- and of a cell that the bytes code
  pub cell_back_next : (before : List Decision) (coding : RowCoding) (states : List ℕ) (c : Cell) (qs : List (List ℤ)) (y : ℕ) (now new : Decoder) (over : RowsAbove) (cur : List ℕ) (s m t : S) →
      0 < c.width → y < length qs → length cur ≡ c.width → (Above c y over.two over.one) × (StandsAfter before coding states c qs y now) × (TakesCell takes c y s m) → Lined coding now new over cur (length cur) → takes m cur t →
      (Above c (y + 1) over.one cur) × (StandsAfter before coding states c qs (y + 1) new) × (TakesCell takes c (y + 1) s t)
  cell_back_next before coding states c qs y now new over cur s m t some inside wide done lined took =
      let back = back_more before coding states c qs y now new over cur some inside done.0 wide done.1 lined in
      (above_more c y over.two over.one cur done.0 wide back.0, back.1, cell_taken_next c y cur s m t wide back.0 done.2 took)
