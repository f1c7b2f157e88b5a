-- One row of a cell more.
use Rattle.std.proofs.Common.{◌≡◌, refl, ℕ, ◌+◌, ◌-◌, ◌*◌, ◌<◌, replicate, List, [], ◌∷◌, ◌++◌, length, get_or, arith, ap, sym, ◌∙◌, subst, suc, length-append, append_assoc, append-nil}
use Rattle.std.proofs.lemmas.List.{get_or_append_left, get_or-append-add, get_or-replicate, length-replicate}
use Rattle.std.proofs.Math.Nat.{mul-le-mul_left}
use Rattle.ffv1_range.specs.Table.{Table}
use Rattle.ffv1_range.proofs.Steps.{follows_none}
use Rattle.ffv1_plane.specs.Quantisation.{Set}
use Rattle.ffv1_line.specs.Cell.{Cell, seen, Shows, Above, BeginsWith, Rolls, cell_of}
use Rattle.ffv1_line.specs.Decoded.{Lined, RowsRead, CellRead}
use Rattle.ffv1_line.proofs.lemmas.cell.Joined.{rows_next}
use Rattle.std.proofs.Common.{take, drop, zero, add-one}
use Rattle.std.proofs.lemmas.List.{get_or-take, get_or-drop}
use Rattle.ffv1_range.specs.Writing.{Writing}
use Rattle.ffv1_range.specs.Puts.{Puts, MayBeRefused}
use Rattle.ffv1_range.specs.Counts.{Counts}
use Rattle.ffv1_range.specs.Symbols.{Step}
use Rattle.ffv1_range.proofs.Counting.{counted_append}
use Rattle.ffv1_range.proofs.Growth.{refused_first, refused_second}
use Rattle.ffv1_range.proofs.Steps.{puts_none}
use Rattle.ffv1_line.specs.Row.{row_steps, cell_steps, chosen_row, chosen_rows}
use Rattle.ffv1_line.specs.Encoded.{Written, MayBeRefusedRow, CountsFirst, CountsFirstRows}
use Rattle.ffv1_line.proofs.lemmas.cell.Joined.{puts_next, cell_steps-append}
use Rattle.ffv1_line.specs.Coding.{RowCoding}
use Rattle.ffv1_line.specs.Coder.{Decoder, Encoder}
use Rattle.ffv1_line.specs.Above.{RowsAbove}

seen_over : (c : Cell) (x : ℕ) → seen c (suc (suc x)) 0 ≡ 0
unfolding seen
seen_over c x = refl

seen_above : (c : Cell) (x : ℕ) → seen c (suc (suc x)) 1 ≡ 0
unfolding seen
seen_above c x = refl

seen_inside : (c : Cell) (x y : ℕ) → x < c.width → seen c (suc (suc x)) (suc (suc y)) ≡ c.at x y
unfolding seen
seen_inside c x y h = ap (λ k. c.at k y) (omega arith)

pub rolls_first : (width : ℕ) → Rolls width [] (replicate width 0) (replicate width 0) 0
rolls_first width = record {
  long = omega arith;
  two_long = length-replicate {A = ℕ} width 0;
  one_long = length-replicate {A = ℕ} width 0;
  above = λ c same begins. record {
    wide = length-replicate {A = ℕ} width 0 ∙ sym same;
    second = record { each = λ x h. get_or-replicate {A = ℕ} width x 0 0 (omega arith) ∙ sym (seen_over c x) };
    first = record { each = λ x h. get_or-replicate {A = ℕ} width x 0 0 (omega arith) ∙ sym (seen_above c x) };
  };
}

in_rows : (w x y n : ℕ) → x < w → y < n → y * w + x < n * w
in_rows w x y n h k =
    let more = mul-le-mul_left {m = suc y} {n = n} w k in
    omega arith

begins_before : (c : Cell) (samples cur : List ℕ) (n : ℕ) → length samples ≡ n * c.width → BeginsWith c (samples ++ cur) (n + 1) → BeginsWith c samples n
begins_before c samples cur n long begins = record {
  each = λ x y h k.
      let inside : y * c.width + x < length samples = rw long (in_rows c.width x y n h k) in
      sym (get_or_append_left samples cur 0 (y * c.width + x) inside) ∙ begins.each x y h (omega arith);
}

begins_row : (c : Cell) (samples cur : List ℕ) (n : ℕ) → length samples ≡ n * c.width → BeginsWith c (samples ++ cur) (n + 1) → Shows c (suc (suc n)) cur c.width
begins_row c samples cur n long begins = record {
  each = λ x h.
      sym (get_or-append-add samples cur x 0) ∙ ap (λ k. get_or (samples ++ cur) (k + x) 0) long ∙ begins.each x n h (omega arith) ∙ sym (seen_inside c x n h);
}

pub rolls_next : (width : ℕ) (samples two one cur : List ℕ) (n : ℕ) → length cur ≡ width → Rolls width samples two one n → Rolls width (samples ++ cur) one cur (n + 1)
rolls_next width samples two one cur n wide rolls = record {
  long = length-append samples cur ∙ omega (arith, rolls.long);
  two_long = rolls.one_long;
  one_long = wide;
  above = λ c same begins.
      let long : length samples ≡ n * c.width = rw same rolls.long in
      let above = rolls.above c same (begins_before c samples cur n long begins) in
      let more : suc n ≡ n + 1 = omega arith in
      subst (λ k. Above c k one cur) more (record {
        wide = wide ∙ sym same;
        second = above.first;
        first = begins_row c samples cur n long begins;
      });
}

pub read_none : (coding : RowCoding) (r : Decoder) (width : ℕ) → RowsRead coding r r width [] 0
read_none coding r width = record {
  residuals = [];
  count = refl;
  rows = λ c same begins. record { suits = tt; follows = follows_none coding.table r.reading r.states };
}

pub read_next : (coding : RowCoding) (a b d : Decoder) (width : ℕ) (samples : List ℕ) (over : RowsAbove) (cur : List ℕ) (n : ℕ) →
    length cur ≡ width → Rolls width samples over.two over.one n → RowsRead coding a b width samples n → Lined coding b d over cur (length cur) →
    RowsRead coding a d width (samples ++ cur) (n + 1)
read_next coding a b d width samples over cur n wide rolls read lined = record {
  residuals = read.residuals ++ (lined.residuals ∷ []);
  count = length-append read.residuals (lined.residuals ∷ []) ∙ ap (λ k. k + 1) read.count;
  rows = λ c same begins.
      let long : length samples ≡ n * c.width = rw same rolls.long in
      let before = begins_before c samples cur n long begins in
      let row = begins_row c samples cur n long begins in
      let all : c.width ≡ length cur = same ∙ sym wide in
      let coded = lined.coded c n (rolls.above c same before) (subst (λ k. Shows c (suc (suc n)) cur k) all row) in
      rows_next coding a b d c read.residuals lined.residuals (read.rows c same before) (lined.count ∙ sym all) (rw (read.count) coded);
}

pub read_all : (coding : RowCoding) (a b : Decoder) (width n : ℕ) (samples : List ℕ) → RowsRead coding a b width samples n →
    CellRead coding a b width n samples
read_all coding a b width n samples read = record {
  residuals = read.residuals;
  count = read.count;
  rows = read.rows (cell_of width samples) refl (record { each = λ x y h k. refl });
}

pub shows_over : (width : ℕ) (samples : List ℕ) (y : ℕ) → y < 2 → Shows (cell_of width samples) y (replicate width 0) width
shows_over width samples zero h = record { each = λ x k. get_or-replicate {A = ℕ} width x 0 0 k ∙ sym (seen_over (cell_of width samples) x) }
shows_over width samples (suc zero) h = record { each = λ x k. get_or-replicate {A = ℕ} width x 0 0 k ∙ sym (seen_above (cell_of width samples) x) }
shows_over width samples (suc (suc y)) h = absurd (omega arith)

pub shows_inside : (width : ℕ) (samples : List ℕ) (k : ℕ) → Shows (cell_of width samples) (suc (suc k)) (take width (drop (k * width) samples)) width
shows_inside width samples k = record {
  each = λ x h. get_or-take width (drop (k * width) samples) x 0 h ∙ get_or-drop (k * width) samples x 0 ∙ sym (seen_inside (cell_of width samples) x k h);
}

chosen_none : (set : Set) (bits : ℕ) (c : Cell) → chosen_rows set bits c 0 ≡ []
unfolding chosen_rows
chosen_none set bits c = refl

pub length-rows : (set : Set) (bits : ℕ) (c : Cell) (n : ℕ) → length (chosen_rows set bits c n) ≡ n
unfolding chosen_rows
length-rows set bits c zero = refl
length-rows set bits c (suc n) =
    let rest = length-rows set bits c n in
    length-append (chosen_rows set bits c n) (chosen_row set bits c n c.width ∷ []) ∙ (omega arith)

chosen_next : (set : Set) (bits : ℕ) (c : Cell) (n : ℕ) → chosen_rows set bits c (n + 1) ≡ chosen_rows set bits c n ++ (chosen_row set bits c n c.width ∷ [])
unfolding chosen_rows
chosen_next set bits c n = rw add-one refl

pub cell_none : (t : Table) (set : Set) (bits : ℕ) (w : Writing) (states : List ℕ) (c : Cell) → Puts t w states w states (cell_steps set c 0 (chosen_rows set bits c 0))
cell_none t set bits w states c = rw (chosen_none set bits c) (puts_none t w states)

pub cell_next : (coding : RowCoding) (a b d : Encoder) (c : Cell) (n : ℕ) (over : RowsAbove) (cur : List ℕ) → length cur ≡ c.width → length over.one ≡ c.width →
    Shows c n over.two c.width → Shows c (n + 1) over.one c.width → Shows c (n + 2) cur c.width →
    Puts coding.table a.writing a.states b.writing b.states (cell_steps coding.set c 0 (chosen_rows coding.set coding.bits c n)) → Written coding b d over cur (length cur) →
    Puts coding.table a.writing a.states d.writing d.states (cell_steps coding.set c 0 (chosen_rows coding.set coding.bits c (n + 1)))
cell_next coding a b d c n over cur wide_cur wide_one shows_two shows_one shows_cur puts written =
    let one_more : n + 1 ≡ suc n = omega arith in
    let two_more : n + 2 ≡ suc (suc n) = omega arith in
    let first : Shows c (suc n) over.one c.width = subst (λ k. Shows c k over.one c.width) one_more shows_one in
    let row : Shows c (suc (suc n)) cur (length cur) = subst (λ k. Shows c (suc (suc n)) cur k) (sym wide_cur) (subst (λ k. Shows c k cur c.width) two_more shows_cur) in
    let next = written.puts c n (record { wide = wide_one; second = shows_two; first = first }) row in
    let next = subst (λ k. Puts coding.table b.writing b.states d.writing d.states (row_steps coding.set c n 0 (chosen_row coding.set coding.bits c n k))) wide_cur next in
    let next = subst (λ k. Puts coding.table b.writing b.states d.writing d.states (row_steps coding.set c k 0 (chosen_row coding.set coding.bits c n c.width))) (sym (length-rows coding.set coding.bits c n)) next in
    rw (chosen_next coding.set coding.bits c n) (puts_next coding.table coding.set a.writing b.writing d.writing a.states b.states d.states c (chosen_rows coding.set coding.bits c n) (chosen_row coding.set coding.bits c n c.width) puts next)

-- a row of a cell by its own length
row_of_cell : (c : Cell) (y : ℕ) (cur : List ℕ) → length cur ≡ c.width → Shows c (y + 2) cur c.width → Shows c (suc (suc y)) cur (length cur)
row_of_cell c y cur wide shows =
    let more : y + 2 ≡ suc (suc y) = omega arith in
    subst (Shows c (suc (suc y)) cur) (sym wide) (subst (λ k. Shows c k cur c.width) more shows)

-- the decisions of one row more
pub cell_more : (set : Set) (bits : ℕ) (c : Cell) (n : ℕ) → cell_steps set c 0 (chosen_rows set bits c (n + 1)) ≡ cell_steps set c 0 (chosen_rows set bits c n) ++ row_steps set c n 0 (chosen_row set bits c n c.width)
cell_more set bits c n =
    let at : 0 + length (chosen_rows set bits c n) ≡ n = omega (arith, length-rows set bits c n) in
    ap (cell_steps set c 0) (chosen_next set bits c n) ∙ cell_steps-append set c 0 (chosen_rows set bits c n) (chosen_row set bits c n c.width)
    ∙ ap (λ k. cell_steps set c 0 (chosen_rows set bits c n) ++ row_steps set c k 0 (chosen_row set bits c n c.width)) at

-- those of some rows more
cell_on : (set : Set) (bits : ℕ) (c : Cell) (n k : ℕ) → (rest : List Step) × (cell_steps set c 0 (chosen_rows set bits c (n + k)) ≡ cell_steps set c 0 (chosen_rows set bits c n) ++ rest)
cell_on set bits c n zero =
    let same : n + 0 ≡ n = omega arith in
    ([], ap (λ j. cell_steps set c 0 (chosen_rows set bits c j)) same ∙ sym (append-nil (cell_steps set c 0 (chosen_rows set bits c n))))
cell_on set bits c n (suc k) =
    let before = cell_on set bits c n k in
    let more : n + suc k ≡ n + k + 1 = omega arith in
    let row : List Step = row_steps set c (n + k) 0 (chosen_row set bits c (n + k) c.width) in (
      before.0 ++ row,
      ap (λ j. cell_steps set c 0 (chosen_rows set bits c j)) more ∙ cell_more set bits c (n + k) ∙ ap (λ l. l ++ row) before.1 ∙ append_assoc (cell_steps set c 0 (chosen_rows set bits c n)) before.0 row,
    )

-- a cell one of whose rows may be refused
pub cell_refused : (coding : RowCoding) (a b : Encoder) (c : Cell) (y n : ℕ) (over : RowsAbove) (cur : List ℕ) → y < n → length cur ≡ c.width → Above c y over.two over.one → Shows c (y + 2) cur c.width →
    Puts coding.table a.writing a.states b.writing b.states (cell_steps coding.set c 0 (chosen_rows coding.set coding.bits c y)) → MayBeRefusedRow coding b over cur (length cur) →
    MayBeRefused coding.table a.writing a.states (cell_steps coding.set c 0 (chosen_rows coding.set coding.bits c n))
cell_refused coding a b c y n over cur inside wide above shows puts refused =
    let set = coding.set in
    let bits = coding.bits in
    let cell : ℕ → List Step = λ k. cell_steps set c 0 (chosen_rows set bits c k) in
    let row : ℕ → List Step = λ k. row_steps set c y 0 (chosen_row set bits c y k) in
    let here = subst (λ k. MayBeRefused coding.table b.writing b.states (row k)) wide (refused.may c y above (row_of_cell c y cur wide shows)) in
    let rows = refused_second coding.table a.writing b.writing a.states b.states (cell y) (row c.width) puts here in
    let rows = subst (MayBeRefused coding.table a.writing a.states) (sym (cell_more set bits c y)) rows in
    let on = cell_on set bits c (y + 1) (n - (y + 1)) in
    let all : y + 1 + (n - (y + 1)) ≡ n = omega (arith, inside) in
    subst (MayBeRefused coding.table a.writing a.states) (sym on.1 ∙ ap cell all) (refused_first coding.table a.writing a.states (cell (y + 1)) on.0 rows)

pub cell_counts : (coding : RowCoding) (a b : Encoder) (new : Counts) (c : Cell) (y n : ℕ) (over : RowsAbove) (cur : List ℕ) → y < n → length cur ≡ c.width → Above c y over.two over.one → Shows c (y + 2) cur c.width →
    Puts coding.table a.writing a.states b.writing b.states (cell_steps coding.set c 0 (chosen_rows coding.set coding.bits c y)) → CountsFirst coding b.writing.counts new over cur →
    CountsFirstRows coding a.writing.counts new c n
cell_counts coding a b new c y n over cur inside wide above shows puts kept =
    let row = row_of_cell c y cur wide shows in
    let some : Shows c (suc (suc y)) cur kept.first = record { each = λ x h. row.each x (omega (arith, h, kept.few)) } in
    record {
      y = y;
      x = kept.first;
      above = inside;
      before = omega (arith, kept.few, wide);
      counted = counted_append a.writing.counts b.writing.counts new _ _ puts.counts (kept.counted c y above some);
    }

-- from a row to the next
pub above_top : (c : Cell) → Above c 0 (replicate c.width 0) (replicate c.width 0)
above_top c = record {
  wide = length-replicate {A = ℕ} c.width 0;
  second = record { each = λ x h. get_or-replicate {A = ℕ} c.width x 0 0 h ∙ sym (seen_over c x) };
  first = record { each = λ x h. get_or-replicate {A = ℕ} c.width x 0 0 h ∙ sym (seen_above c x) };
}

pub above_more : (c : Cell) (y : ℕ) (two one cur : List ℕ) → Above c y two one → length cur ≡ c.width → Shows c (y + 2) cur c.width → Above c (y + 1) one cur
above_more c y two one cur above wide shows =
    let row : y + 2 ≡ suc (suc y) = omega arith in
    let next : suc y ≡ y + 1 = omega arith in
    subst (λ k. Above c k one cur) next (record { wide = wide; second = above.first; first = subst (λ k. Shows c k cur c.width) row shows })
