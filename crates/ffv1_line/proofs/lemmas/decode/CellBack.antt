-- The rows of a cell come back from its code.
use Rattle.std.proofs.Common.{◌≡◌, refl, ℕ, zero, suc, ◌+◌, ◌<◌, List, [], ◌∷◌, ◌++◌, length, get_or, take, drop, false, arith, ap, sym, subst, ◌∙◌, ℤ, append_assoc, append-nil, replicate}
use Rattle.std.proofs.lemmas.List.{length-take-le}
use Rattle.ffv1_range.specs.Table.{Table, IsTable}
use Rattle.ffv1_range.specs.History.{AreBelow, decisions_after}
use Rattle.ffv1_range.proofs.HistoryLemmas.{kept_is}
use Rattle.ffv1_range.proofs.Named.{named}
use Rattle.ffv1_range.specs.Interval.{Decision, Interval, start, narrow, narrowed, interval_of}
use Rattle.ffv1_range.specs.Codes.{AreBytes, AreStates, Inside, raised, sentinel_of, full_of}
use Rattle.ffv1_range.specs.Symbols.{Step, decided, moved_by}
use Rattle.ffv1_range.specs.Reading.{Reading, At}
use Rattle.ffv1_range.specs.Writing.{Writing}
use Rattle.ffv1_range.specs.Follows.{Follows}
use Rattle.ffv1_range.specs.Puts.{Puts}
use Rattle.ffv1_range.proofs.Nested.{narrowed-append}
use Rattle.ffv1_range.proofs.Steps.{read_on, written_on, decided-append, moved_by-append, AreStates-append}
use Rattle.ffv1_range.proofs.EndingCodes.{fit, sentinel-inside, full-inside, bytes-take, bytes-digits}
use Rattle.ffv1_plane.specs.Quantisation.{Set}
use Rattle.ffv1_line.specs.Cell.{Cell, Shows, Above}
use Rattle.ffv1_line.specs.Row.{AreSuiting, row_steps, cell_steps}
use Rattle.ffv1_line.specs.Decoded.{Lined, LinedToRefusal, RowsSuit}
use Rattle.ffv1_line.specs.Coded.{CodesSteps, CodesRowBy, CodesCellBy, StandsAfter}
use Rattle.ffv1_line.proofs.lemmas.laws.SameRow.{Code, code_of, codes_from, code_first, code_rest}
use Rattle.ffv1_line.proofs.lemmas.laws.ThreeRows.{row_back, row_not_refused}
use Rattle.ffv1_line.specs.Coding.{RowCoding}
use Rattle.ffv1_line.specs.Coder.{decoder_by, Decoder}
use Rattle.ffv1_line.specs.Above.{RowsAbove}

-- row y of some rows, and the rows around it
rows_around : (rows : List (List ℤ)) (y : ℕ) → y < length rows → rows ≡ take y rows ++ (get_or rows y [] ∷ drop (suc y) rows)
rows_around [] y h = absurd (omega (arith, h))
rows_around (r ∷ rows) zero h = refl
rows_around (r ∷ rows) (suc y) h = ap (λ l. r ∷ l) (rows_around rows y (omega (arith, h)))

take-more : (rows : List (List ℤ)) (y : ℕ) → y < length rows → take (suc y) rows ≡ take y rows ++ (get_or rows y [] ∷ [])
take-more [] y h = absurd (omega (arith, h))
take-more (r ∷ rows) zero h = refl
take-more (r ∷ rows) (suc y) h = ap (λ l. r ∷ l) (take-more rows y (omega (arith, h)))

cell_steps-parts : (set : Set) (c : Cell) (y n : ℕ) (xs ys : List (List ℤ)) → n ≡ y + length xs → cell_steps set c y (xs ++ ys) ≡ cell_steps set c y xs ++ cell_steps set c n ys
cell_steps-parts set c y n [] ys is = ap (λ k. cell_steps set c k ys) (omega (arith, is))
cell_steps-parts set c y n (x ∷ xs) ys is =
    ap (λ l. row_steps set c y 0 x ++ l) (cell_steps-parts set c (suc y) n xs ys (omega (arith, is)))
    ∙ sym (append_assoc (row_steps set c y 0 x) (cell_steps set c (suc y) xs) (cell_steps set c n ys))

pub length-taken : (rows : List (List ℤ)) (y : ℕ) → y < length rows → length (take y rows) ≡ y
length-taken rows y h = length-take-le y rows (omega (arith, h))

-- the decisions of a cell around row y
steps_around : (set : Set) (c : Cell) (rows : List (List ℤ)) (y : ℕ) → y < length rows →
    cell_steps set c 0 rows ≡ cell_steps set c 0 (take y rows) ++ (row_steps set c y 0 (get_or rows y []) ++ cell_steps set c (suc y) (drop (suc y) rows))
steps_around set c rows y h =
    ap (cell_steps set c 0) (rows_around rows y h) ∙ cell_steps-parts set c 0 y (take y rows) (get_or rows y [] ∷ drop (suc y) rows) (omega (arith, length-taken rows y h))

steps_more : (set : Set) (c : Cell) (rows : List (List ℤ)) (y : ℕ) → y < length rows →
    cell_steps set c 0 (take (suc y) rows) ≡ cell_steps set c 0 (take y rows) ++ row_steps set c y 0 (get_or rows y [])
steps_more set c rows y h =
    ap (cell_steps set c 0) (take-more rows y h)
    ∙ cell_steps-parts set c 0 y (take y rows) (get_or rows y [] ∷ []) (omega (arith, length-taken rows y h))
    ∙ ap (λ l. cell_steps set c 0 (take y rows) ++ l) (append-nil (row_steps set c y 0 (get_or rows y [])))

-- row y suits
pub row_suits : (set : Set) (bits : ℕ) (c : Cell) (k y n : ℕ) (rows : List (List ℤ)) → n ≡ k + y → y < length rows → RowsSuit set bits c k rows →
    (length (get_or rows y []) ≡ c.width) × AreSuiting set bits c n 0 (get_or rows y [])
row_suits set bits c k y n [] is h suits = absurd (omega (arith, h))
row_suits set bits c k zero n (r ∷ rows) is h suits = (suits.0, subst (λ m. AreSuiting set bits c m 0 r) (omega (arith, is)) suits.1)
row_suits set bits c k (suc y) n (r ∷ rows) is h suits = row_suits set bits c (suc k) y n rows (omega (arith, is)) (omega (arith, h)) suits.2

module _ (before : List Decision) (coding : RowCoding) (states : List ℕ) (c : Cell) (rows : List (List ℤ)) where
  pub behind_none : (now : Reading) → At now (interval_of before) → CodesCellBy now.bytes before coding states c rows → StandsAfter before coding states c rows 0 (decoder_by now states)
  behind_none now at cell = record { cell = cell; at = subst (λ ds. At now (interval_of ds)) (sym (append-nil before)) at; moved = refl }

  -- the next row is coded after those that were read
  next_row : (y : ℕ) (now : Decoder) → y < length rows → StandsAfter before coding states c rows y now →
      CodesRowBy now.reading.bytes (before ++ decided coding.table states (cell_steps coding.set c 0 (take y rows))) coding now.states c y (get_or rows y [])
  next_row y now inside behind =
      let done = cell_steps coding.set c 0 (take y rows) in
      let row = row_steps coding.set c y 0 (get_or rows y []) in
      let rest = cell_steps coding.set c (suc y) (drop (suc y) rows) in
      let all = code_of now.reading.bytes before coding.table states (cell_steps coding.set c 0 rows) behind.cell.coded in
      let parts : Code now.reading.bytes coding.table states (narrowed start before) (done ++ (row ++ rest)) = subst (Code now.reading.bytes coding.table states (narrowed start before)) (steps_around coding.set c rows y inside) all in
      let later = code_rest now.reading.bytes coding.table states (narrowed start before) done (row ++ rest) parts in
      let first = code_first now.reading.bytes behind.cell.fit coding.table (moved_by coding.table states done) (narrowed (narrowed start before) (decided coding.table states done)) row rest later in
      let here : Code now.reading.bytes coding.table (moved_by coding.table states done) (narrowed start (before ++ decided coding.table states done)) row =
      subst (λ i. Code now.reading.bytes coding.table (moved_by coding.table states done) i row) (sym (narrowed-append start before (decided coding.table states done))) first in
      let coded : CodesSteps now.reading.bytes (before ++ decided coding.table states done) coding.table (moved_by coding.table states done) row = codes_from now.reading.bytes (before ++ decided coding.table states done) coding.table (moved_by coding.table states done) row here in
      record {
        suits = (row_suits coding.set coding.bits c 0 y y rows (omega arith) inside behind.cell.suits).1;
        coded = subst (λ ss. CodesSteps now.reading.bytes (before ++ decided coding.table states done) coding.table ss row) (sym behind.moved) coded;
      }

  behind_next : (y : ℕ) (now new : Decoder) (over : RowsAbove) (cur : List ℕ) → 0 < c.width → y < length rows → Above c y over.two over.one → length cur ≡ c.width →
      StandsAfter before coding states c rows y now → Lined coding now new over cur (length cur) →
      Shows c (suc (suc y)) cur c.width × StandsAfter before coding states c rows (suc y) new
  behind_next y now new over cur some inside above wide behind lined =
      let done = cell_steps coding.set c 0 (take y rows) in
      let row = row_steps coding.set c y 0 (get_or rows y []) in
      let past = before ++ decided coding.table states done in
      let long = (row_suits coding.set coding.bits c 0 y y rows (omega arith) inside behind.cell.suits).0 in
      let back = row_back coding now new over cur past c y (get_or rows y []) (omega (arith, some, above.wide)) above wide long behind.at behind.cell.fit
      (next_row y now inside behind) lined in
      let follows : Follows coding.table now.reading now.states new.reading new.states row = back.1 in
      let same : new.reading.bytes ≡ now.reading.bytes = follows.bytes in
      let here = subst (λ ss. Follows coding.table now.reading ss new.reading new.states row) behind.moved follows in
      let at : At new.reading (interval_of (past ++ decided coding.table (moved_by coding.table states done) row)) = read_on coding.table now.reading (moved_by coding.table states done) new.reading new.states row past behind.at here in
      let decisions : past ++ decided coding.table (moved_by coding.table states done) row ≡ before ++ decided coding.table states (cell_steps coding.set c 0 (take (suc y) rows)) =
      append_assoc before (decided coding.table states done) (decided coding.table (moved_by coding.table states done) row)
      ∙ ap (λ ds. before ++ ds) (sym (decided-append coding.table states done row) ∙ ap (decided coding.table states) (sym (steps_more coding.set c rows y inside))) in (
        back.0,
        record {
          cell = subst (λ b. CodesCellBy b before coding states c rows) (sym same) behind.cell;
          at = subst (λ ds. At new.reading (interval_of ds)) decisions at;
          moved = here.moves ∙ sym (moved_by-append coding.table states done row) ∙ ap (moved_by coding.table states) (sym (steps_more coding.set c rows y inside));
        },
      )

  pub behind_not_refused : (y : ℕ) (now new : Decoder) (over : RowsAbove) (cur : List ℕ) (x : ℕ) → y < length rows → Above c y over.two over.one → x < c.width →
      StandsAfter before coding states c rows y now → LinedToRefusal coding now new over cur x → ⊥
  behind_not_refused y now new over cur x inside above within behind refused =
      let long = (row_suits coding.set coding.bits c 0 y y rows (omega arith) inside behind.cell.suits).0 in
      row_not_refused coding now new over cur (before ++ decided coding.table states (cell_steps coding.set c 0 (take y rows))) c y x (get_or rows y [])
      (omega (arith, within, above.wide)) above long within behind.at behind.cell.fit (next_row y now inside behind) refused

-- one row more
pub back_more : (before : List Decision) (coding : RowCoding) (states : List ℕ) (c : Cell) (rows : List (List ℤ)) (y : ℕ) (now new : Decoder) (over : RowsAbove) (cur : List ℕ) → 0 < c.width → y < length rows →
    Above c y over.two over.one → length cur ≡ c.width → StandsAfter before coding states c rows y now → Lined coding now new over cur (length cur) → Shows c (y + 2) cur c.width × StandsAfter before coding states c rows (y + 1) new
back_more before coding states c rows y now new over cur some inside above wide behind lined =
    let two_more : suc (suc y) ≡ y + 2 = omega arith in
    let one_more : suc y ≡ y + 1 = omega arith in
    let next = behind_next before coding states c rows y now new over cur some inside above wide behind lined in
    (subst (λ n. Shows c n cur c.width) two_more next.0, subst (λ n. StandsAfter before coding states c rows n new) one_more next.1)

-- what was written is coded by either ending
module _ (before : List Decision) (t : Table) (old : Writing) (states : List ℕ) (w : Writing) (after : List ℕ) (steps : List Step)
    (named : AreStates before) (begins : old.interval ≡ interval_of before) (puts : Puts t old states w after steps) where
  all_named : AreStates (before ++ decided t states steps)
  all_named = AreStates-append before (decided t states steps) named puts.named

  pub sentinel_codes : CodesSteps (sentinel_of w.interval) before t states steps
  sentinel_codes =
      let is = written_on t old states w after steps before begins puts in
      record {
        named = puts.named;
        codes = subst (λ i. Inside (sentinel_of i) (interval_of (before ++ decided t states steps))) (sym is)
            (sentinel-inside (interval_of (before ++ decided t states steps)) (fit (before ++ decided t states steps) all_named));
      }

  pub full_codes : (behind : List ℕ) → CodesSteps (full_of w.interval ++ behind) before t states steps
  full_codes behind =
      let is = written_on t old states w after steps before begins puts in
      record {
        named = puts.named;
        codes = subst (λ i. Inside (full_of i ++ behind) (interval_of (before ++ decided t states steps))) (sym is)
            (full-inside (interval_of (before ++ decided t states steps)) behind (fit (before ++ decided t states steps) all_named));
      }

-- the endings of a history code it by fresh states
module _ (t : Table) (table : IsTable t.floor t.one) (count : ℕ) (steps : List Step) (below : AreBelow steps count) where
  pub sentinel_of_history : CodesSteps (sentinel_of (interval_of (decisions_after t [] steps))) [] t (replicate count 128) steps
  sentinel_of_history =
      let is = kept_is t count steps below in
      let ds = decisions_after t [] steps in
      record {
        named = subst AreStates (sym is) (named t table [] steps);
        codes = subst (λ es. Inside (sentinel_of (interval_of ds)) (interval_of es)) (sym is) (sentinel-inside (interval_of ds) (fit ds (named t table [] steps)));
      }

  pub full_of_history : (behind : List ℕ) → CodesSteps (full_of (interval_of (decisions_after t [] steps)) ++ behind) [] t (replicate count 128) steps
  full_of_history behind =
      let is = kept_is t count steps below in
      let ds = decisions_after t [] steps in
      record {
        named = subst AreStates (sym is) (named t table [] steps);
        codes = subst (λ es. Inside (full_of (interval_of ds) ++ behind) (interval_of es)) (sym is) (full-inside (interval_of ds) behind (fit ds (named t table [] steps)));
      }

pub sentinel_bytes : (i : Interval) → AreBytes (sentinel_of i)
sentinel_bytes i = bytes-take (narrow i 129 false).count (raised (narrow i 129 false).low)

bytes-at : (xs ys : List ℕ) (k : ℕ) → AreBytes xs → AreBytes ys → get_or (xs ++ ys) k 0 < 256
bytes-at [] ys k p q = q k
bytes-at (x ∷ xs) ys zero p q = p 0
bytes-at (x ∷ xs) ys (suc k) p q = bytes-at xs ys k (λ j. p (suc j)) q

pub full_bytes : (i : Interval) (behind : List ℕ) → AreBytes behind → AreBytes (full_of i ++ behind)
full_bytes i behind are = λ k. bytes-at (full_of i) behind k (bytes-digits i.count i.low) are
