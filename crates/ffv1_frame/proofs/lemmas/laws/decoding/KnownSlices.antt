-- What is known of each slice, however far decoding has come.
use Rattle.std.proofs.Common.{◌≡◌, refl, ℕ, zero, suc, ◌+◌, ◌-◌, ◌*◌, ◌<◌, ◌≤◌, ◌⊎◌, List, [], ◌∷◌, ◌++◌, map, length, get_or, replicate, inl, inr, ap, sym, subst, ◌∙◌, arith, append-nil, append_assoc, length-append}
use Rattle.std.specs.List.{sum_by, flat_map, range_with_len}
use Rattle.std.proofs.lemmas.Bool.{cases_lt}
use Rattle.std.proofs.lemmas.Grind.{flat_map-append}
use Rattle.std.proofs.lemmas.List.{length-replicate, get_or_append_left, get_or-append-add, get_or_past}
use Rattle.ffv1_line.specs.Cell.{cell_of}
use Rattle.ffv1_record.specs.Accepted.{Accepted}
use Rattle.ffv1_frame.specs.Picture.{plane}
use Rattle.ffv1_frame.specs.SliceList.{Line, lines_in}
use Rattle.ffv1_frame.specs.CodedSlice.{IsBodyOf}
use Rattle.ffv1_frame.specs.RiceLines.{fresh_coder, lines_after, rice_bits}
use Rattle.ffv1_frame.specs.Order.{Event, events_of, row_events, series_events, series_of}
use Rattle.ffv1_frame.specs.Order.Event.{Open, Close}
use Rattle.ffv1_frame.specs.Runs.{Runs}
use Rattle.ffv1_frame.specs.Decoding.{State, Slice, StepsBy, Decodes, at_first, slice_at, slice_number, width_in, unread}
use Rattle.ffv1_frame.specs.Answer.{slices_in, decisions_in}
use Rattle.ffv1_frame.specs.Known.{CodesRead, IsBegun}
use Rattle.ffv1_frame.proofs.lemmas.laws.decoding.Machines.{Each, each_left, runs_split}
use Rattle.ffv1_frame.proofs.lemmas.laws.decoding.LinesRead.{read_at, reads_of, row_lines, row_reads}
use Rattle.ffv1_frame.proofs.lemmas.laws.decoding.Groups.{groups_of, groups_are, row_by_groups}
use Rattle.ffv1_frame.proofs.lemmas.laws.decoding.ColumnSteps.{IsOfRow, columns_kept_along}
use Rattle.ffv1_frame.proofs.lemmas.laws.decoding.SliceBodies.{HasRead}
use Rattle.ffv1_frame.proofs.lemmas.laws.decoding.LinesMade.{AllHave, have_more, groups_of_row}
use Rattle.ffv1_frame.proofs.lemmas.laws.decoding.Agreed.{row_keeps}
use Rattle.ffv1_frame.proofs.lemmas.laws.decoding.RowsDone.{opens}
use Rattle.ffv1_frame.proofs.lemmas.laws.decoding.PictureMade.{PictureLaws, alike_lines, some_wide}
use Rattle.ffv1_frame.proofs.lemmas.laws.decoding.FromCoded.{row_and_column}
use Rattle.ffv1_frame.proofs.lemmas.Totals.{total, total_is, total_append}

-- a beginning of two lists is one of the first, or goes on into the second
pub parts_of : {E : Type 0} (xs ys before after : List E) → xs ++ ys ≡ before ++ after →
    ((rest : List E) × (xs ≡ before ++ rest)) ⊎ ((more : List E) × (before ≡ xs ++ more) × (ys ≡ more ++ after))
parts_of [] ys before after e = inr (before, refl, e)
parts_of (x ∷ xs) ys [] after e = inl (x ∷ xs, refl)
parts_of (x ∷ xs) ys (b ∷ before) after e =
    let here : x ≡ b = cc in
    let there : xs ++ ys ≡ before ++ after = cc in
    elim (parts_of xs ys before after there) [
      | inl sooner ↦ inl (sooner.0, ap (λ z. x ∷ z) sooner.1 ∙ ap (λ z. z ∷ (before ++ sooner.0)) here)
      | inr later ↦ inr (later.0, ap (λ z. z ∷ before) (sym here) ∙ ap (λ z. x ∷ z) later.1, later.2)
    ]

last_of : {E : Type 0} (e : E) (more after : List E) → e ∷ [] ≡ more ++ after → (more ≡ []) ⊎ (after ≡ [])
last_of e [] after parts = inl refl
last_of e (m ∷ []) [] parts = inr refl
last_of e (m ∷ []) (b ∷ after) parts = cc
last_of e (m ∷ (n ∷ more)) after parts = cc

pub beginning_of : {E : Type 0} (f : ℕ → E) (from count : ℕ) (before rest : List E) → map f (range_with_len from count) ≡ before ++ rest →
    (few : ℕ) × (few ≤ count) × (before ≡ map f (range_with_len from few))
beginning_of f from count [] rest e = (0, omega arith, refl)
beginning_of f from zero (b ∷ before) rest e = cc
beginning_of f from (suc count) (b ∷ before) rest e =
    let here : f from ≡ b = cc in
    let there : map f (range_with_len (from + 1) count) ≡ before ++ rest = cc in
    let more = beginning_of f (from + 1) count before rest there in
    (suc more.0, omega (arith, more.1), ap (λ z. z ∷ before) (sym here) ∙ ap (λ z. f from ∷ z) more.2)

module _ (a : Accepted) (coded : ℕ → List ℕ) (laws : PictureLaws a) where
  pub codes_read : (r k : ℕ) (ls : List Line) (q : Slice) → k < a.configuration.columns → HasRead a coded r k ls q → CodesRead a coded (slice_number a.configuration r k) q ls
  codes_read r k ls q inside has =
      let c = a.configuration in
      let place = row_and_column r k c.columns inside in
      record {
        is_head = has.is_head;
        body = has.body;
        is_body = subst (λ j. IsBodyOf c q.head (λ p. cell_of (width_in c p j) (plane q.cells p)) ls has.body) (sym place.1) has.is_body;
        past = has.past;
        codes = has.codes;
        within = has.within;
        bits = record {
          range = λ is. tt;
          rice = λ is.
              let bits = has.bits.rice is in record {
                bits = subst (λ j. q.bits ≡ rice_bits c q.head (λ p. cell_of (width_in c p j) (plane q.cells p)) ls) (sym place.1) bits.bits;
                coder = subst (λ j. q.coder ≡ lines_after c q.head (λ p. cell_of (width_in c p j) (plane q.cells p)) fresh_coder ls) (sym place.1) bits.coder;
                begun = bits.begun;
              };
        };
      }

  pub list_is : (r k : ℕ) → k < a.configuration.columns → lines_in a.configuration (slice_number a.configuration r k) ≡ row_lines a.configuration r
  list_is r k inside = ap (row_lines a.configuration) (row_and_column r k a.configuration.columns inside).0

  -- what is known of a slice of row r in a column
  abbrev pub InColumn : ℕ → ℕ → Slice → Type 0
  InColumn r k q = (q ≡ unread) ⊎ ((read : List Line) × (more : List Line) × (row_lines a.configuration r ≡ read ++ more) × HasRead a coded r k read q)

  -- the slices of the rows above row r are whole
  pub record Above (r : ℕ) (s : State) : Type 0 where
    pub long : length s.done ≡ r * a.configuration.columns
    pub whole : (n : ℕ) → n < r * a.configuration.columns → CodesRead a coded n (get_or s.done n unread) (lines_in a.configuration n)

  abbrev pub KnownAt : State → Type 0
  KnownAt s = (n : ℕ) → n < a.configuration.columns * a.configuration.rows → (get_or (slices_in s) n unread ≡ unread) ⊎ IsBegun a coded n (get_or (slices_in s) n unread)

  known_by : (r : ℕ) (s : State) → Above r s → length s.columns ≡ a.configuration.columns → ((k : ℕ) → k < a.configuration.columns → InColumn r k (slice_at s k)) → KnownAt s
  known_by r s above long each n inside =
      let c = a.configuration in
      elim (cases_lt n (r * c.columns)) [
        | inl sooner ↦
            let place : n < length s.done = rw above.long sooner in
            let here : get_or (s.done ++ s.columns) n unread ≡ get_or s.done n unread = get_or_append_left {A = Slice} s.done s.columns unread n place in
            inr (subst (IsBegun a coded n) (sym here) (record { read = lines_in c n; more = []; parts = sym (append-nil (lines_in c n)); known = above.whole n sooner }))
        | inr later ↦
            let k = n - r * c.columns in
            let number : slice_number c r k ≡ n = omega (arith, later) in
            elim (cases_lt k c.columns) [
              | inl column ↦
                  let here : get_or (s.done ++ s.columns) n unread ≡ slice_at s k =
                  ap (λ m. get_or (s.done ++ s.columns) m unread) (sym number) ∙ ap (λ m. get_or (s.done ++ s.columns) (m + k) unread) (sym above.long)
                  ∙ get_or-append-add {A = Slice} s.done s.columns k unread in
                  elim (each k column) [
                    | inl none ↦ inl (here ∙ none)
                    | inr some ↦ inr (subst (IsBegun a coded n) (sym here) (subst (λ m. IsBegun a coded m (slice_at s k)) number (record {
                      read = some.0;
                      more = some.1;
                      parts = list_is r k column ∙ some.2;
                      known = codes_read r k some.0 (slice_at s k) column some.3;
                    })))
                  ]
              | inr past ↦
                  let all : length (s.done ++ s.columns) ≤ n = rw (length-append s.done s.columns) (omega (arith, above.long, long, past, later)) in
                  inl (get_or_past {X = Slice} (s.done ++ s.columns) n unread all)
            ]
      ]

  pub done_kept : (r : ℕ) (es : List Event) (s t : State) → Each (IsOfRow a.configuration r) es → Runs (StepsBy a coded) s es t → t.done ≡ s.done
  done_kept r es s t all f = row_keeps a coded r es s t all f

  pub above_same : (r : ℕ) (s t : State) → t.done ≡ s.done → Above r s → Above r t
  above_same r s t same above = record {
    long = ap (λ qs. length qs) same ∙ above.long;
    whole = λ n inside. subst (λ qs. CodesRead a coded n (get_or qs n unread) (lines_in a.configuration n)) (sym same) (above.whole n inside);
  }

  -- the lines of a row, as its groups give them
  lines_of_row : (r : ℕ) → Each (IsOfRow a.configuration r) (flat_map (series_events a.configuration r) (series_of a.configuration r))
  lines_of_row r =
      subst (Each (IsOfRow a.configuration r)) (sym (row_by_groups a.configuration r))
      (groups_of_row a.configuration r (groups_of a.configuration r) (groups_are a.configuration r (λ rct p. alike_lines a laws rct p r)))

  fresh_at : (n k : ℕ) → get_or (replicate n unread) k unread ≡ unread
  fresh_at zero k = refl
  fresh_at (suc n) zero = refl
  fresh_at (suc n) (suc k) = fresh_at n k

  pub record RowStart (r : ℕ) (s : State) : Type 0 where
    pub above : Above r s
    pub fresh : s.columns ≡ replicate a.configuration.columns unread

  pub start_long : (r : ℕ) (s : State) → RowStart r s → length s.columns ≡ a.configuration.columns
  start_long r s start = ap (λ qs. length qs) start.fresh ∙ length-replicate {A = Slice} a.configuration.columns unread

  -- the row is opened
  pub record RowOpen (r : ℕ) (o : State) : Type 0 where
    pub above : Above r o
    pub long : length o.columns ≡ a.configuration.columns
    pub have : AllHave a coded r laws.cells (some_wide a laws) [] o

  pub row_open : (r : ℕ) (s o : State) → RowStart r s → Runs (StepsBy a coded) s (map (Open r) (range_with_len 0 a.configuration.columns)) o → RowOpen r o
  row_open r s o start f =
      let c = a.configuration in
      let long = start_long r s start in
      let all = opens a coded r 0 c.columns s o (omega (arith, long)) f in
      record {
        above = above_same r s o all.done start.above;
        long = all.long ∙ long;
        have = λ k inside. (all.each k (omega arith) (omega (arith, inside))).0;
      }

  part_of_lines : (r : ℕ) (before rest : List Event) (o t : State) → RowOpen r o → flat_map (series_events a.configuration r) (series_of a.configuration r) ≡ before ++ rest →
      Runs (StepsBy a coded) o before t → Above r t × (length t.columns ≡ a.configuration.columns) × ((k : ℕ) → k < a.configuration.columns → InColumn r k (slice_at t k))
  part_of_lines r before rest o t opening parts f =
      let c = a.configuration in
      let all : Each (IsOfRow c r) before = each_left (IsOfRow c r) before rest (subst (Each (IsOfRow c r)) parts (lines_of_row r)) in
      let have = have_more a coded r laws.cells (some_wide a laws) before [] o t all opening.long f opening.have in (
        above_same r o t (done_kept r before o t all f) opening.above,
        columns_kept_along a coded r before o t all f ∙ opening.long,
        λ k inside. inr (
          reads_of k before,
          reads_of k rest,
          sym (row_reads c r k inside) ∙ ap (reads_of k) parts ∙ flat_map-append (read_at k) before rest,
          have k inside,
        ),
      )

  -- a row that is whole
  pub row_closed : (r : ℕ) (s t : State) → RowStart r s → Runs (StepsBy a coded) s (row_events a.configuration r) t → RowStart (suc r) t
  row_closed r s t start f =
      let c = a.configuration in
      let lines = flat_map (series_events c r) (series_of c r) in
      let first = runs_split (StepsBy a coded) s t (map (Open r) (range_with_len 0 c.columns)) (lines ++ (Close ∷ [])) f in
      let opening = row_open r s first.0 start first.1 in
      let later = runs_split (StepsBy a coded) first.0 t lines (Close ∷ []) first.2 in
      let e = later.0 in
      let read = part_of_lines r lines [] first.0 e opening (sym (append-nil lines)) later.1 in
      let closed : t.done ≡ e.done ++ e.columns = ap (λ (z : State). z.done) (later.2.2 ∙ later.2.1) in
      let have = have_more a coded r laws.cells (some_wide a laws) lines [] first.0 e (lines_of_row r) opening.long later.1 opening.have in
      record {
        above = record {
          long = ap (λ qs. length qs) closed ∙ length-append e.done e.columns ∙ (let sum : length e.done + length e.columns ≡ suc r * c.columns = omega (arith, read.0.long, read.1) in sum);
          whole = λ n inside.
              subst (λ qs. CodesRead a coded n (get_or qs n unread) (lines_in c n)) (sym closed)
              (elim (cases_lt n (r * c.columns)) [
                | inl sooner ↦
                    let place : n < length e.done = rw read.0.long sooner in
                    let here : get_or (e.done ++ e.columns) n unread ≡ get_or e.done n unread = get_or_append_left {A = Slice} e.done e.columns unread n place in
                    subst (λ q. CodesRead a coded n q (lines_in c n)) (sym here) (read.0.whole n sooner)
                | inr other ↦
                    let k = n - r * c.columns in
                    let number : slice_number c r k ≡ n = omega (arith, other) in
                    let column : k < c.columns = omega (arith, other, inside) in
                    let here : get_or (e.done ++ e.columns) n unread ≡ slice_at e k =
                    ap (λ m. get_or (e.done ++ e.columns) m unread) (sym number) ∙ ap (λ m. get_or (e.done ++ e.columns) (m + k) unread) (sym read.0.long)
                    ∙ get_or-append-add {A = Slice} e.done e.columns k unread in
                    let mine : CodesRead a coded (slice_number c r k) (slice_at e k) (row_lines c r) =
                    codes_read r k (row_lines c r) (slice_at e k) column (subst (λ ls. HasRead a coded r k ls (slice_at e k)) (row_reads c r k column) (have k column)) in
                    subst (λ q. CodesRead a coded n q (lines_in c n)) (sym here)
                    (subst (λ m. CodesRead a coded m (slice_at e k) (lines_in c m)) number
                    (subst (CodesRead a coded (slice_number c r k) (slice_at e k)) (sym (list_is r k column)) mine))
              ]);
        };
        fresh = ap (λ (z : State). z.columns) (later.2.2 ∙ later.2.1);
      }

  start_known : (r : ℕ) (s : State) → RowStart r s → KnownAt s
  start_known r s start =
      known_by r s start.above (start_long r s start) (λ k inside. inl (ap (λ qs. get_or qs k unread) start.fresh ∙ fresh_at a.configuration.columns k))

  -- while slices are opened
  opening_known : (r : ℕ) (before rest : List Event) (s t : State) → RowStart r s → map (Open r) (range_with_len 0 a.configuration.columns) ≡ before ++ rest →
      Runs (StepsBy a coded) s before t → KnownAt t
  opening_known r before rest s t start parts f =
      let c = a.configuration in
      let long = start_long r s start in
      let few = beginning_of (Open r) 0 c.columns before rest parts in
      let all = opens a coded r 0 few.0 s t (omega (arith, long, few.1)) (subst (λ es. Runs (StepsBy a coded) s es t) few.2 f) in
      known_by r t (above_same r s t all.done start.above) (all.long ∙ long) (λ k inside. elim (cases_lt k few.0) [
        | inl below ↦ inr ([], row_lines c r, refl, (all.each k (omega arith) (omega (arith, below))).0)
        | inr above ↦ inl (all.behind k (omega (arith, above)) ∙ ap (λ qs. get_or qs k unread) start.fresh ∙ fresh_at c.columns k)
      ])

  -- while lines are read
  lines_known : (r : ℕ) (before after : List Event) (o t : State) → RowOpen r o → flat_map (series_events a.configuration r) (series_of a.configuration r) ++ (Close ∷ []) ≡ before ++ after →
      Runs (StepsBy a coded) o before t → KnownAt t ⊎ (after ≡ [])
  lines_known r before after o t opening parts f =
      let c = a.configuration in
      let lines = flat_map (series_events c r) (series_of c r) in
      elim (parts_of lines (Close ∷ []) before after parts) [
        | inl sooner ↦
            let read = part_of_lines r before sooner.0 o t opening sooner.1 f in
            inl (known_by r t read.0 read.1 read.2)
        | inr later ↦ elim (last_of Close later.0 after later.2) [
          | inl none ↦
              let all : before ≡ lines = later.1 ∙ ap (λ z. lines ++ z) none ∙ append-nil lines in
              let read = part_of_lines r lines [] o t opening (sym (append-nil lines)) (subst (λ es. Runs (StepsBy a coded) o es t) all f) in
              inl (known_by r t read.0 read.1 read.2)
          | inr end ↦ inr end
        ]
      ]

  -- in a row of slices; at its end what is known of the next row's start is known
  row_known : (r : ℕ) (before after : List Event) (s t : State) → RowStart r s → row_events a.configuration r ≡ before ++ after → Runs (StepsBy a coded) s before t → KnownAt t
  row_known r before after s t start parts f =
      let c = a.configuration in
      let opened_events = map (Open r) (range_with_len 0 c.columns) in
      let lines = flat_map (series_events c r) (series_of c r) in
      elim (parts_of opened_events (lines ++ (Close ∷ [])) before after parts) [
        | inl sooner ↦ opening_known r before sooner.0 s t start sooner.1 f
        | inr later ↦
            let split = runs_split (StepsBy a coded) s t opened_events later.0 (subst (λ es. Runs (StepsBy a coded) s es t) later.1 f) in
            let opening = row_open r s split.0 start split.1 in
            elim (lines_known r later.0 after split.0 t opening later.2 split.2) [
              | inl known ↦ known
              | inr none ↦
                  let all : row_events c r ≡ before = parts ∙ ap (λ z. before ++ z) none ∙ append-nil before in
                  start_known (suc r) t (row_closed r s t start (subst (λ es. Runs (StepsBy a coded) s es t) (sym all) f))
            ]
      ]

  rows_known : (from count : ℕ) (before after : List Event) (s t : State) → RowStart from s → flat_map (row_events a.configuration) (range_with_len from count) ≡ before ++ after →
      Runs (StepsBy a coded) s before t → KnownAt t
  rows_known from zero [] after s t start parts f = subst KnownAt (sym f) (start_known from s start)
  rows_known from zero (b ∷ before) after s t start parts f = cc
  rows_known from (suc count) before after s t start parts f =
      let c = a.configuration in
      let more = flat_map (row_events c) (range_with_len (from + 1) count) in
      elim (parts_of (row_events c from) more before after parts) [
        | inl sooner ↦ row_known from before sooner.0 s t start sooner.1 f
        | inr later ↦
            let split = runs_split (StepsBy a coded) s t (row_events c from) later.0 (subst (λ es. Runs (StepsBy a coded) s es t) later.1 f) in
            let next : suc from ≡ from + 1 = omega arith in
            rows_known (from + 1) count later.0 after split.0 t (subst (λ n. RowStart n split.0) next (row_closed from s split.0 start split.1)) later.2 split.2
      ]

  pub first_start : RowStart 0 (at_first a.configuration)
  first_start = record { above = record { long = omega arith; whole = λ n inside. absurd (omega (arith, inside)) }; fresh = refl }

  pub known_before : (before after : List Event) (s : State) → events_of a.configuration ≡ before ++ after → Runs (StepsBy a coded) (at_first a.configuration) before s → KnownAt s
  known_before before after s parts f = rows_known 0 a.configuration.rows before after (at_first a.configuration) s first_start parts f

  rows_closed : (from count : ℕ) (s t : State) → RowStart from s → Runs (StepsBy a coded) s (flat_map (row_events a.configuration) (range_with_len from count)) t → RowStart (from + count) t
  rows_closed from zero s t start f = subst (λ n. RowStart n t) (let same : from ≡ from + 0 = omega arith in same) (subst (RowStart from) (sym f) start)
  rows_closed from (suc count) s t start f =
      let c = a.configuration in
      let split = runs_split (StepsBy a coded) s t (row_events c from) (flat_map (row_events c) (range_with_len (from + 1) count)) f in
      let next : suc from ≡ from + 1 = omega arith in
      subst (λ n. RowStart n t) (let same : from + 1 + count ≡ from + suc count = omega arith in same)
      (rows_closed (from + 1) count split.0 t (subst (λ n. RowStart n split.0) next (row_closed from s split.0 start split.1)) split.2)

  all_closed : (t : State) → Decodes a coded t → RowStart (0 + a.configuration.rows) t
  all_closed t f = rows_closed 0 a.configuration.rows (at_first a.configuration) t first_start f

  pub known_whole : (t : State) → Decodes a coded t → (n : ℕ) → n < a.configuration.columns * a.configuration.rows → CodesRead a coded n (get_or t.done n unread) (lines_in a.configuration n)
  known_whole t f n inside =
      let turned : (0 + a.configuration.rows) * a.configuration.columns ≡ a.configuration.columns * a.configuration.rows = omega arith in
      (all_closed t f).above.whole n (rw turned inside)

  unread_total : (n : ℕ) → total (λ (q : Slice). length q.past) (replicate n unread) ≡ 0
  unread_total zero = refl
  unread_total (suc n) = let rest = unread_total n in omega (arith, rest)

  -- the sum over the slices by their numbers
  by_number : (pre qs : List Slice) → total (λ (q : Slice). length q.past) qs ≡ total (λ n. length (get_or (pre ++ qs) n unread).past) (range_with_len (length pre) (length qs))
  by_number pre [] = refl
  by_number pre (q ∷ qs) =
      let rest = by_number (pre ++ (q ∷ [])) qs in
      let longer : length (pre ++ (q ∷ [])) ≡ length pre + 1 = length-append pre (q ∷ []) in
      let same : (pre ++ (q ∷ [])) ++ qs ≡ pre ++ (q ∷ qs) = append_assoc pre (q ∷ []) qs in
      let here : get_or (pre ++ (q ∷ qs)) (length pre) unread ≡ q =
      ap (λ n. get_or (pre ++ (q ∷ qs)) n unread) (let none : length pre ≡ length pre + 0 = omega arith in none) ∙ get_or-append-add {A = Slice} pre (q ∷ qs) 0 unread in
      ap (λ n. length q.past + n) (rest
      ∙ ap (λ m. total (λ n. length (get_or ((pre ++ (q ∷ [])) ++ qs) n unread).past) (range_with_len m (length qs))) longer
      ∙ ap (λ xs. total (λ n. length (get_or xs n unread).past) (range_with_len (length pre + 1) (length qs))) same)
      ∙ ap (λ (z : Slice). length z.past + total (λ n. length (get_or (pre ++ (q ∷ qs)) n unread).past) (range_with_len (length pre + 1) (length qs))) (sym here)

  pub known_count : (t : State) → Decodes a coded t →
      decisions_in t ≡ sum_by (λ n. length (get_or t.done n unread).past) (range_with_len 0 (a.configuration.columns * a.configuration.rows))
  known_count t f =
      let c = a.configuration in
      let closed = all_closed t f in
      let turned : (0 + c.rows) * c.columns ≡ c.columns * c.rows = omega arith in
      let none : total (λ (q : Slice). length q.past) t.columns ≡ 0 = ap (λ qs. total (λ (q : Slice). length q.past) qs) closed.fresh ∙ unread_total c.columns in
      let split = total_append (λ (q : Slice). length q.past) t.done t.columns in
      let by : total (λ (q : Slice). length q.past) t.done ≡ total (λ n. length (get_or t.done n unread).past) (range_with_len 0 (c.columns * c.rows)) =
      by_number [] t.done ∙ ap (λ n. total (λ n. length (get_or t.done n unread).past) (range_with_len 0 n)) (closed.above.long ∙ turned) in
      sym (total_is (λ (q : Slice). length q.past) (t.done ++ t.columns))
      ∙ split ∙ ap (λ n. total (λ (q : Slice). length q.past) t.done + n) none
      ∙ (let same : total (λ (q : Slice). length q.past) t.done + 0 ≡ total (λ (q : Slice). length q.past) t.done = omega arith in same)
      ∙ by ∙ total_is (λ n. length (get_or t.done n unread).past) (range_with_len 0 (c.columns * c.rows))
