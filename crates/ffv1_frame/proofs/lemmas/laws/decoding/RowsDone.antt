-- What is known of each row of slices at the end of decoding.
use Rattle.std.proofs.Common.{◌≡◌, ◌≢◌, refl, ℕ, ℤ, zero, suc, ◌+◌, ◌-◌, ◌*◌, ◌^◌, ◌<◌, ◌≤◌, true, Option, Some, List, [], ◌∷◌, ◌++◌, map, length, get_or, replicate, inl, inr, ap, sym, subst, ◌∙◌, arith, append-nil, append_assoc, length-append, length-set, get_or-set_same, get_or-set_other}
use Rattle.std.specs.List.{flat_map, range_with_len}
use Rattle.std.proofs.lemmas.Bool.{cases_lt, cases_eq}
use Rattle.std.proofs.lemmas.Nat.{pow_pos}
use Rattle.std.proofs.lemmas.List.{length-replicate, get_or-replicate, get_or-append-add, get_or_past}
use Rattle.ffv1_wire.specs.Runs as wire
use Rattle.ffv1_plane.specs.Quantisation.{Set}
use Rattle.ffv1_line.specs.Cell.{Cell, cell_of}
use Rattle.ffv1_line.specs.Row.{AreSuiting}
use Rattle.ffv1_record.specs.Configuration.{Configuration, is_rct}
use Rattle.ffv1_record.specs.Accepted.{Accepted}
use Rattle.ffv1_slice.specs.declared.head.SliceHead.{SliceHead}
use Rattle.ffv1_slice.specs.Head.{CodesHead, key_steps, head_steps}
use Rattle.ffv1_frame.specs.Picture.{plane, plane_count}
use Rattle.ffv1_frame.specs.SliceList.{Line, Said, said_by, IsBody, bits_of}
use Rattle.ffv1_frame.specs.Order.{Event, row_events, series_events, series_of, lines_down}
use Rattle.ffv1_frame.specs.Order.Event.{Open, Read, Finish, Hand, Close}
use Rattle.ffv1_frame.specs.Runs.{Runs}
use Rattle.ffv1_frame.specs.Decoding.{State, Slice, StepsBy, AgreesWith, slice_at, slice_number, width_in, opened, unread}
use Rattle.ffv1_frame.proofs.lemmas.laws.decoding.Machines.{Each, runs_split}
use Rattle.ffv1_frame.proofs.lemmas.laws.decoding.LinesRead.{read_at, reads_of, row_lines, row_reads}
use Rattle.ffv1_frame.proofs.lemmas.laws.decoding.Groups.{groups_of, group_events, row_by_groups, groups_are, lines_by_groups}
use Rattle.ffv1_frame.proofs.lemmas.laws.decoding.ColumnSteps.{IsOfRow, ReadsNext, column_runs, columns_kept_along}
use Rattle.ffv1_frame.proofs.lemmas.laws.decoding.Agreed.{IsAgreed, row_keeps, groups_agreed}
use Rattle.ffv1_frame.proofs.lemmas.laws.decoding.SliceBodies.{CellLaws, HasRead, longer, plane_is, plane_put, plane_beside}
use Rattle.ffv1_frame.proofs.lemmas.laws.decoding.LinesMade.{MadeOf, goes_on, AllHave, have_more, row_made, groups_of_row}
use Rattle.ffv1_frame.specs.Overread.{IsWithin}
use Rattle.ffv1_frame.specs.RiceLines.{fresh_coder}
use Rattle.ffv1_record.specs.Accepted.{is_rice}
use Rattle.ffv1_frame.proofs.lemmas.laws.rice.BitBodies.{bits_none, after_none}
use Rattle.std.proofs.lemmas.Bool.{cases_Bool}

nothing_read : (c : Configuration) (h : SliceHead) (cell : ℕ → Cell) → IsBody c h cell [] []
unfolding IsBody
nothing_read c h cell = refl

module _ (a : Accepted) (coded : ℕ → List ℕ) (r : ℕ) where
  has_opened : (k : ℕ) (h : SliceHead) → CodesHead (coded (slice_number a.configuration r k)) a.table a.profile a.configuration (slice_number a.configuration r k) h →
      IsWithin a (coded (slice_number a.configuration r k)) (key_steps (slice_number a.configuration r k) ++ head_steps a.configuration (slice_number a.configuration r k) h) →
      HasRead a coded r k [] (opened a coded (slice_number a.configuration r k) h)
  has_opened k h codes within =
      let c = a.configuration in
      let n = slice_number c r k in
      record {
        is_head = codes.head;
        many = length-replicate {A = List ℕ} (plane_count c) [];
        are = tt;
        body = [];
        past = ap (λ z. key_steps n ++ z) (sym (append-nil (head_steps c n h)));
        is_body = record { range = λ is. nothing_read c h _; rice = λ is. refl };
        codes = codes.codes;
        within = within;
        bits = record { range = λ is. tt; rice = λ is. record { bits = sym (bits_none c h _ fresh_coder); coder = sym (after_none c h _ fresh_coder); begun = inl refl } };
        ending = λ front last parts is. let long = ap (λ (xs : List Line). length xs) parts in let sum = length-append front (last ∷ []) in absurd (omega (arith, long, sum));
      }

  -- what slices of the row say
  abbrev pub Says : State → ℕ → Type 0
  Says s k = s.info ≡ Some (said_by a.profile (slice_at s k).head)

  -- the slices from a column on are opened
  pub record Opened (from count : ℕ) (s t : State) : Type 0 where
    pub each : (k : ℕ) → from ≤ k → k < from + count → HasRead a coded r k [] (slice_at t k) × Says t k
    pub empty : (k : ℕ) → from ≤ k → k < from + count → (p : ℕ) → plane (slice_at t k).cells p ≡ []
    pub before : (k : ℕ) → k < from → slice_at t k ≡ slice_at s k
    pub behind : (k : ℕ) → from + count ≤ k → slice_at t k ≡ slice_at s k
    pub done : t.done ≡ s.done
    pub lines : t.lines ≡ s.lines
    pub long : length t.columns ≡ length s.columns
    pub info : (i : Said) → s.info ≡ Some i → t.info ≡ Some i

  agreed : (first : Option Said) (i said : Said) → first ≡ Some i → AgreesWith first said → Some said ≡ Some i
  agreed first i said is agrees = ap Some (subst (λ z. AgreesWith z said) is agrees)

  pub empty_cells : (count p : ℕ) → plane (replicate count []) p ≡ []
  empty_cells count p = plane_is (replicate count []) p ∙ elim (cases_lt p count) [
    | inl inside ↦ get_or-replicate {A = List ℕ} count p [] [] inside
    | inr past ↦ get_or_past {X = List ℕ} (replicate count []) p [] (rw (length-replicate {A = List ℕ} count []) (omega (arith, past)))
  ]

  pub opens : (from count : ℕ) (s t : State) → from + count ≤ length s.columns → Runs (StepsBy a coded) s (map (Open r) (range_with_len from count)) t → Opened from count s t
  opens from zero s t fits f = record {
    each = λ k least most. absurd (omega (arith, least, most));
    empty = λ k least most. absurd (omega (arith, least, most));
    before = λ k h. ap (λ z. slice_at z k) f;
    behind = λ k h. ap (λ z. slice_at z k) f;
    done = ap (λ (z : State). z.done) f;
    lines = ap (λ (z : State). z.lines) f;
    long = ap (λ (z : State). length z.columns) f;
    info = λ i is. ap (λ (z : State). z.info) f ∙ is;
  }
  opens from (suc count) s t fits f =
      let m = f.0 in
      let h = f.1.0 in
      let n = slice_number a.configuration r from in
      let q = opened a coded n h in
      let inside : from < length s.columns = omega (arith, fits) in
      let m_long : length m.columns ≡ length s.columns = ap (λ (z : State). length z.columns) f.1.3 ∙ length-set s.columns from q in
      let rest = opens (from + 1) count m t (omega (arith, fits, m_long)) f.2 in
      let here : slice_at t from ≡ q = rest.before from (omega arith) ∙ ap (λ z. slice_at z from) f.1.3 ∙ get_or-set_same s.columns from q unread inside in
      let m_info : m.info ≡ Some (said_by a.profile h) = ap (λ (z : State). z.info) f.1.3 in
      let t_info : t.info ≡ Some (said_by a.profile h) = rest.info (said_by a.profile h) m_info in
      record {
        each = λ k least most. elim (cases_eq k from) [
          | inl same ↦
              subst (λ j. HasRead a coded r j [] (slice_at t j) × Says t j) (sym same)
              (subst (HasRead a coded r from []) (sym here) (has_opened from h f.1.1 f.1.4), t_info ∙ ap (λ (z : Slice). Some (said_by a.profile z.head)) (sym here))
          | inr other ↦ rest.each k (omega (arith, least, other)) (omega (arith, most))
        ];
        empty = λ k least most. elim (cases_eq k from) [
          | inl same ↦ λ p. ap (λ j. plane (slice_at t j).cells p) same ∙ ap (λ (z : Slice). plane z.cells p) here ∙ empty_cells (plane_count a.configuration) p
          | inr other ↦ rest.empty k (omega (arith, least, other)) (omega (arith, most))
        ];
        before = λ k below.
            let other : k ≢ from = omega (arith, below) in
            rest.before k (omega (arith, below)) ∙ ap (λ z. slice_at z k) f.1.3 ∙ get_or-set_other s.columns from k q unread other;
        behind = λ k above.
            let other : k ≢ from = omega (arith, above) in
            rest.behind k (omega (arith, above)) ∙ ap (λ z. slice_at z k) f.1.3 ∙ get_or-set_other s.columns from k q unread other;
        done = rest.done ∙ ap (λ (z : State). z.done) f.1.3;
        lines = rest.lines ∙ ap (λ (z : State). z.lines) f.1.3;
        long = rest.long ∙ m_long;
        info = λ i is. t_info ∙ agreed s.info i (said_by a.profile h) is f.1.2;
      }

  pub info_kept : (es : List Event) (s t : State) → Each (IsOfRow a.configuration r) es → Runs (StepsBy a coded) s es t → t.info ≡ s.info
  info_kept [] s t all f = ap (λ (z : State). z.info) f
  info_kept (Open j k ∷ es) s t all f = absurd all.0
  info_kept (Read j k p y ∷ es) s t all f = info_kept es f.0 t all.1 f.2 ∙ ap (λ (z : State). z.info) f.1.3
  info_kept (Finish j planes y ∷ es) s t all f = info_kept es f.0 t all.1 f.2 ∙ ap (λ (z : State). z.info) f.1.2
  info_kept (Hand j i p y ∷ es) s t all f = info_kept es f.0 t all.1 f.2 ∙ ap (λ (z : State). z.info) f.1
  info_kept (Close ∷ es) s t all f = absurd all.0

-- the law of samples that residuals suit
abbrev pub SuitsFew : Type 0
SuitsFew = (set : Set) (bits : ℕ) (c : Cell) (y x : ℕ) (qs : List ℤ) → AreSuiting set bits c y 0 qs → x < length qs → x < c.width → c.at x y < 2 ^ bits

module _ (a : Accepted) (coded : ℕ → List ℕ) (r k : ℕ) (few : SuitsFew) where
  -- the samples that were read have few bits
  pub record AreSmall (ls : List Line) (q : Slice) : Type 0 where
    pub many : length q.cells ≡ plane_count a.configuration
    pub each : (p i : ℕ) → get_or (plane q.cells p) i 0 < 2 ^ bits_of a.configuration

  small_row : (e : Event) (q t : Slice) (next : ReadsNext a coded r k e q t) (i : ℕ) → get_or next.row i 0 < 2 ^ bits_of a.configuration
  small_row e q t next i =
      let width = width_in a.configuration next.p k in
      let samples = plane q.cells next.p in
      elim (cases_lt i width) [
        | inl inside ↦ elim (cases_Bool (is_rice a.configuration.coder)) [
          | inl is ↦ (next.reads.codes.rice is).codes.samples.each i (rw next.reads.row_long inside)
          | inr is ↦
              let here : get_or (samples ++ next.row) (next.y * width + i) 0 ≡ get_or next.row i 0 =
              ap (λ n. get_or (samples ++ next.row) (n + i) 0) (sym next.reads.above) ∙ get_or-append-add samples next.row i 0 in
              subst (λ s. s < 2 ^ bits_of a.configuration) here
              (few _ (bits_of a.configuration) (cell_of width (samples ++ next.row)) next.y i next.qs (next.reads.codes.range is).suits (rw (next.reads.long.range is) inside) inside)
        ]
        | inr past ↦
            let none : get_or next.row i 0 ≡ 0 = get_or_past {X = ℕ} next.row i 0 (rw next.reads.row_long (omega (arith, past))) in
            rw none (pow_pos (bits_of a.configuration))
      ]

  small_joined : (bound i : ℕ) (xs ys : List ℕ) → ((j : ℕ) → get_or xs j 0 < bound) → ((j : ℕ) → get_or ys j 0 < bound) → get_or (xs ++ ys) i 0 < bound
  small_joined bound i [] ys f g = g i
  small_joined bound zero (x ∷ xs) ys f g = f 0
  small_joined bound (suc i) (x ∷ xs) ys f g = small_joined bound i xs ys (λ j. f (suc j)) g

  small_more : (ls : List Line) (q t : Slice) (e : Event) → AreSmall ls q → ReadsNext a coded r k e q t → AreSmall (ls ++ read_at k e) t
  small_more ls q t e small next =
      let more = longer a coded r k e q t small.many next in
      let p = next.p in
      let here : p < length q.cells = rw small.many next.inside in
      record {
        many = more.many ∙ small.many;
        each = λ j i. elim (cases_eq j p) [
          | inl same ↦
              let now : plane t.cells j ≡ plane q.cells p ++ next.row =
              ap (λ n. plane t.cells n) same ∙ ap (λ (z : Slice). plane z.cells p) next.behind ∙ plane_put q.cells p (plane q.cells p ++ next.row) here in
              subst (λ xs. get_or xs i 0 < 2 ^ bits_of a.configuration) (sym now)
              (small_joined (2 ^ bits_of a.configuration) i (plane q.cells p) next.row (small.each p) (small_row e q t next))
          | inr other ↦
              let now : plane t.cells j ≡ plane q.cells j =
              ap (λ (z : Slice). plane z.cells j) next.behind ∙ plane_beside q.cells p j (plane q.cells p ++ next.row) other in
              subst (λ xs. get_or xs i 0 < 2 ^ bits_of a.configuration) (sym now) (small.each j i)
        ];
      }

  pub small_along : (es : List Event) (s t : State) → Each (IsOfRow a.configuration r) es → k < length s.columns → length (slice_at s k).cells ≡ plane_count a.configuration →
      ((p : ℕ) → plane (slice_at s k).cells p ≡ []) → Runs (StepsBy a coded) s es t → (p i : ℕ) → get_or (plane (slice_at t k).cells p) i 0 < 2 ^ bits_of a.configuration
  small_along es s t all inside many empty f =
      let none : (p i : ℕ) → get_or (plane (slice_at s k).cells p) i 0 < 2 ^ bits_of a.configuration =
      λ p i. subst (λ xs. get_or xs i 0 < 2 ^ bits_of a.configuration) (sym (empty p)) (pow_pos (bits_of a.configuration)) in
      (column_runs a coded r k AreSmall small_more es [] s t all inside f (record { many = many; each = none })).each

module _ (a : Accepted) (coded : ℕ → List ℕ) (laws : CellLaws) (few : SuitsFew) (some : (p k : ℕ) → k < a.configuration.columns → 0 < width_in a.configuration p k)
    (same : is_rct a.configuration.colour ≡ true → (p r : ℕ) → lines_down a.configuration p r ≡ lines_down a.configuration 0 r) where
  -- what a row of slices has read, what it says, and the lines that were made of it
  pub record RowPart (r : ℕ) (info : Option Said) (ls : List wire.Line) : Type 0 where
    pub state : State
    pub slice : ℕ → Slice
    pub is : (k : ℕ) → slice k ≡ slice_at state k
    pub agreed : (k : ℕ) → k < a.configuration.columns → Each (IsAgreed a coded r state k) (row_lines a.configuration r)
    pub done : (k : ℕ) → k < a.configuration.columns → HasRead a coded r k (row_lines a.configuration r) (slice k)
    pub says : (k : ℕ) → k < a.configuration.columns → info ≡ Some (said_by a.profile (slice k).head)
    pub small : (k p i : ℕ) → k < a.configuration.columns → get_or (plane (slice k).cells p) i 0 < 2 ^ bits_of a.configuration
    pub made : MadeOf a.configuration r slice (groups_of a.configuration r) ls

  pub record RowDone (r : ℕ) (s t : State) : Type 0 where
    pub lines : List wire.Line
    pub part : RowPart r t.info lines
    pub state : State
    pub stands : part.state ≡ state
    pub above : state.done ≡ s.done
    pub closed : t.done ≡ s.done ++ state.columns
    pub wide : length state.columns ≡ a.configuration.columns
    pub behind : t.lines ≡ s.lines ++ lines
    pub info : (i : Said) → s.info ≡ Some i → t.info ≡ Some i
    pub columns : t.columns ≡ replicate a.configuration.columns unread

  pub row_done : (r : ℕ) (s t : State) → s.columns ≡ replicate a.configuration.columns unread → Runs (StepsBy a coded) s (row_events a.configuration r) t → RowDone r s t
  row_done r s t fresh f =
      let c = a.configuration in
      let long : length s.columns ≡ c.columns = ap (λ qs. length qs) fresh ∙ length-replicate {A = Slice} c.columns unread in
      let parts = runs_split (StepsBy a coded) s t (map (Open r) (range_with_len 0 c.columns)) (flat_map (series_events c r) (series_of c r) ++ (Close ∷ [])) f in
      let o = parts.0 in
      let opened = opens a coded r 0 c.columns s o (omega (arith, long)) parts.1 in
      let later = runs_split (StepsBy a coded) o t (flat_map (series_events c r) (series_of c r)) (Close ∷ []) parts.2 in
      let e = later.0 in
      let close : t ≡ record e { done = e.done ++ e.columns; columns = replicate c.columns unread } = later.2.2 ∙ later.2.1 in
      let events = flat_map (group_events c r) (groups_of c r) in
      let groups = groups_are c r (λ rct p. same rct p r) in
      let all = groups_of_row c r (groups_of c r) groups in
      let run : Runs (StepsBy a coded) o events e = subst (λ es. Runs (StepsBy a coded) o es e) (row_by_groups c r) later.1 in
      let o_long : length o.columns ≡ c.columns = opened.long ∙ long in
      let have : AllHave a coded r laws some [] o = λ k inside. (opened.each k (omega arith) (omega (arith, inside))).0 in
      let made = row_made a coded r laws some (groups_of c r) [] o e groups o_long have run in
      let e_done : e.done ≡ s.done = row_keeps a coded r events o e all run ∙ opened.done in
      let e_long : length e.columns ≡ c.columns = columns_kept_along a coded r events o e all run ∙ o_long in
      let info : e.info ≡ o.info = info_kept a coded r events o e all run in
      let t_info : t.info ≡ o.info = ap (λ (z : State). z.info) close ∙ info in
      record {
        lines = made.lines;
        state = e;
        stands = refl;
        above = e_done;
        closed = ap (λ (z : State). z.done) close ∙ ap (λ qs. qs ++ e.columns) e_done;
        wide = e_long;
        part = record {
          state = e;
          slice = slice_at e;
          is = λ k. refl;
          agreed = λ k inside. subst (Each (IsAgreed a coded r e k)) (sym (lines_by_groups c r)) (groups_agreed a coded r some (groups_of c r) o e groups o_long (λ k inside. (have k inside).many) run k inside);
          done = λ k inside.
              subst (λ ls. HasRead a coded r k ls (slice_at e k)) (ap (reads_of k) (sym (row_by_groups c r)) ∙ row_reads c r k inside)
              (have_more a coded r laws some events [] o e all o_long run have k inside);
          says = λ k inside.
              let heads : (slice_at e k).head ≡ (slice_at o k).head = (goes_on a coded r k events o e all (rw o_long inside) (have k inside).many run).head in
              t_info ∙ (opened.each k (omega arith) (omega (arith, inside))).1 ∙ ap (λ h. Some (said_by a.profile h)) (sym heads);
          small = λ k p i inside.
              small_along a coded r k few events o e all (rw o_long inside) (have k inside).many (opened.empty k (omega arith) (omega (arith, inside))) run p i;
          made = made.made;
        };
        behind = ap (λ (z : State). z.lines) close ∙ made.behind ∙ ap (λ ls. ls ++ made.lines) opened.lines;
        info = λ i is. t_info ∙ opened.info i is;
        columns = ap (λ (z : State). z.columns) close;
      }

  -- the parts of some rows, one after the other
  -- and the slices of each row are those above the next one
  abbrev pub IsBelow : (ℕ → Slice) → ℕ → State → Type 0
  IsBelow before r s = (k : ℕ) → 0 < r → k < a.configuration.columns → get_or s.done (slice_number a.configuration (r - 1) k) unread ≡ before k

  abbrev pub AllRows : Option Said → (ℕ → Slice) → List ℕ → List wire.Line → Type 0
  AllRows info before [] ls = ls ≡ []
  AllRows info before (r ∷ rs) ls =
      (first : List wire.Line) × (more : List wire.Line) × (part : RowPart r info first) × AllRows info part.slice rs more × (ls ≡ first ++ more) × IsBelow before r part.state

  pub record AllDone (before : ℕ → Slice) (from count : ℕ) (s t : State) : Type 0 where
    pub lines : List wire.Line
    pub parts : AllRows t.info before (range_with_len from count) lines
    pub behind : t.lines ≡ s.lines ++ lines
    pub info : (i : Said) → s.info ≡ Some i → t.info ≡ Some i

  pub all_done : 0 < a.configuration.columns → (before : ℕ → Slice) (from count : ℕ) (s t : State) → s.columns ≡ replicate a.configuration.columns unread →
      length s.done ≡ from * a.configuration.columns → IsBelow before from s →
      Runs (StepsBy a coded) s (flat_map (row_events a.configuration) (range_with_len from count)) t → AllDone before from count s t
  all_done any before from zero s t fresh deep below f = record {
    lines = [];
    parts = refl;
    behind = ap (λ (z : State). z.lines) f ∙ sym (append-nil s.lines);
    info = λ i is. ap (λ (z : State). z.info) f ∙ is;
  }
  all_done any before from (suc count) s t fresh deep below f =
      let c = a.configuration in
      let parts = runs_split (StepsBy a coded) s t (row_events c from) (flat_map (row_events c) (range_with_len (from + 1) count)) f in
      let m = parts.0 in
      let first = row_done from s m fresh parts.1 in
      let e = first.state in
      let last : from + 1 - 1 ≡ from = omega arith in
      let m_deep : length m.done ≡ (from + 1) * c.columns =
      let long = ap (λ (qs : List Slice). length qs) first.closed ∙ length-append s.done e.columns in
      let row = first.wide in
      let next : (from + 1) * c.columns ≡ from * c.columns + c.columns = omega arith in
      omega (arith, long, deep, row, next) in
      let m_below : IsBelow first.part.slice (from + 1) m = λ k some inside.
      ap (λ n. get_or m.done (slice_number c n k) unread) last
      ∙ ap (λ qs. get_or qs (from * c.columns + k) unread) first.closed
      ∙ ap (λ n. get_or (s.done ++ e.columns) (n + k) unread) (sym deep)
      ∙ get_or-append-add {A = Slice} s.done e.columns k unread
      ∙ sym (first.part.is k ∙ ap (λ z. slice_at z k) first.stands) in
      let rest = all_done any first.part.slice (from + 1) count m t first.columns m_deep m_below parts.2 in
      record {
        lines = first.lines ++ rest.lines;
        parts = (
          first.lines,
          rest.lines,
          record {
            state = first.part.state;
            slice = first.part.slice;
            is = first.part.is;
            agreed = first.part.agreed;
            done = first.part.done;
            says = λ k inside. rest.info (said_by a.profile (first.part.slice k).head) (first.part.says k inside);
            small = first.part.small;
            made = first.part.made;
          },
          rest.parts,
          refl,
          λ k some inside. ap (λ (z : State). get_or z.done (slice_number c (from - 1) k) unread) first.stands ∙ ap (λ qs. get_or qs (slice_number c (from - 1) k) unread) first.above ∙ below k some inside,
        );
        behind = rest.behind ∙ ap (λ ls. ls ++ rest.lines) first.behind ∙ append_assoc s.lines first.lines rest.lines;
        info = λ i is. rest.info i (first.info i is);
      }
