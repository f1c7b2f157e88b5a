-- Few decisions are made in a frame, however far decoding has come.
use Rattle.std.proofs.Common.{◌≡◌, ◌≢◌, refl, ℕ, ℤ, zero, suc, ◌+◌, ◌-◌, ◌<◌, ◌≤◌, true, Option, List, [], ◌∷◌, ◌++◌, map, length, get_or, replicate, inl, inr, ap, sym, subst, ◌∙◌, arith, length-set, get_or-set_same, get_or-set_other}
use Rattle.std.specs.List.{flat_map, range_with_len}
use Rattle.std.proofs.lemmas.Bool.{cases_lt, cases_eq, cases_Bool}
use Rattle.ffv1_record.specs.Accepted.{is_rice}
use Rattle.std.proofs.lemmas.List.{length-replicate}
use Rattle.ffv1_range.specs.Symbols.{Step}
use Rattle.ffv1_record.specs.Configuration.{Configuration, is_rct}
use Rattle.ffv1_record.specs.Accepted.{Accepted}
use Rattle.ffv1_slice.specs.declared.head.SliceHead.{SliceHead}
use Rattle.ffv1_slice.specs.Head.{CodesHead, key_steps, head_steps}
use Rattle.ffv1_frame.specs.declared.fault.CodecFault.{CodecFault}
use Rattle.ffv1_frame.specs.declared.fault.FrameFault.{FrameFault}
use Rattle.ffv1_frame.specs.Overread.{IsWithin}
use Rattle.ffv1_frame.specs.Picture.{plane_count}
use Rattle.ffv1_frame.specs.SliceList.{Said}
use Rattle.ffv1_frame.specs.Order.{Event, events_of, row_events, series_events, series_of, column_events, hand_events, new_planes, numbered, lines_down}
use Rattle.ffv1_frame.specs.Order.Event.{Open, Read, Finish, Hand, Close}
use Rattle.ffv1_frame.specs.Runs.{Runs}
use Rattle.ffv1_frame.specs.Answer.{decisions_in}
use Rattle.ffv1_frame.specs.Decoding.{State, Slice, StepsBy, FaultsWith, RefusesOpen, ReadsLine, StopsInLine, at_first, slice_at, slice_number, put_slice, width_in, after_line, after_steps, steps_of_line, steps_of_stop, opened, decided_in, unread}
use Rattle.ffv1_frame.proofs.lemmas.laws.decoding.Machines.{Each, each_append, each_range, each_map, each_flat, runs_split, Reaches, reaches_split}
use Rattle.ffv1_frame.proofs.lemmas.laws.decoding.Groups.{Group, IsGroup, groups_of, group_events, groups_are, row_by_groups}
use Rattle.ffv1_frame.proofs.lemmas.picture.Keys.{range_join}
use Rattle.ffv1_frame.proofs.lemmas.Totals.{total, total_is, total_append, total_below}

-- an event of the lines of row r
abbrev pub IsInLines : Configuration → ℕ → Event → Type 0
IsInLines c r (Open j k) = ⊥
IsInLines c r (Read j k p y) = (j ≡ r) × (k < c.columns) × (p < plane_count c) × (y < lines_down c p r)
IsInLines c r (Finish j planes y) = Unit {0}
IsInLines c r (Hand j i p y) = Unit {0}
IsInLines c r Close = ⊥

column_in_lines : (c : Configuration) (r k y : ℕ) (planes : List ℕ) → k < c.columns → Each (λ p. p < plane_count c) planes → Each (λ p. y < lines_down c p r) planes → Each (IsInLines c r) (column_events r planes y k)
column_in_lines c r k y [] here inside below = tt
column_in_lines c r k y (p ∷ planes) here inside below = ((refl, here, inside.0, below.0), column_in_lines c r k y planes here inside.1 below.1)

group_in_lines : (c : Configuration) (r : ℕ) (g : Group) → IsGroup c r g → Each (IsInLines c r) (group_events c r g)
group_in_lines c r g is =
    each_append (IsInLines c r) (flat_map (column_events r g.planes g.y) (range_with_len 0 c.columns)) (Finish r g.planes g.y ∷ hand_events r (new_planes c r g.planes g.y) g.y)
    (each_range (IsInLines c r) (column_events r g.planes g.y) 0 c.columns (λ k least most. column_in_lines c r k g.y g.planes (omega (arith, most)) is.inside is.down))
    (tt, each_map (IsInLines c r) (λ (ip : ℕ × ℕ). Hand r ip.0 ip.1 g.y) (numbered 0 (new_planes c r g.planes g.y)) (λ ip. tt))

lines_in_lines : (c : Configuration) (r : ℕ) → (is_rct c.colour ≡ true → (p : ℕ) → lines_down c p r ≡ lines_down c 0 r) → Each (IsInLines c r) (flat_map (series_events c r) (series_of c r))
lines_in_lines c r same =
    subst (Each (IsInLines c r)) (sym (row_by_groups c r))
    (each_flat (IsInLines c r) (IsGroup c r) (group_events c r) (groups_of c r) (groups_are c r same) (group_in_lines c r))

-- what bounds the decisions of the slice in row r and column k: what holds of it between two
-- events, and how many there are then, and when an event of it is refused
pub record SliceLaws (a : Accepted) (coded : ℕ → List ℕ) (most : ℕ → ℕ → ℕ) (Has : ℕ → ℕ → Slice → Type 0) : Type 0 where
  pub few : (r k : ℕ) (q : Slice) → Has r k q → length q.past ≤ most r k
  pub opened : (r k : ℕ) (h : SliceHead) → r < a.configuration.rows → k < a.configuration.columns →
      CodesHead (coded (slice_number a.configuration r k)) a.table a.profile a.configuration (slice_number a.configuration r k) h →
      IsWithin a (coded (slice_number a.configuration r k)) (key_steps (slice_number a.configuration r k) ++ head_steps a.configuration (slice_number a.configuration r k) h) →
      Has r k (opened a coded (slice_number a.configuration r k) h)
  pub closed : (r k : ℕ) (info : Option Said) (f : CodecFault) (steps : List Step) → r < a.configuration.rows → k < a.configuration.columns →
      RefusesOpen a coded info (slice_number a.configuration r k) f steps → length steps ≤ most r k
  pub read : (r k p y : ℕ) (q : Slice) (qs : List ℤ) (row : List ℕ) → k < a.configuration.columns → p < plane_count a.configuration → y < lines_down a.configuration p r → Has r k q →
      ReadsLine a coded (slice_number a.configuration r k) p (width_in a.configuration p k) y q qs row →
      IsWithin a (coded (slice_number a.configuration r k)) (q.past ++ steps_of_line a coded q p (width_in a.configuration p k) y qs row) →
      Has r k (after_line a coded q p (width_in a.configuration p k) y qs row)
  pub overread : (r k p y : ℕ) (q : Slice) (qs : List ℤ) (row : List ℕ) → k < a.configuration.columns → p < plane_count a.configuration → y < lines_down a.configuration p r → Has r k q →
      ReadsLine a coded (slice_number a.configuration r k) p (width_in a.configuration p k) y q qs row →
      length (q.past ++ steps_of_line a coded q p (width_in a.configuration p k) y qs row) ≤ most r k
  pub stopped : (r k p y : ℕ) (q : Slice) (qs : List ℤ) (row : List ℕ) → k < a.configuration.columns → p < plane_count a.configuration → y < lines_down a.configuration p r → Has r k q →
      StopsInLine a coded (slice_number a.configuration r k) p (width_in a.configuration p k) y q qs row →
      length (q.past ++ steps_of_stop a coded q p (width_in a.configuration p k) y qs row) ≤ most r k

module _ (a : Accepted) (coded : ℕ → List ℕ) (slice_most : ℕ → ℕ → ℕ) (Has : ℕ → ℕ → Slice → Type 0) (laws : SliceLaws a coded slice_most Has) where
  -- the bounds of the slices of a row, and of those of some rows
  abbrev pub row_most : ℕ → ℕ
  row_most r = total (slice_most r) (range_with_len 0 a.configuration.columns)

  abbrev pub rows_most : ℕ → ℕ
  rows_most r = total row_most (range_with_len 0 r)

  rows_more : (r more : ℕ) → rows_most (r + more) ≡ rows_most r + total row_most (range_with_len r more)
  rows_more r more =
      ap (total row_most) (sym (range_join 0 r more)) ∙ total_append row_most (range_with_len 0 r) (range_with_len (0 + r) more)
      ∙ ap (λ n. rows_most r + total row_most (range_with_len n more)) (let here : 0 + r ≡ r = omega arith in here)

  next_row : (r : ℕ) → rows_most (suc r) ≡ rows_most r + row_most r
  next_row r =
      ap rows_most (let one : suc r ≡ r + 1 = omega arith in one) ∙ rows_more r 1 ∙ (let none : rows_most r + (row_most r + 0) ≡ rows_most r + row_most r = omega arith in none)

  fewer_rows : (r : ℕ) → r ≤ a.configuration.rows → rows_most r ≤ rows_most a.configuration.rows
  fewer_rows r less =
      let rest = rows_more r (a.configuration.rows - r) in
      let whole : rows_most (r + (a.configuration.rows - r)) ≡ rows_most a.configuration.rows = ap rows_most (let same : r + (a.configuration.rows - r) ≡ a.configuration.rows = omega (arith, less) in same) in
      omega (arith, rest, whole)

  -- few decisions were made
  pub record Bounded (t : State) : Type 0 where
    pub few : total (λ (q : Slice). length q.past) t.done + total (λ (q : Slice). length q.past) t.columns ≤ rows_most a.configuration.rows

  -- in the rows above row r
  record Settled (r : ℕ) (s : State) : Type 0 where
    pub done : total (λ (q : Slice). length q.past) s.done ≤ rows_most r
    pub long : length s.columns ≡ a.configuration.columns

  bounded : (r : ℕ) (t : State) → r < a.configuration.rows → Settled r t → ((k : ℕ) → k < a.configuration.columns → length (slice_at t k).past ≤ slice_most r k) → Bounded t
  bounded r t inside settled each =
      let above = settled.done in
      let row = total_below (λ (q : Slice). length q.past) unread (slice_most r) 0 t.columns (λ k less.
      let here = each k (subst (λ n. k < n) settled.long less) in
      let place : slice_most r k ≡ slice_most r (0 + k) = ap (slice_most r) (let same : k ≡ 0 + k = omega arith in same) in
      omega (arith, here, place)) in
      let wide : total (slice_most r) (range_with_len 0 (length t.columns)) ≡ row_most r = ap (λ n. total (slice_most r) (range_with_len 0 n)) settled.long in
      let next = next_row r in
      let all = fewer_rows (suc r) inside in
      record { few = omega (arith, above, row, wide, next, all) }

  -- the lines of a row
  module _ (r : ℕ) (r_inside : r < a.configuration.rows) where
    abbrev pub AllFew : State → Type 0
    AllFew s = (k : ℕ) → k < a.configuration.columns → Has r k (slice_at s k)

    record Line (s : State) : Type 0 where
      pub settled : Settled r s
      pub few : AllFew s

    line_bounded : (s : State) → Line s → Bounded s
    line_bounded s l = bounded r s r_inside l.settled (λ k inside. laws.few r k (slice_at s k) (l.few k inside))

    line_same : (s t : State) → t.done ≡ s.done → t.columns ≡ s.columns → Line s → Line t
    line_same s t done columns l = record {
      settled = record {
        done = subst (λ qs. total (λ (q : Slice). length q.past) qs ≤ rows_most r) (sym done) l.settled.done;
        long = ap (λ qs. length qs) columns ∙ l.settled.long;
      };
      few = λ k inside. subst (Has r k) (ap (λ qs. get_or qs k unread) (sym columns)) (l.few k inside);
    }

    line_step : (s m : State) (e : Event) → IsInLines a.configuration r e → Line s → StepsBy a coded s e m → Line m
    line_step s m (Open j k) kind l f = absurd kind
    line_step s m (Read j i p y) kind l f =
        let c = a.configuration in
        let g = subst (λ z. StepsBy a coded s (Read z i p y) m) kind.0 f in
        let q = slice_at s i in
        let next = after_line a coded q p (width_in c p i) y g.0 g.1 in
        let place : i < length s.columns = rw l.settled.long kind.1 in
        record {
          settled = record {
            done = subst (λ (z : State). total (λ (q : Slice). length q.past) z.done ≤ rows_most r) (sym g.3) l.settled.done;
            long = ap (λ (z : State). length z.columns) g.3 ∙ length-set s.columns i next ∙ l.settled.long;
          };
          few = λ k inside. elim (cases_eq k i) [
            | inl same ↦
                let now : slice_at m i ≡ next = ap (λ z. slice_at z i) g.3 ∙ get_or-set_same s.columns i next unread place in
                subst (λ j. Has r j (slice_at m j)) (sym same)
                (subst (Has r i) (sym now) (laws.read r i p y q g.0 g.1 kind.1 kind.2 kind.3 (l.few i kind.1) g.2 g.4))
            | inr other ↦
                let now : slice_at m k ≡ slice_at s k = ap (λ z. slice_at z k) g.3 ∙ get_or-set_other s.columns i k next unread other in
                subst (Has r k) (sym now) (l.few k inside)
          ];
        }
    line_step s m (Finish j planes y) kind l f = line_same s m (ap (λ (z : State). z.done) f.2) (ap (λ (z : State). z.columns) f.2) l
    line_step s m (Hand j i p y) kind l f = line_same s m (ap (λ (z : State). z.done) f) (ap (λ (z : State). z.columns) f) l
    line_step s m Close kind l f = absurd kind

    -- one slice has another past
    refused_at : (s t : State) (i : ℕ) (next : Slice) → i < a.configuration.columns → Line s → t ≡ put_slice s i next → length next.past ≤ slice_most r i → Bounded t
    refused_at s t i next inside l is few =
        let place : i < length s.columns = rw l.settled.long inside in
        bounded r t r_inside
        (record {
          done = subst (λ (z : State). total (λ (q : Slice). length q.past) z.done ≤ rows_most r) (sym is) l.settled.done;
          long = ap (λ (z : State). length z.columns) is ∙ length-set s.columns i next ∙ l.settled.long;
        })
        (λ k here. elim (cases_eq k i) [
          | inl same ↦
              let now : slice_at t i ≡ next = ap (λ z. slice_at z i) is ∙ get_or-set_same s.columns i next unread place in
              subst (λ j. length (slice_at t j).past ≤ slice_most r j) (sym same) (subst (λ (z : Slice). length z.past ≤ slice_most r i) (sym now) few)
          | inr other ↦
              let now : slice_at t k ≡ slice_at s k = ap (λ z. slice_at z k) is ∙ get_or-set_other s.columns i k next unread other in
              subst (λ (z : Slice). length z.past ≤ slice_most r k) (sym now) (laws.few r k (slice_at s k) (l.few k here))
        ])

    line_fault : (s t : State) (e : Event) (f : FrameFault) → IsInLines a.configuration r e → Line s → FaultsWith a coded s e f t → Bounded t
    line_fault s t (Open j k) f kind l h = absurd kind
    line_fault s t (Read j i p y) f kind l h =
        let c = a.configuration in
        let q = slice_at s i in
        elim (subst (λ z. FaultsWith a coded s (Read z i p y) f t) kind.0 h) [
          | inl stop ↦ elim (cases_Bool (is_rice c.coder)) [
            | inl is ↦
                let same = (stop.rice is).5 in
                line_bounded t (line_same s t (ap (λ (z : State). z.done) same) (ap (λ (z : State). z.columns) same) l)
            | inr is ↦
                let h = stop.range is in
                let next = after_steps q (steps_of_stop a coded q p (width_in c p i) y h.0 h.1) in
                refused_at s t i next kind.1 l h.4 (laws.stopped r i p y q h.0 h.1 kind.1 kind.2 kind.3 (l.few i kind.1) h.2)
          ]
          | inr looked ↦ elim looked [
            | inl over ↦
                let next = after_line a coded q p (width_in c p i) y over.0 over.1 in
                refused_at s t i next kind.1 l over.4 (laws.overread r i p y q over.0 over.1 kind.1 kind.2 kind.3 (l.few i kind.1) over.2)
            | inr later ↦ elim later [
              | inl late ↦
                  let next = after_line a coded q p (width_in c p i) y late.0 late.1 in
                  refused_at s t i next kind.1 l late.4 (laws.overread r i p y q late.0 late.1 kind.1 kind.2 kind.3 (l.few i kind.1) late.2)
              | inr differs ↦
                  let next = after_line a coded q p (width_in c p i) y differs.0 differs.1 in
                  refused_at s t i next kind.1 l differs.5 (laws.overread r i p y q differs.0 differs.1 kind.1 kind.2 kind.3 (l.few i kind.1) differs.3)
            ]
          ]
        ]
    line_fault s t (Finish j planes y) f kind l h = line_bounded t (line_same s t (ap (λ (z : State). z.done) h.5) (ap (λ (z : State). z.columns) h.5) l)
    line_fault s t (Hand j i p y) f kind l h = absurd h
    line_fault s t Close f kind l h = absurd kind

    lines_run : (es : List Event) (s t : State) → Each (IsInLines a.configuration r) es → Line s → Runs (StepsBy a coded) s es t → Line t
    lines_run [] s t all l f = subst Line (sym f) l
    lines_run (e ∷ es) s t all l f = lines_run es f.0 t all.1 (line_step s f.0 e all.0 l f.1) f.2

    lines_reached : (es : List Event) (s t : State) → Each (IsInLines a.configuration r) es → Line s → Reaches (StepsBy a coded) (FaultsWith a coded) s es t → Bounded t
    lines_reached [] s t all l h = subst Bounded (sym h) (line_bounded s l)
    lines_reached (e ∷ es) s t all l h = elim h [
      | inl here ↦ subst Bounded (sym here) (line_bounded s l)
      | inr more ↦ elim more [
        | inl refused ↦ line_fault s t e refused.0 all.0 l refused.1
        | inr later ↦ lines_reached es later.0 t all.1 (line_step s later.0 e all.0 l later.1) later.2
      ]
    ]

    -- the slices of the row before column from are open
    record OpenTo (from : ℕ) (s : State) : Type 0 where
      pub settled : Settled r s
      pub few : (k : ℕ) → k < from → Has r k (slice_at s k)
      pub fresh : (k : ℕ) → from ≤ k → slice_at s k ≡ unread

    open_each : (from : ℕ) (s : State) → OpenTo from s → (k : ℕ) → length (slice_at s k).past ≤ slice_most r k
    open_each from s o k = elim (cases_lt k from) [
      | inl below ↦ laws.few r k (slice_at s k) (o.few k below)
      | inr above ↦ subst (λ (z : Slice). length z.past ≤ slice_most r k) (sym (o.fresh k (omega (arith, above)))) (omega arith)
    ]

    open_bounded : (from : ℕ) (s : State) → OpenTo from s → Bounded s
    open_bounded from s o = bounded r s r_inside o.settled (λ k inside. open_each from s o k)

    open_step : (from : ℕ) (s m : State) → from < a.configuration.columns → OpenTo from s → StepsBy a coded s (Open r from) m → OpenTo (from + 1) m
    open_step from s m inside o f =
        let c = a.configuration in
        let n = slice_number c r from in
        let q = opened a coded n f.0 in
        let place : from < length s.columns = rw o.settled.long inside in
        record {
          settled = record {
            done = subst (λ (z : State). total (λ (q : Slice). length q.past) z.done ≤ rows_most r) (sym f.3) o.settled.done;
            long = ap (λ (z : State). length z.columns) f.3 ∙ length-set s.columns from q ∙ o.settled.long;
          };
          few = λ k below. elim (cases_eq k from) [
            | inl same ↦
                let now : slice_at m from ≡ q = ap (λ z. slice_at z from) f.3 ∙ get_or-set_same s.columns from q unread place in
                subst (λ j. Has r j (slice_at m j)) (sym same)
                (subst (Has r from) (sym now) (laws.opened r from f.0 r_inside inside f.1 f.4))
            | inr other ↦
                let now : slice_at m k ≡ slice_at s k = ap (λ z. slice_at z k) f.3 ∙ get_or-set_other s.columns from k q unread other in
                subst (Has r k) (sym now) (o.few k (omega (arith, below, other)))
          ];
          fresh = λ k above.
              let other : k ≢ from = omega (arith, above) in
              ap (λ z. slice_at z k) f.3 ∙ get_or-set_other s.columns from k q unread other ∙ o.fresh k (omega (arith, above));
        }

    open_fault : (from : ℕ) (s t : State) (f : FrameFault) → from < a.configuration.columns → OpenTo from s → FaultsWith a coded s (Open r from) f t → Bounded t
    open_fault from s t f inside o h =
        let c = a.configuration in
        let n = slice_number c r from in
        let q = decided_in h.0 in
        let place : from < length s.columns = rw o.settled.long inside in
        let few = laws.closed r from s.info f.fault h.0 r_inside inside h.1 in
        bounded r t r_inside
        (record {
          done = subst (λ (z : State). total (λ (q : Slice). length q.past) z.done ≤ rows_most r) (sym h.3) o.settled.done;
          long = ap (λ (z : State). length z.columns) h.3 ∙ length-set s.columns from q ∙ o.settled.long;
        })
        (λ k here. elim (cases_eq k from) [
          | inl same ↦
              let now : slice_at t from ≡ q = ap (λ z. slice_at z from) h.3 ∙ get_or-set_same s.columns from q unread place in
              subst (λ j. length (slice_at t j).past ≤ slice_most r j) (sym same) (subst (λ (z : Slice). length z.past ≤ slice_most r from) (sym now) few)
          | inr other ↦
              let now : slice_at t k ≡ slice_at s k = ap (λ z. slice_at z k) h.3 ∙ get_or-set_other s.columns from k q unread other in
              subst (λ (z : Slice). length z.past ≤ slice_most r k) (sym now) (open_each from s o k)
        ])

    opens_run : (from count : ℕ) (s t : State) → from + count ≤ a.configuration.columns → OpenTo from s → Runs (StepsBy a coded) s (map (Open r) (range_with_len from count)) t → OpenTo (from + count) t
    opens_run from zero s t fits o f = subst (λ n. OpenTo n t) (let same : from ≡ from + 0 = omega arith in same) (subst (OpenTo from) (sym f) o)
    opens_run from (suc count) s t fits o f =
        subst (λ n. OpenTo n t) (let same : from + 1 + count ≡ from + suc count = omega arith in same)
        (opens_run (from + 1) count f.0 t (omega (arith, fits)) (open_step from s f.0 (omega (arith, fits)) o f.1) f.2)

    opens_reached : (from count : ℕ) (s t : State) → from + count ≤ a.configuration.columns → OpenTo from s → Reaches (StepsBy a coded) (FaultsWith a coded) s (map (Open r) (range_with_len from count)) t → Bounded t
    opens_reached from zero s t fits o h = subst Bounded (sym h) (open_bounded from s o)
    opens_reached from (suc count) s t fits o h = elim h [
      | inl here ↦ subst Bounded (sym here) (open_bounded from s o)
      | inr more ↦ elim more [
        | inl refused ↦ open_fault from s t refused.0 (omega (arith, fits)) o refused.1
        | inr later ↦ opens_reached (from + 1) count later.0 t (omega (arith, fits)) (open_step from s later.0 (omega (arith, fits)) o later.1) later.2
      ]
    ]

    lined : (s : State) → OpenTo (0 + a.configuration.columns) s → Line s
    lined s o = record { settled = o.settled; few = λ k inside. o.few k (omega (arith, inside)) }

    columns_few : (s : State) → Line s → total (λ (q : Slice). length q.past) s.columns ≤ row_most r
    columns_few s l =
        let row = total_below (λ (q : Slice). length q.past) unread (slice_most r) 0 s.columns (λ k less.
        let here = laws.few r k (slice_at s k) (l.few k (subst (λ n. k < n) l.settled.long less)) in
        let place : slice_most r k ≡ slice_most r (0 + k) = ap (slice_most r) (let same : k ≡ 0 + k = omega arith in same) in
        omega (arith, here, place)) in
        subst (λ n. total (λ (q : Slice). length q.past) s.columns ≤ total (slice_most r) (range_with_len 0 n)) l.settled.long row

  -- before a row of slices
  record Ready (r : ℕ) (s : State) : Type 0 where
    pub done : total (λ (q : Slice). length q.past) s.done ≤ rows_most r
    pub fresh : s.columns ≡ replicate a.configuration.columns unread

  unread_few : (n : ℕ) → total (λ (q : Slice). length q.past) (replicate n unread) ≡ 0
  unread_few zero = refl
  unread_few (suc n) = let rest = unread_few n in omega (arith, rest)

  unread_at : (n k : ℕ) → get_or (replicate n unread) k unread ≡ unread
  unread_at zero k = refl
  unread_at (suc n) zero = refl
  unread_at (suc n) (suc k) = unread_at n k

  ready_bounded : (r : ℕ) (s : State) → r ≤ a.configuration.rows → Ready r s → Bounded s
  ready_bounded r s inside ready =
      let above = ready.done in
      let none : total (λ (q : Slice). length q.past) s.columns ≡ 0 = ap (λ qs. total (λ (q : Slice). length q.past) qs) ready.fresh ∙ unread_few a.configuration.columns in
      let all = fewer_rows r inside in
      record { few = omega (arith, above, none, all) }

  ready_open : (r : ℕ) (inside : r < a.configuration.rows) (s : State) → Ready r s → OpenTo r inside 0 s
  ready_open r inside s ready = record {
    settled = record { done = ready.done; long = ap (λ qs. length qs) ready.fresh ∙ length-replicate {A = Slice} a.configuration.columns unread };
    few = λ k below. absurd (omega (arith, below));
    fresh = λ k above. ap (λ qs. get_or qs k unread) ready.fresh ∙ unread_at a.configuration.columns k;
  }

  closed_ready : (r : ℕ) (inside : r < a.configuration.rows) (e t : State) → Line r inside e → StepsBy a coded e Close t → Ready (suc r) t
  closed_ready r inside e t l f =
      let above = l.settled.done in
      let row = columns_few r inside e l in
      let sum = total_append (λ (q : Slice). length q.past) e.done e.columns in
      let next = next_row r in
      record {
        done = subst (λ (z : State). total (λ (q : Slice). length q.past) z.done ≤ rows_most (suc r)) (sym f) (omega (arith, above, row, sum, next));
        fresh = ap (λ (z : State). z.columns) f;
      }

  module _ (same : is_rct a.configuration.colour ≡ true → (p r : ℕ) → lines_down a.configuration p r ≡ lines_down a.configuration 0 r) where
    row_run : (r : ℕ) (inside : r < a.configuration.rows) (s t : State) → Ready r s → Runs (StepsBy a coded) s (row_events a.configuration r) t → Ready (suc r) t
    row_run r inside s t ready f =
        let c = a.configuration in
        let lines = flat_map (series_events c r) (series_of c r) in
        let first = runs_split (StepsBy a coded) s t (map (Open r) (range_with_len 0 c.columns)) (lines ++ (Close ∷ [])) f in
        let opens = opens_run r inside 0 c.columns s first.0 (omega arith) (ready_open r inside s ready) first.1 in
        let later = runs_split (StepsBy a coded) first.0 t lines (Close ∷ []) first.2 in
        let l = lines_run r inside lines first.0 later.0 (lines_in_lines c r (λ rct p. same rct p r)) (lined r inside first.0 opens) later.1 in
        subst (Ready (suc r)) (sym later.2.2) (closed_ready r inside later.0 later.2.0 l later.2.1)

    row_reached : (r : ℕ) (inside : r < a.configuration.rows) (s t : State) → Ready r s → Reaches (StepsBy a coded) (FaultsWith a coded) s (row_events a.configuration r) t → Bounded t
    row_reached r inside s t ready h =
        let c = a.configuration in
        let lines = flat_map (series_events c r) (series_of c r) in
        let all = lines_in_lines c r (λ rct p. same rct p r) in
        elim (reaches_split (StepsBy a coded) (FaultsWith a coded) s t (map (Open r) (range_with_len 0 c.columns)) (lines ++ (Close ∷ [])) h) [
          | inl opens ↦ opens_reached r inside 0 c.columns s t (omega arith) (ready_open r inside s ready) opens
          | inr rest ↦
              let l = lined r inside rest.0 (opens_run r inside 0 c.columns s rest.0 (omega arith) (ready_open r inside s ready) rest.1) in
              elim (reaches_split (StepsBy a coded) (FaultsWith a coded) rest.0 t lines (Close ∷ []) rest.2) [
                | inl reading ↦ lines_reached r inside lines rest.0 t all l reading
                | inr closing ↦
                    let e = lines_run r inside lines rest.0 closing.0 all l closing.1 in
                    elim closing.2 [
                      | inl here ↦ subst Bounded (sym here) (line_bounded r inside closing.0 e)
                      | inr more ↦ elim more [
                        | inl refused ↦ absurd refused.1
                        | inr last ↦ subst Bounded (sym last.2) (ready_bounded (suc r) last.0 inside (closed_ready r inside closing.0 last.0 e last.1))
                      ]
                    ]
              ]
        ]

    rows_reached : (from count : ℕ) (s t : State) → from + count ≡ a.configuration.rows → Ready from s →
        Reaches (StepsBy a coded) (FaultsWith a coded) s (flat_map (row_events a.configuration) (range_with_len from count)) t → Bounded t
    rows_reached from zero s t fits ready h = subst Bounded (sym h) (ready_bounded from s (omega (arith, fits)) ready)
    rows_reached from (suc count) s t fits ready h =
        let c = a.configuration in
        let inside : from < c.rows = omega (arith, fits) in
        elim (reaches_split (StepsBy a coded) (FaultsWith a coded) s t (row_events c from) (flat_map (row_events c) (range_with_len (from + 1) count)) h) [
          | inl here ↦ row_reached from inside s t ready here
          | inr rest ↦
              let next : suc from ≡ from + 1 = omega arith in
              rows_reached (from + 1) count rest.0 t (omega (arith, fits)) (subst (λ n. Ready n rest.0) next (row_run from inside s rest.0 ready rest.1)) rest.2
        ]

    pub frame_reached : (t : State) → Reaches (StepsBy a coded) (FaultsWith a coded) (at_first a.configuration) (events_of a.configuration) t → Bounded t
    frame_reached t h = rows_reached 0 a.configuration.rows (at_first a.configuration) t (omega arith) (record { done = omega arith; fresh = refl }) h

  pub few_in : (t : State) → Bounded t → decisions_in t ≤ rows_most a.configuration.rows
  few_in t b =
      let sum = total_append (λ (q : Slice). length q.past) t.done t.columns in
      let all = total_is (λ (q : Slice). length q.past) (t.done ++ t.columns) in
      let few = b.few in
      omega (arith, sum, all, few)
