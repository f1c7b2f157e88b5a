-- Slices that were read agree with those before them in the samples that both code.
use Rattle.std.proofs.Common.{◌≡◌, ◌≢◌, refl, ℕ, zero, suc, ◌+◌, ◌-◌, ◌*◌, ◌<◌, ◌≤◌, List, [], ◌∷◌, ◌++◌, length, get_or, inl, inr, ap, sym, subst, ◌∙◌, arith, append-nil, length-append, length-set, get_or-set_same, get_or-set_other, get_or-append-add}
use Rattle.std.specs.List.{flat_map, range_with_len}
use Rattle.std.proofs.lemmas.Bool.{cases_lt, cases_eq}
use Rattle.std.proofs.lemmas.List.{get_or_append_left}
use Rattle.ffv1_record.specs.Accepted.{Accepted}
use Rattle.ffv1_slice.specs.Grid.{across, division_of, shared_of}
use Rattle.ffv1_frame.specs.Picture.{plane, plane_count}
use Rattle.ffv1_frame.specs.SliceList.{Line}
use Rattle.ffv1_frame.specs.Order.{Event, column_events}
use Rattle.ffv1_frame.specs.Order.Event.{Open, Read, Finish, Hand, Close}
use Rattle.ffv1_frame.specs.Runs.{Runs}
use Rattle.ffv1_frame.specs.Decoding.{State, Slice, StepsBy, SaidBefore, above_sample, slice_at, unread, width_in, after_line, steps_of_line}
use Rattle.ffv1_frame.proofs.lemmas.laws.decoding.Machines.{Each, each_append, runs_split}
use Rattle.ffv1_frame.proofs.lemmas.laws.decoding.LinesRead.{lines_at}
use Rattle.ffv1_frame.proofs.lemmas.laws.decoding.ColumnSteps.{IsOfRow, column_step}
use Rattle.ffv1_frame.proofs.lemmas.laws.decoding.Groups.{Group, IsGroup, group_events, group_lines}
use Rattle.ffv1_frame.proofs.lemmas.laws.decoding.SliceBodies.{IsRead, Longer, longer, read_later, plane_put}
use Rattle.ffv1_frame.proofs.lemmas.laws.decoding.LinesMade.{longer_again, goes_on, group_made, group_of_row, groups_of_row}

-- the slices of the rows above stay
pub row_keeps : (a : Accepted) (coded : ℕ → List ℕ) (r : ℕ) (es : List Event) (s t : State) → Each (IsOfRow a.configuration r) es → Runs (StepsBy a coded) s es t → t.done ≡ s.done
row_keeps a coded r [] s t all f = ap (λ (z : State). z.done) f
row_keeps a coded r (Open j k ∷ es) s t all f = absurd all.0
row_keeps a coded r (Read j k p y ∷ es) s t all f = row_keeps a coded r es f.0 t all.1 f.2 ∙ ap (λ (z : State). z.done) f.1.3
row_keeps a coded r (Finish j planes y ∷ es) s t all f = row_keeps a coded r es f.0 t all.1 f.2 ∙ ap (λ (z : State). z.done) f.1.2
row_keeps a coded r (Hand j i p y ∷ es) s t all f = row_keeps a coded r es f.0 t all.1 f.2 ∙ ap (λ (z : State). z.done) f.1
row_keeps a coded r (Close ∷ es) s t all f = absurd all.0

module _ (a : Accepted) (coded : ℕ → List ℕ) (r : ℕ) where
  -- what a slice has of a line is what slices before say of it
  abbrev pub IsAgreed : State → ℕ → Line → Type 0
  IsAgreed s k l =
      (x v : ℕ) → x < width_in a.configuration l.plane k → SaidBefore a.configuration s r k l.plane l.y x v →
      get_or (plane (slice_at s k).cells l.plane) (l.y * width_in a.configuration l.plane k + x) 0 ≡ v

  -- the first column has no slice to its left
  none_left : (p k x : ℕ) → k ≡ 0 → x < shared_of (across (division_of a.configuration) p) k → ⊥
  none_left p k x first less =
      let none = subst (λ j. x < shared_of (across (division_of a.configuration) p) j) first less in
      absurd (omega (arith, none))

  -- what was said in a state is said in one with the same slices before
  said_again : (s m : State) (k p y x v : ℕ) → (0 < k → slice_at m (k - 1) ≡ slice_at s (k - 1)) → m.done ≡ s.done →
      SaidBefore a.configuration m r k p y x v → SaidBefore a.configuration s r k p y x v
  said_again s m k p y x v left done said = elim said [
    | inl beside ↦ elim (cases_lt 0 k) [
      | inl some ↦
          let w = width_in a.configuration p (k - 1) in
          inl (beside.0, beside.1 ∙ ap (λ (q : Slice). get_or (plane q.cells p) (y * w + (w - 1)) 0) (left some))
      | inr none ↦ absurd (none_left p k x (omega (arith, none)) beside.0)
    ]
    | inr below ↦ inr (below.0, below.1 ∙ ap (λ qs. above_sample a.configuration (record s { done = qs }) r k p x) done)
  ]

  -- a line that is read
  read_agrees : (s m : State) (k p y : ℕ) → k < length s.columns → p < length (slice_at s k).cells → StepsBy a coded s (Read r k p y) m → IsAgreed m k (record { plane = p; y = y })
  read_agrees s m k p y inside_k inside_p f = λ x v inside said.
      let c = a.configuration in
      let w = width_in c p k in
      let q = slice_at s k in
      let row = f.1 in
      let next = after_line a coded q p w y f.0 row in
      let now : slice_at m k ≡ next = ap (λ z. slice_at z k) f.3 ∙ get_or-set_same s.columns k next unread inside_k in
      let samples : plane (slice_at m k).cells p ≡ plane q.cells p ++ row = ap (λ (z : Slice). plane z.cells p) now ∙ plane_put q.cells p (plane q.cells p ++ row) inside_p in
      let left : 0 < k → slice_at m (k - 1) ≡ slice_at s (k - 1) = λ some.
      let other : k - 1 ≢ k = omega (arith, some) in
      ap (λ z. slice_at z (k - 1)) f.3 ∙ get_or-set_other s.columns k (k - 1) next unread other in
      ap (λ xs. get_or xs (y * w + x) 0) samples
      ∙ ap (λ n. get_or (plane q.cells p ++ row) (n + x) 0) (sym f.2.above)
      ∙ get_or-append-add (plane q.cells p) row x 0
      ∙ f.6 x v inside (said_again s m k p y x v left (ap (λ (z : State). z.done) f.3) said)

  -- and its slice has it
  pub read_there : (s m : State) (k p y : ℕ) → k < length s.columns → p < length (slice_at s k).cells → StepsBy a coded s (Read r k p y) m → IsRead a coded r k (slice_at m k) (record { plane = p; y = y })
  read_there s m k p y inside_k inside_p f =
      let w = width_in a.configuration p k in
      let q = slice_at s k in
      let row = f.1 in
      let next = after_line a coded q p w y f.0 row in
      let now : slice_at m k ≡ next = ap (λ z. slice_at z k) f.3 ∙ get_or-set_same s.columns k next unread inside_k in
      let samples : plane (slice_at m k).cells p ≡ plane q.cells p ++ row = ap (λ (z : Slice). plane z.cells p) now ∙ plane_put q.cells p (plane q.cells p ++ row) inside_p in
      let long = ap (λ (xs : List ℕ). length xs) samples ∙ length-append (plane q.cells p) row in
      omega (arith, long, f.2.above, f.2.row_long)

  -- it stays so while slices go on
  pub agreed_later : (s t : State) (k : ℕ) (l : Line) → Longer a coded r k (slice_at s k) (slice_at t k) → IsRead a coded r k (slice_at s k) l →
      (0 < k → Longer a coded r (k - 1) (slice_at s (k - 1)) (slice_at t (k - 1)) × IsRead a coded r (k - 1) (slice_at s (k - 1)) l × (0 < width_in a.configuration l.plane (k - 1))) →
      t.done ≡ s.done → IsAgreed s k l → IsAgreed t k l
  agreed_later s t k l more is left done agreed = λ x v inside said.
      let c = a.configuration in
      let p = l.plane in
      let w = width_in c p k in
      let longer = more.more p in
      let place : l.y * w + x < length (plane (slice_at s k).cells p) = omega (arith, is, inside) in
      let here : get_or (plane (slice_at t k).cells p) (l.y * w + x) 0 ≡ get_or (plane (slice_at s k).cells p) (l.y * w + x) 0 =
      ap (λ xs. get_or xs (l.y * w + x) 0) longer.1 ∙ get_or_append_left (plane (slice_at s k).cells p) longer.0 0 (l.y * w + x) place in
      let back : SaidBefore c s r k p l.y x v = elim said [
        | inl beside ↦ elim (cases_lt 0 k) [
          | inl some ↦
              let facts = left some in
              let u = width_in c p (k - 1) in
              let grown = facts.0.more p in
              let spot : l.y * u + (u - 1) < length (plane (slice_at s (k - 1)).cells p) = omega (arith, facts.1, facts.2) in
              inl (
                beside.0,
                beside.1 ∙ ap (λ xs. get_or xs (l.y * u + (u - 1)) 0) grown.1 ∙ get_or_append_left (plane (slice_at s (k - 1)).cells p) grown.0 0 (l.y * u + (u - 1)) spot,
              )
          | inr none ↦ absurd (none_left p k x (omega (arith, none)) beside.0)
        ]
        | inr below ↦ inr (below.0, below.1 ∙ ap (λ qs. above_sample c (record s { done = qs }) r k p x) done)
      ] in
      here ∙ agreed x v inside back

  same_longer : (k : ℕ) (q t : Slice) → t ≡ q → Longer a coded r k q t
  same_longer k q t same = record {
    head = ap (λ (z : Slice). z.head) same;
    many = ap (λ (z : Slice). length z.cells) same;
    more = λ p. ([], ap (λ (z : Slice). plane z.cells p) same ∙ sym (append-nil (plane q.cells p)));
  }

  abbrev pub at_line : ℕ → ℕ → Line
  at_line y p = record { plane = p; y = y }

  -- the slice of column k has line y of these planes, and none of them is empty
  abbrev pub HasLines : State → ℕ → ℕ → List ℕ → Type 0
  HasLines s k y planes = Each (λ p. IsRead a coded r k (slice_at s k) (at_line y p) × (0 < width_in a.configuration p k)) planes

  has_same : (s m : State) (k y : ℕ) (planes : List ℕ) → slice_at m k ≡ slice_at s k → HasLines s k y planes → HasLines m k y planes
  has_same s m k y [] same has = tt
  has_same s m k y (p ∷ ps) same has =
      ((subst (λ q. IsRead a coded r k q (at_line y p)) (sym same) has.0.0, has.0.1), has_same s m k y ps same has.1)

  -- a column reads its lines
  record ColumnAgreed (k y : ℕ) (planes : List ℕ) (u t : State) : Type 0 where
    pub agreed : Each (λ p. IsAgreed t k (at_line y p)) planes
    pub has : HasLines t k y planes
    pub others : (j : ℕ) → j ≢ k → slice_at t j ≡ slice_at u j
    pub more : Longer a coded r k (slice_at u k) (slice_at t k)
    pub done : t.done ≡ u.done
    pub long : length t.columns ≡ length u.columns

  module _ (some : (p k : ℕ) → k < a.configuration.columns → 0 < width_in a.configuration p k) where
    column_agreed : (k y : ℕ) (planes : List ℕ) (u t : State) → k < a.configuration.columns → length u.columns ≡ a.configuration.columns → length (slice_at u k).cells ≡ plane_count a.configuration →
        Each (λ p. p < plane_count a.configuration) planes → (0 < k → HasLines u (k - 1) y planes) → Runs (StepsBy a coded) u (column_events r planes y k) t → ColumnAgreed k y planes u t
    column_agreed k y [] u t here long many inside left f = record {
      agreed = tt;
      has = tt;
      others = λ j other. ap (λ z. slice_at z j) f;
      more = same_longer k (slice_at u k) (slice_at t k) (ap (λ z. slice_at z k) f);
      done = ap (λ (z : State). z.done) f;
      long = ap (λ (z : State). length z.columns) f;
    }
    column_agreed k y (p ∷ ps) u t here long many inside left f =
        let m = f.0 in
        let q = slice_at u k in
        let w = width_in a.configuration p k in
        let next = after_line a coded q p w y f.1.0 f.1.1 in
        let inside_k : k < length u.columns = rw long here in
        let inside_p : p < length q.cells = rw many inside.0 in
        let m_others : (j : ℕ) → j ≢ k → slice_at m j ≡ slice_at u j = λ j other. ap (λ z. slice_at z j) f.1.3 ∙ get_or-set_other u.columns k j next unread other in
        let m_done : m.done ≡ u.done = ap (λ (z : State). z.done) f.1.3 in
        let m_long : length m.columns ≡ length u.columns = ap (λ (z : State). length z.columns) f.1.3 ∙ length-set u.columns k next in
        let m_more : Longer a coded r k q (slice_at m k) = elim (column_step a coded r k u m (Read r k p y) inside_k (refl, here, inside.0) f.1) [
          | inl stays ↦ same_longer k q (slice_at m k) stays.same
          | inr reads ↦ longer a coded r k (Read r k p y) q (slice_at m k) many reads
        ] in
        let there = read_there u m k p y inside_k inside_p f.1 in
        let before : 0 < k → HasLines m (k - 1) y (p ∷ ps) = λ any. let other : k - 1 ≢ k = omega (arith, any) in has_same u m (k - 1) y (p ∷ ps) (m_others (k - 1) other) (left any) in
        let rest = column_agreed k y ps m t here (m_long ∙ long) (m_more.many ∙ many) inside.1 (λ any. (before any).1) f.2 in
        record {
          agreed = (
            agreed_later m t k (at_line y p) rest.more there
                (λ any.
                let other : k - 1 ≢ k = omega (arith, any) in
                (same_longer (k - 1) (slice_at m (k - 1)) (slice_at t (k - 1)) (rest.others (k - 1) other), (before any).0.0, (before any).0.1)) rest.done
                (read_agrees u m k p y inside_k inside_p f.1),
            rest.agreed,
          );
          has = ((read_later a coded r k (slice_at m k) (slice_at t k) (at_line y p) rest.more there, some p k here), rest.has);
          others = λ j other. rest.others j other ∙ m_others j other;
          more = longer_again a coded r k q (slice_at m k) (slice_at t k) m_more rest.more;
          done = rest.done ∙ m_done;
          long = rest.long ∙ m_long;
        }

    -- the columns from one on read their lines
    pub record LineAgreed (y : ℕ) (planes : List ℕ) (from count : ℕ) (s t : State) : Type 0 where
      pub agreed : (k : ℕ) → from ≤ k → k < from + count → Each (λ p. IsAgreed t k (at_line y p)) planes
      pub has : (k : ℕ) → from ≤ k → k < from + count → HasLines t k y planes
      pub before : (j : ℕ) → j < from → slice_at t j ≡ slice_at s j
      pub done : t.done ≡ s.done
      pub long : length t.columns ≡ length s.columns

    agreed_same : (m t : State) (k y : ℕ) (planes : List ℕ) → slice_at t k ≡ slice_at m k → (0 < k → slice_at t (k - 1) ≡ slice_at m (k - 1)) → t.done ≡ m.done → HasLines m k y planes →
        (0 < k → HasLines m (k - 1) y planes) → Each (λ p. IsAgreed m k (at_line y p)) planes → Each (λ p. IsAgreed t k (at_line y p)) planes
    agreed_same m t k y [] same left done has beside all = tt
    agreed_same m t k y (p ∷ ps) same left done has beside all = (
      agreed_later m t k (at_line y p) (same_longer k (slice_at m k) (slice_at t k) same) has.0.0
          (λ any. (same_longer (k - 1) (slice_at m (k - 1)) (slice_at t (k - 1)) (left any), (beside any).0.0, (beside any).0.1)) done all.0,
      agreed_same m t k y ps same left done has.1 (λ any. (beside any).1) all.1,
    )

    pub line_agreed : (y : ℕ) (planes : List ℕ) (from count : ℕ) (s t : State) → from + count ≤ a.configuration.columns → length s.columns ≡ a.configuration.columns →
        ((k : ℕ) → k < a.configuration.columns → length (slice_at s k).cells ≡ plane_count a.configuration) → Each (λ p. p < plane_count a.configuration) planes →
        (0 < from → HasLines s (from - 1) y planes) → Runs (StepsBy a coded) s (flat_map (column_events r planes y) (range_with_len from count)) t → LineAgreed y planes from count s t
    line_agreed y planes from zero s t fits long many inside left f = record {
      agreed = λ k least most. absurd (omega (arith, least, most));
      has = λ k least most. absurd (omega (arith, least, most));
      before = λ j less. ap (λ z. slice_at z j) f;
      done = ap (λ (z : State). z.done) f;
      long = ap (λ (z : State). length z.columns) f;
    }
    line_agreed y planes from (suc count) s t fits long many inside left f =
        let here : from < a.configuration.columns = omega (arith, fits) in
        let parts = runs_split (StepsBy a coded) s t (column_events r planes y from) (flat_map (column_events r planes y) (range_with_len (from + 1) count)) f in
        let m = parts.0 in
        let first = column_agreed from y planes s m here long (many from here) inside left parts.1 in
        let m_many : (k : ℕ) → k < a.configuration.columns → length (slice_at m k).cells ≡ plane_count a.configuration = λ k less. elim (cases_eq k from) [
          | inl same ↦ ap (λ j. length (slice_at m j).cells) same ∙ first.more.many ∙ many from here
          | inr other ↦ ap (λ (z : Slice). length z.cells) (first.others k other) ∙ many k less
        ] in
        let last : from + 1 - 1 ≡ from = omega arith in
        let rest = line_agreed y planes (from + 1) count m t (omega (arith, fits)) (first.long ∙ long) m_many inside (λ any. subst (λ j. HasLines m j y planes) (sym last) first.has) parts.2 in
        let now : slice_at t from ≡ slice_at m from = rest.before from (omega arith) in
        let beside : 0 < from → slice_at t (from - 1) ≡ slice_at m (from - 1) = λ any. rest.before (from - 1) (omega (arith, any)) in
        let before : 0 < from → HasLines m (from - 1) y planes = λ any. let other : from - 1 ≢ from = omega (arith, any) in has_same s m (from - 1) y planes (first.others (from - 1) other) (left any) in
        record {
          agreed = λ k least most. elim (cases_eq k from) [
            | inl same ↦ subst (λ j. Each (λ p. IsAgreed t j (at_line y p)) planes) (sym same) (agreed_same m t from y planes now beside rest.done first.has before first.agreed)
            | inr other ↦ rest.agreed k (omega (arith, least, other)) (omega (arith, most))
          ];
          has = λ k least most. elim (cases_eq k from) [
            | inl same ↦ subst (λ j. HasLines t j y planes) (sym same) (has_same m t from y planes now first.has)
            | inr other ↦ rest.has k (omega (arith, least, other)) (omega (arith, most))
          ];
          before = λ j less. let other : j ≢ from = omega (arith, less) in rest.before j (omega (arith, less)) ∙ first.others j other;
          done = rest.done ∙ first.done;
          long = rest.long ∙ first.long;
        }

    later_all : (u t : State) (k y : ℕ) (planes : List ℕ) → Longer a coded r k (slice_at u k) (slice_at t k) → (0 < k → Longer a coded r (k - 1) (slice_at u (k - 1)) (slice_at t (k - 1))) → t.done ≡ u.done →
        HasLines u k y planes → (0 < k → HasLines u (k - 1) y planes) → Each (λ p. IsAgreed u k (at_line y p)) planes → Each (IsAgreed t k) (lines_at planes y)
    later_all u t k y [] more left done has beside all = tt
    later_all u t k y (p ∷ ps) more left done has beside all = (
      agreed_later u t k (at_line y p) more has.0.0 (λ any. (left any, (beside any).0.0, (beside any).0.1)) done all.0,
      later_all u t k y ps more left done has.1 (λ any. (beside any).1) all.1,
    )

    -- groups of lines
    pub groups_agreed : (gs : List Group) (s t : State) → Each (IsGroup a.configuration r) gs → length s.columns ≡ a.configuration.columns →
        ((k : ℕ) → k < a.configuration.columns → length (slice_at s k).cells ≡ plane_count a.configuration) → Runs (StepsBy a coded) s (flat_map (group_events a.configuration r) gs) t →
        (k : ℕ) → k < a.configuration.columns → Each (IsAgreed t k) (flat_map group_lines gs)
    groups_agreed [] s t are long many f = λ k inside. tt
    groups_agreed (g ∷ gs) s t are long many f =
        let c = a.configuration in
        let here = group_events c r g in
        let rest = flat_map (group_events c r) gs in
        let parts = runs_split (StepsBy a coded) s t here rest f in
        let u = parts.0 in
        let made = group_made a coded r g s u parts.1 in
        let m = made.middle in
        let line = line_agreed g.y g.planes 0 c.columns s m (omega arith) long many are.0.inside (λ any. absurd (omega (arith, any))) made.reads in
        let of_here = group_of_row c r g are.0 in
        let of_rest = groups_of_row c r gs are.1 in
        let same : (k : ℕ) → slice_at u k ≡ slice_at m k = λ k. ap (λ qs. get_or qs k unread) made.columns in
        let u_done : u.done ≡ s.done = row_keeps a coded r here s u of_here parts.1 in
        let u_long : length u.columns ≡ c.columns = ap (λ (qs : List Slice). length qs) made.columns ∙ line.long ∙ long in
        let grown : (k : ℕ) → k < c.columns → Longer a coded r k (slice_at s k) (slice_at u k) = λ k inside. goes_on a coded r k here s u of_here (rw long inside) (many k inside) parts.1 in
        let u_many : (k : ℕ) → k < c.columns → length (slice_at u k).cells ≡ plane_count c = λ k inside. (grown k inside).many ∙ many k inside in
        let more : (k : ℕ) → k < c.columns → Longer a coded r k (slice_at u k) (slice_at t k) = λ k inside. goes_on a coded r k rest u t of_rest (rw u_long inside) (u_many k inside) parts.2 in
        let t_done : t.done ≡ u.done = row_keeps a coded r rest u t of_rest parts.2 in
        let has : (k : ℕ) → k < c.columns → HasLines u k g.y g.planes = λ k inside. has_same m u k g.y g.planes (same k) (line.has k (omega arith) (omega (arith, inside))) in
        let later = groups_agreed gs u t are.1 u_long u_many parts.2 in
        λ k inside.
        let before : 0 < k → k - 1 < c.columns = λ any. omega (arith, inside) in
        let agreed = agreed_same m u k g.y g.planes (same k) (λ any. same (k - 1)) (u_done ∙ sym line.done) (line.has k (omega arith) (omega (arith, inside)))
        (λ any. line.has (k - 1) (omega arith) (omega (arith, before any))) (line.agreed k (omega arith) (omega (arith, inside))) in
        each_append (IsAgreed t k) (group_lines g) (flat_map group_lines gs)
        (later_all u t k g.y g.planes (more k inside) (λ any. more (k - 1) (before any)) t_done (has k inside) (λ any. has (k - 1) (before any)) agreed)
        (later k inside)
