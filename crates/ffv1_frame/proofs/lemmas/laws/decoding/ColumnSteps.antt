-- What an event of a row of slices makes of one of its columns.
use Rattle.std.proofs.Common.{◌≡◌, ◌≢◌, refl, ℕ, ℤ, ◌<◌, ◌⊎◌, if◌then◌else◌, List, [], ◌∷◌, ◌++◌, length, inl, inr, ap, sym, subst, ◌∙◌, length-set, get_or-set_same, get_or-set_other, append-nil, append_assoc}
use Rattle.std.proofs.lemmas.Bool.{cases_eq, eq-eqb, ne_eqb}
use Rattle.ffv1_record.specs.Configuration.{Configuration}
use Rattle.ffv1_record.specs.Accepted.{Accepted}
use Rattle.ffv1_frame.specs.Picture.{plane_count}
use Rattle.ffv1_frame.specs.SliceList.{Line}
use Rattle.ffv1_frame.specs.Order.{Event, IsLastLine}
use Rattle.ffv1_frame.specs.Order.Event.{Open, Read, Finish, Hand, Close}
use Rattle.ffv1_frame.specs.Runs.{Runs}
use Rattle.ffv1_frame.specs.Decoding.{State, Slice, StepsBy, ReadsLine, slice_at, slice_number, width_in, after_line, steps_of_line, unread}
use Rattle.ffv1_frame.proofs.lemmas.laws.decoding.Machines.{Each}
use Rattle.ffv1_frame.proofs.lemmas.laws.decoding.LinesRead.{read_at, reads_of}
use Rattle.ffv1_frame.specs.Overread.{IsWithin}
use Rattle.ffv1_frame.specs.Ending.{SliceEnds}

-- an event of the lines of row r
abbrev pub IsOfRow : Configuration → ℕ → Event → Type 0
IsOfRow c r (Open j k) = ⊥
IsOfRow c r (Read j k p y) = (j ≡ r) × (k < c.columns) × (p < plane_count c)
IsOfRow c r (Finish j planes y) = j ≡ r
IsOfRow c r (Hand j i p y) = j ≡ r
IsOfRow c r Close = ⊥

module _ (a : Accepted) (coded : ℕ → List ℕ) (r k : ℕ) where
  -- the column reads a line
  pub record ReadsNext (e : Event) (q t : Slice) : Type 0 where
    pub p : ℕ
    pub y : ℕ
    pub qs : List ℤ
    pub row : List ℕ
    pub inside : p < plane_count a.configuration
    pub reads : ReadsLine a coded (slice_number a.configuration r k) p (width_in a.configuration p k) y q qs row
    pub behind : t ≡ after_line a coded q p (width_in a.configuration p k) y qs row
    pub within : IsWithin a (coded (slice_number a.configuration r k)) (q.past ++ steps_of_line a coded q p (width_in a.configuration p k) y qs row)
    pub ending : IsLastLine a.configuration r p y → SliceEnds a (coded (slice_number a.configuration r k)) (q.past ++ steps_of_line a coded q p (width_in a.configuration p k) y qs row)
        (after_line a coded q p (width_in a.configuration p k) y qs row).bits
    pub line : read_at k e ≡ record { plane = p; y = y } ∷ []

  -- or it stays as it is
  pub record Stays (e : Event) (q t : Slice) : Type 0 where
    pub same : t ≡ q
    pub line : read_at k e ≡ []

  abbrev pub ColumnStep : Event → Slice → Slice → Type 0
  ColumnStep e q t = Stays e q t ⊎ ReadsNext e q t

  column_read : (s m : State) (j p y : ℕ) → k < length s.columns → j < a.configuration.columns → p < plane_count a.configuration →
      StepsBy a coded s (Read r j p y) m → ColumnStep (Read r j p y) (slice_at s k) (slice_at m k)
  column_read s m j p y inside here few f = elim (cases_eq j k) [
    | inl same ↦
        let g = subst (λ i. StepsBy a coded s (Read r i p y) m) same f in
        let q = slice_at s k in
        let next = after_line a coded q p (width_in a.configuration p k) y g.0 g.1 in
        inr (record {
          p = p;
          y = y;
          qs = g.0;
          row = g.1;
          inside = few;
          reads = g.2;
          behind = ap (λ z. slice_at z k) g.3 ∙ get_or-set_same s.columns k next unread inside;
          within = g.4;
          ending = g.5;
          line = ap (λ b. if b then record { plane = p; y = y } ∷ [] else []) (eq-eqb j k same);
        })
    | inr other ↦
        let q = slice_at s j in
        let next = after_line a coded q p (width_in a.configuration p j) y f.0 f.1 in
        let apart : k ≢ j = λ e. other (sym e) in
        inl (record {
          same = ap (λ z. slice_at z k) f.3 ∙ get_or-set_other s.columns j k next unread apart;
          line = ap (λ b. if b then record { plane = p; y = y } ∷ [] else []) (ne_eqb j k other);
        })
  ]

  pub column_step : (s m : State) (e : Event) → k < length s.columns → IsOfRow a.configuration r e → StepsBy a coded s e m → ColumnStep e (slice_at s k) (slice_at m k)
  column_step s m (Open j i) inside kind f = absurd kind
  column_step s m (Read j i p y) inside kind f =
      let g = column_read s m i p y inside kind.1 kind.2 (subst (λ z. StepsBy a coded s (Read z i p y) m) kind.0 f) in
      elim g [
        | inl stays ↦ inl (record { same = stays.same; line = stays.line })
        | inr next ↦ inr (record { p = next.p; y = next.y; qs = next.qs; row = next.row; inside = next.inside; reads = next.reads; behind = next.behind; within = next.within; ending = next.ending; line = next.line })
      ]
  column_step s m (Finish j planes y) inside kind f = inl (record { same = ap (λ z. slice_at z k) f.2; line = refl })
  column_step s m (Hand j i p y) inside kind f = inl (record { same = ap (λ z. slice_at z k) f; line = refl })
  column_step s m Close inside kind f = absurd kind

-- no column is lost
pub columns_kept : (a : Accepted) (coded : ℕ → List ℕ) (r : ℕ) (s m : State) (e : Event) → IsOfRow a.configuration r e → StepsBy a coded s e m → length m.columns ≡ length s.columns
columns_kept a coded r s m (Open j i) kind f = absurd kind
columns_kept a coded r s m (Read j i p y) kind f =
    let q = slice_at s i in
    ap (λ (z : State). length z.columns) f.3 ∙ length-set s.columns i (after_line a coded q p (width_in a.configuration p i) y f.0 f.1)
columns_kept a coded r s m (Finish j planes y) kind f = ap (λ (z : State). length z.columns) f.2
columns_kept a coded r s m (Hand j i p y) kind f = ap (λ (z : State). length z.columns) f
columns_kept a coded r s m Close kind f = absurd kind

module _ (a : Accepted) (coded : ℕ → List ℕ) (r k : ℕ) (P : List Line → Slice → Type 0)
    (next : (ls : List Line) (q t : Slice) (e : Event) → P ls q → ReadsNext a coded r k e q t → P (ls ++ read_at k e) t) where
  -- what goes on with each line that a column reads holds after all of them
  pub column_runs : (es : List Event) (ls : List Line) (s t : State) → Each (IsOfRow a.configuration r) es → k < length s.columns →
      Runs (StepsBy a coded) s es t → P ls (slice_at s k) → P (ls ++ reads_of k es) (slice_at t k)
  column_runs [] ls s t all inside f p =
      subst (λ (z : State). P (ls ++ []) (slice_at z k)) (sym f) (subst (λ zs. P zs (slice_at s k)) (sym (append-nil ls)) p)
  column_runs (e ∷ es) ls s t all inside f p =
      let m = f.0 in
      let here : P (ls ++ read_at k e) (slice_at m k) = elim (column_step a coded r k s m e inside all.0 f.1) [
        | inl stays ↦ subst (λ q. P (ls ++ read_at k e) q) (sym stays.same) (subst (λ zs. P zs (slice_at s k)) (sym (ap (λ z. ls ++ z) stays.line ∙ append-nil ls)) p)
        | inr reads ↦ next ls (slice_at s k) (slice_at m k) e p reads
      ] in
      let there : k < length m.columns = rw (columns_kept a coded r s m e all.0 f.1) inside in
      subst (λ zs. P zs (slice_at t k)) (append_assoc ls (read_at k e) (reads_of k es))
      (column_runs es (ls ++ read_at k e) m t all.1 there f.2 here)

-- no column is lost in a run
pub columns_kept_along : (a : Accepted) (coded : ℕ → List ℕ) (r : ℕ) (es : List Event) (s t : State) → Each (IsOfRow a.configuration r) es →
    Runs (StepsBy a coded) s es t → length t.columns ≡ length s.columns
columns_kept_along a coded r [] s t all f = ap (λ (z : State). length z.columns) f
columns_kept_along a coded r (e ∷ es) s t all f =
    columns_kept_along a coded r es f.0 t all.1 f.2 ∙ columns_kept a coded r s f.0 e all.0 f.1
