-- The lines that a row of slices hands over are made of what its slices read.
use Rattle.std.proofs.Common.{◌≡◌, refl, ℕ, suc, ◌+◌, ◌*◌, ◌<◌, ◌≤◌, List, [], ◌∷◌, ◌++◌, map, length, get_or, take, drop, ap, sym, subst, ◌∙◌, arith, append-nil, append_assoc}
use Rattle.std.specs.List.{flat_map, range_with_len}
use Rattle.std.proofs.lemmas.List.{drop-append-le, take-append-le, length-drop}
use Rattle.ffv1_wire.specs.Runs as wire
use Rattle.ffv1_record.specs.Configuration.{Configuration}
use Rattle.ffv1_record.specs.Accepted.{Accepted}
use Rattle.ffv1_slice.specs.Grid.{across, division_of, shared_of}
use Rattle.ffv1_frame.specs.Picture.{plane, plane_count}
use Rattle.ffv1_frame.specs.SliceList.{Line}
use Rattle.ffv1_frame.specs.Order.{Event, column_events, hand_events, new_planes, numbered}
use Rattle.ffv1_frame.specs.Order.Event.{Open, Read, Finish, Hand, Close}
use Rattle.ffv1_frame.specs.Runs.{Runs}
use Rattle.ffv1_frame.specs.Decoding.{State, Slice, StepsBy, Finishes, slice_at, unread, width_in, top_of, row_in, own_row, coded_line}
use Rattle.ffv1_frame.proofs.lemmas.laws.decoding.Machines.{Each, each_right, each_append, each_range, each_map, each_flat, runs_split}
use Rattle.ffv1_frame.proofs.lemmas.FlatLists.{flat_range_same}
use Rattle.ffv1_frame.proofs.lemmas.laws.decoding.LinesRead.{reads_of, lines_at, columns_read}
use Rattle.ffv1_frame.proofs.lemmas.laws.decoding.Groups.{Group, IsGroup, group_events, group_lines}
use Rattle.ffv1_frame.proofs.lemmas.laws.decoding.ColumnSteps.{IsOfRow, column_runs, columns_kept_along}
use Rattle.ffv1_frame.proofs.lemmas.laws.decoding.SliceBodies.{CellLaws, HasRead, IsRead, Longer, longer, has_read_more}

-- line y of plane p, of the slices of a row side by side
abbrev pub joined_line : Configuration → (ℕ → Slice) → ℕ → ℕ → List ℕ
joined_line c slice y p = flat_map (λ k. own_row c p k y (plane (slice k).cells p)) (range_with_len 0 c.columns)

abbrev pub handed : Configuration → ℕ → ℕ → List (List ℕ) → ℕ × ℕ → wire.Line
handed c r y out ip = record { plane = ip.1; row = top_of c ip.1 r + y; samples = get_or out ip.0 [] }

-- an event that reads a line
abbrev pub IsReading : Event → Type 0
IsReading (Read r k p y) = Unit {0}
IsReading (Open r k) = ⊥
IsReading (Finish r planes y) = ⊥
IsReading (Hand r i p y) = ⊥
IsReading Close = ⊥

-- the lines that are made of some slices, in groups
abbrev pub MadeOf : Configuration → ℕ → (ℕ → Slice) → List Group → List wire.Line → Type 0
MadeOf c r slice [] ls = ls ≡ []
MadeOf c r slice (g ∷ gs) ls =
    (out : List (List ℕ)) × (more : List wire.Line)
    × Finishes c (map (joined_line c slice g.y) g.planes) out
    × MadeOf c r slice gs more
    × (ls ≡ map (handed c r g.y out) (numbered 0 (new_planes c r g.planes g.y)) ++ more)

pub map_each : {A B : Type 0} (f g : A → B) (xs : List A) → Each (λ x. f x ≡ g x) xs → map f xs ≡ map g xs
map_each f g [] same = refl
map_each f g (x ∷ xs) same = ap (λ z. z ∷ map f xs) same.0 ∙ ap (λ zs. g x ∷ zs) (map_each f g xs same.1)

-- a row of a cell is not changed by samples after it
pub row_before : (width y : ℕ) (samples more : List ℕ) → suc y * width ≤ length samples → row_in width y (samples ++ more) ≡ row_in width y samples
row_before width y samples more long =
    let front : y * width ≤ length samples = omega (arith, long) in
    let back : width ≤ length (drop (y * width) samples) = rw (length-drop (y * width) samples) (omega (arith, long)) in
    ap (take width) (drop-append-le (y * width) samples more front) ∙ take-append-le width (drop (y * width) samples) more back

module _ (c : Configuration) (r : ℕ) where
  pub column_of_row : (planes : List ℕ) (k y : ℕ) → k < c.columns → Each (λ p. p < plane_count c) planes → Each (IsOfRow c r) (column_events r planes y k)
  column_of_row [] k y here inside = tt
  column_of_row (p ∷ planes) k y here inside = ((refl, here, inside.0), column_of_row planes k y here inside.1)

  pub reads_of_row : (g : Group) → IsGroup c r g → Each (IsOfRow c r) (flat_map (column_events r g.planes g.y) (range_with_len 0 c.columns))
  reads_of_row g is = each_range (IsOfRow c r) (column_events r g.planes g.y) 0 c.columns (λ k least most. column_of_row g.planes k g.y (omega (arith, most)) is.inside)

  pub group_of_row : (g : Group) → IsGroup c r g → Each (IsOfRow c r) (group_events c r g)
  group_of_row g is =
      each_append (IsOfRow c r) (flat_map (column_events r g.planes g.y) (range_with_len 0 c.columns)) (Finish r g.planes g.y ∷ hand_events r (new_planes c r g.planes g.y) g.y)
      (reads_of_row g is)
      (refl, each_map (IsOfRow c r) (λ (ip : ℕ × ℕ). Hand r ip.0 ip.1 g.y) (numbered 0 (new_planes c r g.planes g.y)) (λ ip. refl))

  pub groups_of_row : (gs : List Group) → Each (IsGroup c r) gs → Each (IsOfRow c r) (flat_map (group_events c r) gs)
  groups_of_row gs are = each_flat (IsOfRow c r) (IsGroup c r) (group_events c r) gs are group_of_row

-- a slice goes on
module _ (a : Accepted) (coded : ℕ → List ℕ) (r k : ℕ) where
  record GoesOn (first : Slice) (ls : List Line) (q : Slice) : Type 0 where
    pub many : length q.cells ≡ plane_count a.configuration
    pub more : Longer a coded r k first q

  pub longer_again : (q m t : Slice) → Longer a coded r k q m → Longer a coded r k m t → Longer a coded r k q t
  longer_again q m t f g = record {
    head = g.head ∙ f.head;
    many = g.many ∙ f.many;
    more = λ p. ((f.more p).0 ++ (g.more p).0, (g.more p).1 ∙ ap (λ xs. xs ++ (g.more p).0) (f.more p).1 ∙ append_assoc (plane q.cells p) (f.more p).0 (g.more p).0);
  }

  pub goes_on : (es : List Event) (s t : State) → Each (IsOfRow a.configuration r) es → k < length s.columns → length (slice_at s k).cells ≡ plane_count a.configuration →
      Runs (StepsBy a coded) s es t → Longer a coded r k (slice_at s k) (slice_at t k)
  goes_on es s t all inside many f =
      let first : GoesOn (slice_at s k) [] (slice_at s k) = record { many = many; more = record { head = refl; many = refl; more = λ p. ([], sym (append-nil (plane (slice_at s k).cells p))) } } in
      (column_runs a coded r k (GoesOn (slice_at s k))
      (λ ls q t e goes next.
      let more = longer a coded r k e q t goes.many next in
      record { many = more.many ∙ goes.many; more = longer_again (slice_at s k) q t goes.more more })
      es [] s t all inside f first).more

module _ (a : Accepted) (coded : ℕ → List ℕ) (r : ℕ) where
  -- what a group makes of a state
  pub record GroupMade (g : Group) (s t : State) : Type 0 where
    pub middle : State
    pub out : List (List ℕ)
    pub reads : Runs (StepsBy a coded) s (flat_map (column_events r g.planes g.y) (range_with_len 0 a.configuration.columns)) middle
    pub finishes : Finishes a.configuration (map (coded_line a.configuration middle g.y) g.planes) out
    pub columns : t.columns ≡ middle.columns
    pub lines : t.lines ≡ s.lines ++ map (handed a.configuration r g.y out) (numbered 0 (new_planes a.configuration r g.planes g.y))

  pub hands_made : (y : ℕ) (ips : List (ℕ × ℕ)) (s t : State) → Runs (StepsBy a coded) s (map (λ (ip : ℕ × ℕ). Hand r ip.0 ip.1 y) ips) t →
      (t.columns ≡ s.columns) × (t.lines ≡ s.lines ++ map (handed a.configuration r y s.out) ips)
  hands_made y [] s t f = (ap (λ (z : State). z.columns) f, ap (λ (z : State). z.lines) f ∙ sym (append-nil s.lines))
  hands_made y (ip ∷ ips) s t f =
      let rest = hands_made y ips f.0 t f.2 in
      let here : wire.Line = handed a.configuration r y s.out ip in (
        rest.0 ∙ ap (λ (z : State). z.columns) f.1,
        rest.1 ∙ ap (λ (z : State). z.lines ++ map (handed a.configuration r y z.out) ips) f.1 ∙ append_assoc s.lines (here ∷ []) (map (handed a.configuration r y s.out) ips),
      )

  pub reads_keep : (es : List Event) (s t : State) → Each IsReading es → Runs (StepsBy a coded) s es t → t.lines ≡ s.lines
  reads_keep [] s t all f = ap (λ (z : State). z.lines) f
  reads_keep (Read j k p y ∷ es) s t all f = reads_keep es f.0 t all.1 f.2 ∙ ap (λ (z : State). z.lines) f.1.3
  reads_keep (Open j k ∷ es) s t all f = absurd all.0
  reads_keep (Finish j planes y ∷ es) s t all f = absurd all.0
  reads_keep (Hand j i p y ∷ es) s t all f = absurd all.0
  reads_keep (Close ∷ es) s t all f = absurd all.0

  pub group_made : (g : Group) (s t : State) → Runs (StepsBy a coded) s (group_events a.configuration r g) t → GroupMade g s t
  group_made g s t f =
      let c = a.configuration in
      let reads = flat_map (column_events r g.planes g.y) (range_with_len 0 c.columns) in
      let parts = runs_split (StepsBy a coded) s t reads (Finish r g.planes g.y ∷ hand_events r (new_planes c r g.planes g.y) g.y) f in
      let m = parts.0 in
      let finish = parts.2 in
      let hands = hands_made g.y (numbered 0 (new_planes c r g.planes g.y)) finish.0 t finish.2 in
      let keeps = reads_keep reads s m (each_range IsReading (column_events r g.planes g.y) 0 c.columns (λ k least most. each_map IsReading (λ p. Read r k p g.y) g.planes (λ p. tt))) parts.1 in
      record {
        middle = m;
        out = finish.1.0;
        reads = parts.1;
        finishes = finish.1.1;
        columns = hands.0 ∙ ap (λ (z : State). z.columns) finish.1.2;
        lines =
            hands.1 ∙ ap (λ (z : State). z.lines ++ map (handed c r g.y z.out) (numbered 0 (new_planes c r g.planes g.y))) finish.1.2
            ∙ ap (λ ls. ls ++ map (handed c r g.y finish.1.0) (numbered 0 (new_planes c r g.planes g.y))) keeps;
      }

module _ (a : Accepted) (coded : ℕ → List ℕ) (r : ℕ) (laws : CellLaws) (some : (p k : ℕ) → k < a.configuration.columns → 0 < width_in a.configuration p k) where
  -- each slice of the row has read these lines
  abbrev pub AllHave : List Line → State → Type 0
  AllHave ls s = (k : ℕ) → k < a.configuration.columns → HasRead a coded r k ls (slice_at s k)

  pub have_more : (es : List Event) (pre : List Line) (s t : State) → Each (IsOfRow a.configuration r) es → length s.columns ≡ a.configuration.columns →
      Runs (StepsBy a coded) s es t → AllHave pre s → (k : ℕ) → k < a.configuration.columns → HasRead a coded r k (pre ++ reads_of k es) (slice_at t k)
  have_more es pre s t all long f have k inside =
      column_runs a coded r k (HasRead a coded r k) (has_read_more a coded r k (λ p. some p k inside) laws) es pre s t all (rw long inside) f (have k inside)

  joined_each : (m t : State) (y : ℕ) (planes : List ℕ) →
      ((k : ℕ) → k < a.configuration.columns → Longer a coded r k (slice_at m k) (slice_at t k)) →
      ((k : ℕ) → k < a.configuration.columns → Each (IsRead a coded r k (slice_at m k)) (lines_at planes y)) →
      Each (λ p. joined_line a.configuration (slice_at m) y p ≡ joined_line a.configuration (slice_at t) y p) planes
  joined_each m t y [] more are = tt
  joined_each m t y (p ∷ planes) more are =
      let c = a.configuration in (
        flat_range_same (λ k. own_row c p k y (plane (slice_at m k).cells p)) (λ k. own_row c p k y (plane (slice_at t k).cells p)) 0 c.columns
            (λ k least most.
            let inside : k < c.columns = omega (arith, most) in
            let longer = (more k inside).more p in
            sym (ap (own_row c p k y) longer.1 ∙ ap (drop (shared_of (across (division_of c) p) k)) (row_before (width_in c p k) y (plane (slice_at m k).cells p) longer.0 (are k inside).0))),
        joined_each m t y planes more (λ k inside. (are k inside).1),
      )

  pub record RowMade (gs : List Group) (s t : State) : Type 0 where
    pub lines : List wire.Line
    pub made : MadeOf a.configuration r (slice_at t) gs lines
    pub behind : t.lines ≡ s.lines ++ lines
    pub long : length t.columns ≡ length s.columns

  pub row_made : (gs : List Group) (pre : List Line) (s t : State) → Each (IsGroup a.configuration r) gs → length s.columns ≡ a.configuration.columns → AllHave pre s →
      Runs (StepsBy a coded) s (flat_map (group_events a.configuration r) gs) t → RowMade gs s t
  row_made [] pre s t are long have f = record {
    lines = [];
    made = refl;
    behind = ap (λ (z : State). z.lines) f ∙ sym (append-nil s.lines);
    long = ap (λ (z : State). length z.columns) f;
  }
  row_made (g ∷ gs) pre s t are long have f =
      let c = a.configuration in
      let reads = flat_map (column_events r g.planes g.y) (range_with_len 0 c.columns) in
      let parts = runs_split (StepsBy a coded) s t (group_events c r g) (flat_map (group_events c r) gs) f in
      let u = parts.0 in
      let made = group_made a coded r g s u parts.1 in
      let m = made.middle in
      let m_long : length m.columns ≡ c.columns = columns_kept_along a coded r reads s m (reads_of_row c r g are.0) made.reads ∙ long in
      let u_long : length u.columns ≡ c.columns = ap (λ qs. length qs) made.columns ∙ m_long in
      let same : (k : ℕ) → slice_at u k ≡ slice_at m k = λ k. ap (λ qs. get_or qs k unread) made.columns in
      let have_m : AllHave (pre ++ group_lines g) m = λ k inside.
      subst (λ ls. HasRead a coded r k (pre ++ ls) (slice_at m k)) (columns_read c.columns r k g.y g.planes inside)
      (have_more reads pre s m (reads_of_row c r g are.0) long made.reads have k inside) in
      let have_u : AllHave (pre ++ group_lines g) u = λ k inside. subst (HasRead a coded r k (pre ++ group_lines g)) (sym (same k)) (have_m k inside) in
      let rest = row_made gs (pre ++ group_lines g) u t are.1 u_long have_u parts.2 in
      let more : (k : ℕ) → k < c.columns → Longer a coded r k (slice_at m k) (slice_at t k) = λ k inside.
      subst (λ q. Longer a coded r k q (slice_at t k)) (same k)
      (goes_on a coded r k (flat_map (group_events c r) gs) u t (groups_of_row c r gs are.1) (rw u_long inside) (have_u k inside).many parts.2) in
      let joined = map_each (joined_line c (slice_at m) g.y) (joined_line c (slice_at t) g.y) g.planes
      (joined_each m t g.y g.planes more (λ k inside. each_right (IsRead a coded r k (slice_at m k)) pre (group_lines g) (have_m k inside).are)) in
      let here = map (handed c r g.y made.out) (numbered 0 (new_planes c r g.planes g.y)) in
      record {
        lines = here ++ rest.lines;
        made = (made.out, rest.lines, subst (λ read. Finishes c read made.out) joined made.finishes, rest.made, refl);
        behind = rest.behind ∙ ap (λ ls. ls ++ rest.lines) made.lines ∙ append_assoc s.lines here rest.lines;
        long = rest.long ∙ u_long ∙ sym long;
      }
