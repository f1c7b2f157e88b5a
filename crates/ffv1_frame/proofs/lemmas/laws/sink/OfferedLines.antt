-- Each line that is handed over is a line of the configuration, so a sink of those refuses none.
use Rattle.std.proofs.Common.{◌≡◌, ◌≢◌, refl, ℕ, zero, suc, ◌+◌, ◌*◌, ◌<◌, ◌≤◌, Bool, true, false, Result, Ok, Err, List, [], ◌∷◌, ◌++◌, map, length, get_or, replicate, inl, inr, ap, sym, subst, ◌∙◌, arith}
use Rattle.std.specs.Prelude.{slice_index}
use Rattle.std.specs.List.{flat_map, range_with_len}
use Rattle.std.proofs.lemmas.List.{length-map, length-replicate}
use Rattle.std.proofs.lemmas.List.FromFn.{length-range_with_len}
use Rattle.ffv1_wire.specs.Runs.{LineStep, Line, Grows}
use Rattle.ffv1_range.specs.declared.tally.Tally.{Tally}
use Rattle.ffv1_samples.specs.Samples.{bytes_of, sample_bytes}
use Rattle.ffv1_samples.proofs.Depths.{length_bytes}
use Rattle.ffv1_record.specs.Configuration.{is_rct}
use Rattle.ffv1_record.specs.Accepted.{Accepted}
use Rattle.ffv1_slice.specs.Grid.{Division, division_of, down}
use Rattle.ffv1_slice.specs.Cutting.{coded_of}
use Rattle.ffv1_slice.specs.Footer.{foot_length}
use Rattle.ffv1_slice.specs.declared.cutting.CutFault.{CutFault}
use Rattle.ffv1_slice.specs.declared.fault.SliceFault.{SliceFault}
use Rattle.ffv1_slice.specs.declared.fault.SliceFault.TheVariants as slice
use Rattle.ffv1_frame.specs.declared.fault.CodecFault.{CodecFault}
use Rattle.ffv1_frame.specs.declared.fault.CodecFault.TheVariants as fault
use Rattle.ffv1_frame.specs.declared.fault.FrameFault.{FrameFault}
use Rattle.ffv1_frame.specs.Picture.{plane_count, plane_width, line_bytes}
use Rattle.ffv1_frame.specs.SliceList as list
use Rattle.ffv1_frame.specs.Order.{Event, events_of, row_events, series_events, series_of, column_events, hand_events, new_planes, numbered, lines_down}
use Rattle.ffv1_frame.specs.Order.Event.{Open, Read, Finish, Hand, Close}
use Rattle.ffv1_frame.specs.Runs.{Steps, Runs}
use Rattle.ffv1_frame.specs.Answer.{AnswersCut, cut_fault}
use Rattle.ffv1_frame.specs.Decoding as decoding
use Rattle.ffv1_frame.specs.Decoding.{State, StepsBy, FaultsWith, Finishes, FinishesBy, Offers, at_first, slice_at, top_of, unread, of_slice, of_rice, ending_fault}
use Rattle.ffv1_record.specs.Accepted.{is_rice}
use Rattle.std.proofs.lemmas.Bool.{cases_Bool}
use Rattle.ffv1_rice.specs.declared.fault.Fault.{Fault}
use Rattle.ffv1_rice.specs.declared.fault.Fault.TheVariants as reason
use Rattle.ffv1_frame.specs.Kept.{IsLine}
use Rattle.ffv1_frame.proofs.lemmas.laws.decoding.Machines.{Each, each_both, each_left, each_right, each_range, each_map, runs_split, stops_at}
use Rattle.ffv1_frame.proofs.lemmas.laws.decoding.LinesRead.{lines_at, columns_read, line_reads}
use Rattle.ffv1_frame.proofs.lemmas.laws.decoding.Groups.{Group, IsGroup, group_events, group_lines, groups_of, groups_are, row_by_groups}
use Rattle.ffv1_frame.proofs.lemmas.laws.decoding.ColumnSteps.{IsOfRow, columns_kept_along}
use Rattle.ffv1_frame.proofs.lemmas.laws.decoding.SliceBodies.{HasRead, IsRead}
use Rattle.ffv1_frame.proofs.lemmas.laws.decoding.LinesMade.{AllHave, have_more, reads_of_row, groups_of_row, joined_line}
use Rattle.ffv1_frame.proofs.lemmas.picture.LineSizes.{IsThere, by_number, joined_long, numbered_range}
use Rattle.ffv1_frame.proofs.lemmas.laws.decoding.CellsShown.{inside_side}
use Rattle.ffv1_frame.proofs.lemmas.laws.decoding.NewPlanes.{each_new}
use Rattle.ffv1_frame.proofs.lemmas.laws.decoding.RowsDone.{opens}
use Rattle.ffv1_frame.proofs.lemmas.picture.Words.{get_or_bytes}
use Rattle.ffv1_frame.proofs.lemmas.laws.decoding.PictureMade.{PictureLaws, alike_lines, some_wide, each_all}

module _ {S E : Type 0} (step : Steps S E) (Fine : S → E → Type 0) where
  -- whatever the events lead to, the next one is fine
  abbrev pub AllFine : S → List E → Type 0
  AllFine s [] = Unit {0}
  AllFine s (e ∷ es) = Fine s e × ((m : S) → step s e m → AllFine m es)

  fine_append : (s : S) (xs ys : List E) → AllFine s xs → ((m : S) → Runs step s xs m → AllFine m ys) → AllFine s (xs ++ ys)
  fine_append s [] ys f rest = rest s refl
  fine_append s (x ∷ xs) ys f rest = (f.0, λ m here. fine_append m xs ys (f.1 m here) (λ n more. rest n (m, here, more)))

  fine_here : (s t : S) (before after : List E) (e : E) → AllFine s (before ++ (e ∷ after)) → Runs step s before t → Fine t e
  fine_here s t [] after e f run = subst (λ z. Fine z e) (sym run) f.0
  fine_here s t (b ∷ before) after e f run = fine_here run.0 t before after e (f.1 run.0 run.1) run.2

  fine_each : (P : E → Type 0) → ((s : S) (e : E) → P e → Fine s e) → (es : List E) (s : S) → Each P es → AllFine s es
  fine_each P own [] s all = tt
  fine_each P own (e ∷ es) s all = (own s e all.0, λ m here. fine_each P own es m all.1)

-- an event that hands nothing over
abbrev IsQuiet : Event → Type 0
IsQuiet (Open r k) = Unit {0}
IsQuiet (Read r k p y) = Unit {0}
IsQuiet (Finish r planes y) = Unit {0}
IsQuiet (Hand r i p y) = ⊥
IsQuiet Close = Unit {0}

module _ (a : Accepted) (coded : ℕ → List ℕ) (laws : PictureLaws a) where
  -- a line that is handed over is one of the configuration
  abbrev IsOffered : State → Event → Type 0
  IsOffered s (Open r k) = Unit {0}
  IsOffered s (Read r k p y) = Unit {0}
  IsOffered s (Finish r planes y) = Unit {0}
  IsOffered s (Hand r i p y) = IsLine (division_of a.configuration) p (top_of a.configuration p r + y) (get_or s.out i [])
  IsOffered s Close = Unit {0}

  abbrev Good : State → List Event → Type 0
  Good s es = AllFine (StepsBy a coded) IsOffered s es

  quiet : (s : State) (e : Event) → IsQuiet e → IsOffered s e
  quiet s (Open r k) own = tt
  quiet s (Read r k p y) own = tt
  quiet s (Finish r planes y) own = tt
  quiet s (Hand r i p y) own = absurd own
  quiet s Close own = tt

  abbrev IsLong : List (List ℕ) → ℕ × ℕ → Type 0
  IsLong out ip = length (get_or out ip.0 []) ≡ line_bytes a.configuration ip.1

  abbrev IsWide : List (List ℕ) → ℕ × ℕ → Type 0
  IsWide made ip = length (get_or made ip.0 []) ≡ plane_width a.configuration ip.1

  abbrev IsOwn : ℕ → ℕ → List (List ℕ) → ℕ × ℕ → Type 0
  IsOwn r y out ip = IsLine (division_of a.configuration) ip.1 (top_of a.configuration ip.1 r + y) (get_or out ip.0 [])

  hands : (r y : ℕ) (out : List (List ℕ)) (ips : List (ℕ × ℕ)) (s : State) → s.out ≡ out → Each (IsOwn r y out) ips → Good s (map (λ (ip : ℕ × ℕ). Hand r ip.0 ip.1 y) ips)
  hands r y out [] s same all = tt
  hands r y out (ip ∷ ips) s same all = (
    subst (λ o. IsOwn r y o ip) (sym same) all.0,
    λ m here. hands r y out ips m (ap (λ (z : State). z.out) here ∙ same) all.1,
  )

  module _ (r : ℕ) (r_inside : r < a.configuration.rows) where
    own_lines : (y : ℕ) (out : List (List ℕ)) (planes : List ℕ) (i : ℕ) → Each (λ p. p < plane_count a.configuration) planes → Each (λ p. y < lines_down a.configuration p r) planes →
        Each (IsLong out) (numbered i planes) → Each (IsOwn r y out) (numbered i planes)
    own_lines y out [] i inside down_inside long = tt
    own_lines y out (p ∷ planes) i inside down_inside long = (
      record {
        in_plane = inside.0;
        in_height = inside_side (down (division_of a.configuration) p) (laws.tiles_v p) r y r_inside down_inside.0;
        long = long.0;
      },
      own_lines y out planes (suc i) inside.1 down_inside.1 long.1,
    )

    abbrev There : State → list.Line → Type 0
    There s l = IsThere a.configuration (slice_at s) laws.tiles_h laws.in_rct.wide laws.in_rct.few r l

    wide_plain : (s : State) (y : ℕ) (out : List (List ℕ)) (planes : List ℕ) (i : ℕ) → Each (There s) (lines_at planes y) →
        Each (λ (ip : ℕ × ℕ). get_or out ip.0 [] ≡ joined_line a.configuration (slice_at s) y ip.1) (numbered i planes) → Each (IsWide out) (numbered i planes)
    wide_plain s y out [] i there same = tt
    wide_plain s y out (p ∷ planes) i there same = (
      ap (λ (xs : List ℕ). length xs) same.0 ∙ joined_long a.configuration (slice_at s) laws.tiles_h laws.in_rct.wide laws.in_rct.few r y p there.0,
      wide_plain s y out planes (suc i) there.1 same.1,
    )

    wide_by : (rct : Bool) → is_rct a.configuration.colour ≡ rct → (s : State) (g : Group) (out : List (List ℕ)) → IsGroup a.configuration r g → Each (There s) (group_lines g) →
        FinishesBy rct a.configuration (map (joined_line a.configuration (slice_at s) g.y) g.planes) out → Each (IsWide out) (numbered 0 g.planes)
    wide_by true e s g out is there f =
        let c = a.configuration in
        let many : length (map (joined_line c (slice_at s) g.y) g.planes) ≡ plane_count c =
        length-map g.planes (joined_line c (slice_at s) g.y) ∙ ap (λ (ps : List ℕ). length ps) (is.rct e) ∙ length-range_with_len 0 (plane_count c) in
        each_both (λ (ip : ℕ × ℕ). (ip.0 ≡ ip.1) × (ip.1 < plane_count c)) (IsWide out) (numbered 0 g.planes)
        (subst (λ ps. Each (λ (ip : ℕ × ℕ). (ip.0 ≡ ip.1) × (ip.1 < plane_count c)) (numbered 0 ps)) (sym (is.rct e)) (numbered_range 0 (plane_count c) (plane_count c) (omega arith)))
        (λ ip own. f.1 ip.0 (rw (many, own.0) own.1) ∙ sym (laws.in_rct.wide e ip.1))
    wide_by false e s g out is there f =
        wide_plain s g.y out g.planes 0 there
        (subst (λ xs. Each (λ (ip : ℕ × ℕ). get_or xs ip.0 [] ≡ joined_line a.configuration (slice_at s) g.y ip.1) (numbered 0 g.planes)) (sym f)
        (by_number (joined_line a.configuration (slice_at s) g.y) [] g.planes))

    long_bytes : (made : List (List ℕ)) (ips : List (ℕ × ℕ)) → Each (IsWide made) ips → Each (IsLong (map (bytes_of a.configuration.depth) made)) ips
    long_bytes made ips all =
        let depth = a.configuration.depth in
        each_both (IsWide made) (IsLong (map (bytes_of depth) made)) ips all
        (λ ip is. ap (λ (xs : List ℕ). length xs) (get_or_bytes depth ip.0 made) ∙ length_bytes depth (get_or made ip.0 []) ∙ ap (λ n. sample_bytes depth * n) is)

    long_by : (s : State) (g : Group) (out : List (List ℕ)) → IsGroup a.configuration r g → Each (There s) (group_lines g) →
        Finishes a.configuration (map (joined_line a.configuration (slice_at s) g.y) g.planes) out → Each (IsLong out) (numbered 0 g.planes)
    long_by s g out is there f =
        subst (λ o. Each (IsLong o) (numbered 0 g.planes)) (sym f.bytes)
        (long_bytes f.made (numbered 0 g.planes) (wide_by (is_rct a.configuration.colour) refl s g f.made is there f.by))

    reads_quiet : (g : Group) → Each IsQuiet (flat_map (column_events r g.planes g.y) (range_with_len 0 a.configuration.columns))
    reads_quiet g = each_range IsQuiet (column_events r g.planes g.y) 0 a.configuration.columns (λ k least most. each_map IsQuiet (λ p. Read r k p g.y) g.planes (λ p. tt))

    abbrev Have : List list.Line → State → Type 0
    Have ls s = AllHave a coded r laws.cells (some_wide a laws) ls s

    group_good : (g : Group) (pre : List list.Line) (s : State) → IsGroup a.configuration r g → length s.columns ≡ a.configuration.columns → Have pre s → Good s (group_events a.configuration r g)
    group_good g pre s is long have =
        let c = a.configuration in
        let reads = flat_map (column_events r g.planes g.y) (range_with_len 0 c.columns) in
        fine_append (StepsBy a coded) IsOffered s reads (Finish r g.planes g.y ∷ hand_events r (new_planes c r g.planes g.y) g.y)
        (fine_each (StepsBy a coded) IsOffered IsQuiet quiet reads s (reads_quiet g))
        (λ m run.
        let have_m : (k : ℕ) → k < c.columns → HasRead a coded r k (pre ++ group_lines g) (slice_at m k) = λ k inside.
        subst (λ ls. HasRead a coded r k (pre ++ ls) (slice_at m k)) (columns_read c.columns r k g.y g.planes inside)
        (have_more a coded r laws.cells (some_wide a laws) reads pre s m (reads_of_row c r g is) long run have k inside) in
        let there : Each (There m) (group_lines g) =
        each_all c.columns (λ k l. IsRead a coded r k (slice_at m k) l) (group_lines g)
        (λ k inside. each_right (IsRead a coded r k (slice_at m k)) pre (group_lines g) (have_m k inside).are) in (
          tt,
          λ t finish. hands r g.y finish.0 (numbered 0 (new_planes c r g.planes g.y)) t (ap (λ (z : State). z.out) finish.2)
              (each_new (IsOwn r g.y finish.0) c r g.planes g.y (own_lines g.y finish.0 g.planes 0 is.inside is.down (long_by m g finish.0 is there finish.1))),
        ))

    groups_good : (gs : List Group) (pre : List list.Line) (s : State) → Each (IsGroup a.configuration r) gs → length s.columns ≡ a.configuration.columns → Have pre s →
        Good s (flat_map (group_events a.configuration r) gs)
    groups_good [] pre s are long have = tt
    groups_good (g ∷ gs) pre s are long have =
        let c = a.configuration in
        let all : Each (IsOfRow c r) (group_events c r g) = each_left (IsOfRow c r) (group_events c r g) [] (groups_of_row c r (g ∷ []) (are.0, tt)) in
        fine_append (StepsBy a coded) IsOffered s (group_events c r g) (flat_map (group_events c r) gs) (group_good g pre s are.0 long have)
        (λ u run. groups_good gs (pre ++ group_lines g) u are.1 (columns_kept_along a coded r (group_events c r g) s u all run ∙ long)
        (λ k inside. subst (λ ls. HasRead a coded r k (pre ++ ls) (slice_at u k)) (line_reads c r k g.y g.planes inside)
        (have_more a coded r laws.cells (some_wide a laws) (group_events c r g) pre s u all long run have k inside)))

    row_good : (s : State) → s.columns ≡ replicate a.configuration.columns unread → Good s (row_events a.configuration r)
    row_good s fresh =
        let c = a.configuration in
        let long : length s.columns ≡ c.columns = ap (λ qs. length qs) fresh ∙ length-replicate {A = decoding.Slice} c.columns unread in
        let first = map (Open r) (range_with_len 0 c.columns) in
        fine_append (StepsBy a coded) IsOffered s first (flat_map (series_events c r) (series_of c r) ++ (Close ∷ []))
        (fine_each (StepsBy a coded) IsOffered IsQuiet quiet first s (each_map IsQuiet (Open r) (range_with_len 0 c.columns) (λ k. tt)))
        (λ o run.
        let all = opens a coded r 0 c.columns s o (omega (arith, long)) run in
        subst (λ es. Good o (es ++ (Close ∷ []))) (sym (row_by_groups c r))
        (fine_append (StepsBy a coded) IsOffered o (flat_map (group_events c r) (groups_of c r)) (Close ∷ [])
        (groups_good (groups_of c r) [] o (groups_are c r (λ rct p. alike_lines a laws rct p r)) (all.long ∙ long) (λ k inside. (all.each k (omega arith) (omega (arith, inside))).0))
        (λ t more. (tt, λ n close. tt))))

    row_fresh : (s t : State) → Runs (StepsBy a coded) s (row_events a.configuration r) t → t.columns ≡ replicate a.configuration.columns unread
    row_fresh s t run =
        let c = a.configuration in
        let lines = flat_map (series_events c r) (series_of c r) in
        let first = runs_split (StepsBy a coded) s t (map (Open r) (range_with_len 0 c.columns)) (lines ++ (Close ∷ [])) run in
        let later = runs_split (StepsBy a coded) first.0 t lines (Close ∷ []) first.2 in
        ap (λ (z : State). z.columns) (later.2.2 ∙ later.2.1)

  rows_good : (from count : ℕ) (s : State) → from + count ≤ a.configuration.rows → s.columns ≡ replicate a.configuration.columns unread →
      Good s (flat_map (row_events a.configuration) (range_with_len from count))
  rows_good from zero s fits fresh = tt
  rows_good from (suc count) s fits fresh =
      let inside : from < a.configuration.rows = omega (arith, fits) in
      fine_append (StepsBy a coded) IsOffered s (row_events a.configuration from) (flat_map (row_events a.configuration) (range_with_len (from + 1) count)) (row_good from inside s fresh)
      (λ t run. rows_good (from + 1) count t (omega (arith, fits)) (row_fresh from inside s t run))

  pub offered : (r i p y : ℕ) (t : State) → Offers a coded r i p y t → IsLine (division_of a.configuration) p (top_of a.configuration p r + y) (get_or t.out i [])
  offered r i p y t o =
      fine_here (StepsBy a coded) IsOffered (at_first a.configuration) t o.before o.after (Hand r i p y)
      (subst (Good (at_first a.configuration)) o.parts (rows_good 0 a.configuration.rows (at_first a.configuration) (omega arith) refl)) o.runs

-- decoding has no fault of the sink
pub slice_own : (g : SliceFault) → of_slice g ≢ fault.Sink
slice_own slice.OutOfMemory = λ e. cc
slice_own slice.SymbolTooLong = λ e. cc
slice_own slice.NotKey = λ e. cc
slice_own slice.Place = λ e. cc
slice_own slice.SetIndex = λ e. cc
slice_own slice.Structure = λ e. cc
slice_own slice.Aspect = λ e. cc
slice_own slice.Footer = λ e. cc
slice_own slice.Leftover = λ e. cc
slice_own slice.SliceParity = λ e. cc
slice_own slice.SliceStatus = λ e. cc
slice_own slice.SliceTooLong = λ e. cc

pub other_fault : (f g : CodecFault) → f ≡ g → g ≢ fault.Sink → f ≢ fault.Sink
other_fault f g same other = λ sink. other (sym same ∙ sink)

not_sink : (g : CodecFault) → (g ≡ fault.BadStart) → g ≢ fault.Sink
not_sink g same = λ e. cc

rice_own : (reason : Fault) → of_rice reason ≢ fault.Sink
rice_own reason.BitsEnd = λ e. cc
rice_own reason.BadCode = λ e. cc

ending_own : (b : Bool) → ending_fault b ≢ fault.Sink
ending_own false = λ e. cc
ending_own true = λ e. cc

module _ (a : Accepted) (coded : ℕ → List ℕ) where
  event_own : (s t : State) (e : Event) (f : FrameFault) → FaultsWith a coded s e f t → f.fault ≢ fault.Sink
  event_own s t (Open r k) f h = elim h.1 [
    | inl start ↦ other_fault f.fault fault.BadStart start.0 (λ e. cc)
    | inr more ↦ elim more [
      | inl key ↦ other_fault f.fault fault.NotKey key.0 (λ e. cc)
      | inr rest ↦ elim rest [
        | inl head ↦ other_fault f.fault (of_slice head.0) head.3 (slice_own head.0)
        | inr last ↦ elim last [
          | inl differs ↦ other_fault f.fault fault.InfoDiffers differs.5 (λ e. cc)
          | inr over ↦ other_fault f.fault fault.Overread over.2 (λ e. cc)
        ]
      ]
    ]
  ]
  event_own s t (Read r k p y) f h = elim h [
    | inl stop ↦ elim (cases_Bool (is_rice a.configuration.coder)) [
      | inl is ↦ other_fault f.fault (of_rice (stop.rice is).2) (ap (λ (z : FrameFault). z.fault) (stop.rice is).4) (rice_own (stop.rice is).2)
      | inr is ↦ other_fault f.fault fault.SymbolTooLong (ap (λ (z : FrameFault). z.fault) (stop.range is).3) (λ e. cc)
    ]
    | inr looked ↦ elim looked [
      | inl over ↦ other_fault f.fault fault.Overread (ap (λ (z : FrameFault). z.fault) over.3) (λ e. cc)
      | inr later ↦ elim later [
        | inl late ↦ other_fault f.fault (ending_fault (is_rice a.configuration.coder)) (ap (λ (z : FrameFault). z.fault) late.3) (ending_own (is_rice a.configuration.coder))
        | inr differs ↦ other_fault f.fault fault.Overlap (ap (λ (z : FrameFault). z.fault) differs.4) (λ e. cc)
      ]
    ]
  ]
  event_own s t (Finish r planes y) f h = other_fault f.fault fault.Colour (ap (λ (z : FrameFault). z.fault) h.4) (λ e. cc)
  event_own s t (Hand r i p y) f h = absurd h
  event_own s t Close f h = absurd h

  pub fault_own : (f : FrameFault) (t : State) → decoding.Refuses a coded f t → f.fault ≢ fault.Sink
  fault_own f t h =
      let at = stops_at (StepsBy a coded) (FaultsWith a coded) (at_first a.configuration) t f (events_of a.configuration) h in
      event_own at.state t at.event f at.refused

-- a sink that keeps its grid
module _ {S : Type 0} (takes refuses : LineStep S) (grid : S → Division) (same : (s t : S) (p y : ℕ) (samples : List ℕ) → takes s p y samples t → grid t ≡ grid s)
    (only : (s t : S) (p y : ℕ) (samples : List ℕ) → refuses s p y samples t → IsLine (grid s) p y samples → ⊥) where
  grid_kept : (s t : S) (ls : List Line) → Grows takes s ls t → grid t ≡ grid s
  grid_kept s t [] g = ap grid g
  grid_kept s t (l ∷ ls) g = grid_kept g.0 t ls g.2 ∙ same s g.0 l.plane l.row l.samples g.1

  pub never_sink : (a : Accepted) (payload : List ℕ) (old new : S) (tally : Tally) (f : FrameFault) (cut : Result (List ℕ) CutFault) →
      ((coded : ℕ → List ℕ) (r i p y : ℕ) (t : State) → Offers a coded r i p y t → IsLine (division_of a.configuration) p (top_of a.configuration p r + y) (get_or t.out i [])) →
      AnswersCut takes refuses a payload old new tally (Err f) cut → grid old ≡ division_of a.configuration → f.fault ≢ fault.Sink
  never_sink a payload old new tally f (Err g) lines answer own =
      let is : f ≡ cut_fault g = cc in
      other_fault f.fault (of_slice g.fault) (ap (λ (z : FrameFault). z.fault) is) (slice_own g.fault)
  never_sink a payload old new tally f (Ok os) lines answer own =
      let coded = coded_of payload (foot_length a.configuration.ec) (slice_index os) in
      elim answer [
        | inl faults ↦ fault_own a coded f faults.state faults.refused
        | inr sink ↦
            let d = grid_kept old sink.between sink.state.lines sink.grows ∙ own in
            absurd (only sink.between new sink.plane (top_of a.configuration sink.plane sink.row + sink.line) (get_or sink.state.out sink.number []) sink.last
            (subst (λ g. IsLine g sink.plane (top_of a.configuration sink.plane sink.row + sink.line) (get_or sink.state.out sink.number [])) (sym d)
            (lines coded sink.row sink.number sink.plane sink.line sink.state sink.offers)))
      ]
