-- A row of slices is opened, and its lines are decoded: its run.
use Rattle.std.proofs.Common.{◌≡◌, refl, ℕ, zero, suc, ◌+◌, ◌-◌, ◌*◌, ◌^◌, ◌<◌, ◌≤◌, inl, Option, true, false, List, [], map, length, get_or, slice_index, replicate, take, ap, sym, subst, ◌∙◌, arith}
use Rattle.std.specs.List.{flat_map, range_with_len}
use Rattle.std.proofs.lemmas.List.{take-replicate, drop-replicate, length-replicate}
use Rattle.ffv1_wire.specs.Runs.{LineStep, Grows}
use Rattle.ffv1_record.specs.Accepted.{Accepted, is_rice}
use Rattle.ffv1_decode.specs.declared.column.Column.{Column}
use Rattle.ffv1_frame.specs.declared.fault.FrameFault.{FrameFault}
use Rattle.ffv1_frame.specs.Picture.{plane, plane_count}
use Rattle.ffv1_frame.specs.SliceList.{Said, bits_of}
use Rattle.ffv1_frame.specs.Order.{Event, series_of, series_events}
use Rattle.ffv1_frame.specs.Order.Event.{Open}
use Rattle.ffv1_frame.specs.Decoding.{State, Slice, StepsBy, FaultsWith, slice_at}
use Rattle.ffv1_range.specs.History.{HasStates}
use Rattle.ffv1_rice.specs.States.{fresh}
use Rattle.ffv1_rice.specs.Kept.{state_of, state_at}
use Rattle.ffv1_record.specs.Configuration.{Configuration}
use Rattle.ffv1_record.specs.Held.{classes_of}
use Rattle.ffv1_record.specs.Sets.{most_contexts}
use Rattle.ffv1_decode.specs.Internal.LeftBits.{AreFresh}
use Rattle.ffv1_frame.specs.Windows.{window}
use Rattle.ffv1_decode.specs.Internal.Tied.{TiedColumns, AreOpen, column_at, slots_in, row_slices}
use Rattle.ffv1_decode.specs.Internal.Progress.{PlanesKept, FailsIn}
use Rattle.ffv1_decode.specs.Internal.Shared.{AreAbove, kept_line}
use Rattle.ffv1_decode.specs.Internal.Opened.{IsOpened, RowOpened, RowRefused, row_heads}
use Rattle.ffv1_decode.specs.Internal.Rows.{RowDecoded, open_events}
use Rattle.ffv1_frame.proofs.lemmas.Sizes.{part_apart}
use Rattle.ffv1_frame.proofs.lemmas.picture.ByNumber.{plane_is}
use Rattle.ffv1_decode.proofs.lemmas.RunsInRow.{runs_append, stops_sooner}
use Rattle.ffv1_decode.proofs.lemmas.left_bits.BitsTied.{none_is_not}
use Rattle.ffv1_decode.proofs.lemmas.segment.ClassRoom.{contexts_few}
use Rattle.ffv1_decode.proofs.lemmas.states.LeftStates.{part_state}
use Rattle.ffv1_decode.proofs.lemmas.segment.SegmentReads.{Telling}
use Rattle.ffv1_decode.proofs.lemmas.segment.SegmentTied.{tied_told}
use Rattle.ffv1_decode.proofs.lemmas.row.SeriesDecodes.{fails_later}
use Rattle.ffv1_decode.proofs.lemmas.plane_lines.PlanesReads.{kept_stays}

empty_at : (n p : ℕ) → get_or (replicate {A = List ℕ} n []) p [] ≡ []
empty_at zero p = refl
empty_at (suc n) zero = refl
empty_at (suc n) (suc p) = empty_at n p

empty_plane : (n p : ℕ) → plane (replicate n []) p ≡ []
empty_plane n p = plane_is (replicate n []) p ∙ empty_at n p

fresh_window : (at w m : ℕ) → at + w ≤ m → window at w (replicate {A = ℕ} m 128) ≡ replicate w 128
fresh_window at w m fits = ap (take w) (drop-replicate at m 128) ∙ take-replicate w (m - at) 128 (omega (arith, fits))

-- a state of a slice is fresh if all of its row are
fresh_state : (c : Configuration) (k class context : ℕ) (states : List ℕ) → class < classes_of c.chroma_planes c.extra_plane → context < most_contexts c.sets → k * slots_in c + slots_in c ≤ length states → AreFresh states →
    state_at (window (k * slots_in c) (slots_in c) states) (class * most_contexts c.sets + context) ≡ fresh
fresh_state c k class context states less inside fits are =
    let most = most_contexts c.sets in
    let classes = classes_of c.chroma_planes c.extra_plane in
    let n = class * most + context in
    let apart = part_apart class classes most less in
    let all : slots_in c ≡ 32 * (classes * most) = omega arith in
    let room : 32 * n + 32 ≤ slots_in c = omega (arith, apart, inside, all) in
    let scaled : k * slots_in c ≡ 32 * (k * (classes * most)) = (let e = ap (λ z. k * z) all in omega (arith, e)) in
    let place : k * slots_in c + 32 * n ≡ 32 * (k * (classes * most) + n) = omega (arith, scaled) in
    part_state (k * slots_in c) (slots_in c) states n room ∙ ap (state_of states) place
    ∙ are.each (k * (classes * most) + n) (omega (arith, scaled, room, fits))

module _ (a : Accepted) (coded : ℕ → List ℕ) (payload : List ℕ) (r : ℕ) (columns : List Column) (first : Option Said) (s : State) (opened : RowOpened a coded payload r a.configuration.columns (row_heads columns first) s)
    (long : length columns ≡ a.configuration.columns) where
  pub opened_tied : (states : List ℕ) → (is_rice a.configuration.coder ≡ false → states ≡ replicate (length states) 128) → (is_rice a.configuration.coder ≡ true → AreFresh states) →
      length states ≡ a.configuration.columns * slots_in a.configuration → AreOpen payload a.configuration.sets columns → 0 < 2 ^ bits_of a.configuration → TiedColumns a coded r 0 payload (row_slices columns states) opened.state
  opened_tied states range rice states_long are some = record {
    known = opened.told.long ∙ long;
    each = λ k h.
        let one : IsOpened a coded payload r k (column_at columns k) opened.state = opened.each k h in
        let slots = slots_in a.configuration in
        let q = slice_at opened.state k in
        let empty : (p : ℕ) → plane q.cells p ≡ [] = λ p. ap (λ (z : Slice). plane z.cells p) one.slice_is ∙ empty_plane (plane_count a.configuration) p in
        let place = part_apart k a.configuration.columns slots h in
        let fits : k * slots + slots ≤ length states = omega (arith, place, states_long) in
        let indexes : (column_at columns k).indexes ≡ q.head.indexes = one.indexes ∙ ap (λ (z : Slice). z.head.indexes) (sym one.slice_is) in
        let open_here = are k (omega (arith, h, long)) in
        record {
          bytes_are = one.bytes_are;
          indexes = indexes;
          cells = ap (λ (z : Slice). length z.cells) one.slice_is ∙ length-replicate (plane_count a.configuration) [];
          small = λ p i. subst (λ z. slice_index z i < 2 ^ bits_of a.configuration) (sym (empty p)) some;
          begun = λ p from. empty p;
          stands = (one.stands 0).decoder;
          kept = record {
            range = λ is.
                let w : window (k * slots) slots states ≡ replicate slots 128 = ap (window (k * slots) slots) (range is) ∙ fresh_window (k * slots) slots (length states) fits in
                subst (λ z. HasStates a.table z 33 q.past) (sym w) (one.stands slots).has;
            rice = λ is. record {
              left = record { none = λ e. ap (λ (z : Slice). z.bits) one.slice_is; some = λ n e. none_is_not n (sym e ∙ one.bits) };
              known = record {
                each = λ class context less inside.
                    let few = contexts_few a.configuration q.head (column_at columns k).indexes indexes open_here.index class less in
                    fresh_state a.configuration k class context states less (omega (arith, inside, few)) fits (rice is)
                    ∙ sym (ap (λ (z : Slice). z.coder.states class context) one.slice_is);
              };
              index = one.index ∙ sym (ap (λ (z : Slice). z.coder.index) one.slice_is);
            };
          };
        };
  }

module _ {S : Type 0} (takes refuses : LineStep S) (a : Accepted) (coded : ℕ → List ℕ) (initial : S) (r : ℕ) (payload : List ℕ) (s : State) where
  abbrev opens : List Event
  opens = map (Open r) (range_with_len 0 a.configuration.columns)

  abbrev lines : List Event
  lines = flat_map (series_events a.configuration r) (series_of a.configuration r)

  pub open_fails : (columns : List Column) (f : FrameFault) (now : S) → Grows takes initial s.lines now → RowRefused a coded r a.configuration.columns columns f s → FailsIn takes refuses a coded initial r columns (open_events a.configuration r) f now s
  open_fails columns f now grows refused = inl (record {
    state = refused.state;
    stops = stops_sooner (StepsBy a coded) (FaultsWith a coded) s refused.state f opens lines refused.stops;
    told = refused.told;
    done = refused.done;
    grows = subst (λ z. Grows takes initial z now) (sym refused.lines) grows;
  })

  module _ (first : Option Said) (columns : List Column) (opened : RowOpened a coded payload r a.configuration.columns (row_heads columns first) s) where
    pub opened_grows : (now : S) → Grows takes initial s.lines now → Grows takes initial opened.state.lines now
    opened_grows now grows = subst (λ (z : State). Grows takes initial z.lines now) (sym opened.same) grows

    pub lines_fail : (after : List Column) (f : FrameFault) (now : S) → FailsIn takes refuses a coded initial r after lines f now opened.state → FailsIn takes refuses a coded initial r after (open_events a.configuration r) f now s
    lines_fail after f now fails = fails_later takes refuses a coded initial r after f now s opened.state opens lines opened.runs (ap (λ (z : State). z.done) opened.same) fails

    pub row_decoded : Telling → (after : List Column) (states kept : List ℕ) (now : S) → length after ≡ a.configuration.columns → (0 < length kept → 3 ≤ plane_count a.configuration) →
        PlanesKept takes refuses a coded initial r (plane_count a.configuration) payload lines after states kept now opened.state → RowDecoded takes refuses a coded initial r after kept first now s
    row_decoded telling after states kept now long chroma all =
        let made = all.decoded in
        record {
          state = made.state;
          runs = runs_append (StepsBy a coded) s opened.state made.state opens lines opened.runs made.runs;
          told = tied_told a coded r (plane_count a.configuration) payload after states made.state made.columns_are telling long;
          says = made.kept.info ∙ ap (λ (z : State). z.info) opened.same;
          done = made.kept.done ∙ ap (λ (z : State). z.done) opened.same;
          known = made.columns_are.known;
          last = λ some p is upto. all.last some p is (let three = chroma some in omega (arith, upto, three));
          grows = made.grows;
        }

    -- what is kept of the row above stays so
    pub opened_above : (kept : List ℕ) → AreAbove a.configuration r kept s → AreAbove a.configuration r kept opened.state
    opened_above kept above = λ some p y is. kept_stays a.configuration r p y (kept_line a.configuration p kept) s opened.state (ap (λ (z : State). z.done) opened.same) (above some p y is)
