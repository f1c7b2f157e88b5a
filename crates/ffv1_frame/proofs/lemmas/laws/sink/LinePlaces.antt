-- Where the lines that are handed over stand: in one order, whatever they hold.
use Rattle.std.proofs.Common.{◌≡◌, refl, ℕ, zero, suc, ◌+◌, ◌<◌, true, false, if◌then◌else◌, List, [], ◌∷◌, ◌++◌, map, inl, inr, ap, sym, ◌∙◌, arith, append-nil, append_assoc}
use Rattle.std.specs.List.{flat_map, range_with_len}
use Rattle.std.proofs.lemmas.Grind.{flat_map-append}
use Rattle.std.proofs.lemmas.List.{map-append}
use Rattle.ffv1_wire.specs.Runs.{Line, places_in}
use Rattle.ffv1_record.specs.Configuration.{Configuration, is_rct}
use Rattle.ffv1_record.specs.Accepted.{Accepted}
use Rattle.ffv1_slice.specs.Grid.{begin_of, division_of, down, first_of, length_of, planes_in}
use Rattle.ffv1_frame.specs.declared.fault.FrameFault.{FrameFault}
use Rattle.ffv1_frame.specs.Picture.{Planes, plane_count}
use Rattle.ffv1_frame.specs.Sides.{Sides}
use Rattle.ffv1_frame.specs.Order.{Event, Series, column_events, events_of, hand_events, line_events, lines_down, new_planes, numbered, row_events, series_events, series_of}
use Rattle.ffv1_frame.specs.Order.Event.{Open, Read, Finish, Hand, Close}
use Rattle.ffv1_frame.specs.Runs.{Runs}
use Rattle.ffv1_frame.specs.Decoding as decoding
use Rattle.ffv1_record.specs.Accepted.{is_rice}
use Rattle.std.proofs.lemmas.Bool.{cases_Bool}
use Rattle.ffv1_frame.specs.Decoding.{State, StepsBy, FaultsWith, Decodes, at_first, top_of}
use Rattle.ffv1_frame.specs.Lines.{line_in, lines_of, lines_of_series, places_of, places_of_series}
use Rattle.ffv1_frame.proofs.lemmas.laws.decoding.Machines.{stops_at}
use Rattle.ffv1_frame.proofs.lemmas.FlatLists.{flat_flat, flat_same, flat_range_same, flat_none, map_flat}
use Rattle.ffv1_frame.proofs.lemmas.picture.Keys.{parts_joined, own_lines}
use Rattle.ffv1_frame.proofs.lemmas.laws.decoding.CellsShown.{down_alike, alike_down}
use Rattle.ffv1_frame.proofs.lemmas.laws.decoding.NewPlanes.{all_new}
use Rattle.ffv1_frame.proofs.lemmas.picture.PlaneWidths.{reduced_none}

module _ (c : Configuration) where
  -- the line of a picture at a sample
  abbrev pub line_at : Planes → ℕ × ℕ → Line
  line_at planes k = line_in c planes k.1 k.0

  lines_there : (planes : Planes) (r y : ℕ) (ps : List ℕ) → map (λ p. line_in c planes (top_of c p r + y) p) ps ≡ map (line_at planes) (map (λ p. (p, top_of c p r + y)) ps)
  lines_there planes r y [] = refl
  lines_there planes r y (p ∷ ps) = ap (λ z. line_in c planes (top_of c p r + y) p ∷ z) (lines_there planes r y ps)

  series_there : (planes : Planes) (r : ℕ) (s : Series) → lines_of_series c planes r s ≡ map (line_at planes) (places_of_series c r s)
  series_there planes r s =
      flat_same (λ y. map (λ p. line_in c planes (top_of c p r + y) p) (new_planes c r s.planes y)) (λ y. map (line_at planes) (map (λ p. (p, top_of c p r + y)) (new_planes c r s.planes y)))
      (range_with_len 0 s.height) (λ y. lines_there planes r y (new_planes c r s.planes y))
      ∙ sym (map_flat (line_at planes) (λ y. map (λ p. (p, top_of c p r + y)) (new_planes c r s.planes y)) (range_with_len 0 s.height))

  -- the lines of a picture are those at its places
  pub picture_there : (planes : Planes) → lines_of c planes ≡ map (line_at planes) (places_of c)
  picture_there planes =
      flat_same (λ r. flat_map (lines_of_series c planes r) (series_of c r)) (λ r. map (line_at planes) (flat_map (places_of_series c r) (series_of c r))) (range_with_len 0 c.rows)
      (λ r. flat_same (lines_of_series c planes r) (λ s. map (line_at planes) (places_of_series c r s)) (series_of c r) (series_there planes r)
      ∙ sym (map_flat (line_at planes) (places_of_series c r) (series_of c r)))
      ∙ sym (map_flat (line_at planes) (λ r. flat_map (places_of_series c r) (series_of c r)) (range_with_len 0 c.rows))

  placed_there : (planes : Planes) (ks : List (ℕ × ℕ)) → places_in (map (line_at planes) ks) ≡ ks
  placed_there planes [] = refl
  placed_there planes (k ∷ ks) = ap (λ z. k ∷ z) (placed_there planes ks)

  -- and stand there
  pub picture_places : (planes : Planes) → places_in (lines_of c planes) ≡ places_of c
  picture_places planes = ap places_in (picture_there planes) ∙ placed_there planes (places_of c)

  -- where the line stands that an event hands over
  abbrev pub place_at : Event → List (ℕ × ℕ)
  place_at (Open r k) = []
  place_at (Read r k p y) = []
  place_at (Finish r planes y) = []
  place_at (Hand r i p y) = (p, top_of c p r + y) ∷ []
  place_at Close = []

  abbrev pub places_at : List Event → List (ℕ × ℕ)
  places_at es = flat_map place_at es

  opens_none : (r : ℕ) (ks : List ℕ) → places_at (map (Open r) ks) ≡ []
  opens_none r [] = refl
  opens_none r (k ∷ ks) = opens_none r ks

  reads_none : (r y k : ℕ) (ps : List ℕ) → places_at (column_events r ps y k) ≡ []
  reads_none r y k [] = refl
  reads_none r y k (p ∷ ps) = reads_none r y k ps

  hands_places : (r y i : ℕ) (ps : List ℕ) → places_at (map (λ (ip : ℕ × ℕ). Hand r ip.0 ip.1 y) (numbered i ps)) ≡ map (λ p. (p, top_of c p r + y)) ps
  hands_places r y i [] = refl
  hands_places r y i (p ∷ ps) = ap (λ z. (p, top_of c p r + y) ∷ z) (hands_places r y (suc i) ps)

  line_events_places : (r y : ℕ) (ps : List ℕ) → places_at (line_events c r ps y) ≡ map (λ p. (p, top_of c p r + y)) (new_planes c r ps y)
  line_events_places r y ps =
      flat_map-append place_at (flat_map (column_events r ps y) (range_with_len 0 c.columns)) (Finish r ps y ∷ hand_events r (new_planes c r ps y) y)
      ∙ ap (λ z. z ++ places_at (hand_events r (new_planes c r ps y) y))
      (flat_flat place_at (column_events r ps y) (range_with_len 0 c.columns) ∙ flat_none (λ k. places_at (column_events r ps y k)) 0 c.columns (λ k least most. reads_none r y k ps))
      ∙ hands_places r y 0 (new_planes c r ps y)

  series_events_places : (r : ℕ) (s : Series) → places_at (series_events c r s) ≡ places_of_series c r s
  series_events_places r s =
      flat_flat place_at (line_events c r s.planes) (range_with_len 0 s.height)
      ∙ flat_same (λ y. places_at (line_events c r s.planes y)) (λ y. map (λ p. (p, top_of c p r + y)) (new_planes c r s.planes y)) (range_with_len 0 s.height) (λ y. line_events_places r y s.planes)

  row_events_places : (r : ℕ) → places_at (row_events c r) ≡ flat_map (places_of_series c r) (series_of c r)
  row_events_places r =
      let lines = flat_map (series_events c r) (series_of c r) in
      flat_map-append place_at (map (Open r) (range_with_len 0 c.columns)) (lines ++ (Close ∷ []))
      ∙ ap (λ z. z ++ places_at (lines ++ (Close ∷ []))) (opens_none r (range_with_len 0 c.columns))
      ∙ flat_map-append place_at lines (Close ∷ [])
      ∙ append-nil (places_at lines)
      ∙ flat_flat place_at (series_events c r) (series_of c r)
      ∙ flat_same (λ s. places_at (series_events c r s)) (places_of_series c r) (series_of c r) (series_events_places r)

  -- those of all events
  events_places : places_at (events_of c) ≡ places_of c
  events_places =
      flat_flat place_at (row_events c) (range_with_len 0 c.rows)
      ∙ flat_same (λ r. places_at (row_events c r)) (λ r. flat_map (places_of_series c r) (series_of c r)) (range_with_len 0 c.rows) row_events_places

module _ (a : Accepted) (coded : ℕ → List ℕ) where
  abbrev pub places : State → List (ℕ × ℕ)
  places s = places_in s.lines

  abbrev pub shown : List Event → List (ℕ × ℕ)
  shown es = places_at a.configuration es

  step_places : (s t : State) (e : Event) → StepsBy a coded s e t → places t ≡ places s ++ place_at a.configuration e
  step_places s t (Open r k) f = ap (λ (z : State). places z) f.3 ∙ sym (append-nil (places s))
  step_places s t (Read r k p y) f = ap (λ (z : State). places z) f.3 ∙ sym (append-nil (places s))
  step_places s t (Finish r planes y) f = ap (λ (z : State). places z) f.2 ∙ sym (append-nil (places s))
  step_places s t (Hand r i p y) f = ap (λ (z : State). places z) f ∙ map-append (λ (l : Line). (l.plane, l.row)) s.lines _
  step_places s t Close f = ap (λ (z : State). places z) f ∙ sym (append-nil (places s))

  runs_places : (es : List Event) (s t : State) → Runs (StepsBy a coded) s es t → places t ≡ places s ++ shown es
  runs_places [] s t f = ap (λ (z : State). places z) f ∙ sym (append-nil (places s))
  runs_places (e ∷ es) s t f =
      runs_places es f.0 t f.2 ∙ ap (λ z. z ++ shown es) (step_places s f.0 e f.1) ∙ append_assoc (places s) (place_at a.configuration e) (shown es)

  fault_places : (s t : State) (e : Event) (f : FrameFault) → FaultsWith a coded s e f t → places t ≡ places s
  fault_places s t (Open r k) f h = ap (λ (z : State). places z) h.3
  fault_places s t (Read r k p y) f h = elim h [
    | inl stop ↦ elim (cases_Bool (is_rice a.configuration.coder)) [
      | inl is ↦ ap (λ (z : State). places z) (stop.rice is).5
      | inr is ↦ ap (λ (z : State). places z) (stop.range is).4
    ]
    | inr looked ↦ elim looked [
      | inl over ↦ ap (λ (z : State). places z) over.4
      | inr later ↦ elim later [
        | inl late ↦ ap (λ (z : State). places z) late.4
        | inr differs ↦ ap (λ (z : State). places z) differs.5
      ]
    ]
  ]
  fault_places s t (Finish r planes y) f h = ap (λ (z : State). places z) h.5
  fault_places s t (Hand r i p y) f h = absurd h
  fault_places s t Close f h = absurd h

  -- those of a beginning of the events, and those after them
  pub places_begun : (before after : List Event) (t : State) → events_of a.configuration ≡ before ++ after → Runs (StepsBy a coded) (at_first a.configuration) before t →
      places t ++ shown after ≡ places_of a.configuration
  places_begun before after t parts runs =
      ap (λ z. z ++ shown after) (runs_places before (at_first a.configuration) t runs) ∙ sym (flat_map-append (place_at a.configuration) before after)
      ∙ ap (λ es. shown es) (sym parts) ∙ events_places a.configuration

  pub places_refused : (f : FrameFault) (t : State) → decoding.Refuses a coded f t → (rest : List (ℕ × ℕ)) × (places t ++ rest ≡ places_of a.configuration)
  places_refused f t h =
      let stop = stops_at (StepsBy a coded) (FaultsWith a coded) (at_first a.configuration) t f (events_of a.configuration) h in
      let after = stop.event ∷ stop.after in
      (shown after, ap (λ z. z ++ shown after) (fault_places stop.state t stop.event f stop.refused) ∙ places_begun stop.before after stop.state stop.parts stop.runs)

  pub places_decoded : (t : State) → Decodes a coded t → places t ≡ places_of a.configuration
  places_decoded t decodes = runs_places (events_of a.configuration) (at_first a.configuration) t decodes ∙ events_places a.configuration

-- red, green and blue of a row
abbrev pub three_at : ℕ → List (ℕ × ℕ)
three_at y = (0, y) ∷ (1, y) ∷ (2, y) ∷ []

rows_raised : {B : Type 0} (f : ℕ → List B) (top a n : ℕ) → flat_map (λ y. f (top + y)) (range_with_len a n) ≡ flat_map f (range_with_len (top + a) n)
rows_raised f top a zero = refl
rows_raised f top a (suc n) =
    let there : top + (a + 1) ≡ top + a + 1 = omega arith in
    ap (λ z. f (top + a) ++ z) (rows_raised f top (a + 1) n ∙ ap (λ k. flat_map f (range_with_len k n)) there)

module _ (c : Configuration) (sides : Sides c) (rct : is_rct c.colour ≡ true) (three : c.extra_plane ≡ false) where
  count : plane_count c ≡ 3
  count = ap (λ b. planes_in b c.extra_plane) (sides.rct rct).chroma ∙ ap (planes_in true) three

  top_alike : (p r : ℕ) → top_of c p r ≡ top_of c 0 r
  top_alike p r = ap (λ s. first_of s r) (down_alike c (sides.rct rct) p)

  three_places : (r y : ℕ) → map (λ p. (p, top_of c p r + y)) (range_with_len 0 (plane_count c)) ≡ three_at (top_of c 0 r + y)
  three_places r y =
      let first : List (ℕ × ℕ) = (0, top_of c 0 r + y) ∷ (1, top_of c 1 r + y) ∷ (2, top_of c 2 r + y) ∷ [] in
      let all : map (λ p. (p, top_of c p r + y)) (range_with_len 0 (plane_count c)) ≡ first = ap (λ n. map (λ p. (p, top_of c p r + y)) (range_with_len 0 n)) count in
      all ∙ ap (λ n. (0, top_of c 0 r + y) ∷ (1, n + y) ∷ (2, top_of c 2 r + y) ∷ []) (top_alike 1 r) ∙ ap (λ n. (0, top_of c 0 r + y) ∷ (1, top_of c 0 r + y) ∷ (2, n + y) ∷ []) (top_alike 2 r)

  row_colours : (r : ℕ) → r < c.rows → flat_map (places_of_series c r) (series_of c r) ≡ flat_map three_at (range_with_len (top_of c 0 r) (lines_down c 0 r))
  row_colours r r_inside =
      let new : (y : ℕ) → new_planes c r (range_with_len 0 (plane_count c)) y ≡ range_with_len 0 (plane_count c) = λ y.
      all_new c r (range_with_len 0 (plane_count c)) y (λ p. let none = alike_down c (sides.rct rct) sides.rows_tile p r r_inside in omega (arith, none)) in
      let one : Series = record { planes = range_with_len 0 (plane_count c); height = lines_down c 0 r } in
      let others : List Series = map (λ p. record { planes = p ∷ []; height = lines_down c p r }) (range_with_len 0 (plane_count c)) in
      ap (λ b. flat_map (places_of_series c r) (if b then one ∷ [] else others)) rct
      ∙ append-nil (places_of_series c r one)
      ∙ flat_same (λ y. map (λ p. (p, top_of c p r + y)) (new_planes c r one.planes y)) (λ y. three_at (top_of c 0 r + y)) (range_with_len 0 (lines_down c 0 r))
      (λ y. ap (map (λ p. (p, top_of c p r + y))) (new y) ∙ three_places r y)
      ∙ rows_raised three_at (top_of c 0 r) 0 (lines_down c 0 r)
      ∙ ap (λ k. flat_map three_at (range_with_len k (lines_down c 0 r))) (let here : top_of c 0 r + 0 ≡ top_of c 0 r = omega arith in here)

  -- for RCT without transparency
  pub colour_places : places_of c ≡ flat_map three_at (range_with_len 0 c.height)
  colour_places =
      let side = down (division_of c) 0 in
      flat_range_same (λ r. flat_map (places_of_series c r) (series_of c r)) (λ r. flat_map three_at (range_with_len (begin_of side r) (length_of side r))) 0 c.rows
      (λ r least most. row_colours r (omega (arith, most)) ∙ ap (flat_map three_at) (own_lines side (sides.rows_tile 0) r (omega (arith, most)) ((sides.rows_tile 0).flat refl r (omega (arith, most)))))
      ∙ sym (flat_flat three_at (λ r. range_with_len (begin_of side r) (length_of side r)) (range_with_len 0 c.rows))
      ∙ ap (flat_map three_at) (parts_joined side (sides.rows_tile 0))
      ∙ ap (λ n. flat_map three_at (range_with_len 0 n)) (reduced_none c.height)
