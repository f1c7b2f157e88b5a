-- The order of decoding is made of events of the pictures of its configuration.
use Rattle.std.proofs.Common.{◌≡◌, refl, ℕ, ◌<◌, Bool, true, false, if◌then◌else◌, [], ◌∷◌, ◌++◌, map, length, inl, inr, sym, subst, arith}
use Rattle.std.specs.List.{flat_map, range_with_len}
use Rattle.std.proofs.lemmas.List.FromFn.{length-range_with_len}
use Rattle.ffv1_record.specs.Configuration.{Configuration, is_rct}
use Rattle.ffv1_record.specs.declared.config.Colour.{Colour}
use Rattle.ffv1_record.specs.declared.config.Colour.TheVariants.{YCbCr, Rct}
use Rattle.ffv1_slice.specs.Grid.{planes_in}
use Rattle.ffv1_frame.specs.Picture.{plane_count}
use Rattle.ffv1_frame.specs.Order.{Series, events_of, row_events, series_events, line_events, column_events, hand_events, new_planes, series_of, numbered, lines_down}
use Rattle.ffv1_frame.specs.Order.Event.{Open, Read, Finish, Hand, Close}
use Rattle.ffv1_frame.proofs.lemmas.laws.decoding.Machines.{Each, each_append, each_range, each_map_range, each_flat, each_map}
use Rattle.ffv1_frame.proofs.lemmas.laws.decoding.OneColour.{AreFew}
use Rattle.ffv1_frame.proofs.lemmas.laws.decoding.OneEvent.{IsEvent}

pub is_rct_is : (colour : Colour) → is_rct colour ≡ true → colour ≡ Rct
is_rct_is YCbCr e = cc
is_rct_is Rct e = refl

few_planes : (c : Configuration) (extra : Bool) → c.extra_plane ≡ extra → AreFew c (planes_in true extra)
few_planes c true e = inr (refl, e)
few_planes c false e = inl refl

pub few_in_rct : (c : Configuration) → c.chroma_planes ≡ true → AreFew c (plane_count c)
few_in_rct c chroma = subst (λ b. AreFew c (planes_in b c.extra_plane)) (sym chroma) (few_planes c c.extra_plane refl)

module _ (c : Configuration) (chroma : is_rct c.colour ≡ true → c.chroma_planes ≡ true) where
  -- of RCT the planes of a series are all planes
  abbrev pub HasPlanes : Series → Type 0
  HasPlanes s = is_rct c.colour ≡ true → AreFew c (length s.planes)

  line_are : (r y : ℕ) (s : Series) → HasPlanes s → Each (IsEvent c) (line_events c r s.planes y)
  line_are r y s few =
      each_append (IsEvent c) (flat_map (column_events r s.planes y) (range_with_len 0 c.columns)) (Finish r s.planes y ∷ hand_events r (new_planes c r s.planes y) y)
      (each_range (IsEvent c) (column_events r s.planes y) 0 c.columns (λ k least most. each_map (IsEvent c) (λ p. Read r k p y) s.planes (λ p. omega (arith, most))))
      (few, each_map (IsEvent c) (λ (ip : ℕ × ℕ). Hand r ip.0 ip.1 y) (numbered 0 (new_planes c r s.planes y)) (λ ip. tt))

  series_are : (r : ℕ) (s : Series) → HasPlanes s → Each (IsEvent c) (series_events c r s)
  series_are r s few = each_range (IsEvent c) (line_events c r s.planes) 0 s.height (λ y least most. line_are r y s few)

  all_series : (rct : Bool) → is_rct c.colour ≡ rct → (r : ℕ) →
      Each HasPlanes (if rct then record { planes = range_with_len 0 (plane_count c); height = lines_down c 0 r } ∷ [] else map (λ p. record { planes = p ∷ []; height = lines_down c p r }) (range_with_len 0 (plane_count c)))
  all_series true e r = (λ rct. subst (AreFew c) (sym (length-range_with_len 0 (plane_count c))) (few_in_rct c (chroma rct)), tt)
  all_series false e r = each_map HasPlanes (λ p. record { planes = p ∷ []; height = lines_down c p r }) (range_with_len 0 (plane_count c)) (λ p rct. cc)

  row_are : (r : ℕ) → r < c.rows → Each (IsEvent c) (row_events c r)
  row_are r inside =
      each_append (IsEvent c) (map (Open r) (range_with_len 0 c.columns)) (flat_map (series_events c r) (series_of c r) ++ (Close ∷ []))
      (each_map_range (IsEvent c) (Open r) 0 c.columns (λ k least most. (inside, omega (arith, most))))
      (each_append (IsEvent c) (flat_map (series_events c r) (series_of c r)) (Close ∷ [])
      (each_flat (IsEvent c) HasPlanes (series_events c r) (series_of c r) (all_series (is_rct c.colour) refl r) (series_are r)) (tt, tt))

  pub events_are : Each (IsEvent c) (events_of c)
  events_are = each_range (IsEvent c) (row_events c) 0 c.rows (λ r least most. row_are r (omega (arith, most)))
