-- The lines of a row of slices as one list: in each, line y of some planes that are coded together.
use Rattle.std.proofs.Common.{◌≡◌, refl, ℕ, ◌+◌, ◌<◌, Bool, true, false, if◌then◌else◌, List, [], ◌∷◌, map, sym, subst, ◌∙◌, arith, append-nil}
use Rattle.std.specs.List.{flat_map, range_with_len}
use Rattle.std.proofs.lemmas.List.Folds.{flat_map-map}
use Rattle.ffv1_wire.specs.Runs as wire
use Rattle.ffv1_record.specs.Configuration.{Configuration, is_rct}
use Rattle.ffv1_frame.specs.Picture.{Planes, plane_count}
use Rattle.ffv1_frame.specs.SliceList.{Line}
use Rattle.ffv1_frame.specs.Order.{Event, Series, series_events, line_events, series_of, lines_down, new_planes}
use Rattle.ffv1_frame.specs.Decoding.{top_of}
use Rattle.ffv1_frame.specs.Lines.{line_in, lines_of_series}
use Rattle.ffv1_frame.proofs.lemmas.laws.decoding.Machines.{Each, each_range, each_map_range, each_numbers}
use Rattle.ffv1_frame.proofs.lemmas.FlatLists.{flat_flat, flat_same}
use Rattle.ffv1_frame.proofs.lemmas.laws.decoding.LinesRead.{lines_at, row_lines, by_colour}

pub record Group : Type 0 where
  pub planes : List ℕ
  pub y : ℕ

abbrev pub groups_in : Series → List Group
groups_in s = map (λ y. record { planes = s.planes; y = y }) (range_with_len 0 s.height)

-- those of row r of the slices
abbrev pub groups_of : Configuration → ℕ → List Group
groups_of c r = flat_map groups_in (series_of c r)

abbrev pub group_events : Configuration → ℕ → Group → List Event
group_events c r g = line_events c r g.planes g.y

abbrev pub group_lines : Group → List Line
group_lines g = lines_at g.planes g.y

abbrev pub group_out : Configuration → Planes → ℕ → Group → List wire.Line
group_out c planes r g = map (λ p. line_in c planes (top_of c p r + g.y) p) (new_planes c r g.planes g.y)

pub regrouped : {B : Type 0} (f : List ℕ → ℕ → List B) (sers : List Series) →
    flat_map (λ (s : Series). flat_map (f s.planes) (range_with_len 0 s.height)) sers ≡ flat_map (λ (g : Group). f g.planes g.y) (flat_map groups_in sers)
regrouped f sers =
    flat_same (λ (s : Series). flat_map (f s.planes) (range_with_len 0 s.height)) (λ (s : Series). flat_map (λ (g : Group). f g.planes g.y) (groups_in s)) sers
    (λ s. sym (flat_map-map (λ (g : Group). f g.planes g.y) (λ y. record { planes = s.planes; y = y }) (range_with_len 0 s.height)))
    ∙ sym (flat_flat (λ (g : Group). f g.planes g.y) groups_in sers)

pub row_by_groups : (c : Configuration) (r : ℕ) → flat_map (series_events c r) (series_of c r) ≡ flat_map (group_events c r) (groups_of c r)
row_by_groups c r = regrouped (line_events c r) (series_of c r)

pub lines_by_groups : (c : Configuration) (r : ℕ) → row_lines c r ≡ flat_map group_lines (groups_of c r)
lines_by_groups c r = sym (by_colour c r (is_rct c.colour)) ∙ regrouped lines_at (series_of c r)

pub out_by_groups : (c : Configuration) (planes : Planes) (r : ℕ) → flat_map (lines_of_series c planes r) (series_of c r) ≡ flat_map (group_out c planes r) (groups_of c r)
out_by_groups c planes r = regrouped (λ ps y. map (λ p. line_in c planes (top_of c p r + y) p) (new_planes c r ps y)) (series_of c r)

-- how a group may be: in RCT it has all planes, and else one
pub record IsGroup (c : Configuration) (r : ℕ) (g : Group) : Type 0 where
  pub inside : Each (λ p. p < plane_count c) g.planes
  pub down : Each (λ p. g.y < lines_down c p r) g.planes
  pub rct : is_rct c.colour ≡ true → g.planes ≡ range_with_len 0 (plane_count c)
  pub one : is_rct c.colour ≡ false → (p : ℕ) × (g.planes ≡ p ∷ [])

groups_are_by : (c : Configuration) (r : ℕ) (rct : Bool) → is_rct c.colour ≡ rct → (is_rct c.colour ≡ true → (p : ℕ) → lines_down c p r ≡ lines_down c 0 r) →
    Each (IsGroup c r) (flat_map groups_in
    (if rct then record { planes = range_with_len 0 (plane_count c); height = lines_down c 0 r } ∷ [] else map (λ p. record { planes = p ∷ []; height = lines_down c p r }) (range_with_len 0 (plane_count c))))
groups_are_by c r true e same =
    let all : Series = record { planes = range_with_len 0 (plane_count c); height = lines_down c 0 r } in
    subst (Each (IsGroup c r)) (sym (append-nil (groups_in all)))
    (each_map_range (IsGroup c r) (λ y. record { planes = range_with_len 0 (plane_count c); y = y }) 0 (lines_down c 0 r) (λ y least most. record {
      inside = each_numbers (λ p. p < plane_count c) 0 (plane_count c) (λ p low high. omega (arith, high));
      down = each_numbers (λ p. y < lines_down c p r) 0 (plane_count c) (λ p low high. rw (same e p) (omega (arith, most)));
      rct = λ is. refl;
      one = λ not. cc;
    }))
groups_are_by c r false e same =
    let one : ℕ → Series = λ p. record { planes = p ∷ []; height = lines_down c p r } in
    subst (Each (IsGroup c r)) (sym (flat_map-map groups_in one (range_with_len 0 (plane_count c))))
    (each_range (IsGroup c r) (λ p. groups_in (one p)) 0 (plane_count c) (λ p low high.
    each_map_range (IsGroup c r) (λ y. record { planes = p ∷ []; y = y }) 0 (lines_down c p r) (λ y least most. record {
      inside = (omega (arith, high), tt);
      down = (omega (arith, most), tt);
      rct = λ is. cc;
      one = λ not. (p, refl);
    })))

pub groups_are : (c : Configuration) (r : ℕ) → (is_rct c.colour ≡ true → (p : ℕ) → lines_down c p r ≡ lines_down c 0 r) → Each (IsGroup c r) (groups_of c r)
groups_are c r same = groups_are_by c r (is_rct c.colour) refl same
