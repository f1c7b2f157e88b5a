-- Which lines of a slice some events read, and which lines they hand over.
use Rattle.std.proofs.Common.{◌≡◌, refl, ℕ, ◌<◌, Bool, true, false, if◌then◌else◌, ◌==◌, List, [], ◌∷◌, ◌++◌, map, ap, ◌∙◌, arith, append-nil}
use Rattle.std.specs.List.{flat_map, range_with_len}
use Rattle.std.proofs.lemmas.Bool.{eq-eqb, ne_eqb}
use Rattle.std.proofs.lemmas.Grind.{flat_map-append}
use Rattle.std.proofs.lemmas.List.Concat.{flat_map_single}
use Rattle.std.proofs.lemmas.List.Folds.{flat_map-map}
use Rattle.ffv1_record.specs.Configuration.{Configuration, is_rct}
use Rattle.ffv1_frame.specs.Picture.{plane_count}
use Rattle.ffv1_frame.specs.SliceList.{Line, lines_of_plane, planes_of_line}
use Rattle.ffv1_frame.specs.Order.{Event, Series, series_events, line_events, column_events, hand_events, series_of, new_planes, numbered, lines_down}
use Rattle.ffv1_frame.specs.Order.Event.{Open, Read, Finish, Hand, Close}
use Rattle.ffv1_frame.proofs.lemmas.FlatLists.{flat_flat, flat_same, pick_one}

-- the line that an event reads in column k
abbrev pub read_at : ℕ → Event → List Line
read_at k (Read r j p y) = if j == k then record { plane = p; y = y } ∷ [] else []
read_at k (Open r j) = []
read_at k (Finish r planes y) = []
read_at k (Hand r i p y) = []
read_at k Close = []

abbrev pub reads_of : ℕ → List Event → List Line
reads_of k es = flat_map (read_at k) es

-- the same line of some planes
abbrev pub lines_at : List ℕ → ℕ → List Line
lines_at planes y = map (λ p. record { plane = p; y = y }) planes

-- the lines of the slices of row r, in the order of coding
abbrev pub row_lines : Configuration → ℕ → List Line
row_lines c r =
    if is_rct c.colour
    then flat_map (planes_of_line (plane_count c)) (range_with_len 0 (lines_down c 0 r))
    else flat_map (λ p. lines_of_plane (lines_down c p r) p) (range_with_len 0 (plane_count c))

column_reads : (r k j y : ℕ) (planes : List ℕ) (b : Bool) → (j == k) ≡ b → reads_of k (column_events r planes y j) ≡ (if b then lines_at planes y else [])
column_reads r k j y [] true e = refl
column_reads r k j y [] false e = refl
column_reads r k j y (p ∷ planes) true e =
    ap (λ b. (if b then record { plane = p; y = y } ∷ [] else []) ++ reads_of k (column_events r planes y j)) e
    ∙ ap (λ z. record { plane = p; y = y } ∷ z) (column_reads r k j y planes true e)
column_reads r k j y (p ∷ planes) false e =
    ap (λ b. (if b then record { plane = p; y = y } ∷ [] else []) ++ reads_of k (column_events r planes y j)) e
    ∙ column_reads r k j y planes false e

pub hands_read : (r k y : ℕ) (ips : List (ℕ × ℕ)) → reads_of k (map (λ (ip : ℕ × ℕ). Hand r ip.0 ip.1 y) ips) ≡ []
hands_read r k y [] = refl
hands_read r k y (ip ∷ ips) = hands_read r k y ips

-- the columns of a line
pub columns_read : (columns r k y : ℕ) (planes : List ℕ) → k < columns → reads_of k (flat_map (column_events r planes y) (range_with_len 0 columns)) ≡ lines_at planes y
columns_read columns r k y planes inside =
    flat_flat (read_at k) (column_events r planes y) (range_with_len 0 columns)
    ∙ pick_one (λ j. reads_of k (column_events r planes y j)) k 0 columns (omega arith) (omega (arith, inside)) (λ j other. column_reads r k j y planes false (ne_eqb j k other))
    ∙ column_reads r k k y planes true (eq-eqb k k refl)

pub line_reads : (c : Configuration) (r k y : ℕ) (planes : List ℕ) → k < c.columns → reads_of k (line_events c r planes y) ≡ lines_at planes y
line_reads c r k y planes inside =
    flat_map-append (read_at k) (flat_map (column_events r planes y) (range_with_len 0 c.columns)) (Finish r planes y ∷ hand_events r (new_planes c r planes y) y)
    ∙ ap (λ z. z ++ reads_of k (hand_events r (new_planes c r planes y) y)) (columns_read c.columns r k y planes inside)
    ∙ ap (λ z. lines_at planes y ++ z) (hands_read r k y (numbered 0 (new_planes c r planes y)))
    ∙ append-nil (lines_at planes y)

pub series_reads : (c : Configuration) (r k : ℕ) (s : Series) → k < c.columns → reads_of k (series_events c r s) ≡ flat_map (lines_at s.planes) (range_with_len 0 s.height)
series_reads c r k s inside =
    flat_flat (read_at k) (line_events c r s.planes) (range_with_len 0 s.height)
    ∙ flat_same (λ y. reads_of k (line_events c r s.planes y)) (lines_at s.planes) (range_with_len 0 s.height) (λ y. line_reads c r k y s.planes inside)

pub by_colour : (c : Configuration) (r : ℕ) (rct : Bool) →
    flat_map (λ (s : Series). flat_map (lines_at s.planes) (range_with_len 0 s.height))
    (if rct then record { planes = range_with_len 0 (plane_count c); height = lines_down c 0 r } ∷ [] else map (λ p. record { planes = p ∷ []; height = lines_down c p r }) (range_with_len 0 (plane_count c)))
    ≡ (if rct then flat_map (planes_of_line (plane_count c)) (range_with_len 0 (lines_down c 0 r)) else flat_map (λ p. lines_of_plane (lines_down c p r) p) (range_with_len 0 (plane_count c)))
by_colour c r true = append-nil (flat_map (planes_of_line (plane_count c)) (range_with_len 0 (lines_down c 0 r)))
by_colour c r false =
    flat_map-map (λ (s : Series). flat_map (lines_at s.planes) (range_with_len 0 s.height)) (λ p. record { planes = p ∷ []; height = lines_down c p r }) (range_with_len 0 (plane_count c))
    ∙ flat_same (λ p. flat_map (lines_at (p ∷ [])) (range_with_len 0 (lines_down c p r))) (λ p. lines_of_plane (lines_down c p r) p) (range_with_len 0 (plane_count c))
    (λ p. flat_map_single (λ y. record { plane = p; y = y }) (range_with_len 0 (lines_down c p r)))

-- what all series of a row read in a column is the list of its slice
pub row_reads : (c : Configuration) (r k : ℕ) → k < c.columns → reads_of k (flat_map (series_events c r) (series_of c r)) ≡ row_lines c r
row_reads c r k inside =
    flat_flat (read_at k) (series_events c r) (series_of c r)
    ∙ flat_same (λ s. reads_of k (series_events c r s)) (λ s. flat_map (lines_at s.planes) (range_with_len 0 s.height)) (series_of c r) (λ s. series_reads c r k s inside)
    ∙ by_colour c r (is_rct c.colour)
