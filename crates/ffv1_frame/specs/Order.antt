-- The order in which a frame is decoded: the slices of a row side by side, line by line, and each
-- line of the picture as soon as it is whole. RFC 9043, 4.4 to 4.8, has the order within a slice;
-- that across the slices of a row is this decoder's.
use Rattle.std.specs.Prelude.{◌≡◌, ℕ, ◌+◌, nat_lt, if◌then◌else◌, Bool, false, List}
use Rattle.std.specs.Prelude.{[], ◌∷◌, ◌++◌, map}
use Rattle.std.proofs.Common.{suc}
use Rattle.std.specs.List.{flat_map, range_with_len}
use Rattle.ffv1_record.specs.Configuration.{Configuration, is_rct}
use Rattle.ffv1_slice.specs.Grid.{division_of, down, coded_of, shared_of}
use Rattle.ffv1_frame.specs.Picture.{plane_count}

-- what is decided and made at one place of the order
pub data Event : Type 0 where
  -- the start, the key and the head of the slice in row r and column k
  Open : ℕ → ℕ → Event
  -- in row r and column k, line y of the slice's cell in plane p
  Read : ℕ → ℕ → ℕ → ℕ → Event
  -- in row r, line y of these planes is whole: its samples are made
  Finish : ℕ → List ℕ → ℕ → Event
  -- in row r, the i-th of them, which is line y of plane p, is handed over
  Hand : ℕ → ℕ → ℕ → ℕ → Event
  -- the slices of a row are done
  Close : Event

-- planes that are coded line by line together, and how many lines a slice has of each
pub record Series : Type 0 where
  pub planes : List ℕ
  pub height : ℕ

-- how many lines the cells of a plane have in row r of the slices
abbrev pub lines_down : Configuration → ℕ → ℕ → ℕ
lines_down c p r = coded_of (down (division_of c) p) r

-- RFC 9043, 4.7: line y of plane p is the last that the slices of row r code, for RCT too
pub record IsLastLine (c : Configuration) (r p y : ℕ) : Type 0 where
  pub plane : p + 1 ≡ plane_count c
  pub line : y + 1 ≡ lines_down c p r

-- RFC 9043, 4.7: plane after plane, and for RCT all planes at once
abbrev pub series_of : Configuration → ℕ → List Series
series_of c r =
    if is_rct c.colour
    then record { planes = range_with_len 0 (plane_count c); height = lines_down c 0 r } ∷ []
    else map (λ p. record { planes = p ∷ []; height = lines_down c p r })
    (range_with_len 0 (plane_count c))

-- the elements of a list with their numbers, from i on
abbrev pub numbered : ℕ → List ℕ → List (ℕ × ℕ)
numbered i [] = []
numbered i (p ∷ ps) = (i, p) ∷ numbered (suc i) ps

-- whether line y of these planes, which are divided alike, is one that the row of slices above
-- codes, too
abbrev pub is_shared : Configuration → ℕ → List ℕ → ℕ → Bool
is_shared c r [] y = false
is_shared c r (p ∷ ps) y = nat_lt y (shared_of (down (division_of c) p) r)

-- the planes of which line y of row r is handed over: the row above has handed over what it shares
abbrev pub new_planes : Configuration → ℕ → List ℕ → ℕ → List ℕ
new_planes c r planes y = if is_shared c r planes y then [] else planes

-- line y of these planes in the slice of column k, and the same line handed over
abbrev pub column_events : ℕ → List ℕ → ℕ → ℕ → List Event
column_events r planes y k = map (λ p. Read r k p y) planes

abbrev pub hand_events : ℕ → List ℕ → ℕ → List Event
hand_events r planes y = map (λ (ip : ℕ × ℕ). Hand r ip.0 ip.1 y) (numbered 0 planes)

-- line y of these planes: in each slice from the left, and then as a whole
abbrev pub line_events : Configuration → ℕ → List ℕ → ℕ → List Event
line_events c r planes y =
    flat_map (column_events r planes y) (range_with_len 0 c.columns)
    ++ (Finish r planes y ∷ hand_events r (new_planes c r planes y) y)

abbrev pub series_events : Configuration → ℕ → Series → List Event
series_events c r s = flat_map (line_events c r s.planes) (range_with_len 0 s.height)

-- a row of slices: each is opened, from the left, and then their lines
abbrev pub row_events : Configuration → ℕ → List Event
row_events c r =
    map (Open r) (range_with_len 0 c.columns)
    ++ (flat_map (series_events c r) (series_of c r) ++ (Close ∷ []))

-- the order of decoding
abbrev pub events_of : Configuration → List Event
events_of c = flat_map (row_events c) (range_with_len 0 c.rows)
