-- Where the lines of a picture stand: of each plane each row once, from the top.
use Rattle.std.proofs.Common.{◌≡◌, refl, ℕ, zero, suc, ◌+◌, ◌<◌, ◌≤◌, Bool, true, false, if◌then◌else◌, nat_lt, ◌-◌, ◌==◌, List, [], ◌∷◌, ◌++◌, map, ap, sym, ◌∙◌, arith, append-nil}
use Rattle.std.specs.List.{flat_map, range_with_len}
use Rattle.std.proofs.lemmas.Bool.{eq-eqb, ne_eqb}
use Rattle.std.proofs.lemmas.List.{map-append}
use Rattle.std.proofs.lemmas.List.Folds.{flat_map-map}
use Rattle.ffv1_wire.specs.Runs as wire
use Rattle.ffv1_record.specs.Configuration.{Configuration, is_rct}
use Rattle.ffv1_slice.specs.Grid.{Side, begin_of, length_of, first_of, coded_of, shared_of, whole_of, down, division_of}
use Rattle.ffv1_frame.specs.Sides.{Tiles}
use Rattle.ffv1_frame.specs.Picture.{Planes, plane_count, plane_height}
use Rattle.ffv1_frame.specs.SliceList.{Line}
use Rattle.ffv1_frame.specs.Order.{Series, series_of, lines_down, new_planes, numbered}
use Rattle.ffv1_frame.specs.Decoding.{Slice, top_of}
use Rattle.ffv1_frame.specs.Lines.{line_in, lines_of, lines_of_series}
use Rattle.ffv1_frame.proofs.lemmas.laws.decoding.Machines.{Each, each_range, each_flat}
use Rattle.ffv1_frame.proofs.lemmas.laws.decoding.NewPlanes.{all_new, plane_new, lines_after}
use Rattle.ffv1_frame.proofs.lemmas.FlatLists.{flat_flat, flat_same, flat_range_same, map_flat, flat_none, pick_one}
use Rattle.ffv1_frame.proofs.lemmas.laws.decoding.Groups.{Group, IsGroup, groups_of, group_out, out_by_groups, groups_are, regrouped}
use Rattle.ffv1_frame.proofs.lemmas.laws.decoding.LinesRead.{row_lines, by_colour}
use Rattle.ffv1_frame.proofs.lemmas.laws.decoding.LinesMade.{MadeOf, handed}
use Rattle.ffv1_frame.proofs.lemmas.picture.PlanesMade.{key_of, row_if, rows_in}

pub range_join : (a n m : ℕ) → range_with_len a n ++ range_with_len (a + n) m ≡ range_with_len a (n + m)
range_join a zero m =
    ap (λ k. range_with_len k m) (let here : a + 0 ≡ a = omega arith in here) ∙ ap (range_with_len a) (let none : m ≡ 0 + m = omega arith in none)
range_join a (suc n) m =
    let there : a + suc n ≡ a + 1 + n = omega arith in
    let more : suc (n + m) ≡ suc n + m = omega arith in
    ap (λ k. a ∷ (range_with_len (a + 1) n ++ range_with_len k m)) there ∙ ap (λ z. a ∷ z) (range_join (a + 1) n m) ∙ ap (range_with_len a) more

range_raised : (top a n : ℕ) → flat_map (λ y. (top + y) ∷ []) (range_with_len a n) ≡ range_with_len (top + a) n
range_raised top a zero = refl
range_raised top a (suc n) =
    let there : top + (a + 1) ≡ top + a + 1 = omega arith in
    ap (λ z. (top + a) ∷ z) (range_raised top (a + 1) n ∙ ap (λ k. range_with_len k n) there)

own_range : (from count : ℕ) → flat_map (λ y. y ∷ []) (range_with_len from count) ≡ range_with_len from count
own_range from zero = refl
own_range from (suc count) = ap (λ z. from ∷ z) (own_range (from + 1) count)

-- the parts of a side, one after the other
pub record PartsFrom (s : Side) (from count : ℕ) : Type 0 where
  pub many : ℕ
  pub ends : begin_of s from + many ≡ begin_of s (from + count)
  pub ranges : flat_map (λ r. range_with_len (begin_of s r) (length_of s r)) (range_with_len from count) ≡ range_with_len (begin_of s from) many

pub parts_from : (s : Side) → Tiles s → (from count : ℕ) → from + count ≤ s.count → PartsFrom s from count
parts_from s tiles from zero fits = record {
  many = 0;
  ends = (let same : begin_of s from + 0 ≡ begin_of s from = omega arith in same) ∙ ap (begin_of s) (let here : from ≡ from + 0 = omega arith in here);
  ranges = refl;
}
parts_from s tiles from (suc count) fits =
    let rest = parts_from s tiles (from + 1) count (omega (arith, fits)) in
    let next : begin_of s from + length_of s from ≡ begin_of s (from + 1) = tiles.next from (omega (arith, fits)) ∙ ap (begin_of s) (let there : suc from ≡ from + 1 = omega arith in there) in
    let end : begin_of s (from + 1 + count) ≡ begin_of s (from + suc count) = ap (begin_of s) (let there : from + 1 + count ≡ from + suc count = omega arith in there) in
    record {
      many = length_of s from + rest.many;
      ends = omega (arith, next, rest.ends, end);
      ranges =
          ap (λ z. range_with_len (begin_of s from) (length_of s from) ++ z) rest.ranges
          ∙ ap (λ k. range_with_len (begin_of s from) (length_of s from) ++ range_with_len k rest.many) (sym next)
          ∙ range_join (begin_of s from) (length_of s from) rest.many;
    }

pub parts_joined : (s : Side) → Tiles s → flat_map (λ r. range_with_len (begin_of s r) (length_of s r)) (range_with_len 0 s.count) ≡ range_with_len 0 (whole_of s)
parts_joined s tiles =
    let parts = parts_from s tiles 0 s.count (omega arith) in
    let end : begin_of s (0 + s.count) ≡ whole_of s = ap (begin_of s) (let same : 0 + s.count ≡ s.count = omega arith in same) ∙ tiles.last in
    parts.ranges ∙ ap (λ k. range_with_len k parts.many) tiles.first
    ∙ ap (range_with_len 0) (let many : parts.many ≡ whole_of s = omega (arith, parts.ends, tiles.first, end) in many)

-- a cell has its part of the side, if it has no sample of another
pub own_lines : (s : Side) → Tiles s → (k : ℕ) → k < s.count → shared_of s k ≡ 0 → range_with_len (first_of s k) (coded_of s k) ≡ range_with_len (begin_of s k) (length_of s k)
own_lines s tiles k inside none =
    let begins = tiles.begins k inside in
    let first : first_of s k ≡ begin_of s k = omega (arith, begins, none) in
    let long : coded_of s k ≡ length_of s k = omega (arith, begins, none) in
    ap (λ n. range_with_len n (coded_of s k)) first ∙ ap (range_with_len (begin_of s k)) long

module _ (c : Configuration) where
  abbrev pub keys_at : ℕ → List ℕ → ℕ → List Line
  keys_at r planes y = map (λ p. record { plane = p; y = top_of c p r + y }) planes

  abbrev pub group_keys : ℕ → Group → List Line
  group_keys r g = keys_at r (new_planes c r g.planes g.y) g.y

  abbrev pub row_keys : ℕ → List Line
  row_keys r = flat_map (group_keys r) (groups_of c r)

  abbrev pub keys_of : List Line
  keys_of = flat_map row_keys (range_with_len 0 c.rows)

  abbrev pub line_of : Planes → Line → wire.Line
  line_of planes k = line_in c planes k.y k.plane

  lines_at_keys : (planes : Planes) (r y : ℕ) (ps : List ℕ) → map (λ p. line_in c planes (top_of c p r + y) p) ps ≡ map (line_of planes) (keys_at r ps y)
  lines_at_keys planes r y [] = refl
  lines_at_keys planes r y (p ∷ ps) = ap (λ z. line_in c planes (top_of c p r + y) p ∷ z) (lines_at_keys planes r y ps)

  -- the lines of a picture are those at these places
  pub lines_by_keys : (planes : Planes) → lines_of c planes ≡ map (line_of planes) keys_of
  lines_by_keys planes =
      flat_same (λ r. flat_map (lines_of_series c planes r) (series_of c r)) (λ r. map (line_of planes) (row_keys r)) (range_with_len 0 c.rows)
      (λ r. out_by_groups c planes r
      ∙ flat_same (group_out c planes r) (λ g. map (line_of planes) (group_keys r g)) (groups_of c r) (λ g. lines_at_keys planes r g.y (new_planes c r g.planes g.y))
      ∙ sym (map_flat (line_of planes) (group_keys r) (groups_of c r)))
      ∙ sym (map_flat (line_of planes) row_keys (range_with_len 0 c.rows))

  handed_keys : (r y i : ℕ) (out : List (List ℕ)) (ps : List ℕ) → map key_of (map (handed c r y out) (numbered i ps)) ≡ keys_at r ps y
  handed_keys r y i out [] = refl
  handed_keys r y i out (p ∷ ps) = ap (λ z. record { plane = p; y = top_of c p r + y } ∷ z) (handed_keys r y (suc i) out ps)

  -- lines that were made stand there
  pub made_keys : (r : ℕ) (slice : ℕ → Slice) (gs : List Group) (ls : List wire.Line) → MadeOf c r slice gs ls → map key_of ls ≡ flat_map (group_keys r) gs
  made_keys r slice [] ls made = ap (map key_of) made
  made_keys r slice (g ∷ gs) ls made =
      let here = map (handed c r g.y made.0) (numbered 0 (new_planes c r g.planes g.y)) in
      ap (map key_of) made.4 ∙ map-append key_of here made.1
      ∙ ap (λ z. z ++ map key_of made.1) (handed_keys r g.y 0 made.0 (new_planes c r g.planes g.y))
      ∙ ap (λ z. group_keys r g ++ z) (made_keys r slice gs made.1 made.3)

  -- line y of some planes, if f tells the row of a plane
  abbrev pub keys_by : (ℕ → ℕ → ℕ) → List ℕ → ℕ → List Line
  keys_by f planes y = map (λ p. record { plane = p; y = f p y }) planes

  module _ (p : ℕ) (inside : p < plane_count c) (f : ℕ → ℕ → ℕ) where
    -- of a line of all planes the row of plane p
    one_row_in : (y : ℕ) → rows_in p (keys_by f (range_with_len 0 (plane_count c)) y) ≡ f p y ∷ []
    one_row_in y =
        flat_map-map (row_if p) (λ j. record { plane = j; y = f j y }) (range_with_len 0 (plane_count c))
        ∙ pick_one (λ j. if j == p then f j y ∷ [] else []) p 0 (plane_count c) (omega arith) (omega (arith, inside))
        (λ j other. ap (λ b. if b then f j y ∷ [] else []) (ne_eqb j p other))
        ∙ ap (λ b. if b then f p y ∷ [] else []) (eq-eqb p p refl)

    rows_of_one : (r j : ℕ) (b : Bool) → (j == p) ≡ b →
        rows_in p (flat_map (keys_by f (j ∷ [])) (range_with_len 0 (lines_down c j r))) ≡ (if b then flat_map (λ y. f j y ∷ []) (range_with_len 0 (lines_down c j r)) else [])
    rows_of_one r j true e =
        flat_flat (row_if p) (keys_by f (j ∷ [])) (range_with_len 0 (lines_down c j r))
        ∙ flat_same (λ y. rows_in p (keys_by f (j ∷ []) y)) (λ y. f j y ∷ []) (range_with_len 0 (lines_down c j r))
        (λ y. ap (λ b. (if b then f j y ∷ [] else []) ++ []) e)
    rows_of_one r j false e =
        flat_flat (row_if p) (keys_by f (j ∷ [])) (range_with_len 0 (lines_down c j r))
        ∙ flat_none (λ y. rows_in p (keys_by f (j ∷ []) y)) 0 (lines_down c j r)
        (λ y least most. ap (λ b. (if b then f j y ∷ [] else []) ++ []) e)

    -- the lines of a row of slices have each row of plane p once
    pub rows_by : (r : ℕ) (rct : Bool) → is_rct c.colour ≡ rct → (is_rct c.colour ≡ true → lines_down c p r ≡ lines_down c 0 r) →
        rows_in p (flat_map (λ (s : Series). flat_map (keys_by f s.planes) (range_with_len 0 s.height))
        (if rct then record { planes = range_with_len 0 (plane_count c); height = lines_down c 0 r } ∷ [] else map (λ j. record { planes = j ∷ []; height = lines_down c j r }) (range_with_len 0 (plane_count c))))
        ≡ flat_map (λ y. f p y ∷ []) (range_with_len 0 (lines_down c p r))
    rows_by r true e same =
        let all = range_with_len 0 (plane_count c) in
        ap (rows_in p) (append-nil (flat_map (keys_by f all) (range_with_len 0 (lines_down c 0 r))))
        ∙ flat_flat (row_if p) (keys_by f all) (range_with_len 0 (lines_down c 0 r))
        ∙ flat_same (λ y. rows_in p (keys_by f all y)) (λ y. f p y ∷ []) (range_with_len 0 (lines_down c 0 r)) one_row_in
        ∙ ap (λ n. flat_map (λ y. f p y ∷ []) (range_with_len 0 n)) (sym (same e))
    rows_by r false e same =
        let one : ℕ → Series = λ j. record { planes = j ∷ []; height = lines_down c j r } in
        let keys : Series → List Line = λ s. flat_map (keys_by f s.planes) (range_with_len 0 s.height) in
        ap (rows_in p) (flat_map-map keys one (range_with_len 0 (plane_count c)))
        ∙ flat_flat (row_if p) (λ j. keys (one j)) (range_with_len 0 (plane_count c))
        ∙ pick_one (λ j. rows_in p (keys (one j))) p 0 (plane_count c) (omega arith) (omega (arith, inside)) (λ j other. rows_of_one r j false (ne_eqb j p other))
        ∙ rows_of_one r p true (eq-eqb p p refl)

  -- of a plane that is coded by itself the rows that the row above does not share
  one_of : (p r j y : ℕ) (b s : Bool) → (j == p) ≡ b → rows_in p (keys_at r (if s then [] else j ∷ []) y) ≡ (if b then (if s then [] else (top_of c j r + y) ∷ []) else [])
  one_of p r j y true true e = refl
  one_of p r j y false true e = refl
  one_of p r j y true false e = ap (λ z. (if z then (top_of c j r + y) ∷ [] else []) ++ []) e
  one_of p r j y false false e = ap (λ z. (if z then (top_of c j r + y) ∷ [] else []) ++ []) e

  new_of : (p r j : ℕ) (b : Bool) → (j == p) ≡ b → rows_in p (flat_map (λ y. keys_at r (new_planes c r (j ∷ []) y) y) (range_with_len 0 (lines_down c j r)))
      ≡ (if b then flat_map (λ y. if nat_lt y (shared_of (down (division_of c) j) r) then [] else (top_of c j r + y) ∷ []) (range_with_len 0 (lines_down c j r)) else [])
  new_of p r j true e =
      flat_flat (row_if p) (λ y. keys_at r (new_planes c r (j ∷ []) y) y) (range_with_len 0 (lines_down c j r))
      ∙ flat_same (λ y. rows_in p (keys_at r (new_planes c r (j ∷ []) y) y)) (λ y. if nat_lt y (shared_of (down (division_of c) j) r) then [] else (top_of c j r + y) ∷ [])
      (range_with_len 0 (lines_down c j r)) (λ y. one_of p r j y true (nat_lt y (shared_of (down (division_of c) j) r)) e)
  new_of p r j false e =
      flat_flat (row_if p) (λ y. keys_at r (new_planes c r (j ∷ []) y) y) (range_with_len 0 (lines_down c j r))
      ∙ flat_none (λ y. rows_in p (keys_at r (new_planes c r (j ∷ []) y) y)) 0 (lines_down c j r) (λ y least most. one_of p r j y false (nat_lt y (shared_of (down (division_of c) j) r)) e)

  module _ (p : ℕ) (inside : p < plane_count c) where
    -- they are those of its own part of the plane
    own_rows : (r : ℕ) → Tiles (down (division_of c) p) → r < c.rows →
        flat_map (λ y. if nat_lt y (shared_of (down (division_of c) p) r) then [] else (top_of c p r + y) ∷ []) (range_with_len 0 (lines_down c p r))
        ≡ range_with_len (begin_of (down (division_of c) p) r) (length_of (down (division_of c) p) r)
    own_rows r tiles here =
        let s = down (division_of c) p in
        let begins = tiles.begins r here in
        let next : begin_of s r + length_of s r ≡ first_of s r + coded_of s r = tiles.next r here in
        let first : first_of s r + (0 + (shared_of s r - 0)) ≡ begin_of s r = omega (arith, begins) in
        let long : 0 + coded_of s r - (0 + (shared_of s r - 0)) ≡ length_of s r = omega (arith, begins, next) in
        lines_after (top_of c p r) (shared_of s r) 0 (lines_down c p r)
        ∙ range_raised (top_of c p r) (0 + (shared_of s r - 0)) (0 + coded_of s r - (0 + (shared_of s r - 0)))
        ∙ ap (λ n. range_with_len n (0 + coded_of s r - (0 + (shared_of s r - 0)))) first ∙ ap (range_with_len (begin_of s r)) long

    row_by : (r : ℕ) (rct : Bool) → is_rct c.colour ≡ rct → ((q : ℕ) → Tiles (down (division_of c) q)) → (is_rct c.colour ≡ true → (q r : ℕ) → r < c.rows → shared_of (down (division_of c) q) r ≡ 0) → r < c.rows → (is_rct c.colour ≡ true → lines_down c p r ≡ lines_down c 0 r) →
        rows_in p (flat_map (λ (s : Series). flat_map (λ y. keys_at r (new_planes c r s.planes y) y) (range_with_len 0 s.height))
        (if rct then record { planes = range_with_len 0 (plane_count c); height = lines_down c 0 r } ∷ [] else map (λ j. record { planes = j ∷ []; height = lines_down c j r }) (range_with_len 0 (plane_count c))))
        ≡ range_with_len (begin_of (down (division_of c) p) r) (length_of (down (division_of c) p) r)
    row_by r true e tiles flat here same =
        let all = range_with_len 0 (plane_count c) in
        let none : (q : ℕ) → shared_of (down (division_of c) q) r ≡ 0 = λ q. flat e q r here in
        ap (rows_in p) (append-nil (flat_map (λ y. keys_at r (new_planes c r all y) y) (range_with_len 0 (lines_down c 0 r))))
        ∙ ap (rows_in p) (flat_same (λ y. keys_at r (new_planes c r all y) y) (keys_at r all) (range_with_len 0 (lines_down c 0 r))
        (λ y. ap (λ ps. keys_at r ps y) (all_new c r all y (λ q. let n = none q in omega (arith, n)))))
        ∙ flat_flat (row_if p) (keys_at r all) (range_with_len 0 (lines_down c 0 r))
        ∙ flat_same (λ y. rows_in p (keys_at r all y)) (λ y. (top_of c p r + y) ∷ []) (range_with_len 0 (lines_down c 0 r)) (one_row_in p inside (λ p y. top_of c p r + y))
        ∙ ap (λ n. flat_map (λ y. (top_of c p r + y) ∷ []) (range_with_len 0 n)) (sym (same e))
        ∙ range_raised (top_of c p r) 0 (lines_down c p r)
        ∙ ap (λ k. range_with_len k (lines_down c p r)) (let first : top_of c p r + 0 ≡ top_of c p r = omega arith in first)
        ∙ own_lines (down (division_of c) p) (tiles p) r here (none p)
    row_by r false e tiles flat here same =
        let one : ℕ → Series = λ j. record { planes = j ∷ []; height = lines_down c j r } in
        let keys : Series → List Line = λ s. flat_map (λ y. keys_at r (new_planes c r s.planes y) y) (range_with_len 0 s.height) in
        ap (rows_in p) (flat_map-map keys one (range_with_len 0 (plane_count c)))
        ∙ flat_flat (row_if p) (λ j. keys (one j)) (range_with_len 0 (plane_count c))
        ∙ pick_one (λ j. rows_in p (keys (one j))) p 0 (plane_count c) (omega arith) (omega (arith, inside)) (λ j other. new_of p r j false (ne_eqb j p other))
        ∙ new_of p r p true (eq-eqb p p refl)
        ∙ own_rows r (tiles p) here

    row_rows : (r : ℕ) → ((q : ℕ) → Tiles (down (division_of c) q)) → (is_rct c.colour ≡ true → (q r : ℕ) → r < c.rows → shared_of (down (division_of c) q) r ≡ 0) → r < c.rows → (is_rct c.colour ≡ true → lines_down c p r ≡ lines_down c 0 r) →
        rows_in p (row_keys r) ≡ range_with_len (begin_of (down (division_of c) p) r) (length_of (down (division_of c) p) r)
    row_rows r tiles flat here same =
        ap (rows_in p) (sym (regrouped (λ ps y. keys_at r (new_planes c r ps y) y) (series_of c r))) ∙ row_by r (is_rct c.colour) refl tiles flat here same

    -- so have those of the slices
    pub rows_of_lines : (r : ℕ) → (is_rct c.colour ≡ true → lines_down c p r ≡ lines_down c 0 r) → rows_in p (row_lines c r) ≡ range_with_len 0 (lines_down c p r)
    rows_of_lines r same =
        ap (rows_in p) (sym (by_colour c r (is_rct c.colour)))
        ∙ rows_by p inside (λ p y. y) r (is_rct c.colour) refl same
        ∙ own_range 0 (lines_down c p r)

    -- each plane has each of its rows once, from the top
    pub rows_of_plane : ((q : ℕ) → Tiles (down (division_of c) q)) → (is_rct c.colour ≡ true → (q r : ℕ) → r < c.rows → shared_of (down (division_of c) q) r ≡ 0) → (is_rct c.colour ≡ true → (r : ℕ) → lines_down c p r ≡ lines_down c 0 r) →
        rows_in p keys_of ≡ range_with_len 0 (plane_height c p)
    rows_of_plane tiles flat same =
        flat_flat (row_if p) row_keys (range_with_len 0 c.rows)
        ∙ flat_range_same (λ r. rows_in p (row_keys r)) (λ r. range_with_len (begin_of (down (division_of c) p) r) (length_of (down (division_of c) p) r)) 0 c.rows
        (λ r least most.
        let here : r < c.rows = omega (arith, most) in
        row_rows r tiles flat here (λ e. same e r))
        ∙ parts_joined (down (division_of c) p) (tiles p)

  keys_inside : (r : ℕ) (planes : List ℕ) (y : ℕ) → Each (λ p. p < plane_count c) planes → Each (λ (k : Line). k.plane < plane_count c) (keys_at r planes y)
  keys_inside r [] y all = tt
  keys_inside r (p ∷ planes) y all = (all.0, keys_inside r planes y all.1)

  -- and there are no other planes
  pub keys_are : (is_rct c.colour ≡ true → (p r : ℕ) → lines_down c p r ≡ lines_down c 0 r) → Each (λ (k : Line). k.plane < plane_count c) keys_of
  keys_are same =
      each_range (λ (k : Line). k.plane < plane_count c) row_keys 0 c.rows (λ r least most.
      each_flat (λ (k : Line). k.plane < plane_count c) (IsGroup c r) (group_keys r) (groups_of c r) (groups_are c r (λ e p. same e p r))
      (λ g is. keys_inside r (new_planes c r g.planes g.y) g.y (plane_new (λ p. p < plane_count c) c r g.planes g.y is.inside)))
