-- Lists side by side that are as long as the parts of a side.
use Rattle.std.proofs.Common.{◌≡◌, ℕ, zero, suc, ◌+◌, ◌-◌, ◌*◌, ◌<◌, ◌≤◌, List, [], ◌∷◌, ◌++◌, length, get_or, take, drop, ap, ◌∙◌, arith, length-append}
use Rattle.std.specs.List.{flat_map, range_with_len}
use Rattle.std.proofs.lemmas.Grind.{flat_map-append}
use Rattle.std.proofs.lemmas.List.{get_or_append_left, get_or-append-add, length-take-le, length-drop, get_or-take, get_or-drop}
use Rattle.ffv1_record.specs.Configuration.{Configuration}
use Rattle.ffv1_slice.specs.Grid.{Side, begin_of, length_of, first_of, shared_of, whole_of, across, division_of}
use Rattle.ffv1_frame.specs.Sides.{Tiles}
use Rattle.ffv1_frame.specs.Decoding.{row_in, own_row, width_in}
use Rattle.ffv1_frame.proofs.lemmas.FlatLists.{range_parts}

pub row_long : (width y : ℕ) (samples : List ℕ) → suc y * width ≤ length samples → length (row_in width y samples) ≡ width
row_long width y samples long =
    length-take-le width (drop (y * width) samples) (rw (length-drop (y * width) samples) (omega (arith, long)))

pub row_at : (width y x : ℕ) (samples : List ℕ) → x < width → get_or (row_in width y samples) x 0 ≡ get_or samples (y * width + x) 0
row_at width y x samples inside = get_or-take width (drop (y * width) samples) x 0 inside ∙ get_or-drop (y * width) samples x 0

-- what of a row the column before does not code
pub own_long : (c : Configuration) (p k y : ℕ) (samples : List ℕ) → first_of (across (division_of c) p) k ≤ begin_of (across (division_of c) p) k → suc y * width_in c p k ≤ length samples →
    length (own_row c p k y samples) ≡ length_of (across (division_of c) p) k
own_long c p k y samples begins long =
    let row = row_long (width_in c p k) y samples long in
    rw (length-drop (shared_of (across (division_of c) p) k) (row_in (width_in c p k) y samples)) (omega (arith, row, begins))

pub own_at : (c : Configuration) (p k y x : ℕ) (samples : List ℕ) → first_of (across (division_of c) p) k ≤ begin_of (across (division_of c) p) k → x < length_of (across (division_of c) p) k →
    get_or (own_row c p k y samples) x 0 ≡ get_or samples (y * width_in c p k + (shared_of (across (division_of c) p) k + x)) 0
own_at c p k y x samples begins inside =
    get_or-drop (shared_of (across (division_of c) p) k) (row_in (width_in c p k) y samples) x 0
    ∙ row_at (width_in c p k) y (shared_of (across (division_of c) p) k + x) samples (omega (arith, inside, begins))

module _ (s : Side) (tiles : Tiles s) (f : ℕ → List ℕ) (long : (k : ℕ) → k < s.count → length (f k) ≡ length_of s k) where
  long_from : (from count : ℕ) → from + count ≤ s.count → begin_of s from + length (flat_map f (range_with_len from count)) ≡ begin_of s (from + count)
  long_from from zero fits =
      (let same : begin_of s from + 0 ≡ begin_of s from = omega arith in same) ∙ ap (begin_of s) (let here : from ≡ from + 0 = omega arith in here)
  long_from from (suc count) fits =
      let rest = long_from (from + 1) count (omega (arith, fits)) in
      let next : begin_of s from + length_of s from ≡ begin_of s (from + 1) = tiles.next from (omega (arith, fits)) ∙ ap (begin_of s) (let there : suc from ≡ from + 1 = omega arith in there) in
      let end : begin_of s (from + 1 + count) ≡ begin_of s (from + suc count) = ap (begin_of s) (let there : from + 1 + count ≡ from + suc count = omega arith in there) in
      let here = long from (omega (arith, fits)) in
      let sum = length-append (f from) (flat_map f (range_with_len (from + 1) count)) in
      omega (arith, rest, next, end, here, sum)

  pub tiled_long : length (flat_map f (range_with_len 0 s.count)) ≡ whole_of s
  tiled_long =
      let all = long_from 0 s.count (omega arith) in
      let end : begin_of s (0 + s.count) ≡ whole_of s = ap (begin_of s) (let same : 0 + s.count ≡ s.count = omega arith in same) ∙ tiles.last in
      omega (arith, all, tiles.first, end)

  pub tiled_at : (k x : ℕ) → k < s.count → x < length_of s k → get_or (flat_map f (range_with_len 0 s.count)) (begin_of s k + x) 0 ≡ get_or (f k) x 0
  tiled_at k x inside small =
      let front = flat_map f (range_with_len 0 k) in
      let back = flat_map f (range_with_len (0 + k + 1) (s.count - suc k)) in
      let parts : flat_map f (range_with_len 0 s.count) ≡ front ++ (f (0 + k) ++ back) =
      ap (flat_map f) (range_parts 0 s.count k inside) ∙ flat_map-append f (range_with_len 0 k) ((0 + k) ∷ range_with_len (0 + k + 1) (s.count - suc k)) in
      let here : 0 + k ≡ k = omega arith in
      let reaches = long_from 0 k (omega (arith, inside)) in
      let place : begin_of s k + x ≡ length front + x =
      let same : begin_of s (0 + k) ≡ begin_of s k = ap (begin_of s) here in omega (arith, reaches, tiles.first, same) in
      ap (λ xs. get_or xs (begin_of s k + x) 0) parts ∙ ap (λ n. get_or (front ++ (f (0 + k) ++ back)) n 0) place
      ∙ get_or-append-add front (f (0 + k) ++ back) x 0
      ∙ ap (λ j. get_or (f j ++ back) x 0) here
      ∙ get_or_append_left (f k) back 0 x (rw (long k inside) small)

pub joined_small : (bound i : ℕ) (xs ys : List ℕ) → ((j : ℕ) → get_or xs j 0 < bound) → ((j : ℕ) → get_or ys j 0 < bound) → get_or (xs ++ ys) i 0 < bound
joined_small bound i [] ys f g = g i
joined_small bound zero (x ∷ xs) ys f g = f 0
joined_small bound (suc i) (x ∷ xs) ys f g = joined_small bound i xs ys (λ j. f (suc j)) g

pub flat_small : (bound : ℕ) → 0 < bound → (f : ℕ → List ℕ) (from count : ℕ) → ((k i : ℕ) → k < from + count → get_or (f k) i 0 < bound) → (i : ℕ) → get_or (flat_map f (range_with_len from count)) i 0 < bound
flat_small bound some f from zero all i = some
flat_small bound some f from (suc count) all i =
    joined_small bound i (f from) (flat_map f (range_with_len (from + 1) count)) (λ j. all from j (omega arith))
    (flat_small bound some f (from + 1) count (λ k j less. all k j (omega (arith, less))))

pub take_small : (bound : ℕ) → 0 < bound → (n : ℕ) (xs : List ℕ) → ((i : ℕ) → get_or xs i 0 < bound) → (i : ℕ) → get_or (take n xs) i 0 < bound
take_small bound any zero xs all i = any
take_small bound any (suc n) [] all i = any
take_small bound any (suc n) (x ∷ xs) all zero = all 0
take_small bound any (suc n) (x ∷ xs) all (suc i) = take_small bound any n xs (λ j. all (suc j)) i

pub row_small : (bound width y : ℕ) (samples : List ℕ) → ((i : ℕ) → get_or samples i 0 < bound) → (i : ℕ) → get_or (row_in width y samples) i 0 < bound
row_small bound width y samples all i =
    let any : 0 < bound = omega (arith, all 0) in
    take_small bound any width (drop (y * width) samples) (λ j. rw (get_or-drop (y * width) samples j 0) (all (y * width + j))) i

pub own_small : (bound : ℕ) (c : Configuration) (p k y : ℕ) (samples : List ℕ) → ((i : ℕ) → get_or samples i 0 < bound) → (i : ℕ) → get_or (own_row c p k y samples) i 0 < bound
own_small bound c p k y samples all i =
    let s = shared_of (across (division_of c) p) k in
    rw (get_or-drop s (row_in (width_in c p k) y samples) i 0) (row_small bound (width_in c p k) y samples all (s + i))
