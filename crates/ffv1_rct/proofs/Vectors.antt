-- Lanes as the values of a function at the places that they stand for.
use Rattle.std.proofs.Common.{◌≡◌, refl, ap, ◌∙◌, sym, ℕ, zero, suc, ◌+◌, ◌-◌, ◌<◌, ◌≤◌, List, ◌∷◌, map, length, slice_index, arith}
use Rattle.std.proofs.lemmas.List.FromFn.{length-range_with_len, get_or-map-range_with_len}
use Rattle.std.proofs.lemmas.Simd.{get_or-put_chunk_below, get_or-put_chunk_at, get_or-put_chunk_above, Each1-from_get_or, pick_l-range_with_len, zip2_of_maps, splat_is_map, map-map}
use Rattle.std.proofs.lemmas.List.{length-map}
use Rattle.std.specs.Prelude.{replicate}
use Rattle.std.specs.List.{range_with_len}
use Rattle.std.specs.Simd.Lanes.{chunk, put_chunk}
use lib.Lanes.{zip2, Each1}
use mir.Syntax.{w8}
use mir.Val.{Fits}
use Rattle.ffv1_rct.specs.Lines.{IsKeptFrom}

-- the n lanes are the values of f at the places from at on
pub record AreLanes (at n : ℕ) (lanes : List ℕ) (f : ℕ → ℕ) : Type 0 where
  pub are : lanes ≡ map f (range_with_len at n)

pub loaded : (at n : ℕ) (xs : List ℕ) → at + n ≤ length xs → AreLanes at n (chunk at n xs) (λ x. slice_index xs x)
loaded at n xs room = record { are = sym (pick_l-range_with_len 0 xs at n room) }

pub mapped : (at n : ℕ) (g : ℕ → ℕ) (lanes : List ℕ) (f : ℕ → ℕ) → AreLanes at n lanes f → AreLanes at n (map g lanes) (λ x. g (f x))
mapped at n g lanes f is = record { are = ap (map g) is.are ∙ map-map g f (range_with_len at n) }

pub splat : (at n v : ℕ) → AreLanes at n (replicate n v) (λ x. v)
splat at n v = record { are = splat_is_map (range_with_len at n) n v (length-range_with_len at n) }

pub zipped : (at n : ℕ) (op : ℕ → ℕ → ℕ) (xs ys : List ℕ) (f g : ℕ → ℕ) → AreLanes at n xs f → AreLanes at n ys g → AreLanes at n (zip2 op xs ys) (λ x. op (f x) (g x))
zipped at n op xs ys f g a b = record { are = zip2_of_maps op f g (range_with_len at n) a.are b.are }

pub lanes_long : (at n : ℕ) (lanes : List ℕ) (f : ℕ → ℕ) → AreLanes at n lanes f → length lanes ≡ n
lanes_long at n lanes f is = ap length is.are ∙ length-map (range_with_len at n) f ∙ length-range_with_len at n

pub lane_at : (at n : ℕ) (lanes : List ℕ) (f : ℕ → ℕ) (j : ℕ) → AreLanes at n lanes f → j < n → slice_index lanes j ≡ f (at + j)
lane_at at n lanes f j is lt = ap (λ l. slice_index l j) is.are ∙ get_or-map-range_with_len f at n j (at + j) 0 lt refl

-- a store of lanes
pub stored_below : (at : ℕ) (xs lanes : List ℕ) (k : ℕ) → k < at → slice_index (put_chunk at xs lanes) k ≡ slice_index xs k
stored_below at xs lanes k lt = get_or-put_chunk_below at xs lanes k 0 lt

pub stored_at : (at n : ℕ) (xs lanes : List ℕ) (f : ℕ → ℕ) (k : ℕ) → AreLanes at n lanes f → at + n ≤ length xs → at ≤ k → k < at + n → slice_index (put_chunk at xs lanes) k ≡ f k
stored_at at n xs lanes f k is room le lt =
    let long = lanes_long at n lanes f is in
    let place : at + (k - at) ≡ k = omega arith in
    ap (λ p. slice_index (put_chunk at xs lanes) p) (sym place)
    ∙ get_or-put_chunk_at at xs lanes (k - at) 0 (omega (arith, long)) (omega (arith, long))
    ∙ lane_at at n lanes f (k - at) is (omega arith)
    ∙ ap f place

pub stored_kept : (at n : ℕ) (xs lanes : List ℕ) (f : ℕ → ℕ) → AreLanes at n lanes f → IsKeptFrom (at + n) xs (put_chunk at xs lanes)
stored_kept at n xs lanes f is =
    let long = lanes_long at n lanes f is in
    λ k le. get_or-put_chunk_above at xs lanes k 0 (omega (arith, long))

-- lanes that are bytes
pub bytes_fit : (at n : ℕ) (lanes : List ℕ) (f : ℕ → ℕ) → AreLanes at n lanes f → ((k : ℕ) → at ≤ k → k < at + n → f k < 256) → Each1 (Fits w8) lanes
bytes_fit at n lanes f is small =
    let long = lanes_long at n lanes f is in
    Each1-from_get_or (Fits w8) lanes 0 (λ i lt.
    let lane = lane_at at n lanes f i is (omega (arith, long)) in
    let byte = small (at + i) (omega arith) (omega (arith, long)) in
    record { fits = omega (arith, lane, byte) })

shifted_range : (d at n : ℕ) (f : ℕ → ℕ) → map f (range_with_len (at + d) n) ≡ map (λ x. f (x + d)) (range_with_len at n)
shifted_range d at zero f = refl
shifted_range d at (suc n) f =
    let next : at + d + 1 ≡ at + 1 + d = omega arith in
    ap (λ l. f (at + d) ∷ l) (ap (λ p. map f (range_with_len p n)) next ∙ shifted_range d (at + 1) n f)

-- lanes that stand for places further on
pub shifted : (d at n : ℕ) (lanes : List ℕ) (f : ℕ → ℕ) → AreLanes (at + d) n lanes f → AreLanes at n lanes (λ x. f (x + d))
shifted d at n lanes f is = record { are = is.are ∙ shifted_range d at n f }
