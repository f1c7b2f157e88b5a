-- What an empty mask says of the lanes that were compared with 255.
use Rattle.std.proofs.Common.{◌≡◌, ap, ◌∙◌, sym, ℕ, zero, suc, ◌+◌, ◌-◌, ◌%◌, ◌^◌, ◌<◌, ◌≤◌, List, [], ◌∷◌, map, length, slice_index, nat_lt, arith}
use Rattle.std.proofs.lemmas.List.{length-map}
use Rattle.std.proofs.lemmas.Simd.{tops_compared, zip2_splat_left, mask_l-mod}
use Rattle.std.specs.Prelude.{replicate, cond}
use lib.Lanes.{zip2, mask_l, top}
use mir.Syntax.{w16}
use Rattle.ffv1_rct.proofs.Vectors.{AreLanes, lanes_long, lane_at}

-- the mask of a comparison of 16-bit lanes with 255
abbrev pub mask_of : ℕ → List ℕ → ℕ
mask_of n lanes = mask_l (map (top 15) (zip2 (λ a b. cond (nat_lt a b) (2 ^ 16 - 1) 0) (replicate n 255) lanes)) % 2 ^ 64

mask_is : (n : ℕ) (lanes : List ℕ) → length lanes ≡ n → n ≤ 64 → mask_of n lanes ≡ mask_l (map (λ v. nat_lt 255 v) lanes)
mask_is n lanes long few =
    ap (λ ms. mask_l ms % 2 ^ 64) (tops_compared w16 (λ a b. nat_lt a b) (replicate n 255) lanes ∙ zip2_splat_left (λ a b. nat_lt a b) 255 n lanes long)
    ∙ mask_l-mod (map (λ v. nat_lt 255 v) lanes) 64 (omega (arith, length-map lanes (λ v. nat_lt 255 v)))

none_set : (lanes : List ℕ) (i : ℕ) → mask_l (map (λ v. nat_lt 255 v) lanes) ≡ 0 → slice_index lanes i ≤ 255
none_set [] i e = omega arith
none_set (v ∷ lanes) zero e = grind arith
none_set (v ∷ lanes) (suc i) e = let rest : mask_l (map (λ v. nat_lt 255 v) lanes) ≡ 0 = omega arith in none_set lanes i rest

pub none_above : (at n : ℕ) (lanes : List ℕ) (f : ℕ → ℕ) → AreLanes at n lanes f → n ≤ 64 → mask_of n lanes ≡ 0 → (k : ℕ) → at ≤ k → k < at + n → f k ≤ 255
none_above at n lanes f is few e k le lt =
    let set = none_set lanes (k - at) (sym (mask_is n lanes (lanes_long at n lanes f is) few) ∙ e) in
    let place : at + (k - at) ≡ k = omega arith in
    let lane : slice_index lanes (k - at) ≡ f k = lane_at at n lanes f (k - at) is (omega arith) ∙ ap f place in
    omega (arith, set, lane)
