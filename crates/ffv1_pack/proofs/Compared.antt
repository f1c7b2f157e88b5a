-- Two lists are compared place by place, and rows with the samples of a plane one by one.
use Rattle.std.proofs.Common.{◌≡◌, ℕ, suc, ◌+◌, ◌*◌, ◌<◌, ◌≤◌, ◌&&◌, ◌==◌, Bool, true, false, IsTrue, ◌↔◌, List, [], ◌∷◌, take, drop, length, get_or, refl, sym, ◌∙◌, ap, subst, add-one, arith, length-take}
use Rattle.std.proofs.Math.Seq.{take-suc}
use Rattle.std.proofs.lemmas.List.{take-take, get_or-take, drop-drop}
use Rattle.std.proofs.lemmas.Bool.{eqb-true, eq-eqb}
use Rattle.ffv1_line.specs.Cell.{cell_of}
use Rattle.ffv1_line.specs.Taken.{TakesRows, TakesCell}
use Rattle.ffv1_pack.specs.Internal.Plane.{Compared}
use Rattle.ffv1_pack.proofs.PlaneBack.{same_shown}
use Rattle.ffv1_pack.proofs.PlaneRows.{row_long, row_shown}

module _ {A : Type 0} (d : A) (xs ys : List A) (i : ℕ) where
  -- one place more, if the places before are the same
  both_more : i < length xs → i < length ys → take i xs ≡ take i ys → get_or xs i d ≡ get_or ys i d → take (i + 1) xs ≡ take (i + 1) ys
  both_more in_xs in_ys before here = rw (add-one, take-suc xs i d in_xs, take-suc ys i d in_ys, before, here) refl

  -- and the other way
  both_before : take (i + 1) xs ≡ take (i + 1) ys → take i xs ≡ take i ys
  both_before all = sym (take-take i (i + 1) xs (omega arith)) ∙ (ap (take i) all ∙ take-take i (i + 1) ys (omega arith))

  both_here : take (i + 1) xs ≡ take (i + 1) ys → get_or xs i d ≡ get_or ys i d
  both_here all = sym (get_or-take (i + 1) xs i d (omega arith)) ∙ (ap (λ (l : List A). get_or l i d) all ∙ get_or-take (i + 1) ys i d (omega arith))

  -- by a test of the next place
  pub place_more : (b t : Bool) → i < length xs → i < length ys → (IsTrue b ↔ (take i xs ≡ take i ys)) → (IsTrue t ↔ (get_or xs i d ≡ get_or ys i d)) →
      IsTrue (b && t) ↔ (take (i + 1) xs ≡ take (i + 1) ys)
  place_more true t in_xs in_ys so_far here = (λ is. both_more in_xs in_ys (so_far.0 refl) (here.0 is), λ all. here.1 (both_here all))
  place_more false t in_xs in_ys so_far here = (λ is. absurd (cc), λ all. so_far.1 (both_before all))

pub same_more : (xs ys : List ℕ) (i : ℕ) (b : Bool) → i < length xs → i < length ys → (IsTrue b ↔ (take i xs ≡ take i ys)) →
    IsTrue (b && (get_or xs i 0 == get_or ys i 0)) ↔ (take (i + 1) xs ≡ take (i + 1) ys)
same_more xs ys i b in_xs in_ys so_far = place_more 0 xs ys i b (get_or xs i 0 == get_or ys i 0) in_xs in_ys so_far (λ here. eqb-true _ _ here, λ here. eq-eqb _ _ here)

-- a row is not longer than what it was compared with, if they are the same
row_few : (row rest : List ℕ) → row ≡ take (length row) rest → length row ≤ length rest
row_few row rest is = let long = ap length is ∙ length-take (length row) rest in omega (arith, long)

-- rows that are those of some samples, from row y on, were all the same
module _ {S : Type 0} (rest : S → List ℕ) (same : S → Bool) (w : ℕ) (samples : List ℕ) where
  all_same : (y : ℕ) (s t : S) (rows : List (List ℕ)) →
      TakesRows (λ old row new. Compared (rest old) (same old) row (rest new) (same new)) s rows t →
      ((k : ℕ) → k < length rows → (get_or rows k [] ≡ take w (drop ((y + k) * w) samples)) × (length (get_or rows k []) ≡ w)) →
      rest s ≡ drop (y * w) samples → same s ≡ true → same t ≡ true
  all_same y s t [] taken are left is = ap same taken ∙ is
  all_same y s t (row ∷ rows) taken are left is =
      let m = taken.0 in
      let now = taken.1 in
      let first = are 0 (omega arith) in
      let at : (y + 0) * w ≡ y * w = omega arith in
      let long : length row ≡ w = first.1 in
      let here : row ≡ take (length row) (rest s) = rw (long, left) (subst (λ k. row ≡ take w (drop k samples)) at first.0) in
      let still : same m ≡ true = now.tells.1 (is, here) in
      let after : y * w + w ≡ suc y * w = omega arith in
      let next : rest m ≡ drop (suc y * w) samples =
      now.goes_on (row_few row (rest s) here) ∙ ap (λ k. drop k (rest s)) long ∙ ap (drop w) left ∙ drop-drop w (y * w) samples ∙ ap (λ k. drop k samples) after in
      all_same (suc y) m t rows taken.2
      (λ k inside.
      let place : (y + suc k) * w ≡ (suc y + k) * w = omega arith in
      let later = are (suc k) (omega (arith, inside)) in
      (subst (λ j. get_or rows k [] ≡ take w (drop j samples)) place later.0, later.1)) next still

  -- so are all rows of a plane
  pub cell_same : (h : ℕ) (s t : S) → length samples ≡ w * h →
      TakesCell (λ old row new. Compared (rest old) (same old) row (rest new) (same new)) (cell_of w samples) h s t →
      rest s ≡ samples → same s ≡ true → same t ≡ true
  cell_same h s t whole took all is =
      let none : 0 ≡ 0 * w = omega arith in
      all_same 0 s t took.rows took.taken
      (λ k inside.
      let inside : k < h = omega (arith, inside, took.count) in
      let place : k * w ≡ (0 + k) * w = omega arith in
      let row = same_shown (cell_of w samples) (k + 2) (get_or took.rows k []) (take w (drop (k * w) samples)) (took.wide k inside) (row_long samples w h k whole inside) (took.shows k inside) (row_shown samples w k) in
      (subst (λ j. get_or took.rows k [] ≡ take w (drop j samples)) place row, took.wide k inside)) (all ∙ ap (λ j. drop j samples) none) is
