-- Parts of lines of any words.
use Rattle.std.proofs.Common.{◌≡◌, ℕ, ◌+◌, ◌≤◌, List, ◌++◌, length, take, drop, ap, ◌∙◌, arith, length-drop}
use Rattle.std.proofs.lemmas.List.{length-take-le}
use Rattle.ffv1_frame.specs.Windows.{window}
use Rattle.ffv1_frame.proofs.lemmas.WrittenParts.{put}

-- a part of a list
pub piece_long : {A : Type 0} (at n : ℕ) (xs : List A) → at + n ≤ length xs → length (take n (drop at xs)) ≡ n
piece_long at n xs fits = length-take-le n (drop at xs) (let d = length-drop at xs in omega (arith, d, fits))

module _ {A : Type 0} (samples : List A → List ℕ)
    (takes : (n : ℕ) (xs : List A) → samples (take n xs) ≡ take n (samples xs))
    (drops : (n : ℕ) (xs : List A) → samples (drop n xs) ≡ drop n (samples xs))
    (joins : (xs ys : List A) → samples (xs ++ ys) ≡ samples xs ++ samples ys) where
  -- the samples of a part
  pub window_samples : (at n : ℕ) (xs : List A) → samples (take n (drop at xs)) ≡ window at n (samples xs)
  window_samples at n xs = takes n (drop at xs) ∙ ap (take n) (drops at xs)

  -- the samples of a line of which a part was written
  pub put_samples : (at k : ℕ) (xs ys : List A) → samples (take at xs ++ (ys ++ drop k (drop at xs))) ≡ put at k (samples xs) (samples ys)
  put_samples at k xs ys =
      joins (take at xs) (ys ++ drop k (drop at xs)) ∙ ap (λ z. z ++ samples (ys ++ drop k (drop at xs))) (takes at xs)
      ∙ ap (λ z. take at (samples xs) ++ z) (joins ys (drop k (drop at xs)) ∙ ap (λ z. samples ys ++ z) (drops k (drop at xs) ∙ ap (drop k) (drops at xs)))
