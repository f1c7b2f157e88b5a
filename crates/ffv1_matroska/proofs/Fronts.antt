-- Bytes in a row.
use Rattle.std.proofs.Common.{◌≡◌, ◌≤◌, ◌++◌, ◌∷◌, [], ◌∙◌, ℕ, List, length, take, drop, refl, sym, ap, arith}
use Rattle.std.proofs.lemmas.List.{drop-append-le, take-append-drop, take-append-le}
use Rattle.ffv1_reads.proofs.Results.{cut_back, cut_front}

-- the first of them are known
pub split_front : (xs ys a b : List ℕ) → xs ++ ys ≡ a ++ b → length a ≤ length xs → (xs ≡ a ++ drop (length a) xs) × (b ≡ drop (length a) xs ++ ys)
split_front xs ys a b e fits =
    let n = length a in
    let front : take n xs ≡ a = sym (take-append-le n xs ys fits) ∙ ap (take n) e ∙ cut_front n a b refl in
    (sym (take-append-drop n xs) ∙ ap (λ z. z ++ drop n xs) front, sym (cut_back n a b refl) ∙ ap (drop n) (sym e) ∙ drop-append-le n xs ys fits)

-- none are none
pub none_left : (xs : List ℕ) → length xs ≡ 0 → xs ≡ []
none_left [] none = refl
none_left (x ∷ xs) none = absurd (omega (arith, none))
