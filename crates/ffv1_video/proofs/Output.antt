-- Nothing is written; a beginning of two texts.
use Rattle.std.proofs.Common.{◌≡◌, refl, ℕ, suc, ◌+◌, Option, List, [], ◌∷◌, ◌++◌, length, take, ap, ◌∙◌, arith}
use Rattle.std.proofs.KnownBytes.{Keeps-refl}
use Rattle.ffv1_wire.specs.Passage.{between}
use Rattle.ffv1_video.specs.Output.{Silent}

pub silent : (o : Option (List ℕ)) (n : ℕ) → Silent (between o o n n)
silent o n = record { kept = Keeps-refl o; same = refl }

pub take_past : (xs ys : List ℕ) (k : ℕ) → take (length xs + k) (xs ++ ys) ≡ xs ++ take k ys
take_past [] ys k =
    let same : 0 + k ≡ k = omega arith in
    ap (λ n. take n ys) same
take_past (x ∷ xs) ys k =
    let same : suc (length xs) + k ≡ suc (length xs + k) = omega arith in
    ap (λ n. take n (x ∷ (xs ++ ys))) same ∙ ap (λ z. x ∷ z) (take_past xs ys k)
