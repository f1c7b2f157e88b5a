-- Void elements are passed, one after the other.
use Rattle.std.proofs.Common.{◌≡◌, ◌<◌, ◌≤◌, ℕ, zero, suc, List, Some, None, length, refl, ap, arith}
use Rattle.ffv1_outline.specs.MatroskaOutline.{after_void, after_voids_up_to, on_or_stay}

pub void_on : (n : ℕ) (xs rest : List ℕ) → length xs ≤ n → after_void xs ≡ Some rest → length rest < length xs → (m : ℕ) × (length rest ≤ m) × (after_voids_up_to n xs ≡ after_voids_up_to m rest)
unfolding after_voids_up_to
void_on zero xs rest few is less = absurd (omega (arith, few, less))
void_on (suc n) xs rest few is less =
    (n, omega (arith, few, less), ap (on_or_stay xs (after_voids_up_to n)) is)

pub void_none : (n : ℕ) (xs : List ℕ) → after_void xs ≡ None → after_voids_up_to n xs ≡ xs
unfolding after_voids_up_to
void_none zero xs is = refl
void_none (suc n) xs is = ap (on_or_stay xs (after_voids_up_to n)) is
