-- Steps after base stand where they stand, and nowhere else.
use Rattle.std.proofs.Common.{ℕ, ◌+◌, ◌≤◌, inl, inr, List, [], ◌∷◌, arith}
use Rattle.ffv1_range.specs.Symbols.{Step, shifted}
use Rattle.ffv1_range.specs.History.{AreBelow, AreOutside}

pub shifted_within : (base count n : ℕ) (steps : List Step) → AreBelow steps count → base + count ≤ n → AreBelow (shifted base steps) n
shifted_within base count n [] below room = tt
shifted_within base count n (s ∷ ss) below room =
    let first = below.0 in
    (omega arith, shifted_within base count n ss below.1 room)

-- steps after base leave the slots below it
pub shifted_beside : (base count : ℕ) (steps : List Step) → count ≤ base → AreOutside (shifted base steps) 0 count
shifted_beside base count [] above = tt
shifted_beside base count (s ∷ ss) above = (inr (omega arith), shifted_beside base count ss above)

-- and steps below base leave those from base on
pub below_beside : (base count : ℕ) (steps : List Step) → AreBelow steps base → AreOutside steps base count
below_beside base count [] below = tt
below_beside base count (s ∷ ss) below = (inl below.0, below_beside base count ss below.1)

pub below_more : (n m : ℕ) (steps : List Step) → n ≤ m → AreBelow steps n → AreBelow steps m
below_more n m [] few below = tt
below_more n m (s ∷ ss) few below =
    let first = below.0 in
    (omega arith, below_more n m ss few below.1)
