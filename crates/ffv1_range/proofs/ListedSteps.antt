-- Steps of a list of numbers.
use Rattle.std.proofs.Common.{◌≡◌, refl, ℕ, zero, suc, ◌+◌, ◌/◌, ◌%◌, ◌==◌, ◌<◌, List, [], ◌∷◌, ◌++◌, length, get_or, take, drop, arith, ap, ◌∙◌, sym, inl, inr, add-one}
use Rattle.std.proofs.Math.Seq.{take-suc}
use Rattle.std.proofs.lemmas.Bool.{cases_eq}
use Rattle.std.proofs.lemmas.List.{take-append-drop}
use Rattle.ffv1_range.specs.Symbols.{Step}
use Rattle.ffv1_range.specs.History.{AreBelow}
use Rattle.ffv1_range.specs.Weight.{one_if}
use Rattle.ffv1_range.specs.Counts.{ones_in}
use Rattle.ffv1_range.specs.Table.{Table}
use Rattle.ffv1_range.specs.Writing.{Writing}
use Rattle.ffv1_range.specs.Puts.{Grows}
use Rattle.ffv1_range.specs.Internal.Registers.{Writes}
use Rattle.ffv1_range.specs.Listed.{step_of, steps_of}
use Rattle.ffv1_range.proofs.Steps.{writes_append}
use Rattle.ffv1_range.proofs.Growth.{grows_first, grows_second}

pub steps_of-append : (xs ys : List ℕ) → steps_of (xs ++ ys) ≡ steps_of xs ++ steps_of ys
steps_of-append [] ys = refl
steps_of-append (x ∷ xs) ys = ap (λ ss. step_of x ∷ ss) (steps_of-append xs ys)

pub length-steps_of : (xs : List ℕ) → length (steps_of xs) ≡ length xs
length-steps_of [] = refl
length-steps_of (x ∷ xs) = ap suc (length-steps_of xs)

-- one more
pub steps_of-next : (xs : List ℕ) (i : ℕ) → i < length xs → steps_of (take (i + 1) xs) ≡ steps_of (take i xs) ++ (step_of (get_or xs i 0) ∷ [])
steps_of-next xs i inside = rw (add-one, take-suc xs i 0 inside) (steps_of-append (take i xs) (get_or xs i 0 ∷ []))

-- what is still to come
pub steps_of-rest : (xs : List ℕ) (i : ℕ) → steps_of xs ≡ steps_of (take i xs) ++ steps_of (drop i xs)
steps_of-rest xs i = ap steps_of (sym (take-append-drop i xs)) ∙ steps_of-append (take i xs) (drop i xs)

pub below_at : (xs : List ℕ) (count i : ℕ) → i < length xs → AreBelow (steps_of xs) count → get_or xs i 0 / 512 < count
below_at [] count i inside below = absurd (omega arith)
below_at (x ∷ xs) count zero inside below = below.0
below_at (x ∷ xs) count (suc i) inside below = below_at xs count i (omega arith) below.1

pub ones_in-append : (xs ys : List Step) → ones_in (xs ++ ys) ≡ ones_in xs + ones_in ys
ones_in-append [] ys = omega arith
ones_in-append (x ∷ xs) ys = let rest = ones_in-append xs ys in omega arith

one_of : (n : ℕ) → one_if ((n % 2) == 1) ≡ n % 2
one_of n = elim (cases_eq (n % 2) 1) [
  | inl one ↦ rw one refl
  | inr other ↦ let none : n % 2 ≡ 0 = omega arith in rw none refl
]

pub ones_next : (xs : List ℕ) (i : ℕ) → i < length xs → ones_in (steps_of (take (i + 1) xs)) ≡ ones_in (steps_of (take i xs)) + get_or xs i 0 / 256 % 2
ones_next xs i inside =
    let next = ap ones_in (steps_of-next xs i inside) ∙ ones_in-append (steps_of (take i xs)) (step_of (get_or xs i 0) ∷ []) in
    let one = one_of (get_or xs i 0 / 256) in
    omega arith

pub writes_listed : (t : Table) (a b c : Writing) (ss ts us list : List ℕ) (i : ℕ) → i < length list → Writes t a ss b ts (steps_of (take i list)) →
    Writes t b ts c us (step_of (get_or list i 0) ∷ []) → Writes t a ss c us (steps_of (take (i + 1) list))
writes_listed t a b c ss ts us list i inside first second =
    rw (steps_of-next list i inside) (writes_append t a b c ss ts us (steps_of (take i list)) (step_of (get_or list i 0) ∷ []) first second)

-- a decision of a list that is refused
pub grows_listed : (t : Table) (a b : Writing) (ss ts list : List ℕ) (i : ℕ) → i < length list → Writes t a ss b ts (steps_of (take i list)) →
    Grows t b.interval ts (step_of (get_or list i 0) ∷ []) → Grows t a.interval ss (steps_of list)
grows_listed t a b ss ts list i inside writes grows =
    rw (steps_of-rest list (i + 1), steps_of-next list i inside)
    (grows_first t a.interval ss (steps_of (take i list) ++ (step_of (get_or list i 0) ∷ [])) (steps_of (drop (i + 1) list))
    (grows_second t a b ss ts (steps_of (take i list)) (step_of (get_or list i 0) ∷ []) writes grows))
