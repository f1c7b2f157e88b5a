-- The bytes of the two endings.
use Rattle.std.proofs.Common.{◌≡◌, refl, ℕ, suc, ◌+◌, ◌-◌, ◌*◌, ◌/◌, ◌%◌, List, [], ◌∷◌, length, take, arith, sym, ◌∙◌}
use Rattle.std.proofs.Math.Seq.{take-length, take-append_seam}
use Rattle.ffv1_range.specs.Codes.{value, digits, raised, rounded_of, full_of, AreBytes}
use Rattle.ffv1_range.specs.Internal.Registers.{interval_from}
use Rattle.ffv1_range.proofs.Values.{digits-value, length-digits}

-- bytes are the digits of their number
pub digits_all : (xs : List ℕ) (n k : ℕ) → AreBytes xs → k ≡ length xs → n ≡ value xs (length xs) → digits k n ≡ xs
digits_all xs n k are long e =
    rw (long, e) (digits-value xs are (length xs) (omega arith) ∙ take-length xs)

-- the first digits are those of the quotient
pub take-digits : (k n : ℕ) → take k (digits (suc k) n) ≡ digits k (n / 256)
take-digits k n = rw (length-digits k (n / 256)) at (take-append_seam (digits k (n / 256)) (n % 256 ∷ []))

-- the bytes of the sentinel ending, by their number
pub rounded-is : (xs ys : List ℕ) (low width : ℕ) → AreBytes xs → length xs ≡ length ys + 1 → value xs (length xs) ≡ 256 * value ys (length ys) + (low + 255) / 256 →
    xs ≡ rounded_of (interval_from ys low width)
rounded-is xs ys low width are long number =
    let two : length ys + 2 ≡ suc (suc (length ys)) = omega arith in
    let one : suc (suc (length ys)) - 1 ≡ suc (length ys) = omega arith in
    let quotient : raised (65536 * value ys (length ys) + low) / 256 ≡ value xs (length xs) = omega arith in
    let all = digits_all xs (value xs (length xs)) (suc (length ys)) are (omega arith) refl in
    rw (two, one, take-digits, quotient) (sym all)

-- the bytes of the full ending, by their number
pub full-is : (xs ys : List ℕ) (low width : ℕ) → AreBytes xs → length xs ≡ length ys + 2 → value xs (length xs) ≡ 65536 * value ys (length ys) + low →
    xs ≡ full_of (interval_from ys low width)
full-is xs ys low width are long number =
    sym (digits_all xs (65536 * value ys (length ys) + low) (length ys + 2) are (sym long) (sym number))
