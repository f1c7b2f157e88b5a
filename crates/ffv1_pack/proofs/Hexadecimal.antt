-- Bytes in hexadecimal, one by one.
use Rattle.std.proofs.Common.{◌≡◌, ℕ, ◌+◌, ◌*◌, ◌<◌, ◌/◌, ◌%◌, List, [], ◌∷◌, ◌++◌, take, set, length, get_or, refl, ◌∙◌, ap, append_assoc, add-one, arith}
use Rattle.std.proofs.Math.Seq.{take-suc, lt-length-set}
use Rattle.std.proofs.lemmas.Grind.{take-set_at}
use Rattle.ffv1_pack.specs.Report.{hexadecimal, digit_of}

hexadecimal-append : (xs : List ℕ) (b : ℕ) → hexadecimal (xs ++ b ∷ []) ≡ hexadecimal xs ++ digit_of (b / 16) ∷ digit_of (b % 16) ∷ []
hexadecimal-append [] b = refl
hexadecimal-append (x ∷ xs) b = ap (λ l. digit_of (x / 16) ∷ digit_of (x % 16) ∷ l) (hexadecimal-append xs b)

take-two : (l : List ℕ) (i n a b : ℕ) → n ≡ i + 2 → i < length l → i + 1 < length l → take n (set (set l i a) (i + 1) b) ≡ take i l ++ a ∷ b ∷ []
take-two l i n a b two inside next =
    take-set_at (set l i a) (i + 1) n b (omega arith) (lt-length-set l i a next)
    ∙ ap (λ (t : List ℕ). t ++ b ∷ []) (take-set_at l i (i + 1) a refl inside)
    ∙ append_assoc (take i l) (a ∷ []) (b ∷ [])

-- one byte more
pub hexadecimal-more : (digits bytes : List ℕ) (i b first second : ℕ) → i < length bytes → i * 2 < length digits → i * 2 + 1 < length digits →
    b ≡ get_or bytes i 0 → first ≡ digit_of (b / 16) → second ≡ digit_of (b % 16) → take (i * 2) digits ≡ hexadecimal (take i bytes) →
    take ((i + 1) * 2) (set (set digits (i * 2) first) (i * 2 + 1) second) ≡ hexadecimal (take (i + 1) bytes)
hexadecimal-more digits bytes i b first second inside even odd is one two e =
    let more : take (i + 1) bytes ≡ take i bytes ++ b ∷ [] = rw (add-one, is) (take-suc bytes i 0 inside) in
    let both : take ((i + 1) * 2) (set (set digits (i * 2) first) (i * 2 + 1) second) ≡ take (i * 2) digits ++ first ∷ second ∷ [] = take-two digits (i * 2) ((i + 1) * 2) first second (omega arith) even odd in
    rw (more, hexadecimal-append, both, e, one, two) refl
