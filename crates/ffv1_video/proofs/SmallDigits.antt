-- Digits of bytes, one by one.
use Rattle.std.proofs.Common.{◌≡◌, refl, ℕ, ◌+◌, ◌<◌, ◌/◌, ◌%◌, List, [], ◌∷◌, ◌++◌, length, take, get_or, ap, sym, ◌∙◌, append_assoc}
use Rattle.std.proofs.lemmas.List.{take_more}
use Rattle.ffv1_video.specs.Md5Text.{small_digit, small_hexadecimal}

small_append : (xs : List ℕ) (b : ℕ) → small_hexadecimal (xs ++ b ∷ []) ≡ small_hexadecimal xs ++ small_digit (b / 16) ∷ small_digit (b % 16) ∷ []
small_append [] b = refl
small_append (x ∷ xs) b = ap (λ l. small_digit (x / 16) ∷ small_digit (x % 16) ∷ l) (small_append xs b)

-- one byte more
pub small_more : (old text bytes : List ℕ) (i b first second : ℕ) → i < length bytes → b ≡ get_or bytes i 0 → first ≡ small_digit (b / 16) → second ≡ small_digit (b % 16) →
    text ≡ old ++ small_hexadecimal (take i bytes) → (text ++ first ∷ []) ++ second ∷ [] ≡ old ++ small_hexadecimal (take (i + 1) bytes)
small_more old text bytes i b first second inside is one two e =
    rw (take_more bytes i 0 inside, small_append, sym is, e, one, two) (append_assoc (old ++ small_hexadecimal (take i bytes)) (small_digit (b / 16) ∷ []) (small_digit (b % 16) ∷ []) ∙ append_assoc old (small_hexadecimal (take i bytes)) (small_digit (b / 16) ∷ small_digit (b % 16) ∷ []))
