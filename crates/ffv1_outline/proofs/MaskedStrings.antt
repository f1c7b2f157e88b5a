-- Strings of which control characters are masked, byte by byte.
use Rattle.std.proofs.Common.{◌≡◌, ◌<◌, ◌≤◌, ◌+◌, ◌==◌, ◌∙◌, ℕ, List, [], ◌∷◌, ◌++◌, Bool, length, drop, get_or, ap, sym, append_assoc, append-nil}
use Rattle.std.proofs.lemmas.List.{drop_all, drop_more}
use Rattle.ffv1_outline.specs.Strings.{masked, masked_byte}

-- one byte more
pub masked_more : (done xs all : List ℕ) (after : Bool) (i : ℕ) → i < length xs → done ++ masked after (drop i xs) ≡ all → (done ++ masked_byte after (get_or xs i 0) ∷ []) ++ masked (get_or xs i 0 == 0xC2) (drop (i + 1) xs) ≡ all
unfolding masked
masked_more done xs all after i there is =
    append_assoc done (masked_byte after (get_or xs i 0) ∷ []) (masked (get_or xs i 0 == 0xC2) (drop (i + 1) xs))
    ∙ ap (λ z. done ++ masked after z) (sym (drop_more xs i 0 there)) ∙ is

-- no byte is left
pub masked_end : (done xs all : List ℕ) (after : Bool) (i : ℕ) → length xs ≤ i → done ++ masked after (drop i xs) ≡ all → done ≡ all
unfolding masked
masked_end done xs all after i past is =
    sym (append-nil done) ∙ ap (λ z. done ++ masked after z) (sym (drop_all i xs past)) ∙ is
