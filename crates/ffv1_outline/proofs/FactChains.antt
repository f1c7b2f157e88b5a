-- A fact, and what is appended after it.
use Rattle.std.proofs.Common.{◌≡◌, ◌∙◌, ℕ, List, ◌++◌, ap, append_assoc}

regrouped : (text opening value closing rest : List ℕ) → text ++ opening ++ value ++ closing ++ rest ≡ text ++ ((opening ++ value ++ closing) ++ rest)
regrouped text opening value closing rest = simp append_assoc

pub fact_then : (text opening value closing rest a b d e : List ℕ) → a ≡ text ++ opening → b ≡ a ++ value → d ≡ b ++ closing → e ≡ d ++ rest → e ≡ text ++ ((opening ++ value ++ closing) ++ rest)
fact_then text opening value closing rest a b d e first second third last =
    last ∙ ap (λ z. z ++ rest) (third ∙ ap (λ z. z ++ closing) (second ∙ ap (λ z. z ++ value) first))
    ∙ regrouped text opening value closing rest
