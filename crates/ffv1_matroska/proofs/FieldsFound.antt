-- Fields that are spelled one after the other are found by their IDs.
use Rattle.std.proofs.Common.{◌≡◌, ◌<◌, ◌==◌, ◌∙◌, ◌++◌, ℕ, List, [], ◌∷◌, cond, Option, Some, None, Ok, length, refl, sym, ap, inl, inr}
use Rattle.std.proofs.lemmas.Bool.{cases_eq, eq-eqb, ne_eqb}
use Rattle.std.specs.Int.{bytes_high_first}
use Rattle.ffv1_ebml.specs.Contents.{first_part, found}
use Rattle.ffv1_ebml.specs.Spelled.{IsIdent, SaysSize, long, short, spelled}
use Rattle.ffv1_ebml.proofs.ElementLaws.{found_first, found_past}
use Rattle.ffv1_ebml.proofs.FoundParts.{found_none}
use Rattle.ffv1_ebml.proofs.Numbers.{length_high}
use Rattle.ffv1_ebml.proofs.SpelledLaws.{short_spelled}

pub record Field : Type 0 where
  pub ident : ℕ
  pub size : List ℕ
  pub content : List ℕ

abbrev pub fields_text : List Field → List ℕ
fields_text [] = []
fields_text (f ∷ fs) = spelled f.ident f.size f.content ++ fields_text fs

abbrev pub IsField : Field → Type 0
IsField f = IsIdent f.ident × SaysSize f.size (Some (length f.content))

abbrev pub AreFields : List Field → Type 0
AreFields [] = Unit {0}
AreFields (f ∷ fs) = IsField f × AreFields fs

-- the content of the first with this ID
abbrev pub sought : ℕ → List Field → Option (List ℕ)
sought ident [] = None
sought ident (f ∷ fs) = cond (f.ident == ident) (Some f.content) (sought ident fs)

pub found_in : (ident : ℕ) (fs : List Field) → AreFields fs → found ident (fields_text fs) ≡ Ok (sought ident fs)
unfolding first_part
found_in ident [] are = found_none 0 ident [] refl
found_in ident (f ∷ fs) are = elim (cases_eq f.ident ident) [
  | inl same ↦ by_same f.ident f.size f.content (fields_text fs) (sought ident fs) same are.0.0 are.0.1
  | inr other ↦ found_past ident f.ident f.size f.content (fields_text fs) are.0.0 are.0.1 other ∙ found_in ident fs are.1 ∙ rw (ne_eqb f.ident ident other) refl
]
  where
    by_same : (other : ℕ) (size content rest : List ℕ) (more : Option (List ℕ)) → other ≡ ident → IsIdent other → SaysSize size (Some (length content)) → found ident (spelled other size content ++ rest) ≡ Ok (cond (other == ident) (Some content) more)
    by_same other size content rest more same is says = rw (eq-eqb other ident same) (ap (λ k. found k (spelled other size content ++ rest)) (sym same) ∙ found_first other size content rest is says)

-- fields that are written: a number, some content by a size of one byte, and by one of eight
abbrev pub number_field : ℕ → ℕ → ℕ → Field
number_field ident width number = record { ident = ident; size = short width; content = bytes_high_first width number }

abbrev pub short_field : ℕ → List ℕ → Field
short_field ident content = record { ident = ident; size = short (length content); content = content }

abbrev pub long_field : ℕ → List ℕ → Field
long_field ident content = record { ident = ident; size = long (length content); content = content }

pub number_is : (ident width number : ℕ) → IsIdent ident → width < 127 → IsField (number_field ident width number)
number_is ident width number is few = (is, rw (length_high width number) (short_spelled width few))

pub short_is : (ident : ℕ) (content : List ℕ) → IsIdent ident → length content < 127 → IsField (short_field ident content)
short_is ident content is few = (is, short_spelled (length content) few)
