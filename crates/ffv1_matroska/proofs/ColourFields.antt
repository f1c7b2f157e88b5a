-- Colours that are written are read back.
use Rattle.std.proofs.Common.{◌≡◌, ◌<◌, ◌==◌, ◌∙◌, ◌++◌, ℕ, Bool, true, false, List, [], ◌∷◌, cond, Option, Some, None, Ok, nat_lt, refl, sym, ap, arith, inl, inr, append_assoc, append-nil}
use Rattle.std.proofs.lemmas.Bool.{cases_eq, eq-eqb, le-ltb, ne_eqb}
use Rattle.std.specs.Int.{bytes_high_first}
use Rattle.ffv1_reads.specs.Colour.{IsColour}
use Rattle.ffv1_reads.specs.declared.colour.Colour.{Colour}
use Rattle.ffv1_ebml.specs.Contents.{first_part, found, number_in}
use Rattle.ffv1_ebml.specs.Spelled.{IsIdent, number_element, short}
use Rattle.ffv1_ebml.specs.Vints.{number_of}
use Rattle.ffv1_ebml.proofs.ElementLaws.{found_first, found_past}
use Rattle.ffv1_ebml.proofs.FoundParts.{found_none}
use Rattle.ffv1_ebml.proofs.SpelledLaws.{number_high, short_spelled}
use Rattle.ffv1_matroska.specs.Colours.{bytes_found, chroma_siting_horz, chroma_siting_vert, colour_field, colour_of, matrix_coefficients, one_byte, primaries, range, transfer_characteristics}
use Rattle.ffv1_matroska.specs.Written.{colour_content, said_field}

-- a number that is said, or not
record Row : Type 0 where
  ident : ℕ
  default : ℕ
  value : ℕ

abbrev rows_text : List Row → List ℕ
rows_text [] = []
rows_text (r ∷ rs) = said_field r.ident r.default r.value ++ rows_text rs

abbrev HaveIdents : List Row → Type 0
HaveIdents [] = Unit {0}
HaveIdents (r ∷ rs) = IsIdent r.ident × HaveIdents rs

-- what the first with this ID that is said has
abbrev sought : ℕ → List Row → Option (List ℕ)
sought ident [] = None
sought ident (r ∷ rs) = cond (r.ident == ident) (cond (r.value == r.default) (sought ident rs) (Some (bytes_high_first 1 r.value))) (sought ident rs)

one_found : (ident other value : ℕ) (rest : List ℕ) (more : Option (List ℕ)) → IsIdent other → found ident rest ≡ Ok more → found ident (number_element other 1 value ++ rest) ≡ Ok (cond (other == ident) (Some (bytes_high_first 1 value)) more)
one_found ident other value rest more is after = elim (cases_eq other ident) [
  | inl same ↦ rw (eq-eqb other ident same) (ap (λ k. found k (number_element other 1 value ++ rest)) (sym same) ∙ found_first other (short 1) (bytes_high_first 1 value) rest is (short_spelled 1 (omega arith)))
  | inr differ ↦ rw (ne_eqb other ident differ) (found_past ident other (short 1) (bytes_high_first 1 value) rest is (short_spelled 1 (omega arith)) differ ∙ after)
]

row_found : (ident : ℕ) (rs : List Row) → HaveIdents rs → found ident (rows_text rs) ≡ Ok (sought ident rs)
unfolding first_part
row_found ident [] are = found_none 0 ident [] refl
row_found ident (r ∷ rs) are =
    let after = row_found ident rs are.1 in
    elim (cases_eq r.value r.default) [
      | inl plain ↦ rw (eq-eqb r.value r.default plain) (after ∙ ap (λ o. Ok o) (sym (either (r.ident == ident) (sought ident rs))))
      | inr said ↦ rw (ne_eqb r.value r.default said) (one_found ident r.ident r.value (rows_text rs) (sought ident rs) are.0 after)
    ]
  where
    either : (b : Bool) (x : Option (List ℕ)) → cond b x x ≡ x
    either true x = refl
    either false x = refl

-- a number of 8 bits comes back
value_back : (default v : ℕ) → default < 256 → v < 256 → one_byte default (number_in default (bytes_found (Ok (cond (v == default) None (Some (bytes_high_first 1 v)))))) ≡ v
value_back default v few fits =
    let own : nat_lt 255 default ≡ false = le-ltb _ _ (omega (arith, few)) in
    let within : nat_lt 255 v ≡ false = le-ltb _ _ (omega (arith, fits)) in
    let low : number_of (bytes_high_first 1 v) ≡ v = number_high 1 v ∙ (omega (arith, fits)) in
    elim (cases_eq v default) [
      | inl plain ↦ rw (eq-eqb v default plain, own) (sym plain)
      | inr said ↦ rw (ne_eqb v default said) (ap (λ k. one_byte default (Ok k)) low ∙ (rw within refl))
    ]

abbrev rows_of : Colour → List Row
rows_of c =
    record { ident = matrix_coefficients; default = 2; value = c.matrix } ∷ record { ident = chroma_siting_horz; default = 0; value = c.siting_across }
    ∷ record { ident = chroma_siting_vert; default = 0; value = c.siting_down } ∷ record { ident = range; default = 0; value = c.range }
    ∷ record { ident = transfer_characteristics; default = 2; value = c.transfer } ∷ record { ident = primaries; default = 2; value = c.primaries } ∷ []

have_idents : (c : Colour) → HaveIdents (rows_of c)
have_idents c = (
  inr (inl (omega arith, omega arith)),
  (
    inr (inl (omega arith, omega arith)),
    (
      inr (inl (omega arith, omega arith)),
      (inr (inl (omega arith, omega arith)), (inr (inl (omega arith, omega arith)), (inr (inl (omega arith, omega arith)), tt))),
    ),
  ),
)

as_rows : (c : Colour) → colour_content c ≡ rows_text (rows_of c)
unfolding colour_content
as_rows c = regrouped (said_field matrix_coefficients 2 c.matrix) (said_field chroma_siting_horz 0 c.siting_across) (said_field chroma_siting_vert 0 c.siting_down) (said_field range 0 c.range) (said_field transfer_characteristics 2 c.transfer) (said_field primaries 2 c.primaries)
  where
    regrouped : (a b d e f g : List ℕ) → ((((a ++ b) ++ d) ++ e) ++ f) ++ g ≡ a ++ (b ++ (d ++ (e ++ (f ++ (g ++ [])))))
    regrouped a b d e f g = simp (append_assoc, append-nil)

field_back : (ident default v : ℕ) (c : Colour) → default < 256 → v < 256 → sought ident (rows_of c) ≡ cond (v == default) None (Some (bytes_high_first 1 v)) → colour_field ident default (colour_content c) ≡ v
field_back ident default v c few fits is =
    ap (colour_field ident default) (as_rows c)
    ∙ ap (λ r. one_byte default (number_in default (bytes_found r))) (row_found ident (rows_of c) (have_idents c) ∙ ap (λ o. Ok o) is)
    ∙ value_back default v few fits

pub colour_back : (c : Colour) → IsColour c → colour_of (colour_content c) ≡ c
colour_back c is =
    let a = field_back matrix_coefficients 2 c.matrix c (omega arith) is.matrix refl in
    let b = field_back transfer_characteristics 2 c.transfer c (omega arith) is.transfer refl in
    let d = field_back primaries 2 c.primaries c (omega arith) is.primaries refl in
    let e = field_back range 0 c.range c (omega arith) is.range refl in
    let f = field_back chroma_siting_horz 0 c.siting_across c (omega arith) is.siting_across refl in
    let g = field_back chroma_siting_vert 0 c.siting_down c (omega arith) is.siting_down refl in
    rw (a, b, d, e, f, g) refl
