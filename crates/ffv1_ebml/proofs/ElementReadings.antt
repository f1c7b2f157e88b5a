-- Headers of elements, as they are read.
use Rattle.std.proofs.Common.{◌≡◌, ◌==◌, ◌∙◌, ℕ, List, [], ◌∷◌, Option, Some, None, Ok, false, true, refl, sym, ap}
use Rattle.std.proofs.lemmas.Bool.{eq-eqb, ne_eqb}
use Rattle.ffv1_reads.proofs.Results.{read_on_twice}
use Rattle.ffv1_reads.proofs.WantedBytes.{taken_complete}
use Rattle.ffv1_reads.specs.Reads.{Reading, given, read_on, refused, ◌>>=◌}
use Rattle.ffv1_reads.specs.declared.fault.FileFault.TheVariants as fault
use Rattle.ffv1_ebml.specs.declared.element.Element.{Element}
use Rattle.ffv1_ebml.specs.declared.sum.Sum.{Sum}
use Rattle.ffv1_ebml.specs.declared.sum.Sum.TheVariants.{Absent}
use Rattle.ffv1_ebml.specs.Elements.{element_after, element_in, element_rest, first_read}
use Rattle.ffv1_ebml.specs.Vints.{vint_rest, vint_read}
use Rattle.ffv1_ebml.proofs.VintReadings.{vint_whole}

-- the element alone
abbrev pub element_given : Element × Sum → Reading Element
element_given p = given p.0

pub after_in_turn : (left first : ℕ) (text : List ℕ) → element_after left first text ≡ (vint_rest 4 left (first ∷ []) >>= λ ident. element_rest left Absent ident >>= element_given) text
after_in_turn left first text = read_on_twice (vint_rest 4 left (first ∷ []) text) (element_rest left Absent) element_given

-- an element whose first byte is there
abbrev pub some_given : Element → Reading (Option Element)
some_given e = given (Some e)

pub first_in_turn : (left first : ℕ) → (left ≡ 0 → ⊥) → (text : List ℕ) → first_read left (first ∷ text) ≡ (element_after left first >>= some_given) text
unfolding first_read element_in
first_in_turn left first some text =
    let test : (left == 0) ≡ false = ne_eqb _ _ some in
    let front : vint_read 4 left (first ∷ text) ≡ vint_rest 4 left (first ∷ []) text = vint_whole 4 left some (first ∷ text) ∙ ap (λ z. read_on z (vint_rest 4 left)) (taken_complete 1 (first ∷ []) text refl) in
    rw (test, front) (sym (read_on_twice (read_on (vint_rest 4 left (first ∷ []) text) (element_rest left Absent)) element_given some_given))

-- the end of the input is none
pub first_ends : (left : ℕ) → (left ≡ 0 → ⊥) → first_read left [] ≡ Ok (None, [])
unfolding first_read
first_ends left some =
    let test : (left == 0) ≡ false = ne_eqb _ _ some in
    rw test refl

pub first_none_left : (left : ℕ) → left ≡ 0 → (text : List ℕ) → first_read left text ≡ refused fault.Truncated text
unfolding first_read
first_none_left left none text =
    let test : (left == 0) ≡ true = eq-eqb _ _ none in
    rw test refl
