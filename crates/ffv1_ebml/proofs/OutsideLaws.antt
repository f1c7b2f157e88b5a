-- Elements in a parent outside of which those of some IDs stand.
use Rattle.std.proofs.Common.{◌≡◌, ◌≤◌, ◌-◌, ◌∙◌, ◌++◌, ℕ, List, Bool, true, false, Option, Some, None, Result, Ok, Err, length, nat_lt, refl, sym, ap}
use Rattle.ffv1_reads.specs.Reads.{Met, read_on, given, refused, ◌>>=◌}
use Rattle.ffv1_reads.specs.declared.fault.FileFault.TheVariants as fault
use Rattle.ffv1_reads.proofs.Results.{ok_is, read_on_ok}
use Rattle.ffv1_ebml.specs.Elements.{element_in, element_judged, element_named, element_read, element_rest, none_outside}
use Rattle.ffv1_ebml.specs.Sums.{summed}
use Rattle.ffv1_ebml.specs.Vints.{IsVint, number_of, size_of, vint_read}
use Rattle.ffv1_ebml.specs.declared.element.Element.{Element}
use Rattle.ffv1_ebml.specs.declared.sum.Sum.{Sum}
use Rattle.ffv1_ebml.proofs.VintLaws.{vint_complete}

pub outside_refused : (outside : ℕ → Bool) (left : ℕ) (sum : Sum) (ident rest : List ℕ) → IsVint ident → length ident ≤ 4 → length ident ≤ left → outside (number_of ident) ≡ true → element_in outside left sum (ident ++ rest) ≡ Err (Met fault.BadElement rest)
unfolding element_in
outside_refused outside left sum ident rest is few fits there =
    ap (λ z. read_on z (element_named outside left sum)) (vint_complete 4 left ident rest is few fits) ∙ rw there refl

pub others_read : (outside : ℕ → Bool) (left : ℕ) (sum : Sum) (ident rest : List ℕ) → IsVint ident → length ident ≤ 4 → length ident ≤ left → outside (number_of ident) ≡ false → element_in outside left sum (ident ++ rest) ≡ element_read left sum (ident ++ rest)
unfolding element_in
others_read outside left sum ident rest is few fits apart =
    let whole = vint_complete 4 left ident rest is few fits in
    let here : element_named outside left sum ident rest ≡ element_rest left sum ident rest = rw apart refl in
    ap (λ z. read_on z (element_named outside left sum)) whole ∙ here ∙ sym (ap (λ z. read_on z (element_rest left sum)) whole)

-- the ID of an element that is read
judged_ident : (left ident : ℕ) (size : Option ℕ) (text : List ℕ) (p : Element × List ℕ) → element_judged left ident size text ≡ Ok p → p.0.ident ≡ ident
judged_ident left ident None text p h = ap (λ (z : Element × List ℕ). z.0.ident) (sym (ok_is _ p h))
judged_ident left ident (Some n) text p h = on_test (nat_lt left n) refl h
  where
    on_test : (b : Bool) → nat_lt left n ≡ b → element_judged left ident (Some n) text ≡ Ok p → p.0.ident ≡ ident
    on_test true t h = absurd (cc (rw t at h))
    on_test false t h =
        let made : Element = record { ident = ident; size = Some n; left = left - n } in
        ap (λ (z : Element × List ℕ). z.0.ident) (sym (ok_is (made, text) p (rw t at h)))

rest_ident : (left : ℕ) (sum : Sum) (ident text : List ℕ) (p : (Element × Sum) × List ℕ) → element_rest left sum ident text ≡ Ok p → p.0.0.ident ≡ number_of ident
rest_ident left sum ident text p h =
    let second = read_on_ok (vint_read 8 (left - length ident) text) (λ size. element_judged (left - length ident - length size) (number_of ident) (size_of size) >>= λ e. given (e, summed (summed sum ident) size)) p h in
    let size = second.0.0 in
    let third = read_on_ok (element_judged (left - length ident - length size) (number_of ident) (size_of size) second.0.1) (λ e. given (e, summed (summed sum ident) size)) p second.2 in
    let named = judged_ident (left - length ident - length size) (number_of ident) (size_of size) second.0.1 third.0 third.1 in
    ap (λ (z : (Element × Sum) × List ℕ). z.0.0.ident) (sym (ok_is ((third.0.0, summed (summed sum ident) size), third.0.1) p third.2)) ∙ named

pub in_read : (outside : ℕ → Bool) (left : ℕ) (sum : Sum) (text : List ℕ) (p : (Element × Sum) × List ℕ) → element_in outside left sum text ≡ Ok p → (element_read left sum text ≡ Ok p) × (outside p.0.0.ident ≡ false)
unfolding element_in
in_read outside left sum text p h =
    let first = read_on_ok (vint_read 4 left text) (element_named outside left sum) p h in
    on_ident first.0.0 first.0.1 first.1 first.2
  where
    on_ident : (ident more : List ℕ) → vint_read 4 left text ≡ Ok (ident, more) → element_named outside left sum ident more ≡ Ok p → (element_read left sum text ≡ Ok p) × (outside p.0.0.ident ≡ false)
    on_ident ident more one two = on_test (outside (number_of ident)) refl two
      where
        on_test : (b : Bool) → outside (number_of ident) ≡ b → element_named outside left sum ident more ≡ Ok p → (element_read left sum text ≡ Ok p) × (outside p.0.0.ident ≡ false)
        on_test true t k = absurd (cc (rw t at k))
        on_test false t k =
            let rest : element_rest left sum ident more ≡ Ok p = rw t at k in
            (ap (λ z. read_on z (element_rest left sum)) one ∙ rest, ap outside (rest_ident left sum ident more p rest) ∙ t)
