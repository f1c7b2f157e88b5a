-- The header of an element: what is read is one, and one is read.
use Rattle.std.proofs.Common.{◌≡◌, ◌≤◌, ◌+◌, ◌-◌, ◌∙◌, ◌++◌, ℕ, List, Bool, true, false, nat_lt, Option, Some, None, Ok, length, refl, sym, ap, subst, arith, append_assoc, length-append}
use Rattle.std.proofs.lemmas.Bool.{le-ltb, ltb-false}
use Rattle.ffv1_reads.specs.Reads.{given, read_on, ◌>>=◌}
use Rattle.ffv1_reads.proofs.Results.{ok_is, read_on_ok}
use Rattle.ffv1_ebml.specs.Elements.{element_in, element_judged, element_read, element_rest}
use Rattle.ffv1_ebml.specs.Spelled.{SaysSize}
use Rattle.ffv1_ebml.specs.Sums.{summed}
use Rattle.ffv1_ebml.specs.Vints.{IsVint, number_of, size_of, vint_read}
use Rattle.ffv1_ebml.specs.declared.element.Element.{Element}
use Rattle.ffv1_ebml.specs.declared.sum.Sum.{Sum}
use Rattle.ffv1_ebml.proofs.ElementLaws.{summed_twice}
use Rattle.ffv1_ebml.proofs.OutsideLaws.{others_read}
use Rattle.ffv1_ebml.proofs.VintLaws.{vint_complete, vint_sound}
use Rattle.ffv1_matroska.specs.Internal.{bytes_of}

-- these bytes are the header of an element in a parent that has so many bytes left
pub record IsHeader (left : ℕ) (ident size : List ℕ) (known : Option ℕ) : Type 0 where
  pub named : IsVint ident
  pub few : length ident ≤ 4
  pub sized : SaysSize size known
  pub fits : length (ident ++ size) + bytes_of known ≤ left

-- what is read of it
abbrev pub header_of : ℕ → List ℕ → List ℕ → Option ℕ → Element
header_of left ident size known = record { ident = number_of ident; size = known; left = left - length (ident ++ size) - bytes_of known }

judged_known : (left ident : ℕ) (known : Option ℕ) (text : List ℕ) → bytes_of known ≤ left → element_judged left ident known text ≡ Ok (record { ident = ident; size = known; left = left - bytes_of known }, text)
judged_known left ident None text fits = let same : left - 0 ≡ left = omega arith in rw same refl
judged_known left ident (Some n) text fits = rw (le-ltb _ _ fits) refl

pub header_complete : (left : ℕ) (sum : Sum) (ident size rest : List ℕ) (known : Option ℕ) → IsHeader left ident size known →
    element_read left sum ((ident ++ size) ++ rest) ≡ Ok ((header_of left ident size known, summed sum (ident ++ size)), rest)
unfolding element_in
header_complete left sum ident size rest known h =
    let parts : length (ident ++ size) ≡ length ident + length size = length-append ident size in
    let id : length ident ≤ left = omega (arith, h.fits, parts) in
    let more : length size ≤ left - length ident = omega (arith, h.fits, parts) in
    let less : left - length ident - length size ≡ left - length (ident ++ size) = omega (arith, parts) in
    let enough : bytes_of known ≤ left - length (ident ++ size) = omega (arith, h.fits) in
    let made : Element = header_of left ident size known in
    let last : (element_judged (left - length ident - length size) (number_of ident) (size_of size) >>= λ e. given (e, summed (summed sum ident) size)) rest ≡ Ok ((made, summed sum (ident ++ size)), rest) =
    rw (h.sized.2, less, judged_known (left - length (ident ++ size)) (number_of ident) known rest enough, summed_twice sum ident size) refl in
    ap (element_read left sum) (append_assoc ident size rest)
    ∙ ap (λ z. read_on z (element_rest left sum)) (vint_complete 4 left ident (size ++ rest) h.named h.few id)
    ∙ ap (λ z. read_on z (λ size. element_judged (left - length ident - length size) (number_of ident) (size_of size) >>= λ e. given (e, summed (summed sum ident) size))) (vint_complete 8 (left - length ident) size rest h.sized.0 h.sized.1 more)
    ∙ last

-- and in a parent outside of which elements of some IDs stand
pub header_inside : (outside : ℕ → Bool) (left : ℕ) (sum : Sum) (ident size rest : List ℕ) (known : Option ℕ) → IsHeader left ident size known → outside (number_of ident) ≡ false →
    element_in outside left sum ((ident ++ size) ++ rest) ≡ Ok ((header_of left ident size known, summed sum (ident ++ size)), rest)
header_inside outside left sum ident size rest known h inside =
    let whole = append_assoc ident size rest in
    let fits : length ident ≤ left = omega (arith, h.fits, length-append ident size) in
    ap (element_in outside left sum) whole ∙ others_read outside left sum ident (size ++ rest) h.named h.few fits inside
    ∙ ap (element_read left sum) (sym whole) ∙ header_complete left sum ident size rest known h

-- what is read is the header of an element
pub record HasHeader (left : ℕ) (sum : Sum) (text : List ℕ) (p : Element × Sum) (rest : List ℕ) : Type 0 where
  pub ident : List ℕ
  pub size : List ℕ
  pub text_is : text ≡ (ident ++ size) ++ rest
  pub is : IsHeader left ident size p.0.size
  pub number : number_of ident ≡ p.0.ident
  pub left_is : length (ident ++ size) + (bytes_of p.0.size + p.0.left) ≡ left
  pub sum_is : p.1 ≡ summed sum (ident ++ size)

record Judged (left ident : ℕ) (known : Option ℕ) (text : List ℕ) (p : Element × List ℕ) : Type 0 where
  ident_is : ident ≡ p.0.ident
  size_is : known ≡ p.0.size
  left_is : bytes_of known + p.0.left ≡ left
  text_is : text ≡ p.1

judged_sound : (left ident : ℕ) (known : Option ℕ) (text : List ℕ) (p : Element × List ℕ) → element_judged left ident known text ≡ Ok p → Judged left ident known text p
judged_sound left ident None text p h =
    let made : Element = record { ident = ident; size = None; left = left } in
    let P : Element × List ℕ → Type 0 = λ z. Judged left ident None text z in
    subst P (ok_is (made, text) p h) (record { ident_is = refl; size_is = refl; left_is = omega arith; text_is = refl })
judged_sound left ident (Some n) text p h = on_test (nat_lt left n) refl h
  where
    on_test : (b : Bool) → nat_lt left n ≡ b → element_judged left ident (Some n) text ≡ Ok p → Judged left ident (Some n) text p
    on_test true t h = absurd (cc (rw t at h))
    on_test false t h =
        let made : Element = record { ident = ident; size = Some n; left = left - n } in
        let P : Element × List ℕ → Type 0 = λ z. Judged left ident (Some n) text z in
        let fits : n ≤ left = ltb-false _ _ t in
        subst P (ok_is (made, text) p (rw t at h)) (record { ident_is = refl; size_is = refl; left_is = omega (arith, fits); text_is = refl })

pub header_sound : (left : ℕ) (sum : Sum) (text : List ℕ) (p : Element × Sum) (rest : List ℕ) → element_read left sum text ≡ Ok (p, rest) → HasHeader left sum text p rest
unfolding element_in
header_sound left sum text p rest h =
    let first = read_on_ok (vint_read 4 left text) (element_rest left sum) (p, rest) h in
    let one = vint_sound 4 left text first.0 first.1 in
    let ident = first.0.0 in
    let second = read_on_ok (vint_read 8 (left - length ident) first.0.1) (λ size. element_judged (left - length ident - length size) (number_of ident) (size_of size) >>= λ e. given (e, summed (summed sum ident) size)) (p, rest) first.2 in
    let two = vint_sound 8 (left - length ident) first.0.1 second.0 second.1 in
    let size = second.0.0 in
    let third = read_on_ok (element_judged (left - length ident - length size) (number_of ident) (size_of size) second.0.1) (λ e. given (e, summed (summed sum ident) size)) (p, rest) second.2 in
    let judged = judged_sound (left - length ident - length size) (number_of ident) (size_of size) second.0.1 third.0 third.1 in
    let last = ok_is ((third.0.0, summed (summed sum ident) size), third.0.1) (p, rest) third.2 in
    let e_is : third.0.0 ≡ p.0 = ap (λ (z : (Element × Sum) × List ℕ). z.0.0) last in
    let end : second.0.1 ≡ rest = judged.text_is ∙ ap (λ (z : (Element × Sum) × List ℕ). z.1) last in
    let known : size_of size ≡ p.0.size = judged.size_is ∙ ap (λ (e : Element). e.size) e_is in
    let parts : length (ident ++ size) ≡ length ident + length size = length-append ident size in
    let within : bytes_of p.0.size + p.0.left ≡ left - length ident - length size = ap (λ (o : Option ℕ). bytes_of o + p.0.left) (sym known) ∙ ap (λ (e : Element). bytes_of (size_of size) + e.left) (sym e_is) ∙ judged.left_is in
    record {
      ident = ident;
      size = size;
      text_is = one.text_is ∙ ap (λ z. ident ++ z) (two.text_is ∙ ap (λ z. size ++ z) end) ∙ sym (append_assoc ident size rest);
      is = record { named = one.is; few = one.few; sized = (two.is, two.few, known); fits = omega (arith, parts, within, one.fits, two.fits) };
      number = judged.ident_is ∙ ap (λ (e : Element). e.ident) e_is;
      left_is = omega (arith, parts, within, one.fits, two.fits);
      sum_is = sym (ap (λ (z : (Element × Sum) × List ℕ). z.0.1) last) ∙ summed_twice sum ident size;
    }
