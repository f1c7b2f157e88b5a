-- A beginning of a header ends when more bytes are wanted.
use Rattle.std.proofs.Common.{◌≡◌, ◌≤◌, ◌<◌, ◌+◌, ◌-◌, ◌∙◌, ◌++◌, ◌∷◌, [], ℕ, List, inl, inr, Ok, Err, length, take, drop, refl, sym, ap, arith, append-nil, length-append, length-drop}
use Rattle.std.proofs.lemmas.Bool.{cases_lt}
use Rattle.std.proofs.lemmas.List.{drop-append-le, take-append-drop, take-append-le}
use Rattle.ffv1_reads.specs.Reads.{Looked, Short, given, read_on, ◌>>=◌}
use Rattle.ffv1_reads.proofs.LoopReadings.{wanted_short}
use Rattle.ffv1_reads.proofs.Results.{cut_back, cut_front, ok_is, read_on_ok}
use Rattle.ffv1_reads.proofs.WantedBytes.{taken_complete}
use Rattle.ffv1_ebml.specs.Elements.{element_in, element_judged, element_read, element_rest}
use Rattle.ffv1_ebml.specs.Sums.{summed}
use Rattle.ffv1_ebml.specs.Vints.{IsVint, number_of, size_of, vint_read, vint_rest}
use Rattle.ffv1_ebml.specs.declared.element.Element.{Element}
use Rattle.ffv1_ebml.specs.declared.sum.Sum.{Sum}
use Rattle.ffv1_ebml.proofs.ElementLaws.{judged_rest}
use Rattle.ffv1_ebml.proofs.VintLaws.{vint_complete, vint_sound}
use Rattle.ffv1_ebml.proofs.VintReadings.{vint_others, vint_whole}

-- a beginning of a variable-size integer
vint_early : (most left : ℕ) (xs ys : List ℕ) → IsVint (xs ++ ys) → length (xs ++ ys) ≤ most → length (xs ++ ys) ≤ left → 0 < length ys → vint_read most left xs ≡ Err (Short Looked)
vint_early most left [] ys is few fits some = vint_whole most left (λ e. omega (arith, e, fits, some)) []
vint_early most left (x ∷ xs) ys is few fits some =
    let n = length ((x ∷ xs) ++ ys) in
    let long : n ≡ length (x ∷ xs) + length ys = length-append (x ∷ xs) ys in
    let short : length xs < n - 1 = omega (arith, long, some) in
    vint_whole most left (λ e. omega (arith, e, fits, long)) (x ∷ xs)
    ∙ ap (λ z. read_on z (vint_rest most left)) (taken_complete 1 (x ∷ []) xs refl)
    ∙ vint_others most left n (x ∷ []) is.1 few fits xs
    ∙ ap (λ z. read_on z (λ more. given ((x ∷ []) ++ more))) (wanted_short Looked (n - 1) xs short)

-- a header that takes all bytes: its ID and its size
record HasHeader (left : ℕ) (sum : Sum) (text : List ℕ) : Type 0 where
  ident : List ℕ
  size : List ℕ
  text_is : text ≡ ident ++ size
  id : IsVint ident
  few : length ident ≤ 4
  room : length ident ≤ left
  sz : IsVint size
  most : length size ≤ 8
  fits : length size ≤ left - length ident

header_parts : (left : ℕ) (sum : Sum) (text : List ℕ) (p : Element × Sum) → element_read left sum text ≡ Ok (p, []) → HasHeader left sum text
unfolding element_in
header_parts left sum text p h =
    let first = read_on_ok (vint_read 4 left text) (element_rest left sum) (p, []) h in
    let one = vint_sound 4 left text first.0 first.1 in
    let ident = first.0.0 in
    let second = read_on_ok (vint_read 8 (left - length ident) first.0.1) (λ size. element_judged (left - length ident - length size) (number_of ident) (size_of size) >>= λ e. given (e, summed (summed sum ident) size)) (p, []) first.2 in
    let two = vint_sound 8 (left - length ident) first.0.1 second.0 second.1 in
    let size = second.0.0 in
    let third = read_on_ok (element_judged (left - length ident - length size) (number_of ident) (size_of size) second.0.1) (λ e. given (e, summed (summed sum ident) size)) (p, []) second.2 in
    let left_over = judged_rest (left - length ident - length size) (number_of ident) (size_of size) second.0.1 third.0 third.1 in
    let last : third.0.1 ≡ [] = ap (λ (z : (Element × Sum) × List ℕ). z.1) (ok_is ((third.0.0, summed (summed sum ident) size), third.0.1) (p, []) third.2) in
    let end : first.0.1 ≡ size = two.text_is ∙ ap (λ z. size ++ z) (left_over ∙ last) ∙ append-nil size in
    record { ident = ident; size = size; text_is = one.text_is ∙ ap (λ z. ident ++ z) end; id = one.is; few = one.few; room = one.fits; sz = two.is; most = two.few; fits = two.fits }

in_ident : (left : ℕ) (sum : Sum) (xs ys : List ℕ) → IsVint (xs ++ ys) → length (xs ++ ys) ≤ 4 → length (xs ++ ys) ≤ left → 0 < length ys → element_read left sum xs ≡ Err (Short Looked)
unfolding element_in
in_ident left sum xs ys is few fits some = ap (λ z. read_on z (element_rest left sum)) (vint_early 4 left xs ys is few fits some)

in_size : (left : ℕ) (sum : Sum) (ident xs ys : List ℕ) → IsVint ident → length ident ≤ 4 → length ident ≤ left → IsVint (xs ++ ys) → length (xs ++ ys) ≤ 8 → length (xs ++ ys) ≤ left - length ident → 0 < length ys → element_read left sum (ident ++ xs) ≡ Err (Short Looked)
unfolding element_in
in_size left sum ident xs ys id few room is most fits some =
    ap (λ z. read_on z (element_rest left sum)) (vint_complete 4 left ident xs id few room)
    ∙ ap (λ z. read_on z (λ size. element_judged (left - length ident - length size) (number_of ident) (size_of size) >>= λ e. given (e, summed (summed sum ident) size))) (vint_early 8 (left - length ident) xs ys is most fits some)

pub header_early : (left : ℕ) (sum : Sum) (xs ys : List ℕ) (p : Element × Sum) → 0 < length ys → element_read left sum (xs ++ ys) ≡ Ok (p, []) → element_read left sum xs ≡ Err (Short Looked)
header_early left sum xs ys p some h = elim (cases_lt (length xs) (length header.ident)) [ inl few ↦ before few | inr enough ↦ after enough ]
  where
    header : HasHeader left sum (xs ++ ys)
    header = header_parts left sum (xs ++ ys) p h

    before : length xs < length header.ident → element_read left sum xs ≡ Err (Short Looked)
    before few =
        let n = length xs in
        let ident = header.ident in
        let front : take n ident ≡ xs = sym (take-append-le n ident header.size (omega (arith, few))) ∙ ap (take n) (sym header.text_is) ∙ cut_front n xs ys refl in
        let parted : xs ++ drop n ident ≡ ident = ap (λ z. z ++ drop n ident) (sym front) ∙ take-append-drop n ident in
        let more : 0 < length (drop n ident) = omega (arith, few, length-drop n ident) in
        in_ident left sum xs (drop n ident) (rw parted header.id) (rw parted header.few) (rw parted header.room) more

    after : length header.ident ≤ length xs → element_read left sum xs ≡ Err (Short Looked)
    after enough =
        let ident = header.ident in
        let n = length ident in
        let front : take n xs ≡ ident = sym (take-append-le n xs ys enough) ∙ ap (take n) header.text_is ∙ cut_front n ident header.size refl in
        let parted : ident ++ drop n xs ≡ xs = ap (λ z. z ++ drop n xs) (sym front) ∙ take-append-drop n xs in
        let size : drop n xs ++ ys ≡ header.size = sym (drop-append-le n xs ys enough) ∙ ap (drop n) header.text_is ∙ cut_back n ident header.size refl in
        ap (element_read left sum) (sym parted) ∙ in_size left sum ident (drop n xs) ys header.id header.few header.room (rw size header.sz) (rw size header.most) (rw size header.fits) some
