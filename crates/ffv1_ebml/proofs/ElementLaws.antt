-- Elements: what is spelled is read, and found in memory.
use Rattle.std.proofs.Common.{◌≡◌, ◌≤◌, ◌<◌, ◌+◌, ◌-◌, ◌==◌, ◌∙◌, ◌++◌, ◌∷◌, [], ℕ, List, suc, zero, Bool, true, false, nat_lt, if◌then◌else◌, Option, Some, None, Result, Ok, Err, length, take, drop, refl, sym, ap, arith, append_assoc, length-append, length-drop}
use Rattle.std.proofs.lemmas.Bool.{le-ltb}
use Rattle.std.proofs.lemmas.List.Sums.{fold-append}
use Rattle.ffv1_reads.specs.Reads.{Met, Short, Stop, given, read_on, ◌>>=◌}
use Rattle.ffv1_reads.specs.declared.fault.FileFault.{FileFault}
use Rattle.ffv1_reads.proofs.Results.{cut_back, cut_front, ok_is, read_on_ok}
use Rattle.ffv1_sum.specs.Sum.{byte_step}
use Rattle.ffv1_ebml.specs.Contents.{Part, first_part, found, found_or_on, found_up_to, part_read, part_with}
use Rattle.ffv1_ebml.specs.Elements.{element_in, element_judged, element_read, element_rest}
use Rattle.ffv1_ebml.specs.Spelled.{IsIdent, SaysSize, ident_bytes, spelled}
use Rattle.ffv1_ebml.specs.Sums.{summed}
use Rattle.ffv1_ebml.specs.Vints.{IsVint, number_of, size_of, vint_read}
use Rattle.ffv1_ebml.specs.declared.element.Element.{Element}
use Rattle.ffv1_ebml.specs.declared.sum.Sum.{Sum}
use Rattle.ffv1_ebml.specs.declared.sum.Sum.TheVariants.{Absent, Begins, Awaits}
use Rattle.ffv1_ebml.proofs.FoundParts.{found_here, found_none, found_on}
use Rattle.ffv1_ebml.proofs.MemoryReadings.{part_none, part_of_some}
use Rattle.ffv1_ebml.proofs.SpelledLaws.{ident_spelled}
use Rattle.ffv1_ebml.proofs.VintLaws.{vint_complete, vint_sound}

-- a sum of some bytes and then others
pub summed_twice : (sum : Sum) (xs ys : List ℕ) → summed (summed sum xs) ys ≡ summed sum (xs ++ ys)
summed_twice Absent xs ys = refl
summed_twice Begins xs ys = refl
summed_twice (Awaits stated so_far) xs ys = ap (λ s. Awaits stated s) (sym (fold-append byte_step so_far xs ys))

-- a header that is spelled
header_spelled : (left : ℕ) (sum : Sum) (ident size rest : List ℕ) → IsVint ident → length ident ≤ 4 → IsVint size → length size ≤ 8 → length ident + length size ≤ left →
    element_read left sum ((ident ++ size) ++ rest) ≡ (element_judged (left - length ident - length size) (number_of ident) (size_of size) >>= λ e. given (e, summed (summed sum ident) size)) rest
unfolding element_in
header_spelled left sum ident size rest id few sz most fits =
    let room : length ident ≤ left = omega (arith, fits) in
    let more : length size ≤ left - length ident = omega (arith, fits) in
    ap (element_read left sum) (append_assoc ident size rest)
    ∙ ap (λ z. read_on z (element_rest left sum)) (vint_complete 4 left ident (size ++ rest) id few room)
    ∙ ap (λ z. read_on z (λ size. element_judged (left - length ident - length size) (number_of ident) (size_of size) >>= λ e. given (e, summed (summed sum ident) size))) (vint_complete 8 (left - length ident) size rest sz most more)

pub known_spelled : (left ident n : ℕ) (sum : Sum) (size rest : List ℕ) → IsIdent ident → SaysSize size (Some n) → length (ident_bytes ident ++ size) + n ≤ left →
    element_read left sum ((ident_bytes ident ++ size) ++ rest) ≡ Ok ((record { ident = ident; size = Some n; left = left - length (ident_bytes ident ++ size) - n }, summed sum (ident_bytes ident ++ size)), rest)
known_spelled left ident n sum size rest id (sz, most, known) fits =
    let p = ident_spelled ident id in
    let bytes = ident_bytes ident in
    let parts : length (bytes ++ size) ≡ length bytes + length size = length-append bytes size in
    let room : length bytes + length size ≤ left = omega (arith, fits, parts) in
    let less : left - length bytes - length size ≡ left - length (bytes ++ size) = omega (arith, parts) in
    let enough : n ≤ left - length (bytes ++ size) = omega (arith, fits) in
    header_spelled left sum bytes size rest p.is p.few sz most room ∙ rw (p.number, known, less, le-ltb _ _ enough, summed_twice sum bytes size) refl

-- an element with its content
pub element_spelled : (left ident : ℕ) (sum : Sum) (size content rest : List ℕ) → IsIdent ident → SaysSize size (Some (length content)) → length (spelled ident size content) ≤ left →
    element_read left sum (spelled ident size content ++ rest) ≡ Ok ((record { ident = ident; size = Some (length content); left = left - length (spelled ident size content) }, summed sum (ident_bytes ident ++ size)), content ++ rest)
element_spelled left ident sum size content rest id says fits =
    let header = ident_bytes ident ++ size in
    let parts : length (header ++ content) ≡ length header + length content = length-append header content in
    let room : length header + length content ≤ left = omega (arith, fits, parts) in
    let after : left - length header - length content ≡ left - length (header ++ content) = omega (arith, parts) in
    ap (element_read left sum) (append_assoc header content rest) ∙ known_spelled left ident (length content) sum size (content ++ rest) id says room ∙ rw after refl

pub unknown_is_read : (left ident : ℕ) (sum : Sum) (size rest : List ℕ) → IsIdent ident → SaysSize size None → length (ident_bytes ident ++ size) ≤ left →
    element_read left sum ((ident_bytes ident ++ size) ++ rest) ≡ Ok ((record { ident = ident; size = None; left = left - length (ident_bytes ident ++ size) }, summed sum (ident_bytes ident ++ size)), rest)
unknown_is_read left ident sum size rest id (sz, most, none) fits =
    let p = ident_spelled ident id in
    let bytes = ident_bytes ident in
    let parts : length (bytes ++ size) ≡ length bytes + length size = length-append bytes size in
    let room : length bytes + length size ≤ left = omega (arith, fits, parts) in
    let less : left - length bytes - length size ≡ left - length (bytes ++ size) = omega (arith, parts) in
    header_spelled left sum bytes size rest p.is p.few sz most room ∙ rw (p.number, none, less, summed_twice sum bytes size) refl

-- the first element in memory
pub part_spelled : (ident : ℕ) (size content rest : List ℕ) → IsIdent ident → SaysSize size (Some (length content)) →
    first_part (spelled ident size content ++ rest) ≡ Ok (Some (record { ident = ident; content = content; rest = rest }))
part_spelled ident size content rest id says =
    let header = ident_bytes ident ++ size in
    let xs = (header ++ content) ++ rest in
    let n = length content in
    let long : length xs ≡ (length header + n) + length rest = length-append (header ++ content) rest ∙ ap (λ k. k + length rest) (length-append header content) in
    let p = ident_spelled ident id in
    let some : length xs ≡ 0 → ⊥ = λ e. omega (arith, e, long, length-append (ident_bytes ident) size, p.is.0) in
    let fits : length header + n ≤ length xs = omega (arith, long) in
    let e : Element = record { ident = ident; size = Some n; left = length xs - length header - n } in
    let read : element_read (length xs) Absent xs ≡ Ok ((e, Absent), content ++ rest) = ap (element_read (length xs) Absent) (append_assoc header content rest) ∙ known_spelled (length xs) ident n Absent size (content ++ rest) id says fits in
    part_of_some xs some ∙ ap part_read read ∙ rw (cut_front n content rest refl, cut_back n content rest refl) refl

-- a header takes some bytes
pub judged_rest : (left ident : ℕ) (size : Option ℕ) (text : List ℕ) (p : Element × List ℕ) → element_judged left ident size text ≡ Ok p → text ≡ p.1
judged_rest left ident None text p h = ap (λ z. z.1) (ok_is _ p h)
judged_rest left ident (Some n) text p h = on_test (nat_lt left n) refl h
  where
    on_test : (b : Bool) → nat_lt left n ≡ b → element_judged left ident (Some n) text ≡ Ok p → text ≡ p.1
    on_test true t h = absurd (cc (rw t at h))
    on_test false t h =
        let made : Element = record { ident = ident; size = Some n; left = left - n } in
        ap (λ z. z.1) (ok_is (made, text) p (rw t at h))

header_less : (left : ℕ) (sum : Sum) (text : List ℕ) (p : (Element × Sum) × List ℕ) → element_read left sum text ≡ Ok p → length p.1 < length text
unfolding element_in
header_less left sum text p h =
    let first = read_on_ok (vint_read 4 left text) (element_rest left sum) p h in
    let one = vint_sound 4 left text first.0 first.1 in
    let ident = first.0.0 in
    let second = read_on_ok (vint_read 8 (left - length ident) first.0.1) (λ size. element_judged (left - length ident - length size) (number_of ident) (size_of size) >>= λ e. given (e, summed (summed sum ident) size)) p first.2 in
    let two = vint_sound 8 (left - length ident) first.0.1 second.0 second.1 in
    let size = second.0.0 in
    let third = read_on_ok (element_judged (left - length ident - length size) (number_of ident) (size_of size) second.0.1) (λ e. given (e, summed (summed sum ident) size)) p second.2 in
    let left_over = judged_rest (left - length ident - length size) (number_of ident) (size_of size) second.0.1 third.0 third.1 in
    let last : third.0.1 ≡ p.1 = ap (λ (z : (Element × Sum) × List ℕ). z.1) (ok_is ((third.0.0, summed (summed sum ident) size), third.0.1) p third.2) in
    let end : length p.1 ≡ length second.0.1 = ap length (sym last) ∙ ap length (sym left_over) in
    let a : length text ≡ length ident + length first.0.1 = ap length one.text_is ∙ length-append ident first.0.1 in
    let b : length first.0.1 ≡ length size + length second.0.1 = ap length two.text_is ∙ length-append size second.0.1 in
    omega (arith, end, a, b, one.is.0)

pub part_less : (xs : List ℕ) (p : Part) → first_part xs ≡ Ok (Some p) → length p.rest < length xs
unfolding first_part
part_less [] p h = absurd (cc h)
part_less (b ∷ bs) p h = on_read (element_read (length (b ∷ bs)) Absent (b ∷ bs)) refl h
  where
    xs : List ℕ
    xs = b ∷ bs

    on_size : (ident : ℕ) (rest : List ℕ) (size : Option ℕ) → part_with ident rest size ≡ Ok (Some p) → length p.rest ≤ length rest
    on_size ident rest None h = absurd (cc h)
    on_size ident rest (Some n) h =
        let made : Part = record { ident = ident; content = take n rest; rest = drop n rest } in
        let same : made ≡ p = cc h in
        let short : length p.rest ≡ length (drop n rest) = ap (λ (z : Part). length z.rest) (sym same) in
        omega (arith, short, length-drop n rest)

    on_read : (r : Result ((Element × Sum) × List ℕ) Stop) → element_read (length (b ∷ bs)) Absent (b ∷ bs) ≡ r → part_read r ≡ Ok (Some p) → length p.rest < length (b ∷ bs)
    on_read (Ok q) is h = let a = header_less (length (b ∷ bs)) Absent (b ∷ bs) q is in let c = on_size q.0.0.ident q.1 q.0.0.size h in omega (arith, a, c)
    on_read (Err (Met f rest)) is h = absurd (cc h)
    on_read (Err (Short w)) is h = absurd (cc h)

-- so more steps than bytes find nothing else
abbrev SameFound : ℕ → ℕ → ℕ → Type 0
SameFound m n ident = (ys : List ℕ) → length ys ≤ m → length ys ≤ n → found_up_to m ident ys ≡ found_up_to n ident ys

found_enough : (m n ident : ℕ) (xs : List ℕ) → length xs ≤ m → length xs ≤ n → found_up_to m ident xs ≡ found_up_to n ident xs
unfolding found_up_to
found_enough zero n ident xs a b = sym (found_none n ident xs (part_none xs (omega (arith, a))))
found_enough (suc m) zero ident xs a b = found_none (suc m) ident xs (part_none xs (omega (arith, b)))
found_enough (suc m) (suc n) ident xs a b = on_part (λ ys c d. found_enough m n ident ys c d) (first_part xs) refl
  where
    on_rest : SameFound m n ident → (t : Bool) (p : Part) → first_part xs ≡ Ok (Some p) → (if t then Ok (Some p.content) else found_up_to m ident p.rest) ≡ (if t then Ok (Some p.content) else found_up_to n ident p.rest)
    on_rest next true p is = refl
    on_rest next false p is = let less = part_less xs p is in next p.rest (omega (arith, a, less)) (omega (arith, b, less))

    on_part : SameFound m n ident → (r : Result (Option Part) FileFault) → first_part xs ≡ r → found_or_on ident (found_up_to m ident) r ≡ found_or_on ident (found_up_to n ident) r
    on_part next (Err f) is = refl
    on_part next (Ok None) is = refl
    on_part next (Ok (Some p)) is = on_rest next (p.ident == ident) p is

-- the first element with an ID is found, and others before it are passed over
pub found_first : (ident : ℕ) (size content rest : List ℕ) → IsIdent ident → SaysSize size (Some (length content)) →
    found ident (spelled ident size content ++ rest) ≡ Ok (Some content)
found_first ident size content rest id says =
    let xs = spelled ident size content ++ rest in
    found_here (length xs) ident xs (record { ident = ident; content = content; rest = rest }) (omega arith) (part_spelled ident size content rest id says) refl

pub found_past : (ident other : ℕ) (size content rest : List ℕ) → IsIdent other → SaysSize size (Some (length content)) → (other ≡ ident → ⊥) →
    found ident (spelled other size content ++ rest) ≡ found ident rest
found_past ident other size content rest id says differ =
    let xs = spelled other size content ++ rest in
    let p : Part = record { ident = other; content = content; rest = rest } in
    let is = part_spelled other size content rest id says in
    let on = found_on (length xs) ident xs p (omega arith) is differ (part_less xs p is) in
    on.2 ∙ found_enough on.0 (length rest) ident rest on.1 (omega arith)
