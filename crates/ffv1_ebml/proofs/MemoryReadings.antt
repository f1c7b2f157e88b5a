-- Headers of elements in memory, if all of the content is there.
use Rattle.std.proofs.Common.{◌≡◌, ◌<◌, ◌≤◌, ◌+◌, ◌-◌, ◌∙◌, ◌∷◌, [], ℕ, suc, zero, List, Some, None, Ok, Err, length, take, drop, slice_index, refl, ap, arith}
use Rattle.std.proofs.lemmas.Bool.{le-ltb, lt-ltb}
use Rattle.ffv1_reads.proofs.WantedBytes.{taken_complete}
use Rattle.ffv1_reads.specs.Reads.{Met, read_on}
use Rattle.ffv1_reads.specs.declared.fault.FileFault.{FileFault}
use Rattle.ffv1_reads.specs.declared.fault.FileFault.TheVariants as fault
use Rattle.ffv1_ebml.specs.Contents.{first_part, part_read}
use Rattle.ffv1_ebml.specs.Elements.{element_in, element_read, element_rest}
use Rattle.ffv1_ebml.specs.Vints.{length_of, number_of, size_of, vint_rest, vint_read}
use Rattle.ffv1_ebml.specs.declared.sum.Sum.TheVariants.{Absent}
use Rattle.ffv1_ebml.proofs.VintReadings.{vint_others, vint_whole}

vint_memory : (most b : ℕ) (bs : List ℕ) → vint_read most (length (b ∷ bs)) (b ∷ bs) ≡ vint_rest most (length (b ∷ bs)) (b ∷ []) bs
vint_memory most b bs =
    vint_whole most (length (b ∷ bs)) (λ e. omega (arith, e)) (b ∷ bs) ∙ ap (λ z. read_on z (vint_rest most (length (b ∷ bs)))) (taken_complete 1 (b ∷ []) bs refl)

pub vint_none : (most : ℕ) (xs : List ℕ) → length xs ≡ 0 → vint_read most (length xs) xs ≡ Err (Met fault.Truncated xs)
unfolding vint_read
vint_none most [] none = refl
vint_none most (x ∷ xs) none = absurd (omega (arith, none))

pub vint_bad : (most : ℕ) (xs : List ℕ) → (length xs ≡ 0 → ⊥) → most < length_of (slice_index xs 0) → vint_read most (length xs) xs ≡ Err (Met fault.BadElement (drop 1 xs))
vint_bad most [] some long = absurd (some refl)
vint_bad most (b ∷ bs) some long = vint_memory most b bs ∙ rw (lt-ltb _ _ long) refl

pub vint_short : (most : ℕ) (xs : List ℕ) → (length xs ≡ 0 → ⊥) → length_of (slice_index xs 0) ≤ most → length xs < length_of (slice_index xs 0) → vint_read most (length xs) xs ≡ Err (Met fault.Truncated (drop 1 xs))
vint_short most [] some fits few = absurd (some refl)
vint_short most (b ∷ bs) some fits few = vint_memory most b bs ∙ rw (le-ltb _ _ fits, lt-ltb (length (b ∷ bs)) (length_of b) few) refl

pub vint_there : (most n : ℕ) (xs : List ℕ) → n ≡ length_of (slice_index xs 0) → 1 ≤ n → n ≤ most → n ≤ length xs → vint_read most (length xs) xs ≡ Ok (take n xs, drop n xs)
vint_there most n [] is some fits room = absurd (omega (arith, some, room))
vint_there most zero (b ∷ bs) is some fits room = absurd (omega (arith, some))
vint_there most (suc k) (b ∷ bs) is some fits room =
    let same : suc k - 1 ≡ k = omega arith in
    let there : k ≤ length bs = omega (arith, room) in
    vint_memory most b bs ∙ vint_others most (length (b ∷ bs)) (suc k) (b ∷ []) is fits room bs ∙ rw (same, le-ltb _ _ there) refl

-- an element by its ID and its size
pub part_of_some : (xs : List ℕ) → (length xs ≡ 0 → ⊥) → first_part xs ≡ part_read (element_read (length xs) Absent xs)
unfolding first_part
part_of_some [] some = absurd (some refl)
part_of_some (b ∷ bs) some = refl

after_ident : (xs ident after : List ℕ) → vint_read 4 (length xs) xs ≡ Ok (ident, after) → element_read (length xs) Absent xs ≡ element_rest (length xs) Absent ident after
unfolding element_in
after_ident xs ident after is = ap (λ z. read_on z (element_rest (length xs) Absent)) is

pub part_bad_ident : (xs rest : List ℕ) (f : FileFault) → (length xs ≡ 0 → ⊥) → vint_read 4 (length xs) xs ≡ Err (Met f rest) → first_part xs ≡ Err f
unfolding element_in
part_bad_ident xs rest f some is = part_of_some xs some ∙ ap (λ z. part_read (read_on z (element_rest (length xs) Absent))) is

-- an ID that is there
pub record HasIdent (xs ident after : List ℕ) : Type 0 where
  pub some : length xs ≡ 0 → ⊥
  pub is : vint_read 4 (length xs) xs ≡ Ok (ident, after)
  pub parts : length ident + length after ≡ length xs

pub part_bad_size : (xs ident after rest : List ℕ) (f : FileFault) → HasIdent xs ident after → vint_read 8 (length after) after ≡ Err (Met f rest) → first_part xs ≡ Err f
part_bad_size xs ident after rest f h is =
    let left : length xs - length ident ≡ length after = omega (arith, h.parts) in
    part_of_some xs h.some ∙ ap part_read (after_ident xs ident after h.is) ∙ rw (left, is) refl

-- and a size
pub record HasSize (xs ident after size rest : List ℕ) : Type 0 where
  pub ident_is : HasIdent xs ident after
  pub is : vint_read 8 (length after) after ≡ Ok (size, rest)
  pub parts : length size + length rest ≡ length after

pub part_unknown : (xs ident after size rest : List ℕ) → HasSize xs ident after size rest → size_of size ≡ None → first_part xs ≡ Err fault.BadElement
part_unknown xs ident after size rest h unknown =
    let left : length xs - length ident ≡ length after = omega (arith, h.ident_is.parts) in
    part_of_some xs h.ident_is.some ∙ ap part_read (after_ident xs ident after h.ident_is.is) ∙ rw (left, h.is, unknown) refl

pub part_long : (xs ident after size rest : List ℕ) (n : ℕ) → HasSize xs ident after size rest → size_of size ≡ Some n → length rest < n → first_part xs ≡ Err fault.Truncated
part_long xs ident after size rest n h known few =
    let left : length xs - length ident ≡ length after = omega (arith, h.ident_is.parts) in
    let end : length after - length size ≡ length rest = omega (arith, h.parts) in
    part_of_some xs h.ident_is.some ∙ ap part_read (after_ident xs ident after h.ident_is.is) ∙ rw (left, h.is, known, end, lt-ltb _ _ few) refl

pub part_there : (xs ident after size rest : List ℕ) (n : ℕ) → HasSize xs ident after size rest → size_of size ≡ Some n → n ≤ length rest → first_part xs ≡ Ok (Some (record { ident = number_of ident; content = take n rest; rest = drop n rest }))
part_there xs ident after size rest n h known room =
    let left : length xs - length ident ≡ length after = omega (arith, h.ident_is.parts) in
    let end : length after - length size ≡ length rest = omega (arith, h.parts) in
    part_of_some xs h.ident_is.some ∙ ap part_read (after_ident xs ident after h.ident_is.is) ∙ rw (left, h.is, known, end, le-ltb _ _ room) refl

-- no bytes hold no element
pub part_none : (xs : List ℕ) → length xs ≡ 0 → first_part xs ≡ Ok None
unfolding first_part
part_none [] none = refl
part_none (x ∷ xs) none = absurd (omega (arith, none))
