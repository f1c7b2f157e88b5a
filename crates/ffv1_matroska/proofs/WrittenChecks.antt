-- Each CRC-32 that is written is right.
use Rattle.std.specs.Prelude.{bit_xor}
use Rattle.std.proofs.Common.{◌≡◌, ◌<◌, ◌/◌, ◌%◌, ◌^◌, ◌∙◌, ◌++◌, ℕ, suc, zero, List, [], ◌∷◌, Ok, fold, length, refl, ap, arith, inl, inr}
use Rattle.std.proofs.lemmas.Bool.{cases_eq, eq-eqb}
use Rattle.std.proofs.lemmas.Nat.{xor_of_32}
use Rattle.std.specs.Int.{bytes_low_first}
use Rattle.ffv1_sum.specs.Sum.{bit_step, bit_steps, byte_step, crc_of, generator, number_of, turned}
use Rattle.ffv1_sum.proofs.Steps.{even, odd}
use Rattle.ffv1_ebml.specs.Contents.{content_told, sum_of_part}
use Rattle.ffv1_ebml.specs.Elements.{crc_ident}
use Rattle.ffv1_ebml.specs.Spelled.{IsIdent, short, spelled}
use Rattle.ffv1_ebml.proofs.ElementLaws.{part_spelled}
use Rattle.ffv1_ebml.proofs.SpelledLaws.{short_spelled}
use Rattle.ffv1_matroska.specs.Written.{checked, crc_element}
use Rattle.ffv1_matroska.proofs.WrittenBytes.{AreBytes}

step_fits : (n : ℕ) → n < 2 ^ 32 → bit_step n < 2 ^ 32
step_fits n small = elim (cases_eq (n % 2) 1) [
  | inl one ↦ let half : n / 2 < 2 ^ 32 = omega (arith, small) in rw (odd n one) (xor_of_32 (n / 2) generator half (omega arith))
  | inr other ↦ let none : n % 2 ≡ 0 = omega (arith, other) in rw (even n none) (omega (arith, small))
]

steps_fit : (count n : ℕ) → n < 2 ^ 32 → bit_steps count n < 2 ^ 32
unfolding bit_steps
steps_fit zero n small = small
steps_fit (suc count) n small = steps_fit count (bit_step n) (step_fits n small)

sum_fits : (sum : ℕ) (bytes : List ℕ) → sum < 2 ^ 32 → AreBytes bytes → fold byte_step sum bytes < 2 ^ 32
sum_fits sum [] small all = small
sum_fits sum (b ∷ bs) small all =
    let low : b < 2 ^ 32 = let first = all 0 0 (omega arith) in omega (arith, first) in
    sum_fits (byte_step sum b) bs (steps_fit 8 (bit_xor sum b) (xor_of_32 sum b small low)) (λ k d inside. all (suc k) d (omega (arith, inside)))

pub crc_fits : (bytes : List ℕ) → AreBytes bytes → crc_of bytes < 2 ^ 32
crc_fits bytes all = xor_of_32 (fold byte_step turned bytes) turned (sum_fits turned bytes (omega arith) all) (omega arith)

low_four : (n : ℕ) → n < 2 ^ 32 → number_of (bytes_low_first 0 4 n) ≡ n
low_four n small = omega (arith, small)

-- its four bytes say the sum
pub crc_says : (content : List ℕ) → AreBytes content → number_of (bytes_low_first 0 4 (crc_of content)) ≡ crc_of content
crc_says content all = low_four (crc_of content) (crc_fits content all)

pub crc_is_ident : IsIdent crc_ident
crc_is_ident = inl (omega arith, omega arith)

told_by : (low content : List ℕ) → number_of low ≡ crc_of content → length low ≡ 4 → content_told (spelled crc_ident (short 4) low ++ content) ≡ Ok tt
told_by low content is four =
    let sized = short_spelled 4 (omega arith) in
    let part = part_spelled crc_ident (short 4) low content crc_is_ident (rw four sized) in
    let test = eq-eqb (number_of low) (crc_of content) is in
    ap sum_of_part part ∙ (rw (four, test) refl)

-- content after its CRC-32 is judged to be right
pub checked_told : (content : List ℕ) → AreBytes content → content_told (checked content) ≡ Ok tt
unfolding crc_element
checked_told content all = told_by (bytes_low_first 0 4 (crc_of content)) content (crc_says content all) refl
