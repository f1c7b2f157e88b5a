-- Content that is passed, and its CRC-32.
use Rattle.std.proofs.Common.{◌≡◌, ◌==◌, ℕ, List, [], ◌∷◌, Some, true, false, length, refl, arith}
use Rattle.std.proofs.lemmas.Bool.{ne_eqb}
use Rattle.std.specs.Int.{from_le_bytes, w32}
use Rattle.ffv1_reads.specs.Reads.{Reading, given, refused, taken, ◌>>=◌}
use Rattle.ffv1_reads.specs.declared.fault.FileFault.TheVariants as fault
use Rattle.ffv1_sum.specs.Sum.{number_of as low_number}
use Rattle.ffv1_ebml.specs.declared.element.Element.{Element}
use Rattle.ffv1_ebml.specs.declared.sum.Sum.{Sum}
use Rattle.ffv1_ebml.specs.declared.sum.Sum.TheVariants.{Absent}
use Rattle.ffv1_ebml.specs.Elements.{content_judged, content_passed, element_read, is_crc, sum_judged, stated_judged}
use Rattle.ffv1_ebml.specs.Sums.{is_met}

-- a CRC-32 first
pub crc_first : (e : Element) (size : ℕ) → e.size ≡ Some size → is_crc e.ident size ≡ true → (text : List ℕ) → content_judged e e.size text ≡ (taken 4 >>= stated_judged e.left) text
crc_first e size is crc text = rw (is, crc) refl

pub sum_met : (sum : Sum) → is_met sum ≡ true → (text : List ℕ) → sum_judged sum text ≡ given tt text
sum_met sum test text = rw test refl

pub sum_differs : (sum : Sum) → is_met sum ≡ false → (text : List ℕ) → sum_judged sum text ≡ refused fault.Checksum text
sum_differs sum test text = rw test refl

pub low_four : (xs : List ℕ) → length xs ≡ 4 → from_le_bytes w32 xs ≡ low_number xs
low_four [] long = absurd (omega (arith, long))
low_four (a ∷ []) long = absurd (omega (arith, long))
low_four (a ∷ b ∷ []) long = absurd (omega (arith, long))
low_four (a ∷ b ∷ c ∷ []) long = absurd (omega (arith, long))
low_four (a ∷ b ∷ c ∷ d ∷ []) long = omega arith
low_four (a ∷ b ∷ c ∷ d ∷ e ∷ es) long = absurd (omega (arith, long))

-- content of some bytes has a first element
abbrev pub content_after : Element × Sum → Reading (Unit {0})
content_after p = content_judged p.0 p.0.size

pub content_some : (count : ℕ) → (count ≡ 0 → ⊥) → (text : List ℕ) → content_passed count text ≡ (element_read count Absent >>= content_after) text
unfolding content_passed
content_some count some text =
    let test : (count == 0) ≡ false = ne_eqb _ _ some in
    rw test refl
