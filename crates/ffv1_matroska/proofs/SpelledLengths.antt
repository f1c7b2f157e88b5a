-- How long elements are as they are spelled.
use Rattle.std.proofs.Common.{◌≡◌, ◌≤◌, ◌+◌, ℕ, List, ◌++◌, length, refl, arith, length-append}
use Rattle.std.proofs.lemmas.Grind.{common_steps}
use Rattle.std.specs.Int.{bytes_high_first}
use Rattle.ffv1_ebml.specs.Spelled.{ident_bytes, ident_length, long, number_element, short}
use Rattle.ffv1_ebml.proofs.Numbers.{length_high}
use Rattle.ffv1_ebml.proofs.SpelledLaws.{long_length}
use Rattle.ffv1_matroska.specs.Written.{long_element, short_element}

pub ident_most : (ident : ℕ) → ident_length ident ≤ 4
unfolding ident_length
ident_most ident = grind (arith, common_steps)

pub ident_long : (ident : ℕ) → length (ident_bytes ident) ≡ ident_length ident
ident_long ident = length_high (ident_length ident) ident

-- the header of one with a size of eight bytes
pub long_header_long : (ident size : ℕ) → length (ident_bytes ident ++ long size) ≡ ident_length ident + 8
long_header_long ident size = omega (arith, length-append (ident_bytes ident) (long size), ident_long ident, long_length size)

-- and of one byte
pub short_header_long : (ident size : ℕ) → length (ident_bytes ident ++ short size) ≡ ident_length ident + 1
short_header_long ident size =
    let one : length (short size) ≡ 1 = refl in
    omega (arith, length-append (ident_bytes ident) (short size), ident_long ident, one)

pub number_long : (ident width number : ℕ) → length (number_element ident width number) ≡ ident_length ident + 1 + width
number_long ident width number =
    omega (arith, length-append (ident_bytes ident ++ short width) (bytes_high_first width number), short_header_long ident width, length_high width number)

pub short_long : (ident : ℕ) (content : List ℕ) → length (short_element ident content) ≡ ident_length ident + 1 + length content
short_long ident content = omega (arith, length-append (ident_bytes ident ++ short (length content)) content, short_header_long ident (length content))

pub long_long : (ident : ℕ) (content : List ℕ) → length (long_element ident content) ≡ ident_length ident + 8 + length content
long_long ident content = omega (arith, length-append (ident_bytes ident ++ long (length content)) content, long_header_long ident (length content))
