-- The reversible colour transform of one place (RFC 9043, 3.7.2), over the integers.
use Rattle.std.specs.Prelude.{ℕ, ◌≡◌, ◌<◌, ◌^◌, ℤ, pos, ◌+ℤ◌, ◌-ℤ◌}
use Rattle.std.specs.Int.{int_div_euclid}

-- the greatest integer that is at most a quarter of z
abbrev pub quarter_below : ℤ → ℤ
quarter_below z = int_div_euclid z (pos 4)

-- Y of red, green and blue
abbrev pub luma_of : ℕ → ℕ → ℕ → ℤ
luma_of r g b = pos g +ℤ quarter_below ((pos b -ℤ pos g) +ℤ (pos r -ℤ pos g))

-- Cb of blue and green, or Cr of red and green, of samples of so many bits: their difference,
-- raised by 2^depth
abbrev pub chroma_in : ℕ → ℕ → ℕ → ℤ
chroma_in depth v g = (pos v -ℤ pos g) +ℤ pos (2 ^ depth)

-- the same of 8 bits: raised by 256
abbrev pub chroma_of : ℕ → ℕ → ℤ
chroma_of v g = chroma_in 8 v g

-- Y, Cb and Cr are the transform of red, green and blue, of samples of so many bits
pub record IsCodedIn (depth r g b y cb cr : ℕ) : Type 0 where
  pub luma : pos y ≡ luma_of r g b
  pub blue : pos cb ≡ chroma_in depth b g
  pub red : pos cr ≡ chroma_in depth r g

-- the same of 8 bits
abbrev pub IsCoded : ℕ → ℕ → ℕ → ℕ → ℕ → ℕ → Type 0
IsCoded r g b y cb cr = IsCodedIn 8 r g b y cb cr

-- Y, Cb and Cr are the transform of red, green and blue below 2^depth
pub record IsColourIn (depth y cb cr r g b : ℕ) : Type 0 where
  pub red : r < 2 ^ depth
  pub green : g < 2 ^ depth
  pub blue : b < 2 ^ depth
  pub coded : IsCodedIn depth r g b y cb cr

-- the same of 8 bits: with red, green and blue from 0 to 255
abbrev pub IsColour : ℕ → ℕ → ℕ → ℕ → ℕ → ℕ → Type 0
IsColour y cb cr r g b = IsColourIn 8 y cb cr r g b

-- some red, green and blue below 2^depth have this transform
abbrev pub HasColourIn : ℕ → ℕ → ℕ → ℕ → Type 0
HasColourIn depth y cb cr = (r : ℕ) × (g : ℕ) × (b : ℕ) × IsColourIn depth y cb cr r g b

-- the same of 8 bits: some red, green and blue from 0 to 255
abbrev pub HasColour : ℕ → ℕ → ℕ → Type 0
HasColour y cb cr = HasColourIn 8 y cb cr

-- red, green and blue below 2^depth, the only three numbers with this transform
pub record IsOnlyColourIn (depth y cb cr r g b : ℕ) : Type 0 where
  pub colour : IsColourIn depth y cb cr r g b
  pub only : (s h d : ℕ) → IsCodedIn depth s h d y cb cr → (s ≡ r) × (h ≡ g) × (d ≡ b)

-- the same of 8 bits
abbrev pub IsOnlyColour : ℕ → ℕ → ℕ → ℕ → ℕ → ℕ → Type 0
IsOnlyColour y cb cr r g b = IsOnlyColourIn 8 y cb cr r g b
