-- Coded samples have few bits.
use Rattle.std.proofs.Common.{◌≡◌, refl, ℕ, zero, suc, ◌+◌, ◌^◌, ◌<◌, List, [], ◌∷◌, length, get_or, unsigned_abs, arith}
use Rattle.std.proofs.Math.Nat.{lt_of_lt_of_le}
use Rattle.std.proofs.Math.Pow.{pow_mono}
use Rattle.ffv1_rct.specs.Transform.{luma_of, chroma_in, IsColourIn}
use Rattle.ffv1_rct.specs.Lines.{AreCodedIn, lumas, chromas_in}

-- the laws of one colour
pub record Small : Type 0 where
  pub coded : (depth n : ℕ) (r g b : List ℕ) → length r ≡ n → length g ≡ n → length b ≡ n → ((x : ℕ) → get_or r x 0 < 2 ^ depth) → ((x : ℕ) → get_or g x 0 < 2 ^ depth) → ((x : ℕ) → get_or b x 0 < 2 ^ depth) →
      AreCodedIn depth n r g b (lumas r g b) (chromas_in depth b g) (chromas_in depth r g)
  pub luma : (depth r g b y cb cr : ℕ) → IsColourIn depth y cb cr r g b → y < 2 ^ depth
  pub blue : (depth r g b y cb cr : ℕ) → IsColourIn depth y cb cr r g b → (0 < cb) × (cb < 2 ^ (depth + 1))
  pub red : (depth r g b y cb cr : ℕ) → IsColourIn depth y cb cr r g b → (0 < cr) × (cr < 2 ^ (depth + 1))

one_below : (bound n : ℕ) → n < bound → (x : ℕ) → get_or (n ∷ []) x 0 < bound
one_below bound n small zero = small
one_below bound n small (suc x) = omega (arith, small)

-- one bit more
pub one_more_bit : (depth n : ℕ) → n < 2 ^ depth → n < 2 ^ (depth + 1)
one_more_bit depth n small = lt_of_lt_of_le small (pow_mono {i = depth} {j = depth + 1} (omega arith))

module _ (laws : Small) (depth r g b : ℕ) (red : r < 2 ^ depth) (green : g < 2 ^ depth) (blue : b < 2 ^ depth) where
  pub is_colour : IsColourIn depth (unsigned_abs (luma_of r g b)) (unsigned_abs (chroma_in depth b g)) (unsigned_abs (chroma_in depth r g)) r g b
  is_colour =
      let coded = laws.coded depth 1 (r ∷ []) (g ∷ []) (b ∷ []) refl refl refl (one_below (2 ^ depth) r red) (one_below (2 ^ depth) g green) (one_below (2 ^ depth) b blue) in
      record { red = red; green = green; blue = blue; coded = coded 0 (omega arith) }

  pub luma_small : unsigned_abs (luma_of r g b) < 2 ^ (depth + 1)
  luma_small = one_more_bit depth (unsigned_abs (luma_of r g b)) (laws.luma depth _ _ _ _ _ _ is_colour)

  pub blue_small : unsigned_abs (chroma_in depth b g) < 2 ^ (depth + 1)
  blue_small = (laws.blue depth _ _ _ _ _ _ is_colour).1

  pub red_small : unsigned_abs (chroma_in depth r g) < 2 ^ (depth + 1)
  red_small = (laws.red depth _ _ _ _ _ _ is_colour).1
