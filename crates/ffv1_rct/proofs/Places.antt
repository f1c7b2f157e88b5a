-- The transform of a sample in natural numbers.
use Rattle.std.proofs.Common.{◌≡◌, refl, ap, sym, ◌∙◌, ◌-◌, ℕ, suc, ◌+◌, ◌*◌, ◌/◌, ◌^◌, ◌<◌, arith, ℤ, pos, negsuc, ◌+ℤ◌, ◌-ℤ◌, ◌*ℤ◌}
use Rattle.std.specs.Prelude.{unsigned_abs, ◌≤ℤ◌, ◌<ℤ◌}
use Rattle.std.proofs.lemmas.Int.{ints}
use Rattle.std.proofs.Math.Nat.{pow-succ'}
use Rattle.ffv1_rct.specs.Transform.{quarter_below, luma_of, chroma_in, IsCodedIn, IsColourIn}

quarter_is : (z : ℤ) (k m : ℕ) → z +ℤ pos (4 * k) ≡ pos m → quarter_below z +ℤ pos k ≡ pos (m / 4)
quarter_is (pos a) k m e = let e : a + 4 * k ≡ m = omega (arith, ints, e) in omega (arith, ints)
quarter_is (negsuc a) k m e = let e : m + suc a ≡ 4 * k = omega (arith, ints, e) in omega (arith, ints)

pub quarter_least : (z : ℤ) → (pos 4 *ℤ quarter_below z) ≤ℤ z
quarter_least (pos a) = omega (arith, ints)
quarter_least (negsuc a) = omega (arith, ints)

pub quarter_most : (z : ℤ) → z <ℤ ((pos 4 *ℤ quarter_below z) +ℤ pos 4)
quarter_most (pos a) = omega (arith, ints)
quarter_most (negsuc a) = omega (arith, ints)

-- the transform without differences
pub record IsSummed (depth r g b y cb cr : ℕ) : Type 0 where
  pub luma : y ≡ (r + 2 * g + b) / 4
  pub blue : cb + g ≡ b + 2 ^ depth
  pub red : cr + g ≡ r + 2 ^ depth

quarter : (r g b : ℕ) → quarter_below ((pos b -ℤ pos g) +ℤ (pos r -ℤ pos g)) +ℤ pos g ≡ pos ((r + 2 * g + b) / 4)
quarter r g b = quarter_is ((pos b -ℤ pos g) +ℤ (pos r -ℤ pos g)) g (r + 2 * g + b) (omega (arith, ints))

pub coded_if_summed : (depth r g b y cb cr : ℕ) → IsSummed depth r g b y cb cr → IsCodedIn depth r g b y cb cr
coded_if_summed depth r g b y cb cr is =
    let l = is.luma in
    let cb_is = is.blue in
    let cr_is = is.red in
    let q = quarter r g b in
    record { luma = omega (arith, ints); blue = omega (arith, ints); red = omega (arith, ints) }

pub summed_if_coded : (depth r g b y cb cr : ℕ) → IsCodedIn depth r g b y cb cr → IsSummed depth r g b y cb cr
summed_if_coded depth r g b y cb cr is =
    let l = is.luma in
    let cb_is = is.blue in
    let cr_is = is.red in
    let q = quarter r g b in
    record { luma = omega (arith, ints); blue = omega (arith, ints); red = omega (arith, ints) }

pub only_colour : (depth r g b s h d y cb cr : ℕ) → IsCodedIn depth r g b y cb cr → IsCodedIn depth s h d y cb cr → (s ≡ r) × (h ≡ g) × (d ≡ b)
only_colour depth r g b s h d y cb cr is other =
    let one = summed_if_coded depth r g b y cb cr is in
    let two = summed_if_coded depth s h d y cb cr other in
    let l1 = one.luma in
    let l2 = two.luma in
    let b1 = one.blue in
    let b2 = two.blue in
    let r1 = one.red in
    let r2 = two.red in
    (omega arith, omega arith, omega arith)

pub only_coded : (depth r g b y cb cr z db dr : ℕ) → IsCodedIn depth r g b y cb cr → IsCodedIn depth r g b z db dr → (z ≡ y) × (db ≡ cb) × (dr ≡ cr)
only_coded depth r g b y cb cr z db dr is other =
    let one = summed_if_coded depth r g b y cb cr is in
    let two = summed_if_coded depth r g b z db dr other in
    let l1 = one.luma in
    let l2 = two.luma in
    let b1 = one.blue in
    let b2 = two.blue in
    let r1 = one.red in
    let r2 = two.red in
    (omega arith, omega arith, omega arith)

-- the transform of a colour
pub record IsSmall (depth y cb cr : ℕ) : Type 0 where
  pub luma : y < 2 ^ depth
  pub blue : (0 < cb) × (cb < 2 ^ depth + 2 ^ depth)
  pub red : (0 < cr) × (cr < 2 ^ depth + 2 ^ depth)

pub small_if_colour : (depth r g b y cb cr : ℕ) → IsColourIn depth y cb cr r g b → IsSmall depth y cb cr
small_if_colour depth r g b y cb cr is =
    let sums = summed_if_coded depth r g b y cb cr is.coded in
    let l = sums.luma in
    let u = sums.blue in
    let v = sums.red in
    let s = is.red in
    let h = is.green in
    let d = is.blue in
    record { luma = omega arith; blue = (omega arith, omega arith); red = (omega arith, omega arith) }

pub twice_is : (depth : ℕ) → 2 ^ (depth + 1) ≡ 2 ^ depth + 2 ^ depth
twice_is depth =
    let up : depth + 1 ≡ suc depth = omega arith in
    ap (λ k. 2 ^ k) up ∙ pow-succ' 2 depth ∙ omega arith

natural_of : (z : ℤ) (n : ℕ) → pos n ≡ z → pos (unsigned_abs z) ≡ z
natural_of z n e = ap (λ v. pos (unsigned_abs v)) (sym e) ∙ e

-- of samples the transform is not negative
pub coded_of_samples : (depth r g b : ℕ) → r < 2 ^ depth → g < 2 ^ depth → b < 2 ^ depth →
    IsCodedIn depth r g b (unsigned_abs (luma_of r g b)) (unsigned_abs (chroma_in depth b g)) (unsigned_abs (chroma_in depth r g))
coded_of_samples depth r g b sr sg sb =
    let is = coded_if_summed depth r g b ((r + 2 * g + b) / 4) (b + 2 ^ depth - g) (r + 2 ^ depth - g) record { luma = refl; blue = omega (arith, sg); red = omega (arith, sg) } in
    record {
      luma = natural_of (luma_of r g b) ((r + 2 * g + b) / 4) is.luma;
      blue = natural_of (chroma_in depth b g) (b + 2 ^ depth - g) is.blue;
      red = natural_of (chroma_in depth r g) (r + 2 ^ depth - g) is.red;
    }
