-- Lines of RCT of 16 bits a sample, whose coded samples have 17.
use Rattle.std.proofs.Common.{◌≡◌, refl, ◌+◌, ◌≤◌, ◌⊎◌, inl, inr, Bool, true, false, if◌then◌else◌, ap, arith}
use Rattle.ffv1_record.specs.Configuration.{Configuration, is_rct}
use Rattle.ffv1_frame.specs.SliceList.{bits_of}

by_colour : (b : Bool) → (b ≡ true) ⊎ (b ≡ false)
by_colour true = inl refl
by_colour false = inr refl

pub rct_bits : (c : Configuration) → is_rct c.colour ≡ true → bits_of c ≡ c.depth + 1
rct_bits c rct = ap (λ b. if b then c.depth + 1 else c.depth) rct

pub plain_bits : (c : Configuration) → is_rct c.colour ≡ false → bits_of c ≡ c.depth
plain_bits c plain = ap (λ b. if b then c.depth + 1 else c.depth) plain

-- 17 bits are coded of RCT of 16 bits alone
pub wide_is : (c : Configuration) → bits_of c ≡ 17 → c.depth ≤ 16 → (is_rct c.colour ≡ true) × (c.depth ≡ 16)
wide_is c bits few = elim (by_colour (is_rct c.colour)) [
  | inl rct ↦ let is = rct_bits c rct in (rct, omega (arith, is, bits))
  | inr plain ↦ let is = plain_bits c plain in absurd (omega (arith, is, bits, few))
]
