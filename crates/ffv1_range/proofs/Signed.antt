-- The symbol of a number from its exponent and its sign.
use Rattle.std.proofs.Common.{◌≡◌, refl, ℕ, zero, suc, ◌+◌, ◌*◌, ◌^◌, ◌<◌, ◌≤◌, Bool, true, false, List, [], ◌∷◌, min, arith, pos, negsuc, ℤ, ◌-ℤ◌, pow_mono}
use Rattle.std.proofs.Math.IntN.{nat_abs}
use lib.Signed.{lt_z}
use Rattle.std.proofs.lemmas.Int.{ints}
use Rattle.ffv1_range.specs.Table.{Table}
use Rattle.ffv1_range.specs.Reading.{Reading}
use Rattle.ffv1_range.specs.Signed.{signed_by}
use Rattle.ffv1_range.specs.Symbols.{exponent, exponent_steps, mantissa_steps, magnitude_steps, sized_steps, signed_steps, unsigned_steps}
use Rattle.ffv1_range.specs.Writing.{Writing}
use Rattle.ffv1_range.specs.Internal.Registers.{Reads, Writes}
use Rattle.ffv1_range.proofs.Exponents.{exponent_is}
use Rattle.ffv1_range.proofs.Steps.{reads_append, writes_append}

pub positive_steps : (n : ℕ) → 0 < n → signed_steps (pos n) ≡ sized_steps n false
positive_steps zero h = absurd (omega arith)
positive_steps (suc n) h = refl

pub negative_steps : (n : ℕ) → 0 < n → signed_steps (pos 0 -ℤ pos n) ≡ sized_steps n true
negative_steps zero h = absurd (omega arith)
negative_steps (suc n) h =
    let same : pos 0 -ℤ pos (suc n) ≡ negsuc n = omega (arith, ints) in
    rw same refl

pub sized_signed : (n : ℕ) (negative : Bool) → 0 < n → signed_steps (signed_by n negative) ≡ sized_steps n negative
sized_signed n false h = positive_steps n h
sized_signed n true h = negative_steps n h

-- twice a power below 2 ^ 31 fits
pub number_fits : (e n : ℕ) → e < 31 → n < 2 * 2 ^ e → n < 2 ^ 31
number_fits e n small most =
    let power = pow_mono {i = e} {j = 30} (omega arith) in
    omega arith

-- a number by its three parts
pub magnitude_reads : (t : Table) (a b c d : Reading) (ss ts us vs : List ℕ) (ex n : ℕ) → ex < 31 → 2 ^ ex ≤ n → n < 2 * 2 ^ ex →
    Reads t a ss b ts (record { slot = 0; bit = false } ∷ []) → Reads t b ts c us (exponent_steps ex) → Reads t c us d vs (mantissa_steps ex 0 n) →
    Reads t a ss d vs (magnitude_steps n)
magnitude_reads t a b c d ss ts us vs ex n small least most first second third =
    rw (exponent_is ex n least most) (reads_append t a c d ss us vs _ _ (reads_append t a b c ss ts us _ _ first second) third)

-- a number and its sign
pub sized_reads : (t : Table) (a b c d e : Reading) (ss ts us vs ws : List ℕ) (ex n : ℕ) (negative : Bool) →
    ex < 31 → 2 ^ ex ≤ n → n < 2 * 2 ^ ex →
    Reads t a ss b ts (record { slot = 0; bit = false } ∷ []) → Reads t b ts c us (exponent_steps ex) →
    Reads t c us d vs (mantissa_steps ex 0 n) → Reads t d vs e ws (record { slot = 11 + min ex 10; bit = negative } ∷ []) →
    Reads t a ss e ws (sized_steps n negative)
sized_reads t a b c d e ss ts us vs ws ex n negative small least most first second third last =
    reads_append t a d e ss vs ws _ _ (magnitude_reads t a b c d ss ts us vs ex n small least most first second third)
    (rw (exponent_is ex n least most) last)

-- the same, written
pub magnitude_writes : (t : Table) (a b c d : Writing) (ss ts us vs : List ℕ) (n : ℕ) →
    Writes t a ss b ts (record { slot = 0; bit = false } ∷ []) → Writes t b ts c us (exponent_steps (exponent n)) →
    Writes t c us d vs (mantissa_steps (exponent n) 0 n) → Writes t a ss d vs (magnitude_steps n)
magnitude_writes t a b c d ss ts us vs n first second third =
    writes_append t a c d ss us vs _ _ (writes_append t a b c ss ts us _ _ first second) third

pub number_writes : (t : Table) (a d e : Writing) (ss vs ws : List ℕ) (n : ℕ) (negative : Bool) →
    Writes t a ss d vs (magnitude_steps n) → Writes t d vs e ws (record { slot = 11 + min (exponent n) 10; bit = negative } ∷ []) →
    Writes t a ss e ws (sized_steps n negative)
number_writes t a d e ss vs ws n negative first last = writes_append t a d e ss vs ws _ _ first last

pub unsigned_is : (n : ℕ) → 0 < n → unsigned_steps n ≡ magnitude_steps n
unsigned_is zero h = absurd (omega arith)
unsigned_is (suc n) h = refl

pub unsigned_zero : (n : ℕ) → n ≡ 0 → unsigned_steps n ≡ record { slot = 0; bit = true } ∷ []
unsigned_zero zero h = refl
unsigned_zero (suc n) h = absurd (omega arith)

-- a number that is not zero has a symbol of its size and its sign
pub signed_is : (v : ℤ) (n : ℕ) → n ≡ nat_abs v → (n ≡ 0 → ⊥) → signed_steps v ≡ sized_steps n (lt_z v (pos 0))
signed_is (pos zero) n e h = absurd (h e)
signed_is (pos (suc m)) n e h =
    let sign : lt_z (pos (suc m)) (pos 0) ≡ false = grind (arith, ints) in
    rw (e, sign) refl
signed_is (negsuc m) n e h =
    let sign : lt_z (negsuc m) (pos 0) ≡ true = grind (arith, ints) in
    rw (e, sign) refl

pub zero_is : (v : ℤ) (n : ℕ) → n ≡ nat_abs v → n ≡ 0 → signed_steps v ≡ record { slot = 0; bit = true } ∷ []
zero_is (pos zero) n e h = refl
zero_is (pos (suc m)) n e h = absurd (omega arith)
zero_is (negsuc m) n e h = absurd (omega arith)
