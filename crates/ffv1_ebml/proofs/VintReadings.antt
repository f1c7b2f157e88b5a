-- Variable-size integers, as they are read.
use Rattle.std.proofs.Common.{◌≡◌, ◌≤◌, ◌-◌, ◌++◌, ◌∷◌, [], ℕ, List, suc, zero, length, take, slice_index, slice_index_or, refl, ap, arith}
use Rattle.std.proofs.lemmas.Bool.{le-ltb, ne_eqb}
use Rattle.ffv1_reads.proofs.Results.{cut_front}
use Rattle.ffv1_reads.specs.Reads.{Reading, given, taken, ◌>>=◌}
use Rattle.ffv1_ebml.specs.Vints.{length_of, vint_rest, vint_read}

-- if some bytes are left, the first one is read
pub vint_whole : (most left : ℕ) → (left ≡ 0 → ⊥) → (text : List ℕ) → vint_read most left text ≡ (taken 1 >>= vint_rest most left) text
unfolding vint_read
vint_whole most left some text = rw (ne_eqb _ _ some) refl

-- the others, if they fit
abbrev pub vint_tail : ℕ → List ℕ → Reading (List ℕ)
vint_tail n first = taken (n - 1) >>= λ rest. given (first ++ rest)

pub vint_others : (most left n : ℕ) (first : List ℕ) → n ≡ length_of (slice_index first 0) → n ≤ most → n ≤ left → (text : List ℕ) → vint_rest most left first text ≡ vint_tail n first text
vint_others most left n first is few fits text = rw (← is, le-ltb _ _ few, le-ltb _ _ fits) refl

pub one_byte : (xs : List ℕ) → length xs ≡ 1 → xs ≡ slice_index_or xs 0 0 ∷ []
one_byte [] long = absurd (omega (arith, long))
one_byte (x ∷ []) long = refl
one_byte (x ∷ y ∷ ys) long = absurd (omega (arith, long))

-- the first byte and the others, in eight bytes
pub vint_stored : (first n : ℕ) (buf after : List ℕ) → 1 ≤ n → length buf ≡ n - 1 → take n (first ∷ (buf ++ after)) ≡ first ∷ buf
vint_stored first zero buf after some long = absurd (omega (arith, some))
vint_stored first (suc n) buf after some long = ap (λ z. first ∷ z) (cut_front n buf after (omega (arith, long)))
