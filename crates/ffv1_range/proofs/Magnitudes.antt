-- Symbols by their first decisions, and by those of their nonzero numbers.
use Rattle.std.proofs.Common.{◌≡◌, refl, ℕ, ◌+◌, ◌-◌, ◌*◌, ◌^◌, ◌<◌, ◌≤◌, Bool, true, false, List, [], ◌∷◌, ◌++◌, length, min, arith, sym, subst, append_assoc, get_or, slice_set, pos}
use Rattle.ffv1_range.specs.Interval.{Interval, narrow}
use Rattle.ffv1_range.specs.Weight.{one_if}
use Rattle.ffv1_range.specs.Table.{Table, Holds, moved}
use Rattle.ffv1_range.specs.Reading.{Reading, At, summed}
use Rattle.ffv1_range.specs.Follows.{Follows}
use Rattle.ffv1_range.specs.Counts.{ones_in}
use Rattle.ffv1_range.specs.Symbols.{Step, raising, exponent_steps, mantissa_steps, sized_steps, signed_steps, shifted, too_long}
use Rattle.ffv1_range.specs.Among.{AreNonzeros, sums_among, sums_refused}
use Rattle.ffv1_range.specs.declared.tally.Nonzeros.{Nonzeros}
use Rattle.ffv1_range.specs.Internal.Registers.{Reads}
use Rattle.ffv1_range.proofs.Counting.{too_long_ones, too_long_length}
use Rattle.ffv1_range.proofs.Exponents.{exponent_is}
use Rattle.ffv1_range.proofs.Steps.{reads_append, reads_summed_by, raising-zero, raising-add-one}

raising_one : raising 1 ≡ record { slot = 1; bit = true } ∷ []
raising_one = let more = raising-add-one 0 in rw raising-zero at more

raising_two : raising 2 ≡ record { slot = 1; bit = true } ∷ record { slot = 2; bit = true } ∷ []
raising_two = let more = raising-add-one 1 in rw raising_one at more

-- an exponent 0
pub none_reads : (t : Table) (a b : Reading) (ss ts : List ℕ) → Reads t a ss b ts (record { slot = 1; bit = false } ∷ []) → Reads t a ss b ts (exponent_steps 0 ++ mantissa_steps 0 0 1)
none_reads t a b ss ts reads = rw raising-zero reads

-- an exponent 1 and the bit after it
pub one_reads : (t : Table) (a b c d : Reading) (ss ts us vs : List ℕ) (bit : Bool) → Reads t a ss b ts (record { slot = 1; bit = true } ∷ []) → Reads t b ts c us (record { slot = 2; bit = false } ∷ []) →
    Reads t c us d vs (record { slot = 22; bit = bit } ∷ []) → Reads t a ss d vs (exponent_steps 1 ++ mantissa_steps 1 0 (2 + one_if bit))
one_reads t a b c d ss ts us vs true first second third = rw raising_one (reads_append t a c d ss us vs _ _ (reads_append t a b c ss ts us _ _ first second) third)
one_reads t a b c d ss ts us vs false first second third = rw raising_one (reads_append t a c d ss us vs _ _ (reads_append t a b c ss ts us _ _ first second) third)

-- two decisions 1 of an exponent
pub two_reads : (t : Table) (a b c : Reading) (ss ts us : List ℕ) → Reads t a ss b ts (record { slot = 1; bit = true } ∷ []) → Reads t b ts c us (record { slot = 2; bit = true } ∷ []) →
    Reads t a ss c us (raising 2)
two_reads t a b c ss ts us first second = rw raising_two (reads_append t a b c ss ts us _ _ first second)

-- a symbol by its three parts
pub symbol_reads : (t : Table) (a b c d : Reading) (ss ts us vs : List ℕ) (e n : ℕ) (negative : Bool) → e < 31 → 2 ^ e ≤ n → n < 2 * 2 ^ e →
    Reads t a ss b ts (record { slot = 0; bit = false } ∷ []) → Reads t b ts c us (exponent_steps e ++ mantissa_steps e 0 n) →
    Reads t c us d vs (record { slot = 11 + min e 10; bit = negative } ∷ []) → Reads t a ss d vs (sized_steps n negative)
symbol_reads t a b c d ss ts us vs e n negative small least most first second third =
    let is = exponent_is e n least most in
    rw is (reads_append t a c d ss us vs _ _
    (subst (Reads t a ss c us) (sym (append_assoc (record { slot = 0; bit = false } ∷ []) (exponent_steps e) (mantissa_steps e 0 n))) (reads_append t a b c ss ts us _ _ first second)) third)

-- a zero
pub zero_follows : (t : Table) (a b : Reading) (ss ts : List ℕ) (n : ℕ) (s : Nonzeros) → s.symbols ≤ n → Reads t a ss b ts (record { slot = 0; bit = true } ∷ []) →
    Follows t (summed a (sums_among n s)) ss (summed b (sums_among (n + 1) s)) ts (record { slot = 0; bit = true } ∷ [])
zero_follows t a b ss ts n s within reads =
    reads_summed_by t a b ss ts _ (sums_among n s) (sums_among (n + 1) s) 1 0 reads (omega arith) (omega arith) refl refl

-- a zero by the state of its first decision
pub zero_taken : (t : Table) (a b : Reading) (states : List ℕ) (slot state after n : ℕ) (s : Nonzeros) → get_or states slot 0 ≡ state → Holds t state → s.symbols ≤ n →
    b.bytes ≡ a.bytes → ((i : Interval) → At a i → At b (narrow i state true)) → b.counts ≡ a.counts → after ≡ moved t state true →
    Follows t (summed a (sums_among n s)) states (summed b (sums_among (n + 1) s)) (slice_set states slot after) (shifted slot (signed_steps (pos 0)))
zero_taken t a b states slot state after n s is held within bytes at counts moves =
    let same : slot + 0 ≡ slot = omega arith in
    reads_summed_by t a b states (slice_set states slot after) _ (sums_among n s) (sums_among (n + 1) s) 1 0
    (record {
      bytes = bytes;
      at = λ i h. rw (same, is) (at i h);
      counts = counts;
      moves = rw (same, is, moves) refl;
      named = rw (same, is) (record { least = held.positive; most = held.small }, tt);
    })
    (omega arith) (omega arith) refl refl

-- a number that is not zero, of these ones and so many decisions
pub nonzero_follows : (t : Table) (a b : Reading) (ss ts : List ℕ) (xs : List Step) (n e ones : ℕ) (s after : Nonzeros) → s.symbols ≤ n → AreNonzeros s → ones ≤ e + 1 →
    after ≡ record { symbols = s.symbols + 1; exponents = s.exponents + e; ones = s.ones + ones } → ones_in xs ≡ e + ones → length xs ≡ 2 * e + 3 → Reads t a ss b ts xs →
    Follows t (summed a (sums_among n s)) ss (summed b (sums_among (n + 1) after)) ts xs
nonzero_follows t a b ss ts xs n e ones s after within are few is of_ones long reads =
    let so_far = are.ones in
    rw is (reads_summed_by t a b ss ts xs (sums_among n s) (sums_among (n + 1) (record { symbols = s.symbols + 1; exponents = s.exponents + e; ones = s.ones + ones })) (e + ones) (e + 3 - ones) reads
    (omega arith) (omega arith) (sym of_ones) (omega arith))

-- a symbol that is refused
pub refused_follows : (t : Table) (a b : Reading) (ss ts : List ℕ) (n : ℕ) (s : Nonzeros) → Reads t a ss b ts too_long →
    Follows t (summed a (sums_among n s)) ss (summed b (sums_refused n s)) ts too_long
refused_follows t a b ss ts n s reads =
    reads_summed_by t a b ss ts too_long (sums_among n s) (sums_refused n s) 31 1 reads refl refl (sym too_long_ones) (sym too_long_length)
