-- Readings of which a fault is a value.
use Rattle.std.proofs.Common.{◌≡◌, ◌∙◌, ◌≤◌, ◌++◌, ◌-◌, ℕ, Bool, true, false, if◌then◌else◌, nat_lt, List, length, slice_index, take, drop, Ok, Err, refl, ap}
use Rattle.ffv1_reads.specs.Reads.{Looked, Reading, Short, given, read_on, taken, ◌>>=◌}
use Rattle.ffv1_ebml.specs.Tried.{outcome, tried}
use Rattle.ffv1_ebml.specs.Vints.{length_of, vint_rest, vint_read}
use Rattle.ffv1_ebml.proofs.VintReadings.{vint_others, vint_whole}

-- so many bytes have no fault: what is read after them is tried
pub tried_then : {X : Type 0} (n : ℕ) (k : List ℕ → Reading X) (text : List ℕ) → tried (taken n >>= k) text ≡ (taken n >>= λ bytes. tried (k bytes)) text
tried_then n k text = on_test (nat_lt (length text) n)
  where
    on_test : (b : Bool) → outcome (read_on (if b then Err (Short Looked) else Ok (take n text, drop n text)) k) ≡ read_on (if b then Err (Short Looked) else Ok (take n text, drop n text)) (λ bytes. tried (k bytes))
    on_test true = refl
    on_test false = refl

pub tried_whole : (most left : ℕ) → (left ≡ 0 → ⊥) → (text : List ℕ) → tried (vint_read most left) text ≡ (taken 1 >>= λ first. tried (vint_rest most left first)) text
tried_whole most left some text = ap outcome (vint_whole most left some text) ∙ tried_then 1 (vint_rest most left) text

pub tried_others : (most left n : ℕ) (first : List ℕ) → n ≡ length_of (slice_index first 0) → n ≤ most → n ≤ left → (text : List ℕ) → tried (vint_rest most left first) text ≡ (taken (n - 1) >>= λ rest. given (Ok (first ++ rest))) text
tried_others most left n first is few fits text = ap outcome (vint_others most left n first is few fits text) ∙ tried_then (n - 1) (λ rest. given (first ++ rest)) text
