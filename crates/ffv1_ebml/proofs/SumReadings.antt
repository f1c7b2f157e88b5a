-- Bytes that are passed and summed, piece by piece.
use Rattle.std.proofs.Common.{◌≡◌, ◌<◌, ◌≤◌, inl, inr, ◌+◌, ◌-◌, ◌∙◌, ◌++◌, ℕ, List, length, take, drop, fold, refl, sym, ap, arith, length-drop}
use Rattle.std.proofs.lemmas.Bool.{le-ltb, lt-ltb, cases_lt}
use Rattle.std.proofs.lemmas.List.Sums.{fold-append}
use Rattle.std.proofs.lemmas.List.{drop-drop}
use Rattle.std.proofs.Math.Seq.{take-add}
use Rattle.ffv1_reads.specs.Reads.{Reading, given, taken, ◌>>=◌}
use Rattle.ffv1_sum.specs.Sum.{byte_step}
use Rattle.ffv1_ebml.specs.Sums.{passed_so_far}

-- nothing is left
pub passed_none : (so_far : ℕ) (text : List ℕ) → passed_so_far 0 so_far text ≡ given so_far text
passed_none so_far text =
    let all : 0 ≤ length text = omega arith in
    rw (le-ltb _ _ all) refl

-- some of the bytes, and then the others
abbrev pub piece_then : ℕ → ℕ → ℕ → Reading ℕ
piece_then n left so_far = taken n >>= λ bytes. passed_so_far (left - n) (fold byte_step so_far bytes)

pub passed_piece : (n left so_far : ℕ) → n ≤ left → (text : List ℕ) → passed_so_far left so_far text ≡ piece_then n left so_far text
passed_piece n left so_far fits text = elim (cases_lt (length text) n) [ inl few ↦ short few | inr some ↦ long some ]
  where
    short : length text < n → passed_so_far left so_far text ≡ piece_then n left so_far text
    short few = rw (lt-ltb (length text) left (omega (arith, few, fits)), lt-ltb _ _ few) refl

    long : n ≤ length text → passed_so_far left so_far text ≡ piece_then n left so_far text
    long some = elim (cases_lt (length text) left) [ inl few ↦ cut some few | inr all ↦ whole some all ]
      where
        cut : n ≤ length text → length text < left → passed_so_far left so_far text ≡ piece_then n left so_far text
        cut some few =
            let after : length (drop n text) < left - n = omega (arith, few, some, fits, length-drop n text) in
            rw (lt-ltb _ _ few, le-ltb _ _ some, lt-ltb _ _ after) refl

        whole : n ≤ length text → left ≤ length text → passed_so_far left so_far text ≡ piece_then n left so_far text
        whole some all =
            let after : left - n ≤ length (drop n text) = omega (arith, all, some, fits, length-drop n text) in
            let parts : n + (left - n) ≡ left = omega (arith, fits) in
            let front : take left text ≡ take n text ++ take (left - n) (drop n text) = ap (λ k. take k text) (sym parts) ∙ take-add n (left - n) text in
            let back : drop left text ≡ drop (left - n) (drop n text) = ap (λ k. drop k text) (sym parts) ∙ sym (drop-drop (left - n) n text) in
            rw (le-ltb _ _ all, le-ltb _ _ some, le-ltb _ _ after, front, back, fold-append byte_step so_far (take n text) (take (left - n) (drop n text))) refl
