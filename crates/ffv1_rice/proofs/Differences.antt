-- No difference's bits are the begin of another's.
use Rattle.std.proofs.Common.{◌≡◌, sym, ◌∙◌, ap, ℕ, ◌+◌, ◌^◌, ◌<◌, ◌≤◌, Bool, List, ◌++◌}
use Rattle.std.proofs.Common.{length, arith, ℤ, if◌then◌else◌, ◌+ℤ◌}
use Rattle.ffv1_plane.specs.Residual.{folded, IsFolded}
use Rattle.ffv1_rice.specs.declared.state.State.{State}
use Rattle.ffv1_rice.specs.Number.{Ends, IsBad}
use Rattle.ffv1_rice.specs.States.{IsState, parameter, turns}
use Rattle.ffv1_rice.specs.Scalar.{mirrored, unbiased, written_for, scalar_bits, scalar_after}
use Rattle.ffv1_rice.proofs.Codes.{numbers_one, number_ends_not, bad_not, some_number}
use Rattle.ffv1_rice.proofs.Codes.{length_number}
use Rattle.ffv1_rice.proofs.Scalars.{unsigned_same, turned_twice, turned_folded, folded_unsigned}
use Rattle.ffv1_rice.proofs.Scalars.{folded_size}
use Rattle.ffv1_rice.proofs.Scalars.{biased_back, unbiased_folded}
use Rattle.ffv1_rice.proofs.States.{parameter_below, is_after}

pub written_small : (depth : ℕ) (s : State) (d : ℤ) → 0 < depth → written_for s (unbiased depth s d)
    < 2 ^ depth
written_small depth s d some =
    folded_unsigned depth (if turns s then mirrored (unbiased depth s d) else unbiased depth s d)
    some
    (turned_folded depth (turns s) (unbiased depth s d) (unbiased_folded depth s d some))

written_same : (s : State) (v w : ℤ) → written_for s v ≡ written_for s w → v ≡ w
written_same s v w is =
    let turn : ℤ → ℤ = λ (x : ℤ). if turns s then mirrored x else x in
    sym (turned_twice (turns s) v) ∙ ap turn (unsigned_same (turn v) (turn w) is) ∙ turned_twice
    (turns s) w

pub differences_one : (depth : ℕ) (s : State) (d e : ℤ) (a b : List Bool) → 0 < depth → IsFolded
    depth d → IsFolded depth e →
    scalar_bits depth s d ++ a ≡ scalar_bits depth s e ++ b → (d ≡ e) × (a ≡ b)
differences_one depth s d e a b some is is' same =
    let one = numbers_one depth (parameter s) (written_for s (unbiased depth s d))
    (written_for s (unbiased depth s e)) a b
    (written_small depth s d some) (written_small depth s e some) same in
    let value = written_same s (unbiased depth s d) (unbiased depth s e) one.0 in (
      sym (biased_back depth s d some is) ∙ ap (λ v. folded depth (v +ℤ s.bias)) value ∙ biased_back
          depth s e some is',
      one.1,
    )

pub difference_ends_not : (depth : ℕ) (s : State) (d : ℤ) (text rest : List Bool) → 0 < depth →
    text ≡ scalar_bits depth s d ++ rest → Ends depth (parameter s) text → ⊥
difference_ends_not depth s d text rest some begins ends =
    number_ends_not depth (parameter s) (written_for s (unbiased depth s d)) text rest
    (written_small depth s d some) begins ends

pub difference_bad_not : (depth : ℕ) (s : State) (d : ℤ) (text rest : List Bool) → 0 < depth →
    text ≡ scalar_bits depth s d ++ rest → IsBad depth (parameter s) text → ⊥
difference_bad_not depth s d text rest some begins bad =
    bad_not depth (parameter s) (written_for s (unbiased depth s d)) text rest
    (written_small depth s d some) begins bad

pub some_difference : (depth : ℕ) (s : State) (d : ℤ) → 1 ≤ length (scalar_bits depth s d)
some_difference depth s d = some_number depth (parameter s) (written_for s (unbiased depth s d))

pub length_difference : (depth : ℕ) (s : State) (d : ℤ) → 0 < depth → IsState depth s → length
    (scalar_bits depth s d) ≤ 12 + depth
length_difference depth s d some is =
    let few = parameter_below depth s.error_sum 0 s is some some in
    length_number depth (parameter s) (written_for s (unbiased depth s d)) (omega (arith, few))

pub after_difference : (depth : ℕ) (s : State) (d : ℤ) → 3 ≤ depth → depth ≤ 9 → IsState depth s →
    IsState depth (scalar_after depth s d)
after_difference depth s d some few is =
    is_after depth s (unbiased depth s d) few is
    (folded_size depth (unbiased depth s d) (unbiased_folded depth s d (omega (arith, some))))
