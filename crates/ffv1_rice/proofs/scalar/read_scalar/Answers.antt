-- Reads a difference.
use Rattle.std.proofs.Common.{◌≡◌, ◌∙◌, sym, ap, ap₂, subst, ◌^◌, ◌<◌, ◌++◌, ◌+ℤ◌, if◌then◌else◌}
use Rattle.std.proofs.Common.{to_z, of_z, w32, arith}
use Rattle.std.proofs.lemmas.Int.{ints}
use Rattle.ffv1_plane.specs.Residual.{folded}
use Rattle.ffv1_rice.specs.Number.{number_bits}
use Rattle.ffv1_rice.specs.States.{after, parameter}
use Rattle.ffv1_rice.specs.Scalar.{mirrored, unbiased, written_for}
use Rattle.ffv1_rice.proofs.Scalars.{value_read, fits_folded, fits_biased, some_bits, folded_size}
use Rattle.ffv1_rice.proofs.Scalars.{unbiased_back}
use Rattle.ffv1_rice.proofs.scalar.read_scalar.Goals as goal

pub take-requires-clause-size : goal.take-requires-clause-size
take-requires-clause-size c =
    let s = c.args.state.now in
    let depth = c.args.depth in
    let value = c.turned-value.result in
    let number = c.in_ok-number.number in
    let few : number < 2 ^ depth = subst (λ n. number < 2 ^ n) c.from.ensures
    c.in_ok-number.ensures.few in
    let written : to_z w32 (of_z w32 c.signed-written.result) ≡ c.signed-written.result =
    omega (arith, ints, c.signed-written.type_inv) in
    let turned : value ≡ (if c.turns.result then mirrored c.signed-written.result else
    c.signed-written.result) =
    c.turned-value.ensures ∙ ap (λ w. if c.turns.result then mirrored w else w) written in
    let is = value_read depth number s c.signed-written.result value c.turns.result
    (some_bits depth c.requires.depth) c.turns.ensures turned c.signed-written.ensures few in
    let same = fits_folded depth value c.requires.depth is.folded in
    rw same (folded_size depth value is.folded)

pub returns-clause-ok : goal.returns-clause-ok
returns-clause-ok c =
    let s = c.args.state.now in
    let depth = c.args.depth in
    let value = c.turned-value.result in
    let number = c.in_ok-number.number in
    let few : number < 2 ^ depth = subst (λ n. number < 2 ^ n) c.from.ensures
    c.in_ok-number.ensures.few in
    let written : to_z w32 (of_z w32 c.signed-written.result) ≡ c.signed-written.result =
    omega (arith, ints, c.signed-written.type_inv) in
    let turned : value ≡ (if c.turns.result then mirrored c.signed-written.result else
    c.signed-written.result) =
    c.turned-value.ensures ∙ ap (λ w. if c.turns.result then mirrored w else w) written in
    let is = value_read depth number s c.signed-written.result value c.turns.result
    (some_bits depth c.requires.depth) c.turns.ensures turned c.signed-written.ensures few in
    let same = fits_folded depth value c.requires.depth is.folded in
    let difference : to_z w32 (of_z w32 c.fold-difference.result) ≡ folded depth (value +ℤ s.bias) =
    fits_folded depth c.fold-difference.result c.requires.depth c.fold-difference.ensures.range
    ∙ c.fold-difference.ensures.value ∙ ap (folded depth)
    (fits_biased depth s value c.requires.depth is.folded c.requires.state) in
    let back : unbiased depth s (to_z w32 (of_z w32 c.fold-difference.result)) ≡ value =
    ap (unbiased depth s) difference ∙ unbiased_back depth s value
    (some_bits depth c.requires.depth) is.folded in
    let code : number_bits c.from.result c.parameter-k.result number ≡ number_bits depth
    (parameter s) (written_for s (unbiased depth s
    (to_z w32 (of_z w32 c.fold-difference.result)))) =
    ap₂ (λ bits k. number_bits bits k number) c.from.ensures c.parameter-k.ensures.value
    ∙ ap (number_bits depth (parameter s)) (sym is.written ∙ ap (written_for s) (sym back)) in
    c.in_ok-number.ensures.ok ∙ ap (λ bits. bits ++ c.read_number.new.self) code

pub returns-clause-after : goal.returns-clause-after
returns-clause-after c =
    let s = c.args.state.now in
    let depth = c.args.depth in
    let value = c.turned-value.result in
    let number = c.in_ok-number.number in
    let few : number < 2 ^ depth = subst (λ n. number < 2 ^ n) c.from.ensures
    c.in_ok-number.ensures.few in
    let written : to_z w32 (of_z w32 c.signed-written.result) ≡ c.signed-written.result =
    omega (arith, ints, c.signed-written.type_inv) in
    let turned : value ≡ (if c.turns.result then mirrored c.signed-written.result else
    c.signed-written.result) =
    c.turned-value.ensures ∙ ap (λ w. if c.turns.result then mirrored w else w) written in
    let is = value_read depth number s c.signed-written.result value c.turns.result
    (some_bits depth c.requires.depth) c.turns.ensures turned c.signed-written.ensures few in
    let same = fits_folded depth value c.requires.depth is.folded in
    let difference : to_z w32 (of_z w32 c.fold-difference.result) ≡ folded depth (value +ℤ s.bias) =
    fits_folded depth c.fold-difference.result c.requires.depth c.fold-difference.ensures.range
    ∙ c.fold-difference.ensures.value ∙ ap (folded depth)
    (fits_biased depth s value c.requires.depth is.folded c.requires.state) in
    let back : unbiased depth s (to_z w32 (of_z w32 c.fold-difference.result)) ≡ value =
    ap (unbiased depth s) difference ∙ unbiased_back depth s value
    (some_bits depth c.requires.depth) is.folded in
    c.take.ensures.value ∙ ap (after s) (same ∙ sym back)
