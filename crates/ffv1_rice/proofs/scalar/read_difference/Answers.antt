-- Reads a difference that may stand after a run.
use Rattle.std.proofs.Common.{◌≡◌, ◌∙◌, sym, ap, ◌++◌, pos, ◌+ℤ◌, to_z, of_z, w32, int_lt, inr}
use Rattle.ffv1_rice.specs.Scalar.{scalar_bits, scalar_after}
use Rattle.ffv1_rice.specs.Row.{coded}
use Rattle.ffv1_rice.proofs.Scalars.{coded_next, fits_folded, greatest, not_below}
use Rattle.ffv1_rice.proofs.scalar.read_difference.Goals as goal

pub returns-clause-ok : goal.returns-clause-ok
returns-clause-ok c =
    let s = c.args.state.now in
    let depth = c.args.depth in
    let d = c.in_ok-difference.difference in
    let folded = c.in_ok-difference.ensures.folded in
    let value = fits_folded depth d c.requires.depth folded in
    let least = not_below d (sym (ap (λ x. int_lt x (pos 0)) value) ∙ c.if-difference-lt0.false) in
    let same : coded c.args.is_behind (to_z w32 (of_z w32 (to_z w32 (of_z w32 d) +ℤ pos 1))) ≡ d =
    ap (λ b. coded b (to_z w32 (of_z w32 (to_z w32 (of_z w32 d) +ℤ pos 1))))
    c.if-not-is_behind.false ∙ coded_next depth d c.requires.depth folded least in
    c.in_ok-difference.ensures.ok ∙ ap (λ x. scalar_bits depth s x ++ c.read_scalar.new.bits)
    (sym same)

pub returns-clause-after : goal.returns-clause-after
returns-clause-after c =
    let s = c.args.state.now in
    let depth = c.args.depth in
    let d = c.in_ok-difference.difference in
    let folded = c.in_ok-difference.ensures.folded in
    let value = fits_folded depth d c.requires.depth folded in
    let least = not_below d (sym (ap (λ x. int_lt x (pos 0)) value) ∙ c.if-difference-lt0.false) in
    let same : coded c.args.is_behind (to_z w32 (of_z w32 (to_z w32 (of_z w32 d) +ℤ pos 1))) ≡ d =
    ap (λ b. coded b (to_z w32 (of_z w32 (to_z w32 (of_z w32 d) +ℤ pos 1))))
    c.if-not-is_behind.false ∙ coded_next depth d c.requires.depth folded least in
    c.in_ok-difference.ensures.after ∙ ap (scalar_after depth s) (sym same)

pub returns-then-difference-depth-clause-bad : goal.returns-then-difference-depth-clause-bad
returns-then-difference-depth-clause-bad c =
    let s = c.args.state.now in
    let depth = c.args.depth in
    let d = c.in_ok-difference.difference in
    let folded = c.in_ok-difference.ensures.folded in
    let value = fits_folded depth d c.requires.depth folded in
    let least =
    not_below d (sym (ap (λ x. int_lt x (pos 0)) value) ∙ c.if-difference-lt0.false) in
    let is = greatest depth d c.requires.depth folded least c.if-difference-depth.true in
    λ bad. inr (
      c.if-not-is_behind.false,
      (
        c.read_scalar.new.bits,
        c.in_ok-difference.ensures.ok
            ∙ ap (λ x. scalar_bits depth s x ++ c.read_scalar.new.bits) is,
      ),
    )
