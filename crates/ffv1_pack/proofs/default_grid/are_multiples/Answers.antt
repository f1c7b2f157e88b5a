-- Whether each inner edge of so many parts of a size is a multiple of the chroma factor.
use Rattle.std.proofs.Common.{◌≡◌, ◌∙◌, ◌≤◌, ◌-◌, ◌+◌, ◌*◌, ◌/◌, ◌%◌, ◌^◌, ◌==◌, ℕ, zero, suc, true}
use Rattle.std.proofs.Common.{refl, sym, subst, arith}
use Rattle.std.proofs.lemmas.Bool.Decides.{nat_tests}
use Rattle.ffv1_record.specs.Accepted.{edge, are_multiples}
use Rattle.ffv1_pack.proofs.GridLists.{all_more}
use Rattle.ffv1_pack.proofs.default_grid.are_multiples.Goals as goal

-- a chroma factor has few bits
narrow : (log2 : ℕ) → log2 ≤ 2 → (1 * 2 ^ log2) % 4294967296 ≡ 2 ^ log2
narrow zero h = refl
narrow (suc zero) h = refl
narrow (suc (suc zero)) h = refl
narrow (suc (suc (suc n))) h = absurd (omega (arith, h))

pub loop-k-preserved : goal.loop-k-preserved
loop-k-preserved c =
    let k = c.loop-k.k in
    let none : edge k c.args.size c.args.count % 2 ^ c.args.log2 ≡ 0 =
    subst (λ d. k * c.args.size / c.args.count % d ≡ 0) (narrow c.args.log2 c.requires.log2)
    c.if-k-size-ne0.false in
    let even : (edge k c.args.size c.args.count % 2 ^ c.args.log2 == 0) ≡ true = grind
    (arith, nat_tests, none) in
    let left : c.args.count - k ≡ suc (c.args.count - (k + 1)) =
    omega (arith, c.loop-k-test.true) in (
      sym (all_more (λ n. edge n c.args.size c.args.count % 2 ^ c.args.log2 == 0) k _ _ left even) ∙
          c.loop-k.invariant.0,
      omega (arith, c.loop-k.invariant.1),
    )
