-- The width of a plane that is not divided.
use Rattle.std.proofs.Common.{◌≡◌, refl, ℕ, zero, suc, ap, ◌∙◌, arith}
use Rattle.ffv1_record.specs.Configuration.{Configuration}
use Rattle.ffv1_slice.specs.Grid.{factor_of, reduced}
use Rattle.ffv1_frame.specs.Picture.{plane_width}

pub factor_none : (p : ℕ) → factor_of 0 p ≡ 0
factor_none zero = refl
factor_none (suc zero) = refl
factor_none (suc (suc zero)) = refl
factor_none (suc (suc (suc p))) = refl

pub reduced_none : (n : ℕ) → reduced 0 n ≡ n
unfolding reduced
reduced_none n = omega arith

pub wide_none : (c : Configuration) (p : ℕ) → c.log2_h ≡ 0 → plane_width c p ≡ c.width
wide_none c p none = ap (λ l. reduced (factor_of l p) c.width) none ∙ ap (λ l. reduced l c.width) (factor_none p) ∙ reduced_none c.width
