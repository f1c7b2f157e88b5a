-- Residuals that suit a row have a symbol each, and the row's samples have `bits` bits.
use Rattle.std.proofs.Common.{◌≡◌, ℕ, suc, ◌+◌, ◌<◌, ◌^◌, arith, ap, subst}
use Rattle.ffv1_line.specs.Cell.{Cell, seen}
use Rattle.ffv1_line.proofs.lemmas.laws.ThreeRows.{suiting_small}
use Rattle.ffv1_line.proofs.lemmas.laws.SamplesBelow.{suiting_below}
use Rattle.ffv1_line.proofs.laws.suiting_residuals_have_symbols.Goals as goal

seen_there : (c : Cell) (x y : ℕ) → x < c.width → seen c (suc (suc (0 + x))) (suc (suc y)) ≡ c.at x
    y
unfolding seen
seen_there c x y inside = ap (λ k. c.at k y) (omega (arith, inside))

pub returns-clause-small : goal.returns-clause-small
returns-clause-small c = λ set bits d y x qs are. suiting_small set bits d y x qs are

pub returns-clause-below : goal.returns-clause-below
returns-clause-below c = λ set bits d y x qs are inside wide.
    subst (λ s. s < 2 ^ bits) (seen_there d x y wide) (suiting_below set bits d y 0 x qs are inside)
