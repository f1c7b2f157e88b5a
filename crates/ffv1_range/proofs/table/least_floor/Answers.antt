-- The least floor of the moves by a 1.
use Rattle.std.proofs.Common.{arith, rules, ◌≡◌, subst, inl, inr}
use Rattle.std.proofs.lemmas.Bool.{cases_lt}
use Rattle.ffv1_range.specs.Table.{IsTable}
use Rattle.ffv1_range.proofs.table.least_floor.Goals as goal

pub loop-floor-init : goal.loop-floor-init
loop-floor-init c = λ other below table. let positive = table.positive in omega arith

pub loop-floor-preserved : goal.loop-floor-preserved
loop-floor-preserved c = λ other below table. elim (cases_lt other c.loop-floor.floor) [
  | inl less ↦ c.loop-floor.invariant other less table
  | inr more ↦
      let same : other ≡ c.loop-floor.floor = omega arith in
      c.if-is_floor.ensures.no (search rules) (subst (λ f. IsTable f c.args.one.now) same table)
]

pub returns-then-is_floor-clause-least : goal.returns-then-is_floor-clause-least
returns-then-is_floor-clause-least c = λ other table. elim (cases_lt other c.loop-floor.floor) [
  | inl less ↦ absurd (c.loop-floor.invariant other less table)
  | inr more ↦ more
]

pub returns-clause-none : goal.returns-clause-none
returns-clause-none c = λ other table. c.loop-floor.invariant other (omega (arith, table.middle))
    table
