-- The standard's table changed by deltas, that of state 1 first (RFC 9043, 4.2.4).
use Rattle.std.proofs.Common.{refl, inr, arith}
use Rattle.ffv1_range.proofs.Standard.{zeros_are}
use Rattle.ffv1_range.proofs.Named.{fresh_held}
use Rattle.ffv1_range.proofs.DeltaTables.{table_of_floor, floor_of_table}
use Rattle.ffv1_range.proofs.table.StateTable.with_deltas.Goals as goal

pub returns-in_default-clause-refused : goal.returns-in_default-clause-refused
returns-in_default-clause-refused c = (
  refl,
  inr (λ floor is. c.in_default.ensures.none floor
      (table_of_floor c.args.deltas.now c.in_ok-one.one c.in_ok-one.ensures.entries floor is)),
)

pub returns-clause-ok : goal.returns-clause-ok
returns-clause-ok c = record {
  sound = c.in_ok-one.ensures.sound;
  floor = floor_of_table c.args.deltas.now c.in_ok-one.one c.in_ok-one.ensures.entries
      c.in-Some.floor c.in-Some.ensures.found;
  lowest = λ floor is. c.in-Some.ensures.least floor
      (table_of_floor c.args.deltas.now c.in_ok-one.one c.in_ok-one.ensures.entries floor is);
  long = c.in_ok-one.ensures.long;
  entries = c.in_ok-one.ensures.entries;
}

pub returns-clause-fresh : goal.returns-clause-fresh
returns-clause-fresh c = fresh_held (record { floor = c.in-Some.floor; one = c.in_ok-one.one })
    c.in-Some.ensures.found

pub invariant_of-result : goal.invariant_of-result
invariant_of-result c =
    let positive = c.in-Some.ensures.found.positive in (
      c.in-Some.ensures.found,
      zeros_are c.in-Some.floor c.in_ok-one.one _ c.in-Some.ensures.found
          c.zeros_beside-zero.ensures,
      λ state least most. c.both.ensures state (omega arith),
      record {
        zeros = λ state least most. c.joined.ensures.zeros state (omega arith);
        ones = λ state least most. c.joined.ensures.ones state (omega arith);
      },
    )
