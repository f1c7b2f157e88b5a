-- The bytes of a variable-size integer of at most `most` bytes, and what comes after them.
use Rattle.std.proofs.Common.{drop, rules, arith}
use Rattle.std.proofs.lemmas.List.{take_rest}
use Rattle.ffv1_ebml.proofs.MemoryReadings.{vint_bad, vint_none, vint_short, vint_there}
use Rattle.ffv1_ebml.proofs.content.split_vint.Goals as goal

pub returns-then-is_empty-clause-err : goal.returns-then-is_empty-clause-err
returns-then-is_empty-clause-err c = (
  c.args.content.now,
  vint_none c.args.most c.args.content.now
      (search rules),
)

pub returns-then-len-most-clause-err : goal.returns-then-len-most-clause-err
returns-then-len-most-clause-err c = (
  drop 1 c.args.content.now,
  vint_bad c.args.most
      c.args.content.now (search rules) (omega (
        arith,
        c.if-len-most.true,
        c.length_of-len.ensures.value,
      )),
)

pub returns-then-content-len-clause-err : goal.returns-then-content-len-clause-err
returns-then-content-len-clause-err c = (
  drop 1 c.args.content.now,
  vint_short c.args.most
      c.args.content.now (search rules) (omega (
        arith,
        c.if-len-most.false,
        c.length_of-len.ensures.value,
      )) (omega (
        arith,
        c.if-content-len.true,
        c.length_of-len.ensures.value,
      )),
)

pub returns-clause-ok : goal.returns-clause-ok
returns-clause-ok c =
    let xs = c.args.content.now in
    let n = c.length_of-len.result in
    rw (take_rest xs n) (vint_there c.args.most n xs c.length_of-len.ensures.value
    c.length_of-len.ensures.least (omega arith) (omega arith))
