-- Lists the decisions of a residual of nine bits, given modulo 512, in the states of a context,
-- after the first `at` numbers of a list that has room for 24 more, all of which may be
-- overwritten.
use Rattle.std.proofs.Common.{◌≡◌, ◌≤◌, ◌*◌, length, take, ap, ◌∙◌, arith}
use Rattle.ffv1_range.proofs.SymbolTable.{row_of, row_at, row_long, long_of, length_at, short_at}
use Rattle.ffv1_range.proofs.SymbolTable.{listed_none, listed_symbol}
use Rattle.ffv1_range.proofs.encoder.batch.list_signed.Goals.{After-symbol_of-row}
use Rattle.ffv1_range.proofs.encoder.batch.list_signed.Goals.{After-length_of-long}
use Rattle.ffv1_range.proofs.encoder.batch.list_signed.Goals as goal

-- the row of the residual in the table
row : (c : After-symbol_of-row) → c.symbol_of-row.result.now ≡ row_of c.args.residual
row c = c.symbol_of-row.ensures ∙ row_at c.args.residual c.requires.residual

wide : (c : After-symbol_of-row) → length c.symbol_of-row.result.now ≡ 24
wide c = ap length (row c) ∙ row_long c.args.residual

-- how many decisions its symbol has
long : (c : After-length_of-long) → c.length_of-long.result ≡ long_of c.args.residual
long c = c.length_of-long.ensures ∙ length_at c.args.residual c.requires.residual

few : (c : After-length_of-long) → c.length_of-long.result ≤ 19
few c = omega (arith, long c, short_at c.args.residual c.requires.residual)

pub list_places-requires : goal.list_places-requires
list_places-requires c =
    let wide = wide (goal.at.list_places-requires c).After-symbol_of-row in
    record {
      ordered = omega arith;
      row = omega (arith, wide);
      room = omega (arith, wide);
      small = omega arith;
    }

pub list_places-requires-then-long-gt8 : goal.list_places-requires-then-long-gt8
list_places-requires-then-long-gt8 c =
    let wide = wide (goal.at.list_places-requires-then-long-gt8 c).After-symbol_of-row in
    record {
      ordered = omega arith;
      row = omega (arith, wide);
      room = omega (arith, wide);
      small = omega arith;
    }

pub overflow_add-result : goal.overflow_add-result
overflow_add-result c = omega (arith, few (goal.at.overflow_add-result c).After-length_of-long)

pub returns : goal.returns
returns c =
    let here = goal.at.returns c in
    let old = c.args.list.now in
    let row = row here.After-symbol_of-row in
    let long = long here.After-length_of-long in
    let few = few here.After-length_of-long in
    let first = rw row at (c.list_places.ensures (take c.args.at old)
    (listed_none old c.symbol_of-row.result.now c.args.at (c.args.context * 16384))) in
    record {
      steps = rw long (listed_symbol old c.list_places.new.list c.args.at c.args.context
          c.args.residual 8 c.requires.residual (omega arith) (omega arith) first);
      few = omega arith;
    }

pub returns-then-long-gt8 : goal.returns-then-long-gt8
returns-then-long-gt8 c =
    let here = goal.at.returns-then-long-gt8 c in
    let old = c.args.list.now in
    let row = row here.After-symbol_of-row in
    let long = long here.After-length_of-long in
    let few = few here.After-length_of-long in
    let first = c.list_places.ensures (take c.args.at old)
    (listed_none old c.symbol_of-row.result.now c.args.at (c.args.context * 16384)) in
    let all = rw row at (c.list_places-then-long-gt8.ensures (take c.args.at old) first) in
    record {
      steps = rw long (listed_symbol old c.list_places-then-long-gt8.new.list c.args.at
          c.args.context c.args.residual 24 c.requires.residual (omega arith) (omega arith) all);
      few = omega arith;
    }
