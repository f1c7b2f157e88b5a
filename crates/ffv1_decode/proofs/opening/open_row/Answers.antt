-- Opens the slices of a row, from the left.
use Rattle.std.proofs.Common.{◌≡◌, ◌≢◌, ℕ, suc, ◌+◌, ◌*◌, ◌<◌, ◌≤◌, inl, inr, ◌∙◌, ap, sym, subst}
use Rattle.std.proofs.Common.{refl, length, slice_set, List, arith, length-set, get_or-set_same}
use Rattle.std.proofs.Common.{get_or-set_other}
use Rattle.std.specs.Prelude.{IsSome}
use Rattle.std.proofs.lemmas.Bool.{cases_eq}
use Rattle.std.proofs.lemmas.Grind.{elements}
use Rattle.ffv1_frame.specs.Decoding.{slice_number}
use Rattle.ffv1_decode.specs.Internal.Tied.{IsOpen, column_at, no_column}
use Rattle.ffv1_decode.specs.Internal.Opened.{RowOpened, ColumnOpened, ColumnRefused, coded_by}
use Rattle.ffv1_decode.specs.Internal.Opened.{row_heads}
use Rattle.ffv1_frame.proofs.lemmas.Sizes.{part_apart, grid_small}
use Rattle.ffv1_decode.proofs.lemmas.opening.RowOpenings.{one_opened, one_refused}
use Rattle.ffv1_decode.proofs.opening.open_row.Given.{Over}
use Rattle.ffv1_decode.proofs.opening.open_row.Goals.{After-open_column}
use Rattle.ffv1_decode.proofs.opening.open_row.Goals as goal

-- the column is one of the row
module _ (g : Over) (c : After-open_column g) where
  long : length c.loop-k.columns ≡ c.args.frame.now.checked.now.configuration.columns
  long = omega (arith, c.requires.many)

  inside : c.loop-k.k < c.args.frame.now.checked.now.configuration.columns
  inside = omega (arith, long)

  number : c.args.row * length c.loop-k.columns + c.loop-k.k ≡ slice_number
      c.args.frame.now.checked.now.configuration c.args.row c.loop-k.k
  number = ap (λ z. c.args.row * z + c.loop-k.k) long

pub overflow_cast-slice-in-Err : goal.overflow_cast-slice-in-Err
overflow_cast-slice-in-Err g c =
    let a = c.args.frame.now.checked.now in
    let conf = a.configuration in
    let r = c.args.row in
    let here = (goal.at.overflow_cast-slice-in-Err g c).After-open_column in
    let columns = c.accepted_configuration_is_in_range.ensures.columns conf a.table
    c.requires.frame.accepted in
    let rows = c.accepted_configuration_is_in_range.ensures.rows conf a.table
    c.requires.frame.accepted in
    let row = part_apart r conf.rows conf.columns c.requires.row in
    let all : conf.rows * conf.columns ≤ 1024 = grid_small conf.rows conf.columns rows.1
    columns.1 in
    omega (arith, row, all, inside g here, number g here)

pub returns-in-Err-clause-exact : goal.returns-in-Err-clause-exact
returns-in-Err-clause-exact g c = λ s known fresh says.
    let a = c.args.frame.now.checked.now in
    let conf = a.configuration in
    let r = c.args.row in
    let n = c.loop-k.k in
    let here = (goal.at.returns-in-Err-clause-exact g c).After-open_column in
    let coded : ℕ → List ℕ = coded_by a c.args.frame.now.payload.now c.args.spans.now in
    let before = c.loop-k.invariant.row s known fresh says in
    let refused = subst (λ z. ColumnRefused a coded z c.open_column.new.column c.loop-k.first
    c.in-Err.fault) (number g here) c.in-Err.ensures.exact in
    rw (c.in_slice.ensures, number g here) (one_refused a coded c.args.frame.now.payload.now r s n
    c.loop-k.columns c.loop-k.first c.open_column.new.column before (inside g here) (long g here)
    c.in-Err.fault
    conf.columns (inside g here) refused)

pub loop-k-preserved : goal.loop-k-preserved
loop-k-preserved g c =
    let a = c.args.frame.now.checked.now in
    let conf = a.configuration in
    let r = c.args.row in
    let n = c.loop-k.k in
    let here = (goal.at.loop-k-preserved g c).After-open_column in
    let coded : ℕ → List ℕ = coded_by a c.args.frame.now.payload.now c.args.spans.now in
    let next : suc n ≡ n + 1 = omega arith in
    let few : n < length c.loop-k.columns = omega (arith, inside g here, long g here) in
    let now : column_at (slice_set c.loop-k.columns n c.open_column.new.column) n ≡
    c.open_column.new.column = get_or-set_same c.loop-k.columns n c.open_column.new.column
    no_column few in
    let other : (j : ℕ) → j ≢ n → column_at (slice_set c.loop-k.columns n c.open_column.new.column)
    j ≡ column_at c.loop-k.columns j =
    λ j apart. get_or-set_other c.loop-k.columns n j c.open_column.new.column no_column apart in
    let opened = subst (λ z. ColumnOpened a coded c.args.frame.now.payload.now z
    c.open_column.new.column c.loop-k.first c.open_column.new.first) (number g here)
    c.in_default.ensures.exact in
    record {
      closed = λ j from h.
          let apart : j ≢ n = omega (arith, from) in
          let h : j < length c.loop-k.columns =
          omega (arith, h, length-set c.loop-k.columns n c.open_column.new.column) in
          ap (λ z. z.parked) (other j apart) ∙ c.loop-k.invariant.closed j (omega (arith, from)) h;
      opened = λ j h. elim (cases_eq j n) [
        | inl here ↦ subst (λ z. IsOpen c.args.frame.now.payload.now conf.sets
            (column_at (slice_set c.loop-k.columns n c.open_column.new.column) z)) (sym here)
            (subst (IsOpen c.args.frame.now.payload.now conf.sets) (sym now)
            c.in_default.ensures.open)
        | inr apart ↦ subst (IsOpen c.args.frame.now.payload.now conf.sets) (sym (other j apart))
            (c.loop-k.invariant.opened j (omega (arith, h, apart)))
      ];
      known = λ h. subst IsSome (sym opened.says) refl;
      row = λ s known fresh says.
          let before = c.loop-k.invariant.row s known fresh says in
          subst (λ z. RowOpened a coded c.args.frame.now.payload.now r z
          (row_heads (slice_set c.loop-k.columns n c.open_column.new.column)
          c.open_column.new.first) s) next
          (one_opened a coded c.args.frame.now.payload.now r s n c.loop-k.columns c.loop-k.first
          c.open_column.new.column before (inside g here) (long g here)
          c.counters_from_zero_show_all_steps.ensures c.open_column.new.first opened);
    }

pub overflow_mul-slice : goal.overflow_mul-slice
overflow_mul-slice g c =
    let conf = c.args.frame.now.checked.now.configuration in
    let t = c.args.frame.now.checked.now.table in
    let rows = c.accepted_configuration_is_in_range.ensures.rows conf t c.requires.frame.accepted in
    let columns = c.accepted_configuration_is_in_range.ensures.columns conf t
    c.requires.frame.accepted in
    let long : length c.loop-k.columns ≡ conf.columns = omega (arith, c.requires.many) in
    let few = grid_small c.args.row (length c.loop-k.columns)
    (omega (arith, c.requires.row, rows.1)) (omega (arith, long, columns.1)) in
    omega (arith, few)

pub overflow_add-slice : goal.overflow_add-slice
overflow_add-slice g c =
    let conf = c.args.frame.now.checked.now.configuration in
    let t = c.args.frame.now.checked.now.table in
    let rows = c.accepted_configuration_is_in_range.ensures.rows conf t c.requires.frame.accepted in
    let columns = c.accepted_configuration_is_in_range.ensures.columns conf t
    c.requires.frame.accepted in
    let long : length c.loop-k.columns ≡ conf.columns = omega (arith, c.requires.many) in
    let few = grid_small c.args.row (length c.loop-k.columns)
    (omega (arith, c.requires.row, rows.1)) (omega (arith, long, columns.1)) in
    omega (arith, few, long, columns.1)

pub open_column-requires-clause-closed : goal.open_column-requires-clause-closed
open_column-requires-clause-closed g c = grind (arith, elements)
