-- What was decided before, and in the slices of these columns.
use Rattle.std.proofs.Common.{◌≡◌, suc, ◌+◌, ◌<◌, ◌++◌, ◌∙◌, ap, sym, length, take, arith}
use Rattle.std.proofs.Common.{append-nil}
use Rattle.std.proofs.lemmas.List.{get_or_default}
use Rattle.ffv1_decode.specs.declared.column.Column.{Column}
use Rattle.ffv1_decode.specs.Internal.Stands.{told_by}
use Rattle.ffv1_decode.specs.Internal.Tied.{column_at, no_column}
use Rattle.ffv1_decode.specs.Internal.Tallies.{tally_over, both}
use Rattle.ffv1_decode.proofs.lemmas.columns.TalliesUp.{decided_is, upto_more, upto_all}
use Rattle.ffv1_decode.proofs.columns.add_up.Goals as goal

pub loop-k-init : goal.loop-k-init
loop-k-init c = λ t s is told. is ∙ ap (tally_over t) (sym (append-nil s.done))

pub loop-k-preserved : goal.loop-k-preserved
loop-k-preserved c = λ t s is told.
    let k = c.loop-k.k in
    let inside : k < length c.args.columns.now = omega arith in
    let next : suc k ≡ k + 1 = omega arith in
    let here : c.made.result ≡ told_by (column_at c.args.columns.now k).parked =
    c.made.ensures ∙ ap (λ (z : Column). told_by z.parked)
    (c.index-columns-k.is ∙ get_or_default c.args.columns.now k c.index-columns-k.result
    no_column inside) in
    let more = upto_more t c.args.columns.now s told k inside in
    let last : tally_over t (s.done ++ take (k + 1) s.columns) ≡ both
    (tally_over t (s.done ++ take k s.columns))
    (told_by (column_at c.args.columns.now k).parked) =
    ap (λ n. tally_over t (s.done ++ take n s.columns)) (sym next) ∙ more in
    c.with-tally.ensures ∙ ap (λ z. both z c.made.result) (c.loop-k.invariant t s is told) ∙
    ap (both (tally_over t (s.done ++ take k s.columns))) here ∙ sym last

pub returns : goal.returns
returns c = λ t s is told.
    let all : c.loop-k.k ≡ length c.args.columns.now = omega arith in
    decided_is c.each_step_is_one_or_zero.ensures.steps t s c.loop-k.tally
    (c.loop-k.invariant t s is told ∙ upto_all t c.args.columns.now s told c.loop-k.k all)
