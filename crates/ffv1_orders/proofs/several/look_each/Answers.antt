-- Looks at each of several files, in order and after a line of its path, until a line cannot be
-- printed; a refusal is one line on standard error, with the path.
use Rattle.std.proofs.Common.{rules, ◌≢◌, ◌<◌, Err, arith, length}
use Rattle.std.proofs.lemmas.Result.{err_from_is_err_and}
use Rattle.ffv1_orders.specs.Looked.{LooksNamed, unprinted}
use Rattle.ffv1_orders.proofs.Looked.{looks_last, looks_more, none_yet, status_small, stops_at}
use Rattle.ffv1_orders.proofs.several.look_each.Goals as goal

pub loop-path-init : goal.loop-path-init
loop-path-init g c = none_yet (LooksNamed g.L.Looks.names g.L.Looks.looks) c.args.looker.now
    c.args.paths.now

pub loop-path-preserved : goal.loop-path-preserved
loop-path-preserved g c =
    let looks = LooksNamed g.L.Looks.names g.L.Looks.looks in
    let o = c.look_named-done.result in
    let few : c.loop-path.path-index < length c.args.paths.now = omega arith in
    let printed : o ≢ Err unprinted = λ is. search
    (rules, c.is_unprinted.ensures.1 is, c.if-is_unprinted.false) in
    let status = c.status_after-status.ensures in
    looks_more looks _ o c.loop-path.invariant few c.look_named-done.ensures.look status.ok
    status.refused printed

pub returns-in_err-tell_outcome-clause-err : goal.returns-in_err-tell_outcome-clause-err
returns-in_err-tell_outcome-clause-err g c =
    let looks = LooksNamed g.L.Looks.names g.L.Looks.looks in
    let refused = c.in_err-tell_outcome.ensures in
    let few : c.loop-path.path-index < length c.args.paths.now = omega arith in
    let p = err_from_is_err_and c.from_residual.result c.from_residual.ensures.1 in
    let stops = stops_at looks _ c.look_named-done.result c.loop-path.invariant few
    c.look_named-done.ensures.look in
    rw p.1 (c.loop-path.invariant.outcomes, c.look_named-done.result, refused, stops)

pub returns-then-is_unprinted-clause-ok : goal.returns-then-is_unprinted-clause-ok
returns-then-is_unprinted-clause-ok g c =
    let looks = LooksNamed g.L.Looks.names g.L.Looks.looks in
    let few : c.loop-path.path-index < length c.args.paths.now = omega arith in
    let is = c.is_unprinted.ensures.0 c.if-is_unprinted.true in
    looks_last looks _ c.look_named-done.result c.loop-path.invariant few
    c.look_named-done.ensures.look c.status_after-status.ensures.refused is

pub returns-after-loop-path-clause-small : goal.returns-after-loop-path-clause-small
returns-after-loop-path-clause-small g c = status_small (LooksNamed g.L.Looks.names g.L.Looks.looks)
    c.loop-path.invariant
