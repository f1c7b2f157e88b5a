-- `code_rows`: the same with given states and what they end in.
use Rattle.std.proofs.Common.{◌≡◌, ◌*◌, ◌∙◌, ap, [], false}
use Rattle.ffv1_range.specs.Interval.{Interval, interval_of, narrow}
use Rattle.ffv1_range.specs.History.{decisions_after}
use Rattle.ffv1_range.proofs.HistoryLemmas.{kept_is}
use Rattle.ffv1_plane.specs.Quantisation.{contexts_of}
use Rattle.ffv1_line.specs.Cell.{cell_of}
use Rattle.ffv1_line.proofs.lemmas.laws.Lengths.{cell_below}
use Rattle.ffv1_pack.specs.Plane.{plane_residuals, plane_steps}
use Rattle.ffv1_pack.proofs.PlaneCount.{plane_counted, plane_length}
use Rattle.ffv1_pack.proofs.plane.code_rows.Goals as goal

pub returns-clause-code : goal.returns-clause-code
returns-clause-code g c =
    let puts = rw (c.new-encoder.ensures, c.requires.fresh) at c.in_ok-encode_rows.ensures.ok in
    let below = cell_below c.args.set.now (cell_of c.args.plane.now.width
    c.args.plane.now.samples.now) 0 (plane_residuals c.args.set.now c.args.plane.now.width
    c.args.plane.now.height c.args.plane.now.samples.now) c.is_a_bounded_set.ensures.below in
    c.in_ok-code.ensures.fresh c.args.table.now (contexts_of c.args.set.now * 32) _
    (plane_steps c.args.set.now c.args.plane.now.width c.args.plane.now.height
    c.args.plane.now.samples.now) below puts

pub returns-clause-decisions : goal.returns-clause-decisions
returns-clause-decisions g c =
    let puts = rw c.new-encoder.ensures at c.in_ok-encode_rows.ensures.ok in
    c.decisions-decisions.ensures ∙ plane_counted c.args.set.now c.args.plane.now.width
    c.args.plane.now.height c.args.plane.now.samples.now _ c.requires.few puts.counts

pub returns-clause-residuals : goal.returns-clause-residuals
returns-clause-residuals g c =
    let puts = rw c.new-encoder.ensures at c.in_ok-encode_rows.ensures.ok in
    c.decisions-decisions.ensures ∙ plane_counted c.args.set.now c.args.plane.now.width
    c.args.plane.now.height c.args.plane.now.samples.now _ c.requires.few puts.counts
    ∙ plane_length c.args.set.now c.args.plane.now.width c.args.plane.now.height
    c.args.plane.now.samples.now

pub returns-clause-long : goal.returns-clause-long
returns-clause-long g c =
    let puts = rw (c.new-encoder.ensures, c.requires.fresh) at c.in_ok-encode_rows.ensures.ok in
    let steps = plane_steps c.args.set.now c.args.plane.now.width c.args.plane.now.height
    c.args.plane.now.samples.now in
    let below = cell_below c.args.set.now (cell_of c.args.plane.now.width
    c.args.plane.now.samples.now) 0 (plane_residuals c.args.set.now c.args.plane.now.width
    c.args.plane.now.height c.args.plane.now.samples.now) c.is_a_bounded_set.ensures.below in
    let kept = kept_is c.args.table.now (contexts_of c.args.set.now * 32) steps below in
    let interval : c.encode_rows.new.encoder.interval ≡ interval_of
    (decisions_after c.args.table.now [] steps) = puts.interval ∙ ap interval_of kept in
    c.in_ok-code.ensures.long ∙ ap (λ (i : Interval). (narrow i 129 false).count) interval
