-- The entries of a table, each raised by the greatest.
use Rattle.std.proofs.Common.{◌≡◌, arith}
use Rattle.ffv1_plane.proofs.Levels.{Stands, filled_from, half_room, stayed, advanced, level-le}
use Rattle.ffv1_plane.proofs.Levels.{raised_more, raised_all}
use Rattle.ffv1_plane.proofs.table.raise.Goals as goal
use Rattle.ffv1_plane.proofs.table.raise.Goals.{then-k-end, else-k-end}

pub overflow_cast-half : goal.overflow_cast-half
overflow_cast-half c = let filled = filled_from c.args.runs.now c.requires.filled in omega arith

-- where place k stands, whichever branch ran
stands : (c : goal.After-row_known-1) → Stands c.args.runs.now c.args.scale c.loop-k.k
    c.if-k-end.run c.if-k-end.end c.if-k-end.level
stands c =
    let filled = filled_from c.args.runs.now c.requires.filled in
    let so_far = c.loop-k.invariant in
    elim c.if-k-end.branch [
      | then-k-end w ↦ rw (w.run-is, w.end-is, w.level-is)
          (advanced c.args.runs.now c.args.scale c.loop-k.k c.loop-k.run c.loop-k.end c.loop-k.level
          filled c.loop-k-test.true so_far.inside w.if-k-end.true so_far.ends so_far.level)
      | else-k-end w ↦ rw (w.run-is, w.end-is, w.level-is)
          (stayed c.args.runs.now c.args.scale c.loop-k.k c.loop-k.run c.loop-k.end c.loop-k.level
          so_far.inside so_far.before so_far.behind w.if-k-end.false so_far.ends so_far.level)
    ]

pub overflow_add-raised : goal.overflow_add-raised
overflow_add-raised c =
    let most = level-le _ _ _ _ _ _ (stands c) in
    let room = half_room _ _ (filled_from c.args.runs.now c.requires.filled).some c.requires.room in
    omega arith

pub overflow_sub-raised : goal.overflow_sub-raised
overflow_sub-raised c = level-le _ _ _ _ _ _ (stands c)

pub loop-k-preserved : goal.loop-k-preserved
loop-k-preserved c =
    let here = stands c in
    record {
      inside = here.inside;
      before = omega arith;
      behind = omega arith;
      ends = here.ends;
      level = here.levels;
      raised = raised_more _ _ _ _ _ _ _ _ c.loop-k.auto.k c.loop-k-test.true
          c.loop-k.invariant.raised here;
    }

pub returns : goal.returns
returns c =
    let filled = filled_from c.args.runs.now c.requires.filled in
    let so_far = c.loop-k.invariant in
    let all : c.loop-k.k ≡ 128 = omega arith in
    raised_all _ _ _ _ _ _ filled c.requires.filled c.requires.room (rw all at so_far.raised)
    so_far.inside (rw all at so_far.before) (rw all at so_far.behind) so_far.ends so_far.level
