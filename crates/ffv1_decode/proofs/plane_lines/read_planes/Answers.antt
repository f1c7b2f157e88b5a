-- Reads a line: in each column, from the left, the segment of each plane.
use Rattle.std.proofs.Common.{◌≡◌, suc, ◌+◌, ◌*◌, ◌<◌, ◌≤◌, ap, subst, length, arith}
use Rattle.std.proofs.lemmas.Result.{err_from_is_err_and}
use Rattle.ffv1_frame.specs.Decoding.{State}
use Rattle.ffv1_decode.specs.Internal.Tied.{PlanesRead}
use Rattle.ffv1_frame.proofs.lemmas.Sizes.{part_apart}
use Rattle.ffv1_decode.proofs.lemmas.plane_lines.PlanesReads.{plane_more, column_done, planes_stopped, kept_stays}
use Rattle.ffv1_decode.proofs.plane_lines.read_planes.Goals as goal

pub read_at-requires-clause-segment : goal.read_at-requires-clause-segment
read_at-requires-clause-segment g c =
    let i = c.planes.index in
    let less : i < c.args.line.now.count = omega arith in
    record {
      column = omega (arith, c.requires.row.many);
      plane = omega (arith, less, c.requires.line.planes.inside);
      few = omega (arith, less, c.requires.line.planes.few);
      y = c.requires.line.y i less;
      height = c.requires.line.height i less;
    }

pub read_at-requires-clause-long : goal.read_at-requires-clause-long
read_at-requires-clause-long g c =
    let few : c.planes.index < c.args.line.now.count = omega arith in
    let part = part_apart c.planes.index c.args.line.now.count
    c.args.frame.now.checked.now.configuration.width few in
    let cur_long : length c.planes.cur ≡ length c.args.cur.now = omega arith in
    record {
      two = omega (arith, part, c.requires.long.two);
      one = omega (arith, part, c.requires.long.one);
      cur = omega (arith, part, cur_long, c.requires.long.cur);
    }

pub returns-in_err-read_at-clause-exact : goal.returns-in_err-read_at-clause-exact
returns-in_err-read_at-clause-exact g c = λ coded next s less tied lines kept.
    let a = c.args.frame.now.checked.now in
    let two = g.W.Word.samples c.args.above.now.two.now in
    let one = g.W.Word.samples c.args.above.now.one.now in
    let line = c.args.line.now in
    let k = c.columns.column in
    let i = c.planes.index in
    let before = c.planes.invariant.line coded next s less tied lines kept in
    let few : i < line.count = omega arith in
    let made = c.in_err-read_at.ensures.exact coded next before.state (omega (arith, less, few))
    before.columns_are (before.planes_are.todo i (omega arith) few)
    (kept_stays a.configuration line.row (line.first + i) line.y
    (g.W.Word.samples c.args.above.now.kept.now) s before.state
    (ap (λ (z : State). z.done) before.same) (kept i few)) in
    let p = err_from_is_err_and c.from_residual.result c.from_residual.ensures.1 in
    rw (p.1, p.2) (planes_stopped a coded line.row next c.args.frame.now.payload.now line.first
    line.count line.y s two one k i c.planes.columns c.read_at.new.columns c.planes.states
    (g.W.Word.samples c.planes.cur) c.in_err-read_at.field-0.0
    a.configuration.columns few (omega (arith, c.requires.row.many)) before made)

pub planes-preserved : goal.planes-preserved
planes-preserved g c =
    let a = c.args.frame.now.checked.now in
    let two = g.W.Word.samples c.args.above.now.two.now in
    let one = g.W.Word.samples c.args.above.now.one.now in
    let line = c.args.line.now in
    let k = c.columns.column in
    let i = c.planes.index in
    record {
      row = c.in_ok-read_at.ensures.row;
      line = λ coded next s less tied lines kept.
          let before = c.planes.invariant.line coded next s less tied lines kept in
          let few : i < line.count = omega arith in
          let made = c.in_ok-read_at.ensures.exact coded next before.state
          (omega (arith, less, few))
          before.columns_are (before.planes_are.todo i (omega arith) few)
          (kept_stays a.configuration line.row (line.first + i) line.y
          (g.W.Word.samples c.args.above.now.kept.now) s before.state
          (ap (λ (z : State). z.done) before.same) (kept i few)) in
          let cur_is = g.met.W.Word.lengths c.planes.cur in
          let cur_long : length c.planes.cur ≡ length c.args.cur.now = omega arith in
          let room : line.count * a.configuration.width ≤ length (g.W.Word.samples c.planes.cur) =
          omega (arith, cur_is, cur_long, c.requires.long.cur) in
          let more = plane_more a coded line.row next c.args.frame.now.payload.now line.first
          line.count line.y s two one k i c.planes.columns c.read_at.new.columns c.planes.states
          c.read_at.new.states
          (g.W.Word.samples c.planes.cur) (g.W.Word.samples c.read_at.new.cur) few
          (omega (arith, c.requires.row.many))
          (λ p. c.slices_lie_beside_one_another.ensures.across a.configuration a.table p
          c.requires.row.frame.accepted) room c.in_ok-read_at.ensures.beside before made in
          let at : suc i ≡ i + 1 = omega arith in
          subst (λ n. PlanesRead a coded line.row next c.args.frame.now.payload.now line.first
          line.count line.y k n c.read_at.new.columns c.read_at.new.states two one
          (g.W.Word.samples c.read_at.new.cur) s) at more;
    }

pub columns-preserved : goal.columns-preserved
columns-preserved g c =
    let a = c.args.frame.now.checked.now in
    let two = g.W.Word.samples c.args.above.now.two.now in
    let one = g.W.Word.samples c.args.above.now.one.now in
    let line = c.args.line.now in
    let k = c.columns.column in
    record {
      row = c.planes.invariant.row;
      line = λ coded next s less tied lines kept.
          let all : c.planes.index ≡ line.count = omega arith in
          let before = subst (λ n. PlanesRead a coded line.row next c.args.frame.now.payload.now
          line.first line.count line.y k n c.planes.columns c.planes.states two one
          (g.W.Word.samples c.planes.cur) s) all
          (c.planes.invariant.line coded next s less tied lines kept) in
          let done = column_done a coded line.row next c.args.frame.now.payload.now line.first
          line.count line.y s two one k c.planes.columns c.planes.states
          (g.W.Word.samples c.planes.cur) before in
          let at : suc k ≡ k + 1 = omega arith in
          subst (λ n. PlanesRead a coded line.row next c.args.frame.now.payload.now line.first
          line.count line.y n 0 c.planes.columns c.planes.states two one
          (g.W.Word.samples c.planes.cur) s) at done;
    }

pub returns-clause-exact : goal.returns-clause-exact
returns-clause-exact g c = λ coded next s less tied lines kept.
    let a = c.args.frame.now.checked.now in
    let two = g.W.Word.samples c.args.above.now.two.now in
    let one = g.W.Word.samples c.args.above.now.one.now in
    let line = c.args.line.now in
    let all : c.columns.column ≡ a.configuration.columns = omega (arith, c.requires.row.many) in
    subst (λ n. PlanesRead a coded line.row next c.args.frame.now.payload.now line.first line.count
    line.y n 0 c.columns.columns c.columns.states two one (g.W.Word.samples c.columns.cur) s)
    all
    (c.columns.invariant.line coded next s less tied lines kept)
