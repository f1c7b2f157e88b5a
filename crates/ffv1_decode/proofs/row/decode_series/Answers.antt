-- Decodes the lines of planes that are coded together.
use Rattle.std.proofs.Common.{rules, ◌≡◌, ℕ, suc, ◌+◌, ◌-◌, ◌*◌, ◌<◌, ◌≤◌, ◌∙◌, ap, sym, subst}
use Rattle.std.proofs.Common.{refl, inl, inr, true}
use Rattle.std.proofs.Common.{length, take, drop, replicate, arith}
use Rattle.std.proofs.lemmas.Result.{err_from_is_err_and}
use Rattle.std.proofs.lemmas.List.{take-replicate, drop-replicate}
use Rattle.ffv1_record.specs.Configuration.{Configuration, is_rct}
use Rattle.ffv1_frame.specs.Order.{lines_down}
use Rattle.std.proofs.Math.Nat.{mul-le-mul_right}
use Rattle.ffv1_slice.specs.Grid.{division_of, down, shared_of}
use Rattle.ffv1_frame.specs.Picture.{plane_width}
use Rattle.ffv1_frame.specs.Decoding.{State}
use Rattle.ffv1_decode.specs.Internal.Tied.{TiedKept}
use Rattle.ffv1_decode.proofs.lemmas.row.KeptSeries.{line_kept, line_tied, series_last}
use Rattle.ffv1_decode.specs.Internal.Progress.{LinesDecoded}
use Rattle.ffv1_decode.proofs.lemmas.row.KeptBuffers.{slices_kept}
use Rattle.ffv1_decode.proofs.lemmas.finish.LineFinished.{rct_is}
use Rattle.ffv1_decode.proofs.lemmas.row.SeriesDecodes.{lines_alike, planes_any, none_decoded, one_decoded}
use Rattle.ffv1_decode.proofs.lemmas.row.SeriesDecodes.{one_fails, all_kept}
use Rattle.ffv1_decode.proofs.row.decode_series.Given.{Over}
use Rattle.ffv1_decode.proofs.row.decode_series.Goals.{After-cell_down-cell, After-kept_at}
use Rattle.ffv1_decode.proofs.row.decode_series.Goals as goal

-- the row has the lines of its cells
height_is : (g : Over) (c : After-cell_down-cell g) → c.cell_down-cell.result.1 ≡
    lines_down c.args.planes.now.frame.now.checked.now.configuration c.args.planes.now.first
    c.args.planes.now.row
height_is g c = rw c.requires.row.frame.grid at c.cell_down-cell.ensures.coded

-- the cells begin at or before what is their own
pub overflow_sub-shared : goal.overflow_sub-shared
overflow_sub-shared g c =
    let conf = c.args.planes.now.frame.now.checked.now.configuration in
    let are = c.slices_lie_beside_one_another.ensures.down conf
    c.args.planes.now.frame.now.checked.now.table
    c.args.planes.now.first c.requires.row.frame.accepted in
    let first = rw c.requires.row.frame.grid at c.cell_down-cell.ensures.first in
    let top = rw c.requires.row.frame.grid at c.top.ensures in
    omega (arith, first, top, are.begins c.args.planes.now.row c.requires.row.row)

pub loop-y-init : goal.loop-y-init
loop-y-init g c =
    let a = c.args.planes.now.frame.now.checked.now in
    let conf = a.configuration in
    let p = c.args.planes.now.first in
    let payload = c.args.planes.now.frame.now.payload.now in
    let takes = g.S.LineSink.takes in
    let refuses = g.S.LineSink.refuses in
    let size = c.args.planes.now.count * c.config.result.now.width in
    let size_is : size ≡ c.args.planes.now.count * conf.width =
    ap (λ (z : Configuration). c.args.planes.now.count * z.width)
    (sym c.config.ensures.value) in
    let all = length c.args.lines.now in
    let long : all ≡ 3 * size = c.requires.lines_long ∙ ap (λ n. 3 * n) (sym size_is) in
    let samples = g.W.Word.samples in
    let law = g.met.W.Word in
    let two = samples c.split_at_mut-two.result.0.now in
    let one = samples c.split_at_mut-one.result.0.now in
    let two_is : two ≡ replicate size 0 = ap samples c.split_at_mut-two.ensures.front ∙ law.takes
    size _ ∙ ap (take size) c.clear.ensures ∙ take-replicate size all 0 (omega (arith, long)) in
    let rest_is : samples c.split_at_mut-two.result.1.now ≡ replicate (all - size) 0 = ap samples
    c.split_at_mut-two.ensures.back ∙ law.drops size _ ∙ ap (drop size) c.clear.ensures ∙
    drop-replicate size all 0 in
    let one_is : one ≡ replicate size 0 = ap samples c.split_at_mut-one.ensures.front ∙ law.takes
    size _ ∙ ap (take size) rest_is ∙ take-replicate size (all - size) 0
    (omega (arith, long)) in
    record {
      long = record {
        two = c.split_at_mut-two.ensures.front_len ∙ size_is;
        one = c.split_at_mut-one.ensures.front_len ∙ size_is;
        cur = omega (
          arith,
          c.split_at_mut-one.ensures.back_len,
          c.split_at_mut-two.ensures.back_len,
          c.clear.auto.lines,
          long,
          size_is,
        );
      };
      same = record {
        columns = refl;
        states = refl;
        columns_capacity = refl;
        states_capacity = refl;
      };
      row = c.requires.row;
      counted = refl;
      lines = λ coded initial s tied kept grows.
          none_decoded takes refuses a coded initial c.args.planes.now.row payload p
          c.args.planes.now.count s c.args.slices.now.columns.items
          c.args.slices.now.states.items size two one c.args.sink.now
          c.reading_its_rows_reads_the_cell.ensures.top
          (λ q. c.slices_lie_beside_one_another.ensures.across conf a.table q
          c.requires.row.frame.accepted) two_is one_is size_is tied grows;
    }

-- of a line that the row above codes, what is kept is there
module _ (g : Over) (c : After-kept_at g) where
  shared_is : c.top.result - c.cell_down-cell.result.0 ≡ shared_of (down (division_of
      c.args.planes.now.frame.now.checked.now.configuration) c.args.planes.now.first)
      c.args.planes.now.row
  shared_is =
      let first = rw c.requires.row.frame.grid at c.cell_down-cell.ensures.first in
      let top = rw c.requires.row.frame.grid at c.top.ensures in
      omega (arith, first, top)

  flat : is_rct c.args.planes.now.frame.now.checked.now.configuration.colour ≡ true →
      c.args.planes.now.frame.now.checked.now.configuration.log2_v ≡ 0
  flat e =
      let a = c.args.planes.now.frame.now.checked.now in
      (c.accepted_configuration_has_sound_parts.ensures.rct a.configuration a.table
      c.requires.row.frame.accepted (rct_is a.configuration.colour e)).2

  kept_is : c.loop-y.y < shared_of (down (division_of
      c.args.planes.now.frame.now.checked.now.configuration) c.args.planes.now.first)
      c.args.planes.now.row →
      g.W.Word.samples c.kept_at.result.now ≡ g.W.Word.samples c.args.kept.now
  kept_is less = ap g.W.Word.samples (c.kept_at.ensures.yes (omega (arith, less, shared_is)))

  tied_next : (s t : State) → t.done ≡ s.done → ((i y : ℕ) → i < c.args.planes.now.count → TiedKept
      c.args.planes.now.frame.now.checked.now.configuration c.args.planes.now.row
      (c.args.planes.now.first + i) y (g.W.Word.samples c.args.kept.now) s) →
      (i : ℕ) → i < c.args.planes.now.count → TiedKept
      c.args.planes.now.frame.now.checked.now.configuration c.args.planes.now.row
      (c.args.planes.now.first + i) c.loop-y.y (g.W.Word.samples c.kept_at.result.now) t
  tied_next s t done was i less =
      line_tied c.args.planes.now.frame.now.checked.now.configuration c.args.planes.now.first
      c.args.planes.now.count c.args.planes.now.row c.requires.planes.together flat
      c.requires.row.row i
      c.loop-y.y (g.W.Word.samples c.kept_at.result.now) (g.W.Word.samples c.args.kept.now) s t
      less done kept_is (was i c.loop-y.y less)

pub decode_whole_line-requires-clause-kept : goal.decode_whole_line-requires-clause-kept
decode_whole_line-requires-clause-kept g c = λ i h.
    let here = (goal.at.decode_whole_line-requires-clause-kept g c).After-kept_at in
    let shared = shared_is g here in
    line_kept c.args.planes.now.frame.now.checked.now.configuration c.args.planes.now.first
    c.args.planes.now.count c.args.planes.now.row c.requires.planes.together (flat g here)
    c.requires.row.row i c.loop-y.y (length c.args.kept.now) (length c.kept_at.result.now) h
    (c.requires.kept i h)
    (λ less. ap length (c.kept_at.ensures.yes (omega (arith, less, shared))))
    (λ apart. c.kept_at.ensures.no (omega (arith, apart, shared)))

pub decode_whole_line-requires-clause-row : goal.decode_whole_line-requires-clause-row
decode_whole_line-requires-clause-row g c = c.loop-y.invariant.row

pub decode_whole_line-requires-clause-long : goal.decode_whole_line-requires-clause-long
decode_whole_line-requires-clause-long g c = c.loop-y.invariant.long

pub decode_whole_line-requires-clause-line : goal.decode_whole_line-requires-clause-line
decode_whole_line-requires-clause-line g c =
    let conf = c.args.planes.now.frame.now.checked.now.configuration in
    let p = c.args.planes.now.first in
    let r = c.args.planes.now.row in
    let at = goal.at.decode_whole_line-requires-clause-line g c in
    let height_is = height_is g at.After-cell_down-cell in
    let inside : c.loop-y.y < lines_down conf p r = omega (arith, height_is) in
    let shared_is = shared_is g at.After-kept_at in
    let flat = flat g at.After-kept_at in
    record {
      planes = c.requires.planes;
      shared = omega (arith, shared_is);
      y = λ i h.
          let same = lines_alike conf p c.args.planes.now.count i r c.requires.planes.together flat
          h in
          omega (arith, same, inside);
      height = λ i h.
          let same = lines_alike conf p c.args.planes.now.count i r c.requires.planes.together flat
          h in
          omega (arith, same, height_is);
    }

pub returns-in_err-decode_whole_line-clause-exact :
    goal.returns-in_err-decode_whole_line-clause-exact
returns-in_err-decode_whole_line-clause-exact g c = λ coded initial s tied kept grows.
    let a = c.args.planes.now.frame.now.checked.now in
    let conf = a.configuration in
    let p = c.args.planes.now.first in
    let payload = c.args.planes.now.frame.now.payload.now in
    let two = g.W.Word.samples c.loop-y.two.now in
    let one = g.W.Word.samples c.loop-y.one.now in
    let cur = g.W.Word.samples c.loop-y.cur.now in
    let takes = g.S.LineSink.takes in
    let refuses = g.S.LineSink.refuses in
    let height_is = height_is g (goal.at.returns-in_err-decode_whole_line-clause-exact g
    c).After-cell_down-cell in
    let before = c.loop-y.invariant.lines coded initial s tied kept grows in
    let planes = planes_any conf p c.args.planes.now.count c.loop-y.y two one one cur before.state
    before.planes_are in
    let made = c.in_err-decode_whole_line.ensures.exact coded (p + c.args.planes.now.count)
    before.state (omega arith) before.columns_are planes
    (tied_next g (goal.at.returns-in_err-decode_whole_line-clause-exact g c).After-kept_at s
    before.state before.kept.done kept) initial before.grows in
    let inside : c.loop-y.y < lines_down conf p c.args.planes.now.row = omega (arith, height_is) in
    let stop = err_from_is_err_and c.from_residual.result c.from_residual.ensures.1 in
    rw (stop.1, stop.2) (one_fails takes refuses a coded initial c.args.planes.now.row payload p
    c.args.planes.now.count s c.loop-y.y c.loop-y.slices.columns.items
    c.loop-y.slices.states.items two one c.loop-y.sink before
    (lines_down conf p c.args.planes.now.row) c.decode_whole_line.new.slices.columns.items
    c.in_err-decode_whole_line.field-0.0 c.decode_whole_line.new.sink inside made)

pub loop-y-preserved : goal.loop-y-preserved
loop-y-preserved g c =
    let a = c.args.planes.now.frame.now.checked.now in
    let conf = a.configuration in
    let p = c.args.planes.now.first in
    let payload = c.args.planes.now.frame.now.payload.now in
    let two = g.W.Word.samples c.loop-y.two.now in
    let one = g.W.Word.samples c.loop-y.one.now in
    let cur = g.W.Word.samples c.loop-y.cur.now in
    let takes = g.S.LineSink.takes in
    let refuses = g.S.LineSink.refuses in
    record {
      long = record { two = search rules; one = search rules; cur = search rules };
      same = slices_kept c.in_ok-decode_whole_line.ensures.same c.loop-y.invariant.same;
      row = c.in_ok-decode_whole_line.ensures.row;
      counted = c.in_ok-decode_whole_line.ensures.counted ∙ c.loop-y.invariant.counted;
      lines = λ coded initial s tied kept grows.
          let before = c.loop-y.invariant.lines coded initial s tied kept grows in
          let planes = planes_any conf p c.args.planes.now.count c.loop-y.y two one one cur
          before.state before.planes_are in
          let made = c.in_ok-decode_whole_line.ensures.exact coded (p + c.args.planes.now.count)
          before.state (omega arith) before.columns_are planes
          (tied_next g (goal.at.loop-y-preserved g c).After-kept_at s before.state before.kept.done
          kept) initial before.grows in
          let next : suc c.loop-y.y ≡ c.loop-y.y + 1 = omega arith in
          subst (λ n. LinesDecoded takes refuses a coded initial c.args.planes.now.row
          (p + c.args.planes.now.count) payload p c.args.planes.now.count n
          c.decode_whole_line.new.slices.columns.items
          c.decode_whole_line.new.slices.states.items one
          (g.W.Word.samples c.decode_whole_line.new.cur) c.decode_whole_line.new.sink s) next
          (one_decoded takes refuses a coded initial c.args.planes.now.row payload p
          c.args.planes.now.count s c.loop-y.y c.loop-y.slices.columns.items
          c.loop-y.slices.states.items two one c.loop-y.sink before
          c.decode_whole_line.new.slices.columns.items
          c.decode_whole_line.new.slices.states.items
          (g.W.Word.samples c.decode_whole_line.new.cur) c.decode_whole_line.new.sink made);
    }

pub returns-clause-exact : goal.returns-clause-exact
returns-clause-exact g c = λ coded initial s tied kept grows.
    let a = c.args.planes.now.frame.now.checked.now in
    let conf = a.configuration in
    let p = c.args.planes.now.first in
    let payload = c.args.planes.now.frame.now.payload.now in
    let two = g.W.Word.samples c.loop-y.two.now in
    let one = g.W.Word.samples c.loop-y.one.now in
    let takes = g.S.LineSink.takes in
    let refuses = g.S.LineSink.refuses in
    let height_is = height_is g (goal.at.returns-clause-exact g c).After-cell_down-cell in
    let before = c.loop-y.invariant.lines coded initial s tied kept grows in
    let all : c.loop-y.y ≡ lines_down conf p c.args.planes.now.row = omega (arith, height_is) in
    let law = g.met.W.Word in
    let kept_is : g.W.Word.samples c.keep.new.kept ≡ take (length c.args.kept.now) one =
    c.keep.ensures in
    let long : length (g.W.Word.samples c.keep.new.kept) ≡ length c.args.kept.now =
    law.lengths c.keep.new.kept ∙ c.keep.auto.kept in
    let first : p + 0 ≡ p = omega arith in
    let are = c.slices_lie_beside_one_another.ensures.across conf a.table p
    c.requires.row.frame.accepted in
    let high = (c.slices_lie_beside_one_another.ensures.down conf a.table p
    c.requires.row.frame.accepted).some c.args.planes.now.row c.requires.row.row in
    all_kept takes refuses a coded initial c.args.planes.now.row payload p
    c.args.planes.now.count s c.loop-y.y c.loop-y.slices.columns.items
    c.loop-y.slices.states.items two one c.loop-y.sink before all
    (g.W.Word.samples c.keep.new.kept)
    (λ some.
    let wide : length c.args.kept.now ≡ plane_width conf p =
    elim (c.requires.kept 0 c.requires.planes.some) [
      | inl none ↦ absurd (omega (arith, some, long, none.0))
      | inr wide ↦ wide ∙ ap (plane_width conf) first
    ] in
    series_last conf c.args.planes.now.row p c.args.planes.now.count c.loop-y.y
    (length c.args.kept.now) two one (g.W.Word.samples c.keep.new.kept) before.state are high
    c.requires.planes.some all before.planes_are wide kept_is)

pub keep-requires : goal.keep-requires
keep-requires g c =
    let a = c.args.planes.now.frame.now.checked.now in
    let conf = a.configuration in
    let p = c.args.planes.now.first in
    let first : p + 0 ≡ p = omega arith in
    let some : 1 * conf.width ≤ c.args.planes.now.count * conf.width =
    mul-le-mul_right {m = 1} {n = c.args.planes.now.count} conf.width c.requires.planes.some in
    let fits = (c.slices_lie_beside_one_another.ensures.across conf a.table p
    c.requires.row.frame.accepted).fits in
    let few : length c.args.kept.now ≤ conf.width =
    elim (c.requires.kept 0 c.requires.planes.some) [
      | inl none ↦ omega (arith, none.0)
      | inr wide ↦ let wide = wide ∙ ap (plane_width conf) first in omega (arith, wide, fits)
    ] in
    omega (arith, few, some, c.loop-y.invariant.long.one)
