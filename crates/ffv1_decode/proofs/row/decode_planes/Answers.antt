-- Decodes the planes of a row, one after the other, or for RCT together.
use Rattle.std.proofs.Common.{◌≡◌, ℕ, ◌+◌, ◌-◌, ◌*◌, ◌<◌, ◌≤◌, ◌++◌, ◌∙◌, ap, sym, subst, true}
use Rattle.std.proofs.Common.{false, length}
use Rattle.std.proofs.Common.{List, take, drop, refl, inl, arith}
use Rattle.ffv1_slice.specs.Grid.{division_of, across}
use Rattle.ffv1_decode.specs.Internal.Finished.{AreTogether}
use Rattle.ffv1_decode.specs.Internal.Places.{AreParts}
use Rattle.ffv1_frame.proofs.lemmas.laws.decoding.LastLine.{planes_some}
use Rattle.ffv1_decode.proofs.lemmas.finish.LineFinished.{rct_is}
use Rattle.std.proofs.lemmas.Result.{err_from_is_err_and, MatchResult-weaker}
use Rattle.ffv1_record.specs.Configuration.{Configuration, is_rct}
use Rattle.ffv1_frame.specs.Picture.{plane_count}
use Rattle.ffv1_decode.proofs.lemmas.row.KeptBuffers.{slices_kept}
use Rattle.ffv1_decode.proofs.lemmas.row.PlanesDecodes.{together_decoded, together_fails, plane_kept}
use Rattle.ffv1_decode.proofs.lemmas.row.PlanesDecodes.{plane_fails, planes_kept}
use Rattle.ffv1_frame.specs.Picture.{plane_width}
use Rattle.ffv1_frame.specs.Decoding.{State}
use Rattle.ffv1_decode.specs.Internal.Tied.{TiedKept, line_length}
use Rattle.ffv1_decode.specs.Internal.Shared.{AreAbove, IsChroma, KeepsChroma, KeepsLine}
use Rattle.ffv1_decode.specs.Internal.Shared.{kept_in}
use Rattle.ffv1_decode.proofs.lemmas.WordLines.{piece_long, window_samples, put_samples}
use Rattle.ffv1_frame.proofs.lemmas.WrittenParts.{put, put_long}
use Rattle.ffv1_decode.proofs.lemmas.row.KeptPlanes.{planes_few, together_long, line_new, line_old, last_more}
use Rattle.ffv1_decode.proofs.lemmas.row.KeptPlanes.{length_apart, length_together, kept_behind, kept_before}
use Rattle.ffv1_decode.proofs.lemmas.row.KeptPlanes.{line_of_rct, tied_part, part_is}
use Rattle.ffv1_decode.proofs.row.decode_planes.Given.{Over}
use Rattle.ffv1_decode.proofs.row.decode_planes.Goals.{After-planes-planes, In-YCbCr}
use Rattle.ffv1_decode.proofs.row.decode_planes.Goals.{After-kept_range-from}
use Rattle.ffv1_decode.proofs.row.decode_planes.Goals.{After-split_at_mut-rolling}
use Rattle.ffv1_decode.proofs.row.decode_planes.Goals as goal

-- there are as many planes as the configuration has
planes_are : (g : Over) (c : After-planes-planes g) → c.planes-planes.result ≡ plane_count
    c.args.frame.now.checked.now.configuration
planes_are g c = rw c.requires.row.frame.grid at c.planes-planes.ensures

-- the colours are those of no RCT
no_rct : (g : Over) (c : In-YCbCr g) → is_rct c.args.frame.now.checked.now.configuration.colour
    ≡ false
no_rct g c = ap (λ (z : Configuration). is_rct z.colour) c.config-2.ensures.value ∙
    ap is_rct c.in-YCbCr.is

-- what is kept of the row above comes after them
kept_old : (g : Over) (c : After-split_at_mut-rolling g) (s : State) → AreAbove
    c.args.frame.now.checked.now.configuration c.args.row
    (kept_in c.args.frame.now.checked.now.configuration (g.W.Word.samples c.args.lines.now)) s →
    AreAbove c.args.frame.now.checked.now.configuration c.args.row
    (g.W.Word.samples c.split_at_mut-rolling.result.1.now) s
kept_old g c s above =
    let conf = c.args.frame.now.checked.now.configuration in
    let law = g.met.W.Word in
    let size = ap (λ n. 3 * n) (ap (λ (z : Configuration). z.width) (sym c.config.ensures.value)
    ∙ sym (length_apart conf (no_rct g (goal.at.After-split_at_mut-rolling g c).In-YCbCr))) in
    subst (λ xs. AreAbove conf c.args.row xs s)
    (kept_before g.W.Word.samples law.lengths law.drops law.joins conf
    (3 * c.config.result.now.width) c.args.lines.now c.split_at_mut-rolling.result.1.now
    c.split_at_mut-rolling.ensures.back size) above

-- the lines of planes that are coded together end there
size_apart : (g : Over) (c : In-YCbCr g) → 3 * c.config.result.now.width
    ≡ 3 * line_length c.args.frame.now.checked.now.configuration
size_apart g c = ap (λ n. 3 * n) (ap (λ (z : Configuration). z.width) (sym c.config.ensures.value)
    ∙ sym (length_apart c.args.frame.now.checked.now.configuration (no_rct g c)))

-- a plane has a line
wide : (conf : Configuration) → AreParts (across (division_of conf) 1) → 0 < conf.columns →
    0 < plane_width conf 1
wide conf are some =
    let one = are.some 0 some in
    let ends = are.ends 0 some in
    omega (arith, one, ends)

-- the plane that is read next, and where its line is kept
module _ (g : Over) (c : After-kept_range-from g) where
  abbrev conf : Configuration
  conf = c.args.frame.now.checked.now.configuration

  abbrev kept : List ℕ
  kept = g.W.Word.samples c.loop-plane.kept

  abbrev first : List ℕ
  first = g.W.Word.samples c.split_at_mut-rolling.result.1.now

  plane_inside : c.loop-plane.plane < plane_count conf
  plane_inside =
      omega (arith, planes_are g (goal.at.After-kept_range-from g c).After-planes-planes)

  lengths : length kept ≡ length c.loop-plane.kept
  lengths = g.met.W.Word.lengths c.loop-plane.kept

  keeps : KeepsChroma conf (length c.loop-plane.kept)
  keeps =
      let size = size_apart g (goal.at.After-kept_range-from g c).In-YCbCr in
      let long : length c.args.lines.now - 3 * line_length conf ≡ length c.loop-plane.kept =
      omega (arith, size, c.loop-plane.auto.kept, c.split_at_mut-rolling.ensures.back_len) in
      subst (KeepsChroma conf) long c.requires.lines.kept

  keeps_samples : KeepsChroma conf (length kept)
  keeps_samples = subst (KeepsChroma conf) (sym lengths) keeps

  some_wide : 0 < plane_width conf 1
  some_wide =
      let t = c.args.frame.now.checked.now.table in
      wide conf (c.slices_lie_beside_one_another.ensures.across conf t 1
      c.requires.row.frame.accepted)
      (c.accepted_configuration_is_in_range.ensures.columns conf t c.requires.row.frame.accepted).0

  abbrev from : ℕ
  from = c.kept_range-from.result.0

  abbrev upto : ℕ
  upto = c.kept_range-from.result.1

  range : 0 < length kept → IsChroma c.loop-plane.plane →
      (from ≡ (c.loop-plane.plane - 1) * plane_width conf 1)
      × (upto - from ≡ plane_width conf 1)
  range some = c.kept_range-from.ensures.chroma conf keeps (omega (arith, some, lengths))

  fits : from + (upto - from) ≤ length c.loop-plane.kept
  fits = omega (arith, c.kept_range-from.ensures.rises, c.kept_range-from.ensures.inside)

  part_long : length (take (upto - from) (drop from c.loop-plane.kept)) ≡ upto - from
  part_long = piece_long from (upto - from) c.loop-plane.kept fits

  tied : (s t : State) → AreAbove conf c.args.row first s → t.done ≡ s.done → (i y : ℕ) → i < 1 →
      TiedKept conf c.args.row (c.loop-plane.plane + i) y
      (g.W.Word.samples (take (upto - from) (drop from c.loop-plane.kept))) t
  tied s t above done i y less =
      let law = g.met.W.Word in
      let plane_is : c.loop-plane.plane ≡ c.loop-plane.plane + i = omega (arith, less) in
      let long : length first ≡ length kept =
      omega (
        arith,
        law.lengths c.split_at_mut-rolling.result.1.now,
        lengths,
        c.loop-plane.auto.kept,
      ) in
      let few : c.loop-plane.plane < 4 =
      omega (arith, plane_inside, planes_few conf.chroma_planes conf.extra_plane) in
      subst (λ p. TiedKept conf c.args.row p y
      (g.W.Word.samples (take (upto - from) (drop from c.loop-plane.kept))) t) plane_is
      (tied_part conf c.args.row c.loop-plane.plane y kept first
      (g.W.Word.samples (take (upto - from) (drop from c.loop-plane.kept))) s t keeps_samples few
      c.requires.row.row some_wide long
      (λ some is.
      let at = range some is in
      window_samples g.W.Word.samples law.takes law.drops law.joins from (upto - from)
      c.loop-plane.kept
      ∙ part_is conf c.loop-plane.plane from (upto - from) kept at.0 at.1
      ∙ c.loop-plane.invariant.todo (omega (arith, some, lengths)) c.loop-plane.plane is
      (omega arith))
      above done)

pub decode_series-requires-in-loop-plane-clause-planes :
    goal.decode_series-requires-in-loop-plane-clause-planes
decode_series-requires-in-loop-plane-clause-planes g c =
    let at = goal.at.decode_series-requires-in-loop-plane-clause-planes g c in
    let conf = c.args.frame.now.checked.now.configuration in
    let plane = plane_inside g at.After-kept_range-from in
    let few = planes_few conf.chroma_planes conf.extra_plane in
    record {
      together = subst (λ b. AreTogether b conf c.loop-plane.plane 1) (sym (no_rct g at.In-YCbCr))
          (refl, plane);
      inside = omega (arith, plane);
      some = omega arith;
      few = omega (arith, plane, few);
    }

pub decode_series-requires-in-loop-plane-clause-kept :
    goal.decode_series-requires-in-loop-plane-clause-kept
decode_series-requires-in-loop-plane-clause-kept g c = λ i less.
    let here = (goal.at.decode_series-requires-in-loop-plane-clause-kept g c).After-kept_range-from
    in
    let conf = c.args.frame.now.checked.now.configuration in
    let plane_is : c.loop-plane.plane ≡ c.loop-plane.plane + i = omega (arith, less) in
    subst (λ p. KeepsLine conf p (length (take
    (c.kept_range-from.result.1 - c.kept_range-from.result.0)
    (drop c.kept_range-from.result.0 c.loop-plane.kept)))) plane_is
    (subst (KeepsLine conf c.loop-plane.plane) (sym (part_long g here))
    (c.kept_range-from.ensures.line conf (keeps g here)))

pub returns-in_err-decode_series-in-YCbCr-clause-exact :
    goal.returns-in_err-decode_series-in-YCbCr-clause-exact
returns-in_err-decode_series-in-YCbCr-clause-exact g c = λ coded initial s tied_columns above grows.
    let a = c.args.frame.now.checked.now in
    let conf = a.configuration in
    let payload = c.args.frame.now.payload.now in
    let takes = g.S.LineSink.takes in
    let refuses = g.S.LineSink.refuses in
    let at = goal.at.returns-in_err-decode_series-in-YCbCr-clause-exact g c in
    let above = kept_old g at.After-split_at_mut-rolling s above in
    let before = c.loop-plane.invariant.planes coded initial s tied_columns above grows in
    let inside = plane_inside g at.After-kept_range-from in
    let p = err_from_is_err_and c.from_residual.result c.from_residual.ensures.1 in
    rw (p.1, p.2) (plane_fails takes refuses a coded initial c.args.row payload s c.loop-plane.plane
    c.loop-plane.slices.columns.items c.loop-plane.slices.states.items c.loop-plane.sink
    before.decoded
    c.decode_series-in-loop-plane.new.slices.columns.items
    c.in_err-decode_series-in-YCbCr.field-0.0 c.decode_series-in-loop-plane.new.sink
    (no_rct g at.In-YCbCr) inside
    (c.in_err-decode_series-in-YCbCr.ensures.exact coded initial before.decoded.state
    before.decoded.columns_are
    (λ i y less. tied g at.After-kept_range-from s before.decoded.state above
    before.decoded.kept.done i y less)
    before.decoded.grows))

pub loop-plane-init : goal.loop-plane-init
loop-plane-init g c = record {
  same = record {
    columns = refl;
    states = refl;
    columns_capacity = refl;
    states_capacity = refl;
  };
  row = c.requires.row;
  counted = refl;
  todo = λ some p is from. refl;
  planes = λ coded initial s tied above grows. record {
    decoded = record {
      state = s;
      runs = refl;
      columns_are = tied;
      kept = record { info = refl; done = refl };
      grows = grows;
    };
    last = λ some p is upto. absurd (omega (arith, upto));
  };
}

pub loop-plane-preserved : goal.loop-plane-preserved
loop-plane-preserved g c =
    let a = c.args.frame.now.checked.now in
    let conf = a.configuration in
    let payload = c.args.frame.now.payload.now in
    let takes = g.S.LineSink.takes in
    let refuses = g.S.LineSink.refuses in
    let law = g.met.W.Word in
    let at = goal.at.loop-plane-preserved g c in
    let here = at.After-kept_range-from in
    let q = c.loop-plane.plane in
    let from = c.kept_range-from.result.0 in
    let upto = c.kept_range-from.result.1 in
    let kept = g.W.Word.samples c.loop-plane.kept in
    let part = g.W.Word.samples c.decode_series-in-loop-plane.new.kept in
    let part_is : length part ≡ upto - from = law.lengths c.decode_series-in-loop-plane.new.kept
    ∙ c.decode_series-in-loop-plane.auto.kept ∙ part_long g here in
    let new_is = put_samples g.W.Word.samples law.takes law.drops law.joins from (upto - from)
    c.loop-plane.kept c.decode_series-in-loop-plane.new.kept in
    let rises = c.kept_range-from.ensures.rises in
    let inside : upto ≤ length kept =
    omega (arith, lengths g here, c.kept_range-from.ensures.inside) in
    let stays = line_old conf q from upto kept part (keeps_samples g here) rises inside part_is
    (range g here) c.kept_range-from.ensures.other in
    let written = line_new conf q from upto kept part (keeps_samples g here) rises inside part_is
    (range g here) c.kept_range-from.ensures.other in
    let long : length (put from (upto - from) kept part) ≡ length kept =
    put_long kept part from (upto - from) (omega (arith, rises, inside)) part_is in
    let size = sym (law.lengths (take from c.loop-plane.kept
    ++ (c.decode_series-in-loop-plane.new.kept
    ++ drop (upto - from) (drop from c.loop-plane.kept)))) ∙ ap length new_is ∙ long in
    record {
      same = slices_kept c.in_ok-decode_series-in-YCbCr.ensures.same c.loop-plane.invariant.same;
      row = c.in_ok-decode_series-in-YCbCr.ensures.row;
      counted = c.in_ok-decode_series-in-YCbCr.ensures.counted ∙ c.loop-plane.invariant.counted;
      todo = λ some p is least.
          let some : 0 < length c.loop-plane.kept =
          omega (arith, some, size, lengths g here) in
          rw new_is (stays (omega (arith, some, lengths g here)) p is
          (λ same. absurd (omega (arith, least, same)))
          ∙ c.loop-plane.invariant.todo some p is (omega (arith, least)));
      planes = λ coded initial s tied_columns above grows.
          let before = c.loop-plane.invariant.planes coded initial s tied_columns above grows in
          let made = c.in_ok-decode_series-in-YCbCr.ensures.exact coded initial
          before.decoded.state before.decoded.columns_are
          (λ i y less. tied g here s before.decoded.state above before.decoded.kept.done i y less)
          before.decoded.grows in
          let last = last_more takes refuses a coded initial c.args.row payload s
          c.requires.row.row
          (λ p. c.slices_lie_beside_one_another.ensures.down conf a.table p
          c.requires.row.frame.accepted) q _ c.loop-plane.slices.columns.items
          c.loop-plane.slices.states.items kept c.loop-plane.sink before
          (no_rct g at.In-YCbCr) (plane_inside g here)
          c.decode_series-in-loop-plane.new.slices.columns.items
          c.decode_series-in-loop-plane.new.slices.states.items
          (put from (upto - from) kept part) part c.decode_series-in-loop-plane.new.sink
          long made
          (λ some is. (written some is, part_is ∙ (range g here some is).1))
          (some_wide g here) stays in
          rw new_is (plane_kept takes refuses a coded initial c.args.row payload s q
          c.loop-plane.slices.columns.items c.loop-plane.slices.states.items
          c.loop-plane.sink before.decoded
          c.decode_series-in-loop-plane.new.slices.columns.items
          c.decode_series-in-loop-plane.new.slices.states.items
          (put from (upto - from) kept part)
          c.decode_series-in-loop-plane.new.sink made.decoded last);
    }

pub returns-in-Rct-clause-exact : goal.returns-in-Rct-clause-exact
returns-in-Rct-clause-exact g c = λ coded initial s tied above grows.
    let a = c.args.frame.now.checked.now in
    let conf = a.configuration in
    let payload = c.args.frame.now.payload.now in
    let takes = g.S.LineSink.takes in
    let refuses = g.S.LineSink.refuses in
    let law = g.met.W.Word in
    let e : is_rct conf.colour ≡ true = ap (λ (z : Configuration). is_rct z.colour)
    c.config-2.ensures.value ∙ ap is_rct c.in-Rct.is in
    let none = line_of_rct conf _ c.requires.lines.kept e in
    let chroma = (c.accepted_configuration_has_sound_parts.ensures.rct conf a.table
    c.requires.row.frame.accepted (rct_is conf.colour e)).0 in
    let count = planes_are g (goal.at.returns-in-Rct-clause-exact g c).After-planes-planes in
    let size = length_together conf e chroma in
    let long : length c.decode_series.new.lines ≡ 3 * line_length conf =
    together_long c.planes-planes.result (plane_count conf) c.config.result.now.width conf.width
    (line_length conf) (length c.decode_series.new.lines) count
    (ap (λ (z : Configuration). z.width) (sym c.config.ensures.value)) size
    (c.decode_series.auto.lines ∙ c.split_at_mut-together.ensures.front_len) in
    let behind = kept_behind g.W.Word.samples law.lengths law.drops law.joins conf
    c.decode_series.new.lines c.decode_series.new.kept long in
    let few : length (g.W.Word.samples c.decode_series.new.kept) ≡ 0 =
    omega (
      arith,
      none.0,
      law.lengths c.decode_series.new.kept,
      c.decode_series.auto.kept,
      c.decode_series.auto.lines,
      c.split_at_mut-together.ensures.back_len,
      c.split_at_mut-together.ensures.front_len,
      long,
    ) in
    let made = rw count at (c.decode_series.ensures.exact coded initial s tied
    (λ i y less shared. absurd (let apart = none.1 (0 + i) c.args.row c.requires.row.row in
    omega (arith, shared, apart))) grows) in
    MatchResult-weaker c.decode_series.result made
    (λ u done. record {
      decoded = together_decoded takes refuses a coded initial c.args.row payload s
          c.decode_series.new.slices.columns.items c.decode_series.new.slices.states.items
          c.decode_series.new.sink e done.decoded;
      last = rw behind (λ some. absurd (omega (arith, some, few)));
    })
    (λ f stopped. together_fails takes refuses a coded initial c.args.row payload s
    c.decode_series.new.slices.columns.items f c.decode_series.new.sink e stopped)

pub decode_series-requires-clause-planes : goal.decode_series-requires-clause-planes
decode_series-requires-clause-planes g c =
    let conf = c.args.frame.now.checked.now.configuration in
    let e : is_rct conf.colour ≡ true = ap (λ (z : Configuration). is_rct z.colour)
    c.config-2.ensures.value ∙ ap is_rct c.in-Rct.is in
    let count = planes_are g (goal.at.decode_series-requires-clause-planes g c).After-planes-planes
    in
    let least = planes_some conf in
    let most = planes_few conf.chroma_planes conf.extra_plane in
    record {
      together = subst (λ b. AreTogether b conf 0 c.planes-planes.result) (sym e) (refl, count);
      inside = omega (arith, count);
      some = omega (arith, count, least);
      few = omega (arith, count, most);
    }

pub decode_series-requires-clause-kept : goal.decode_series-requires-clause-kept
decode_series-requires-clause-kept g c = λ i less.
    let conf = c.args.frame.now.checked.now.configuration in
    let t = c.args.frame.now.checked.now.table in
    let e : is_rct conf.colour ≡ true = ap (λ (z : Configuration). is_rct z.colour)
    c.config-2.ensures.value ∙ ap is_rct c.in-Rct.is in
    let none = line_of_rct conf _ c.requires.lines.kept e in
    let chroma = (c.accepted_configuration_has_sound_parts.ensures.rct conf t
    c.requires.row.frame.accepted (rct_is conf.colour e)).0 in
    let count = planes_are g (goal.at.decode_series-requires-clause-kept g c).After-planes-planes in
    let long = together_long c.planes-planes.result (plane_count conf) c.config.result.now.width
    conf.width (line_length conf) (length c.split_at_mut-together.result.0.now) count
    (ap (λ (z : Configuration). z.width) (sym c.config.ensures.value))
    (length_together conf e chroma) c.split_at_mut-together.ensures.front_len in
    inl (
      omega (
        arith,
        none.0,
        long,
        c.split_at_mut-together.ensures.front_len,
        c.split_at_mut-together.ensures.back_len,
      ),
      none.1 (0 + i),
    )

pub returns-after-loop-plane-clause-exact : goal.returns-after-loop-plane-clause-exact
returns-after-loop-plane-clause-exact g c = λ coded initial s tied above grows.
    let a = c.args.frame.now.checked.now in
    let conf = a.configuration in
    let payload = c.args.frame.now.payload.now in
    let takes = g.S.LineSink.takes in
    let refuses = g.S.LineSink.refuses in
    let law = g.met.W.Word in
    let here = goal.at.returns-after-loop-plane-clause-exact g c in
    let above = kept_old g here.After-split_at_mut-rolling s above in
    let before = c.loop-plane.invariant.planes coded initial s tied above grows in
    let all : c.loop-plane.plane ≡ plane_count conf =
    omega (arith, planes_are g here.After-planes-planes) in
    let size = size_apart g here.In-YCbCr in
    let behind = kept_behind g.W.Word.samples law.lengths law.drops law.joins conf
    c.loop-plane.rolling c.loop-plane.kept
    (c.loop-plane.auto.rolling ∙ c.split_at_mut-rolling.ensures.front_len ∙ size) in
    rw behind (planes_kept takes refuses a coded initial c.args.row payload s c.loop-plane.plane
    c.loop-plane.slices.columns.items c.loop-plane.slices.states.items
    (g.W.Word.samples c.loop-plane.kept) c.loop-plane.sink before
    (no_rct g here.In-YCbCr) all)
