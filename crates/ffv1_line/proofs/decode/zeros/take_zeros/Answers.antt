-- The places of a block from `start` to before its last, as long as they go on and their symbols
-- are zeros: the sample to the left comes again at each.
use mathlib.Core.Bool.{not}
use lib.Dec.{eqb}
use Rattle.std.proofs.Common.{refl, ℕ, ◌≡◌, ◌+◌, ◌-◌, ◌*◌, ◌<◌, length, get_or, slice_set, arith}
use Rattle.std.proofs.Common.{◌∙◌}
use Rattle.std.proofs.lemmas.List.{set-set, get_or-set_same}
use Rattle.ffv1_line.proofs.lemmas.cell.Rows.{same_from_next}
use Rattle.ffv1_line.proofs.lemmas.decode.EqualNeighbours.{left_next, top_here, top_next, shares_on, equal_next}
use Rattle.ffv1_line.proofs.lemmas.decode.EqualNeighbours.{equal_behind}
use Rattle.ffv1_line.proofs.lemmas.decode.Zeros.{zeros_by_none}
use Rattle.ffv1_line.specs.Internal.Places.{GoesOn, above_of, kept_apart}
use Rattle.ffv1_line.proofs.decode.zeros.take_zeros.Goals as goal

pub loop-at-init : goal.loop-at-init
loop-at-init g c = record {
  held = c.requires.may.held;
  same = refl;
  left = c.requires.may.left;
  top = λ is. c.requires.may.top;
  begins = c.requires.may.begins;
  shares = λ size shares. shares;
  read = λ size shares. zeros_by_none c.args.places.now size c.args.start
      (kept_apart c.args.decoder.now c.args.state.now c.args.cur.now);
}

pub loop-at-preserved : goal.loop-at-preserved
loop-at-preserved g c =
    let p = c.args.places.now in
    let run = not (eqb g.row.RUN 0) in
    let may = c.requires.may in
    let filled = may.places.filled in
    let i : ℕ = c.loop-at.at in
    let x : ℕ = p.from + i in
    let more : p.from + (i + 1) ≡ x + 1 = omega arith in
    let inside : i + 1 < p.count = omega arith in
    let here : i < p.count = omega arith in
    let wide : length p.one.now ≡ length c.loop-at.cur = omega (arith, may.long) in
    let within : x < length c.loop-at.cur = omega (arith, may.places.within, wide) in
    let kept = c.loop-at.invariant in
    let on : GoesOn run p.early.now (get_or p.early.now.sum c.args.start 0) c.loop-at.behind.l i =
    c.goes_on.ensures c.if-not-goes_on.false in
    let top : get_or p.early.now.t i 0 ≡ c.loop-at.behind.l = top_here run p.early.now _ _ i
    kept.top on in
    record {
      held = c.take_zero.ensures.held;
      same = kept.same;
      left = left_next p.set.now p.two.now p.one.now p.from p.early.now p.count i filled inside ∙
          top;
      top = top_next run p.early.now _ _ i on;
      begins = equal_behind p.set.now (above_of p) c.loop-at.cur p.from p.count i p.early.now _ _
          filled here within wide kept.begins;
      shares = λ size shares. shares_on run p c.args.start c.loop-at.behind c.loop-at.behind.l size
          refl (kept.shares size shares);
      read = λ size shares. record {
        by = λ states fits is.
            let zeros = (kept.read size shares).by states fits is in
            record {
              least = omega (arith, zeros.least);
              read = λ nonzeros few.
                  let read = zeros.read nonzeros few in
                  let slot : ℕ = size * 32 in
                  let state : get_or (slice_set states slot c.loop-at.state) slot 0 ≡
                  c.loop-at.state = get_or-set_same states slot c.loop-at.state 0 fits in
                  let follows = rw (set-set states slot c.loop-at.state c.take_zero.new.state) at
                  (c.take_zero.ensures.follows c.if-not-take_zero.false
                  (slice_set states slot c.loop-at.state) slot i nonzeros state
                  (omega (arith, zeros.least))) in
                  record {
                    on = λ before on. rw more (same_from_next _ _ _ _ (read.on before on));
                    lined = λ first lined. equal_next run p c.args.start i c.loop-at.behind size _ _
                        _ c.loop-at.cur may.places inside wide kept.left top on
                        (rw (← kept.same) at may.again) (kept.shares size shares) kept.begins
                        (read.lined first lined) follows;
                  };
            };
      };
    }

pub returns : goal.returns
returns g c =
    let most = c.loop-at.auto.at-end (omega (arith, c.requires.may.inside)) in
    let end : c.args.places.now.count - 1 ≡ c.loop-at.at =
    omega (arith, c.requires.may.inside, most) in
    record {
      inside = omega (arith, c.requires.may.inside);
      begins = rw end c.loop-at.invariant.begins;
      read = λ size shares. rw end (c.loop-at.invariant.read size shares);
      held = c.loop-at.invariant.held;
    }
