-- Reads places up to one of context 0, or to the end of the row.
use Rattle.std.proofs.Common.{◌≡◌, ◌∙◌, refl, sym, ap, ◌+◌, ◌-◌, ◌==◌, false, arith, Err}
use Rattle.std.proofs.Common.{slice_index}
use Rattle.std.proofs.Common.{ne_eqb}
use Rattle.ffv1_plane.specs.Context.{size_of}
use Rattle.ffv1_line.specs.Beside.{beside}
use Rattle.ffv1_rice.specs.Kept.{state_at}
use Rattle.ffv1_rice.specs.Rows.{reading_of}
use Rattle.ffv1_rice.proofs.Rows.{beside_same}
use Rattle.ffv1_rice.proofs.RowPlaces.{plain_next, plain_refused}
use Rattle.ffv1_rice.proofs.RowSamples.{samples_next, samples_same}
use Rattle.ffv1_rice.proofs.row.read_scalars.Goals as goal

pub returns-in-Err-clause-refused : goal.returns-in-Err-clause-refused
returns-in-Err-clause-refused g c = λ start text index so.
    let below = c.args.below.now in
    let l = c.loop-at in
    let r = reading_of below.set.now below.depth below.two.now below.one.now start text in
    let at = size_of below.set.now (beside below.two.now below.one.now l.cur l.at) in
    let size : c.context_of-size.result.0 ≡ at = c.context_of-size.ensures.size ∙
    ap (size_of below.set.now) l.invariant.around in
    let other : (at == 0) ≡ false = ne_eqb at 0 (λ is. c.if-size-eq0.false (size ∙ is)) in
    plain_refused r l.cur c.read_seen.new.cur l.at index (state_at l.states) l.own c.in-Err.fault
    (l.invariant.read start text index so) l.invariant.inside other c.in-Err.ensures.agree
    (λ is. c.in-Err.ensures.ends (ap Err is)) (λ is. c.in-Err.ensures.bad (ap Err is))

pub returns-in-Err-clause-samples_before : goal.returns-in-Err-clause-samples_before
returns-in-Err-clause-samples_before g c = λ small.
    samples_same c.args.below.now.depth c.loop-at.at c.loop-at.cur c.read_seen.new.cur
    (c.loop-at.invariant.samples small) c.in-Err.ensures.agree

pub returns-then-at-cur-clause-ok : goal.returns-then-at-cur-clause-ok
returns-then-at-cur-clause-ok g c = λ start text index so.
    let below = c.args.below.now in
    let l = c.loop-at in
    let r = reading_of below.set.now below.depth below.two.now below.one.now start text in
    let at = size_of below.set.now (beside below.two.now below.one.now l.cur l.at) in
    let size : c.context_of-size.result.0 ≡ at = c.context_of-size.ensures.size ∙
    ap (size_of below.set.now) l.invariant.around in
    let other : (at == 0) ≡ false = ne_eqb at 0 (λ is. c.if-size-eq0.false (size ∙ is)) in
    plain_next r l.cur c.read_seen.new.cur l.at index (state_at l.states)
    (state_at c.read_seen.new.states) l.own c.read_seen.new.bits
    (l.invariant.read start text index so) other c.in-Ok.ensures.agree c.in-Ok.ensures.ok

pub returns-then-at-cur-clause-samples : goal.returns-then-at-cur-clause-samples
returns-then-at-cur-clause-samples g c = λ small.
    samples_next c.args.below.now.depth c.loop-at.at c.loop-at.cur c.read_seen.new.cur
    (c.loop-at.invariant.samples small) c.in-Ok.ensures.agree c.in-Ok.ensures.sample

pub loop-at-preserved : goal.loop-at-preserved
loop-at-preserved g c =
    let below = c.args.below.now in
    let l = c.loop-at in
    let at = size_of below.set.now (beside below.two.now below.one.now l.cur l.at) in
    let size : c.context_of-size.result.0 ≡ at = c.context_of-size.ensures.size ∙
    ap (size_of below.set.now) l.invariant.around in
    let other : (at == 0) ≡ false = ne_eqb at 0 (λ is. c.if-size-eq0.false (size ∙ is)) in
    let back : l.at ≡ l.at + 1 - 1 = omega arith in
    let same = beside_same l.at below.two.now below.one.now c.read_seen.new.cur l.cur l.at
    c.in-Ok.ensures.agree (omega arith) in
    record {
      inside = omega (arith, l.invariant.inside, c.if-at-cur.false);
      from = omega (arith, l.invariant.from);
      first = λ is. absurd (omega (arith, is, l.invariant.from));
      around = c.around_next-around.ensures c.read_seen.new.cur l.at refl
          (l.invariant.around ∙ sym same) (ap (slice_index c.read_seen.new.cur) back);
      long = omega (arith, l.invariant.long);
      held = c.in-Ok.ensures.states;
      samples = λ small. samples_next below.depth l.at l.cur c.read_seen.new.cur
          (l.invariant.samples small) c.in-Ok.ensures.agree c.in-Ok.ensures.sample;
      read = λ start text index so. plain_next (reading_of below.set.now below.depth below.two.now
          below.one.now start text) l.cur c.read_seen.new.cur l.at index (state_at l.states)
          (state_at c.read_seen.new.states) l.own c.read_seen.new.bits
          (l.invariant.read start text index so) other c.in-Ok.ensures.agree c.in-Ok.ensures.ok;
    }
