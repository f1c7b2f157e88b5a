-- Reads a row of a cell of a plane.
use Rattle.std.proofs.Common.{◌≡◌, ◌∙◌, refl, sym, ◌<◌, length, arith, true≢false, None}
use Rattle.ffv1_rice.specs.Kept.{state_at}
use Rattle.ffv1_rice.specs.Row.{begins}
use Rattle.ffv1_rice.specs.Rows.{IsRefused, Stretched, reading_of}
use Rattle.ffv1_rice.proofs.RowPlaces.{Entered, so_far_none, entered_on, entered_first}
use Rattle.ffv1_rice.proofs.RowPlaces.{off, plain_done}
use Rattle.ffv1_rice.proofs.RowAnswers.{coded_done, coded_not_refused}
use Rattle.ffv1_rice.proofs.RowCodes.{running_none}
use Rattle.ffv1_rice.proofs.Rows.{row_done}
use Rattle.ffv1_rice.proofs.row.decode_row.Goals.{then-is_on, else-is_on}
use Rattle.ffv1_rice.proofs.row.decode_row.Goals as goal

pub loop-x-init : goal.loop-x-init
loop-x-init g c =
    let below = c.args.below.now in
    let r = reading_of below.set.now below.depth below.two.now below.one.now
    (begins (state_at c.args.states.now) c.args.index.now) c.args.bits.now in
    record {
      inside = omega arith;
      index = c.requires.index;
      long = c.requires.long;
      samples = record { each = λ k less. absurd (omega (arith, less)) };
      held = c.requires.states;
      read = record { run = None; so_far = so_far_none r c.args.cur.now; within = λ inside. refl };
    }

pub loop-x-preserved-in-Ok : goal.loop-x-preserved-in-Ok
loop-x-preserved-in-Ok g c =
    let below = c.args.below.now in
    let l = c.loop-x in
    let r = reading_of below.set.now below.depth below.two.now below.one.now
    (begins (state_at c.args.states.now) c.args.index.now) c.args.bits.now in
    let inside : l.x < length l.cur = c.loop-x-test.true in
    let entered : Entered r l.cur l.x l.index (state_at l.states) l.bits = elim c.if-is_on.branch [
      | then-is_on w ↦ entered_on r l.cur l.x l.index l.is_on (state_at l.states) l.bits
          l.invariant.read inside w.if-is_on.true
      | else-is_on w ↦ entered_first r l.cur l.x l.index l.is_on (state_at l.states) l.bits
          l.invariant.read inside w.if-is_on.false
          (sym w.first_context.ensures ∙ sym w.value-is ∙ c.if-first_context.true)
    ] in
    record {
      inside = c.in-Ok.ensures.inside;
      index = c.in-Ok.ensures.index;
      long = omega arith;
      samples = c.in-Ok.ensures.samples l.invariant.samples;
      held = c.in-Ok.ensures.states;
      read = c.in-Ok.ensures.ok (begins (state_at c.args.states.now) c.args.index.now)
          c.args.bits.now entered.run entered.so_far entered.begins;
    }

pub loop-x-preserved : goal.loop-x-preserved
loop-x-preserved g c =
    let below = c.args.below.now in
    let l = c.loop-x in
    let start = begins (state_at c.args.states.now) c.args.index.now in
    let r = reading_of below.set.now below.depth below.two.now below.one.now start c.args.bits.now
    in
    let inside : l.x < length l.cur = c.loop-x-test.true in
    let read : Stretched r c.read_plain.new.cur c.in-Ok-read_plain.after l.is_on
    (state_at c.read_plain.new.states) l.index c.read_plain.new.bits = elim c.if-is_on.branch [
      | then-is_on w ↦ absurd (true≢false (sym w.if-is_on.true ∙ sym w.value-is ∙
          c.if-first_context.false))
      | else-is_on w ↦ plain_done r c.read_plain.new.cur c.in-Ok-read_plain.after l.index l.is_on
          (state_at c.read_plain.new.states) c.read_plain.new.bits
          (c.in-Ok-read_plain.ensures.ok start c.args.bits.now l.index
          (off r l.cur l.x l.index l.is_on (state_at l.states) l.bits l.invariant.read inside
          w.if-is_on.false)) w.if-is_on.false
    ] in
    record {
      inside = c.in-Ok-read_plain.ensures.inside;
      index = l.invariant.index;
      long = omega arith;
      samples = c.in-Ok-read_plain.ensures.samples l.invariant.samples;
      held = c.in-Ok-read_plain.ensures.states;
      read = read;
    }

pub returns-in-Err-clause-refused : goal.returns-in-Err-clause-refused
returns-in-Err-clause-refused g c =
    let l = c.loop-x in
    let inside : l.x < length l.cur = c.loop-x-test.true in
    let entered : Entered (reading_of c.args.below.now.set.now c.args.below.now.depth
    c.args.below.now.two.now c.args.below.now.one.now (begins (state_at c.args.states.now)
    c.args.index.now) c.args.bits.now) l.cur l.x l.index (state_at l.states) l.bits =
    elim c.if-is_on.branch [
      | then-is_on w ↦ entered_on _ l.cur l.x l.index l.is_on (state_at l.states) l.bits
          l.invariant.read inside w.if-is_on.true
      | else-is_on w ↦ entered_first _ l.cur l.x l.index l.is_on (state_at l.states) l.bits
          l.invariant.read inside w.if-is_on.false
          (sym w.first_context.ensures ∙ sym w.value-is ∙ c.if-first_context.true)
    ] in
    c.in-Err.ensures.refused (begins (state_at c.args.states.now) c.args.index.now)
    c.args.bits.now entered.run entered.so_far entered.begins

pub returns-in-Err-read_plain-clause-refused : goal.returns-in-Err-read_plain-clause-refused
returns-in-Err-read_plain-clause-refused g c =
    let below = c.args.below.now in
    let l = c.loop-x in
    let start = begins (state_at c.args.states.now) c.args.index.now in
    let r = reading_of below.set.now below.depth below.two.now below.one.now start c.args.bits.now
    in
    elim c.if-is_on.branch [
      | then-is_on w ↦ absurd (true≢false (sym w.if-is_on.true ∙ sym w.value-is ∙
          c.if-first_context.false))
      | else-is_on w ↦ c.in-Err-read_plain.ensures.refused start c.args.bits.now l.index
          (off r l.cur l.x l.index l.is_on (state_at l.states) l.bits l.invariant.read
          c.loop-x-test.true w.if-is_on.false)
    ]

pub returns-in-Err-clause-coded : goal.returns-in-Err-clause-coded
returns-in-Err-clause-coded g c = λ row rest long codes.
    let below = c.args.below.now in
    let l = c.loop-x in
    let r = reading_of below.set.now below.depth below.two.now below.one.now
    (begins (state_at c.args.states.now) c.args.index.now) c.args.bits.now in
    let inside : l.x < length l.cur = c.loop-x-test.true in
    let entered : Entered r l.cur l.x l.index (state_at l.states) l.bits = elim c.if-is_on.branch [
      | then-is_on w ↦ entered_on r l.cur l.x l.index l.is_on (state_at l.states) l.bits
          l.invariant.read inside w.if-is_on.true
      | else-is_on w ↦ entered_first r l.cur l.x l.index l.is_on (state_at l.states) l.bits
          l.invariant.read inside w.if-is_on.false
          (sym w.first_context.ensures ∙ sym w.value-is ∙ c.if-first_context.true)
    ] in
    let refused = c.in-Err.ensures.refused (begins (state_at c.args.states.now) c.args.index.now)
    c.args.bits.now entered.run entered.so_far entered.begins in
    absurd (coded_not_refused r c.read_stretch.new.cur row c.in-Err.refused.x c.in-Err.refused.fault
    rest c.requires.depth (running_none c.args.index.now) (omega (arith, long))
    c.in-Err.ensures.refused_inside
    (c.in-Err.ensures.samples_before l.invariant.samples) refused codes)

pub returns-in-Err-read_plain-clause-coded : goal.returns-in-Err-read_plain-clause-coded
returns-in-Err-read_plain-clause-coded g c = λ row rest long codes.
    let below = c.args.below.now in
    let l = c.loop-x in
    let start = begins (state_at c.args.states.now) c.args.index.now in
    let r = reading_of below.set.now below.depth below.two.now below.one.now start c.args.bits.now
    in
    let e = c.in-Err-read_plain.refused in
    let refused : IsRefused r c.read_plain.new.cur e.x e.fault = elim c.if-is_on.branch [
      | then-is_on w ↦ absurd (true≢false (sym w.if-is_on.true ∙ sym w.value-is ∙
          c.if-first_context.false))
      | else-is_on w ↦ c.in-Err-read_plain.ensures.refused start c.args.bits.now l.index
          (off r l.cur l.x l.index l.is_on (state_at l.states) l.bits l.invariant.read
          c.loop-x-test.true w.if-is_on.false)
    ] in
    absurd (coded_not_refused r c.read_plain.new.cur row e.x e.fault rest c.requires.depth
    (running_none c.args.index.now) (omega (arith, long)) c.in-Err-read_plain.ensures.refused_inside
    (c.in-Err-read_plain.ensures.samples_before l.invariant.samples) refused codes)

pub returns-clause-coded : goal.returns-clause-coded
returns-clause-coded g c = λ row rest long codes.
    let below = c.args.below.now in
    let l = c.loop-x in
    let r = reading_of below.set.now below.depth below.two.now below.one.now
    (begins (state_at c.args.states.now) c.args.index.now) c.args.bits.now in
    let end : l.x ≡ length l.cur = omega (arith, c.loop-x-test.false, l.invariant.inside) in
    let read = l.invariant.read in
    let done = coded_done r l.cur row l.x l.index (state_at l.states) l.bits rest c.requires.depth
    (running_none c.args.index.now) (omega (arith, long)) end l.invariant.samples
    (row_done r l.cur l.x l.index read.run (state_at l.states) l.bits end read.so_far) codes in
    (refl, done.0, done.1)
