-- Reads what comes next of a run.
use Rattle.std.proofs.Common.{Err, ap}
use Rattle.std.proofs.Common.{◌+◌, ◌-◌, length, arith}
use Rattle.std.proofs.lemmas.Bool.{not-true, not-false}
use Rattle.ffv1_rice.specs.Kept.{state_at}
use Rattle.ffv1_rice.specs.Rows.{reading_of}
use Rattle.ffv1_rice.proofs.RowPlaces.{stretch_refused, index_next, stretch_whole, stretch_broken}
use Rattle.ffv1_rice.proofs.RowSamples.{samples_more, samples_same}
use Rattle.ffv1_rice.proofs.row.read_stretch.Goals as goal

pub returns-then-not-run-clause-ok : goal.returns-then-not-run-clause-ok
returns-then-not-run-clause-ok g c = λ start text run so begins.
    let below = c.args.below.now in
    let r = reading_of below.set.now below.depth below.two.now below.one.now start text in
    let left = length c.args.cur.now - c.args.x in
    stretch_whole r c.args.x left c.args.index.now c.read_run.new.index run c.in-Ok.run'
    (state_at c.args.states.now) c.args.bits.now c.read_run.new.bits c.args.cur.now
    c.fill_zeros.new.cur
    c.in-Ok.ensures.ok (not-true c.in-Ok.run'.is_broken c.if-not-run.true)
    (omega (arith, c.requires.inside)) (omega arith) c.fill_zeros.ensures.agree so begins
    c.fill_zeros.ensures.zeros

pub returns-then-not-run-clause-index : goal.returns-then-not-run-clause-index
returns-then-not-run-clause-index g c =
    index_next c.args.index.now (length c.args.cur.now - c.args.x) c.read_run.new.index c.in-Ok.run'
    c.args.bits.now c.read_run.new.bits
    c.requires.index (omega (arith, c.requires.wide)) c.in-Ok.ensures.ok

pub returns-in-Ok-read_place-clause-ok : goal.returns-in-Ok-read_place-clause-ok
returns-in-Ok-read_place-clause-ok g c = λ start text run so begins.
    let below = c.args.below.now in
    let r = reading_of below.set.now below.depth below.two.now below.one.now start text in
    let left = length c.args.cur.now - c.args.x in
    stretch_broken r c.args.x left c.args.index.now c.read_run.new.index run c.in-Ok.run'
    (state_at c.args.states.now) (state_at c.read_place.new.states) c.args.bits.now
    c.read_run.new.bits c.read_place.new.bits
    c.args.cur.now c.fill_zeros.new.cur c.read_place.new.cur c.in-Ok.ensures.ok
    (not-false c.in-Ok.run'.is_broken c.if-not-run.false) c.fill_zeros.ensures.agree
    c.in-Ok-read_place.ensures.agree so begins c.fill_zeros.ensures.zeros
    c.in-Ok-read_place.ensures.ok

pub returns-in-Err-read_place-clause-index : goal.returns-in-Err-read_place-clause-index
returns-in-Err-read_place-clause-index g c =
    index_next c.args.index.now (length c.args.cur.now - c.args.x) c.read_run.new.index c.in-Ok.run'
    c.args.bits.now c.read_run.new.bits c.requires.index (omega (arith, c.requires.wide))
    c.in-Ok.ensures.ok

pub returns-in-Err-read_place-clause-refused : goal.returns-in-Err-read_place-clause-refused
returns-in-Err-read_place-clause-refused g c = λ start text run so begins.
    let below = c.args.below.now in
    let r = reading_of below.set.now below.depth below.two.now below.one.now start text in
    let left = length c.args.cur.now - c.args.x in
    stretch_refused r c.args.x left c.args.index.now c.read_run.new.index run c.in-Ok.run'
    (state_at c.args.states.now) c.args.bits.now c.read_run.new.bits c.args.cur.now
    c.fill_zeros.new.cur c.read_place.new.cur c.in-Err-read_place.fault c.in-Ok.ensures.ok
    (not-false c.in-Ok.run'.is_broken c.if-not-run.false) c.fill_zeros.ensures.agree
    c.in-Err-read_place.ensures.agree so begins c.fill_zeros.ensures.zeros
    (λ is. c.in-Err-read_place.ensures.ends (ap Err is))
    (λ is. c.in-Err-read_place.ensures.bad (ap Err is))

pub returns-in-Err-read_place-clause-samples_before :
    goal.returns-in-Err-read_place-clause-samples_before
returns-in-Err-read_place-clause-samples_before g c = λ small.
    let depth = c.args.below.now.depth in
    samples_same depth (c.args.x + c.in-Ok.run'.zeros) c.fill_zeros.new.cur c.read_place.new.cur
    (samples_more depth c.args.x c.in-Ok.run'.zeros c.args.cur.now c.fill_zeros.new.cur small
    c.fill_zeros.ensures.agree c.fill_zeros.ensures.samples) c.in-Err-read_place.ensures.agree
