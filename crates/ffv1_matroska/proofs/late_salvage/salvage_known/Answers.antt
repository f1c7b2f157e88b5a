-- Reads the elements of a Segment from its beginning up to where the frames of a track begin.
use Rattle.std.proofs.Common.{◌≡◌, ◌==◌, Some, true, false, inl, refl, sym, arith}
use Rattle.std.proofs.lemmas.Bool.{eq-eqb, ne_eqb}
use Rattle.std.proofs.lemmas.Result.{err_from_is_err_and}
use Rattle.ffv1_reads.specs.Reads.{given, ◌>>=◌}
use Rattle.ffv1_reads.specs.declared.fault.FileFault.TheVariants as fault
use Rattle.ffv1_reads.proofs.EndFaults.{closes_given, closes_refused, faults_refused}
use Rattle.ffv1_reads.proofs.EndReadings.{none_read, some_read}
use Rattle.ffv1_reads.proofs.OffsetLaws.{counts_more, reads_none}
use Rattle.ffv1_reads.proofs.Reading.{goes_given, goes_none, goes_read, goes_same}
use Rattle.ffv1_matroska.specs.Offsets.{InSegment}
use Rattle.ffv1_matroska.specs.Places.{amount, segment_at}
use Rattle.ffv1_matroska.specs.SalvageStops.{salvaged_taken}
use Rattle.ffv1_matroska.specs.SalvagedAgain.{known_told_from}
use Rattle.ffv1_matroska.specs.SalvagedLate.{known_from}
use Rattle.ffv1_matroska.specs.Salvaged.{position_at, salvage_or_begun, salvage_up_to, told_then, tracks_or_salvaged}
use Rattle.ffv1_matroska.specs.Segments.{cluster, header_read}
use Rattle.ffv1_matroska.proofs.KnownSalvage.{known_refused, known_stops, known_visit}
use Rattle.ffv1_matroska.proofs.SalvagePending.{element_on, header_tells, more_tells, told_begins, told_on, told_stops, visit_tells}
use Rattle.ffv1_matroska.proofs.SalvagedReadings.{Over, salvage_cluster, salvage_closes, salvage_end, salvage_other, told_refused, told_goes}
use Rattle.ffv1_matroska.proofs.SalvageSpots.{header_stops, section_stops, section_whole, told_stops_there}
use Rattle.ffv1_matroska.proofs.SpotReadings.{header_left}
use Rattle.ffv1_matroska.proofs.Steps.{fewer}
use Rattle.ffv1_matroska.proofs.late_salvage.salvage_known.Goals as goal

pub loop-element-init : goal.loop-element-init
loop-element-init g c = (
  amount c.args.here.now,
  omega arith,
  λ track. goes_none (known_from track c.args.here.now c.args.faults.now.items)
      (g.R.ByteIn.remaining c.args.input.now) (g.R.ByteIn.failures c.args.input.now),
  omega arith,
  c.requires.told,
  0,
  λ track. reads_none salvaged_taken (InSegment (Some track) c.args.here.now) _,
  λ flat. (flat, omega arith),
  λ track. told_begins (known_told_from track c.args.here.now c.args.faults.now.items) _,
)

pub returns-in_err-element-clause-answer : goal.returns-in_err-element-clause-answer
unfolding salvage_up_to
returns-in_err-element-clause-answer g c =
    let p = err_from_is_err_and c.from_residual.result c.from_residual.ensures.1 in
    let inv = c.loop-element.invariant in
    let here = c.loop-element.here in
    let faults = c.loop-element.faults.items in
    let on = salvage_up_to inv.0 c.args.here.now in
    rw (p.1, p.2) (λ track. closes_refused fault.NoTracks Over (header_read here)
    (salvage_or_begun on c.args.here.now (Some track) here faults) _ _ c.in_err-element.field-0.0
    (salvage_closes on c.args.here.now here faults (Some track)) (inv.2 track)
    c.in_err-element.ensures.answer)

pub returns-in_err-element-clause-stopped : goal.returns-in_err-element-clause-stopped
returns-in_err-element-clause-stopped g c =
    let p = err_from_is_err_and c.from_residual.result c.from_residual.ensures.1 in
    let inv = c.loop-element.invariant in
    let here = c.loop-element.here in
    rw (p.1, p.2) (λ track. (
      inv.5,
      record {
        between = _;
        before = inv.6 track;
        stops = header_stops (Some track) here _ _ _ _ c.in_err-element.field-0.0
            c.in_err-element.ensures.answer;
      },
      λ flat. (inv.7 flat).1,
    ))

pub returns-then-element-eq-CLUSTER-clause-answer :
    goal.returns-then-element-eq-CLUSTER-clause-answer
unfolding salvage_up_to
returns-then-element-eq-CLUSTER-clause-answer g c =
    let inv = c.loop-element.invariant in
    let here = c.loop-element.here in
    let e = c.in-Some.element in
    let faults = c.loop-element.faults.items in
    let on = salvage_up_to inv.0 c.args.here.now in
    let is : (e.ident == cluster) ≡ true = eq-eqb _ _
    (omega (arith, c.if-element-eq-CLUSTER.true)) in
    rw (c.in_cluster.ensures, c.segment_at-after.ensures) (λ track.
    (let next = none_read (header_read here) (salvage_or_begun on c.args.here.now (Some track) here faults) _ _ e (inv.2 track)
    (rw c.in-Some.is at c.in_ok-element.ensures.answer) in
    let read = goes_given _ (goes_same _ (given _)
    (salvage_cluster on c.args.here.now here faults track e is) next) in
    (read.0, inl read.1)))

pub returns-in-Err-clause-answer : goal.returns-in-Err-clause-answer
unfolding salvage_up_to
returns-in-Err-clause-answer g c = λ track.
    (let inv = c.loop-element.invariant in
    let here = c.loop-element.here in
    let e = c.in-Some.element in
    let faults = c.loop-element.faults.items in
    let on = salvage_up_to inv.0 c.args.here.now in
    let next = none_read (header_read here) (salvage_or_begun on c.args.here.now (Some track) here faults) _ _ e (inv.2 track)
    (rw c.in-Some.is at c.in_ok-element.ensures.answer) in
    let other : (e.ident == cluster) ≡ false = ne_eqb _ _
    (λ z. omega (arith, z, c.if-element-eq-CLUSTER.false)) in
    let rest = told_then on (segment_at here false e.left) (position_at c.args.here.now here) faults in
    faults_refused fault.NoTracks Over (tracks_or_salvaged (Some track) e.ident e.size)
    rest _ _ c.in-Err.fault
    (goes_same _ (tracks_or_salvaged (Some track) e.ident e.size >>= rest)
    (salvage_other on c.args.here.now here faults (Some track) e other) next)
    (known_refused track e.ident e.size _ _ _ _ c.in-Err.fault c.in-Err.ensures.answer))

pub returns-in-Err-clause-stopped : goal.returns-in-Err-clause-stopped
returns-in-Err-clause-stopped g c = λ track.
    (let inv = c.loop-element.invariant in
    let here = c.loop-element.here in
    let e = c.in-Some.element in
    let answer = rw c.in-Some.is at c.in_ok-element.ensures.answer in
    let other : (e.ident == cluster) ≡ false = ne_eqb _ _
    (λ z. omega (arith, z, c.if-element-eq-CLUSTER.false)) in (
      inv.5,
      record {
        between = _;
        before = inv.6 track;
        stops = section_stops (Some track) here e _ _ _ _ _ _ c.in-Err.fault other
            (answer.0, some_read (header_read here) _ _ e answer.1)
            (known_refused track e.ident e.size _ _ _ _ c.in-Err.fault c.in-Err.ensures.answer);
      },
      λ flat. (inv.7 flat).1,
    ))

pub returns-in_err-tell-clause-answer : goal.returns-in_err-tell-clause-answer
unfolding salvage_up_to
returns-in_err-tell-clause-answer g c =
    let p = err_from_is_err_and c.from_residual-in_err-tell.result
    c.from_residual-in_err-tell.ensures.1 in
    let inv = c.loop-element.invariant in
    let here = c.loop-element.here in
    let e = c.in-Some.element in
    let faults = c.loop-element.faults.items in
    let on = salvage_up_to inv.0 c.args.here.now in
    let other : (e.ident == cluster) ≡ false = ne_eqb _ _
    (λ z. omega (arith, z, c.if-element-eq-CLUSTER.false)) in
    let told = rw c.passed.ensures at c.in_err-tell.ensures.told in
    let f = c.in_err-tell.field-0.0 in
    let may = rw c.in_err-tell.ensures.same at c.in-Ok.ensures.told in
    rw (p.1, p.2) (λ track.
    (let next = none_read (header_read here) (salvage_or_begun on c.args.here.now (Some track) here faults) _ _ e (inv.2 track)
    (rw c.in-Some.is at c.in_ok-element.ensures.answer) in
    let rest = told_then on (segment_at here false e.left) (position_at c.args.here.now here) faults in
    let visited = goes_read (tracks_or_salvaged (Some track) e.ident e.size) rest _ _ (Some track, c.in-Ok.fault)
    (goes_same _ (tracks_or_salvaged (Some track) e.ident e.size >>= rest)
    (salvage_other on c.args.here.now here faults (Some track) e other) next)
    (c.in-Ok.ensures.answer.0, known_visit track e.ident e.size c.in-Ok.ensures.answer.1) in
    told_refused faults c.in-Ok.fault (Some (position_at c.args.here.now here)) (λ more. on (Some track) (segment_at here false e.left) more) visited fault.NoTracks Over f (sym told) may))

pub returns-in_err-tell-clause-stopped : goal.returns-in_err-tell-clause-stopped
returns-in_err-tell-clause-stopped g c =
    let p = err_from_is_err_and c.from_residual-in_err-tell.result
    c.from_residual-in_err-tell.ensures.1 in
    let inv = c.loop-element.invariant in
    let here = c.loop-element.here in
    let e = c.in-Some.element in
    let f = c.in_err-tell.field-0.0 in
    let answer = rw c.in-Some.is at c.in_ok-element.ensures.answer in
    let other : (e.ident == cluster) ≡ false = ne_eqb _ _
    (λ z. omega (arith, z, c.if-element-eq-CLUSTER.false)) in
    let read = rw c.in_err-tell.ensures.same at c.in-Ok.ensures.answer in
    rw (p.1, p.2) (λ track. (
      inv.5,
      record {
        between = _;
        before = inv.6 track;
        stops = told_stops_there (Some track) (Some track) f here e other
            (some_read (header_read here) _ _ e answer.1)
            (known_visit track e.ident e.size read.1);
      },
      λ flat. (inv.7 flat).1,
    ))

pub loop-element-preserved : goal.loop-element-preserved
unfolding salvage_up_to
loop-element-preserved g c =
    let inv = c.loop-element.invariant in
    let here = c.loop-element.here in
    let e = c.in-Some.element in
    let faults = c.loop-element.faults.items in
    let on = salvage_up_to inv.0 c.args.here.now in
    let answer = rw c.in-Some.is at c.in_ok-element.ensures.answer in
    let other : (e.ident == cluster) ≡ false = ne_eqb _ _
    (λ z. omega (arith, z, c.if-element-eq-CLUSTER.false)) in
    let after = segment_at here false e.left in
    let rest = told_then on after (position_at c.args.here.now here) faults in
    let told = rw c.passed.ensures at c.in_ok-tell.ensures.told in
    let within = rw c.in-Some.is at c.in_ok-element.ensures.within in
    let some = rw c.in-Some.is at c.in_ok-element.ensures.some in
    let f = fewer inv.0 (amount after) (amount here) inv.1 (omega (arith, within.0, some)) in
    let header = some_read (header_read here) _ _ e answer.1 in
    let left = header_left here e header in
    rw c.segment_at-after.ensures (
      f.0,
      f.1,
      λ track. (let next = none_read (header_read here) (salvage_or_begun on c.args.here.now (Some track) here faults) _ _ e (inv.2 track) answer in
          let visited = goes_read (tracks_or_salvaged (Some track) e.ident e.size) rest _ _ (Some track, c.in-Ok.fault)
          (goes_same _ (tracks_or_salvaged (Some track) e.ident e.size >>= rest)
          (salvage_other on c.args.here.now here faults (Some track) e other) next)
          (c.in-Ok.ensures.answer.0, known_visit track e.ident e.size c.in-Ok.ensures.answer.1) in
          rw f.2 at (told_goes faults c.in-Ok.fault (Some (position_at c.args.here.now here)) (λ more. on (Some track) after more) visited _ (sym told))),
      omega (arith, within.0, some, inv.3),
      rw c.in_ok-tell.ensures.capacity inv.4,
      _,
      λ track. counts_more (inv.6 track) (section_whole (Some track) (Some track) c.in-Ok.fault here e other header (known_visit track e.ident e.size c.in-Ok.ensures.answer.1)),
      λ flat. (let before = inv.7 flat in (refl, omega (arith, left, before.0, before.1))),
      λ track. rw f.2 at (told_on (inv.8 track) (element_on inv.0 c.args.here.now (Some track) here faults e other _ _ _ (Some track) c.in-Ok.fault
          _ header (known_visit track e.ident e.size c.in-Ok.ensures.answer.1) (sym told))),
    )

-- ---- what was told

pub returns-in_err-element-clause-told : goal.returns-in_err-element-clause-told
returns-in_err-element-clause-told g c =
    let p = err_from_is_err_and c.from_residual.result c.from_residual.ensures.1 in
    let inv = c.loop-element.invariant in
    let here = c.loop-element.here in
    rw p.1 (λ track. told_stops (inv.8 track) (header_tells inv.0 c.args.here.now (Some track) here c.loop-element.faults.items _ _ _ _
    c.in_err-element.field-0.0 c.in_err-element.ensures.answer))

pub returns-in-Err-clause-told : goal.returns-in-Err-clause-told
returns-in-Err-clause-told g c = λ track.
    (let inv = c.loop-element.invariant in
    let here = c.loop-element.here in
    let e = c.in-Some.element in
    let test : (e.ident == cluster) ≡ false = ne_eqb _ _
    (λ z. omega (arith, z, c.if-element-eq-CLUSTER.false)) in
    told_stops (inv.8 track) (visit_tells inv.0 c.args.here.now (Some track) here c.loop-element.faults.items e test _ _ _
    c.salvage_element.new.noted.other c.tell_pending.new.faults.items
    (some_read (header_read here) _ _ e (rw c.in-Some.is at c.in_ok-element.ensures.answer).1)
    (known_stops track e.ident e.size _ _ _ _ c.in-Err.fault _ c.in-Err.ensures.other c.in-Err.ensures.answer)
    (rw c.passed.ensures at c.tell_pending.ensures.too)))

pub returns-in_err-tell-clause-told : goal.returns-in_err-tell-clause-told
returns-in_err-tell-clause-told g c =
    let p = err_from_is_err_and c.from_residual-in_err-tell.result
    c.from_residual-in_err-tell.ensures.1 in
    let inv = c.loop-element.invariant in
    let here = c.loop-element.here in
    let e = c.in-Some.element in
    let test : (e.ident == cluster) ≡ false = ne_eqb _ _
    (λ z. omega (arith, z, c.if-element-eq-CLUSTER.false)) in
    let told = rw c.passed.ensures at c.in_err-tell.ensures.told in
    rw p.1 (λ track. told_stops (inv.8 track) (more_tells inv.0 c.args.here.now (Some track) here c.loop-element.faults.items e test _ _ _
    (Some track) c.in-Ok.fault c.in_err-tell.field-0.0 c.tell.new.faults.items
    (some_read (header_read here) _ _ e (rw c.in-Some.is at c.in_ok-element.ensures.answer).1)
    (known_visit track e.ident e.size c.in-Ok.ensures.answer.1) (sym told) (rw c.passed.ensures at c.in_err-tell.ensures.too)))

pub returns-clause-answer : goal.returns-clause-answer
unfolding salvage_up_to
returns-clause-answer g c =
    let inv = c.loop-element.invariant in
    let here = c.loop-element.here in
    let faults = c.loop-element.faults.items in
    let on = salvage_up_to inv.0 c.args.here.now in
    rw c.ended.ensures (λ track. closes_given Over (header_read here) (salvage_or_begun on c.args.here.now (Some track) here faults)
    _ _ _ refl (salvage_end on c.args.here.now here faults track) (inv.2 track)
    (rw c.in_default.is at c.in_ok-element.ensures.answer))
