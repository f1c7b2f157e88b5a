-- Reads the elements of a Segment from its beginning up to where its frames begin.
use Rattle.std.proofs.Common.{◌≡◌, ◌∙◌, ◌==◌, Option, Some, None, true, false, inl, inr, refl, sym, arith}
use Rattle.std.proofs.lemmas.Bool.{eq-eqb, ne_eqb}
use Rattle.std.proofs.lemmas.Result.{err_from_is_err_and}
use Rattle.ffv1_reads.specs.Reads.{given, refused, ◌>>=◌}
use Rattle.ffv1_reads.specs.declared.fault.FileFault.{FileFault}
use Rattle.ffv1_reads.specs.declared.fault.FileFault.TheVariants as fault
use Rattle.ffv1_reads.proofs.EndFaults.{closes_fault, closes_given, closes_refused, faults_refused}
use Rattle.ffv1_reads.proofs.EndReadings.{none_read, some_read}
use Rattle.ffv1_reads.proofs.OffsetLaws.{counts_more, reads_none}
use Rattle.ffv1_reads.proofs.Reading.{faults_here, goes_fault, goes_given, goes_none, goes_read}
use Rattle.ffv1_reads.proofs.Reading.{goes_same}
use Rattle.ffv1_reads.proofs.Rooms.{room_none, room_or_none, room_then}
use Rattle.ffv1_matroska.specs.Internal.{found_kept, track_kept}
use Rattle.ffv1_matroska.specs.Offsets.{InSegment}
use Rattle.ffv1_matroska.specs.Opened.{begin_up_to, element_or_begun, in_cluster, tracks_or_passed}
use Rattle.ffv1_matroska.specs.Places.{amount, ended, segment_at}
use Rattle.ffv1_matroska.specs.SalvageStops.{salvaged_taken}
use Rattle.ffv1_matroska.specs.SalvageTold.{told_from}
use Rattle.ffv1_matroska.specs.Salvaged.{Begun, position_at, salvage_from, salvage_or_begun, salvage_up_to, told_then, tracks_or_salvaged}
use Rattle.ffv1_matroska.specs.Segments.{cluster, header_read}
use Rattle.ffv1_matroska.specs.Tracks.{Track}
use Rattle.ffv1_matroska.specs.declared.place.Place.{Place}
use Rattle.ffv1_matroska.proofs.Beginnings.{Over as PlainOver, closes, cluster_given, cluster_refused, end_given, end_refused, no_tracks, other_element}
use Rattle.ffv1_matroska.proofs.SalvagedReadings.{Over, salvage_cluster, salvage_closes, salvage_early, salvage_end, salvage_none, salvage_other, told_refused, told_goes}
use Rattle.ffv1_matroska.proofs.SalvagePending.{cluster_tells, element_on, end_tells, header_tells, more_tells, told_begins, told_on, told_stops, visit_tells}
use Rattle.ffv1_matroska.proofs.SalvagePlain.{visit_sound}
use Rattle.ffv1_matroska.proofs.SalvageSound.{none_more, none_too, plain_begins, plain_more}
use Rattle.ffv1_matroska.proofs.SalvageSpots.{cluster_stops, end_stops, header_stops, section_stops, section_whole, told_stops_there}
use Rattle.ffv1_matroska.proofs.ScaleWalks.{scale_ends, scale_stops}
use Rattle.ffv1_matroska.proofs.SpotReadings.{cluster_refused as spot_refused, end_refused as spots_end, entered_amount, header_left}
use Rattle.ffv1_matroska.proofs.SpotReadings.{header_refused, opening_stops, section_refused, spot_begins}
use Rattle.ffv1_matroska.proofs.Steps.{fewer}
use Rattle.ffv1_matroska.proofs.salvage.salvage_segment.Goals as goal

pub loop-element-init : goal.loop-element-init
loop-element-init g c = (
  amount c.args.here.now,
  omega arith,
  goes_none (salvage_from c.args.here.now c.args.faults.now.items)
      (g.R.ByteIn.remaining c.args.input.now) (g.R.ByteIn.failures c.args.input.now),
  room_none _ _,
  omega arith,
  c.requires.told,
  told_begins (told_from c.args.here.now c.args.faults.now.items) _,
  0,
  reads_none salvaged_taken (InSegment None c.args.here.now) _,
  λ flat. (flat, omega arith),
  λ none. plain_begins c.args.here.now c.args.noted.now.tick _ _,
  λ none. none,
)

pub returns-in_err-element-clause-answer : goal.returns-in_err-element-clause-answer
unfolding salvage_up_to
returns-in_err-element-clause-answer g c =
    let p = err_from_is_err_and c.from_residual.result c.from_residual.ensures.1 in
    let inv = c.loop-element.invariant in
    let here = c.loop-element.here in
    let found = found_kept c.loop-element.found c.loop-element.config.items in
    let faults = c.loop-element.faults.items in
    let on = salvage_up_to inv.0 c.args.here.now in
    rw (p.1, p.2) (closes_refused fault.NoTracks Over (header_read here)
    (salvage_or_begun on c.args.here.now found here faults) _ _ c.in_err-element.field-0.0
    (salvage_closes on c.args.here.now here faults found) inv.2 c.in_err-element.ensures.answer)

pub returns-in_default-found-clause-answer : goal.returns-in_default-found-clause-answer
unfolding salvage_up_to
returns-in_default-found-clause-answer g c =
    let inv = c.loop-element.invariant in
    let here = c.loop-element.here in
    let e = c.in-Some.element in
    let faults = c.loop-element.faults.items in
    let on = salvage_up_to inv.0 c.args.here.now in
    let goes = rw c.in_default-found.is at inv.2 in
    let next = none_read (header_read here) (salvage_or_begun on c.args.here.now None here faults) _ _ e goes
    (rw c.in-Some.is at c.in_ok-element.ensures.answer) in
    let is : (e.ident == cluster) ≡ true = eq-eqb _ _
    (omega (arith, c.if-element-eq-CLUSTER.true)) in
    inl (goes_fault fault.NoTracks (goes_same _ (refused fault.NoTracks)
    (salvage_early on c.args.here.now here faults e is) next) (refl, faults_here Begun fault.NoTracks _))

pub returns-then-element-eq-CLUSTER-clause-answer :
    goal.returns-then-element-eq-CLUSTER-clause-answer
unfolding salvage_up_to
returns-then-element-eq-CLUSTER-clause-answer g c =
    let inv = c.loop-element.invariant in
    let here = c.loop-element.here in
    let e = c.in-Some.element in
    let faults = c.loop-element.faults.items in
    let on = salvage_up_to inv.0 c.args.here.now in
    let track = track_kept c.in-Some-found.numbers c.loop-element.config.items in
    let goes = rw c.in-Some-found.is at inv.2 in
    let next = none_read (header_read here) (salvage_or_begun on c.args.here.now (Some track) here faults) _ _ e goes
    (rw c.in-Some.is at c.in_ok-element.ensures.answer) in
    let is : (e.ident == cluster) ≡ true = eq-eqb _ _
    (omega (arith, c.if-element-eq-CLUSTER.true)) in
    let read = goes_given _ (goes_same _ (given _)
    (salvage_cluster on c.args.here.now here faults track e is) next) in
    rw (c.in_cluster.ensures, c.segment_at-after.ensures) (read.0, inl read.1)

pub returns-in-Err-clause-answer : goal.returns-in-Err-clause-answer
unfolding salvage_up_to
returns-in-Err-clause-answer g c =
    let inv = c.loop-element.invariant in
    let here = c.loop-element.here in
    let e = c.in-Some.element in
    let faults = c.loop-element.faults.items in
    let on = salvage_up_to inv.0 c.args.here.now in
    let found = found_kept c.loop-element.found c.loop-element.config.items in
    let next = none_read (header_read here) (salvage_or_begun on c.args.here.now found here faults) _ _ e inv.2
    (rw c.in-Some.is at c.in_ok-element.ensures.answer) in
    let other : (e.ident == cluster) ≡ false = ne_eqb _ _
    (λ z. omega (arith, z, c.if-element-eq-CLUSTER.false)) in
    let rest = told_then on (segment_at here false e.left) (position_at c.args.here.now here) faults in
    faults_refused fault.NoTracks Over (tracks_or_salvaged found e.ident e.size)
    rest _ _ c.in-Err.fault
    (goes_same _ (tracks_or_salvaged found e.ident e.size >>= rest)
    (salvage_other on c.args.here.now here faults found e other) next) c.in-Err.ensures.answer

pub returns-in_err-tell-clause-answer : goal.returns-in_err-tell-clause-answer
unfolding salvage_up_to
returns-in_err-tell-clause-answer g c =
    let p = err_from_is_err_and c.from_residual-in_err-tell.result
    c.from_residual-in_err-tell.ensures.1 in
    let inv = c.loop-element.invariant in
    let here = c.loop-element.here in
    let e = c.in-Some.element in
    let faults = c.loop-element.faults.items in
    let on = salvage_up_to inv.0 c.args.here.now in
    let found = found_kept c.loop-element.found c.loop-element.config.items in
    let now : Option Track × Option FileFault = (found_kept c.in-Ok.visited.0 c.salvage_visit.new.config.items, c.in-Ok.visited.1) in
    let next = none_read (header_read here) (salvage_or_begun on c.args.here.now found here faults) _ _ e inv.2
    (rw c.in-Some.is at c.in_ok-element.ensures.answer) in
    let other : (e.ident == cluster) ≡ false = ne_eqb _ _
    (λ z. omega (arith, z, c.if-element-eq-CLUSTER.false)) in
    let rest = told_then on (segment_at here false e.left) (position_at c.args.here.now here) faults in
    let visited = goes_read (tracks_or_salvaged found e.ident e.size) rest _ _ now
    (goes_same _ (tracks_or_salvaged found e.ident e.size >>= rest)
    (salvage_other on c.args.here.now here faults found e other) next) c.in-Ok.ensures.answer in
    let told = rw c.passed.ensures at c.in_err-tell.ensures.told in
    let f = c.in_err-tell.field-0.0 in
    let may = rw c.in_err-tell.ensures.same at c.in-Ok.ensures.told in
    rw (p.1, p.2) (told_refused faults now.1 (Some (position_at c.args.here.now here)) (λ more. on now.0 (segment_at here false e.left) more) visited fault.NoTracks Over f (sym told) may)

pub returns-in_default-found-2-clause-answer : goal.returns-in_default-found-2-clause-answer
unfolding salvage_up_to
returns-in_default-found-2-clause-answer g c =
    let inv = c.loop-element.invariant in
    let here = c.loop-element.here in
    let faults = c.loop-element.faults.items in
    let on = salvage_up_to inv.0 c.args.here.now in
    let goes = rw c.in_default-found-2.is at inv.2 in
    no_tracks Over (closes_fault (header_read here) (salvage_or_begun on c.args.here.now None here faults) _ _
    fault.NoTracks (salvage_none on c.args.here.now here faults) goes
    (rw c.in_default.is at c.in_ok-element.ensures.answer))

pub returns-clause-answer : goal.returns-clause-answer
unfolding salvage_up_to
returns-clause-answer g c =
    let inv = c.loop-element.invariant in
    let here = c.loop-element.here in
    let faults = c.loop-element.faults.items in
    let on = salvage_up_to inv.0 c.args.here.now in
    let track = track_kept c.in-Some-found-2.numbers c.loop-element.config.items in
    let goes = rw c.in-Some-found-2.is at inv.2 in
    rw c.ended.ensures (closes_given Over (header_read here) (salvage_or_begun on c.args.here.now (Some track) here faults)
    _ _ _ refl (salvage_end on c.args.here.now here faults track) goes
    (rw c.in_default.is at c.in_ok-element.ensures.answer))

pub returns-then-element-eq-CLUSTER-clause-grown : goal.returns-then-element-eq-CLUSTER-clause-grown
returns-then-element-eq-CLUSTER-clause-grown g c = room_then c.loop-element.invariant.3
    (room_or_none (header_read c.loop-element.here) _ _ _ _ c.in_ok-element.ensures.answer.1)

pub returns-clause-grown : goal.returns-clause-grown
returns-clause-grown g c = room_then c.loop-element.invariant.3
    (room_or_none (header_read c.loop-element.here) _ _ _ _ c.in_ok-element.ensures.answer.1)

pub loop-element-preserved : goal.loop-element-preserved
unfolding salvage_up_to
loop-element-preserved g c =
    let inv = c.loop-element.invariant in
    let here = c.loop-element.here in
    let e = c.in-Some.element in
    let faults = c.loop-element.faults.items in
    let on = salvage_up_to inv.0 c.args.here.now in
    let found = found_kept c.loop-element.found c.loop-element.config.items in
    let now : Option Track × Option FileFault = (found_kept c.in-Ok.visited.0 c.salvage_visit.new.config.items, c.in-Ok.visited.1) in
    let answer = rw c.in-Some.is at c.in_ok-element.ensures.answer in
    let next = none_read (header_read here) (salvage_or_begun on c.args.here.now found here faults) _ _ e inv.2
    answer in
    let other : (e.ident == cluster) ≡ false = ne_eqb _ _
    (λ z. omega (arith, z, c.if-element-eq-CLUSTER.false)) in
    let after = segment_at here false e.left in
    let rest = told_then on after (position_at c.args.here.now here) faults in
    let visited = goes_read (tracks_or_salvaged found e.ident e.size) rest _ _ now
    (goes_same _ (tracks_or_salvaged found e.ident e.size >>= rest)
    (salvage_other on c.args.here.now here faults found e other) next) c.in-Ok.ensures.answer in
    let told = rw c.passed.ensures at c.in_ok-tell.ensures.told in
    let within = rw c.in-Some.is at c.in_ok-element.ensures.within in
    let some = rw c.in-Some.is at c.in_ok-element.ensures.some in
    let f = fewer inv.0 (amount after) (amount here) inv.1 (omega (arith, within.0, some)) in
    let header = some_read (header_read here) _ _ e answer.1 in
    let left = header_left here e header in
    rw c.segment_at-after.ensures (
      f.0,
      f.1,
      rw f.2 at (told_goes faults now.1 (Some (position_at c.args.here.now here)) (λ more. on now.0 after more) visited _ (sym told)),
      room_then inv.3
          (room_then (room_or_none (header_read here) _ _ _ _ c.in_ok-element.ensures.answer.1)
          c.in-Ok.ensures.grown),
      omega (arith, within.0, some, inv.4),
      rw c.in_ok-tell.ensures.capacity inv.5,
      rw f.2 at (told_on inv.6 (element_on inv.0 c.args.here.now found here faults e other _ _ _ now.0 now.1
          _ header c.in-Ok.ensures.answer.1 (sym told))),
      _,
      counts_more inv.8 (section_whole found now.0 now.1 here e other header c.in-Ok.ensures.answer.1),
      λ flat. (let before = inv.9 flat in (refl, omega (arith, left, before.0, before.1))),
      λ none. (let both = none_more faults _ now.1 (Some (position_at c.args.here.now here)) (sym told) none in
          rw f.2 at (plain_more (inv.10 both.0) e now.0 _ _ _ _ other header
          (c.in-Ok.ensures.answer.0 ∙ answer.0)
          (visit_sound found now.0 e.ident e.size (rw both.1 at c.in-Ok.ensures.answer.1))
          (c.in-Ok.ensures.tick both.1))),
      λ none. inv.11 (none_more faults _ now.1 (Some (position_at c.args.here.now here)) (sym told) none).0,
    )

-- ---- what was told

pub returns-in_err-element-clause-told : goal.returns-in_err-element-clause-told
returns-in_err-element-clause-told g c =
    let p = err_from_is_err_and c.from_residual.result c.from_residual.ensures.1 in
    let inv = c.loop-element.invariant in
    let here = c.loop-element.here in
    let found = found_kept c.loop-element.found c.loop-element.config.items in
    rw p.1 (told_stops inv.6 (header_tells inv.0 c.args.here.now found here c.loop-element.faults.items _ _ _ _
    c.in_err-element.field-0.0 c.in_err-element.ensures.answer))

pub returns-in_default-found-clause-told : goal.returns-in_default-found-clause-told
returns-in_default-found-clause-told g c =
    let inv = c.loop-element.invariant in
    let here = c.loop-element.here in
    let e = c.in-Some.element in
    let found = found_kept c.loop-element.found c.loop-element.config.items in
    let is : (e.ident == cluster) ≡ true = eq-eqb _ _ (omega (arith, c.if-element-eq-CLUSTER.true)) in
    told_stops inv.6 (cluster_tells inv.0 c.args.here.now found here c.loop-element.faults.items e _ _ is
    (some_read (header_read here) _ _ e (rw c.in-Some.is at c.in_ok-element.ensures.answer).1))

pub returns-in-Err-clause-told : goal.returns-in-Err-clause-told
returns-in-Err-clause-told g c =
    let inv = c.loop-element.invariant in
    let here = c.loop-element.here in
    let e = c.in-Some.element in
    let found = found_kept c.loop-element.found c.loop-element.config.items in
    let test : (e.ident == cluster) ≡ false = ne_eqb _ _
    (λ z. omega (arith, z, c.if-element-eq-CLUSTER.false)) in
    told_stops inv.6 (visit_tells inv.0 c.args.here.now found here c.loop-element.faults.items e test _ _ _
    c.salvage_visit.new.noted.other c.tell_pending.new.faults.items
    (some_read (header_read here) _ _ e (rw c.in-Some.is at c.in_ok-element.ensures.answer).1)
    c.in-Err.ensures.other (rw c.passed.ensures at c.tell_pending.ensures.too))

pub returns-in_err-tell-clause-told : goal.returns-in_err-tell-clause-told
returns-in_err-tell-clause-told g c =
    let p = err_from_is_err_and c.from_residual-in_err-tell.result
    c.from_residual-in_err-tell.ensures.1 in
    let inv = c.loop-element.invariant in
    let here = c.loop-element.here in
    let e = c.in-Some.element in
    let found = found_kept c.loop-element.found c.loop-element.config.items in
    let now : Option Track × Option FileFault = (found_kept c.in-Ok.visited.0 c.salvage_visit.new.config.items, c.in-Ok.visited.1) in
    let test : (e.ident == cluster) ≡ false = ne_eqb _ _
    (λ z. omega (arith, z, c.if-element-eq-CLUSTER.false)) in
    let told = rw c.passed.ensures at c.in_err-tell.ensures.told in
    rw p.1 (told_stops inv.6 (more_tells inv.0 c.args.here.now found here c.loop-element.faults.items e test _ _ _
    now.0 now.1 c.in_err-tell.field-0.0 c.tell.new.faults.items
    (some_read (header_read here) _ _ e (rw c.in-Some.is at c.in_ok-element.ensures.answer).1)
    c.in-Ok.ensures.answer.1 (sym told) (rw c.passed.ensures at c.in_err-tell.ensures.too)))

pub returns-in_default-found-2-clause-told : goal.returns-in_default-found-2-clause-told
returns-in_default-found-2-clause-told g c =
    let inv = c.loop-element.invariant in
    let here = c.loop-element.here in
    let found = found_kept c.loop-element.found c.loop-element.config.items in
    told_stops inv.6 (end_tells inv.0 c.args.here.now found here c.loop-element.faults.items _ _
    (rw c.in_default.is at c.in_ok-element.ensures.answer).1)

-- ---- where it ends

pub returns-in_err-element-clause-stopped : goal.returns-in_err-element-clause-stopped
returns-in_err-element-clause-stopped g c =
    let p = err_from_is_err_and c.from_residual.result c.from_residual.ensures.1 in
    let inv = c.loop-element.invariant in
    let f = c.in_err-element.field-0.0 in
    let found = found_kept c.loop-element.found c.loop-element.config.items in
    rw (p.1, p.2) (
      found,
      inv.7,
      record { between = _; before = inv.8; stops = header_stops found c.loop-element.here _ _ _ _ f c.in_err-element.ensures.answer },
      λ flat. (inv.9 flat).1,
    )

pub returns-in_default-found-clause-stopped : goal.returns-in_default-found-clause-stopped
returns-in_default-found-clause-stopped g c =
    let inv = c.loop-element.invariant in
    let here = c.loop-element.here in
    let e = c.in-Some.element in
    let answer = rw c.in-Some.is at c.in_ok-element.ensures.answer in
    let is : (e.ident == cluster) ≡ true = eq-eqb _ _
    (omega (arith, c.if-element-eq-CLUSTER.true)) in
    let before = rw c.in_default-found.is at inv.8 in (
      None,
      inv.7,
      record { between = _; before = before; stops = cluster_stops here e _ _ _ _ is (answer.0, some_read (header_read here) _ _ e answer.1) },
      λ flat. (inv.9 flat).1,
    )

pub returns-in-Err-clause-stopped : goal.returns-in-Err-clause-stopped
returns-in-Err-clause-stopped g c =
    let inv = c.loop-element.invariant in
    let here = c.loop-element.here in
    let e = c.in-Some.element in
    let found = found_kept c.loop-element.found c.loop-element.config.items in
    let answer = rw c.in-Some.is at c.in_ok-element.ensures.answer in
    let other : (e.ident == cluster) ≡ false = ne_eqb _ _
    (λ z. omega (arith, z, c.if-element-eq-CLUSTER.false)) in (
      found,
      inv.7,
      record { between = _; before = inv.8; stops = section_stops found here e _ _ _ _ _ _ c.in-Err.fault other (answer.0, some_read (header_read here) _ _ e answer.1) c.in-Err.ensures.answer },
      λ flat. (inv.9 flat).1,
    )

pub returns-in_err-tell-clause-stopped : goal.returns-in_err-tell-clause-stopped
returns-in_err-tell-clause-stopped g c =
    let p = err_from_is_err_and c.from_residual-in_err-tell.result
    c.from_residual-in_err-tell.ensures.1 in
    let inv = c.loop-element.invariant in
    let here = c.loop-element.here in
    let e = c.in-Some.element in
    let f = c.in_err-tell.field-0.0 in
    let found = found_kept c.loop-element.found c.loop-element.config.items in
    let now = found_kept c.in-Ok.visited.0 c.salvage_visit.new.config.items in
    let answer = rw c.in-Some.is at c.in_ok-element.ensures.answer in
    let other : (e.ident == cluster) ≡ false = ne_eqb _ _
    (λ z. omega (arith, z, c.if-element-eq-CLUSTER.false)) in
    let visit = rw c.in_err-tell.ensures.same at c.in-Ok.ensures.answer.1 in
    rw (p.1, p.2) (
      found,
      inv.7,
      record { between = _; before = inv.8; stops = told_stops_there found now f here e other (some_read (header_read here) _ _ e answer.1) visit },
      λ flat. (inv.9 flat).1,
    )

pub returns-in_default-found-2-clause-stopped : goal.returns-in_default-found-2-clause-stopped
returns-in_default-found-2-clause-stopped g c =
    let inv = c.loop-element.invariant in
    let before = rw c.in_default-found-2.is at inv.8 in (
      None,
      inv.7,
      record { between = _; before = before; stops = end_stops c.loop-element.here _ _ _ _ (rw c.in_default.is at c.in_ok-element.ensures.answer) },
      λ flat. (inv.9 flat).1,
    )

-- ---- if nothing is told

pub returns-in_err-element-clause-opens : goal.returns-in_err-element-clause-opens
unfolding begin_up_to
returns-in_err-element-clause-opens g c =
    let p = err_from_is_err_and c.from_residual.result c.from_residual.ensures.1 in
    let inv = c.loop-element.invariant in
    let here = c.loop-element.here in
    let found = found_kept c.loop-element.found c.loop-element.config.items in
    rw (p.1, p.2) (λ none. closes_refused fault.NoTracks PlainOver (header_read here)
    (element_or_begun (begin_up_to inv.0) found here) _ _ c.in_err-element.field-0.0
    (closes (begin_up_to inv.0) found here) (inv.10 none).goes c.in_err-element.ensures.answer)

pub returns-in_default-found-clause-opens : goal.returns-in_default-found-clause-opens
unfolding begin_up_to
returns-in_default-found-clause-opens g c = λ none.
    (let inv = c.loop-element.invariant in
    let here = c.loop-element.here in
    let e = c.in-Some.element in
    let on = begin_up_to inv.0 in
    let goes = rw c.in_default-found.is at (inv.10 none).goes in
    let next = none_read (header_read here) (element_or_begun on None here) _ _ e goes
    (rw c.in-Some.is at c.in_ok-element.ensures.answer) in
    let is : (e.ident == cluster) ≡ true = eq-eqb _ _
    (omega (arith, c.if-element-eq-CLUSTER.true)) in
    inl (goes_fault fault.NoTracks (goes_same _ (refused fault.NoTracks)
    (cluster_refused on here e is) next) (refl, faults_here (Track × Place) fault.NoTracks _)))

pub returns-then-element-eq-CLUSTER-clause-opens :
    goal.returns-then-element-eq-CLUSTER-clause-opens
unfolding begin_up_to
returns-then-element-eq-CLUSTER-clause-opens g c = rw (c.in_cluster.ensures, c.segment_at-after.ensures) (λ none.
    (let inv = c.loop-element.invariant in
    let here = c.loop-element.here in
    let e = c.in-Some.element in
    let on = begin_up_to inv.0 in
    let track = track_kept c.in-Some-found.numbers c.loop-element.config.items in
    let goes = rw c.in-Some-found.is at (inv.10 none).goes in
    let next = none_read (header_read here) (element_or_begun on (Some track) here) _ _ e goes
    (rw c.in-Some.is at c.in_ok-element.ensures.answer) in
    let is : (e.ident == cluster) ≡ true = eq-eqb _ _
    (omega (arith, c.if-element-eq-CLUSTER.true)) in
    let place = in_cluster (segment_at here false e.left) e.size in
    let read = goes_given (track, place) (goes_same _ (given (track, place))
    (cluster_given on track here e is) next) in
    (read.0, inl read.1)))

pub returns-in-Err-clause-opens : goal.returns-in-Err-clause-opens
unfolding begin_up_to
returns-in-Err-clause-opens g c = λ none.
    (let inv = c.loop-element.invariant in
    let here = c.loop-element.here in
    let e = c.in-Some.element in
    let on = begin_up_to inv.0 in
    let found = found_kept c.loop-element.found c.loop-element.config.items in
    let both = none_too c.loop-element.faults.items c.salvage_visit.new.noted.other _ (sym c.tell_pending.ensures.too ∙ none) in
    let next = none_read (header_read here) (element_or_begun on found here) _ _ e (inv.10 both.0).goes
    (rw c.in-Some.is at c.in_ok-element.ensures.answer) in
    let other : (e.ident == cluster) ≡ false = ne_eqb _ _
    (λ z. omega (arith, z, c.if-element-eq-CLUSTER.false)) in
    let after = segment_at here false e.left in
    faults_refused fault.NoTracks PlainOver (tracks_or_passed found e.ident e.size)
    (λ now. on now after) _ _ c.in-Err.fault
    (goes_same _ (tracks_or_passed found e.ident e.size >>= λ now. on now after)
    (other_element on found here e other) next) (c.in-Err.ensures.plain both.1))

pub returns-in_default-found-2-clause-opens : goal.returns-in_default-found-2-clause-opens
unfolding begin_up_to
returns-in_default-found-2-clause-opens g c = λ none.
    (let inv = c.loop-element.invariant in
    let here = c.loop-element.here in
    let on = begin_up_to inv.0 in
    let goes = rw c.in_default-found-2.is at (inv.10 none).goes in
    no_tracks PlainOver (closes_fault (header_read here) (element_or_begun on None here) _ _
    fault.NoTracks (end_refused on here) goes
    (rw c.in_default.is at c.in_ok-element.ensures.answer)))

pub returns-clause-opens : goal.returns-clause-opens
unfolding begin_up_to
returns-clause-opens g c = rw c.ended.ensures (λ none.
    (let inv = c.loop-element.invariant in
    let here = c.loop-element.here in
    let on = begin_up_to inv.0 in
    let track = track_kept c.in-Some-found-2.numbers c.loop-element.config.items in
    let goes = rw c.in-Some-found-2.is at (inv.10 none).goes in
    closes_given PlainOver (header_read here) (element_or_begun on (Some track) here)
    _ _ (track, ended) refl (end_given on track here) goes
    (rw c.in_default.is at c.in_ok-element.ensures.answer)))

pub returns-in_err-element-clause-from : goal.returns-in_err-element-clause-from
returns-in_err-element-clause-from g c =
    let p = err_from_is_err_and c.from_residual.result c.from_residual.ensures.1 in
    let inv = c.loop-element.invariant in
    let f = c.in_err-element.field-0.0 in
    let found = found_kept c.loop-element.found c.loop-element.config.items in
    rw (p.1, p.2) (λ none. (
      found,
      inv.7,
      opening_stops _ f (inv.10 none).goes.same (inv.10 none).whole
          (header_refused found c.loop-element.here _ _ _ _ f c.in_err-element.ensures.answer),
      λ flat. (inv.9 flat).1,
    ))

pub returns-in_default-found-clause-from : goal.returns-in_default-found-clause-from
returns-in_default-found-clause-from g c = λ none.
    (let inv = c.loop-element.invariant in
    let here = c.loop-element.here in
    let e = c.in-Some.element in
    let answer = rw c.in-Some.is at c.in_ok-element.ensures.answer in
    let is : (e.ident == cluster) ≡ true = eq-eqb _ _
    (omega (arith, c.if-element-eq-CLUSTER.true)) in
    let before = rw c.in_default-found.is at (inv.10 none).whole in (
      None,
      inv.7,
      opening_stops _ fault.NoTracks (inv.10 none).goes.same before
          (spot_refused here e _ _ _ _ is (answer.0, some_read (header_read here) _ _ e answer.1)),
      λ flat. (inv.9 flat).1,
    ))

pub returns-then-element-eq-CLUSTER-clause-from : goal.returns-then-element-eq-CLUSTER-clause-from
returns-then-element-eq-CLUSTER-clause-from g c = rw (c.in_cluster.ensures, c.segment_at-after.ensures) (λ none.
    (let inv = c.loop-element.invariant in
    let here = c.loop-element.here in
    let e = c.in-Some.element in
    let track = track_kept c.in-Some-found.numbers c.loop-element.config.items in
    let header = some_read (header_read here) _ _ e
    (rw c.in-Some.is at c.in_ok-element.ensures.answer).1 in
    let is : (e.ident == cluster) ≡ true = eq-eqb _ _
    (omega (arith, c.if-element-eq-CLUSTER.true)) in
    let before = rw c.in-Some-found.is at (inv.10 none).whole in
    let left = header_left here e header in
    let entered = entered_amount here e.left e.size in (
      _,
      inl (counts_more before (spot_begins track here e is header)),
      λ flat. (let now = inv.9 flat in omega (arith, left, entered, now.0, now.1)),
    )))

pub returns-in-Err-clause-from : goal.returns-in-Err-clause-from
returns-in-Err-clause-from g c = λ none.
    (let inv = c.loop-element.invariant in
    let here = c.loop-element.here in
    let e = c.in-Some.element in
    let f = c.in-Err.fault in
    let found = found_kept c.loop-element.found c.loop-element.config.items in
    let both = none_too c.loop-element.faults.items c.salvage_visit.new.noted.other _ (sym c.tell_pending.ensures.too ∙ none) in
    let so = inv.10 both.0 in
    let answer = rw c.in-Some.is at c.in_ok-element.ensures.answer in
    let other : (e.ident == cluster) ≡ false = ne_eqb _ _
    (λ z. omega (arith, z, c.if-element-eq-CLUSTER.false)) in (
      found,
      inv.7,
      opening_stops _ f so.goes.same so.whole
          (section_refused found here e _ _ _ _ _ _ f other
          (answer.0, some_read (header_read here) _ _ e answer.1) (c.in-Err.ensures.plain both.1)),
      λ flat. (inv.9 flat).1,
    ))

pub returns-in_default-found-2-clause-from : goal.returns-in_default-found-2-clause-from
returns-in_default-found-2-clause-from g c = λ none.
    (let inv = c.loop-element.invariant in
    let before = rw c.in_default-found-2.is at (inv.10 none).whole in (
      None,
      inv.7,
      opening_stops _ fault.NoTracks (inv.10 none).goes.same before
          (spots_end c.loop-element.here _ _ _ _
          (rw c.in_default.is at c.in_ok-element.ensures.answer)),
      λ flat. (inv.9 flat).1,
    ))

pub returns-clause-from : goal.returns-clause-from
returns-clause-from g c = λ none.
    (let inv = c.loop-element.invariant in
    let before = rw c.in-Some-found-2.is at (inv.10 none).whole in
    let answer = rw c.in_default.is at c.in_ok-element.ensures.answer in (
      inv.7,
      inr (
        c.ended.ensures,
        record { here = c.loop-element.here; between = _; before = before; none = answer.1 },
      ),
      λ flat. (inv.9 flat).1,
    ))

pub returns-then-element-eq-CLUSTER-clause-tick : goal.returns-then-element-eq-CLUSTER-clause-tick
returns-then-element-eq-CLUSTER-clause-tick g c = λ none.
    (let inv = c.loop-element.invariant in
    let here = c.loop-element.here in
    let e = c.in-Some.element in
    let header = some_read (header_read here) _ _ e
    (rw c.in-Some.is at c.in_ok-element.ensures.answer).1 in
    let is : (e.ident == cluster) ≡ true = eq-eqb _ _
    (omega (arith, c.if-element-eq-CLUSTER.true)) in
    scale_stops inv.0 _ here _ _ _ _ (inv.10 none).scale e is header)

pub returns-clause-tick : goal.returns-clause-tick
returns-clause-tick g c = λ none.
    (let inv = c.loop-element.invariant in
    let answer = rw c.in_default.is at c.in_ok-element.ensures.answer in
    scale_ends inv.0 _ c.loop-element.here _ _ _ _ (inv.10 none).scale answer.1)

pub returns-in_err-element-clause-sooner : goal.returns-in_err-element-clause-sooner
returns-in_err-element-clause-sooner g c = c.loop-element.invariant.11

pub returns-in_default-found-clause-sooner : goal.returns-in_default-found-clause-sooner
returns-in_default-found-clause-sooner g c = c.loop-element.invariant.11

pub returns-then-element-eq-CLUSTER-clause-sooner : goal.returns-then-element-eq-CLUSTER-clause-sooner
returns-then-element-eq-CLUSTER-clause-sooner g c = c.loop-element.invariant.11

pub returns-in-Err-clause-sooner : goal.returns-in-Err-clause-sooner
returns-in-Err-clause-sooner g c = λ none. c.loop-element.invariant.11 (none_too c.loop-element.faults.items
    c.salvage_visit.new.noted.other _ (sym c.tell_pending.ensures.too ∙ none)).0

pub returns-in_err-tell-clause-sooner : goal.returns-in_err-tell-clause-sooner
returns-in_err-tell-clause-sooner g c = λ none. c.loop-element.invariant.11 (none_too c.loop-element.faults.items
    c.in-Ok.visited.1 _ (sym c.in_err-tell.ensures.too ∙ none)).0

pub returns-in_default-found-2-clause-sooner : goal.returns-in_default-found-2-clause-sooner
returns-in_default-found-2-clause-sooner g c = c.loop-element.invariant.11

pub returns-clause-sooner : goal.returns-clause-sooner
returns-clause-sooner g c = c.loop-element.invariant.11
