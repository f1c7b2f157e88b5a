-- Reads the elements of a Segment from a position on, up to where its frames begin: what its track
-- says, with the record in place of what the vector `config` has, and the place.
use Rattle.std.proofs.Common.{◌≡◌, ◌==◌, Some, None, true, false, inl, inr, refl, arith}
use Rattle.std.proofs.lemmas.Bool.{eq-eqb, ne_eqb}
use Rattle.std.proofs.lemmas.Result.{err_from_is_err_and}
use Rattle.ffv1_reads.specs.Reads.{given, refused, ◌>>=◌}
use Rattle.ffv1_reads.specs.declared.fault.FileFault.TheVariants as fault
use Rattle.ffv1_reads.proofs.EndFaults.{closes_fault, closes_given, closes_refused, faults_refused}
use Rattle.ffv1_reads.proofs.EndReadings.{none_read}
use Rattle.ffv1_reads.proofs.Reading.{faults_here, goes_fault, goes_given, goes_none, goes_read}
use Rattle.ffv1_reads.proofs.Reading.{goes_same}
use Rattle.ffv1_matroska.specs.Internal.{found_kept, track_kept}
use Rattle.ffv1_matroska.specs.Opened.{begin_from, begin_up_to, element_or_begun, in_cluster}
use Rattle.ffv1_matroska.specs.Opened.{tracks_or_passed}
use Rattle.ffv1_matroska.specs.Places.{amount, ended, segment_at}
use Rattle.ffv1_matroska.specs.Scales.{scale_from}
use Rattle.ffv1_matroska.specs.Segments.{cluster, header_read}
use Rattle.ffv1_matroska.specs.Tracks.{Track}
use Rattle.ffv1_matroska.specs.declared.place.Place.{Place}
use Rattle.ffv1_matroska.proofs.Beginnings.{Over, closes, cluster_given, cluster_refused, end_given}
use Rattle.ffv1_matroska.proofs.Beginnings.{end_refused, no_tracks, other_element}
use Rattle.ffv1_matroska.proofs.Steps.{fewer}
use Rattle.ffv1_reads.proofs.Rooms.{room_none, room_or_none, room_then}
use Rattle.ffv1_reads.proofs.EndReadings.{some_read}
use Rattle.ffv1_reads.proofs.OffsetLaws.{counts_more, reads_none}
use Rattle.ffv1_matroska.specs.Offsets.{InSegment, spot_taken}
use Rattle.ffv1_matroska.proofs.SpotReadings.{cluster_refused as spot_refused}
use Rattle.ffv1_matroska.proofs.SpotReadings.{end_refused as spots_end, entered_amount, header_left}
use Rattle.ffv1_matroska.proofs.SpotReadings.{header_refused, opening_stops, section_refused}
use Rattle.ffv1_matroska.proofs.SpotReadings.{spot_begins, spot_read}
use Rattle.ffv1_matroska.proofs.ScaleWalks.{known_none, scale_ends, scale_goes, scale_stops}
use Rattle.ffv1_matroska.proofs.beginning.read_beginning.Goals as goal

pub loop-element-init : goal.loop-element-init
loop-element-init g c = (
  amount c.args.here.now,
  omega arith,
  goes_none (begin_from (found_kept c.args.known c.args.config.now.items) c.args.here.now)
      (g.R.ByteIn.remaining c.args.input.now) (g.R.ByteIn.failures c.args.input.now),
  room_none _ _,
  0,
  reads_none spot_taken
      (InSegment (found_kept c.args.known c.args.config.now.items) c.args.here.now) _,
  λ flat. (flat, omega arith),
  room_none _ _,
  known_none _ (λ text rest. scale_from c.args.scale.now c.args.here.now text
      ≡ scale_from c.args.scale.now c.args.here.now rest) (λ text. refl),
)

pub returns-in_err-element-clause-answer : goal.returns-in_err-element-clause-answer
unfolding begin_up_to
returns-in_err-element-clause-answer g c =
    let p = err_from_is_err_and c.from_residual.result c.from_residual.ensures.1 in
    let inv = c.loop-element.invariant in
    let here = c.loop-element.here in
    let found = found_kept c.loop-element.found c.loop-element.config.items in
    rw (p.1, p.2) (closes_refused fault.NoTracks Over (header_read here)
    (element_or_begun (begin_up_to inv.0) found here) _ _ c.in_err-element.field-0.0
    (closes (begin_up_to inv.0) found here) inv.2 c.in_err-element.ensures.answer)

pub returns-in_default-found-clause-answer : goal.returns-in_default-found-clause-answer
unfolding begin_up_to
returns-in_default-found-clause-answer g c =
    let inv = c.loop-element.invariant in
    let here = c.loop-element.here in
    let e = c.in-Some.element in
    let on = begin_up_to inv.0 in
    let goes = rw c.in_default-found.is at inv.2 in
    let next = none_read (header_read here) (element_or_begun on None here) _ _ e goes
    (rw c.in-Some.is at c.in_ok-element.ensures.answer) in
    let is : (e.ident == cluster) ≡ true = eq-eqb _ _
    (omega (arith, c.if-element-eq-CLUSTER.true)) in
    inl (goes_fault fault.NoTracks (goes_same _ (refused fault.NoTracks)
    (cluster_refused on here e is) next) (refl, faults_here (Track × Place) fault.NoTracks _))

pub returns-then-element-eq-CLUSTER-clause-answer :
    goal.returns-then-element-eq-CLUSTER-clause-answer
unfolding begin_up_to
returns-then-element-eq-CLUSTER-clause-answer g c =
    let inv = c.loop-element.invariant in
    let here = c.loop-element.here in
    let e = c.in-Some.element in
    let on = begin_up_to inv.0 in
    let track = track_kept c.in-Some-found.numbers c.loop-element.config.items in
    let goes = rw c.in-Some-found.is at inv.2 in
    let next = none_read (header_read here) (element_or_begun on (Some track) here) _ _ e goes
    (rw c.in-Some.is at c.in_ok-element.ensures.answer) in
    let is : (e.ident == cluster) ≡ true = eq-eqb _ _
    (omega (arith, c.if-element-eq-CLUSTER.true)) in
    let place = in_cluster (segment_at here false e.left) e.size in
    let read = goes_given (track, place) (goes_same _ (given (track, place))
    (cluster_given on track here e is) next) in
    rw (c.in_cluster.ensures, c.segment_at-after.ensures) (read.0, inl read.1)

pub returns-in_err-found-clause-answer : goal.returns-in_err-found-clause-answer
unfolding begin_up_to
returns-in_err-found-clause-answer g c =
    let p = err_from_is_err_and c.from_residual-in_err-found.result
    c.from_residual-in_err-found.ensures.1 in
    let inv = c.loop-element.invariant in
    let here = c.loop-element.here in
    let e = c.in-Some.element in
    let on = begin_up_to inv.0 in
    let found = found_kept c.loop-element.found c.loop-element.config.items in
    let next = none_read (header_read here) (element_or_begun on found here) _ _ e inv.2
    (rw c.in-Some.is at c.in_ok-element.ensures.answer) in
    let other : (e.ident == cluster) ≡ false = ne_eqb _ _
    (λ z. omega (arith, z, c.if-element-eq-CLUSTER.false)) in
    let after = segment_at here false e.left in
    rw (p.1, p.2) (faults_refused fault.NoTracks Over (tracks_or_passed found e.ident e.size)
    (λ now. on now after) _ _ c.in_err-found.field-0.0
    (goes_same _ (tracks_or_passed found e.ident e.size >>= λ now. on now after)
    (other_element on found here e other) next) c.in_err-found.ensures.answer)

pub loop-element-preserved : goal.loop-element-preserved
unfolding begin_up_to
loop-element-preserved g c =
    let inv = c.loop-element.invariant in
    let here = c.loop-element.here in
    let e = c.in-Some.element in
    let on = begin_up_to inv.0 in
    let found = found_kept c.loop-element.found c.loop-element.config.items in
    let now = found_kept c.in_ok-found.found c.visit.new.config.items in
    let next = none_read (header_read here) (element_or_begun on found here) _ _ e inv.2
    (rw c.in-Some.is at c.in_ok-element.ensures.answer) in
    let other : (e.ident == cluster) ≡ false = ne_eqb _ _
    (λ z. omega (arith, z, c.if-element-eq-CLUSTER.false)) in
    let after = segment_at here false e.left in
    let passed = goes_same _ (tracks_or_passed found e.ident e.size >>= λ now. on now after)
    (other_element on found here e other) next in
    let visited = goes_read (tracks_or_passed found e.ident e.size) (λ now. on now after) _ _ now
    passed c.in_ok-found.ensures.answer in
    let within = rw c.in-Some.is at c.in_ok-element.ensures.within in
    let some = rw c.in-Some.is at c.in_ok-element.ensures.some in
    let f = fewer inv.0 (amount after) (amount here) inv.1 (omega (arith, within.0, some)) in
    let header = some_read (header_read here) _ _ e
    (rw c.in-Some.is at c.in_ok-element.ensures.answer).1 in
    let step = spot_read found now here e other header c.in_ok-found.ensures.answer.1 in
    let left = header_left here e header in
    rw c.segment_at-after.ensures (
      f.0,
      f.1,
      rw f.2 at visited,
      room_then inv.3
          (room_then (room_or_none (header_read here) _ _ _ _ c.in_ok-element.ensures.answer.1)
          c.in_ok-found.ensures.grown),
      _,
      counts_more inv.5 step,
      λ flat.
          (let before = inv.6 flat in (refl, omega (arith, left, before.0, before.1))),
      room_then inv.7
          (room_then (room_or_none (header_read here) _ _ _ _ c.in_ok-element.ensures.answer.1)
          c.in_ok-found.ensures.kept),
      rw f.2 at (scale_goes inv.0 _ _ here e other found now _ _ _ _ _ inv.8 header
          c.in_ok-found.ensures.answer.1 c.in_ok-found.ensures.scale),
    )

pub returns-in_default-found-2-clause-answer : goal.returns-in_default-found-2-clause-answer
unfolding begin_up_to
returns-in_default-found-2-clause-answer g c =
    let inv = c.loop-element.invariant in
    let here = c.loop-element.here in
    let on = begin_up_to inv.0 in
    let goes = rw c.in_default-found-2.is at inv.2 in
    no_tracks Over (closes_fault (header_read here) (element_or_begun on None here) _ _
    fault.NoTracks (end_refused on here) goes
    (rw c.in_default.is at c.in_ok-element.ensures.answer))

pub returns-clause-answer : goal.returns-clause-answer
unfolding begin_up_to
returns-clause-answer g c =
    let inv = c.loop-element.invariant in
    let here = c.loop-element.here in
    let on = begin_up_to inv.0 in
    let track = track_kept c.in-Some-found-2.numbers c.loop-element.config.items in
    let goes = rw c.in-Some-found-2.is at inv.2 in
    rw c.ended.ensures (closes_given Over (header_read here) (element_or_begun on (Some track) here)
    _ _ (track, ended) refl (end_given on track here) goes
    (rw c.in_default.is at c.in_ok-element.ensures.answer))

pub returns-then-element-eq-CLUSTER-clause-grown : goal.returns-then-element-eq-CLUSTER-clause-grown
returns-then-element-eq-CLUSTER-clause-grown g c = room_then c.loop-element.invariant.3
    (room_or_none (header_read c.loop-element.here) _ _ _ _ c.in_ok-element.ensures.answer.1)

pub returns-clause-grown : goal.returns-clause-grown
returns-clause-grown g c = room_then c.loop-element.invariant.3
    (room_or_none (header_read c.loop-element.here) _ _ _ _ c.in_ok-element.ensures.answer.1)

pub returns-then-element-eq-CLUSTER-clause-kept : goal.returns-then-element-eq-CLUSTER-clause-kept
returns-then-element-eq-CLUSTER-clause-kept g c = room_then c.loop-element.invariant.7
    (room_or_none (header_read c.loop-element.here) _ _ _ _ c.in_ok-element.ensures.answer.1)

pub returns-clause-kept : goal.returns-clause-kept
returns-clause-kept g c = room_then c.loop-element.invariant.7
    (room_or_none (header_read c.loop-element.here) _ _ _ _ c.in_ok-element.ensures.answer.1)

pub returns-in_err-element-clause-from : goal.returns-in_err-element-clause-from
returns-in_err-element-clause-from g c =
    let p = err_from_is_err_and c.from_residual.result c.from_residual.ensures.1 in
    let inv = c.loop-element.invariant in
    let f = c.in_err-element.field-0.0 in
    let found = found_kept c.loop-element.found c.loop-element.config.items in
    rw (p.1, p.2) (
      found,
      inv.4,
      opening_stops _ f inv.2.same inv.5
          (header_refused found c.loop-element.here _ _ _ _ f c.in_err-element.ensures.answer),
      λ flat. (inv.6 flat).1,
    )

pub returns-in_default-found-clause-from : goal.returns-in_default-found-clause-from
returns-in_default-found-clause-from g c =
    let inv = c.loop-element.invariant in
    let here = c.loop-element.here in
    let e = c.in-Some.element in
    let answer = rw c.in-Some.is at c.in_ok-element.ensures.answer in
    let is : (e.ident == cluster) ≡ true = eq-eqb _ _
    (omega (arith, c.if-element-eq-CLUSTER.true)) in
    let before = rw c.in_default-found.is at inv.5 in (
      None,
      inv.4,
      opening_stops _ fault.NoTracks inv.2.same before
          (spot_refused here e _ _ _ _ is (answer.0, some_read (header_read here) _ _ e answer.1)),
      λ flat. (inv.6 flat).1,
    )

pub returns-then-element-eq-CLUSTER-clause-from : goal.returns-then-element-eq-CLUSTER-clause-from
returns-then-element-eq-CLUSTER-clause-from g c =
    let inv = c.loop-element.invariant in
    let here = c.loop-element.here in
    let e = c.in-Some.element in
    let track = track_kept c.in-Some-found.numbers c.loop-element.config.items in
    let header = some_read (header_read here) _ _ e
    (rw c.in-Some.is at c.in_ok-element.ensures.answer).1 in
    let is : (e.ident == cluster) ≡ true = eq-eqb _ _
    (omega (arith, c.if-element-eq-CLUSTER.true)) in
    let before = rw c.in-Some-found.is at inv.5 in
    let left = header_left here e header in
    let entered = entered_amount here e.left e.size in
    rw (c.in_cluster.ensures, c.segment_at-after.ensures) (
      _,
      inl (counts_more before (spot_begins track here e is header)),
      λ flat.
          (let now = inv.6 flat in omega (arith, left, entered, now.0, now.1)),
    )

pub returns-in_err-found-clause-from : goal.returns-in_err-found-clause-from
returns-in_err-found-clause-from g c =
    let p = err_from_is_err_and c.from_residual-in_err-found.result
    c.from_residual-in_err-found.ensures.1 in
    let inv = c.loop-element.invariant in
    let here = c.loop-element.here in
    let e = c.in-Some.element in
    let f = c.in_err-found.field-0.0 in
    let found = found_kept c.loop-element.found c.loop-element.config.items in
    let answer = rw c.in-Some.is at c.in_ok-element.ensures.answer in
    let other : (e.ident == cluster) ≡ false = ne_eqb _ _
    (λ z. omega (arith, z, c.if-element-eq-CLUSTER.false)) in
    rw (p.1, p.2) (
      found,
      inv.4,
      opening_stops _ f inv.2.same inv.5
          (section_refused found here e _ _ _ _ _ _ f other
          (answer.0, some_read (header_read here) _ _ e answer.1) c.in_err-found.ensures.answer),
      λ flat. (inv.6 flat).1,
    )

pub returns-in_default-found-2-clause-from : goal.returns-in_default-found-2-clause-from
returns-in_default-found-2-clause-from g c =
    let inv = c.loop-element.invariant in
    let before = rw c.in_default-found-2.is at inv.5 in (
      None,
      inv.4,
      opening_stops _ fault.NoTracks inv.2.same before
          (spots_end c.loop-element.here _ _ _ _
          (rw c.in_default.is at c.in_ok-element.ensures.answer)),
      λ flat. (inv.6 flat).1,
    )

pub returns-clause-from : goal.returns-clause-from
returns-clause-from g c =
    let inv = c.loop-element.invariant in
    let before = rw c.in-Some-found-2.is at inv.5 in
    let answer = rw c.in_default.is at c.in_ok-element.ensures.answer in (
      inv.4,
      inr (
        c.ended.ensures,
        record { here = c.loop-element.here; between = _; before = before; none = answer.1 },
      ),
      λ flat. (inv.6 flat).1,
    )

pub returns-then-element-eq-CLUSTER-clause-scale : goal.returns-then-element-eq-CLUSTER-clause-scale
returns-then-element-eq-CLUSTER-clause-scale g c =
    let inv = c.loop-element.invariant in
    let here = c.loop-element.here in
    let e = c.in-Some.element in
    let header = some_read (header_read here) _ _ e
    (rw c.in-Some.is at c.in_ok-element.ensures.answer).1 in
    let is : (e.ident == cluster) ≡ true = eq-eqb _ _
    (omega (arith, c.if-element-eq-CLUSTER.true)) in
    scale_stops inv.0 _ here _ _ _ _ inv.8 e is header

pub returns-clause-scale : goal.returns-clause-scale
returns-clause-scale g c =
    let inv = c.loop-element.invariant in
    let answer = rw c.in_default.is at c.in_ok-element.ensures.answer in
    scale_ends inv.0 _ c.loop-element.here _ _ _ _ inv.8 answer.1
