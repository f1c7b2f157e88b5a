-- Reads the elements of a Segment from a position on, up to the first Tracks: what their track
-- says, with its record in place of what the vector `config` has.
use Rattle.std.proofs.Common.{◌≡◌, ◌==◌, true, false, inl, refl, arith}
use Rattle.std.proofs.lemmas.Bool.{eq-eqb, ne_eqb}
use Rattle.std.proofs.lemmas.Result.{err_from_is_err_and}
use Rattle.ffv1_reads.specs.Reads.{given, ◌>>=◌}
use Rattle.ffv1_reads.specs.declared.fault.FileFault.TheVariants as fault
use Rattle.ffv1_reads.proofs.EndFaults.{closes_fault, closes_refused, faults_refused}
use Rattle.ffv1_reads.proofs.EndReadings.{none_read, some_read}
use Rattle.ffv1_reads.proofs.OffsetLaws.{counts_more, reads_none}
use Rattle.ffv1_reads.proofs.Reading.{goes_given, goes_none, goes_read, goes_same}
use Rattle.ffv1_reads.proofs.Rooms.{room_kept, room_none, room_or_none, room_then}
use Rattle.ffv1_matroska.specs.SalvagedAgain.{salvaged_sought}
use Rattle.ffv1_matroska.specs.Internal.{track_kept}
use Rattle.ffv1_matroska.specs.SalvagedLate.{salvaged_over, salvage_sought_up_to, salvage_sought, salvaged_or_on}
use Rattle.ffv1_matroska.specs.Opened.{tracks}
use Rattle.ffv1_matroska.specs.Salvaged.{tracks_salvaged}
use Rattle.ffv1_matroska.specs.Places.{amount, segment_at}
use Rattle.ffv1_matroska.specs.Segments.{header_read}
use Rattle.ffv1_matroska.proofs.Beginnings.{no_tracks}
use Rattle.ffv1_matroska.proofs.SoughtReadings.{Found}
use Rattle.ffv1_matroska.proofs.SoughtSalvaged.{seek_end_refused}
use Rattle.ffv1_matroska.proofs.SoughtSalvaged.{seek_header_refused, seek_over_refused, seek_stops}
use Rattle.ffv1_matroska.proofs.SoughtSalvaged.{seek_tracks_refused, sought_closes, sought_end}
use Rattle.ffv1_matroska.proofs.SoughtSalvaged.{sought_other, sought_read, sought_tracks}
use Rattle.ffv1_matroska.proofs.SpotReadings.{header_left}
use Rattle.ffv1_matroska.proofs.Steps.{fewer}
use Rattle.ffv1_matroska.proofs.late_salvage.seek_salvaged.Goals as goal

pub loop-element-init : goal.loop-element-init
loop-element-init g c = (
  amount c.args.place,
  omega arith,
  goes_none (salvage_sought c.args.place) (g.R.ByteIn.remaining c.args.input.now)
      (g.R.ByteIn.failures c.args.input.now),
  0,
  reads_none salvaged_sought c.args.place _,
  λ flat. (flat, omega arith),
  room_none _ _,
)

pub returns-in_err-element-clause-answer : goal.returns-in_err-element-clause-answer
unfolding salvage_sought_up_to
returns-in_err-element-clause-answer g c =
    let p = err_from_is_err_and c.from_residual.result c.from_residual.ensures.1 in
    let inv = c.loop-element.invariant in
    let here = c.loop-element.here in
    let on = salvage_sought_up_to inv.0 in
    rw (p.1, p.2) (closes_refused fault.NoTracks Found (header_read here) (salvaged_or_on on here)
    _ _ c.in_err-element.field-0.0 (sought_closes on here) inv.2 c.in_err-element.ensures.answer)

pub returns-in_err-numbers-clause-answer : goal.returns-in_err-numbers-clause-answer
unfolding salvage_sought_up_to
returns-in_err-numbers-clause-answer g c =
    let p = err_from_is_err_and c.from_residual-in_err-numbers.result
    c.from_residual-in_err-numbers.ensures.1 in
    let inv = c.loop-element.invariant in
    let here = c.loop-element.here in
    let e = c.in-Some.element in
    let on = salvage_sought_up_to inv.0 in
    let next = none_read (header_read here) (salvaged_or_on on here) _ _ e inv.2
    (rw c.in-Some.is at c.in_ok-element.ensures.answer) in
    let is : (e.ident == tracks) ≡ true = eq-eqb _ _
    (omega (arith, c.if-element-eq-TRACKS.true)) in
    rw (p.1, p.2) (faults_refused fault.NoTracks Found (tracks_salvaged e.size) (λ q. given q.0)
    _ _ c.in_err-numbers.field-0.0
    (goes_same _ (tracks_salvaged e.size >>= λ q. given q.0) (sought_tracks on here e is) next)
    c.in_err-numbers.ensures.answer)

pub returns-then-element-eq-TRACKS-clause-answer : goal.returns-then-element-eq-TRACKS-clause-answer
unfolding salvage_sought_up_to
returns-then-element-eq-TRACKS-clause-answer g c =
    let inv = c.loop-element.invariant in
    let here = c.loop-element.here in
    let e = c.in-Some.element in
    let on = salvage_sought_up_to inv.0 in
    let next = none_read (header_read here) (salvaged_or_on on here) _ _ e inv.2
    (rw c.in-Some.is at c.in_ok-element.ensures.answer) in
    let is : (e.ident == tracks) ≡ true = eq-eqb _ _
    (omega (arith, c.if-element-eq-TRACKS.true)) in
    let track = track_kept c.in_ok-numbers.numbers c.salvage_tracks.new.config.items in
    let read = goes_given track (goes_read (tracks_salvaged e.size) (λ q. given q.0) _ _
    (track, c.in_ok-numbers.field-0-1)
    (goes_same _ (tracks_salvaged e.size >>= λ q. given q.0) (sought_tracks on here e is) next)
    c.in_ok-numbers.ensures.answer) in
    (read.0, inl read.1)

pub returns-then-element-eq-TRACKS-clause-grown : goal.returns-then-element-eq-TRACKS-clause-grown
returns-then-element-eq-TRACKS-clause-grown g c = room_then c.loop-element.invariant.6
    (room_then (room_or_none (header_read c.loop-element.here) _ _ _ _
    c.in_ok-element.ensures.answer.1) c.in_ok-numbers.ensures.grown)

pub returns-in_err-loose-clause-answer : goal.returns-in_err-loose-clause-answer
unfolding salvage_sought_up_to
returns-in_err-loose-clause-answer g c =
    let p = err_from_is_err_and c.from_residual-in_err-loose.result
    c.from_residual-in_err-loose.ensures.1 in
    let inv = c.loop-element.invariant in
    let here = c.loop-element.here in
    let e = c.in-Some.element in
    let on = salvage_sought_up_to inv.0 in
    let next = none_read (header_read here) (salvaged_or_on on here) _ _ e inv.2
    (rw c.in-Some.is at c.in_ok-element.ensures.answer) in
    let other : (e.ident == tracks) ≡ false = ne_eqb _ _
    (λ z. omega (arith, z, c.if-element-eq-TRACKS.false)) in
    rw (p.1, p.2) (faults_refused fault.NoTracks Found (salvaged_over here.loose e.ident e.size)
    (λ loose. on (segment_at here loose e.left)) _ _ c.in_err-loose.field-0.0
    (goes_same _ (salvaged_over here.loose e.ident e.size >>= λ loose.
    on (segment_at here loose e.left)) (sought_other on here e other) next)
    c.in_err-loose.ensures)

pub loop-element-preserved : goal.loop-element-preserved
unfolding salvage_sought_up_to
loop-element-preserved g c =
    let inv = c.loop-element.invariant in
    let here = c.loop-element.here in
    let e = c.in-Some.element in
    let on = salvage_sought_up_to inv.0 in
    let loose = c.in_ok-loose.loose in
    let next = none_read (header_read here) (salvaged_or_on on here) _ _ e inv.2
    (rw c.in-Some.is at c.in_ok-element.ensures.answer) in
    let other : (e.ident == tracks) ≡ false = ne_eqb _ _
    (λ z. omega (arith, z, c.if-element-eq-TRACKS.false)) in
    let passed = goes_same _ (salvaged_over here.loose e.ident e.size >>= λ z.
    on (segment_at here z e.left)) (sought_other on here e other) next in
    let after = goes_read (salvaged_over here.loose e.ident e.size)
    (λ z. on (segment_at here z e.left)) _ _ loose passed c.in_ok-loose.ensures in
    let within = rw c.in-Some.is at c.in_ok-element.ensures.within in
    let some = rw c.in-Some.is at c.in_ok-element.ensures.some in
    let f = fewer inv.0 (amount (segment_at here loose e.left)) (amount here) inv.1
    (omega (arith, within.0, some)) in
    let header = some_read (header_read here) _ _ e
    (rw c.in-Some.is at c.in_ok-element.ensures.answer).1 in
    let step = sought_read here e loose other header c.in_ok-loose.ensures.1 in
    let left = header_left here e header in
    rw c.segment_at.ensures (
      f.0,
      f.1,
      rw f.2 at after,
      _,
      counts_more inv.4 step,
      λ flat.
          (let before = inv.5 flat in (refl, omega (arith, left, before.0, before.1))),
      room_then inv.6
          (room_then (room_or_none (header_read here) _ _ _ _ c.in_ok-element.ensures.answer.1)
          (room_kept _ c.in_ok-loose.ensures.1)),
    )

pub returns-clause-answer : goal.returns-clause-answer
unfolding salvage_sought_up_to
returns-clause-answer g c =
    let inv = c.loop-element.invariant in
    let here = c.loop-element.here in
    let on = salvage_sought_up_to inv.0 in
    no_tracks Found (closes_fault (header_read here) (salvaged_or_on on here) _ _ fault.NoTracks
    (sought_end on here) inv.2 (rw c.in_default.is at c.in_ok-element.ensures.answer))

pub returns-in_err-element-clause-from : goal.returns-in_err-element-clause-from
returns-in_err-element-clause-from g c =
    let p = err_from_is_err_and c.from_residual.result c.from_residual.ensures.1 in
    let inv = c.loop-element.invariant in
    let f = c.in_err-element.field-0.0 in
    rw (p.1, p.2) (
      inv.3,
      seek_stops _ f inv.2.same inv.4
          (seek_header_refused c.loop-element.here _ _ _ _ f c.in_err-element.ensures.answer),
      λ flat. (inv.5 flat).1,
    )

pub returns-in_err-numbers-clause-from : goal.returns-in_err-numbers-clause-from
returns-in_err-numbers-clause-from g c =
    let p = err_from_is_err_and c.from_residual-in_err-numbers.result
    c.from_residual-in_err-numbers.ensures.1 in
    let inv = c.loop-element.invariant in
    let here = c.loop-element.here in
    let e = c.in-Some.element in
    let f = c.in_err-numbers.field-0.0 in
    let answer = rw c.in-Some.is at c.in_ok-element.ensures.answer in
    let is : (e.ident == tracks) ≡ true = eq-eqb _ _
    (omega (arith, c.if-element-eq-TRACKS.true)) in
    rw (p.1, p.2) (
      inv.3,
      seek_stops _ f inv.2.same inv.4
          (seek_tracks_refused here e _ _ _ _ _ _ f
          (answer.0, some_read (header_read here) _ _ e answer.1) is
          c.in_err-numbers.ensures.answer),
      λ flat. (inv.5 flat).1,
    )

pub returns-in_err-loose-clause-from : goal.returns-in_err-loose-clause-from
returns-in_err-loose-clause-from g c =
    let p = err_from_is_err_and c.from_residual-in_err-loose.result
    c.from_residual-in_err-loose.ensures.1 in
    let inv = c.loop-element.invariant in
    let here = c.loop-element.here in
    let e = c.in-Some.element in
    let f = c.in_err-loose.field-0.0 in
    let answer = rw c.in-Some.is at c.in_ok-element.ensures.answer in
    let other : (e.ident == tracks) ≡ false = ne_eqb _ _
    (λ z. omega (arith, z, c.if-element-eq-TRACKS.false)) in
    rw (p.1, p.2) (
      inv.3,
      seek_stops _ f inv.2.same inv.4
          (seek_over_refused here e _ _ _ _ _ _ f
          (answer.0, some_read (header_read here) _ _ e answer.1) other c.in_err-loose.ensures),
      λ flat. (inv.5 flat).1,
    )

pub returns-clause-from : goal.returns-clause-from
returns-clause-from g c =
    let inv = c.loop-element.invariant in (
      inv.3,
      seek_stops _ fault.NoTracks inv.2.same inv.4
          (seek_end_refused c.loop-element.here _ _ _ _
          (rw c.in_default.is at c.in_ok-element.ensures.answer)),
      λ flat. (inv.5 flat).1,
    )

pub returns-then-element-eq-TRACKS-clause-from : goal.returns-then-element-eq-TRACKS-clause-from
returns-then-element-eq-TRACKS-clause-from g c = λ flat.
    (let all = c.loop-element.invariant.5 flat in omega (arith, all.1))
