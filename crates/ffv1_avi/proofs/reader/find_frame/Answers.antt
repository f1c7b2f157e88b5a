-- The size of the next frame, and the place after its header; None at the end.
use Rattle.std.proofs.Common.{rules, arith, ◌≡◌, ◌<◌, ◌++◌, [], None, Some, true, false, ◌∙◌, refl, sym}
use Rattle.std.proofs.lemmas.Result.{err_from_is_err_and}
use Rattle.ffv1_avi.specs.Files.{found_or_on, frame_found, moved, movi_found, sought_on}
use Rattle.ffv1_avi.specs.Files.{stepped}
use Rattle.ffv1_avi.specs.Offsets.{movi_left}
use Rattle.ffv1_avi.specs.Opens.{Step, open_found}
use Rattle.ffv1_avi.specs.declared.place.Extent.TheVariants.{EveryRiff}
use Rattle.ffv1_avi.proofs.ChunkReadings.{begins_starts}
use Rattle.ffv1_avi.proofs.OpenReadings.{open_next, open_over, open_refused, open_starts}
use Rattle.ffv1_avi.specs.Places.{extent_of, is_open}
use Rattle.ffv1_reads.specs.Reads.{◌>>=◌}
use Rattle.ffv1_avi.proofs.EndReadings.{none_ends, none_given, none_read, none_refused}
use Rattle.ffv1_avi.proofs.EndReadings.{none_refused_end, read_extent, refused_extent, some_read}
use Rattle.ffv1_avi.proofs.Moves.{beyond_first, beyond_open, beyond_sized, extent_every, frame_step}
use Rattle.ffv1_avi.proofs.Moves.{is_sized, moved_less, step_input, step_less}
use Rattle.ffv1_reads.proofs.Reading.{goes_none, goes_read, goes_same}
use Rattle.ffv1_avi.proofs.RiffReadings.{ends_open, reads_still, stops_here, stops_then, tells_same, tells_then}
use Rattle.ffv1_avi.proofs.RiffReadings.{up_to_then}
use Rattle.ffv1_avi.proofs.EndReadings.{none_err}
use Rattle.ffv1_avi.proofs.reader.find_frame.Goals as goal

pub returns-in_err-size-clause-answer : goal.returns-in_err-size-clause-answer
returns-in_err-size-clause-answer g c = none_err _ _ _ _ _ _ c.from_residual.ensures.1
    (none_refused (extent_of c.args.place) _ _ _ _ _ (goes_same _ _
    (frame_step c.loop-size.place) c.loop-size.invariant.0) c.in_err-size.ensures.answer)

pub returns-in-Some-clause-answer : goal.returns-in-Some-clause-answer
returns-in-Some-clause-answer g c = rw c.frame_at.ensures (none_given (extent_of c.args.place) _
    (goes_read _ _ _ _ _ (goes_same _ _ (frame_step c.loop-size.place) c.loop-size.invariant.0)
    (rw c.in-Some.is at c.in_ok-size.ensures.answer)))

pub returns-then-place-eq0-clause-answer : goal.returns-then-place-eq0-clause-answer
returns-then-place-eq0-clause-answer g c =
    let place = c.loop-size.place in
    let here = goes_read _ _ _ _ _ (goes_same _ _
    (frame_step c.loop-size.place) c.loop-size.invariant.0)
    (rw c.in_default.is at c.in_ok-size.ensures.answer) in
    let none : place.input ≡ 0 = search rules in
    none_given (extent_of c.args.place) None
    (goes_same _ _ (beyond_first place.open_in frame_found place none) here)

pub returns-in_err-next-clause-answer : goal.returns-in_err-next-clause-answer
returns-in_err-next-clause-answer g c =
    let place = c.loop-size.place in
    let shut : is_open place.open_in ≡ false = search rules in
    let here = goes_same _ _ (beyond_sized place (is_sized place.open_in shut))
    (goes_read _ _ _ _ _ (goes_same _ _
    (frame_step c.loop-size.place) c.loop-size.invariant.0)
    (rw c.in_default.is at c.in_ok-size.ensures.answer)) in
    let why = refused_extent (extent_of place) (extent_of c.args.place)
    (moved place) _ _ _ _ _ c.loop-size.invariant.1 c.in_err-next.ensures.answer in
    none_err _ _ _ _ _ _ c.from_residual-in_err-next.ensures.1
    (none_refused_end (extent_of c.args.place) (moved place) (sought_on frame_found) _ _ _
    (λ text. refl) here why)

pub returns-in_default-2-clause-answer : goal.returns-in_default-2-clause-answer
returns-in_default-2-clause-answer g c =
    let place = c.loop-size.place in
    let shut : is_open place.open_in ≡ false = search rules in
    let here = goes_same _ _ (beyond_sized place (is_sized place.open_in shut))
    (goes_read _ _ _ _ _ (goes_same _ _
    (frame_step c.loop-size.place) c.loop-size.invariant.0)
    (rw c.in_default.is at c.in_ok-size.ensures.answer)) in
    let end = rw c.in_default-2.is at c.in_ok-next.ensures.answer in
    none_ends (extent_of c.args.place) (moved place) (sought_on frame_found) _ _
    (λ text. refl) here (
      end.0,
      read_extent (extent_of place) (extent_of c.args.place)
          (moved place) _ _ None c.loop-size.invariant.1 end.1,
    )

pub loop-size-smaller-then-not-open_ended : goal.loop-size-smaller-then-not-open_ended
loop-size-smaller-then-not-open_ended g c =
    let place = c.loop-size.place in
    let next = c.in-Some-2.next in
    let read = some_read (extent_of place) (moved place) _ _ next
    (rw c.in-Some-2.is at c.in_ok-next.ensures.answer).1 in
    (moved_less place next (read.bytes ++ []) [] (read.is [])).0

pub loop-size-preserved-then-not-open_ended : goal.loop-size-preserved-then-not-open_ended
loop-size-preserved-then-not-open_ended g c =
    let place = c.loop-size.place in
    let next = c.in-Some-2.next in
    let answer = rw c.in-Some-2.is at c.in_ok-next.ensures.answer in
    let read = some_read (extent_of place) (moved place) _ _ next answer.1 in
    let start = goes_same _ (movi_found place.names place.movi >>= found_or_on frame_found place)
    (frame_step place) c.loop-size.invariant.0 in
    let shut : is_open place.open_in ≡ false = search rules in
    let here = goes_same _ _ (beyond_sized place (is_sized place.open_in shut))
    (goes_read (movi_found place.names place.movi) (found_or_on frame_found place) _ _
    None start (rw c.in_default.is at c.in_ok-size.ensures.answer)) in
    let less = moved_less place next (read.bytes ++ []) [] (read.is []) in (
      none_read (extent_of place) (moved place) (sought_on frame_found) _ _ next here answer,
      less.1 ∙ c.loop-size.invariant.1,
      less.2 ∙ c.loop-size.invariant.2,
      up_to_then c.loop-size.invariant.3 (up_to_then
          (rw c.in_default.is at c.in_ok-size.ensures.from)
          (rw c.in-Some-2.is at c.in_ok-next.ensures.from)),
    )

pub returns-in_err-frame-clause-answer : goal.returns-in_err-frame-clause-answer
returns-in_err-frame-clause-answer g c =
    let place = c.loop-size.place in
    let unknown : is_open place.open_in ≡ true = search rules in
    let some : 0 < place.input = search rules in
    let here = goes_same _ _ (beyond_open place unknown)
    (goes_read _ _ _ _ _ (goes_same _ _
    (frame_step c.loop-size.place) c.loop-size.invariant.0)
    (rw c.in_default.is at c.in_ok-size.ensures.answer)) in
    let every : EveryRiff ≡ extent_of c.args.place =
    sym (extent_every place (λ e. omega (arith, e, some))) ∙ c.loop-size.invariant.1 in
    let why = refused_extent EveryRiff (extent_of c.args.place)
    (open_found place) _ _ _ _ _ every c.in_err-frame.ensures.answer in
    none_err _ _ _ _ _ _ c.from_residual-in_err-frame.ensures.1
    (none_refused_end (extent_of c.args.place) (open_found place) (stepped frame_found) _ _ _
    (λ text. refl) here why)

pub returns-in_default-3-clause-answer : goal.returns-in_default-3-clause-answer
returns-in_default-3-clause-answer g c =
    let place = c.loop-size.place in
    let unknown : is_open place.open_in ≡ true = search rules in
    let some : 0 < place.input = search rules in
    let here = goes_same _ _ (beyond_open place unknown)
    (goes_read _ _ _ _ _ (goes_same _ _
    (frame_step c.loop-size.place) c.loop-size.invariant.0)
    (rw c.in_default.is at c.in_ok-size.ensures.answer)) in
    let every : EveryRiff ≡ extent_of c.args.place =
    sym (extent_every place (λ e. omega (arith, e, some))) ∙ c.loop-size.invariant.1 in
    let end = rw c.in_default-3.is at c.in_ok-frame.ensures.answer in
    none_ends (extent_of c.args.place) (open_found place) (stepped frame_found) _ _
    (λ text. refl) here
    (end.0, read_extent EveryRiff (extent_of c.args.place) (open_found place) _ _ None every end.1)

pub returns-in-Some-frame-clause-answer : goal.returns-in-Some-frame-clause-answer
returns-in-Some-frame-clause-answer g c =
    let place = c.loop-size.place in
    let unknown : is_open place.open_in ≡ true = search rules in
    let here = goes_same _ _ (beyond_open place unknown)
    (goes_read _ _ _ _ _ (goes_same _ _
    (frame_step c.loop-size.place) c.loop-size.invariant.0)
    (rw c.in_default.is at c.in_ok-size.ensures.answer)) in
    let step : Step = (Some c.in-Some-frame.size, c.in-Some-3.next) in
    let answer = rw c.in-Some-frame.is at (rw c.in-Some-3.is at c.in_ok-frame.ensures.answer) in
    none_given (extent_of c.args.place) (Some (c.in-Some-frame.size, c.in-Some-3.next))
    (none_read EveryRiff (open_found place) (stepped frame_found) _ _ step here answer)

pub step_size-requires : goal.step_size-requires
step_size-requires g c =
    let place = c.loop-size.place in
    let step : Step = (c.in-Some-3.frame, c.in-Some-3.next) in
    let read = some_read EveryRiff (open_found place) _ _ step
    (rw c.in-Some-3.is at c.in_ok-frame.ensures.answer).1 in
    let less = step_input place (read.bytes ++ []) step [] (read.is []) in
    omega (arith, less.0)

pub loop-size-smaller : goal.loop-size-smaller
loop-size-smaller g c =
    let place = c.loop-size.place in
    let step : Step = (c.in-Some-3.frame, c.in-Some-3.next) in
    let read = some_read EveryRiff (open_found place) _ _ step
    (rw c.in-Some-3.is at c.in_ok-frame.ensures.answer).1 in
    (step_less place (read.bytes ++ []) step [] (read.is [])).0

pub loop-size-preserved : goal.loop-size-preserved
loop-size-preserved g c =
    let place = c.loop-size.place in
    let unknown : is_open place.open_in ≡ true = search rules in
    let some : 0 < place.input = search rules in
    let next = c.in-Some-3.next in
    let step : Step = (None, next) in
    let answer = rw c.in_default-frame.is at (rw c.in-Some-3.is at c.in_ok-frame.ensures.answer) in
    let read = some_read EveryRiff (open_found place) _ _ step answer.1 in
    let start = goes_same _ (movi_found place.names place.movi >>= found_or_on frame_found place)
    (frame_step place) c.loop-size.invariant.0 in
    let here = goes_same _ _ (beyond_open place unknown)
    (goes_read (movi_found place.names place.movi) (found_or_on frame_found place) _ _
    None start (rw c.in_default.is at c.in_ok-size.ensures.answer)) in
    let less = step_less place (read.bytes ++ []) step [] (read.is []) in (
      none_read EveryRiff (open_found place) (stepped frame_found) _ _ step here answer,
      less.1 ∙ c.loop-size.invariant.1,
      less.2 ∙ c.loop-size.invariant.2,
      open_next place next unknown some
          (up_to_then c.loop-size.invariant.3 (rw c.in_default.is at c.in_ok-size.ensures.from))
          read (rw c.step_size.ensures at c.saturating_add.ensures),
    )

pub loop-size-init : goal.loop-size-init
loop-size-init g c = (
  goes_none (frame_found c.args.place) (g.R.ByteIn.remaining c.args.input.now)
      (g.R.ByteIn.failures c.args.input.now),
  refl,
  refl,
  reads_still,
)

pub returns-in_err-size-clause-from : goal.returns-in_err-size-clause-from
returns-in_err-size-clause-from g c =
    let p = err_from_is_err_and c.from_residual.result c.from_residual.ensures.1 in
    let inv = c.loop-size.invariant in
    rw (p.1, p.2) (stops_then c.in_err-size.field-0.0 inv.0.same inv.3 c.in_err-size.ensures.from)

pub returns-in-Some-clause-from : goal.returns-in-Some-clause-from
returns-in-Some-clause-from g c =
    let from = rw c.in-Some.is at c.in_ok-size.ensures.from in
    let starts = begins_starts from.0 c.in-Some.size c.in-Some.left _ _ from.2 in
    rw (c.frame_at.ensures, ← from.3)
    (from.0, from.1, starts, up_to_then c.loop-size.invariant.3 from.4)

pub returns-in_err-frame-clause-from : goal.returns-in_err-frame-clause-from
returns-in_err-frame-clause-from g c =
    let place = c.loop-size.place in
    let unknown : is_open place.open_in ≡ true = search rules in
    let some : 0 < place.input = search rules in
    let p = err_from_is_err_and c.from_residual-in_err-frame.result
    c.from_residual-in_err-frame.ensures.1 in
    let inv = c.loop-size.invariant in
    let f = c.in_err-frame.field-0.0 in
    rw (p.1, p.2) (stops_then f inv.0.same inv.3
    (stops_then f (rw c.in_default.is at c.in_ok-size.ensures.answer).0
    (rw c.in_default.is at c.in_ok-size.ensures.from)
    (stops_here f (open_refused place _ _ _ _ f unknown some c.in_err-frame.ensures.answer))))

pub returns-in-Some-frame-clause-from : goal.returns-in-Some-frame-clause-from
returns-in-Some-frame-clause-from g c =
    let place = c.loop-size.place in
    let unknown : is_open place.open_in ≡ true = search rules in
    let some : 0 < place.input = search rules in
    let size = c.in-Some-frame.size in
    let next = c.in-Some-3.next in
    let step : Step = (Some size, next) in
    let answer = rw c.in-Some-frame.is at (rw c.in-Some-3.is at c.in_ok-frame.ensures.answer) in
    let read = some_read EveryRiff (open_found place) _ _ step answer.1 in (
      movi_left place 0,
      _,
      open_starts place size next _ _ unknown some read,
      up_to_then c.loop-size.invariant.3 (rw c.in_default.is at c.in_ok-size.ensures.from),
    )

pub returns-in_err-next-clause-from : goal.returns-in_err-next-clause-from
returns-in_err-next-clause-from g c =
    let p = err_from_is_err_and c.from_residual-in_err-next.result
    c.from_residual-in_err-next.ensures.1 in
    let inv = c.loop-size.invariant in
    let f = c.in_err-next.field-0.0 in
    rw (p.1, p.2) (stops_then f inv.0.same inv.3
    (stops_then f (rw c.in_default.is at c.in_ok-size.ensures.answer).0
    (rw c.in_default.is at c.in_ok-size.ensures.from) c.in_err-next.ensures.from))

pub returns-in-Some-clause-sized : goal.returns-in-Some-clause-sized
returns-in-Some-clause-sized g c =
    let size = rw c.in-Some.is at c.in_ok-size.ensures.sized in
    rw (← c.loop-size.invariant.2) size

pub returns-in_err-size-clause-behind : goal.returns-in_err-size-clause-behind
returns-in_err-size-clause-behind g c =
    let p = err_from_is_err_and c.from_residual.result c.from_residual.ensures.1 in rw (p.1) tt

pub returns-in_err-next-clause-behind : goal.returns-in_err-next-clause-behind
returns-in_err-next-clause-behind g c =
    let p = err_from_is_err_and c.from_residual-in_err-next.result
    c.from_residual-in_err-next.ensures.1 in
    rw (p.1) tt

pub returns-in_default-2-clause-behind : goal.returns-in_default-2-clause-behind
returns-in_default-2-clause-behind g c =
    let place = c.loop-size.place in
    let inv = c.loop-size.invariant in
    let shut : c.is_open.result ≡ false = search rules in
    let chunks = up_to_then inv.3 (rw c.in_default.is at c.in_ok-size.ensures.from) in
    λ none. rw shut (tells_same _ _ _ _ _ false (extent_of place) (extent_of c.args.place) inv.1
    (tells_then _ _ false (extent_of place) chunks
    (rw c.in_default-2.is at c.in_ok-next.ensures.behind refl)))

pub returns-in_default-3-clause-behind : goal.returns-in_default-3-clause-behind
returns-in_default-3-clause-behind g c =
    let place = c.loop-size.place in
    let inv = c.loop-size.invariant in
    let unknown : is_open place.open_in ≡ true = search rules in
    let open_ended : c.is_open.result ≡ true = search rules in
    let some : 0 < place.input = search rules in
    let every : EveryRiff ≡ extent_of c.args.place =
    sym (extent_every place (λ e. omega (arith, e, some))) ∙ inv.1 in
    let chunks = up_to_then inv.3 (rw c.in_default.is at c.in_ok-size.ensures.from) in
    let end = rw c.in_default-3.is at c.in_ok-frame.ensures.answer in
    let stand = rw c.in_default-3.is at c.in_ok-frame.ensures.stand in
    λ none. rw open_ended (tells_same _ _ _ _ _ true EveryRiff (extent_of c.args.place) every
    (ends_open (movi_left place 0) unknown some refl chunks (open_over place end.1) (stand refl)))
