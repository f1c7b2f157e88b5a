-- Reads the next frame in place of what the vector has, and answers true; or false at the end. The
-- vector is then empty. Each further call answers false again, and reads nothing.
use Rattle.std.proofs.Common.{rules, ◌≡◌, ◌-◌, ◌^◌, ℕ, [], inl, refl, ◌∙◌, arith}
use Rattle.ffv1_wire.specs.Passage.{passage}
use Rattle.ffv1_reads.proofs.Reading.{consumes_none}
use Rattle.ffv1_matroska.proofs.FoundFrames.{frame_ends}
use Rattle.ffv1_matroska.proofs.FrameFaults.{frame_own}
use Rattle.ffv1_reads.specs.Offsets.{ReadsWhole}
use Rattle.ffv1_matroska.specs.Offsets.{element_taken}
use Rattle.ffv1_reads.proofs.OffsetLaws.{offset_of, reads_none, reads_take}
use Rattle.ffv1_matroska.specs.Places.{amount}
use Rattle.ffv1_matroska.specs.Cues.{cued_taken}
use Rattle.ffv1_matroska.proofs.CuedElements.{ended_none, ends_on}
use Rattle.ffv1_matroska.specs.Times.{timed_taken}
use Rattle.ffv1_matroska.proofs.SeenElements.{ends_cued, ends_timed, whole_cued, whole_timed}
use Rattle.ffv1_matroska.proofs.ElementTaken.{element_taken_takes}
use Rattle.ffv1_matroska.proofs.reader.MatroskaReader.next_frame.Goals as goal

pub returns-in-Err-clause-own : goal.returns-in-Err-clause-own
returns-in-Err-clause-own g c = rw (← c.self.view_is)
    (λ sound. frame_own c.self.inside.track c.self.inside.place _ _ _ _ c.in-Err.fault
    c.in-Err.ensures.answer)

pub returns-then-self-eq0-3-clause-answer : goal.returns-then-self-eq0-3-clause-answer
returns-then-self-eq0-3-clause-answer g c =
    let place = c.args.self.now.place in
    let segment : place.segment ≡ 0 = search rules in
    let cluster : place.cluster ≡ 0 = search rules in
    let group : place.group ≡ 0 = search rules in
    λ sound. (
      refl,
      inl (record {
        bytes = [];
        consumed = consumes_none
            (g.R.ByteIn.remaining c.args.input.now);
        is = frame_ends c.args.self.now.track.numbers place
            segment cluster group;
      }),
    )

pub passed-requires-in-Err : goal.passed-requires-in-Err
passed-requires-in-Err g c =
    let from = c.in-Err.ensures.from in
    let less = reads_take amount (element_taken_takes c.self.inside.track) from.1.before in
    omega (arith, less)

pub returns-in-Ok-Some-clause-offset : goal.returns-in-Ok-Some-clause-offset
returns-in-Ok-Some-clause-offset g c =
    let from : (n : ℕ) × ReadsWhole (element_taken c.self.inside.track) c.self.inside.place
    (g.R.ByteIn.remaining c.args.input.now) (g.R.ByteIn.remaining c.read_frame.new.input)
    c.in-Ok-Some.place n = rw c.in-Ok-Some.field-0-is at c.in-Ok-Some.ensures.from in
    let less = reads_take amount (element_taken_takes c.self.inside.track) from.1 in
    rw (← c.self.view_is, c.in-Ok-Some.place-is)
    (λ sound. (
      from.0,
      from.1,
      c.saturating_add-self-inside.ensures ∙
          rw (c.passed.ensures, c.in-Ok-Some.place-is)
          (offset_of c.self.inside.offset _ _ from.0 (2 ^ 64 - 1) less),
    ))

pub returns-in-Err-clause-offset : goal.returns-in-Err-clause-offset
returns-in-Err-clause-offset g c =
    let from = c.in-Err.ensures.from in
    let less = reads_take amount (element_taken_takes c.self.inside.track) from.1.before in
    rw (← c.self.view_is) (λ sound. (
      _,
      from.0,
      from.1,
      c.saturating_add-self-inside-in-Err.ensures
          ∙ rw c.passed-in-Err.ensures (offset_of c.self.inside.offset _ _ from.0 (2 ^ 64 - 1)
          less),
    ))

pub returns-in-Ok-Some-clause-ends : goal.returns-in-Ok-Some-clause-ends
returns-in-Ok-Some-clause-ends g c =
    let from : (n : ℕ) × ReadsWhole (element_taken c.self.inside.track) c.self.inside.place
    (g.R.ByteIn.remaining c.args.input.now) (g.R.ByteIn.remaining c.read_frame.new.input)
    c.in-Ok-Some.place n = rw c.in-Ok-Some.field-0-is at c.in-Ok-Some.ensures.from in
    let less = reads_take amount (element_taken_takes c.self.inside.track) from.1 in
    rw (← c.self.view_is, c.in-Ok-Some.place-is) (λ there more. ends_on c.self.inside.offset _ _ _
    from.0 (2 ^ 64 - 1) _ less there (c.saturating_add-self-inside.ensures ∙
    rw (c.passed.ensures, c.in-Ok-Some.place-is)
    (offset_of c.self.inside.offset _ _ from.0 (2 ^ 64 - 1) less)))

pub returns-then-self-eq0-3-clause-cued : goal.returns-then-self-eq0-3-clause-cued
returns-then-self-eq0-3-clause-cued g c =
    let place = c.self.inside.place in
    let segment : place.segment ≡ 0 = search rules in
    let cluster : place.cluster ≡ 0 = search rules in
    let group : place.group ≡ 0 = search rules in
    let track = c.self.inside.track in
    rw (← c.self.view_is) (λ sound. (
      place,
      (
        _,
        0,
        reads_none (cued_taken track) (place, c.self.inside.cued) _,
        ended_none track place _ segment cluster group,
      ),
    ))

pub returns-in-Ok-None-clause-cued : goal.returns-in-Ok-None-clause-cued
returns-in-Ok-None-clause-cued g c = rw (← c.self.view_is) (λ sound. (
  c.read_frame.new.here,
  ends_cued _ _ _ (passage g.R.ByteIn.remaining g.R.ByteIn.failures c.args.input.now
      c.read_frame.new.input) (rw c.in-Ok-None.field-0-is at c.in-Ok-None.ensures.seen),
))

pub returns-in-Ok-Some-clause-cued : goal.returns-in-Ok-Some-clause-cued
returns-in-Ok-Some-clause-cued g c = rw (← c.self.view_is, c.in-Ok-Some.place-is)
    (λ sound.
    (let seen = rw c.in-Ok-Some.field-0-is at c.in-Ok-Some.ensures.seen in
    (seen.0, whole_cued _ _ _ _ _ _ seen.1)))

pub returns-then-self-eq0-3-clause-timed : goal.returns-then-self-eq0-3-clause-timed
returns-then-self-eq0-3-clause-timed g c =
    let place = c.self.inside.place in
    let segment : place.segment ≡ 0 = search rules in
    let cluster : place.cluster ≡ 0 = search rules in
    let group : place.group ≡ 0 = search rules in
    let track = c.self.inside.track in
    rw (← c.self.view_is) (λ sound. (
      place,
      (
        _,
        0,
        reads_none (timed_taken track) (place, c.self.inside.times) _,
        ended_none track place _ segment cluster group,
      ),
    ))

pub returns-in-Ok-None-clause-timed : goal.returns-in-Ok-None-clause-timed
returns-in-Ok-None-clause-timed g c = rw (← c.self.view_is) (λ sound. (
  c.read_frame.new.here,
  ends_timed _ _ _ (passage g.R.ByteIn.remaining g.R.ByteIn.failures c.args.input.now
      c.read_frame.new.input) (rw c.in-Ok-None.field-0-is at c.in-Ok-None.ensures.seen),
))

pub returns-in-Ok-Some-clause-timed : goal.returns-in-Ok-Some-clause-timed
returns-in-Ok-Some-clause-timed g c = rw (← c.self.view_is, c.in-Ok-Some.place-is)
    (λ sound.
    (let seen = rw c.in-Ok-Some.field-0-is at c.in-Ok-Some.ensures.seen in
    (seen.0, whole_timed _ _ _ _ _ _ seen.1)))
