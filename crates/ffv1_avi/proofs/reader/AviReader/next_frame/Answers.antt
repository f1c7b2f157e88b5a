-- Reads the next frame in place of what the vector has, and answers true; or false at the end. The
-- vector is then empty. Each further call answers false again, and reads nothing.
use Rattle.std.proofs.Common.{rules, ◌≡◌, Bool, Option, [], false, Ok, inl, refl, ap, ◌∙◌}
use Rattle.ffv1_avi.specs.Readers.{Standing, next_of, next_with}
use Rattle.ffv1_avi.specs.declared.place.Place.{Place}
use Rattle.ffv1_avi.specs.Files.{frame_read}
use Rattle.ffv1_avi.specs.Places.{extent_of}
use Rattle.ffv1_avi.proofs.EndReadings.{answers_by, refused_by}
use Rattle.ffv1_avi.proofs.Moves.{extent_first, frame_ends}
use Rattle.ffv1_avi.proofs.BehindLaws.{end_open, end_told}
use Rattle.ffv1_avi.proofs.ReadingFaults.{frame_own}
use Rattle.ffv1_reads.proofs.Reading.{consumes_none}
use Rattle.ffv1_avi.proofs.reader.AviReader.next_frame.Goals as goal

pub returns-then-self-eq0-2-clause-answer : goal.returns-then-self-eq0-2-clause-answer
returns-then-self-eq0-2-clause-answer g c =
    let place = c.args.self.now.place in
    let movi : place.movi ≡ 0 = search rules in
    let input : place.input ≡ 0 = search rules in
    λ sound. answers_by (extent_of place) _ (frame_read place) _ (Ok false) (
      refl,
      inl (record {
        bytes = [];
        consumed = consumes_none
            (g.R.ByteIn.remaining c.args.input.now);
        is = frame_ends place movi input;
      }),
    )

pub returns-in-Err-clause-own : goal.returns-in-Err-clause-own
returns-in-Err-clause-own g c = rw (← c.self.view_is)
    (λ sound. frame_own c.self.inside.place _ _ c.in-Err.fault c.in-Err.ensures.answer)

pub returns-in-Ok-Some-clause-offset : goal.returns-in-Ok-Some-clause-offset
returns-in-Ok-Some-clause-offset g c = rw (← c.self.view_is, c.in-Ok-Some.place-is)
    (λ sound. rw c.in-Ok-Some.field-0-is at c.in-Ok-Some.ensures.from)

pub returns-in-Err-clause-offset : goal.returns-in-Err-clause-offset
returns-in-Err-clause-offset g c = rw (← c.self.view_is) (λ sound. c.in-Err.ensures.from)

pub returns-in-Err-clause-answer : goal.returns-in-Err-clause-answer
returns-in-Err-clause-answer g c =
    let place = c.self.inside.place in
    let bytes = c.read_frame.new.frame.items in
    rw (← c.self.view_is) (λ sound. refused_by (extent_of place)
    (λ (after : Option Place). next_with bytes after)
    (λ (more : Bool). next_of more bytes place) (frame_read place) _ c.in-Err.fault
    c.in-Err.ensures.answer)

pub returns-in-Ok-None-clause-behind : goal.returns-in-Ok-None-clause-behind
returns-in-Ok-None-clause-behind g c = rw (← c.self.view_is) (λ sound.
    end_told (extent_of c.self.inside.place) _ _ _ _ _ _
    (rw c.in-Ok-None.field-0-is at c.in-Ok-None.ensures.behind refl))

pub returns-in-Ok-None-clause-open_ended : goal.returns-in-Ok-None-clause-open_ended
returns-in-Ok-None-clause-open_ended g c = rw (← c.self.view_is) (λ sound.
    end_open (extent_of c.self.inside.place) _ _ _ _ _ _
    (rw c.in-Ok-None.field-0-is at c.in-Ok-None.ensures.behind refl))

pub returns-then-self-eq0-2-clause-open_ended : goal.returns-then-self-eq0-2-clause-open_ended
returns-then-self-eq0-2-clause-open_ended g c =
    let place = c.args.self.now.place in
    let input : place.input ≡ 0 = search rules in
    λ sound. rw (extent_first place input)
    (λ none. ap (λ (v : Standing). v.open_ended) c.self.view_is ∙ none)

pub returns-then-self-eq0-2-clause-behind : goal.returns-then-self-eq0-2-clause-behind
returns-then-self-eq0-2-clause-behind g c =
    let place = c.args.self.now.place in
    let input : place.input ≡ 0 = search rules in
    λ sound. rw (extent_first place input)
    (λ none. ap (λ (v : Standing). v.after) c.self.view_is ∙ none)
