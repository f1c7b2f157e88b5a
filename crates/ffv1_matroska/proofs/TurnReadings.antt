-- Turns, one reading after the other.
use Rattle.std.proofs.Common.{◌≡◌, ℕ, List, [], ◌∷◌, Option, Some, Result, Ok, Err, refl, arith}
use Rattle.std.specs.Io.KnownBytes.{Consumes}
use Rattle.ffv1_wire.specs.Passage.{Passage}
use Rattle.ffv1_reads.specs.declared.fault.FileFault.{FileFault}
use Rattle.ffv1_reads.specs.Ends.{AnswersOrNone}
use Rattle.ffv1_reads.specs.Reads.{Answers, Reading, given}
use Rattle.ffv1_reads.proofs.EndReadings.{none_given, none_last, none_refused}
use Rattle.ffv1_reads.proofs.Reading.{Goes, goes_none, goes_read}
use Rattle.ffv1_reads.proofs.WantedBytes.{taken_complete}
use Rattle.ffv1_ebml.proofs.TriedReadings.{tried_whole}
use Rattle.ffv1_matroska.specs.Turns.{segment_turn, some_turn, turn_after, turn_of, turn_or_end}
use Rattle.ffv1_matroska.specs.declared.course.Turn.{Turn}
use Rattle.ffv1_matroska.specs.declared.place.Place.{Place}
use Rattle.ffv1_matroska.specs.declared.track.TrackNumbers.{TrackNumbers}

-- a turn that is not the end
pub some_answers : (r : Reading Turn) (p : Passage) (result : Result Turn FileFault) → Answers (λ (t : Turn). t) r p result → AnswersOrNone (λ (t : Option Turn). t) (some_turn r) p (turn_of result)
some_answers r p (Ok t) read = none_given (Some t) (goes_read r (λ turn. given (Some turn)) p.new p.after t (goes_none (some_turn r) p.old p.before) read)
some_answers r p (Err f) why = none_refused r (λ turn. given (Some turn)) p.new p.after f (goes_none (some_turn r) p.old p.before) why

-- after other readings
pub some_last : {whole : Reading (Option Turn)} {old now : Option (List ℕ)} {before after : ℕ} (r : Reading Turn) (new : Option (List ℕ)) (last : ℕ) (result : Result Turn FileFault) → Goes whole old before (some_turn r) now after → Answers (λ (t : Turn). t) r (record { old = now; new = new; before = after; after = last }) result →
    AnswersOrNone (λ (t : Option Turn). t) whole (record { old = old; new = new; before = before; after = last }) (turn_of result)
some_last r new last result h answer = none_last (some_turn r) (λ (t : Option Turn). t) new last (turn_of result) h (some_answers r _ result answer)

-- the first byte of an element was read
pub turn_first : (track : TrackNumbers) (place : Place) (b : ℕ) (text : List ℕ) → turn_or_end track place (b ∷ text) ≡ some_turn (turn_after track b place) text
unfolding segment_turn
turn_first track place b text =
    let whole = tried_whole 4 4 (λ e. absurd (omega (arith, e))) (b ∷ text) in
    let front = taken_complete 1 (b ∷ []) text refl in
    rw (whole, front) refl

pub turn_begun : (track : TrackNumbers) (place : Place) (b : ℕ) {old mid : Option (List ℕ)} {before after : ℕ} → after ≡ before → Consumes old mid (b ∷ []) → Goes (turn_or_end track place) old before (some_turn (turn_after track b place)) mid after
turn_begun track place b same consumed = record { same = same; bytes = b ∷ []; consumed = consumed; leads = λ more. turn_first track place b more }
