-- The next RIFF, or None if the frames end: whether bytes stand there is then said.
use Rattle.std.proofs.Common.{◌≡◌, ◌<◌, ℕ, List, Option, Some, None, Result, Ok, Err, IfOk, true}
use Rattle.std.proofs.Common.{false, codes, nat_lt, inl, inr, refl, sym, arith}
use Rattle.std.proofs.lemmas.Bool.{le-ltb, lt-ltb, ne_eqb}
use Rattle.ffv1_wire.specs.Passage.{Passage}
use Rattle.ffv1_avi.specs.Behind.{Stand}
use Rattle.ffv1_avi.specs.Internal.Ending.{AnswersOrNone}
use Rattle.ffv1_reads.specs.declared.fault.FileFault.{FileFault}
use Rattle.ffv1_reads.specs.Behind.{begins_file}
use Rattle.ffv1_reads.specs.declared.fault.FileFault.TheVariants as fault
use Rattle.ffv1_reads.specs.Reads.{given, refused, ◌>>=◌}
use Rattle.ffv1_reads.proofs.Answered.{answers_fault, answers_from, answers_refused, answers_same}
use Rattle.ffv1_reads.proofs.Reading.{goes_none, goes_same}
use Rattle.ffv1_avi.specs.declared.place.Extent.TheVariants.{EveryRiff}
use Rattle.ffv1_avi.specs.declared.place.Place.{Place}
use Rattle.ffv1_avi.specs.Files.{riff_begun, riff_entered, riff_named}
use Rattle.ffv1_avi.specs.Opens.{or_end, taken_or_end}
use Rattle.ffv1_avi.specs.Walk.{is_name}
use Rattle.ffv1_avi.proofs.EndReadings.{none_ends, none_err, none_given, none_last, none_read}
use Rattle.ffv1_avi.proofs.EndReadings.{none_refused_end}
use Rattle.ffv1_avi.proofs.TakenBytes.{stand_then}
use Rattle.ffv1_avi.proofs.riff.begin_riff.Goals as goal

begun : (place : Place) (text : List ℕ) → riff_begun place text ≡
    (taken_or_end 4 place.owed >>= or_end (riff_named place)) text
unfolding riff_begun
begun place text = refl

riff_is : (place : Place) (name : List ℕ) → is_name name (codes "RIFF") ≡ true → (text : List ℕ) →
    or_end (riff_named place) (Some name) text ≡ riff_entered place text
riff_is place name is text = rw is refl

file_is : (place : Place) (name : List ℕ) → is_name name (codes "RIFF") ≡ false → begins_file name ≡
    true → (text : List ℕ) → or_end (riff_named place) (Some name) text ≡
    refused fault.Another text
file_is place name other is text = rw (other, is) refl

owed_is : (place : Place) (name : List ℕ) → is_name name (codes "RIFF") ≡ false → begins_file name ≡
    false → 0 < place.owed → (text : List ℕ) → or_end (riff_named place) (Some name) text ≡
    refused fault.Truncated text
owed_is place name other none some text =
    rw (other, none, ne_eqb place.owed 0 (λ e. omega (arith, e, some))) refl

end_is : (place : Place) (name : List ℕ) → is_name name (codes "RIFF") ≡ false → begins_file name ≡
    false → place.owed ≡ 0 → (text : List ℕ) → or_end (riff_named place) (Some name) text ≡
    given None text
end_is place name other none unowed text = rw (other, none, unowed) refl

entered_told : (place : Place) (p : Passage) (a : Option (List ℕ)) (result : Result (Option Place)
    FileFault) → Stand a p.old true → AnswersOrNone EveryRiff (λ (q : Option Place). q)
    (riff_entered place) p result → IfOk result (λ o. o ≡ None → Stand a p.new true)
entered_told place p a (Ok None) stand answer = λ none.
    stand_then (riff_entered place) a p.old p.new stand answer.1
entered_told place p a (Ok (Some next)) stand answer = λ none. absurd (cc)
entered_told place p a (Err f) stand answer = tt

pub returns-in_err-n-clause-answer : goal.returns-in_err-n-clause-answer
returns-in_err-n-clause-answer g c = none_err EveryRiff _ _ _ _ _ c.from_residual.ensures.1
    (none_refused_end EveryRiff _ _ _ _ _ (λ text. refl)
    (goes_same _ _ (begun c.args.place) (goes_none _ _ _)) c.in_err-n.ensures.answer)

pub returns-then-n-lt4-clause-answer : goal.returns-then-n-lt4-clause-answer
returns-then-n-lt4-clause-answer g c = none_ends EveryRiff _ _ _ _ (λ text. refl)
    (goes_same _ _ (begun c.args.place) (goes_none _ _ _))
    (rw (lt-ltb c.in_ok-n.n 4 c.if-n-lt4.true) at c.in_ok-n.ensures.answer)

pub returns-then-is_name-clause-answer : goal.returns-then-is_name-clause-answer
returns-then-is_name-clause-answer g c =
    let place = c.args.place in
    let name = c.take_some.new.bytes in
    let here = none_read EveryRiff _ _ _ _ name (goes_same _ _ (begun place) (goes_none _ _ _))
    (rw (le-ltb c.in_ok-n.n 4 (omega (arith, c.if-n-lt4.false))) at c.in_ok-n.ensures.answer) in
    none_last EveryRiff (riff_entered place) (λ (q : Option Place). q) _ _ c.enter_riff.result
    (goes_same _ _ (riff_is place name (sym c.if-is_name.ensures)) here) c.enter_riff.ensures

pub returns-then-is_name-clause-told : goal.returns-then-is_name-clause-told
returns-then-is_name-clause-told g c =
    let more : nat_lt 0 c.in_ok-n.n ≡ true = lt-ltb 0 c.in_ok-n.n
    (omega (arith, c.if-n-lt4.false)) in
    rw more (entered_told c.args.place _ _ c.enter_riff.result
    (rw more at c.in_ok-n.ensures.stand) c.enter_riff.ensures)

pub returns-then-begins_file-clause-answer : goal.returns-then-begins_file-clause-answer
returns-then-begins_file-clause-answer g c =
    let place = c.args.place in
    let name = c.take_some.new.bytes in
    let here = none_read EveryRiff _ _ _ _ name (goes_same _ _ (begun place) (goes_none _ _ _))
    (rw (le-ltb c.in_ok-n.n 4 (omega (arith, c.if-n-lt4.false))) at c.in_ok-n.ensures.answer) in
    answers_fault fault.Another (riff_begun place) (answers_from here
    (answers_same (file_is place name (sym c.if-is_name.ensures) (sym c.if-begins_file.ensures))
    (answers_refused _ (inl refl))))

pub returns-then-place-gt0-clause-answer : goal.returns-then-place-gt0-clause-answer
returns-then-place-gt0-clause-answer g c =
    let place = c.args.place in
    let name = c.take_some.new.bytes in
    let here = none_read EveryRiff _ _ _ _ name (goes_same _ _ (begun place) (goes_none _ _ _))
    (rw (le-ltb c.in_ok-n.n 4 (omega (arith, c.if-n-lt4.false))) at c.in_ok-n.ensures.answer) in
    answers_fault fault.Truncated (riff_begun place) (answers_from here
    (answers_same (owed_is place name (sym c.if-is_name.ensures) (sym c.if-begins_file.ensures)
    (omega (arith, c.if-place-gt0.true))) (answers_refused _ (inr refl))))

pub returns-clause-answer : goal.returns-clause-answer
returns-clause-answer g c =
    let place = c.args.place in
    let name = c.take_some.new.bytes in
    let here = none_read EveryRiff _ _ _ _ name (goes_same _ _ (begun place) (goes_none _ _ _))
    (rw (le-ltb c.in_ok-n.n 4 (omega (arith, c.if-n-lt4.false))) at c.in_ok-n.ensures.answer) in
    none_given EveryRiff _ (goes_same _ _ (end_is place name (sym c.if-is_name.ensures)
    (sym c.if-begins_file.ensures) (omega (arith, c.if-place-gt0.false))) here)
