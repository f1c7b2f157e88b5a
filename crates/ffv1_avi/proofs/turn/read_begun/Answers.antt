-- The next RIFF; None if the frames end.
use Rattle.std.proofs.Common.{◌≡◌, ℕ, List, Option, None, Some, Result, Ok, Err, IfOk, nat_lt, true, codes, refl, sym, arith}
use Rattle.std.proofs.lemmas.Bool.{le-ltb, lt-ltb}
use Rattle.ffv1_wire.specs.Passage.{Passage}
use Rattle.ffv1_reads.specs.declared.fault.FileFault.{FileFault}
use Rattle.ffv1_avi.specs.Behind.{Stand}
use Rattle.ffv1_avi.specs.Internal.Ending.{AnswersOrNone}
use Rattle.ffv1_avi.specs.declared.place.Place.{Place}
use Rattle.ffv1_avi.proofs.TakenBytes.{stand_then}
use Rattle.ffv1_reads.proofs.Reading.{goes_none, goes_same}
use Rattle.ffv1_avi.specs.Internal.Hears.{begun_named_turn, begun_turn, entered_turn}
use Rattle.ffv1_avi.specs.Opens.{or_end, taken_or_end}
use Rattle.ffv1_avi.specs.Walk.{is_name}
use Rattle.ffv1_avi.specs.declared.course.Turn.{Turn}
use Rattle.ffv1_avi.specs.declared.place.Extent.TheVariants.{EveryRiff}
use Rattle.ffv1_avi.proofs.EndReadings.{none_last, none_read}
use Rattle.ffv1_avi.proofs.turn.read_begun.Goals as goal

entered_told : (place : Place) (name : List ℕ) (p : Passage) (a : Option (List ℕ)) (result : Result
    (Option Turn) FileFault) → Stand a p.old true → AnswersOrNone EveryRiff (λ (t : Option Turn). t)
    (entered_turn place name) p result → IfOk result (λ t. t ≡ None → Stand a p.new true)
entered_told place name p a (Ok None) stand answer = λ none.
    stand_then (entered_turn place name) a p.old p.new stand answer.1
entered_told place name p a (Ok (Some turn)) stand answer = λ none. absurd (cc)
entered_told place name p a (Err f) stand answer = tt

pub returns-then-is_name-clause-told : goal.returns-then-is_name-clause-told
returns-then-is_name-clause-told g c =
    let more : nat_lt 0 c.in_ok-n.n ≡ true = lt-ltb 0 c.in_ok-n.n
    (omega (arith, c.if-n-lt4.false)) in
    rw more (entered_told c.args.place c.take_some.new.bytes _ _ c.read_entered.result
    (rw more at c.in_ok-n.ensures.stand) c.read_entered.ensures)

pub returns-then-is_name-clause-answer : goal.returns-then-is_name-clause-answer
unfolding begun_turn
returns-then-is_name-clause-answer g c =
    let place = c.args.place in
    let name = c.take_some.new.bytes in
    let answer = rw (le-ltb c.in_ok-n.n 4 (omega (arith, c.if-n-lt4.false))) at
    c.in_ok-n.ensures.answer in
    let here = none_read EveryRiff (taken_or_end 4 place.owed) (or_end (begun_named_turn place)) _ _
    name (goes_none (begun_turn place) _ _) answer in
    let test : is_name name (codes "RIFF") ≡ true = sym c.if-is_name.ensures in
    let same : (text : List ℕ) → begun_named_turn place name text ≡ entered_turn place name text =
    λ text. rw test refl in
    none_last EveryRiff (entered_turn place name) (λ (t : Option Turn). t) _ _ c.read_entered.result
    (goes_same _ _ same here) c.read_entered.ensures
