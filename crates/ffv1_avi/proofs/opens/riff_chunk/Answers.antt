-- A chunk of an RIFF without size, after its name.
use Rattle.std.proofs.Common.{◌≡◌, ◌-◌, ℕ, List, Option, true, false, sym, refl, if◌then◌else◌}
use Rattle.ffv1_avi.specs.declared.place.Extent.TheVariants.{EveryRiff}
use Rattle.ffv1_avi.specs.declared.place.Place.{Place}
use Rattle.ffv1_avi.specs.Names.{riff_rule}
use Rattle.ffv1_avi.specs.Opens.{Step, open_entry, open_in_riff, sizeless_in_riff}
use Rattle.ffv1_avi.specs.Walk.{is_sizeless, plain, sizeless_judged}
use Rattle.ffv1_reads.specs.Reads.{Reading, ◌>>=◌}
use Rattle.ffv1_reads.proofs.Answered.{answers_err, answers_first, answers_given, answers_next}
use Rattle.ffv1_reads.proofs.Answered.{answers_of, answers_ok, answers_same, answers_tail}
use Rattle.ffv1_avi.proofs.opens.riff_chunk.Goals as goal

abbrev chunk : Place → List ℕ → ℕ → Reading (Option Step)
chunk place name size =
    if is_sizeless (riff_rule EveryRiff) name size
    then (sizeless_judged (place.input - 1) name >>= sizeless_in_riff place)
    else (open_entry plain place name size >>= open_in_riff place)

bare_is : (place : Place) (name : List ℕ) (size : ℕ) → is_sizeless (riff_rule EveryRiff) name size ≡
    true → (text : List ℕ) → chunk place name size text ≡
    (sizeless_judged (place.input - 1) name >>= sizeless_in_riff place) text
bare_is place name size is text = rw is refl

sized_is : (place : Place) (name : List ℕ) (size : ℕ) → is_sizeless (riff_rule EveryRiff) name size
    ≡ false → (text : List ℕ) → chunk place name size text ≡
    (open_entry plain place name size >>= open_in_riff place) text
sized_is place name size is text = rw is refl

pub returns-in_err-entry-clause-answer : goal.returns-in_err-entry-clause-answer
returns-in_err-entry-clause-answer g c =
    answers_err _ _ _ _ c.from_residual-in_err-entry.ensures.1
    (answers_next _ c.in_ok-size.ensures (answers_same
    (bare_is c.args.place c.args.name c.in_ok-size.size (sym c.if-is_sizeless.ensures))
    (answers_first _ _ (c.in_err-entry.ensures.answer _ _))))

pub returns-then-is_sizeless-clause-answer : goal.returns-then-is_sizeless-clause-answer
returns-then-is_sizeless-clause-answer g c = answers_of _ _ _ _
    (answers_next _ c.in_ok-size.ensures (answers_same
    (bare_is c.args.place c.args.name c.in_ok-size.size (sym c.if-is_sizeless.ensures))
    (answers_next _ (c.in_ok-entry.ensures.answer _ _)
    (answers_tail _ _ _ _ c.open_movi.ensures.answer))))

pub returns-in_err-entry-2-clause-answer : goal.returns-in_err-entry-2-clause-answer
returns-in_err-entry-2-clause-answer g c =
    answers_err _ _ _ _ c.from_residual-in_err-entry-2.ensures.1
    (answers_next _ c.in_ok-size.ensures (answers_same
    (sized_is c.args.place c.args.name c.in_ok-size.size (sym c.if-is_sizeless.ensures))
    (answers_first _ _ (c.in_err-entry-2.ensures.answer _ _))))

pub returns-in_err-movi-clause-answer : goal.returns-in_err-movi-clause-answer
returns-in_err-movi-clause-answer g c =
    answers_err _ _ _ _ c.from_residual-in_err-movi.ensures.1
    (answers_next _ c.in_ok-size.ensures (answers_same
    (sized_is c.args.place c.args.name c.in_ok-size.size (sym c.if-is_sizeless.ensures))
    (answers_next _ (c.in_ok-entry-2.ensures.answer _ _)
    (answers_first _ _ c.in_err-movi.ensures))))

pub returns-clause-answer : goal.returns-clause-answer
returns-clause-answer g c = rw c.open_passed.ensures (answers_ok
    (answers_next _ c.in_ok-size.ensures (answers_same
    (sized_is c.args.place c.args.name c.in_ok-size.size (sym c.if-is_sizeless.ensures))
    (answers_next _ (c.in_ok-entry-2.ensures.answer _ _)
    (answers_next _ c.in_ok-movi.ensures answers_given)))))
