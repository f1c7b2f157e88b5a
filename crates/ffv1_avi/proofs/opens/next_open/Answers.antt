-- The next chunk of an RIFF or a movi without size, or None at the end of the input.
use Rattle.std.proofs.Common.{◌≡◌, ◌<◌, ℕ, List, Some, true, false, codes, sym, refl}
use Rattle.std.proofs.Common.{arith}
use Rattle.std.proofs.lemmas.Bool.{ne_eqb}
use Rattle.ffv1_avi.specs.declared.place.Extent.TheVariants.{EveryRiff}
use Rattle.ffv1_avi.specs.declared.place.Place.{Place}
use Rattle.ffv1_avi.specs.Opens.{further_riff, goes_on, movi_chunk, named_or_end, open_found}
use Rattle.ffv1_avi.specs.Opens.{open_named, or_end, riff_chunk}
use Rattle.ffv1_avi.specs.Walk.{is_name}
use Rattle.ffv1_reads.specs.Reads.{◌>>=◌}
use Rattle.ffv1_reads.proofs.Reading.{goes_none, goes_same}
use Rattle.ffv1_avi.proofs.EndReadings.{none_ends, none_err, none_read, none_refused_end}
use Rattle.ffv1_avi.proofs.EndReadings.{refused_whole, whole_read}
use Rattle.ffv1_avi.proofs.opens.next_open.Goals as goal

begun : (place : Place) → 0 < place.input → (text : List ℕ) → open_found place text ≡
    (named_or_end place.owed >>= or_end (open_named place)) text
unfolding open_found
begun place some text = rw (ne_eqb place.input 0 (λ e. omega (arith, e, some))) refl

riff_is : (place : Place) (name : List ℕ) → is_name name (codes "RIFF") ≡ true → (text : List ℕ) →
    or_end (open_named place) (Some name) text ≡ further_riff place text
unfolding open_named
riff_is place name is text = rw is refl

movi_is : (place : Place) (name : List ℕ) → is_name name (codes "RIFF") ≡ false → goes_on
    place.open_in name ≡ true → (text : List ℕ) → or_end (open_named place) (Some name) text ≡
    movi_chunk place name text
unfolding open_named
movi_is place name other is text = rw (other, is) refl

chunk_is : (place : Place) (name : List ℕ) → is_name name (codes "RIFF") ≡ false → goes_on
    place.open_in name ≡ false → (text : List ℕ) → or_end (open_named place) (Some name) text ≡
    riff_chunk place name text
unfolding open_named
chunk_is place name other is text = rw (other, is) refl

pub returns-in_err-name-clause-answer : goal.returns-in_err-name-clause-answer
returns-in_err-name-clause-answer g c = none_err EveryRiff _ _ _ _ _ c.from_residual.ensures.1
    (none_refused_end EveryRiff _ _ _ _ _ (λ text. refl)
    (goes_same _ _ (begun c.args.place c.requires) (goes_none _ _ _)) c.in_err-name.ensures.answer)

pub returns-in_default-clause-answer : goal.returns-in_default-clause-answer
returns-in_default-clause-answer g c = none_ends EveryRiff _ _ _ _ (λ text. refl)
    (goes_same _ _ (begun c.args.place c.requires) (goes_none _ _ _))
    (rw c.in_default.is at c.in_ok-name.ensures.answer)

pub returns-in_err-further_riff-clause-answer : goal.returns-in_err-further_riff-clause-answer
returns-in_err-further_riff-clause-answer g c =
    let here = none_read EveryRiff _ _ _ _ c.in-Some.name
    (goes_same _ _ (begun c.args.place c.requires) (goes_none _ _ _))
    (rw c.in-Some.is at c.in_ok-name.ensures.answer) in
    none_err EveryRiff _ _ _ _ _ c.from_residual-in_err-further_riff.ensures.1
    (refused_whole EveryRiff (further_riff c.args.place) _ _ _ (goes_same _ _
    (riff_is c.args.place c.in-Some.name (sym c.if-is_name.ensures)) here)
    c.in_err-further_riff.ensures.answer)

pub returns-then-is_name-clause-answer : goal.returns-then-is_name-clause-answer
returns-then-is_name-clause-answer g c =
    let here = none_read EveryRiff _ _ _ _ c.in-Some.name
    (goes_same _ _ (begun c.args.place c.requires) (goes_none _ _ _))
    (rw c.in-Some.is at c.in_ok-name.ensures.answer) in
    whole_read EveryRiff (further_riff c.args.place) _ _ _ (goes_same _ _
    (riff_is c.args.place c.in-Some.name (sym c.if-is_name.ensures)) here)
    c.in_ok-further_riff.ensures.answer

pub returns-in_err-movi_chunk-clause-answer : goal.returns-in_err-movi_chunk-clause-answer
returns-in_err-movi_chunk-clause-answer g c =
    let here = none_read EveryRiff _ _ _ _ c.in-Some.name
    (goes_same _ _ (begun c.args.place c.requires) (goes_none _ _ _))
    (rw c.in-Some.is at c.in_ok-name.ensures.answer) in
    none_err EveryRiff _ _ _ _ _ c.from_residual-in_err-movi_chunk.ensures.1
    (refused_whole EveryRiff (movi_chunk c.args.place c.in-Some.name) _ _ _ (goes_same _ _
    (movi_is c.args.place c.in-Some.name (sym c.if-is_name.ensures) (sym c.if-goes_on.ensures))
    here) c.in_err-movi_chunk.ensures.answer)

pub returns-then-goes_on-clause-answer : goal.returns-then-goes_on-clause-answer
returns-then-goes_on-clause-answer g c =
    let here = none_read EveryRiff _ _ _ _ c.in-Some.name
    (goes_same _ _ (begun c.args.place c.requires) (goes_none _ _ _))
    (rw c.in-Some.is at c.in_ok-name.ensures.answer) in
    whole_read EveryRiff (movi_chunk c.args.place c.in-Some.name) _ _ _ (goes_same _ _
    (movi_is c.args.place c.in-Some.name (sym c.if-is_name.ensures) (sym c.if-goes_on.ensures))
    here) c.in_ok-movi_chunk.ensures.answer

pub returns-in_err-riff_chunk-clause-answer : goal.returns-in_err-riff_chunk-clause-answer
returns-in_err-riff_chunk-clause-answer g c =
    let here = none_read EveryRiff _ _ _ _ c.in-Some.name
    (goes_same _ _ (begun c.args.place c.requires) (goes_none _ _ _))
    (rw c.in-Some.is at c.in_ok-name.ensures.answer) in
    none_err EveryRiff _ _ _ _ _ c.from_residual-in_err-riff_chunk.ensures.1
    (refused_whole EveryRiff (riff_chunk c.args.place c.in-Some.name) _ _ _ (goes_same _ _
    (chunk_is c.args.place c.in-Some.name (sym c.if-is_name.ensures) (sym c.if-goes_on.ensures))
    here) c.in_err-riff_chunk.ensures.answer)

pub returns-clause-answer : goal.returns-clause-answer
returns-clause-answer g c =
    let here = none_read EveryRiff _ _ _ _ c.in-Some.name
    (goes_same _ _ (begun c.args.place c.requires) (goes_none _ _ _))
    (rw c.in-Some.is at c.in_ok-name.ensures.answer) in
    whole_read EveryRiff (riff_chunk c.args.place c.in-Some.name) _ _ _ (goes_same _ _
    (chunk_is c.args.place c.in-Some.name (sym c.if-is_name.ensures) (sym c.if-goes_on.ensures))
    here) c.in_ok-riff_chunk.ensures.answer
