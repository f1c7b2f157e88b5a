-- The size and the form of an RIFF after the first, after its name.
use Rattle.std.proofs.Common.{◌≡◌, ◌+◌, ◌≤◌, ◌<◌, ℕ, List, Some, true, false, codes, length, take}
use Rattle.std.proofs.Common.{drop, inl, inr, refl, sym, ap, ◌∙◌, arith, length-drop}
use Rattle.std.proofs.lemmas.Bool.{le-leb, le-ltb, lt-leb, lt-ltb}
use Rattle.std.proofs.lemmas.List.{take_all}
use Rattle.byteorder.specs.Endian.{little_number}
use Rattle.ffv1_reads.specs.declared.fault.FileFault.TheVariants as fault
use Rattle.ffv1_reads.specs.Reads.{given, refused}
use Rattle.ffv1_reads.proofs.Answered.{answers_fault, answers_from, answers_refused, answers_same}
use Rattle.ffv1_reads.proofs.Reading.{goes_none, goes_same}
use Rattle.ffv1_avi.specs.declared.place.Extent.TheVariants.{EveryRiff}
use Rattle.ffv1_avi.specs.declared.place.Place.{Place}
use Rattle.ffv1_avi.specs.Files.{riff_entered, riff_judged}
use Rattle.ffv1_avi.specs.Opens.{open_riff, or_end, taken_or_end}
use Rattle.ffv1_avi.specs.Places.{riff_at}
use Rattle.ffv1_avi.specs.Walk.{is_known, is_name}
use Rattle.ffv1_avi.proofs.EndReadings.{none_ends, none_err, none_given, none_read}
use Rattle.ffv1_avi.proofs.EndReadings.{none_refused_end, refused_whole, whole_read}
use Rattle.ffv1_avi.proofs.TakenBytes.{taken_long}
use Rattle.ffv1_avi.proofs.riff.enter_riff.Goals as goal

other_form : (place : Place) (head : List ℕ) → is_name (drop 4 head) (codes "AVIX") ≡ false →
    (text : List ℕ) → or_end (riff_judged place) (Some head) text ≡ refused fault.Another text
other_form place head other text = rw other refl

too_small : (place : Place) (head : List ℕ) → is_name (drop 4 head) (codes "AVIX") ≡ true → is_known
    (little_number 4 head) ≡ true →
    little_number 4 head < 4 → (text : List ℕ) → or_end (riff_judged place) (Some head) text ≡
    refused fault.NotAvi text
too_small place head named known small text = rw (named, known, lt-leb 4 (little_number 4 head) small) refl

too_far : (place : Place) (head : List ℕ) → is_name (drop 4 head) (codes "AVIX") ≡ true → is_known
    (little_number 4 head) ≡ true → 4 ≤
    little_number 4 head → place.input ≤ 8 + little_number 4 head → (text : List ℕ) →
    or_end (riff_judged place) (Some head) text ≡ refused fault.Truncated text
too_far place head named known room far text = rw (
  named,
  known,
  le-leb 4 (little_number 4 head) room,
  le-ltb (8 + little_number 4 head) place.input far,
) refl

fits_there : (place : Place) (head : List ℕ) → is_name (drop 4 head) (codes "AVIX") ≡ true → is_known
    (little_number 4 head) ≡ true → 4 ≤
    little_number 4 head → 8 + little_number 4 head < place.input → (text : List ℕ) →
    or_end (riff_judged place) (Some head) text ≡
    given (Some (riff_at place (little_number 4 head))) text
fits_there place head named known room fits text = rw (
  named,
  known,
  le-leb 4 (little_number 4 head) room,
  lt-ltb (8 + little_number 4 head) place.input fits,
) refl

open_there : (place : Place) (head : List ℕ) → is_name (drop 4 head) (codes "AVIX") ≡ true →
    is_known (little_number 4 head) ≡ false → (text : List ℕ) →
    or_end (riff_judged place) (Some head) text ≡ open_riff place text
open_there place head named unknown text = rw (named, unknown) refl

formed : (head : List ℕ) → length head ≡ 8 → take 4 (drop 4 head) ≡ drop 4 head
formed head long = take_all 4 (drop 4 head) (omega (arith, long, length-drop 4 head))

pub returns-in_err-n : goal.returns-in_err-n
returns-in_err-n g c = none_err EveryRiff _ _ _ _ _ c.from_residual.ensures.1
    (none_refused_end EveryRiff _ _ _ _ _ (λ text. refl) (goes_none _ _ _)
    c.in_err-n.ensures.answer)

pub returns-then-n-lt8 : goal.returns-then-n-lt8
returns-then-n-lt8 g c = none_ends EveryRiff _ _ _ _ (λ text. refl) (goes_none _ _ _)
    (rw (lt-ltb c.in_ok-n.n 8 c.if-n-lt8.true) at c.in_ok-n.ensures.answer)

pub returns-then-not-is_name : goal.returns-then-not-is_name
returns-then-not-is_name g c =
    let place = c.args.place in
    let head = c.take_some.new.bytes in
    let answer = rw (le-ltb c.in_ok-n.n 8 (omega (arith, c.if-n-lt8.false))) at
    c.in_ok-n.ensures.answer in
    let here = none_read EveryRiff (taken_or_end 8 place.owed)
    (or_end (riff_judged place)) _ _ head (goes_none _ _ _) answer in
    let form = formed head (taken_long 8 place.owed head answer.1) in
    let other : is_name (drop 4 head) (codes "AVIX") ≡ false = ap (λ y. is_name y (codes "AVIX"))
    (sym form) ∙ sym c.if-not-is_name.ensures in
    answers_fault fault.Another (riff_entered place) (answers_from here
    (answers_same (other_form place head other) (answers_refused _ (inl refl))))

pub returns-in_err-enter_open : goal.returns-in_err-enter_open
returns-in_err-enter_open g c =
    let place = c.args.place in
    let head = c.take_some.new.bytes in
    let answer = rw (le-ltb c.in_ok-n.n 8 (omega (arith, c.if-n-lt8.false))) at
    c.in_ok-n.ensures.answer in
    let here = none_read EveryRiff (taken_or_end 8 place.owed)
    (or_end (riff_judged place)) _ _ head (goes_none _ _ _) answer in
    let form = formed head (taken_long 8 place.owed head answer.1) in
    let named : is_name (drop 4 head) (codes "AVIX") ≡ true = ap (λ y. is_name y (codes "AVIX"))
    (sym form) ∙ sym c.if-not-is_name.ensures in
    let size : c.read_u32-size.result ≡ little_number 4 head = c.read_u32-size.ensures in
    let unknown : is_known (little_number 4 head) ≡ false = ap is_known (sym size) ∙
    sym c.if-not-is_known.ensures in
    let there = goes_same _ _ (open_there place head named unknown) here in
    none_err EveryRiff _ _ _ _ _ c.from_residual-in_err-enter_open.ensures.1
    (refused_whole EveryRiff (open_riff place) _ _ _ there (c.in_err-enter_open.ensures _ _))

pub returns-then-not-is_known : goal.returns-then-not-is_known
returns-then-not-is_known g c =
    let place = c.args.place in
    let head = c.take_some.new.bytes in
    let answer = rw (le-ltb c.in_ok-n.n 8 (omega (arith, c.if-n-lt8.false))) at
    c.in_ok-n.ensures.answer in
    let here = none_read EveryRiff (taken_or_end 8 place.owed)
    (or_end (riff_judged place)) _ _ head (goes_none _ _ _) answer in
    let form = formed head (taken_long 8 place.owed head answer.1) in
    let named : is_name (drop 4 head) (codes "AVIX") ≡ true = ap (λ y. is_name y (codes "AVIX"))
    (sym form) ∙ sym c.if-not-is_name.ensures in
    let size : c.read_u32-size.result ≡ little_number 4 head = c.read_u32-size.ensures in
    let unknown : is_known (little_number 4 head) ≡ false = ap is_known (sym size) ∙
    sym c.if-not-is_known.ensures in
    let there = goes_same _ _ (open_there place head named unknown) here in
    whole_read EveryRiff (open_riff place) _ _ _ there (c.in_ok-enter_open.ensures _ _)

pub returns-then-size-lt4 : goal.returns-then-size-lt4
returns-then-size-lt4 g c =
    let place = c.args.place in
    let head = c.take_some.new.bytes in
    let answer = rw (le-ltb c.in_ok-n.n 8 (omega (arith, c.if-n-lt8.false))) at
    c.in_ok-n.ensures.answer in
    let here = none_read EveryRiff (taken_or_end 8 place.owed)
    (or_end (riff_judged place)) _ _ head (goes_none _ _ _) answer in
    let form = formed head (taken_long 8 place.owed head answer.1) in
    let named : is_name (drop 4 head) (codes "AVIX") ≡ true = ap (λ y. is_name y (codes "AVIX"))
    (sym form) ∙ sym c.if-not-is_name.ensures in
    let size : c.read_u32-size.result ≡ little_number 4 head = c.read_u32-size.ensures in
    let known : is_known (little_number 4 head) ≡ true = ap is_known (sym size) ∙
    sym c.if-not-is_known.ensures in
    answers_fault fault.NotAvi (riff_entered place) (answers_from here
    (answers_same (too_small place head named known (omega (arith, size, c.if-size-lt4.true)))
    (answers_refused _ (inl refl))))

pub returns-then-place-whole : goal.returns-then-place-whole
returns-then-place-whole g c =
    let place = c.args.place in
    let head = c.take_some.new.bytes in
    let answer = rw (le-ltb c.in_ok-n.n 8 (omega (arith, c.if-n-lt8.false))) at
    c.in_ok-n.ensures.answer in
    let here = none_read EveryRiff (taken_or_end 8 place.owed)
    (or_end (riff_judged place)) _ _ head (goes_none _ _ _) answer in
    let form = formed head (taken_long 8 place.owed head answer.1) in
    let named : is_name (drop 4 head) (codes "AVIX") ≡ true = ap (λ y. is_name y (codes "AVIX"))
    (sym form) ∙ sym c.if-not-is_name.ensures in
    let size : c.read_u32-size.result ≡ little_number 4 head = c.read_u32-size.ensures in
    let known : is_known (little_number 4 head) ≡ true = ap is_known (sym size) ∙
    sym c.if-not-is_known.ensures in
    let room : 4 ≤ little_number 4 head = omega (arith, size, c.if-size-lt4.false) in
    let far : place.input ≤ 8 + little_number 4 head =
    omega (arith, size, c.from-whole.ensures, c.if-place-whole.true) in
    answers_fault fault.Truncated (riff_entered place) (answers_from here
    (answers_same (too_far place head named known room far) (answers_refused _ (inr refl))))

pub returns : goal.returns
returns g c =
    let place = c.args.place in
    let head = c.take_some.new.bytes in
    let answer = rw (le-ltb c.in_ok-n.n 8 (omega (arith, c.if-n-lt8.false))) at
    c.in_ok-n.ensures.answer in
    let here = none_read EveryRiff (taken_or_end 8 place.owed)
    (or_end (riff_judged place)) _ _ head (goes_none _ _ _) answer in
    let form = formed head (taken_long 8 place.owed head answer.1) in
    let named : is_name (drop 4 head) (codes "AVIX") ≡ true = ap (λ y. is_name y (codes "AVIX"))
    (sym form) ∙ sym c.if-not-is_name.ensures in
    let size : c.read_u32-size.result ≡ little_number 4 head = c.read_u32-size.ensures in
    let known : is_known (little_number 4 head) ≡ true = ap is_known (sym size) ∙
    sym c.if-not-is_known.ensures in
    let room : 4 ≤ little_number 4 head = omega (arith, size, c.if-size-lt4.false) in
    let fits : 8 + little_number 4 head < place.input =
    omega (arith, size, c.from-whole.ensures, c.if-place-whole.false) in
    rw (c.from-whole.ensures, c.from.ensures, size) (none_given EveryRiff _
    (goes_same _ _ (fits_there place head named known room fits) here))
