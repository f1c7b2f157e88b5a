-- The name of the next chunk, or None at the end of the input.
use Rattle.std.proofs.Common.{◌≡◌, ◌++◌, ◌∷◌, [], ℕ, List, length, slice_index}
use Rattle.std.proofs.Common.{refl, arith}
use Rattle.std.proofs.lemmas.Bool.{le-ltb}
use Rattle.ffv1_avi.specs.declared.place.Extent.TheVariants.{EveryRiff}
use Rattle.ffv1_avi.specs.Opens.{rest_named, taken_or_end}
use Rattle.ffv1_reads.specs.Reads.{Looked}
use Rattle.ffv1_reads.proofs.Reading.{goes_none, goes_read}
use Rattle.ffv1_reads.proofs.WantedBytes.{wanted_sound}
use Rattle.ffv1_avi.proofs.EndReadings.{none_err, none_given, none_read, none_refused}
use Rattle.ffv1_avi.proofs.TakenBytes.{taken_long}
use Rattle.ffv1_avi.proofs.opens.name_or_end.Goals as goal

four_bytes : (a b : List ℕ) → length a ≡ 1 → length b ≡ 3 →
    slice_index a 0 ∷ slice_index b 0 ∷ slice_index b 1 ∷ slice_index b 2 ∷ [] ≡ a ++ b
four_bytes (x ∷ []) (y ∷ z ∷ w ∷ []) one three = refl
four_bytes [] b one three = absurd (omega (arith, one))
four_bytes (x ∷ y ∷ ys) b one three = absurd (omega (arith, one))
four_bytes (x ∷ []) [] one three = absurd (omega (arith, three))
four_bytes (x ∷ []) (y ∷ []) one three = absurd (omega (arith, three))
four_bytes (x ∷ []) (y ∷ z ∷ []) one three = absurd (omega (arith, three))
four_bytes (x ∷ []) (y ∷ z ∷ w ∷ v ∷ vs) one three = absurd (omega (arith, three))

pub returns-in_err-take-clause-answer : goal.returns-in_err-take-clause-answer
returns-in_err-take-clause-answer g c =
    let first = c.take_some.new.bytes in
    let here = none_read EveryRiff (taken_or_end 1 c.args.owed) rest_named _ _ first
    (goes_none _ _ _) (rw (le-ltb c.in_ok-n.n 1 (omega (arith, c.if-n-eq0.false))) at
    c.in_ok-n.ensures.answer) in
    none_err EveryRiff _ _ _ _ _ c.from_residual-in_err-take.ensures.1
    (none_refused EveryRiff _ _ _ _ _ here c.in_err-take.ensures)

pub returns-clause-answer : goal.returns-clause-answer
returns-clause-answer g c =
    let first = c.take_some.new.bytes in
    let more = c.take.new.buf in
    let answer = rw (le-ltb c.in_ok-n.n 1 (omega (arith, c.if-n-eq0.false))) at
    c.in_ok-n.ensures.answer in
    let here = none_read EveryRiff (taken_or_end 1 c.args.owed) rest_named _ _ first
    (goes_none _ _ _) answer in
    let one : length first ≡ 1 = taken_long 1 c.args.owed first answer.1 in
    let three : length more ≡ 3 = (wanted_sound Looked 3 (c.in_ok-take.ensures.1.bytes ++ [])
    (more, []) (c.in_ok-take.ensures.1.is [])).1 in
    rw (four_bytes first more one three)
    (none_given EveryRiff _ (goes_read _ _ _ _ _ here c.in_ok-take.ensures))
