-- The next frame in place of what the vector has, and the place after it; None at the end.
use Rattle.std.proofs.Common.{◌≡◌, ◌%◌, ◌∙◌, ◌++◌, [], take, ℕ, List, Option, Some, None, inr}
use Rattle.std.proofs.Common.{arith, ap, sym, refl}
use Rattle.std.proofs.lemmas.Grind.{common_steps}
use Rattle.std.proofs.lemmas.Result.{err_from_is_err_and}
use Rattle.ffv1_avi.specs.Files.{found_read, frame_found, frame_read}
use Rattle.ffv1_avi.specs.Readers.{Leaves}
use Rattle.ffv1_reads.specs.Reads.{Begins, Kept, Read, Reading, given, passed, wanted, ◌>>=◌}
use Rattle.ffv1_reads.proofs.Results.{cut_front}
use Rattle.ffv1_reads.proofs.WantedBytes.{wanted_sound}
use Rattle.ffv1_avi.specs.declared.place.Place.{Place}
use Rattle.ffv1_avi.specs.Places.{extent_of}
use Rattle.ffv1_avi.proofs.EndReadings.{answers_by, none_ends, none_given, none_read, none_refused}
use Rattle.ffv1_avi.proofs.EndReadings.{none_refused_end, some_read}
use Rattle.ffv1_avi.proofs.Moves.{frame_less_at}
use Rattle.ffv1_reads.proofs.Reading.{goes_none, goes_read, goes_same}
use Rattle.ffv1_reads.proofs.Results.{read_on_twice}
use Rattle.ffv1_avi.proofs.ChunkReadings.{fill_refused, pad_refused}
use Rattle.ffv1_avi.proofs.RiffReadings.{frame_next, stops_here, stops_then}
use Rattle.ffv1_avi.proofs.EndReadings.{none_err}
use Rattle.ffv1_avi.proofs.reader.read_frame.Goals as goal

abbrev framed : Place → List ℕ → Reading (Option (List ℕ × Place))
framed after bytes = given (Some (bytes, after))

abbrev behind : ℕ → List ℕ → Reading (List ℕ)
behind size bytes = passed (size % 2) >>= λ _. given bytes

abbrev rest : ℕ → Place → List ℕ → Reading (Option (List ℕ × Place))
rest size after bytes = behind size bytes >>= framed after

abbrev last : ℕ → Place → List ℕ → Reading (Option (List ℕ × Place))
last size after bytes = passed (size % 2) >>= λ _. given (Some (bytes, after))

found_twice : (size : ℕ) (after : Place) (text : List ℕ) → found_read (Some (size, after)) text ≡
    (wanted Kept size >>= rest size after) text
found_twice size after text = read_on_twice (wanted Kept size text) (behind size) (framed after)

rest_twice : (size : ℕ) (after : Place) (bytes text : List ℕ) → rest size after bytes text ≡ last
    size after bytes text
rest_twice size after bytes text = read_on_twice (passed (size % 2) text) (λ _. given bytes)
    (framed after)

leaves_begun : (left : Place) (old now : Option (List ℕ)) (size : ℕ) (after : Place)
    (bytes : List ℕ) → Read (frame_found left) old now (Some (size, after)) → Begins now size
    bytes → Leaves left old bytes
leaves_begun left None now size after bytes read begins = tt
leaves_begun left (Some text) None size after bytes read begins = absurd read.consumed
leaves_begun left (Some text) (Some more) size after bytes read begins = inr (
  size,
  after,
  more,
  ap (frame_found left) read.consumed ∙ read.is more,
  begins.0,
  begins.1,
  begins.2,
)

begins_all : (old new : Option (List ℕ)) (size : ℕ) (bytes : List ℕ) → Read (wanted Kept size) old
    new bytes → Begins old size bytes
begins_all None new size bytes read = tt
begins_all (Some text) None size bytes read = absurd read.consumed
begins_all (Some text) (Some left) size bytes read =
    let all = wanted_sound Kept size (read.bytes ++ left) (bytes, left) (read.is left) in (
      size,
      omega arith,
      sym (cut_front size bytes left all.1) ∙ ap (λ z. take size z)
          (sym (read.consumed ∙ all.0)),
    )

pub returns-in_err-size-clause-answer : goal.returns-in_err-size-clause-answer
returns-in_err-size-clause-answer g c = answers_by (extent_of c.args.place) _
    (frame_read c.args.place) _ _ (none_err _ _ _ _ _ _ c.from_residual.ensures.1
    (none_refused_end (extent_of c.args.place) _ _ _ _ _ (λ text. refl)
    (goes_none _ _ _) c.in_err-size.ensures.answer))

pub returns-in_default-clause-answer : goal.returns-in_default-clause-answer
returns-in_default-clause-answer g c = answers_by (extent_of c.args.place) _
    (frame_read c.args.place) _ _ (none_ends (extent_of c.args.place) _ _ _ _ (λ text. refl)
    (goes_none _ _ _) (rw c.in_default.is at c.in_ok-size.ensures.answer))

pub returns-in_err-fill-clause-answer : goal.returns-in_err-fill-clause-answer
returns-in_err-fill-clause-answer g c = answers_by (extent_of c.args.place) _
    (frame_read c.args.place) _ _ (none_err _ _ _ _ _ _ c.from_residual-in_err-fill.ensures.1
    (none_refused (extent_of c.args.place) _ _ _ _ _ (goes_same _ _
    (found_twice c.in-Some.size c.in-Some.after) (none_read (extent_of c.args.place) _ _ _ _ _
    (goes_none _ _ _) (rw c.in-Some.is at c.in_ok-size.ensures.answer)))
    c.in_err-fill.ensures.answer))

pub returns-in_err-fill-clause-err : goal.returns-in_err-fill-clause-err
returns-in_err-fill-clause-err g c =
    let p = err_from_is_err_and c.from_residual-in_err-fill.result
    c.from_residual-in_err-fill.ensures.1 in
    let frame : ℕ × Place = (c.in-Some.size, c.in-Some.after) in
    let read = some_read (extent_of c.args.place) (frame_found c.args.place) _ _ frame
    (rw c.in-Some.is at c.in_ok-size.ensures.answer).1 in
    rw p.1 (leaves_begun c.args.place _ _ c.in-Some.size c.in-Some.after c.fill.new.bytes.items read
    c.in_err-fill.ensures.err)

pub returns-in_err-pass-clause-answer : goal.returns-in_err-pass-clause-answer
returns-in_err-pass-clause-answer g c = answers_by (extent_of c.args.place) _
    (frame_read c.args.place) _ _ (none_err _ _ _ _ _ _ c.from_residual-in_err-pass.ensures.1
    (none_refused (extent_of c.args.place) _ _ _ _ _ (goes_same _ _
    (rest_twice c.in-Some.size c.in-Some.after c.fill.new.bytes.items)
    (goes_read _ _ _ _ _ (goes_same _ _ (found_twice c.in-Some.size c.in-Some.after)
    (none_read (extent_of c.args.place) _ _ _ _ _ (goes_none _ _ _)
    (rw c.in-Some.is at c.in_ok-size.ensures.answer))) c.in_ok-fill.ensures.answer))
    (rw c.from.ensures at c.in_err-pass.ensures)))

pub returns-in_err-pass-clause-err : goal.returns-in_err-pass-clause-err
returns-in_err-pass-clause-err g c =
    let p = err_from_is_err_and c.from_residual-in_err-pass.result
    c.from_residual-in_err-pass.ensures.1 in
    let frame : ℕ × Place = (c.in-Some.size, c.in-Some.after) in
    let read = some_read (extent_of c.args.place) (frame_found c.args.place) _ _ frame
    (rw c.in-Some.is at c.in_ok-size.ensures.answer).1 in
    rw p.1 (leaves_begun c.args.place _ _ c.in-Some.size c.in-Some.after c.fill.new.bytes.items read
    (begins_all _ _ c.in-Some.size c.fill.new.bytes.items c.in_ok-fill.ensures.answer.1))

pub returns-clause-answer : goal.returns-clause-answer
returns-clause-answer g c = answers_by (extent_of c.args.place) _ (frame_read c.args.place) _ _
    (none_given (extent_of c.args.place) _ (goes_read _ _ _ _ _
    (goes_same _ _ (rest_twice c.in-Some.size c.in-Some.after c.fill.new.bytes.items)
    (goes_read _ _ _ _ _ (goes_same _ _ (found_twice c.in-Some.size c.in-Some.after)
    (none_read (extent_of c.args.place) _ _ _ _ _ (goes_none _ _ _)
    (rw c.in-Some.is at c.in_ok-size.ensures.answer))) c.in_ok-fill.ensures.answer))
    (rw c.from.ensures at c.in_ok-pass.ensures)))

pub returns-clause-less : goal.returns-clause-less
returns-clause-less g c =
    let frame : ℕ × Place = (c.in-Some.size, c.in-Some.after) in
    let read = some_read (extent_of c.args.place) (frame_found c.args.place) _ _ frame
    (rw c.in-Some.is at c.in_ok-size.ensures.answer).1 in
    (frame_less_at c.args.place c.in-Some.after c.in-Some.size (read.bytes ++ []) [] (read.is [])).0

pub returns-clause-same : goal.returns-clause-same
returns-clause-same g c =
    let frame : ℕ × Place = (c.in-Some.size, c.in-Some.after) in
    let read = some_read (extent_of c.args.place) (frame_found c.args.place) _ _ frame
    (rw c.in-Some.is at c.in_ok-size.ensures.answer).1 in
    (frame_less_at c.args.place c.in-Some.after c.in-Some.size (read.bytes ++ []) [] (read.is [])).1

pub returns-in_err-size-clause-room : goal.returns-in_err-size-clause-room
returns-in_err-size-clause-room g c =
    let p = err_from_is_err_and c.from_residual.result c.from_residual.ensures.1 in
    rw p.1 (grind (arith, common_steps))

pub returns-in_default-clause-room : goal.returns-in_default-clause-room
returns-in_default-clause-room g c = grind (arith, common_steps)

pub returns-in_err-fill-clause-room : goal.returns-in_err-fill-clause-room
returns-in_err-fill-clause-room g c =
    let p = err_from_is_err_and c.from_residual-in_err-fill.result
    c.from_residual-in_err-fill.ensures.1 in
    rw p.1 (grind (arith, common_steps))

pub returns-in_err-pass-clause-room : goal.returns-in_err-pass-clause-room
returns-in_err-pass-clause-room g c =
    let p = err_from_is_err_and c.from_residual-in_err-pass.result
    c.from_residual-in_err-pass.ensures.1 in
    rw p.1 (grind (arith, common_steps))

pub returns-clause-room : goal.returns-clause-room
returns-clause-room g c = grind (arith, common_steps)

pub returns-in_err-fill-clause-from : goal.returns-in_err-fill-clause-from
returns-in_err-fill-clause-from g c =
    let p = err_from_is_err_and c.from_residual-in_err-fill.result
    c.from_residual-in_err-fill.ensures.1 in
    let f = c.in_err-fill.field-0.0 in
    let from = rw c.in-Some.is at c.in_ok-size.ensures.from in
    let same = (rw c.in-Some.is at c.in_ok-size.ensures.answer).0 in
    rw (p.1, p.2) (stops_then f refl from.3 (stops_here f
    (fill_refused from.0 c.in-Some.size c.in-Some.after _ _ _ _ _ _ f from.2 same
    c.in_err-fill.ensures.answer)))

pub returns-in_err-pass-clause-from : goal.returns-in_err-pass-clause-from
returns-in_err-pass-clause-from g c =
    let p = err_from_is_err_and c.from_residual-in_err-pass.result
    c.from_residual-in_err-pass.ensures.1 in
    let f = c.in_err-pass.field-0.0 in
    let from = rw c.in-Some.is at c.in_ok-size.ensures.from in
    let same = (rw c.in-Some.is at c.in_ok-size.ensures.answer).0 in
    rw (p.1, p.2) (stops_then f refl from.3 (stops_here f
    (pad_refused from.0 c.in-Some.size c.in-Some.after c.fill.new.bytes.items _ _ _ _ _ _ _ _ f from.2
    same c.in_ok-fill.ensures.answer (rw c.from.ensures at c.in_err-pass.ensures))))

pub returns-clause-from : goal.returns-clause-from
returns-clause-from g c =
    let from = rw c.in-Some.is at c.in_ok-size.ensures.from in
    let pad = rw c.from.ensures at c.in_ok-pass.ensures in
    frame_next from.0 c.in-Some.size c.in-Some.after c.fill.new.bytes.items from.3 from.2
    c.in_ok-fill.ensures.answer.1 pad.1 (rw c.padded.ensures at c.saturating_add.ensures)

pub returns-clause-names : goal.returns-clause-names
returns-clause-names g c =
    let frame : ℕ × Place = (c.in-Some.size, c.in-Some.after) in
    let read = some_read (extent_of c.args.place) (frame_found c.args.place) _ _ frame
    (rw c.in-Some.is at c.in_ok-size.ensures.answer).1 in
    (frame_less_at c.args.place c.in-Some.after c.in-Some.size (read.bytes ++ []) [] (read.is [])).2

pub returns-in_err-size-clause-behind : goal.returns-in_err-size-clause-behind
returns-in_err-size-clause-behind g c =
    let p = err_from_is_err_and c.from_residual.result c.from_residual.ensures.1 in rw (p.1) tt

pub returns-in_default-clause-behind : goal.returns-in_default-clause-behind
returns-in_default-clause-behind g c = λ none.
    rw c.in_default.is at c.in_ok-size.ensures.behind refl

pub returns-in_err-fill-clause-behind : goal.returns-in_err-fill-clause-behind
returns-in_err-fill-clause-behind g c =
    let p = err_from_is_err_and c.from_residual-in_err-fill.result
    c.from_residual-in_err-fill.ensures.1 in
    rw (p.1) tt

pub returns-in_err-pass-clause-behind : goal.returns-in_err-pass-clause-behind
returns-in_err-pass-clause-behind g c =
    let p = err_from_is_err_and c.from_residual-in_err-pass.result
    c.from_residual-in_err-pass.ensures.1 in
    rw (p.1) tt
