-- A chunk in an RIFF or a movi without size, after its name.
use Rattle.std.proofs.Common.{◌≡◌, ◌++◌, ◌-◌, ℕ, List, refl}
use Rattle.ffv1_reads.proofs.Answered.{answers_next, answers_of, answers_same, answers_tail}
use Rattle.ffv1_avi.specs.Internal.Came.{header_turn}
use Rattle.ffv1_avi.specs.Internal.Hears.{header_of, named_turn}
use Rattle.ffv1_avi.specs.Opens.{goes_on}
use Rattle.ffv1_avi.proofs.turn.read_named.Goals as goal

pub returns-clause-answer : goal.returns-clause-answer
unfolding named_turn
returns-clause-answer g c =
    let place = c.args.place in
    let head = c.args.name ++ c.take.new.buf in
    let in_movi = goes_on place.open_in c.args.name in
    let same : (text : List ℕ) → header_turn in_movi place
    (header_of in_movi place (place.input - 1) head) head text ≡ header_turn
    c.goes_on-in_movi.result place c.header_of-header.result c.header_bytes-head.result text =
    λ text. rw (
      c.header_of-header.ensures,
      c.header_bytes-head.ensures,
      c.goes_on-in_movi.ensures,
      c.saturating_sub.ensures,
    ) refl in
    answers_of _ (named_turn place c.args.name) _ _
    (answers_next _ c.in_ok-take.ensures (answers_same same (answers_tail _ _ _ _ c.read_behind.ensures.answer)))
