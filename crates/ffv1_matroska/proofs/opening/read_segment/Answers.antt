-- Reads the header of the Segment after the first byte of its ID.
use Rattle.std.proofs.Common.{◌≡◌, ◌∷◌, ◌++◌, [], ℕ, suc, List, Option, length, ap, sym, ◌∙◌, arith}
use Rattle.ffv1_ebml.specs.Vints.{number_of}
use Rattle.ffv1_reads.specs.Reads.{Looked, Read, taken}
use Rattle.ffv1_reads.proofs.Answered.{answers_equal, answers_next, answers_of, answers_tail}
use Rattle.ffv1_reads.proofs.FirstBytes.{first_placed}
use Rattle.ffv1_reads.proofs.WantedBytes.{wanted_sound}
use Rattle.ffv1_matroska.specs.Opening.{segment, segment_after}
use Rattle.ffv1_matroska.proofs.SpotReadings.{segment_counted}
use Rattle.ffv1_matroska.proofs.opening.read_segment.Goals as goal

-- three bytes stand in the place of all but the first of four
others_placed : (first : ℕ) (others : List ℕ) (a b : Option (List ℕ)) → Read (taken 3) a b others →
    length (first ∷ 0 ∷ 0 ∷ 0 ∷ []) ≡ suc (length others)
others_placed first others a b read =
    let long : length others ≡ 3 = (wanted_sound Looked 3 (read.bytes ++ []) (others, [])
    (read.is [])).1 in
    omega (arith, long)

pub returns-clause-answer : goal.returns-clause-answer
unfolding segment_after
returns-clause-answer g c =
    let first = c.args.first in
    let others = c.take.new.buf in
    let read = c.in_ok-take.ensures.1 in
    let placed = first_placed first (first ∷ 0 ∷ 0 ∷ 0 ∷ []) others
    (others_placed first others _ _ read) in
    let is : number_of (first ∷ others) ≡ segment = ap number_of placed
    ∙ sym c.number_of.ensures.value ∙ c.if-number_of-from.false ∙ c.from.ensures in
    answers_of _ (segment_after first) _ _ (answers_next _ c.in_ok-take.ensures
    (answers_equal _ is (answers_tail _ _ _ _ c.read_top_size.ensures.answer)))

pub returns-clause-counted : goal.returns-clause-counted
returns-clause-counted g c =
    let first = c.args.first in
    let others = c.take.new.buf in
    let read = c.in_ok-take.ensures.1 in
    let placed = first_placed first (first ∷ 0 ∷ 0 ∷ 0 ∷ []) others
    (others_placed first others _ _ read) in
    let is : number_of (first ∷ others) ≡ segment = ap number_of placed
    ∙ sym c.number_of.ensures.value ∙ c.if-number_of-from.false ∙ c.from.ensures in
    segment_counted first others c.read_top_size.result _ _ _ _ _ _ read is
    c.saturating_add.ensures c.read_top_size.ensures.counted
