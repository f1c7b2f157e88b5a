-- A block of so many bytes, up to its frame; one of another track is passed.
use Rattle.std.proofs.Common.{◌≡◌, Bool, true, false, if◌then◌else◌, Result, inl, sym, refl, arith}
use Rattle.ffv1_wire.specs.Passage.{Passage}
use Rattle.ffv1_reads.specs.Reads.{Reading}
use Rattle.ffv1_reads.specs.declared.fault.FileFault.{FileFault}
use Rattle.ffv1_reads.specs.declared.fault.FileFault.TheVariants as fault
use Rattle.ffv1_matroska.specs.Blocks.{block_read}
use Rattle.ffv1_reads.proofs.Answered.{Answered, answers_differ, answers_equal, answers_fault}
use Rattle.ffv1_reads.proofs.Answered.{answers_next, answers_of, answers_refused, answers_tail}
use Rattle.ffv1_matroska.proofs.block.read_block.Goals as goal

if_true : {X : Type 0} {b : Bool} {r : Reading X} {p : Passage} {result : Result X FileFault}
    (s : Reading X) → b ≡ true → Answered r p result → Answered (if b then r else s) p result
if_true s is h = rw is h

if_false : {X : Type 0} {b : Bool} {s : Reading X} {p : Passage} {result : Result X FileFault}
    (r : Reading X) → b ≡ false → Answered s p result → Answered (if b then r else s) p result
if_false r is h = rw is h

pub returns-then-is_unknown-clause-answer : goal.returns-then-is_unknown-clause-answer
unfolding block_read
returns-then-is_unknown-clause-answer g c =
    let other : c.in_ok-number.number.value ≡ c.args.track.number → ⊥ = λ z. omega
    (arith, z, c.if-number-track.true) in
    answers_fault fault.BadElement (block_read c.args.track c.args.size c.args.place)
    (answers_next _ c.in_ok-number.ensures.answer (answers_differ _ other
    (if_true _ (sym c.if-is_unknown.ensures) (answers_refused _ (inl refl)))))

pub returns-then-number-track-clause-answer : goal.returns-then-number-track-clause-answer
unfolding block_read
returns-then-number-track-clause-answer g c =
    let other : c.in_ok-number.number.value ≡ c.args.track.number → ⊥ = λ z. omega
    (arith, z, c.if-number-track.true) in
    answers_of _ (block_read c.args.track c.args.size c.args.place) _ _
    (answers_next _ c.in_ok-number.ensures.answer (answers_differ _ other
    (if_false _ (sym c.if-is_unknown.ensures) (answers_tail _ _ _ _
    (rw c.summed_at.ensures at c.pass_on.ensures.answer)))))

pub returns-clause-answer : goal.returns-clause-answer
unfolding block_read
returns-clause-answer g c =
    let ours : c.in_ok-number.number.value ≡ c.args.track.number = omega
    (arith, c.if-number-track.false) in
    answers_of _ (block_read c.args.track c.args.size c.args.place) _ _
    (answers_next _ c.in_ok-number.ensures.answer (answers_equal _ ours (answers_tail _ _ _ _
    (rw c.summed_at-2.ensures at c.read_fields.ensures.answer))))
