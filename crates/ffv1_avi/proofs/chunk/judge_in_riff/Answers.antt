-- The header of a chunk of RIFF, where a list may have no size.
use Rattle.std.proofs.Common.{◌≡◌, ◌+◌, ◌≤◌, ◌<◌, ◌&&◌, ℕ, Bool, true, false, List, nat_lt, codes}
use Rattle.std.proofs.Common.{refl, sym, arith}
use Rattle.std.proofs.lemmas.Bool.{le-ltb, lt-ltb}
use Rattle.ffv1_avi.specs.declared.place.Extent.{Extent}
use Rattle.ffv1_avi.specs.declared.place.Names.TheVariants.{Any}
use Rattle.ffv1_avi.specs.Names.{riff_rule, rule_of}
use Rattle.ffv1_avi.specs.Padding.{padded}
use Rattle.ffv1_avi.specs.Walk.{entry_judged, is_name, is_sizeless, sizeless_judged}
use Rattle.ffv1_avi.proofs.ListWalks.{sizeless_is}
use Rattle.ffv1_reads.proofs.Answered.{answers_of, answers_same, answers_tail}
use Rattle.ffv1_avi.proofs.chunk.judge_in_riff.Goals as goal

-- if a list has a size, or one that fits
sized_as : (extent : Extent) (left n : ℕ) (name : List ℕ) → is_sizeless (riff_rule extent) name n ≡
    false → (text : List ℕ) → entry_judged (riff_rule extent) left name n text ≡ entry_judged
    (rule_of Any) left name n text
sized_as extent left n name known text = rw known refl

no_short_list : (b : Bool) (n : ℕ) → 4 ≤ n → (b && nat_lt n 4) ≡ false
no_short_list true n h = le-ltb _ _ h
no_short_list false n h = refl

fitting_as : (extent : Extent) (left n : ℕ) (name : List ℕ) → 8 + padded n ≤ left → 4 ≤ n →
    (text : List ℕ) → entry_judged (riff_rule extent) left name n text ≡ entry_judged
    (rule_of Any) left name n text
fitting_as extent left n name fits room text =
    rw (le-ltb _ _ fits, no_short_list (is_name name (codes "LIST")) n room) refl

-- or it has none
long_as : (extent : Extent) (left n : ℕ) (name : List ℕ) → is_sizeless (riff_rule extent) name n ≡
    true → left < 8 + padded n → (text : List ℕ) → entry_judged (riff_rule extent) left name n
    text ≡ sizeless_judged left name text
long_as extent left n name unknown long text = rw (lt-ltb _ _ long, unknown) refl

short_as : (extent : Extent) (left n : ℕ) (name : List ℕ) → is_sizeless (riff_rule extent) name n ≡
    true → 8 + padded n ≤ left → n < 4 → (text : List ℕ) → entry_judged (riff_rule extent) left
    name n text ≡ sizeless_judged left name text
short_as extent left n name unknown fits small text =
    let parts = sizeless_is (riff_rule extent) name n unknown in
    rw (le-ltb _ _ fits, parts.1, lt-ltb n 4 small, parts.0, parts.2) refl

pub returns-then-not-is_sizeless-clause-answer : goal.returns-then-not-is_sizeless-clause-answer
returns-then-not-is_sizeless-clause-answer c = λ text failures.
    answers_of _ _ _ _ (answers_same (sized_as c.args.extent c.args.left c.args.size c.args.name
    (sym c.if-not-is_sizeless.ensures)) (answers_tail _ _ _ _
    (c.judge_entry.ensures.answer text failures)))

pub returns-then-left-padded-clause-answer : goal.returns-then-left-padded-clause-answer
returns-then-left-padded-clause-answer c = λ text failures.
    answers_of _ _ _ _ (answers_same (long_as c.args.extent c.args.left c.args.size c.args.name
    (sym c.if-not-is_sizeless.ensures) (omega (arith, c.if-left-padded.true, c.padded.ensures)))
    (answers_tail _ _ _ _ (c.judge_sizeless.ensures.answer text failures)))

pub returns-then-size-lt4-clause-answer : goal.returns-then-size-lt4-clause-answer
returns-then-size-lt4-clause-answer c = λ text failures.
    answers_of _ _ _ _ (answers_same (short_as c.args.extent c.args.left c.args.size c.args.name
    (sym c.if-not-is_sizeless.ensures) (omega (arith, c.if-left-padded.false, c.padded.ensures))
    (omega (arith, c.if-size-lt4.true)))
    (answers_tail _ _ _ _ (c.judge_sizeless-then-size-lt4.ensures.answer text failures)))

pub returns-clause-answer : goal.returns-clause-answer
returns-clause-answer c = λ text failures.
    answers_of _ _ _ _ (answers_same (fitting_as c.args.extent c.args.left c.args.size c.args.name
    (omega (arith, c.if-left-padded.false, c.padded.ensures)) (omega (arith, c.if-size-lt4.false)))
    (answers_tail _ _ _ _ (c.judge_entry-2.ensures.answer text failures)))
