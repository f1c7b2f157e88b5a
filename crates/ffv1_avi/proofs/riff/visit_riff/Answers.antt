-- A chunk of RIFF after a movi: the bytes of the next movi, or None if it was passed.
use Rattle.std.proofs.Common.{◌≡◌, ℕ, List, true, false, codes, refl, sym}
use Rattle.ffv1_avi.specs.Opens.{list_skipped, riff_list, visit_riff}
use Rattle.ffv1_reads.specs.Reads.{taken, ◌>>=◌}
use Rattle.ffv1_avi.specs.Walk.{is_name}
use Rattle.ffv1_avi.specs.declared.chunk.Entry.{Entry}
use Rattle.ffv1_avi.specs.declared.place.Names.{Names}
use Rattle.ffv1_reads.proofs.Answered.{answers_err, answers_first, answers_given, answers_next}
use Rattle.ffv1_reads.proofs.Answered.{answers_ok, answers_same}
use Rattle.ffv1_avi.proofs.riff.visit_riff.Goals as goal

list_read : (names : Names) (e : Entry) → is_name e.name (codes "LIST") ≡ true →
    (text : List ℕ) → visit_riff names tt e text ≡ (taken 4 >>= riff_list e.left e.size) text
unfolding visit_riff
list_read names e list text = rw list refl

other_named : (left size : ℕ) (own : List ℕ) → is_name own (codes "movi") ≡ false →
    (text : List ℕ) → riff_list left size own text ≡ list_skipped {Y = ℕ × ℕ} tt size text
other_named left size own is text = rw is refl

pub returns-in_err-pass-2 : goal.returns-in_err-pass-2
returns-in_err-pass-2 g c =
    let e = c.args.entry in
    let other = other_named e.left e.size c.in_ok-own.own (sym c.if-is_name.ensures) in
    answers_err _ _ _ _ c.from_residual-in_err-pass-2.ensures.1
    (answers_same (list_read c.args.names e (sym c.if-not-is_name.ensures))
    (answers_next _ c.in_ok-own.ensures (answers_same other
    (answers_first _ _ (rw c.padded-2.ensures at c.in_err-pass-2.ensures)))))

pub returns : goal.returns
returns g c =
    let e = c.args.entry in
    let other = other_named e.left e.size c.in_ok-own.own (sym c.if-is_name.ensures) in
    answers_ok (answers_same (list_read c.args.names e (sym c.if-not-is_name.ensures))
    (answers_next _ c.in_ok-own.ensures (answers_same other
    (answers_next _ (rw c.padded-2.ensures at c.in_ok-pass-2.ensures) answers_given))))
