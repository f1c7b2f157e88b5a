-- A chunk of movi: the size of a frame, or None if it was passed.
use Rattle.std.proofs.Common.{◌≡◌, ℕ, List, true, false, codes, refl, sym}
use Rattle.ffv1_avi.specs.Opens.{frame_judged, list_entered, visit_movi}
use Rattle.ffv1_avi.specs.Names.{is_barred, is_frame, least_bytes, most_bytes}
use Rattle.ffv1_avi.specs.Walk.{is_name}
use Rattle.ffv1_avi.specs.declared.chunk.Entry.{Entry}
use Rattle.ffv1_avi.specs.declared.place.Names.{Names}
use Rattle.ffv1_reads.proofs.Answered.{answers_of, answers_same, answers_tail}
use Rattle.ffv1_avi.proofs.movi.visit_movi.Goals as goal

frame_met : (names : Names) (e : Entry) → is_barred names e.name ≡ false →
    is_frame names e.name ≡ true → (text : List ℕ) → visit_movi names tt e text ≡
    frame_judged (least_bytes names) (most_bytes names) e.size e.left text
unfolding visit_movi
frame_met names e stands frame text = rw (stands, frame) refl

list_met : (names : Names) (e : Entry) → is_barred names e.name ≡ false →
    is_frame names e.name ≡ false → is_name e.name (codes "LIST") ≡ true → e.size ≡ 4 →
    (text : List ℕ) → visit_movi names tt e text ≡ list_entered 4 text
unfolding visit_movi
list_met names e stands other list size text = rw (stands, other, list, size) refl

pub returns-then-is_frame-clause-answer : goal.returns-then-is_frame-clause-answer
returns-then-is_frame-clause-answer g c = answers_of _ _ _ _
    (answers_same (frame_met c.args.names c.args.entry (sym c.if-is_barred.ensures)
    (sym c.if-is_frame.ensures))
    (answers_tail _ _ _ _ (c.judge_frame.ensures.answer c.args.entry.left _ _)))

pub returns-then-is_name-clause-answer : goal.returns-then-is_name-clause-answer
returns-then-is_name-clause-answer g c =
    let stands = sym c.if-is_barred.ensures in
    let list = sym c.if-is_name.ensures in
    answers_of _ _ _ _ (answers_same (list_met c.args.names c.args.entry stands
    (sym c.if-is_frame.ensures) list (c.requires stands list))
    (answers_tail _ _ _ _ (c.open_list.ensures.answer c.args.entry.left)))
