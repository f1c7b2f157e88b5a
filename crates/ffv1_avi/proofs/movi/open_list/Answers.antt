-- The own name of a list of movi.
use Rattle.std.proofs.Common.{◌≡◌, ℕ, List, Option, None, true, false, codes, refl, sym, inl}
use Rattle.ffv1_avi.specs.Opens.{list_entered, list_opened}
use Rattle.ffv1_avi.specs.Walk.{is_name}
use Rattle.ffv1_reads.specs.Reads.{given, refused}
use Rattle.ffv1_reads.specs.declared.fault.FileFault.TheVariants as fault
use Rattle.ffv1_reads.proofs.Answered.{answers_err, answers_fault, answers_first, answers_given}
use Rattle.ffv1_reads.proofs.Answered.{answers_next, answers_ok, answers_refused, answers_same}
use Rattle.ffv1_avi.proofs.OpenedLists.{own_entered}
use Rattle.ffv1_avi.proofs.movi.open_list.Goals as goal

rec_named : (own : List ℕ) → is_name own (codes "rec ") ≡ true → (text : List ℕ) →
    list_opened own text ≡ given {X = Unit {0} × Option (ℕ × ℕ)} (tt, None) text
rec_named own is text = rw is refl

other_named : (own : List ℕ) → is_name own (codes "rec ") ≡ false → (text : List ℕ) →
    list_opened own text ≡ refused fault.NotAvi text
other_named own is text = rw is refl

pub returns-in_err-own-clause-answer : goal.returns-in_err-own-clause-answer
returns-in_err-own-clause-answer g c = λ left. answers_err _ _ _ _ c.from_residual.ensures.1
    (answers_same own_entered (answers_first _ _ c.in_err-own.ensures))

pub returns-then-not-is_name-clause-answer : goal.returns-then-not-is_name-clause-answer
returns-then-not-is_name-clause-answer g c = λ left. answers_fault fault.NotAvi (list_entered 4)
    (answers_same own_entered (answers_next _ c.in_ok-own.ensures
    (answers_same (other_named c.in_ok-own.own (sym c.if-not-is_name.ensures))
    (answers_refused _ (inl refl)))))

pub returns-clause-answer : goal.returns-clause-answer
returns-clause-answer g c = λ left. answers_ok (answers_same own_entered
    (answers_next _ c.in_ok-own.ensures
    (answers_same (rec_named c.in_ok-own.own (sym c.if-not-is_name.ensures)) answers_given)))
