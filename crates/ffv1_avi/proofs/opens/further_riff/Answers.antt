-- An RIFF after one without size, after its name.
use Rattle.std.proofs.Common.{◌≡◌, ◌++◌, [], ℕ, List, Option, length, take, drop, true, false, codes, sym}
use Rattle.std.proofs.Common.{refl, ap, ◌∙◌, inl, arith, length-drop}
use Rattle.std.proofs.lemmas.List.{take_all}
use Rattle.ffv1_avi.specs.declared.place.Place.{Place}
use Rattle.ffv1_avi.specs.Opens.{Step, no_frame, open_judged, open_riff}
use Rattle.ffv1_avi.specs.Walk.{is_name}
use Rattle.ffv1_reads.specs.Reads.{Looked, refused, ◌>>=◌}
use Rattle.ffv1_reads.specs.declared.fault.FileFault.TheVariants as fault
use Rattle.ffv1_reads.proofs.Answered.{answers_err, answers_fault, answers_first, answers_given}
use Rattle.ffv1_reads.proofs.Answered.{answers_next, answers_ok, answers_refused, answers_same}
use Rattle.ffv1_reads.proofs.WantedBytes.{wanted_sound}
use Rattle.ffv1_avi.proofs.opens.further_riff.Goals as goal

formed : (head : List ℕ) → length head ≡ 8 → take 4 (drop 4 head) ≡ drop 4 head
formed head long = take_all 4 (drop 4 head) (omega (arith, long, length-drop 4 head))

other_form : (place : Place) (head : List ℕ) → is_name (drop 4 head) (codes "AVIX") ≡ false →
    (text : List ℕ) → open_judged place head text ≡ refused {X = Option Step} fault.Another text
other_form place head other text = rw other refl

goes_on_there : (place : Place) (head : List ℕ) → is_name (drop 4 head) (codes "AVIX") ≡ true →
    (text : List ℕ) → open_judged place head text ≡ (open_riff place >>= no_frame) text
goes_on_there place head named text = rw named refl

pub returns-then-not-is_name-clause-answer : goal.returns-then-not-is_name-clause-answer
returns-then-not-is_name-clause-answer g c =
    let head = c.take.new.buf in
    let long : length head ≡ 8 = (wanted_sound Looked 8 (c.in_ok-take.ensures.1.bytes ++ [])
    (head, []) (c.in_ok-take.ensures.1.is [])).1 in
    let other : is_name (drop 4 head) (codes "AVIX") ≡ false = ap (λ y. is_name y (codes "AVIX"))
    (sym (formed head long)) ∙ sym c.if-not-is_name.ensures in
    answers_fault fault.Another _ (answers_next _ c.in_ok-take.ensures
    (answers_same (other_form c.args.place head other) (answers_refused _ (inl refl))))

pub returns-in_err-next-clause-answer : goal.returns-in_err-next-clause-answer
returns-in_err-next-clause-answer g c =
    let head = c.take.new.buf in
    let long : length head ≡ 8 = (wanted_sound Looked 8 (c.in_ok-take.ensures.1.bytes ++ [])
    (head, []) (c.in_ok-take.ensures.1.is [])).1 in
    let named : is_name (drop 4 head) (codes "AVIX") ≡ true = ap (λ y. is_name y (codes "AVIX"))
    (sym (formed head long)) ∙ sym c.if-not-is_name.ensures in
    answers_err _ _ _ _ c.from_residual-in_err-next.ensures.1
    (answers_next _ c.in_ok-take.ensures
    (answers_same (goes_on_there c.args.place head named)
    (answers_first _ _ (c.in_err-next.ensures _ _))))

pub returns-clause-answer : goal.returns-clause-answer
returns-clause-answer g c =
    let head = c.take.new.buf in
    let long : length head ≡ 8 = (wanted_sound Looked 8 (c.in_ok-take.ensures.1.bytes ++ [])
    (head, []) (c.in_ok-take.ensures.1.is [])).1 in
    let named : is_name (drop 4 head) (codes "AVIX") ≡ true = ap (λ y. is_name y (codes "AVIX"))
    (sym (formed head long)) ∙ sym c.if-not-is_name.ensures in
    answers_ok (answers_next _ c.in_ok-take.ensures
    (answers_same (goes_on_there c.args.place head named)
    (answers_next _ (c.in_ok-next.ensures _ _) answers_given)))
