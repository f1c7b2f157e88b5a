-- A file, whose first byte may have been read, up to the first movi: its sizes, its record in place
-- of what the vector has, and where movi stands.
use Rattle.std.proofs.Common.{◌≡◌, ◌&&◌, ◌++◌, ℕ, List, [], Bool, if◌then◌else◌, true}
use Rattle.std.proofs.Common.{false, codes, length, take, drop, refl, sym, ap, ◌∙◌, arith}
use Rattle.std.proofs.Common.{length-drop}
use Rattle.std.proofs.lemmas.List.{take_all}
use Rattle.byteorder.specs.Endian.{little_number}
use Rattle.ffv1_reads.specs.declared.fault.FileFault.TheVariants as fault
use Rattle.ffv1_avi.specs.Files.{begins, has_form, open_read, others_read, top_others, top_read}
use Rattle.ffv1_reads.specs.Head.{Head}
use Rattle.ffv1_avi.specs.declared.place.Extent.{Extent}
use Rattle.ffv1_avi.specs.declared.place.Place.{Place}
use Rattle.ffv1_reads.specs.Reads.{Looked, Read, Reading, refused, taken, ◌>>=◌}
use Rattle.ffv1_reads.specs.declared.fault.FileFault.{FileFault}
use Rattle.ffv1_avi.specs.declared.stream.Sizes.{Sizes}
use Rattle.ffv1_avi.specs.Walk.{is_name}
use Rattle.ffv1_avi.proofs.Contents.{number_taken}
use Rattle.ffv1_reads.proofs.WantedBytes.{wanted_sound}
use Rattle.ffv1_reads.proofs.Rooms.{room_after}
use Rattle.std.proofs.lemmas.Result.{err_from_is_err_and}
use Rattle.ffv1_avi.proofs.RiffReadings.{stops_here}
use Rattle.ffv1_avi.proofs.SpotReadings.{opens_then, start_differs, start_read, start_refused}
use Rattle.ffv1_reads.proofs.Answered.{answers_fault, answers_next, answers_of, answers_refused}
use Rattle.ffv1_reads.proofs.Answered.{answers_ok, answers_same, answers_tail}
use Rattle.std.proofs.Common.{inl, Err, IfOk, Ok, Option, Result}
use Rattle.ffv1_avi.proofs.open.read_opening.Goals as goal
use Rattle.ffv1_avi.proofs.open.read_opening.Goals.{then-not-is_name-via-then-not-is_name}
use Rattle.ffv1_avi.proofs.open.read_opening.Goals.{then-not-is_name-via-else-not-is_name+then-not-is_name-2}
use Rattle.ffv1_avi.proofs.open.read_opening.Goals.{then-not-is_name-via-else-not-is_name+else-not-is_name-2+then-not-has_form}

abbrev behind : Extent → List ℕ → Reading (Head × Place)
behind extent bytes = if begins extent bytes then top_read extent (little_number 4 (drop 4 bytes))
    else refused fault.NotAvi

abbrev counting : Extent → List ℕ → Reading ℕ
counting extent bytes = if begins extent bytes then top_others extent (little_number 4 (drop 4 bytes))
    else refused fault.NotAvi

opened : (extent : Extent) (text : List ℕ) → open_read extent text ≡ (taken 12 >>= behind extent)
    text
unfolding open_read
opened extent text = refl

begun : (extent : Extent) (bytes : List ℕ) → begins extent bytes ≡ true → (text : List ℕ) → behind extent
    bytes text ≡ top_read extent (little_number 4 (drop 4 bytes)) text
begun extent bytes is text = rw is refl

not_begun : (extent : Extent) (bytes : List ℕ) → begins extent bytes ≡ false → (text : List ℕ) → behind
    extent bytes text ≡ refused fault.NotAvi text
not_begun extent bytes is text = rw is refl

all_three : (a b c : Bool) → a ≡ true → b ≡ true → c ≡ true → ((a && b) && c) ≡ true
all_three a b c p q r = rw (p, q, r) refl

no_first : (a b c : Bool) → a ≡ false → ((a && b) && c) ≡ false
no_first a b c p = rw p refl

no_second : (a b c : Bool) → a ≡ true → b ≡ false → ((a && b) && c) ≡ false
no_second a b c p q = rw (p, q) refl

no_third : (a b c : Bool) → a ≡ true → b ≡ true → c ≡ false → ((a && b) && c) ≡ false
no_third a b c p q r = rw (p, q, r) refl

pub returns-then-not-is_name-clause-answer : goal.returns-then-not-is_name-clause-answer
returns-then-not-is_name-clause-answer g c =
    let head = c.take_after.new.buf in
    let long : length head ≡ 12 = (wanted_sound Looked 12 (c.in_ok-take_after.ensures.1.bytes ++ [])
    (head, []) (c.in_ok-take_after.ensures.1.is [])).1 in
    let form : take 4 (drop 8 head) ≡ drop 8 head = take_all 4 (drop 8 head)
    (omega (arith, long, length-drop 8 head)) in
    let size : c.read_u32-size.result ≡ little_number 4 (drop 4 head) = c.read_u32-size.ensures ∙
    number_taken 8 (drop 4 head) (omega arith) in
    let a = is_name (take 4 head) (codes "RIFF") in
    let b = is_name (drop 8 head) (codes "AVI ") in
    let z = has_form c.args.extent (little_number 4 (drop 4 head)) in
    let other : begins c.args.extent head ≡ false = elim c.then-not-is_name.branch [
      | then-not-is_name-via-then-not-is_name w ↦ no_first a b z (sym w.if-not-is_name.ensures)
      | then-not-is_name-via-else-not-is_name+then-not-is_name-2 w ↦ no_second a b z
          (sym w.if-not-is_name.ensures) (ap (λ y. is_name y (codes "AVI ")) (sym form) ∙
          sym w.if-not-is_name-2.ensures)
      | then-not-is_name-via-else-not-is_name+else-not-is_name-2+then-not-has_form w ↦ no_third a b z
          (sym w.if-not-is_name.ensures) (ap (λ y. is_name y (codes "AVI ")) (sym form) ∙
          sym w.if-not-is_name-2.ensures) (ap (has_form c.args.extent) (sym size) ∙ sym w.if-not-has_form.ensures)
    ] in
    answers_fault fault.NotAvi _ (answers_same (opened c.args.extent)
    (answers_next _ c.in_ok-take_after.ensures (answers_same
    (not_begun c.args.extent head other) (answers_refused _ (inl refl)))))

pub returns-clause-answer : goal.returns-clause-answer
returns-clause-answer g c =
    let head = c.take_after.new.buf in
    let long : length head ≡ 12 = (wanted_sound Looked 12 (c.in_ok-take_after.ensures.1.bytes ++ [])
    (head, []) (c.in_ok-take_after.ensures.1.is [])).1 in
    let form : take 4 (drop 8 head) ≡ drop 8 head = take_all 4 (drop 8 head)
    (omega (arith, long, length-drop 8 head)) in
    let size : c.read_u32-size.result ≡ little_number 4 (drop 4 head) = c.read_u32-size.ensures ∙
    number_taken 8 (drop 4 head) (omega arith) in
    let enough : has_form c.args.extent (little_number 4 (drop 4 head)) ≡ true =
    ap (has_form c.args.extent) (sym size) ∙ sym c.if-not-has_form.ensures in
    let here : begins c.args.extent head ≡ true = all_three _ _ _ (sym c.if-not-is_name.ensures)
    (ap (λ y. is_name y (codes "AVI ")) (sym form) ∙ sym c.if-not-is_name-2.ensures) enough in
    answers_of _ _ _ _ (answers_same (opened c.args.extent)
    (answers_next _ c.in_ok-take_after.ensures (answers_same (begun c.args.extent head here)
    (answers_tail _ _ _ _ (rw size at c.read_top.ensures.answer)))))

pub returns-clause-grown : goal.returns-clause-grown
returns-clause-grown g c = room_after _ _ _ c.read_top.result c.in_ok-take_after.ensures.1
    c.read_top.ensures.grown

pub returns-in_err-take_after-clause-from : goal.returns-in_err-take_after-clause-from
returns-in_err-take_after-clause-from g c =
    let p = err_from_is_err_and c.from_residual.result c.from_residual.ensures.1 in
    let f = c.in_err-take_after.field-0.0 in
    rw (p.1, p.2) (stops_here f (start_refused c.args.extent _ _ _ _ f c.in_err-take_after.ensures))

pub returns-then-not-is_name-clause-from : goal.returns-then-not-is_name-clause-from
returns-then-not-is_name-clause-from g c =
    let head = c.take_after.new.buf in
    let long : length head ≡ 12 = (wanted_sound Looked 12 (c.in_ok-take_after.ensures.1.bytes ++ [])
    (head, []) (c.in_ok-take_after.ensures.1.is [])).1 in
    let form : take 4 (drop 8 head) ≡ drop 8 head = take_all 4 (drop 8 head)
    (omega (arith, long, length-drop 8 head)) in
    let size : c.read_u32-size.result ≡ little_number 4 (drop 4 head) = c.read_u32-size.ensures ∙
    number_taken 8 (drop 4 head) (omega arith) in
    let a = is_name (take 4 head) (codes "RIFF") in
    let b = is_name (drop 8 head) (codes "AVI ") in
    let z = has_form c.args.extent (little_number 4 (drop 4 head)) in
    let other : begins c.args.extent head ≡ false = elim c.then-not-is_name.branch [
      | then-not-is_name-via-then-not-is_name w ↦ no_first a b z (sym w.if-not-is_name.ensures)
      | then-not-is_name-via-else-not-is_name+then-not-is_name-2 w ↦ no_second a b z
          (sym w.if-not-is_name.ensures) (ap (λ y. is_name y (codes "AVI ")) (sym form) ∙
          sym w.if-not-is_name-2.ensures)
      | then-not-is_name-via-else-not-is_name+else-not-is_name-2+then-not-has_form w ↦ no_third a b z
          (sym w.if-not-is_name.ensures) (ap (λ y. is_name y (codes "AVI ")) (sym form) ∙
          sym w.if-not-is_name-2.ensures) (ap (has_form c.args.extent) (sym size) ∙ sym w.if-not-has_form.ensures)
    ] in
    stops_here fault.NotAvi (start_differs c.args.extent head _ _ _ _ other
    c.in_ok-take_after.ensures)

pub returns-clause-from : goal.returns-clause-from
returns-clause-from g c =
    let head = c.take_after.new.buf in
    let long : length head ≡ 12 = (wanted_sound Looked 12 (c.in_ok-take_after.ensures.1.bytes ++ [])
    (head, []) (c.in_ok-take_after.ensures.1.is [])).1 in
    let form : take 4 (drop 8 head) ≡ drop 8 head = take_all 4 (drop 8 head)
    (omega (arith, long, length-drop 8 head)) in
    let size : c.read_u32-size.result ≡ little_number 4 (drop 4 head) = c.read_u32-size.ensures ∙
    number_taken 8 (drop 4 head) (omega arith) in
    let enough : has_form c.args.extent (little_number 4 (drop 4 head)) ≡ true =
    ap (has_form c.args.extent) (sym size) ∙ sym c.if-not-has_form.ensures in
    let here : begins c.args.extent head ≡ true = all_three _ _ _ (sym c.if-not-is_name.ensures)
    (ap (λ y. is_name y (codes "AVI ")) (sym form) ∙ sym c.if-not-is_name-2.ensures) enough in
    opens_then _ _ _ c.args.extent (little_number 4 (drop 4 head)) c.read_top.new.config.items
    c.read_top.result c.in_ok-take_after.ensures.0
    (start_read c.args.extent head here c.in_ok-take_after.ensures.1)
    (rw size at c.read_top.ensures.from)

others_then : (extent : Extent) (head : List ℕ) (old mid new : Option (List ℕ)) (n : ℕ)
    (result : Result (Sizes × Place) FileFault) → begins extent head ≡ true → Read (taken 12) old mid
    head → IfOk result (λ p. Read (top_others extent (little_number 4 (drop 4 head))) mid new
    n) → IfOk result (λ p. Read (others_read extent) old new n)
unfolding others_read
others_then extent head old mid new n (Ok p) is first more =
    (answers_ok (answers_next {before = 0} {now = 0} {after = 0} (counting extent) (refl, first)
    (answers_same (λ text. rw is refl) (record { said = (refl, more) })))).1
others_then extent head old mid new n (Err f) is first more = tt

pub returns-clause-others : goal.returns-clause-others
returns-clause-others g c =
    let head = c.take_after.new.buf in
    let long : length head ≡ 12 = (wanted_sound Looked 12 (c.in_ok-take_after.ensures.1.bytes ++ [])
    (head, []) (c.in_ok-take_after.ensures.1.is [])).1 in
    let form : take 4 (drop 8 head) ≡ drop 8 head = take_all 4 (drop 8 head)
    (omega (arith, long, length-drop 8 head)) in
    let size : c.read_u32-size.result ≡ little_number 4 (drop 4 head) = c.read_u32-size.ensures ∙
    number_taken 8 (drop 4 head) (omega arith) in
    let enough : has_form c.args.extent (little_number 4 (drop 4 head)) ≡ true =
    ap (has_form c.args.extent) (sym size) ∙ sym c.if-not-has_form.ensures in
    let here : begins c.args.extent head ≡ true = all_three _ _ _ (sym c.if-not-is_name.ensures)
    (ap (λ y. is_name y (codes "AVI ")) (sym form) ∙ sym c.if-not-is_name-2.ensures) enough in
    others_then c.args.extent head _ _ _ _ c.read_top.result here c.in_ok-take_after.ensures.1
    (rw size at c.read_top.ensures.others)
