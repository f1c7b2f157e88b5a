-- A chunk of RIFF, before its first movi.
use Rattle.std.proofs.Common.{◌≡◌, ℕ, List, Option, None, true, false, codes, refl, sym}
use Rattle.ffv1_avi.specs.Files.{Headers, header_read, list_visited, movi_reached}
use Rattle.ffv1_avi.specs.Opens.{list_skipped}
use Rattle.ffv1_avi.specs.Files.{sizeless_visited, visit_top}
use Rattle.std.proofs.lemmas.Bool.{eq-eqb, ne_eqb}
use Rattle.ffv1_reads.specs.Head.{Head}
use Rattle.ffv1_avi.specs.declared.place.Extent.{Extent}
use Rattle.ffv1_avi.specs.declared.place.Place.{Place}
use Rattle.ffv1_reads.specs.Reads.{Reading, given, taken, ◌>>=◌}
use Rattle.ffv1_avi.specs.Internal.Views.{headers_with}
use Rattle.ffv1_avi.specs.Walk.{is_name}
use Rattle.ffv1_avi.specs.declared.chunk.Entry.{Entry}
use Rattle.ffv1_reads.proofs.Results.{on_ok}
use Rattle.ffv1_reads.proofs.Rooms.{room_kept, room_then}
use Rattle.ffv1_reads.proofs.Answered.{answers_err, answers_first, answers_given, answers_next}
use Rattle.ffv1_reads.proofs.Answered.{answers_of, answers_ok, answers_same, answers_tail}
use Rattle.ffv1_avi.proofs.open.visit_top.Goals as goal

abbrev Next : Type 0
Next = Headers × Option (Head × Place)

abbrev header_next : Headers → Reading Next
header_next found = given (found, None)

list_read : (extent : Extent) (s : Headers) (e : Entry) → is_name e.name (codes "LIST") ≡ true →
    (text : List ℕ) → visit_top extent s e text ≡ (taken 4 >>= list_visited extent s e.left e.size)
    text
unfolding visit_top
list_read extent s e list text = rw list refl

bare_named : (extent : Extent) (s : Headers) (left size : ℕ) (own : List ℕ) → size ≡ 0 →
    (text : List ℕ) → list_visited extent s left size own text ≡ sizeless_visited s own text
bare_named extent s left size own none text = rw (eq-eqb size 0 none) refl

header_named : (extent : Extent) (s : Headers) (left size : ℕ) (own : List ℕ) → (size ≡ 0 → ⊥) →
    is_name own (codes "hdrl") ≡ true → (text : List ℕ) → list_visited extent s left size own text ≡
    (header_read extent s size >>= header_next) text
header_named extent s left size own some is text = rw (ne_eqb size 0 some, is) refl

movi_named : (extent : Extent) (s : Headers) (left size : ℕ) (own : List ℕ) → (size ≡ 0 → ⊥) →
    is_name own
    (codes "hdrl") ≡ false → is_name own (codes "movi") ≡ true → (text : List ℕ) → list_visited
    extent s left size own text ≡ movi_reached extent s left size s.head text
movi_named extent s left size own some other is text = rw (ne_eqb size 0 some, other, is) refl

other_named : (extent : Extent) (s : Headers) (left size : ℕ) (own : List ℕ) → (size ≡ 0 → ⊥) →
    is_name own
    (codes "hdrl") ≡ false → is_name own (codes "movi") ≡ false → (text : List ℕ) → list_visited
    extent s left size own text ≡ list_skipped {Y = Head × Place} s size text
other_named extent s left size own some header movi text =
    rw (ne_eqb size 0 some, header, movi) refl

pub returns-then-entry-eq0-clause-answer : goal.returns-then-entry-eq0-clause-answer
returns-then-entry-eq0-clause-answer g c =
    let e = c.args.entry in
    let found = headers_with c.args.found c.args.config.now.items in
    let named = bare_named c.args.extent found e.left e.size c.in_ok-own.own
    c.if-entry-eq0.true in
    answers_of _ _ _ _ (answers_same (list_read c.args.extent found e
    (sym c.if-not-is_name.ensures)) (answers_next _ c.in_ok-own.ensures
    (answers_same named (answers_tail _ _ _ _
    (c.reach_open.ensures c.args.config.now.items _ _)))))

pub returns-then-entry-eq0-clause-grown : goal.returns-then-entry-eq0-clause-grown
returns-then-entry-eq0-clause-grown g c = on_ok c.reach_open.result
    (room_kept _ c.in_ok-own.ensures.1)

pub returns-in_err-found-clause-answer : goal.returns-in_err-found-clause-answer
returns-in_err-found-clause-answer g c =
    let e = c.args.entry in
    let found = headers_with c.args.found c.args.config.now.items in
    let named = header_named c.args.extent found e.left e.size c.in_ok-own.own
    c.if-entry-eq0.false
    (sym c.if-is_name.ensures) in
    answers_err _ _ _ _ c.from_residual-in_err-found.ensures.1
    (answers_same (list_read c.args.extent found e (sym c.if-not-is_name.ensures))
    (answers_next _ c.in_ok-own.ensures (answers_same named
    (answers_first _ _ c.in_err-found.ensures.answer))))

pub returns-then-is_name-clause-answer : goal.returns-then-is_name-clause-answer
returns-then-is_name-clause-answer g c =
    let e = c.args.entry in
    let found = headers_with c.args.found c.args.config.now.items in
    let named = header_named c.args.extent found e.left e.size c.in_ok-own.own
    c.if-entry-eq0.false
    (sym c.if-is_name.ensures) in
    answers_ok (answers_same (list_read c.args.extent found e (sym c.if-not-is_name.ensures))
    (answers_next _ c.in_ok-own.ensures (answers_same named
    (answers_next _ c.in_ok-found.ensures.answer answers_given))))

pub returns-then-is_name-2-clause-answer : goal.returns-then-is_name-2-clause-answer
returns-then-is_name-2-clause-answer g c =
    let e = c.args.entry in
    let found = headers_with c.args.found c.args.config.now.items in
    let named = movi_named c.args.extent found e.left e.size c.in_ok-own.own
    c.if-entry-eq0.false
    (sym c.if-is_name.ensures) (sym c.if-is_name-2.ensures) in
    answers_of _ _ _ _ (answers_same (list_read c.args.extent found e
    (sym c.if-not-is_name.ensures)) (answers_next _ c.in_ok-own.ensures
    (answers_same named (answers_tail _ _ _ _
    (c.reach_movi.ensures c.args.config.now.items _ _)))))

pub returns-in_err-pass-2-clause-answer : goal.returns-in_err-pass-2-clause-answer
returns-in_err-pass-2-clause-answer g c =
    let e = c.args.entry in
    let found = headers_with c.args.found c.args.config.now.items in
    let named = other_named c.args.extent found e.left e.size c.in_ok-own.own
    c.if-entry-eq0.false
    (sym c.if-is_name.ensures) (sym c.if-is_name-2.ensures) in
    answers_err _ _ _ _ c.from_residual-in_err-pass-2.ensures.1
    (answers_same (list_read c.args.extent found e (sym c.if-not-is_name.ensures))
    (answers_next _ c.in_ok-own.ensures (answers_same named
    (answers_first _ _ (rw c.padded-2.ensures at c.in_err-pass-2.ensures)))))

pub returns-clause-answer : goal.returns-clause-answer
returns-clause-answer g c =
    let e = c.args.entry in
    let found = headers_with c.args.found c.args.config.now.items in
    let named = other_named c.args.extent found e.left e.size c.in_ok-own.own
    c.if-entry-eq0.false
    (sym c.if-is_name.ensures) (sym c.if-is_name-2.ensures) in
    answers_ok (answers_same (list_read c.args.extent found e (sym c.if-not-is_name.ensures))
    (answers_next _ c.in_ok-own.ensures (answers_same named
    (answers_next _ (rw c.padded-2.ensures at c.in_ok-pass-2.ensures) answers_given))))

pub returns-then-is_name-clause-grown : goal.returns-then-is_name-clause-grown
returns-then-is_name-clause-grown g c = room_then (room_kept _ c.in_ok-own.ensures.1)
    c.in_ok-found.ensures.grown

pub returns-then-is_name-2-clause-grown : goal.returns-then-is_name-2-clause-grown
returns-then-is_name-2-clause-grown g c = on_ok c.reach_movi.result
    (room_kept _ c.in_ok-own.ensures.1)

pub returns-clause-grown : goal.returns-clause-grown
returns-clause-grown g c = room_then (room_kept _ c.in_ok-own.ensures.1)
    (room_kept _ c.in_ok-pass-2.ensures.1)
