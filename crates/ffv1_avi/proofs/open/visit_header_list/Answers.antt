-- A list of hdrl of a given size, by its own name.
use Rattle.std.proofs.Common.{◌≡◌, ℕ, List, [], true, false, codes, refl, sym, ap}
use Rattle.ffv1_avi.specs.Files.{Headers, extended_visited, header_list, header_named}
use Rattle.ffv1_avi.specs.Opens.{list_skipped}
use Rattle.ffv1_avi.specs.Files.{stream_came, stream_visited}
use Rattle.ffv1_avi.specs.Internal.Views.{headers_next, headers_with}
use Rattle.ffv1_avi.specs.Walk.{is_name}
use Rattle.ffv1_avi.specs.declared.open.Found.{Found}
use Rattle.ffv1_avi.specs.declared.place.Extent.{Extent}
use Rattle.ffv1_reads.proofs.Rooms.{room_after, room_answered, room_kept, room_then}
use Rattle.ffv1_reads.proofs.Answered.{answers_err, answers_first, answers_given, answers_next}
use Rattle.ffv1_reads.proofs.Answered.{answers_of, answers_ok, answers_same, answers_tail}
use Rattle.ffv1_avi.proofs.open.visit_header_list.Goals as goal

stream_named : (extent : Extent) (s t : Headers) (size : ℕ) (own : List ℕ) → is_name own
    (codes "strl") ≡ true → t ≡ stream_came extent s → (text : List ℕ) → header_named extent s size
    own text ≡ stream_visited extent t size t.head text
stream_named extent s t size own is came text =
    rw is (ap (λ (z : Headers). stream_visited extent z size z.head text) (sym came))

extended_named : (extent : Extent) (s : Headers) (size : ℕ) (own : List ℕ) → is_name own
    (codes "strl") ≡ false → is_name own (codes "odml") ≡ true → (text : List ℕ) → header_named
    extent s size own text ≡ extended_visited extent s size text
extended_named extent s size own other is text = rw (other, is) refl

other_named : (extent : Extent) (s : Headers) (size : ℕ) (own : List ℕ) → is_name own (codes "strl")
    ≡ false → is_name own (codes "odml") ≡ false → (text : List ℕ) → header_named extent s size own
    text ≡ list_skipped s size text
other_named extent s size own stream extended text = rw (stream, extended) refl

pub returns-then-is_name-clause-answer : goal.returns-then-is_name-clause-answer
returns-then-is_name-clause-answer g c = answers_of _ (header_list c.args.extent
    (headers_with c.args.found c.args.config.now.items) c.args.size) _ _
    (answers_next _ c.in_ok-own.ensures (answers_same (stream_named c.args.extent
    (headers_with c.args.found c.args.config.now.items)
    (headers_with c.stream_came.result c.args.config.now.items) c.args.size c.in_ok-own.own
    (sym c.if-is_name.ensures) (c.stream_came.ensures c.args.config.now.items)) (answers_tail _ _ _ _ c.visit_stream.ensures.answer)))

pub returns-then-is_name-2-clause-answer : goal.returns-then-is_name-2-clause-answer
returns-then-is_name-2-clause-answer g c = answers_of _ (header_list c.args.extent
    (headers_with c.args.found c.args.config.now.items) c.args.size) _ _
    (answers_next _ c.in_ok-own.ensures (answers_same (extended_named c.args.extent
    (headers_with c.args.found c.args.config.now.items) c.args.size c.in_ok-own.own
    (sym c.if-is_name.ensures) (sym c.if-is_name-2.ensures))
    (answers_tail _ _ _ _ (c.extend.ensures c.args.config.now.items))))

pub returns-in_err-pass-clause-answer : goal.returns-in_err-pass-clause-answer
returns-in_err-pass-clause-answer g c =
    let other = other_named c.args.extent (headers_with c.args.found c.args.config.now.items)
    c.args.size c.in_ok-own.own (sym c.if-is_name.ensures) (sym c.if-is_name-2.ensures) in
    answers_err _ _ _ _ c.from_residual-in_err-pass.ensures.1
    (answers_next _ c.in_ok-own.ensures (answers_same other
    (answers_first _ _ (rw c.padded.ensures at c.in_err-pass.ensures))))

pub returns-clause-answer : goal.returns-clause-answer
returns-clause-answer g c =
    let other = other_named c.args.extent (headers_with c.args.found c.args.config.now.items)
    c.args.size c.in_ok-own.own (sym c.if-is_name.ensures) (sym c.if-is_name-2.ensures) in
    answers_ok (answers_next _ c.in_ok-own.ensures (answers_same other (answers_next _
    (rw c.padded.ensures at c.in_ok-pass.ensures) answers_given)))

pub returns-then-is_name-clause-grown : goal.returns-then-is_name-clause-grown
returns-then-is_name-clause-grown g c = room_after _ _ _ c.visit_stream.result c.in_ok-own.ensures.1
    c.visit_stream.ensures.grown

pub returns-then-is_name-2-clause-grown : goal.returns-then-is_name-2-clause-grown
returns-then-is_name-2-clause-grown g c = room_after _ _ _ c.extend.result c.in_ok-own.ensures.1
    (room_answered (λ (f : Found). headers_next f []) _ _ _ c.extend.result (c.extend.ensures []))

pub returns-clause-grown : goal.returns-clause-grown
returns-clause-grown g c = room_then (room_kept _ c.in_ok-own.ensures.1)
    (room_kept _ c.in_ok-pass.ensures.1)
