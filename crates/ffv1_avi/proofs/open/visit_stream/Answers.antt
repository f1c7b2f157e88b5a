-- A stream's list, of a given size, after its own name, with its padding.
use Rattle.std.proofs.Common.{rules, ◌≡◌, ◌<◌, ◌≤◌, ◌-◌, ◌%◌, ◌∙◌, ap, ℕ, List, Option, Some, None}
use Rattle.std.proofs.Common.{refl, arith}
use Rattle.std.proofs.lemmas.Bool.{lt-ltb, le-ltb}
use Rattle.ffv1_avi.specs.Files.{Headers, stream_known, stream_visited}
use Rattle.ffv1_avi.specs.Opens.{list_skipped}
use Rattle.ffv1_reads.specs.Head.{Head}
use Rattle.ffv1_reads.specs.Reads.{Reading, given, passed, ◌>>=◌}
use Rattle.ffv1_avi.specs.Streams.{stream_read}
use Rattle.ffv1_avi.specs.Internal.Views.{found_with, headers_with}
use Rattle.ffv1_avi.specs.declared.open.Found.{Found}
use Rattle.ffv1_avi.specs.declared.place.Extent.{Extent}
use Rattle.ffv1_reads.proofs.Rooms.{room_kept, room_then}
use Rattle.ffv1_reads.proofs.Answered.{answers_err, answers_first, answers_given, answers_next}
use Rattle.ffv1_reads.proofs.Answered.{answers_ok, answers_same}
use Rattle.ffv1_avi.proofs.open.visit_stream.Goals as goal

abbrev ended : Headers → ℕ → Option Head → Reading (Headers × Option ⊥)
ended k size found = passed (size % 2) >>= λ _. given (stream_known k found, None)

few_streams : (extent : Extent) (k : Headers) (size : ℕ) (o : Option Head) → o ≡ None → k.passed <
    100 → (text : List ℕ) → stream_visited extent k size o text ≡
    (stream_read extent (size - 4) >>= ended k size) text
few_streams extent k size o none few text = rw (none, lt-ltb _ _ few) refl

many_streams : (extent : Extent) (k : Headers) (size : ℕ) (o : Option Head) → o ≡ None → 100 ≤
    k.passed → (text : List ℕ) → stream_visited extent k size o text ≡ list_skipped {Y = ⊥} k size
    text
many_streams extent k size o none many text = rw (none, le-ltb _ _ many) refl

known_same : (f : Found) (a b : List ℕ) (x : Option Head) → stream_known (headers_with f a) x ≡
    stream_known (headers_with f b) x
known_same f a b None = refl
known_same f a b (Some head) = refl

-- no stream was found so far
no_head : (f : Found) (bytes : List ℕ) → f.sizes ≡ None → found_with f.sizes bytes ≡ None
no_head f bytes none = ap (λ z. found_with z bytes) none

pub returns-in_err-pass-clause-answer : goal.returns-in_err-pass-clause-answer
returns-in_err-pass-clause-answer g c =
    let k = headers_with c.args.found c.args.config.now.items in
    let many = many_streams c.args.extent k c.args.size k.head
    (no_head c.args.found c.args.config.now.items (search rules)) c.if-found-ge100.true in
    answers_err _ _ _ _ c.from_residual-in_err-pass.ensures.1
    (answers_same many (answers_first _ _ (rw c.padded-then-found-ge100.ensures at
    c.in_err-pass.ensures)))

pub returns-then-found-ge100-clause-answer : goal.returns-then-found-ge100-clause-answer
returns-then-found-ge100-clause-answer g c =
    let k = headers_with c.args.found c.args.config.now.items in
    let many = many_streams c.args.extent k c.args.size k.head
    (no_head c.args.found c.args.config.now.items (search rules)) c.if-found-ge100.true in
    answers_ok (answers_same many (answers_next _
    (rw c.padded-then-found-ge100.ensures at c.in_ok-pass.ensures) answers_given))

pub returns-in_err-sizes-clause-answer : goal.returns-in_err-sizes-clause-answer
returns-in_err-sizes-clause-answer g c =
    let k = headers_with c.args.found c.args.config.now.items in
    let few = few_streams c.args.extent k c.args.size k.head
    (no_head c.args.found c.args.config.now.items (search rules))
    (omega (arith, c.if-found-ge100.false)) in
    answers_err _ _ _ _ c.from_residual-in_err-sizes.ensures.1
    (answers_same few (answers_first _ _ c.in_err-sizes.ensures.answer))

pub returns-in_err-pass-2-clause-answer : goal.returns-in_err-pass-2-clause-answer
returns-in_err-pass-2-clause-answer g c =
    let k = headers_with c.args.found c.args.config.now.items in
    let few = few_streams c.args.extent k c.args.size k.head
    (no_head c.args.found c.args.config.now.items (search rules))
    (omega (arith, c.if-found-ge100.false)) in
    answers_err _ _ _ _ c.from_residual-in_err-pass-2.ensures.1
    (answers_same few (answers_next _ c.in_ok-sizes.ensures.answer
    (answers_first _ _ (rw c.from.ensures at c.in_err-pass-2.ensures))))

pub returns-clause-answer : goal.returns-clause-answer
returns-clause-answer g c =
    let bytes = c.read_stream.new.config.items in
    let k = headers_with c.args.found c.args.config.now.items in
    let found = found_with c.in_ok-sizes.sizes bytes in
    let few = few_streams c.args.extent k c.args.size k.head
    (no_head c.args.found c.args.config.now.items (search rules))
    (omega (arith, c.if-found-ge100.false)) in
    let next : headers_with c.stream_found.result bytes ≡ stream_known k found =
    c.stream_found.ensures bytes ∙ known_same c.args.found bytes c.args.config.now.items found
    in
    rw next (answers_ok (answers_same few (answers_next _ c.in_ok-sizes.ensures.answer
    (answers_next _ (rw c.from.ensures at c.in_ok-pass-2.ensures) answers_given))))

pub returns-clause-grown : goal.returns-clause-grown
returns-clause-grown g c = room_then c.in_ok-sizes.ensures.grown
    (room_kept _ c.in_ok-pass-2.ensures.1)
