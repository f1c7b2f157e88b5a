-- The line that begins a picture.
use Rattle.std.proofs.Common.{◌≡◌, ℕ, ◌+◌, ◌<◌, ◌≤◌, ◌==◌, Bool, true, false, cond, Option, List, [], ◌∷◌, ◌++◌, take, drop, length, get_or, Ok, Err, inl, inr, refl, sym, ◌∙◌, ap, subst, arith, add-one, append_assoc, append-nil, drop-cons, take-append-drop, length-take}
use Rattle.std.proofs.Math.Seq.{take-suc}
use Rattle.std.proofs.lemmas.Bool.{true≢false, false≢true, eqb-true}
use Rattle.std.proofs.lemmas.List.{take_all}
use Rattle.std.specs.Io.KnownBytes.{Consumes, Keeps, IsAtEnd}
use Rattle.ffv1_wire.specs.Failures.{one_more}
use Rattle.ffv1_y4m.specs.declared.fault.Fault.TheVariants as fault
use Rattle.ffv1_y4m.specs.Pictures.{bytes_read, begun_with, frame_begun, frame_line}
use Rattle.ffv1_y4m.specs.Reads.{Nowhere, Stands, Wants}
use Rattle.ffv1_y4m.specs.Sequence.{Outcome, left}
use Rattle.ffv1_y4m.proofs.Sequences.{Local, Stays, consumes_then, consumes_kept, moved}
use Rattle.ffv1_y4m.proofs.AnswerParts.{value_in, rest_in, is_fault}

pub bytes_behind : (xs ys text : List ℕ) → bytes_read (xs ++ ys) (xs ++ text) ≡ bytes_read ys text
bytes_behind [] ys text = refl
bytes_behind (x ∷ xs) ys text =
    let same : (x == x) ≡ true = grind arith in
    rw same (bytes_behind xs ys text)

begun_some : (line text : List ℕ) → 0 < length text → begun_with line text ≡ bytes_read line text
begun_some line [] h = absurd (omega (arith, h))
begun_some line (c ∷ cs) h = refl

some_long : (xs ys : List ℕ) (c : ℕ) → 0 < length (xs ++ c ∷ ys)
some_long [] ys c = omega arith
some_long (x ∷ xs) ys c = omega arith

line_at : (line : List ℕ) (n : ℕ) → n < length line → line ≡ take n line ++ get_or line n 0 ∷ drop (n + 1) line
line_at line n h = sym (take-append-drop n line) ∙ ap (λ z. take n line ++ z) (rw add-one (drop-cons line n 0 h))

-- the byte after the first n of the line
after_front : (line : List ℕ) (n c : ℕ) (behind : List ℕ) → n < length line →
    begun_with line (take n line ++ c ∷ behind) ≡ cond (c == get_or line n 0) (bytes_read (drop (n + 1) line) behind) (Err (fault.FrameLine, behind))
after_front line n c behind h =
    begun_some line (take n line ++ c ∷ behind) (some_long (take n line) behind c)
    ∙ (ap (λ z. bytes_read z (take n line ++ c ∷ behind)) (line_at line n h) ∙ bytes_behind (take n line) (get_or line n 0 ∷ drop (n + 1) line) (c ∷ behind))

left_if : {X : Type 0} (b : Bool) (o p : Outcome X) (n : ℕ) → length (left o) ≤ n → length (left p) ≤ n → length (left (cond b o p)) ≤ n
left_if true o p n h k = h
left_if false o p n h k = k

bytes_shorten : (line text : List ℕ) → length (left (bytes_read line text)) ≤ length text
bytes_shorten [] text = omega arith
bytes_shorten (b ∷ line) [] = omega arith
bytes_shorten (b ∷ line) (c ∷ cs) =
    let more = bytes_shorten line cs in
    left_if (c == b) (bytes_read line cs) (Err (fault.FrameLine, cs)) (length (c ∷ cs)) (omega (arith, more)) (omega arith)

front_wants : (line : List ℕ) (n : ℕ) → n < length line → Wants (begun_with line) (take n line)
front_wants line n h = λ b behind. rw (after_front line n b behind h) (left_if (b == get_or line n 0) (bytes_read (drop (n + 1) line) behind) (Err (fault.FrameLine, behind)) (length behind) (bytes_shorten (drop (n + 1) line) behind) (omega arith))

front_differs : (line : List ℕ) (n c : ℕ) → n < length line → (c == get_or line n 0) ≡ false → (behind : List ℕ) → begun_with line ((take n line ++ c ∷ []) ++ behind) ≡ Err (fault.FrameLine, behind)
front_differs line n c h differs behind =
    rw (append_assoc (take n line) (c ∷ []) behind, after_front line n c behind h, differs) refl

pub bytes_end : (xs ys : List ℕ) (b : ℕ) → bytes_read (xs ++ b ∷ ys) xs ≡ Err (fault.FrameTruncated, [])
bytes_end [] ys b = refl
bytes_end (x ∷ xs) ys b =
    let same : (x == x) ≡ true = grind arith in
    rw same (bytes_end xs ys b)

front_ends : (line : List ℕ) (n : ℕ) → n < length line → 0 < length (take n line) → begun_with line (take n line) ≡ Err (fault.FrameTruncated, [])
front_ends line n h some =
    begun_some line (take n line) some ∙ (ap (λ z. bytes_read z (take n line)) (line_at line n h) ∙ bytes_end (take n line) (drop (n + 1) line) (get_or line n 0))

-- the whole line
bytes_whole : (line behind : List ℕ) → bytes_read line (line ++ behind) ≡ Ok (true, behind)
bytes_whole [] behind = refl
bytes_whole (x ∷ line) behind =
    let same : (x == x) ≡ true = grind arith in
    rw same (bytes_whole line behind)

pub line_begun : (line : List ℕ) → 0 < length line → Local (begun_with line) line true
line_begun [] some = absurd (omega (arith, some))
line_begun (x ∷ line) some = λ behind. bytes_whole (x ∷ line) behind

pub frame_found : Local frame_begun frame_line true
unfolding frame_begun
frame_found = line_begun frame_line (omega arith)

bytes_by : (b : Bool) (line cs rest : List ℕ) (x c : ℕ) → (c == x) ≡ b → cond b (bytes_read line cs) (Err (fault.FrameLine, cs)) ≡ Ok (true, rest) → (bytes_read line cs ≡ Ok (true, rest)) × (c ≡ x)
bytes_by false line cs rest x c test h = absurd (true≢false (ap is_fault h))
bytes_by true line cs rest x c test h = (h, eqb-true c x test)

bytes_only : (line text rest : List ℕ) → bytes_read line text ≡ Ok (true, rest) → text ≡ line ++ rest
bytes_only [] text rest h = ap rest_in h
bytes_only (x ∷ line) [] rest h = absurd (true≢false (ap is_fault h))
bytes_only (x ∷ line) (c ∷ cs) rest h =
    let k = bytes_by (c == x) line cs rest x c refl h in
    rw (k.1, bytes_only line cs rest k.0) refl

never_by : (b : Bool) (line cs rest : List ℕ) → (bytes_read line cs ≡ Ok (false, rest) → ⊥) → cond b (bytes_read line cs) (Err (fault.FrameLine, cs)) ≡ Ok (false, rest) → ⊥
never_by false line cs rest never h = true≢false (ap is_fault h)
never_by true line cs rest never h = never h

bytes_never : (line text rest : List ℕ) → bytes_read line text ≡ Ok (false, rest) → ⊥
bytes_never [] text rest h = true≢false (ap (value_in false) h)
bytes_never (x ∷ line) [] rest h = true≢false (ap is_fault h)
bytes_never (x ∷ line) (c ∷ cs) rest h = never_by (c == x) line cs rest (bytes_never line cs rest) h

begun_only : (line text rest : List ℕ) → begun_with line text ≡ Ok (true, rest) → text ≡ line ++ rest
begun_only line [] rest h = absurd (false≢true (ap (value_in false) h))
begun_only line (c ∷ cs) rest h = bytes_only line (c ∷ cs) rest h

ended_only : (line text rest : List ℕ) → begun_with line text ≡ Ok (false, rest) → text ≡ []
ended_only line [] rest h = refl
ended_only line (c ∷ cs) rest h = absurd (bytes_never line (c ∷ cs) rest h)

pub frame_only : (text rest : List ℕ) → frame_begun text ≡ Ok (true, rest) → text ≡ frame_line ++ rest
unfolding frame_begun
frame_only text rest h = begun_only frame_line text rest h

pub frame_ended : (text rest : List ℕ) → frame_begun text ≡ Ok (false, rest) → text ≡ []
unfolding frame_begun
frame_ended text rest h = ended_only frame_line text rest h

pub frame_is : (bytes : List ℕ) → Local frame_begun bytes true → bytes ≡ frame_line
frame_is bytes h = sym (append-nil bytes) ∙ (frame_only (bytes ++ []) [] (h []) ∙ append-nil frame_line)

pub frame_stays : Stays frame_begun true
frame_stays = λ bytes h. rw (frame_only bytes [] h ∙ append-nil frame_line) frame_found

-- the answers at a position of the line
pub frame_failed : (a b c : Option (List ℕ)) (n before after : ℕ) → n < 6 → Consumes a b (take n frame_line) → Keeps b c → after ≡ one_more before →
    Stands frame_begun Nowhere (moved a c before after) (Err fault.Read)
unfolding frame_begun
frame_failed a b c n before after h old kept same =
    record { bytes = take n frame_line; taken = consumes_kept a b c (take n frame_line) old kept; said = (same, front_wants frame_line n h) }

pub frame_differs : (a b c : Option (List ℕ)) (n byte before after : ℕ) → n < 6 → Consumes a b (take n frame_line) → Consumes b c (byte ∷ []) → (byte == get_or frame_line n 0) ≡ false → after ≡ before →
    Stands frame_begun Nowhere (moved a c before after) (Err fault.FrameLine)
unfolding frame_begun
frame_differs a b c n byte before after h old new differs same =
    record { bytes = take n frame_line ++ byte ∷ []; taken = consumes_then a b c (take n frame_line) (byte ∷ []) old new; said = (same, inl (front_differs frame_line n byte h differs)) }

pub frame_nothing : (a b c : Option (List ℕ)) (n before after : ℕ) → n ≡ 0 → Consumes a b (take n frame_line) → Keeps b c → IsAtEnd c → after ≡ before →
    Stands frame_begun Nowhere (moved a c before after) (Ok false)
unfolding frame_begun
frame_nothing a b c n before after none old kept end same =
    let P : ℕ → Type 0 = λ z. Consumes a b (take z frame_line) in
    record { bytes = []; taken = consumes_kept a b c [] (subst P none old) kept; said = (same, inr (end, refl)) }

pub frame_short : (a b c : Option (List ℕ)) (n before after : ℕ) → 0 < n → n < 6 → Consumes a b (take n frame_line) → Keeps b c → IsAtEnd c → after ≡ before →
    Stands frame_begun Nowhere (moved a c before after) (Err fault.FrameTruncated)
unfolding frame_begun
frame_short a b c n before after some h old kept end same =
    let long : 0 < length (take n frame_line) = omega (arith, length-take n frame_line, some) in
    record { bytes = take n frame_line; taken = consumes_kept a b c (take n frame_line) old kept; said = (same, inr (end, front_ends frame_line n h long)) }

pub frame_whole : (a b : Option (List ℕ)) (n before after : ℕ) → 6 ≤ n → Consumes a b (take n frame_line) → after ≡ before →
    Stands frame_begun Nowhere (moved a b before after) (Ok true)
frame_whole a b n before after all old same =
    let whole : take n frame_line ≡ frame_line = take_all n frame_line all in
    record { bytes = take n frame_line; taken = old; said = (same, inl (rw whole frame_found)) }

pub frame_step : (a b c : Option (List ℕ)) (n byte : ℕ) → n < 6 → Consumes a b (take n frame_line) → Consumes b c (byte ∷ []) → byte ≡ get_or frame_line n 0 → Consumes a c (take (n + 1) frame_line)
frame_step a b c n byte h old new is =
    let more : take (n + 1) frame_line ≡ take n frame_line ++ byte ∷ [] = rw (add-one n, is) (take-suc frame_line n 0 h) in
    let P : List ℕ → Type 0 = λ z. Consumes a c z in
    subst P (sym more) (consumes_then a b c (take n frame_line) (byte ∷ []) old new)
