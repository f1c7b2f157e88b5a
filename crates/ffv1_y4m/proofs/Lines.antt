-- A header line that is read byte by byte.
use Rattle.std.proofs.Common.{◌≡◌, ℕ, ◌+◌, ◌-◌, ◌<◌, ◌≤◌, ◌==◌, nat_lt, zero, take-append-drop, drop-cons, true, false, Option, Some, None, List, [], ◌∷◌, ◌++◌, take, drop, length, get_or, Ok, Err, inl, inr, refl, sym, ◌∙◌, ap, arith, suc, add-one, append_assoc, length-take}
use Rattle.std.proofs.lemmas.Bool.{true≢false, cases_lt, eqb-true}
use Rattle.ffv1_y4m.proofs.AnswerParts.{value_in, rest_in, is_fault}
use Rattle.std.proofs.lemmas.Grind.{common_steps}
use Rattle.std.proofs.lemmas.List.{take_all, drop_all, get_or-take}
use Rattle.std.proofs.lemmas.List.Quantifiers.{position-Some}
use Rattle.std.proofs.Math.Seq.{take-suc-set, take-append_seam, drop-append_seam, take-append-add, drop-append-add}
use Rattle.std.proofs.Math.ListN.{set}
use Rattle.std.specs.List.{position, position_or_len}
use Rattle.std.specs.Io.KnownBytes.{Consumes, Keeps, IsAtEnd}
use Rattle.ffv1_wire.specs.Failures.{one_more}
use Rattle.ffv1_y4m.specs.Header.{line_end, line_to, line_read}
use Rattle.ffv1_y4m.specs.HeaderLine.{Without}
use Rattle.ffv1_y4m.specs.Passage.{known_text}
use Rattle.ffv1_y4m.specs.Reads.{Nowhere, Stands, Wants}
use Rattle.ffv1_y4m.specs.Sequence.{left}
use Rattle.ffv1_y4m.specs.declared.fault.Fault.TheVariants as fault
use Rattle.ffv1_y4m.proofs.Sequences.{Local, Stays, consumes_then, consumes_kept, moved}

pub without_more : (b : ℕ) (xs : List ℕ) (c : ℕ) → Without b xs → (c == b) ≡ false → Without b (xs ++ c ∷ [])
without_more b [] c h k = (k, tt)
without_more b (x ∷ xs) c h k = (h.0, without_more b xs c h.1 k)

place_found : (b : ℕ) (xs ys : List ℕ) → Without b xs → position_or_len (λ c. c == b) (xs ++ b ∷ ys) ≡ length xs
place_found b [] ys h =
    let same : (b == b) ≡ true = grind arith in
    rw same refl
place_found b (x ∷ xs) ys h = rw h.0 (ap (λ n. 1 + n) (place_found b xs ys h.1) ∙ (omega arith))

place_none : (b : ℕ) (xs : List ℕ) → Without b xs → position_or_len (λ c. c == b) xs ≡ length xs
place_none b [] h = refl
place_none b (x ∷ xs) h = rw h.0 (ap (λ n. 1 + n) (place_none b xs h.1) ∙ (omega arith))

pub position_found : (b : ℕ) (xs ys : List ℕ) → Without b xs → position (λ c. c == b) (xs ++ b ∷ ys) ≡ Some (length xs)
position_found b xs ys h =
    let inside : nat_lt (length xs) (length (xs ++ b ∷ ys)) ≡ true = grind (arith, common_steps) in
    rw (place_found b xs ys h, inside) refl

pub position_none : (b : ℕ) (xs : List ℕ) → Without b xs → position (λ c. c == b) xs ≡ None
position_none b xs h =
    let outside : nat_lt (length xs) (length xs) ≡ false = grind arith in
    rw (place_none b xs h, outside) refl

-- one byte more of the line
pub line_step : (a b c : Option (List ℕ)) (line : List ℕ) (n byte : ℕ) → n < length line → Consumes a b (take n line) → Consumes b c (byte ∷ []) → Consumes a (known_text None c) (take (n + 1) (set line n byte))
line_step None b c line n byte inside old new = tt
line_step (Some text) None c line n byte inside old new = absurd old
line_step (Some text) (Some rest) None line n byte inside old new = absurd new
line_step (Some text) (Some rest) (Some more) line n byte inside old new =
    rw (add-one, take-suc-set line n byte inside) (old ∙ (ap (λ z. take n line ++ z) new ∙ sym (append_assoc (take n line) (byte ∷ []) more)))

pub without_step : (line : List ℕ) (n byte : ℕ) → n < length line → Without 10 (take n line) → (byte == 10) ≡ false → Without 10 (take (n + 1) (set line n byte))
without_step line n byte inside h k = rw (add-one, take-suc-set line n byte inside) (without_more 10 (take n line) byte h k)

-- of a text that begins so, the first bytes
pub taken_to : (xs ys : List ℕ) (m k : ℕ) → m ≡ length xs + suc k → Without 10 xs → position (λ c. c == 10) (take m (xs ++ 10 ∷ ys)) ≡ Some (length xs)
taken_to xs ys m k e h = rw (e, take-append-add xs (10 ∷ ys) (suc k)) (position_found 10 xs (take k ys) h)

-- a line that ends in time
pub line_local : (most : ℕ) (xs : List ℕ) → Without 10 xs → length xs < most → Local (line_read most) (xs ++ 10 ∷ []) xs
line_local most xs h short = λ behind.
    let far : most ≡ length xs + suc (most - suc (length xs)) = omega (arith, short) in
    let found : line_end most (xs ++ 10 ∷ behind) ≡ Some (length xs) = taken_to xs behind most (most - suc (length xs)) far h in
    let rest : drop (length xs + 1) (xs ++ 10 ∷ behind) ≡ behind = drop-append-add xs (10 ∷ behind) 1 in
    rw (append_assoc xs (10 ∷ []) behind, found, take-append_seam xs (10 ∷ behind), rest) refl

-- no line feed comes in time
pub line_long : (most : ℕ) (xs : List ℕ) → Without 10 xs → length xs ≡ most → (behind : List ℕ) → line_read most (xs ++ behind) ≡ Err (fault.Header, behind)
line_long most xs h long behind =
    let none : line_end (length xs) (xs ++ behind) ≡ None = rw (take-append_seam xs behind) (position_none 10 xs h) in
    rw (← long, none, drop-append_seam xs behind) refl

-- the text ends before the line does
pub line_stops : (most : ℕ) (xs : List ℕ) → Without 10 xs → length xs < most → line_read most xs ≡ Err (fault.Header, [])
line_stops most xs h short =
    let none : line_end most xs ≡ None = rw (take_all most xs (omega (arith, short))) (position_none 10 xs h) in
    rw (none, drop_all most xs (omega (arith, short))) refl

without_at : (b : ℕ) (xs ys : List ℕ) (k : ℕ) → Without b xs → k < length xs → (get_or (xs ++ ys) k 0 == b) ≡ false
without_at b [] ys k h inside = absurd (omega (arith, inside))
without_at b (x ∷ xs) ys zero h inside = h.0
without_at b (x ∷ xs) ys (suc k) h inside = without_at b xs ys k h.1 (omega (arith, inside))

below_first : (i n : ℕ) (xs : List ℕ) → i < length (take n xs) → i < n
below_first i n xs h = omega (arith, length-take n xs, h)

-- a line feed does not stand before these bytes end
end_behind : (most : ℕ) (xs ys : List ℕ) (end : ℕ) → Without 10 xs → line_end most (xs ++ ys) ≡ Some end → length xs ≤ end
end_behind most xs ys end h found =
    let p = position-Some (λ c. c == 10) (take most (xs ++ ys)) end 0 found in
    let few : end < most = below_first end most (xs ++ ys) p.0 in
    elim (cases_lt end (length xs)) [
      | inl below ↦ absurd (true≢false (sym p.1 ∙ (rw (get_or-take most (xs ++ ys) end 0 few) (without_at 10 xs ys end h below))))
      | inr above ↦ above
    ]

wants_by : (most : ℕ) (xs : List ℕ) (b : ℕ) (behind : List ℕ) (end : Option ℕ) → Without 10 xs → length xs < most → line_end most (xs ++ b ∷ behind) ≡ end → length (left (line_to most (xs ++ b ∷ behind) end)) ≤ length behind
wants_by most xs b behind None h short found = grind (arith, common_steps, short)
wants_by most xs b behind (Some end) h short found =
    let later : length xs ≤ end = end_behind most xs (b ∷ behind) end h found in
    grind (arith, common_steps, later)

-- a line that has not ended wants a byte
pub line_wants : (most : ℕ) (xs : List ℕ) → Without 10 xs → length xs < most → Wants (line_read most) xs
line_wants most xs h short = λ b behind. wants_by most xs b behind (line_end most (xs ++ b ∷ behind)) h short refl

-- the four answers
pub line_failed : (a b c : Option (List ℕ)) (line : List ℕ) (n before after : ℕ) → n < length line → Consumes a b (take n line) → Without 10 (take n line) → Keeps b c → after ≡ one_more before →
    Stands (line_read (length line)) Nowhere (moved a c before after) (Err fault.Read)
line_failed a b c line n before after inside old h kept same =
    let size : length (take n line) ≡ n = length-take n line ∙ (omega (arith, inside)) in
    record { bytes = take n line; taken = consumes_kept a b c (take n line) old kept; said = (same, line_wants (length line) (take n line) h (omega (arith, size, inside))) }

pub line_ended : (a b c : Option (List ℕ)) (line : List ℕ) (n before after : ℕ) → n < length line → Consumes a b (take n line) → Without 10 (take n line) → Keeps b c → IsAtEnd c → after ≡ before →
    Stands (line_read (length line)) Nowhere (moved a c before after) (Err fault.Header)
line_ended a b c line n before after inside old h kept end same =
    let size : length (take n line) ≡ n = length-take n line ∙ (omega (arith, inside)) in
    record { bytes = take n line; taken = consumes_kept a b c (take n line) old kept; said = (same, inr (end, line_stops (length line) (take n line) h (omega (arith, size, inside)))) }

pub line_full : (a b : Option (List ℕ)) (line : List ℕ) (n before after : ℕ) → n ≡ length line → Consumes a b (take n line) → Without 10 (take n line) → after ≡ before →
    Stands (line_read (length line)) Nowhere (moved a b before after) (Err fault.Header)
line_full a b line n before after all old h same =
    let size : length (take n line) ≡ length line = length-take n line ∙ (omega (arith, all)) in
    record { bytes = take n line; taken = old; said = (same, inl (λ behind. line_long (length line) (take n line) h size behind)) }

pub line_whole : (a b c : Option (List ℕ)) (line : List ℕ) (n before after : ℕ) → n < length line → Consumes a b (take n line) → Without 10 (take n line) → Consumes b c (10 ∷ []) → after ≡ before →
    Stands (line_read (length line)) Nowhere (moved a c before after) (Ok (take n line))
line_whole a b c line n before after inside old h new same =
    let size : length (take n line) ≡ n = length-take n line ∙ (omega (arith, inside)) in
    record { bytes = take n line ++ 10 ∷ []; taken = consumes_then a b c (take n line) (10 ∷ []) old new; said = (same, inl (line_local (length line) (take n line) h (omega (arith, size, inside)))) }

-- a line, by its end
pub without_to : (text : List ℕ) (n : ℕ) → ((k : ℕ) → k < n → (get_or text k 0 == 10) ≡ false) → Without 10 (take n text)
without_to text zero none = tt
without_to [] (suc n) none = tt
without_to (c ∷ text) (suc n) none = (none 0 (omega arith), without_to text n (λ k h. none (suc k) (omega (arith, h))))

below_second : (i n : ℕ) (xs : List ℕ) → i < length (take n xs) → i < length xs
below_second i n xs h = omega (arith, length-take n xs, h)

pub line_parts : (b most : ℕ) (text : List ℕ) (end : ℕ) → position (λ c. c == b) (take most text) ≡ Some end → text ≡ take end text ++ b ∷ drop (end + 1) text
line_parts b most text end found =
    let h = position-Some (λ c. c == b) (take most text) end 0 found in
    let few : end < most = below_first end most text h.0 in
    let inside : end < length text = below_second end most text h.0 in
    let feed : get_or text end 0 ≡ b = sym (get_or-take most text end 0 few) ∙ eqb-true _ _ h.1 in
    let behind : drop end text ≡ b ∷ drop (end + 1) text = rw add-one (drop-cons text end 0 inside ∙ ap (λ z. z ∷ drop (suc end) text) feed) in
    sym (take-append-drop end text) ∙ ap (λ z. take end text ++ z) behind

pub record LineTold (most : ℕ) (text : List ℕ) (end : ℕ) : Type 0 where
  pub single : Without 10 (take end text)
  pub short : length (take end text) < most
  pub whole : text ≡ take end text ++ 10 ∷ drop (end + 1) text

pub line_told : (most : ℕ) (text : List ℕ) (end : ℕ) → line_end most text ≡ Some end → LineTold most text end
line_told most text end found =
    let h = position-Some (λ c. c == 10) (take most text) end 0 found in
    let few : end < most = below_first end most text h.0 in
    record {
      single = without_to text end (λ k below. rw (sym (get_or-take most text k 0 (omega (arith, below, few)))) (h.2 k below));
      short = omega (arith, length-take end text, few);
      whole = line_parts 10 most text end found;
    }

-- a line that was read, whatever comes after it
pub record LineRead (most : ℕ) (text line rest : List ℕ) : Type 0 where
  pub single : Without 10 line
  pub short : length line < most
  pub whole : text ≡ line ++ 10 ∷ rest

read_by : (most : ℕ) (text line rest : List ℕ) (end : Option ℕ) → line_end most text ≡ end → line_to most text end ≡ Ok (line, rest) → LineRead most text line rest
read_by most text line rest None found h = absurd (true≢false (ap is_fault h))
read_by most text line rest (Some end) found h =
    let t = line_told most text end found in
    let front : take end text ≡ line = ap (value_in []) h in
    let behind : drop (end + 1) text ≡ rest = ap rest_in h in
    record { single = rw front at t.single; short = rw front at t.short; whole = t.whole ∙ (rw (front, behind) refl) }

pub line_was : (most : ℕ) (text line rest : List ℕ) → line_read most text ≡ Ok (line, rest) → LineRead most text line rest
line_was most text line rest h = read_by most text line rest (line_end most text) refl h

pub line_stays : (most : ℕ) (line : List ℕ) → Stays (line_read most) line
line_stays most line = λ bytes h.
    let t = line_was most bytes line [] h in
    rw t.whole (line_local most line t.single t.short)

-- a text of which no byte was read before
pub consumes_bare : (a b : Option (List ℕ)) (xs : List ℕ) → Consumes a (known_text None b) xs → Consumes a b xs
consumes_bare None b xs h = tt
consumes_bare (Some s) None xs h = h
consumes_bare (Some s) (Some t) xs h = h
