-- Words, and white space and comments before them, are read byte by byte.
use Rattle.std.proofs.Common.{◌≡◌, ℕ, ◌+◌, ◌-◌, ◌<◌, ◌≤◌, ◌==◌, not, zero, suc, Bool, true, false, cond, Option, List, [], ◌∷◌, ◌++◌, length, Ok, Err, inl, inr, refl, ap, ◌∙◌, sym, subst, append_assoc, append-nil, arith, length-set, add-one, take}
use Rattle.std.proofs.lemmas.Bool.{true≢false}
use Rattle.std.proofs.Math.ListN.{set}
use Rattle.std.proofs.Math.Seq.{take-suc-set}
use Rattle.std.specs.Io.KnownBytes.{Consumes, IsAtEnd, Keeps}
use Rattle.ffv1_wire.specs.Failures.{one_more}
use Rattle.ffv1_y4m.specs.declared.fault.Fault.TheVariants as fault
use Rattle.ffv1_y4m.specs.Reads.{Nowhere, Stands}
use Rattle.ffv1_y4m.specs.Sequence.{Outcome, Reading, ◌then◌, left}
use Rattle.ffv1_y4m.specs.Spaces.{blank_read, blank_room, byte_read, is_break, is_white, spaced_word, word_read}
use Rattle.ffv1_y4m.proofs.AnswerParts.{is_fault, parted_by}
use Rattle.ffv1_y4m.proofs.Sequences.{Stays, consumes_kept, consumes_none, consumes_then, moved, shortens_then}

-- ---- a value stays the same whatever comes after the text

abbrev pub Extends : {X : Type 0} → Reading X → Type 0
Extends r = (text : List ℕ) (x : _) (mid : List ℕ) → r text ≡ Ok (x, mid) → (behind : List ℕ) → r (text ++ behind) ≡ Ok (x, mid ++ behind)

pub stays_of : {X : Type 0} (r : Reading X) (x : X) → Extends r → Stays r x
stays_of r x e = λ bytes h behind. e bytes x [] h behind

pub extends_then : {X Y : Type 0} (r : Reading X) (next : X → Reading Y) → Extends r → ((x : X) → Extends (next x)) → Extends (r then next)
extends_then r next e more = λ text y rest h behind.
    let t = parted_by (r text) next y rest h in
    rw (e text t.value t.mid t.begins behind) (more t.value t.mid y rest t.goes_on behind)

abbrev extended : {X : Type 0} → List ℕ → Outcome X → Outcome X
extended behind (Ok p) = Ok (p.0, p.1 ++ behind)
extended behind (Err f) = Err f

pub extends_given : {X : Type 0} (x : X) → Extends (λ text. Ok (x, text))
extends_given x = λ text y mid h behind. ap (extended behind) h

cond_extends : {X : Type 0} (b : Bool) (one two more others : Outcome X) (x : X) (mid behind : List ℕ) → (one ≡ Ok (x, mid) → more ≡ Ok (x, mid ++ behind)) → (two ≡ Ok (x, mid) → others ≡ Ok (x, mid ++ behind)) →
    cond b one two ≡ Ok (x, mid) → cond b more others ≡ Ok (x, mid ++ behind)
cond_extends true one two more others x mid behind f g h = f h
cond_extends false one two more others x mid behind f g h = g h

pub byte_extends : (text : List ℕ) (x : ℕ) (mid : List ℕ) → byte_read text ≡ Ok (x, mid) → (behind : List ℕ) → byte_read (text ++ behind) ≡ Ok (x, mid ++ behind)
byte_extends [] x mid h behind = absurd (true≢false (ap is_fault h))
byte_extends (c ∷ cs) x mid h behind = ap (extended behind) h

pub word_extends : (n : ℕ) (word text x mid : List ℕ) → word_read n word text ≡ Ok (x, mid) → (behind : List ℕ) → word_read n word (text ++ behind) ≡ Ok (x, mid ++ behind)
unfolding word_read
word_extends zero word text x mid h behind = absurd (true≢false (ap is_fault h))
word_extends (suc n) word [] x mid h behind = absurd (true≢false (ap is_fault h))
word_extends (suc n) word (c ∷ cs) x mid h behind =
    cond_extends (is_white c) (Ok (word, cs)) (word_read n (word ++ c ∷ []) cs) (Ok (word, cs ++ behind)) (word_read n (word ++ c ∷ []) (cs ++ behind)) x mid behind
    (λ e. ap (extended behind) e) (λ e. word_extends n (word ++ c ∷ []) cs x mid e behind) h

pub blank_extends : (n : ℕ) (inside : Bool) (text : List ℕ) (x : ℕ) (mid : List ℕ) → blank_read n inside text ≡ Ok (x, mid) → (behind : List ℕ) → blank_read n inside (text ++ behind) ≡ Ok (x, mid ++ behind)
unfolding blank_read
blank_extends zero inside text x mid h behind = absurd (true≢false (ap is_fault h))
blank_extends (suc n) true [] x mid h behind = absurd (true≢false (ap is_fault h))
blank_extends (suc n) false [] x mid h behind = absurd (true≢false (ap is_fault h))
blank_extends (suc n) true (c ∷ cs) x mid h behind = blank_extends n (not (is_break c)) cs x mid h behind
blank_extends (suc n) false (c ∷ cs) x mid h behind =
    cond_extends (is_white c) (blank_read n false cs) (cond (c == 35) (blank_read n true cs) (Ok (c, cs))) (blank_read n false (cs ++ behind)) (cond (c == 35) (blank_read n true (cs ++ behind)) (Ok (c, cs ++ behind))) x mid behind
    (λ e. blank_extends n false cs x mid e behind)
    (cond_extends (c == 35) (blank_read n true cs) (Ok (c, cs)) (blank_read n true (cs ++ behind)) (Ok (c, cs ++ behind)) x mid behind (λ e. blank_extends n true cs x mid e behind) (λ e. ap (extended behind) e)) h

pub spaced_extends : (most : ℕ) → Extends (spaced_word most)
spaced_extends most = extends_then (blank_read blank_room false) (λ c. word_read most (c ∷ [])) (λ text x mid h behind. blank_extends blank_room false text x mid h behind) (λ c text x mid h behind. word_extends most (c ∷ []) text x mid h behind)

-- ---- none gives a byte back

left_cond : {X : Type 0} (b : Bool) (one two : Outcome X) (n : ℕ) → length (left one) ≤ n → length (left two) ≤ n → length (left (cond b one two)) ≤ n
left_cond true one two n h k = h
left_cond false one two n h k = k

pub word_shortens : (n : ℕ) (word text : List ℕ) → length (left (word_read n word text)) ≤ length text
unfolding word_read
word_shortens zero word text = omega arith
word_shortens (suc n) word [] = omega arith
word_shortens (suc n) word (c ∷ cs) =
    let more = word_shortens n (word ++ c ∷ []) cs in
    left_cond (is_white c) (Ok (word, cs)) (word_read n (word ++ c ∷ []) cs) (suc (length cs)) (omega arith) (omega (arith, more))

pub word_takes : (n : ℕ) (word : List ℕ) (c : ℕ) (cs : List ℕ) → length (left (word_read (suc n) word (c ∷ cs))) ≤ length cs
unfolding word_read
word_takes n word c cs = left_cond (is_white c) (Ok (word, cs)) (word_read n (word ++ c ∷ []) cs) (length cs) (omega arith) (word_shortens n (word ++ c ∷ []) cs)

pub blank_shortens : (n : ℕ) (inside : Bool) (text : List ℕ) → length (left (blank_read n inside text)) ≤ length text
unfolding blank_read
blank_shortens zero inside text = omega arith
blank_shortens (suc n) true [] = omega arith
blank_shortens (suc n) false [] = omega arith
blank_shortens (suc n) true (c ∷ cs) = let more = blank_shortens n (not (is_break c)) cs in omega (arith, more)
blank_shortens (suc n) false (c ∷ cs) =
    let one = blank_shortens n false cs in
    let two = blank_shortens n true cs in
    left_cond (is_white c) (blank_read n false cs) (cond (c == 35) (blank_read n true cs) (Ok (c, cs))) (suc (length cs)) (omega (arith, one))
    (left_cond (c == 35) (blank_read n true cs) (Ok (c, cs)) (suc (length cs)) (omega (arith, two)) (omega arith))

pub blank_takes : (n : ℕ) (inside : Bool) (c : ℕ) (cs : List ℕ) → length (left (blank_read (suc n) inside (c ∷ cs))) ≤ length cs
unfolding blank_read
blank_takes n true c cs = blank_shortens n (not (is_break c)) cs
blank_takes n false c cs =
    left_cond (is_white c) (blank_read n false cs) (cond (c == 35) (blank_read n true cs) (Ok (c, cs))) (length cs) (blank_shortens n false cs)
    (left_cond (c == 35) (blank_read n true cs) (Ok (c, cs)) (length cs) (blank_shortens n true cs) (omega arith))

pub spaced_shortens : (most : ℕ) (text : List ℕ) → length (left (spaced_word most text)) ≤ length text
spaced_shortens most text = shortens_then (blank_read blank_room false) (λ c. word_read most (c ∷ [])) text (blank_shortens blank_room false text) (λ c rest. word_shortens most (c ∷ []) rest)

-- ---- what a loop over bytes has taken, and what it still has to read

pub record Walked {X : Type 0} (r next : Reading X) (old now : Option (List ℕ)) : Type 0 where
  pub bytes : List ℕ
  pub taken : Consumes old now bytes
  pub is : (behind : List ℕ) → r (bytes ++ behind) ≡ next behind

pub walked_none : {X : Type 0} (r : Reading X) (old : Option (List ℕ)) → Walked r r old old
walked_none r old = record { bytes = []; taken = consumes_none old; is = λ behind. refl }

pub walked_more : {X : Type 0} (r next after : Reading X) (old mid new : Option (List ℕ)) (c : ℕ) → Walked r next old mid → Consumes mid new (c ∷ []) → ((behind : List ℕ) → next (c ∷ behind) ≡ after behind) → Walked r after old new
walked_more r next after old mid new c w h step = record {
  bytes = w.bytes ++ c ∷ [];
  taken = consumes_then old mid new w.bytes (c ∷ []) w.taken h;
  is = λ behind. rw (append_assoc w.bytes (c ∷ []) behind) (w.is (c ∷ behind) ∙ step behind);
}

pub walked_whole : {X : Type 0} (r next : Reading X) (old new : Option (List ℕ)) (n k : ℕ) (x : X) → Walked r next old new → ((behind : List ℕ) → next behind ≡ Ok (x, behind)) → k ≡ n → Stands r Nowhere (moved old new n k) (Ok x)
walked_whole r next old new n k x w h same = record { bytes = w.bytes; taken = w.taken; said = (same, inl (λ behind. w.is behind ∙ h behind)) }

pub walked_full : {X : Type 0} (r next : Reading X) (old new : Option (List ℕ)) (n k : ℕ) → Walked r next old new → ((behind : List ℕ) → next behind ≡ Err (fault.Header, behind)) → k ≡ n → Stands r Nowhere (moved old new n k) (Err fault.Header)
walked_full r next old new n k w h same = record { bytes = w.bytes; taken = w.taken; said = (same, inl (λ behind. w.is behind ∙ h behind)) }

pub walked_ended : {X : Type 0} (r next : Reading X) (old mid new : Option (List ℕ)) (n k : ℕ) → Walked r next old mid → Keeps mid new → IsAtEnd new → next [] ≡ Err (fault.Header, []) → k ≡ n → Stands r Nowhere (moved old new n k) (Err fault.Header)
walked_ended r next old mid new n k w kept end h same = record {
  bytes = w.bytes;
  taken = consumes_kept old mid new w.bytes w.taken kept;
  said = (same, inr (end, ap r (sym (append-nil w.bytes)) ∙ (w.is [] ∙ h)));
}

pub walked_failed : {X : Type 0} (r next : Reading X) (old mid new : Option (List ℕ)) (n k : ℕ) → Walked r next old mid → Keeps mid new → ((b : ℕ) (behind : List ℕ) → length (left (next (b ∷ behind))) ≤ length behind) → k ≡ one_more n → Stands r Nowhere (moved old new n k) (Err fault.Read)
walked_failed r next old mid new n k w kept h same = record {
  bytes = w.bytes;
  taken = consumes_kept old mid new w.bytes w.taken kept;
  said = (same, λ b behind. rw (w.is (b ∷ behind)) (h b behind));
}

-- the steps of both loops
pub word_step : (n : ℕ) (word : List ℕ) (c : ℕ) (behind : List ℕ) → is_white c ≡ false → word_read (suc n) word (c ∷ behind) ≡ word_read n (word ++ c ∷ []) behind
unfolding word_read
word_step n word c behind black = rw black refl

pub word_end : (n : ℕ) (word : List ℕ) (c : ℕ) (behind : List ℕ) → is_white c ≡ true → word_read (suc n) word (c ∷ behind) ≡ Ok (word, behind)
unfolding word_read
word_end n word c behind white = rw white refl

pub word_stops : (n : ℕ) (word : List ℕ) → word_read n word [] ≡ Err (fault.Header, [])
unfolding word_read
word_stops zero word = refl
word_stops (suc n) word = refl

pub word_full : (word behind : List ℕ) → word_read 0 word behind ≡ Err (fault.Header, behind)
unfolding word_read
word_full word behind = refl

pub blank_stops : (n : ℕ) (inside : Bool) → blank_read n inside [] ≡ Err (fault.Header, [])
unfolding blank_read
blank_stops zero inside = refl
blank_stops (suc n) true = refl
blank_stops (suc n) false = refl

pub blank_full : (inside : Bool) (behind : List ℕ) → blank_read 0 inside behind ≡ Err (fault.Header, behind)
unfolding blank_read
blank_full inside behind = refl

pub comment_step : (n c : ℕ) (behind : List ℕ) → blank_read (suc n) true (c ∷ behind) ≡ blank_read n (not (is_break c)) behind
unfolding blank_read
comment_step n c behind = refl

pub white_step : (n c : ℕ) (behind : List ℕ) → is_white c ≡ true → blank_read (suc n) false (c ∷ behind) ≡ blank_read n false behind
unfolding blank_read
white_step n c behind white = rw white refl

pub hash_step : (n c : ℕ) (behind : List ℕ) → is_white c ≡ false → (c == 35) ≡ true → blank_read (suc n) false (c ∷ behind) ≡ blank_read n true behind
unfolding blank_read
hash_step n c behind black hash = rw (black, hash) refl

pub blank_end : (n c : ℕ) (behind : List ℕ) → is_white c ≡ false → (c == 35) ≡ false → blank_read (suc n) false (c ∷ behind) ≡ Ok (c, behind)
unfolding blank_read
blank_end n c behind black other = rw (black, other) refl

-- ---- the loop over white space and comments, of which some bytes were read

abbrev pub BlankWalked : ℕ → ℕ → Bool → Option (List ℕ) → Option (List ℕ) → Type 0
BlankWalked room left inside old now = Walked (blank_read room false) (blank_read left inside) old now

blank_here : (room place : ℕ) (inside : Bool) (old mid : Option (List ℕ)) → place < room → BlankWalked room (room - place) inside old mid → BlankWalked room (suc (room - (place + 1))) inside old mid
blank_here room place inside old mid below w =
    let more : room - place ≡ suc (room - (place + 1)) = omega (arith, below) in
    subst (λ n. BlankWalked room n inside old mid) more w

pub blank_failed : (room place : ℕ) (inside : Bool) (old mid new : Option (List ℕ)) (n k : ℕ) → place < room → BlankWalked room (room - place) inside old mid → Keeps mid new → k ≡ one_more n → Stands (blank_read room false) Nowhere (moved old new n k) (Err fault.Read)
blank_failed room place inside old mid new n k below w kept same =
    walked_failed (blank_read room false) (blank_read (suc (room - (place + 1))) inside) old mid new n k (blank_here room place inside old mid below w) kept (λ b behind. blank_takes (room - (place + 1)) inside b behind) same

pub blank_ended : (room place : ℕ) (inside : Bool) (old mid new : Option (List ℕ)) (n k : ℕ) → BlankWalked room (room - place) inside old mid → Keeps mid new → IsAtEnd new → k ≡ n → Stands (blank_read room false) Nowhere (moved old new n k) (Err fault.Header)
blank_ended room place inside old mid new n k w kept end same =
    walked_ended (blank_read room false) (blank_read (room - place) inside) old mid new n k w kept end (blank_stops (room - place) inside) same

pub blank_whole : (room place : ℕ) (old mid new : Option (List ℕ)) (n k c : ℕ) → place < room → BlankWalked room (room - place) false old mid → Consumes mid new (c ∷ []) → is_white c ≡ false → (c == 35) ≡ false → k ≡ n → Stands (blank_read room false) Nowhere (moved old new n k) (Ok c)
blank_whole room place old mid new n k c below w taken black other same =
    walked_whole (blank_read room false) (λ behind. Ok (c, behind)) old new n k c
    (walked_more (blank_read room false) (blank_read (suc (room - (place + 1))) false) (λ behind. Ok (c, behind)) old mid new c (blank_here room place false old mid below w) taken (λ behind. blank_end (room - (place + 1)) c behind black other))
    (λ behind. refl) same

pub blank_over : (room place : ℕ) (inside : Bool) (old now : Option (List ℕ)) (n k : ℕ) → room ≤ place → BlankWalked room (room - place) inside old now → k ≡ n → Stands (blank_read room false) Nowhere (moved old now n k) (Err fault.Header)
blank_over room place inside old now n k all w same =
    let none : room - place ≡ 0 = omega (arith, all) in
    walked_full (blank_read room false) (blank_read 0 inside) old now n k (subst (λ m. BlankWalked room m inside old now) none w) (λ behind. blank_full inside behind) same

pub blank_turn : (room place : ℕ) (inside next : Bool) (old mid new : Option (List ℕ)) (c : ℕ) → place < room → BlankWalked room (room - place) inside old mid → Consumes mid new (c ∷ []) → ((n : ℕ) (behind : List ℕ) → blank_read (suc n) inside (c ∷ behind) ≡ blank_read n next behind) →
    BlankWalked room (room - (place + 1)) next old new
blank_turn room place inside next old mid new c below w taken step =
    walked_more (blank_read room false) (blank_read (suc (room - (place + 1))) inside) (blank_read (room - (place + 1)) next) old mid new c (blank_here room place inside old mid below w) taken (λ behind. step (room - (place + 1)) behind)

-- ---- the loop over a word, of which some bytes stand in a buffer

abbrev pub WordWalked : ℕ → List ℕ → ℕ → List ℕ → Option (List ℕ) → Option (List ℕ) → Type 0
WordWalked room first left word old now = Walked (word_read room first) (word_read left word) old now

word_here : (size len : ℕ) (first word : List ℕ) (old mid : Option (List ℕ)) → len < size → WordWalked (size - 1) first (size - len) word old mid → WordWalked (size - 1) first (suc (size - (len + 1))) word old mid
word_here size len first word old mid below w =
    let more : size - len ≡ suc (size - (len + 1)) = omega (arith, below) in
    subst (λ n. WordWalked (size - 1) first n word old mid) more w

pub word_failed : (size len : ℕ) (first word : List ℕ) (old mid new : Option (List ℕ)) (n k : ℕ) → len < size → WordWalked (size - 1) first (size - len) word old mid → Keeps mid new → k ≡ one_more n → Stands (word_read (size - 1) first) Nowhere (moved old new n k) (Err fault.Read)
word_failed size len first word old mid new n k below w kept same =
    walked_failed (word_read (size - 1) first) (word_read (suc (size - (len + 1))) word) old mid new n k (word_here size len first word old mid below w) kept (λ b behind. word_takes (size - (len + 1)) word b behind) same

pub word_ended : (size len : ℕ) (first word : List ℕ) (old mid new : Option (List ℕ)) (n k : ℕ) → WordWalked (size - 1) first (size - len) word old mid → Keeps mid new → IsAtEnd new → k ≡ n → Stands (word_read (size - 1) first) Nowhere (moved old new n k) (Err fault.Header)
word_ended size len first word old mid new n k w kept end same =
    walked_ended (word_read (size - 1) first) (word_read (size - len) word) old mid new n k w kept end (word_stops (size - len) word) same

pub word_whole : (size len : ℕ) (first word : List ℕ) (old mid new : Option (List ℕ)) (n k c : ℕ) → len < size → WordWalked (size - 1) first (size - len) word old mid → Consumes mid new (c ∷ []) → is_white c ≡ true → k ≡ n → Stands (word_read (size - 1) first) Nowhere (moved old new n k) (Ok word)
word_whole size len first word old mid new n k c below w taken white same =
    walked_whole (word_read (size - 1) first) (λ behind. Ok (word, behind)) old new n k word
    (walked_more (word_read (size - 1) first) (word_read (suc (size - (len + 1))) word) (λ behind. Ok (word, behind)) old mid new c (word_here size len first word old mid below w) taken (λ behind. word_end (size - (len + 1)) word c behind white))
    (λ behind. refl) same

pub word_over : (size len : ℕ) (first word : List ℕ) (old now : Option (List ℕ)) (n k : ℕ) → size ≤ len → WordWalked (size - 1) first (size - len) word old now → k ≡ n → Stands (word_read (size - 1) first) Nowhere (moved old now n k) (Err fault.Header)
word_over size len first word old now n k all w same =
    let none : size - len ≡ 0 = omega (arith, all) in
    walked_full (word_read (size - 1) first) (word_read 0 word) old now n k (subst (λ m. WordWalked (size - 1) first m word old now) none w) (λ behind. word_full word behind) same

pub word_turn : (line : List ℕ) (len : ℕ) (first : List ℕ) (old mid new : Option (List ℕ)) (c : ℕ) → len < length line → WordWalked (length line - 1) first (length line - len) (take len line) old mid → Consumes mid new (c ∷ []) → is_white c ≡ false →
    WordWalked (length (set line len c) - 1) first (length (set line len c) - (len + 1)) (take (len + 1) (set line len c)) old new
word_turn line len first old mid new c below w taken black =
    let longer : take (len + 1) (set line len c) ≡ take len line ++ c ∷ [] = rw add-one (take-suc-set line len c below) in
    rw (length-set line len c, longer)
    (walked_more (word_read (length line - 1) first) (word_read (suc (length line - (len + 1))) (take len line)) (word_read (length line - (len + 1)) (take len line ++ c ∷ [])) old mid new c (word_here (length line) len first (take len line) old mid below w) taken
    (λ behind. word_step (length line - (len + 1)) (take len line) c behind black))

-- a buffer of which the first byte was set begins with it
pub set_first : (line : List ℕ) (c : ℕ) → 1 ≤ length line → take 1 (set line 0 c) ≡ c ∷ []
set_first [] c some = absurd (omega (arith, some))
set_first (x ∷ xs) c some = refl

-- a room by its number
pub room_is : blank_room ≡ 65536
unfolding blank_room
room_is = refl
