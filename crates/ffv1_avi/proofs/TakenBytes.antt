-- So many bytes, or the end of the input if no frame is owed.
use Rattle.std.proofs.Common.{◌≡◌, ◌⊎◌, ◌≤◌, ◌<◌, ◌==◌, ℕ, suc, zero, nat_lt, Bool, true, false, Option, Some, None, Result, Ok, Err, List, [], ◌∷◌, ◌++◌, length, take, drop, inl, inr, ap, ◌∙◌, sym, subst, arith, refl, if◌then◌else◌, append_assoc, length-append, length-take}
use Rattle.std.proofs.lemmas.Bool.{cases_lt, eqb-true, le-ltb, lt-ltb, ltb-false, ltb-true, ne_eqb}
use Rattle.std.proofs.lemmas.List.{take-append-drop}
use Rattle.std.specs.Io.KnownBytes.{Consumes}
use Rattle.ffv1_reads.specs.Ends.{Stops}
use Rattle.ffv1_reads.specs.Reads.{Looked, Read, Reading, Short, Stop, Wants, given, read_on, taken, ◌>>=◌}
use Rattle.ffv1_reads.specs.declared.fault.FileFault.{FileFault}
use Rattle.ffv1_reads.proofs.Made.{Made, made_closing, made_given, made_same, made_then, made_wanted}
use Rattle.ffv1_reads.proofs.WantedBytes.{taken_complete}
use Rattle.ffv1_reads.proofs.Results.{cut_back, cut_front, ok_is, some_is}
use Rattle.ffv1_wire.proofs.Bytes.{consumes_then}
use Rattle.ffv1_wire.specs.Reads.{Fills}
use Rattle.ffv1_avi.specs.declared.place.Extent.TheVariants.{EveryRiff}
use Rattle.ffv1_avi.specs.Behind.{Stand, StandAfter}
use Rattle.ffv1_avi.specs.Opens.{taken_or_end}
use Rattle.ffv1_avi.specs.Internal.Ending.{ReadOrNone}

no_some : {X : Type 0} (x : X) → ◌≡◌ {A = Option X} (Some x) None → ⊥
no_some x e = absurd (cc)

-- bytes that are there
pub enough_there : (n owes : ℕ) (bytes rest : List ℕ) → length bytes ≡ n → taken_or_end n owes (bytes ++ rest) ≡ Ok (Some bytes, rest)
unfolding taken_or_end
enough_there n owes bytes rest long =
    let there : nat_lt (length (bytes ++ rest)) n ≡ false = le-ltb _ _ (omega (arith, long, length-append bytes rest)) in
    rw (there, cut_front n bytes rest long, cut_back n bytes rest long) refl

-- fewer
pub end_there : (n owes : ℕ) (text : List ℕ) → owes ≡ 0 → length text < n → taken_or_end n owes text ≡ Ok (None, [])
unfolding taken_or_end
end_there n owes text none few = rw (lt-ltb _ _ few, none) refl

pub owed_short : (n owes : ℕ) (text : List ℕ) → 0 < owes → length text < n → taken_or_end n owes text ≡ Err (Short Looked)
unfolding taken_or_end
owed_short n owes text some few =
    let owed : (owes == 0) ≡ false = ne_eqb owes 0 (λ e. omega (arith, e, some)) in
    rw (lt-ltb _ _ few, owed) refl

-- what was read
pub some_taken : (n owes : ℕ) (text bytes rest : List ℕ) → taken_or_end n owes text ≡ Ok (Some bytes, rest) → (text ≡ bytes ++ rest) × (length bytes ≡ n)
unfolding taken_or_end
some_taken n owes text bytes rest h = on_test (nat_lt (length text) n) (owes == 0) refl refl h
  where
    on_test : (b c : Bool) → nat_lt (length text) n ≡ b → (owes == 0) ≡ c → taken_or_end n owes text ≡ Ok (Some bytes, rest) → (text ≡ bytes ++ rest) × (length bytes ≡ n)
    on_test true true p q k = absurd (no_some bytes (sym (ap (λ (z : Option (List ℕ) × List ℕ). z.0) (ok_is (None, []) (Some bytes, rest) (rw (p, q) at k)))))
    on_test true false p q k = absurd (cc (rw (p, q) at k))
    on_test false c p q k =
        let both = ok_is (Some (take n text), drop n text) (Some bytes, rest) (rw p at k) in
        let front : take n text ≡ bytes = some_is (take n text) bytes (ap (λ (z : Option (List ℕ) × List ℕ). z.0) both) in
        let back : drop n text ≡ rest = ap (λ (z : Option (List ℕ) × List ℕ). z.1) both in
        let enough : n ≤ length text = ltb-false _ _ p in
        (sym (take-append-drop n text) ∙ ap (λ z. z ++ drop n text) front ∙ ap (λ z. bytes ++ z) back, ap length (sym front) ∙ length-take n text ∙ (omega (arith, enough)))

pub none_taken : (n owes : ℕ) (text rest : List ℕ) → taken_or_end n owes text ≡ Ok (None, rest) → (owes ≡ 0) × (length text < n) × (rest ≡ [])
unfolding taken_or_end
none_taken n owes text rest h = on_test (nat_lt (length text) n) (owes == 0) refl refl h
  where
    on_test : (b c : Bool) → nat_lt (length text) n ≡ b → (owes == 0) ≡ c → taken_or_end n owes text ≡ Ok (None, rest) → (owes ≡ 0) × (length text < n) × (rest ≡ [])
    on_test true true p q k = (eqb-true owes 0 q, ltb-true _ _ p, sym (ap (λ (z : Option (List ℕ) × List ℕ). z.1) (ok_is (None, []) (None, rest) (rw (p, q) at k))))
    on_test true false p q k = absurd (cc (rw (p, q) at k))
    on_test false c p q k = absurd (no_some (take n text) (ap (λ (z : Option (List ℕ) × List ℕ). z.0) (ok_is (Some (take n text), drop n text) (None, rest) (rw p at k))))

-- fewer bytes were read, and no more can be
pub few_read : (n owes : ℕ) {old new : Option (List ℕ)} (bytes : List ℕ) → length bytes < n → Consumes old new bytes → Wants (taken_or_end n owes) old new ⊎ Stops (taken_or_end n owes) old new None
few_read n zero bytes few consumed = inr (record { bytes = bytes; consumed = consumed; is = end_there n 0 bytes refl few })
few_read n (suc m) bytes few consumed = inl (Looked, record { bytes = bytes; consumed = consumed; is = owed_short n (suc m) bytes (omega arith) few })

-- if no more is owed
pub few_stop : (n owes : ℕ) {old new : Option (List ℕ)} (bytes : List ℕ) → owes ≡ 0 → length bytes < n → Consumes old new bytes → Stops (taken_or_end n owes) old new None
few_stop n owes bytes none few consumed = record { bytes = bytes; consumed = consumed; is = end_there n owes bytes none few }

pub few_wanted : (n owes : ℕ) {old new : Option (List ℕ)} (bytes : List ℕ) → 0 < owes → length bytes < n → Consumes old new bytes → Wants (taken_or_end n owes) old new
few_wanted n owes bytes some few consumed = (Looked, record { bytes = bytes; consumed = consumed; is = owed_short n owes bytes some few })

-- what stands there
pub stands : (n : ℕ) (buf : List ℕ) (old new : Option (List ℕ)) → n ≤ length buf → 0 < length buf → Fills old new n buf → Stand old new (nat_lt 0 n)
stands n buf old new most some fills = on_test (nat_lt 0 n) refl
  where
    on_test : (b : Bool) → nat_lt 0 n ≡ b → Stand old new b
    on_test true p = let more : 0 < n = ltb-true _ _ p in (take n buf, omega (arith, more, most, length-take n buf), fills.0)
    on_test false p =
        let none : n ≡ 0 = omega (arith, ltb-false _ _ p) in
        let P : ℕ → Type 0 = λ k. Consumes old new (take k buf) in
        (subst P none fills.0, fills.1 (omega (arith, none, some)))

-- and after more that were read, whatever they come to
pub stand_then : {X : Type 0} (reading : Reading (Option X)) (a b c : Option (List ℕ)) → Stand a b true → ReadOrNone EveryRiff reading b c None → Stand a c true
stand_then reading a b c h (inl read) = (h.0 ++ read.bytes, omega (arith, h.1, length-append h.0 read.bytes), consumes_then a b c h.0 read.bytes h.2 read.consumed)
stand_then reading a b c h (inr ((halts, over), none)) = (h.0 ++ halts.bytes, omega (arith, h.1, length-append h.0 halts.bytes), consumes_then a b c h.0 halts.bytes h.2 halts.consumed)

pub told_after : (some : Bool) (end : ℕ) (old new : Option (List ℕ)) → Stand old new some → StandAfter old new end (if some then Some end else None)
told_after true end old new h = (refl, h)
told_after false end old new h = h

-- all of them were
pub enough_read : (n owes : ℕ) {old new : Option (List ℕ)} (bytes : List ℕ) → length bytes ≡ n → Consumes old new bytes → Read (taken_or_end n owes) old new (Some bytes)
enough_read n owes bytes long consumed = record { bytes = bytes; consumed = consumed; is = λ rest. enough_there n owes bytes rest long }

-- it is made of the ways in which readings are joined: at the end one thing, and before it one byte
-- after the other
abbrev cut_at : Bool → ℕ → List ℕ → List ℕ → Result (Option (List ℕ) × List ℕ) Stop
cut_at true n front text = Ok (None, [])
cut_at false n front text = Ok (Some (front ++ take n text), drop n text)

abbrev after_front : ℕ → List ℕ → Reading (Option (List ℕ))
after_front n front text = cut_at (nat_lt (length text) n) n front text

abbrev byte_then : ℕ → List ℕ → Reading (Option (List ℕ))
byte_then n front = taken 1 >>= λ b. after_front n (front ++ b)

byte_more : (n : ℕ) (front : List ℕ) (b : ℕ) (bs : List ℕ) → after_front (suc n) front (b ∷ bs) ≡ byte_then n front (b ∷ bs)
byte_more n front b bs = on_length (cases_lt (length bs) n) ∙ sym next
  where
    more : List ℕ
    more = front ++ (b ∷ [])

    next : byte_then n front (b ∷ bs) ≡ after_front n more bs
    next = ap (λ z. read_on z (λ b. after_front n (front ++ b))) (taken_complete 1 (b ∷ []) bs refl)

    on_length : (length bs < n) ⊎ (n ≤ length bs) → after_front (suc n) front (b ∷ bs) ≡ after_front n more bs
    on_length (inl few) =
        ap (λ c. cut_at c (suc n) front (b ∷ bs)) (lt-ltb (suc (length bs)) (suc n) (omega (arith, few)))
        ∙ sym (ap (λ c. cut_at c n more bs) (lt-ltb (length bs) n few))
    on_length (inr enough) =
        ap (λ c. cut_at c (suc n) front (b ∷ bs)) (le-ltb (suc (length bs)) (suc n) (omega (arith, enough)))
        ∙ ap (λ z. Ok (Some z, drop n bs)) (sym (append_assoc front (b ∷ []) (take n bs)))
        ∙ sym (ap (λ c. cut_at c n more bs) (le-ltb (length bs) n enough))

of_front : {own : FileFault → Bool} {ends : Bool} → ends ≡ true → (n : ℕ) (front : List ℕ) → Made own ends (after_front n front)
of_front may zero front = made_same (after_front 0 front) (given (Some (front ++ []))) (λ text. ap (λ c. cut_at c 0 front text) (le-ltb (length text) 0 (omega arith))) (made_given (Some (front ++ [])))
of_front may (suc n) front =
    made_closing (after_front (suc n) front) (given None) (byte_then n front) may
    (ap (λ c. cut_at c (suc n) front []) (lt-ltb 0 (suc n) (omega arith))) (byte_more n front) (made_given None)
    (made_then (taken 1) (λ b. after_front n (front ++ b)) (made_wanted Looked 1) (λ b. of_front may n (front ++ b)))

unowed : (n owes : ℕ) (text : List ℕ) → owes ≡ 0 → taken_or_end n owes text ≡ after_front n [] text
unfolding taken_or_end
unowed n owes text none = on_test (nat_lt (length text) n) refl
  where
    on_test : (b : Bool) → nat_lt (length text) n ≡ b → taken_or_end n owes text ≡ after_front n [] text
    on_test true p = rw (p, none) refl
    on_test false p = rw p refl

owed : (n owes : ℕ) (text : List ℕ) → (owes ≡ 0 → ⊥) → taken_or_end n owes text ≡ (taken n >>= λ bytes. given (Some bytes)) text
unfolding taken_or_end
owed n owes text some = on_test (nat_lt (length text) n) refl
  where
    on_test : (b : Bool) → nat_lt (length text) n ≡ b → taken_or_end n owes text ≡ (taken n >>= λ bytes. given (Some bytes)) text
    on_test true p = rw (p, ne_eqb owes 0 some) refl
    on_test false p = rw p refl

pub of_taken_or_end : {own : FileFault → Bool} {ends : Bool} → ends ≡ true → (n owes : ℕ) → Made own ends (taken_or_end n owes)
of_taken_or_end may n zero = made_same (taken_or_end n 0) (after_front n []) (λ text. unowed n 0 text refl) (of_front may n [])
of_taken_or_end may n (suc m) =
    made_same (taken_or_end n (suc m)) (taken n >>= λ bytes. given (Some bytes)) (λ text. owed n (suc m) text (λ e. omega (arith, e)))
    (made_then (taken n) (λ bytes. given (Some bytes)) (made_wanted Looked n) (λ bytes. made_given (Some bytes)))

pub taken_long : (n owes : ℕ) {old new : Option (List ℕ)} (bytes : List ℕ) → ReadOrNone EveryRiff (taken_or_end n owes) old new (Some bytes) → length bytes ≡ n
taken_long n owes bytes (inl read) = (some_taken n owes (read.bytes ++ []) bytes [] (read.is [])).1
taken_long n owes bytes (inr (over, none)) = absurd (no_some bytes none)
