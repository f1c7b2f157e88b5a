-- The names that a movi lists, in words.
use Rattle.std.proofs.Common.{◌≡◌, ◌⊎◌, inl, inr, ℕ, ◌+◌, ◌/◌, ◌%◌, ◌≤◌, ◌<◌, ◌==◌, ◌&&◌, ◌||◌, nat_lt, nat_le, Bool, true, false, Some, Ok, Err, List, [], ◌∷◌, ◌++◌, length, codes, ap, ◌∙◌, sym, arith, refl}
use Rattle.std.proofs.lemmas.Bool.{leb-true, ltb-true, le-leb, lt-ltb, eq-eqb, eqb-false, ne_eqb}
use Rattle.std.specs.Cmp.Lexicographic.{same_text}
use Rattle.byteorder.specs.Endian.{little_number}
use Rattle.ffv1_reads.specs.declared.fault.FileFault.TheVariants as fault
use Rattle.ffv1_reads.specs.Reads.{Met, given, read_on}
use Rattle.ffv1_avi.specs.declared.place.Names.TheVariants.{Closed}
use Rattle.ffv1_avi.specs.Names.{IsFrameName, bars, IsIndexName, IsListed, IsOfOther, are_digits, bitmap_name, frame_name, is_barred, is_digit, is_frame, is_index, is_of_other, is_stream_frame, number_of, palette_name, stands_beside, rule_of}
use Rattle.ffv1_avi.specs.Files.{found_or_on, found_read, frame_found, frame_read, movi_found}
use Rattle.ffv1_avi.specs.Opens.{visit_movi}
use Rattle.ffv1_avi.specs.Padding.{padded}
use Rattle.ffv1_avi.specs.Walk.{entry_in, is_name, resumed, visited, walk_in, entry_of, size_in}
use Rattle.ffv1_avi.specs.declared.chunk.Entry.{Entry}
use Rattle.ffv1_avi.specs.declared.place.Place.{Place}
use Rattle.ffv1_avi.proofs.ChunkByChunk.{walk_step_in}
use Rattle.ffv1_avi.proofs.ListWalks.{entry_complete_in}
use Rattle.ffv1_avi.proofs.Moves.{frame_step}
use Rattle.ffv1_avi.proofs.RefusalLaws.{entry_barred}

both_are : (a b : Bool) → (a && b) ≡ true → (a ≡ true) × (b ≡ true)
both_are true true h = (refl, refl)
both_are true false h = absurd (cc)
both_are false b h = absurd (cc)

one_is : (a b : Bool) → (a || b) ≡ true → (a ≡ true) ⊎ (b ≡ true)
one_is true b h = inl refl
one_is false b h = inr h

-- two digits are those of their number
digits_are : (a b : ℕ) → are_digits a b ≡ true → (number_of a b < 100) × (a ≡ 48 + number_of a b / 10) × (b ≡ 48 + number_of a b % 10)
digits_are a b h =
    let two = both_are (is_digit a) (is_digit b) h in
    let one = both_are (nat_le 48 a) (nat_lt a 58) two.0 in
    let other = both_are (nat_le 48 b) (nat_lt b 58) two.1 in
    let low : 48 ≤ a = leb-true _ _ one.0 in
    let high : a < 58 = ltb-true _ _ one.1 in
    let least : 48 ≤ b = leb-true _ _ other.0 in
    let most : b < 58 = ltb-true _ _ other.1 in
    (omega (arith, low, high, least, most), omega (arith, low, high, least, most), omega (arith, low, high, least, most))

pub frames_named : (stream streams : ℕ) (name : List ℕ) → stream < 100 → is_frame (Closed stream streams) name ≡ true → IsFrameName stream name
unfolding is_stream_frame
frames_named stream streams name few h = on_one (one_is (is_name name (frame_name stream)) (is_name name (bitmap_name stream)) h)
  where
    on_one : (is_name name (frame_name stream) ≡ true) ⊎ (is_name name (bitmap_name stream) ≡ true) → IsFrameName stream name
    on_one (inl k) = inl (same_text name (frame_name stream) (sym k))
    on_one (inr k) = inr (same_text name (bitmap_name stream) (sym k))

other_named : (stream streams : ℕ) (name : List ℕ) → length name ≡ 4 → is_of_other stream streams name ≡ true → IsOfOther stream streams name
unfolding is_of_other
other_named stream streams [] long h = absurd (cc)
other_named stream streams (a ∷ []) long h = absurd (cc)
other_named stream streams (a ∷ b ∷ []) long h = absurd (cc)
other_named stream streams (a ∷ b ∷ c ∷ []) long h = absurd (cc)
other_named stream streams (a ∷ b ∷ c ∷ d ∷ []) long h = on_digits (are_digits a b) (number_of a b == stream) refl refl
  where
    on_digits : (p q : Bool) → are_digits a b ≡ p → (number_of a b == stream) ≡ q → IsOfOther stream streams (a ∷ b ∷ c ∷ d ∷ [])
    on_digits false q s t = absurd (cc (rw s at h))
    on_digits true true s t = absurd (cc (rw (s, t) at h))
    on_digits true false s t =
        let said = digits_are a b s in
        let there : nat_lt (number_of a b) streams ≡ true = rw (s, t) at h in
        record { other = number_of a b; first = c; second = d; there = ltb-true _ _ there; short = said.0; apart = eqb-false _ _ t; named = ap (λ z. z ∷ b ∷ c ∷ d ∷ []) said.1 ∙ ap (λ z. (48 + number_of a b / 10) ∷ z ∷ c ∷ d ∷ []) said.2 }
other_named stream streams (a ∷ b ∷ c ∷ d ∷ e ∷ es) long h = absurd (cc)

index_named : (name : List ℕ) → length name ≡ 4 → is_index name ≡ true → IsIndexName name
unfolding is_index
index_named [] long h = absurd (cc)
index_named (a ∷ []) long h = absurd (cc)
index_named (a ∷ b ∷ []) long h = absurd (cc)
index_named (a ∷ b ∷ c ∷ []) long h = absurd (cc)
index_named (a ∷ b ∷ c ∷ d ∷ []) long h =
    let two = both_are (is_name (a ∷ b ∷ []) (codes "ix")) (are_digits c d) h in
    let front : a ∷ b ∷ [] ≡ codes "ix" = same_text (a ∷ b ∷ []) (codes "ix") (sym two.0) in
    let said = digits_are c d two.1 in
    record { number = number_of c d; short = said.0; named = ap (λ z. z ++ c ∷ d ∷ []) front ∙ ap (λ z. codes "ix" ++ z ∷ d ∷ []) said.1 ∙ ap (λ z. codes "ix" ++ (48 + number_of c d / 10) ∷ z ∷ []) said.2 }
index_named (a ∷ b ∷ c ∷ d ∷ e ∷ es) long h = absurd (cc)

pub listed_named : (stream streams : ℕ) (name : List ℕ) → stream < 100 → length name ≡ 4 → is_barred (Closed stream streams) name ≡ false → IsListed stream streams name
unfolding stands_beside
listed_named stream streams name few long h = on_frame (is_stream_frame stream name) (stands_beside stream streams name) refl refl
  where
    on_five : (is_name name (palette_name stream) ≡ true) ⊎ ((is_of_other stream streams name ≡ true) ⊎ ((is_index name ≡ true) ⊎ ((is_name name (codes "JUNK") ≡ true) ⊎ (is_name name (codes "LIST") ≡ true)))) → IsListed stream streams name
    on_five (inl k) = inr (inl (same_text name (palette_name stream) (sym k)))
    on_five (inr (inl k)) = inr (inr (inl (other_named stream streams name long k)))
    on_five (inr (inr (inl k))) = inr (inr (inr (inl (index_named name long k))))
    on_five (inr (inr (inr (inl k)))) = inr (inr (inr (inr (inl (same_text name (codes "JUNK") (sym k))))))
    on_five (inr (inr (inr (inr k)))) = inr (inr (inr (inr (inr (same_text name (codes "LIST") (sym k))))))

    five : (a b c d e : Bool) → (a || b || c || d || e) ≡ true → (a ≡ true) ⊎ ((b ≡ true) ⊎ ((c ≡ true) ⊎ ((d ≡ true) ⊎ (e ≡ true))))
    five true b c d e k = inl refl
    five false true c d e k = inr (inl refl)
    five false false true d e k = inr (inr (inl refl))
    five false false false true e k = inr (inr (inr (inl refl)))
    five false false false false e k = inr (inr (inr (inr k)))

    on_frame : (a b : Bool) → is_stream_frame stream name ≡ a → stands_beside stream streams name ≡ b → IsListed stream streams name
    on_frame true b p q = inl (frames_named stream streams name few p)
    on_frame false true p q = on_five (five (is_name name (palette_name stream)) (is_of_other stream streams name) (is_index name) (is_name name (codes "JUNK")) (is_name name (codes "LIST")) q)
    on_frame false false p q = absurd (cc (rw (p, q) at h))

-- a chunk whose name movi bars is refused after its header, whatever size it says
pub unsized_refused : (place : Place) (name size rest : List ℕ) → length name ≡ 4 → length size ≡ 4 → 8 ≤ place.movi → bars place.names name ≡ true →
    frame_read place ((name ++ size) ++ rest) ≡ Err (Met fault.NotAvi rest)
unfolding movi_found
unsized_refused place name size rest named sized enough bar =
    let text = (name ++ size) ++ rest in
    let visit = visit_movi place.names in
    let barred = rule_of place.names in
    ap (λ z. read_on z found_read) (frame_step place text)
    ∙ ap (λ z. read_on (read_on (read_on z (λ p. given p.1)) (found_or_on frame_found place)) found_read) (walk_step_in (rule_of place.names) visit place.movi tt text)
    ∙ ap (λ z. read_on (read_on (read_on (read_on z (visited visit (walk_in barred visit) tt)) (λ p. given p.1)) (found_or_on frame_found place)) found_read) (entry_barred barred place.movi name size rest bar named sized enough)

-- a chunk that may not stand in movi is refused after its header
pub barred_refused : (place : Place) (name size rest : List ℕ) → length name ≡ 4 → length size ≡ 4 → 8 + padded (little_number 4 size) ≤ place.movi → (is_name name (codes "LIST") ≡ true → 4 ≤ little_number 4 size) → is_barred place.names name ≡ true →
    frame_read place ((name ++ size) ++ rest) ≡ Err (Met fault.NotAvi rest)
unfolding movi_found visit_movi
barred_refused place name size rest named sized fits listed barred = on_bars (bars place.names name) refl
  where
    on_bars : (a : Bool) → bars place.names name ≡ a → frame_read place ((name ++ size) ++ rest) ≡ Err (Met fault.NotAvi rest)
    on_bars true p = unsized_refused place name size rest named sized (omega (arith, fits)) p
    on_bars false p =
        let text = (name ++ size) ++ rest in
        let visit = visit_movi place.names in
        let walking = walk_in (rule_of place.names) visit in
        let n = little_number 4 size in
        let e : Entry = entry_of place.movi name (size_in (rule_of place.names) name n) in
        let entry : entry_in (rule_of place.names) place.movi text ≡ Ok (Some e, rest) = entry_complete_in (rule_of place.names) place.movi name size rest p named sized fits listed in
        let stop : visit tt e rest ≡ Err (Met fault.NotAvi rest) = rw barred refl in
        ap (λ z. read_on z found_read) (frame_step place text)
        ∙ ap (λ z. read_on (read_on (read_on z (λ p. given p.1)) (found_or_on frame_found place)) found_read) (walk_step_in (rule_of place.names) visit place.movi tt text)
        ∙ ap (λ z. read_on (read_on (read_on (read_on z (visited visit walking tt)) (λ p. given p.1)) (found_or_on frame_found place)) found_read) entry
        ∙ ap (λ z. read_on (read_on (read_on (read_on z (λ p. resumed (walking e.left) p.0 p.1)) (λ p. given p.1)) (found_or_on frame_found place)) found_read) stop

named_self : (xs : List ℕ) → is_name xs xs ≡ true
named_self [] = refl
named_self (x ∷ xs) = let same : (x == x) ≡ true = eq-eqb x x refl in rw (same, named_self xs) refl

digits_said : (n : ℕ) → n < 100 → (are_digits (48 + n / 10) (48 + n % 10) ≡ true) × (number_of (48 + n / 10) (48 + n % 10) ≡ n)
digits_said n few =
    let a : nat_le 48 (48 + n / 10) ≡ true = le-leb _ _ (omega arith) in
    let b : nat_lt (48 + n / 10) 58 ≡ true = lt-ltb _ _ (omega (arith, few)) in
    let c : nat_le 48 (48 + n % 10) ≡ true = le-leb _ _ (omega arith) in
    let d : nat_lt (48 + n % 10) 58 ≡ true = lt-ltb _ _ (omega arith) in
    (rw (a, b, c, d) refl, omega arith)

or_true : (a b : Bool) → b ≡ true → (a || b) ≡ true
or_true true b h = refl
or_true false b h = h

frame_stands : (stream : ℕ) (name : List ℕ) → IsFrameName stream name → is_stream_frame stream name ≡ true
unfolding is_stream_frame
frame_stands stream name (inl is) = rw (is, named_self (frame_name stream)) refl
frame_stands stream name (inr is) = or_true (is_name name (frame_name stream)) (is_name name (bitmap_name stream)) (rw (is, named_self (bitmap_name stream)) refl)

other_stands : (stream streams : ℕ) (name : List ℕ) → IsOfOther stream streams name → is_of_other stream streams name ≡ true
unfolding is_of_other
other_stands stream streams name is =
    let said = digits_said is.other is.short in
    let apart : (is.other == stream) ≡ false = ne_eqb _ _ is.apart in
    let there : nat_lt is.other streams ≡ true = lt-ltb _ _ is.there in
    rw (is.named, said.0, said.1, apart, there) refl

index_stands : (name : List ℕ) → IsIndexName name → is_index name ≡ true
unfolding is_index
index_stands name is = let said = digits_said is.number is.short in rw (is.named, said.0) refl

any : (a b c d e : Bool) → (a ≡ true) ⊎ ((b ≡ true) ⊎ ((c ≡ true) ⊎ ((d ≡ true) ⊎ (e ≡ true)))) → (a || b || c || d || e) ≡ true
any true b c d e k = refl
any false true c d e k = refl
any false false true d e k = refl
any false false false true e k = refl
any false false false false true k = refl
any false false false false false (inl k) = k
any false false false false false (inr (inl k)) = k
any false false false false false (inr (inr (inl k))) = k
any false false false false false (inr (inr (inr (inl k)))) = k
any false false false false false (inr (inr (inr (inr k)))) = k

pub named_listed : (stream streams : ℕ) (name : List ℕ) → stream < 100 → IsListed stream streams name → is_barred (Closed stream streams) name ≡ false
unfolding stands_beside
named_listed stream streams name few is = on_frame (is_stream_frame stream name) (stands_beside stream streams name) refl refl
  where
    a : Bool
    a = is_name name (palette_name stream)

    b : Bool
    b = is_of_other stream streams name

    c : Bool
    c = is_index name

    d : Bool
    d = is_name name (codes "JUNK")

    e : Bool
    e = is_name name (codes "LIST")

    stands : (IsFrameName stream name ⊎ ((name ≡ palette_name stream) ⊎ (IsOfOther stream streams name ⊎ (IsIndexName name ⊎ ((name ≡ codes "JUNK") ⊎ (name ≡ codes "LIST")))))) → (is_stream_frame stream name ≡ true) ⊎ ((a || b || c || d || e) ≡ true)
    stands (inl k) = inl (frame_stands stream name k)
    stands (inr (inl k)) = let self : a ≡ true = rw k (named_self (palette_name stream)) in inr (any a b c d e (inl self))
    stands (inr (inr (inl k))) = inr (any a b c d e (inr (inl (other_stands stream streams name k))))
    stands (inr (inr (inr (inl k)))) = inr (any a b c d e (inr (inr (inl (index_stands name k)))))
    stands (inr (inr (inr (inr (inl k))))) = let self : d ≡ true = rw k refl in inr (any a b c d e (inr (inr (inr (inl self)))))
    stands (inr (inr (inr (inr (inr k))))) = let self : e ≡ true = rw k refl in inr (any a b c d e (inr (inr (inr (inr self)))))

    on_frame : (p q : Bool) → is_stream_frame stream name ≡ p → stands_beside stream streams name ≡ q → is_barred (Closed stream streams) name ≡ false
    on_frame true q s t = rw s refl
    on_frame false true s t = rw (s, t) refl
    on_frame false false s t = on_either (stands is)
      where
        on_either : (is_stream_frame stream name ≡ true) ⊎ ((a || b || c || d || e) ≡ true) → is_barred (Closed stream streams) name ≡ false
        on_either (inl k) = let gone : true ≡ false = sym k ∙ s in absurd (cc)
        on_either (inr k) = let gone : true ≡ false = sym k ∙ t in absurd (cc)
