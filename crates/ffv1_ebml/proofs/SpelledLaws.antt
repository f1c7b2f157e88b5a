-- IDs and sizes that are spelled are variable-size integers, and say what they were spelled for.
use Rattle.std.proofs.Common.{◌≡◌, ◌≤◌, ◌<◌, ◌+◌, ◌-◌, ◌*◌, ◌%◌, ◌^◌, ◌==◌, ◌∙◌, ◌++◌, ℕ, List, suc, zero, true, false, inl, inr, nat_lt, Some, None, Result, Ok, fold, length, slice_index, refl, sym, ap, arith, pow-suc, mul_comm}
use Rattle.std.proofs.Math.Arith.{mod-mul}
use Rattle.std.proofs.Math.Nat.{pow-le-pow_right}
use Rattle.std.proofs.lemmas.Bool.{le-ltb, lt-ltb, ne_eqb}
use Rattle.std.specs.Int.{byte_at, bytes_high_first}
use Rattle.ffv1_ebml.specs.Spelled.{IsIdent, SaysSize, ident_bytes, ident_length, long, short, unknown}
use Rattle.ffv1_ebml.specs.Vints.{IsVint, data_of, length_of, number_of, size_of, vint_read}
use Rattle.ffv1_reads.specs.Reads.{Stop}
use Rattle.ffv1_reads.proofs.Results.{ok_is}
use Rattle.ffv1_ebml.proofs.Numbers.{length_high}
use Rattle.ffv1_ebml.proofs.VintLaws.{length_first, vint_complete}

-- one byte more in front of the low k bytes
byte_on : (k n high : ℕ) → (256 * high + byte_at k n) * 256 ^ k + n % 256 ^ k ≡ high * 256 ^ suc k + n % 256 ^ suc k
byte_on zero n high = omega arith
byte_on (suc k) n high =
    let unit = 256 ^ suc k in
    let wider : 256 ^ suc (suc k) ≡ 256 * unit = pow-suc 256 (suc k) ∙ mul_comm unit 256 in
    let some : 0 < unit = pow-le-pow_right {n = 256} (omega arith) {i = 0} {j = suc k} (omega arith) in
    rw (wider, mod-mul n {m = 256} {c = unit} (omega arith) some) (omega arith)

high_read : (k n high : ℕ) → fold (λ number byte. 256 * number + byte) high (bytes_high_first k n) ≡ high * 256 ^ k + n % 256 ^ k
high_read zero n high = omega arith
high_read (suc k) n high = high_read k n (256 * high + byte_at k n) ∙ byte_on k n high

-- the number of its lowest bytes
pub number_high : (k n : ℕ) → number_of (bytes_high_first k n) ≡ n % 256 ^ k
number_high k n = high_read k n 0 ∙ omega arith

-- an ID of so many bytes
record SpellsIdent (ident n : ℕ) : Type 0 where
  some : 1 ≤ n
  few : n ≤ 4
  is : ident_length ident ≡ n
  low : 2 ^ (8 - n) ≤ slice_index (bytes_high_first n ident) 0
  high : slice_index (bytes_high_first n ident) 0 < 2 ^ (9 - n)
  all : ident % 256 ^ n ≡ ident

one : (ident : ℕ) → 128 ≤ ident → ident < 256 → SpellsIdent ident 1
unfolding ident_length
one ident low high =
    let t : nat_lt ident 256 ≡ true = lt-ltb _ _ high in
    record { some = omega arith; few = omega arith; is = rw t refl; low = omega (arith, low, high); high = omega (arith, low, high); all = omega (arith, high) }

two : (ident : ℕ) → 16384 ≤ ident → ident < 32768 → SpellsIdent ident 2
unfolding ident_length
two ident low high =
    let s : nat_lt ident 256 ≡ false = le-ltb ident 256 (omega (arith, low)) in
    let t : nat_lt ident 65536 ≡ true = lt-ltb ident 65536 (omega (arith, high)) in
    record { some = omega arith; few = omega arith; is = rw (s, t) refl; low = omega (arith, low, high); high = omega (arith, low, high); all = omega (arith, high) }

three : (ident : ℕ) → 2097152 ≤ ident → ident < 4194304 → SpellsIdent ident 3
unfolding ident_length
three ident low high =
    let r : nat_lt ident 256 ≡ false = le-ltb ident 256 (omega (arith, low)) in
    let s : nat_lt ident 65536 ≡ false = le-ltb ident 65536 (omega (arith, low)) in
    let t : nat_lt ident 16777216 ≡ true = lt-ltb ident 16777216 (omega (arith, high)) in
    record { some = omega arith; few = omega arith; is = rw (r, s, t) refl; low = omega (arith, low, high); high = omega (arith, low, high); all = omega (arith, high) }

four : (ident : ℕ) → 268435456 ≤ ident → ident < 536870912 → SpellsIdent ident 4
unfolding ident_length
four ident low high =
    let r : nat_lt ident 256 ≡ false = le-ltb ident 256 (omega (arith, low)) in
    let s : nat_lt ident 65536 ≡ false = le-ltb ident 65536 (omega (arith, low)) in
    let t : nat_lt ident 16777216 ≡ false = le-ltb ident 16777216 (omega (arith, low)) in
    record { some = omega arith; few = omega arith; is = rw (r, s, t) refl; low = omega (arith, low, high); high = omega (arith, low, high); all = omega (arith, high) }

-- what holds of the bytes of an ID
pub record IdentBytes (ident : ℕ) : Type 0 where
  pub is : IsVint (ident_bytes ident)
  pub few : length (ident_bytes ident) ≤ 4
  pub number : number_of (ident_bytes ident) ≡ ident

spelled : (ident n : ℕ) → SpellsIdent ident n → IdentBytes ident
spelled ident n h =
    let long = length_high n ident in
    let first : length_of (slice_index (bytes_high_first n ident) 0) ≡ n = length_first n _ h.some (omega (arith, h.few)) h.low h.high in
    record { is = rw h.is (omega (arith, long, h.some), long ∙ sym first); few = rw h.is (omega (arith, long, h.few)); number = rw h.is (number_high n ident ∙ h.all) }

pub ident_spelled : (ident : ℕ) → IsIdent ident → IdentBytes ident
ident_spelled ident (inl h) = spelled ident 1 (one ident h.0 h.1)
ident_spelled ident (inr (inl h)) = spelled ident 2 (two ident h.0 h.1)
ident_spelled ident (inr (inr (inl h))) = spelled ident 3 (three ident h.0 h.1)
ident_spelled ident (inr (inr (inr h))) = spelled ident 4 (four ident h.0 h.1)

same_ident : (xs ys zs ws : List ℕ) → ◌≡◌ {A = Result (List ℕ × List ℕ) Stop} (Ok (xs, zs)) (Ok (ys, ws)) → xs ≡ ys
same_ident xs ys zs ws e = ap (λ z. z.0) (ok_is (xs, zs) (ys, ws) e)

-- no ID is the beginning of another
pub idents_apart : (a b : ℕ) (xs ys : List ℕ) → IsIdent a → IsIdent b → ident_bytes a ++ xs ≡ ident_bytes b ++ ys → a ≡ b
idents_apart a b xs ys ia ib same =
    let p = ident_spelled a ia in
    let q = ident_spelled b ib in
    let first = vint_complete 4 4 (ident_bytes a) xs p.is p.few p.few in
    let second = vint_complete 4 4 (ident_bytes b) ys q.is q.few q.few in
    sym p.number ∙ ap number_of (same_ident (ident_bytes a) (ident_bytes b) xs ys (sym first ∙ ap (vint_read 4 4) same ∙ second)) ∙ q.number

-- a size in one byte
pub short_spelled : (n : ℕ) → n < 127 → SaysSize (short n) (Some n)
unfolding size_of
short_spelled n few =
    let says : data_of (short n) ≡ n = omega (arith, few) in
    let test : (n + 1 == 128) ≡ false = ne_eqb (n + 1) 128 (λ e. omega (arith, e, few)) in
    let first : length_of (128 + n) ≡ 1 = length_first 1 (128 + n) (omega arith) (omega arith) (omega arith) (omega (arith, few)) in
    ((omega arith, sym first), omega arith, rw (says, test) refl)

-- and in eight
long_vint : (n : ℕ) → n < 2 ^ 56 → IsVint (long n)
unfolding long
long_vint n few =
    let first : length_of (byte_at 7 (2 ^ 56 + n)) ≡ 8 = length_first 8 (byte_at 7 (2 ^ 56 + n)) (omega arith) (omega arith) (omega (arith, few)) (omega (arith, few)) in
    (omega arith, sym first)

pub long_length : (n : ℕ) → length (long n) ≡ 8
unfolding long
long_length n = refl

long_data : (n : ℕ) → n < 2 ^ 56 → data_of (long n) ≡ n
unfolding long
long_data n few =
    let number : number_of (bytes_high_first 8 (2 ^ 56 + n)) ≡ (2 ^ 56 + n) % 256 ^ 8 = number_high 8 (2 ^ 56 + n) in
    rw number (omega (arith, few))

pub long_spelled : (n : ℕ) → n < 2 ^ 56 - 1 → SaysSize (long n) (Some n)
unfolding size_of
long_spelled n few =
    let most : n < 2 ^ 56 = omega (arith, few) in
    let test : (n + 1 == 2 ^ 56) ≡ false = ne_eqb (n + 1) (2 ^ 56) (λ e. omega (arith, e, few)) in
    (long_vint n most, omega (arith, long_length n), rw (long_data n most, long_length n, test) refl)

pub unknown_spelled : SaysSize unknown None
unfolding size_of
unknown_spelled =
    let most : 2 ^ 56 - 1 < 2 ^ 56 = omega arith in
    (long_vint (2 ^ 56 - 1) most, omega (arith, long_length (2 ^ 56 - 1)), rw (long_data (2 ^ 56 - 1) most, long_length (2 ^ 56 - 1)) refl)
