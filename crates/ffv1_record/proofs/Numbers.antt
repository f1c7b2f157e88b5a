-- The number of bytes in parts.
use Rattle.std.specs.Prelude.{bit_xor, slice_index}
use Rattle.std.specs.Simd.{first_chunks}
use Rattle.std.proofs.Common.{◌≡◌, refl, ℕ, zero, suc, ◌+◌, ◌*◌, ◌/◌, ◌^◌, ◌<◌, ◌≤◌, List, [], length, take, drop, get_or, arith, ap, sym, ◌∙◌}
use Rattle.std.proofs.lemmas.Grind.{common_steps}
use Rattle.std.specs.Int.Bits.{xor_shifted}
use Rattle.std.proofs.Math.Nat.{pow-suc, pow-zero}
use Rattle.std.proofs.lemmas.List.{drop-drop, get_or-drop}
use Rattle.std.proofs.lemmas.Nat.{pow-add}
use Rattle.ffv1_range.specs.Codes.{value, AreBytes}
use Rattle.ffv1_record.specs.Parity.{divided}
use Rattle.ffv1_record.proofs.Division.{divided_small, divided_scaled}
use Rattle.ffv1_record.proofs.Remainders.{shifted_xor}

pub value_in_parts : (bytes : List ℕ) (m n : ℕ) → value bytes (m + n) ≡ value bytes m * 256 ^ n + value (drop m bytes) n
value_in_parts bytes m zero = let same : m + 0 ≡ m = omega arith in ap (value bytes) same ∙ omega (arith, pow-zero 256)
value_in_parts bytes m (suc n) =
    let next : m + suc n ≡ suc (m + n) = omega arith in
    let place : slice_index bytes (m + n) ≡ slice_index (drop m bytes) n = sym (get_or-drop m bytes n 0) in
    ap (value bytes) next ∙ omega (arith, value_in_parts bytes m n, ap (λ p. value bytes m * p) (pow-suc 256 n), place)

pub value_taken : (bytes : List ℕ) (k n : ℕ) → n ≤ k → value (take k bytes) n ≡ value bytes n
value_taken bytes k zero within = refl
value_taken bytes k (suc n) within =
    let place : slice_index (take k bytes) n ≡ slice_index bytes n = grind (arith, common_steps) in
    let before = value_taken bytes k n (omega (arith, within)) in
    omega (arith, before, place)

pub value_below : (bytes : List ℕ) → AreBytes bytes → (n : ℕ) → value bytes n < 256 ^ n
value_below bytes are zero = omega arith
value_below bytes are (suc n) = omega (arith, value_below bytes are n, are n, pow-suc 256 n)

dropped : (size i : ℕ) (bytes : List ℕ) → drop (size * i) (drop size bytes) ≡ drop (size * suc i) bytes
dropped size i bytes = drop-drop (size * i) size bytes ∙ ap (λ n. drop n bytes) (omega arith)

pub chunk_at : (k i : ℕ) (bytes : List ℕ) → i < k → get_or (first_chunks 16 k bytes) i [] ≡ take 16 (drop (16 * i) bytes)
chunk_at zero i bytes inside = absurd (omega (arith, inside))
chunk_at (suc k) zero bytes inside = refl
chunk_at (suc k) (suc i) bytes inside =
    let before : i < k = omega (arith, inside) in
    chunk_at k i (drop 16 bytes) before ∙ ap (take 16) (dropped 16 i bytes)

-- bytes followed by others, and 32 bits 0
pub behind : (count more n m : ℕ) → m < 2 ^ more →
    divided (count + more) ((n * 2 ^ more + m) * 2 ^ 32) ≡ bit_xor (divided more (divided count (n * 2 ^ 32) * 2 ^ more)) (divided more (m * 2 ^ 32))
behind count more n m below =
    let parts : n * 2 ^ more + m ≡ bit_xor (n * 2 ^ more) m = sym (xor_shifted n more m below) in
    let turned : n * 2 ^ more * 2 ^ 32 ≡ n * 2 ^ 32 * 2 ^ more = omega arith in
    let bound : m * 2 ^ 32 < 2 ^ (32 + more) = omega (arith, below, pow-add 2 32 more) in
    ap (λ x. divided (count + more) (x * 2 ^ 32)) parts ∙ shifted_xor (count + more) (n * 2 ^ more) m
    ∙ ap (bit_xor (divided (count + more) (n * 2 ^ more * 2 ^ 32))) (divided_small count more (m * 2 ^ 32) bound)
    ∙ ap (λ x. bit_xor x (divided more (m * 2 ^ 32))) (ap (divided (count + more)) turned ∙ divided_scaled count more (n * 2 ^ 32))

-- the remainder goes on by a block of sixteen bytes
pub block_step : (bytes : List ℕ) (i : ℕ) → AreBytes bytes → i < length bytes / 16 →
    bit_xor (divided 128 (divided (8 * (16 * i)) (value bytes (16 * i) * 2 ^ 32) * 2 ^ 128)) (divided 128 (value (get_or (first_chunks 16 (length bytes / 16) bytes) i []) 16 * 2 ^ 32))
    ≡ divided (8 * (16 * (i + 1))) (value bytes (16 * (i + 1)) * 2 ^ 32)
block_step bytes i are inside =
    let rest = drop (16 * i) bytes in
    let of_rest : AreBytes rest = λ k. rw (get_or-drop (16 * i) bytes k 0) (are (16 * i + k)) in
    let element : value (get_or (first_chunks 16 (length bytes / 16) bytes) i []) 16 ≡ value rest 16 =
    ap (λ (l : List ℕ). value l 16) (chunk_at (length bytes / 16) i bytes inside) ∙ value_taken rest 16 16 (omega arith) in
    let all = behind (8 * (16 * i)) 128 (value bytes (16 * i)) (value rest 16) (value_below rest of_rest 16) in
    let number : value bytes (16 * i) * 2 ^ 128 + value rest 16 ≡ value bytes (16 * (i + 1)) = sym (value_in_parts bytes (16 * i) 16) ∙ ap (value bytes) (omega arith) in
    let places : 8 * (16 * i) + 128 ≡ 8 * (16 * (i + 1)) = omega arith in
    ap (λ x. bit_xor (divided 128 (divided (8 * (16 * i)) (value bytes (16 * i) * 2 ^ 32) * 2 ^ 128)) (divided 128 (x * 2 ^ 32))) element
    ∙ sym all ∙ ap (λ k. divided k ((value bytes (16 * i) * 2 ^ 128 + value rest 16) * 2 ^ 32)) places ∙ ap (λ x. divided (8 * (16 * (i + 1))) (x * 2 ^ 32)) number

-- and by one byte
pub byte_step : (bytes : List ℕ) (done i : ℕ) → AreBytes bytes →
    bit_xor (divided 8 (divided (8 * (done + i)) (value bytes (done + i) * 2 ^ 32) * 2 ^ 8)) (divided 8 (slice_index (drop done bytes) i * 2 ^ 32))
    ≡ divided (8 * (done + (i + 1))) (value bytes (done + (i + 1)) * 2 ^ 32)
byte_step bytes done i are =
    let n = done + i in
    let element : slice_index (drop done bytes) i ≡ slice_index bytes n = get_or-drop done bytes i 0 in
    let all = behind (8 * n) 8 (value bytes n) (slice_index bytes n) (are n) in
    let next : suc n ≡ done + (i + 1) = omega arith in
    let number : value bytes n * 2 ^ 8 + slice_index bytes n ≡ value bytes (done + (i + 1)) = omega arith ∙ ap (value bytes) next in
    let places : 8 * n + 8 ≡ 8 * (done + (i + 1)) = omega arith in
    ap (λ x. bit_xor (divided 8 (divided (8 * n) (value bytes n * 2 ^ 32) * 2 ^ 8)) (divided 8 (x * 2 ^ 32))) element
    ∙ sym all ∙ ap (λ k. divided k ((value bytes n * 2 ^ 8 + slice_index bytes n) * 2 ^ 32)) places ∙ ap (λ x. divided (8 * (done + (i + 1))) (x * 2 ^ 32)) number
