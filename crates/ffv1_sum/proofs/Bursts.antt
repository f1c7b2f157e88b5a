-- Bytes that differ within 32 neighbouring bits.
use Rattle.std.specs.Prelude.{bit_xor, fold, All}
use Rattle.std.proofs.Common.{◌≡◌, ℕ, suc, ◌+◌, ◌-◌, ◌*◌, ◌^◌, ◌<◌, ◌≤◌, List, [], ◌∷◌, length, pow_mono, arith, ap, sym, ◌∙◌, inl, inr}
use Rattle.std.specs.Int.Bits.{xor_assoc, xor_self, xor_zero_l, xor_zero_r}
use Rattle.std.proofs.lemmas.Bool.{cases_lt}
use Rattle.std.proofs.Math.Nat.{mul-le-mul_right}
use Rattle.std.proofs.lemmas.Nat.{xor_lt, xor_comm, pow-add}
use Rattle.ffv1_sum.specs.Sum.{bit_steps, byte_step, crc_of, number_of, turned}
use Rattle.ffv1_sum.proofs.Steps.{steps_add, steps_shifted, steps_xor, steps_apart}
use Rattle.ffv1_sum.proofs.Blocks.{AreSmall, by_number}

pub are_small : (bs : List ℕ) → All (λ b. b < 256) bs → AreSmall bs
are_small [] all = tt
are_small (b ∷ bs) all = (all 0 0 (omega arith), are_small bs (λ k d inside. all (suc k) d (omega (arith, inside))))

number_below : (bs : List ℕ) → AreSmall bs → number_of bs < 2 ^ (8 * length bs)
number_below [] small = omega arith
number_below (b ∷ bs) small =
    let places : 8 * suc (length bs) ≡ 8 * length bs + 8 = omega arith in
    let wide : 2 ^ (8 * suc (length bs)) ≡ 2 ^ (8 * length bs) * 256 = ap (λ k. 2 ^ k) places ∙ pow-add 2 (8 * length bs) 8 in
    omega (arith, wide, number_below bs small.1, small.0)

-- a sum that both have falls out
apart : (sum a b : ℕ) → bit_xor (bit_xor sum a) (bit_xor sum b) ≡ bit_xor a b
apart sum a b =
    ap (λ x. bit_xor x (bit_xor sum b)) (xor_comm sum a) ∙ xor_assoc a sum (bit_xor sum b)
    ∙ ap (bit_xor a) (sym (xor_assoc sum sum b) ∙ ap (λ x. bit_xor x b) (xor_self sum) ∙ xor_zero_l b)

-- within so many places, a number of 32 digits is not struck out
within : (count bits place : ℕ) → 0 < bits → bits < 2 ^ 32 → place ≤ count → 0 < bit_steps count (bits * 2 ^ place)
within count bits place positive small inside =
    let places : count ≡ place + (count - place) = omega (arith, inside) in
    let all : bit_steps count (bits * 2 ^ place) ≡ bit_steps (count - place) bits =
    ap (λ k. bit_steps k (bits * 2 ^ place)) places ∙ steps_add place (count - place) (bits * 2 ^ place) ∙ ap (bit_steps (count - place)) (steps_shifted place bits) in
    rw all (steps_apart (count - place) bits positive small)

placed : (count bits place : ℕ) → 0 < bits → bits * 2 ^ place < 2 ^ count → place ≤ count
placed count bits place positive below =
    elim (cases_lt count place) [
      | inl beyond ↦
          let power : 2 ^ count ≤ 2 ^ place = pow_mono {i = count} {j = place} (omega (arith, beyond)) in
          let least : 1 * 2 ^ place ≤ bits * 2 ^ place = mul-le-mul_right {m = 1} {n = bits} (2 ^ place) positive in
          absurd (omega (arith, below, power, least))
      | inr inside ↦ inside
    ]

pub sums_apart : (sum : ℕ) (xs ys : List ℕ) (bits place : ℕ) → AreSmall xs → AreSmall ys → length xs ≡ length ys → 0 < bits → bits < 2 ^ 32 →
    bit_xor (number_of xs) (number_of ys) ≡ bits * 2 ^ place → fold byte_step sum xs ≡ fold byte_step sum ys → ⊥
sums_apart sum xs ys bits place are_x are_y long positive small differs same =
    let count = 8 * length xs in
    let of_y : number_of ys < 2 ^ count = rw long (number_below ys are_y) in
    let fits : bits * 2 ^ place < 2 ^ count = rw (sym differs) (xor_lt count (number_of xs) (number_of ys) (number_below xs are_x) of_y) in
    let by_y : bit_steps count (bit_xor sum (number_of ys)) ≡ fold byte_step sum ys = ap (λ n. bit_steps (8 * n) (bit_xor sum (number_of ys))) long ∙ by_number sum ys are_y in
    let none : bit_steps count (bits * 2 ^ place) ≡ 0 =
    ap (bit_steps count) (sym differs ∙ sym (apart sum (number_of xs) (number_of ys))) ∙ steps_xor count (bit_xor sum (number_of xs)) (bit_xor sum (number_of ys))
    ∙ ap (λ x. bit_xor x (bit_steps count (bit_xor sum (number_of ys)))) (by_number sum xs are_x) ∙ ap (bit_xor (fold byte_step sum xs)) (by_y ∙ sym same) ∙ xor_self (fold byte_step sum xs) in
    absurd (omega (arith, none, within count bits place positive small (placed count bits place positive fits)))

same_turned : (a b : ℕ) → bit_xor a turned ≡ bit_xor b turned → a ≡ b
same_turned a b same =
    let back : (x : ℕ) → bit_xor (bit_xor x turned) turned ≡ x = λ x. xor_assoc x turned turned ∙ ap (bit_xor x) (xor_self turned) ∙ xor_zero_r x in
    sym (back a) ∙ ap (λ x. bit_xor x turned) same ∙ back b

pub different : (xs ys : List ℕ) (bits place : ℕ) → All (λ b. b < 256) xs → All (λ b. b < 256) ys → length xs ≡ length ys → 0 < bits → bits < 2 ^ 32 →
    bit_xor (number_of xs) (number_of ys) ≡ bits * 2 ^ place → crc_of xs ≡ crc_of ys → ⊥
different xs ys bits place are_x are_y long positive small differs same =
    sums_apart turned xs ys bits place (are_small xs are_x) (are_small ys are_y) long positive small differs (same_turned (fold byte_step turned xs) (fold byte_step turned ys) same)
