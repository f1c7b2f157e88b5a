-- The states of contexts, 32 bytes each: those of a part of all states, and those beside a part that
-- was written.
use Rattle.std.proofs.Common.{◌≡◌, ℕ, ◌+◌, ◌-◌, ◌*◌, ◌<◌, ◌≤◌, ◌⊎◌, inl, inr, true, List, length, get_or, ap, sym, subst, ◌∙◌, arith, pos, ◌-ℤ◌}
use Rattle.std.proofs.lemmas.Bool.{cases_lt}
use Rattle.ffv1_rice.specs.declared.state.State.{State}
use Rattle.ffv1_rice.specs.States.{IsState}
use Rattle.ffv1_rice.specs.Kept.{AreStates, state_of, state_at}
use Rattle.ffv1_record.specs.Configuration.{Configuration}
use Rattle.ffv1_record.specs.Accepted.{Accepted, is_rice}
use Rattle.ffv1_record.specs.declared.config.Coder.TheVariants as coder
use Rattle.ffv1_frame.specs.SliceList.{bits_of}
use Rattle.ffv1_frame.specs.Windows.{window}
use Rattle.ffv1_decode.specs.Internal.LeftBits.{AreAllStates, AreKept}
use Rattle.ffv1_frame.proofs.lemmas.Coders.{rice_bits_are}
use Rattle.ffv1_frame.proofs.lemmas.WrittenParts.{put, put_long, put_inside, put_elsewhere, put_held, part_held, window_at, window_long}

-- five bytes are those of others
pub same_state : (xs ys : List ℕ) (a b : ℕ) → ((i : ℕ) → i < 5 → get_or xs (a + i) 0 ≡ get_or ys (b + i) 0) → state_of xs a ≡ state_of ys b
same_state xs ys a b same =
    let made : ℕ → ℕ → ℕ → ℕ → ℕ → State = λ d e f g h. record { drift = pos 0 -ℤ pos d; error_sum = e + 256 * f; bias = pos g -ℤ pos 128; count = h } in
    let here : a + 0 ≡ a = omega arith in
    let there : b + 0 ≡ b = omega arith in
    let first : get_or xs a 0 ≡ get_or ys b 0 = ap (λ z. get_or xs z 0) (sym here) ∙ same 0 (omega arith) ∙ ap (λ z. get_or ys z 0) there in
    let x : ℕ → ℕ = λ i. get_or xs (a + i) 0 in
    let y : ℕ → ℕ = λ i. get_or ys (b + i) 0 in
    ap (λ z. made z (x 1) (x 2) (x 3) (x 4)) first
    ∙ ap (λ z. made (get_or ys b 0) z (x 2) (x 3) (x 4)) (same 1 (omega arith))
    ∙ ap (λ z. made (get_or ys b 0) (y 1) z (x 3) (x 4)) (same 2 (omega arith))
    ∙ ap (λ z. made (get_or ys b 0) (y 1) (y 2) z (x 4)) (same 3 (omega arith))
    ∙ ap (λ z. made (get_or ys b 0) (y 1) (y 2) (y 3) z) (same 4 (omega arith))

-- a state of a part
pub part_state : (at n : ℕ) (states : List ℕ) (k : ℕ) → 32 * k + 32 ≤ n → state_at (window at n states) k ≡ state_of states (at + 32 * k)
part_state at n states k fits = same_state (window at n states) states (32 * k) (at + 32 * k) (λ i h.
    let place : at + (32 * k + i) ≡ at + 32 * k + i = omega arith in
    window_at at n states (32 * k + i) (omega (arith, fits, h)) ∙ ap (λ z. get_or states z 0) place)

-- all states of a part
pub part_all : (depth at n b : ℕ) (states : List ℕ) → at ≡ 32 * b → at + n ≤ length states → AreAllStates depth states → AreAllStates depth (window at n states)
part_all depth at n b states at_is fits all = record {
  each = λ k h.
      let long = window_long at n states fits in
      let few : 32 * k + 32 ≤ n = omega (arith, h, long) in
      let place : at + 32 * k ≡ 32 * (b + k) = omega (arith, at_is) in
      subst (IsState depth) (sym (part_state at n states k few ∙ ap (state_of states) place)) (all.each (b + k) (omega (arith, few, at_is, fits)));
}

-- those of so many contexts are all that their bytes have
pub all_of : (depth contexts : ℕ) (states : List ℕ) → length states ≡ contexts * 32 → AreStates depth contexts states → AreAllStates depth states
all_of depth contexts states long are = record { each = λ k h. are.each k (omega (arith, h, long)) }

pub of_all : (depth contexts : ℕ) (states : List ℕ) → length states ≡ contexts * 32 → AreAllStates depth states → AreStates depth contexts states
of_all depth contexts states long all = record { each = λ k h. all.each k (omega (arith, h, long)) }

-- a part was written
module _ (xs ys : List ℕ) (at n : ℕ) (fits : at + n ≤ length xs) (long : length ys ≡ n) where
  pub put_state : (k : ℕ) → 32 * k + 32 ≤ n → state_of (put at n xs ys) (at + 32 * k) ≡ state_at ys k
  put_state k few = same_state (put at n xs ys) ys (at + 32 * k) (32 * k) (λ i h.
      let place : at + 32 * k + i ≡ at + (32 * k + i) = omega arith in
      ap (λ z. get_or (put at n xs ys) z 0) place ∙ put_inside xs ys at n fits long (32 * k + i) (omega (arith, few, h)))

  pub put_beside : (k : ℕ) → (32 * k + 32 ≤ at) ⊎ (at + n ≤ 32 * k) → state_at (put at n xs ys) k ≡ state_at xs k
  put_beside k out = same_state (put at n xs ys) xs (32 * k) (32 * k) (λ i h.
      put_elsewhere xs ys at n fits long (32 * k + i) (elim out [ inl before ↦ inl (omega (arith, before, h)) | inr behind ↦ inr (omega (arith, behind)) ]))

  pub put_all : (depth b m : ℕ) → at ≡ 32 * b → n ≡ 32 * m → AreAllStates depth xs → AreAllStates depth ys → AreAllStates depth (put at n xs ys)
  put_all depth b m at_is n_is old new = record {
    each = λ k h.
        let all = put_long xs ys at n fits long in
        let inside : 32 * k + 32 ≤ length xs = omega (arith, h, all) in
        elim (cases_lt k b) [
          | inl before ↦ subst (IsState depth) (sym (put_beside k (inl (omega (arith, before, at_is))))) (old.each k inside)
          | inr from ↦ elim (cases_lt k (b + m)) [
            | inl less ↦
                let few : 32 * (k - b) + 32 ≤ n = omega (arith, from, less, n_is) in
                let place : at + 32 * (k - b) ≡ 32 * k = omega (arith, from, at_is) in
                subst (IsState depth) (sym (ap (state_of (put at n xs ys)) (sym place) ∙ put_state (k - b) few)) (new.each (k - b) (omega (arith, few, long)))
            | inr behind ↦ subst (IsState depth) (sym (put_beside k (inr (omega (arith, behind, at_is, n_is))))) (old.each k inside)
          ]
        ];
  }

-- the same of states of either coder
pub part_kept : (a : Accepted) (states : List ℕ) (at n b : ℕ) → at ≡ 32 * b → at + n ≤ length states → AreKept a states → AreKept a (window at n states)
part_kept a states at n b at_is fits kept = record {
  range = λ is. part_held a.table states at n fits (kept.range is);
  rice = λ is. part_all _ at n b states at_is fits (kept.rice is);
}

pub put_kept : (a : Accepted) (xs ys : List ℕ) (at n b m : ℕ) → at + n ≤ length xs → length ys ≡ n → at ≡ 32 * b → n ≡ 32 * m → AreKept a xs → AreKept a ys → AreKept a (put at n xs ys)
put_kept a xs ys at n b m fits long at_is n_is old new = record {
  range = λ is. put_held xs ys at n fits long a.table (old.range is) (new.range is);
  rice = λ is. put_all xs ys at n fits long _ b m at_is n_is (old.rice is) (new.rice is);
}

-- Golomb-Rice coded samples are coded in three bits at least
pub bits_least : (c : Configuration) → (c.coder ≡ coder.Rice → c.depth ≡ 8) → is_rice c.coder ≡ true → 3 ≤ bits_of c
bits_least c law is = elim (rice_bits_are c law is) [
  | inl eight ↦ omega (arith, eight)
  | inr nine ↦ omega (arith, nine)
]
