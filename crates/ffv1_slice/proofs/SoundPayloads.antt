-- A payload whose slices have the remainder 0 has it as a whole.
use Rattle.std.proofs.Common.{◌≡◌, refl, ℕ, zero, suc, ◌+◌, ◌-◌, ◌*◌, ◌<◌, ◌≤◌, true, List, [], ◌∷◌, ◌++◌, length, take, drop, ap, sym, subst, ◌∙◌, arith, take_all, length-take-le}
use Rattle.std.proofs.Math.Seq.{take-add}
use Rattle.std.proofs.lemmas.List.{get_or-drop, length-drop, nil_from_length}
use Rattle.ffv1_range.specs.Codes.{AreBytes}
use Rattle.ffv1_record.specs.Configuration.{Configuration}
use Rattle.ffv1_record.specs.Parity.{divided, remainder_of}
use Rattle.ffv1_slice.specs.Footer.{foot_length, slice_of}
use Rattle.ffv1_slice.specs.Cutting.{Cuts, IsCutting, IsSound, IsWhole}

-- bytes behind others, each with the remainder 0, have it together
abbrev pub InARow : Type 0
InARow = (xs ys : List ℕ) → AreBytes ys → 4 ≤ length xs → 4 ≤ length ys → remainder_of xs ≡ 0 → remainder_of ys ≡ 0 → remainder_of (xs ++ ys) ≡ 0

taken_bytes : (n : ℕ) (xs : List ℕ) → AreBytes xs → AreBytes (take n xs)
taken_bytes zero xs are i = omega arith
taken_bytes (suc n) [] are i = omega arith
taken_bytes (suc n) (x ∷ xs) are zero = are 0
taken_bytes (suc n) (x ∷ xs) are (suc i) = taken_bytes n xs (λ j. are (suc j)) i

none_sound : remainder_of [] ≡ 0
unfolding remainder_of divided
none_sound = refl

module _ (in_a_row : InARow) (payload : List ℕ) (spans : ℕ → ℕ) (n : ℕ) (are : AreBytes payload) (cut : IsCutting payload 8 n spans) (sound : (s : ℕ) → s < n → remainder_of (slice_of payload spans s) ≡ 0) where
  rises : (k more : ℕ) → k + more ≤ n → spans k ≤ spans (k + more)
  rises k zero fits = rw (let same : k + 0 ≡ k = omega arith in same) (omega arith)
  rises k (suc more) fits =
      let rest = rises k more (omega (arith, fits)) in
      let next = cut.each (k + more) (omega (arith, fits)) in
      let place : spans (suc (k + more)) ≡ spans (k + suc more) = ap spans (let same : suc (k + more) ≡ k + suc more = omega arith in same) in
      omega (arith, rest, next, place)

  within : (k : ℕ) → k ≤ n → spans k ≤ length payload
  within k fits =
      let up = subst (λ m. spans k ≤ spans m) (let same : k + (n - k) ≡ n = omega (arith, fits) in same) (rises k (n - k) (omega (arith, fits))) in
      omega (arith, up, cut.last)

  slice_bytes : (s : ℕ) → AreBytes (slice_of payload spans s)
  slice_bytes s = taken_bytes (spans (suc s) - spans s) (drop (spans s) payload) (λ k. rw (get_or-drop (spans s) payload k 0) (are (spans s + k)))

  slice_long : (s : ℕ) → s < n → length (slice_of payload spans s) ≡ spans (suc s) - spans s
  slice_long s inside =
      let up = within (suc s) inside in
      length-take-le (spans (suc s) - spans s) (drop (spans s) payload) (rw (length-drop (spans s) payload) (omega (arith, up)))

  upto : (s : ℕ) → s < n → remainder_of (take (spans (suc s)) payload) ≡ 0
  upto zero inside =
      let size : spans 1 - 0 ≡ spans 1 = omega arith in
      let first : slice_of payload spans 0 ≡ take (spans 1) payload = ap (λ m. take (spans 1 - m) (drop m payload)) cut.first ∙ ap (λ m. take m payload) size in
      sym (ap remainder_of first) ∙ sound 0 inside
  upto (suc s) inside =
      let sized = cut.each s (omega (arith, inside)) in
      let next = cut.each (suc s) inside in
      let up = within (suc s) (omega (arith, inside)) in
      let rest = spans (suc (suc s)) - spans (suc s) in
      let parts : spans (suc s) + rest ≡ spans (suc (suc s)) = omega (arith, next) in
      let split : take (spans (suc (suc s))) payload ≡ take (spans (suc s)) payload ++ slice_of payload spans (suc s) =
      ap (λ m. take m payload) (sym parts) ∙ take-add (spans (suc s)) rest payload in
      let long : length (take (spans (suc s)) payload) ≡ spans (suc s) = length-take-le (spans (suc s)) payload up in
      ap remainder_of split
      ∙ in_a_row (take (spans (suc s)) payload) (slice_of payload spans (suc s)) (slice_bytes (suc s)) (omega (arith, long, sized)) (omega (arith, slice_long (suc s) inside, next)) (upto s (omega (arith, inside))) (sound (suc s) inside)

sound_row : InARow → (payload : List ℕ) (spans : ℕ → ℕ) (n : ℕ) → AreBytes payload → IsCutting payload 8 n spans → ((s : ℕ) → s < n → remainder_of (slice_of payload spans s) ≡ 0) → remainder_of payload ≡ 0
sound_row in_a_row payload spans zero are cut sound =
    let none : length payload ≡ 0 = sym cut.last ∙ cut.first in
    ap remainder_of (nil_from_length payload none) ∙ none_sound
sound_row in_a_row payload spans (suc n) are cut sound =
    let all : take (spans (suc n)) payload ≡ payload = take_all (spans (suc n)) payload (omega (arith, cut.last)) in
    sym (ap remainder_of all) ∙ upto in_a_row payload spans (suc n) are cut sound n (omega arith)

pub sound_payload : InARow → (c : Configuration) (payload : List ℕ) (spans : ℕ → ℕ) → AreBytes payload → c.ec ≡ true → Cuts c payload spans → remainder_of payload ≡ 0
sound_payload in_a_row c payload spans are guarded cuts =
    let cut : IsCutting payload 8 (c.columns * c.rows) spans = subst (λ ec. IsCutting payload (foot_length ec) (c.columns * c.rows) spans) guarded cuts.cutting in
    let whole : (s : ℕ) → s < c.columns * c.rows → IsWhole payload spans s = λ s inside. subst (λ ec. IsSound ec payload spans s) guarded (cuts.sound s inside) in
    sound_row in_a_row payload spans (c.columns * c.rows) are cut (λ s inside. (whole s inside).parity)
