-- How many of some paths are a hyphen alone.
use Rattle.std.proofs.Common.{◌≡◌, ◌+◌, ◌<◌, ◌≤◌, refl, ℕ, zero, suc, Bool, true, false, List, [], ◌∷◌, map, drop, length, nat_lt, get_or, sym, ap, ◌∙◌, arith}
use Rattle.std.specs.Borrow.{Bor}
use Rattle.std.proofs.lemmas.Bool.{lt-ltb, le-ltb}
use Rattle.clap.specs.Walk.{Text}
use Rattle.ffv1_words.specs.Order.{bit_number, hyphens, is_hyphen}

abbrev none : Bor Text
none = record { ref_ptr = (0, 0); now = [] }

-- from a position on
unfoldable pub hyphens_from : ℕ → List (Bor Text) → ℕ
hyphens_from k ps = hyphens (map (λ p. p.now) (drop k ps))

next_path : (ps : List (Bor Text)) (k : ℕ) → k < length ps → hyphens_from k ps ≡ bit_number (is_hyphen (get_or ps k none).now) + hyphens_from (suc k) ps
unfolding hyphens_from
next_path [] k less = absurd (omega arith)
next_path (p ∷ ps) zero less = refl
next_path (p ∷ ps) (suc k) less = next_path ps k (omega arith)

no_path : (ps : List (Bor Text)) (k : ℕ) → length ps ≤ k → hyphens_from k ps ≡ 0
unfolding hyphens_from
no_path [] zero past = refl
no_path [] (suc k) past = refl
no_path (p ∷ ps) zero past = absurd (omega arith)
no_path (p ∷ ps) (suc k) past = no_path ps k (omega arith)

module _ (ps : List (Bor Text)) (k : ℕ) (seen : Bool) (so : bit_number seen + hyphens_from k ps ≡ hyphens_from 0 ps) where
  -- one more, which is one or not
  more : (b : Bool) → k < length ps → is_hyphen (get_or ps k none).now ≡ b → hyphens_from k ps ≡ bit_number b + hyphens_from (k + 1) ps
  more b less is =
      let next : k + 1 ≡ suc k = omega arith in
      next_path ps k less ∙ ap (λ z. bit_number z + hyphens_from (suc k) ps) is ∙ ap (λ n. bit_number b + hyphens_from n ps) (sym next)

  -- a path that is none
  pub passed : k < length ps → is_hyphen (get_or ps k none).now ≡ false → bit_number seen + hyphens_from (k + 1) ps ≡ hyphens_from 0 ps
  passed less is =
      let next : hyphens_from k ps ≡ 0 + hyphens_from (k + 1) ps = more false less is in
      let same : hyphens_from k ps ≡ hyphens_from (k + 1) ps = omega (arith, next) in
      ap (λ n. bit_number seen + n) (sym same) ∙ so

  -- the first that is one
  pub first : k < length ps → is_hyphen (get_or ps k none).now ≡ true → seen ≡ false → bit_number true + hyphens_from (k + 1) ps ≡ hyphens_from 0 ps
  first less is unseen =
      let next : hyphens_from k ps ≡ 1 + hyphens_from (k + 1) ps = more true less is in
      let before : 0 + hyphens_from k ps ≡ hyphens_from 0 ps = ap (λ b. bit_number b + hyphens_from k ps) (sym unseen) ∙ so in
      let is_so : 1 + hyphens_from (k + 1) ps ≡ hyphens_from 0 ps = omega (arith, next, before) in
      is_so

  -- a second one
  pub second : k < length ps → is_hyphen (get_or ps k none).now ≡ true → seen ≡ true → true ≡ nat_lt 1 (hyphens_from 0 ps)
  second less is past =
      let next : hyphens_from k ps ≡ 1 + hyphens_from (k + 1) ps = more true less is in
      let before : 1 + hyphens_from k ps ≡ hyphens_from 0 ps = ap (λ b. bit_number b + hyphens_from k ps) (sym past) ∙ so in
      sym (lt-ltb 1 (hyphens_from 0 ps) (omega (arith, next, before)))

  at_most : (b : Bool) → bit_number b ≤ 1
  at_most true = omega arith
  at_most false = omega arith

  -- no more than one
  pub over : length ps ≤ k → false ≡ nat_lt 1 (hyphens_from 0 ps)
  over past =
      let none_left = no_path ps k past in
      let most = at_most seen in
      sym (le-ltb 1 (hyphens_from 0 ps) (omega (arith, none_left, most, so)))
