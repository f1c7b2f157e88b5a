-- A part of an array of states, and slots of parts.
use Rattle.std.proofs.Common.{◌≡◌, refl, ℕ, ◌+◌, ◌-◌, ◌<◌, ◌≤◌, ◌⊎◌, inl, inr, List, [], ◌∷◌, ◌++◌, length, get_or, take, drop, ap, sym, subst, ◌∙◌, arith, length-append, length-drop}
use Rattle.std.proofs.lemmas.List.{length-take-le, get_or-take, get_or-drop, get_or_append_left, get_or-append-add}
use Rattle.std.proofs.lemmas.Bool.{cases_lt}
use Rattle.ffv1_range.specs.Table.{Table}
use Rattle.ffv1_range.specs.Symbols.{Step, shifted}
use Rattle.ffv1_range.specs.History.{AreBelow, AreOutside, HasStates, state_of}
use Rattle.ffv1_range.proofs.HistoryLemmas.{others_have}

-- xs with the part at a written
abbrev pub put_part : ℕ → ℕ → List ℕ → List ℕ → List ℕ
put_part a k xs ys = take a xs ++ (ys ++ drop k (drop a xs))

module _ (xs ys : List ℕ) (a k : ℕ) (fits : a + k ≤ length xs) (long : length ys ≡ k) where
  front : length (take a xs) ≡ a
  front = length-take-le a xs (omega (arith, fits))

  pub put_long : length (put_part a k xs ys) ≡ length xs
  put_long =
      let first = length-append (take a xs) (ys ++ drop k (drop a xs)) in
      let second = length-append ys (drop k (drop a xs)) in
      let third = length-drop k (drop a xs) in
      let fourth = length-drop a xs in
      omega (arith, first, second, third, fourth, front, long, fits)

  pub put_before : (i : ℕ) → i < a → get_or (put_part a k xs ys) i 0 ≡ get_or xs i 0
  put_before i h = get_or_append_left (take a xs) (ys ++ drop k (drop a xs)) 0 i (omega (arith, front, h)) ∙ get_or-take a xs i 0 h

  pub put_inside : (j : ℕ) → j < k → get_or (put_part a k xs ys) (a + j) 0 ≡ get_or ys j 0
  put_inside j h =
      ap (λ n. get_or (put_part a k xs ys) (n + j) 0) (sym front) ∙ get_or-append-add (take a xs) (ys ++ drop k (drop a xs)) j 0
      ∙ get_or_append_left ys (drop k (drop a xs)) 0 j (omega (arith, long, h))

  pub put_behind : (j : ℕ) → get_or (put_part a k xs ys) (a + (k + j)) 0 ≡ get_or xs (a + (k + j)) 0
  put_behind j =
      ap (λ n. get_or (put_part a k xs ys) (n + (k + j)) 0) (sym front) ∙ get_or-append-add (take a xs) (ys ++ drop k (drop a xs)) (k + j) 0
      ∙ ap (λ n. get_or (ys ++ drop k (drop a xs)) (n + j) 0) (sym long) ∙ get_or-append-add ys (drop k (drop a xs)) j 0
      ∙ get_or-drop k (drop a xs) j 0 ∙ get_or-drop a xs (k + j) 0

  pub put_elsewhere : (i : ℕ) → (i < a) ⊎ (a + k ≤ i) → get_or (put_part a k xs ys) i 0 ≡ get_or xs i 0
  put_elsewhere i out = elim out [
    | inl before ↦ put_before i before
    | inr behind ↦
        let at : i ≡ a + (k + (i - (a + k))) = omega (arith, behind) in
        ap (λ n. get_or (put_part a k xs ys) n 0) at ∙ put_behind (i - (a + k)) ∙ ap (λ n. get_or xs n 0) (sym at)
  ]

-- steps at slots of one part stand outside of a slot that is not in it
outside_one : (b k s : ℕ) (ss : List Step) → (s < b) ⊎ (b + k ≤ s) → AreBelow ss k → AreOutside (shifted b ss) s 1
outside_one b k s [] out below = tt
outside_one b k s (x ∷ ss) out below =
    let first = below.0 in
    (elim out [ inl front ↦ inr (omega (arith, front)) | inr behind ↦ inl (omega (arith, behind, first)) ], outside_one b k s ss out below.1)

-- a slot's state is what it was, after steps at slots of a part that it is not in
pub state_stays : (t : Table) (b k s : ℕ) (past ss : List Step) → (s < b) ⊎ (b + k ≤ s) → AreBelow ss k → state_of t s (past ++ shifted b ss) ≡ state_of t s past
state_stays t b k s past ss out below =
    let base : s + 0 ≡ s = omega arith in
    let one : HasStates t (state_of t s past ∷ []) s past = record { each = λ slot h. let zero_is : slot ≡ 0 = omega (arith, h) in subst (λ n. get_or (state_of t s past ∷ []) n 0 ≡ state_of t (s + n) past) (sym zero_is) (ap (λ n. state_of t n past) (sym base)) } in
    let now = others_have t (state_of t s past ∷ []) s past (shifted b ss) (outside_one b k s ss out below) one in
    ap (λ n. state_of t n (past ++ shifted b ss)) (sym base) ∙ sym (now.each 0 (omega arith))

-- the states of a part
pub part_has : (t : Table) (states : List ℕ) (base a k : ℕ) (past : List Step) → a + k ≤ length states → HasStates t states base past → HasStates t (take k (drop a states)) (base + a) past
part_has t states base a k past fits has =
    let long : length (take k (drop a states)) ≡ k = length-take-le k (drop a states) (let d = length-drop a states in omega (arith, d, fits)) in
    record {
      each = λ slot h.
          let h : slot < k = omega (arith, long, h) in
          let at : base + (a + slot) ≡ base + a + slot = omega arith in
          get_or-take k (drop a states) slot 0 h ∙ get_or-drop a states slot 0 ∙ has.each (a + slot) (omega (arith, h, fits)) ∙ ap (λ n. state_of t n past) at;
    }

-- a part that moved by steps at its slots, in all states
pub put_has : (t : Table) (states ys : List ℕ) (base a k : ℕ) (past ss : List Step) → a + k ≤ length states → length ys ≡ k → AreBelow ss k → HasStates t states base past →
    HasStates t ys (base + a) (past ++ shifted (base + a) ss) → HasStates t (put_part a k states ys) base (past ++ shifted (base + a) ss)
put_has t states ys base a k past ss fits long below old new = record {
  each = λ slot h.
      let h : slot < length states = omega (arith, put_long states ys a k fits long, h) in
      elim (cases_lt slot a) [
        | inl before ↦
            let stays = state_stays t (base + a) k (base + slot) past ss (inl (omega (arith, before))) below in
            put_before states ys a k fits long slot before ∙ old.each slot h ∙ sym stays
        | inr from ↦ elim (cases_lt slot (a + k)) [
          | inl inside ↦
              let at : slot ≡ a + (slot - a) = omega (arith, from) in
              let less : slot - a < k = omega (arith, from, inside) in
              let there : base + a + (slot - a) ≡ base + slot = omega (arith, from) in
              ap (λ n. get_or (put_part a k states ys) n 0) at ∙ put_inside states ys a k fits long (slot - a) less ∙ new.each (slot - a) (omega (arith, less, long))
              ∙ ap (λ n. state_of t n (past ++ shifted (base + a) ss)) there
          | inr behind ↦
              let stays = state_stays t (base + a) k (base + slot) past ss (inr (omega (arith, behind))) below in
              put_elsewhere states ys a k fits long slot (inr behind) ∙ old.each slot h ∙ sym stays
        ]
      ];
}

-- slots of parts
pub below_more : (ss : List Step) (few many : ℕ) → few ≤ many → AreBelow ss few → AreBelow ss many
below_more [] few many h below = tt
below_more (s ∷ ss) few many h below = let first = below.0 in (omega (arith, h, first), below_more ss few many h below.1)

pub shifted_twice : (b k : ℕ) (ss : List Step) → shifted b (shifted k ss) ≡ shifted (b + k) ss
shifted_twice b k [] = refl
shifted_twice b k (s ∷ ss) =
    let f : ℕ → Step = λ n. record { slot = n; bit = s.bit } in
    let at : b + (k + s.slot) ≡ b + k + s.slot = omega arith in
    ap (λ z. z ∷ shifted b (shifted k ss)) (ap f at) ∙ ap (λ zs. f (b + k + s.slot) ∷ zs) (shifted_twice b k ss)

pub shifted-append : (b : ℕ) (xs ys : List Step) → shifted b (xs ++ ys) ≡ shifted b xs ++ shifted b ys
shifted-append b [] ys = refl
shifted-append b (x ∷ xs) ys = ap (λ zs. record { slot = b + x.slot; bit = x.bit } ∷ zs) (shifted-append b xs ys)
