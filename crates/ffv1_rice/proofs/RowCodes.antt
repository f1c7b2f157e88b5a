-- No row's bits are the begin of another's.
use Rattle.std.proofs.Common.{◌≡◌, refl, sym, ◌∙◌, ap, ap₂, subst, ℕ, zero, suc, ◌+◌, ◌-◌, ◌^◌, ◌<◌}
use Rattle.std.proofs.Common.{◌≤◌}
use Rattle.std.proofs.Common.{◌⊎◌, Bool, true, false, List, [], ◌∷◌, ◌++◌, length, drop, get_or}
use Rattle.std.proofs.Common.{Option, Some, None, inl, inr, arith, append_assoc, ℤ, pos, negsuc}
use Rattle.std.proofs.Common.{length-append, ◌-ℤ◌, ◌<ℤ◌, ◌≤ℤ◌, ◌%◌}
use Rattle.std.proofs.Common.{eq-eqb, ne_eqb, true≢false, mod-eq_of_lt, leb}
use Rattle.std.proofs.lemmas.Bool.{cases_eq, cases_Bool, agree_below_at, leb-true}
use Rattle.std.proofs.lemmas.Nat.{pow_pos}
use Rattle.std.proofs.lemmas.List.{append_cancel_left}
use Rattle.std.proofs.lemmas.Int.{ints}
use Rattle.ffv1_plane.specs.Residual.{IsFolded}
use Rattle.ffv1_rice.specs.Bits.{binary}
use Rattle.ffv1_rice.specs.Run.{run_log}
use Rattle.ffv1_rice.specs.States.{IsState}
use Rattle.ffv1_rice.specs.Scalar.{scalar_bits}
use Rattle.ffv1_rice.specs.Row.{Place, Coder, begun, shortened, is_zero, bits_in, place_bits}
use Rattle.ffv1_rice.specs.Row.{run_after, after_in, place_after}
use Rattle.ffv1_rice.specs.Row.{places_bits, places_after, end_bits, row_bits, AreAlike, AreFolded}
use Rattle.ffv1_rice.specs.Row.{IsRunning}
use Rattle.ffv1_rice.proofs.Binary.{length-binary}
use Rattle.ffv1_rice.proofs.Codes.{binary_one}
use Rattle.ffv1_rice.proofs.Differences.{differences_one, some_difference, length_difference}

-- a row's bits by its first place
pub row_first : (depth : ℕ) (c : Coder) (p : Place) (ps : List Place) →
    row_bits depth c (p ∷ ps) ≡ place_bits depth c p ++ row_bits depth (place_after depth c p) ps
unfolding places_bits places_after
row_first depth c p ps =
    append_assoc (place_bits depth c p) (places_bits depth (place_after depth c p) ps)
    (end_bits (places_after depth (place_after depth c p) ps).run)

pub row_none : (depth : ℕ) (c : Coder) → row_bits depth c [] ≡ end_bits c.run
unfolding places_bits places_after
row_none depth c = refl

-- a run that goes on is longer than one that is broken before it
goes_on : (depth : ℕ) (c : Coder) (ps : List Place) (m n : ℕ) (a b : List Bool) → c.run ≡ Some
    (suc m) →
    suc m < 2 ^ run_log c.index → n < suc m →
    row_bits depth c ps ++ a ≡ false ∷ (binary (run_log c.index) n ++ b) → ⊥
goes_on depth c [] m n a b run small less is =
    let ended : row_bits depth c [] ≡ true ∷ [] = row_none depth c ∙ ap end_bits run in
    true≢false (ap (λ bits. get_or bits 0 false) (sym (ap (λ bits. bits ++ a) ended) ∙ is))
goes_on depth c (p ∷ ps) m n a b run small less is =
    let begins : begun c.run p.context ≡ Some (suc m) = ap (λ run. begun run p.context) run in
    let all : place_bits depth c p ++ (row_bits depth (place_after depth c p) ps ++ a) ≡ false ∷
    (binary (run_log c.index) n ++ b) =
    sym (append_assoc (place_bits depth c p) (row_bits depth (place_after depth c p) ps) a)
    ∙ ap (λ bits. bits ++ a) (sym (row_first depth c p ps)) ∙ is in
    elim (cases_Bool (is_zero p.difference)) [
      | inl none ↦ elim (cases_eq (suc (suc m)) (2 ^ run_log c.index)) [
        | inl full ↦
            let bits : place_bits depth c p ≡ true ∷ [] = ap (bits_in depth c p) begins ∙
            rw (none, eq-eqb (suc (suc m)) (2 ^ run_log c.index) full) refl in
            true≢false (ap (λ bits. get_or bits 0 false)
            (sym (ap (λ bits. bits ++ (row_bits depth (place_after depth c p) ps ++ a)) bits) ∙
            all))
        | inr part ↦
            let bits : place_bits depth c p ≡ [] = ap (bits_in depth c p) begins ∙
            rw (none, ne_eqb (suc (suc m)) (2 ^ run_log c.index) part) refl in
            let next : Coder = record {
              states = c.states;
              index = c.index;
              run = Some (suc (suc m));
            } in
            let after : place_after depth c p ≡ next = ap (after_in depth c p) begins ∙
            rw (none, ne_eqb (suc (suc m)) (2 ^ run_log c.index) part) refl in
            goes_on depth next ps (suc m) n a b refl (omega (arith, small, part))
            (omega (arith, less))
            (sym (ap₂ (λ bits d. bits ++ (row_bits depth d ps ++ a)) bits after) ∙ all)
      ]
      | inr some ↦
          let code = scalar_bits depth (c.states p.context) (shortened p.difference) in
          let bits : place_bits depth c p ≡ false ∷ (binary (run_log c.index) (suc m) ++ code) =
          ap (bits_in depth c p) begins ∙ rw some refl in
          let low = ap (drop 1) (sym (ap (λ bits. bits ++
          (row_bits depth (place_after depth c p) ps ++ a)) bits) ∙ all) in
          let field = binary_one (run_log c.index) (suc m) n
          (code ++ (row_bits depth (place_after depth c p) ps ++ a)) b
          (sym (append_assoc (binary (run_log c.index) (suc m)) code
          (row_bits depth (place_after depth c p) ps ++ a)) ∙ low) in
          let one : suc m % 2 ^ run_log c.index ≡ suc m = mod-eq_of_lt small in
          let two : n % 2 ^ run_log c.index ≡ n = mod-eq_of_lt (omega (arith, less, small)) in
          let same = field.0 in
          omega (arith, one, two, same, less)
    ]

unfoldable pub length_of : Option ℕ → ℕ
length_of None = 0
length_of (Some n) = n

unfoldable pub is_on : Option ℕ → Bool
is_on None = false
is_on (Some n) = true

pub running_none : (index : ℕ) → IsRunning index None
unfolding is_on
running_none index = λ n is. absurd (true≢false (sym (ap is_on is)))

running_some : (index n : ℕ) → n < 2 ^ run_log index → IsRunning index (Some n)
unfolding length_of
running_some index n small = λ m is. let same : n ≡ m = ap length_of is in rw same at small

pub begun_cases : (index context : ℕ) (run : Option ℕ) → IsRunning index run →
    (begun run context ≡ None) ⊎ ((n : ℕ) × (begun run context ≡ Some n) × (n < 2 ^ run_log index))
begun_cases index context None small = elim (cases_eq context 0) [
  | inl first ↦ inr (0, rw (eq-eqb context 0 first) refl, pow_pos (run_log index))
  | inr other ↦ inl (rw (ne_eqb context 0 other) refl)
]
begun_cases index context (Some n) small = inr (n, refl, small n refl)

pub running_after : (depth : ℕ) (c : Coder) (p : Place) → IsRunning c.index c.run →
    IsRunning (place_after depth c p).index (place_after depth c p).run
running_after depth c p small = elim (begun_cases c.index p.context c.run small) [
  | inl none ↦
      let after : place_after depth c p ≡ after_in depth c p None = ap (after_in depth c p) none in
      subst (λ d. IsRunning d.index d.run) (sym after) (running_none c.index)
  | inr on ↦
      let n = on.0 in
      let after : place_after depth c p ≡ run_after depth c p n = ap (after_in depth c p) on.1 in
      elim (cases_Bool (is_zero p.difference)) [
        | inl flat ↦ elim (cases_eq (suc n) (2 ^ run_log c.index)) [
          | inl full ↦
              let is : place_after depth c p ≡
              record { states = c.states; index = c.index + 1; run = Some 0 } =
              after ∙ rw (flat, eq-eqb (suc n) (2 ^ run_log c.index) full) refl in
              subst (λ d. IsRunning d.index d.run) (sym is)
              (running_some (c.index + 1) 0 (pow_pos (run_log (c.index + 1))))
          | inr part ↦
              let is : place_after depth c p ≡
              record { states = c.states; index = c.index; run = Some (suc n) } =
              after ∙ rw (flat, ne_eqb (suc n) (2 ^ run_log c.index) part) refl in
              let less = on.2 in
              subst (λ d. IsRunning d.index d.run) (sym is)
              (running_some c.index (suc n) (omega (arith, less, part)))
        ]
        | inr some ↦
            let none : (place_after depth c p).run ≡ None = ap (λ d. d.run) after ∙ rw some refl in
            subst (IsRunning (place_after depth c p).index) (sym none)
            (running_none (place_after depth c p).index)
      ]
]

pub shortened_same : (d e : ℤ) → is_zero d ≡ false → is_zero e ≡ false → shortened d ≡ shortened e
    → d ≡
    e
shortened_same (pos zero) e some other is = absurd (true≢false some)
shortened_same (pos (suc m)) (pos zero) some other is = absurd (true≢false other)
shortened_same (pos (suc m)) (pos (suc n)) some other is = omega (arith, ints, is)
shortened_same (pos (suc m)) (negsuc n) some other is = absurd (omega (arith, ints, is))
shortened_same (negsuc m) (pos zero) some other is = absurd (true≢false other)
shortened_same (negsuc m) (pos (suc n)) some other is = absurd (omega (arith, ints, is))
shortened_same (negsuc m) (negsuc n) some other is = is

pub zero_is : (d : ℤ) → is_zero d ≡ true → d ≡ pos 0
zero_is (pos zero) is = refl
zero_is (pos (suc n)) is = absurd (true≢false (sym is))
zero_is (negsuc n) is = absurd (true≢false (sym is))

shortened_least : (half : ℕ) (d : ℤ) → (pos 0 -ℤ pos half) ≤ℤ d → (pos 0 -ℤ pos half) ≤ℤ shortened d
shortened_least half (pos zero) least = least
shortened_least half (pos (suc n)) least = omega (arith, ints)
shortened_least half (negsuc n) least = least

shortened_most : (half : ℕ) (d : ℤ) → d <ℤ pos half → shortened d <ℤ pos half
shortened_most half (pos zero) most = most
shortened_most half (pos (suc n)) most = omega (arith, ints, most)
shortened_most half (negsuc n) most = most

pub shortened_folded : (depth : ℕ) (d : ℤ) → IsFolded depth d → IsFolded depth (shortened d)
shortened_folded depth d is = record {
  least = shortened_least (2 ^ (depth - 1)) d is.least;
  most = shortened_most (2 ^ (depth - 1)) d is.most;
}

-- the bits of two rows that agree agree after those of their first places
firsts : (depth : ℕ) (c : Coder) (p q : Place) (ps qs : List Place) (a b : List Bool) →
    row_bits depth c (p ∷ ps) ++ a ≡ row_bits depth c (q ∷ qs) ++ b →
    place_bits depth c p ++ (row_bits depth (place_after depth c p) ps ++ a) ≡ place_bits depth c q
    ++ (row_bits depth (place_after depth c q) qs ++ b)
firsts depth c p q ps qs a b is =
    sym (append_assoc (place_bits depth c p) (row_bits depth (place_after depth c p) ps) a)
    ∙ ap (λ bits. bits ++ a) (sym (row_first depth c p ps)) ∙ is
    ∙ ap (λ bits. bits ++ b) (row_first depth c q qs)
    ∙ append_assoc (place_bits depth c q) (row_bits depth (place_after depth c q) qs) b

-- a run goes on in one row and is broken in the other
parted : (depth : ℕ) (c : Coder) (p q : Place) (ps qs : List Place) (n : ℕ) (a b : List Bool) →
    begun c.run p.context ≡ Some n → begun c.run q.context ≡ Some n → n < 2 ^ run_log c.index →
    is_zero p.difference ≡ true → is_zero q.difference ≡ false →
    row_bits depth c (p ∷ ps) ++ a ≡ row_bits depth c (q ∷ qs) ++ b → ⊥
parted depth c p q ps qs n a b one two small flat some is =
    let all = firsts depth c p q ps qs a b is in
    let code = scalar_bits depth (c.states q.context) (shortened q.difference) in
    let broken : place_bits depth c q ≡ false ∷ (binary (run_log c.index) n ++ code) =
    ap (bits_in depth c q) two ∙ rw some refl in
    let rest = row_bits depth (place_after depth c q) qs ++ b in
    elim (cases_eq (suc n) (2 ^ run_log c.index)) [
      | inl full ↦
          let bits : place_bits depth c p ≡ true ∷ [] = ap (bits_in depth c p) one ∙
          rw (flat, eq-eqb (suc n) (2 ^ run_log c.index) full) refl in
          true≢false (ap (λ bits. get_or bits 0 false)
          (sym (ap (λ bits. bits ++ (row_bits depth (place_after depth c p) ps ++ a)) bits) ∙
          all ∙ ap (λ bits. bits ++ rest) broken))
      | inr part ↦
          let next : Coder = record { states = c.states; index = c.index; run = Some (suc n) } in
          let bits : place_bits depth c p ≡ [] = ap (bits_in depth c p) one ∙
          rw (flat, ne_eqb (suc n) (2 ^ run_log c.index) part) refl in
          let after : place_after depth c p ≡ next = ap (after_in depth c p) one ∙
          rw (flat, ne_eqb (suc n) (2 ^ run_log c.index) part) refl in
          goes_on depth next ps n n a (code ++ rest) refl (omega (arith, small, part)) (omega arith)
          (sym (ap₂ (λ bits d. bits ++ (row_bits depth d ps ++ a)) bits after) ∙ all ∙
          ap (λ bits. bits ++ rest) broken
          ∙ ap (λ bits. false ∷ bits) (append_assoc (binary (run_log c.index) n) code rest))
    ]

pub place_of : (p q : Place) → p.context ≡ q.context → p.difference ≡ q.difference → p ≡ q
place_of p q one two = ap₂ (λ context difference.
    record { context = context; difference = difference }) one two

-- the first places are one, and what is after them
pub record IsFirst (depth : ℕ) (c : Coder) (p q : Place) (ps qs : List Place) (a b : List Bool) :
    Type 0 where
  pub same : p.difference ≡ q.difference
  pub rest : row_bits depth (place_after depth c p) ps ++ a ≡ row_bits depth (place_after depth c q)
      qs ++ b

firsts_one : (depth : ℕ) (c : Coder) (p q : Place) (ps qs : List Place) (a b : List Bool) → 0 <
    depth →
    IsRunning c.index c.run → p.context ≡ q.context → IsFolded depth p.difference → IsFolded depth
    q.difference →
    row_bits depth c (p ∷ ps) ++ a ≡ row_bits depth c (q ∷ qs) ++ b → IsFirst depth c p q ps qs a b
firsts_one depth c p q ps qs a b some small context folded folded' is =
    let all = firsts depth c p q ps qs a b is in
    elim (begun_cases c.index p.context c.run small) [
      | inl none ↦
          let none' : begun c.run q.context ≡ None = ap (begun c.run) (sym context) ∙ none in
          let one : place_bits depth c p ≡ scalar_bits depth (c.states p.context) p.difference =
          ap (bits_in depth c p) none in
          let two : place_bits depth c q ≡ scalar_bits depth (c.states p.context) q.difference =
          ap (bits_in depth c q) none' ∙ ap (λ k. scalar_bits depth (c.states k) q.difference)
          (sym context) in
          let equal = differences_one depth (c.states p.context) p.difference q.difference
          (row_bits depth (place_after depth c p) ps ++ a)
          (row_bits depth (place_after depth c q) qs ++ b) some folded folded'
          (ap (λ bits. bits ++ (row_bits depth (place_after depth c p) ps ++ a)) (sym one) ∙ all ∙
          ap (λ bits. bits ++ (row_bits depth (place_after depth c q) qs ++ b)) two) in
          record { same = equal.0; rest = equal.1 }
      | inr on ↦
          let n = on.0 in
          let begins = on.1 in
          let begins' : begun c.run q.context ≡ Some n = ap (begun c.run) (sym context) ∙ begins in
          elim (cases_Bool (is_zero p.difference)) [
            | inl flat ↦ elim (cases_Bool (is_zero q.difference)) [
              | inl flat' ↦
                  let same : p.difference ≡ q.difference = zero_is p.difference flat ∙
                  sym (zero_is q.difference flat') in
                  let bits : place_bits depth c p ≡ place_bits depth c q = ap (place_bits depth c)
                  (place_of p q context same) in
                  record {
                    same = same;
                    rest = append_cancel_left (place_bits depth c q)
                        (row_bits depth (place_after depth c p) ps ++ a)
                        (row_bits depth (place_after depth c q) qs ++ b)
                        (ap (λ bits. bits ++ (row_bits depth (place_after depth c p) ps ++ a))
                        (sym bits) ∙ all);
                  }
              | inr other' ↦ absurd (parted depth c p q ps qs n a b begins begins' on.2 flat other'
                  is)
            ]
            | inr other ↦ elim (cases_Bool (is_zero q.difference)) [
              | inl flat' ↦ absurd (parted depth c q p qs ps n b a begins' begins on.2 flat' other
                  (sym is))
              | inr other' ↦
                  let log = run_log c.index in
                  let s = c.states p.context in
                  let code = scalar_bits depth s (shortened p.difference) in
                  let code' = scalar_bits depth s (shortened q.difference) in
                  let rest = row_bits depth (place_after depth c p) ps ++ a in
                  let rest' = row_bits depth (place_after depth c q) qs ++ b in
                  let one : place_bits depth c p ≡ false ∷ (binary log n ++ code) =
                  ap (bits_in depth c p) begins ∙ rw other refl in
                  let two : place_bits depth c q ≡ false ∷ (binary log n ++ code') =
                  ap (bits_in depth c q) begins' ∙ rw other' refl
                  ∙ ap (λ k. false ∷ (binary log n ++ scalar_bits depth (c.states k)
                  (shortened q.difference))) (sym context) in
                  let tail = ap (drop 1) (ap (λ bits. bits ++ rest) (sym one) ∙ all ∙
                  ap (λ bits. bits ++ rest') two) in
                  let low = append_cancel_left (binary log n) (code ++ rest) (code' ++ rest')
                  (sym (append_assoc (binary log n) code rest) ∙ tail ∙ append_assoc (binary log n)
                  code' rest') in
                  let equal = differences_one depth s (shortened p.difference)
                  (shortened q.difference) rest rest' some
                  (shortened_folded depth p.difference folded)
                  (shortened_folded depth q.difference folded') low in
                  record {
                    same = shortened_same p.difference q.difference other other' equal.0;
                    rest = equal.1;
                  }
            ]
          ]
    ]

pub rows_one : (depth : ℕ) (c : Coder) (ps qs : List Place) (a b : List Bool) → 0 < depth →
    IsRunning c.index c.run → AreAlike ps qs → AreFolded depth ps → AreFolded depth qs →
    row_bits depth c ps ++ a ≡ row_bits depth c qs ++ b → (ps ≡ qs) × (a ≡ b)
rows_one depth c [] [] a b some small alike folded folded' is =
    (refl, append_cancel_left (row_bits depth c []) a b is)
rows_one depth c [] (q ∷ qs) a b some small alike folded folded' is = absurd alike
rows_one depth c (p ∷ ps) [] a b some small alike folded folded' is = absurd alike
rows_one depth c (p ∷ ps) (q ∷ qs) a b some small alike folded folded' is =
    let first = firsts_one depth c p q ps qs a b some small alike.0 folded.0 folded'.0 is in
    let same = place_of p q alike.0 first.same in
    let rest = rows_one depth (place_after depth c p) ps qs a b some (running_after depth c p small)
    (alike.1 first.same) folded.1 folded'.1
    (first.rest ∙ ap (λ place. row_bits depth (place_after depth c place) qs ++ b) (sym same)) in
    (ap₂ (λ place places. place ∷ places) same rest.0, rest.1)

-- ---- how long rows are

pub run_log_small : (index : ℕ) → index ≤ 30 → run_log index ≤ 14
unfolding run_log
run_log_small index few =
    let test = agree_below_at (λ k. leb (run_log k) 14) (λ k. true) 31 index refl
    (omega (arith, few)) in
    leb-true (run_log index) 14 test

pub length_place : (depth : ℕ) (c : Coder) (p : Place) → 0 < depth → c.index ≤ 30 → IsRunning
    c.index c.run → IsState depth (c.states p.context) →
    length (place_bits depth c p) ≤ 27 + depth
length_place depth c p some few small is =
    let log = run_log_small c.index few in
    elim (begun_cases c.index p.context c.run small) [
      | inl none ↦
          let bits : place_bits depth c p ≡ scalar_bits depth (c.states p.context) p.difference =
          ap (bits_in depth c p) none in
          let long = length_difference depth (c.states p.context) p.difference some is in
          rw bits (omega (arith, long))
      | inr on ↦
          let n = on.0 in
          elim (cases_Bool (is_zero p.difference)) [
            | inl flat ↦ elim (cases_eq (suc n) (2 ^ run_log c.index)) [
              | inl full ↦
                  let bits : place_bits depth c p ≡ true ∷ [] = ap (bits_in depth c p) on.1 ∙
                  rw (flat, eq-eqb (suc n) (2 ^ run_log c.index) full) refl in
                  rw bits (omega arith)
              | inr part ↦
                  let bits : place_bits depth c p ≡ [] = ap (bits_in depth c p) on.1 ∙
                  rw (flat, ne_eqb (suc n) (2 ^ run_log c.index) part) refl in
                  rw bits (omega arith)
            ]
            | inr other ↦
                let code = scalar_bits depth (c.states p.context) (shortened p.difference) in
                let bits : place_bits depth c p ≡ false ∷ (binary (run_log c.index) n ++ code) =
                ap (bits_in depth c p) on.1 ∙ rw other refl in
                let long = length_difference depth (c.states p.context) (shortened p.difference)
                some is in
                rw (
                  bits,
                  length-append (binary (run_log c.index) n) code,
                  length-binary
                      (run_log c.index) n,
                ) (omega (arith, long, log))
          ]
    ]

-- a run that goes on has a bit to come
on_some : (depth : ℕ) (c : Coder) (ps : List Place) (m : ℕ) → c.run ≡ Some (suc m) → 1 ≤ length
    (row_bits depth c ps)
on_some depth c [] m run = rw (row_none depth c, run) (omega arith)
on_some depth c (p ∷ ps) m run =
    let begins : begun c.run p.context ≡ Some (suc m) = ap (λ run. begun run p.context) run in
    elim (cases_Bool (is_zero p.difference)) [
      | inl flat ↦ elim (cases_eq (suc (suc m)) (2 ^ run_log c.index)) [
        | inl full ↦
            let bits : place_bits depth c p ≡ true ∷ [] = ap (bits_in depth c p) begins ∙
            rw (flat, eq-eqb (suc (suc m)) (2 ^ run_log c.index) full) refl in
            rw (
              row_first depth c p ps,
              length-append (place_bits depth c p)
                  (row_bits depth (place_after depth c p) ps),
              bits,
            ) (omega arith)
        | inr part ↦
            let after : place_after depth c p ≡
            record { states = c.states; index = c.index; run = Some (suc (suc m)) } =
            ap (after_in depth c p) begins ∙
            rw (flat, ne_eqb (suc (suc m)) (2 ^ run_log c.index) part) refl in
            let rest = on_some depth (place_after depth c p) ps (suc m) (ap (λ d. d.run) after) in
            rw (
              row_first depth c p ps,
              length-append (place_bits depth c p)
                  (row_bits depth (place_after depth c p) ps),
            ) (omega (arith, rest))
      ]
      | inr other ↦
          let bits : place_bits depth c p ≡ false ∷
          (binary (run_log c.index) (suc m) ++ scalar_bits depth (c.states p.context)
          (shortened p.difference)) = ap (bits_in depth c p) begins ∙ rw other refl in
          rw (
            row_first depth c p ps,
            length-append (place_bits depth c p)
                (row_bits depth (place_after depth c p) ps),
            bits,
          ) (omega arith)
    ]

pub row_some : (depth : ℕ) (c : Coder) (p : Place) (ps : List Place) → IsRunning c.index c.run → 1 ≤
    length (row_bits depth c (p ∷ ps))
row_some depth c p ps small = elim (begun_cases c.index p.context c.run small) [
  | inl none ↦
      let bits : place_bits depth c p ≡ scalar_bits depth (c.states p.context) p.difference =
      ap (bits_in depth c p) none in
      let some = some_difference depth (c.states p.context) p.difference in
      rw (
        row_first depth c p ps,
        length-append (place_bits depth c p)
            (row_bits depth (place_after depth c p) ps),
        bits,
      ) (omega (arith, some))
  | inr on ↦
      let n = on.0 in
      elim (cases_Bool (is_zero p.difference)) [
        | inl flat ↦ elim (cases_eq (suc n) (2 ^ run_log c.index)) [
          | inl full ↦
              let bits : place_bits depth c p ≡ true ∷ [] = ap (bits_in depth c p) on.1 ∙
              rw (flat, eq-eqb (suc n) (2 ^ run_log c.index) full) refl in
              rw (
                row_first depth c p ps,
                length-append (place_bits depth c p)
                    (row_bits depth (place_after depth c p) ps),
                bits,
              ) (omega arith)
          | inr part ↦
              let after : place_after depth c p ≡
              record { states = c.states; index = c.index; run = Some (suc n) } =
              ap (after_in depth c p) on.1 ∙
              rw (flat, ne_eqb (suc n) (2 ^ run_log c.index) part) refl in
              let rest = on_some depth (place_after depth c p) ps n (ap (λ d. d.run) after) in
              rw (
                row_first depth c p ps,
                length-append (place_bits depth c p)
                    (row_bits depth (place_after depth c p) ps),
              ) (omega (arith, rest))
        ]
        | inr other ↦
            let bits : place_bits depth c p ≡ false ∷
            (binary (run_log c.index) n ++ scalar_bits depth (c.states p.context)
            (shortened p.difference)) = ap (bits_in depth c p) on.1 ∙ rw other refl in
            rw (
              row_first depth c p ps,
              length-append (place_bits depth c p)
                  (row_bits depth (place_after depth c p) ps),
              bits,
            ) (omega arith)
      ]
]
