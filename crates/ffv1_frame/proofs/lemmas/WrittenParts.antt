-- A part of a list that was written.
use Rattle.std.proofs.Common.{◌≡◌, ℕ, ◌+◌, ◌-◌, ◌<◌, ◌≤◌, ◌⊎◌, inl, inr, List, ◌++◌, length, get_or, take, drop, ap, sym, subst, ◌∙◌, arith, length-append, length-drop}
use Rattle.std.proofs.lemmas.List.{length-take-le, get_or-take, get_or-drop, get_or_append_left, get_or-append-add}
use Rattle.std.proofs.Math.Seq.{drop-append-add, take-append_seam}
use Rattle.std.proofs.lemmas.Grind.{same_number_lists}
use Rattle.std.proofs.lemmas.Bool.{cases_lt}
use Rattle.ffv1_range.specs.Table.{Table, Holds}
use Rattle.ffv1_range.specs.Symbols.{AllHeld}
use Rattle.ffv1_frame.specs.Windows.{window}

-- xs with the part at a written
abbrev pub put : ℕ → ℕ → List ℕ → List ℕ → List ℕ
put a k xs ys = take a xs ++ (ys ++ drop k (drop a xs))

module _ (xs ys : List ℕ) (a k : ℕ) (fits : a + k ≤ length xs) (long : length ys ≡ k) where
  front : length (take a xs) ≡ a
  front = length-take-le a xs (omega (arith, fits))

  pub put_long : length (put a k xs ys) ≡ length xs
  put_long =
      let first = length-append (take a xs) (ys ++ drop k (drop a xs)) in
      let second = length-append ys (drop k (drop a xs)) in
      let third = length-drop k (drop a xs) in
      let fourth = length-drop a xs in
      omega (arith, first, second, third, fourth, front, long, fits)

  pub put_before : (i : ℕ) → i < a → get_or (put a k xs ys) i 0 ≡ get_or xs i 0
  put_before i h = get_or_append_left (take a xs) (ys ++ drop k (drop a xs)) 0 i (omega (arith, front, h)) ∙ get_or-take a xs i 0 h

  pub put_inside : (j : ℕ) → j < k → get_or (put a k xs ys) (a + j) 0 ≡ get_or ys j 0
  put_inside j h =
      ap (λ n. get_or (put a k xs ys) (n + j) 0) (sym front) ∙ get_or-append-add (take a xs) (ys ++ drop k (drop a xs)) j 0
      ∙ get_or_append_left ys (drop k (drop a xs)) 0 j (omega (arith, long, h))

  pub put_after : (j : ℕ) → get_or (put a k xs ys) (a + (k + j)) 0 ≡ get_or xs (a + (k + j)) 0
  put_after j =
      ap (λ n. get_or (put a k xs ys) (n + (k + j)) 0) (sym front) ∙ get_or-append-add (take a xs) (ys ++ drop k (drop a xs)) (k + j) 0
      ∙ ap (λ n. get_or (ys ++ drop k (drop a xs)) (n + j) 0) (sym long) ∙ get_or-append-add ys (drop k (drop a xs)) j 0
      ∙ get_or-drop k (drop a xs) j 0 ∙ get_or-drop a xs (k + j) 0

  pub put_elsewhere : (i : ℕ) → (i < a) ⊎ (a + k ≤ i) → get_or (put a k xs ys) i 0 ≡ get_or xs i 0
  put_elsewhere i out = elim out [
    | inl before ↦ put_before i before
    | inr behind ↦
        let at : i ≡ a + (k + (i - (a + k))) = omega (arith, behind) in
        ap (λ n. get_or (put a k xs ys) n 0) at ∙ put_after (i - (a + k)) ∙ ap (λ n. get_or xs n 0) (sym at)
  ]

  -- the part
  pub put_window : window a k (put a k xs ys) ≡ ys
  put_window =
      ap (λ n. take k (drop n (put a k xs ys))) (omega (arith, front)) ∙ ap (take k) (drop-append-add (take a xs) (ys ++ drop k (drop a xs)) 0)
      ∙ ap (λ n. take n (ys ++ drop k (drop a xs))) (sym long) ∙ take-append_seam ys (drop k (drop a xs))

  -- a window beside the part
  pub put_other : (b n : ℕ) → b + n ≤ length xs → (b + n ≤ a) ⊎ (a + k ≤ b) → window b n (put a k xs ys) ≡ window b n xs
  put_other b n within apart =
      let all : length (put a k xs ys) ≡ length xs = put_long in
      let long_new : length (window b n (put a k xs ys)) ≡ n = length-take-le n (drop b (put a k xs ys)) (let d = length-drop b (put a k xs ys) in omega (arith, d, all, within)) in
      let long_old : length (window b n xs) ≡ n = length-take-le n (drop b xs) (let d = length-drop b xs in omega (arith, d, within)) in
      same_number_lists (window b n (put a k xs ys)) (window b n xs) (long_new ∙ sym long_old) (λ i h.
      let h : i < n = omega (arith, long_new, h) in
      let out : (b + i < a) ⊎ (a + k ≤ b + i) = elim apart [ inl before ↦ inl (omega (arith, before, h)) | inr behind ↦ inr (omega (arith, behind, h)) ] in
      get_or-take n (drop b (put a k xs ys)) i 0 h ∙ get_or-drop b (put a k xs ys) i 0 ∙ put_elsewhere (b + i) out
      ∙ sym (get_or-take n (drop b xs) i 0 h ∙ get_or-drop b xs i 0))

  -- a window that goes into the part as far as the part begins with what stood there
  pub put_agrees : (shared : ℕ) → shared ≤ k → ((j : ℕ) → j < shared → get_or ys j 0 ≡ get_or xs (a + j) 0) → (b n : ℕ) → b + n ≤ length xs → b + n ≤ a + shared → window b n (put a k xs ys) ≡ window b n xs
  put_agrees shared few same b n within upto =
      let all : length (put a k xs ys) ≡ length xs = put_long in
      let long_new : length (window b n (put a k xs ys)) ≡ n = length-take-le n (drop b (put a k xs ys)) (let d = length-drop b (put a k xs ys) in omega (arith, d, all, within)) in
      let long_old : length (window b n xs) ≡ n = length-take-le n (drop b xs) (let d = length-drop b xs in omega (arith, d, within)) in
      same_number_lists (window b n (put a k xs ys)) (window b n xs) (long_new ∙ sym long_old) (λ i h.
      let h : i < n = omega (arith, long_new, h) in
      let here : get_or (put a k xs ys) (b + i) 0 ≡ get_or xs (b + i) 0 = elim (cases_lt (b + i) a) [
        | inl before ↦ put_before (b + i) before
        | inr from ↦
            let at : b + i ≡ a + (b + i - a) = omega (arith, from) in
            let less : b + i - a < shared = omega (arith, from, h, upto) in
            ap (λ z. get_or (put a k xs ys) z 0) at ∙ put_inside (b + i - a) (omega (arith, less, few)) ∙ same (b + i - a) less ∙ ap (λ z. get_or xs z 0) (sym at)
      ] in
      get_or-take n (drop b (put a k xs ys)) i 0 h ∙ get_or-drop b (put a k xs ys) i 0 ∙ here
      ∙ sym (get_or-take n (drop b xs) i 0 h ∙ get_or-drop b xs i 0))

  -- states that are held
  pub put_held : (t : Table) → AllHeld t xs → AllHeld t ys → AllHeld t (put a k xs ys)
  put_held t old new = record {
    held = λ i h.
        let h : i < length xs = omega (arith, put_long, h) in
        elim (cases_lt i a) [
          | inl before ↦ subst (Holds t) (sym (put_before i before)) (old.held i h)
          | inr from ↦ elim (cases_lt i (a + k)) [
            | inl inside ↦
                let at : i ≡ a + (i - a) = omega (arith, from) in
                let less : i - a < k = omega (arith, from, inside) in
                subst (Holds t) (sym (ap (λ n. get_or (put a k xs ys) n 0) at ∙ put_inside (i - a) less)) (new.held (i - a) (omega (arith, less, long)))
            | inr behind ↦ subst (Holds t) (sym (put_elsewhere i (inr behind))) (old.held i h)
          ]
        ];
  }

pub window_long : (at n : ℕ) (xs : List ℕ) → at + n ≤ length xs → length (window at n xs) ≡ n
window_long at n xs fits = length-take-le n (drop at xs) (let d = length-drop at xs in omega (arith, d, fits))

pub part_long : (at n m : ℕ) (xs : List ℕ) → m ≡ n → at + n ≤ length xs → length (window at m xs) ≡ n
part_long at n m xs same fits = ap (λ k. length (window at k xs)) same ∙ window_long at n xs fits

-- an element of a window
pub window_at : (at n : ℕ) (xs : List ℕ) (i : ℕ) → i < n → get_or (window at n xs) i 0 ≡ get_or xs (at + i) 0
window_at at n xs i h = get_or-take n (drop at xs) i 0 h ∙ get_or-drop at xs i 0

-- a part of states that are held
pub part_held : (t : Table) (states : List ℕ) (a n : ℕ) → a + n ≤ length states → AllHeld t states → AllHeld t (window a n states)
part_held t states a n fits held = record {
  held = λ i h.
      let h : i < n = omega (arith, window_long a n states fits, h) in
      subst (Holds t) (sym (window_at a n states i h)) (held.held (a + i) (omega (arith, h, fits)));
}
