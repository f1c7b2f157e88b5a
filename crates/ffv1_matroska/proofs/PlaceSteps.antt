-- Every stride-th place of a list.
use Rattle.std.proofs.Common.{◌≡◌, ◌<◌, ◌+◌, ◌-◌, ◌*◌, ◌/◌, ◌%◌, ◌∙◌, ◌++◌, ℕ, suc, zero, List, [], ◌∷◌, length, get_or, refl, sym, ap, arith}
use Rattle.ffv1_matroska.specs.WrittenPlaces.{every_after}

-- how many are left out before the next one, after a list
unfoldable pub left_after : ℕ → ℕ → List ℕ → ℕ
left_after skipped stride [] = skipped
left_after zero stride (place ∷ places) = left_after (stride - 1) stride places
left_after (suc skipped) stride (place ∷ places) = left_after skipped stride places

-- how many there are
pub every_count : (k s : ℕ) (ps : List ℕ) → 0 < s → length ps + left_after k s ps ≡ k + s * length (every_after k s ps)
unfolding every_after left_after
every_count k s [] some = omega arith
every_count zero s (p ∷ ps) some = let more = every_count (s - 1) s ps some in grind (arith, more)
every_count (suc k) s (p ∷ ps) some = let more = every_count k s ps some in omega (arith, more)

pub left_below : (k s : ℕ) (ps : List ℕ) → 0 < s → k < s → left_after k s ps < s
unfolding left_after
left_below k s [] some h = h
left_below zero s (p ∷ ps) some h = left_below (s - 1) s ps some (omega arith)
left_below (suc k) s (p ∷ ps) some h = left_below k s ps some (omega arith)

-- one more place, which is one of them
pub every_next : (k s : ℕ) (ps : List ℕ) (p : ℕ) → left_after k s ps ≡ 0 → every_after k s (ps ++ p ∷ []) ≡ every_after k s ps ++ p ∷ []
unfolding every_after left_after
every_next k s [] p none = rw none refl
every_next zero s (q ∷ ps) p none = ap (λ z. q ∷ z) (every_next (s - 1) s ps p none)
every_next (suc k) s (q ∷ ps) p none = every_next k s ps p none

-- or which is not
pub every_other : (k s : ℕ) (ps : List ℕ) (p : ℕ) → 0 < left_after k s ps → every_after k s (ps ++ p ∷ []) ≡ every_after k s ps
unfolding every_after left_after
every_other zero s [] p some = absurd (omega arith)
every_other (suc k) s [] p some = refl
every_other zero s (q ∷ ps) p some = ap (λ z. q ∷ z) (every_other (s - 1) s ps p some)
every_other (suc k) s (q ∷ ps) p some = every_other k s ps p some

-- every second of them, from the first and from the second one on
pub record Halves (k s : ℕ) (ps : List ℕ) : Type 0 where
  pub first : every_after 0 2 (every_after k s ps) ≡ every_after k (2 * s) ps
  pub second : every_after 1 2 (every_after k s ps) ≡ every_after (k + s) (2 * s) ps

pub every_second : (k s : ℕ) (ps : List ℕ) → 0 < s → Halves k s ps
unfolding every_after
every_second k s [] some = record { first = refl; second = refl }
every_second zero s (p ∷ ps) some =
    let more = every_second (s - 1) s ps some in
    let round : s - 1 + s ≡ 2 * s - 1 = omega arith in
    let one : 0 + s ≡ suc (s - 1) = omega arith in
    record {
      first = ap (λ z. p ∷ z) (more.second ∙ ap (λ z. every_after z (2 * s) ps) round);
      second = more.first ∙ ap (λ z. every_after z (2 * s) (p ∷ ps)) (sym one);
    }
every_second (suc k) s (p ∷ ps) some =
    let more = every_second k s ps some in
    let one : suc k + s ≡ suc (k + s) = omega arith in
    record { first = more.first; second = more.second ∙ ap (λ z. every_after z (2 * s) (p ∷ ps)) (sym one) }

-- where they stand
pub record Seconds (xs : List ℕ) (k : ℕ) : Type 0 where
  pub first : get_or (every_after 0 2 xs) k 0 ≡ get_or xs (2 * k) 0
  pub second : get_or (every_after 1 2 xs) k 0 ≡ get_or xs (2 * k + 1) 0

pub seconds : (xs : List ℕ) (k : ℕ) → Seconds xs k
unfolding every_after
seconds [] k = record { first = refl; second = refl }
seconds (x ∷ xs) zero = record { first = refl; second = (seconds xs 0).first }
seconds (x ∷ xs) (suc k) =
    let one : 2 * suc k ≡ suc (2 * k + 1) = omega arith in
    let two : 2 * suc k + 1 ≡ suc (2 * suc k) = omega arith in
    record {
      first = (seconds xs k).second ∙ ap (λ z. get_or (x ∷ xs) z 0) (sym one);
      second = (seconds xs (suc k)).first ∙ ap (λ z. get_or (x ∷ xs) z 0) (sym two);
    }

-- how many every second are
pub seconds_count : (xs : List ℕ) → length (every_after 0 2 xs) ≡ length xs / 2 + length xs % 2
seconds_count xs =
    let count = every_count 0 2 xs (omega arith) in
    let left = left_below 0 2 xs (omega arith) (omega arith) in
    omega (arith, count, left)
