-- Tallies of slices are added up.
use Rattle.std.proofs.Common.{◌≡◌, refl, ℕ, suc, ◌+◌, ◌*◌, ◌<◌, ◌≤◌, List, [], ◌∷◌, ◌++◌, length, take, replicate, ap, sym, ◌∙◌, arith, append_assoc}
use Rattle.std.specs.List.{sum_by}
use Rattle.std.proofs.lemmas.List.Sums.{sum_by-append, sum_by-cons}
use Rattle.std.proofs.lemmas.List.Folds.{sum_by-replicate}
use Rattle.std.proofs.lemmas.List.{take_all}
use Rattle.std.proofs.Math.Seq.{take-suc}
use Rattle.ffv1_range.specs.declared.tally.Tally.{Tally}
use Rattle.ffv1_range.specs.Table.{Table}
use Rattle.ffv1_range.specs.Symbols.{Step}
use Rattle.ffv1_range.specs.Counts.{saturated, ones_in, zeros_in}
use Rattle.ffv1_decode.specs.declared.column.Column.{Column}
use Rattle.ffv1_frame.specs.Decoding.{State, Slice, unread, slice_at}
use Rattle.ffv1_frame.specs.Answer.{HasDecided, renormalisations_in, slices_in, decided_by}
use Rattle.ffv1_decode.specs.Internal.Stands.{told_by, tally_after}
use Rattle.ffv1_decode.specs.Internal.Tied.{AreTold, column_at}
use Rattle.ffv1_decode.specs.Internal.Tallies.{tally_over, both}

sum_both : (x y : ℕ) → saturated (saturated x + saturated y) ≡ saturated (x + y)
sum_both x y = omega arith

abbrev pub tally : ℕ → ℕ → ℕ → Tally
tally a b c = record { ones = a; zeros = b; renormalisations = c }

same_tally : (a b c d e f : ℕ) → a ≡ d → b ≡ e → c ≡ f → tally a b c ≡ tally d e f
same_tally a b c d e f x y z = ap (λ n. tally n b c) x ∙ ap (λ n. tally d n c) y ∙ ap (tally d e) z

one_more : {X : Type 0} (f : X → ℕ) (xs : List X) (q : X) → sum_by f (xs ++ (q ∷ [])) ≡ sum_by f xs + f q
one_more f xs q =
    let last = sum_by-cons f q [] in
    let all = sum_by-append f xs (q ∷ []) in
    omega (arith, last, all)

pub tally_more : (t : Table) (xs : List Slice) (q : Slice) → tally_over t (xs ++ (q ∷ [])) ≡ both (tally_over t xs) (tally_after t q.past)
tally_more t xs q =
    let f : (Slice → ℕ) → ℕ = λ g. saturated (sum_by g (xs ++ (q ∷ []))) in
    let step : (g : Slice → ℕ) → saturated (sum_by g (xs ++ (q ∷ []))) ≡ saturated (saturated (sum_by g xs) + saturated (g q)) =
    λ g. ap saturated (one_more g xs q) ∙ sym (sum_both (sum_by g xs) (g q)) in
    same_tally _ _ _ _ _ _ (step (λ (z : Slice). ones_in z.past)) (step (λ (z : Slice). zeros_in z.past)) (step (renormalisations_in t))

split_sum : ((steps : List Step) → ones_in steps + zeros_in steps ≡ length steps) → (qs : List Slice) → sum_by (λ (q : Slice). ones_in q.past) qs + sum_by (λ (q : Slice). zeros_in q.past) qs ≡ sum_by (λ (q : Slice). length q.past) qs
split_sum counts [] = refl
split_sum counts (q ∷ qs) =
    let rest = split_sum counts qs in
    let a = sum_by-cons (λ (q : Slice). ones_in q.past) q qs in
    let b = sum_by-cons (λ (q : Slice). zeros_in q.past) q qs in
    let c = sum_by-cons (λ (q : Slice). length q.past) q qs in
    let one = counts q.past in
    omega (arith, rest, a, b, c, one)

pub decided_is : ((steps : List Step) → ones_in steps + zeros_in steps ≡ length steps) → (t : Table) (s : State) (u : Tally) → u ≡ tally_over t (slices_in s) → HasDecided t s u
decided_is counts t s u is = record {
  by_kind = is;
  in_all = ap decided_by is ∙ sum_both (sum_by (λ (q : Slice). ones_in q.past) (slices_in s)) (sum_by (λ (q : Slice). zeros_in q.past) (slices_in s)) ∙ ap saturated (split_sum counts (slices_in s));
}

-- slices of which nothing was decided
pub tally_unread : (t : Table) (xs : List Slice) (n : ℕ) → tally_over t (xs ++ replicate n unread) ≡ tally_over t xs
tally_unread t xs n =
    let step : (g : Slice → ℕ) → g unread ≡ 0 → saturated (sum_by g (xs ++ replicate n unread)) ≡ saturated (sum_by g xs) =
    λ g none.
    let all = sum_by-append g xs (replicate n unread) in
    let rest = sum_by-replicate g n unread in
    let zero_is : n * g unread ≡ 0 = ap (λ k. n * k) none ∙ (let m : n * 0 ≡ 0 = omega arith in m) in
    ap saturated (omega (arith, all, rest, zero_is)) in
    same_tally _ _ _ _ _ _ (step (λ (z : Slice). ones_in z.past) refl) (step (λ (z : Slice). zeros_in z.past) refl) (step (renormalisations_in t) refl)

module _ (t : Table) (columns : List Column) (s : State) (told : AreTold t columns s) where
  abbrev upto : ℕ → Tally
  upto k = tally_over t (s.done ++ take k s.columns)

  pub upto_more : (k : ℕ) → k < length columns → upto (suc k) ≡ both (upto k) (told_by (column_at columns k).parked)
  upto_more k h =
      let inside : k < length s.columns = omega (arith, h, told.long) in
      let more : s.done ++ take (suc k) s.columns ≡ (s.done ++ take k s.columns) ++ (slice_at s k ∷ []) =
      ap (λ z. s.done ++ z) (take-suc s.columns k unread inside) ∙ sym (append_assoc s.done (take k s.columns) (slice_at s k ∷ [])) in
      ap (tally_over t) more ∙ tally_more t (s.done ++ take k s.columns) (slice_at s k) ∙ ap (both (upto k)) (sym (told.each k h))

  pub upto_all : (k : ℕ) → k ≡ length columns → upto k ≡ tally_over t (slices_in s)
  upto_all k is = let over : length s.columns ≤ k = omega (arith, is, told.long) in ap (λ z. tally_over t (s.done ++ z)) (take_all k s.columns over)
