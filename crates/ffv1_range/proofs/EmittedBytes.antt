-- Intervals that are the same, and bytes with one more or one changed.
use Rattle.std.proofs.Common.{◌≡◌, refl, ℕ, suc, ◌+◌, ◌*◌, ◌<◌, List, [], ◌∷◌, ◌++◌, length, arith, ap, ◌∙◌, length-append, slice_set, get_or}
use Rattle.std.proofs.lemmas.Grind.{common_steps}
use Rattle.ffv1_range.specs.Interval.{Interval}
use Rattle.ffv1_range.specs.Codes.{value, AreBytes}
use Rattle.ffv1_range.proofs.Values.{value-push}

pub same_interval : (i j : Interval) → i.low ≡ j.low → i.width ≡ j.width → i.count ≡ j.count → i ≡ j
same_interval i j low width count =
    let f : ℕ → Interval = λ n. record { low = n; width = i.width; count = i.count } in
    let g : ℕ → Interval = λ n. record { low = j.low; width = n; count = i.count } in
    let h : ℕ → Interval = λ n. record { low = j.low; width = j.width; count = n } in
    ap f low ∙ ap g width ∙ ap h count

pub length-pushed : (xs : List ℕ) (b : ℕ) → length (xs ++ (b ∷ [])) ≡ suc (length xs)
length-pushed xs b = simp length-append (omega arith)

pub value-pushed : (xs : List ℕ) (b : ℕ) → value (xs ++ (b ∷ [])) (length (xs ++ (b ∷ []))) ≡ 256 * value xs (length xs) + b
value-pushed xs b = rw length-pushed (value-push xs b (length xs) refl)

pub bytes-pushed : (xs : List ℕ) (b : ℕ) → AreBytes xs → b < 256 → AreBytes (xs ++ (b ∷ []))
bytes-pushed xs b are small k =
    let old : get_or xs k 0 < 256 = are k in grind (arith, common_steps)

pub bytes-set : (xs : List ℕ) (j b : ℕ) → AreBytes xs → b < 256 → AreBytes (slice_set xs j b)
bytes-set xs j b are small k =
    let old : get_or xs k 0 < 256 = are k in grind (arith, common_steps)
