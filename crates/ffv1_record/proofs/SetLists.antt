-- Lists of sets, one set more at a time.
use Rattle.std.proofs.Common.{◌≡◌, ℕ, zero, suc, ◌+◌, ◌<◌, max, List, [], ◌∷◌, ◌++◌, length, take, get_or, ap, arith, ◌∙◌, add-one, refl}
use Rattle.ffv1_plane.specs.Quantisation.{Set, IsSet, contexts_of}
use Rattle.ffv1_record.specs.Sets.{AreSets, most_contexts}

pub sets_more : (ss : List Set) (s : Set) → AreSets ss → IsSet s → AreSets (ss ++ (s ∷ []))
sets_more [] s are is = (is, tt)
sets_more (x ∷ ss) s are is = (are.0, sets_more ss s are.1 is)

max_zero : (n : ℕ) → max n 0 ≡ max 0 n
max_zero n = omega arith

max_assoc : (a b c : ℕ) → max a (max b c) ≡ max (max a b) c
max_assoc a b c = omega arith

pub most_more : (ss : List Set) (i : ℕ) → i < length ss → most_contexts (take (suc i) ss) ≡ max (most_contexts (take i ss)) (contexts_of (get_or ss i []))
most_more [] i h = absurd (omega arith)
most_more (s ∷ ss) zero h = max_zero (contexts_of s)
most_more (s ∷ ss) (suc i) h =
    let below : i < length ss = omega arith in
    ap (λ m. max (contexts_of s) m) (most_more ss i below) ∙ max_assoc (contexts_of s) (most_contexts (take i ss)) (contexts_of (get_or ss i []))

pub most_more_of : (ss : List Set) (i contexts most : ℕ) → i < length ss → contexts ≡ contexts_of (get_or ss i []) → most ≡ most_contexts (take i ss) → max most contexts ≡ most_contexts (take (i + 1) ss)
most_more_of ss i contexts most inside here before = rw (add-one i, most_more ss i inside, ← here, ← before) refl
