-- Rows of samples below the same rows.
use Rattle.std.proofs.Common.{slice_set, get_or-set_same, get_or-set_other, ◌≢◌}
use Rattle.std.proofs.Common.{◌≡◌, refl, sym, ◌∙◌, ap, ap₂, subst, ℕ, zero, suc, ◌+◌, ◌-◌, ◌^◌, ◌<◌}
use Rattle.std.proofs.Common.{◌≤◌}
use Rattle.std.proofs.Common.{◌⊎◌, Bool, List, [], ◌∷◌, ◌++◌, length, drop, get_or, slice_index}
use Rattle.std.proofs.Common.{inl, inr, arith, append_assoc, append-nil, length-append, pos}
use Rattle.std.proofs.lemmas.Bool.{cases_lt}
use Rattle.std.proofs.lemmas.Int.{ints}
use Rattle.ffv1_plane.specs.Quantisation.{Set}
use Rattle.ffv1_plane.specs.Context.{size_of, flip_of}
use Rattle.ffv1_plane.specs.declared.prediction.Around.{Around}
use Rattle.ffv1_plane.specs.Prediction.{predicted_in}
use Rattle.ffv1_plane.specs.Residual.{chosen_of, sample_of}
use Rattle.ffv1_plane.proofs.Folding.{chosen_suits, chosen_folded}
use Rattle.ffv1_line.specs.Beside.{beside}
use Rattle.ffv1_rice.specs.Row.{Place, place_at, places_of, AreFolded}
use Rattle.ffv1_rice.specs.Rows.{AgreeBelow, AreSamples}
use Rattle.ffv1_rice.proofs.Rows.{beside_same}
use Rattle.ffv1_rice.proofs.RowCodes.{place_of}
use Rattle.ffv1_rice.proofs.RowOutcomes.{AreBeside}
use Rattle.ffv1_rice.proofs.Scalars.{some_bits}

-- ---- samples below 2^depth

pub samples_fewer : (depth m n : ℕ) (row : List ℕ) → m ≤ n → AreSamples depth n row → AreSamples
    depth m row
samples_fewer depth m n row few small = record {
  each = λ k less. small.each k (omega (arith, few, less));
}

-- a row that begins alike, and has such samples from there on
pub samples_more : (depth x n : ℕ) (row other : List ℕ) → AreSamples depth x row → AgreeBelow x
    other row →
    ((k : ℕ) → x ≤ k → k < x + n → slice_index other k < 2 ^ depth) → AreSamples depth (x + n) other
samples_more depth x n row other small agree more = record {
  each = λ k less. elim (cases_lt k x) [
    | inl before ↦ let same = agree.each k before in rw same (small.each k before)
    | inr after ↦ more k after less
  ];
}

pub samples_next : (depth x : ℕ) (row other : List ℕ) → AreSamples depth x row → AgreeBelow x other
    row → slice_index other x < 2 ^ depth → AreSamples depth (x + 1) other
samples_next depth x row other small agree one =
    samples_more depth x 1 row other small agree (λ k least most.
    let at : k ≡ x = omega (arith, least, most) in rw at one)

pub samples_same : (depth x : ℕ) (row other : List ℕ) → AreSamples depth x row → AgreeBelow x other
    row → AreSamples depth x other
samples_same depth x row other small agree = record {
  each = λ k less. let same = agree.each k less in rw same (small.each k less);
}

-- one more is written
pub samples_set : (depth : ℕ) (row : List ℕ) (from x sample : ℕ) → x < length row →
    ((k : ℕ) → from ≤ k → k < x → slice_index row k < 2 ^ depth) → sample < 2 ^ depth →
    (k : ℕ) → from ≤ k → k < x + 1 → slice_index (slice_set row x sample) k < 2 ^ depth
samples_set depth row from x sample inside small one k least most = elim (cases_lt k x) [
  | inl less ↦
      let other : k ≢ x = omega (arith, less) in
      let same : slice_index (slice_set row x sample) k ≡ slice_index row k = get_or-set_other row x
      k sample 0 other in
      rw same (small k least less)
  | inr more ↦
      let at : k ≡ x = omega (arith, most, more) in
      let same : slice_index (slice_set row x sample) x ≡ sample = get_or-set_same row x sample 0
      inside in
      rw (at, same) one
]

-- ---- a difference makes one sample

pub same_sample : (depth : ℕ) (a : Around) (flip : Bool) (s t : ℕ) → (depth ≡ 8) ⊎ (depth ≡ 9) → s <
    2 ^ depth → t < 2 ^ depth →
    chosen_of depth (predicted_in depth a) flip s ≡ chosen_of depth (predicted_in depth a) flip t →
    s ≡ t
same_sample depth a flip s t depths small small' same =
    let p = predicted_in depth a in
    let some = some_bits depth depths in
    let few : depth < 32 = elim depths [
      | inl is ↦ omega (arith, is)
      | inr is ↦ omega (arith, is)
    ] in
    let one = (chosen_suits depth p flip s some few small).makes in
    let two = (chosen_suits depth p flip t some few small').makes in
    let both : pos s ≡ pos t = one ∙ ap (sample_of depth p flip) same ∙ sym two in
    omega (arith, ints, both)

-- ---- the places of a row

pub length-places_of : (set : Set) (depth : ℕ) (two one row : List ℕ) (n : ℕ) →
    length (places_of set depth two one row n) ≡ n
unfolding places_of
length-places_of set depth two one row zero = refl
length-places_of set depth two one row (suc n) =
    let long = length-places_of set depth two one row n in
    rw (length-append (places_of set depth two one row n) (place_at set depth two one row n ∷ []))
    (omega (arith, long))

last_one : (xs ys : List Place) (a b : Place) → length xs ≡ length ys → xs ++ (a ∷ []) ≡ ys ++
    (b ∷ []) → (xs ≡ ys) × (a ≡ b)
last_one [] [] a b long is = (refl, ap (λ l. get_or l 0 a) is)
last_one [] (q ∷ ys) a b long is = absurd (omega (arith, long))
last_one (p ∷ xs) [] a b long is = absurd (omega (arith, long))
last_one (p ∷ xs) (q ∷ ys) a b long is =
    let rest = last_one xs ys a b (omega (arith, long)) (ap (drop 1) is) in
    (ap₂ (λ x l. x ∷ l) (ap (λ l. get_or l 0 p) is) rest.0, rest.1)

-- the same places are of the same samples
pub samples_agree : (set : Set) (depth : ℕ) (two one row other : List ℕ) (n : ℕ) → (depth ≡ 8) ⊎
    (depth ≡ 9) → AreSamples depth n row → AreSamples depth n other →
    places_of set depth two one row n ≡ places_of set depth two one other n →
    AgreeBelow n row other
unfolding places_of
samples_agree set depth two one row other zero depths small small' is = record {
  each = λ k less. absurd (omega (arith, less));
}
samples_agree set depth two one row other (suc n) depths small small' is =
    let parts = last_one (places_of set depth two one row n) (places_of set depth two one other n)
    (place_at set depth two one row n) (place_at set depth two one other n)
    (length-places_of set depth two one row n ∙ sym (length-places_of set depth two one other n))
    is in
    let before = samples_agree set depth two one row other n depths
    (samples_fewer depth n (suc n) row (omega arith) small)
    (samples_fewer depth n (suc n) other (omega arith) small') parts.0 in
    let a = beside two one row n in
    let same = beside_same n two one row other n before (omega arith) in
    let difference : chosen_of depth (predicted_in depth a) (flip_of set a) (slice_index row n) ≡
    chosen_of depth (predicted_in depth a) (flip_of set a) (slice_index other n) =
    ap (λ p. p.difference) parts.1 ∙ ap (λ b. chosen_of depth (predicted_in depth b)
    (flip_of set b) (slice_index other n)) (sym same) in
    let here = same_sample depth a (flip_of set a) (slice_index row n) (slice_index other n) depths
    (small.each n (omega arith)) (small'.each n (omega arith)) difference in
    record {
      each = λ k less. elim (cases_lt k n) [
        | inl below ↦ before.each k below
        | inr above ↦ let at : k ≡ n = omega (arith, less, above) in rw at here
      ];
    }

folded_append : (depth : ℕ) (ps qs : List Place) → AreFolded depth ps → AreFolded depth qs →
    AreFolded depth (ps ++ qs)
folded_append depth [] qs folded more = more
folded_append depth (p ∷ ps) qs folded more = (
  folded.0,
  folded_append depth ps qs folded.1 more,
)

pub places_folded : (set : Set) (depth : ℕ) (two one row : List ℕ) (n : ℕ) → 0 < depth → AreFolded
    depth (places_of set depth two one row n)
unfolding places_of
places_folded set depth two one row zero some = tt
places_folded set depth two one row (suc n) some =
    let a = beside two one row n in
    folded_append depth (places_of set depth two one row n) (place_at set depth two one row n ∷ [])
    (places_folded set depth two one row n some) (
      chosen_folded depth (predicted_in depth a) (flip_of set a) (slice_index row n) some,
      tt,
    )

-- ---- two rows beside one another

beside_append : (ps qs xs ys : List Place) (a b c d : ℕ) → length ps ≡ length qs → AreBeside ps a qs
    b →
    (ps ≡ qs → a ≡ b → AreBeside xs c ys d) → AreBeside (ps ++ xs) c (qs ++ ys) d
beside_append [] [] xs ys a b c d long alike more = more refl alike
beside_append [] (q ∷ qs) xs ys a b c d long alike more = absurd (omega (arith, long))
beside_append (p ∷ ps) [] xs ys a b c d long alike more = absurd (omega (arith, long))
beside_append (p ∷ ps) (q ∷ qs) xs ys a b c d long alike more = (
  alike.0,
  λ same. beside_append ps qs xs ys a b c d (omega (arith, long)) (alike.1 same)
      (λ is last. more (ap₂ (λ x l. x ∷ l) (place_of p q alike.0 same) is) last),
)

beside_turned : (ps qs : List Place) (c d : ℕ) → AreBeside ps c qs d → AreBeside qs d ps c
beside_turned [] [] c d alike = sym alike
beside_turned [] (q ∷ qs) c d alike = sym alike
beside_turned (p ∷ ps) [] c d alike = sym alike
beside_turned (p ∷ ps) (q ∷ qs) c d alike = (
  sym alike.0,
  λ same. beside_turned ps qs c d (alike.1 (sym same)),
)

-- the context of a place of a row
abbrev pub context_at : Set → List ℕ → List ℕ → List ℕ → ℕ → ℕ
context_at set two one row x = size_of set (beside two one row x)

-- their first places
pub places_beside : (set : Set) (depth : ℕ) (two one row other : List ℕ) (n : ℕ) → (depth ≡ 8) ⊎
    (depth ≡ 9) → AreSamples depth n row → AreSamples depth n other →
    AreBeside (places_of set depth two one row n) (context_at set two one row n)
    (places_of set depth two one other n) (context_at set two one other n)
unfolding places_of
places_beside set depth two one row other zero depths small small' =
    ap (size_of set) (beside_same 0 two one row other 0 (record {
      each = λ k less. absurd (omega (arith, less));
    }) (omega arith))
places_beside set depth two one row other (suc n) depths small small' =
    let p = place_at set depth two one row n in
    let q = place_at set depth two one other n in
    let few = samples_fewer depth n (suc n) row (omega arith) small in
    let few' = samples_fewer depth n (suc n) other (omega arith) small' in
    beside_append (places_of set depth two one row n) (places_of set depth two one other n)
    (p ∷ []) (q ∷ []) (context_at set two one row n) (context_at set two one other n)
    (context_at set two one row (suc n)) (context_at set two one other (suc n))
    (length-places_of set depth two one row n ∙ sym (length-places_of set depth two one other n))
    (places_beside set depth two one row other n depths few few')
    (λ is same. (
      same,
      λ difference. ap (size_of set) (beside_same (suc n) two one row other (suc n)
          (samples_agree set depth two one row other (suc n) depths small small'
          (ap₂ (λ l x. l ++ (x ∷ [])) is (place_of p q same difference))) (omega arith)),
    ))

-- the places after some of them
record Further (set : Set) (depth : ℕ) (two one row : List ℕ) (x n : ℕ) : Type 0 where
  more : List Place
  is : places_of set depth two one row (x + suc n) ≡ places_of set depth two one row x ++
      (place_at set depth two one row x ∷ more)

further : (set : Set) (depth : ℕ) (two one row : List ℕ) (x n : ℕ) → Further set depth two one row x
    n
unfolding places_of
further set depth two one row x zero =
    let next : x + 1 ≡ suc x = omega arith in
    record { more = []; is = ap (places_of set depth two one row) next }
further set depth two one row x (suc n) =
    let before = further set depth two one row x n in
    let last = place_at set depth two one row (x + suc n) in
    let next : x + suc (suc n) ≡ suc (x + suc n) = omega arith in
    record {
      more = before.more ++ (last ∷ []);
      is = ap (places_of set depth two one row) next ∙ ap (λ l. l ++ (last ∷ [])) before.is
          ∙ append_assoc (places_of set depth two one row x) (place_at set depth two one row x ∷
          before.more) (last ∷ []);
    }

fewer_beside : (set : Set) (depth : ℕ) (two one row other : List ℕ) (x n d : ℕ) → (depth ≡ 8) ⊎
    (depth ≡ 9) → AreSamples depth x row → AreSamples depth x other →
    AreBeside (places_of set depth two one row x) (context_at set two one row x)
    (places_of set depth two one other (x + suc n)) d
fewer_beside set depth two one row other x n d depths small small' =
    let P = places_of set depth two one row x in
    let Q = places_of set depth two one other x in
    let q = place_at set depth two one other x in
    let far = further set depth two one other x n in
    subst (λ ps. AreBeside ps (context_at set two one row x) (places_of set depth two one other
    (x + suc n)) d) (append-nil P)
    (subst (λ qs. AreBeside (P ++ []) (context_at set two one row x) qs d) (sym far.is)
    (beside_append P Q [] (q ∷ far.more) (context_at set two one row x)
    (context_at set two one other x) (context_at set two one row x) d
    (length-places_of set depth two one row x ∙ sym (length-places_of set depth two one other x))
    (places_beside set depth two one row other x depths small small') (λ is same. same)))

-- two rows that are read so far, and the contexts of their next places
pub rows_beside : (set : Set) (depth : ℕ) (two one row other : List ℕ) (x y : ℕ) → (depth ≡ 8) ⊎
    (depth ≡ 9) → AreSamples depth x row → AreSamples depth y other →
    AreBeside (places_of set depth two one row x) (context_at set two one row x)
    (places_of set depth two one other y) (context_at set two one other y)
rows_beside set depth two one row other x y depths small small' = elim (cases_lt x y) [
  | inl less ↦
      let far : x + suc (y - suc x) ≡ y = omega (arith, less) in
      subst (λ n. AreBeside (places_of set depth two one row x) (context_at set two one row x)
      (places_of set depth two one other n) (context_at set two one other y)) far
      (fewer_beside set depth two one row other x (y - suc x) (context_at set two one other y)
      depths small (samples_fewer depth x y other (omega (arith, less)) small'))
  | inr more ↦ elim (cases_lt y x) [
    | inl less ↦
        let far : y + suc (x - suc y) ≡ x = omega (arith, less) in
        subst (λ n. AreBeside (places_of set depth two one row n) (context_at set two one row x)
        (places_of set depth two one other y) (context_at set two one other y)) far
        (beside_turned (places_of set depth two one other y)
        (places_of set depth two one row (y + suc (x - suc y))) (context_at set two one other y)
        (context_at set two one row x)
        (fewer_beside set depth two one other row y (x - suc y) (context_at set two one row x)
        depths small' (samples_fewer depth y x row (omega (arith, less)) small)))
    | inr less ↦
        let same : x ≡ y = omega (arith, more, less) in
        subst (λ n. AreBeside (places_of set depth two one row x) (context_at set two one row x)
        (places_of set depth two one other n) (context_at set two one other n)) same
        (places_beside set depth two one row other x depths small (rw same small'))
  ]
]
