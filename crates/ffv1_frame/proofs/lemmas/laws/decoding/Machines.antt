-- Events in a row: runs that are joined and parted, and that there is one end at most, if each
-- event is of some kind.
use Rattle.std.proofs.Common.{ap, ◌≡◌, ◌⊎◌, refl, ℕ, zero, suc, ◌+◌, ◌<◌, ◌≤◌, List, [], ◌∷◌, ◌++◌, map, inl, inr, sym, subst, ◌∙◌, arith}
use Rattle.std.specs.List.{flat_map, range_with_len}
use Rattle.ffv1_frame.specs.Runs.{Steps, Faults, Runs, Stops}

-- each of some elements is of a kind
abbrev pub Each : {E : Type 0} → (E → Type 0) → List E → Type 0
Each P [] = Unit {0}
Each P (e ∷ es) = P e × Each P es

pub each_append : {E : Type 0} (P : E → Type 0) (xs ys : List E) → Each P xs → Each P ys → Each P (xs ++ ys)
each_append P [] ys f g = g
each_append P (x ∷ xs) ys f g = (f.0, each_append P xs ys f.1 g)

pub each_range : {E : Type 0} (P : E → Type 0) (f : ℕ → List E) (from count : ℕ) →
    ((k : ℕ) → from ≤ k → k < from + count → Each P (f k)) → Each P (flat_map f (range_with_len from count))
each_range P f from zero all = tt
each_range P f from (suc count) all =
    each_append P (f from) (flat_map f (range_with_len (from + 1) count)) (all from (omega arith) (omega arith))
    (each_range P f (from + 1) count (λ k least most. all k (omega (arith, least)) (omega (arith, most))))

pub each_map_range : {E : Type 0} (P : E → Type 0) (f : ℕ → E) (from count : ℕ) →
    ((k : ℕ) → from ≤ k → k < from + count → P (f k)) → Each P (map f (range_with_len from count))
each_map_range P f from zero all = tt
each_map_range P f from (suc count) all =
    (all from (omega arith) (omega arith), each_map_range P f (from + 1) count (λ k least most. all k (omega (arith, least)) (omega (arith, most))))

pub each_numbers : (P : ℕ → Type 0) (from count : ℕ) → ((k : ℕ) → from ≤ k → k < from + count → P k) → Each P (range_with_len from count)
each_numbers P from zero all = tt
each_numbers P from (suc count) all =
    (all from (omega arith) (omega arith), each_numbers P (from + 1) count (λ k least most. all k (omega (arith, least)) (omega (arith, most))))

pub each_flat : {A E : Type 0} (P : E → Type 0) (Q : A → Type 0) (f : A → List E) (xs : List A) →
    Each Q xs → ((x : A) → Q x → Each P (f x)) → Each P (flat_map f xs)
each_flat P Q f [] are all = tt
each_flat P Q f (x ∷ xs) are all = each_append P (f x) (flat_map f xs) (all x are.0) (each_flat P Q f xs are.1 all)

pub each_map : {A E : Type 0} (P : E → Type 0) (f : A → E) (xs : List A) → ((x : A) → P (f x)) → Each P (map f xs)
each_map P f [] all = tt
each_map P f (x ∷ xs) all = (all x, each_map P f xs all)

pub each_left : {E : Type 0} (P : E → Type 0) (xs ys : List E) → Each P (xs ++ ys) → Each P xs
each_left P [] ys all = tt
each_left P (x ∷ xs) ys all = (all.0, each_left P xs ys all.1)

pub each_right : {E : Type 0} (P : E → Type 0) (xs ys : List E) → Each P (xs ++ ys) → Each P ys
each_right P [] ys all = all
each_right P (x ∷ xs) ys all = each_right P xs ys all.1

pub each_both : {E : Type 0} (P Q : E → Type 0) (xs : List E) → Each P xs → ((x : E) → P x → Q x) → Each Q xs
each_both P Q [] all step = tt
each_both P Q (x ∷ xs) all step = (step x all.0, each_both P Q xs all.1 step)

module _ {S E : Type 0} (step : Steps S E) where
  pub runs_append : (s m t : S) (xs ys : List E) → Runs step s xs m → Runs step m ys t → Runs step s (xs ++ ys) t
  runs_append s m t [] ys f g = subst (λ z. Runs step z ys t) f g
  runs_append s m t (x ∷ xs) ys f g = (f.0, f.1, runs_append f.0 m t xs ys f.2 g)

  pub runs_split : (s t : S) (xs ys : List E) → Runs step s (xs ++ ys) t → (m : S) × Runs step s xs m × Runs step m ys t
  runs_split s t [] ys f = (s, refl, f)
  runs_split s t (x ∷ xs) ys f = let r = runs_split f.0 t xs ys f.2 in (r.0, (f.0, f.1, r.1), r.2)

module _ {S E F : Type 0} (step : Steps S E) (fault : Faults S E F) (Kind : E → Type 0) where
  -- at each state an event of the kind makes one step at most, or is refused in one way
  pub record OneEach : Type 0 where
    pub step_same : (s a b : S) (e : E) → Kind e → step s e a → step s e b → a ≡ b
    pub apart : (s a b : S) (e : E) (f : F) → Kind e → step s e a → fault s e f b → ⊥
    pub fault_same : (s a b : S) (e : E) (f g : F) → Kind e → fault s e f a → fault s e g b → (f ≡ g) × (a ≡ b)

  module _ (one : OneEach) where
    pub runs_same : (s t u : S) (es : List E) → Each Kind es → Runs step s es t → Runs step s es u → t ≡ u
    runs_same s t u [] all f g = f ∙ sym g
    runs_same s t u (e ∷ es) all f g =
        let same = one.step_same s f.0 g.0 e all.0 f.1 g.1 in
        runs_same g.0 t u es all.1 (subst (λ m. Runs step m es t) same f.2) g.2

    pub runs_or_stops : (s t u : S) (f : F) (es : List E) → Each Kind es → Runs step s es t → Stops step fault s es f u → ⊥
    runs_or_stops s t u f [] all r h = h
    runs_or_stops s t u f (e ∷ es) all r h = elim h [
      | inl now ↦ one.apart s r.0 u e f all.0 r.1 now
      | inr later ↦
          let same = one.step_same s r.0 later.0 e all.0 r.1 later.1 in
          runs_or_stops later.0 t u f es all.1 (subst (λ m. Runs step m es t) same r.2) later.2
    ]

    pub stops_same : (s t u : S) (f g : F) (es : List E) → Each Kind es → Stops step fault s es f t → Stops step fault s es g u → (f ≡ g) × (t ≡ u)
    stops_same s t u f g [] all h k = absurd h
    stops_same s t u f g (e ∷ es) all h k = elim h [
      | inl now ↦ elim k [
        | inl other ↦ one.fault_same s t u e f g all.0 now other
        | inr later ↦ absurd (one.apart s later.0 t e f all.0 later.1 now)
      ]
      | inr later ↦ elim k [
        | inl now ↦ absurd (one.apart s later.0 u e g all.0 later.1 now)
        | inr other ↦
            let same = one.step_same s later.0 other.0 e all.0 later.1 other.1 in
            stops_same other.0 t u f g es all.1 (subst (λ m. Stops step fault m es f t) same later.2) other.2
      ]
    ]

module _ {S E F : Type 0} (step : Steps S E) (fault : Faults S E F) where
  -- a state that a beginning of the events reaches, or the first that is refused
  abbrev pub Reaches : S → List E → S → Type 0
  Reaches s [] t = t ≡ s
  Reaches s (e ∷ es) t = (t ≡ s) ⊎ ((f : F) × fault s e f t) ⊎ ((m : S) × step s e m × Reaches m es t)

  pub reaches_here : (s t : S) (es : List E) → t ≡ s → Reaches s es t
  reaches_here s t [] f = f
  reaches_here s t (e ∷ es) f = inl f

  pub reaches_before : (s t : S) (xs ys : List E) → Runs step s xs t → Reaches s (xs ++ ys) t
  reaches_before s t [] ys f = reaches_here s t ys f
  reaches_before s t (x ∷ xs) ys f = inr (inr (f.0, f.1, reaches_before f.0 t xs ys f.2))

  pub reaches_end : (s t : S) (es : List E) → Runs step s es t → Reaches s es t
  reaches_end s t [] f = f
  reaches_end s t (e ∷ es) f = inr (inr (f.0, f.1, reaches_end f.0 t es f.2))

  pub reaches_stop : (s t : S) (f : F) (es : List E) → Stops step fault s es f t → Reaches s es t
  reaches_stop s t f [] h = absurd h
  reaches_stop s t f (e ∷ es) h = elim h [
    | inl now ↦ inr (inl (f, now))
    | inr later ↦ inr (inr (later.0, later.1, reaches_stop later.0 t f es later.2))
  ]

  pub reaches_split : (s t : S) (xs ys : List E) → Reaches s (xs ++ ys) t → Reaches s xs t ⊎ ((m : S) × Runs step s xs m × Reaches m ys t)
  reaches_split s t [] ys h = inr (s, refl, h)
  reaches_split s t (x ∷ xs) ys h = elim h [
    | inl here ↦ inl (inl here)
    | inr more ↦ elim more [
      | inl refused ↦ inl (inr (inl refused))
      | inr later ↦ elim (reaches_split later.0 t xs ys later.2) [
        | inl sooner ↦ inl (inr (inr (later.0, later.1, sooner)))
        | inr rest ↦ inr (rest.0, (later.0, later.1, rest.1), rest.2)
      ]
    ]
  ]

-- events up to the first that is refused
pub record StopsAt {S E F : Type 0} (step : Steps S E) (fault : Faults S E F) (s : S) (es : List E) (f : F) (t : S) : Type 0 where
  pub before : List E
  pub event : E
  pub after : List E
  pub state : S
  pub parts : es ≡ before ++ (event ∷ after)
  pub runs : Runs step s before state
  pub refused : fault state event f t

module _ {S E F : Type 0} (step : Steps S E) (fault : Faults S E F) where
  pub stops_at : (s t : S) (f : F) (es : List E) → Stops step fault s es f t → StopsAt step fault s es f t
  stops_at s t f [] h = absurd h
  stops_at s t f (e ∷ es) h = elim h [
    | inl now ↦ record { before = []; event = e; after = es; state = s; parts = refl; runs = refl; refused = now }
    | inr later ↦
        let rest = stops_at later.0 t f es later.2 in
        record {
          before = e ∷ rest.before;
          event = rest.event;
          after = rest.after;
          state = rest.state;
          parts = ap (λ z. e ∷ z) rest.parts;
          runs = (later.0, later.1, rest.runs);
          refused = rest.refused;
        }
  ]
