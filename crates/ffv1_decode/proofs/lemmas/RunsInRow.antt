-- Runs of events one after the other.
use Rattle.std.proofs.Common.{refl, List, [], ◌∷◌, ◌++◌, inl, inr, subst}
use Rattle.ffv1_frame.specs.Runs.{Steps, Faults, Runs, Stops}

module _ {S E : Type 0} (step : Steps S E) where
  pub runs_append : (s m t : S) (xs ys : List E) → Runs step s xs m → Runs step m ys t → Runs step s (xs ++ ys) t
  runs_append s m t [] ys f g = subst (λ z. Runs step z ys t) f g
  runs_append s m t (x ∷ xs) ys f g = (f.0, f.1, runs_append f.0 m t xs ys f.2 g)

  pub runs_one : (s t : S) (e : E) → step s e t → Runs step s (e ∷ []) t
  runs_one s t e f = (t, f, refl)

module _ {S E F : Type 0} (step : Steps S E) (fault : Faults S E F) where
  pub stops_later : (s m t : S) (f : F) (xs ys : List E) → Runs step s xs m → Stops step fault m ys f t → Stops step fault s (xs ++ ys) f t
  stops_later s m t f [] ys r h = subst (λ z. Stops step fault z ys f t) r h
  stops_later s m t f (x ∷ xs) ys r h = inr (r.0, r.1, stops_later r.0 m t f xs ys r.2 h)

  pub stops_sooner : (s t : S) (f : F) (xs ys : List E) → Stops step fault s xs f t → Stops step fault s (xs ++ ys) f t
  stops_sooner s t f [] ys h = absurd h
  stops_sooner s t f (x ∷ xs) ys h = elim h [ inl now ↦ inl now | inr later ↦ inr (later.0, later.1, stops_sooner later.0 t f xs ys later.2) ]
