-- A list of events, gone through in order by a step relation, up to its end or to the first fault.
use Rattle.std.specs.Prelude.{◌≡◌, ◌⊎◌, List, [], ◌∷◌}

-- from a state, by an event, to the next state
abbrev pub Steps : Type 0 → Type 0 → Type 1
Steps S E = S → E → S → Type 0

-- at a state, an event is refused with a fault, which leaves the next state
abbrev pub Faults : Type 0 → Type 0 → Type 0 → Type 1
Faults S E F = S → E → F → S → Type 0

-- each event made its step
abbrev pub Runs : {S E : Type 0} → Steps S E → S → List E → S → Type 0
Runs step s [] t = t ≡ s
Runs {S = S} step s (e ∷ es) t = (m : S) × step s e m × Runs step m es t

-- events made their steps up to the first that is refused
abbrev pub Stops :
    {S E F : Type 0} → Steps S E → Faults S E F → S → List E → F → S → Type 0
Stops step fault s [] f t = ⊥
Stops {S = S} step fault s (e ∷ es) f t =
    fault s e f t ⊎ ((m : S) × step s e m × Stops step fault m es f t)
