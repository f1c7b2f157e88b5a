-- What comes of several files that are looked at.
use Rattle.std.specs.Prelude.{◌≡◌, ◌≢◌, ◌⊎◌, ◌++◌, ℕ, Bool, true, false, List, [], ◌∷◌, map}
use Rattle.std.specs.Prelude.{Result, Ok, Err, All}
use Rattle.std.specs.Borrow.{Bor}
use Rattle.ffv1_video.specs.declared.fault.Fault.TheVariants as fault
use Rattle.ffv1_files.specs.declared.notes.Notes.{Notes}
use Rattle.ffv1_orders.specs.Noted.{is_noted}
use Rattle.ffv1_orders.specs.declared.refusal.Refusal.{Refusal}
use Rattle.ffv1_orders.specs.declared.refusal.Refusal.TheVariants as refusal

-- the paths that are lent
abbrev pub paths_of : List (Bor (List ℕ)) → List (List ℕ)
paths_of paths = map (λ path. path.now) paths

-- what comes of a part of an order: it is done, and this is noted of a file that was read; or it is
-- refused
abbrev pub Outcome : Type 0
Outcome = Result Notes Refusal

-- what comes of printing: it is done, or refused
abbrev pub Printed : Type 0
Printed = Result (Unit {0}) Refusal

-- it is told on standard error: it is refused, or something is noted
abbrev pub IsTold : Outcome → Type 0
IsTold (Ok notes) = is_noted notes ≡ true
IsTold (Err r) = Unit {0}

-- a look: the looker before, the path, what came of it, and the looker after
abbrev pub Look : Type 0 → Type 1
Look L = L → List ℕ → Outcome → L → Type 0

-- a line of a path: the looker before, the path, whether it was printed, and the looker after
abbrev pub Naming : Type 0 → Type 1
Naming L = L → List ℕ → Bool → L → Type 0

-- the refusal if a line cannot be printed
abbrev pub unprinted : Refusal
unprinted = refusal.Fault fault.Write

-- a look after a line of the path, or the refusal of that line
abbrev pub LooksNamed : {L : Type 0} → Naming L → Look L → Look L
LooksNamed {L = L} names looks s p o t =
    ((m : L) × names s p true m × looks m p o t) ⊎ (names s p false t × (o ≡ Err unprinted))

-- the looker t is what s becomes by one look at each of these paths, in order, with these outcomes
abbrev pub Looked : {L : Type 0} → Look L → L → List (List ℕ) → List Outcome → L → Type 0
Looked looks s [] [] t = t ≡ s
Looked {L = L} looks s (p ∷ ps) (o ∷ os) t = (m : L) × looks s p o m × Looked looks m ps os t
Looked looks s [] (o ∷ os) t = ⊥
Looked looks s (p ∷ ps) [] t = ⊥

-- none of these looks was refused because a line could not be printed
abbrev pub ArePrinted : List Outcome → Type 0
ArePrinted outcomes = All (λ o. o ≢ Err unprinted) outcomes

-- a beginning of the paths was looked at, and of the last of these looks this came; no earlier one
-- was refused because a line could not be printed
pub record StopsAt {L : Type 0} (looks : Look L) (s : L) (paths : List (List ℕ))
    (earlier : List Outcome) (last : Outcome) (t : L) : Type 0 where
  pub before : List (List ℕ)
  pub after : List (List ℕ)
  pub parts : paths ≡ before ++ after
  pub looked : Looked looks s before (earlier ++ last ∷ []) t
  pub printed : ArePrinted earlier

-- all the paths were looked at, or those up to the first whose look was refused because a line
-- could not be printed
abbrev pub LooksAtEach : {L : Type 0} → Look L → L → List (List ℕ) → List Outcome → L → Type 0
LooksAtEach looks s paths outcomes t =
    (Looked looks s paths outcomes t × ArePrinted outcomes)
    ⊎ ((earlier : List Outcome) × (outcomes ≡ earlier ++ Err unprinted ∷ [])
    × StopsAt looks s paths earlier (Err unprinted) t)

-- the exit status of several files: 1 if any is refused, and else 0
abbrev pub status_of_each : List Outcome → ℕ
status_of_each [] = 0
status_of_each (Ok done ∷ outcomes) = status_of_each outcomes
status_of_each (Err r ∷ outcomes) = 1
