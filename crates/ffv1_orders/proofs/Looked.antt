-- Looks at several files, one after the other.
use Rattle.std.proofs.Common.{◌≡◌, ℕ, zero, suc, ◌+◌, ◌≤◌, ◌<◌, List, [], ◌∷◌, ◌++◌, Bor, Ok, Err, inr, refl, ap, ◌∙◌, sym, subst, length, take, drop, get_or, arith}
use Rattle.std.proofs.lemmas.List.{take_more, take-append-drop, map-append}
use Rattle.std.proofs.lemmas.List.Elements.{All-append}
use Rattle.std.specs.Prelude.{◌≢◌, All, IsOk}
use Rattle.ffv1_files.specs.declared.notes.Notes.{Notes}
use Rattle.ffv1_orders.specs.declared.refusal.Refusal.{Refusal}
use Rattle.ffv1_orders.specs.Looked.{Outcome, Look, Looked, ArePrinted, LooksAtEach, StopsAt, paths_of, status_of_each, unprinted}

-- one look more
looked_then : {L : Type 0} (looks : Look L) (s m t : L) (ps : List (List ℕ)) (os : List Outcome) (p : List ℕ) (o : Outcome)
    → Looked looks s ps os m → looks m p o t → Looked looks s (ps ++ p ∷ []) (os ++ o ∷ []) t
looked_then looks s m t [] [] p o h k = let P : _ → Type 0 = λ z. looks z p o t in (t, subst P h k, refl)
looked_then looks s m t [] (q ∷ os) p o h k = absurd h
looked_then looks s m t (q ∷ ps) [] p o h k = absurd h
looked_then looks s m t (q ∷ ps) (r ∷ os) p o h k = (h.0, h.1, looked_then looks h.0 m t ps os p o h.2 k)

all_one : {X : Type 0} (P : X → Type 0) (x : X) → P x → All P (x ∷ [])
all_one P x h zero d few = h
all_one P x h (suc k) d few = absurd (omega (arith, few))

-- one outcome more, which is not of a line that could not be printed
printed_then : (os : List Outcome) (o : Outcome) → ArePrinted os → o ≢ Err unprinted → ArePrinted (os ++ o ∷ [])
printed_then os o h k = All-append (λ z. z ≢ Err unprinted) os (o ∷ []) h (all_one (λ z. z ≢ Err unprinted) o k)

-- the exit status with one outcome more
status_then_done : (os : List Outcome) (u : Notes) → status_of_each (os ++ Ok u ∷ []) ≡ status_of_each os
status_then_done [] u = refl
status_then_done (Ok v ∷ os) u = status_then_done os u
status_then_done (Err r ∷ os) u = refl

status_then_refused : (os : List Outcome) (r : Refusal) → status_of_each (os ++ Err r ∷ []) ≡ 1
status_then_refused [] r = refl
status_then_refused (Ok v ∷ os) r = status_then_refused os r
status_then_refused (Err q ∷ os) r = refl

-- the exit status is 0 or 1
each_small : (os : List Outcome) → status_of_each os ≤ 1
each_small [] = omega arith
each_small (Ok v ∷ os) = each_small os
each_small (Err r ∷ os) = omega arith

-- the exit status with one outcome more, by what that one makes of it
status_then : (os : List Outcome) (o : Outcome) (before status : ℕ) → before ≡ status_of_each os
    → (IsOk o → status ≡ before) → ((r : Refusal) → o ≡ Err r → status ≡ 1) → status ≡ status_of_each (os ++ o ∷ [])
status_then os (Ok u) before status so_far done refused = done refl ∙ so_far ∙ sym (status_then_done os u)
status_then os (Err r) before status so_far done refused = refused r refl ∙ sym (status_then_refused os r)

-- what the looks at the first of several paths came to
pub record SoFar {L : Type 0} (looks : Look L) (s : L) (paths : List (Bor (List ℕ))) (i status : ℕ) (t : L) : Type 0 where
  pub outcomes : List Outcome
  pub looked : Looked looks s (paths_of (take i paths)) outcomes t
  pub printed : ArePrinted outcomes
  pub status_is : status ≡ status_of_each outcomes

-- before the first of them
pub none_yet : {L : Type 0} (looks : Look L) (s : L) (paths : List (Bor (List ℕ))) → SoFar looks s paths 0 0 s
none_yet looks s paths = record {
  outcomes = [];
  looked = refl;
  printed = λ k d few. absurd (omega (arith, few));
  status_is = refl;
}

-- the exit status is 0 or 1
pub status_small : {L : Type 0} (looks : Look L) {s t : L} {paths : List (Bor (List ℕ))} {i status : ℕ} → SoFar looks s paths i status t → status ≤ 1
status_small looks so_far = rw so_far.status_is (each_small so_far.outcomes)

module _ {L : Type 0} (looks : Look L) {s m t : L} {paths : List (Bor (List ℕ))} {i before : ℕ} (d : Bor (List ℕ)) (o : Outcome)
    (so_far : SoFar looks s paths i before m) (few : i < length paths) (look : looks m (get_or paths i d).now o t) where
  looked_next : Looked looks s (paths_of (take (i + 1) paths)) (so_far.outcomes ++ o ∷ []) t
  looked_next =
      let parts : paths_of (take (i + 1) paths) ≡ paths_of (take i paths) ++ (get_or paths i d).now ∷ [] =
      ap paths_of (take_more paths i d few) ∙ map-append (λ path. path.now) (take i paths) (get_or paths i d ∷ []) in
      let P : _ → Type 0 = λ z. Looked looks s z (so_far.outcomes ++ o ∷ []) t in
      subst P (sym parts) (looked_then looks s m t (paths_of (take i paths)) so_far.outcomes (get_or paths i d).now o so_far.looked look)

  -- a look ends a beginning of the paths
  pub stops_at : StopsAt looks s (paths_of paths) so_far.outcomes o t
  stops_at = record {
    before = paths_of (take (i + 1) paths);
    after = paths_of (drop (i + 1) paths);
    parts = ap paths_of (sym (take-append-drop (i + 1) paths)) ∙ map-append (λ path. path.now) (take (i + 1) paths) (drop (i + 1) paths);
    looked = looked_next;
    printed = so_far.printed;
  }

  -- one look more, by what it makes of the exit status
  pub looks_more : {status : ℕ} → (IsOk o → status ≡ before) → ((r : Refusal) → o ≡ Err r → status ≡ 1) → o ≢ Err unprinted → SoFar looks s paths (i + 1) status t
  looks_more done refused printed = record {
    outcomes = so_far.outcomes ++ o ∷ [];
    looked = looked_next;
    printed = printed_then so_far.outcomes o so_far.printed printed;
    status_is = status_then so_far.outcomes o before _ so_far.status_is done refused;
  }

  -- the last look, of a line that could not be printed
  pub looks_last : {status : ℕ} → ((r : Refusal) → o ≡ Err r → status ≡ 1) → o ≡ Err unprinted
      → (outcomes : List Outcome) × LooksAtEach looks s (paths_of paths) outcomes t × (status ≡ status_of_each outcomes)
  looks_last refused is = (
    so_far.outcomes ++ Err unprinted ∷ [],
    inr (so_far.outcomes, refl, subst (λ (z : Outcome). StopsAt looks s (paths_of paths) so_far.outcomes z t) is stops_at),
    refused unprinted is ∙ sym (status_then_refused so_far.outcomes unprinted),
  )
