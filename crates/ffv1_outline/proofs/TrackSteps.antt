-- Steps through what lists the tracks.
use Rattle.std.proofs.Common.{◌≡◌, ◌<◌, ◌≤◌, ◌+◌, ◌∙◌, ℕ, zero, suc, List, [], ◌++◌, Option, Some, None}
use Rattle.std.proofs.Common.{length, refl, ap, append_assoc, arith}
use Rattle.ffv1_outline.specs.Tracks.{Step, entries, entry_there, number_behind, tracks_on, tracks_up_to, with_track}

-- at the end no tracks are left
pub steps_end : (step : List ℕ → Option Step) (entry_of : ℕ → List ℕ → List ℕ) (n number : ℕ) (xs : List ℕ) → step xs ≡ None → entries entry_of number (tracks_up_to step n xs) ≡ []
unfolding entries tracks_up_to
steps_end step entry_of zero number xs is = refl
steps_end step entry_of (suc n) number xs is = ap (λ z. entries entry_of number (tracks_on (tracks_up_to step n) z)) is

-- a track, if one stands there, and those after it
there : (entry_of : ℕ → List ℕ → List ℕ) (number : ℕ) (track : Option (List ℕ)) (tracks : List (List ℕ)) → entries entry_of number (with_track track tracks) ≡ entry_there (entry_of number) track ++ entries entry_of (number_behind number track) tracks
unfolding entries
there entry_of number None tracks = refl
there entry_of number (Some track) tracks = refl

pub steps_on : (step : List ℕ → Option Step) (entry_of : ℕ → List ℕ → List ℕ) (n number : ℕ) (xs : List ℕ) (s : Step) → length xs ≤ n → step xs ≡ Some s → length s.rest < length xs → (m : ℕ) × (length s.rest ≤ m) × (entries entry_of number (tracks_up_to step n xs) ≡ entry_there (entry_of number) s.track ++ entries entry_of (number_behind number s.track) (tracks_up_to step m s.rest))
unfolding tracks_up_to
steps_on step entry_of zero number xs s few is less = absurd (omega (arith, few, less))
steps_on step entry_of (suc n) number xs s few is less =
    (n, omega (arith, few, less), ap (λ z. entries entry_of number (tracks_on (tracks_up_to step n) z)) is ∙ there entry_of number s.track (tracks_up_to step n s.rest))

-- the number of the next track
pub next_number : (n : ℕ) (track : Option (List ℕ)) → number_behind n track ≤ n + 1
next_number n None = omega arith
next_number n (Some track) = omega arith

-- what was appended, and what comes after it
pub joined : (text more old rest all : List ℕ) → text ≡ old ++ more → all ≡ more ++ rest → text ++ rest ≡ old ++ all
joined text more old rest all grown parts = rw (grown, parts) (append_assoc old more rest)
