-- Planes and sets of a list by their numbers.
use Rattle.std.proofs.Common.{◌≡◌, refl, ℕ, ◌<◌, ◌≤◌, Option, Some, None, List, [], get_or, slice_get, length, ◌∙◌, arith, ◌≢◌, slice_set, sym, get_or-set_same, get_or-set_other}
use Rattle.std.proofs.Common.{zero, suc, ◌∷◌}
use Rattle.std.specs.Prelude.{unwrap_or}
use Rattle.std.proofs.lemmas.Option.{unwrap_or-slice_get}
use Rattle.ffv1_plane.specs.Quantisation.{Set, contexts_of}
use Rattle.ffv1_record.specs.Sets.{most_contexts}
use Rattle.ffv1_frame.specs.Picture.{Planes, samples_in, plane}
use Rattle.ffv1_frame.specs.SliceList.{set_or_none, set_at}

samples_or : (o : Option (List ℕ)) → samples_in o ≡ unwrap_or o []
samples_or None = refl
samples_or (Some xs) = refl

pub plane_is : (planes : Planes) (p : ℕ) → plane planes p ≡ get_or planes p []
plane_is planes p = samples_or (slice_get planes p) ∙ unwrap_or-slice_get planes p []

set_or : (o : Option Set) → set_or_none o ≡ unwrap_or o []
set_or None = refl
set_or (Some s) = refl

pub set_is : (sets : List Set) (k : ℕ) → set_at sets k ≡ get_or sets k []
set_is sets k = set_or (slice_get sets k) ∙ unwrap_or-slice_get sets k []

-- no set has more contexts than the largest
pub few_contexts : (sets : List Set) (k : ℕ) → k < length sets → contexts_of (get_or sets k []) ≤ most_contexts sets
few_contexts [] k h = absurd (omega (arith, h))
few_contexts (s ∷ ss) zero h = omega arith
few_contexts (s ∷ ss) (suc k) h = let rest = few_contexts ss k (omega (arith, h)) in omega (arith, rest)

pub plane_now : (planes : Planes) (p : ℕ) (xs : List ℕ) → p < length planes → plane (slice_set planes p xs) p ≡ xs
plane_now planes p xs h = plane_is (slice_set planes p xs) p ∙ get_or-set_same planes p xs [] h

pub plane_other : (planes : Planes) (p q : ℕ) (xs : List ℕ) → q ≢ p → plane (slice_set planes p xs) q ≡ plane planes q
plane_other planes p q xs other = plane_is (slice_set planes p xs) q ∙ get_or-set_other planes p q xs [] other ∙ sym (plane_is planes q)
