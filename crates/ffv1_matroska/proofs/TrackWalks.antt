-- The elements of Tracks, one after the other.
use Rattle.std.proofs.Common.{◌≡◌, ℕ, suc, zero, ◌≤◌, ◌<◌, Some, None, Result, Ok, Err, List, [], ◌∷◌, length, arith, refl, ◌∙◌}
use Rattle.ffv1_reads.specs.declared.fault.FileFault.{FileFault}
use Rattle.ffv1_reads.specs.declared.fault.FileFault.TheVariants as fault
use Rattle.ffv1_ebml.specs.Contents.{Part, content_told, first_part}
use Rattle.ffv1_matroska.specs.Tracks.{Track, first_track, known_in, known_up_to, known_with, others_in, track_among, track_at, track_in, track_up_to, videos_up_to, videos_with}

-- an element that does not count
pub track_next : (most : ℕ) (rest : List ℕ) (p : Part) → first_part rest ≡ Ok (Some p) → track_at p.ident p.content ≡ Ok None → length rest ≤ most → length p.rest < length rest →
    (k : ℕ) × (length p.rest ≤ k) × (track_up_to most rest ≡ track_up_to k p.rest)
unfolding track_up_to
track_next zero rest p first none few less = absurd (omega (arith, few, less))
track_next (suc k) rest p first none few less = (k, omega (arith, few, less), rw (first, none) refl)

-- one that counts
pub track_here : (most : ℕ) (rest : List ℕ) (p : Part) (t : Track) → first_part rest ≡ Ok (Some p) → track_at p.ident p.content ≡ Ok (Some t) → length rest ≤ most → length p.rest < length rest → track_up_to most rest ≡ Ok t
unfolding track_up_to
track_here zero rest p t first some few less = absurd (omega (arith, few, less))
track_here (suc k) rest p t first some few less = rw (first, some) refl

-- one that can't be read
pub track_bad : (most : ℕ) (rest : List ℕ) (p : Part) (f : FileFault) → first_part rest ≡ Ok (Some p) → track_at p.ident p.content ≡ Err f → length rest ≤ most → length p.rest < length rest → track_up_to most rest ≡ Err f
unfolding track_up_to
track_bad zero rest p f first bad few less = absurd (omega (arith, few, less))
track_bad (suc k) rest p f first bad few less = rw (first, bad) refl

-- one whose header can't be read
pub track_cut : (most : ℕ) (rest : List ℕ) (f : FileFault) → first_part rest ≡ Err f → length rest ≤ most → track_up_to most rest ≡ Err f
unfolding track_up_to first_part
track_cut zero [] f bad few = absurd (cc)
track_cut zero (b ∷ bs) f bad few = absurd (omega (arith, few))
track_cut (suc k) rest f bad few = rw bad refl

-- no more elements
pub track_none : (most : ℕ) (rest : List ℕ) → first_part rest ≡ Ok None → track_up_to most rest ≡ Err fault.NoFfv1
unfolding track_up_to
track_none zero rest none = refl
track_none (suc k) rest none = rw none refl

-- what a walk that goes on from these elements answers is what the whole content says
pub judged : (content : List ℕ) (u : Unit {0}) (rest : Result Track FileFault) (answer : Result Track FileFault) → Ok u ≡ content_told content → track_up_to (length content) content ≡ rest → rest ≡ answer → first_track content ≡ answer
unfolding first_track
judged content u rest answer told walk is = rw (← told) (walk ∙ is)

-- the numbers of all tracks stand beside what the first one of FFV1 video says
pub first_found : (content : List ℕ) (track : Track) → first_track content ≡ Ok track → track_in content ≡ Ok (track_among (known_in content) (others_in content) track)
unfolding track_in
first_found content track is = rw is refl

pub first_fails : (content : List ℕ) (f : FileFault) → first_track content ≡ Err f → track_in content ≡ Err f
unfolding track_in
first_fails content f is = rw is refl

-- an element that can be read
pub known_next : (most known : ℕ) (rest : List ℕ) (p : Part) (more : ℕ) → first_part rest ≡ Ok (Some p) → known_with known p.ident p.content ≡ Ok more → length rest ≤ most → length p.rest < length rest →
    (k : ℕ) × (length p.rest ≤ k) × (known_up_to most known rest ≡ known_up_to k more p.rest)
unfolding known_up_to
known_next zero known rest p more first with few less = absurd (omega (arith, few, less))
known_next (suc k) known rest p more first with few less = (k, omega (arith, few, less), rw (first, with) refl)

-- one whose number can't be read
pub known_bad : (most known : ℕ) (rest : List ℕ) (p : Part) (f : FileFault) → first_part rest ≡ Ok (Some p) → known_with known p.ident p.content ≡ Err f → known_up_to most known rest ≡ known
unfolding known_up_to
known_bad zero known rest p f first bad = refl
known_bad (suc k) known rest p f first bad = rw (first, bad) refl

-- one whose header can't be read
pub known_cut : (most known : ℕ) (rest : List ℕ) (f : FileFault) → first_part rest ≡ Err f → known_up_to most known rest ≡ known
unfolding known_up_to
known_cut zero known rest f bad = refl
known_cut (suc k) known rest f bad = rw bad refl

-- no more elements
pub known_end : (most known : ℕ) (rest : List ℕ) → first_part rest ≡ Ok None → known_up_to most known rest ≡ known
unfolding known_up_to
known_end zero known rest none = refl
known_end (suc k) known rest none = rw none refl

-- ---- how many are FFV1 video

-- an element that can be read
pub videos_next : (most count : ℕ) (rest : List ℕ) (p : Part) → first_part rest ≡ Ok (Some p) → length rest ≤ most → length p.rest < length rest →
    (k : ℕ) × (length p.rest ≤ k) × (videos_up_to most count rest ≡ videos_up_to k (videos_with count p.ident p.content) p.rest)
unfolding videos_up_to
videos_next zero count rest p first few less = absurd (omega (arith, few, less))
videos_next (suc k) count rest p first few less = (k, omega (arith, few, less), rw first refl)

-- one whose header can't be read
pub videos_cut : (most count : ℕ) (rest : List ℕ) (f : FileFault) → first_part rest ≡ Err f → videos_up_to most count rest ≡ count
unfolding videos_up_to
videos_cut zero count rest f bad = refl
videos_cut (suc k) count rest f bad = rw bad refl

-- no more elements
pub videos_end : (most count : ℕ) (rest : List ℕ) → first_part rest ≡ Ok None → videos_up_to most count rest ≡ count
unfolding videos_up_to
videos_end zero count rest none = refl
videos_end (suc k) count rest none = rw none refl
