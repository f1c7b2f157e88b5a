-- What a file that may be damaged gives, and what plain reading gives of the same bytes.
use Rattle.std.specs.Prelude.{◌≡◌, ◌⊎◌, ◌≤◌, ◌+◌, ◌-◌, ◌^◌, ℕ, List, [], ◌∷◌, ◌++◌, map, Some, Ok}
use Rattle.std.specs.Prelude.{true}
use Rattle.ffv1_reads.specs.declared.fault.FileFault.{FileFault}
use Rattle.ffv1_reads.specs.declared.fault.FileFault.TheVariants as fault
use Rattle.ffv1_reads.specs.Items.{Given, GivesFrame, Tells}
use Rattle.ffv1_matroska.specs.Items.{item_read}
use Rattle.ffv1_matroska.specs.Places.{amount, is_sound}
use Rattle.ffv1_matroska.specs.declared.course.Pending.TheVariants as pending
use Rattle.ffv1_matroska.specs.declared.course.Course.{Course}
use Rattle.ffv1_matroska.specs.declared.track.TrackNumbers.{TrackNumbers}

-- the ID of a Cluster
abbrev pub cluster_bytes : List ℕ
cluster_bytes = 0x1F ∷ 0x43 ∷ 0xB6 ∷ 0x75 ∷ []

-- it stands nowhere in these bytes
abbrev pub HasNoCluster : List ℕ → Type 0
HasNoCluster bytes = (a b : List ℕ) → bytes ≡ a ++ (cluster_bytes ++ b) → ⊥

-- a course at an element, whose Cluster is sound so far; the place has as many bytes left as a file
-- has at most
pub record IsPlain (c : Course) : Type 0 where
  pub pending : c.pending ≡ pending.Nothing
  pub sound : is_sound c.place ≡ true
  pub few : amount c.place + 2 ≤ 2 ^ 64 - 1
  pub held : c.at ≤ 2 ^ 64 - 1

-- a fault is told next, at this offset; that of a CRC-32 may come after the frame that ends the
-- Cluster
abbrev pub TellsAt : TrackNumbers → Course → List ℕ → FileFault → ℕ → Type 0
TellsAt track c text f offset =
    ((d : Course) × (more : List ℕ)
    × (item_read track c text ≡ Ok (Some (Tells f offset, d), more)))
    ⊎ ((f ≡ fault.Checksum) × (frame : List ℕ) × (d : Course) × (rest : List ℕ)
    × (item_read track c text ≡ Ok (Some (GivesFrame frame, d), rest))
    × (e : Course) × (more : List ℕ)
    × (item_read track d rest ≡ Ok (Some (Tells f offset, e), more)))

-- the same, wherever it is
abbrev pub TellsNext : TrackNumbers → Course → List ℕ → FileFault → Type 0
TellsNext track c text f = (offset : ℕ) × TellsAt track c text f offset

-- these items come one by one, from a course up to another one, where these bytes come next
abbrev pub ItemsTo : TrackNumbers → Course → List ℕ → List Given → Course → List ℕ → Type 0
ItemsTo track c text [] d rest = (c ≡ d) × (text ≡ rest)
ItemsTo track c text (i ∷ is) d rest =
    (next : Course) × (more : List ℕ) × (item_read track c text ≡ Ok (Some (i, next), more))
    × ItemsTo track next more is d rest

-- frames come, and then this fault is told at this offset
abbrev pub TellsAfter : TrackNumbers → Course → List ℕ → FileFault → ℕ → Type 0
TellsAfter track c text f offset =
    (frames : List (List ℕ)) × (d : Course) × (rest : List ℕ)
    × ItemsTo track c text (map GivesFrame frames) d rest × TellsAt track d rest f offset
