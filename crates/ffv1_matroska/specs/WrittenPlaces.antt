-- Which Clusters have a cue, and where Clusters begin (RFC 9559, 5.1.5).
use Rattle.std.specs.Prelude.{ℕ, suc, zero, ◌+◌, ◌*◌, ◌-◌, ◌^◌, if◌then◌else◌, nat_le, List, []}
use Rattle.std.specs.Prelude.{◌∷◌, length}

-- the bytes of a Cluster beside its frame
abbrev pub cluster_bytes : ℕ
cluster_bytes = 41

-- where the Clusters of frames begin, the first at this place
unfoldable pub places_from : ℕ → List (List ℕ) → List ℕ
places_from place [] = []
places_from place (frame ∷ frames) =
    place ∷ places_from (place + cluster_bytes + length frame) frames

-- after so many, every stride-th of them
unfoldable pub every_after : ℕ → ℕ → List ℕ → List ℕ
every_after skipped stride [] = []
every_after zero stride (place ∷ places) = place ∷ every_after (stride - 1) stride places
every_after (suc skipped) stride (place ∷ places) = every_after skipped stride places

-- every stride-th, from the first on
abbrev pub every : ℕ → List ℕ → List ℕ
every stride places = every_after 0 stride places

-- the most cues
abbrev pub most_cues : ℕ
most_cues = 8192

-- the first stride among this one, twice it, and so on, by which at most 8192 of so many Clusters
-- have a cue; after so many others it is the last
unfoldable pub stride_from : ℕ → ℕ → ℕ → ℕ
stride_from zero stride count = stride
stride_from (suc others) stride count =
    if nat_le count (most_cues * stride) then stride else stride_from others (2 * stride) count

-- the least power of two by which at most 8192 of fewer than 2 ^ 77 Clusters have a cue
abbrev pub stride_of : ℕ → ℕ
stride_of count = stride_from 64 1 count

-- a frame or a record of fewer bytes fits in an element with all that stands beside it there, since
-- a size of eight bytes says 56 bits
abbrev pub content_limit : ℕ
content_limit = 2 ^ 56 - 512

-- the last place where a Cluster may end
abbrev pub last_place : ℕ
last_place = 2 ^ 56 - 2 ^ 20
