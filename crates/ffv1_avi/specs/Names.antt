-- Which chunks a list movi has, by their names (AVI RIFF File Reference, "Stream Data ('movi'
-- List)"; OpenDML AVI File Format Extensions, "Index Locations in RIFF File"). Two digits say the
-- stream, by its place among all strl, and two letters what the chunk holds.
use Rattle.std.specs.Prelude.{◌≡◌, ◌⊎◌, ◌<◌, ◌++◌, ℕ, ◌+◌, ◌-◌, ◌*◌, ◌/◌, ◌%◌, ◌==◌, ◌&&◌}
use Rattle.std.specs.Prelude.{◌||◌, Bool, true, false}
use Rattle.std.specs.Prelude.{if◌then◌else◌, nat_le, nat_lt, List, [], ◌∷◌, take, codes}
use Rattle.std.specs.Prelude.{slice_index}
use Rattle.ffv1_reads.specs.Head.{frame_limit, limit}
use Rattle.ffv1_avi.specs.declared.place.Extent.{Extent}
use Rattle.ffv1_avi.specs.declared.place.Extent.TheVariants.{FirstMovi, EveryRiff}
use Rattle.ffv1_avi.specs.declared.place.Names.{Names}
use Rattle.ffv1_avi.specs.declared.place.Names.TheVariants.{Any, Closed}
use Rattle.ffv1_avi.specs.Walk.{Rule, is_name, bars_none}

-- the names of a stream's frames: compressed, NNdc, or not, NNdb. Both have FFV1
abbrev pub frame_name : ℕ → List ℕ
frame_name stream = (48 + stream / 10) ∷ (48 + stream % 10) ∷ codes "dc"

abbrev pub bitmap_name : ℕ → List ℕ
bitmap_name stream = (48 + stream / 10) ∷ (48 + stream % 10) ∷ codes "db"

-- the name of its change of palette, NNpc
abbrev pub palette_name : ℕ → List ℕ
palette_name stream = (48 + stream / 10) ∷ (48 + stream % 10) ∷ codes "pc"

abbrev pub is_digit : ℕ → Bool
is_digit byte = nat_le 48 byte && nat_lt byte 58

abbrev pub are_digits : ℕ → ℕ → Bool
are_digits first second = is_digit first && is_digit second

-- the number that two digits are
abbrev pub number_of : ℕ → ℕ → ℕ
number_of first second = 10 * (first - 48) + (second - 48)

-- a chunk of another one of so many streams
unfoldable pub is_of_other : ℕ → ℕ → List ℕ → Bool
is_of_other stream streams name =
    if are_digits (slice_index name 0) (slice_index name 1)
    then (if number_of (slice_index name 0) (slice_index name 1) == stream then false
    else nat_lt (number_of (slice_index name 0) (slice_index name 1)) streams)
    else false

-- an index of a stream, ixNN
unfoldable pub is_index : List ℕ → Bool
is_index name =
    is_name (take 2 name) (codes "ix") && are_digits (slice_index name 2) (slice_index name 3)

-- the frames of a stream
unfoldable pub is_stream_frame : ℕ → List ℕ → Bool
is_stream_frame stream name =
    is_name name (frame_name stream) || is_name name (bitmap_name stream)

-- what may stand beside them: its changes of palette, chunks of the other streams, indexes, JUNK,
-- which pads, and lists, whose own name is judged next
unfoldable pub stands_beside : ℕ → ℕ → List ℕ → Bool
stands_beside stream streams name =
    is_name name (palette_name stream) || is_of_other stream streams name || is_index name
    || is_name name (codes "JUNK") || is_name name (codes "LIST")

-- a chunk of this name is a frame
abbrev pub is_frame : Names → List ℕ → Bool
is_frame Any name = is_name name (frame_name 0)
is_frame (Closed stream streams) name = is_stream_frame stream name

-- a chunk of this name may not stand in movi
abbrev pub is_barred : Names → List ℕ → Bool
is_barred Any name = is_name name (codes "LIST")
is_barred (Closed stream streams) name =
    if is_stream_frame stream name || stands_beside stream streams name then false else true

-- a chunk of this name may not stand in movi, whatever size it says; the size of a list is judged
-- before, and that of every chunk if the first movi is read alone
abbrev pub bars : Names → List ℕ → Bool
bars Any = bars_none
bars (Closed stream streams) = λ name. is_barred (Closed stream streams) name

-- whether movi opens the lists in it: if every RIFF is read
abbrev pub opens : Names → Bool
opens Any = false
opens (Closed stream streams) = true

-- how movi takes its chunks
abbrev pub rule_of : Names → Rule
rule_of names = record { bars = bars names; opens = opens names; sizeless = false }

-- whether RIFF may have a list movi without size: if every RIFF is read
abbrev pub is_every : Extent → Bool
is_every FirstMovi = false
is_every EveryRiff = true

-- how RIFF takes its chunks, where a movi may have no size
abbrev pub riff_rule : Extent → Rule
riff_rule extent = record { bars = bars_none; opens = false; sizeless = is_every extent }

-- the most bytes of a frame that are read, by how far is read
abbrev pub most_in : Extent → ℕ
most_in FirstMovi = limit
most_in EveryRiff = frame_limit

-- and by the names of the chunks of movi: any, where the first movi is read alone
abbrev pub most_bytes : Names → ℕ
most_bytes Any = most_in FirstMovi
most_bytes (Closed stream streams) = most_in EveryRiff

-- the fewest bytes of a frame: one if the first movi is read alone; if every RIFF is read, a chunk
-- of none is a frame that repeats the one before it
abbrev pub least_in : Extent → ℕ
least_in FirstMovi = 1
least_in EveryRiff = 0

abbrev pub least_bytes : Names → ℕ
least_bytes Any = least_in FirstMovi
least_bytes (Closed stream streams) = least_in EveryRiff

-- the same in words: the name of a frame of a stream
abbrev pub IsFrameName : ℕ → List ℕ → Type 0
IsFrameName stream name = (name ≡ frame_name stream) ⊎ (name ≡ bitmap_name stream)

-- the name of what another one of so many streams has
pub record IsOfOther (stream streams : ℕ) (name : List ℕ) : Type 0 where
  pub other : ℕ
  pub first : ℕ
  pub second : ℕ
  pub there : other < streams
  pub short : other < 100
  pub apart : other ≡ stream → ⊥
  pub named : name ≡ (48 + other / 10) ∷ (48 + other % 10) ∷ first ∷ second ∷ []

-- the name of an index
pub record IsIndexName (name : List ℕ) : Type 0 where
  pub number : ℕ
  pub short : number < 100
  pub named : name ≡ codes "ix" ++ (48 + number / 10) ∷ (48 + number % 10) ∷ []

-- the names that movi lists
abbrev pub IsListed : ℕ → ℕ → List ℕ → Type 0
IsListed stream streams name =
    IsFrameName stream name ⊎ ((name ≡ palette_name stream) ⊎ (IsOfOther stream streams name
    ⊎ (IsIndexName name ⊎ ((name ≡ codes "JUNK") ⊎ (name ≡ codes "LIST")))))
