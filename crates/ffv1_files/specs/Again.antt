-- A Matroska file whose first Cluster comes before any Tracks: it is read from its beginning again,
-- up to the first Tracks, and then once more. What a call that opens a file answers then.
use Rattle.std.specs.Prelude.{◌≡◌, ◌⊎◌, ℕ, Bool, true, false, List, Option, Result, Ok, Err}
use Rattle.ffv1_wire.specs.Failures.{one_more}
use Rattle.ffv1_wire.specs.Passage.{Passage}
use Rattle.ffv1_reads.specs.Known.{Known}
use Rattle.ffv1_reads.specs.Reads.{Kept, Met, Want}
use Rattle.ffv1_reads.specs.Room.{RoomRead}
use Rattle.ffv1_reads.specs.declared.fault.FileFault.{FileFault}
use Rattle.ffv1_reads.specs.declared.fault.FileFault.TheVariants as fault
use Rattle.ffv1_matroska.specs.Again.{RoomTwice}
use Rattle.ffv1_matroska.specs.Late.{reopened, track_read}
use Rattle.ffv1_matroska.specs.Opened.{Opened}
use Rattle.ffv1_matroska.specs.Opened as beginning
use Rattle.ffv1_matroska.specs.Readers.{HasEnded}
use Rattle.ffv1_matroska.specs.Tracks.{Track}
use Rattle.ffv1_files.specs.declared.container.Scope.{Scope}
use Rattle.ffv1_files.specs.declared.container.Scope.TheVariants as scope
use Rattle.ffv1_files.specs.Answers.{Endings, FaultsRead, ReadFails, ReadsAs, StopsReading}
use Rattle.ffv1_files.specs.Answers.{WantsMore}
use Rattle.ffv1_files.specs.Endings.{opening_endings}
use Rattle.ffv1_files.specs.Files.{is_matroska, once_read, open_read}
use Rattle.ffv1_files.specs.Readers.{Standing, opened_at}

-- that no Tracks come before the first Cluster, or before the end of the Segment
abbrev pub lacks_tracks : FileFault → Bool
lacks_tracks fault.NoTracks = true
lacks_tracks f = false

-- so it is in these bytes, where this is left of them
abbrev pub LacksTracks : List ℕ → List ℕ → Type 0
LacksTracks text rest =
    (is_matroska text ≡ true) × (beginning.open_read text ≡ Err (Met fault.NoTracks rest))

-- and these are their first Tracks, wherever they stand
abbrev pub HasTracks : List ℕ → List ℕ → Track → Type 0
HasTracks text rest track = track_read text ≡ Ok (track, rest)

-- what the end of the input may be to the reading of the first Tracks, and of what comes before the
-- frames if their track is known: that there are no Tracks; and that there are no frames
abbrev pub track_endings : Endings Track
track_endings = record { values = λ track. ⊥; faults = λ f. f ≡ fault.NoTracks }

abbrev pub known_endings : Endings Opened
known_endings = record { values = HasEnded; faults = λ f. f ≡ fault.NoTracks }

-- when a read may have failed: up to the first Tracks; or later, when their track was known; or it
-- could not be begun again, at once or after these
abbrev pub AgainFails : List ℕ → List ℕ → Type 0
AgainFails text rest =
    ((left : List ℕ) × LacksTracks text left
    × (ReadFails track_endings track_read text rest
    ⊎ ((track : Track) × (more : List ℕ) × HasTracks text more track
    × ((more ≡ rest) ⊎ ReadFails known_endings (reopened track) text rest))))
    ⊎ LacksTracks text rest

-- when more bytes were wanted, in either
abbrev pub AgainWants : Want → List ℕ → List ℕ → Type 0
AgainWants w text rest =
    (left : List ℕ) × LacksTracks text left
    × (WantsMore track_read w text rest
    ⊎ ((track : Track) × (more : List ℕ) × HasTracks text more track
    × WantsMore (reopened track) w text rest))

-- why such a file was not opened; any other fault is that of the whole file
abbrev pub StopsAgain : Passage → FileFault → Type 0
StopsAgain p fault.Read = (p.after ≡ one_more p.before) × Known p.old p.new AgainFails
StopsAgain p fault.OutOfMemory = (p.after ≡ p.before) × Known p.old p.new (AgainWants Kept)
StopsAgain p fault.TooLarge = ⊥
StopsAgain p fault.Write = ⊥
StopsAgain p fault.Rate = ⊥
StopsAgain p f =
    (p.after ≡ p.before)
    × Known p.old p.new (λ text rest. FaultsRead (open_read scope.Whole) text rest f)

-- why a file was not opened: it was read once; that it lacks Tracks is an answer only where the
-- input can't begin again. Or it was read again
abbrev pub StopsOpening : Bool → Scope → Passage → FileFault → Type 0
StopsOpening again extent p f =
    (StopsReading (opening_endings extent) (once_read extent) p f
    × (lacks_tracks f ≡ true → again ≡ false))
    ⊎ ((extent ≡ scope.Whole) × (again ≡ true) × StopsAgain p f)

-- the answer of a call that opens a file, of an input that can begin again or can't
abbrev pub OpensAs : Bool → Scope → Passage → Result Standing FileFault → Type 0
OpensAs again extent p (Ok r) = ReadsAs (open_read extent) p (opened_at r)
OpensAs again extent p (Err f) = StopsOpening again extent p f

-- the room of what was kept: for at most as many bytes as were read, once or in both passes
abbrev pub RoomWithin : Option (List ℕ) → Option (List ℕ) → ℕ → Type 0
RoomWithin old new room = RoomRead old new 0 room ⊎ RoomTwice old new 0 room
