-- What a call answers that reads a file that may be damaged from its beginning again, since Tracks
-- stand behind its first Cluster; what it tells; and where in the file a fault ends it.
use Rattle.std.specs.Prelude.{◌≡◌, ◌⊎◌, ◌+◌, ◌≤◌, ◌==◌, if◌then◌else◌, ℕ, suc, List, [], Option}
use Rattle.std.specs.Prelude.{Some, None, false, Result, Ok, Err}
use Rattle.std.specs.Io.KnownBytes.{Consumes}
use Rattle.ffv1_wire.specs.Failures.{one_more}
use Rattle.ffv1_wire.specs.Passage.{Passage}
use Rattle.ffv1_reads.specs.Ends.{ReadOrOver, RefusedOrFaults}
use Rattle.ffv1_reads.specs.Offsets.{ReadsWhole, offset_after}
use Rattle.ffv1_reads.specs.Reads.{Read, Reading, given, refused, ◌>>=◌}
use Rattle.ffv1_reads.specs.declared.fault.FileFault.{FileFault}
use Rattle.ffv1_reads.specs.declared.fault.FileFault.TheVariants as fault
use Rattle.ffv1_ebml.specs.declared.element.Element.{Element}
use Rattle.ffv1_matroska.specs.Offsets.{InSegment, Spot, Start}
use Rattle.ffv1_matroska.specs.Opened.{Opened, tracks}
use Rattle.ffv1_matroska.specs.Opening.{segment_begun, segment_entered}
use Rattle.ffv1_matroska.specs.Places.{amount, segment_at}
use Rattle.ffv1_matroska.specs.SalvageStops.{FileStops, SalvageStops, salvaged_taken}
use Rattle.ffv1_matroska.specs.SalvageTold.{ebml_kept, kept_fault, more_or, read_or, told_too}
use Rattle.ffv1_matroska.specs.SalvageTold.{told_up_to}
use Rattle.ffv1_matroska.specs.Salvaged.{Begun, NeverBegins, Salvaged, data_at, ebml_salvaged}
use Rattle.ffv1_matroska.specs.Salvaged.{told_more, tracks_salvaged}
use Rattle.ffv1_matroska.specs.SalvagedLate.{salvage_known, salvage_track, salvaged_over}
use Rattle.ffv1_matroska.specs.Segments.{header_read}
use Rattle.ffv1_matroska.specs.Tracks.{Track}
use Rattle.ffv1_matroska.specs.declared.place.Place.{Place}
use Rattle.ffv1_matroska.specs.declared.told.ToldFault.{ToldFault}
use Rattle.ffv1_matroska.specs.declared.track.Numbers.{Numbers}

-- ---- where it stops, up to the first Tracks

-- an element of the Segment from its first byte on; of a Cluster of unknown size the header alone
abbrev pub salvaged_step : Place → Option Element → Reading Place
salvaged_step place None = refused fault.NoTracks
salvaged_step place (Some e) =
    if e.ident == tracks
    then (tracks_salvaged e.size >>= λ _. given (segment_at place false e.left))
    else (salvaged_over place.loose e.ident e.size >>= λ loose.
    given (segment_at place loose e.left))

unfoldable pub salvaged_sought : Place → Reading Place
salvaged_sought place = header_read place >>= salvaged_step place

-- elements of so many bytes were read whole, and the one that comes next was refused
pub record SoughtStops (from : Place) (p : Passage) (f : FileFault) (to : Place) (count : ℕ)
    : Type 0 where
  pub between : Option (List ℕ)
  pub before : ReadsWhole salvaged_sought from p.old between to count
  pub refused : RefusedOrFaults fault.NoTracks (λ (place : Place). Unit {0}) (salvaged_sought to)
      between p.new p.before p.after f

-- `here` is the place of the first Tracks, or that of the element that was refused
abbrev pub SoughtFrom : Place → Passage → Result Numbers FileFault → Place → Type 0
SoughtFrom place p (Ok n) here = place.cluster + place.group ≡ 0 → amount here ≤ amount place
SoughtFrom place p (Err f) here =
    (count : ℕ) × SoughtStops place p f here count
    × (place.cluster + place.group ≡ 0 → count + amount here ≡ amount place)

-- elements before the Segment and its header were read whole, whatever would be told of them, and
-- then this stands of its size, of what was left there and of how many bytes more; the offset has
-- counted all of them
pub record Entered (p : Passage) (Then : Option ℕ → Passage → ℕ → Type 0) (offset : ℕ)
    : Type 0 where
  pub size : Option ℕ
  pub between : Option (List ℕ)
  pub before : ℕ
  pub after : ℕ
  pub entered : ReadsWhole salvaged_taken Start p.old between (InSegment None (segment_begun size))
      before
  pub goes : Then size (record p { old = between }) after
  pub offset_is : offset ≡ offset_after 0 (before + after)

abbrev pub StopsSought : Passage → FileFault → ℕ → Type 0
StopsSought p f offset = Entered p (λ size q count.
    (to : Place) × SoughtStops (segment_begun size) q f to count) offset

abbrev pub SoughtTo : Passage → Result Numbers FileFault → ℕ → Type 0
SoughtTo p (Ok n) offset = Unit {0}
SoughtTo p (Err f) offset = FileStops p.old p.new f offset ⊎ StopsSought p f offset

-- ---- where it stops, with their track

-- where the frames of this track begin
abbrev pub known_begun : Track → Place → Place → List ToldFault → Begun
known_begun track place here faults = record {
  track = track;
  place = place;
  here = here;
  told = faults;
}

-- the elements of a Segment from its beginning on, if this track is known: `here` is the place
-- before the one that ends it
abbrev pub KnownStops : Track → Place → Option (List ℕ) → Option (List ℕ) → FileFault → Place →
    Type 0
KnownStops track begin old new f here =
    (count : ℕ) × SalvageStops (InSegment (Some track) begin) old new f
    (InSegment (Some track) here) count
    × (begin.cluster + begin.group ≡ 0 → count + amount here ≡ amount begin)

abbrev pub StopsKnown : Track → Passage → FileFault → ℕ → Type 0
StopsKnown track p f offset = Entered p (λ size q count.
    (to : Spot) × SalvageStops (InSegment (Some track) (segment_begun size)) q.old q.new f to
    count) offset

-- before the Segment, or in one of its elements
abbrev pub KnownTo : Track → Passage → FileFault → ℕ → Type 0
KnownTo track p f offset = FileStops p.old p.new f offset ⊎ StopsKnown track p f offset

-- ---- what it tells, with their track

-- in a Segment from its beginning on
abbrev pub known_told_from : Track → Place → List ToldFault → List ℕ → List ToldFault
known_told_from track begin faults text =
    told_up_to (suc (amount begin)) begin (Some track) begin faults text

-- from what comes before the Segment on
abbrev pub segment_known_told : Track → List ToldFault → List ℕ → List ToldFault
segment_known_told track faults text =
    read_or faults (λ size more. known_told_from track (segment_begun size) faults more)
    (segment_entered text)

-- all that is told of a file
unfoldable pub known_told : Track → List ℕ → List ToldFault
known_told track text =
    read_or (told_too [] (kept_fault (ebml_kept text)) None)
    (λ f more. more_or [] (λ faults. segment_known_told track faults more) (told_more [] f None))
    (ebml_salvaged text)

-- all that is told of the bytes that were read, and how many come before the first element of the
-- Segment; 0 if that was not entered
pub record TellsKnown (track : Track) (old new : Option (List ℕ)) (start : ℕ)
    (faults : List ToldFault) : Type 0 where
  pub bytes : List ℕ
  pub consumed : Consumes old new bytes
  pub is : faults ≡ known_told track bytes
  pub start_is : start ≡ offset_after 0 (data_at bytes)

-- what a call has told that answers a fault: nothing on the way to the first Tracks, or all that is
-- told with their track
abbrev pub TellsLate : Option (List ℕ) → Option (List ℕ) → ℕ → List ToldFault → Type 0
TellsLate whole new start faults =
    ((faults ≡ []) × (start ≡ 0))
    ⊎ ((track : Track) × (between : Option (List ℕ)) × Read salvage_track whole between track
    × TellsKnown track whole new start faults)

-- ---- what it answers: `here` is what was left when it was called, and the passage is from the
-- beginning of the file on

-- a file whose track is known, and opens so
abbrev pub known_opened : Track → Option ℕ → Place → Opened
known_opened track size place = record { track = track; segment = size; place = place }

-- it could not be begun again: at once, or after its first Tracks were read
abbrev pub NotSalvaged : Option (List ℕ) → Passage → FileFault → Type 0
NotSalvaged here p f =
    (f ≡ fault.Read) × (p.after ≡ one_more p.before)
    × ((p.new ≡ here) ⊎ ((track : Track) × Read salvage_track p.old p.new track))

-- why it was not opened: its first Tracks were refused, or there are none; or they were read, and
-- then it was refused with their track; or it could not be begun again
abbrev pub StopsSalvaged : Option (List ℕ) → Passage → FileFault → Type 0
StopsSalvaged here p f =
    RefusedOrFaults fault.NoTracks (λ (track : Track). ⊥) salvage_track p.old p.new p.before
    p.after f
    ⊎ (((track : Track) × (between : Option (List ℕ)) × Read salvage_track p.old between track
    × RefusedOrFaults fault.NoTracks NeverBegins (salvage_known track) p.old p.new p.before p.after
    f)
    ⊎ NotSalvaged here p f)

-- the answer: its first Tracks were read, and then it was opened with their track
abbrev pub AnswersSalvaged : {Y : Type 0} → (Y → Salvaged) → Option (List ℕ) → Passage →
    Result Y FileFault → Type 0
AnswersSalvaged view here p (Ok y) =
    (p.after ≡ p.before)
    × ((track : Track) × (between : Option (List ℕ)) × Read salvage_track p.old between track
    × ReadOrOver NeverBegins (salvage_known track) p.old p.new (view y))
AnswersSalvaged view here p (Err f) = StopsSalvaged here p f

-- where a fault ends it: on the way to the first Tracks, or with their track; at the beginning if
-- it could not be begun again
abbrev pub StopsLate : Passage → FileFault → ℕ → Type 0
StopsLate p f offset =
    FileStops p.old p.new f offset
    ⊎ (StopsSought p f offset
    ⊎ (((track : Track) × StopsKnown track p f offset)
    ⊎ ((f ≡ fault.Read) × (p.after ≡ one_more p.before) × (offset ≡ 0))))
