-- What is told of a file that may be damaged, up to where its frames begin, or up to where it is
-- refused: all that was told before, and the fault of the element at which it is refused, if that
-- is told, too.
use Rattle.std.specs.Prelude.{◌≡◌, ℕ, suc, zero, ◌+◌, ◌-◌, ◌^◌, ◌==◌, min, false}
use Rattle.std.specs.Prelude.{if◌then◌else◌, List, []}
use Rattle.std.specs.Prelude.{Option, Some, None, Result, Ok, Err}
use Rattle.std.specs.Io.KnownBytes.{Consumes}
use Rattle.ffv1_reads.specs.Offsets.{offset_after}
use Rattle.ffv1_reads.specs.Reads.{Reading, Stop, ◌>>=◌}
use Rattle.ffv1_reads.specs.declared.fault.FileFault.{FileFault}
use Rattle.ffv1_reads.specs.declared.fault.FileFault.TheVariants as fault
use Rattle.ffv1_ebml.specs.declared.element.Element.{Element}
use Rattle.ffv1_matroska.specs.Opened.{Opened, ebml, tracks}
use Rattle.ffv1_matroska.specs.Opening.{content_kept, ident_read, segment_begun, segment_entered}
use Rattle.ffv1_matroska.specs.Opening.{top_size}
use Rattle.ffv1_matroska.specs.Places.{amount, segment_at}
use Rattle.ffv1_matroska.specs.Salvaged.{Salvaged, data_at, ebml_salvaged, position_at, sum_fault}
use Rattle.ffv1_matroska.specs.Salvaged.{told_more, tracks_or_salvaged}
use Rattle.ffv1_matroska.specs.Segments.{cluster, header_read, is_filler, is_section}
use Rattle.ffv1_matroska.specs.Tracks.{Track}
use Rattle.ffv1_matroska.specs.declared.place.Place.{Place}
use Rattle.ffv1_matroska.specs.declared.told.ToldFault.{ToldFault}

-- what is told after a value was read; these, if the reading was refused
abbrev pub read_or : {X : Type 0} → List ToldFault → (X → List ℕ → List ToldFault) →
    Result (X × List ℕ) Stop → List ToldFault
read_or faults on (Ok p) = on p.0 p.1
read_or faults on (Err why) = faults

-- what is told after one more; these, if as many are told as may be
abbrev pub more_or : List ToldFault → (List ToldFault → List ToldFault) →
    Result (List ToldFault) FileFault → List ToldFault
more_or faults on (Ok now) = on now
more_or faults on (Err f) = faults

-- these and one more, if there is one, and if it may be told
abbrev pub told_too : List ToldFault → Option FileFault → Option ℕ → List ToldFault
told_too faults f position = more_or faults (λ now. now) (told_more faults f position)

-- ---- the fault of an element that is refused

-- of content that was kept, its CRC-32
abbrev pub kept_fault : Result (List ℕ × List ℕ) Stop → Option FileFault
kept_fault (Ok p) = sum_fault p.0
kept_fault (Err why) = None

-- the header of EBML up to the end of its content
unfoldable pub ebml_kept : Reading (List ℕ)
ebml_kept = ident_read ebml >>= λ _. (top_size >>= content_kept)

-- of an element of known size, that it may not stand in a Segment
abbrev pub place_fault : ℕ → Option ℕ → Option FileFault
place_fault ident None = None
place_fault ident (Some size) =
    if is_section ident then None else if is_filler ident then None else Some fault.BadElement

-- of Tracks, if there were none yet; or of another element
abbrev pub element_fault : Option Track → ℕ → Option ℕ → List ℕ → Option FileFault
element_fault None ident size text =
    if ident == tracks then kept_fault (content_kept size text) else place_fault ident size
element_fault (Some track) ident size text = place_fault ident size

-- ---- the Segment

-- after an element, of which this may be told
abbrev pub visited_told : (Option Track → Place → List ToldFault → List ℕ → List ToldFault) →
    Place → ℕ → List ToldFault → Option Track × Option FileFault → List ℕ → List ToldFault
visited_told on next position faults p text =
    more_or faults (λ now. on p.0 next now text) (told_more faults p.1 (Some position))

-- an element of the Segment after its header, and those after it
abbrev pub element_told : (Option Track → Place → List ToldFault → List ℕ → List ToldFault) →
    Place → Option Track → Place → List ToldFault → Option Element → List ℕ → List ToldFault
element_told on begin found here faults None text = faults
element_told on begin found here faults (Some e) text =
    if e.ident == cluster then faults
    else read_or
    (told_too faults (element_fault found e.ident e.size text) (Some (position_at begin here)))
    (visited_told on (segment_at here false e.left) (position_at begin here) faults)
    (tracks_or_salvaged found e.ident e.size text)

-- in at most so many elements, if these were told before
unfoldable pub told_up_to : ℕ → Place → Option Track → Place → List ToldFault → List ℕ →
    List ToldFault
told_up_to zero begin found here faults text = faults
told_up_to (suc most) begin found here faults text =
    read_or faults (element_told (told_up_to most begin) begin found here faults)
    (header_read here text)

-- in a Segment from its beginning on
abbrev pub told_from : Place → List ToldFault → List ℕ → List ToldFault
told_from begin faults text = told_up_to (suc (amount begin)) begin None begin faults text

-- ---- a file

-- from what comes before the Segment on
abbrev pub segment_told : List ToldFault → List ℕ → List ToldFault
segment_told faults text =
    read_or faults (λ size more. told_from (segment_begun size) faults more) (segment_entered text)

-- all that is told of a file
unfoldable pub told_before : List ℕ → List ToldFault
told_before text =
    read_or (told_too [] (kept_fault (ebml_kept text)) None)
    (λ f more. more_or [] (λ faults. segment_told faults more) (told_more [] f None))
    (ebml_salvaged text)

-- what plain reading comes to, if nothing is told
abbrev pub plainly : Result (Salvaged × List ℕ) Stop → Result (Opened × List ℕ) Stop
plainly (Ok p) = Ok (p.0.opened, p.1)
plainly (Err why) = Err why

-- where in a file a fault is told, after so many bytes of it: by the position of the element in the
-- Segment; or it is that of the header of EBML, with which the file begins
abbrev pub StandsAfter : List ℕ → Option ℕ → ℕ → Type 0
StandsAfter text None count = count ≡ 0
StandsAfter text (Some position) count =
    (after : ℕ) × (count ≡ data_at text + after) × (position ≡ min after (2 ^ 64 - 1))

-- ---- what a call has told that was refused

-- bytes were read, and what is told is all that is told of these
pub record ToldBy (told : List ℕ → List ToldFault) (old new : Option (List ℕ))
    (faults : List ToldFault) : Type 0 where
  pub bytes : List ℕ
  pub consumed : Consumes old new bytes
  pub is : faults ≡ told bytes

-- what was told of a file whose reading has ended: all that is told of the bytes that were read,
-- and how many come before the first element of the Segment; 0 if that was not entered
pub record TellsRead (old new : Option (List ℕ)) (start : ℕ) (faults : List ToldFault)
    : Type 0 where
  pub bytes : List ℕ
  pub consumed : Consumes old new bytes
  pub is : faults ≡ told_before bytes
  pub start_is : start ≡ offset_after 0 (data_at bytes)

-- bytes were read, and were refused, with what is known of these
pub record StopsWith {X Y : Type 0} (reading : Reading X) (known : List ℕ → Y)
    (old new : Option (List ℕ)) (y : Y) : Type 0 where
  pub bytes : List ℕ
  pub consumed : Consumes old new bytes
  pub why : Stop
  pub refused : reading bytes ≡ Err why
  pub is : y ≡ known bytes
