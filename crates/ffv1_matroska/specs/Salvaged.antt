-- A file that may be damaged, up to where its frames begin. A CRC-32 that is not the sum, and an
-- element that may not stand in a Segment, are faults that are told: the content is taken as it is,
-- and the element is passed. Any other fault is one of the file.
use Rattle.std.specs.Prelude.{ℕ, suc, zero, ◌-◌, ◌^◌, ◌==◌, ◌≡◌, min, nat_lt, if◌then◌else◌}
use Rattle.std.specs.Prelude.{List, [], ◌∷◌, ◌++◌, length, Option, Some, None, Result, Ok, Err}
use Rattle.std.specs.Prelude.{Bool, true, false}
use Rattle.ffv1_reads.specs.Reads.{Reading, Stop, given, passed, refused, ◌>>=◌}
use Rattle.ffv1_reads.specs.declared.fault.FileFault.{FileFault}
use Rattle.ffv1_reads.specs.declared.fault.FileFault.TheVariants as fault
use Rattle.ffv1_ebml.specs.Contents.{Part, content_told, first_part}
use Rattle.ffv1_ebml.specs.Elements.{content_passed}
use Rattle.ffv1_ebml.specs.Tried.{tried}
use Rattle.ffv1_ebml.specs.declared.element.Element.{Element}
use Rattle.ffv1_matroska.specs.Opened.{Opened, ebml, in_cluster, told, tracks}
use Rattle.ffv1_matroska.specs.Opening.{content_kept, header_in, ident_read, segment_begun}
use Rattle.ffv1_matroska.specs.Opening.{segment_entered, top_size}
use Rattle.ffv1_matroska.specs.Places.{amount, ended, segment_at}
use Rattle.ffv1_matroska.specs.Segments.{cluster, header_read, is_filler, is_section}
use Rattle.ffv1_matroska.specs.Tracks.{Track, track_in}
use Rattle.ffv1_matroska.specs.declared.place.Place.{Place}
use Rattle.ffv1_matroska.specs.declared.told.ToldFault.{ToldFault}

-- ---- faults that are told

-- those that may be told
abbrev pub may_be_told : FileFault → Bool
may_be_told fault.Checksum = true
may_be_told fault.BadElement = true
may_be_told f = false

-- the most that are told
abbrev pub most_told : ℕ
most_told = 16

-- one more, if there is one, at this position
abbrev pub told_more : List ToldFault → Option FileFault → Option ℕ →
    Result (List ToldFault) FileFault
told_more faults None position = Ok faults
told_more faults (Some f) position =
    if nat_lt (length faults) most_told
    then Ok (faults ++ (record { fault = f; position = position } ∷ [])) else Err f

-- a CRC-32 that is not the sum is a value
abbrev pub sum_told : Result (Unit {0}) FileFault → Result (Option FileFault) FileFault
sum_told (Ok u) = Ok None
sum_told (Err fault.Checksum) = Ok (Some fault.Checksum)
sum_told (Err f) = Err f

-- ---- content in memory

-- what comes after the first element
abbrev pub behind_part : List ℕ → Result (Option Part) FileFault → List ℕ
behind_part content (Ok (Some p)) = p.rest
behind_part content (Ok None) = content
behind_part content (Err f) = content

abbrev pub part_judged : List ℕ → Result (Unit {0}) FileFault → List ℕ
part_judged content (Err fault.Checksum) = behind_part content (first_part content)
part_judged content r = content

abbrev pub fault_judged : Result (Unit {0}) FileFault → Option FileFault
fault_judged (Err fault.Checksum) = Some fault.Checksum
fault_judged r = None

-- content without the CRC-32 that it begins with, if that is not the sum of what comes after it;
-- and that fault
unfoldable pub sound_part : List ℕ → List ℕ
sound_part content = part_judged content (content_told content)

unfoldable pub sum_fault : List ℕ → Option FileFault
sum_fault content = fault_judged (content_told content)

-- ---- elements

-- the header of EBML, and whether its CRC-32 is told
unfoldable pub ebml_salvaged : Reading (Option FileFault)
ebml_salvaged = ident_read ebml >>= λ _. (top_size >>= λ size. (content_kept size >>= λ content.
    (told (header_in (sound_part content)) >>= λ _. given (sum_fault content))))

-- Tracks: their track, and whether their CRC-32 is told
unfoldable pub tracks_salvaged : Option ℕ → Reading (Track × Option FileFault)
tracks_salvaged size = content_kept size >>= λ content.
    (told (track_in (sound_part content)) >>= λ track. given (track, sum_fault content))

-- so many bytes of content, whose CRC-32 is told if it is not the sum
unfoldable pub content_salvaged : ℕ → Reading (Option FileFault)
content_salvaged size = tried (content_passed size) >>= λ r. told (sum_told r)

-- an element of the Segment after its header, and what is told of it; its size must be known
unfoldable pub element_salvaged : ℕ → Option ℕ → Reading (Option FileFault)
element_salvaged ident None = refused fault.BadElement
element_salvaged ident (Some size) =
    if is_section ident then content_salvaged size
    else (passed size >>= λ _.
    given (if is_filler ident then None else Some fault.BadElement))

-- Tracks, if there were none yet; or another element
abbrev pub tracks_or_salvaged : Option Track → ℕ → Option ℕ →
    Reading (Option Track × Option FileFault)
tracks_or_salvaged None ident size =
    if ident == tracks then (tracks_salvaged size >>= λ p. given (Some p.0, p.1))
    else (element_salvaged ident size >>= λ f. given (None, f))
tracks_or_salvaged (Some track) ident size =
    element_salvaged ident size >>= λ f. given (Some track, f)

-- ---- the Segment

-- the Segment position of a place: how many bytes of the Segment come before it (RFC 9559, 16.3)
abbrev pub position_at : Place → Place → ℕ
position_at begin here = min (amount begin - amount here) (2 ^ 64 - 1)

-- where the frames of a track begin: the place, and where the Segment was read up to; and the
-- faults that are told before
pub record Begun : Type 0 where
  pub track : Track
  pub place : Place
  pub here : Place
  pub told : List ToldFault

unfoldable pub salvage_begun : Option Track → Place → Place → List ToldFault → Reading Begun
salvage_begun None place here faults = refused fault.NoTracks
salvage_begun (Some track) place here faults =
    given (record { track = track; place = place; here = here; told = faults })

-- after an element, of which this may be told
abbrev pub told_then : (Option Track → Place → List ToldFault → Reading Begun) → Place → ℕ →
    List ToldFault → Option Track × Option FileFault → Reading Begun
told_then on next position faults p =
    told (told_more faults p.1 (Some position)) >>= λ now. on p.0 next now

-- an element of the Segment after its header, and those after it, up to the first Cluster or the
-- end of the Segment
abbrev pub salvage_or_begun : (Option Track → Place → List ToldFault → Reading Begun) → Place →
    Option Track → Place → List ToldFault → Option Element → Reading Begun
salvage_or_begun on begin found here faults None = salvage_begun found ended here faults
salvage_or_begun on begin found here faults (Some e) =
    if e.ident == cluster
    then salvage_begun found (in_cluster (segment_at here false e.left) e.size)
    (in_cluster (segment_at here false e.left) e.size) faults
    else (tracks_or_salvaged found e.ident e.size
    >>= told_then on (segment_at here false e.left) (position_at begin here) faults)

-- after at most so many elements
unfoldable pub salvage_up_to : ℕ → Place → Option Track → Place → List ToldFault → Reading Begun
salvage_up_to zero begin found here faults = refused fault.NoTracks
salvage_up_to (suc most) begin found here faults =
    header_read here >>= salvage_or_begun (salvage_up_to most begin) begin found here faults

-- a Segment from its beginning on
abbrev pub salvage_from : Place → List ToldFault → Reading Begun
salvage_from begin faults = salvage_up_to (suc (amount begin)) begin None begin faults

-- ---- a file

-- what is known of it when its frames begin, the Segment position where they do, and the faults
-- that are told before
pub record Salvaged : Type 0 where
  pub opened : Opened
  pub begun : ℕ
  pub told : List ToldFault

abbrev pub salvaged_as : Option ℕ → Begun → Salvaged
salvaged_as size b = record {
  opened = record { track = b.track; segment = size; place = b.place };
  begun = position_at (segment_begun size) b.here;
  told = b.told;
}

abbrev pub segment_salvaged : List ToldFault → Option ℕ → Reading Salvaged
segment_salvaged faults size = salvage_from (segment_begun size) faults >>= λ b.
    given (salvaged_as size b)

-- a file that may be damaged, up to where its frames begin
unfoldable pub salvage_read : Reading Salvaged
salvage_read = ebml_salvaged >>= λ f. (told (told_more [] f None) >>= λ faults.
    (segment_entered >>= segment_salvaged faults))

-- its frames do not begin: the Segment, or the input, has ended before
abbrev pub NeverBegins : Salvaged → Type 0
NeverBegins s = s.opened.place ≡ ended

-- how many bytes a reading took
abbrev pub bytes_taken : {X : Type 0} → List ℕ → Result (X × List ℕ) Stop → ℕ
bytes_taken text (Ok p) = length text - length p.1
bytes_taken text (Err why) = 0

-- how many bytes of a file come before the first element of its Segment
unfoldable pub data_at : List ℕ → ℕ
data_at text = bytes_taken text ((ebml_salvaged >>= λ _. segment_entered) text)
