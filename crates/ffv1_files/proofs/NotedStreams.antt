-- How many further streams of an AVI begin as FFV1 video, by the bytes of the file.
use Rattle.std.proofs.Common.{◌≡◌, ◌∙◌, ℕ, Option, Some, None, Ok, List, ap, subst, sym}
use Rattle.ffv1_wire.specs.Reads.{GivesByte}
use Rattle.ffv1_reads.specs.First.{bytes_with}
use Rattle.ffv1_reads.specs.Known.{Known}
use Rattle.ffv1_reads.specs.Reads.{Read, Reading}
use Rattle.ffv1_avi.specs.Files.{others_read}
use Rattle.ffv1_avi.specs.Readers.{CountsOthers}
use Rattle.ffv1_avi.specs.declared.place.Extent.TheVariants.{FirstMovi, EveryRiff}
use Rattle.ffv1_avi.specs.declared.place.Place.{Place as AviPlace}
use Rattle.ffv1_files.specs.Noted.{streams_reached}
use Rattle.ffv1_files.specs.Places.{InAvi, InMatroska, Place}
use Rattle.ffv1_files.specs.declared.container.Scope.TheVariants as scope
use Rattle.ffv1_matroska.specs.declared.place.Place.{Place as MatroskaPlace}
use Rattle.ffv1_matroska.specs.declared.track.TrackNumbers.{TrackNumbers}
use Rattle.ffv1_files.proofs.Answering.{known_map}
use Rattle.ffv1_files.proofs.OpenedRooms.{consumed_with}

read_known : (r : Reading ℕ) (n : ℕ) (old new : Option (List ℕ)) → Read r old new n → Known old new (λ file rest. (begun : List ℕ) × (r file ≡ Ok (n, begun)))
read_known r n None new h = tt
read_known r n (Some file) None h = absurd h.consumed
read_known r n (Some file) (Some rest) h = (rest, ap r h.consumed ∙ h.is rest)

-- an AVI that was opened, of every RIFF, of which the first byte was looked at
pub avi_streams : (first : Option ℕ) (old mid new : Option (List ℕ)) (others : ℕ) (place : AviPlace) → GivesByte old mid first → CountsOthers EveryRiff (bytes_with first mid) new others → Known old new (λ file rest. streams_reached scope.Whole (InAvi place) others file)
avi_streams first old mid new others place gives (n, read, is) =
    let whole : Read (others_read EveryRiff) old new n = record { bytes = read.bytes; consumed = consumed_with first old mid new read.bytes gives read.consumed; is = read.is } in
    subst (λ (z : ℕ). Known old new (λ file rest. streams_reached scope.Whole (InAvi place) z file)) (sym is) (read_known (others_read EveryRiff) n old new whole)

-- of the first movi alone
pub movi_streams : (old new : Option (List ℕ)) (others : ℕ) (place : Place) → CountsOthers FirstMovi old new others → Known old new (λ file rest. streams_reached scope.FirstMovi place others file)
movi_streams None new others place h = tt
movi_streams (Some file) None others place (n, read, is) = absurd read.consumed
movi_streams (Some file) (Some rest) others place (n, read, is) = is

-- of a Segment nothing is said
pub segment_streams : (old new : Option (List ℕ)) (P : List ℕ → List ℕ → Type 0) (others : ℕ) (segment : Option ℕ) (track : TrackNumbers) (place : MatroskaPlace) → Known old new P → Known old new (λ file rest. streams_reached scope.Whole (InMatroska segment track place) others file)
segment_streams old new P others segment track place h = known_map old new P (λ file rest. streams_reached scope.Whole (InMatroska segment track place) others file) (λ file rest is. tt) h
