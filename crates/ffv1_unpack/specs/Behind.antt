-- What comes after the frames of a file: once they have ended, it is looked at, and what the end
-- leaves in doubt is noted.
use Rattle.std.specs.Prelude.{◌≡◌, ℕ, List, None, Ok}
use Rattle.ffv1_wire.specs.Passage.{Passage}
use Rattle.ffv1_reads.specs.Reads.{Reading}
use Rattle.ffv1_files.specs.Behind.{notes_of}
use Rattle.ffv1_files.specs.Files.{frame_read}
use Rattle.ffv1_files.specs.Noted.{NotedOf}
use Rattle.ffv1_files.specs.Places.{Place, container_of}
use Rattle.ffv1_files.specs.Readers.{Standing}
use Rattle.ffv1_files.specs.declared.notes.Notes.{Notes}
use Rattle.ffv1_video.specs.declared.profile.Profile.{Profile}
use Rattle.ffv1_video.specs.Profiles.{scope_in}

-- what is said of how notes are read, and of what is left before and after
abbrev pub Looks : Type 1
Looks = Reading Notes → List ℕ → List ℕ → Type 0

-- from this place of a file there is no further frame, and this is left after it; a reader that
-- came to the end, in that container, reads notes of it so
abbrev pub EndsAt : Looks → List ℕ → Place → List ℕ → List ℕ → Type 0
EndsAt Looked behind from text rest =
    (frame_read from text ≡ Ok (None, behind))
    × (reader : Standing) × (container_of reader.place ≡ container_of from)
    × Looked (notes_of reader) behind rest

abbrev pub EndsThen : Looks → Place → List ℕ → List ℕ → Type 0
EndsThen Looked from text rest = (behind : List ℕ) × EndsAt Looked behind from text rest

-- these are the notes
abbrev pub IsNoted : Notes → Looks
IsNoted notes reading text rest = reading text ≡ Ok (notes, rest)

-- if the bytes of the file are known, these notes are what is noted of them, as far as the profile
-- reads it
abbrev pub NotedIn : Profile → Passage → Notes → Type 0
NotedIn profile input notes = NotedOf (scope_in profile) input.old input.new notes
