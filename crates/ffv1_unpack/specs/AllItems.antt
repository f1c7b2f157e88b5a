-- Judging all that a file gives that may be damaged, and what comes after its end.
use Rattle.std.specs.Prelude.{◌≡◌, ◌⊎◌, ℕ, ◌<◌, Bool, List, [], ◌∷◌, ◌++◌, length, map, slice_get}
use Rattle.std.specs.Prelude.{Option}
use Rattle.std.specs.Io.KnownBytes.{Appends}
use Rattle.ffv1_wire.specs.Failures.{one_more}
use Rattle.ffv1_wire.specs.Passage.{Passage}
use Rattle.ffv1_reads.specs.Head.{Head}
use Rattle.ffv1_reads.specs.Known.{Known}
use Rattle.ffv1_reads.specs.declared.fault.FileFault.TheVariants as file_fault
use Rattle.ffv1_reads.specs.Items.{Given}
use Rattle.ffv1_files.specs.declared.notes.Notes.{Notes}
use Rattle.ffv1_video.specs.declared.profile.Profile.{Profile}
use Rattle.ffv1_video.specs.declared.fault.Fault.{Fault}
use Rattle.ffv1_video.specs.declared.fault.Fault.TheVariants as fault
use Rattle.ffv1_video.specs.Faults.{Cause, cause_of}
use Rattle.ffv1_video.specs.Faults.Cause.{Reading, Writing, Memory, Content}
use Rattle.ffv1_video.specs.Output.{Silent, WritesUpTo}
use Rattle.ffv1_video.specs.Profiles.{byte_told, scope_in}
use Rattle.ffv1_unpack.specs.Behind.{Looks}
use Rattle.ffv1_unpack.specs.ItemsEnd.{BeginsAnother, EndTold, ItemsEnd}
use Rattle.ffv1_unpack.specs.JudgedItems.{IsJudgedItem, ItemsNext, ItemsStopBy, ItemsThen}
use Rattle.ffv1_unpack.specs.JudgedItems.{ItemsWritten}
use Rattle.ffv1_unpack.specs.JudgedItems.{JudgedItem, ToldAt, faults_of, given_as, item_lines}
use Rattle.ffv1_unpack.specs.JudgedItems.{items_text}
use Rattle.ffv1_unpack.specs.Located.{LocatedFault, WritesLocated}
use Rattle.ffv1_unpack.specs.Opens.{LacksOpening}
use Rattle.ffv1_unpack.specs.Plays.{BehindReadFails}
use Rattle.ffv1_unpack.specs.Stream.{AreAll, IsStream, Stream}

-- by how a file with this head has items, and by how these end
module _ (Then : Head → List Given → ItemsNext → List ℕ → List ℕ → Type 0)
    (End : Head → List Given → (ℕ → Looks) → List ℕ → List ℕ → Type 0) (profile : Profile)
    (place : Bool) (input output : Passage) where
  -- all its items came; and then this is said of what comes after its end
  pub record CameBy (stream : Stream) (xs : List JudgedItem) (Looked : ℕ → Looks) : Type 0 where
    pub is : IsStream profile stream
    pub are : AreAll (IsJudgedItem stream.accepted) xs
    pub ends : Known input.old input.new (End stream.head (map given_as xs) Looked)

  -- all of them, with what is told after them, and what is noted
  pub record EndedBy (stream : Stream) (xs behind : List JudgedItem) (notes : Notes) : Type 0 where
    pub came : CameBy stream xs (EndTold behind notes)
    pub kept : input.after ≡ input.before

  -- all items of the file, and another file that is told after its end, at least one of these,
  -- were judged, and the text of them was written; the answer is the first fault of either kind,
  -- and what is noted of the end
  pub record DoneBy (first : Option Fault) (notes : Notes) : Type 0 where
    pub stream : Stream
    pub xs : List JudgedItem
    pub behind : List JudgedItem
    pub some : 0 < length (xs ++ behind)
    pub ended : EndedBy stream xs behind notes
    pub written : output.after ≡ output.before
    pub writes : Appends output.old output.new
        (items_text place stream.accepted.configuration (xs ++ behind))
    pub told : first ≡ slice_get (faults_of (xs ++ behind)) 0

  -- no further one was judged
  pub record FailBy (why : Cause) : Type 0 where
    pub stream : Stream
    pub is : IsStream profile stream
    pub stops : ItemsStopBy (Then stream.head) stream.accepted place input output why

  -- all came, and what comes after them was not told: the line of another file was not written
  -- whole; a read of it failed, which was counted; or memory for that line was refused
  abbrev pub EndFailBy : Cause → Type 0
  EndFailBy Writing =
      (stream : Stream) × (xs : List JudgedItem) × (end : ℕ)
      × CameBy stream xs (λ at reading text rest. (at ≡ end) × BeginsAnother reading text rest)
      × (input.after ≡ input.before) × (output.after ≡ one_more output.before)
      × WritesUpTo output.old output.new
      (length (item_lines place stream.accepted.configuration xs))
      (item_lines place stream.accepted.configuration
      (xs ++ (ToldAt file_fault.Another end ∷ [])))
  EndFailBy Reading =
      (stream : Stream) × (xs : List JudgedItem) × CameBy stream xs (λ at. BehindReadFails)
      × (input.after ≡ one_more input.before)
      × ItemsWritten (Then stream.head) stream.accepted place input output xs
  EndFailBy Memory =
      (stream : Stream) × (xs : List JudgedItem) × CameBy stream xs (λ at. BeginsAnother)
      × (input.after ≡ input.before)
      × ItemsWritten (Then stream.head) stream.accepted place input output xs
  EndFailBy Content = ⊥

  -- the last line was not written whole; memory for it was refused; or there is neither an item nor
  -- another file after the end, and nothing was written
  abbrev pub CountFailBy : Fault → Cause → Type 0
  CountFailBy f Writing =
      (stream : Stream) × (xs : List JudgedItem) × (behind : List JudgedItem) × (notes : Notes)
      × EndedBy stream xs behind notes × (output.after ≡ one_more output.before)
      × WritesUpTo output.old output.new
      (length (item_lines place stream.accepted.configuration (xs ++ behind)))
      (items_text place stream.accepted.configuration (xs ++ behind))
  CountFailBy f Reading = ⊥
  CountFailBy f Memory =
      (stream : Stream) × (xs : List JudgedItem) × (behind : List JudgedItem) × (notes : Notes)
      × EndedBy stream xs behind notes
      × ItemsWritten (Then stream.head) stream.accepted place input output (xs ++ behind)
  CountFailBy f Content =
      (f ≡ fault.NoFrames) × (stream : Stream) × (notes : Notes) × EndedBy stream [] [] notes
      × Silent output

  -- why it is refused once it is opened: no further item was judged; or what comes after them was
  -- not told; or the last line is not there
  abbrev pub StopsBy : Fault → Type 0
  StopsBy f = FailBy (cause_of f) ⊎ EndFailBy (cause_of f) ⊎ CountFailBy f (cause_of f)

-- ---- a file that is opened plainly

module _ (profile : Profile) (place : Bool) (input output : Passage) where
  abbrev pub ItemsCame : Stream → List JudgedItem → (ℕ → Looks) → Type 0
  ItemsCame = CameBy (ItemsThen profile) (ItemsEnd profile) profile place input output

  abbrev pub ItemsEnded : Stream → List JudgedItem → List JudgedItem → Notes → Type 0
  ItemsEnded = EndedBy (ItemsThen profile) (ItemsEnd profile) profile place input output

  abbrev pub ItemsDone : Option Fault → Notes → Type 0
  ItemsDone = DoneBy (ItemsThen profile) (ItemsEnd profile) profile place input output

  -- why it is refused: it was not opened; or as it is judged
  abbrev pub ItemsFault : Fault → Type 0
  ItemsFault f =
      (WritesLocated (LocatedFault (scope_in profile) input) (byte_told profile place) 0 [] f output
      × LacksOpening profile input f)
      ⊎ StopsBy (ItemsThen profile) (ItemsEnd profile) profile place input output f
