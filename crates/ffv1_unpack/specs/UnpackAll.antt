-- What `unpack_all` writes, and why it is refused.
use Rattle.std.specs.Prelude.{◌≡◌, ◌⊎◌, ◌-◌, ◌^◌, ℕ, ◌<◌, Bool, true, false, List, [], ◌∷◌, ◌++◌}
use Rattle.std.specs.Prelude.{length, map, slice_get, Option}
use Rattle.std.specs.Io.KnownBytes.{Appends}
use Rattle.ffv1_range.specs.Counts.{saturated}
use Rattle.ffv1_wire.specs.Failures.{one_more}
use Rattle.ffv1_wire.specs.Passage.{Passage}
use Rattle.ffv1_wire.specs.Runs.{Line}
use Rattle.ffv1_codec.specs.Outcome.{OffersLine}
use Rattle.ffv1_reads.specs.Head.{Head}
use Rattle.ffv1_reads.specs.Known.{Known}
use Rattle.ffv1_reads.specs.declared.fault.FileFault.TheVariants as file_fault
use Rattle.ffv1_reads.specs.Items.{Given}
use Rattle.ffv1_matroska.specs.declared.told.ToldFault.{ToldFault}
use Rattle.ffv1_files.specs.declared.course.Course.TheVariants as course
use Rattle.ffv1_files.specs.declared.notes.Notes.{Notes}
use Rattle.ffv1_video.specs.declared.profile.Profile.{Profile}
use Rattle.ffv1_video.specs.declared.fault.Fault.{Fault}
use Rattle.ffv1_video.specs.declared.fault.Fault.TheVariants as fault
use Rattle.ffv1_video.specs.Faults.{Cause, cause_of}
use Rattle.ffv1_video.specs.Faults.Cause.{Reading, Writing, Memory, Content}
use Rattle.ffv1_video.specs.Output.{Silent, WritesUpTo}
use Rattle.ffv1_unpack.specs.declared.judging.JudgedCounts.{JudgedCounts}
use Rattle.ffv1_unpack.specs.JudgedItems.{IsJudgedItem, ItemIs, ItemsNext, ItemsOver, ItemsStay}
use Rattle.ffv1_unpack.specs.JudgedItems.{ItemsThen, ItemsWant, JudgedItem, ToldAt, frames_of}
use Rattle.ffv1_unpack.specs.JudgedItems.{given_as}
use Rattle.ffv1_unpack.specs.Behind.{Looks, NotedIn}
use Rattle.ffv1_unpack.specs.Containers.{IsReadOn}
use Rattle.ffv1_unpack.specs.ItemsEnd.{BeginsAnother, EndTold, ItemsEnd}
use Rattle.ffv1_unpack.specs.Plays.{BehindReadFails, FrameHasFault, FrameReadFails}
use Rattle.ffv1_unpack.specs.Plays.{NextPayloadLacks}
use Rattle.ffv1_unpack.specs.Salvaged.{picture_for, salvage_faults, salvage_lines, shown}
use Rattle.ffv1_unpack.specs.Stream.{AreAll, CodedFrame, IsStream, Stream}
use Rattle.ffv1_unpack.specs.ToldItems.{AgainLacksBy, HasToldFault, ToldFailsBy, ToldItemsEnd}
use Rattle.ffv1_unpack.specs.ToldItems.{ToldItemsThen, ToldOpens, ToldStops, told_lines}
use Rattle.ffv1_unpack.specs.Unpack.{LacksUnpacking}
use Rattle.ffv1_unpack.specs.Unpacked.{HasText, LacksText, is_ppm_stream, rows_by, text_of}

-- ---- what comes after items, by a course that reads on or by plain reading

-- a read of the next one failed
abbrev pub ReadFailsNext : ItemsNext
ReadFailsNext from course.Plain at rest = FrameReadFails from at rest
ReadFailsNext from c at rest = ItemsWant from c at rest

-- memory was refused for a payload, of which more bytes were wanted
abbrev pub LacksNext : ItemsNext
LacksNext from course.Plain at rest = NextPayloadLacks from at rest
LacksNext from c at rest = ItemsWant from c at rest

-- the file has this fault, which ends the reading of an AVI of which the first movi alone is read
abbrev pub FaultNext : Fault → ItemsNext
FaultNext f from course.Plain at rest = FrameHasFault f from at rest
FaultNext f from c at rest = ⊥

-- ---- how far it goes, by how bytes have items

module _ (Has : List Given → ItemsNext → List ℕ → List ℕ → Type 0) (s : Stream)
    (input lines output : Passage) where
  -- these came, and then this
  pub record SalvageGoes (xs : List JudgedItem) (Next : ItemsNext) : Type 0 where
    pub are : AreAll (IsJudgedItem s.accepted) xs
    pub has : Known input.old input.new (Has (map given_as xs) Next)

  -- the lines of these were written
  pub record LinesTold (xs : List JudgedItem) : Type 0 where
    pub written : lines.after ≡ lines.before
    pub writes : Appends lines.old lines.new (salvage_lines (is_ppm_stream s) xs)

  -- the pictures of these were written
  pub record PicturesShown (xs : List JudgedItem) : Type 0 where
    pub written : output.after ≡ output.before
    pub writes : Appends output.old output.new (text_of s (shown xs))

  -- they are all
  pub record SalvagesAll (xs : List JudgedItem) : Type 0 where
    pub goes : SalvageGoes xs (ItemsOver (length xs))
    pub told : LinesTold xs
    pub showed : PicturesShown xs
    pub kept : input.after ≡ input.before

  -- these came, and then this, and all of them that is written was
  pub record SalvagedThen (xs : List JudgedItem) (Next : ItemsNext) : Type 0 where
    pub goes : SalvageGoes xs Next
    pub told : LinesTold xs
    pub showed : PicturesShown xs

  -- the line of the item that comes after these was not written whole, and no picture for it
  pub record LineCut (xs : List JudgedItem) (x : JudgedItem) : Type 0 where
    pub written : lines.after ≡ one_more lines.before
    pub writes : WritesUpTo lines.old lines.new
        (length (salvage_lines (is_ppm_stream s) xs))
        (salvage_lines (is_ppm_stream s) (xs ++ (x ∷ [])))
    pub showed : PicturesShown xs

  -- of its text, by whether it is an image: a beginning was written; or of an image the rows before
  -- one that was not written whole, which a line was to bring
  abbrev pub PictureWritten : Bool → List JudgedItem → JudgedItem → Type 0
  PictureWritten false xs x = WritesUpTo output.old output.new (length (text_of s (shown xs)))
      (text_of s (shown (xs ++ (x ∷ []))))
  PictureWritten true xs x =
      (f : CodedFrame) × (picture_for xs x ≡ f ∷ []) × (ls : List Line) × (next : Line)
      × OffersLine s.accepted f.payload ls next
      × WritesUpTo output.old output.new
      (length (text_of s (shown xs) ++ rows_by true s ls))
      (text_of s (shown xs) ++ rows_by true s (ls ++ (next ∷ [])))

  -- its line was written, and the picture for it not whole
  pub record PictureCut (xs : List JudgedItem) (x : JudgedItem) : Type 0 where
    pub told : LinesTold (xs ++ (x ∷ []))
    pub written : output.after ≡ one_more output.before
    pub writes : PictureWritten (is_ppm_stream s) xs x

  -- why it goes no further, by the cause: a write failed, which was counted; a read of the next
  -- item failed, which was counted; memory was refused for the next payload or the line of the next
  -- item, or before the first item for what a picture is written from; or the file has this fault
  abbrev pub SalvageStopsBy : Fault → Cause → Type 0
  SalvageStopsBy f Writing =
      (xs : List JudgedItem) × (x : JudgedItem) × IsJudgedItem s.accepted x
      × SalvageGoes xs (ItemIs (given_as x)) × (input.after ≡ input.before)
      × (LineCut xs x ⊎ PictureCut xs x)
  SalvageStopsBy f Reading =
      (xs : List JudgedItem) × SalvagedThen xs ReadFailsNext
      × (input.after ≡ one_more input.before)
  SalvageStopsBy f Memory =
      (input.after ≡ input.before)
      × (((xs : List JudgedItem) × SalvagedThen xs LacksNext)
      ⊎ ((xs : List JudgedItem) × (x : JudgedItem) × IsJudgedItem s.accepted x
      × SalvagedThen xs (ItemIs (given_as x)))
      ⊎ SalvagedThen [] ItemsStay)
  SalvageStopsBy f Content =
      (xs : List JudgedItem) × SalvagedThen xs (FaultNext f) × (input.after ≡ input.before)

-- how many frames there were, how many faults of either kind, and the first of them
pub record AreSalvageCounts (ppm : Bool) (counts : JudgedCounts) (xs : List JudgedItem)
    : Type 0 where
  pub frames : counts.frames ≡ saturated (length (frames_of xs))
  pub faults : counts.faults ≡ saturated (length (salvage_faults ppm xs))
  pub first : counts.first ≡ slice_get (salvage_faults ppm xs) 0

-- ---- a whole file

-- by how a file with this head has items, and by how these end
module _ (Then : Head → List Given → ItemsNext → List ℕ → List ℕ → Type 0)
    (End : Head → List Given → (ℕ → Looks) → List ℕ → List ℕ → Type 0) (profile : Profile)
    (input lines output : Passage) where
  -- these items are all that the file gives; and then this is said of what comes after its end
  pub record SalvagedBy (stream : Stream) (xs : List JudgedItem) (Looked : ℕ → Looks)
      : Type 0 where
    pub is : IsStream profile stream
    pub text : HasText stream
    pub are : AreAll (IsJudgedItem stream.accepted) xs
    pub ends : Known input.old input.new (End stream.head (map given_as xs) Looked)
    pub showed : PicturesShown (Then stream.head) stream input lines output xs

  -- all items of the file, and another file that is told after its end, at least one of these,
  -- were judged, and their pictures and lines were written
  pub record SalvageDoneBy (counts : JudgedCounts) (notes : Notes) : Type 0 where
    pub stream : Stream
    pub xs : List JudgedItem
    pub behind : List JudgedItem
    pub some : 0 < length (xs ++ behind)
    pub all : SalvagedBy stream xs (EndTold behind notes)
    pub told : LinesTold (Then stream.head) stream input lines output (xs ++ behind)
    pub kept : input.after ≡ input.before
    pub counted : AreSalvageCounts (is_ppm_stream stream) counts (xs ++ behind)

  -- it goes no further
  pub record SalvageFailsBy (f : Fault) (why : Cause) : Type 0 where
    pub stream : Stream
    pub is : IsStream profile stream
    pub text : HasText stream
    pub stops : SalvageStopsBy (Then stream.head) stream input lines output f why

  -- all items came, and what comes after them was not told, by the cause: the line of another
  -- file was not written whole; a read of it failed, which was counted; or memory for that line was
  -- refused
  abbrev pub SalvageEndFailsBy : Cause → Type 0
  SalvageEndFailsBy Writing =
      (stream : Stream) × (xs : List JudgedItem) × (end : ℕ)
      × SalvagedBy stream xs
      (λ at reading text rest. (at ≡ end) × BeginsAnother reading text rest)
      × (input.after ≡ input.before) × (lines.after ≡ one_more lines.before)
      × WritesUpTo lines.old lines.new (length (salvage_lines (is_ppm_stream stream) xs))
      (salvage_lines (is_ppm_stream stream) (xs ++ (ToldAt file_fault.Another end ∷ [])))
  SalvageEndFailsBy Reading =
      (stream : Stream) × (xs : List JudgedItem) × SalvagedBy stream xs (λ at. BehindReadFails)
      × (input.after ≡ one_more input.before)
      × LinesTold (Then stream.head) stream input lines output xs
  SalvageEndFailsBy Memory =
      (stream : Stream) × (xs : List JudgedItem) × SalvagedBy stream xs (λ at. BeginsAnother)
      × (input.after ≡ input.before)
      × LinesTold (Then stream.head) stream input lines output xs
  SalvageEndFailsBy Content = ⊥

  -- there is neither a frame nor a fault
  pub record SalvageNoneBy : Type 0 where
    pub stream : Stream
    pub notes : Notes
    pub all : SalvagedBy stream [] (EndTold [] notes)
    pub told : LinesTold (Then stream.head) stream input lines output []
    pub kept : input.after ≡ input.before

  -- why it is refused once it is opened: it goes no further; or what comes after its items was not
  -- told; or there is nothing
  abbrev pub SalvageRefused : Fault → Type 0
  SalvageRefused f =
      SalvageFailsBy f (cause_of f) ⊎ SalvageEndFailsBy (cause_of f)
      ⊎ ((f ≡ fault.NoFrames) × SalvageNoneBy)

-- ---- a file that is opened plainly

module _ (profile : Profile) (input lines output : Passage) where
  -- all of it was judged; of an AVI of which the first movi alone is read it is noted what is noted
  -- of the bytes of the file, if no more items come than are read
  abbrev pub UnpackedPlainly : JudgedCounts → Notes → Type 0
  UnpackedPlainly counts notes =
      (done : SalvageDoneBy (ItemsThen profile) (ItemsEnd profile) profile input lines output
      counts notes)
      × (IsReadOn false profile input.old →
      NotedIn profile input notes ⊎ (length done.xs ≡ 2 ^ 64 - 1))

  -- why it is refused, which no fault of a payload is a reason for: the file is not opened for
  -- that, and nothing was written; or as it is judged
  abbrev pub PlainlyRefused : Fault → Type 0
  PlainlyRefused f =
      (Silent lines × Silent output × LacksUnpacking profile input f)
      ⊎ SalvageRefused (ItemsThen profile) (ItemsEnd profile) profile input lines output f

-- ---- a Matroska file that has a fault plainly that may be told: what is told before its frames
-- comes first

-- it was opened, with these faults, and its pictures have no text
pub record ToldLacksText (profile : Profile) (input : Passage) (f : Fault) : Type 0 where
  pub stream : Stream
  pub start : ℕ
  pub faults : List ToldFault
  pub opens : ToldOpens profile input stream start faults
  pub lacks : LacksText stream f

module _ (profile : Profile) (input lines output : Passage) where
  -- what is told was written, and memory was refused for what a picture is written from
  abbrev pub ToldLacksBy : Cause → Type 0
  ToldLacksBy Writing = ⊥
  ToldLacksBy Reading = ⊥
  ToldLacksBy Memory =
      (stream : Stream) × (start : ℕ) × (faults : List ToldFault)
      × ToldOpens profile input stream start faults × HasText stream
      × (lines.after ≡ lines.before) × Appends lines.old lines.new (told_lines start faults)
      × Silent output
  ToldLacksBy Content = ⊥

  -- why it is refused: as it is judged; or there is no picture, and what is told was written, or
  -- was not, or it was not opened, or its pictures have no text
  abbrev pub AgainRefused : Fault → Type 0
  AgainRefused f =
      SalvageRefused ToldItemsThen ToldItemsEnd profile input lines output f
      ⊎ ToldLacksBy (cause_of f)
      ⊎ (ToldFailsBy profile input lines (cause_of f) × Silent output)
      ⊎ (AgainLacksBy profile input lines (cause_of f) × Silent output)
      ⊎ (ToldLacksText profile input f × Silent lines × Silent output)

  -- all that the file gives was judged; if it can't be opened plainly, that and what is told before
  -- its frames
  abbrev pub UnpackAllDone : JudgedCounts → Notes → Type 0
  UnpackAllDone counts notes =
      UnpackedPlainly profile input lines output counts notes
      ⊎ (HasToldFault profile input
      × SalvageDoneBy ToldItemsThen ToldItemsEnd profile input lines output counts notes)

  abbrev pub UnpackAllStops : Fault → Type 0
  UnpackAllStops f =
      PlainlyRefused profile input lines output f
      ⊎ (HasToldFault profile input × AgainRefused f)
      ⊎ (ToldStops profile false input lines f × Silent output)
