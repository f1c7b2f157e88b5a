-- A writer of files, frame by frame: its value, and what its calls write.
use Rattle.std.specs.Prelude.{◌≡◌, ◌⊎◌, ℕ, ◌+◌, ◌<◌, ◌≤◌, ◌==◌, if◌then◌else◌, Bool, true, false}
use Rattle.std.specs.Prelude.{List, [], ◌∷◌, ◌++◌, length, Option, Some, None, Result, Ok, Err}
use Rattle.std.specs.Io.KnownBytes.{Appends, Keeps}
use Rattle.ffv1_wire.specs.Failures.{one_more}
use Rattle.ffv1_wire.specs.Passage.{Passage}
use Rattle.ffv1_wire.specs.Patches.{Patches, PatchesBeginning}
use Rattle.ffv1_wire.specs.Seeks.{Overwriting}
use Rattle.ffv1_wire.specs.Writes.{AppendsBeginning}
use Rattle.ffv1_reads.specs.Head.{Head}
use Rattle.ffv1_reads.specs.Writes.{Writes}
use Rattle.ffv1_reads.specs.declared.fault.FileFault.{FileFault}
use Rattle.ffv1_reads.specs.declared.fault.FileFault.TheVariants as fault
use Rattle.ffv1_matroska.specs.Rates.{IsTimed, Rate}
use Rattle.ffv1_matroska.specs.Written.{cluster_element, cue_places, cues_element, end_place}
use Rattle.ffv1_matroska.specs.Written.{opening, tracks_element}
use Rattle.ffv1_matroska.specs.WrittenPlaces.{cluster_bytes, last_place, stride_of}
use Rattle.ffv1_matroska.specs.declared.track_entry.TrackEntry.{TrackEntry}
use Rattle.ffv1_matroska.specs.declared.write.opening.Finish.{Finish}

-- a writer: what the file says of its frames; how many there were, and where their Clusters end;
-- the places of every stride-th Cluster; and whether a write has failed
pub record Writing : Type 0 where
  pub head : Head
  pub details : TrackEntry
  pub count : ℕ
  pub at : ℕ
  pub stride : ℕ
  pub places : List ℕ
  pub failed : Bool

-- the writer that has written these frames
abbrev pub writing_of : Head → TrackEntry → List (List ℕ) → Writing
writing_of head details frames = record {
  head = head;
  details = details;
  count = length frames;
  at = end_place head details frames;
  stride = stride_of (length frames);
  places = cue_places head details frames;
  failed = false;
}

-- the rate of a head
abbrev pub rate_in : Head → Rate
rate_in head = record { rate = head.rate; scale = head.scale }

-- a new writer; refused exactly if its rate does not come back, or if memory was refused
abbrev pub Makes : Head → TrackEntry → Result Writing FileFault → Type 0
Makes head details (Ok w) = IsTimed (rate_in head) × (w ≡ writing_of head details [])
Makes head details (Err fault.Rate) = IsTimed (rate_in head) → ⊥
Makes head details (Err fault.OutOfMemory) = IsTimed (rate_in head)
Makes head details (Err f) = ⊥

-- what a frame adds to the file that has so many before it: with the first one, all that comes
-- before the Clusters
unfoldable pub piece : Head → TrackEntry → ℕ → List ℕ → List ℕ
piece head details count frame =
    if count == 0
    then opening head None ++ tracks_element head details ++ cluster_element 0 frame
    else cluster_element count frame

abbrev pub piece_of : Writing → List ℕ → List ℕ
piece_of w frame = piece w.head w.details w.count frame

-- the same writer after a failed write
abbrev pub failed_at : Writing → Writing
failed_at w = record {
  head = w.head;
  details = w.details;
  count = w.count;
  at = w.at;
  stride = w.stride;
  places = w.places;
  failed = true;
}

-- the writer that has written a frame more
pub record Grows (old : Writing) (frame : List ℕ) (new : Writing) : Type 0 where
  pub head_is : new.head ≡ old.head
  pub details_is : new.details ≡ old.details
  pub counted : new.count ≡ old.count + 1
  pub ends : new.at ≡ old.at + cluster_bytes + length frame
  pub lives : new.failed ≡ false
  pub grown : (frames : List (List ℕ)) → old ≡ writing_of old.head old.details frames →
      new ≡ writing_of old.head old.details (frames ++ frame ∷ [])

-- a frame was put; or its Cluster would end too far, and nothing was written; or a write failed
abbrev pub Puts : Passage → Writing → List ℕ → Writing → Result (Unit {0}) FileFault → Type 0
Puts p old frame new (Ok u) =
    (old.at + cluster_bytes + length frame ≤ last_place)
    × Writes p (piece_of old frame) (Ok u) × Grows old frame new
Puts p old frame new (Err fault.TooLarge) =
    (last_place < old.at + cluster_bytes + length frame)
    × (p.after ≡ p.before) × Keeps p.old p.new × (new ≡ old)
Puts p old frame new (Err fault.Write) =
    (old.at + cluster_bytes + length frame ≤ last_place)
    × Writes p (piece_of old frame) (Err fault.Write) × (new ≡ failed_at old)
Puts p old frame new (Err f) = ⊥

-- the Cues of the frames, and the opening once all is written
abbrev pub cues_in : Writing → List ℕ
cues_in w = cues_element w.stride w.places

abbrev pub finish_in : Writing → Finish
finish_in w = record { size = w.at + length (cues_in w); cues = w.at; count = w.count }

abbrev pub finished_opening : Writing → List ℕ
finished_opening w = opening w.head (Some (finish_in w))

-- the bytes before the Segment's content
abbrev pub segment_place : ℕ
segment_place = 52

-- how many bytes the file has
abbrev pub file_bytes : Writing → ℕ
file_bytes w = segment_place + w.at + length (cues_in w)

-- the Cues were written, and then
abbrev pub AfterCues : Passage → Writing → (Option (List ℕ) → Type 0) → Type 0
AfterCues p w After = (mid : Option (List ℕ)) × Appends p.old mid (cues_in w) × After mid

-- the Cues were written, and the opening was written over, or was not if that can't be done; or a
-- write failed: a beginning of the Cues was written, or all of them and some of the opening over
-- what was there
abbrev pub Finishes : Passage → Writing → Result Bool FileFault → Type 0
Finishes p w (Ok true) =
    (p.after ≡ p.before)
    × AfterCues p w (λ mid. Patches mid p.new (file_bytes w) (finished_opening w))
Finishes p w (Ok false) = (p.after ≡ p.before) × AfterCues p w (λ mid. Keeps mid p.new)
Finishes p w (Err fault.Write) =
    (p.after ≡ one_more p.before)
    × (AppendsBeginning p.old p.new (cues_in w)
    ⊎ AfterCues p w (λ mid. PatchesBeginning mid p.new (file_bytes w) (finished_opening w)))
Finishes p w (Err f) = ⊥

-- once Cues were written, the output was asked to be written over by the finished opening, as many
-- bytes before its end as the file has, and this is what it answered
pub record Asks {S : Type 0} (contents : S → Option (List ℕ)) (overwrites : Overwriting S) (old : S)
    (w : Writing) (done : Bool) (new : S) : Type 0 where
  pub cued : S
  pub cues : Appends (contents old) (contents cued) (cues_in w)
  pub does : overwrites cued (file_bytes w) (finished_opening w) (Ok done) new
