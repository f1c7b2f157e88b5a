-- Why a file is not read on, as a fault of the product.
use Rattle.std.proofs.Common.{refl, ℕ, Option, Some, None, List, inl, inr, ap}
use Rattle.ffv1_wire.specs.Passage.{Passage}
use Rattle.ffv1_reads.specs.Known.{Known}
use Rattle.ffv1_reads.specs.Reads as avi
use Rattle.ffv1_reads.specs.declared.fault.FileFault.{FileFault}
use Rattle.ffv1_reads.specs.declared.fault.FileFault.TheVariants as avi_fault
use Rattle.ffv1_files.specs.Answers as files
use Rattle.ffv1_video.specs.Faults.{of_avi}
use Rattle.ffv1_unpack.specs.Internal.Told.{FaultsKnown, FileStops}

module _ {X : Type 0} (reading : avi.Reading X) where
  faults_known : (old new : Option (List ℕ)) (f : FileFault) → Known old new (λ text rest. files.FaultsRead reading text rest f) → FaultsKnown reading old new (of_avi f)
  faults_known None new f h = tt
  faults_known (Some text) None f h = absurd h
  faults_known (Some text) (Some rest) f (inl (w, wants, over, is)) = inl (w, wants, over, ap of_avi is)
  faults_known (Some text) (Some rest) f (inr h) = inr (f, h, refl)

  pub file_stops : (ends : files.Endings X) (p : Passage) (f : FileFault) → files.StopsReading ends reading p f → FileStops ends reading p (of_avi f)
  file_stops ends p avi_fault.OutOfMemory h = h
  file_stops ends p avi_fault.NotAvi h = (h.0, faults_known p.old p.new avi_fault.NotAvi h.1)
  file_stops ends p avi_fault.NoFfv1 h = (h.0, faults_known p.old p.new avi_fault.NoFfv1 h.1)
  file_stops ends p avi_fault.Truncated h = (h.0, faults_known p.old p.new avi_fault.Truncated h.1)
  file_stops ends p avi_fault.ChunkTooLong h = (h.0, faults_known p.old p.new avi_fault.ChunkTooLong h.1)
  file_stops ends p avi_fault.EmptyFrame h = (h.0, faults_known p.old p.new avi_fault.EmptyFrame h.1)
  file_stops ends p avi_fault.TooLarge h = absurd h
  file_stops ends p avi_fault.Read h = h
  file_stops ends p avi_fault.Write h = absurd h
  file_stops ends p avi_fault.NotMatroska h = (h.0, faults_known p.old p.new avi_fault.NotMatroska h.1)
  file_stops ends p avi_fault.BadElement h = (h.0, faults_known p.old p.new avi_fault.BadElement h.1)
  file_stops ends p avi_fault.NoTracks h = (h.0, faults_known p.old p.new avi_fault.NoTracks h.1)
  file_stops ends p avi_fault.Encoded h = (h.0, faults_known p.old p.new avi_fault.Encoded h.1)
  file_stops ends p avi_fault.Laced h = (h.0, faults_known p.old p.new avi_fault.Laced h.1)
  file_stops ends p avi_fault.Checksum h = (h.0, faults_known p.old p.new avi_fault.Checksum h.1)
  file_stops ends p avi_fault.Rate h = absurd h
  file_stops ends p avi_fault.Another h = (h.0, faults_known p.old p.new avi_fault.Another h.1)
