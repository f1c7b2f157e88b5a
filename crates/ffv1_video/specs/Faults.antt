-- The product's fault that stands for a crate's, and what it comes from.
use Rattle.std.specs.Prelude.{Bool, true, false}
use Rattle.ffv1_video.specs.declared.fault.Fault.{Fault}
use Rattle.ffv1_video.specs.declared.fault.Fault.TheVariants as fault
use Rattle.ffv1_range.specs.declared.fault.Fault.{Fault as RangeFault}
use Rattle.ffv1_plane.specs.declared.fault.Fault.{Fault as PlaneFault}
use Rattle.ffv1_record.specs.declared.fault.RecordFault.{RecordFault}
use Rattle.ffv1_record.specs.declared.fault.RecordFault.TheVariants as record_fault
use Rattle.ffv1_record.specs.Faults.{of_range as record_of_range, of_plane as record_of_plane}
use Rattle.ffv1_frame.specs.declared.fault.CodecFault.{CodecFault}
use Rattle.ffv1_frame.specs.declared.fault.CodecFault.TheVariants as codec_fault
use Rattle.ffv1_reads.specs.declared.fault.FileFault.{FileFault}
use Rattle.ffv1_reads.specs.declared.fault.FileFault.TheVariants as avi_fault
use Rattle.ffv1_y4m.specs.declared.fault.Fault.{Fault as Y4mFault}
use Rattle.ffv1_y4m.specs.declared.fault.Fault.TheVariants as y4m_fault

abbrev pub of_record : RecordFault → Fault
of_record record_fault.OutOfMemory = fault.OutOfMemory
of_record f = fault.Record f

abbrev pub of_range : RangeFault → Fault
of_range f = of_record (record_of_range f)

abbrev pub of_plane : PlaneFault → Fault
of_plane f = of_record (record_of_plane f)

abbrev pub of_codec : CodecFault → Fault
of_codec codec_fault.OutOfMemory = fault.OutOfMemory
of_codec f = fault.Codec f

abbrev pub of_avi : FileFault → Fault
of_avi avi_fault.OutOfMemory = fault.OutOfMemory
of_avi avi_fault.Read = fault.Read
of_avi avi_fault.Write = fault.Write
of_avi f = fault.File f

abbrev pub of_y4m : Y4mFault → Fault
of_y4m y4m_fault.OutOfMemory = fault.OutOfMemory
of_y4m y4m_fault.Read = fault.Read
of_y4m y4m_fault.Write = fault.Write
of_y4m y4m_fault.FormatChanged = fault.FormatChanged
of_y4m f = fault.Text f

-- what a fault comes from: a read that failed, a write that failed, memory that was refused, or
-- what was read
pub data Cause : Type 0 where
  Reading : Cause
  Writing : Cause
  Memory : Cause
  Content : Cause

abbrev pub cause_of : Fault → Cause
cause_of fault.Read = Reading
cause_of fault.Write = Writing
cause_of fault.OutOfMemory = Memory
cause_of f = Content

-- ---- the faults of the crates below that have no variant of their own here

abbrev pub is_record_fault : RecordFault → Bool
is_record_fault record_fault.OutOfMemory = false
is_record_fault f = true

abbrev pub is_codec_fault : CodecFault → Bool
is_codec_fault codec_fault.OutOfMemory = false
is_codec_fault f = true

abbrev pub is_text_fault : Y4mFault → Bool
is_text_fault y4m_fault.OutOfMemory = false
is_text_fault y4m_fault.Read = false
is_text_fault y4m_fault.Write = false
is_text_fault y4m_fault.FormatChanged = false
is_text_fault f = true

-- those that are of what a file's chunks or elements say
abbrev pub is_own_fault : FileFault → Bool
is_own_fault avi_fault.NotAvi = true
is_own_fault avi_fault.NoFfv1 = true
is_own_fault avi_fault.Truncated = true
is_own_fault avi_fault.ChunkTooLong = true
is_own_fault avi_fault.EmptyFrame = true
is_own_fault avi_fault.NotMatroska = true
is_own_fault avi_fault.BadElement = true
is_own_fault avi_fault.NoTracks = true
is_own_fault avi_fault.Encoded = true
is_own_fault avi_fault.Laced = true
is_own_fault avi_fault.Checksum = true
is_own_fault avi_fault.Another = true
is_own_fault f = false

-- the faults of a file itself: of its chunks or elements, and of a read of them
abbrev pub is_file_fault : Fault → Bool
is_file_fault fault.Read = true
is_file_fault (fault.File f) = is_own_fault f
is_file_fault f = false

-- the faults that a file of Matroska has beside those of AVI
abbrev pub is_matroska_fault : Fault → Bool
is_matroska_fault (fault.File avi_fault.NotMatroska) = true
is_matroska_fault (fault.File avi_fault.BadElement) = true
is_matroska_fault (fault.File avi_fault.NoTracks) = true
is_matroska_fault (fault.File avi_fault.Encoded) = true
is_matroska_fault (fault.File avi_fault.Laced) = true
is_matroska_fault (fault.File avi_fault.Checksum) = true
is_matroska_fault (fault.File avi_fault.Another) = true
is_matroska_fault f = false
