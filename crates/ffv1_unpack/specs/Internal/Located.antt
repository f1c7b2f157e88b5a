-- Where a reader stands that stopped.
use Rattle.std.specs.Prelude.{ℕ, Bool, true, false, List}
use Rattle.std.specs.Prelude.{Option, Result, Ok, Err}
use Rattle.ffv1_wire.specs.Passage.{Passage}
use Rattle.ffv1_codec.specs.SliceList.{Said}
use Rattle.ffv1_files.specs.declared.container.Scope.{Scope}
use Rattle.ffv1_files.specs.Noted.{NotedOf, NotesEnd}
use Rattle.ffv1_files.specs.Readers.{Standing}
use Rattle.ffv1_files.specs.declared.notes.Notes.{Notes}
use Rattle.ffv1_reads.specs.declared.fault.FileFault.{FileFault}
use Rattle.ffv1_video.specs.declared.fault.Fault.{Fault}
use Rattle.ffv1_unpack.specs.declared.player.NextFrame.{NextFrame}
use Rattle.ffv1_unpack.specs.declared.player.NextFrame.TheVariants as next
use Rattle.ffv1_unpack.specs.declared.player.Stop.{Stop}
use Rattle.ffv1_unpack.specs.declared.player.Stop.TheVariants as stop
use Rattle.ffv1_video.specs.Faults.{of_avi}
use Rattle.ffv1_unpack.specs.Located.{LocatedFault, Stands}

-- the same of what a reader reads on, whatever it has read of a file before
abbrev pub LocatedAfter : Standing → Passage → Fault → ℕ → Type 0
LocatedAfter r p f offset = (scope : Scope) (text : Option (List ℕ)) → Stands scope text p.old r →
    LocatedFault scope (record p { old = text }) f offset

-- if a reader's offset was that of what it had read, it is so again
abbrev pub StaysReached : Standing → Standing → Passage → Type 0
StaysReached old new p = (scope : Scope) (text : Option (List ℕ)) → Stands scope text p.old old →
    Stands scope text p.new new

-- if it was so, the notes that it reads once the frames have ended are those of the file
abbrev pub ComesToEnd : Standing → Standing → Passage → Type 0
ComesToEnd old new p = (scope : Scope) (text : Option (List ℕ)) → Stands scope text p.old old →
    NotesEnd scope text p.new new

-- these notes are what is noted of the bytes of the file, whatever a reader has read of it before
abbrev pub EndsNoted : Standing → Passage → Notes → Type 0
EndsNoted old p notes = (scope : Scope) (text : Option (List ℕ)) → Stands scope text p.old old →
    NotedOf scope text p.new notes

-- where a reader stands after the next payload was read; what is noted if there is none; and if it
-- was not read, the offset at which the file is refused
abbrev pub LocatedPayload : Standing → Passage → Notes → Result Bool FileFault → Standing → ℕ →
    Type 0
LocatedPayload old p notes (Ok true) new offset = StaysReached old new p
LocatedPayload old p notes (Ok false) new offset = EndsNoted old p notes
LocatedPayload old p notes (Err f) new offset = LocatedAfter old p (of_avi f) offset

-- the same after the next frame was read and decoded, or was not
abbrev pub LocatedStep : Standing → Passage → Notes → Result (NextFrame Said) Stop →
    Standing → ℕ → Type 0
LocatedStep old p notes (Ok next.End) new offset = EndsNoted old p notes
LocatedStep old p notes (Ok next.Again) new offset = StaysReached old new p
LocatedStep old p notes (Ok (next.Coded info)) new offset = StaysReached old new p
LocatedStep old p notes (Err (stop.File f)) new offset = LocatedAfter old p (of_avi f) offset
LocatedStep old p notes (Err (stop.Payload f)) new offset = StaysReached old new p
