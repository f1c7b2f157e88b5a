-- Which faults are the file's own, and where those are.
use Rattle.std.proofs.Common.{◌≡◌, refl, ℕ, ◌<◌, Bool, true, false, Option, Some, None, List, [], inl, inr, ap, sym, subst, ◌∙◌, arith, append-nil}
use Rattle.std.specs.Io.KnownBytes.{Appends, Keeps}
use Rattle.ffv1_wire.specs.Passage.{Passage}
use Rattle.ffv1_record.specs.declared.fault.RecordFault.{RecordFault}
use Rattle.ffv1_record.specs.declared.fault.RecordFault.TheVariants as record_fault
use Rattle.ffv1_files.specs.declared.container.Scope.{Scope}
use Rattle.ffv1_video.specs.declared.fault.Fault.{Fault}
use Rattle.ffv1_video.specs.declared.fault.Fault.TheVariants as fault
use Rattle.ffv1_video.specs.Faults.{cause_of, is_file_fault, of_record}
use Rattle.ffv1_video.specs.Faults.Cause.{Reading, Memory, Content}
use Rattle.ffv1_unpack.specs.Located.{LocatedFault, WritesLine, located_text}

record_other : (r : RecordFault) → is_file_fault (of_record r) ≡ false
record_other record_fault.OutOfMemory = refl
record_other r = refl

other_located : (scope : Scope) (p : Passage) (f : Fault) (offset : ℕ) → is_file_fault f ≡ false → LocatedFault scope p f offset
other_located scope p f offset other own = absurd (let no : false ≡ true = sym other ∙ own in cc)

-- a fault of a record is none of the file's own, nor is memory that was refused
pub record_located : (scope : Scope) (p : Passage) (r : RecordFault) (offset : ℕ) → LocatedFault scope p (of_record r) offset
record_located scope p r offset = other_located scope p (of_record r) offset (record_other r)

pub memory_located : (scope : Scope) (p : Passage) (f : Fault) (offset : ℕ) → f ≡ fault.OutOfMemory → LocatedFault scope p f offset
memory_located scope p f offset is = other_located scope p f offset (ap is_file_fault is)

memory_other : (f : Fault) → cause_of f ≡ Memory → is_file_fault f ≡ false
memory_other fault.OutOfMemory h = refl
memory_other fault.Read h = absurd (let no : Reading ≡ Memory = h in cc)
memory_other (fault.File f) h = absurd (let no : Content ≡ Memory = h in cc)
memory_other f h = refl

-- if the fault is none of the file's own, or the byte is not asked for, there is no line
other_text : (byte : Bool) (i : ℕ) (f : Fault) (offset : ℕ) → is_file_fault f ≡ false → located_text byte i f offset ≡ []
other_text true i f offset other = rw other refl
other_text false i f offset other = refl

-- an empty line after others
pub nothing_behind : (lines : List ℕ) (p : Passage) → WritesLine lines [] p → (p.after ≡ p.before) × Appends p.old p.new lines
nothing_behind lines p h = elim h [
  | inl whole ↦ (whole.0, subst (Appends p.old p.new) (append-nil lines) whole.1)
  | inr part ↦ absurd (let none : part.1 < 0 = part.2 in omega (arith, none))
]

pub none_appended : (o n : Option (List ℕ)) → Appends o n [] → Keeps o n
none_appended None n h = tt
none_appended (Some xs) None h = absurd h
none_appended (Some xs) (Some ys) h = h ∙ append-nil xs

-- so nothing was written if memory was refused
pub memory_silent : (byte : Bool) (i : ℕ) (f : Fault) (offset : ℕ) (p : Passage) → cause_of f ≡ Memory → WritesLine [] (located_text byte i f offset) p → (p.after ≡ p.before) × Keeps p.old p.new
memory_silent byte i f offset p is h =
    let none = nothing_behind [] p (subst (λ line. WritesLine [] line p) (other_text byte i f offset (memory_other f is)) h) in
    (none.0, none_appended p.old p.new none.1)
