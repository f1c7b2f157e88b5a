-- Where a fault of a call that reads comes from, in place of the fault.
use Rattle.std.proofs.Common.{◌≡◌, ◌⊎◌, ◌∙◌, ℕ, List, Option, inl, inr}
use Rattle.std.specs.Io.KnownBytes.{IsAtEnd}
use Rattle.ffv1_wire.specs.Failures.{one_more}
use Rattle.ffv1_reads.specs.declared.fault.FileFault.{FileFault}
use Rattle.ffv1_reads.specs.declared.fault.FileFault.TheVariants as fault
use Rattle.ffv1_reads.specs.Reads.{Faults, Kept, Lacks, Reading, Refused, Wants}

-- a read that failed; memory that was refused; the end of the input, or bytes; bytes alone; or no reading has it
pub data Cause : Type 0 where
  OfRead : Cause
  OfMemory : Cause
  OfEnd : Cause
  OfBytes : Cause
  OfNone : Cause

abbrev pub cause : FileFault → Cause
cause fault.Read = OfRead
cause fault.OutOfMemory = OfMemory
cause fault.Truncated = OfEnd
cause fault.TooLarge = OfNone
cause fault.Write = OfNone
cause fault.Rate = OfNone
cause f = OfBytes

abbrev pub RefusedBy : {X : Type 0} → Cause → Reading X → Option (List ℕ) → Option (List ℕ) → ℕ → ℕ → FileFault → Type 0
RefusedBy OfRead reading old new before after f = (after ≡ one_more before) × Wants reading old new
RefusedBy OfMemory reading old new before after f = (after ≡ before) × Lacks reading old new Kept
RefusedBy OfEnd reading old new before after f = (after ≡ before) × ((Wants reading old new × IsAtEnd new) ⊎ Faults reading old new f)
RefusedBy OfBytes reading old new before after f = (after ≡ before) × Faults reading old new f
RefusedBy OfNone reading old new before after f = ⊥

-- a refusal is one by its cause
by_cause : {X : Type 0} (reading : Reading X) (old new : Option (List ℕ)) (before after : ℕ) (f : FileFault) → Refused reading old new before after f → RefusedBy (cause f) reading old new before after f
by_cause reading old new before after fault.Read why = why
by_cause reading old new before after f why = why

pub refused_by : {X : Type 0} (reading : Reading X) (old new : Option (List ℕ)) (before after : ℕ) (f : FileFault) → RefusedBy (cause f) reading old new before after f → Refused reading old new before after f
refused_by reading old new before after fault.Read why = why
refused_by reading old new before after f why = why

-- if a reading has the wants and faults of another one, it has its refusals too
module _ {X Y : Type 0} {r : Reading X} {s : Reading Y} {old now new : Option (List ℕ)} {l m : ℕ} (n : ℕ) (same : m ≡ l) (wants : Wants r now new → Wants s old new) (lacks : Lacks r now new Kept → Lacks s old new Kept) (faults : (f : FileFault) → Faults r now new f → Faults s old new f) where
  map_by : (c : Cause) (f : FileFault) → RefusedBy c r now new m n f → RefusedBy c s old new l n f
  map_by OfRead f why = (rw (← same) why.0, wants why.1)
  map_by OfMemory f why = (why.0 ∙ same, lacks why.1)
  map_by OfEnd f (counted, inl (early, ended)) = (counted ∙ same, inl (wants early, ended))
  map_by OfEnd f (counted, inr why) = (counted ∙ same, inr (faults f why))
  map_by OfBytes f why = (why.0 ∙ same, faults f why.1)
  map_by OfNone f why = absurd why

  pub refused_map : (f : FileFault) → Refused r now new m n f → Refused s old new l n f
  refused_map f why = refused_by s old new l n f (map_by (cause f) f (by_cause r now new m n f why))
