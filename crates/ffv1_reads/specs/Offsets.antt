-- Where in a file a call was refused: after elements that were read whole, in the one that comes
-- next. An element leads from a position to the next one; a chunk of an AVI is one, too.
use Rattle.std.specs.Prelude.{◌≡◌, ◌⊎◌, ℕ, ◌+◌, ◌-◌, ◌^◌, min, List, [], ◌∷◌, ◌++◌, length}
use Rattle.std.specs.Prelude.{flat_map, Option, Ok}
use Rattle.std.specs.Prelude.{Err}
use Rattle.std.specs.Io.KnownBytes.{Consumes}
use Rattle.ffv1_wire.specs.Passage.{Passage}
use Rattle.ffv1_reads.specs.Ends.{RefusedOrEnds}
use Rattle.ffv1_reads.specs.Reads.{EndsEarly, Met, Reading}
use Rattle.ffv1_reads.specs.declared.fault.FileFault.{FileFault}
use Rattle.ffv1_reads.specs.declared.fault.FileFault.TheVariants as fault

-- elements, each by its bytes, lead from one place to another: each is read whole, whatever comes
-- after it
abbrev pub Leads : {S : Type 0} → (S → Reading S) → S → List (List ℕ) → S → Type 0
Leads element from [] to = to ≡ from
Leads {S = S} element from (bytes ∷ others) to =
    (next : S) × ((rest : List ℕ) → element from (bytes ++ rest) ≡ Ok (next, rest))
    × Leads element next others to

-- their bytes, one after the other
abbrev pub all_bytes : List (List ℕ) → List ℕ
all_bytes elements = flat_map (λ (bytes : List ℕ). bytes) elements

-- elements of so many bytes were read whole, and lead from one place to another
pub record ReadsWhole {S : Type 0} (element : S → Reading S) (from : S)
    (old new : Option (List ℕ)) (to : S) (count : ℕ) : Type 0 where
  pub elements : List (List ℕ)
  pub leads : Leads element from elements to
  pub consumed : Consumes old new (all_bytes elements)
  pub counted : length (all_bytes elements) ≡ count

-- elements of so many bytes were read whole, and the one that comes next was refused
pub record StopsAfter {S : Type 0} (element : S → Reading S) (from : S) (p : Passage)
    (f : FileFault) (to : S) (count : ℕ) : Type 0 where
  pub between : Option (List ℕ)
  pub before : ReadsWhole element from p.old between to count
  pub refused : RefusedOrEnds (element to) between p.new p.before p.after f

-- an offset after so many bytes more; it is held in 8 bytes, and no greater than those say
abbrev pub offset_after : ℕ → ℕ → ℕ
offset_after offset count = min (offset + count) (2 ^ 64 - 1)

-- so many bytes were read, and whatever comes after them, they read as this value
pub record ReadsCounted {X : Type 0} (reading : Reading X) (old new : Option (List ℕ)) (x : X)
    (count : ℕ) : Type 0 where
  pub bytes : List ℕ
  pub consumed : Consumes old new bytes
  pub is : (rest : List ℕ) → reading (bytes ++ rest) ≡ Ok (x, rest)
  pub counted : length bytes ≡ count

-- bytes were read as this value, and an offset is after them what it was before them with as many
abbrev pub ReadsOn : {X : Type 0} → Reading X → Option (List ℕ) → Option (List ℕ) → X → ℕ → ℕ →
    Type 0
ReadsOn reading old new x before after =
    (count : ℕ) × ReadsCounted reading old new x count × (after ≡ offset_after before count)

-- these bytes begin with elements of so many bytes that are read whole, and the one that comes next
-- has this fault; or the bytes end inside it, which is `Truncated`
pub record FaultAt {S : Type 0} (element : S → Reading S) (from : S) (text : List ℕ)
    (f : FileFault) (count : ℕ) : Type 0 where
  pub elements : List (List ℕ)
  pub rest : List ℕ
  pub to : S
  pub leads : Leads element from elements to
  pub text_is : text ≡ all_bytes elements ++ rest
  pub counted : length (all_bytes elements) ≡ count
  pub fault_is : ((after : List ℕ) × (element to rest ≡ Err (Met f after)))
      ⊎ (EndsEarly (element to) rest × (f ≡ fault.Truncated))
