-- What a call on known bytes answers.
use Rattle.std.proofs.Common.{◌≡◌, ℕ, Option, Some, None, Ok, Err, List, [], ◌++◌, append-nil, ap, ◌∙◌, refl, inl, inr}
use Rattle.ffv1_reads.specs.declared.fault.FileFault.{FileFault}
use Rattle.std.specs.Io.KnownBytes.{IsAtEnd}
use Rattle.ffv1_reads.specs.Ends.{Ends, FaultsAtEnd, ReadOrNone, Stops}
use Rattle.ffv1_reads.specs.Known.{Known}
use Rattle.ffv1_reads.specs.Reads.{Faults, Lacks, Met, Read, Reading, Short, Want}

pub known_read : {X : Type 0} (reading : Reading X) (text : List ℕ) (new : Option (List ℕ)) (x : X) → Read reading (Some text) new x → (rest : List ℕ) × (new ≡ Some rest) × (reading text ≡ Ok (x, rest))
known_read reading text None x h = absurd h.consumed
known_read reading text (Some rest) x h = (rest, refl, ap reading h.consumed ∙ h.is rest)

pub known_fault : {X : Type 0} (reading : Reading X) (text : List ℕ) (new : Option (List ℕ)) (f : FileFault) → Faults reading (Some text) new f → (rest : List ℕ) × (new ≡ Some rest) × (reading text ≡ Err (Met f rest))
known_fault reading text None f h = absurd h.consumed
known_fault reading text (Some rest) f h = (rest, refl, ap reading h.consumed ∙ h.is rest)

pub known_lack : {X : Type 0} (reading : Reading X) (text : List ℕ) (new : Option (List ℕ)) (w : Want) → Lacks reading (Some text) new w →
    (bytes rest : List ℕ) × (text ≡ bytes ++ rest) × (new ≡ Some rest) × (reading bytes ≡ Err (Short w))
known_lack reading text None w h = absurd h.consumed
known_lack reading text (Some rest) w h = (h.bytes, rest, h.consumed, refl, h.is)

pub known_end : {X : Type 0} (reading : Reading X) (text : List ℕ) (new : Option (List ℕ)) (x : X) → Ends reading (Some text) new x → (new ≡ Some []) × (reading text ≡ Ok (x, []))
known_end reading text None x h = absurd h.0.consumed
known_end reading text (Some rest) x h =
    let none : rest ≡ [] = h.1 in
    let all : text ≡ h.0.bytes = h.0.consumed ∙ ap (λ z. h.0.bytes ++ z) none ∙ append-nil h.0.bytes in
    (ap Some none, ap reading all ∙ h.0.is)

pub known_stop : {X : Type 0} (reading : Reading X) (text : List ℕ) (new : Option (List ℕ)) (x : X) → Stops reading (Some text) new x →
    (bytes rest : List ℕ) × (text ≡ bytes ++ rest) × (new ≡ Some rest) × (reading bytes ≡ Ok (x, []))
known_stop reading text None x h = absurd h.consumed
known_stop reading text (Some rest) x h = (h.bytes, rest, h.consumed, refl, h.is)

pub known_end_fault : {X : Type 0} (reading : Reading X) (text : List ℕ) (new : Option (List ℕ)) (f : FileFault) → FaultsAtEnd reading (Some text) new f → IsAtEnd new → (new ≡ Some []) × (reading text ≡ Err (Met f []))
known_end_fault reading text None f h ended = absurd h.consumed
known_end_fault reading text (Some rest) f h ended =
    let none : rest ≡ [] = ended in
    let all : text ≡ h.bytes = h.consumed ∙ ap (λ z. h.bytes ++ z) none ∙ append-nil h.bytes in
    (ap Some none, ap reading all ∙ h.is)

pub known_fault_there : {X : Type 0} (reading : Reading X) (text : List ℕ) (new : Option (List ℕ)) (f : FileFault) → FaultsAtEnd reading (Some text) new f →
    (bytes rest : List ℕ) × (text ≡ bytes ++ rest) × (new ≡ Some rest) × (reading bytes ≡ Err (Met f []))
known_fault_there reading text None f h = absurd h.consumed
known_fault_there reading text (Some rest) f h = (h.bytes, rest, h.consumed, refl, h.is)

-- a value was read, or nothing more is there
pub none_known : {X : Type 0} (reading : Reading (Option X)) (old new : Option (List ℕ)) (x : Option X) → ReadOrNone reading old new x → Known old new (λ text rest. reading text ≡ Ok (x, rest))
none_known reading None new x h = tt
none_known reading (Some text) None x (inl read) = absurd read.consumed
none_known reading (Some text) None x (inr ((halts, ended), none)) = absurd halts.consumed
none_known reading (Some text) (Some rest) x (inl read) = ap reading read.consumed ∙ read.is rest
none_known reading (Some text) (Some rest) x (inr ((halts, ended), none)) =
    ap reading (halts.consumed ∙ ap (λ z. halts.bytes ++ z) ended ∙ append-nil halts.bytes) ∙ halts.is ∙ rw (none, ended) refl
