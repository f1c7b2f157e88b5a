-- How many bytes of a file come before the first element of its Segment.
use Rattle.std.proofs.Common.{◌≡◌, ◌∙◌, ◌+◌, ◌-◌, ℕ, List, Option, Some, None, Ok, length, length-append, inl, inr, refl, sym, ap, arith}
use Rattle.std.specs.Io.KnownBytes.{Consumes}
use Rattle.ffv1_reads.specs.Ends.{ReadOrOver}
use Rattle.ffv1_reads.specs.Known.{Known}
use Rattle.ffv1_reads.specs.Offsets.{ReadsCounted, ReadsOn, all_bytes, offset_after}
use Rattle.ffv1_reads.specs.Reads.{Read, Reading}
use Rattle.ffv1_reads.specs.declared.fault.FileFault.{FileFault}
use Rattle.ffv1_wire.specs.Passage.{between}
use Rattle.ffv1_matroska.specs.Offsets.{EntersFrom}
use Rattle.ffv1_matroska.specs.Opening.{segment_entered}
use Rattle.ffv1_matroska.specs.Salvaged.{data_at, ebml_salvaged}
use Rattle.ffv1_matroska.proofs.ScaleReadings.{known_both, known_so, read_known}

-- so many bytes were consumed
abbrev Shorter : ℕ → List ℕ → List ℕ → Type 0
Shorter count text rest = length text ≡ count + length rest

consumed_known : (old new : Option (List ℕ)) (bytes : List ℕ) (count : ℕ) → Consumes old new bytes → length bytes ≡ count → Known old new (Shorter count)
consumed_known None new bytes count consumed long = tt
consumed_known (Some text) None bytes count consumed long = absurd consumed
consumed_known (Some text) (Some rest) bytes count consumed long = ap length consumed ∙ length-append bytes rest ∙ ap (λ n. n + length rest) long

both_known : (old new : Option (List ℕ)) (P Q : List ℕ → List ℕ → Type 0) → Known old new P → Known old new Q → Known old new (λ text rest. P text rest × Q text rest)
both_known None new P Q one two = tt
both_known (Some text) None P Q one two = absurd one
both_known (Some text) (Some rest) P Q one two = (one, two)

counted_read : {X : Type 0} (r : Reading X) (old new : Option (List ℕ)) (x : X) (count : ℕ) → ReadsCounted r old new x count → Read r old new x
counted_read r old new x count h = record { bytes = h.bytes; consumed = h.consumed; is = h.is }

-- what is read after it
over_known : {X : Type 0} (over : X → Type 0) (r : Reading X) (old new : Option (List ℕ)) (x : X) → ReadOrOver over r old new x → Known old new (λ text rest. Unit {0})
over_known over r old new x (inl read) = known_so old new _ _ (λ text rest is. tt) (read_known r old new x read)
over_known over r None new x (inr ends) = tt
over_known over r (Some text) None x (inr ends) = absurd ends.0.0.consumed
over_known over r (Some text) (Some rest) x (inr ends) = tt

sum_offset : (a b c : ℕ) → a + (b + c) - c ≡ a + b
sum_offset a b c = omega arith

-- the header of EBML, and what comes up to the Segment
pub data_known : {X : Type 0} (over : X → Type 0) (r : Reading X) (x : X) (fault : Option FileFault) (size : Option ℕ) (first last : ℕ) (a b c d : Option (List ℕ)) (n m : ℕ) →
    ReadsOn ebml_salvaged a b fault 0 first → Read segment_entered b c size → EntersFrom (between b c n m) (Ok size) first last → ReadOrOver over r c d x →
    Known a d (λ text rest. last ≡ offset_after 0 (data_at text))
unfolding data_at
data_known over r x fault size first last a b c d n m ebml entered from read =
    known_both a c d (λ text rest. last ≡ offset_after 0 (data_at text)) (λ text rest. Unit {0}) (λ text rest. last ≡ offset_after 0 (data_at text)) (λ text left rest is end. is)
    (known_both a b c (λ text rest. (ebml_salvaged text ≡ Ok (fault, rest)) × Shorter ebml.0 text rest) (λ text rest. (segment_entered text ≡ Ok (size, rest)) × Shorter from.0 text rest) (λ text rest. last ≡ offset_after 0 (data_at text)) there
    (both_known a b _ _ (read_known ebml_salvaged a b fault (counted_read ebml_salvaged a b fault ebml.0 ebml.1)) (consumed_known a b ebml.1.bytes ebml.0 ebml.1.consumed ebml.1.counted))
    (both_known b c _ _ (read_known segment_entered b c size entered) (consumed_known b c (all_bytes from.1.elements) from.0 from.1.consumed from.1.counted)))
    (over_known over r c d x read)
  where
    there : (text left rest : List ℕ) → (ebml_salvaged text ≡ Ok (fault, left)) × Shorter ebml.0 text left → (segment_entered left ≡ Ok (size, rest)) × Shorter from.0 left rest → last ≡ offset_after 0 (data_at text)
    there text left rest one two =
        from.2 ebml.0 ebml.2 ∙ ap (λ z. offset_after 0 z) (sym (sum_offset ebml.0 from.0 (length rest)) ∙ ap (λ z. z - length rest) (ap (λ z. ebml.0 + z) (sym two.1) ∙ sym one.1) ∙ rw (one.0, two.0) refl)
