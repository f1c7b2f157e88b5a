-- Bytes of a text that were taken, if it is known.
use Rattle.std.specs.Prelude.{ℕ, List, Option, Some, None}
use Rattle.std.specs.Io.KnownBytes.{Consumes}
use Rattle.ffv1_reads.specs.Known.{Known}
use Rattle.ffv1_pack.specs.VideoReads.{Taken}

-- bytes that were taken
pub known_taken : (old new : Option (List ℕ)) (P Q : List ℕ → Type 0) → ((bytes : List ℕ) → P bytes → Q bytes) → ((bytes : List ℕ) × Consumes old new bytes × P bytes) → Known old new (Taken Q)
known_taken None new P Q f t = tt
known_taken (Some text) None P Q f (bytes, taken, is) = absurd taken
known_taken (Some text) (Some rest) P Q f (bytes, taken, is) = (bytes, taken, f bytes is)
