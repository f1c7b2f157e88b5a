-- What is said of a text, if it is known, as it is read on.
use Rattle.std.specs.Prelude.{ℕ, List, Option, Some, None}
use Rattle.ffv1_reads.specs.Known.{Known}

pub known_map : (old new : Option (List ℕ)) (P Q : List ℕ → List ℕ → Type 0) → ((text rest : List ℕ) → P text rest → Q text rest) → Known old new P → Known old new Q
known_map None new P Q f k = tt
known_map (Some text) None P Q f k = absurd k
known_map (Some text) (Some rest) P Q f k = f text rest k

-- first so, and then so
pub known_then : (old mid new : Option (List ℕ)) (P Q : List ℕ → List ℕ → Type 0) → Known old mid P → Known mid new Q → Known old new (λ text rest. (left : List ℕ) × P text left × Q left rest)
known_then None mid new P Q k n = tt
known_then (Some text) None new P Q k n = absurd k
known_then (Some text) (Some left) None P Q k n = n
known_then (Some text) (Some left) (Some rest) P Q k n = (left, k, n)
