-- A file whose first byte was looked at, before it is read.
use Rattle.std.specs.Prelude.{ℕ, List, ◌∷◌, Option, Some, None}
use Rattle.ffv1_wire.specs.Passage.{Passage}

-- the bytes that are left with a byte before them, if those are known
abbrev pub bytes_with : Option ℕ → Option (List ℕ) → Option (List ℕ)
bytes_with None rest = rest
bytes_with (Some first) None = None
bytes_with (Some first) (Some rest) = Some (first ∷ rest)

-- what is known of a reader before and after a call that is handed that byte, or none
abbrev pub passage_with : {R : Type 0} → Option ℕ → (R → Option (List ℕ)) → (R → ℕ) → R → R →
    Passage
passage_with first bytes failures old new = record {
  old = bytes_with first (bytes old);
  new = bytes new;
  before = failures old;
  after = failures new;
}
