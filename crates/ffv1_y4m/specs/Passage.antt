-- What is known of a reader of which the first byte may have been read.
use Rattle.std.specs.Prelude.{ℕ, List, Option, option_to_list}
use Rattle.std.specs.Io.KnownBytes.{prepend_known}
pub use Rattle.ffv1_wire.specs.Passage.{Passage, passage}

-- a text of which the first byte may have been read
abbrev pub known_text : Option ℕ → Option (List ℕ) → Option (List ℕ)
known_text first rest = prepend_known (option_to_list first) rest

-- what is known before and after a call, if the first byte may have been read before the call
abbrev pub passage_from : {R : Type 0} → Option ℕ → (R → Option (List ℕ)) → (R → ℕ) → R → R →
    Passage
passage_from first remaining failures old new = record {
  old = known_text first (remaining old);
  new = remaining new;
  before = failures old;
  after = failures new;
}
