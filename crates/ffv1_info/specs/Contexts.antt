-- How many contexts the sets of a record have (RFC 9043, 3.8), by number and by name.
use Rattle.std.specs.Prelude.{ℕ, ◌==◌, if◌then◌else◌, List, [], ◌∷◌, ◌++◌, codes, decimal}
use Rattle.std.specs.Prelude.{flat_map, length}
use Rattle.ffv1_plane.specs.Quantisation.{Set, contexts_of}
use Rattle.ffv1_outline.specs.declared.facts.Form.{Form}
use Rattle.ffv1_outline.specs.declared.facts.Form.TheVariants as form
use Rattle.ffv1_outline.specs.Facts.{fact}
use Rattle.ffv1_info.specs.declared.contexts.Shown.{Shown}
use Rattle.ffv1_info.specs.declared.contexts.Shown.TheVariants as shown

-- the name of so many contexts: FFmpeg's small sets have 666, or 365 above 8 bits, and its large
-- ones 7563 or 5063; this program's large one has 16638. Nothing for another number
unfoldable pub contexts_name : ℕ → List ℕ
contexts_name n =
    if n == 365 then codes "small"
    else if n == 666 then codes "small"
    else if n == 5063 then codes "large"
    else if n == 7563 then codes "large"
    else if n == 16638 then codes "large"
    else []

-- a name behind its number, or in an array of JSON; nothing or null if there is none
abbrev pub name_behind : List ℕ → List ℕ
name_behind name = if length name == 0 then [] else codes " (" ++ name ++ codes ")"

abbrev pub name_item : List ℕ → List ℕ
name_item name = if length name == 0 then codes "null" else codes "\"" ++ name ++ codes "\""

-- how many contexts a set has: the number, its name, or both
abbrev pub contexts_item : Shown → ℕ → List ℕ
contexts_item shown.Number n = decimal n
contexts_item shown.Name n = name_item (contexts_name n)
contexts_item shown.Both n = decimal n ++ name_behind (contexts_name n)

-- those of each set, with a sign between them
abbrev pub contexts_behind : Shown → List ℕ → List Set → List ℕ
contexts_behind shown sign sets =
    flat_map (λ set. sign ++ contexts_item shown (contexts_of set)) sets

abbrev pub contexts_between : Shown → List ℕ → List Set → List ℕ
contexts_between shown sign [] = []
contexts_between shown sign (set ∷ sets) =
    contexts_item shown (contexts_of set) ++ contexts_behind shown sign sets

abbrev pub contexts_value : Form → Shown → List Set → List ℕ
contexts_value form.Text shown sets = contexts_between shown (codes ", ") sets
contexts_value form.Json shown sets =
    codes "[" ++ contexts_between shown (codes ",") sets ++ codes "]"

abbrev pub contexts_fact : Form → List ℕ → Shown → List Set → List ℕ
contexts_fact form name shown sets = fact form name (contexts_value form shown sets)

-- a line has both, and JSON has each by itself
abbrev pub contexts_facts : Form → List Set → List ℕ
contexts_facts form.Text sets = contexts_fact form.Text (codes "contexts") shown.Both sets
contexts_facts form.Json sets =
    contexts_fact form.Json (codes "contexts") shown.Number sets
    ++ contexts_fact form.Json (codes "context_names") shown.Name sets
