-- Texts written one after the other.
use Rattle.std.proofs.Common.{◌≡◌, ℕ, ◌+◌, ◌<◌, ◌≤◌, Option, Some, None, List, [], ◌∷◌, ◌++◌, length, take, drop, get_or, flat_map, Result, Ok, Err, ap, ◌∙◌, sym, subst, append_assoc, arith, add-one, append-nil, take-append-drop, drop-cons}
use Rattle.std.proofs.lemmas.Grind.{common_steps, flat_map-append}
use Rattle.std.proofs.Math.Seq.{take-append-add}
use Rattle.std.proofs.lemmas.List.{take-append-le}
use Rattle.std.specs.Io.KnownBytes.{Appends}
use Rattle.ffv1_wire.specs.Failures.{one_more}
use Rattle.ffv1_wire.specs.Writes.{AppendsBeginning}
use Rattle.ffv1_y4m.specs.declared.fault.Fault.{Fault}
use Rattle.ffv1_wire.specs.Passage.{between}
use Rattle.ffv1_y4m.specs.Writes.{Writes}

pub appends_then : (a b c : Option (List ℕ)) (xs ys : List ℕ) → Appends a b xs → Appends b c ys → Appends a c (xs ++ ys)
appends_then None b c xs ys h k = tt
appends_then (Some s) None c xs ys h k = absurd h
appends_then (Some s) (Some t) None xs ys h k = absurd k
appends_then (Some s) (Some t) (Some u) xs ys h k = k ∙ ap (λ z. z ++ ys) h ∙ append_assoc s xs ys

pub beginning_sooner : (a b : Option (List ℕ)) (xs ys : List ℕ) → AppendsBeginning a b xs → AppendsBeginning a b (xs ++ ys)
beginning_sooner a b xs ys h =
    let within : h.0 ≤ length xs = omega (arith, h.1) in
    let longer : h.0 < length (xs ++ ys) = grind (arith, common_steps, h.1) in
    let P : List ℕ → Type 0 = λ z. Appends a b z in
    (h.0, longer, subst P (sym (take-append-le h.0 xs ys within)) h.2)

pub beginning_later : (a b c : Option (List ℕ)) (xs ys : List ℕ) → Appends a b xs → AppendsBeginning b c ys → AppendsBeginning a c (xs ++ ys)
beginning_later a b c xs ys h k =
    let longer : length xs + k.0 < length (xs ++ ys) = grind (arith, common_steps, k.1) in
    let P : List ℕ → Type 0 = λ z. Appends a c z in
    (length xs + k.0, longer, subst P (sym (take-append-add xs ys k.0)) (appends_then a b c xs (take k.0 ys) h k.2))

-- the first text is written, and the next one answers
pub writes_next : (xs ys : List ℕ) (a b c : Option (List ℕ)) (n m k : ℕ) (x : Unit {0}) (answer : Result (Unit {0}) Fault) →
    Writes xs (between a b n m) (Ok x) → Writes ys (between b c m k) answer → Writes (xs ++ ys) (between a c n k) answer
writes_next xs ys a b c n m k x (Ok y) h i = (appends_then a b c xs ys h.0 i.0, i.1 ∙ h.1)
writes_next xs ys a b c n m k x (Err f) h i = (i.0, beginning_later a b c xs ys h.0 i.1, i.2 ∙ ap one_more h.1)

-- of the first text a beginning is written
pub writes_first : (xs ys : List ℕ) (a b : Option (List ℕ)) (n m : ℕ) (f : Fault) →
    Writes xs (between a b n m) (Err f) → Writes (xs ++ ys) (between a b n m) (Err f)
writes_first xs ys a b n m f h = (h.0, beginning_sooner a b xs ys h.1, h.2)

-- the part at i, and those before and after it
parts_at : {A : Type 0} (text : A → List ℕ) (parts : List A) (i : ℕ) (d : A) → i < length parts → flat_map text parts ≡ flat_map text (take i parts) ++ (text (get_or parts i d) ++ flat_map text (drop (i + 1) parts))
parts_at text parts i d h =
    let rest : drop i parts ≡ get_or parts i d ∷ drop (i + 1) parts = rw add-one (drop-cons parts i d h) in
    let whole : take i parts ++ (get_or parts i d ∷ drop (i + 1) parts) ≡ parts = ap (λ z. take i parts ++ z) (sym rest) ∙ take-append-drop i parts in
    sym (ap (flat_map text) whole) ∙ flat_map-append text (take i parts) (get_or parts i d ∷ drop (i + 1) parts)

pub parts_stop : {A : Type 0} (text : A → List ℕ) (parts : List A) (i : ℕ) (d : A) (a b c : Option (List ℕ)) (n m k : ℕ) (f : Fault) → i < length parts →
    Appends a b (flat_map text (take i parts)) → m ≡ n → Writes (text (get_or parts i d)) (between b c m k) (Err f) → Writes (flat_map text parts) (between a c n k) (Err f)
parts_stop text parts i d a b c n m k f inside h same w =
    let more = beginning_sooner b c (text (get_or parts i d)) (flat_map text (drop (i + 1) parts)) w.1 in
    let all = beginning_later a b c (flat_map text (take i parts)) _ h more in
    let P : List ℕ → Type 0 = λ z. AppendsBeginning a c z in
    (w.0, subst P (sym (parts_at text parts i d inside)) all, w.2 ∙ ap one_more same)

-- nothing is written
pub appends_none : (a : Option (List ℕ)) → Appends a a []
appends_none None = tt
appends_none (Some s) = sym (append-nil s)
