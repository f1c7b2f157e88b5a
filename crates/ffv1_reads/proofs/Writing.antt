-- Bytes that are written one after the other.
use Rattle.std.proofs.Common.{◌≡◌, ℕ, suc, ◌+◌, ◌≤◌, ◌<◌, [], ◌∷◌, Option, Some, None, Result, Ok, Err, List, ◌++◌, length, take, drop, get_or, flat_map, ap, ◌∙◌, sym, append_assoc, arith, subst}
use Rattle.std.proofs.lemmas.Grind.{common_steps, flat_map-append}
use Rattle.std.proofs.Math.Seq.{take-append-add, take-suc}
use Rattle.std.proofs.lemmas.List.{take-append-le, take-append-drop}
use Rattle.std.specs.Io.KnownBytes.{Appends}
use Rattle.ffv1_wire.specs.Writes.{AppendsBeginning}
use Rattle.ffv1_reads.specs.declared.fault.FileFault.{FileFault}
use Rattle.ffv1_reads.specs.declared.fault.FileFault.TheVariants as fault
use Rattle.ffv1_wire.specs.Passage.{between}
use Rattle.ffv1_reads.specs.Writes.{Stopped, Writes}

pub appends_none : (a : Option (List ℕ)) → Appends a a []
appends_none None = tt
appends_none (Some s) = grind (arith, common_steps)

-- two writes in a row
pub appends_then : (a b c : Option (List ℕ)) (xs ys : List ℕ) → Appends a b xs → Appends b c ys → Appends a c (xs ++ ys)
appends_then None b c xs ys h k = tt
appends_then (Some s) None c xs ys h k = absurd h
appends_then (Some s) (Some t) None xs ys h k = absurd k
appends_then (Some s) (Some t) (Some u) xs ys h k = k ∙ ap (λ z. z ++ ys) h ∙ append_assoc s xs ys

-- a beginning is one of more bytes
beginning_sooner : (a b : Option (List ℕ)) (xs ys : List ℕ) → AppendsBeginning a b xs → AppendsBeginning a b (xs ++ ys)
beginning_sooner a b xs ys h =
    let within : h.0 ≤ length xs = omega (arith, h.1) in
    let longer : h.0 < length (xs ++ ys) = grind (arith, common_steps, h.1) in
    let P : List ℕ → Type 0 = λ z. Appends a b z in
    (h.0, longer, subst P (sym (take-append-le h.0 xs ys within)) h.2)

-- a beginning after bytes that were written is one of both
beginning_later : (a b c : Option (List ℕ)) (xs ys : List ℕ) → Appends a b xs → AppendsBeginning b c ys → AppendsBeginning a c (xs ++ ys)
beginning_later a b c xs ys h k =
    let longer : length xs + k.0 < length (xs ++ ys) = grind (arith, common_steps, k.1) in
    let P : List ℕ → Type 0 = λ z. Appends a c z in
    (length xs + k.0, longer, subst P (sym (take-append-add xs ys k.0)) (appends_then a b c xs (take k.0 ys) h k.2))

stopped_later : (a b c : Option (List ℕ)) (m n : ℕ) (xs ys : List ℕ) (f : FileFault) → Appends a b xs → Stopped b c m n ys f → Stopped a c m n (xs ++ ys) f
stopped_later a b c m n xs ys fault.Write h k = (k.0, beginning_later a b c xs ys h k.1)
stopped_later a b c m n xs ys f h k = absurd k

-- a write that stopped wrote a beginning of more
pub writes_stop : (a b : Option (List ℕ)) (m n : ℕ) (xs ys : List ℕ) (f : FileFault) → Writes (between a b m n) xs (Err f) → Writes (between a b m n) (xs ++ ys) (Err f)
writes_stop a b m n xs ys fault.Write k = (k.0, beginning_sooner a b xs ys k.1)
writes_stop a b m n xs ys f k = absurd k

-- a call that writes after bytes that were written
pub writes_then : (a b c : Option (List ℕ)) (l m n : ℕ) (xs ys : List ℕ) (r : Result (Unit {0}) FileFault) → m ≡ l → Appends a b xs → Writes (between b c m n) ys r → Writes (between a c l n) (xs ++ ys) r
writes_then a b c l m n xs ys (Ok u) same h k = (k.0 ∙ same, appends_then a b c xs ys h k.1)
writes_then a b c l m n xs ys (Err f) same h k = rw (← same) (stopped_later a b c m n xs ys f h k)

-- the pieces of a list, up to one, with it and after it
pub flat_more : {X : Type 0} (f : X → List ℕ) (xs : List X) (i : ℕ) (d : X) → i < length xs → flat_map f (take (suc i) xs) ≡ flat_map f (take i xs) ++ f (get_or xs i d)
flat_more f xs i d inside = rw (take-suc xs i d inside, flat_map-append f (take i xs) (get_or xs i d ∷ [])) (grind (arith, common_steps))

pub flat_cut : {X : Type 0} (f : X → List ℕ) (xs : List X) (i : ℕ) → flat_map f (take i xs) ++ flat_map f (drop i xs) ≡ flat_map f xs
flat_cut f xs i = sym (flat_map-append f (take i xs) (drop i xs)) ∙ ap (flat_map f) (take-append-drop i xs)

-- the writing of a piece stopped
pub pieces_stop : {X : Type 0} (f : X → List ℕ) (xs : List X) (i : ℕ) (d : X) (a b c : Option (List ℕ)) (l m n : ℕ) (e : FileFault) → i < length xs → m ≡ l → Appends a b (flat_map f (take i xs)) →
    Writes (between b c m n) (f (get_or xs i d)) (Err e) → Writes (between a c l n) (flat_map f xs) (Err e)
pieces_stop f xs i d a b c l m n e inside same h k =
    let P : List ℕ → Type 0 = λ z. Writes (between a c l n) z (Err e) in
    let all : (flat_map f (take i xs) ++ f (get_or xs i d)) ++ flat_map f (drop (suc i) xs) ≡ flat_map f xs = ap (λ z. z ++ flat_map f (drop (suc i) xs)) (sym (flat_more f xs i d inside)) ∙ flat_cut f xs (suc i) in
    subst P all (writes_stop a c l n _ _ e (writes_then a b c l m n _ _ (Err e) same h k))

-- a write that stopped after bytes that were written
pub stops_then : (a b c : Option (List ℕ)) (l m n : ℕ) (xs ys : List ℕ) (f : FileFault) → m ≡ l → Appends a b xs → Writes (between b c m n) ys (Err f) → Writes (between a c l n) (xs ++ ys) (Err f)
stops_then a b c l m n xs ys f same h k = rw (← same) (stopped_later a b c m n xs ys f h k)
