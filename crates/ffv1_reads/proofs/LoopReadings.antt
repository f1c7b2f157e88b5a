-- What the loops over a reader of bytes have read, as readings: bytes that are looked at, passed, or kept piece by piece.
use Rattle.std.proofs.Common.{◌≡◌, ℕ, ◌+◌, ◌≤◌, ◌<◌, nat_lt, Bool, true, false, Option, Some, None, Ok, Err, List, [], ◌++◌, length, take, drop, ap, ◌∙◌, sym, subst, append-nil, arith, refl, length-append, length-take, length-drop, take-add}
use Rattle.std.proofs.lemmas.Bool.{lt-ltb, ltb-true}
use Rattle.std.proofs.lemmas.List.{take-append-drop, take_all}
use Rattle.std.proofs.Math.Seq.{take-append-add, take-append_seam}
use Rattle.std.specs.Io.KnownBytes.{Consumes, IsAtEnd}
use Rattle.ffv1_wire.proofs.Bytes.{consumes_then}
use Rattle.ffv1_wire.specs.Reads.{Fills, FillsBeginning}
use Rattle.ffv1_reads.specs.declared.fault.FileFault.{FileFault}
use Rattle.ffv1_reads.proofs.Causes.{refused_map}
use Rattle.ffv1_reads.specs.Reads.{AppendsSome, Begins, Faults, Kept, Lacks, Looked, Met, Read, Refused, Short, Stop, Want, Wants, appended, passed, taken, wanted}
use Rattle.ffv1_reads.proofs.WantedBytes.{wanted_complete, wanted_sound}
use Rattle.ffv1_reads.proofs.Results.{ok_is}

-- too few bytes
pub wanted_short : (w : Want) (n : ℕ) (bytes : List ℕ) → length bytes < n → wanted w n bytes ≡ Err (Short w)
wanted_short w n bytes few = rw (lt-ltb _ _ few) refl

pub passed_short : (n : ℕ) (bytes : List ℕ) → length bytes < n → passed n bytes ≡ Err (Short Looked)
passed_short n bytes few = rw (lt-ltb _ _ few) refl

pub appended_short : (items : List ℕ) (n : ℕ) (bytes : List ℕ) → length bytes < n → appended items n bytes ≡ Err (Short Kept)
appended_short items n bytes few = rw (lt-ltb _ _ few) refl

-- a buffer was filled
pub filled : (old new : Option (List ℕ)) (n : ℕ) (buf : List ℕ) → n ≡ length buf → Fills old new n buf → Read (taken (length buf)) old new buf
filled old new n buf all h =
    let P : List ℕ → Type 0 = λ z. Consumes old new z in
    record { bytes = buf; consumed = subst P (take_all n buf (omega (arith, all))) h.0; is = λ rest. wanted_complete Looked (length buf) buf rest refl }

pub append_short : (old new : Option (List ℕ)) (items buf : List ℕ) (more n : ℕ) → length buf ≡ more → n < more → Fills old new n buf → Wants (appended items more) old new × IsAtEnd new
append_short old new items buf more n long few h =
    let short : length (take n buf) < more = omega (arith, few, length-take n buf) in
    ((Kept, record { bytes = take n buf; consumed = h.0; is = appended_short items more (take n buf) short }), h.1 (omega (arith, few, long)))

pub append_not : (old new : Option (List ℕ)) (items buf : List ℕ) (more : ℕ) → length buf ≡ more → FillsBeginning old new buf → Wants (appended items more) old new
append_not old new items buf more long h =
    let short : length (take h.0 buf) < more = omega (arith, h.1, long, length-take h.0 buf) in
    (Kept, record { bytes = take h.0 buf; consumed = h.2; is = appended_short items more (take h.0 buf) short })

-- all were read
pub fill_done : (old now : Option (List ℕ)) (items : List ℕ) (size : ℕ) → length items ≡ size → Consumes old now items → Read (wanted Kept size) old now items
fill_done old now items size long h = record { bytes = items; consumed = h; is = λ rest. wanted_complete Kept size items rest long }

pub wanted_consumed : (w : Want) (n : ℕ) (old now : Option (List ℕ)) (items : List ℕ) → Read (wanted w n) old now items → Consumes old now items
wanted_consumed w n old now items read =
    let all = (wanted_sound w n (read.bytes ++ []) (items, []) (read.is [])).0 in
    let P : List ℕ → Type 0 = λ z. Consumes old now z in
    subst P (sym (append-nil read.bytes) ∙ all ∙ append-nil items) read.consumed

-- what a piece reads as
abbrev Piece : Type 0
Piece = List ℕ × List ℕ

piece_of : (items left rest : List ℕ) (more : ℕ) (x : List ℕ) (b : Bool) → nat_lt (length left) more ≡ b → appended items more left ≡ Ok (x, rest) → (x ≡ items ++ take more left) × (rest ≡ drop more left)
piece_of items left rest more x true test e = absurd (cc (rw test at e))
piece_of items left rest more x false test e =
    let same = ok_is (items ++ take more left, drop more left) (x, rest) (rw test at e) in
    (sym (ap (λ (z : Piece). z.0) same), sym (ap (λ (z : Piece). z.1) same))

-- a piece more was read
pub fill_more : (old now new : Option (List ℕ)) (items x : List ℕ) (more : ℕ) → Consumes old now items → Read (appended items more) now new x → Consumes old new x
fill_more old now new items x more h read =
    let left = read.bytes ++ [] in
    let p = piece_of items left [] more x (nat_lt (length left) more) refl (read.is []) in
    let whole : take more left ≡ read.bytes = sym (append-nil (take more left)) ∙ ap (λ z. take more left ++ z) p.1 ∙ take-append-drop more left ∙ append-nil read.bytes in
    let P : List ℕ → Type 0 = λ z. Consumes old new z in
    subst P (sym (p.0 ∙ ap (λ z. items ++ z) whole)) (consumes_then old now new items read.bytes h read.consumed)

-- a piece is no fault, and wants what is kept
lack_of : (items bytes : List ℕ) (more : ℕ) (why : Stop) (b : Bool) → nat_lt (length bytes) more ≡ b → appended items more bytes ≡ Err why → (length bytes < more) × (why ≡ Short Kept)
lack_of items bytes more why true test e = (ltb-true _ _ test, cc (rw test at e))
lack_of items bytes more why false test e = absurd (cc (rw test at e))

not_met : (f : FileFault) (rest : List ℕ) → Met f rest ≡ Short Kept → ⊥
not_met f rest e = absurd (cc)

no_fault : {now new : Option (List ℕ)} (items : List ℕ) (more : ℕ) (f : FileFault) → Faults (appended items more) now new f → ⊥
no_fault items more f why = let p = lack_of items (why.bytes ++ []) more (Met f []) (nat_lt (length (why.bytes ++ [])) more) refl (why.is []) in not_met f [] p.1

fill_lacks : (old now new : Option (List ℕ)) (items : List ℕ) (more size : ℕ) (w : Want) → length items + more ≤ size → Consumes old now items → Lacks (appended items more) now new w → Lacks (wanted Kept size) old new Kept
fill_lacks old now new items more size w room h why =
    let p = lack_of items why.bytes more (Short w) (nat_lt (length why.bytes) more) refl why.is in
    let short : length (items ++ why.bytes) < size = omega (arith, room, p.0, length-append items why.bytes) in
    record { bytes = items ++ why.bytes; consumed = consumes_then old now new items why.bytes h why.consumed; is = wanted_short Kept size (items ++ why.bytes) short }

pub fill_refused : (old now new : Option (List ℕ)) (items : List ℕ) (more size l m n : ℕ) (f : FileFault) → length items + more ≤ size → m ≡ l → Consumes old now items → Refused (appended items more) now new m n f → Refused (wanted Kept size) old new l n f
fill_refused old now new items more size l m n f room same h why = refused_map n same (λ wants. (Kept, lacks wants.0 wants.1)) (lacks Kept) (λ f faults. absurd (no_fault items more f faults)) f why
  where
    lacks : (w : Want) → Lacks (appended items more) now new w → Lacks (wanted Kept size) old new Kept
    lacks w = fill_lacks old now new items more size w room h

-- what is there then is a beginning
pub fill_begins : (old now : Option (List ℕ)) (items x : List ℕ) (more size : ℕ) → length items + more ≤ size → Consumes old now items → AppendsSome now more items x → Begins old size x
fill_begins None now items x more size room h some = tt
fill_begins (Some text) None items x more size room h some = absurd h
fill_begins (Some text) (Some left) items x more size room h some =
    (length items + some.0, omega (arith, room, some.1), some.2 ∙ sym (rw h (take-append-add items left some.0)))

-- the bytes that were read after others, if they are fewer than were wanted
pub appends_some : (old new : Option (List ℕ)) (items buf : List ℕ) (done n m : ℕ) → take done buf ≡ items → done + n ≤ length buf → Fills old new n (drop done buf) → n ≤ m → AppendsSome old m items (take (done + n) buf)
appends_some None new items buf done n m kept bound read most = tt
appends_some (Some text) None items buf done n m kept bound read most = absurd read.0
appends_some (Some text) (Some rest) items buf done n m kept bound read most =
    let size : length (take n (drop done buf)) ≡ n = length-take n (drop done buf) ∙ (omega (arith, bound, length-drop done buf)) in
    let front : take n text ≡ take n (drop done buf) = ap (take n) read.0 ∙ cut (take n (drop done buf)) rest n size in
    (n, most, take-add done n buf ∙ (rw (kept, front) refl))
  where
    cut : (xs ys : List ℕ) (k : ℕ) → length xs ≡ k → take k (xs ++ ys) ≡ xs
    cut xs ys k size = rw (← size) (take-append_seam xs ys)
