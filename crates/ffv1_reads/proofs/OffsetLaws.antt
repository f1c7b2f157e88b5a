-- Elements that are read whole, one after the other.
use Rattle.std.proofs.Common.{◌≡◌, ◌+◌, ◌-◌, min, ℕ, List, [], ◌∷◌, ◌++◌, length, Option, Ok, refl, sym, ap, ◌∙◌, subst, arith, append-nil, append_assoc}
use Rattle.std.proofs.lemmas.Grind.{flat_map-append}
use Rattle.std.proofs.lemmas.List.{length-append}
use Rattle.std.specs.Io.KnownBytes.{Consumes}
use Rattle.ffv1_wire.proofs.Bytes.{consumes_then}
use Rattle.ffv1_reads.specs.Ends.{RefusedOrEnds}
use Rattle.ffv1_reads.specs.Offsets.{Leads, ReadsCounted, ReadsWhole, StopsAfter, all_bytes}
use Rattle.ffv1_reads.specs.declared.fault.FileFault.{FileFault}
use Rattle.ffv1_reads.proofs.Taking.{Any, Takes, takes_read}
use Rattle.ffv1_reads.specs.Reads.{Read, Reading, given, read_on, ◌>>=◌}
use Rattle.ffv1_reads.proofs.Reading.{consumes_none}

-- none
pub reads_none : {S : Type 0} (element : S → Reading S) (from : S) (a : Option (List ℕ)) → ReadsWhole element from a a from 0
reads_none element from a = record { elements = []; leads = refl; consumed = consumes_none a; counted = refl }

-- one more
leads_more : {S : Type 0} (element : S → Reading S) (from : S) (elements : List (List ℕ)) (to : S) (bytes : List ℕ) (next : S) → Leads element from elements to → ((rest : List ℕ) → element to (bytes ++ rest) ≡ Ok (next, rest)) → Leads element from (elements ++ bytes ∷ []) next
leads_more element from [] to bytes next same is = (next, (λ rest. subst (λ z. element z (bytes ++ rest) ≡ Ok (next, rest)) same (is rest)), refl)
leads_more element from (b ∷ bs) to bytes next (s, one, others) is = (s, one, leads_more element s bs to bytes next others is)

all_more : (elements : List (List ℕ)) (bytes : List ℕ) → all_bytes (elements ++ bytes ∷ []) ≡ all_bytes elements ++ bytes
all_more [] bytes = append-nil bytes
all_more (b ∷ bs) bytes = ap (λ z. b ++ z) (all_more bs bytes) ∙ sym (append_assoc b (all_bytes bs) bytes)

pub reads_more : {S : Type 0} {element : S → Reading S} {from : S} {old between new : Option (List ℕ)} {to next : S} {count : ℕ} (more : ℕ) → ReadsWhole element from old between to count → (read : Read (element to) between new next) → length read.bytes ≡ more → ReadsWhole element from old new next (count + more)
reads_more {element = element} {from = from} {old = old} {between = between} {new = new} {to = to} {next = next} more h read long =
    let all = all_more h.elements read.bytes in
    let P : List ℕ → Type 0 = λ z. Consumes old new z in
    record {
      elements = h.elements ++ read.bytes ∷ [];
      leads = leads_more element from h.elements to read.bytes next h.leads read.is;
      consumed = subst P (sym all) (consumes_then old between new (all_bytes h.elements) read.bytes h.consumed read.consumed);
      counted = ap (λ z. length z) all ∙ omega (arith, length-append (all_bytes h.elements) read.bytes, h.counted, long);
    }

-- what elements leave of an amount is less by as many bytes as they have
leads_take : {S : Type 0} (element : S → Reading S) (amount : S → ℕ) → ((s : S) → Takes Any (amount s) amount (element s)) → (from : S) (elements : List (List ℕ)) (to : S) → Leads element from elements to → length (all_bytes elements) + amount to ≡ amount from
leads_take element amount takes from [] to same = let equal : amount to ≡ amount from = ap amount same in omega (arith, equal)
leads_take element amount takes from (b ∷ bs) to (next, one, others) =
    let first = ((takes from).only (b ++ []) [] next (one [])).1 in
    let more = leads_take element amount takes next bs to others in
    omega (arith, first, more, length-append b [], length-append b (all_bytes bs))

pub reads_take : {S : Type 0} {element : S → Reading S} {from : S} {old new : Option (List ℕ)} {to : S} {count : ℕ} (amount : S → ℕ) → ((s : S) → Takes Any (amount s) amount (element s)) → ReadsWhole element from old new to count → count + amount to ≡ amount from
reads_take {element = element} {from = from} {to = to} amount takes h = let all = leads_take element amount takes from h.elements to h.leads in omega (arith, all, h.counted)

-- the one after them was refused
pub stops_after : {S : Type 0} {element : S → Reading S} {from : S} {old between new : Option (List ℕ)} {to : S} {count before after : ℕ} (last : ℕ) (f : FileFault) → after ≡ before → ReadsWhole element from old between to count → RefusedOrEnds (element to) between new after last f →
    StopsAfter element from (record { old = old; new = new; before = before; after = last }) f to count
stops_after {element = element} {between = between} {new = new} {to = to} last f same h why = record { between = between; before = h; refused = subst (λ n. RefusedOrEnds (element to) between new n last f) same why }

-- an offset that is counted by what is left
pub offset_of : (offset before after count most : ℕ) → count + after ≡ before → min (offset + min (before - after) most) most ≡ min (offset + count) most
offset_of offset before after count most is = grind (arith, is)

-- bytes that are counted by what a reading leaves of an amount
pub reads_counted : {X : Type 0} {P : X → Type 0} {reading : Reading X} {old new : Option (List ℕ)} {x : X} {before : ℕ} {after : X → ℕ} (count : ℕ) → Takes P before after reading → count + after x ≡ before → Read reading old new x → ReadsCounted reading old new x count
reads_counted count takes is read = record { bytes = read.bytes; consumed = read.consumed; is = read.is; counted = omega (arith, takes_read takes read, is) }

-- one reading after the other
pub counted_then : {X Y : Type 0} (r : Reading X) (k : X → Reading Y) {a b c : Option (List ℕ)} {x : X} {y : Y} {m n : ℕ} → ReadsCounted r a b x m → ReadsCounted (k x) b c y n → ReadsCounted (r >>= k) a c y (m + n)
counted_then r k {a = a} {b = b} {c = c} {x = x} {y = y} h g =
    record {
      bytes = h.bytes ++ g.bytes;
      consumed = consumes_then a b c h.bytes g.bytes h.consumed g.consumed;
      is = λ rest. ap (r >>= k) (append_assoc h.bytes g.bytes rest) ∙ ap (λ z. read_on z k) (h.is (g.bytes ++ rest)) ∙ g.is rest;
      counted = omega (arith, length-append h.bytes g.bytes, h.counted, g.counted);
    }

pub counted_given : {X : Type 0} (x : X) (a : Option (List ℕ)) → ReadsCounted (given x) a a x 0
counted_given x a = record { bytes = []; consumed = consumes_none a; is = λ rest. refl; counted = refl }

pub counted_same : {X : Type 0} (r s : Reading X) {a b : Option (List ℕ)} {x : X} {n : ℕ} → ((text : List ℕ) → r text ≡ s text) → ReadsCounted r a b x n → ReadsCounted s a b x n
counted_same r s same h = record { bytes = h.bytes; consumed = h.consumed; is = λ rest. sym (same (h.bytes ++ rest)) ∙ h.is rest; counted = h.counted }

-- one element more
pub counts_more : {S : Type 0} {element : S → Reading S} {from : S} {old between new : Option (List ℕ)} {to next : S} {count more : ℕ} → ReadsWhole element from old between to count → ReadsCounted (element to) between new next more → ReadsWhole element from old new next (count + more)
counts_more {element = element} {between = between} {new = new} {to = to} {next = next} h read =
    let plain : Read (element to) between new next = record { bytes = read.bytes; consumed = read.consumed; is = read.is } in
    reads_more _ h plain read.counted

-- an offset goes on
pub offset_then : (offset m n most : ℕ) → min (min (offset + m) most + n) most ≡ min (offset + (m + n)) most
offset_then offset m n most = grind arith

-- elements after others
leads_then : {S : Type 0} (element : S → Reading S) (from : S) (first : List (List ℕ)) (between : S) (others : List (List ℕ)) (to : S) → Leads element from first between → Leads element between others to → Leads element from (first ++ others) to
leads_then element from [] between others to same more = subst (λ s. Leads element s others to) same more
leads_then element from (b ∷ bs) between others to (s, one, rest) more = (s, one, leads_then element s bs between others to rest more)

pub reads_then : {S : Type 0} {element : S → Reading S} {from : S} {a b c : Option (List ℕ)} {between to : S} {m n : ℕ} → ReadsWhole element from a b between m → ReadsWhole element between b c to n → ReadsWhole element from a c to (m + n)
reads_then {element = element} {from = from} {a = a} {b = b} {c = c} {between = between} {to = to} h g =
    let all = flat_map-append (λ (bytes : List ℕ). bytes) h.elements g.elements in
    let P : List ℕ → Type 0 = λ z. Consumes a c z in
    record {
      elements = h.elements ++ g.elements;
      leads = leads_then element from h.elements between g.elements to h.leads g.leads;
      consumed = subst P (sym all) (consumes_then a b c (all_bytes h.elements) (all_bytes g.elements) h.consumed g.consumed);
      counted = ap (λ z. length z) all ∙ omega (arith, length-append (all_bytes h.elements) (all_bytes g.elements), h.counted, g.counted);
    }

pub offset_same : (offset n most : ℕ) → min (offset + n) most ≡ min (offset + (n + 0)) most
offset_same offset n most = grind arith

pub offset_thrice : (offset a b c most : ℕ) → min (min (min (offset + a) most + b) most + c) most ≡ min (offset + (a + (b + (c + 0)))) most
offset_thrice offset a b c most = grind arith
