-- The first fault of some bytes, and where it is.
use Rattle.std.proofs.Common.{◌≡◌, ◌⊎◌, ◌+◌, ℕ, List, [], ◌∷◌, ◌++◌, length, Option, Some, None, Ok, Err, inl, inr, refl, sym, ap, ◌∙◌, subst, append_assoc, append-nil, arith}
use Rattle.std.proofs.lemmas.List.{length-append}
use Rattle.std.specs.Io.KnownBytes.{Consumes, IsAtEnd}
use Rattle.ffv1_reads.specs.Offsets.{FaultAt, Leads, StopsAfter, all_bytes}
use Rattle.ffv1_reads.specs.Reads.{EndsEarly, Faults, Met, Reading, Refused, Short, Stop, Wants}
use Rattle.ffv1_reads.specs.Ends.{RefusedOrEnds}
use Rattle.ffv1_reads.proofs.Results.{ok_is}
use Rattle.ffv1_reads.specs.declared.fault.FileFault.{FileFault}
use Rattle.ffv1_reads.specs.declared.fault.FileFault.TheVariants as fault

-- what an element that was refused has
abbrev Has : {S : Type 0} → (S → Reading S) → S → List ℕ → FileFault → Type 0
Has element to rest f = ((after : List ℕ) × (element to rest ≡ Err (Met f after))) ⊎ (EndsEarly (element to) rest × (f ≡ fault.Truncated))

met : {S : Type 0} (element : S → Reading S) (to : S) (text : List ℕ) (new : Option (List ℕ)) (f : FileFault) → Faults (element to) (Some text) new f → Has element to text f
met element to text None f why = absurd why.consumed
met element to text (Some rest) f why = inl (rest, rw why.consumed (why.is rest))

early : {S : Type 0} (element : S → Reading S) (to : S) (text : List ℕ) (new : Option (List ℕ)) → Wants (element to) (Some text) new → IsAtEnd new → Has element to text fault.Truncated
early element to text None (w, lacks) ended = absurd lacks.consumed
early element to text (Some rest) (w, lacks) ended =
    let all : text ≡ lacks.bytes = lacks.consumed ∙ ap (λ z. lacks.bytes ++ z) ended ∙ append-nil lacks.bytes in
    inr ((w, rw all lacks.is), refl)

has_fault : {S : Type 0} (element : S → Reading S) (to : S) (text : List ℕ) (new : Option (List ℕ)) (before after : ℕ) (f : FileFault) → (f ≡ fault.Read → ⊥) → (f ≡ fault.OutOfMemory → ⊥) → Refused (element to) (Some text) new before after f → Has element to text f
has_fault element to text new before after fault.Read failed refused why = absurd (failed refl)
has_fault element to text new before after fault.OutOfMemory failed refused why = absurd (refused refl)
has_fault element to text new before after fault.Truncated failed refused (same, inl (wants, ended)) = early element to text new wants ended
has_fault element to text new before after fault.Truncated failed refused (same, inr why) = met element to text new fault.Truncated why
has_fault element to text new before after fault.TooLarge failed refused why = absurd why
has_fault element to text new before after fault.Write failed refused why = absurd why
has_fault element to text new before after fault.Rate failed refused why = absurd why
has_fault element to text new before after f failed refused why = met element to text new f why.1

-- a refusal that is no read's is none of the end's
plain : {S : Type 0} (element : S → Reading S) (to : S) (old new : Option (List ℕ)) (before after : ℕ) (f : FileFault) → (f ≡ fault.Read → ⊥) → RefusedOrEnds (element to) old new before after f → Refused (element to) old new before after f
plain element to old new before after fault.Read failed why = absurd (failed refl)
plain element to old new before after f failed why = why

pub known_fault : {S : Type 0} (element : S → Reading S) (from : S) (text : List ℕ) (new : Option (List ℕ)) (before after : ℕ) (f : FileFault) (to : S) (count : ℕ) → StopsAfter element from (record { old = Some text; new = new; before = before; after = after }) f to count →
    (f ≡ fault.Read → ⊥) → (f ≡ fault.OutOfMemory → ⊥) → FaultAt element from text f count
known_fault element from text new before after f to count stops failed refused = on_rest stops.between stops.before.consumed (plain element to stops.between new before after f failed stops.refused)
  where
    on_rest : (between : Option (List ℕ)) → Consumes (Some text) between (all_bytes stops.before.elements) → Refused (element to) between new before after f → FaultAt element from text f count
    on_rest None consumed why = absurd consumed
    on_rest (Some rest) consumed why =
        record {
          elements = stops.before.elements;
          rest = rest;
          to = to;
          leads = stops.before.leads;
          text_is = consumed;
          counted = stops.before.counted;
          fault_is = has_fault element to rest new before after f failed refused why;
        }

-- an element that was read whole has no fault
no_fault : {S : Type 0} (element : S → Reading S) (s next : S) (text rest : List ℕ) (f : FileFault) → element s text ≡ Ok (next, rest) → Has element s text f → ⊥
no_fault element s next text rest f read (inl (after, why)) = absurd (let other : Ok (next, rest) ≡ Err (Met f after) = sym read ∙ why in cc)
no_fault element s next text rest f read (inr ((w, why), is)) = absurd (let other : Ok (next, rest) ≡ Err (Short w) = sym read ∙ why in cc)

same_fault : {S : Type 0} (element : S → Reading S) (s : S) (text : List ℕ) (f g : FileFault) → Has element s text f → Has element s text g → f ≡ g
same_fault element s text f g (inl (a, one)) (inl (b, other)) = (let both : ◌≡◌ {A = Stop} (Met f a) (Met g b) = cc in cc)
same_fault element s text f g (inl (a, one)) (inr ((w, other), is)) = absurd (let both : ◌≡◌ {A = Stop} (Met f a) (Short w) = cc in cc)
same_fault element s text f g (inr ((w, one), is)) (inl (b, other)) = absurd (let both : ◌≡◌ {A = Stop} (Short w) (Met g b) = cc in cc)
same_fault element s text f g (inr ((w, one), is)) (inr ((v, other), too)) = is ∙ sym too

-- two ways from one place come to the same
only_one : {S : Type 0} (element : S → Reading S) (from : S) (text : List ℕ) (f g : FileFault) (xs ys : List (List ℕ)) (s t : S) (u v : List ℕ) → Leads element from xs s → Leads element from ys t → text ≡ all_bytes xs ++ u → text ≡ all_bytes ys ++ v → Has element s u f → Has element t v g →
    (f ≡ g) × (length (all_bytes xs) ≡ length (all_bytes ys))
only_one element from text f g [] [] s t u v one other is too a b =
    let rest : u ≡ v = sym is ∙ too in
    (same_fault element from v f g (subst (λ z. Has element z v f) one (subst (λ z. Has element s z f) rest a)) (subst (λ z. Has element z v g) other b), refl)
only_one element from text f g [] (y ∷ ys) s t u v one (next, read, more) is too a b =
    let rest : u ≡ y ++ (all_bytes ys ++ v) = sym is ∙ too ∙ append_assoc y (all_bytes ys) v in
    absurd (no_fault element from next (y ++ (all_bytes ys ++ v)) (all_bytes ys ++ v) f (read (all_bytes ys ++ v)) (subst (λ z. Has element z (y ++ (all_bytes ys ++ v)) f) one (subst (λ z. Has element s z f) rest a)))
only_one element from text f g (x ∷ xs) [] s t u v (next, read, more) other is too a b =
    let rest : v ≡ x ++ (all_bytes xs ++ u) = sym too ∙ is ∙ append_assoc x (all_bytes xs) u in
    absurd (no_fault element from next (x ++ (all_bytes xs ++ u)) (all_bytes xs ++ u) g (read (all_bytes xs ++ u)) (subst (λ z. Has element z (x ++ (all_bytes xs ++ u)) g) other (subst (λ z. Has element t z g) rest b)))
only_one {S = S} element from text f g (x ∷ xs) (y ∷ ys) s t u v (next, read, more) (after, reads, others) is too a b =
    let left : text ≡ x ++ (all_bytes xs ++ u) = is ∙ append_assoc x (all_bytes xs) u in
    let right : text ≡ y ++ (all_bytes ys ++ v) = too ∙ append_assoc y (all_bytes ys) v in
    let one : element from text ≡ Ok (next, all_bytes xs ++ u) = ap (element from) left ∙ read (all_bytes xs ++ u) in
    let two : element from text ≡ Ok (after, all_bytes ys ++ v) = ap (element from) right ∙ reads (all_bytes ys ++ v) in
    let both = ok_is (next, all_bytes xs ++ u) (after, all_bytes ys ++ v) (sym one ∙ two) in
    let place : next ≡ after = ap (λ (z : S × List ℕ). z.0) both in
    let rest : all_bytes xs ++ u ≡ all_bytes ys ++ v = ap (λ (z : S × List ℕ). z.1) both in
    let on = only_one element after (all_bytes ys ++ v) f g xs ys s t u v (subst (λ z. Leads element z xs s) place more) others (sym rest) refl a b in
    let long : length x + length (all_bytes xs ++ u) ≡ length y + length (all_bytes ys ++ v) = sym (length-append x (all_bytes xs ++ u)) ∙ ap (λ z. length z) (sym left ∙ right) ∙ length-append y (all_bytes ys ++ v) in
    let rests : length (all_bytes xs ++ u) ≡ length (all_bytes ys ++ v) = ap (λ z. length z) rest in
    (on.0, omega (arith, on.1, long, rests, length-append x (all_bytes xs), length-append y (all_bytes ys)))

pub one_fault : {S : Type 0} (element : S → Reading S) (from : S) (text : List ℕ) (f g : FileFault) (m n : ℕ) → FaultAt element from text f m → FaultAt element from text g n → (f ≡ g) × (m ≡ n)
one_fault element from text f g m n one other =
    let both = only_one element from text f g one.elements other.elements one.to other.to one.rest other.rest one.leads other.leads one.text_is other.text_is one.fault_is other.fault_is in
    (both.0, sym one.counted ∙ both.1 ∙ other.counted)
