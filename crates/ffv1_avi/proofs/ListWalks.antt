-- A walk over a list of chunks, whatever is made of each.
use Rattle.std.proofs.Common.{◌≡◌, ◌⊎◌, inl, inr, ℕ, suc, zero, ◌+◌, ◌-◌, ◌%◌, ◌≤◌, ◌<◌, ◌&&◌, ◌==◌, nat_lt, Bool, true, false, Option, Some, None, Result, Ok, Err, List, [], ◌∷◌, ◌++◌, length, take, drop, codes, ap, ◌∙◌, sym, subst, arith, refl, append_assoc, length-append, length-take, length-drop, zero-add}
use Rattle.std.proofs.lemmas.Bool.{eqb-true, ne_eqb, ltb-false, ltb-true, le-ltb, lt-ltb}
use Rattle.ffv1_avi.specs.declared.place.Extent.{Extent}
use Rattle.ffv1_avi.specs.Names.{is_every, riff_rule}
use Rattle.std.proofs.lemmas.List.{take-append-drop}
use Rattle.byteorder.specs.Endian.{little_number}
use Rattle.ffv1_avi.specs.declared.chunk.Entry.{Entry}
use Rattle.ffv1_reads.specs.Reads.{Stop}
use Rattle.ffv1_reads.specs.declared.fault.FileFault.{FileFault}
use Rattle.ffv1_reads.specs.declared.fault.FileFault.TheVariants as fault
use Rattle.ffv1_avi.specs.Chunks.{AreChunks, AreTaken, Chunk, Fit, chunk_text, chunks_text}
use Rattle.ffv1_avi.specs.Padding.{padded}
use Rattle.ffv1_reads.specs.Reads.{read_on}
use Rattle.ffv1_avi.specs.Walk.{Rule, Visit, plain, entry_in, entry_judged, entry_of, size_in, sizeless_judged, sizeless_or, entry_read, is_known, is_name, is_sizeless, resumed, visited, walk, walk_in, walk_up_to}
use Rattle.ffv1_reads.proofs.Results.{cut_back, cut_front}
use Rattle.ffv1_reads.proofs.Results.{ok_is, some_is}
use Rattle.ffv1_avi.proofs.ChunkByChunk.{walk_step_in}
use Rattle.ffv1_avi.proofs.TakenChunks.{as_taken, chunks_fit, size_fits, size_listed, taken_as, taken_first, taken_more, taken_none}

-- what a state becomes by a chunk of this name and these bytes
abbrev pub Taking : Type 0 → Type 1
Taking S = S → List ℕ → List ℕ → S → Type 0

-- a state becomes another by these chunks, in order
abbrev pub Run : {S : Type 0} → Taking S → S → List Chunk → S → Type 0
Run T s [] t = t ≡ s
Run {S = S} T s (c ∷ cs) t = (m : S) × T s c.name c.bytes m × Run T m cs t

-- a header at the front of a text, in a list with so many bytes left
pub record IsEntry (rule : Rule) (left : ℕ) (text : List ℕ) (e : Entry) (rest : List ℕ) : Type 0 where
  pub size : List ℕ
  pub text_is : text ≡ (e.name ++ size) ++ rest
  pub named : length e.name ≡ 4
  pub sized : length size ≡ 4
  pub counted : size_in rule e.name (little_number 4 size) ≡ e.size
  pub fits : e.left + (8 + padded e.size) ≡ left
  pub whole : 8 + padded (little_number 4 size) ≤ left
  pub room : is_name e.name (codes "LIST") ≡ true → 4 ≤ little_number 4 size
  pub listed : is_name e.name (codes "LIST") ≡ true → 4 ≤ e.size

-- the header of a list without size at the front of a text, where there may be one
pub record IsSizeless (rule : Rule) (left : ℕ) (text : List ℕ) (e : Entry) (rest : List ℕ) : Type 0 where
  pub may : rule.sizeless ≡ true
  pub size : List ℕ
  pub text_is : text ≡ (e.name ++ size) ++ rest
  pub named : length e.name ≡ 4
  pub sized : length size ≡ 4
  pub list : is_name e.name (codes "LIST") ≡ true
  pub unknown : is_known (little_number 4 size) ≡ false
  pub none : e.size ≡ 0
  pub left_is : e.left + 8 ≡ left
  pub room : 12 ≤ left
  pub bare : 4 ≤ little_number 4 size → left < 8 + padded (little_number 4 size)

-- a header at the front of a text
abbrev pub Headed : Rule → ℕ → List ℕ → Entry → List ℕ → Type 0
Headed rule left text e rest = IsEntry rule left text e rest ⊎ IsSizeless rule left text e rest

-- where no list may be without size, each has one
pub headed_entry : {rule : Rule} {left : ℕ} {text : List ℕ} {e : Entry} {rest : List ℕ} → rule.sizeless ≡ false → Headed rule left text e rest → IsEntry rule left text e rest
headed_entry never (inl entry) = entry
headed_entry never (inr other) = absurd (let no : true ≡ false = sym other.may ∙ never in cc)

pub headed_fits : {rule : Rule} {left : ℕ} {text : List ℕ} {e : Entry} {rest : List ℕ} → Headed rule left text e rest → e.left + (8 + padded e.size) ≤ left
headed_fits (inl entry) = omega (arith, entry.fits)
headed_fits (inr other) = omega (arith, other.left_is, other.none)

-- a list without size
pub sizeless_is : (rule : Rule) (name : List ℕ) (n : ℕ) → is_sizeless rule name n ≡ true → (rule.sizeless ≡ true) × (is_name name (codes "LIST") ≡ true) × (is_known n ≡ false)
sizeless_is rule name n h = on_parts rule.sizeless (is_name name (codes "LIST")) (is_known n) refl refl refl h
  where
    on_parts : (a b c : Bool) → rule.sizeless ≡ a → is_name name (codes "LIST") ≡ b → is_known n ≡ c → is_sizeless rule name n ≡ true → (rule.sizeless ≡ true) × (is_name name (codes "LIST") ≡ true) × (is_known n ≡ false)
    on_parts true true false p q r h = (p, q, r)
    on_parts false b c p q r h = absurd (cc (rw p at h))
    on_parts true false c p q r h = absurd (cc (rw (p, q) at h))
    on_parts true true true p q r h = absurd (cc (rw (p, q, r) at h))

-- it has no size where there may be none
pub never_sizeless : (rule : Rule) (name : List ℕ) (n : ℕ) → rule.sizeless ≡ false → is_sizeless rule name n ≡ false
never_sizeless rule name n never = rw never refl

sizeless_sound : (rule : Rule) (left : ℕ) (name size text rest : List ℕ) (e : Entry) (a : Bool) → nat_lt left 12 ≡ a → is_sizeless rule name (little_number 4 size) ≡ true → (4 ≤ little_number 4 size → left < 8 + padded (little_number 4 size)) → length name ≡ 4 → length size ≡ 4 → sizeless_judged left name text ≡ Ok (Some e, rest) → IsSizeless rule left ((name ++ size) ++ text) e rest
sizeless_sound rule left name size text rest e true p q bare n z h = absurd (cc (rw p at h))
sizeless_sound rule left name size text rest e false p q bare n z h =
    let made : Entry = entry_of left name 0 in
    let found : Ok (Some made, text) ≡ Ok (Some e, rest) = rw p at h in
    let parts = ok_is (Some made, text) (Some e, rest) found in
    let same : made ≡ e = some_is made e (ap (λ (z : Option Entry × List ℕ). z.0) parts) in
    let behind : text ≡ rest = ap (λ (z : Option Entry × List ℕ). z.1) parts in
    let room : 12 ≤ left = ltb-false _ _ p in
    let is = sizeless_is rule name (little_number 4 size) q in
    let here : IsSizeless rule left ((name ++ size) ++ text) made text = record { may = is.0; size = size; text_is = refl; named = n; sized = z; list = is.1; unknown = is.2; none = refl; left_is = omega (arith, room); room = room; bare = bare } in
    let P : Entry → Type 0 = λ x. IsSizeless rule left ((name ++ size) ++ text) x text in
    let Q : List ℕ → Type 0 = λ x. IsSizeless rule left ((name ++ size) ++ text) e x in
    subst Q behind (subst P same here)

-- what is given in place of a fault is a list without size
fault_sound : (rule : Rule) (left : ℕ) (name size text rest : List ℕ) (e : Entry) (f : FileFault) (b : Bool) → is_sizeless rule name (little_number 4 size) ≡ b → (4 ≤ little_number 4 size → left < 8 + padded (little_number 4 size)) → length name ≡ 4 → length size ≡ 4 → sizeless_or rule left name (little_number 4 size) f text ≡ Ok (Some e, rest) → Headed rule left ((name ++ size) ++ text) e rest
fault_sound rule left name size text rest e f false u bare n z h = absurd (cc (rw u at h))
fault_sound rule left name size text rest e f true u bare n z h = inr (sizeless_sound rule left name size text rest e (nat_lt left 12) refl u bare n z (rw u at h))

judged_found : (rule : Rule) (left : ℕ) (name size text rest : List ℕ) (e : Entry) (a b d : Bool) → rule.bars name ≡ d → nat_lt left (8 + padded (little_number 4 size)) ≡ a → (is_name name (codes "LIST") && nat_lt (little_number 4 size) 4) ≡ b →
    length name ≡ 4 → length size ≡ 4 → entry_judged rule left name (little_number 4 size) text ≡ Ok (Some e, rest) → Headed rule left ((name ++ size) ++ text) e rest
judged_found rule left name size text rest e a b true t p q n z h = absurd (cc (rw t at h))
judged_found rule left name size text rest e true b false t p q n z h = fault_sound rule left name size text rest e fault.Truncated (is_sizeless rule name (little_number 4 size)) refl (λ _. ltb-true _ _ p) n z (rw (t, p) at h)
judged_found rule left name size text rest e false true false t p q n z h = fault_sound rule left name size text rest e fault.NotAvi (is_sizeless rule name (little_number 4 size)) refl (λ room. absurd (no_list (is_name name (codes "LIST")) q room)) n z (rw (t, p, q) at h)
  where
    no_list : (l : Bool) → (l && nat_lt (little_number 4 size) 4) ≡ true → 4 ≤ little_number 4 size → ⊥
    no_list true q room = omega (arith, room, ltb-true _ _ q)
    no_list false q room = absurd (cc)
judged_found rule left name size text rest e false false false t p q n z h =
    let made : Entry = entry_of left name (size_in rule name (little_number 4 size)) in
    let found : Ok (Some made, text) ≡ Ok (Some e, rest) = rw (t, p, q) at h in
    let parts = ok_is (Some made, text) (Some e, rest) found in
    let same : made ≡ e = some_is made e (ap (λ (z : Option Entry × List ℕ). z.0) parts) in
    let behind : text ≡ rest = ap (λ (z : Option Entry × List ℕ). z.1) parts in
    let room : 8 + padded (little_number 4 size) ≤ left = ltb-false _ _ p in
    let list : is_name name (codes "LIST") ≡ true → 4 ≤ little_number 4 size = λ l. ltb-false _ _ (rw l at q) in
    let less = size_fits rule name (little_number 4 size) list in
    let here : IsEntry rule left ((name ++ size) ++ text) made text = record { size = size; text_is = refl; named = n; sized = z; counted = refl; fits = omega (arith, room, less); whole = room; room = list; listed = size_listed rule name (little_number 4 size) list } in
    let P : Entry → Type 0 = λ x. IsEntry rule left ((name ++ size) ++ text) x text in
    let Q : List ℕ → Type 0 = λ x. IsEntry rule left ((name ++ size) ++ text) e x in
    inl (subst Q behind (subst P same here))

-- a header that was judged
pub judged_sound : (rule : Rule) (left : ℕ) (name size text rest : List ℕ) (e : Entry) → length name ≡ 4 → length size ≡ 4 → entry_judged rule left name (little_number 4 size) text ≡ Ok (Some e, rest) → Headed rule left ((name ++ size) ++ text) e rest
judged_sound rule left name size text rest e n z h = judged_found rule left name size text rest e _ _ _ refl refl refl n z h

-- the next header of a list, or its end
pub entry_found : (rule : Rule) (left : ℕ) (text : List ℕ) (e : Entry) (rest : List ℕ) → entry_in rule left text ≡ Ok (Some e, rest) → Headed rule left text e rest
unfolding entry_in
entry_found rule left text e rest h = on_left (left == 0) (nat_lt left 8) (nat_lt (length text) 8) refl refl refl h
  where
    on_left : (a b c : Bool) → (left == 0) ≡ a → nat_lt left 8 ≡ b → nat_lt (length text) 8 ≡ c → entry_in rule left text ≡ Ok (Some e, rest) → Headed rule left text e rest
    on_left true b c p q r h =
        let none : Ok (None, text) ≡ Ok (Some e, rest) = rw p at h in
        let same : None ≡ Some e = ap (λ (z : Option Entry × List ℕ). z.0) (ok_is (None, text) (Some e, rest) none) in
        absurd (cc)
    on_left false true c p q r h = absurd (cc (rw (p, q) at h))
    on_left false false true p q r h = absurd (cc (rw (p, q, r) at h))
    on_left false false false p q r h =
        let enough : 8 ≤ length text = ltb-false _ _ r in
        let head = take 8 text in
        let long : length head ≡ 8 = length-take 8 text ∙ (omega (arith, enough)) in
        let whole : (take 4 head ++ drop 4 head) ++ drop 8 text ≡ text = ap (λ z. z ++ drop 8 text) (take-append-drop 4 head) ∙ take-append-drop 8 text in
        let name : length (take 4 head) ≡ 4 = length-take 4 head ∙ (omega (arith, long)) in
        let size : length (drop 4 head) ≡ 4 = length-drop 4 head ∙ (omega (arith, long)) in
        let P : List ℕ → Type 0 = λ z. Headed rule left z e rest in
        subst P whole (judged_sound rule left (take 4 head) (drop 4 head) (drop 8 text) rest e name size (rw (p, q, r) at h))

-- where no list may be without size
pub entry_sound : (rule : Rule) (left : ℕ) (text : List ℕ) (e : Entry) (rest : List ℕ) → rule.sizeless ≡ false → entry_in rule left text ≡ Ok (Some e, rest) → IsEntry rule left text e rest
entry_sound rule left text e rest never h = headed_entry never (entry_found rule left text e rest h)

-- a header that is judged is one, or is refused
pub judged_none : (rule : Rule) (left n : ℕ) (name more rest : List ℕ) → entry_judged rule left name n more ≡ Ok (None, rest) → ⊥
judged_none rule left n name more rest h = on_tests (nat_lt left (8 + padded n)) (is_name name (codes "LIST") && nat_lt n 4) (rule.bars name) refl refl refl h
  where
    no_none : (e : Entry) (text : List ℕ) → ◌≡◌ {A = Result (Option Entry × List ℕ) Stop} (Ok (Some e, text)) (Ok (None, rest)) → ⊥
    no_none e text k =
        let same : Some e ≡ None = ap (λ (z : Option Entry × List ℕ). z.0) (ok_is (Some e, text) (None, rest) k) in
        absurd (cc)

    on_fault : (f : FileFault) (s l : Bool) → is_sizeless rule name n ≡ s → nat_lt left 12 ≡ l → sizeless_or rule left name n f more ≡ Ok (None, rest) → ⊥
    on_fault f false l u r h = absurd (cc (rw u at h))
    on_fault f true true u r h = absurd (cc (rw (u, r) at h))
    on_fault f true false u r h = no_none (entry_of left name 0) more (rw (u, r) at h)

    on_tests : (a b d : Bool) → nat_lt left (8 + padded n) ≡ a → (is_name name (codes "LIST") && nat_lt n 4) ≡ b → rule.bars name ≡ d → entry_judged rule left name n more ≡ Ok (None, rest) → ⊥
    on_tests a b true p q t h = absurd (cc (rw t at h))
    on_tests true b false p q t h = on_fault fault.Truncated (is_sizeless rule name n) (nat_lt left 12) refl refl (rw (t, p) at h)
    on_tests false true false p q t h = on_fault fault.NotAvi (is_sizeless rule name n) (nat_lt left 12) refl refl (rw (t, p, q) at h)
    on_tests false false false p q t h = no_none (entry_of left name (size_in rule name n)) more (rw (t, p, q) at h)

pub entry_none : (rule : Rule) (left : ℕ) (text rest : List ℕ) → entry_in rule left text ≡ Ok (None, rest) → (left ≡ 0) × (text ≡ rest)
unfolding entry_in
entry_none rule left text rest h = on_left (left == 0) (nat_lt left 8) (nat_lt (length text) 8) refl refl refl h
  where
    on_left : (a b c : Bool) → (left == 0) ≡ a → nat_lt left 8 ≡ b → nat_lt (length text) 8 ≡ c → entry_in rule left text ≡ Ok (None, rest) → (left ≡ 0) × (text ≡ rest)
    on_left true b c p q r h =
        let none : Ok (None, text) ≡ Ok (None, rest) = rw p at h in
        (eqb-true left 0 p, ap (λ (z : Option Entry × List ℕ). z.1) (ok_is (None, text) (None, rest) none))
    on_left false true c p q r h = absurd (cc (rw (p, q) at h))
    on_left false false true p q r h = absurd (cc (rw (p, q, r) at h))
    on_left false false false p q r h = absurd (judged_none rule left (little_number 4 (drop 4 (take 8 text))) (take 4 (take 8 text)) (drop 8 text) rest (rw (p, q, r) at h))

-- a visit that passes a chunk has taken its bytes and its padding
pub record IsPassed {S : Type 0} (T : Taking S) (s : S) (e : Entry) (t : S) (text rest : List ℕ) : Type 0 where
  pub bytes : List ℕ
  pub padding : List ℕ
  pub text_is : text ≡ (bytes ++ padding) ++ rest
  pub long : length bytes ≡ e.size
  pub padded_by : length padding ≡ e.size % 2
  pub takes : T s e.name bytes t

abbrev pub IsListed : Entry → Type 0
IsListed e = is_name e.name (codes "LIST") ≡ true → 4 ≤ e.size

abbrev pub Sound : {S Y : Type 0} → Visit S Y → Taking S → Type 0
Sound {S = S} {Y = Y} visit T = (s : S) (e : Entry) (text : List ℕ) (t : S) (rest : List ℕ) → IsListed e → visit s e text ≡ Ok ((t, None), rest) → IsPassed T s e t text rest

-- a visit does not pass a list without size
abbrev pub Halting : {S Y : Type 0} → Rule → Visit S Y → Type 0
Halting {S = S} {Y = Y} rule visit = rule.sizeless ≡ true → (s : S) (e : Entry) (text : List ℕ) (t : S) (rest : List ℕ) → e.size ≡ 0 → is_name e.name (codes "LIST") ≡ true → visit s e text ≡ Ok ((t, None), rest) → ⊥

-- where there is none
pub halting : {S Y : Type 0} (rule : Rule) (visit : Visit S Y) → rule.sizeless ≡ false → Halting rule visit
halting rule visit never may = absurd (let no : true ≡ false = sym may ∙ never in cc)

-- how a walk ended: at the list's end, or by the visit of a chunk
abbrev pub Ended : {S Y : Type 0} → Rule → Visit S Y → ℕ → S → List ℕ → S → Option Y → List ℕ → Type 0
Ended rule visit after u behind t None rest = (after ≡ 0) × (t ≡ u) × (behind ≡ rest)
Ended rule visit after u behind t (Some y) rest = (e : Entry) × (more : List ℕ) × Headed rule after behind e more × (visit u e more ≡ Ok ((t, Some y), rest))

-- what a walk has passed
pub record Walked {S Y : Type 0} (rule : Rule) (visit : Visit S Y) (T : Taking S) (left : ℕ) (s : S) (text : List ℕ) (t : S) (o : Option Y) (rest : List ℕ) : Type 0 where
  pub chunks : List Chunk
  pub behind : List ℕ
  pub after : ℕ
  pub last : S
  pub text_is : text ≡ chunks_text chunks ++ behind
  pub each : AreTaken rule.opens chunks
  pub fit : Fit after chunks
  pub long : length (chunks_text chunks) + after ≡ left
  pub run : Run T s chunks last
  pub end : Ended rule visit after last behind t o rest

-- a chunk before others that a walk has passed
walked_more : {S Y : Type 0} (rule : Rule) (visit : Visit S Y) (T : Taking S) (left : ℕ) (s u : S) (text middle more : List ℕ) (e : Entry) (t : S) (o : Option Y) (rest : List ℕ) →
    IsEntry rule left text e middle → IsPassed T s e u middle more → Walked rule visit T e.left u more t o rest → Walked rule visit T left s text t o rest
walked_more rule visit T left s u text middle more e t o rest entry passed walked =
    let c : Chunk = record { name = e.name; size = entry.size; bytes = passed.bytes; padding = passed.padding } in
    let size_is : size_in rule e.name (little_number 4 entry.size) ≡ length passed.bytes = entry.counted ∙ sym passed.long in
    let odd : length passed.padding ≡ length passed.bytes % 2 = rw passed.long passed.padded_by in
    let list : is_name e.name (codes "LIST") ≡ true → 4 ≤ length passed.bytes = λ l. rw passed.long (entry.listed l) in
    let is = as_taken rule c entry.named entry.sized size_is odd entry.room list in
    let here : text ≡ (chunk_text c ++ chunks_text walked.chunks) ++ walked.behind =
    entry.text_is ∙ ap (λ z. (e.name ++ entry.size) ++ z) (passed.text_is ∙ ap (λ z. (passed.bytes ++ passed.padding) ++ z) walked.text_is)
    ∙ regrouped (e.name ++ entry.size) passed.bytes passed.padding (chunks_text walked.chunks) walked.behind in
    let size : length (chunk_text c) ≡ 8 + padded e.size = omega (arith, entry.named, entry.sized, passed.long, passed.padded_by, length-append ((e.name ++ entry.size) ++ passed.bytes) passed.padding, length-append (e.name ++ entry.size) passed.bytes, length-append e.name entry.size) in
    let all : length (chunk_text c ++ chunks_text walked.chunks) + walked.after ≡ left = omega (arith, size, walked.long, entry.fits, length-append (chunk_text c) (chunks_text walked.chunks)) in
    record { chunks = c ∷ walked.chunks; behind = walked.behind; after = walked.after; last = walked.last; text_is = here; each = taken_more rule.opens c walked.chunks is walked.each; fit = (omega (arith, entry.whole, all), walked.fit); long = all; run = (u, passed.takes, walked.run); end = walked.end }
  where
    regrouped : (a b c d e : List ℕ) → a ++ ((b ++ c) ++ (d ++ e)) ≡ (((a ++ b) ++ c) ++ d) ++ e
    regrouped a b c d e = simp append_assoc

-- nothing has been passed
walked_none : {S Y : Type 0} (rule : Rule) (visit : Visit S Y) (T : Taking S) (left : ℕ) (s : S) (text : List ℕ) → left ≡ 0 → Walked rule visit T left s text s None text
walked_none rule visit T left s text none =
    record { chunks = []; behind = text; after = 0; last = s; text_is = refl; each = taken_none rule.opens; fit = tt; long = omega (arith, none); run = refl; end = (refl, refl, refl) }

walked_stop : {S Y : Type 0} (rule : Rule) (visit : Visit S Y) (T : Taking S) (left : ℕ) (s : S) (text : List ℕ) (e : Entry) (middle : List ℕ) (t : S) (y : Y) (rest : List ℕ) → Headed rule left text e middle →
    visit s e middle ≡ Ok ((t, Some y), rest) → Walked rule visit T left s text t (Some y) rest
walked_stop rule visit T left s text e middle t y rest entry stop =
    record { chunks = []; behind = text; after = left; last = s; text_is = refl; each = taken_none rule.opens; fit = tt; long = omega arith; run = refl; end = (e, middle, entry, stop) }

-- what a walk answers, as one value
abbrev WalkedTo : {S Y : Type 0} → Rule → Visit S Y → Taking S → ℕ → S → List ℕ → (S × Option Y) × List ℕ → Type 0
WalkedTo rule visit T left s text z = Walked rule visit T left s text z.0.0 z.0.1 z.1

walk_up_to_sound : {S Y : Type 0} (rule : Rule) (visit : Visit S Y) (T : Taking S) → Sound visit T → Halting rule visit → (most left : ℕ) (s : S) (text : List ℕ) (z : (S × Option Y) × List ℕ) → left ≤ most →
    walk_up_to rule visit most left s text ≡ Ok z → WalkedTo rule visit T left s text z
unfolding walk_up_to
walk_up_to_sound {S = S} {Y = Y} rule visit T sound halts zero left s text z enough h =
    let none : left ≡ 0 = omega (arith, enough) in
    let P : (S × Option Y) × List ℕ → Type 0 = λ z. WalkedTo rule visit T left s text z in
    subst P (ok_is ((s, None), text) z h) (walked_none rule visit T left s text none)
walk_up_to_sound {S = S} {Y = Y} rule visit T sound halts (suc most) left s text z enough h =
    on_entry (λ l u more z. walk_up_to_sound rule visit T sound halts most l u more z) (entry_in rule left text) refl h
  where
    Again : Type 0
    Again = (l : ℕ) (u : S) (more : List ℕ) (z : (S × Option Y) × List ℕ) → l ≤ most → walk_up_to rule visit most l u more ≡ Ok z → WalkedTo rule visit T l u more z

    P : (S × Option Y) × List ℕ → Type 0
    P z = WalkedTo rule visit T left s text z

    on_visit : Again → (e : Entry) (middle : List ℕ) → IsEntry rule left text e middle → (v : Result ((S × Option Y) × List ℕ) Stop) → visit s e middle ≡ v → read_on v (λ p. resumed (walk_up_to rule visit most e.left) p.0 p.1) ≡ Ok z → P z
    on_visit again e middle entry (Err f) is k = absurd (cc)
    on_visit again e middle entry (Ok ((t, Some y), rest)) is k = subst P (ok_is ((t, Some y), rest) z k) (walked_stop rule visit T left s text e middle t y rest (inl entry) is)
    on_visit again e middle entry (Ok ((u, None), more)) is k =
        let less : e.left ≤ most = omega (arith, entry.fits, enough) in
        let passed = sound s e middle u more entry.listed is in
        walked_more rule visit T left s u text middle more e z.0.0 z.0.1 z.1 entry passed (again e.left u more z less k)

    on_sizeless : (e : Entry) (middle : List ℕ) → IsSizeless rule left text e middle → (v : Result ((S × Option Y) × List ℕ) Stop) → visit s e middle ≡ v → read_on v (λ p. resumed (walk_up_to rule visit most e.left) p.0 p.1) ≡ Ok z → P z
    on_sizeless e middle entry (Err f) is k = absurd (cc)
    on_sizeless e middle entry (Ok ((t, Some y), rest)) is k = subst P (ok_is ((t, Some y), rest) z k) (walked_stop rule visit T left s text e middle t y rest (inr entry) is)
    on_sizeless e middle entry (Ok ((u, None), more)) is k = absurd (halts entry.may s e middle u more entry.none entry.list is)

    on_headed : Again → (e : Entry) (middle : List ℕ) → Headed rule left text e middle → read_on (visit s e middle) (λ p. resumed (walk_up_to rule visit most e.left) p.0 p.1) ≡ Ok z → P z
    on_headed again e middle (inl entry) k = on_visit again e middle entry (visit s e middle) refl k
    on_headed again e middle (inr entry) k = on_sizeless e middle entry (visit s e middle) refl k

    on_entry : Again → (v : Result (Option Entry × List ℕ) Stop) → entry_in rule left text ≡ v → read_on v (visited visit (walk_up_to rule visit most) s) ≡ Ok z → P z
    on_entry again (Err f) is k = absurd (cc)
    on_entry again (Ok (None, rest)) is k =
        let end = entry_none rule left text rest is in
        let Q : List ℕ → Type 0 = λ r. WalkedTo rule visit T left s text ((s, None), r) in
        subst P (ok_is ((s, None), rest) z k) (subst Q end.1 (walked_none rule visit T left s text end.0))
    on_entry again (Ok (Some e, middle)) is k = on_headed again e middle (entry_found rule left text e middle is) k

pub walk_sound_in : {S Y : Type 0} (rule : Rule) (visit : Visit S Y) (T : Taking S) → Sound visit T → Halting rule visit → (left : ℕ) (s : S) (text : List ℕ) (z : (S × Option Y) × List ℕ) → walk_in rule visit left s text ≡ Ok z → WalkedTo rule visit T left s text z
walk_sound_in rule visit T sound halts left s text z h = walk_up_to_sound rule visit T sound halts left left s text z (omega arith) h

-- the same in a list that bars no name
pub walk_sound : {S Y : Type 0} (visit : Visit S Y) (T : Taking S) → Sound visit T → (left : ℕ) (s : S) (text : List ℕ) (z : (S × Option Y) × List ℕ) → walk visit left s text ≡ Ok z → WalkedTo plain visit T left s text z
walk_sound visit T sound left s text z h = walk_sound_in plain visit T sound (halting plain visit refl) left s text z h

-- a header that fits is read
pub entry_complete_in : (rule : Rule) (left : ℕ) (name size rest : List ℕ) → rule.bars name ≡ false → length name ≡ 4 → length size ≡ 4 → 8 + padded (little_number 4 size) ≤ left → (is_name name (codes "LIST") ≡ true → 4 ≤ little_number 4 size) →
    entry_in rule left ((name ++ size) ++ rest) ≡ Ok (Some (entry_of left name (size_in rule name (little_number 4 size))), rest)
unfolding entry_in
entry_complete_in rule left name size rest stands named sized fits listed =
    let both : length (name ++ size) ≡ 8 = omega (arith, named, sized, length-append name size) in
    let some : (left == 0) ≡ false = ne_eqb _ _ (λ e. omega (arith, fits, e)) in
    let room : nat_lt left 8 ≡ false = le-ltb _ _ (omega (arith, fits)) in
    let there : nat_lt (length ((name ++ size) ++ rest)) 8 ≡ false = le-ltb _ _ (omega (arith, both, length-append (name ++ size) rest)) in
    let front : take 8 ((name ++ size) ++ rest) ≡ name ++ size = cut_front 8 (name ++ size) rest both in
    let behind : drop 8 ((name ++ size) ++ rest) ≡ rest = cut_back 8 (name ++ size) rest both in
    let first : take 4 (name ++ size) ≡ name = cut_front 4 name size named in
    let second : drop 4 (name ++ size) ≡ size = cut_back 4 name size named in
    let fit : nat_lt left (8 + padded (little_number 4 size)) ≡ false = le-ltb _ _ fits in
    rw (some, room, there, front, behind, first, second, stands, fit, no_short_list (is_name name (codes "LIST")) refl) refl
  where
    no_short_list : (b : Bool) → is_name name (codes "LIST") ≡ b → (b && nat_lt (little_number 4 size) 4) ≡ false
    no_short_list true is = le-ltb _ _ (listed is)
    no_short_list false is = refl

-- the same in a list that bars no name
pub entry_complete : (left : ℕ) (name size rest : List ℕ) → length name ≡ 4 → length size ≡ 4 → 8 + padded (little_number 4 size) ≤ left → (is_name name (codes "LIST") ≡ true → 4 ≤ little_number 4 size) →
    entry_read left ((name ++ size) ++ rest) ≡ Ok (Some (record { name = name; size = little_number 4 size; left = left - (8 + padded (little_number 4 size)) }), rest)
entry_complete left name size rest named sized fits listed = entry_complete_in plain left name size rest refl named sized fits listed

-- a size that is not known is none, or the greatest
pub most_unknown : (n : ℕ) → (n == 0) ≡ false → is_known n ≡ false → n ≡ 4294967295
most_unknown n some unknown = on_most (n == 4294967295) refl
  where
    on_most : (b : Bool) → (n == 4294967295) ≡ b → n ≡ 4294967295
    on_most true p = eqb-true _ _ p
    on_most false p = absurd (let no : true ≡ false = rw (some, p) at unknown in cc)

-- a list without size is read as its header
pub entry_sizeless : (extent : Extent) (left : ℕ) (name size rest : List ℕ) → is_every extent ≡ true → length name ≡ 4 → length size ≡ 4 → is_name name (codes "LIST") ≡ true → is_known (little_number 4 size) ≡ false → 12 ≤ left → (4 ≤ little_number 4 size → left < 8 + padded (little_number 4 size)) →
    entry_in (riff_rule extent) left ((name ++ size) ++ rest) ≡ Ok (Some (entry_of left name 0), rest)
unfolding entry_in
entry_sizeless extent left name size rest every named sized list unknown fits bare =
    let n = little_number 4 size in
    let both : length (name ++ size) ≡ 8 = omega (arith, named, sized, length-append name size) in
    let some : (left == 0) ≡ false = ne_eqb _ _ (λ e. omega (arith, fits, e)) in
    let room : nat_lt left 8 ≡ false = le-ltb _ _ (omega (arith, fits)) in
    let there : nat_lt (length ((name ++ size) ++ rest)) 8 ≡ false = le-ltb _ _ (omega (arith, both, length-append (name ++ size) rest)) in
    let front : take 8 ((name ++ size) ++ rest) ≡ name ++ size = cut_front 8 (name ++ size) rest both in
    let behind : drop 8 ((name ++ size) ++ rest) ≡ rest = cut_back 8 (name ++ size) rest both in
    let first : take 4 (name ++ size) ≡ name = cut_front 4 name size named in
    let second : drop 4 (name ++ size) ≡ size = cut_back 4 name size named in
    let own : nat_lt left 12 ≡ false = le-ltb _ _ fits in
    rw (some, room, there, front, behind, first, second) (on_size (n == 0) (nat_lt left (8 + padded n)) refl refl own)
  where
    on_size : (a b : Bool) → (little_number 4 size == 0) ≡ a → nat_lt left (8 + padded (little_number 4 size)) ≡ b → nat_lt left 12 ≡ false → entry_judged (riff_rule extent) left name (little_number 4 size) rest ≡ Ok (Some (entry_of left name 0), rest)
    on_size a true p q own = rw (q, every, list, unknown, own) refl
    on_size true false p q own = let none : little_number 4 size ≡ 0 = eqb-true _ _ p in let short : nat_lt (little_number 4 size) 4 ≡ true = lt-ltb _ _ (omega (arith, none)) in rw (q, list, short, every, unknown, own) refl
    on_size false false p q own = (let most = most_unknown (little_number 4 size) p unknown in absurd (omega (arith, ltb-false _ _ q, bare (omega (arith, most)))))

-- a list does not bar what a state takes
abbrev pub Stands : {S : Type 0} → Rule → Taking S → Type 0
Stands {S = S} rule T = (s : S) (name bytes : List ℕ) (t : S) → T s name bytes t → rule.bars name ≡ false

abbrev pub Complete : {S Y : Type 0} → Visit S Y → Taking S → Type 0
Complete {S = S} {Y = Y} visit T = (s : S) (e : Entry) (bytes padding : List ℕ) (t : S) (rest : List ℕ) → IsListed e → length bytes ≡ e.size → length padding ≡ e.size % 2 → T s e.name bytes t → visit s e ((bytes ++ padding) ++ rest) ≡ Ok ((t, None), rest)

-- a walk passes chunks
pub walk_complete_in : {S Y : Type 0} (rule : Rule) (visit : Visit S Y) (T : Taking S) → Stands rule T → Complete visit T → (chunks : List Chunk) (s t : S) (more : ℕ) (rest : List ℕ) → AreTaken rule.opens chunks → Fit more chunks → Run T s chunks t →
    walk_in rule visit (length (chunks_text chunks) + more) s (chunks_text chunks ++ rest) ≡ walk_in rule visit more t rest
walk_complete_in rule visit T stands complete [] s t more rest each fit run = rw (zero-add more, run) refl
walk_complete_in {S = S} {Y = Y} rule visit T stands complete (c ∷ cs) s t more rest each fit run =
    let taken = taken_first rule.opens c cs each in
    let is = taken_as rule c taken.0 in
    let left = length (chunks_text (c ∷ cs)) + more in
    let behind = chunks_text cs ++ rest in
    let whole : chunks_text (c ∷ cs) ++ rest ≡ (c.name ++ c.size) ++ ((c.bytes ++ c.padding) ++ behind) = regrouped c.name c.size c.bytes c.padding (chunks_text cs) rest in
    let e : Entry = entry_of left c.name (size_in rule c.name (little_number 4 c.size)) in
    let all : left ≡ 8 + padded e.size + (length (chunks_text cs) + more) = rw is.size (omega (arith, is.long, length-append (chunk_text c) (chunks_text cs))) in
    let list : is_name c.name (codes "LIST") ≡ true → 4 ≤ e.size = λ l. rw is.size (is.listed l) in
    let entry = entry_complete_in rule left c.name c.size ((c.bytes ++ c.padding) ++ behind) (stands s c.name c.bytes run.0 run.1) is.named is.sized fit.0 is.room in
    let odd : length c.padding ≡ e.size % 2 = rw is.size is.odd in
    let pass = complete s e c.bytes c.padding run.0 behind list (sym is.size) odd run.1 in
    let less : e.left ≡ length (chunks_text cs) + more = omega (arith, all) in
    walk_step_in rule visit left s (chunks_text (c ∷ cs) ++ rest)
    ∙ ap (λ z. read_on (entry_in rule left z) (visited visit (walk_in rule visit) s)) whole
    ∙ ap (λ z. read_on z (visited visit (walk_in rule visit) s)) entry
    ∙ ap (λ z. read_on z (λ p. resumed (walk_in rule visit e.left) p.0 p.1)) pass
    ∙ ap (λ l. walk_in rule visit l run.0 behind) less
    ∙ walk_complete_in rule visit T stands complete cs run.0 t more rest taken.1 fit.1 run.2
  where
    regrouped : (a b c d e f : List ℕ) → ((((a ++ b) ++ c) ++ d) ++ e) ++ f ≡ (a ++ b) ++ ((c ++ d) ++ (e ++ f))
    regrouped a b c d e f = simp append_assoc

-- the same in a list that bars no name
pub walk_complete : {S Y : Type 0} (visit : Visit S Y) (T : Taking S) → Complete visit T → (chunks : List Chunk) (s t : S) (more : ℕ) (rest : List ℕ) → AreChunks chunks → Run T s chunks t →
    walk visit (length (chunks_text chunks) + more) s (chunks_text chunks ++ rest) ≡ walk visit more t rest
walk_complete visit T complete chunks s t more rest each run = walk_complete_in plain visit T (λ s name bytes t takes. refl) complete chunks s t more rest each (chunks_fit more chunks each) run
