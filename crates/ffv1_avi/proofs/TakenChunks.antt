-- Chunks as a list takes them: whole, or, of lists that it opens, up to their own name.
use Rattle.std.proofs.Common.{◌≡◌, inl, inr, ℕ, ◌+◌, ◌%◌, ◌≤◌, Bool, true, false, List, [], ◌∷◌, ◌++◌, length, codes, ap, sym, subst, arith, refl, length-append}
use Rattle.std.specs.Cmp.Lexicographic.{same_text}
use Rattle.byteorder.specs.Endian.{little_number}
use Rattle.ffv1_avi.specs.Chunks.{AreChunks, AreTaken, Chunk, Fit, IsBeside, IsChunk, IsOpened, chunk_text, chunks_text}
use Rattle.ffv1_avi.specs.Padding.{padded}
use Rattle.ffv1_avi.specs.Walk.{Rule, is_name, size_in}

-- what is taken of a chunk is no more than it has
pub size_fits : (rule : Rule) (name : List ℕ) (n : ℕ) → (is_name name (codes "LIST") ≡ true → 4 ≤ n) → padded (size_in rule name n) ≤ padded n
size_fits rule name n listed = on_list rule.opens (is_name name (codes "LIST")) refl refl
  where
    on_list : (a b : Bool) → rule.opens ≡ a → is_name name (codes "LIST") ≡ b → padded (size_in rule name n) ≤ padded n
    on_list true true p q = rw (p, q) (omega (arith, listed q))
    on_list true false p q = rw (p, q) (omega arith)
    on_list false b p q = rw p (omega arith)

-- of a list its own name is
pub size_listed : (rule : Rule) (name : List ℕ) (n : ℕ) → (is_name name (codes "LIST") ≡ true → 4 ≤ n) → is_name name (codes "LIST") ≡ true → 4 ≤ size_in rule name n
size_listed rule name n listed list = on_list rule.opens refl
  where
    on_list : (a : Bool) → rule.opens ≡ a → 4 ≤ size_in rule name n
    on_list true p = rw (p, list) (omega arith)
    on_list false p = rw p (listed list)

-- one chunk, by whether the list opens lists
abbrev pub IsTaken : Bool → Chunk → Type 0
IsTaken false c = IsChunk c
IsTaken true c = IsBeside c

pub taken_none : (b : Bool) → AreTaken b []
taken_none false = tt
taken_none true = tt

pub taken_more : (b : Bool) (c : Chunk) (cs : List Chunk) → IsTaken b c → AreTaken b cs → AreTaken b (c ∷ cs)
taken_more false c cs h k = (h, k)
taken_more true c cs h k = (h, k)

pub taken_first : (b : Bool) (c : Chunk) (cs : List Chunk) → AreTaken b (c ∷ cs) → IsTaken b c × AreTaken b cs
taken_first false c cs h = h
taken_first true c cs h = h

pub taken_one : (b : Bool) (c : Chunk) → IsTaken b c → AreTaken b (c ∷ [])
taken_one b c h = taken_more b c [] h (taken_none b)

pub taken_both : (b : Bool) (xs ys : List Chunk) → AreTaken b xs → AreTaken b ys → AreTaken b (xs ++ ys)
taken_both b [] ys h k = k
taken_both b (x ∷ xs) ys h k = let first = taken_first b x xs h in taken_more b x (xs ++ ys) first.0 (taken_both b xs ys first.1 k)

pub taken_apart : (b : Bool) (xs ys : List Chunk) → AreTaken b (xs ++ ys) → AreTaken b xs × AreTaken b ys
taken_apart b [] ys h = (taken_none b, h)
taken_apart b (x ∷ xs) ys h =
    let first = taken_first b x (xs ++ ys) h in
    let more = taken_apart b xs ys first.1 in
    (taken_more b x xs first.0 more.0, more.1)

-- a chunk takes its header, its bytes and its padding
pub text_long : (c : Chunk) → length c.name ≡ 4 → length c.size ≡ 4 → length c.padding ≡ length c.bytes % 2 → length (chunk_text c) ≡ 8 + padded (length c.bytes)
text_long c named sized odd = omega (arith, named, sized, odd, length-append ((c.name ++ c.size) ++ c.bytes) c.padding, length-append (c.name ++ c.size) c.bytes, length-append c.name c.size)

-- what a list that takes it so reads of a chunk
pub record TakenAs (rule : Rule) (c : Chunk) : Type 0 where
  pub named : length c.name ≡ 4
  pub sized : length c.size ≡ 4
  pub size : size_in rule c.name (little_number 4 c.size) ≡ length c.bytes
  pub odd : length c.padding ≡ length c.bytes % 2
  pub room : is_name c.name (codes "LIST") ≡ true → 4 ≤ little_number 4 c.size
  pub listed : is_name c.name (codes "LIST") ≡ true → 4 ≤ length c.bytes
  pub long : length (chunk_text c) ≡ 8 + padded (length c.bytes)

pub taken_as : (rule : Rule) (c : Chunk) → IsTaken rule.opens c → TakenAs rule c
taken_as rule c taken = on_opens rule.opens refl taken
  where
    whole : IsChunk c → size_in rule c.name (little_number 4 c.size) ≡ length c.bytes → TakenAs rule c
    whole is size = record { named = is.named; sized = is.sized; size = size; odd = is.padded; room = λ l. rw is.counted (is.listed l); listed = is.listed; long = text_long c is.named is.sized is.padded }

    on_opens : (b : Bool) → rule.opens ≡ b → IsTaken b c → TakenAs rule c
    on_opens false p is = whole is (rw p is.counted)
    on_opens true p (inl is) = whole is.0 (let q : is_name c.name (codes "LIST") ≡ false = is.1 in rw (p, q) is.0.counted)
    on_opens true p (inr is) =
        let list : is_name c.name (codes "LIST") ≡ true = rw is.named refl in
        let four : length c.name ≡ 4 = ap length is.named in
        let odd : length c.padding ≡ length c.bytes % 2 = omega (arith, is.none_padded, is.own) in
        record { named = four; sized = is.sized; size = rw (p, list) (sym is.own); odd = odd; room = λ l. is.room; listed = λ l. omega (arith, is.own); long = text_long c four is.sized odd }

-- and back: what was read of one is so taken
pub as_taken : (rule : Rule) (c : Chunk) → length c.name ≡ 4 → length c.size ≡ 4 → size_in rule c.name (little_number 4 c.size) ≡ length c.bytes → length c.padding ≡ length c.bytes % 2 → (is_name c.name (codes "LIST") ≡ true → 4 ≤ little_number 4 c.size) → (is_name c.name (codes "LIST") ≡ true → 4 ≤ length c.bytes) → IsTaken rule.opens c
as_taken rule c named sized size odd room listed = on_list rule.opens (is_name c.name (codes "LIST")) refl refl
  where
    P : Bool → Type 0
    P b = IsTaken b c

    whole : little_number 4 c.size ≡ length c.bytes → IsChunk c
    whole counted = record { named = named; sized = sized; counted = counted; padded = odd; listed = listed }

    on_list : (a b : Bool) → rule.opens ≡ a → is_name c.name (codes "LIST") ≡ b → IsTaken rule.opens c
    on_list false b p q = subst P (sym p) (whole (rw p at size))
    on_list true false p q = subst P (sym p) (inl (whole (rw (p, q) at size), q))
    on_list true true p q =
        let own : length c.bytes ≡ 4 = sym (rw (p, q) at size) in
        let here : IsOpened c = record { named = same_text c.name (codes "LIST") (sym q); sized = sized; room = room q; own = own; none_padded = omega (arith, odd, own) } in
        subst P (sym p) (inr here)

-- whole chunks fit
pub chunk_fits : (c : Chunk) (more : ℕ) → IsChunk c → 8 + padded (little_number 4 c.size) ≤ length (chunk_text c) + more
chunk_fits c more is = rw is.counted (omega (arith, text_long c is.named is.sized is.padded))

pub chunks_fit : (more : ℕ) (cs : List Chunk) → AreChunks cs → Fit more cs
chunks_fit more [] each = tt
chunks_fit more (c ∷ cs) each =
    let first = chunk_fits c 0 each.0 in
    (omega (arith, first, length-append (chunk_text c) (chunks_text cs)), chunks_fit more cs each.1)

-- the first of them, of what comes after it
pub fit_first : (more : ℕ) (c : Chunk) (cs : List Chunk) → Fit more (c ∷ cs) → 8 + padded (little_number 4 c.size) ≤ length (chunk_text c) + (length (chunks_text cs) + more)
fit_first more c cs fit = omega (arith, fit.0, length-append (chunk_text c) (chunks_text cs))

-- those before others, and the others
pub fit_both : (more least : ℕ) (xs ys : List Chunk) → least ≤ length (chunks_text ys) + more → Fit least xs → Fit more ys → Fit more (xs ++ ys)
fit_both more least [] ys enough h k = k
fit_both more least (x ∷ xs) ys enough h k =
    let apart : length (chunks_text (xs ++ ys)) ≡ length (chunks_text xs) + length (chunks_text ys) = long_both xs ys in
    let before = length-append (chunk_text x) (chunks_text xs) in
    let all = length-append (chunk_text x) (chunks_text (xs ++ ys)) in
    (omega (arith, h.0, enough, apart, before, all), fit_both more least xs ys enough h.1 k)
  where
    long_both : (xs ys : List Chunk) → length (chunks_text (xs ++ ys)) ≡ length (chunks_text xs) + length (chunks_text ys)
    long_both [] ys = omega arith
    long_both (x ∷ xs) ys =
        let again = long_both xs ys in
        omega (arith, again, length-append (chunk_text x) (chunks_text xs), length-append (chunk_text x) (chunks_text (xs ++ ys)))

-- chunks take an even number of bytes
pub taken_even : (b : Bool) (cs : List Chunk) → AreTaken b cs → length (chunks_text cs) % 2 ≡ 0
taken_even b [] each = refl
taken_even b (c ∷ cs) each =
    let first = taken_first b c cs each in
    let is = taken_as (record { bars = λ name. false; opens = b; sizeless = false }) c first.0 in
    let more = taken_even b cs first.1 in
    let both : length (chunks_text (c ∷ cs)) ≡ length (chunk_text c) + length (chunks_text cs) = length-append (chunk_text c) (chunks_text cs) in
    let long = is.long in
    omega (arith, more, long, both)
