-- Lists that a movi opens, and the names of chunks beside them.
use Rattle.std.proofs.Common.{if◌then◌else◌, ◌≡◌, inl, inr, ℕ, ◌+◌, ◌%◌, ◌/◌, ◌&&◌, ◌||◌, Bool, true, false, Option, None, Result, nat_lt, Ok, Err, List, length, codes, ap, ◌∙◌, sym, subst, arith, refl, nat_eq}
use Rattle.std.specs.Cmp.Lexicographic.{same_text}
use Rattle.ffv1_avi.specs.declared.place.Names.{Names}
use Rattle.ffv1_avi.specs.declared.place.Names.TheVariants.{Any, Closed}
use Rattle.ffv1_avi.specs.Chunks.{Chunk, IsBeside, IsChunk, IsOpened, barred_in, frame_in, is_other_list}
use Rattle.ffv1_avi.specs.Opens.{list_entered, list_opened}
use Rattle.ffv1_reads.specs.Reads.{Stop, given, passed, read_on, taken, ◌>>=◌}
use Rattle.std.proofs.lemmas.Bool.{le-ltb}
use Rattle.ffv1_avi.specs.Names.{bitmap_name, frame_name, is_barred, is_frame, is_stream_frame, opens, rule_of}
use Rattle.ffv1_avi.specs.Walk.{is_name, size_in}
use Rattle.ffv1_reads.proofs.Results.{ok_is}
use Rattle.ffv1_avi.proofs.TakenChunks.{IsTaken}

-- a list is no frame, by its name
pub list_no_frame : (names : Names) (name : List ℕ) → is_name name (codes "LIST") ≡ true → is_frame names name ≡ false
unfolding is_stream_frame
list_no_frame Any name list = let named : name ≡ codes "LIST" = same_text name (codes "LIST") (sym list) in rw named refl
list_no_frame (Closed stream streams) name list =
    let named : name ≡ codes "LIST" = same_text name (codes "LIST") (sym list) in
    let first : is_name (codes "LIST") (frame_name stream) ≡ false = both_false (nat_eq 76 (48 + stream / 10)) (nat_eq 73 (48 + stream % 10)) in
    let second : is_name (codes "LIST") (bitmap_name stream) ≡ false = both_false (nat_eq 76 (48 + stream / 10)) (nat_eq 73 (48 + stream % 10)) in
    let P : List ℕ → Type 0 = λ z. is_frame (Closed stream streams) z ≡ false in
    subst P (sym named) (neither (is_name (codes "LIST") (frame_name stream)) (is_name (codes "LIST") (bitmap_name stream)) first second)
  where
    neither : (a b : Bool) → a ≡ false → b ≡ false → (a || b) ≡ false
    neither a b p q = rw (p, q) refl

    both_false : (a b : Bool) → (a && (b && false)) ≡ false
    both_false true true = refl
    both_false true false = refl
    both_false false b = refl

-- and a frame is no list
pub frame_no_list : (names : Names) (name : List ℕ) → is_frame names name ≡ true → is_name name (codes "LIST") ≡ false
frame_no_list names name named = on_list (is_name name (codes "LIST")) refl
  where
    on_list : (b : Bool) → is_name name (codes "LIST") ≡ b → is_name name (codes "LIST") ≡ false
    on_list true list = absurd (let no : true ≡ false = sym named ∙ list_no_frame names name list in cc)
    on_list false list = list

-- of a chunk that is no list all bytes are taken
pub size_whole : (names : Names) (name : List ℕ) (n : ℕ) → is_name name (codes "LIST") ≡ false → size_in (rule_of names) name n ≡ n
size_whole Any name n other = refl
size_whole (Closed stream streams) name n other = rw other refl

-- a chunk that is no list, in a movi
pub chunk_beside : (names : Names) (c : Chunk) → IsChunk c → is_name c.name (codes "LIST") ≡ false → IsTaken (opens names) c
chunk_beside Any c is other = is
chunk_beside (Closed stream streams) c is other = inl (is, other)

-- a chunk of movi that is a frame
pub frame_chunk : (names : Names) (c : Chunk) → IsTaken (opens names) c → frame_in names c ≡ true → IsChunk c
frame_chunk Any c is named = is
frame_chunk (Closed stream streams) c (inl is) named = is.0
frame_chunk (Closed stream streams) c (inr is) named =
    let list : is_name c.name (codes "LIST") ≡ true = rw is.named refl in
    absurd (let no : true ≡ false = sym named ∙ list_no_frame (Closed stream streams) c.name list in cc)

neither : (a b : Bool) → (a || b) ≡ false → (a ≡ false) × (b ≡ false)
neither true b h = absurd (cc)
neither false b h = (refl, h)

-- what may stand in movi may so by its name
pub barred_name : (names : Names) (c : Chunk) → barred_in names c ≡ false → is_barred names c.name ≡ false
barred_name Any c h = h
barred_name (Closed stream streams) c h = (neither (is_barred (Closed stream streams) c.name) (is_other_list (codes "rec ") c) h).0

-- a chunk that is no list may stand there if its name may
pub name_stands : (names : Names) (c : Chunk) → is_barred names c.name ≡ false → is_name c.name (codes "LIST") ≡ false → barred_in names c ≡ false
name_stands Any c h other = h
name_stands (Closed stream streams) c h other = rw (h, other) refl

-- a list may if its own name is that of a list `rec `
abbrev pub IsRec : List ℕ → List ℕ → Type 0
IsRec name bytes = is_name name (codes "LIST") ≡ true → is_name bytes (codes "rec ") ≡ true

pub rec_stands : (names : Names) (c : Chunk) → is_barred names c.name ≡ false → IsRec c.name c.bytes → barred_in names c ≡ false
rec_stands Any c h own = h
rec_stands (Closed stream streams) c h own = on_list (is_name c.name (codes "LIST")) refl
  where
    on_list : (b : Bool) → is_name c.name (codes "LIST") ≡ b → barred_in (Closed stream streams) c ≡ false
    on_list true list = rw (h, list, own list) refl
    on_list false other = rw (h, other) refl

pub stands_rec : (names : Names) (c : Chunk) → barred_in names c ≡ false → IsRec c.name c.bytes
stands_rec Any c h list = absurd (let no : true ≡ false = sym list ∙ h in cc)
stands_rec (Closed stream streams) c h list = on_own (is_name c.bytes (codes "rec ")) refl (rw list at (neither (is_barred (Closed stream streams) c.name) (is_other_list (codes "rec ") c) h).1)
  where
    on_own : (b : Bool) → is_name c.bytes (codes "rec ") ≡ b → (if b then false else true) ≡ false → is_name c.bytes (codes "rec ") ≡ true
    on_own true own k = own
    on_own false own k = absurd (cc)

-- whole chunks that may stand in movi are taken there as they are
pub stands_taken : (names : Names) (c : Chunk) → IsChunk c → barred_in names c ≡ false → IsTaken (opens names) c
stands_taken Any c is h = is
stands_taken (Closed stream streams) c is h = on_list (is_name c.name (codes "LIST")) refl
  where
    on_list : (b : Bool) → is_name c.name (codes "LIST") ≡ b → IsBeside c
    on_list false other = inl (is, other)
    on_list true list =
        let own : c.bytes ≡ codes "rec " = same_text c.bytes (codes "rec ") (sym (stands_rec (Closed stream streams) c h list)) in
        let four : length c.bytes ≡ 4 = ap length own in
        let opened : IsOpened c = record { named = same_text c.name (codes "LIST") (sym list); sized = is.sized; room = omega (arith, is.counted, four); own = four; none_padded = omega (arith, is.padded, four) } in
        inr opened

-- a list that is opened is no frame, and the walk goes on after its own name
pub opened_sound : (own more : List ℕ) (t : Unit {0}) (o : Option (ℕ × ℕ)) (rest : List ℕ) → list_opened own more ≡ Ok ((t, o), rest) → (is_name own (codes "rec ") ≡ true) × (o ≡ None) × (more ≡ rest)
opened_sound own more t o rest h = on_own (is_name own (codes "rec ")) refl h
  where
    Z : Type 0
    Z = (Unit {0} × Option (ℕ × ℕ)) × List ℕ

    on_own : (b : Bool) → is_name own (codes "rec ") ≡ b → list_opened own more ≡ Ok ((t, o), rest) → (is_name own (codes "rec ") ≡ true) × (o ≡ None) × (more ≡ rest)
    on_own false p k = absurd (cc (rw p at k))
    on_own true p k =
        let both = ok_is ((tt, None), more) ((t, o), rest) (rw p at k) in
        (p, sym (ap (λ (z : Z). z.0.1) both), ap (λ (z : Z). z.1) both)

-- a list of four bytes, which has no padding, is its own name
pub own_entered : (text : List ℕ) → list_entered 4 text ≡ (taken 4 >>= list_opened) text
own_entered text = on_taken (taken 4 text)
  where
    on_taken : (z : Result (List ℕ × List ℕ) Stop) → read_on (read_on z (λ bytes. (passed (4 % 2) >>= λ _. given bytes))) list_opened ≡ read_on z list_opened
    on_taken (Err why) = refl
    on_taken (Ok (own, more)) = let none : nat_lt (length more) 0 ≡ false = le-ltb _ _ (omega arith) in rw none refl
