-- Further streams are passed, and their beginning is looked at.
use Rattle.std.proofs.Common.{◌≡◌, ℕ, ◌-◌, ◌%◌, ◌≤◌, nat_lt, Bool, true, false, Option, None, Ok, List, ◌++◌, length, take, drop, ap, ◌∙◌, sym, subst, arith, refl, append_assoc, length-append, length-take, length-drop, if◌then◌else◌}
use Rattle.std.proofs.lemmas.Bool.{ltb-false}
use Rattle.std.proofs.lemmas.List.{take-append-drop}
use Rattle.ffv1_avi.specs.declared.place.Extent.{Extent}
use Rattle.ffv1_avi.specs.declared.place.Extent.TheVariants.{FirstMovi, EveryRiff}
use Rattle.ffv1_avi.specs.Files.{Headers, other_read, other_visited, with_other}
use Rattle.ffv1_avi.specs.Padding.{padded}
use Rattle.ffv1_avi.specs.Streams.{begins_video}
use Rattle.ffv1_reads.specs.Reads.{given, passed, read_on, taken, ◌>>=◌}
use Rattle.ffv1_avi.proofs.InnerLists.{list_skip_complete, list_skip_sound}
use Rattle.ffv1_avi.proofs.PassedBytes.{IsContent}
use Rattle.ffv1_reads.proofs.WantedBytes.{passed_complete, passed_sound, taken_complete, taken_sound}
use Rattle.ffv1_reads.proofs.Results.{cut_back, ok_is, read_on_ok}

-- the bytes of a list, of which the first four are its own name
abbrev pub is_other : List ℕ → Bool
is_other bytes = if nat_lt (length bytes) 104 then false else begins_video (take 100 (drop 4 bytes))

abbrev pub OtherTakes : Extent → Headers → List ℕ → Headers → Type 0
OtherTakes FirstMovi s bytes t = t ≡ s
OtherTakes EveryRiff s bytes t = t ≡ with_other s (is_other bytes)

-- what else is known stays
pub other_keeps : (extent : Extent) (s t : Headers) (bytes : List ℕ) → OtherTakes extent s bytes t → (t.head ≡ s.head) × (t.passed ≡ s.passed) × (t.frames ≡ s.frames) × (t.streams ≡ s.streams)
other_keeps FirstMovi s t bytes is = (ap (λ (z : Headers). z.head) is, ap (λ (z : Headers). z.passed) is, ap (λ (z : Headers). z.frames) is, ap (λ (z : Headers). z.streams) is)
other_keeps EveryRiff s t bytes is = (ap (λ (z : Headers). z.head) is, ap (λ (z : Headers). z.passed) is, ap (λ (z : Headers). z.frames) is, ap (λ (z : Headers). z.streams) is)

abbrev Z : Type 0
Z = (Headers × Option ⊥) × List ℕ

-- all of it is passed
other_passes : (size : ℕ) (more : List ℕ) (p : Bool × List ℕ) → other_read size more ≡ Ok p → passed (padded size - 4) more ≡ Ok (tt, p.1)
unfolding other_read
other_passes size more p h = on_size (nat_lt size 104) refl
  where
    short : nat_lt size 104 ≡ true → passed (padded size - 4) more ≡ Ok (tt, p.1)
    short few =
        let first = read_on_ok (passed (padded size - 4) more) (λ _. given false) p (rw few at h) in
        first.1 ∙ ap (λ (z : Bool × List ℕ). Ok (tt, z.1)) (ok_is (false, first.0.1) p first.2)

    long : nat_lt size 104 ≡ false → passed (padded size - 4) more ≡ Ok (tt, p.1)
    long many =
        let room : 104 ≤ size = ltb-false _ _ many in
        let first = read_on_ok (taken 100 more) (λ bytes. (passed (padded size - 104) >>= λ _. given (begins_video bytes))) p (rw many at h) in
        let front = taken_sound 100 more first.0 first.1 in
        let second = read_on_ok (passed (padded size - 104) first.0.1) (λ _. given (begins_video first.0.0)) p first.2 in
        let gone = passed_sound (padded size - 104) first.0.1 second.0 second.1 in
        let whole : more ≡ (first.0.0 ++ gone.0) ++ second.0.1 = front.0 ∙ ap (λ z. first.0.0 ++ z) gone.1 ∙ sym (append_assoc first.0.0 gone.0 second.0.1) in
        let count : length (first.0.0 ++ gone.0) ≡ padded size - 4 = length-append first.0.0 gone.0 ∙ (omega (arith, front.1, gone.2, room)) in
        ap (passed (padded size - 4)) whole ∙ passed_complete (padded size - 4) (first.0.0 ++ gone.0) second.0.1 count
        ∙ ap (λ (z : Bool × List ℕ). Ok (tt, z.1)) (ok_is (begins_video first.0.0, second.0.1) p second.2)

    on_size : (b : Bool) → nat_lt size 104 ≡ b → passed (padded size - 4) more ≡ Ok (tt, p.1)
    on_size true few = short few
    on_size false many = long many

-- and its beginning is looked at
pub record IsOther (size : ℕ) (own more : List ℕ) (p : Bool × List ℕ) : Type 0 where
  pub bytes : List ℕ
  pub content : IsContent size (own ++ more) (own ++ bytes) p.1
  pub video : p.0 ≡ is_other (own ++ bytes)

pub other_complete : (size : ℕ) (bytes padding rest : List ℕ) → 4 ≤ size → length bytes ≡ size → length padding ≡ size % 2 → other_read size ((drop 4 bytes ++ padding) ++ rest) ≡ Ok (is_other bytes, rest)
unfolding other_read
other_complete size bytes padding rest room long odd = on_size (nat_lt size 104) refl
  where
    regrouped : (a b c d : List ℕ) → ((a ++ b) ++ c) ++ d ≡ a ++ ((b ++ c) ++ d)
    regrouped a b c d = simp append_assoc

    inner : List ℕ
    inner = drop 4 bytes

    on_size : (b : Bool) → nat_lt size 104 ≡ b → other_read size ((inner ++ padding) ++ rest) ≡ Ok (is_other bytes, rest)
    on_size true few =
        let few_bytes : nat_lt (length bytes) 104 ≡ true = ap (λ n. nat_lt n 104) long ∙ few in
        rw (few, few_bytes) (ap (λ z. read_on z (λ _. given false)) (list_skip_complete size bytes padding rest room long odd))
    on_size false many =
        let least : 104 ≤ size = ltb-false _ _ many in
        let many_bytes : nat_lt (length bytes) 104 ≡ false = ap (λ n. nat_lt n 104) long ∙ many in
        let inside : length inner ≡ size - 4 = length-drop 4 bytes ∙ (omega (arith, long)) in
        let front = take 100 inner in
        let after = drop 100 inner in
        let whole : (inner ++ padding) ++ rest ≡ front ++ ((after ++ padding) ++ rest) = ap (λ z. (z ++ padding) ++ rest) (sym (take-append-drop 100 inner)) ∙ regrouped front after padding rest in
        let hundred : length front ≡ 100 = length-take 100 inner ∙ (omega (arith, inside, least)) in
        let count : length (after ++ padding) ≡ padded size - 104 = length-append after padding ∙ (omega (arith, length-drop 100 inner, inside, odd, least)) in
        rw (many, many_bytes)
        (ap (λ z. read_on (taken 100 z) (λ seen. (passed (padded size - 104) >>= λ _. given (begins_video seen)))) whole
        ∙ ap (λ z. read_on z (λ seen. (passed (padded size - 104) >>= λ _. given (begins_video seen)))) (taken_complete 100 front ((after ++ padding) ++ rest) hundred)
        ∙ ap (λ z. read_on z (λ _. given (begins_video front))) (passed_complete (padded size - 104) (after ++ padding) rest count))

-- a list of these bytes is read in one way
pub other_sound : (size : ℕ) (own more : List ℕ) (p : Bool × List ℕ) → 4 ≤ size → length own ≡ 4 → other_read size more ≡ Ok p → IsOther size own more p
other_sound size own more p room four h =
    let skipped = list_skip_sound size own more (tt, p.1) room four (other_passes size more p h) in
    let bytes = own ++ skipped.0 in
    let inner : drop 4 bytes ≡ skipped.0 = cut_own own skipped.0 four in
    let whole : own ++ more ≡ own ++ ((skipped.0 ++ skipped.1.padding) ++ p.1) = skipped.1.text_is ∙ regrouped own skipped.0 skipped.1.padding p.1 in
    let same : more ≡ (drop 4 bytes ++ skipped.1.padding) ++ p.1 = same_after own more ((skipped.0 ++ skipped.1.padding) ++ p.1) four whole ∙ ap (λ z. (z ++ skipped.1.padding) ++ p.1) (sym inner) in
    let read : other_read size more ≡ Ok (is_other bytes, p.1) = ap (other_read size) same ∙ other_complete size bytes skipped.1.padding p.1 room skipped.1.long skipped.1.odd in
    record { bytes = skipped.0; content = skipped.1; video = ap (λ (z : Bool × List ℕ). z.0) (ok_is p (is_other bytes, p.1) (sym h ∙ read)) }
  where
    regrouped : (a b c d : List ℕ) → ((a ++ b) ++ c) ++ d ≡ a ++ ((b ++ c) ++ d)
    regrouped a b c d = simp append_assoc

    cut_own : (a b : List ℕ) → length a ≡ 4 → drop 4 (a ++ b) ≡ b
    cut_own a b four = cut_back 4 a b four

    same_after : (a b c : List ℕ) → length a ≡ 4 → a ++ b ≡ a ++ c → b ≡ c
    same_after a b c four is = sym (cut_own a b four) ∙ ap (drop 4) is ∙ cut_own a c four

-- what is read of it, and what is then known
pub other_taken : (extent : Extent) (s : Headers) (size : ℕ) (own more : List ℕ) (t : Headers) (rest : List ℕ) → 4 ≤ size → length own ≡ 4 → other_visited extent s size more ≡ Ok ((t, None), rest) → (bytes : List ℕ) × IsContent size (own ++ more) (own ++ bytes) rest × OtherTakes extent s (own ++ bytes) t
other_taken FirstMovi s size own more t rest room four k =
    let first = read_on_ok (passed (padded size - 4) more) (λ _. given (s, None)) ((t, None), rest) k in
    let skipped = list_skip_sound size own more first.0 room four first.1 in
    let both = ok_is ((s, None), first.0.1) ((t, None), rest) first.2 in
    let P : List ℕ → Type 0 = λ z. IsContent size (own ++ more) (own ++ skipped.0) z in
    (skipped.0, subst P (ap (λ (z : Z). z.1) both) skipped.1, sym (ap (λ (z : Z). z.0.0) both))
other_taken EveryRiff s size own more t rest room four k =
    let first = read_on_ok (other_read size more) (λ video. given (with_other s video, None)) ((t, None), rest) k in
    let other = other_sound size own more first.0 room four first.1 in
    let both = ok_is ((with_other s first.0.0, None), first.0.1) ((t, None), rest) first.2 in
    let P : List ℕ → Type 0 = λ z. IsContent size (own ++ more) (own ++ other.bytes) z in
    (other.bytes, subst P (ap (λ (z : Z). z.1) both) other.content, sym (ap (λ (z : Z). z.0.0) both) ∙ ap (with_other s) other.video)

pub other_given : (extent : Extent) (s : Headers) (size : ℕ) (bytes padding : List ℕ) (t : Headers) (rest : List ℕ) → 4 ≤ size → length bytes ≡ size → length padding ≡ size % 2 → OtherTakes extent s bytes t → other_visited extent s size ((drop 4 bytes ++ padding) ++ rest) ≡ Ok ((t, None), rest)
other_given FirstMovi s size bytes padding t rest room long odd is = rw is (ap (λ z. read_on z (λ _. given (s, None))) (list_skip_complete size bytes padding rest room long odd))
other_given EveryRiff s size bytes padding t rest room long odd is = rw is (ap (λ z. read_on z (λ video. given (with_other s video, None))) (other_complete size bytes padding rest room long odd))
