-- What comes after an RIFF: the next one, another file, other bytes, or the end of the input.
use Rattle.std.proofs.Common.{◌≡◌, ◌⊎◌, ◌+◌, ◌-◌, ◌≤◌, ◌<◌, ◌==◌, ◌++◌, ℕ, nat_eq, nat_le, nat_lt, Bool, true, false, Option, Some, None, Result, Ok, Err, List, [], length, take, drop, codes, inl, inr, ap, ◌∙◌, sym, subst, arith, refl, append_assoc, if◌then◌else◌, length-append, length-take}
use Rattle.std.proofs.lemmas.Bool.{cases_lt, eqb-true, le-leb, leb-false, leb-true, lt-leb, lt-ltb, ltb-true, ne_eqb}
use Rattle.std.proofs.lemmas.List.{drop_all, take-append-drop, take_all}
use Rattle.std.specs.Cmp.Lexicographic.{same_text}
use lib.Pointwise.{pointwise_long}
use Rattle.byteorder.specs.Endian.{little_number}
use Rattle.ffv1_reads.specs.Behind.{begins_file}
use Rattle.ffv1_reads.specs.Reads.{Looked, Met, Reading, Short, Stop, read_on}
use Rattle.ffv1_reads.specs.declared.fault.FileFault.TheVariants as fault
use Rattle.ffv1_reads.proofs.FilesBehind.{file_by_four}
use Rattle.ffv1_reads.proofs.Results.{cut_back, cut_front, ok_is, read_on_ok}
use Rattle.ffv1_avi.specs.declared.place.Place.{Place}
use Rattle.ffv1_avi.specs.Behind.{begins_another, looked_past}
use Rattle.ffv1_avi.specs.Files.{riff_begun, riff_judged, riff_named, riff_of_size}
use Rattle.ffv1_avi.specs.declared.place.Open.TheVariants.{OpenRiff}
use Rattle.ffv1_avi.specs.Opens.{open_riff, or_end, taken_or_end}
use Rattle.ffv1_avi.specs.Places.{open_at, riff_at}
use Rattle.ffv1_avi.specs.Walk.{is_known, is_name}
use Rattle.ffv1_avi.proofs.Contents.{number_taken}
use Rattle.ffv1_avi.proofs.TakenBytes.{end_there, enough_there, none_taken, owed_short, some_taken}

-- fewer than four bytes begin nothing
name_by_four : (bytes name : List ℕ) → is_name bytes name ≡ true → length bytes ≡ length name
name_by_four bytes name is = pointwise_long nat_eq bytes name is

few_no_name : (text name : List ℕ) → length text < length name → is_name text name ≡ false
few_no_name text name few = on (is_name text name) refl
  where
    on : (b : Bool) → is_name text name ≡ b → b ≡ false
    on true is = absurd (omega (arith, few, name_by_four text name is))
    on false is = refl

few_no_file : (text : List ℕ) → length text < 4 → begins_file text ≡ false
few_no_file text few = on (begins_file text) refl
  where
    on : (b : Bool) → begins_file text ≡ b → b ≡ false
    on true is = absurd (omega (arith, few, file_by_four text is))
    on false is = refl

pub few_other : (text : List ℕ) → length text < 4 → (begins_another text ≡ false) × (looked_past text ≡ [])
few_other text few =
    let front : take 4 text ≡ text = take_all 4 text (omega (arith, few)) in
    let back : drop 4 text ≡ [] = drop_all 4 text (omega (arith, few)) in
    let no_name : is_name text (codes "RIFF") ≡ false = few_no_name text (codes "RIFF") few in
    (rw (front, no_name, few_no_file text few) refl, rw (front, no_name, back) refl)

-- the first bytes of an RIFF
pub part_other : (bytes : List ℕ) → length bytes < 8 → (begins_another (codes "RIFF" ++ bytes) ≡ false) × (looked_past (codes "RIFF" ++ bytes) ≡ [])
part_other bytes few = (lt-leb 12 (length (codes "RIFF" ++ bytes)) (omega (arith, few, length-append (codes "RIFF") bytes, spelled)), refl)
  where
    spelled : length (codes "RIFF") ≡ 4
    spelled = refl

-- other bytes
pub name_other : (name rest : List ℕ) → length name ≡ 4 → is_name name (codes "RIFF") ≡ false → begins_file name ≡ false → (begins_another (name ++ rest) ≡ false) × (looked_past (name ++ rest) ≡ rest)
name_other name rest four no_riff no_file =
    let front = cut_front 4 name rest four in
    let back = cut_back 4 name rest four in
    (rw (front, no_riff, no_file) refl, rw (front, no_riff, back) refl)

-- four bytes are there
named : (place : Place) (name rest : List ℕ) → length name ≡ 4 → riff_begun place (name ++ rest) ≡ riff_named place name rest
unfolding riff_begun
named place name rest four = ap (λ z. read_on z (or_end (riff_named place))) (enough_there 4 place.owed name rest four)

entered : (place : Place) (bytes rest : List ℕ) → length bytes ≡ 8 → riff_begun place (codes "RIFF" ++ (bytes ++ rest)) ≡ riff_judged place bytes rest
entered place bytes rest eight = named place (codes "RIFF") (bytes ++ rest) refl ∙ ap (λ z. read_on z (or_end (riff_judged place))) (enough_there 8 place.owed bytes rest eight)

headed : (place : Place) (size form rest : List ℕ) → length size ≡ 4 → length form ≡ 4 → riff_begun place ((codes "RIFF" ++ size ++ form) ++ rest) ≡ riff_judged place (size ++ form) rest
headed place size form rest sized formed = ap (riff_begun place) (regrouped (codes "RIFF") size form rest) ∙ entered place (size ++ form) rest (length-append size form ∙ (omega (arith, sized, formed)))
  where
    regrouped : (a b c d : List ℕ) → ((a ++ b) ++ c) ++ d ≡ a ++ ((b ++ c) ++ d)
    regrouped a b c d = simp append_assoc

numbered : (size form : List ℕ) → length size ≡ 4 → little_number 4 (size ++ form) ≡ little_number 4 size
numbered size form sized = sym (number_taken 4 (size ++ form) (omega arith)) ∙ ap (little_number 4) (cut_front 4 size form sized)

-- the next RIFF is entered
pub riff_there : (place : Place) (size rest : List ℕ) → length size ≡ 4 → is_known (little_number 4 size) ≡ true → 4 ≤ little_number 4 size → 8 + little_number 4 size < place.input → riff_begun place ((codes "RIFF" ++ size ++ codes "AVIX") ++ rest) ≡ Ok (Some (riff_at place (little_number 4 size)), rest)
riff_there place size rest sized known room fits =
    let form : drop 4 (size ++ codes "AVIX") ≡ codes "AVIX" = cut_back 4 size (codes "AVIX") sized in
    let number = numbered size (codes "AVIX") sized in
    let four : nat_le 4 (little_number 4 size) ≡ true = le-leb _ _ room in
    let less : nat_lt (8 + little_number 4 size) place.input ≡ true = lt-ltb _ _ fits in
    headed place size (codes "AVIX") rest sized refl ∙ rw (form, number, known, four, less) refl

-- or one without size
pub open_there : (place : Place) (size rest : List ℕ) → length size ≡ 4 → is_known (little_number 4 size) ≡ false → 12 < place.input → riff_begun place ((codes "RIFF" ++ size ++ codes "AVIX") ++ rest) ≡ Ok (Some (open_at place OpenRiff (place.input - 12) 0), rest)
open_there place size rest sized unknown fits =
    let form : drop 4 (size ++ codes "AVIX") ≡ codes "AVIX" = cut_back 4 size (codes "AVIX") sized in
    let number = numbered size (codes "AVIX") sized in
    let less : nat_lt 12 place.input ≡ true = lt-ltb _ _ fits in
    headed place size (codes "AVIX") rest sized refl ∙ rw (form, number, unknown, less) refl

-- one that has no room for its form
pub small_there : (place : Place) (size rest : List ℕ) → length size ≡ 4 → 0 < little_number 4 size → little_number 4 size < 4 → riff_begun place ((codes "RIFF" ++ size ++ codes "AVIX") ++ rest) ≡ Err (Met fault.NotAvi rest)
small_there place size rest sized some small =
    let form : drop 4 (size ++ codes "AVIX") ≡ codes "AVIX" = cut_back 4 size (codes "AVIX") sized in
    let number = numbered size (codes "AVIX") sized in
    let less : nat_le 4 (little_number 4 size) ≡ false = lt-leb _ _ small in
    let known : is_known (little_number 4 size) ≡ true = let first : (little_number 4 size == 0) ≡ false = ne_eqb _ _ (λ e. omega (arith, e, some)) in let last : (little_number 4 size == 4294967295) ≡ false = ne_eqb _ _ (λ e. omega (arith, e, small)) in rw (first, last) refl in
    headed place size (codes "AVIX") rest sized refl ∙ rw (form, number, known, less) refl

-- another file
pub form_there : (place : Place) (size form rest : List ℕ) → length size ≡ 4 → length form ≡ 4 → is_name form (codes "AVIX") ≡ false → riff_begun place ((codes "RIFF" ++ size ++ form) ++ rest) ≡ Err (Met fault.Another rest)
form_there place size form rest sized formed other =
    let second : drop 4 (size ++ form) ≡ form = cut_back 4 size form sized in
    headed place size form rest sized formed ∙ rw (second, other) refl

pub file_there : (place : Place) (name rest : List ℕ) → is_name name (codes "RIFF") ≡ false → begins_file name ≡ true → riff_begun place (name ++ rest) ≡ Err (Met fault.Another rest)
file_there place name rest no_riff file = named place name rest (file_by_four name file) ∙ rw (no_riff, file) refl

-- other bytes if a frame is owed
pub owed_there : (place : Place) (name rest : List ℕ) → 0 < place.owed → length name ≡ 4 → is_name name (codes "RIFF") ≡ false → begins_file name ≡ false → riff_begun place (name ++ rest) ≡ Err (Met fault.Truncated rest)
owed_there place name rest some four no_riff no_file =
    let owed : (place.owed == 0) ≡ false = ne_eqb place.owed 0 (λ e. omega (arith, e, some)) in
    named place name rest four ∙ rw (no_riff, no_file, owed) refl

pub owed_few : (place : Place) (text : List ℕ) → 0 < place.owed → length text < 4 → riff_begun place text ≡ Err (Short Looked)
unfolding riff_begun
owed_few place text some few = ap (λ z. read_on z (or_end (riff_named place))) (owed_short 4 place.owed text some few)

pub owed_part : (place : Place) (bytes : List ℕ) → 0 < place.owed → length bytes < 8 → riff_begun place (codes "RIFF" ++ bytes) ≡ Err (Short Looked)
owed_part place bytes some few = named place (codes "RIFF") bytes refl ∙ ap (λ z. read_on z (or_end (riff_judged place))) (owed_short 8 place.owed bytes some few)

-- the frames end
few_over : (place : Place) (text : List ℕ) → place.owed ≡ 0 → length text < 4 → riff_begun place text ≡ Ok (None, [])
unfolding riff_begun
few_over place text none few = ap (λ z. read_on z (or_end (riff_named place))) (end_there 4 place.owed text none few)

part_over : (place : Place) (bytes : List ℕ) → place.owed ≡ 0 → length bytes < 8 → riff_begun place (codes "RIFF" ++ bytes) ≡ Ok (None, [])
part_over place bytes none few = named place (codes "RIFF") bytes refl ∙ ap (λ z. read_on z (or_end (riff_judged place))) (end_there 8 place.owed bytes none few)

name_over : (place : Place) (name rest : List ℕ) → place.owed ≡ 0 → length name ≡ 4 → is_name name (codes "RIFF") ≡ false → begins_file name ≡ false → riff_begun place (name ++ rest) ≡ Ok (None, rest)
name_over place name rest none four no_riff no_file = named place name rest four ∙ rw (no_riff, no_file, none) refl

pub over_there : (place : Place) (text : List ℕ) → place.owed ≡ 0 → begins_another text ≡ false → riff_begun place text ≡ Ok (None, looked_past text)
over_there place text none other = on_length (cases_lt (length text) 4) (is_name (take 4 text) (codes "RIFF")) refl
  where
    parted : take 4 text ++ drop 4 text ≡ text
    parted = take-append-drop 4 text

    Goal : Type 0
    Goal = riff_begun place text ≡ Ok (None, looked_past text)

    on_length : (length text < 4) ⊎ (4 ≤ length text) → (b : Bool) → is_name (take 4 text) (codes "RIFF") ≡ b → Goal
    on_length (inl few) b p = few_over place text none few ∙ ap (λ z. Ok (None, z)) (sym (few_other text few).1)
    on_length (inr enough) true p =
        let name : take 4 text ≡ codes "RIFF" = same_text (take 4 text) (codes "RIFF") (sym p) in
        let whole : text ≡ codes "RIFF" ++ drop 4 text = sym parted ∙ ap (λ z. z ++ drop 4 text) name in
        let test : nat_le 12 (length text) ≡ false = rw p at other in
        let few : length (drop 4 text) < 8 = omega (arith, leb-false _ _ test, ap length whole, length-append (codes "RIFF") (drop 4 text), spelled) in
        let left : looked_past text ≡ [] = rw p refl in
        ap (riff_begun place) whole ∙ part_over place (drop 4 text) none few ∙ ap (λ z. Ok (None, z)) (sym left)
      where
        spelled : length (codes "RIFF") ≡ 4
        spelled = refl
    on_length (inr enough) false p =
        let four : length (take 4 text) ≡ 4 = length-take 4 text ∙ (omega (arith, enough)) in
        let no_file : begins_file (take 4 text) ≡ false = rw p at other in
        let left : looked_past text ≡ drop 4 text = rw p refl in
        ap (riff_begun place) (sym parted) ∙ name_over place (take 4 text) (drop 4 text) none four p no_file ∙ ap (λ z. Ok (None, z)) (sym left)

-- what was read
pub record FoundRiff (place : Place) (text : List ℕ) (q : Place) (rest : List ℕ) : Type 0 where
  pub size : List ℕ
  pub text_is : text ≡ (codes "RIFF" ++ size ++ codes "AVIX") ++ rest
  pub sized : length size ≡ 4
  pub known : is_known (little_number 4 size) ≡ true
  pub room : 4 ≤ little_number 4 size
  pub fits : 8 + little_number 4 size < place.input
  pub place_is : q ≡ riff_at place (little_number 4 size)

-- or one without size
pub record FoundOpen (place : Place) (text : List ℕ) (q : Place) (rest : List ℕ) : Type 0 where
  pub size : List ℕ
  pub text_is : text ≡ (codes "RIFF" ++ size ++ codes "AVIX") ++ rest
  pub sized : length size ≡ 4
  pub unknown : is_known (little_number 4 size) ≡ false
  pub fits : 12 < place.input
  pub place_is : q ≡ open_at place OpenRiff (place.input - 12) 0

abbrev pub Begun : Place → List ℕ → Option Place × List ℕ → Type 0
Begun place text (None, rest) = (place.owed ≡ 0) × (begins_another text ≡ false) × (rest ≡ looked_past text)
Begun place text (Some q, rest) = FoundRiff place text q rest ⊎ FoundOpen place text q rest

pub begun_sound : (place : Place) (text : List ℕ) (w : Option Place × List ℕ) → riff_begun place text ≡ Ok w → Begun place text w
unfolding riff_begun
begun_sound place text w h =
    let first = read_on_ok (taken_or_end 4 place.owed text) (or_end (riff_named place)) w h in
    on_name first.0.0 first.0.1 first.1 first.2
  where
    P : Option Place × List ℕ → Type 0
    P z = Begun place text z

    sized_riff : ℕ → Reading (Option Place)
    sized_riff n = if is_known n then riff_of_size place n else open_riff place

    over : (rest : List ℕ) → place.owed ≡ 0 → (begins_another text ≡ false) × (looked_past text ≡ rest) → ◌≡◌ {A = Result (Option Place × List ℕ) Stop} (Ok (None, rest)) (Ok w) → P w
    over rest none is k = subst P (ok_is (None, rest) w k) (none, is.0, sym is.1)

    regrouped : (a b c d : List ℕ) → a ++ ((b ++ c) ++ d) ≡ ((a ++ b) ++ c) ++ d
    regrouped a b c d = simp append_assoc

    on_open : (bytes size more : List ℕ) (b : Bool) → text ≡ (codes "RIFF" ++ size ++ codes "AVIX") ++ more → length size ≡ 4 → is_known (little_number 4 size) ≡ false → nat_lt 12 place.input ≡ b → open_riff place more ≡ Ok w → P w
    on_open bytes size more false here sized unknown q k = absurd (cc (rw q at k))
    on_open bytes size more true here sized unknown q k =
        let made = open_at place OpenRiff (place.input - 12) 0 in
        let found : FoundOpen place text made more = record { size = size; text_is = here; sized = sized; unknown = unknown; fits = ltb-true _ _ q; place_is = refl } in
        subst P (ok_is (Some made, more) w (rw q at k)) (inr found)

    on_size : (size more : List ℕ) (b c : Bool) → text ≡ (codes "RIFF" ++ size ++ codes "AVIX") ++ more → length size ≡ 4 → is_known (little_number 4 size) ≡ true → nat_le 4 (little_number 4 size) ≡ b → nat_lt (8 + little_number 4 size) place.input ≡ c → riff_of_size place (little_number 4 size) more ≡ Ok w → P w
    on_size size more false c here sized known q r k = absurd (cc (rw q at k))
    on_size size more true false here sized known q r k = absurd (cc (rw (q, r) at k))
    on_size size more true true here sized known q r k =
        let made = riff_at place (little_number 4 size) in
        let found : FoundRiff place text made more = record { size = size; text_is = here; sized = sized; known = known; room = leb-true _ _ q; fits = ltb-true _ _ r; place_is = refl } in
        subst P (ok_is (Some made, more) w (rw (q, r) at k)) (inl found)

    on_known : (bytes size more : List ℕ) (b : Bool) → text ≡ (codes "RIFF" ++ size ++ codes "AVIX") ++ more → length size ≡ 4 → is_known (little_number 4 size) ≡ b → sized_riff (little_number 4 size) more ≡ Ok w → P w
    on_known bytes size more true here sized p k = on_size size more (nat_le 4 (little_number 4 size)) (nat_lt (8 + little_number 4 size) place.input) here sized p refl refl (rw p at k)
    on_known bytes size more false here sized p k = on_open bytes size more (nat_lt 12 place.input) here sized p refl (rw p at k)

    on_head : (bytes more : List ℕ) (a : Bool) → text ≡ codes "RIFF" ++ (bytes ++ more) → length bytes ≡ 8 → is_name (drop 4 bytes) (codes "AVIX") ≡ a → riff_judged place bytes more ≡ Ok w → P w
    on_head bytes more false whole long p k = absurd (cc (rw p at k))
    on_head bytes more true whole long p k =
        let size = take 4 bytes in
        let sized : length size ≡ 4 = length-take 4 bytes ∙ (omega (arith, long)) in
        let number : little_number 4 size ≡ little_number 4 bytes = number_taken 4 bytes (omega arith) in
        let form : drop 4 bytes ≡ codes "AVIX" = same_text (drop 4 bytes) (codes "AVIX") (sym p) in
        let apart : bytes ≡ size ++ codes "AVIX" = sym (take-append-drop 4 bytes) ∙ ap (λ z. size ++ z) form in
        let here : text ≡ (codes "RIFF" ++ size ++ codes "AVIX") ++ more = whole ∙ ap (λ z. codes "RIFF" ++ (z ++ more)) apart ∙ regrouped (codes "RIFF") size (codes "AVIX") more in
        on_known bytes size more (is_known (little_number 4 size)) here sized refl (ap (λ n. sized_riff n more) number ∙ rw p at k)

    on_bytes : (more : List ℕ) (o : Option (List ℕ)) (behind : List ℕ) → text ≡ codes "RIFF" ++ more → taken_or_end 8 place.owed more ≡ Ok (o, behind) → or_end (riff_judged place) o behind ≡ Ok w → P w
    on_bytes more None behind whole is k =
        let few = none_taken 8 place.owed more behind is in
        let other = part_other more few.1 in
        let Q : List ℕ → Type 0 = λ z. (begins_another z ≡ false) × (looked_past z ≡ behind) in
        over behind few.0 (subst Q (sym whole) (other.0, other.1 ∙ sym few.2)) k
    on_bytes more (Some bytes) behind whole is k =
        let own = some_taken 8 place.owed more bytes behind is in
        on_head bytes behind (is_name (drop 4 bytes) (codes "AVIX")) (whole ∙ ap (λ z. codes "RIFF" ++ z) own.0) own.1 refl k

    on_four : (name more : List ℕ) (a b c : Bool) → text ≡ name ++ more → length name ≡ 4 → is_name name (codes "RIFF") ≡ a → begins_file name ≡ b → (place.owed == 0) ≡ c → riff_named place name more ≡ Ok w → P w
    on_four name more true b c whole four p q r k =
        let name_is : name ≡ codes "RIFF" = same_text name (codes "RIFF") (sym p) in
        let second = read_on_ok (taken_or_end 8 place.owed more) (or_end (riff_judged place)) w (rw p at k) in
        on_bytes more second.0.0 second.0.1 (whole ∙ ap (λ z. z ++ more) name_is) second.1 second.2
    on_four name more false true c whole four p q r k = absurd (cc (rw (p, q) at k))
    on_four name more false false false whole four p q r k = absurd (cc (rw (p, q, r) at k))
    on_four name more false false true whole four p q r k =
        let Q : List ℕ → Type 0 = λ z. (begins_another z ≡ false) × (looked_past z ≡ more) in
        over more (eqb-true place.owed 0 r) (subst Q (sym whole) (name_other name more four p q)) (rw (p, q, r) at k)

    on_name : (o : Option (List ℕ)) (more : List ℕ) → taken_or_end 4 place.owed text ≡ Ok (o, more) → or_end (riff_named place) o more ≡ Ok w → P w
    on_name None more is k =
        let few = none_taken 4 place.owed text more is in
        let other = few_other text few.1 in
        over more few.0 (other.0, other.1 ∙ sym few.2) k
    on_name (Some name) more is k =
        let own = some_taken 4 place.owed text name more is in
        on_four name more (is_name name (codes "RIFF")) (begins_file name) (place.owed == 0) own.0 own.1 refl refl refl k
