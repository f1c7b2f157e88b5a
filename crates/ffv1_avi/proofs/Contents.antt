-- The bytes of a chunk, with their padding.
use Rattle.std.proofs.Common.{◌≡◌, ℕ, suc, zero, ◌+◌, ◌-◌, ◌≤◌, ◌<◌, ◌%◌, if◌then◌else◌, ◌⊎◌, nat_lt, nat_le, Bool, true, false, [], ◌∷◌, Option, Some, None, Result, Ok, Err, List, ◌++◌, length, take, drop, codes, ap, ◌∙◌, sym, arith, refl, inl, inr, zero-add, length-take, length-drop, length-append}
use Rattle.std.proofs.lemmas.Bool.{cases_lt, lt-ltb, le-ltb, le-leb, lt-leb, ltb-true}
use Rattle.std.proofs.lemmas.Grind.{common_steps}
use Rattle.std.proofs.lemmas.List.{drop-append-le, take-append-le}
use Rattle.std.proofs.Math.Seq.{drop-append_seam, take-add, take-append_seam}
use Rattle.byteorder.specs.Endian.{little_number}
use Rattle.byteorder.specs.Numbers.{little_from-append, little_from-take}
use Rattle.ffv1_reads.specs.Reads.{Kept, Looked, Reading, Short, Stop, Want, given, passed, read_on, taken, wanted, ◌>>=◌}
use Rattle.ffv1_avi.specs.Padding.{content, padded}
use Rattle.ffv1_avi.specs.Streams.{Format, is_format, format_behind, format_by, format_in, format_rest, format_of, rates_in, rates_of, record_end}
use Rattle.ffv1_avi.specs.declared.place.Extent.{Extent}
use Rattle.ffv1_avi.specs.declared.place.Extent.TheVariants.{FirstMovi, EveryRiff}
use Rattle.ffv1_avi.specs.Walk.{is_name}

pub taken_short : (n : ℕ) (text : List ℕ) → length text < n → taken n text ≡ Err (Short Looked)
taken_short n text h = rw (lt-ltb _ _ h) refl

pub passed_short : (n : ℕ) (text : List ℕ) → length text < n → passed n text ≡ Err (Short Looked)
passed_short n text h = rw (lt-ltb _ _ h) refl

pub drop_more : (m n : ℕ) (text : List ℕ) → drop n (drop m text) ≡ drop (m + n) text
drop_more zero n text = rw (zero-add n) refl
drop_more (suc m) n [] = grind (arith, common_steps)
drop_more (suc m) n (x ∷ xs) = let e : suc m + n ≡ suc (m + n) = omega arith in rw e (drop_more m n xs)

pub content_long : (size : ℕ) (text : List ℕ) → padded size ≤ length text → content Looked size text ≡ Ok (take size text, drop (padded size) text)
content_long size text h =
    let here : nat_lt (length text) size ≡ false = le-ltb _ _ (omega (arith, h)) in
    let behind : nat_lt (length (drop size text)) (size % 2) ≡ false = le-ltb _ _ (omega (arith, h, length-drop size text)) in
    rw (here, behind, drop_more size (size % 2) text) refl

pub content_short : (size : ℕ) (text : List ℕ) → length text < padded size → content Looked size text ≡ Err (Short Looked)
content_short size text h = elim (cases_lt (length text) size) [ inl here ↦ rw (lt-ltb _ _ here) refl | inr long ↦ behind long ]
  where
    behind : size ≤ length text → content Looked size text ≡ Err (Short Looked)
    behind long =
        let here : nat_lt (length text) size ≡ false = le-ltb _ _ long in
        let end : nat_lt (length (drop size text)) (size % 2) ≡ true = lt-ltb _ _ (omega (arith, h, length-drop size text)) in
        rw (here, end) refl

-- a number among the first bytes
pub number_front : (n k : ℕ) (xs ys : List ℕ) → k + n ≤ length xs → little_number n (drop k (xs ++ ys)) ≡ little_number n (drop k xs)
number_front n k xs ys h =
    let part : drop k (xs ++ ys) ≡ drop k xs ++ ys = drop-append-le k xs ys (omega (arith, h)) in
    rw part (little_from-append n (drop k xs) ys (omega (arith, h, length-drop k xs)))

-- what the first 56 bytes of a header say
abbrev pub rates_front : List ℕ → Option (ℕ × ℕ)
rates_front head =
    if is_name (take 4 head) (codes "vids") then Some (little_number 4 (drop 24 head), little_number 4 (drop 20 head)) else None

rates_of_front : (head more : List ℕ) → length head ≡ 56 → rates_of (head ++ more) ≡ rates_front head
rates_of_front head more long =
    let room : nat_le 56 (length (head ++ more)) ≡ true = le-leb _ _ (omega (arith, long, length-append head more)) in
    let name : take 4 (head ++ more) ≡ take 4 head = take-append-le 4 head more (omega (arith, long)) in
    let rate = number_front 4 24 head more (omega (arith, long)) in
    let scale = number_front 4 20 head more (omega (arith, long)) in
    rw (room, name, rate, scale) refl

cut_front : (n : ℕ) (xs ys : List ℕ) → length xs ≡ n → take n (xs ++ ys) ≡ xs
cut_front n xs ys long = rw (← long) (take-append_seam xs ys)

-- the first bytes and the others
parted : (n size : ℕ) (text : List ℕ) → n ≤ size → take size text ≡ take n text ++ take (size - n) (drop n text)
parted n size text h = let e : size ≡ n + (size - n) = omega (arith, h) in ap (λ k. take k text) e ∙ take-add n (size - n) text

pub rates_long : (size : ℕ) → 56 ≤ size → (text : List ℕ) → rates_in size text ≡ (taken 56 >>= λ head. (passed (padded size - 56) >>= λ _. given (rates_front head))) text
unfolding rates_in
rates_long size enough text = elim (cases_lt (length text) (padded size)) [ inl few ↦ short few (elim (cases_lt (length text) 56) [ inl none ↦ inl none | inr some ↦ inr some ]) | inr all ↦ long all ]
  where
    short : length text < padded size → (length text < 56) ⊎ (56 ≤ length text) → rates_in size text ≡ (taken 56 >>= λ head. (passed (padded size - 56) >>= λ _. given (rates_front head))) text
    short few (inl none) = ap (λ z. read_on z (λ bytes. given (rates_of bytes))) (content_short size text few) ∙ rw (lt-ltb _ _ none) refl
    short few (inr some) =
        let here : nat_lt (length text) 56 ≡ false = le-ltb _ _ some in
        let behind : nat_lt (length (drop 56 text)) (padded size - 56) ≡ true = lt-ltb _ _ (omega (arith, few, length-drop 56 text)) in
        ap (λ z. read_on z (λ bytes. given (rates_of bytes))) (content_short size text few) ∙ rw (here, behind) refl

    long : padded size ≤ length text → rates_in size text ≡ (taken 56 >>= λ head. (passed (padded size - 56) >>= λ _. given (rates_front head))) text
    long all =
        let here : nat_lt (length text) 56 ≡ false = le-ltb _ _ (omega (arith, all, enough)) in
        let behind : nat_lt (length (drop 56 text)) (padded size - 56) ≡ false = le-ltb _ _ (omega (arith, all, length-drop 56 text)) in
        let far : drop (padded size - 56) (drop 56 text) ≡ drop (padded size) text = drop_more 56 (padded size - 56) text ∙ ap (λ k. drop k text) (omega (arith, enough)) in
        let head : length (take 56 text) ≡ 56 = length-take 56 text ∙ (omega (arith, all, enough)) in
        let says : rates_of (take size text) ≡ rates_front (take 56 text) = ap rates_of (parted 56 size text enough) ∙ rates_of_front (take 56 text) (take (size - 56) (drop 56 text)) head in
        ap (λ z. read_on z (λ bytes. given (rates_of bytes))) (content_long size text all) ∙ rw (here, behind, far, says) refl

pub rates_short : (size : ℕ) → size < 56 → (text : List ℕ) → rates_in size text ≡ (passed (padded size) >>= λ _. given None) text
unfolding rates_in
rates_short size few text = elim (cases_lt (length text) (padded size)) [ inl less ↦ short less | inr all ↦ long all ]
  where
    short : length text < padded size → rates_in size text ≡ (passed (padded size) >>= λ _. given None) text
    short less = ap (λ z. read_on z (λ bytes. given (rates_of bytes))) (content_short size text less) ∙ rw (lt-ltb _ _ less) refl

    long : padded size ≤ length text → rates_in size text ≡ (passed (padded size) >>= λ _. given None) text
    long all =
        let room : nat_le 56 (length (take size text)) ≡ false = lt-leb _ _ (omega (arith, few, length-take size text)) in
        ap (λ z. read_on z (λ bytes. given (rates_of bytes))) (content_long size text all) ∙ rw (le-ltb _ _ all, room) refl

-- what the first 40 bytes of a format say, with the record after them
abbrev pub format_front : Extent → List ℕ → List ℕ → Option Format
format_front extent head config =
    if is_format extent (take 4 (drop 16 head)) then Some (record { width = little_number 4 (drop 4 head); height = little_number 4 (drop 8 head); config_record = config }) else None

-- where the record of a format ends that begins with these bytes
abbrev pub end_of : Extent → List ℕ → ℕ → ℕ
end_of extent head size = record_end extent (little_number 4 head) size

-- the record ends inside the format
pub end_inside : (extent : Extent) (says size : ℕ) → 40 ≤ size → (40 ≤ record_end extent says size) × (record_end extent says size ≤ size)
end_inside FirstMovi says size enough = (enough, omega arith)
end_inside EveryRiff says size enough = on_tests (nat_lt 40 says) (nat_lt says size) refl refl
  where
    on_tests : (a b : Bool) → nat_lt 40 says ≡ a → nat_lt says size ≡ b → (40 ≤ record_end EveryRiff says size) × (record_end EveryRiff says size ≤ size)
    on_tests true true p q = rw (p, q) (let low = ltb-true _ _ p in let high = ltb-true _ _ q in (omega (arith, low), omega (arith, high)))
    on_tests true false p q = rw (p, q) (enough, omega arith)
    on_tests false b p q = rw p (enough, omega arith)

format_of_front : (extent : Extent) (head more : List ℕ) → length head ≡ 40 → format_of extent (head ++ more) ≡ format_front extent head (take (end_of extent head (40 + length more) - 40) more)
format_of_front extent head more long =
    let room : nat_le 40 (length (head ++ more)) ≡ true = le-leb _ _ (omega (arith, long, length-append head more)) in
    let size : length (head ++ more) ≡ 40 + length more = length-append head more ∙ ap (λ n. n + length more) long in
    let says : little_number 4 (head ++ more) ≡ little_number 4 head = number_front 4 0 head more (omega (arith, long)) in
    let front : drop 16 (head ++ more) ≡ drop 16 head ++ more = drop-append-le 16 head more (omega (arith, long)) in
    let name : take 4 (drop 16 head ++ more) ≡ take 4 (drop 16 head) = take-append-le 4 (drop 16 head) more (omega (arith, long, length-drop 16 head)) in
    let width = number_front 4 4 head more (omega (arith, long)) in
    let height = number_front 4 8 head more (omega (arith, long)) in
    let behind : drop 40 (head ++ more) ≡ more = ap (λ k. drop k (head ++ more)) (sym long) ∙ drop-append_seam head more in
    rw (room, front, name, width, height, behind, says, size) refl

-- a format, by its bytes as a whole
abbrev pub format_whole : Extent → ℕ → Reading (Option Format)
format_whole extent size = content Looked size >>= λ bytes. given (format_of extent bytes)

abbrev whole_rest : Extent → ℕ → List ℕ → Reading (Option Format)
whole_rest extent size head = taken (size - 40) >>= λ config. (passed (size % 2) >>= λ _. given (format_front extent head (take (end_of extent head size - 40) config)))

whole_long : (extent : Extent) (size : ℕ) → 40 ≤ size → (text : List ℕ) → format_whole extent size text ≡ (taken 40 >>= whole_rest extent size) text
whole_long extent size enough text = elim (cases_lt (length text) 40) [ inl none ↦ nothing none | inr some ↦ elim (cases_lt (length text) size) [ inl few ↦ short some few | inr all ↦ elim (cases_lt (length text) (padded size)) [ inl most ↦ unpadded all most | inr whole ↦ long whole ] ] ]
  where
    judge : Result (List ℕ × List ℕ) Stop → Result (Option Format × List ℕ) Stop
    judge z = read_on z (λ bytes. given (format_of extent bytes))

    nothing : length text < 40 → judge (content Looked size text) ≡ (taken 40 >>= whole_rest extent size) text
    nothing none = ap judge (content_short size text (omega (arith, none, enough))) ∙ rw (lt-ltb _ _ none) refl

    short : 40 ≤ length text → length text < size → judge (content Looked size text) ≡ (taken 40 >>= whole_rest extent size) text
    short some few =
        let behind : nat_lt (length (drop 40 text)) (size - 40) ≡ true = lt-ltb _ _ (omega (arith, few, some, length-drop 40 text)) in
        ap judge (content_short size text (omega (arith, few))) ∙ rw (le-ltb _ _ some, behind) refl

    unpadded : size ≤ length text → length text < padded size → judge (content Looked size text) ≡ (taken 40 >>= whole_rest extent size) text
    unpadded all most =
        let some : nat_lt (length text) 40 ≡ false = le-ltb _ _ (omega (arith, all, enough)) in
        let behind : nat_lt (length (drop 40 text)) (size - 40) ≡ false = le-ltb _ _ (omega (arith, all, length-drop 40 text)) in
        let end : nat_lt (length (drop (size - 40) (drop 40 text))) (size % 2) ≡ true = lt-ltb _ _ (omega (arith, all, most, enough, length-drop 40 text, length-drop (size - 40) (drop 40 text))) in
        ap judge (content_short size text most) ∙ rw (some, behind, end) refl

    long : padded size ≤ length text → judge (content Looked size text) ≡ (taken 40 >>= whole_rest extent size) text
    long whole =
        let some : nat_lt (length text) 40 ≡ false = le-ltb _ _ (omega (arith, whole, enough)) in
        let behind : nat_lt (length (drop 40 text)) (size - 40) ≡ false = le-ltb _ _ (omega (arith, whole, length-drop 40 text)) in
        let end : nat_lt (length (drop (size - 40) (drop 40 text))) (size % 2) ≡ false = le-ltb _ _ (omega (arith, whole, enough, length-drop 40 text, length-drop (size - 40) (drop 40 text))) in
        let far : drop (size % 2) (drop (size - 40) (drop 40 text)) ≡ drop (padded size) text = ap (drop (size % 2)) (drop_more 40 (size - 40) text) ∙ drop_more (40 + (size - 40)) (size % 2) text ∙ ap (λ k. drop k text) (omega (arith, enough)) in
        let head : length (take 40 text) ≡ 40 = length-take 40 text ∙ (omega (arith, whole, enough)) in
        let more = take (size - 40) (drop 40 text) in
        let all : 40 + length more ≡ size = omega (arith, whole, enough, length-take (size - 40) (drop 40 text), length-drop 40 text) in
        let cut : format_front extent (take 40 text) (take (end_of extent (take 40 text) (40 + length more) - 40) more) ≡ format_front extent (take 40 text) (take (end_of extent (take 40 text) size - 40) more) = ap (λ n. format_front extent (take 40 text) (take (end_of extent (take 40 text) n - 40) more)) all in
        let says : format_of extent (take size text) ≡ format_front extent (take 40 text) (take (end_of extent (take 40 text) size - 40) more) = ap (format_of extent) (parted 40 size text enough) ∙ format_of_front extent (take 40 text) more head ∙ cut in
        ap judge (content_long size text whole) ∙ rw (some, behind, end, far, says) refl

whole_short : (extent : Extent) (size : ℕ) → size < 40 → (text : List ℕ) → format_whole extent size text ≡ (passed (padded size) >>= λ _. given None) text
whole_short extent size few text = elim (cases_lt (length text) (padded size)) [ inl less ↦ short less | inr all ↦ long all ]
  where
    short : length text < padded size → format_whole extent size text ≡ (passed (padded size) >>= λ _. given None) text
    short less = ap (λ z. read_on z (λ bytes. given (format_of extent bytes))) (content_short size text less) ∙ rw (lt-ltb _ _ less) refl

    long : padded size ≤ length text → format_whole extent size text ≡ (passed (padded size) >>= λ _. given None) text
    long all =
        let room : nat_le 40 (length (take size text)) ≡ false = lt-leb _ _ (omega (arith, few, length-take size text)) in
        ap (λ z. read_on z (λ bytes. given (format_of extent bytes))) (content_long size text all) ∙ rw (le-ltb _ _ all, room) refl

-- a number at the front of some bytes
pub number_taken : (m : ℕ) (xs : List ℕ) → 4 ≤ m → little_number 4 (take m xs) ≡ little_number 4 xs
number_taken m xs h = little_from-take 0 4 m xs h

-- a format that is not FFV1
whole_wrong : (extent : Extent) (size : ℕ) (head : List ℕ) → 40 ≤ size → is_format extent (take 4 (drop 16 head)) ≡ false → (text : List ℕ) → whole_rest extent size head text ≡ (passed (padded size - 40) >>= λ _. given None) text
whole_wrong extent size head enough wrong text = rw wrong (elim (cases_lt (length text) (size - 40)) [ inl few ↦ short few | inr some ↦ elim (cases_lt (length text) (padded size - 40)) [ inl most ↦ unpadded some most | inr all ↦ long all ] ])
  where
    short : length text < size - 40 → (taken (size - 40) >>= λ config. (passed (size % 2) >>= λ _. given {X = Option Format} None)) text ≡ (passed (padded size - 40) >>= λ _. given None) text
    short few = rw (lt-ltb _ _ few, lt-ltb (length text) (padded size - 40) (omega (arith, few, enough))) refl

    unpadded : size - 40 ≤ length text → length text < padded size - 40 → (taken (size - 40) >>= λ config. (passed (size % 2) >>= λ _. given {X = Option Format} None)) text ≡ (passed (padded size - 40) >>= λ _. given None) text
    unpadded some most =
        let end : nat_lt (length (drop (size - 40) text)) (size % 2) ≡ true = lt-ltb _ _ (omega (arith, some, most, enough, length-drop (size - 40) text)) in
        rw (le-ltb _ _ some, end, lt-ltb _ _ most) refl

    long : padded size - 40 ≤ length text → (taken (size - 40) >>= λ config. (passed (size % 2) >>= λ _. given {X = Option Format} None)) text ≡ (passed (padded size - 40) >>= λ _. given None) text
    long all =
        let here : nat_lt (length text) (size - 40) ≡ false = le-ltb _ _ (omega (arith, all, enough)) in
        let end : nat_lt (length (drop (size - 40) text)) (size % 2) ≡ false = le-ltb _ _ (omega (arith, all, enough, length-drop (size - 40) text)) in
        let far : drop (size % 2) (drop (size - 40) text) ≡ drop (padded size - 40) text = drop_more (size - 40) (size % 2) text ∙ ap (λ k. drop k text) (omega (arith, enough)) in
        rw (here, end, far, le-ltb _ _ all) refl

-- whether its record is kept or not, a format reads alike, and as its bytes as a whole
format_alike : (extent : Extent) (v w : Want) (size : ℕ) (text : List ℕ) (z : Option Format × List ℕ) → format_by extent v size text ≡ Ok z → format_by extent w size text ≡ Ok z
format_alike extent v w size text z h = on_tests (nat_lt size 40) (nat_lt (length text) 40) (is_format extent (take 4 (drop 16 (take 40 text)))) (nat_lt (length (drop 40 text)) (end_of extent (take 40 text) size - 40)) refl refl refl refl h
  where
    on_tests : (a b c d : Bool) → nat_lt size 40 ≡ a → nat_lt (length text) 40 ≡ b → is_format extent (take 4 (drop 16 (take 40 text))) ≡ c → nat_lt (length (drop 40 text)) (end_of extent (take 40 text) size - 40) ≡ d → format_by extent v size text ≡ Ok z → format_by extent w size text ≡ Ok z
    on_tests true b c d p q r s h = rw p (rw p at h)
    on_tests false true c d p q r s h = absurd (cc (rw (p, q) at h))
    on_tests false false false d p q r s h = rw (p, q, r) (rw (p, q, r) at h)
    on_tests false false true true p q r s h = absurd (cc (rw (p, q, r, s) at h))
    on_tests false false true false p q r s h = rw (p, q, r, s) (rw (p, q, r, s) at h)

rest_wrong : (extent : Extent) (w : Want) (size : ℕ) (front : List ℕ) → is_format extent (take 4 (drop 16 front)) ≡ false → (text : List ℕ) → format_rest extent w size front text ≡ (passed (padded size - 40) >>= λ _. given None) text
rest_wrong extent w size front is text = rw is refl

-- a record that ends before its chunk, and what is left of that, are that chunk
cut_same : {X : Type 0} (kept n odd : ℕ) (make : List ℕ → X) (text : List ℕ) → kept ≤ n →
    (taken kept >>= λ config. (passed (n - kept + odd) >>= λ _. given (make config))) text ≡ (taken n >>= λ config. (passed odd >>= λ _. given (make (take kept config)))) text
cut_same {X = X} kept n odd make text inside =
    elim (cases_lt (length text) kept) [ inl few ↦ nothing few | inr some ↦ elim (cases_lt (length text) n) [ inl less ↦ short some less | inr more ↦ elim (cases_lt (length text) (n + odd)) [ inl most ↦ unpadded more most | inr all ↦ long all ] ] ]
  where
    Same : Type 0
    Same = (taken kept >>= λ config. (passed (n - kept + odd) >>= λ _. given (make config))) text ≡ (taken n >>= λ config. (passed odd >>= λ _. given (make (take kept config)))) text

    nothing : length text < kept → Same
    nothing few = rw (lt-ltb (length text) kept few, lt-ltb (length text) n (omega (arith, few, inside))) refl

    short : kept ≤ length text → length text < n → Same
    short some less =
        let behind : nat_lt (length (drop kept text)) (n - kept + odd) ≡ true = lt-ltb _ _ (omega (arith, less, some, length-drop kept text)) in
        rw (le-ltb (length text) kept some, lt-ltb (length text) n less, behind) refl

    unpadded : n ≤ length text → length text < n + odd → Same
    unpadded more most =
        let behind : nat_lt (length (drop kept text)) (n - kept + odd) ≡ true = lt-ltb _ _ (omega (arith, inside, more, most, length-drop kept text)) in
        let end : nat_lt (length (drop n text)) odd ≡ true = lt-ltb _ _ (omega (arith, more, most, length-drop n text)) in
        rw (le-ltb (length text) kept (omega (arith, inside, more)), le-ltb (length text) n more, behind, end) refl

    long : n + odd ≤ length text → Same
    long all =
        let behind : nat_lt (length (drop kept text)) (n - kept + odd) ≡ false = le-ltb _ _ (omega (arith, inside, all, length-drop kept text)) in
        let end : nat_lt (length (drop n text)) odd ≡ false = le-ltb _ _ (omega (arith, all, length-drop n text)) in
        let far : drop (n - kept + odd) (drop kept text) ≡ drop odd (drop n text) = drop_more kept (n - kept + odd) text ∙ ap (λ k. drop k text) (omega (arith, inside)) ∙ sym (drop_more n odd text) in
        let size : length (take kept text) ≡ kept = length-take kept text ∙ (omega (arith, inside, all)) in
        let front : take kept (take n text) ≡ take kept text = ap (take kept) (parted kept n text inside) ∙ cut_front kept (take kept text) (take (n - kept) (drop kept text)) size in
        rw (le-ltb (length text) kept (omega (arith, inside, all)), le-ltb (length text) n (omega (arith, all)), behind, end, far, front) refl

rest_right : (extent : Extent) (size : ℕ) (front : List ℕ) → 40 ≤ size → is_format extent (take 4 (drop 16 front)) ≡ true → (text : List ℕ) → format_rest extent Looked size front text ≡ whole_rest extent size front text
rest_right extent size front enough is text =
    let inside = end_inside extent (little_number 4 front) size enough in
    let end = end_of extent front size in
    let gap : padded size - end ≡ size - 40 - (end - 40) + size % 2 = omega (arith, inside.0, inside.1) in
    rw (is, gap) (cut_same (end - 40) (size - 40) (size % 2) (λ config. format_behind front config) text (omega (arith, inside.0, inside.1)))

rest_same : (extent : Extent) (size : ℕ) (front : List ℕ) → 40 ≤ size → (text : List ℕ) → format_rest extent Looked size front text ≡ whole_rest extent size front text
rest_same extent size front enough text = on_name (is_format extent (take 4 (drop 16 front))) refl
  where
    on_name : (b : Bool) → is_format extent (take 4 (drop 16 front)) ≡ b → format_rest extent Looked size front text ≡ whole_rest extent size front text
    on_name true is = rest_right extent size front enough is text
    on_name false is = rest_wrong extent Looked size front is text ∙ sym (whole_wrong extent size front enough is text)

by_same : (extent : Extent) (size : ℕ) (text : List ℕ) → format_by extent Looked size text ≡ format_whole extent size text
by_same extent size text = elim (cases_lt size 40) [ inl few ↦ rw (lt-ltb _ _ few) (sym (whole_short extent size few text)) | inr enough ↦ rw (le-ltb _ _ enough) (on_front enough (taken 40 text) ∙ sym (whole_long extent size enough text)) ]
  where
    on_front : 40 ≤ size → (z : Result (List ℕ × List ℕ) Stop) → read_on z (format_rest extent Looked size) ≡ read_on z (whole_rest extent size)
    on_front enough (Ok p) = rest_same extent size p.0 enough p.1
    on_front enough (Err why) = refl

pub format_sound : (extent : Extent) (size : ℕ) (text : List ℕ) (z : Option Format × List ℕ) → format_in extent size text ≡ Ok z → format_whole extent size text ≡ Ok z
unfolding format_in
format_sound extent size text z h = sym (by_same extent size text) ∙ format_alike extent Kept Looked size text z h

pub format_complete : (extent : Extent) (size : ℕ) (text : List ℕ) (z : Option Format × List ℕ) → format_whole extent size text ≡ Ok z → format_in extent size text ≡ Ok z
unfolding format_in
format_complete extent size text z h = format_alike extent Looked Kept size text z (by_same extent size text ∙ h)

-- a format by its size, and by its name
pub format_short : (extent : Extent) (size : ℕ) → size < 40 → (text : List ℕ) → format_in extent size text ≡ (passed (padded size) >>= λ _. given None) text
unfolding format_in
format_short extent size few text = rw (lt-ltb _ _ few) refl

pub format_long : (extent : Extent) (size : ℕ) → 40 ≤ size → (text : List ℕ) → format_in extent size text ≡ (taken 40 >>= format_rest extent Kept size) text
unfolding format_in
format_long extent size enough text = rw (le-ltb _ _ enough) refl

abbrev pub record_rest : ℕ → ℕ → List ℕ → Reading (Option Format)
record_rest end size front = wanted Kept (end - 40) >>= λ config. (passed (padded size - end) >>= λ _. given (format_behind front config))

pub format_right : (extent : Extent) (end size : ℕ) (front : List ℕ) → end ≡ record_end extent (little_number 4 front) size → is_format extent (take 4 (drop 16 front)) ≡ true → (text : List ℕ) → format_rest extent Kept size front text ≡ record_rest end size front text
format_right extent end size front ends is text = rw (is, ends) refl

pub format_wrong : (extent : Extent) (size : ℕ) (front : List ℕ) → is_format extent (take 4 (drop 16 front)) ≡ false → (text : List ℕ) → format_rest extent Kept size front text ≡ (passed (padded size - 40) >>= λ _. given None) text
format_wrong extent size front is text = rw is refl
