-- The line of the canonical header says its head.
use Rattle.std.proofs.Common.{◌≡◌, ℕ, ◌-◌, subst, ◌+◌, ◌^◌, ◌<◌, ◌≤◌, ◌==◌, zero, suc, Bool, true, false, ◌&&◌, nat_lt, cond, Option, Some, None, List, [], ◌∷◌, ◌++◌, length, drop, get_or, codes, decimal, Ok, refl, ap, ◌∙◌, sym, append_assoc, arith, length-append}
use Rattle.std.proofs.lemmas.Bool.{le-leb, true≢false, false≢true, ne_eqb}
use Rattle.std.proofs.lemmas.Fmt.{length-decimal-le, digits_decimal}
use Rattle.std.proofs.lemmas.Str.Parse.{IsDigitsTest, numerals_by_value}
use Rattle.std.specs.Int.{IsInRange}
use Rattle.std.proofs.Math.Seq.{take-append_seam, drop-append-add}
use Rattle.std.specs.List.{position}
use Rattle.ffv1_y4m.specs.declared.head.VideoHead.{VideoHead}
use Rattle.ffv1_y4m.specs.declared.tags.Chroma.{Chroma}
use Rattle.ffv1_y4m.specs.declared.tags.Tags.{Tags}
use Rattle.ffv1_y4m.specs.Header.{number_of, structure_of, tagged, judged, words_of, onto_first, size_of, capped_of, pair_of, ratio_of, chroma_named, chroma_of, chroma_planes, deep_chroma_of, or_else, range_of}
use Rattle.ffv1_y4m.specs.declared.head.Range.{Range}
use Rattle.ffv1_y4m.specs.declared.head.Range.TheVariants as range
use Rattle.ffv1_y4m.specs.declared.head.Siting.{Siting}
use Rattle.ffv1_y4m.specs.declared.head.Siting.TheVariants as siting
use Rattle.ffv1_y4m.specs.Canonical.{as_said, range_end, siting_name, structure_name, name_of_chroma, deep_name, depth_name, chroma_name, number_text, ratio_text, name_text, sizes_text, times_text, header_text}
use Rattle.ffv1_y4m.specs.VideoHead.{IsRatio, IsHead, IsNamed, has_siting, is_named}
use Rattle.ffv1_y4m.specs.HeaderLine.{AtMostOnce, AreTags, IsHeaderLine, Once, Perhaps, SaysChroma, SaysRatio, SaysSize, SaysStructure, Without, chroma_in, ranging, spaced, values_of}
use Rattle.ffv1_y4m.proofs.Lines.{position_found}
use Rattle.ffv1_y4m.proofs.Numbers.{number_is}

-- bytes that are none of a text's
without_at : (b : ℕ) (xs : List ℕ) → ((k : ℕ) → k < length xs → (get_or xs k 0 == b) ≡ false) → Without b xs
without_at b [] h = tt
without_at b (x ∷ xs) h = (h 0 (omega arith), without_at b xs (λ k less. h (suc k) (omega (arith, less))))

pub without_both : (b : ℕ) (xs ys : List ℕ) → Without b xs → Without b ys → Without b (xs ++ ys)
without_both b [] ys h k = k
without_both b (x ∷ xs) ys h k = (h.0, without_both b xs ys h.1 k)

-- bytes that are digits
abbrev pub AreDigits : List ℕ → Type 0
AreDigits [] = Unit {0}
AreDigits (c ∷ cs) = IsInRange 48 57 c × AreDigits cs

digits_test : IsDigitsTest AreDigits
digits_test = record { empty = tt; parts = λ c cs h. h; more = λ c cs h k. (h, k) }

pub are_digits : (n : ℕ) → n < 2 ^ 32 → AreDigits (decimal n)
are_digits n small = digits_decimal (numerals_by_value AreDigits digits_test) n (omega (arith, small))

low_without : (b : ℕ) (ds : List ℕ) → b < 48 → AreDigits ds → Without b ds
low_without b [] low h = tt
low_without b (c ∷ ds) low h = (ne_eqb c b (λ e. absurd (omega (arith, e, h.0.0, low))), low_without b ds low h.1)

high_without : (b : ℕ) (ds : List ℕ) → 57 < b → AreDigits ds → Without b ds
high_without b [] high h = tt
high_without b (c ∷ ds) high h = (ne_eqb c b (λ e. absurd (omega (arith, e, h.0.1, high))), high_without b ds high h.1)

pub digits_without : (b n : ℕ) → b < 48 → n < 2 ^ 32 → Without b (decimal n)
digits_without b n low small = low_without b (decimal n) low (are_digits n small)

digits_without_colon : (n : ℕ) → n < 2 ^ 32 → Without 58 (decimal n)
digits_without_colon n small = high_without 58 (decimal n) (omega arith) (are_digits n small)

-- words with a space between them
pub words_front : (w rest : List ℕ) → Without 32 w → words_of (w ++ 32 ∷ rest) ≡ w ∷ words_of rest
words_front [] rest h = refl
words_front (c ∷ w) rest h = rw h.0 (ap (onto_first c) (words_front w rest h.1))

pub words_whole : (w : List ℕ) → Without 32 w → words_of w ≡ w ∷ []
words_whole [] h = refl
words_whole (c ∷ w) h = rw h.0 (ap (onto_first c) (words_whole w h.1))

-- the values
pub size_back : (n : ℕ) → 1 ≤ n → n ≤ 8192 → size_of (decimal n) ≡ Some n
unfolding size_of
size_back n some most =
    let number : number_of (decimal n) ≡ Some n = number_is n (decimal n) (omega (arith, most)) refl in
    rw (number, le-leb 1 n some, le-leb n 8192 most) refl

capped_back : (most n : ℕ) → most < 2 ^ 32 → n ≤ most → capped_of most (decimal n) ≡ Some n
unfolding capped_of
capped_back most n wide below =
    let number : number_of (decimal n) ≡ Some n = number_is n (decimal n) (omega (arith, wide, below)) refl in
    rw (number, le-leb 0 n (omega arith), le-leb n most below) refl

pair_back : (n d : ℕ) (a b : Bool) → (n == 0) ≡ a → (d == 0) ≡ b → a ≡ b → pair_of n d ≡ Some (n, d)
pair_back n d true true p q e = rw (p, q) refl
pair_back n d false false p q e = rw (p, q) refl
pair_back n d true false p q e = absurd (true≢false e)
pair_back n d false true p q e = absurd (false≢true e)

ratio_back : (most n d : ℕ) → most < 2 ^ 32 → IsRatio most n d → ratio_of most (decimal n ++ 58 ∷ decimal d) ≡ Some (n, d)
ratio_back most n d wide r =
    let colon : position (λ c. c == 58) (decimal n ++ 58 ∷ decimal d) ≡ Some (length (decimal n)) = position_found 58 (decimal n) (decimal d) (digits_without_colon n (omega (arith, wide, r.first))) in
    let behind : drop (length (decimal n) + 1) (decimal n ++ 58 ∷ decimal d) ≡ decimal d = drop-append-add (decimal n) (58 ∷ decimal d) 1 in
    rw (colon, take-append_seam (decimal n) (58 ∷ decimal d), behind, capped_back most n wide r.first, capped_back most d wide r.second) (pair_back n d (n == 0) (d == 0) refl refl r.both)

structure_back : (s : ℕ) → s ≤ 3 → structure_of (structure_name s) ≡ Ok s
unfolding structure_of
structure_back zero h = refl
structure_back (suc zero) h = refl
structure_back (suc (suc zero)) h = refl
structure_back (suc (suc (suc zero))) h = refl
structure_back (suc (suc (suc (suc s)))) h = absurd (omega (arith, h))

-- the name of the chroma, whole
abbrev whole_name : ℕ → Bool → ℕ → ℕ → Bool → Option Siting → List ℕ
whole_name depth planes a b extra s = cond (depth == 8) (name_of_chroma planes a b extra s) (deep_name depth planes a b extra) ++ depth_name depth

abbrev chroma_with : ℕ → Bool → ℕ → ℕ → Bool → Option Siting → Chroma
chroma_with depth planes a b extra s = record { planes = planes; log2_h = a; log2_v = b; extra = extra; depth = depth; siting = s }

-- the siting that a name says
abbrev siting_by : Bool → ℕ → Bool → ℕ → ℕ → Option Siting → Option Siting
siting_by deep depth planes a b s = cond (has_siting depth planes a b && deep) (Some (or_else s siting.Centre)) None

-- a property of a depth that has a name
by_more : (Q : ℕ → Type 0) (k : ℕ) → k ≤ 8 → Q 8 → Q 9 → Q 10 → Q 11 → Q 12 → Q 13 → Q 14 → Q 15 → Q 16 → Q (k + 8)
by_more Q zero most a b c d e f g h i = a
by_more Q (suc zero) most a b c d e f g h i = b
by_more Q (suc (suc zero)) most a b c d e f g h i = c
by_more Q (suc (suc (suc zero))) most a b c d e f g h i = d
by_more Q (suc (suc (suc (suc zero)))) most a b c d e f g h i = e
by_more Q (suc (suc (suc (suc (suc zero))))) most a b c d e f g h i = f
by_more Q (suc (suc (suc (suc (suc (suc zero)))))) most a b c d e f g h i = g
by_more Q (suc (suc (suc (suc (suc (suc (suc zero))))))) most a b c d e f g h i = h
by_more Q (suc (suc (suc (suc (suc (suc (suc (suc zero)))))))) most a b c d e f g h i = i
by_more Q (suc (suc (suc (suc (suc (suc (suc (suc (suc k))))))))) most a b c d e f g h i = absurd (omega (arith, most))

by_depth : (Q : ℕ → Type 0) (depth : ℕ) → 8 ≤ depth → depth ≤ 16 → Q 8 → Q 9 → Q 10 → Q 11 → Q 12 → Q 13 → Q 14 → Q 15 → Q 16 → Q depth
by_depth Q depth least most a b c d e f g h i =
    let same : depth - 8 + 8 ≡ depth = omega (arith, least) in
    subst Q same (by_more Q (depth - 8) (omega (arith, least, most)) a b c d e f g h i)

abbrev Back : Bool → Option Siting → Bool → ℕ → ℕ → Bool → ℕ → Type 0
Back deep s planes a b extra depth = is_named depth planes a b extra ≡ true → chroma_named deep (whole_name depth planes a b extra s) ≡ Some (chroma_with depth planes a b extra (siting_by deep depth planes a b s))

half_back : (deep : Bool) (s : Option Siting) → chroma_named deep (whole_name 8 true 1 1 false s) ≡ Some (chroma_with 8 true 1 1 false (siting_by deep 8 true 1 1 s))
unfolding chroma_named
half_back true None = refl
half_back true (Some siting.Centre) = refl
half_back true (Some siting.Left) = refl
half_back true (Some siting.TopLeft) = refl
half_back false None = refl
half_back false (Some siting.Centre) = refl
half_back false (Some siting.Left) = refl
half_back false (Some siting.TopLeft) = refl

chroma_back : (deep : Bool) (s : Option Siting) (planes : Bool) (a b : ℕ) (extra : Bool) (depth : ℕ) → 8 ≤ depth → depth ≤ 16 → Back deep s planes a b extra depth
unfolding chroma_named deep_chroma_of
chroma_back deep s true zero zero true depth least most = by_depth (Back deep s true 0 0 true) depth least most (λ h. refl) (λ h. absurd (false≢true h)) (λ h. absurd (false≢true h)) (λ h. absurd (false≢true h)) (λ h. absurd (false≢true h)) (λ h. absurd (false≢true h)) (λ h. absurd (false≢true h)) (λ h. absurd (false≢true h)) (λ h. absurd (false≢true h))
chroma_back deep s true zero zero false depth least most = by_depth (Back deep s true 0 0 false) depth least most (λ h. refl) (λ h. refl) (λ h. refl) (λ h. absurd (false≢true h)) (λ h. refl) (λ h. absurd (false≢true h)) (λ h. refl) (λ h. absurd (false≢true h)) (λ h. refl)
chroma_back deep s true zero (suc b) true depth least most = λ h. absurd (false≢true h)
chroma_back deep s true zero (suc b) false depth least most = λ h. absurd (false≢true h)
chroma_back deep s true (suc zero) zero true depth least most = λ h. absurd (false≢true h)
chroma_back deep s true (suc zero) zero false depth least most = by_depth (Back deep s true 1 0 false) depth least most (λ h. refl) (λ h. refl) (λ h. refl) (λ h. absurd (false≢true h)) (λ h. refl) (λ h. absurd (false≢true h)) (λ h. refl) (λ h. absurd (false≢true h)) (λ h. refl)
chroma_back deep s true (suc zero) (suc zero) true depth least most = λ h. absurd (false≢true h)
chroma_back deep s true (suc zero) (suc zero) false depth least most = by_depth (Back deep s true 1 1 false) depth least most (λ h. half_back deep s) (λ h. refl) (λ h. refl) (λ h. absurd (false≢true h)) (λ h. refl) (λ h. absurd (false≢true h)) (λ h. refl) (λ h. absurd (false≢true h)) (λ h. refl)
chroma_back deep s true (suc zero) (suc (suc b)) extra depth least most = λ h. absurd (false≢true h)
chroma_back deep s true (suc (suc zero)) zero true depth least most = λ h. absurd (false≢true h)
chroma_back deep s true (suc (suc zero)) zero false depth least most = by_depth (Back deep s true 2 0 false) depth least most (λ h. refl) (λ h. absurd (false≢true h)) (λ h. absurd (false≢true h)) (λ h. absurd (false≢true h)) (λ h. absurd (false≢true h)) (λ h. absurd (false≢true h)) (λ h. absurd (false≢true h)) (λ h. absurd (false≢true h)) (λ h. absurd (false≢true h))
chroma_back deep s true (suc (suc zero)) (suc b) extra depth least most = λ h. absurd (false≢true h)
chroma_back deep s true (suc (suc (suc a))) b extra depth least most = λ h. absurd (false≢true h)
chroma_back deep s false zero zero true depth least most = λ h. absurd (false≢true h)
chroma_back deep s false zero zero false depth least most = by_depth (Back deep s false 0 0 false) depth least most (λ h. refl) (λ h. refl) (λ h. refl) (λ h. absurd (false≢true h)) (λ h. refl) (λ h. absurd (false≢true h)) (λ h. absurd (false≢true h)) (λ h. absurd (false≢true h)) (λ h. refl)
chroma_back deep s false zero (suc b) extra depth least most = λ h. absurd (false≢true h)
chroma_back deep s false (suc a) b extra depth least most = λ h. absurd (false≢true h)

-- the words of the line
abbrev width_word : VideoHead → List ℕ
width_word h = 87 ∷ decimal h.width

abbrev height_word : VideoHead → List ℕ
height_word h = 72 ∷ decimal h.height

abbrev rate_word : VideoHead → List ℕ
rate_word h = 70 ∷ (decimal h.rate ++ 58 ∷ decimal h.scale)

abbrev structure_word : VideoHead → List ℕ
structure_word h = 73 ∷ structure_name h.structure

abbrev aspect_word : VideoHead → List ℕ
aspect_word h = 65 ∷ (decimal h.sar_num ++ 58 ∷ decimal h.sar_den)

abbrev chroma_word : ℕ → VideoHead → List ℕ
chroma_word depth h = 67 ∷ (chroma_name depth h ++ depth_name depth)

abbrev joined : List ℕ → List ℕ → List ℕ → List ℕ → List ℕ → List ℕ → List ℕ
joined a b c d e f = a ++ 32 ∷ (b ++ 32 ∷ (c ++ 32 ∷ (d ++ 32 ∷ (e ++ 32 ∷ f))))

-- the tag of the range, if there is one
abbrev range_words : Option Range → List (List ℕ)
range_words None = []
range_words (Some range.Limited) = codes "XCOLORRANGE=LIMITED" ∷ []
range_words (Some range.Full) = codes "XCOLORRANGE=FULL" ∷ []

abbrev range_tail : Option Range → List ℕ
range_tail r = spaced (range_words r)

-- the header without its line feed
abbrev pub head_line : ℕ → VideoHead → List ℕ
head_line depth h = codes "YUV4MPEG2 " ++ joined (width_word h) (height_word h) (rate_word h) (structure_word h) (aspect_word h) (chroma_word depth h ++ range_tail h.range)

-- three texts, the last two after two bytes
two_behind : (x y : ℕ) (a b r s : List ℕ) → b ++ r ≡ s → (a ++ x ∷ y ∷ b) ++ r ≡ a ++ x ∷ y ∷ s
two_behind x y a b r s e = append_assoc a (x ∷ y ∷ b) r ∙ ap (λ z. a ++ x ∷ y ∷ z) e

one_behind : (x : ℕ) (a b r s : List ℕ) → b ++ r ≡ s → (a ++ x ∷ b) ++ r ≡ a ++ x ∷ s
one_behind x a b r s e = append_assoc a (x ∷ b) r ∙ ap (λ z. a ++ x ∷ z) e

-- all in a row
abbrev in_row : List ℕ → List ℕ → List ℕ → List ℕ → List ℕ → List ℕ → List ℕ → List ℕ → List ℕ
in_row a b c d e f g n = a ++ 32 ∷ 72 ∷ (b ++ 32 ∷ 70 ∷ (c ++ 58 ∷ (d ++ 32 ∷ 73 ∷ (e ++ 32 ∷ 65 ∷ (f ++ 58 ∷ (g ++ 32 ∷ 67 ∷ n))))))

times_row : (c d e f g n : List ℕ) → (c ++ 58 ∷ (d ++ 32 ∷ 73 ∷ (e ++ 32 ∷ 65 ∷ (f ++ 58 ∷ g)))) ++ n ≡ c ++ 58 ∷ (d ++ 32 ∷ 73 ∷ (e ++ 32 ∷ 65 ∷ (f ++ 58 ∷ (g ++ n))))
times_row c d e f g n = one_behind 58 c _ n _ (two_behind 32 73 d _ n _ (two_behind 32 65 e _ n _ (one_behind 58 f g n _ refl)))

parts_row : (a b c d e f g n : List ℕ) →
    (a ++ 32 ∷ 72 ∷ b) ++ (32 ∷ 70 ∷ (((c ++ 58 ∷ d) ++ 32 ∷ 73 ∷ (e ++ 32 ∷ 65 ∷ (f ++ 58 ∷ g))) ++ (32 ∷ 67 ∷ n))) ≡ in_row a b c d e f g n
parts_row a b c d e f g n =
    two_behind 32 72 a b _ _ (ap (λ z. b ++ 32 ∷ 70 ∷ z) (ap (λ z. z ++ (32 ∷ 67 ∷ n)) (append_assoc c (58 ∷ d) (32 ∷ 73 ∷ (e ++ 32 ∷ 65 ∷ (f ++ 58 ∷ g)))) ∙ times_row c d e f g (32 ∷ 67 ∷ n)))

line_row : (a b c d e f g n : List ℕ) → (a ++ 32 ∷ ((72 ∷ b) ++ 32 ∷ ((70 ∷ (c ++ 58 ∷ d)) ++ 32 ∷ ((73 ∷ e) ++ 32 ∷ ((65 ∷ (f ++ 58 ∷ g)) ++ 32 ∷ (67 ∷ n)))))) ++ 10 ∷ [] ≡ in_row a b c d e f g (n ++ 10 ∷ [])
line_row a b c d e f g n =
    two_behind 32 72 a _ _ _ (two_behind 32 70 b _ _ _
    (ap (λ z. z ++ 10 ∷ []) (append_assoc c (58 ∷ d) (32 ∷ 73 ∷ (e ++ 32 ∷ 65 ∷ ((f ++ 58 ∷ g) ++ 32 ∷ 67 ∷ n)))) ∙ one_behind 58 c _ _ _ (two_behind 32 73 d _ _ _ (two_behind 32 65 e _ _ _
    (ap (λ z. z ++ 10 ∷ []) (append_assoc f (58 ∷ g) (32 ∷ 67 ∷ n)) ∙ one_behind 58 f _ _ _ (two_behind 32 67 g n _ _ refl))))))

end_is : (r : Option Range) → range_tail r ++ 10 ∷ [] ≡ range_end r
end_is None = refl
end_is (Some range.Limited) = refl
end_is (Some range.Full) = refl

pub header_parts : (depth : ℕ) (h : VideoHead) → header_text depth h ≡ head_line depth h ++ 10 ∷ []
unfolding header_text sizes_text times_text number_text ratio_text name_text
header_parts depth h =
    let name = chroma_name depth h ++ depth_name depth in
    let a = decimal h.width in
    let b = decimal h.height in
    let tail = range_tail h.range in
    let row = parts_row a b (decimal h.rate) (decimal h.scale) (structure_name h.structure) (decimal h.sar_num) (decimal h.sar_den) ((name ++ tail) ++ 10 ∷ []) in
    let line = line_row a b (decimal h.rate) (decimal h.scale) (structure_name h.structure) (decimal h.sar_num) (decimal h.sar_den) (name ++ tail) in
    let apart : (name ++ tail) ++ 10 ∷ [] ≡ chroma_name depth h ++ (depth_name depth ++ range_end h.range) =
    append_assoc name tail (10 ∷ []) ∙ (ap (λ z. name ++ z) (end_is h.range) ∙ append_assoc (chroma_name depth h) (depth_name depth) (range_end h.range)) in
    rw (← apart) (ap (λ z. codes "YUV4MPEG2 W" ++ z) (row ∙ sym line))

-- the tags, one by one
pub judged_width : (most : ℕ) (t : Tags) (n : ℕ) (value : List ℕ) → t.width ≡ None → size_of value ≡ Some n → judged most t (87 ∷ value) ≡ Ok (record t { width = Some n })
unfolding tagged
judged_width most t n value none is = rw (none, is) refl

pub judged_height : (most : ℕ) (t : Tags) (n : ℕ) (value : List ℕ) → t.height ≡ None → size_of value ≡ Some n → judged most t (72 ∷ value) ≡ Ok (record t { height = Some n })
unfolding tagged
judged_height most t n value none is = rw (none, is) refl

pub judged_rate : (most : ℕ) (t : Tags) (r : ℕ × ℕ) (value : List ℕ) → t.rate ≡ None → ratio_of 4294967295 value ≡ Some r → judged most t (70 ∷ value) ≡ Ok (record t { rate = Some r })
unfolding tagged
judged_rate most t r value none is = rw (none, is) refl

pub judged_structure : (most : ℕ) (t : Tags) (s : ℕ) (value : List ℕ) → t.structure ≡ None → structure_of value ≡ Ok s → judged most t (73 ∷ value) ≡ Ok (record t { structure = Some s })
unfolding tagged
judged_structure most t s value none is = rw (none, is) refl

pub judged_aspect : (most : ℕ) (t : Tags) (r : ℕ × ℕ) (value : List ℕ) → t.aspect ≡ None → ratio_of 65535 value ≡ Some r → judged most t (65 ∷ value) ≡ Ok (record t { aspect = Some r })
unfolding tagged
judged_aspect most t r value none is = rw (none, is) refl

pub judged_chroma : (most : ℕ) (t : Tags) (c : Chroma) (value : List ℕ) → t.chroma ≡ None → chroma_of most value ≡ Some c → judged most t (67 ∷ value) ≡ Ok (record t { chroma = Some c })
unfolding tagged
judged_chroma most t c value none is = rw (none, is) refl

-- each word is without a space
width_plain : (h : VideoHead) → IsHead h → Without 32 (width_word h)
width_plain h k = (refl, digits_without 32 h.width (omega arith) (omega (arith, k.sized.wide)))

height_plain : (h : VideoHead) → IsHead h → Without 32 (height_word h)
height_plain h k = (refl, digits_without 32 h.height (omega arith) (omega (arith, k.sized.high)))

ratio_plain : (b most n d : ℕ) → b < 48 → most < 2 ^ 32 → IsRatio most n d → Without b (decimal n ++ 58 ∷ decimal d)
ratio_plain b most n d low wide r =
    without_both b (decimal n) (58 ∷ decimal d) (digits_without b n low (omega (arith, wide, r.first))) (ne_eqb 58 b (λ e. absurd (omega (arith, e, low))), digits_without b d low (omega (arith, wide, r.second)))

name_cond : (b : ℕ) (c : Bool) (x y : List ℕ) → Without b x → Without b y → Without b (cond c x y)
name_cond b true x y h k = h
name_cond b false x y h k = k

abbrev all_other : ℕ → List ℕ → Bool
all_other b [] = true
all_other b (c ∷ cs) = cond (c == b) false (all_other b cs)

other_by : (b c : ℕ) (cs : List ℕ) (t : Bool) → (c == b) ≡ t → cond t false (all_other b cs) ≡ true → ((c == b) ≡ false) × (all_other b cs ≡ true)
other_by b c cs true e h = absurd (false≢true h)
other_by b c cs false e h = (e, h)

plain : (b : ℕ) (xs : List ℕ) → all_other b xs ≡ true → Without b xs
plain b [] h = tt
plain b (c ∷ cs) h =
    let both = other_by b c cs (c == b) refl h in
    (both.0, plain b cs both.1)

structure_plain : (b s : ℕ) → all_other b (codes "ptb?") ≡ true → Without b (structure_name s)
structure_plain b s h =
    let all = plain b (codes "ptb?") h in
    name_cond b (s == 3) (codes "p") _ (all.0, tt) (name_cond b (s == 1) (codes "t") _ (all.1.0, tt) (name_cond b (s == 2) (codes "b") (codes "?") (all.1.1.0, tt) (all.1.1.1.0, tt)))

siting_plain : (b : ℕ) (s : Option Siting) → all_other b (codes "420jpeg") ≡ true → all_other b (codes "420mpeg2") ≡ true → all_other b (codes "420paldv") ≡ true → Without b (siting_name s)
siting_plain b None p q r = plain b (codes "420jpeg") p
siting_plain b (Some siting.Centre) p q r = plain b (codes "420jpeg") p
siting_plain b (Some siting.Left) p q r = plain b (codes "420mpeg2") q
siting_plain b (Some siting.TopLeft) p q r = plain b (codes "420paldv") r

chroma_plain : (b : ℕ) (planes : Bool) (log2_h log2_v : ℕ) (extra : Bool) (s : Option Siting) → all_other b (codes "444alpha") ≡ true → Without b (siting_name s) → all_other b (codes "422") ≡ true → all_other b (codes "411") ≡ true → all_other b (codes "mono") ≡ true →
    all_other b (codes "444") ≡ true → Without b (name_of_chroma planes log2_h log2_v extra s)
chroma_plain b planes log2_h log2_v extra s p q r i t u =
    name_cond b planes _ (codes "mono") (name_cond b extra (codes "444alpha") _ (plain b (codes "444alpha") p) (name_cond b (log2_v == 1) (siting_name s) _ q (name_cond b (log2_h == 1) (codes "422") _ (plain b (codes "422") r) (name_cond b (log2_h == 2) (codes "411") (codes "444") (plain b (codes "411") i) (plain b (codes "444") u))))) (plain b (codes "mono") t)

deep_plain : (b : ℕ) (named planes : Bool) (log2_h log2_v : ℕ) → all_other b (codes "420p") ≡ true → all_other b (codes "422p") ≡ true → all_other b (codes "444p") ≡ true → all_other b (codes "mono") ≡ true →
    Without b (cond named (cond planes (cond (log2_v == 1) (codes "420p") (cond (log2_h == 1) (codes "422p") (codes "444p"))) (codes "mono")) [])
deep_plain b named planes log2_h log2_v p q r s =
    name_cond b named _ [] (name_cond b planes _ (codes "mono") (name_cond b (log2_v == 1) (codes "420p") _ (plain b (codes "420p") p) (name_cond b (log2_h == 1) (codes "422p") (codes "444p") (plain b (codes "422p") q) (plain b (codes "444p") r))) (plain b (codes "mono") s)) tt

depth_plain : (b depth : ℕ) → all_other b (codes "9") ≡ true → all_other b (codes "10") ≡ true → all_other b (codes "12") ≡ true → all_other b (codes "14") ≡ true → all_other b (codes "16") ≡ true → Without b (depth_name depth)
depth_plain b depth p q r s t =
    name_cond b (depth == 9) (codes "9") _ (plain b (codes "9") p) (name_cond b (depth == 10) (codes "10") _ (plain b (codes "10") q) (name_cond b (depth == 12) (codes "12") _ (plain b (codes "12") r) (name_cond b (depth == 14) (codes "14") _ (plain b (codes "14") s) (name_cond b (depth == 16) (codes "16") [] (plain b (codes "16") t) tt))))

chroma_name_plain : (b depth : ℕ) (h : VideoHead) → Without b (name_of_chroma h.chroma_planes h.log2_h h.log2_v h.extra_plane h.siting) → Without b (deep_name depth h.chroma_planes h.log2_h h.log2_v h.extra_plane) → Without b (depth_name depth) → Without b (chroma_name depth h ++ depth_name depth)
chroma_name_plain b depth h p q r = without_both b (chroma_name depth h) (depth_name depth) (name_cond b (depth == 8) _ _ p q) r

name_plain_32 : (depth : ℕ) (h : VideoHead) → Without 32 (chroma_name depth h ++ depth_name depth)
name_plain_32 depth h = chroma_name_plain 32 depth h (chroma_plain 32 h.chroma_planes h.log2_h h.log2_v h.extra_plane h.siting refl (siting_plain 32 h.siting refl refl refl) refl refl refl refl) (deep_plain 32 (is_named depth h.chroma_planes h.log2_h h.log2_v h.extra_plane) h.chroma_planes h.log2_h h.log2_v refl refl refl refl) (depth_plain 32 depth refl refl refl refl refl)

name_plain_10 : (depth : ℕ) (h : VideoHead) → Without 10 (chroma_name depth h ++ depth_name depth)
name_plain_10 depth h = chroma_name_plain 10 depth h (chroma_plain 10 h.chroma_planes h.log2_h h.log2_v h.extra_plane h.siting refl (siting_plain 10 h.siting refl refl refl) refl refl refl refl) (deep_plain 10 (is_named depth h.chroma_planes h.log2_h h.log2_v h.extra_plane) h.chroma_planes h.log2_h h.log2_v refl refl refl refl) (depth_plain 10 depth refl refl refl refl refl)

-- the tag of the range has a letter of its own, and says the range
range_tags : (r : Option Range) → AreTags (range_words r)
range_tags None = tt
range_tags (Some range.Limited) = (refl, plain 32 (codes "XCOLORRANGE=LIMITED") refl, tt)
range_tags (Some range.Full) = (refl, plain 32 (codes "XCOLORRANGE=FULL") refl, tt)

none_other : (letter : ℕ) (r : Option Range) → (88 == letter) ≡ false → values_of letter (range_words r) ≡ []
none_other letter None other = refl
none_other letter (Some range.Limited) other = rw other refl
none_other letter (Some range.Full) other = rw other refl

range_told : (deep : Bool) (r : Option Range) → Perhaps (λ value x. range_of deep value ≡ Some x) (ranging deep (values_of 88 (range_words r))) (cond deep r None)
range_told true None = refl
range_told true (Some range.Limited) = (range.Limited, refl, refl)
range_told true (Some range.Full) = (range.Full, refl, refl)
range_told false None = refl
range_told false (Some range.Limited) = refl
range_told false (Some range.Full) = refl

only_once : {X : Type 0} (says : List ℕ → X → Type 0) (value : List ℕ) (values : List (List ℕ)) (x : X) → values ≡ [] → says value x → Once says (value ∷ values) x
only_once says value values x none said = rw none said

only_most : {X : Type 0} (says : List ℕ → X → Type 0) (d : X) (value : List ℕ) (values : List (List ℕ)) (x : X) → values ≡ [] → says value x → AtMostOnce says d (value ∷ values) x
only_most says d value values x none said = rw none said

-- the tags of the line
abbrev head_tags : ℕ → VideoHead → List (List ℕ)
head_tags depth h = width_word h ∷ height_word h ∷ rate_word h ∷ structure_word h ∷ aspect_word h ∷ chroma_word depth h ∷ range_words h.range

are_tags : (depth : ℕ) (h : VideoHead) → IsHead h → AreTags (head_tags depth h)
are_tags depth h k =
    let rate : Without 32 (rate_word h) = (refl, ratio_plain 32 4294967295 h.rate h.scale (omega arith) (omega arith) k.rate) in
    let structure : Without 32 (structure_word h) = (refl, structure_plain 32 h.structure refl) in
    let aspect : Without 32 (aspect_word h) = (refl, ratio_plain 32 65535 h.sar_num h.sar_den (omega arith) (omega arith) k.aspect) in
    let chroma : Without 32 (chroma_word depth h) = (refl, name_plain_32 depth h) in
    (refl, width_plain h k, (refl, height_plain h k, (refl, rate, (refl, structure, (refl, aspect, (refl, chroma, range_tags h.range))))))

pub line_said : (most depth : ℕ) (h : VideoHead) → IsHead h → IsNamed depth h → IsHeaderLine most (head_line depth h) depth (as_said most depth h)
line_said most depth h k named = record {
  tags = head_tags depth h;
  are = are_tags depth h k;
  spelled = refl;
  width = only_once SaysSize (decimal h.width) (values_of 87 (range_words h.range)) h.width (none_other 87 h.range refl) (size_back h.width k.sized.some_wide k.sized.wide);
  height = only_once SaysSize (decimal h.height) (values_of 72 (range_words h.range)) h.height (none_other 72 h.range refl) (size_back h.height k.sized.some_high k.sized.high);
  rate = only_most (SaysRatio 4294967295) (0, 0) (decimal h.rate ++ 58 ∷ decimal h.scale) (values_of 70 (range_words h.range)) (h.rate, h.scale) (none_other 70 h.range refl) (ratio_back 4294967295 h.rate h.scale (omega arith) k.rate);
  structure = only_most SaysStructure 0 (structure_name h.structure) (values_of 73 (range_words h.range)) h.structure (none_other 73 h.range refl) (structure_back h.structure k.structure);
  aspect = only_most (SaysRatio 65535) (0, 0) (decimal h.sar_num ++ 58 ∷ decimal h.sar_den) (values_of 65 (range_words h.range)) (h.sar_num, h.sar_den) (none_other 65 h.range refl) (ratio_back 65535 h.sar_num h.sar_den (omega arith) k.aspect);
  chroma = only_most (SaysChroma most) (chroma_planes 1 1) (chroma_name depth h ++ depth_name depth) (values_of 67 (range_words h.range)) (chroma_in depth (as_said most depth h)) (none_other 67 h.range refl) (chroma_back (nat_lt 8 most) h.siting h.chroma_planes h.log2_h h.log2_v h.extra_plane depth named.least named.most named.name);
  range = range_told (nat_lt 8 most) h.range;
}

-- the line has no line feed
spaced_without : (a b : List ℕ) → Without 10 a → Without 10 b → Without 10 (a ++ 32 ∷ b)
spaced_without a b h k = without_both 10 a (32 ∷ b) h (refl, k)

tail_single : (r : Option Range) → Without 10 (range_tail r)
tail_single None = tt
tail_single (Some range.Limited) = plain 10 (codes " XCOLORRANGE=LIMITED") refl
tail_single (Some range.Full) = plain 10 (codes " XCOLORRANGE=FULL") refl

pub line_single : (depth : ℕ) (h : VideoHead) → IsHead h → Without 10 (head_line depth h)
line_single depth h k =
    without_both 10 (codes "YUV4MPEG2 ") (joined (width_word h) (height_word h) (rate_word h) (structure_word h) (aspect_word h) (chroma_word depth h ++ range_tail h.range)) (plain 10 (codes "YUV4MPEG2 ") refl)
    (spaced_without (width_word h) _ (refl, digits_without 10 h.width (omega arith) (omega (arith, k.sized.wide)))
    (spaced_without (height_word h) _ (refl, digits_without 10 h.height (omega arith) (omega (arith, k.sized.high)))
    (spaced_without (rate_word h) _ (refl, ratio_plain 10 4294967295 h.rate h.scale (omega arith) (omega arith) k.rate)
    (spaced_without (structure_word h) _ (refl, structure_plain 10 h.structure refl)
    (spaced_without (aspect_word h) _ (refl, ratio_plain 10 65535 h.sar_num h.sar_den (omega arith) (omega arith) k.aspect)
    (without_both 10 (chroma_word depth h) (range_tail h.range) (refl, name_plain_10 depth h) (tail_single h.range)))))))

-- the line is short
spaced_short : (a b : List ℕ) (m n : ℕ) → length a ≤ m → length b ≤ n → length (a ++ 32 ∷ b) ≤ m + n + 1
spaced_short a b m n h k = omega (arith, length-append a (32 ∷ b), h, k)

number_short : (n : ℕ) → n < 2 ^ 32 → length (decimal n) ≤ 10
number_short n small = length-decimal-le 10 n (omega arith) (omega (arith, small)) (omega (arith, small))

ratio_short : (n d : ℕ) → n < 2 ^ 32 → d < 2 ^ 32 → length (decimal n ++ 58 ∷ decimal d) ≤ 21
ratio_short n d p q = omega (arith, length-append (decimal n) (58 ∷ decimal d), number_short n p, number_short d q)

cond_short : (b : Bool) (x y : List ℕ) (n : ℕ) → length x ≤ n → length y ≤ n → length (cond b x y) ≤ n
cond_short true x y n h k = h
cond_short false x y n h k = k

structure_short : (s : ℕ) → length (structure_name s) ≤ 1
structure_short s = cond_short (s == 3) (codes "p") _ 1 (omega arith) (cond_short (s == 1) (codes "t") _ 1 (omega arith) (cond_short (s == 2) (codes "b") (codes "?") 1 (omega arith) (omega arith)))

siting_short : (s : Option Siting) → length (siting_name s) ≤ 8
siting_short None = omega arith
siting_short (Some siting.Centre) = omega arith
siting_short (Some siting.Left) = omega arith
siting_short (Some siting.TopLeft) = omega arith

chroma_short : (planes : Bool) (log2_h log2_v : ℕ) (extra : Bool) (s : Option Siting) → length (name_of_chroma planes log2_h log2_v extra s) ≤ 8
chroma_short planes log2_h log2_v extra s =
    cond_short planes _ (codes "mono") 8 (cond_short extra (codes "444alpha") _ 8 (omega arith) (cond_short (log2_v == 1) (siting_name s) _ 8 (siting_short s) (cond_short (log2_h == 1) (codes "422") _ 8 (omega arith) (cond_short (log2_h == 2) (codes "411") (codes "444") 8 (omega arith) (omega arith))))) (omega arith)

tail_short : (r : Option Range) → length (range_tail r) ≤ 20
tail_short None = omega arith
tail_short (Some range.Limited) = omega arith
tail_short (Some range.Full) = omega arith

deep_short : (named planes : Bool) (log2_h log2_v : ℕ) → length (cond named (cond planes (cond (log2_v == 1) (codes "420p") (cond (log2_h == 1) (codes "422p") (codes "444p"))) (codes "mono")) []) ≤ 8
deep_short named planes log2_h log2_v =
    cond_short named _ [] 8 (cond_short planes _ (codes "mono") 8 (cond_short (log2_v == 1) (codes "420p") _ 8 (omega arith) (cond_short (log2_h == 1) (codes "422p") (codes "444p") 8 (omega arith) (omega arith))) (omega arith)) (omega arith)

depth_short : (depth : ℕ) → length (depth_name depth) ≤ 2
depth_short depth =
    cond_short (depth == 9) (codes "9") _ 2 (omega arith) (cond_short (depth == 10) (codes "10") _ 2 (omega arith) (cond_short (depth == 12) (codes "12") _ 2 (omega arith) (cond_short (depth == 14) (codes "14") _ 2 (omega arith) (cond_short (depth == 16) (codes "16") [] 2 (omega arith) (omega arith)))))

name_short : (depth : ℕ) (h : VideoHead) → length (chroma_name depth h ++ depth_name depth) ≤ 10
name_short depth h =
    let front : length (chroma_name depth h) ≤ 8 = cond_short (depth == 8) _ _ 8 (chroma_short h.chroma_planes h.log2_h h.log2_v h.extra_plane h.siting) (deep_short (is_named depth h.chroma_planes h.log2_h h.log2_v h.extra_plane) h.chroma_planes h.log2_h h.log2_v) in
    omega (arith, length-append (chroma_name depth h) (depth_name depth), front, depth_short depth)

ten_more : (xs : List ℕ) → length xs ≤ 104 → length (codes "YUV4MPEG2 " ++ xs) ≤ 1024
ten_more xs h = omega (arith, length-append (codes "YUV4MPEG2 ") xs, h)

pub line_short : (depth : ℕ) (h : VideoHead) → IsHead h → length (head_line depth h) ≤ 1024
line_short depth h k =
    let wide = number_short h.width (omega (arith, k.sized.wide)) in
    let high = number_short h.height (omega (arith, k.sized.high)) in
    let rate = ratio_short h.rate h.scale (omega (arith, k.rate.first)) (omega (arith, k.rate.second)) in
    let aspect = ratio_short h.sar_num h.sar_den (omega (arith, k.aspect.first)) (omega (arith, k.aspect.second)) in
    let chroma = name_short depth h in
    let structure = structure_short h.structure in
    let last = chroma_word depth h ++ range_tail h.range in
    let t5 = aspect_word h ++ 32 ∷ last in
    let t4 = structure_word h ++ 32 ∷ t5 in
    let t3 = rate_word h ++ 32 ∷ t4 in
    let t2 = height_word h ++ 32 ∷ t3 in
    let six : length (chroma_word depth h ++ range_tail h.range) ≤ 31 = omega (arith, length-append (chroma_word depth h) (range_tail h.range), chroma, tail_short h.range) in
    let five : length (aspect_word h ++ 32 ∷ last) ≤ 54 = spaced_short (aspect_word h) last 22 31 (omega (arith, aspect)) six in
    let four : length (structure_word h ++ 32 ∷ t5) ≤ 57 = spaced_short (structure_word h) t5 2 54 (omega (arith, structure)) five in
    let three : length (rate_word h ++ 32 ∷ t4) ≤ 80 = spaced_short (rate_word h) t4 22 57 (omega (arith, rate)) four in
    let two : length (height_word h ++ 32 ∷ t3) ≤ 92 = spaced_short (height_word h) t3 11 80 (omega (arith, high)) three in
    let one : length (width_word h ++ 32 ∷ t2) ≤ 104 = spaced_short (width_word h) t2 11 92 (omega (arith, wide)) two in
    ten_more (width_word h ++ 32 ∷ t2) one
