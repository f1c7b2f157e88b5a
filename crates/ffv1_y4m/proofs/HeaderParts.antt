-- The first part that a header of an image lacks is where reading it meets `Header`.
use Rattle.std.proofs.Common.{◌≡◌, ◌⊎◌, ℕ, ◌+◌, ◌-◌, ◌^◌, ◌<◌, ◌≤◌, ◌==◌, not, nat_le, zero, suc, Bool, true, false, cond, Option, Some, None, List, [], ◌∷◌, ◌++◌, length, codes, decimal, Ok, Err, inl, inr, refl, ap, ◌∙◌, sym, subst, append_assoc, length-append, arith}
use Rattle.std.proofs.lemmas.Bool.{true≢false, false≢true}
use Rattle.std.specs.Cmp.Lexicographic.{same_text}
use Rattle.std.specs.List.{position}
use Rattle.ffv1_y4m.specs.declared.fault.Fault.{Fault}
use Rattle.ffv1_y4m.specs.declared.fault.Fault.TheVariants as fault
use Rattle.ffv1_y4m.specs.declared.head.DeepHead.{DeepHead}
use Rattle.ffv1_y4m.specs.Header.{is_text, line_read, size_of}
use Rattle.ffv1_y4m.specs.Ppm.{depth_of_line, greatest_read, image_head, image_header, lined_header, magic_read, maximum_read, maximum_room, size_read, sized_head, sizes_of, some_head, spaced_head, spaced_header}
use Rattle.ffv1_y4m.specs.Sequence.{Outcome, Reading, ◌>>=◌, ◌then◌, give}
use Rattle.ffv1_y4m.specs.Spaces.{blank_read, blank_room, byte_read, is_break, is_white, spaced_word, word_read}
use Rattle.ffv1_y4m.specs.VideoHead.{colour_head}
use Rattle.ffv1_y4m.specs.ImageFaults.{ImageHeaderFault, IsGreatest, IsGreatestLine, IsGreatestWord, IsMagicLine, IsMagicWord, IsSizeWord, IsSizesLine, LacksPart, header_parts, lined_parts, parts_of, spaced_parts}
use Rattle.ffv1_y4m.proofs.AnswerParts.{is_fault, is_some, rest_in, value_in}
use Rattle.ffv1_y4m.proofs.CanonicalLine.{are_digits}
use Rattle.ffv1_y4m.proofs.HeaderFaults.{long_is, same_fault}
use Rattle.ffv1_y4m.proofs.ImagesRead.{SizesTold, depth_read, maximum_told, sizes_by, size_read as size_spelled}
use Rattle.ffv1_y4m.proofs.ImageTexts.{depth_said, second_found, sizes_found, small_top, third_found}
use Rattle.ffv1_y4m.proofs.Lines.{line_local, line_was}
use Rattle.ffv1_y4m.proofs.PpmHeads.{depth_is_named}
use Rattle.ffv1_y4m.proofs.SpacedHeaders.{greatest_found, made_told, magic_found, magic_told, size_found, short_decimal}

-- ---- each fault is `Header`

AllHeader : {X : Type 0} → Reading X → Type 0
AllHeader r = (text : List ℕ) (f : Fault) (rest : List ℕ) → r text ≡ Err (f, rest) → f ≡ fault.Header

given_header : {X : Type 0} (x : X) → AllHeader (give x)
unfolding AllHeader
given_header x = λ text f rest e. absurd (false≢true (ap is_fault e))

header_next : {X Y : Type 0} (o : Outcome X) (next : X → Reading Y) (f : Fault) (rest : List ℕ) → ((g : Fault) (left : List ℕ) → o ≡ Err (g, left) → g ≡ fault.Header) → ((x : X) (text : List ℕ) (g : Fault) (left : List ℕ) → next x text ≡ Err (g, left) → g ≡ fault.Header) →
    (o >>= λ p. next p.0 p.1) ≡ Err (f, rest) → f ≡ fault.Header
header_next (Ok p) next f rest a b e = b p.0 p.1 f rest e
header_next (Err (g, left)) next f rest a b e = sym (same_fault g f left rest e).0 ∙ a g left refl

header_then : {X Y : Type 0} (r : Reading X) (next : X → Reading Y) → AllHeader r → ((x : X) → AllHeader (next x)) → AllHeader (r then next)
unfolding AllHeader
header_then r next a b = λ text f rest e. header_next (r text) next f rest (λ g left h. a text g left h) (λ x t g left h. b x t g left h) e

this_header : {X : Type 0} (f : Fault) (text rest : List ℕ) → ◌≡◌ {A = Outcome X} (Err (fault.Header, text)) (Err (f, rest)) → f ≡ fault.Header
this_header f text rest e = sym (same_fault fault.Header f text rest e).0

byte_header : AllHeader byte_read
unfolding AllHeader
byte_header [] f rest e = this_header f [] rest e
byte_header (c ∷ cs) f rest e = absurd (false≢true (ap is_fault e))

word_by : (b : Bool) (word cs : List ℕ) (more : Outcome (List ℕ)) (f : Fault) (rest : List ℕ) → (more ≡ Err (f, rest) → f ≡ fault.Header) → cond b (Ok (word, cs)) more ≡ Err (f, rest) → f ≡ fault.Header
word_by true word cs more f rest h e = absurd (false≢true (ap is_fault e))
word_by false word cs more f rest h e = h e

word_header : (n : ℕ) (word text : List ℕ) (f : Fault) (rest : List ℕ) → word_read n word text ≡ Err (f, rest) → f ≡ fault.Header
unfolding word_read
word_header zero word text f rest e = this_header f text rest e
word_header (suc n) word [] f rest e = this_header f [] rest e
word_header (suc n) word (c ∷ cs) f rest e = word_by (is_white c) word cs (word_read n (word ++ c ∷ []) cs) f rest (λ h. word_header n (word ++ c ∷ []) cs f rest h) e

blank_by : (b d : Bool) (c : ℕ) (cs : List ℕ) (one two : Outcome ℕ) (f : Fault) (rest : List ℕ) → (one ≡ Err (f, rest) → f ≡ fault.Header) → (two ≡ Err (f, rest) → f ≡ fault.Header) → cond b one (cond d two (Ok (c, cs))) ≡ Err (f, rest) → f ≡ fault.Header
blank_by true d c cs one two f rest h k e = h e
blank_by false true c cs one two f rest h k e = k e
blank_by false false c cs one two f rest h k e = absurd (false≢true (ap is_fault e))

blank_header : (n : ℕ) (inside : Bool) (text : List ℕ) (f : Fault) (rest : List ℕ) → blank_read n inside text ≡ Err (f, rest) → f ≡ fault.Header
unfolding blank_read
blank_header zero inside text f rest e = this_header f text rest e
blank_header (suc n) inside [] f rest e = this_header f [] rest e
blank_header (suc n) true (c ∷ cs) f rest e = blank_header n (not (is_break c)) cs f rest e
blank_header (suc n) false (c ∷ cs) f rest e =
    blank_by (is_white c) (c == 35) c cs (blank_read n false cs) (blank_read n true cs) f rest (λ h. blank_header n false cs f rest h) (λ h. blank_header n true cs f rest h) e

some_header : (o : Option DeepHead) → AllHeader (some_head o)
unfolding AllHeader
some_header None = λ text f rest e. this_header f text rest e
some_header (Some h) = λ text f rest e. absurd (false≢true (ap is_fault e))

spaced_word_header : (most : ℕ) → AllHeader (spaced_word most)
unfolding AllHeader
spaced_word_header most = header_then (blank_read blank_room false) (λ c. word_read most (c ∷ [])) (λ text f rest e. blank_header blank_room false text f rest e) (λ c text f rest e. word_header most (c ∷ []) text f rest e)

magic_header : AllHeader magic_read
unfolding AllHeader
magic_header = header_then (byte_read then λ p. word_read 2 (p ∷ [])) (λ word. give (is_text word (codes "P6"))) (header_then byte_read (λ p. word_read 2 (p ∷ [])) byte_header (λ p text f rest e. word_header 2 (p ∷ []) text f rest e)) (λ word. given_header (is_text word (codes "P6")))

size_header : AllHeader size_read
size_header = header_then (spaced_word 4) (λ word. give (size_of word)) (spaced_word_header 4) (λ word. given_header (size_of word))

greatest_header : (most : ℕ) → AllHeader (greatest_read most)
greatest_header most = header_then (spaced_word 5) (λ word. give (depth_of_line most word)) (spaced_word_header 5) (λ word. given_header (depth_of_line most word))

line_header : (most : ℕ) → AllHeader (line_read most)
unfolding AllHeader
line_header most = λ text f rest e. long_is most text f rest e

maximum_header : (most : ℕ) → AllHeader (maximum_read most)
maximum_header most = header_then (line_read (maximum_room most)) (λ line. give (depth_of_line most line)) (line_header (maximum_room most)) (λ line. given_header (depth_of_line most line))

spaced_all : (most : ℕ) → AllHeader (spaced_header most)
spaced_all most =
    header_then magic_read _ magic_header (λ magic. header_then size_read _ size_header (λ width. header_then size_read _ size_header (λ height. header_then (greatest_read most) _ (greatest_header most) (λ depth. some_header (spaced_head magic width height depth)))))

lined_all : (most : ℕ) → AllHeader (lined_header most)
lined_all most = header_then (line_read 3) _ (line_header 3) (λ magic. header_then (line_read 10) _ (line_header 10) (λ sizes. header_then (maximum_read most) _ (maximum_header most) (λ depth. some_header (image_head magic sizes depth))))

-- ---- a part and what reads it

pub record Delimits {X : Type 0} (IsPart : List ℕ → Type 0) (r : Reading X) (Good : X → Type 0) : Type 0 where
  pub found : (part rest : List ℕ) → IsPart part → (x : X) × Good x × (r (part ++ rest) ≡ Ok (x, rest))
  pub told : (text : List ℕ) (x : X) (rest : List ℕ) → r text ≡ Ok (x, rest) → Good x → (part : List ℕ) × IsPart part × (text ≡ part ++ rest)
  pub decided : (x : X) → Good x ⊎ (Good x → ⊥)

record Got {X : Type 0} (IsPart : List ℕ → Type 0) (r : Reading X) (Good : X → Type 0) (text : List ℕ) : Type 0 where
  x : X
  rest : List ℕ
  part : List ℕ
  good : Good x
  is : r text ≡ Ok (x, rest)
  there : IsPart part
  whole : text ≡ part ++ rest

abbrev Missing : (List ℕ → Type 0) → List ℕ → Type 0
Missing IsPart text = (part rest : List ℕ) → IsPart part → text ≡ part ++ rest → ⊥

-- what is there is read, so what is read otherwise is missing
missing_by : {X : Type 0} (IsPart : List ℕ → Type 0) (r : Reading X) (Good : X → Type 0) (d : Delimits IsPart r Good) (text : List ℕ) (o : Outcome X) → r text ≡ o → Got IsPart r Good text ⊎ (Missing IsPart text × ((x : X) (rest : List ℕ) → o ≡ Ok (x, rest) → Good x → ⊥))
missing_by IsPart r Good d text (Err e) is = inr (λ part rest p whole. false≢true (ap is_fault (sym (d.found part rest p).2 ∙ (ap r (sym whole) ∙ is))), λ x rest h. absurd (true≢false (ap is_fault h)))
missing_by {X = X} IsPart r Good d text (Ok (x, rest)) is = elim (d.decided x) [
  | inl good ↦
      let t = d.told text x rest is good in
      inl (record { x = x; rest = rest; part = t.0; good = good; is = is; there = t.1; whole = t.2 })
  | inr bad ↦ inr (
    λ part left p whole.
        let k = d.found part left p in
        let same : ◌≡◌ {A = Outcome X} (Ok (k.0, left)) (Ok (x, rest)) = sym k.2 ∙ (ap r (sym whole) ∙ is) in
        bad (subst Good (ap (value_in x) same) k.1),
    λ y left h good. bad (subst Good (ap (value_in x) (sym h)) good),
  )
]

abbrev pub Refuses : {X : Type 0} → Reading X → List ℕ → Type 0
Refuses r text = (f : Fault) × (rest : List ℕ) × (r text ≡ Err (f, rest))

-- the first part that is missing
known_then : {X Y : Type 0} (IsPart : List ℕ → Type 0) (parts : List (List ℕ → Type 0)) (r : Reading X) (Good : X → Type 0) (next : X → Reading Y) (d : Delimits IsPart r Good) → ((x : X) (rest : List ℕ) → Good x → Refuses (next x) rest → (m : ℕ) × LacksPart parts rest m) →
    (text : List ℕ) → Refuses (r then next) text → (n : ℕ) × LacksPart (IsPart ∷ parts) text n
known_then IsPart parts r Good next d more text refused = elim (missing_by IsPart r Good d text (r text) refl) [
  | inl got ↦
      let k = more got.x got.rest got.good (refused.0, refused.1, sym (rw got.is refl) ∙ refused.2) in
      (length got.part + k.0, inr (got.part, got.rest, got.there, got.whole, k.0, k.1, refl))
  | inr none ↦ (0, inl (none.0, refl))
]

fails_by : {X Y : Type 0} (o : Outcome X) (next : X → Reading Y) → ((x : X) (rest : List ℕ) → o ≡ Ok (x, rest) → Refuses (next x) rest) → (f : Fault) × (rest : List ℕ) × ((o >>= λ p. next p.0 p.1) ≡ Err (f, rest))
fails_by (Ok p) next more = more p.0 p.1 refl
fails_by (Err e) next more = (e.0, e.1, refl)

-- a reading that always refuses
fails_then : {X Y : Type 0} (r : Reading X) (next : X → Reading Y) → ((x : X) (rest : List ℕ) → Refuses (next x) rest) → (text : List ℕ) → Refuses (r then next) text
fails_then r next more text = fails_by (r text) next (λ x rest h. more x rest)

-- and the other way round
refused_then : {X Y : Type 0} (IsPart : List ℕ → Type 0) (parts : List (List ℕ → Type 0)) (r : Reading X) (Good : X → Type 0) (next : X → Reading Y) (d : Delimits IsPart r Good) → ((x : X) (rest : List ℕ) → (Good x → ⊥) → Refuses (next x) rest) →
    ((x : X) (rest : List ℕ) (m : ℕ) → Good x → LacksPart parts rest m → Refuses (next x) rest) → (text : List ℕ) (n : ℕ) → LacksPart (IsPart ∷ parts) text n → Refuses (r then next) text
refused_then IsPart parts r Good next d bad more text n (inl (none, at)) = fails_by (r text) next (λ x rest h. elim (d.decided x) [
  | inl good ↦ let t = d.told text x rest h good in absurd (none t.0 rest t.1 t.2)
  | inr not ↦ bad x rest not
])
refused_then IsPart parts r Good next d bad more text n (inr (part, rest, is, whole, m, lacks, at)) =
    let k = d.found part rest is in
    let refused = more k.0 rest m k.1 lacks in
    let read : r text ≡ Ok (k.0, rest) = ap r whole ∙ k.2 in
    (refused.0, refused.1, rw read refused.2)

-- one place
abbrev AreDelimited : List (List ℕ → Type 0) → Type 0
AreDelimited [] = Unit {0}
AreDelimited (IsPart ∷ parts) = ((p q u v : List ℕ) → IsPart p → IsPart q → p ++ u ≡ q ++ v → u ≡ v) × AreDelimited parts

one_rest : {X : Type 0} (IsPart : List ℕ → Type 0) (r : Reading X) (Good : X → Type 0) → Delimits IsPart r Good → (p q u v : List ℕ) → IsPart p → IsPart q → p ++ u ≡ q ++ v → u ≡ v
one_rest IsPart r Good d p q u v a b same =
    let one = d.found p u a in
    let other = d.found q v b in
    ap rest_in (sym one.2 ∙ (ap r same ∙ other.2))

lacks_once : (parts : List (List ℕ → Type 0)) → AreDelimited parts → (text : List ℕ) (m n : ℕ) → LacksPart parts text m → LacksPart parts text n → m ≡ n
lacks_once [] are text m n h k = absurd h
lacks_once (IsPart ∷ parts) are text m n (inl (none, at)) (inl (other, there)) = at ∙ sym there
lacks_once (IsPart ∷ parts) are text m n (inl (none, at)) (inr k) = absurd (none k.0 k.1 k.2 k.3)
lacks_once (IsPart ∷ parts) are text m n (inr k) (inl (none, at)) = absurd (none k.0 k.1 k.2 k.3)
lacks_once (IsPart ∷ parts) are text m n (inr (p, u, a, is, i, fails, at)) (inr (q, v, b, too, j, lacks, there)) =
    let same : u ≡ v = are.0 p q u v a b (sym is ∙ too) in
    let rest : i ≡ j = lacks_once parts are.1 v i j (subst (λ z. LacksPart parts z i) same fails) lacks in
    let long : length (p ++ u) ≡ length (q ++ v) = ap (λ z. length z) (sym is ∙ too) in
    let tails : length u ≡ length v = ap (λ z. length z) same in
    omega (arith, at, there, rest, long, tails, length-append p u, length-append q v)

-- ---- the parts of a header as Netpbm writes it

bool_decided : (b : Bool) → (b ≡ true) ⊎ (b ≡ true → ⊥)
bool_decided true = inl refl
bool_decided false = inr (λ h. false≢true h)

abbrev Given : {X : Type 0} → Option X → Type 0
Given {X = X} o = (x : X) × (o ≡ Some x)

given_decided : {X : Type 0} (o : Option X) → Given o ⊎ (Given o → ⊥)
given_decided (Some x) = inl (x, refl)
given_decided None = inr (λ g. false≢true (ap is_some g.1))

magic_word_told : (text : List ℕ) (b : Bool) (rest : List ℕ) → magic_read text ≡ Ok (b, rest) → b ≡ true → (part : List ℕ) × IsMagicWord part × (text ≡ part ++ rest)
magic_word_told text b rest h good =
    let t = magic_told b text rest h in
    (codes "P6" ++ t.last ∷ [], (t.last, t.white, refl), t.whole ∙ ap (λ z. z ++ t.last ∷ rest) (same_text t.word (codes "P6") (sym (t.is ∙ good))))

magic_word_found : (part rest : List ℕ) → IsMagicWord part → (b : Bool) × (b ≡ true) × (magic_read (part ++ rest) ≡ Ok (b, rest))
magic_word_found part rest p = (true, refl, ap (λ z. magic_read (z ++ rest)) p.2 ∙ magic_found p.0 rest p.1)

magic_word : Delimits IsMagicWord magic_read (λ b. b ≡ true)
magic_word = record { found = magic_word_found; told = magic_word_told; decided = bool_decided }

number_whole : (part gap number rest : List ℕ) (last : ℕ) → part ≡ gap ++ (number ++ last ∷ []) → part ++ rest ≡ gap ++ (number ++ last ∷ rest)
number_whole part gap number rest last is = ap (λ z. z ++ rest) is ∙ (append_assoc gap (number ++ last ∷ []) rest ∙ ap (λ z. gap ++ z) (append_assoc number (last ∷ []) rest))

size_word_found : (part rest : List ℕ) → IsSizeWord part → (o : Option ℕ) × Given o × (size_read (part ++ rest) ≡ Ok (o, rest))
size_word_found part rest p = (Some p.number, (p.number, refl), ap size_read (number_whole part p.gap (decimal p.number) rest p.last p.whole) ∙ size_found p.gap p.number p.last rest p.blank p.short p.good.0 p.good.1 p.white)

number_there : (text gap word number rest : List ℕ) (last : ℕ) → text ≡ gap ++ (word ++ last ∷ rest) → word ≡ number → text ≡ (gap ++ (number ++ last ∷ [])) ++ rest
number_there text gap word number rest last whole is =
    whole ∙ (ap (λ z. gap ++ (z ++ last ∷ rest)) is ∙ sym (append_assoc gap (number ++ last ∷ []) rest ∙ ap (λ z. gap ++ z) (append_assoc number (last ∷ []) rest)))

size_word_told : (text : List ℕ) (o : Option ℕ) (rest : List ℕ) → size_read text ≡ Ok (o, rest) → Given o → (part : List ℕ) × IsSizeWord part × (text ≡ part ++ rest)
size_word_told text o rest h good =
    let t = made_told 4 size_of o text rest h in
    let s = size_spelled t.word good.0 (t.is ∙ good.1) in (
      t.told.gap ++ (decimal good.0 ++ t.told.last ∷ []),
      record { gap = t.told.gap; number = good.0; last = t.told.last; blank = t.told.blank; short = t.told.short; good = (s.some, s.most); white = t.told.white; whole = refl },
      number_there text t.told.gap t.word (decimal good.0) rest t.told.last t.told.whole s.spelled,
    )

size_word : Delimits IsSizeWord size_read Given
size_word = record { found = size_word_found; told = size_word_told; decided = given_decided }

room_few : (b : Bool) (n : ℕ) → n < cond b 4 6 → n ≤ 5
room_few true n h = omega (arith, h)
room_few false n h = omega (arith, h)

greatest_word_found : (most : ℕ) (part rest : List ℕ) → IsGreatestWord most part → (o : Option ℕ) × Given o × (greatest_read most (part ++ rest) ≡ Ok (o, rest))
greatest_word_found most part rest p =
    let depth = p.good.0 in
    let g = p.good.1 in
    let says = depth_said most depth 1 1 (g.named 1 1) g.small in
    let deep : depth ≤ 16 = (g.named 1 1).most in
    let small : 2 ^ depth - 1 < 2 ^ 32 = small_top depth deep in
    let spelled : part ≡ p.gap ++ (decimal (2 ^ depth - 1) ++ p.last ∷ []) = p.whole ∙ ap (λ z. p.gap ++ (decimal z ++ p.last ∷ [])) p.good.2 in (
      Some depth,
      (depth, refl),
      ap (greatest_read most) (number_whole part p.gap (decimal (2 ^ depth - 1)) rest p.last spelled)
          ∙ greatest_found most depth p.gap (decimal (2 ^ depth - 1)) p.last rest p.blank p.short (are_digits (2 ^ depth - 1) small) (short_decimal (2 ^ depth - 1) small) (room_few (nat_le most 8) (length (decimal (2 ^ depth - 1))) says.short) says.is p.white,
    )

greatest_of : (most : ℕ) (word : List ℕ) (depth : ℕ) → depth_of_line most word ≡ Some depth → IsGreatest most depth
greatest_of most word depth is =
    let n = depth_is_named most word depth (sym is) in
    record { named = n.1; small = n.0 }

greatest_word_told : (most : ℕ) (text : List ℕ) (o : Option ℕ) (rest : List ℕ) → greatest_read most text ≡ Ok (o, rest) → Given o → (part : List ℕ) × IsGreatestWord most part × (text ≡ part ++ rest)
greatest_word_told most text o rest h good =
    let t = made_told 5 (depth_of_line most) o text rest h in
    let is : depth_of_line most t.word ≡ Some good.0 = t.is ∙ good.1 in (
      t.told.gap ++ (decimal (2 ^ good.0 - 1) ++ t.told.last ∷ []),
      record { gap = t.told.gap; number = 2 ^ good.0 - 1; last = t.told.last; blank = t.told.blank; short = t.told.short; good = (good.0, greatest_of most t.word good.0 is, refl); white = t.told.white; whole = refl },
      number_there text t.told.gap t.word (decimal (2 ^ good.0 - 1)) rest t.told.last t.told.whole (depth_read most t.word good.0 is),
    )

greatest_word : (most : ℕ) → Delimits (IsGreatestWord most) (greatest_read most) Given
greatest_word most = record { found = greatest_word_found most; told = greatest_word_told most; decided = given_decided }

spaced_good : (magic : Bool) (width height depth : Option ℕ) (rest : List ℕ) → magic ≡ true → Given width → Given height → Given depth → Refuses (some_head (spaced_head magic width height depth)) rest → ⊥
spaced_good magic width height depth rest a b c d refused =
    let is : some_head (spaced_head magic width height depth) rest ≡ Ok (record { head = colour_head b.0 c.0; depth = d.0 }, rest) = rw (a, b.1, c.1, d.1) refl in
    false≢true (ap is_fault (sym is ∙ refused.2))

spaced_known : (most : ℕ) (text : List ℕ) → Refuses (spaced_header most) text → (n : ℕ) × LacksPart (spaced_parts most) text n
spaced_known most text refused =
    known_then IsMagicWord (IsSizeWord ∷ IsSizeWord ∷ IsGreatestWord most ∷ []) magic_read (λ b. b ≡ true) _ magic_word
    (λ magic one a again. known_then IsSizeWord (IsSizeWord ∷ IsGreatestWord most ∷ []) size_read Given _ size_word
    (λ width two b more. known_then IsSizeWord (IsGreatestWord most ∷ []) size_read Given _ size_word
    (λ height three c on. known_then (IsGreatestWord most) [] (greatest_read most) Given _ (greatest_word most)
    (λ depth four d last. absurd (spaced_good magic width height depth four a b c d last)) three on) two more) one again) text refused

-- a header of which one part is not good is refused
none_refused : (o : Option DeepHead) (text : List ℕ) → o ≡ None → Refuses (some_head o) text
none_refused o text e = (fault.Header, text, rw e refl)

not_given : {X : Type 0} (o : Option X) → (Given o → ⊥) → o ≡ None
not_given None h = refl
not_given (Some x) h = absurd (h (x, refl))

not_magic : (b : Bool) → (b ≡ true → ⊥) → b ≡ false
not_magic false h = refl
not_magic true h = absurd (h refl)

no_width : (magic : Bool) (width height depth : Option ℕ) → width ≡ None → spaced_head magic width height depth ≡ None
no_width false width height depth e = refl
no_width true width height None e = refl
no_width true width height (Some d) e = rw e refl

no_height : (magic : Bool) (width height depth : Option ℕ) → height ≡ None → spaced_head magic width height depth ≡ None
no_height false width height depth e = refl
no_height true None height None e = refl
no_height true None height (Some d) e = refl
no_height true (Some w) height None e = refl
no_height true (Some w) height (Some d) e = rw e refl

no_greatest : (magic : Bool) (width height depth : Option ℕ) → depth ≡ None → spaced_head magic width height depth ≡ None
no_greatest false width height depth e = refl
no_greatest true width height depth e = rw e refl

spaced_refused : (most : ℕ) (text : List ℕ) (n : ℕ) → LacksPart (spaced_parts most) text n → Refuses (spaced_header most) text
spaced_refused most text n lacks =
    refused_then IsMagicWord (IsSizeWord ∷ IsSizeWord ∷ IsGreatestWord most ∷ []) magic_read (λ b. b ≡ true) _ magic_word
    (λ magic one bad. fails_then size_read _ (λ width two. fails_then size_read _ (λ height three. fails_then (greatest_read most) _ (λ depth four. none_refused (spaced_head magic width height depth) four (rw (not_magic magic bad) refl)) three) two) one)
    (λ magic one m a more. refused_then IsSizeWord (IsSizeWord ∷ IsGreatestWord most ∷ []) size_read Given _ size_word
    (λ width two bad. fails_then size_read _ (λ height three. fails_then (greatest_read most) _ (λ depth four. none_refused (spaced_head magic width height depth) four (no_width magic width height depth (not_given width bad))) three) two)
    (λ width two i b on. refused_then IsSizeWord (IsGreatestWord most ∷ []) size_read Given _ size_word
    (λ height three bad. fails_then (greatest_read most) _ (λ depth four. none_refused (spaced_head magic width height depth) four (no_height magic width height depth (not_given height bad))) three)
    (λ height three j c last. refused_then (IsGreatestWord most) [] (greatest_read most) Given _ (greatest_word most)
    (λ depth four bad. none_refused (spaced_head magic width height depth) four (no_greatest magic width height depth (not_given depth bad)))
    (λ depth four k d none. absurd none) three j last) two i on) one m more) text n lacks

-- ---- the parts of a header of three lines

magic_line_found : (part rest : List ℕ) → IsMagicLine part → (line : List ℕ) × (is_text line (codes "P6") ≡ true) × (line_read 3 (part ++ rest) ≡ Ok (line, rest))
magic_line_found part rest p = (codes "P6", refl, ap (λ z. line_read 3 (z ++ rest)) p ∙ line_local 3 (codes "P6") (refl, (refl, tt)) (omega arith) rest)

magic_line_told : (text line rest : List ℕ) → line_read 3 text ≡ Ok (line, rest) → is_text line (codes "P6") ≡ true → (part : List ℕ) × IsMagicLine part × (text ≡ part ++ rest)
magic_line_told text line rest h good =
    (codes "P6\n", refl, (line_was 3 text line rest h).whole ∙ ap (λ z. z ++ 10 ∷ rest) (same_text line (codes "P6") (sym good)))

magic_line : Delimits IsMagicLine (line_read 3) (λ line. is_text line (codes "P6") ≡ true)
magic_line = record { found = magic_line_found; told = magic_line_told; decided = λ line. bool_decided (is_text line (codes "P6")) }

sizes_line_found : (part rest : List ℕ) → IsSizesLine part → (line : List ℕ) × Given (sizes_of line) × (line_read 10 (part ++ rest) ≡ Ok (line, rest))
sizes_line_found part rest (w, h, sized, is) =
    (decimal w ++ 32 ∷ decimal h, ((w, h), sizes_found w h sized), ap (λ z. line_read 10 (z ++ rest)) is ∙ (ap (line_read 10) (append_assoc (decimal w ++ 32 ∷ decimal h) (10 ∷ []) rest) ∙ second_found w h rest sized))

sizes_there : (line : List ℕ) (s : ℕ × ℕ) → sizes_of line ≡ Some s → SizesTold (Some 8) line (record { head = colour_head s.0 s.1; depth = 8 })
sizes_there line s is = sizes_by (Some 8) (position (λ c. c == 32) line) line (record { head = colour_head s.0 s.1; depth = 8 }) refl (ap (sized_head (Some 8)) is)

sizes_line_told : (text line rest : List ℕ) → line_read 10 text ≡ Ok (line, rest) → Given (sizes_of line) → (part : List ℕ) × IsSizesLine part × (text ≡ part ++ rest)
sizes_line_told text line rest h good =
    let s = sizes_there line good.0 good.1 in
    let whole : text ≡ (decimal s.wide ++ 32 ∷ decimal s.high) ++ 10 ∷ rest = (line_was 10 text line rest h).whole ∙ ap (λ z. z ++ 10 ∷ rest) s.spelled in
    ((decimal s.wide ++ 32 ∷ decimal s.high) ++ 10 ∷ [], (s.wide, s.high, s.sized, refl), whole ∙ sym (append_assoc (decimal s.wide ++ 32 ∷ decimal s.high) (10 ∷ []) rest))

sizes_line : Delimits IsSizesLine (line_read 10) (λ line. Given (sizes_of line))
sizes_line = record { found = sizes_line_found; told = sizes_line_told; decided = λ line. given_decided (sizes_of line) }

greatest_line_found : (most : ℕ) (part rest : List ℕ) → IsGreatestLine most part → (o : Option ℕ) × Given o × (maximum_read most (part ++ rest) ≡ Ok (o, rest))
greatest_line_found most part rest (depth, g, is) =
    (Some depth, (depth, refl), ap (λ z. maximum_read most (z ++ rest)) is ∙ (ap (maximum_read most) (append_assoc (decimal (2 ^ depth - 1)) (10 ∷ []) rest) ∙ third_found most depth rest (depth_said most depth 1 1 (g.named 1 1) g.small)))

greatest_line_told : (most : ℕ) (text : List ℕ) (o : Option ℕ) (rest : List ℕ) → maximum_read most text ≡ Ok (o, rest) → Given o → (part : List ℕ) × IsGreatestLine most part × (text ≡ part ++ rest)
greatest_line_told most text o rest h good =
    let t = maximum_told most text o rest h in
    let is : depth_of_line most t.line ≡ Some good.0 = t.is ∙ good.1 in
    let spelled : t.line ≡ decimal (2 ^ good.0 - 1) = depth_read most t.line good.0 is in
    (decimal (2 ^ good.0 - 1) ++ 10 ∷ [], (good.0, greatest_of most t.line good.0 is, refl), (line_was (maximum_room most) text t.line rest t.read).whole ∙ (ap (λ z. z ++ 10 ∷ rest) spelled ∙ sym (append_assoc (decimal (2 ^ good.0 - 1)) (10 ∷ []) rest)))

greatest_line : (most : ℕ) → Delimits (IsGreatestLine most) (maximum_read most) Given
greatest_line most = record { found = greatest_line_found most; told = greatest_line_told most; decided = given_decided }

lined_good : (magic sizes : List ℕ) (depth : Option ℕ) (rest : List ℕ) → is_text magic (codes "P6") ≡ true → Given (sizes_of sizes) → Given depth → Refuses (some_head (image_head magic sizes depth)) rest → ⊥
unfolding image_head
lined_good magic sizes depth rest a b c refused =
    let is : some_head (image_head magic sizes depth) rest ≡ Ok (record { head = colour_head b.0.0 b.0.1; depth = c.0 }, rest) = rw (a, b.1, c.1) refl in
    false≢true (ap is_fault (sym is ∙ refused.2))

lined_known : (most : ℕ) (text : List ℕ) → Refuses (lined_header most) text → (n : ℕ) × LacksPart (lined_parts most) text n
lined_known most text refused =
    known_then IsMagicLine (IsSizesLine ∷ IsGreatestLine most ∷ []) (line_read 3) (λ line. is_text line (codes "P6") ≡ true) _ magic_line
    (λ magic one a again. known_then IsSizesLine (IsGreatestLine most ∷ []) (line_read 10) (λ line. Given (sizes_of line)) _ sizes_line
    (λ sizes two b more. known_then (IsGreatestLine most) [] (maximum_read most) Given _ (greatest_line most)
    (λ depth three c last. absurd (lined_good magic sizes depth three a b c last)) two more) one again) text refused

other_magic : (magic sizes : List ℕ) (depth : Option ℕ) → is_text magic (codes "P6") ≡ false → image_head magic sizes depth ≡ None
unfolding image_head
other_magic magic sizes depth e = rw e refl

bad_sizes : (b : Bool) (s : Option (ℕ × ℕ)) (depth : Option ℕ) → s ≡ None → cond b (sized_head depth s) None ≡ None
bad_sizes false s depth e = refl
bad_sizes true s None e = refl
bad_sizes true s (Some d) e = rw e refl

other_sizes : (magic sizes : List ℕ) (depth : Option ℕ) → sizes_of sizes ≡ None → image_head magic sizes depth ≡ None
unfolding image_head
other_sizes magic sizes depth e = bad_sizes (is_text magic (codes "P6")) (sizes_of sizes) depth e

bad_greatest : (b : Bool) (s : Option (ℕ × ℕ)) (depth : Option ℕ) → depth ≡ None → cond b (sized_head depth s) None ≡ None
bad_greatest false s depth e = refl
bad_greatest true s depth e = rw e refl

other_greatest : (magic sizes : List ℕ) (depth : Option ℕ) → depth ≡ None → image_head magic sizes depth ≡ None
unfolding image_head
other_greatest magic sizes depth e = bad_greatest (is_text magic (codes "P6")) (sizes_of sizes) depth e

lined_refused : (most : ℕ) (text : List ℕ) (n : ℕ) → LacksPart (lined_parts most) text n → Refuses (lined_header most) text
lined_refused most text n lacks =
    refused_then IsMagicLine (IsSizesLine ∷ IsGreatestLine most ∷ []) (line_read 3) (λ line. is_text line (codes "P6") ≡ true) _ magic_line
    (λ magic one bad. fails_then (line_read 10) _ (λ sizes two. fails_then (maximum_read most) _ (λ depth three. none_refused (image_head magic sizes depth) three (other_magic magic sizes depth (not_magic (is_text magic (codes "P6")) bad))) two) one)
    (λ magic one m a more. refused_then IsSizesLine (IsGreatestLine most ∷ []) (line_read 10) (λ line. Given (sizes_of line)) _ sizes_line
    (λ sizes two bad. fails_then (maximum_read most) _ (λ depth three. none_refused (image_head magic sizes depth) three (other_sizes magic sizes depth (not_given (sizes_of sizes) bad))) two)
    (λ sizes two i b on. refused_then (IsGreatestLine most) [] (maximum_read most) Given _ (greatest_line most)
    (λ depth three bad. none_refused (image_head magic sizes depth) three (other_greatest magic sizes depth (not_given depth bad)))
    (λ depth three j c none. absurd none) two i on) one m more) text n lacks

-- ---- a header of either kind

header_all : (b : Bool) (most : ℕ) (text : List ℕ) (f : Fault) (rest : List ℕ) → cond b (lined_header most text) (spaced_header most text) ≡ Err (f, rest) → f ≡ fault.Header
unfolding AllHeader
header_all true most text f rest e = lined_all most text f rest e
header_all false most text f rest e = spaced_all most text f rest e

known_of : (b : Bool) (most : ℕ) (text : List ℕ) (f : Fault) (rest : List ℕ) → cond b (lined_header most text) (spaced_header most text) ≡ Err (f, rest) → (n : ℕ) × LacksPart (parts_of b most) text n
known_of true most text f rest e = lined_known most text (f, rest, e)
known_of false most text f rest e = spaced_known most text (f, rest, e)

refused_of : (b : Bool) (most : ℕ) (text : List ℕ) (n : ℕ) → LacksPart (parts_of b most) text n → (f : Fault) × (rest : List ℕ) × (cond b (lined_header most text) (spaced_header most text) ≡ Err (f, rest))
refused_of true most text n lacks = lined_refused most text n lacks
refused_of false most text n lacks = spaced_refused most text n lacks

once_of : (b : Bool) (most : ℕ) → AreDelimited (parts_of b most)
once_of true most = (one_rest IsMagicLine (line_read 3) _ magic_line, (one_rest IsSizesLine (line_read 10) _ sizes_line, (one_rest (IsGreatestLine most) (maximum_read most) _ (greatest_line most), tt)))
once_of false most = (one_rest IsMagicWord magic_read _ magic_word, (one_rest IsSizeWord size_read _ size_word, (one_rest IsSizeWord size_read _ size_word, (one_rest (IsGreatestWord most) (greatest_read most) _ (greatest_word most), tt))))

pub image_header_known : (most : ℕ) (text : List ℕ) (f : Fault) (rest : List ℕ) → image_header most text ≡ Err (f, rest) → (n : ℕ) × ImageHeaderFault most text f n
unfolding image_header
image_header_known most text f rest e =
    let k = known_of (nat_le most 8) most text f rest e in
    (k.0, (k.1, header_all (nat_le most 8) most text f rest e))

pub image_header_refused : (most : ℕ) (text : List ℕ) (f : Fault) (n : ℕ) → ImageHeaderFault most text f n → (rest : List ℕ) × (image_header most text ≡ Err (f, rest))
unfolding image_header
image_header_refused most text f n h =
    let k = refused_of (nat_le most 8) most text n h.0 in
    (k.1, k.2 ∙ ap (λ z. Err (z, k.1)) (header_all (nat_le most 8) most text k.0 k.1 k.2 ∙ sym h.1))

pub image_header_only : (most : ℕ) (text : List ℕ) (f g : Fault) (m n : ℕ) → ImageHeaderFault most text f m → ImageHeaderFault most text g n → (f ≡ g) × (m ≡ n)
image_header_only most text f g m n a b = (a.1 ∙ sym b.1, lacks_once (header_parts most) (once_of (nat_le most 8) most) text m n a.0 b.0)

-- no header is empty
empty_of : (b : Bool) (most : ℕ) → Missing IsMagicLine [] → Missing IsMagicWord [] → LacksPart (parts_of b most) [] 0
empty_of true most line word = inl (line, refl)
empty_of false most line word = inl (word, refl)

no_part : (text rest : List ℕ) → [] ≡ (80 ∷ text) ++ rest → ⊥
no_part text rest e = absurd (let size : length {A = ℕ} [] ≡ length ((80 ∷ text) ++ rest) = ap (λ z. length z) e in omega (arith, size))

pub image_header_empty : (most : ℕ) → (rest : List ℕ) × (image_header most [] ≡ Err (fault.Header, rest))
image_header_empty most =
    image_header_refused most [] fault.Header 0 (empty_of (nat_le most 8) most (λ part rest p whole. no_part (54 ∷ 10 ∷ []) rest (whole ∙ ap (λ z. z ++ rest) p)) (λ part rest p whole. no_part (54 ∷ p.0 ∷ []) rest (whole ∙ ap (λ z. z ++ rest) p.2)), refl)
