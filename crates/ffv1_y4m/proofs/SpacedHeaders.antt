-- The header of an image with any white space and comments.
use Rattle.std.proofs.Common.{◌≡◌, ℕ, ◌-◌, ◌^◌, ◌<◌, ◌≤◌, Bool, true, false, Option, Some, None, List, [], ◌∷◌, ◌++◌, length, codes, decimal, Result, Ok, Err, refl, ap, ◌∙◌, sym, subst, append_assoc, arith}
use Rattle.std.proofs.lemmas.Bool.{true≢false, false≢true}
use Rattle.std.proofs.lemmas.Fmt.{decimal_nonempty, length-decimal-le}
use Rattle.std.specs.Cmp.Lexicographic.{same_text}
use Rattle.std.specs.Prelude.{IfSome}
use Rattle.ffv1_y4m.specs.declared.fault.Fault.{Fault}
use Rattle.ffv1_y4m.specs.declared.fault.Fault.TheVariants as fault
use Rattle.ffv1_y4m.specs.declared.head.DeepHead.{DeepHead}
use Rattle.ffv1_y4m.specs.Header.{is_text, size_of}
use Rattle.ffv1_y4m.specs.Images.{IsSpacedHeader}
use Rattle.ffv1_y4m.specs.Ppm.{depth_of_line, greatest_read, magic_read, size_read, some_head, spaced_head, spaced_header}
use Rattle.ffv1_y4m.specs.Reads.{Nowhere, Stands, Wants}
use Rattle.ffv1_y4m.specs.Sequence.{Reading, ◌then◌, give, left}
use Rattle.ffv1_y4m.specs.Spaces.{IsGap, blank_room, byte_read, is_blank, is_white, spaced_word, word_read}
use Rattle.ffv1_y4m.specs.VideoHead.{IsSized, colour_head}
use Rattle.ffv1_y4m.proofs.AnswerParts.{is_fault, is_some, parted_by, rest_in, some_in, value_in}
use Rattle.ffv1_y4m.proofs.CanonicalLine.{AreDigits, are_digits, size_back}
use Rattle.ffv1_y4m.proofs.Sequences.{Shortens, moved, shortens_then, stands_first, stands_next, wants_first}
use Rattle.ffv1_y4m.proofs.Sizes.{IsSize, IsSome, size_is}
use Rattle.ffv1_y4m.proofs.SpacedWords.{SpacedTold, spaced_found, spaced_told, word_found, word_told}
use Rattle.ffv1_y4m.proofs.SpacesRead.{Extends, byte_extends, extends_given, extends_then, spaced_extends, spaced_shortens, stays_of, word_extends, word_shortens}

-- ---- none of the readings gives a byte back

abbrev pub magic_word : Reading (List ℕ)
magic_word = byte_read then λ p. word_read 2 (p ∷ [])

pub first_word_shortens : Shortens (λ p. word_read 2 (p ∷ []))
first_word_shortens = λ p text. word_shortens 2 (p ∷ []) text

size_shortens : (text : List ℕ) → length (left (size_read text)) ≤ length text
size_shortens text = shortens_then (spaced_word 4) (λ word. give (size_of word)) text (spaced_shortens 4 text) (λ word rest. omega arith)

greatest_shortens : (most : ℕ) (text : List ℕ) → length (left (greatest_read most text)) ≤ length text
greatest_shortens most text = shortens_then (spaced_word 5) (λ word. give (depth_of_line most word)) text (spaced_shortens 5 text) (λ word rest. omega arith)

left_some : (o : Option DeepHead) (text : List ℕ) → length (left (some_head o text)) ≤ length text
left_some None text = omega arith
left_some (Some h) text = omega arith

-- what comes after each part of a header
abbrev pub after_height : Bool → Option ℕ → Option ℕ → Option ℕ → Reading DeepHead
after_height magic width height depth = some_head (spaced_head magic width height depth)

abbrev pub after_width : ℕ → Bool → Option ℕ → Option ℕ → Reading DeepHead
after_width most magic width height = greatest_read most then after_height magic width height

abbrev pub after_magic : ℕ → Bool → Option ℕ → Reading DeepHead
after_magic most magic width = size_read then after_width most magic width

abbrev pub after_none : ℕ → Bool → Reading DeepHead
after_none most magic = size_read then after_magic most magic

height_shortens : (magic : Bool) (width height : Option ℕ) → Shortens (after_height magic width height)
height_shortens magic width height = λ depth text. left_some (spaced_head magic width height depth) text

width_shortens : (most : ℕ) (magic : Bool) (width : Option ℕ) → Shortens (after_width most magic width)
width_shortens most magic width = λ height text. shortens_then (greatest_read most) (after_height magic width height) text (greatest_shortens most text) (height_shortens magic width height)

after_magic_shortens : (most : ℕ) (magic : Bool) → Shortens (after_magic most magic)
after_magic_shortens most magic = λ width text. shortens_then size_read (after_width most magic width) text (size_shortens text) (width_shortens most magic width)

none_shortens : (most : ℕ) → Shortens (after_none most)
none_shortens most = λ magic text. shortens_then size_read (after_magic most magic) text (size_shortens text) (after_magic_shortens most magic)

byte_wants : Wants byte_read []
byte_wants = λ c behind. omega arith

pub spaced_wants : (most : ℕ) → Wants (spaced_header most) []
spaced_wants most =
    wants_first magic_read (after_none most) []
    (wants_first magic_word (λ word. give (is_text word (codes "P6"))) [] (wants_first byte_read (λ p. word_read 2 (p ∷ [])) [] byte_wants first_word_shortens) (λ word rest. omega arith)) (none_shortens most)

pub spaced_one : (most b : ℕ) → spaced_header most (b ∷ []) ≡ Err (fault.Header, [])
unfolding word_read
spaced_one most b = refl

-- ---- the parts of a header, one after the other

pub magic_extends : Extends magic_word
magic_extends = extends_then byte_read (λ p. word_read 2 (p ∷ [])) (λ text x mid h behind. byte_extends text x mid h behind) (λ p text x mid h behind. word_extends 2 (p ∷ []) text x mid h behind)

said_extends : Extends magic_read
said_extends = extends_then magic_word (λ word. give (is_text word (codes "P6"))) magic_extends (λ word. extends_given (is_text word (codes "P6")))

size_extends : Extends size_read
size_extends = extends_then (spaced_word 4) (λ word. give (size_of word)) (spaced_extends 4) (λ word. extends_given (size_of word))

greatest_extends : (most : ℕ) → Extends (greatest_read most)
greatest_extends most = extends_then (spaced_word 5) (λ word. give (depth_of_line most word)) (spaced_extends 5) (λ word. extends_given (depth_of_line most word))

pub magic_stops : (most : ℕ) (p : _) (f : Fault) → Stands magic_read Nowhere p (Err f) → Stands (spaced_header most) Nowhere p (Err f)
magic_stops most p f h = stands_first magic_read (after_none most) Nowhere Nowhere p f (none_shortens most) (λ xs k. k) h

pub magic_goes : (most : ℕ) (old mid new : Option (List ℕ)) (n m k : ℕ) (magic : Bool) (answer : Result DeepHead Fault) → Stands magic_read Nowhere (moved old mid n m) (Ok magic) → Stands (after_none most magic) Nowhere (moved mid new m k) answer → Stands (spaced_header most) Nowhere (moved old new n k) answer
magic_goes most old mid new n m k magic answer h i = stands_next magic_read (after_none most) Nowhere Nowhere Nowhere old mid new n m k magic answer (stays_of magic_read magic said_extends) (λ xs ys a b. b) h i

pub width_stops : (most : ℕ) (magic : Bool) (p : _) (f : Fault) → Stands size_read Nowhere p (Err f) → Stands (after_none most magic) Nowhere p (Err f)
width_stops most magic p f h = stands_first size_read (after_magic most magic) Nowhere Nowhere p f (after_magic_shortens most magic) (λ xs k. k) h

pub width_goes : (most : ℕ) (magic : Bool) (old mid new : Option (List ℕ)) (n m k : ℕ) (width : Option ℕ) (answer : Result DeepHead Fault) → Stands size_read Nowhere (moved old mid n m) (Ok width) → Stands (after_magic most magic width) Nowhere (moved mid new m k) answer → Stands (after_none most magic) Nowhere (moved old new n k) answer
width_goes most magic old mid new n m k width answer h i = stands_next size_read (after_magic most magic) Nowhere Nowhere Nowhere old mid new n m k width answer (stays_of size_read width size_extends) (λ xs ys a b. b) h i

pub height_stops : (most : ℕ) (magic : Bool) (width : Option ℕ) (p : _) (f : Fault) → Stands size_read Nowhere p (Err f) → Stands (after_magic most magic width) Nowhere p (Err f)
height_stops most magic width p f h = stands_first size_read (after_width most magic width) Nowhere Nowhere p f (width_shortens most magic width) (λ xs k. k) h

pub height_goes : (most : ℕ) (magic : Bool) (width : Option ℕ) (old mid new : Option (List ℕ)) (n m k : ℕ) (height : Option ℕ) (answer : Result DeepHead Fault) → Stands size_read Nowhere (moved old mid n m) (Ok height) → Stands (after_width most magic width height) Nowhere (moved mid new m k) answer →
    Stands (after_magic most magic width) Nowhere (moved old new n k) answer
height_goes most magic width old mid new n m k height answer h i = stands_next size_read (after_width most magic width) Nowhere Nowhere Nowhere old mid new n m k height answer (stays_of size_read height size_extends) (λ xs ys a b. b) h i

pub depth_stops : (most : ℕ) (magic : Bool) (width height : Option ℕ) (p : _) (f : Fault) → Stands (greatest_read most) Nowhere p (Err f) → Stands (after_width most magic width height) Nowhere p (Err f)
depth_stops most magic width height p f h = stands_first (greatest_read most) (after_height magic width height) Nowhere Nowhere p f (height_shortens magic width height) (λ xs k. k) h

pub depth_goes : (most : ℕ) (magic : Bool) (width height : Option ℕ) (old mid : Option (List ℕ)) (n m : ℕ) (depth : Option ℕ) (answer : Result DeepHead Fault) → Stands (greatest_read most) Nowhere (moved old mid n m) (Ok depth) → Stands (after_height magic width height depth) Nowhere (moved mid mid m m) answer →
    Stands (after_width most magic width height) Nowhere (moved old mid n m) answer
depth_goes most magic width height old mid n m depth answer h i = stands_next (greatest_read most) (after_height magic width height) Nowhere Nowhere Nowhere old mid mid n m m depth answer (stays_of (greatest_read most) depth (greatest_extends most)) (λ xs ys a b. b) h i

-- a size of a word is from 1 to 8192
size_within : (o : Option ℕ) → IsSome IsSize o → IfSome o (λ n. (1 ≤ n) × (n ≤ 8192))
size_within None h = tt
size_within (Some n) h = (h.some, h.most)

pub size_bounds : (word : List ℕ) → IfSome (size_of word) (λ n. (1 ≤ n) × (n ≤ 8192))
size_bounds word = size_within (size_of word) (size_is word)

-- ---- a header of this form is read

-- what comes before a header's end
pub header_behind : (a b c d e f g : List ℕ) (last : ℕ) (rest : List ℕ) → (a ++ (b ++ (c ++ (d ++ (e ++ (f ++ (g ++ last ∷ []))))))) ++ rest ≡ a ++ (b ++ (c ++ (d ++ (e ++ (f ++ (g ++ last ∷ rest))))))
header_behind a b c d e f g last rest = simp append_assoc

pub magic_found : (last : ℕ) (rest : List ℕ) → is_white last ≡ true → magic_read (codes "P6" ++ last ∷ rest) ≡ Ok (true, rest)
magic_found last rest white = rw (word_found 2 (80 ∷ []) (54 ∷ []) last rest (refl, tt) white (omega arith)) refl

pub short_decimal : (n : ℕ) → n < 2 ^ 32 → 0 < length (decimal n)
short_decimal n small = decimal_nonempty n (omega (arith, small))

pub size_found : (gap : List ℕ) (n last : ℕ) (rest : List ℕ) → is_blank false gap ≡ true → length gap < blank_room → 1 ≤ n → n ≤ 8192 → is_white last ≡ true → size_read (gap ++ (decimal n ++ last ∷ rest)) ≡ Ok (Some n, rest)
size_found gap n last rest blank short some most white =
    let small : n < 2 ^ 32 = omega (arith, most) in
    let few : length (decimal n) ≤ 4 = length-decimal-le 4 n (omega arith) (omega (arith, most)) (omega (arith, most)) in
    let word : spaced_word 4 (gap ++ (decimal n ++ last ∷ rest)) ≡ Ok (decimal n, rest) = spaced_found 4 gap (decimal n) last rest blank short (are_digits n small) (short_decimal n small) few white in
    rw (word, size_back n some most) refl

pub greatest_found : (most depth : ℕ) (gap word : List ℕ) (last : ℕ) (rest : List ℕ) → is_blank false gap ≡ true → length gap < blank_room → AreDigits word → 0 < length word → length word ≤ 5 → depth_of_line most word ≡ Some depth → is_white last ≡ true → greatest_read most (gap ++ (word ++ last ∷ rest)) ≡ Ok (Some depth, rest)
greatest_found most depth gap word last rest blank short digits some few is white =
    let read : spaced_word 5 (gap ++ (word ++ last ∷ rest)) ≡ Ok (word, rest) = spaced_found 5 gap word last rest blank short digits some few white in
    rw (read, is) refl

parts_found : (most : ℕ) (text one two three rest : List ℕ) (w h depth : ℕ) → magic_read text ≡ Ok (true, one) → size_read one ≡ Ok (Some w, two) → size_read two ≡ Ok (Some h, three) → greatest_read most three ≡ Ok (Some depth, rest) → spaced_header most text ≡ Ok (record { head = colour_head w h; depth = depth }, rest)
parts_found most text one two three rest w h depth a b c d = rw (a, b, c, d) refl

-- a gap is a byte of white space and what comes after it
gap_is : (gap : List ℕ) (g : IsGap gap) (text : List ℕ) → gap ++ text ≡ g.first ∷ (g.more ++ text)
gap_is gap g text = ap (λ z. z ++ text) g.is

pub spaced_is_read : (most depth w h : ℕ) (header rest : List ℕ) → IsSpacedHeader depth w h header → IsSized (colour_head w h) → depth ≤ 16 → depth_of_line most (decimal (2 ^ depth - 1)) ≡ Some depth → length (decimal (2 ^ depth - 1)) ≤ 5 → 2 ^ depth - 1 < 2 ^ 32 →
    spaced_header most (header ++ rest) ≡ Ok (record { head = colour_head w h; depth = depth }, rest)
spaced_is_read most depth w h header rest s sized few is short small =
    let top = decimal (2 ^ depth - 1) in
    let third = s.third.more ++ (decimal (2 ^ depth - 1) ++ s.last ∷ rest) in
    let second = s.second.more ++ (decimal h ++ s.third.first ∷ third) in
    let first = s.first.more ++ (decimal w ++ s.second.first ∷ second) in
    let at_third : s.before_greatest ++ (decimal (2 ^ depth - 1) ++ s.last ∷ rest) ≡ s.third.first ∷ third = gap_is s.before_greatest s.third (decimal (2 ^ depth - 1) ++ s.last ∷ rest) in
    let at_second : s.before_height ++ (decimal h ++ (s.before_greatest ++ (decimal (2 ^ depth - 1) ++ s.last ∷ rest))) ≡ s.second.first ∷ second = ap (λ z. s.before_height ++ (decimal h ++ z)) at_third ∙ gap_is s.before_height s.second (decimal h ++ s.third.first ∷ third) in
    let at_first : s.before_width ++ (decimal w ++ (s.before_height ++ (decimal h ++ (s.before_greatest ++ (decimal (2 ^ depth - 1) ++ s.last ∷ rest))))) ≡ s.first.first ∷ first =
    ap (λ z. s.before_width ++ (decimal w ++ z)) at_second ∙ gap_is s.before_width s.first (decimal w ++ s.second.first ∷ second) in
    let whole : header ++ rest ≡ codes "P6" ++ s.first.first ∷ first = ap (λ z. z ++ rest) s.whole ∙ (header_behind (codes "P6") s.before_width (decimal w) s.before_height (decimal h) s.before_greatest (decimal (2 ^ depth - 1)) s.last rest ∙ ap (λ z. codes "P6" ++ z) at_first) in
    rw whole (parts_found most (codes "P6" ++ s.first.first ∷ first) first second third rest w h depth (magic_found s.first.first first s.first.white)
    (size_found s.first.more w s.second.first second s.first.blank s.first.short sized.some_wide sized.wide s.second.white)
    (size_found s.second.more h s.third.first third s.second.blank s.second.short sized.some_high sized.high s.third.white)
    (greatest_found most depth s.third.more top s.last rest s.third.blank s.third.short (are_digits (2 ^ depth - 1) small) (short_decimal (2 ^ depth - 1) small) short is s.white))

-- ---- a header that was read has this form

pub record MagicTold (magic : Bool) (text rest : List ℕ) : Type 0 where
  pub word : List ℕ
  pub last : ℕ
  pub is : is_text word (codes "P6") ≡ magic
  pub white : is_white last ≡ true
  pub whole : text ≡ word ++ last ∷ rest

byte_told : (text : List ℕ) (x : ℕ) (rest : List ℕ) → byte_read text ≡ Ok (x, rest) → text ≡ x ∷ rest
byte_told [] x rest h = absurd (true≢false (ap is_fault h))
byte_told (c ∷ cs) x rest h = ap (λ z. z ∷ cs) (ap (value_in 0) h) ∙ ap (λ z. x ∷ z) (ap rest_in h)

pub magic_told : (magic : Bool) (text rest : List ℕ) → magic_read text ≡ Ok (magic, rest) → MagicTold magic text rest
magic_told magic text rest h =
    let t = parted_by (magic_word text) (λ word. give (is_text word (codes "P6"))) magic rest h in
    let u = parted_by (byte_read text) (λ p. word_read 2 (p ∷ [])) t.value t.mid t.begins in
    let a = word_told 2 (u.value ∷ []) u.mid t.value t.mid u.goes_on in
    let same : t.mid ≡ rest = ap rest_in t.goes_on in
    record {
      word = t.value;
      last = a.last;
      is = ap (value_in magic) t.goes_on;
      white = a.white;
      whole = byte_told text u.value u.mid u.begins ∙ (ap (λ z. u.value ∷ z) a.whole ∙ (ap (λ z. z ++ a.last ∷ t.mid) (sym a.is) ∙ ap (λ z. t.value ++ a.last ∷ z) same));
    }

-- a value that was made of a word
pub record MadeTold {X : Type 0} (made : List ℕ → X) (x : X) (text rest : List ℕ) : Type 0 where
  pub word : List ℕ
  pub is : made word ≡ x
  pub told : SpacedTold text word rest

pub made_told : {X : Type 0} (most : ℕ) (made : List ℕ → X) (x : X) (text rest : List ℕ) → (spaced_word most then λ word. give (made word)) text ≡ Ok (x, rest) → MadeTold made x text rest
made_told most made x text rest h =
    let t = parted_by (spaced_word most text) (λ word. give (made word)) x rest h in
    let same : t.mid ≡ rest = ap rest_in t.goes_on in
    record { word = t.value; is = ap (value_in x) t.goes_on; told = subst (λ z. SpacedTold text t.value z) same (spaced_told most text t.value t.mid t.begins) }

-- the parts of a header that was read
pub record PartsTold (most : ℕ) (text : List ℕ) (said : DeepHead) (rest : List ℕ) : Type 0 where
  pub wide : List ℕ
  pub high : List ℕ
  pub top : List ℕ
  pub width : ℕ
  pub height : ℕ
  pub depth : ℕ
  pub is_width : size_of wide ≡ Some width
  pub is_height : size_of high ≡ Some height
  pub is_depth : depth_of_line most top ≡ Some depth
  pub is : said ≡ record { head = colour_head width height; depth = depth }
  pub before_width : List ℕ
  pub before_height : List ℕ
  pub before_greatest : List ℕ
  pub last : ℕ
  pub first : IsGap before_width
  pub second : IsGap before_height
  pub third : IsGap before_greatest
  pub white : is_white last ≡ true
  pub whole : text ≡ codes "P6" ++ (before_width ++ (wide ++ (before_height ++ (high ++ (before_greatest ++ (top ++ last ∷ rest))))))

gap_of : (last : ℕ) (gap : List ℕ) → is_white last ≡ true → is_blank false gap ≡ true → length gap < blank_room → IsGap (last ∷ gap)
gap_of last gap white blank short = record { first = last; more = gap; is = refl; white = white; blank = blank; short = short }

some_told : (o : Option DeepHead) (text : List ℕ) (said : DeepHead) (rest : List ℕ) → some_head o text ≡ Ok (said, rest) → (o ≡ Some said) × (text ≡ rest)
some_told None text said rest h = absurd (true≢false (ap is_fault h))
some_told (Some k) text said rest h = (ap (λ r. Some (value_in said r)) h, ap rest_in h)

parts_by : (most : ℕ) (text one two three rest : List ℕ) (said : DeepHead) (magic : Bool) (w h d : Option ℕ) → MagicTold magic text one → MadeTold size_of w one two → MadeTold size_of h two three → MadeTold (depth_of_line most) d three rest → spaced_head magic w h d ≡ Some said → PartsTold most text said rest
parts_by most text one two three rest said false w h d m a b t e = absurd (false≢true (ap is_some e))
parts_by most text one two three rest said true w h None m a b t e = absurd (false≢true (ap is_some e))
parts_by most text one two three rest said true None h (Some d) m a b t e = absurd (false≢true (ap is_some e))
parts_by most text one two three rest said true (Some w) None (Some d) m a b t e = absurd (false≢true (ap is_some e))
parts_by most text one two three rest said true (Some w) (Some h) (Some d) m a b t e = record {
  wide = a.word;
  high = b.word;
  top = t.word;
  width = w;
  height = h;
  depth = d;
  is_width = a.is;
  is_height = b.is;
  is_depth = t.is;
  is = sym (ap (some_in said) e);
  before_width = m.last ∷ a.told.gap;
  before_height = a.told.last ∷ b.told.gap;
  before_greatest = b.told.last ∷ t.told.gap;
  last = t.told.last;
  first = gap_of m.last a.told.gap m.white a.told.blank a.told.short;
  second = gap_of a.told.last b.told.gap a.told.white b.told.blank b.told.short;
  third = gap_of b.told.last t.told.gap b.told.white t.told.blank t.told.short;
  white = t.told.white;
  whole = m.whole ∙ (ap (λ z. z ++ m.last ∷ one) (same_text m.word (codes "P6") (sym m.is)) ∙ (ap (λ z. codes "P6" ++ m.last ∷ z) a.told.whole ∙ (ap (λ z. codes "P6" ++ m.last ∷ (a.told.gap ++ (a.word ++ a.told.last ∷ z))) b.told.whole
      ∙ ap (λ z. codes "P6" ++ m.last ∷ (a.told.gap ++ (a.word ++ a.told.last ∷ (b.told.gap ++ (b.word ++ b.told.last ∷ z))))) t.told.whole)));
}

pub parts_told : (most : ℕ) (text : List ℕ) (said : DeepHead) (rest : List ℕ) → spaced_header most text ≡ Ok (said, rest) → PartsTold most text said rest
parts_told most text said rest h =
    let one = parted_by (magic_read text) (after_none most) said rest h in
    let two = parted_by (size_read one.mid) (after_magic most one.value) said rest one.goes_on in
    let three = parted_by (size_read two.mid) (after_width most one.value two.value) said rest two.goes_on in
    let four = parted_by (greatest_read most three.mid) (after_height one.value two.value three.value) said rest three.goes_on in
    let last = some_told (spaced_head one.value two.value three.value four.value) four.mid said rest four.goes_on in
    parts_by most text one.mid two.mid three.mid rest said one.value two.value three.value four.value (magic_told one.value text one.mid one.begins) (made_told 4 size_of two.value one.mid two.mid two.begins) (made_told 4 size_of three.value two.mid three.mid three.begins)
    (subst (λ z. MadeTold (depth_of_line most) four.value three.mid z) last.1 (made_told 5 (depth_of_line most) four.value three.mid four.mid four.begins)) last.0
