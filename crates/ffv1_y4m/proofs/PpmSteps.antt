-- The header of an image, read step by step.
use Rattle.std.proofs.Common.{◌≡◌, ℕ, suc, ◌<◌, ◌≤◌, ◌==◌, ◌&&◌, nat_le, Bool, true, false, cond, Option, Some, None, List, [], ◌∷◌, ◌++◌, length, Result, Ok, Err, inl, inr, refl, ap, sym, ◌∙◌, arith, length-append}
use Rattle.std.proofs.lemmas.Grind.{common_steps}
use Rattle.std.specs.Io.KnownBytes.{Consumes, IsAtEnd, Keeps}
use Rattle.ffv1_wire.specs.Failures.{one_more}
use Rattle.ffv1_y4m.specs.declared.fault.Fault.{Fault}
use Rattle.ffv1_y4m.specs.declared.fault.Fault.TheVariants as fault
use Rattle.ffv1_y4m.specs.declared.head.DeepHead.{DeepHead}
use Rattle.ffv1_y4m.specs.Header.{line_end, line_to, line_read}
use Rattle.ffv1_y4m.specs.Passage.{Passage, known_text}
use Rattle.ffv1_y4m.specs.Ppm.{depth_of_line, image_begun, image_head, image_header, lined_header, maximum_read, maximum_room, same_format, some_head, spaced_header}
use Rattle.ffv1_y4m.specs.Reads.{Decides, Nowhere, Says, Stands, Wants}
use Rattle.ffv1_y4m.specs.Sequence.{Outcome, Reading, ◌>>=◌, ◌then◌, give, judge, left, refuse}
use Rattle.ffv1_y4m.proofs.Lines.{line_stays, line_wants}
use Rattle.ffv1_y4m.proofs.Sequences.{Shortens, Stays, consumes_none, consumes_kept, moved, shortens_then, stands_first, stands_next, wants_first}
use Rattle.ffv1_y4m.proofs.AnswerParts.{is_fault, rest_in, value_in}
use Rattle.ffv1_y4m.proofs.SpacedHeaders.{spaced_one, spaced_wants}
use Rattle.std.proofs.lemmas.Bool.{le-leb, lt-leb, true≢false}

left_line : (most : ℕ) (text : List ℕ) (end : Option ℕ) → length (left (line_to most text end)) ≤ length text
left_line most text None = grind (arith, common_steps)
left_line most text (Some end) = grind (arith, common_steps)

pub line_shortens : (most : ℕ) (text : List ℕ) → length (left (line_read most text)) ≤ length text
line_shortens most text = left_line most text (line_end most text)

left_head : (o : Option DeepHead) (text : List ℕ) → length (left (some_head o text)) ≤ length text
left_head None text = omega arith
left_head (Some h) text = omega arith

-- the readings after the lines of a header
abbrev pub behind_two : List ℕ → List ℕ → Option ℕ → Reading DeepHead
behind_two magic sizes depth = some_head (image_head magic sizes depth)

abbrev pub behind_one : ℕ → List ℕ → List ℕ → Reading DeepHead
behind_one most magic sizes = maximum_read most then behind_two magic sizes

abbrev pub behind_none : ℕ → List ℕ → Reading DeepHead
behind_none most magic = line_read 10 then behind_one most magic

pub two_shortens : (magic sizes : List ℕ) → Shortens (behind_two magic sizes)
two_shortens magic sizes = λ depth text. left_head (image_head magic sizes depth) text

given_shortens : (most : ℕ) → Shortens (λ line. give (depth_of_line most line))
given_shortens most = λ line text. omega arith

maximum_shortens : (most : ℕ) (text : List ℕ) → length (left (maximum_read most text)) ≤ length text
maximum_shortens most text = shortens_then (line_read (maximum_room most)) (λ line. give (depth_of_line most line)) text (line_shortens (maximum_room most) text) (given_shortens most)

pub one_shortens : (most : ℕ) (magic : List ℕ) → Shortens (behind_one most magic)
one_shortens most magic = λ sizes text. shortens_then (maximum_read most) (behind_two magic sizes) text (maximum_shortens most text) (two_shortens magic sizes)

pub none_shortens : (most : ℕ) → Shortens (behind_none most)
none_shortens most = λ magic text. shortens_then (line_read 10) (behind_one most magic) text (line_shortens 10 text) (one_shortens most magic)

lined_wants : (most : ℕ) → Wants (lined_header most) []
lined_wants most = wants_first (line_read 3) (behind_none most) [] (line_wants 3 [] tt (omega arith)) (none_shortens most)

pub first_stops : (most : ℕ) (p : Passage) (f : Fault) → Stands (line_read 3) Nowhere p (Err f) → Stands (lined_header most) Nowhere p (Err f)
first_stops most p f h = stands_first (line_read 3) (behind_none most) Nowhere Nowhere p f (none_shortens most) (λ xs k. k) h

pub first_goes : (most : ℕ) (old mid new : Option (List ℕ)) (n m k : ℕ) (magic : List ℕ) (answer : Result DeepHead Fault) → Stands (line_read 3) Nowhere (moved old mid n m) (Ok magic) → Stands (behind_none most magic) Nowhere (moved mid new m k) answer → Stands (lined_header most) Nowhere (moved old new n k) answer
first_goes most old mid new n m k magic answer h i = stands_next (line_read 3) (behind_none most) Nowhere Nowhere Nowhere old mid new n m k magic answer (line_stays 3 magic) (λ xs ys a b. b) h i

pub second_stops : (most : ℕ) (magic : List ℕ) (p : Passage) (f : Fault) → Stands (line_read 10) Nowhere p (Err f) → Stands (behind_none most magic) Nowhere p (Err f)
second_stops most magic p f h = stands_first (line_read 10) (behind_one most magic) Nowhere Nowhere p f (one_shortens most magic) (λ xs k. k) h

pub second_goes : (most : ℕ) (magic : List ℕ) (old mid new : Option (List ℕ)) (n m k : ℕ) (sizes : List ℕ) (answer : Result DeepHead Fault) → Stands (line_read 10) Nowhere (moved old mid n m) (Ok sizes) → Stands (behind_one most magic sizes) Nowhere (moved mid new m k) answer → Stands (behind_none most magic) Nowhere (moved old new n k) answer
second_goes most magic old mid new n m k sizes answer h i = stands_next (line_read 10) (behind_one most magic) Nowhere Nowhere Nowhere old mid new n m k sizes answer (line_stays 10 sizes) (λ xs ys a b. b) h i

pub third_stops : (most : ℕ) (magic sizes : List ℕ) (p : Passage) (f : Fault) → Stands (maximum_read most) Nowhere p (Err f) → Stands (behind_one most magic sizes) Nowhere p (Err f)
third_stops most magic sizes p f h = stands_first (maximum_read most) (behind_two magic sizes) Nowhere Nowhere p f (two_shortens magic sizes) (λ xs k. k) h

-- a line of the greatest sample that was read whole, whatever comes after it
depth_by : (most : ℕ) (o : Outcome (List ℕ)) (depth : Option ℕ) → (o >>= λ p. give (depth_of_line most p.0) p.1) ≡ Ok (depth, []) → (line : List ℕ) × (o ≡ Ok (line, [])) × (depth_of_line most line ≡ depth)
depth_by most (Ok p) depth h = (p.0, ap (λ z. Ok (p.0, z)) (ap rest_in h), ap (value_in depth) h)
depth_by most (Err f) depth h = absurd (true≢false (ap is_fault h))

maximum_stays : (most : ℕ) (depth : Option ℕ) → Stays (maximum_read most) depth
maximum_stays most depth = λ bytes h behind.
    let t = depth_by most (line_read (maximum_room most) bytes) depth h in
    rw (line_stays (maximum_room most) t.0 bytes t.1 behind) (ap (λ z. Ok (z, behind)) t.2)

pub third_goes : (most : ℕ) (magic sizes : List ℕ) (old mid : Option (List ℕ)) (n m : ℕ) (depth : Option ℕ) (answer : Result DeepHead Fault) → Stands (maximum_read most) Nowhere (moved old mid n m) (Ok depth) → Stands (behind_two magic sizes depth) Nowhere (moved mid mid m m) answer → Stands (behind_one most magic sizes) Nowhere (moved old mid n m) answer
third_goes most magic sizes old mid n m depth answer h i = stands_next (maximum_read most) (behind_two magic sizes) Nowhere Nowhere Nowhere old mid mid n m m depth answer (maximum_stays most depth) (λ xs ys a b. b) h i

-- the line of the greatest sample
pub room_four : (most : ℕ) → most ≤ 8 → maximum_room most ≡ 4
room_four most few =
    let test : nat_le most 8 ≡ true = le-leb _ _ few in
    rw test refl

pub room_six : (most : ℕ) → 9 ≤ most → maximum_room most ≡ 6
room_six most deep =
    let test : nat_le most 8 ≡ false = lt-leb _ _ deep in
    rw test refl

pub maximum_stops : (most room : ℕ) (p : Passage) (f : Fault) → maximum_room most ≡ room → Stands (line_read room) Nowhere p (Err f) → Stands (maximum_read most) Nowhere p (Err f)
maximum_stops most room p f is h = rw is (stands_first (line_read room) (λ line. give (depth_of_line most line)) Nowhere Nowhere p f (given_shortens most) (λ xs k. k) h)

pub head_given : (o : Option DeepHead) (head : DeepHead) (old : Option (List ℕ)) (n : ℕ) → Some head ≡ o → Stands (some_head o) Nowhere (moved old old n n) (Ok head)
head_given o head old n is = record { bytes = []; taken = consumes_none old; said = (refl, inl (λ behind. rw (← is) refl)) }

pub head_refused : (o : Option DeepHead) (old : Option (List ℕ)) (n : ℕ) → None ≡ o → Stands (some_head o) Nowhere (moved old old n n) (Err fault.Header)
head_refused o old n is = record { bytes = []; taken = consumes_none old; said = (refl, inl (λ behind. rw (← is) refl)) }

-- ---- the header, of three lines or as Netpbm writes it

pub header_is_lined : (most : ℕ) (text : List ℕ) → most ≤ 8 → image_header most text ≡ lined_header most text
unfolding image_header
header_is_lined most text few =
    let test : nat_le most 8 ≡ true = le-leb _ _ few in
    rw test refl

pub header_is_spaced : (most : ℕ) (text : List ℕ) → 8 < most → image_header most text ≡ spaced_header most text
unfolding image_header
header_is_spaced most text deep =
    let test : nat_le most 8 ≡ false = lt-leb _ _ (omega (arith, deep)) in
    rw test refl

outcome_by : (b : Bool) (one two o : Outcome DeepHead) → one ≡ o → two ≡ o → cond b one two ≡ o
outcome_by true one two o h k = h
outcome_by false one two o h k = k

either_outcome : (most : ℕ) (text : List ℕ) (o : Outcome DeepHead) → lined_header most text ≡ o → spaced_header most text ≡ o → image_header most text ≡ o
unfolding image_header
either_outcome most text o h k = outcome_by (nat_le most 8) (lined_header most text) (spaced_header most text) o h k

left_by : (b : Bool) (one two : Outcome DeepHead) (n : ℕ) → length (left one) ≤ n → length (left two) ≤ n → length (left (cond b one two)) ≤ n
left_by true one two n h k = h
left_by false one two n h k = k

pub header_wants : (most : ℕ) → Wants (image_header most) []
unfolding image_header
header_wants most = λ c behind. left_by (nat_le most 8) (lined_header most (c ∷ behind)) (spaced_header most (c ∷ behind)) (length behind) (lined_wants most c behind) (spaced_wants most c behind)

-- a reading that is the same as another one
decides_same : {X : Type 0} (r s : Reading X) (bytes : List ℕ) (new : Option (List ℕ)) (answer : Result X Fault) → ((text : List ℕ) → s text ≡ r text) → Decides r bytes new answer → Decides s bytes new answer
decides_same r s bytes new answer e (inl k) = inl (λ behind. e (bytes ++ behind) ∙ k behind)
decides_same r s bytes new answer e (inr k) = inr (k.0, e bytes ∙ k.1)

pub stands_same : {X : Type 0} (r s : Reading X) (p : Passage) (answer : Result X Fault) → ((text : List ℕ) → s text ≡ r text) → Stands r Nowhere p answer → Stands s Nowhere p answer
stands_same r s p (Ok x) e h = record { bytes = h.bytes; taken = h.taken; said = (h.said.0, decides_same r s h.bytes p.new (Ok x) e h.said.1) }
stands_same r s p (Err f) e h = record { bytes = h.bytes; taken = h.taken; said = same f h.said }
  where
    same : (g : Fault) → Says r Nowhere h.bytes p (Err g) → Says s Nowhere h.bytes p (Err g)
    same fault.Read k = (k.0, λ b behind. rw (e (h.bytes ++ b ∷ behind)) (k.1 b behind))
    same fault.OutOfMemory k = k
    same fault.Write k = k
    same fault.Header k = (k.0, decides_same r s h.bytes p.new (Err fault.Header) e k.1)
    same fault.Tag k = (k.0, decides_same r s h.bytes p.new (Err fault.Tag) e k.1)
    same fault.Unsupported k = (k.0, decides_same r s h.bytes p.new (Err fault.Unsupported) e k.1)
    same fault.FrameLine k = (k.0, decides_same r s h.bytes p.new (Err fault.FrameLine) e k.1)
    same fault.FrameTruncated k = (k.0, decides_same r s h.bytes p.new (Err fault.FrameTruncated) e k.1)
    same fault.SampleTooLarge k = (k.0, decides_same r s h.bytes p.new (Err fault.SampleTooLarge) e k.1)
    same fault.FormatChanged k = (k.0, decides_same r s h.bytes p.new (Err fault.FormatChanged) e k.1)

-- a later image: its header, and whether it has the sizes of the first
left_same : (b : Bool) (text : List ℕ) → length (left (cond b (give true) (refuse fault.FormatChanged) text)) ≤ length text
left_same true text = omega arith
left_same false text = omega arith

same_shortens : (said : DeepHead) → Shortens (same_format said)
same_shortens said = λ next text. left_same (said.head.width == next.head.width && (said.head.height == next.head.height && said.depth == next.depth)) text

begun_is : (most : ℕ) (said : DeepHead) (text : List ℕ) → 0 < length text → image_begun most said text ≡ (image_header most then same_format said) text
begun_is most said [] h = absurd (omega (arith, h))
begun_is most said (c ∷ cs) h = refl

some_long : (xs ys : List ℕ) (c : ℕ) → 0 < length (xs ++ c ∷ ys)
some_long [] ys c = omega arith
some_long (x ∷ xs) ys c = omega arith

more_long : (xs ys : List ℕ) → 0 < length xs → 0 < length (xs ++ ys)
more_long xs ys h = omega (arith, length-append xs ys, h)

pub begun_failed : (most : ℕ) (said : DeepHead) (old new : Option (List ℕ)) (n k : ℕ) → Keeps old new → k ≡ one_more n → Stands (image_begun most said) Nowhere (moved old new n k) (Err fault.Read)
begun_failed most said old new n k kept same =
    let wants : Wants (image_header most then same_format said) [] = wants_first (image_header most) (same_format said) [] (header_wants most) (same_shortens said) in
    record { bytes = []; taken = consumes_kept old old new [] (consumes_none old) kept; said = (same, λ b behind. wants b behind) }

-- what a header took, of which one byte at least was read
record Started {X : Type 0} (reading : Reading X) (old new : Option (List ℕ)) (r : Result X Fault) (says : List ℕ → Type 0) : Type 0 where
  bytes : List ℕ
  some : 0 < length bytes
  taken : Consumes old new bytes
  said : says bytes

one_by : (most b : ℕ) (t : Bool) → (b == 10) ≡ t → lined_header most (b ∷ []) ≡ Err (fault.Header, [])
one_by most b true test = rw test refl
one_by most b false test = rw test refl

one_byte : (most b : ℕ) → image_header most (b ∷ []) ≡ Err (fault.Header, [])
one_byte most b = either_outcome most (b ∷ []) (Err (fault.Header, [])) (one_by most b (b == 10) refl) (spaced_one most b)

no_byte : (most : ℕ) → image_header most [] ≡ Err (fault.Header, [])
no_byte most = either_outcome most [] (Err (fault.Header, [])) refl refl

from_byte : (old mid new : Option (List ℕ)) (byte : ℕ) (bytes : List ℕ) → Consumes old mid (byte ∷ []) → Consumes (known_text (Some byte) mid) new bytes → Consumes old new bytes
from_byte None mid new byte bytes h k = tt
from_byte (Some text) None new byte bytes h k = absurd h
from_byte (Some text) (Some rest) None byte bytes h k = absurd k
from_byte (Some text) (Some rest) (Some more) byte bytes h k = h ∙ k

left_judged : (r : Result DeepHead Fault) (text : List ℕ) → left (judge r text) ≡ text
left_judged (Ok x) text = refl
left_judged (Err f) text = refl

at_end : (old mid new : Option (List ℕ)) (byte : ℕ) → Consumes old mid (byte ∷ []) → Consumes (known_text (Some byte) mid) new [] → IsAtEnd new → Consumes old new (byte ∷ [])
at_end None mid new byte h k end = tt
at_end (Some text) None new byte h k end = absurd h
at_end (Some text) (Some rest) None byte h k end = absurd k
at_end (Some text) (Some rest) (Some more) byte h k end =
    let none : suc (length rest) ≡ 0 = ap length (k ∙ end) in
    absurd (omega (arith, none))

started_by : (most : ℕ) (old mid new : Option (List ℕ)) (byte : ℕ) (r : Result DeepHead Fault) (bytes : List ℕ) → Consumes old mid (byte ∷ []) → Consumes (known_text (Some byte) mid) new bytes → Decides (image_header most) bytes new r →
    Started (image_header most) old new r (λ xs. Decides (image_header most) xs new r)
started_by most old mid new byte r [] h k (inl d) =
    let few : length (left (image_header most (0 ∷ []))) ≤ 0 = header_wants most 0 [] in
    let all : length (left (image_header most (0 ∷ []))) ≡ 1 = ap (λ z. length (left z)) (d (0 ∷ [])) ∙ ap length (left_judged r (0 ∷ [])) in
    absurd (omega (arith, few, all))
started_by most old mid new byte r [] h k (inr d) = record { bytes = byte ∷ []; some = omega arith; taken = at_end old mid new byte h k d.0; said = inr (d.0, one_byte most byte ∙ (sym (no_byte most) ∙ d.1)) }
started_by most old mid new byte r (c ∷ cs) h k d = record { bytes = c ∷ cs; some = omega arith; taken = from_byte old mid new byte (c ∷ cs) h k; said = d }

faulted : (most : ℕ) (said : DeepHead) (bytes : List ℕ) (new : Option (List ℕ)) (f : Fault) → 0 < length bytes → Decides (image_header most) bytes new (Err f) → Decides (image_begun most said) bytes new (Err f)
faulted most said bytes new f some (inl k) = inl (λ behind. begun_is most said (bytes ++ behind) (more_long bytes behind some) ∙ (rw (k behind) refl))
faulted most said bytes new f some (inr k) = inr (k.0, begun_is most said bytes some ∙ (rw k.1 refl))

pub later_refused : (most : ℕ) (said : DeepHead) (old mid new : Option (List ℕ)) (byte n m k : ℕ) (f : Fault) → m ≡ n → Consumes old mid (byte ∷ []) → Stands (image_header most) Nowhere (moved (known_text (Some byte) mid) new m k) (Err f) → Stands (image_begun most said) Nowhere (moved old new n k) (Err f)
later_refused most said old mid new byte n m k f same h s = by f s.said
  where
    told : (e : Fault) → (k ≡ m) × Decides (image_header most) s.bytes new (Err e) → Started (image_header most) old new (Err e) (λ xs. Decides (image_header most) xs new (Err e))
    told e d = started_by most old mid new byte (Err e) s.bytes h s.taken d.1

    by : (e : Fault) → Says (image_header most) Nowhere s.bytes (moved (known_text (Some byte) mid) new m k) (Err e) → Stands (image_begun most said) Nowhere (moved old new n k) (Err e)
    by fault.Read d =
        let wants : Wants (image_header most then same_format said) s.bytes = wants_first (image_header most) (same_format said) s.bytes d.1 (same_shortens said) in
        record { bytes = s.bytes; taken = from_byte old mid new byte s.bytes h s.taken; said = (d.0 ∙ ap one_more same, λ b behind. rw (begun_is most said (s.bytes ++ b ∷ behind) (some_long s.bytes behind b)) (wants b behind)) }
    by fault.OutOfMemory d = absurd d.1
    by fault.Write d = absurd d
    by f d = let t = told f d in record { bytes = t.bytes; taken = t.taken; said = (d.0 ∙ same, faulted most said t.bytes new f t.some t.said) }

-- the sizes and depths are compared
format_by : (most : ℕ) (said next : DeepHead) (bytes : List ℕ) (new : Option (List ℕ)) (answer : Result Bool Fault) → 0 < length bytes → ((text : List ℕ) → same_format said next text ≡ judge answer text) → Decides (image_header most) bytes new (Ok next) → Decides (image_begun most said) bytes new answer
format_by most said next bytes new answer some is (inl k) = inl (λ behind. begun_is most said (bytes ++ behind) (more_long bytes behind some) ∙ (rw (k behind) (is behind)))
format_by most said next bytes new answer some is (inr k) = inr (k.0, begun_is most said bytes some ∙ (rw k.1 (is [])))

pub later_same : (most : ℕ) (said next : DeepHead) (old mid new : Option (List ℕ)) (byte n m k : ℕ) → m ≡ n → (said.head.width == next.head.width && (said.head.height == next.head.height && said.depth == next.depth)) ≡ true → Consumes old mid (byte ∷ []) → Stands (image_header most) Nowhere (moved (known_text (Some byte) mid) new m k) (Ok next) → Stands (image_begun most said) Nowhere (moved old new n k) (Ok true)
later_same most said next old mid new byte n m k same both h s =
    let t = started_by most old mid new byte (Ok next) s.bytes h s.taken s.said.1 in
    record { bytes = t.bytes; taken = t.taken; said = (s.said.0 ∙ same, format_by most said next t.bytes new (Ok true) t.some (λ text. rw both refl) t.said) }

pub later_changed : (most : ℕ) (said next : DeepHead) (old mid new : Option (List ℕ)) (byte n m k : ℕ) → m ≡ n → (said.head.width == next.head.width && (said.head.height == next.head.height && said.depth == next.depth)) ≡ false → Consumes old mid (byte ∷ []) → Stands (image_header most) Nowhere (moved (known_text (Some byte) mid) new m k) (Ok next) → Stands (image_begun most said) Nowhere (moved old new n k) (Err fault.FormatChanged)
later_changed most said next old mid new byte n m k same differs h s =
    let t = started_by most old mid new byte (Ok next) s.bytes h s.taken s.said.1 in
    record { bytes = t.bytes; taken = t.taken; said = (s.said.0 ∙ same, format_by most said next t.bytes new (Err fault.FormatChanged) t.some (λ text. rw differs refl) t.said) }

-- a line of which no byte was read before
fresh : (a b : Option (List ℕ)) (xs : List ℕ) → Consumes (known_text None a) b xs → Consumes a b xs
fresh None b xs h = tt
fresh (Some s) b xs h = h

pub stands_fresh : {X : Type 0} (r : Reading X) (g : List ℕ → Type 0) (old new : Option (List ℕ)) (n m : ℕ) (answer : Result X Fault) → Stands r g (moved (known_text None old) new n m) answer → Stands r g (moved old new n m) answer
stands_fresh r g old new n m (Ok x) h = record { bytes = h.bytes; taken = fresh old new h.bytes h.taken; said = h.said }
stands_fresh r g old new n m (Err f) h = record { bytes = h.bytes; taken = fresh old new h.bytes h.taken; said = same f h.said }
  where
    same : (e : Fault) → Says r g h.bytes (moved (known_text None old) new n m) (Err e) → Says r g h.bytes (moved old new n m) (Err e)
    same fault.Read s = s
    same fault.OutOfMemory s = s
    same fault.Write s = s
    same fault.Header s = s
    same fault.Tag s = s
    same fault.Unsupported s = s
    same fault.FrameLine s = s
    same fault.FrameTruncated s = s
    same fault.SampleTooLarge s = s
    same fault.FormatChanged s = s
