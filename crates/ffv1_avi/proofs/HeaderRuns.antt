-- What is known after chunks of hdrl, if every RIFF is read.
use Rattle.std.proofs.Common.{◌≡◌, ◌⊎◌, inl, inr, ℕ, ◌+◌, ◌<◌, nat_lt, Bool, true, false, Option, Some, None, List, [], ◌∷◌, ◌++◌, length, take, codes, ap, ◌∙◌, sym, subst, arith, refl}
use Rattle.std.proofs.lemmas.Bool.{lt-ltb}
use Rattle.ffv1_avi.specs.declared.place.Extent.TheVariants.{EveryRiff}
use Rattle.ffv1_avi.specs.Chunks.{AreOthers, Chunk, IsStream, first_of, is_list, is_named, those, total_next}
use Rattle.ffv1_avi.specs.Files.{Headers, stream_came, stream_known, with_other}
use Rattle.ffv1_reads.specs.Head.{Head}
use Rattle.ffv1_avi.specs.Riffs.{AreExtended, is_total}
use Rattle.ffv1_avi.specs.Walk.{is_name}
use Rattle.ffv1_avi.proofs.OtherStreams.{is_other}
use Rattle.ffv1_avi.proofs.FrameLaws.{those_both}
use Rattle.ffv1_avi.proofs.HeaderLaws.{StreamBytes, StreamTakes, TakesHeader, with_frames}
use Rattle.ffv1_avi.proofs.ListWalks.{Run}
use Rattle.ffv1_avi.proofs.StreamLaws.{one_name}
use Rattle.ffv1_avi.proofs.TotalLaws.{TakesTotal}
use Rattle.ffv1_avi.proofs.WholeLaws.{all_of, run_total, total_after, total_nothing, total_twice}

-- how many streams came that do not count, after one more
abbrev pub number_after : ℕ → Option Head → ℕ
number_after n None = n + 1
number_after n (Some head) = n

-- the head and the number of streams that do not count, after these streams
abbrev pub Counts : Option Head → ℕ → List Chunk → Option Head → ℕ → Type 0
Counts (Some x) n streams o m = (o ≡ Some x) × (m ≡ n)
Counts None n [] o m = (o ≡ None) × (m ≡ n)
Counts None n (s ∷ ss) o m =
    ((nat_lt n 100 ≡ false) × (o ≡ None) × (m ≡ n))
    ⊎ ((nat_lt n 100 ≡ true) × (x : Option Head) × StreamBytes EveryRiff s.bytes x × Counts x (number_after n x) ss o m)

-- what is known after chunks of hdrl, of which these are the lists odml
pub record Heads (s : Headers) (cs : List Chunk) (inners : List (List Chunk)) (o : Option Head) (n : ℕ) : Type 0 where
  pub known : Headers
  pub run : Run (TakesHeader EveryRiff) s cs known
  pub head_is : known.head ≡ o
  pub number : known.passed ≡ n
  pub frames_are : known.frames ≡ total_after s.frames (first_of (those is_total (all_of inners)))

-- the number of frames that chunks of odml say
pub total_exists : (cs : List Chunk) (n : Option ℕ) → (m : Option ℕ) × Run TakesTotal n cs m
total_exists [] n = (n, refl)
total_exists (c ∷ cs) n = on_name (is_named (codes "dmlh") c) refl (λ k. total_exists cs k)
  where
    on_name : (b : Bool) → is_named (codes "dmlh") c ≡ b → ((k : Option ℕ) → (m : Option ℕ) × Run TakesTotal k cs m) → (m : Option ℕ) × Run TakesTotal n (c ∷ cs) m
    on_name true p again = let k = total_next c.bytes n in let more = again k in (more.0, (k, rw p refl, more.1))
    on_name false p again = let more = again n in (more.0, (n, rw p refl, more.1))

heads_end : (s : Headers) (inners : List (List Chunk)) (o : Option Head) (n : ℕ) → Counts s.head s.passed [] o n → AreExtended [] inners → Heads s [] inners o n
heads_end s [] o n counts extended = on_head s.head refl counts
  where
    made : (s.head ≡ o) → (s.passed ≡ n) → Heads s [] [] o n
    made head number = record { known = s; run = refl; head_is = head; number = number; frames_are = total_nothing s.frames }

    on_head : (x : Option Head) → s.head ≡ x → Counts x s.passed [] o n → Heads s [] [] o n
    on_head (Some x) is k = made (is ∙ sym k.0) (sym k.1)
    on_head None is k = made (is ∙ sym k.0) (sym k.1)
heads_end s (inner ∷ inners) o n counts extended = absurd extended

-- after 100 streams none counts
counts_many : (n : ℕ) (streams : List Chunk) (o : Option Head) (m : ℕ) → nat_lt n 100 ≡ false → o ≡ None → m ≡ n → Counts None n streams o m
counts_many n [] o m many none same = (none, same)
counts_many n (s ∷ ss) o m many none same = inl (many, none, same)

pub heads : (cs : List Chunk) (s : Headers) (inners : List (List Chunk)) (o : Option Head) (n : ℕ) → Counts s.head s.passed (those (is_list (codes "strl")) cs) o n → AreExtended (those (is_list (codes "odml")) cs) inners → Heads s cs inners o n
heads [] s inners o n counts extended = heads_end s inners o n counts extended
heads (c ∷ cs) s inners o n counts extended =
    on_list (is_name c.name (codes "LIST")) (is_name (take 4 c.bytes) (codes "strl")) (is_name (take 4 c.bytes) (codes "odml")) refl refl refl counts extended (λ t is k e. heads cs t is o n k e)
  where
    Again : Type 0
    Again = (t : Headers) (is : List (List Chunk)) → Counts t.head t.passed (those (is_list (codes "strl")) cs) o n → AreExtended (those (is_list (codes "odml")) cs) is → Heads t cs is o n

    -- a chunk that is no list odml
    passing : (m : Headers) → m.frames ≡ s.frames → TakesHeader EveryRiff s c.name c.bytes m → Heads m cs inners o n → Heads s (c ∷ cs) inners o n
    passing m same takes more = record { known = more.known; run = (m, takes, more.run); head_is = more.head_is; number = more.number; frames_are = more.frames_are ∙ ap (λ z. total_after z (first_of (those is_total (all_of inners)))) same }

    came : Headers
    came = stream_came EveryRiff s

    -- a stream that is passed
    stays : (o : Option Head) (b : Bool) → o ≡ None → b ≡ false → StreamTakes EveryRiff came o b c.bytes came
    stays (Some x) b none many = absurd (cc)
    stays None false none many = refl
    stays None true none many = absurd (cc)

    known_frames : (x : Option Head) → (stream_known came x).frames ≡ s.frames
    known_frames None = refl
    known_frames (Some head) = refl

    known_counts : (x : Option Head) → Counts x (number_after s.passed x) (those (is_list (codes "strl")) cs) o n → Counts (stream_known came x).head (stream_known came x).passed (those (is_list (codes "strl")) cs) o n
    known_counts None k = k
    known_counts (Some head) k = k

    on_stream : (x : Option Head) → s.head ≡ x → is_name c.name (codes "LIST") ≡ true → is_name (take 4 c.bytes) (codes "strl") ≡ true → Counts x s.passed (c ∷ those (is_list (codes "strl")) cs) o n → AreExtended (those (is_list (codes "odml")) cs) inners → Again → Heads s (c ∷ cs) inners o n
    on_stream (Some x) is p q k extended again =
        let next : Counts s.head s.passed (those (is_list (codes "strl")) cs) o n = rw is k in
        let other = with_other came (is_other c.bytes) in
        passing other refl (rw (p, q, is) refl) (again other inners next extended)
    on_stream None is p q (inl (many, none, same)) extended again =
        let next : Counts s.head s.passed (those (is_list (codes "strl")) cs) o n = rw is (counts_many s.passed (those (is_list (codes "strl")) cs) o n many none same) in
        passing came refl (rw (p, q) (stays s.head (nat_lt s.passed 100) is many)) (again came inners next extended)
    on_stream None is p q (inr (few, x, bytes, more)) extended again =
        passing (stream_known came x) (known_frames x) (rw (p, q, is, few) (x, refl, bytes)) (again (stream_known came x) inners (known_counts x more) extended)

    on_extended : (is : List (List Chunk)) → is_name c.name (codes "LIST") ≡ true → is_name (take 4 c.bytes) (codes "strl") ≡ false → is_name (take 4 c.bytes) (codes "odml") ≡ true → Counts s.head s.passed (those (is_list (codes "strl")) cs) o n → AreExtended (c ∷ those (is_list (codes "odml")) cs) is → Again → Heads s (c ∷ cs) is o n
    on_extended [] p q r k extended again = absurd extended
    on_extended (inner ∷ is) p q r k extended again =
        let total = total_exists inner s.frames in
        let next = with_frames s total.0 in
        let more = again next is k extended.2 in
        let here : total.0 ≡ total_after s.frames (first_of (those is_total inner)) = run_total inner s.frames total.0 total.1 in
        let all : those is_total (inner ++ all_of is) ≡ those is_total inner ++ those is_total (all_of is) = those_both is_total inner (all_of is) in
        let says : more.known.frames ≡ total_after s.frames (first_of (those is_total (all_of (inner ∷ is)))) =
        more.frames_are ∙ ap (λ z. total_after z (first_of (those is_total (all_of is)))) here ∙ total_twice s.frames (those is_total inner) (those is_total (all_of is)) ∙ ap (λ z. total_after s.frames (first_of z)) (sym all) in
        record { known = more.known; run = (next, rw (p, q, r) (inner, extended.0, extended.1, total.0, total.1, refl), more.run); head_is = more.head_is; number = more.number; frames_are = says }

    on_list : (a b d : Bool) → is_name c.name (codes "LIST") ≡ a → is_name (take 4 c.bytes) (codes "strl") ≡ b → is_name (take 4 c.bytes) (codes "odml") ≡ d → Counts s.head s.passed (those (is_list (codes "strl")) (c ∷ cs)) o n → AreExtended (those (is_list (codes "odml")) (c ∷ cs)) inners → Again → Heads s (c ∷ cs) inners o n
    on_list false b d p q r k extended again = passing s refl (rw p refl) (again s inners (rw p at k) (rw p at extended))
    on_list true true d p q r k extended again =
        let other : is_name (take 4 c.bytes) (codes "odml") ≡ false = one_name (take 4 c.bytes) (codes "strl") (codes "odml") q refl in
        on_stream s.head refl p q (rw (p, q) at k) (rw (p, other) at extended) again
    on_list true false true p q r k extended again = on_extended inners p q r (rw (p, q) at k) (rw (p, r) at extended) again
    on_list true false false p q r k extended again = passing s refl (rw (p, q, r) refl) (again s inners (rw (p, q) at k) (rw (p, r) at extended))

-- the streams before the one that counts do not
pub counts_found : (n : ℕ) (streams before : List Chunk) (stream : Chunk) (after : List Chunk) (head : Head) → streams ≡ before ++ stream ∷ after → AreOthers EveryRiff before → IsStream EveryRiff stream head → n + length before < 100 → Counts None n streams (Some head) (n + length before)
counts_found n streams [] stream after head parted others is few =
    let P : List Chunk → Type 0 = λ z. Counts None n z (Some head) (n + 0) in
    let low : nat_lt n 100 ≡ true = lt-ltb _ _ (omega (arith, few)) in
    let bytes : StreamBytes EveryRiff stream.bytes (Some head) = record { fields = is.fields; bytes_are = is.bytes; each = is.each; says = is.says } in
    subst P (sym parted) (inr (low, Some head, bytes, (refl, omega arith)))
counts_found n streams (b ∷ bs) stream after head parted others is few =
    let P : List Chunk → Type 0 = λ z. Counts None n z (Some head) (n + length (b ∷ bs)) in
    let low : nat_lt n 100 ≡ true = lt-ltb _ _ (omega (arith, few)) in
    let bytes : StreamBytes EveryRiff b.bytes None = record { fields = others.0.fields; bytes_are = others.0.bytes; each = others.0.each; says = (refl, others.0.says) } in
    let more = counts_found (n + 1) (bs ++ stream ∷ after) bs stream after head refl others.1 is (omega (arith, few)) in
    let Q : ℕ → Type 0 = λ k. Counts None (n + 1) (bs ++ stream ∷ after) (Some head) k in
    let count : n + 1 + length bs ≡ n + length (b ∷ bs) = omega arith in
    subst P (sym parted) (inr (low, None, bytes, subst Q count more))
