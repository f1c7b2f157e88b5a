-- Readings one after the other, and what a call took of its input.
use Rattle.std.proofs.Common.{◌≡◌, ℕ, ◌≤◌, Bool, false, Option, Some, None, List, [], ◌∷◌, ◌++◌, length, Result, Ok, Err, inl, inr, refl, ap, ◌∙◌, sym, append_assoc, append-nil, arith}
use Rattle.std.specs.Io.KnownBytes.{Consumes, Keeps}
use Rattle.ffv1_wire.specs.Failures.{one_more}
use Rattle.ffv1_y4m.specs.declared.fault.Fault.{Fault}
use Rattle.ffv1_y4m.specs.declared.fault.Fault.TheVariants as fault
use Rattle.ffv1_y4m.specs.Passage.{Passage}
use Rattle.ffv1_y4m.specs.Sequence.{Outcome, Reading, ◌>>=◌, ◌then◌, give, left, where_begun}
use Rattle.ffv1_y4m.specs.Reads.{Answers, Decides, ReadsAs, Says, Stands, Wants, seen}

pub consumes_then : (a b c : Option (List ℕ)) (xs ys : List ℕ) → Consumes a b xs → Consumes b c ys → Consumes a c (xs ++ ys)
consumes_then None b c xs ys h k = tt
consumes_then (Some s) None c xs ys h k = absurd h
consumes_then (Some s) (Some t) None xs ys h k = absurd k
consumes_then (Some s) (Some t) (Some u) xs ys h k = h ∙ (ap (λ z. xs ++ z) k ∙ sym (append_assoc xs ys u))

pub consumes_none : (a : Option (List ℕ)) → Consumes a a []
consumes_none None = tt
consumes_none (Some s) = refl

pub consumes_kept : (a b c : Option (List ℕ)) (xs : List ℕ) → Consumes a b xs → Keeps b c → Consumes a c xs
consumes_kept None b c xs h k = tt
consumes_kept (Some s) None c xs h k = absurd h
consumes_kept (Some s) (Some t) None xs h k = absurd k
consumes_kept (Some s) (Some t) (Some u) xs h k = h ∙ ap (λ z. xs ++ z) (sym k)

-- what a call leaves
abbrev pub moved : Option (List ℕ) → Option (List ℕ) → ℕ → ℕ → Passage
moved old new before after = record { old = old; new = new; before = before; after = after }

-- a value that is read of these bytes, whatever comes after them
abbrev pub Local : {X : Type 0} → Reading X → List ℕ → X → Type 0
Local r bytes x = (behind : List ℕ) → r (bytes ++ behind) ≡ Ok (x, behind)

-- what comes next leaves no more than there was
abbrev pub Shortens : {X Y : Type 0} → (X → Reading Y) → Type 0
Shortens next = (x : _) (text : List ℕ) → length (left (next x text)) ≤ length text

pub left_next : {X Y : Type 0} (o : Outcome X) (next : X → Reading Y) (n : ℕ) → length (left o) ≤ n → Shortens next → length (left (o >>= λ p. next p.0 p.1)) ≤ n
left_next (Ok p) next n h s = let k = s p.0 p.1 in omega (arith, h, k)
left_next (Err f) next n h s = h

pub shortens_then : {X Y : Type 0} (r : Reading X) (next : X → Reading Y) (text : List ℕ) → length (left (r text)) ≤ length text → Shortens next → length (left ((r then next) text)) ≤ length text
shortens_then r next text h s = left_next (r text) next (length text) h s

-- the first reading wants a byte
pub wants_first : {X Y : Type 0} (r : Reading X) (next : X → Reading Y) (bytes : List ℕ) → Wants r bytes → Shortens next → Wants (r then next) bytes
wants_first r next bytes h s = λ b behind. left_next (r (bytes ++ b ∷ behind)) next (length behind) (h b behind) s

pub wants_next : {X Y : Type 0} (r : Reading X) (next : X → Reading Y) (xs ys : List ℕ) (x : X) → Local r xs x → Wants (next x) ys → Wants (r then next) (xs ++ ys)
wants_next r next xs ys x h k = λ b behind. rw (append_assoc xs ys (b ∷ behind), h (ys ++ b ∷ behind)) (k b behind)

pub decides_next : {X Y : Type 0} (r : Reading X) (next : X → Reading Y) (xs ys : List ℕ) (new : Option (List ℕ)) (x : X) (answer : Result Y Fault) → Local r xs x → Decides (next x) ys new answer → Decides (r then next) (xs ++ ys) new answer
decides_next r next xs ys new x answer h (inl k) = inl (λ behind. rw (append_assoc xs ys behind, h (ys ++ behind)) (k behind))
decides_next r next xs ys new x answer h (inr k) = inr (k.0, rw (h ys) k.1)

pub faults_first : {X Y : Type 0} (r : Reading X) (next : X → Reading Y) (bytes : List ℕ) (new : Option (List ℕ)) (f : Fault) → Decides r bytes new (Err f) → Decides (r then next) bytes new (Err f)
faults_first r next bytes new f (inl k) = inl (λ behind. rw (k behind) refl)
faults_first r next bytes new f (inr k) = inr (k.0, rw k.1 refl)

says_next : {X Y : Type 0} (r : Reading X) (next : X → Reading Y) (g more : List ℕ → Type 0) (old mid new : Option (List ℕ)) (n m k : ℕ) (xs ys : List ℕ) (x : X) (answer : Result Y Fault) →
    m ≡ n → Local r xs x → (g ys → more (xs ++ ys)) → Says (next x) g ys (moved mid new m k) answer → Says (r then next) more (xs ++ ys) (moved old new n k) answer
says_next r next g more old mid new n m k xs ys x (Ok y) same h to s = (s.0 ∙ same, decides_next r next xs ys new x (Ok y) h s.1)
says_next r next g more old mid new n m k xs ys x (Err fault.Read) same h to s = (s.0 ∙ ap one_more same, wants_next r next xs ys x h s.1)
says_next r next g more old mid new n m k xs ys x (Err fault.OutOfMemory) same h to s = (s.0 ∙ same, to s.1)
says_next r next g more old mid new n m k xs ys x (Err fault.Write) same h to s = absurd s
says_next r next g more old mid new n m k xs ys x (Err f) same h to s = (s.0 ∙ same, decides_next r next xs ys new x (Err f) h s.1)

says_first : {X Y : Type 0} (r : Reading X) (next : X → Reading Y) (g more : List ℕ → Type 0) (p : Passage) (bytes : List ℕ) (f : Fault) →
    Shortens next → (g bytes → more bytes) → Says r g bytes p (Err f) → Says (r then next) more bytes p (Err f)
says_first r next g more p bytes fault.Read short to s = (s.0, wants_first r next bytes s.1 short)
says_first r next g more p bytes fault.OutOfMemory short to s = (s.0, to s.1)
says_first r next g more p bytes fault.Write short to s = absurd s
says_first r next g more p bytes f short to s = (s.0, faults_first r next bytes p.new f s.1)

-- a value that stays what it is after the end of the bytes that gave it
local_by : {X : Type 0} (r : Reading X) (bytes : List ℕ) (new : Option (List ℕ)) (x : X) → (r bytes ≡ Ok (x, []) → Local r bytes x) → Decides r bytes new (Ok x) → Local r bytes x
local_by r bytes new x stays (inl k) = k
local_by r bytes new x stays (inr k) = stays k.1

abbrev pub Stays : {X : Type 0} → Reading X → X → Type 0
Stays r x = (bytes : List ℕ) → r bytes ≡ Ok (x, []) → Local r bytes x

pub stands_local : {X : Type 0} (r : Reading X) (g : List ℕ → Type 0) (p : Passage) (x : X) → Stays r x → (h : Stands r g p (Ok x)) → Local r h.bytes x
stands_local r g p x stays h = local_by r h.bytes p.new x (stays h.bytes) h.said.1

-- the first reading gives a value, and the next one answers
pub stands_next : {X Y : Type 0} (r : Reading X) (next : X → Reading Y) (f g more : List ℕ → Type 0) (old mid new : Option (List ℕ)) (n m k : ℕ) (x : X) (answer : Result Y Fault) →
    Stays r x → ((xs ys : List ℕ) → Local r xs x → g ys → more (xs ++ ys)) → Stands r f (moved old mid n m) (Ok x) → Stands (next x) g (moved mid new m k) answer → Stands (r then next) more (moved old new n k) answer
stands_next r next f g more old mid new n m k x answer stays to h i =
    let here = stands_local r f (moved old mid n m) x stays h in
    record {
      bytes = h.bytes ++ i.bytes;
      taken = consumes_then old mid new h.bytes i.bytes h.taken i.taken;
      said = says_next r next g more old mid new n m k h.bytes i.bytes x answer h.said.0 here (to h.bytes i.bytes here) i.said;
    }

-- the first reading refuses
pub stands_first : {X Y : Type 0} (r : Reading X) (next : X → Reading Y) (g more : List ℕ → Type 0) (p : Passage) (f : Fault) →
    Shortens next → ((xs : List ℕ) → g xs → more xs) → Stands r g p (Err f) → Stands (r then next) more p (Err f)
stands_first r next g more p f short to h = record { bytes = h.bytes; taken = h.taken; said = says_first r next g more p h.bytes f short (to h.bytes) h.said }

-- an answer of no byte
pub stands_given : {X : Type 0} (x : X) (more : List ℕ → Type 0) (old : Option (List ℕ)) (n : ℕ) → Stands (give x) more (moved old old n n) (Ok x)
stands_given x more old n = record { bytes = []; taken = consumes_none old; said = (refl, inl (λ behind. refl)) }

-- nothing begins, and nothing is read
ended_by : {X : Type 0} (b : Reading Bool) (r : Reading X) (bytes : List ℕ) (new : Option (List ℕ)) → Decides b bytes new (Ok false) → Decides (b then where_begun r) bytes new (Ok None)
ended_by b r bytes new (inl k) = inl (λ behind. rw (k behind) refl)
ended_by b r bytes new (inr k) = inr (k.0, rw k.1 refl)

-- what a whole call answers, by what it took
known : {X : Type 0} (r : Reading X) (old new : Option (List ℕ)) (bytes : List ℕ) (answer : Result X Fault) → Consumes old new bytes → Decides r bytes new answer → ReadsAs r old new answer
known r None new bytes answer h (inl k) = (bytes ++ [], [], k [])
known r None new bytes answer h (inr k) = (bytes, [], k.1)
known r (Some text) None bytes answer h k = absurd h
known r (Some text) (Some rest) bytes answer h (inl k) = rw h (k rest)
known r (Some text) (Some rest) bytes answer h (inr k) = rw (h, k.0) (rw (append-nil bytes) k.1)

pub answers_ok : {X Y : Type 0} (view : Y → X) (r : Reading X) (g : List ℕ → Type 0) (p : Passage) (y : Y) → Stands r g p (Ok (view y)) → Answers view r g p (Ok y)
answers_ok view r g p y h = (h.said.0, known r p.old p.new h.bytes (Ok (view y)) h.taken h.said.1)

pub answers_err : {X Y : Type 0} (view : Y → X) (r : Reading X) (g : List ℕ → Type 0) (p : Passage) (f : Fault) → Stands r g p (Err f) → Answers {Y = Y} view r g p (Err f)
answers_err view r g p fault.Read h = (h.said.0, (h.bytes, h.taken, h.said.1))
answers_err view r g p fault.OutOfMemory h = (h.said.0, (h.bytes, h.taken, h.said.1))
answers_err view r g p fault.Write h = absurd h.said
answers_err view r g p f h = (h.said.0, known r p.old p.new h.bytes (Err f) h.taken h.said.1)

pub answers_of : {X Y : Type 0} (view : Y → X) (r : Reading X) (g : List ℕ → Type 0) (p : Passage) (answer : Result Y Fault) → Stands r g p (seen view answer) → Answers view r g p answer
answers_of view r g p (Ok y) h = answers_ok view r g p y h
answers_of view r g p (Err f) h = answers_err view r g p f h
