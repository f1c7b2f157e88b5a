-- A chunk is as many bytes as are fewer left behind it.
use Rattle.std.proofs.Common.{◌≡◌, ◌⊎◌, ◌∙◌, ◌+◌, ◌-◌, ◌≤◌, ◌++◌, ◌==◌, ℕ, nat_lt, nat_le, Bool, true, false, List, length, take, drop, codes, Some, None, Ok, Err, inl, inr, refl, ap, subst, arith}
use Rattle.std.specs.Prelude.{⊤, min}
use Rattle.std.proofs.lemmas.Bool.{eqb-false, eqb-true, leb-true, ltb-false, ltb-true}
use Rattle.std.proofs.lemmas.List.{length-drop}
use Rattle.byteorder.specs.Endian.{little_number}
use Rattle.ffv1_reads.specs.Behind.{begins_file}
use Rattle.ffv1_avi.specs.Damaged.{CountsInput}
use Rattle.ffv1_avi.specs.declared.came.Came.{Came}
use Rattle.ffv1_avi.specs.declared.came.Came.TheVariants as came
use Rattle.ffv1_avi.specs.declared.came.Header.{Header}
use Rattle.ffv1_avi.specs.declared.came.Header.TheVariants as header
use Rattle.ffv1_avi.specs.declared.chunk.Entry.{Entry}
use Rattle.ffv1_avi.specs.declared.course.Turn.TheVariants.{Frame, On, Told}
use Rattle.ffv1_avi.specs.declared.place.Open.TheVariants.{OpenMovi, OpenRiff}
use Rattle.ffv1_avi.specs.declared.place.Place.{Place}
use Rattle.ffv1_avi.specs.Internal.Came.{came_turn, frame_next, header_turn, is_unsized, movi_enters, movi_entry, movi_header, movi_next, own_came, riff_came, riff_entry, riff_header, riff_next, sized_header, sizeless_header}
use Rattle.ffv1_avi.specs.Internal.Hears.{begun_named_turn, begun_turn, entered_turn, further_turn, header_of, heard_turn, named_turn, open_named_turn, open_turn, sized_turn}
use Rattle.ffv1_avi.specs.Names.{bars, is_barred, is_frame, least_bytes, most_bytes, rule_of}
use Rattle.ffv1_avi.specs.Opens.{goes_on, taken_or_end}
use Rattle.ffv1_avi.specs.Padding.{padded}
use Rattle.ffv1_avi.specs.Places.{amount, is_open, most_input, open_at, riff_at}
use Rattle.ffv1_avi.specs.Turns.{count_to}
use Rattle.ffv1_avi.specs.Walk.{entry_of, is_known, is_name, size_in}
use Rattle.ffv1_avi.proofs.Agreeing.{told_as}
use Rattle.ffv1_avi.proofs.HeardTurns.{list_of_four}
use Rattle.ffv1_avi.proofs.ShorterTexts.{Turned}
use Rattle.ffv1_avi.proofs.TakenChunks.{size_fits}

-- ---- a place after so many bytes

abbrev pub Passes : Place → ℕ → Place → Type 0
Passes place n next = (count_to place next ≡ min n most_input) × CountsInput next

count_plain : (from to : Place) (a b : Bool) → (from.movi == 0) ≡ a → nat_lt 0 to.movi ≡ b → (from.movi ≡ 0 → to.movi ≡ 0) → count_to from to ≡ min (amount from - amount to) most_input
count_plain from to true true p q none = absurd (omega (arith, none (eqb-true from.movi 0 p), ltb-true 0 to.movi q))
count_plain from to true false p q none = rw (p, q) refl
count_plain from to false b p q none = rw p refl

passes_by : (place next : Place) (n : ℕ) → (place.movi ≡ 0 → next.movi ≡ 0) → amount next + n ≡ amount place → CountsInput next → Passes place n next
passes_by place next n none same counts =
    let fewer : amount place - amount next ≡ n = omega (arith, same) in
    (count_plain place next (place.movi == 0) (nat_lt 0 next.movi) refl refl none ∙ ap (λ k. min k most_input) fewer, counts)

-- a movi is entered
enters_by : (place next : Place) → place.movi ≡ 0 → (b : Bool) → nat_lt 0 next.movi ≡ b → (next.movi ≡ 0 → amount next + 12 ≡ amount place) → CountsInput next → Passes place 12 next
enters_by place next none true some same counts = (rw (none, some) refl, counts)
enters_by place next none false empty same counts =
    let ended : next.movi ≡ 0 = omega (arith, ltb-false 0 next.movi empty) in
    passes_by place next 12 (λ z. ended) (same ended) counts

-- ---- what comes of a header, of which so many bytes were read

abbrev Comes : Place → ℕ → Came → Type 0
Comes place n (came.Fault f) = ⊤
Comes place n (came.Frame size next) = (n ≡ 8) × CountsInput next
Comes place n (came.Pass count next) = Passes place (n + count) next

abbrev Heads : Bool → Place → Header → Type 0
Heads in_movi place (header.Whole c) = Comes place 8 c
Heads in_movi place (header.Named enters next size) = (own : List ℕ) → Comes place 12 (own_came in_movi enters next size own)

-- what a chunk takes of so many bytes
abbrev pub Takes : Place → ℕ → Turned → Type 0
Takes place n (Ok (None, rest)) = place.movi ≡ 0
Takes place n (Ok (Some (Frame count size next), rest)) = (length rest + 8 ≡ n) × CountsInput next
Takes place n (Ok (Some (On count after next), rest)) = (count ≡ min (n - length rest) most_input) × (length rest ≤ n) × CountsInput next
Takes place n (Ok (Some (Told f count after next), rest)) = ⊤
Takes place n (Err why) = ⊤

came_takes : (place : Place) (c : Came) (n all : ℕ) (bytes text : List ℕ) → length text + n ≡ all → Comes place n c → Takes place all (came_turn place c bytes text)
came_takes place (came.Fault f) n all bytes text long comes = let told = told_as place f bytes in rw told.3 tt
came_takes place (came.Frame size next) n all bytes text long (eight, counts) = (omega (arith, long, eight), counts)
came_takes place (came.Pass count next) n all bytes text long (same, counts) = on_test (nat_lt (length text) count) refl
  where
    on_test : (b : Bool) → nat_lt (length text) count ≡ b → Takes place all (came_turn place (came.Pass count next) bytes text)
    on_test true test = rw test tt
    on_test false test =
        let there = ltb-false (length text) count test in
        let behind = length-drop count text in
        let took : n + count ≡ all - length (drop count text) = omega (arith, long, there, behind) in
        rw test (same ∙ ap (λ k. min k most_input) took, omega (arith, long, there, behind), counts)

header_takes : (in_movi : Bool) (place : Place) (h : Header) (all : ℕ) (head text : List ℕ) → length text + 8 ≡ all → Heads in_movi place h → Takes place all (header_turn in_movi place h head text)
header_takes in_movi place (header.Whole c) all head text long heads = came_takes place c 8 all head text long heads
header_takes in_movi place (header.Named enters next size) all head text long heads = on_test (nat_lt (length text) 4) refl
  where
    own : List ℕ
    own = take 4 text

    on_test : (b : Bool) → nat_lt (length text) 4 ≡ b → Takes place all (header_turn in_movi place (header.Named enters next size) head text)
    on_test true test = rw test tt
    on_test false test =
        let behind : length (drop 4 text) + 12 ≡ all = omega (arith, long, ltb-false (length text) 4 test, length-drop 4 text) in
        rw test (came_takes place (own_came in_movi enters next size own) 12 all (head ++ own) (drop 4 text) behind (heads own))

-- ---- a header of movi

-- how many bytes are left there
abbrev InMovi : Place → ℕ → Type 0
InMovi place left =
    ((nat_lt 0 place.movi ≡ true) × (left ≡ place.movi))
    ⊎ ((nat_lt 0 place.movi ≡ false) × (place.riff ≡ 0) × (left + 1 ≡ place.input))

module _ (place : Place) (counts : CountsInput place) (left : ℕ) (here : InMovi place left) where
  next_passes : (n : ℕ) → n ≤ left → Passes place n (movi_next place (left - n))
  next_passes n fits = on_movi here
    where
      on_movi : InMovi place left → Passes place n (movi_next place (left - n))
      on_movi (inl (some, is)) =
          let more = ltb-true 0 place.movi some in
          rw some (passes_by place (record { input = place.input; riff = place.riff; movi = left - n; names = place.names; owed = place.owed; open_in = place.open_in }) n (λ z. absurd (omega (arith, z, more))) (omega (arith, fits, is)) counts)
      on_movi (inr (none, ended, is)) =
          let empty = ltb-false 0 place.movi none in
          rw none (passes_by place (open_at place OpenMovi ((left - n) + 1) 0) n (λ z. refl) (omega (arith, fits, is, ended, empty)) (λ z. refl))

  frame_counts : (more : ℕ) → CountsInput (frame_next place more)
  frame_counts more = on_movi here
    where
      on_movi : InMovi place left → CountsInput (frame_next place more)
      on_movi (inl (some, is)) = rw some counts
      on_movi (inr (none, ended, is)) = rw none (λ z. refl)

  lists_head : (e : Entry) → e.size ≡ 4 → e.left ≡ left - (8 + padded e.size) → 8 + padded e.size ≤ left → (own : List ℕ) (b : Bool) → is_name own (codes "rec ") ≡ b → Comes place 12 (own_came true (movi_next place e.left) (movi_next place e.left) e.size own)
  lists_head e four is fits own true named =
      let n : 8 + padded e.size ≡ 12 = omega (arith, four) in
      let at : e.left ≡ left - 12 = is ∙ ap (λ k. left - k) n in
      rw named (rw at (next_passes 12 (omega (arith, fits, four))))
  lists_head e four is fits own false named = rw named tt

  entry_heads : (e : Entry) → e.left ≡ left - (8 + padded e.size) → 8 + padded e.size ≤ left → (a b c d f : Bool) → is_barred place.names e.name ≡ a → is_frame place.names e.name ≡ b → is_name e.name (codes "LIST") ≡ c → nat_lt (most_bytes place.names) e.size ≡ d → nat_lt e.size (least_bytes place.names) ≡ f → (a ≡ false → c ≡ true → e.size ≡ 4) → Heads true place (movi_entry place e)
  entry_heads e is fits true b c d f p q r s t four = rw p tt
  entry_heads e is fits false true c true f p q r s t four = rw (p, q, s) tt
  entry_heads e is fits false true c false true p q r s t four = rw (p, q, s, t) tt
  entry_heads e is fits false true c false false p q r s t four = rw (p, q, s, t) (refl, frame_counts e.left)
  entry_heads e is fits false false true d f p q r s t four = rw (p, q, r) (λ own. lists_head e (four refl refl) is fits own (is_name own (codes "rec ")) refl)
  entry_heads e is fits false false false d f p q r s t four = rw (p, q, r) (rw is (next_passes (8 + padded e.size) fits))

  movi_heads : (name : List ℕ) (size : ℕ) → Heads true place (movi_header place left name size)
  movi_heads name size = on_tests (bars place.names name) (nat_lt left (8 + padded size)) (is_name name (codes "LIST")) (nat_lt size 4) refl refl refl refl
    where
      e : Entry
      e = entry_of left name (size_in (rule_of place.names) name size)

      entered : nat_lt left (8 + padded size) ≡ false → (is_name name (codes "LIST") ≡ true → 4 ≤ size) → Heads true place (movi_entry place e)
      entered q room =
          let less = size_fits (rule_of place.names) name size room in
          entry_heads e refl (omega (arith, less, ltb-false left (8 + padded size) q)) (is_barred place.names name) (is_frame place.names name) (is_name name (codes "LIST")) (nat_lt (most_bytes place.names) e.size) (nat_lt e.size (least_bytes place.names)) refl refl refl refl refl
          (λ free list. list_of_four place.names name size free list)

      on_tests : (a b c d : Bool) → bars place.names name ≡ a → nat_lt left (8 + padded size) ≡ b → is_name name (codes "LIST") ≡ c → nat_lt size 4 ≡ d → Heads true place (movi_header place left name size)
      on_tests true b c d p q r s = rw p tt
      on_tests false true c d p q r s = rw (p, q) tt
      on_tests false false true true p q r s = rw (p, q, r, s) tt
      on_tests false false true false p q r s = rw (p, q, r, s) (rw r at (entered q (λ l. ltb-false size 4 s)))
      on_tests false false false d p q r s = rw (p, q, r) (rw r at (entered q (λ l. absurd (cc (r, l)))))

-- ---- a header of RIFF

abbrev InRiff : Place → ℕ → Type 0
InRiff place left =
    ((is_open place.open_in ≡ false) × (left ≡ place.riff))
    ⊎ ((is_open place.open_in ≡ true) × (place.riff ≡ 0) × (left + 1 ≡ place.input))

module _ (place : Place) (none : place.movi ≡ 0) (left : ℕ) (here : InRiff place left) where
  riff_passes : (n : ℕ) → n ≤ left → Passes place n (riff_next place (left - n))
  riff_passes n fits = on_riff here
    where
      on_riff : InRiff place left → Passes place n (riff_next place (left - n))
      on_riff (inl (closed, is)) =
          rw closed (passes_by place (record { input = place.input; riff = left - n; movi = 0; names = place.names; owed = place.owed; open_in = place.open_in }) n (λ z. refl) (omega (arith, fits, is, none)) (λ opened. absurd (cc (opened, closed))))
      on_riff (inr (opened, ended, is)) =
          rw opened (passes_by place (open_at place OpenRiff ((left - n) + 1) 0) n (λ z. refl) (omega (arith, fits, is, ended, none)) (λ z. refl))

  movi_passes : (e : Entry) → 4 ≤ e.size → e.left ≡ left - (8 + padded e.size) → 8 + padded e.size ≤ left → Passes place 12 (movi_enters place e)
  movi_passes e room at fits = on_riff here
    where
      on_riff : InRiff place left → Passes place 12 (movi_enters place e)
      on_riff (inl (closed, is)) =
          rw closed (enters_by place (record { input = place.input; riff = e.left; movi = e.size - 4; names = place.names; owed = place.owed; open_in = place.open_in }) none (nat_lt 0 (e.size - 4)) refl (λ z. omega (arith, z, room, at, fits, is, none)) (λ opened. absurd (cc (opened, closed))))
      on_riff (inr (opened, ended, is)) =
          rw opened (enters_by place (open_at place OpenRiff (e.left + 1) (e.size - 4)) none (nat_lt 0 (e.size - 4)) refl (λ z. omega (arith, z, room, at, fits, is, ended, none)) (λ z. refl))

  named_heads : (e : Entry) → 4 ≤ e.size → e.left ≡ left - (8 + padded e.size) → 8 + padded e.size ≤ left → (own : List ℕ) (a b : Bool) → is_name own (codes "movi") ≡ a → (e.size == 0) ≡ b → Comes place 12 (own_came false (movi_enters place e) (riff_next place e.left) e.size own)
  named_heads e room at fits own true b p q = rw p (movi_passes e room at fits)
  named_heads e room at fits own false true p q = rw (p, q) tt
  named_heads e room at fits own false false p q =
      let n : 12 + (padded e.size - 4) ≡ 8 + padded e.size = omega (arith, room) in
      rw (p, q) (rw n (rw at (riff_passes (8 + padded e.size) fits)))

  riff_entry_heads : (e : Entry) → (is_name e.name (codes "LIST") ≡ true → 4 ≤ e.size) → e.left ≡ left - (8 + padded e.size) → 8 + padded e.size ≤ left → (a b : Bool) → is_name e.name (codes "LIST") ≡ a → is_frame place.names e.name ≡ b → Heads false place (riff_entry place e)
  riff_entry_heads e room at fits true b p q = rw p (λ own. named_heads e (room p) at fits own (is_name own (codes "movi")) (e.size == 0) refl refl)
  riff_entry_heads e room at fits false true p q = rw (p, q) tt
  riff_entry_heads e room at fits false false p q = rw (p, q) (rw at (riff_passes (8 + padded e.size) fits))

  sized_heads : (name : List ℕ) (size : ℕ) → Heads false place (sized_header place left name size)
  sized_heads name size = on_tests (nat_lt left (8 + padded size)) (is_name name (codes "LIST")) (nat_lt size 4) refl refl refl
    where
      e : Entry
      e = entry_of left name size

      entered : nat_lt left (8 + padded size) ≡ false → (is_name name (codes "LIST") ≡ true → 4 ≤ size) → Heads false place (riff_entry place e)
      entered q room = riff_entry_heads e room refl (ltb-false left (8 + padded size) q) (is_name name (codes "LIST")) (is_frame place.names name) refl refl

      on_tests : (b c d : Bool) → nat_lt left (8 + padded size) ≡ b → is_name name (codes "LIST") ≡ c → nat_lt size 4 ≡ d → Heads false place (sized_header place left name size)
      on_tests true c d q r s = rw q tt
      on_tests false true true q r s = rw (q, r, s) tt
      on_tests false true false q r s = rw (q, r, s) (rw r at (entered q (λ l. ltb-false size 4 s)))
      on_tests false false d q r s = rw (q, r) (rw r at (entered q (λ l. absurd (cc (r, l)))))

  -- a list movi without size
  sizeless_heads : is_open place.open_in ≡ true → (b : Bool) → nat_lt left 12 ≡ b → Heads false place (sizeless_header place left)
  sizeless_heads opened true p = rw p tt
  sizeless_heads opened false p = rw p (λ own. on_own own (is_name own (codes "movi")) refl)
    where
      enters : Place
      enters = open_at place OpenMovi (left - 11) 0

      on_riff : InRiff place left → Passes place 12 enters
      on_riff (inl (closed, is)) = absurd (cc (opened, closed))
      on_riff (inr (o, ended, is)) = passes_by place enters 12 (λ z. refl) (omega (arith, is, ended, none, ltb-false left 12 p)) (λ z. refl)

      on_own : (own : List ℕ) (b : Bool) → is_name own (codes "movi") ≡ b → Comes place 12 (own_came false enters place 0 own)
      on_own own true q = rw q (on_riff here)
      on_own own false q = rw q tt

  riff_heads : (name : List ℕ) (size : ℕ) (b : Bool) → is_unsized place name size ≡ b → Heads false place (riff_header place left name size)
  riff_heads name size false p = rw p (sized_heads name size)
  riff_heads name size true p = rw p (sizeless_heads (on_open (is_open place.open_in) refl) (nat_lt left 12) refl)
    where
      on_open : (o : Bool) → is_open place.open_in ≡ o → is_open place.open_in ≡ true
      on_open true q = q
      on_open false q = absurd (cc (rw q at p))

-- ---- an RIFF

riff_comes : (place : Place) (bytes : List ℕ) → place.movi ≡ 0 → place.riff ≡ 0 → (a b c d e f : Bool) → is_name (drop 4 bytes) (codes "AVIX") ≡ a → is_open place.open_in ≡ b → is_known (little_number 4 bytes) ≡ c → nat_le 4 (little_number 4 bytes) ≡ d → nat_lt (8 + little_number 4 bytes) place.input ≡ e → nat_lt 12 place.input ≡ f → Comes place 12 (riff_came place bytes)
riff_comes place bytes none ended false b c d e f p q r s t u = rw p tt
riff_comes place bytes none ended true true c d e true p q r s t u = rw (p, q, u) (passes_by place (open_at place OpenRiff (place.input - 12) 0) 12 (λ z. refl) (omega (arith, none, ended, ltb-true 12 place.input u)) (λ z. refl))
riff_comes place bytes none ended true true c d e false p q r s t u = rw (p, q, u) tt
riff_comes place bytes none ended true false false d e true p q r s t u = rw (p, q, r, u) (passes_by place (open_at place OpenRiff (place.input - 12) 0) 12 (λ z. refl) (omega (arith, none, ended, ltb-true 12 place.input u)) (λ z. refl))
riff_comes place bytes none ended true false false d e false p q r s t u = rw (p, q, r, u) tt
riff_comes place bytes none ended true false true false e f p q r s t u = rw (p, q, r, s) tt
riff_comes place bytes none ended true false true true false f p q r s t u = rw (p, q, r, s, t) tt
riff_comes place bytes none ended true false true true true f p q r s t u =
    let size : ℕ = little_number 4 bytes in
    rw (p, q, r, s, t) (passes_by place (riff_at place size) 12 (λ z. refl) (omega (arith, none, ended, leb-true 4 size s, ltb-true (8 + size) place.input t)) (λ z. absurd (cc (z))))

riff_here : (place : Place) (bytes : List ℕ) → place.movi ≡ 0 → place.riff ≡ 0 → Comes place 12 (riff_came place bytes)
riff_here place bytes none ended = riff_comes place bytes none ended (is_name (drop 4 bytes) (codes "AVIX")) (is_open place.open_in) (is_known (little_number 4 bytes)) (nat_le 4 (little_number 4 bytes)) (nat_lt (8 + little_number 4 bytes) place.input) (nat_lt 12 place.input) refl refl refl refl refl refl

-- ---- the next chunk

sized_takes : (in_movi : Bool) (place : Place) (left : ℕ) (text : List ℕ) → ((head : List ℕ) → Heads in_movi place (header_of in_movi place left head)) → (a b : Bool) → nat_lt left 8 ≡ a → nat_lt (length text) 8 ≡ b → Takes place (length text) (sized_turn in_movi place left text)
unfolding sized_turn
sized_takes in_movi place left text heads true b p q = rw p tt
sized_takes in_movi place left text heads false true p q = rw (p, q) tt
sized_takes in_movi place left text heads false false p q =
    let head : List ℕ = take 8 text in
    rw (p, q) (header_takes in_movi place (header_of in_movi place left head) (length text) head (drop 8 text) (omega (arith, ltb-false (length text) 8 q, length-drop 8 text)) (heads head))

-- in an RIFF or a movi without size
module _ (place : Place) (none : place.movi ≡ 0) (ended : place.riff ≡ 0) (opened : is_open place.open_in ≡ true) (some : place.input ≡ 0 → ⊥) where
  open_heads : (in_movi : Bool) (head : List ℕ) → Heads in_movi place (header_of in_movi place (place.input - 1) head)
  open_heads true head =
      let empty : nat_lt 0 place.movi ≡ false = rw none refl in
      movi_heads place (λ z. ended) (place.input - 1) (inr (empty, ended, omega (arith, some))) (take 4 head) (little_number 4 (drop 4 head))
  open_heads false head = riff_heads place none (place.input - 1) (inr (opened, ended, omega (arith, some))) (take 4 head) (little_number 4 (drop 4 head)) (is_unsized place (take 4 head) (little_number 4 (drop 4 head))) refl

  named_takes : (name text : List ℕ) (b : Bool) → nat_lt (length text) 4 ≡ b → Takes place (length text + 4) (named_turn place name text)
  unfolding named_turn
  named_takes name text true test = rw test tt
  named_takes name text false test =
      let head : List ℕ = name ++ take 4 text in
      let in_movi = goes_on place.open_in name in
      rw test (header_takes in_movi place (header_of in_movi place (place.input - 1) head) (length text + 4) head (drop 4 text) (omega (arith, ltb-false (length text) 4 test, length-drop 4 text)) (open_heads in_movi head))

  further_takes : (name text : List ℕ) (b : Bool) → nat_lt (length text) 8 ≡ b → Takes place (length text + 4) (further_turn place name text)
  unfolding further_turn
  further_takes name text true test = rw test tt
  further_takes name text false test =
      let more : List ℕ = take 8 text in
      rw test (came_takes place (riff_came place more) 12 (length text + 4) (name ++ more) (drop 8 text) (omega (arith, ltb-false (length text) 8 test, length-drop 8 text)) (riff_here place more none ended))

  on_name : (name text : List ℕ) (b : Bool) → is_name name (codes "RIFF") ≡ b → Takes place (length text + 4) (open_named_turn place name text)
  on_name name text true riff = rw riff (further_takes name text (nat_lt (length text) 8) refl)
  on_name name text false riff = rw riff (named_takes name text (nat_lt (length text) 4) refl)

  open_takes : (text : List ℕ) (a b c : Bool) → nat_lt (length text) 1 ≡ a → (place.owed == 0) ≡ b → nat_lt (length (drop 1 text)) 3 ≡ c → Takes place (length text) (open_turn place text)
  unfolding open_turn taken_or_end
  open_takes text true true c p owed q = rw (p, owed) none
  open_takes text true false c p owed q = rw (p, owed) tt
  open_takes text false b true p owed q = rw (p, q) tt
  open_takes text false b false p owed q =
      let name : List ℕ = take 1 text ++ take 3 (drop 1 text) in
      let rest : List ℕ = drop 3 (drop 1 text) in
      let long : length rest + 4 ≡ length text = omega (arith, ltb-false (length text) 1 p, ltb-false (length (drop 1 text)) 3 q, length-drop 1 text, length-drop 3 (drop 1 text)) in
      let P : ℕ → Type 0 = λ n. Takes place n (open_named_turn place name rest) in
      rw (p, q) (subst P long (on_name name rest (is_name name (codes "RIFF")) refl))

-- where an RIFF may begin
module _ (place : Place) (none : place.movi ≡ 0) (ended : place.riff ≡ 0) where
  entered_takes : (name text : List ℕ) (a b : Bool) → nat_lt (length text) 8 ≡ a → (place.owed == 0) ≡ b → Takes place (length text + 4) (entered_turn place name text)
  unfolding taken_or_end
  entered_takes name text true true p owed = rw (p, owed) none
  entered_takes name text true false p owed = rw (p, owed) tt
  entered_takes name text false b p owed =
      let more : List ℕ = take 8 text in
      rw p (came_takes place (riff_came place more) 12 (length text + 4) (name ++ more) (drop 8 text) (omega (arith, ltb-false (length text) 8 p, length-drop 8 text)) (riff_here place more none ended))

  begun_named : (name text : List ℕ) (a b c : Bool) → is_name name (codes "RIFF") ≡ a → begins_file name ≡ b → (place.owed == 0) ≡ c → Takes place (length text + 4) (begun_named_turn place name text)
  begun_named name text true b c riff file owed = rw riff (entered_takes name text (nat_lt (length text) 8) (place.owed == 0) refl refl)
  begun_named name text false true c riff file owed = rw (riff, file) tt
  begun_named name text false false true riff file owed = rw (riff, file, owed) none
  begun_named name text false false false riff file owed = rw (riff, file, owed) tt

  begun_takes : (text : List ℕ) (a b : Bool) → nat_lt (length text) 4 ≡ a → (place.owed == 0) ≡ b → Takes place (length text) (begun_turn place text)
  unfolding begun_turn taken_or_end
  begun_takes text true true p owed = rw (p, owed) none
  begun_takes text true false p owed = rw (p, owed) tt
  begun_takes text false b p owed =
      let name : List ℕ = take 4 text in
      let long : length (drop 4 text) + 4 ≡ length text = omega (arith, ltb-false (length text) 4 p, length-drop 4 text) in
      let P : ℕ → Type 0 = λ n. Takes place n (begun_named_turn place name (drop 4 text)) in
      rw p (subst P long (begun_named name (drop 4 text) (is_name name (codes "RIFF")) (begins_file name) (place.owed == 0) refl refl refl))

pub heard_takes : (place : Place) (text : List ℕ) → CountsInput place → (a b c d : Bool) → nat_lt 0 place.movi ≡ a → (place.input == 0) ≡ b → is_open place.open_in ≡ c → nat_lt 0 place.riff ≡ d → Takes place (length text) (heard_turn place text)
unfolding heard_turn
heard_takes place text counts true b c d movi input opened riff =
    rw movi (sized_takes true place place.movi text (λ head. movi_heads place counts place.movi (inl (movi, refl)) (take 4 head) (little_number 4 (drop 4 head))) (nat_lt place.movi 8) (nat_lt (length text) 8) refl refl)
heard_takes place text counts false true c d movi input opened riff = rw (movi, input) (omega (arith, ltb-false 0 place.movi movi))
heard_takes place text counts false false true d movi input opened riff =
    let none : place.movi ≡ 0 = omega (arith, ltb-false 0 place.movi movi) in
    rw (movi, input, opened) (open_takes place none (counts opened) opened (eqb-false place.input 0 input) text (nat_lt (length text) 1) (place.owed == 0) (nat_lt (length (drop 1 text)) 3) refl refl refl)
heard_takes place text counts false false false true movi input opened riff =
    let none : place.movi ≡ 0 = omega (arith, ltb-false 0 place.movi movi) in
    rw (movi, input, opened, riff) (sized_takes false place place.riff text (λ head. riff_heads place none place.riff (inl (opened, refl)) (take 4 head) (little_number 4 (drop 4 head)) (is_unsized place (take 4 head) (little_number 4 (drop 4 head))) refl) (nat_lt place.riff 8) (nat_lt (length text) 8) refl refl)
heard_takes place text counts false false false false movi input opened riff =
    let none : place.movi ≡ 0 = omega (arith, ltb-false 0 place.movi movi) in
    let ended : place.riff ≡ 0 = omega (arith, ltb-false 0 place.riff riff) in
    rw (movi, input, opened, riff) (begun_takes place none ended text (nat_lt (length text) 4) (place.owed == 0) refl refl)
