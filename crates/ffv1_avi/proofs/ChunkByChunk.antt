-- A walk, chunk by chunk.
use Rattle.std.proofs.Common.{◌≡◌, ℕ, suc, zero, ◌+◌, ◌≤◌, ◌&&◌, nat_lt, ◌==◌, Bool, true, false, Option, Some, None, Result, Ok, Err, List, length, take, drop, codes, ap, ◌∙◌, arith, refl}
use Rattle.std.proofs.lemmas.Bool.{ltb-false}
use Rattle.byteorder.specs.Endian.{little_number}
use Rattle.ffv1_avi.specs.declared.chunk.Entry.{Entry}
use Rattle.ffv1_reads.specs.declared.fault.FileFault.{FileFault}
use Rattle.ffv1_reads.specs.declared.fault.FileFault.TheVariants as fault
use Rattle.ffv1_reads.specs.Reads.{Stop, Read, Reading, Refused, read_on, ◌>>=◌}
use Rattle.ffv1_avi.specs.Padding.{padded}
use Rattle.ffv1_avi.specs.Walk.{Rule, Visit, plain, entry_in, entry_judged, entry_of, size_in, sizeless_judged, sizeless_or, entry_read, is_name, is_sizeless, resumed, visited, walk, walk_in, walk_up_to}
use Rattle.ffv1_reads.proofs.Results.{ok_is, read_on_twice, some_is}
use Rattle.ffv1_wire.specs.Passage.{between}
use Rattle.ffv1_reads.proofs.Answered.{Answered, answers_from, answers_last}
use Rattle.ffv1_reads.proofs.Reading.{Goes, goes_read, goes_refused, goes_same}

-- what the list has left after a chunk is less
sizeless_less : (left : ℕ) (name text : List ℕ) (e : Entry) (rest : List ℕ) (a : Bool) → nat_lt left 12 ≡ a → sizeless_judged left name text ≡ Ok (Some e, rest) → e.left + 8 ≤ left
sizeless_less left name text e rest true p h = absurd (cc (rw p at h))
sizeless_less left name text e rest false p h =
    let made : Entry = entry_of left name 0 in
    let found : Ok (Some made, text) ≡ Ok (Some e, rest) = rw p at h in
    let same : Some made ≡ Some e = ap (λ (z : Option Entry × List ℕ). z.0) (ok_is (Some made, text) (Some e, rest) found) in
    let behind : made.left ≡ e.left = ap (λ (z : Entry). z.left) (some_is made e same) in
    let room : 12 ≤ left = ltb-false _ _ p in
    omega (arith, behind, room)

fault_less : (rule : Rule) (left size : ℕ) (name text : List ℕ) (e : Entry) (rest : List ℕ) (f : FileFault) (b : Bool) → is_sizeless rule name size ≡ b → sizeless_or rule left name size f text ≡ Ok (Some e, rest) → e.left + 8 ≤ left
fault_less rule left size name text e rest f false u h = absurd (cc (rw u at h))
fault_less rule left size name text e rest f true u h = sizeless_less left name text e rest (nat_lt left 12) refl (rw u at h)

judged_less : (rule : Rule) (left size : ℕ) (name text : List ℕ) (e : Entry) (rest : List ℕ) (a b d : Bool) → rule.bars name ≡ d → nat_lt left (8 + padded size) ≡ a → (is_name name (codes "LIST") && nat_lt size 4) ≡ b → entry_judged rule left name size text ≡ Ok (Some e, rest) → e.left + 8 ≤ left
judged_less rule left size name text e rest a b true t p q h = absurd (cc (rw t at h))
judged_less rule left size name text e rest true b false t p q h = fault_less rule left size name text e rest fault.Truncated (is_sizeless rule name size) refl (rw (t, p) at h)
judged_less rule left size name text e rest false true false t p q h = fault_less rule left size name text e rest fault.NotAvi (is_sizeless rule name size) refl (rw (t, p, q) at h)
judged_less rule left size name text e rest false false false t p q h =
    let made : Entry = entry_of left name (size_in rule name size) in
    let found : Ok (Some made, text) ≡ Ok (Some e, rest) = rw (t, p, q) at h in
    let same : Some made ≡ Some e = ap (λ (z : Option Entry × List ℕ). z.0) (ok_is (Some made, text) (Some e, rest) found) in
    let behind : made.left ≡ e.left = ap (λ (z : Entry). z.left) (some_is made e same) in
    let room : 8 + padded size ≤ left = ltb-false _ _ p in
    omega (arith, behind, room)

entry_less : (rule : Rule) (left : ℕ) (text : List ℕ) (e : Entry) (rest : List ℕ) → entry_in rule left text ≡ Ok (Some e, rest) → e.left + 8 ≤ left
unfolding entry_in
entry_less rule left text e rest h = on_left (left == 0) (nat_lt left 8) (nat_lt (length text) 8) refl refl refl h
  where
    on_left : (a b c : Bool) → (left == 0) ≡ a → nat_lt left 8 ≡ b → nat_lt (length text) 8 ≡ c → entry_in rule left text ≡ Ok (Some e, rest) → e.left + 8 ≤ left
    on_left true b c p q r h =
        let none : Ok (None, text) ≡ Ok (Some e, rest) = rw p at h in
        let same : None ≡ Some e = ap (λ (z : Option Entry × List ℕ). z.0) (ok_is (None, text) (Some e, rest) none) in
        absurd (cc)
    on_left false true c p q r h = absurd (cc (rw (p, q) at h))
    on_left false false true p q r h = absurd (cc (rw (p, q, r) at h))
    on_left false false false p q r h = judged_less rule left (little_number 4 (drop 4 (take 8 text))) (take 4 (take 8 text)) (drop 8 text) e rest _ _ _ refl refl refl (rw (p, q, r) at h)

-- more chunks than there can be make no difference
walk_enough : {S Y : Type 0} (rule : Rule) (visit : Visit S Y) (f g left : ℕ) (s : S) (text : List ℕ) → left ≤ f → left ≤ g → walk_up_to rule visit f left s text ≡ walk_up_to rule visit g left s text
unfolding walk_up_to entry_in
walk_enough rule visit zero zero left s text h k = refl
walk_enough {S = S} {Y = Y} rule visit zero (suc g) left s text h k =
    let none : left ≡ 0 = omega (arith, h) in
    rw none refl
walk_enough {S = S} {Y = Y} rule visit (suc f) zero left s text h k =
    let none : left ≡ 0 = omega (arith, k) in
    rw none refl
walk_enough {S = S} {Y = Y} rule visit (suc f) (suc g) left s text h k = on_entry (λ l t rest. walk_enough rule visit f g l t rest) (entry_in rule left text) refl
  where
    Same : Type 0
    Same = (l : ℕ) (t : S) (rest : List ℕ) → l ≤ f → l ≤ g → walk_up_to rule visit f l t rest ≡ walk_up_to rule visit g l t rest

    on_visit : Same → (e : Entry) → e.left ≤ f → e.left ≤ g → (z : Result ((S × Option Y) × List ℕ) Stop) →
        read_on z (λ p. resumed (walk_up_to rule visit f e.left) p.0 p.1) ≡ read_on z (λ p. resumed (walk_up_to rule visit g e.left) p.0 p.1)
    on_visit same e less more (Err x) = refl
    on_visit same e less more (Ok ((t, Some y), rest)) = refl
    on_visit same e less more (Ok ((t, None), rest)) = same e.left t rest less more

    on_entry : Same → (z : Result (Option Entry × List ℕ) Stop) → entry_in rule left text ≡ z → read_on z (visited visit (walk_up_to rule visit f) s) ≡ read_on z (visited visit (walk_up_to rule visit g) s)
    on_entry same (Err x) is = refl
    on_entry same (Ok (None, rest)) is = refl
    on_entry same (Ok (Some e, rest)) is =
        let less = entry_less rule left text e rest is in
        on_visit same e (omega (arith, less, h)) (omega (arith, less, k)) (visit s e rest)

-- a walk is its first chunk, and the walk after it
pub walk_step_in : {S Y : Type 0} (rule : Rule) (visit : Visit S Y) (left : ℕ) (s : S) (text : List ℕ) → walk_in rule visit left s text ≡ (entry_in rule left >>= visited visit (walk_in rule visit) s) text
unfolding walk_up_to entry_in
walk_step_in rule visit zero s text = refl
walk_step_in {S = S} {Y = Y} rule visit (suc n) s text = on_entry (entry_in rule (suc n) text) refl
  where
    on_visit : (e : Entry) → e.left ≤ n → (z : Result ((S × Option Y) × List ℕ) Stop) →
        read_on z (λ p. resumed (walk_up_to rule visit n e.left) p.0 p.1) ≡ read_on z (λ p. resumed (walk_in rule visit e.left) p.0 p.1)
    on_visit e less (Err x) = refl
    on_visit e less (Ok ((t, Some y), rest)) = refl
    on_visit e less (Ok ((t, None), rest)) = walk_enough rule visit n e.left e.left t rest less (omega arith)

    on_entry : (z : Result (Option Entry × List ℕ) Stop) → entry_in rule (suc n) text ≡ z → read_on z (visited visit (walk_up_to rule visit n) s) ≡ read_on z (visited visit (walk_in rule visit) s)
    on_entry (Err x) is = refl
    on_entry (Ok (None, rest)) is = refl
    on_entry (Ok (Some e, rest)) is =
        let less = entry_less rule (suc n) text e rest is in
        on_visit e (omega (arith, less)) (visit s e rest)

-- the same in a list that bars no name
pub walk_step : {S Y : Type 0} (visit : Visit S Y) (left : ℕ) (s : S) (text : List ℕ) → walk visit left s text ≡ (entry_read left >>= visited visit (walk visit) s) text
walk_step visit left s text = walk_step_in plain visit left s text

-- what is read after a walk's first header
abbrev pub behind_entry : {S X Y : Type 0} → Rule → Visit S Y → S → (S × Option Y → Reading X) → Option Entry → Reading X
behind_entry rule visit s k e = visited visit (walk_in rule visit) s e >>= k

pub walk_then : {S X Y : Type 0} (rule : Rule) (visit : Visit S Y) (left : ℕ) (s : S) (k : S × Option Y → Reading X) (text : List ℕ) → (walk_in rule visit left s >>= k) text ≡ (entry_in rule left >>= behind_entry rule visit s k) text
walk_then rule visit left s k text = ap (λ z. read_on z k) (walk_step_in rule visit left s text) ∙ read_on_twice (entry_in rule left text) (visited visit (walk_in rule visit) s) k

-- what is read after a walk's first chunk
abbrev pub behind_chunk : {S X Y : Type 0} → Rule → Visit S Y → ℕ → (S × Option Y → Reading X) → S × Option Y → Reading X
behind_chunk rule visit left k p = resumed (walk_in rule visit left) p.0 p.1 >>= k

-- a call reads a header
pub goes_entry : {S X Y : Type 0} {whole : Reading X} {old now : Option (List ℕ)} {before after : ℕ} (rule : Rule) (visit : Visit S Y) (left : ℕ) (s : S) (k : S × Option Y → Reading X) (new : Option (List ℕ)) (last : ℕ) (e : Entry) →
    Goes whole old before (walk_in rule visit left s >>= k) now after → (last ≡ after) × Read (entry_in rule left) now new (Some e) → Goes whole old before (visit s e >>= behind_chunk rule visit e.left k) new last
goes_entry rule visit left s k new last e h read =
    let first = goes_read (entry_in rule left) (behind_entry rule visit s k) new last (Some e) (goes_same _ (entry_in rule left >>= behind_entry rule visit s k) (walk_then rule visit left s k) h) read in
    goes_same _ (visit s e >>= behind_chunk rule visit e.left k) (λ text. read_on_twice (visit s e text) (λ p. resumed (walk_in rule visit e.left) p.0 p.1) k) first

-- or finds the list's end
pub goes_end : {S X Y : Type 0} {whole : Reading X} {old now : Option (List ℕ)} {before after : ℕ} (rule : Rule) (visit : Visit S Y) (left : ℕ) (s : S) (k : S × Option Y → Reading X) (new : Option (List ℕ)) (last : ℕ) →
    Goes whole old before (walk_in rule visit left s >>= k) now after → (last ≡ after) × Read (entry_in rule left) now new None → Goes whole old before (k (s, None)) new last
goes_end rule visit left s k new last h read =
    goes_read (entry_in rule left) (behind_entry rule visit s k) new last None (goes_same _ (entry_in rule left >>= behind_entry rule visit s k) (walk_then rule visit left s k) h) read

-- or is refused
pub goes_no_entry : {S X Y : Type 0} {whole : Reading X} {old now : Option (List ℕ)} {before after : ℕ} (rule : Rule) (visit : Visit S Y) (left : ℕ) (s : S) (k : S × Option Y → Reading X) (new : Option (List ℕ)) (last : ℕ) (f : FileFault) →
    Goes whole old before (walk_in rule visit left s >>= k) now after → Refused (entry_in rule left) now new after last f → Refused whole old new before last f
goes_no_entry rule visit left s k new last f h why =
    goes_refused (entry_in rule left) (behind_entry rule visit s k) new last f (goes_same _ (entry_in rule left >>= behind_entry rule visit s k) (walk_then rule visit left s k) h) why

-- the same of what the call answers
pub answers_entry : {S X Y : Type 0} {whole : Reading X} {old now mid new : Option (List ℕ)} {before after next last : ℕ} {e : Entry} {result : Result X FileFault} (rule : Rule) (visit : Visit S Y) (left : ℕ) (s : S) (k : S × Option Y → Reading X) →
    Goes whole old before (walk_in rule visit left s >>= k) now after → (next ≡ after) × Read (entry_in rule left) now mid (Some e) → Answered (visit s e >>= behind_chunk rule visit e.left k) (between mid new next last) result → Answered whole (between old new before last) result
answers_entry {mid = mid} {next = next} {e = e} rule visit left s k h read answer = answers_from (goes_entry rule visit left s k mid next e h read) answer

pub answers_end : {S X Y : Type 0} {whole : Reading X} {old now mid new : Option (List ℕ)} {before after next last : ℕ} {result : Result X FileFault} (rule : Rule) (visit : Visit S Y) (left : ℕ) (s : S) (k : S × Option Y → Reading X) →
    Goes whole old before (walk_in rule visit left s >>= k) now after → (next ≡ after) × Read (entry_in rule left) now mid None → Answered (k (s, None)) (between mid new next last) result → Answered whole (between old new before last) result
answers_end {mid = mid} {next = next} rule visit left s k h read answer = answers_from (goes_end rule visit left s k mid next h read) answer

pub answers_no_entry : {S X Y : Type 0} {whole : Reading X} {old now new : Option (List ℕ)} {before after last : ℕ} {f : FileFault} (rule : Rule) (visit : Visit S Y) (left : ℕ) (s : S) (k : S × Option Y → Reading X) →
    Goes whole old before (walk_in rule visit left s >>= k) now after → Refused (entry_in rule left) now new after last f → Answered whole (between old new before last) (Err f)
answers_no_entry {whole = whole} {new = new} {last = last} {f = f} rule visit left s k h why = answers_last whole (goes_no_entry rule visit left s k new last f h why)
