-- A turn meets no fault.
use Rattle.std.proofs.Common.{◌≡◌, ◌+◌, ◌++◌, ℕ, suc, zero, nat_lt, ◌||◌, Bool, true, false, List, length, take, drop, Option, Result, Ok, Err, refl}
use Rattle.ffv1_reads.specs.declared.fault.FileFault.{FileFault}
use Rattle.ffv1_reads.specs.Reads.{Looked, Met, Short, Stop, Want, given, read_on}
use Rattle.ffv1_avi.specs.Opens.{Step}
use Rattle.ffv1_avi.specs.Turns.{Found, begins_index, begins_sized, chunk_of, chunk_turn, heard_in, passed_turn, seek_turn, sought, sought_from, step_read, turn_read}
use Rattle.ffv1_avi.specs.declared.course.Pending.{Pending}
use Rattle.ffv1_avi.specs.declared.course.Pending.TheVariants as pending
use Rattle.ffv1_avi.specs.declared.course.Turn.{Turn}
use Rattle.ffv1_avi.specs.declared.place.Names.{Names}
use Rattle.ffv1_avi.specs.declared.place.Place.{Place}

-- it has no fault
abbrev pub MeetsNo : {X : Type 0} → Result (X × List ℕ) Stop → Type 0
MeetsNo z = (f : FileFault) (rest : List ℕ) → z ≡ Err (Met f rest) → ⊥

short_none : {X : Type 0} (w : Want) (f : FileFault) (rest : List ℕ) → ◌≡◌ {A = Result (X × List ℕ) Stop} (Err (Short w)) (Err (Met f rest)) → ⊥
short_none w f rest is = let both : ◌≡◌ {A = Stop} (Short w) (Met f rest) = cc (is) in absurd (cc)

chunk_none : (place : Place) (text : List ℕ) → MeetsNo (chunk_turn place text)
unfolding chunk_turn
chunk_none place text f rest is = on_step (step_read place text) is
  where
    on_step : (z : Result (Option Step × List ℕ) Stop) → read_on (heard_in text z) (λ r. given (chunk_of place r)) ≡ Err (Met f rest) → ⊥
    on_step (Ok p) is = absurd (cc)
    on_step (Err (Met g more)) is = absurd (cc)
    on_step (Err (Short w)) is = short_none {X = Option Turn} w f rest is

passed_no : (count : ℕ) (seeks : Bool) (place : Place) (text : List ℕ) → MeetsNo (passed_turn count seeks place text)
passed_no count seeks place text f rest is = on_test (nat_lt (length text) count) refl
  where
    on_test : (b : Bool) → nat_lt (length text) count ≡ b → ⊥
    on_test true test = short_none {X = Option Turn} Looked f rest (rw test at is)
    on_test false test = absurd (cc (rw test at is))

sought_no : (most : ℕ) (names : Names) (count : ℕ) (text : List ℕ) → MeetsNo (sought_from most names count text)
unfolding sought_from
sought_no zero names count text f rest is = absurd (cc)
sought_no (suc most) names count text f rest is = on_test (λ next. sought_no most names (count + 1) (drop 1 text) f rest next) (nat_lt (length text) 8) (begins_sized names (take 8 text) || begins_index (take 8 text)) refl refl
  where
    on_test : (sought_from most names (count + 1) (drop 1 text) ≡ Err (Met f rest) → ⊥) → (a b : Bool) → nat_lt (length text) 8 ≡ a → (begins_sized names (take 8 text) || begins_index (take 8 text)) ≡ b → ⊥
    on_test on true b p q = absurd (cc (rw p at is))
    on_test on false true p q = absurd (cc (rw (p, q) at is))
    on_test on false false p q = on (rw (p, q) at is)

seek_no : (window : List ℕ) (place : Place) (text : List ℕ) → MeetsNo (seek_turn window place text)
unfolding seek_turn
seek_no window place text f rest is = on_found (sought place.names (window ++ text)) refl
  where
    on_found : (z : Result (Option Found × List ℕ) Stop) → sought place.names (window ++ text) ≡ z → ⊥
    on_found (Ok p) found = absurd (cc (rw found at is))
    on_found (Err (Met g more)) found = sought_no _ place.names 0 (window ++ text) g more found
    on_found (Err (Short w)) found = short_none {X = Option Turn} w f rest (rw found at is)

pub turn_meets_none : (p : Pending) (place : Place) (text rest : List ℕ) (f : FileFault) → turn_read p place text ≡ Err (Met f rest) → ⊥
unfolding turn_read
turn_meets_none pending.Nothing place text rest f is = chunk_none place text f rest is
turn_meets_none (pending.Passing count seeks) place text rest f is = passed_no count seeks place text f rest is
turn_meets_none (pending.Seeking window) place text rest f is = seek_no window place text f rest is
