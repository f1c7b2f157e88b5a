-- What a call answers that reads one thing after another, proved from its end: the readings that gave a value, one by one, and then the one that was refused, or what is given.
use Rattle.std.proofs.Common.{◌≡◌, ◌⊎◌, ◌<◌, ◌≤◌, ◌==◌, nat_lt, inl, inr, if◌then◌else◌, IsErrAnd, ℕ, Option, Result, Ok, Err, List, [], refl}
use Rattle.std.proofs.lemmas.Bool.{eq-eqb, le-ltb, lt-ltb, ne_eqb}
use Rattle.ffv1_wire.specs.Passage.{Passage, between}
use Rattle.ffv1_reads.specs.declared.fault.FileFault.{FileFault}
use Rattle.ffv1_reads.specs.Reads.{Answers, Read, Reading, Refused, given, refused, ◌>>=◌}
use Rattle.ffv1_reads.proofs.Causes.{OfBytes, OfEnd, cause, refused_by}
use Rattle.ffv1_reads.proofs.Reading.{Goes, consumes_none, faults_here, goes_last, goes_none, goes_read, goes_refused, goes_same}

-- a value that was read, or why none was, as a record, so that its arguments are found
pub record Answered {X : Type 0} (reading : Reading X) (p : Passage) (result : Result X FileFault) : Type 0 where
  pub said : Answers (λ (x : X). x) reading p result

-- the first reading was refused
pub answers_first : {X Z : Type 0} {p : Passage} {f : FileFault} (r : Reading Z) (k : Z → Reading X) → Refused r p.old p.new p.before p.after f → Answered (r >>= k) p (Err f)
answers_first {p = p} {f = f} r k why = record { said = goes_refused r k p.new p.after f (goes_none (r >>= k) p.old p.before) why }

-- it gave a value, and what comes next answers
pub answers_next : {X Z : Type 0} {r : Reading Z} {old mid new : Option (List ℕ)} {before now after : ℕ} {z : Z} {result : Result X FileFault} (k : Z → Reading X) →
    (now ≡ before) × Read r old mid z → Answered (k z) (between mid new now after) result → Answered (r >>= k) (between old new before after) result
answers_next {X = X} {r = r} {old = old} {mid = mid} {new = new} {before = before} {now = now} {after = after} {z = z} {result = result} k read next =
    record { said = goes_last (k z) (λ (x : X). x) new after result (goes_read r k mid now z (goes_none (r >>= k) old before) read) next.said }

-- what is read is another reading
pub answers_same : {X : Type 0} {r s : Reading X} {p : Passage} {result : Result X FileFault} → ((text : List ℕ) → r text ≡ s text) → Answered s p result → Answered r p result
answers_same {X = X} {r = r} {s = s} {p = p} {result = result} same h =
    record { said = goes_last s (λ (x : X). x) p.new p.after result (goes_same r s same (goes_none r p.old p.before)) h.said }

-- the last reading is refused
pub answers_last : {X : Type 0} {p : Passage} {f : FileFault} (r : Reading X) → Refused r p.old p.new p.before p.after f → Answered r p (Err f)
answers_last r why = record { said = why }

-- or gives a value
pub answers_whole : {X : Type 0} {r : Reading X} {old new : Option (List ℕ)} {before after : ℕ} {x : X} → (after ≡ before) × Read r old new x → Answered r (between old new before after) (Ok x)
answers_whole read = record { said = read }

-- a fault is met, of bytes
pub answers_refused : {X : Type 0} {old : Option (List ℕ)} {before : ℕ} (f : FileFault) → (cause f ≡ OfBytes) ⊎ (cause f ≡ OfEnd) → Answered (refused {X = X} f) (between old old before before) (Err f)
answers_refused {X = X} {old = old} f (inl is) = record { said = refused_by _ _ _ _ _ f (rw is (refl, faults_here X f old)) }
answers_refused {X = X} {old = old} f (inr is) = record { said = refused_by _ _ _ _ _ f (rw is (refl, inr (faults_here X f old))) }

-- a value is given
pub answers_given : {X : Type 0} {x : X} {old : Option (List ℕ)} {before : ℕ} → Answered (given x) (between old old before before) (Ok x)
answers_given {old = old} = record { said = (refl, record { bytes = []; consumed = consumes_none old; is = λ rest. refl }) }

-- a choice by a test
pub answers_less : {X : Type 0} {a b : ℕ} {r : Reading X} {p : Passage} {result : Result X FileFault} (s : Reading X) → a < b → Answered r p result → Answered (if nat_lt a b then r else s) p result
answers_less s less h = rw (lt-ltb _ _ less) h

pub answers_most : {X : Type 0} {a b : ℕ} {s : Reading X} {p : Passage} {result : Result X FileFault} (r : Reading X) → b ≤ a → Answered s p result → Answered (if nat_lt a b then r else s) p result
answers_most r most h = rw (le-ltb _ _ most) h

pub answers_equal : {X : Type 0} {a b : ℕ} {r : Reading X} {p : Passage} {result : Result X FileFault} (s : Reading X) → a ≡ b → Answered r p result → Answered (if a == b then r else s) p result
answers_equal s equal h = rw (eq-eqb _ _ equal) h

pub answers_differ : {X : Type 0} {a b : ℕ} {s : Reading X} {p : Passage} {result : Result X FileFault} (r : Reading X) → (a ≡ b → ⊥) → Answered s p result → Answered (if a == b then r else s) p result
answers_differ r differ h = rw (ne_eqb _ _ differ) h

-- what a call answers
pub answers_ok : {X : Type 0} {reading : Reading X} {old new : Option (List ℕ)} {before after : ℕ} {x : X} → Answered reading (between old new before after) (Ok x) → (after ≡ before) × Read reading old new x
answers_ok h = h.said

pub answers_fault : {X : Type 0} {old new : Option (List ℕ)} {before after : ℕ} (f : FileFault) (reading : Reading X) → Answered reading (between old new before after) (Err f) → Refused reading old new before after f
answers_fault f reading h = h.said

-- the same after a `?`
pub answers_err : {X Y : Type 0} {f : FileFault} (view : Y → X) (reading : Reading X) (p : Passage) (result : Result Y FileFault) → IsErrAnd result (λ e. e ≡ f) → Answered reading p (Err f) → Answers view reading p result
answers_err view reading p (Ok y) out h = absurd out
answers_err view reading p (Err e) out h = rw out h.said

-- what a last call answers, whatever it is
abbrev pub viewed : {X Y : Type 0} → (Y → X) → Result Y FileFault → Result X FileFault
viewed view (Ok y) = Ok (view y)
viewed view (Err f) = Err f

pub answers_tail : {X Y : Type 0} (view : Y → X) (reading : Reading X) (p : Passage) (result : Result Y FileFault) → Answers view reading p result → Answered reading p (viewed view result)
answers_tail view reading p (Ok y) h = record { said = h }
answers_tail view reading p (Err f) h = record { said = h }

pub answers_of : {X Y : Type 0} (view : Y → X) (reading : Reading X) (p : Passage) (result : Result Y FileFault) → Answered reading p (viewed view result) → Answers view reading p result
answers_of view reading p (Ok y) h = h.said
answers_of view reading p (Err f) h = h.said

-- what was read before leads here
pub answers_from : {X : Type 0} {whole rest : Reading X} {old now new : Option (List ℕ)} {before after last : ℕ} {result : Result X FileFault} → Goes whole old before rest now after → Answered rest (between now new after last) result → Answered whole (between old new before last) result
answers_from {X = X} {rest = rest} {new = new} {last = last} {result = result} goes h = record { said = goes_last rest (λ (x : X). x) new last result goes h.said }
