-- The beginning of an input that is kept while it is read.
use Rattle.std.specs.Prelude.{◌≡◌, ◌≤◌, ◌<◌, ◌⊎◌, ℕ, ◌^◌, Bool, true, false, List, drop, length}
use Rattle.std.specs.Prelude.{take}
use Rattle.std.specs.Prelude.{Option, Some, None, ⊤}
use Rattle.std.specs.Io.KnownBytes.{prepend_known}
use Rattle.ffv1_wire.specs.Failures.{one_more}
use Rattle.ffv1_outline.specs.declared.beginning.Beginning.{Beginning}
use Rattle.ffv1_outline.specs.declared.beginning.BeginningStart.{BeginningStart}

-- the bytes that are kept
abbrev pub kept : {R : Type 0} → Beginning R → List ℕ
kept b = b.bytes.now

-- the reader that gives the bytes after them
abbrev pub inner_of : {R : Type 0} → Beginning R → R
inner_of b = b.inner

-- a read failed after them, and is to fail once more there
abbrev pub is_broken : {R : Type 0} → Beginning R → Bool
is_broken b = b.fails

-- how many reads failed, modulo 2 ^ 64
abbrev pub failures_of : {R : Type 0} → Beginning R → ℕ
failures_of b = b.failures

-- the bytes that reads will give, by what shows those of the reader inside
abbrev pub left_of : {R : Type 0} → (R → Option (List ℕ)) → Beginning R → Option (List ℕ)
left_of remaining b = prepend_known (drop b.given b.bytes.now) (remaining b.inner)

-- the most bytes that are kept
abbrev pub most : ℕ
most = 2 ^ 20

-- of bytes that are known the first ones are kept, or all if there are fewer; and fewer if a read
-- failed
abbrev pub IsBeginning : Option (List ℕ) → Bool → List ℕ → Type 0
IsBeginning None failed bytes = ⊤
IsBeginning (Some text) false bytes = bytes ≡ take most text
IsBeginning (Some text) true bytes = (n : ℕ) × (n < most) × (bytes ≡ take n text)

-- how many reads failed in all, if one more may have failed
abbrev pub failures_behind : Bool → ℕ → ℕ
failures_behind false before = before
failures_behind true before = one_more before

-- a read fails where the kept bytes end: once, if a read of the reader inside failed there before;
-- or since one does now
abbrev pub Fails : {R : Type 0} → (R → ℕ) → Beginning R → Beginning R → Type 0
Fails failures old new =
    (length old.bytes.now ≤ old.given) × (new.fails ≡ false)
    × ((old.fails ≡ true) ⊎ (failures new.inner ≡ one_more (failures old.inner)))

-- a read that gives bytes, or none at the end: none failed for it, and the one that failed where
-- the kept bytes end is not passed over
abbrev pub Gives : {R : Type 0} → (R → ℕ) → Beginning R → Beginning R → Type 0
Gives failures old new =
    (new.fails ≡ old.fails) × (length old.bytes.now ≤ old.given → old.fails ≡ false)
    × (failures new.inner ≡ failures old.inner)

-- where a reader stands, as it is kept: among which bytes, how many of them were given, and whether
-- a read is to fail where they end
abbrev pub StandsAt : {R S : Type 0} → Beginning R → BeginningStart S → Type 0
StandsAt b start =
    (start.bytes.now ≡ b.bytes.now) × (start.given ≡ b.given) × (start.fails ≡ b.fails)

-- the bytes that reads gave from there on, by what shows those of the reader inside
abbrev pub whole_of : {S : Type 0} → (S → Option (List ℕ)) → BeginningStart S → Option (List ℕ)
whole_of whole start = prepend_known (drop start.given start.bytes.now) (whole start.inner)

-- it stays where it stood
abbrev pub StaysThere : {R : Type 0} → Beginning R → Beginning R → Type 0
StaysThere old new =
    (new.bytes.now ≡ old.bytes.now) × (new.given ≡ old.given) × (new.fails ≡ old.fails)
