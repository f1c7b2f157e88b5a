-- What a call that reads leaves of a decoder, and one that writes of an encoder, after any steps
-- of a slice at other slots.
use Rattle.std.specs.Prelude.{◌≡◌, ◌⊎◌, ◌*◌, ◌<◌, ℕ, IsTrue, true, List, [], ◌++◌, replicate}
use Rattle.ffv1_range.specs.Interval.{Interval, narrow, interval_of}
use Rattle.ffv1_range.specs.Codes.{AreBytes}
use Rattle.ffv1_range.specs.Table.{Table}
use Rattle.ffv1_range.specs.Reading.{Reading, At}
use Rattle.ffv1_range.specs.Writing.{Writing}
use Rattle.ffv1_range.specs.Puts.{MayBeRefused}
use Rattle.ffv1_range.specs.Symbols.{Step, shifted}
use Rattle.ffv1_range.specs.History.{decisions_after, AreOutside}
use Rattle.ffv1_range.specs.Counts.{Counted}
use Rattle.ffv1_record.specs.Accepted.{Accepted}
use Rattle.ffv1_slice.specs.declared.fault.SliceFault.{SliceFault}
use Rattle.ffv1_slice.specs.declared.head.SliceHead.{SliceHead}
use Rattle.ffv1_slice.specs.Head.{Stops, head_rules, head_steps, head_values, values_steps}
use Rattle.ffv1_slice.specs.Head.{key_steps, no_key}
use Rattle.ffv1_slice.specs.Head.{CodesKey, RefusesKey, CodesHead, RefusesHead}

-- the interval of these steps, by the states of their history
abbrev pub interval_behind : Table → List Step → Interval
interval_behind t past = interval_of (decisions_after t [] past)

-- the decoder stands after these steps
abbrev pub StandsAfter : Reading → Table → List Step → Type 0
StandsAfter r t past = At r (interval_behind t past)

-- the decoder read these steps, whose slots are the count from base on, each for the first time
pub record ReadsAt (t : Table) (base count : ℕ) (old new : Reading) (steps : List Step)
    : Type 0 where
  pub bytes : new.bytes ≡ old.bytes
  pub at : (past : List Step) → AreOutside past base count →
      StandsAfter old t past → StandsAfter new t (past ++ steps)
  pub counts : Counted old.counts steps new.counts

-- the encoder put them
pub record PutsAt (t : Table) (base count : ℕ) (old new : Writing) (steps : List Step)
    : Type 0 where
  pub interval : (past : List Step) → AreOutside past base count →
      old.interval ≡ interval_behind t past → new.interval ≡ interval_behind t (past ++ steps)
  pub counts : Counted old.counts steps new.counts
  pub failed : new.failed ≡ old.failed

-- a slice of pictures of a configuration
abbrev pub IsSlice : Accepted → ℕ → Type 0
IsSlice a n = n < a.configuration.columns * a.configuration.rows

-- the key of slice n was read, or put; or a keyframe of 0 was read in its place
abbrev pub ReadsKey : Accepted → ℕ → Reading → Reading → Type 0
ReadsKey a n old new = ReadsAt a.table 0 1 old new (key_steps n)

abbrev pub PutsKey : Accepted → ℕ → Writing → Writing → Type 0
PutsKey a n old new = PutsAt a.table 0 1 old new (key_steps n)

abbrev pub ReadsNoKey : Accepted → Reading → Reading → Type 0
ReadsNoKey a old new = ReadsAt a.table 0 1 old new no_key

-- why memory may be refused for a key, and for a head, by fresh states: the encoder had failed
-- before, or its bytes are to grow
abbrev pub MayRefuseKey : Writing → Type 0
MayRefuseKey old = IsTrue old.failed ⊎ (old.interval.count < (narrow old.interval 128 true).count)

abbrev pub MayRefuseHead : Accepted → ℕ → Writing → SliceHead → Type 0
MayRefuseHead a n old h =
    MayBeRefused a.table old (replicate 32 128) (values_steps (head_values a.configuration n h))

-- the head of slice n was read, or put; or symbols were read in its place, up to the one that is
-- refused
abbrev pub ReadsHead : Accepted → ℕ → Reading → Reading → SliceHead → Type 0
ReadsHead a n old new h = ReadsAt a.table 1 32 old new (head_steps a.configuration n h)

abbrev pub PutsHead : Accepted → ℕ → Writing → Writing → SliceHead → Type 0
PutsHead a n old new h = PutsAt a.table 1 32 old new (head_steps a.configuration n h)

abbrev pub StopsInHead : Accepted → ℕ → Reading → Reading → SliceFault → Type 0
StopsInHead a n old new f =
    (steps : List Step) × Stops (head_rules a.profile a.configuration n) 0 f steps
    × ReadsAt a.table 1 32 old new (shifted 1 steps)

-- the decoder stands where slice n begins, of bytes that code its key or refuse it
abbrev pub BeginsByKey : Accepted → ℕ → Reading → Type 0
BeginsByKey a n r = AreBytes r.bytes × StandsAfter r a.table [] × CodesKey r.bytes a.table n

abbrev pub BeginsWithoutKey : Accepted → ℕ → Reading → Type 0
BeginsWithoutKey a n r = StandsAfter r a.table [] → RefusesKey r.bytes a.table n

-- the decoder stands after the key of slice n
abbrev pub StandsAtHead : Accepted → ℕ → Reading → Type 0
StandsAtHead a n r = StandsAfter r a.table (key_steps n)

-- if it does, its bytes code this head; or they are refused so
abbrev pub FindsHead : Accepted → ℕ → Reading → SliceHead → Type 0
FindsHead a n r h = StandsAtHead a n r → CodesHead r.bytes a.table a.profile a.configuration n h

abbrev pub MissesHead : Accepted → ℕ → Reading → SliceFault → Type 0
MissesHead a n r f =
    StandsAtHead a n r →
    (steps : List Step) × RefusesHead r.bytes a.table a.profile a.configuration n f steps

-- it stands there, of bytes that code this head
pub record IsAtHead (a : Accepted) (n : ℕ) (r : Reading) (h : SliceHead) : Type 0 where
  pub bytes : AreBytes r.bytes
  pub behind : StandsAtHead a n r
  pub codes : CodesHead r.bytes a.table a.profile a.configuration n h
