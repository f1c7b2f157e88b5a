-- Reading symbol by symbol: what is read next, and which fault is met first.
use Rattle.std.specs.Prelude.{◌≡◌, ◌⊎◌, ℕ, ◌+◌, ◌<◌, ◌^◌, nat_le, ◌&&◌, Bool, true, false, List}
use Rattle.std.specs.Prelude.{◌++◌, ℤ, unsigned_abs, Result, Ok, Err}
use Rattle.ffv1_range.specs.Table.{Table}
use Rattle.ffv1_range.specs.Deltas.{IsTableOf}
use Rattle.ffv1_range.specs.Symbols.{Step, shifted, too_long}
use Rattle.ffv1_record.specs.declared.fault.RecordFault.{RecordFault}
use Rattle.ffv1_record.specs.declared.fault.RecordFault.TheVariants as fault
use Rattle.ffv1_record.specs.Record.{IsCoded, number_steps, signed_number_steps, truth_steps}

-- where a reader stands: the steps that were read, and the first slot of the next quantisation
-- table
pub record Spot : Type 0 where
  pub past : List Step
  pub fresh : ℕ

-- the same after some more steps
abbrev pub behind : Spot → List Step → Spot
behind s steps = record { past = s.past ++ steps; fresh = s.fresh }

-- what is read from bytes at a spot: a value and the spot after it, or the first fault
abbrev pub Reader : Type 0 → Type 1
Reader X = List ℕ → Spot → Result (X × Spot) RecordFault → Type 0

-- one value, and then what follows by it; or the first's fault
pub record Then {X Y : Type 0} (first : Reader X) (next : X →
    Reader Y) (b : List ℕ) (s : Spot) (out : Result (Y × Spot) RecordFault) : Type 0 where
  pub either : ((x : X) × (t : Spot) × first b s (Ok (x, t)) × next x b t out)
      ⊎ ((f : RecordFault) × first b s (Err f) × (out ≡ Err f))

infixl 10 ◌>>=◌
abbrev pub ◌>>=◌ : {X Y : Type 0} → Reader X → (X → Reader Y) → Reader Y
◌>>=◌ first next b s out = Then first next b s out

-- a value without a symbol
unfoldable pub done : {X : Type 0} → X → Reader X
done x bytes s out = out ≡ Ok (x, s)

-- a fault unless a test holds
unfoldable pub require : Bool → RecordFault → Reader Bool
require true f bytes s out = out ≡ Ok (true, s)
require false f bytes s out = out ≡ Err f

-- the first slot of the next quantisation table
unfoldable pub next_table : Reader ℕ
next_table bytes s out = out ≡ Ok (s.fresh, record { past = s.past; fresh = s.fresh + 32 })

-- the symbol of a number that the bytes code next, by the states at these slots
unfoldable pub number : ℕ → Reader ℕ
number base bytes s out =
    ((n : ℕ) × (n < 2 ^ 31) × IsCoded bytes (s.past ++ number_steps base n)
    × (out ≡ Ok (n, behind s (number_steps base n))))
    ⊎ (IsCoded bytes (s.past ++ shifted base too_long) × (out ≡ Err fault.SymbolTooLong))

-- that of a signed number
unfoldable pub signed_number : Reader ℤ
signed_number bytes s out =
    ((v : ℤ) × (unsigned_abs v < 2 ^ 31) × IsCoded bytes (s.past ++ signed_number_steps v)
    × (out ≡ Ok (v, behind s (signed_number_steps v))))
    ⊎ (IsCoded bytes (s.past ++ shifted 0 too_long) × (out ≡ Err fault.SymbolTooLong))

-- the truth value that they code next
unfoldable pub truth : Reader Bool
truth bytes s out = (b : Bool) × IsCoded bytes (s.past ++ truth_steps b)
    × (out ≡ Ok (b, behind s (truth_steps b)))

-- a number from least to most, or a fault
abbrev pub number_within : ℕ → ℕ → ℕ → RecordFault → Reader ℕ
number_within base least most f = do
  n ← number base
  _ ← require (nat_le least n && nat_le n most) f
  done n

-- deltas that make a table, or a fault
unfoldable pub makes_table : List ℤ → Reader Bool
makes_table deltas bytes s out =
    (((t : Table) × IsTableOf deltas t) × (out ≡ Ok (true, s)))
    ⊎ (((t : Table) → IsTableOf deltas t → ⊥) × (out ≡ Err fault.StateTable))
