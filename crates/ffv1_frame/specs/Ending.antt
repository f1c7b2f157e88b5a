-- Where a slice ends. RFC 9043, 3.8.1.1.1: one more decision by state 129 comes at its end, and if
-- its length is known it is 0.
use Rattle.std.specs.Prelude.{◌≡◌, ℕ, ◌*◌, Bool, List, [], ◌∷◌, ◌++◌, drop}
use Rattle.ffv1_range.specs.Interval.{Decision, interval_of}
use Rattle.ffv1_range.specs.Codes.{Codes}
use Rattle.ffv1_range.specs.Ending.{IsEnded}
use Rattle.ffv1_range.specs.Symbols.{Step}
use Rattle.ffv1_range.specs.History.{decisions_after}
use Rattle.ffv1_record.specs.declared.config.Profile.TheVariants as profile
use Rattle.ffv1_record.specs.Accepted.{Accepted}
use Rattle.ffv1_range.specs.Ending.{bits_place}
use Rattle.ffv1_record.specs.Accepted.{is_rice}
use Rattle.ffv1_rice.specs.Bits.{IsPadding}
use Rattle.ffv1_rice.specs.Bits as bits
use Rattle.ffv1_frame.specs.RiceLines.{ByCoder}
use Rattle.ffv1_frame.specs.Overread.{IsWithin}

-- in Wide the bytes of a slice end what was decided in it
pub record HasEnding (a : Accepted) (bytes : List ℕ) (past : List Step) : Type 0 where
  pub ended : a.profile ≡ profile.Wide →
      IsEnded bytes (interval_of (decisions_after a.table [] past))

-- in Wide they do not
pub record LacksEnding (a : Accepted) (bytes : List ℕ) (past : List Step) : Type 0 where
  pub wide : a.profile ≡ profile.Wide
  pub goes_on : IsEnded bytes (interval_of (decisions_after a.table [] past)) → ⊥

-- what was decided in a slice, and one more decision by state 129, which is not used
abbrev pub sealed_by : Accepted → List Step → Bool → List Decision
sealed_by a past bit =
    decisions_after a.table [] past ++ (record { state = 129; bit = bit } ∷ [])

-- the bits behind what was decided in a slice, and behind that decision: they begin at the byte
-- that a coder read last
pub record IsBehind (a : Accepted) (bytes : List ℕ) (past : List Step) (text : List Bool)
    : Type 0 where
  pub unused : Bool
  pub codes : Codes bytes (sealed_by a past unused)
  pub is : text ≡ drop (8 * bits_place (interval_of (sealed_by a past unused)))
      (bits.bits_of bytes)

-- of these so many were read, and then come zeros to the end of a byte, and nothing behind them
pub record HasPadding (a : Accepted) (bytes : List ℕ) (past : List Step) (read : List Bool)
    : Type 0 where
  pub within : IsWithin a bytes past
  pub rest : List Bool
  pub behind : IsBehind a bytes past (read ++ rest)
  pub padding : IsPadding rest

-- so many were read, and something else comes
pub record LacksPadding (a : Accepted) (bytes : List ℕ) (past : List Step) (read : List Bool)
    : Type 0 where
  pub rest : List Bool
  pub behind : IsBehind a bytes past (read ++ rest)
  pub other : IsPadding rest → ⊥

-- the bytes of a slice end after these decisions and these bits, or they do not
abbrev pub SliceEnds : Accepted → List ℕ → List Step → List Bool → Type 0
SliceEnds a bytes past read =
    ByCoder (is_rice a.configuration.coder) (HasEnding a bytes past) (HasPadding a bytes past read)

abbrev pub SliceGoesOn : Accepted → List ℕ → List Step → List Bool → Type 0
SliceGoesOn a bytes past read =
    ByCoder (is_rice a.configuration.coder) (LacksEnding a bytes past)
    (LacksPadding a bytes past read)
