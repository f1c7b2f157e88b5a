-- How far past its end a slice may be read. RFC 9043, 3.8.1.1, has no end: bytes after it are read
-- as 0. A decoder reads two bytes, and one more each time it renormalises.
use Rattle.std.specs.Prelude.{◌≡◌, ℕ, ◌-◌, ◌<◌, ◌≤◌, List, [], length}
use Rattle.ffv1_range.specs.Interval.{interval_of}
use Rattle.ffv1_range.specs.Table.{Table}
use Rattle.ffv1_range.specs.Symbols.{Step}
use Rattle.ffv1_range.specs.History.{decisions_after}
use Rattle.ffv1_record.specs.declared.config.Profile.TheVariants as profile
use Rattle.ffv1_record.specs.Accepted.{Accepted}

-- how often a coder renormalised after these steps of a slice
abbrev pub renormalisations_of : Table → List Step → ℕ
renormalisations_of t past = (interval_of (decisions_after t [] past)).count - 2

-- in Wide no more often than the slice has coded bytes: it was read at most two bytes past its end
pub record IsWithin (a : Accepted) (bytes : List ℕ) (past : List Step) : Type 0 where
  pub few : a.profile ≡ profile.Wide → renormalisations_of a.table past ≤ length bytes

-- in Wide more often
pub record IsOverread (a : Accepted) (bytes : List ℕ) (past : List Step) : Type 0 where
  pub wide : a.profile ≡ profile.Wide
  pub more : length bytes < renormalisations_of a.table past
