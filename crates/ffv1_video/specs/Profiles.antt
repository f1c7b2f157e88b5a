-- How a file is read, and up to which depth samples are, by the profile.
use Rattle.std.specs.Prelude.{ℕ}
use Rattle.ffv1_files.specs.declared.container.Scope.{Scope}
use Rattle.ffv1_files.specs.declared.container.Scope.TheVariants.{FirstMovi, Whole}
use Rattle.ffv1_record.specs.Accepted.{deepest}
use Rattle.ffv1_record.specs.declared.config.Profile.{Profile as RecordProfile}
use Rattle.ffv1_record.specs.declared.config.Profile.TheVariants as of_record
use Rattle.ffv1_video.specs.declared.profile.Profile.{Profile}
use Rattle.ffv1_video.specs.declared.profile.Profile.TheVariants.{Strict, Wide}
use Rattle.std.specs.Prelude.{Bool, false}

-- how far a file is read
abbrev pub scope_in : Profile → Scope
scope_in Strict = FirstMovi
scope_in Wide = Whole

-- the profile of its record and of the heads of its slices
abbrev pub record_profile : Profile → RecordProfile
record_profile Strict = of_record.Strict
record_profile Wide = of_record.Wide

-- the greatest depth of samples that are read and packed, in bits: 8, or 16
abbrev pub greatest_depth : Profile → ℕ
greatest_depth profile = deepest (record_profile profile) 16

-- the byte at which a file is at fault is told with the place of a payload's fault, if all of
-- a file is read
abbrev pub byte_told : Profile → Bool → Bool
byte_told Strict place = false
byte_told Wide place = place
