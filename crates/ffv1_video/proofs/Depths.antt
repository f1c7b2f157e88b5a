-- Depths: the greatest one of a profile, and what a sample of a depth takes.
use Rattle.std.specs.Prelude.{◌≡◌, ◌≤◌, ◌⊎◌, ◌==◌, ◌*◌, ℕ, Bool, true, false, IsTrue, if◌then◌else◌}
use Rattle.std.proofs.Common.{ap, arith, refl, subst, inl, inr}
use Rattle.std.proofs.lemmas.Bool.Decides.{nat_tests}
use Rattle.ffv1_samples.specs.Samples.{sample_bytes}
use Rattle.ffv1_y4m.specs.Ppm.{bytes_for}
use Rattle.ffv1_record.specs.Accepted.{IsFirstIn, IsFirstUpTo, IsFirstWhere, checks, has_depth, is_depth}
use Rattle.ffv1_record.specs.Configuration.{Configuration}
use Rattle.ffv1_record.specs.declared.config.Profile.{Profile as RecordProfile}
use Rattle.ffv1_record.specs.declared.fault.RecordFault.{RecordFault}
use Rattle.ffv1_record.specs.declared.fault.RecordFault.TheVariants as record_fault
use Rattle.ffv1_video.specs.declared.profile.Profile.{Profile}
use Rattle.ffv1_video.specs.declared.profile.Profile.TheVariants.{Strict, Wide}
use Rattle.ffv1_video.specs.Profiles.{greatest_depth}

within : (most n : ℕ) → IsTrue (is_depth most n) → n ≤ most
within most n h = grind (arith, nat_tests)

-- a configuration has at most the greatest depth
pub depth_within : (most : ℕ) (c : Configuration) → IsTrue (has_depth most c) → c.depth ≤ most
depth_within most c h = within most c.depth h

-- 16 is the greatest depth of all
pub all_within : (profile : Profile) (n : ℕ) → n ≤ greatest_depth profile → n ≤ 16
all_within Strict n h = let few : n ≤ 8 = h in omega (arith, few)
all_within Wide n h = h

-- 8 bits are read in each profile
pub eight_within : (profile : Profile) (n : ℕ) → n ≡ 8 → n ≤ greatest_depth profile
eight_within Strict n h = let few : n ≤ 8 = omega (arith, h) in few
eight_within Wide n h = let few : n ≤ 16 = omega (arith, h) in few

-- a configuration of a depth up to the greatest is refused for its first check, or for its depth
first_where : (p : RecordProfile) (b : Bool) (c : Configuration) (f : RecordFault) → IsFirstWhere p b c f → IsFirstIn p checks c f ⊎ (f ≡ record_fault.Depth)
first_where p true c f h = inl h
first_where p false c f (inl size) = inl (inl size)
first_where p false c f (inr depth) = inr depth.1

pub first_or_depth : (p : RecordProfile) (most : ℕ) (c : Configuration) (f : RecordFault) → IsFirstUpTo p most c f → IsFirstIn p checks c f ⊎ (f ≡ record_fault.Depth)
first_or_depth p most c f h = first_where p (has_depth most c) c f h

-- at 8 bits it is no depth that is refused
pub first_of_eight : (p : RecordProfile) (c : Configuration) (f : RecordFault) → c.depth ≡ 8 → IsFirstUpTo p 8 c f → IsFirstIn p checks c f
first_of_eight p c f deep h =
    let has : has_depth 8 c ≡ true = ap (λ n. is_depth 8 n) deep in
    subst (λ b. IsFirstWhere p b c f) has h

-- the bytes of so many samples
bytes_by : (b : Bool) (n : ℕ) → (if b then 1 else 2) * n ≡ (if b then n else 2 * n)
bytes_by true n = omega arith
bytes_by false n = refl

pub bytes_are : (depth n : ℕ) → sample_bytes depth * n ≡ bytes_for depth n
bytes_are depth n = bytes_by (depth == 8) n
