-- Frames that are not too long to be read.
use Rattle.std.specs.Prelude.{◌≡◌, ◌⊎◌, ℕ, ◌≤◌, ◌<◌, true, List, [], ◌∷◌, ◌++◌, length}
use Rattle.std.proofs.Common.{arith, refl, inl, inr}
use Rattle.ffv1_record.specs.declared.config.Profile.{Profile as RecordProfile}
use Rattle.ffv1_record.specs.declared.config.Profile.TheVariants as record_profiles
use Rattle.ffv1_pack.specs.Pack.{IsPackFault, is_pack_fault}
use Rattle.ffv1_video.specs.declared.fault.Fault.{Fault}
use Rattle.ffv1_reads.specs.declared.fault.FileFault.TheVariants as file_fault
use Rattle.ffv1_video.specs.declared.fault.Fault.TheVariants as fault
use Rattle.ffv1_pack.specs.Packing.{AreReadable, AreReadableIn, IsLongIn, most_frame}
use Rattle.ffv1_video.specs.Profiles.{record_profile}
use Rattle.ffv1_video.specs.declared.profile.Profile.{Profile}
use Rattle.ffv1_video.specs.declared.profile.Profile.TheVariants.{Strict, Wide}

-- one more
pub more_readable : (p : RecordProfile) (frames : List (List ℕ)) (frame : List ℕ) → AreReadable p frames → length frame ≤ most_frame p → AreReadable p (frames ++ (frame ∷ []))
more_readable p [] frame are few = (few, tt)
more_readable p (f ∷ fs) frame are few = (are.0, more_readable p fs frame are.1 few)

not_above : (n m : ℕ) → (m < n → ⊥) → n ≤ m
not_above n m above = omega (arith, above)

pub more_readable_in : (p : RecordProfile) (frames : List (List ℕ)) (frame : List ℕ) → AreReadableIn p frames → (IsLongIn p frame → ⊥) → AreReadableIn p (frames ++ (frame ∷ []))
more_readable_in p frames frame are short wide = more_readable p frames frame (are wide) (not_above (length frame) (most_frame p) (λ long. short (wide, long)))

-- `Wide` reads all that is read in a profile
within_wide : (p : RecordProfile) → most_frame p ≤ most_frame record_profiles.Wide
within_wide record_profiles.Strict = omega arith
within_wide record_profiles.Wide = omega arith

pub readable_wide : (p : RecordProfile) (frames : List (List ℕ)) → AreReadable p frames → AreReadable record_profiles.Wide frames
readable_wide p [] are = tt
readable_wide p (f ∷ fs) are =
    let wide = within_wide p in
    let few = are.0 in
    (omega (arith, wide, few), readable_wide p fs are.1)

-- a profile of records is that of `Wide` alone
pub wide_is : (profile : Profile) → record_profile profile ≡ record_profiles.Wide → profile ≡ Wide
wide_is Strict e = absurd (cc)
wide_is Wide e = refl

-- so the fault of a frame that is too long is one of packing
pub own_in : (profile : Profile) (f : Fault) → (is_pack_fault f ≡ true) ⊎ ((record_profile profile ≡ record_profiles.Wide) × (f ≡ fault.File file_fault.ChunkTooLong)) → IsPackFault profile f
own_in profile f (inl own) = inl own
own_in profile f (inr (wide, long)) = inr (wide_is profile wide, inr long)
