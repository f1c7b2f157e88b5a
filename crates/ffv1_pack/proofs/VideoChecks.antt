-- Which checks the configuration of a video passes.
use Rattle.std.specs.Prelude.{◌≡◌, ◌≤◌, ℕ, Bool, true, false, IsTrue, nat_le, ◌&&◌, ◌||◌, not, ◌==◌, replicate, pos}
use Rattle.std.proofs.Common.{◌∙◌, ap, arith, refl, inl, inr, zero, suc}
use Rattle.std.proofs.lemmas.Grind.{common_steps}
use Rattle.ffv1_range.specs.Deltas.{IsTableOf}
use Rattle.ffv1_range.specs.Standard.{standard}
use Rattle.ffv1_range.specs.Table.{Table}
use Rattle.ffv1_record.specs.Accepted.{Accepted, IsFirstIn, IsFirstUpTo, IsFirstWhere, checks, has_depth, IsTableFor, is_sized, is_subsampled, is_transparent}
use Rattle.ffv1_record.specs.Accepted.{is_rice, least_coder, suits_depth, type_of}
use Rattle.ffv1_record.specs.Configuration.{Configuration}
use Rattle.ffv1_record.specs.declared.config.Profile.{Profile as RecordProfile}
use Rattle.ffv1_record.specs.declared.config.Profile.TheVariants as record_profiles
use Rattle.ffv1_record.specs.declared.fault.RecordFault.{RecordFault}
use Rattle.ffv1_y4m.specs.VideoHead.{IsSized, is_chroma}
use Rattle.ffv1_video.specs.Video.{SaidHead}
use Rattle.ffv1_y4m.specs.declared.head.VideoHead.{VideoHead}
use Rattle.ffv1_words.specs.declared.order.Choice.{Choice}
use Rattle.ffv1_words.specs.declared.order.CoderChoice.{CoderChoice}
use Rattle.ffv1_words.specs.declared.order.CoderChoice.TheVariants as coder_choice
use Rattle.ffv1_video.specs.Faults.{of_record}
use Rattle.ffv1_video.specs.declared.profile.Profile.{Profile}
use Rattle.ffv1_video.specs.declared.profile.Profile.TheVariants.{Strict, Wide}
use Rattle.ffv1_pack.specs.Pack.{IsPackFault, is_pack_fault}
use Rattle.ffv1_video.specs.Profiles.{greatest_depth, record_profile}
use Rattle.ffv1_pack.specs.Packing.{IsFor, coder_for, configuration_for}
use Rattle.ffv1_pack.specs.VideoReads.{IsHeadBy}
use Rattle.ffv1_video.proofs.Depths.{first_of_eight}

sized : (choice : Choice) (ppm : Bool) (h : SaidHead) → IsSized h.head → IsTrue (is_sized (configuration_for choice ppm h))
sized choice ppm h is = grind (arith, common_steps, is.some_wide, is.wide, is.some_high, is.high)

head_sized : (ppm : Bool) (h : VideoHead) → IsHeadBy ppm h → IsSized h
head_sized true h is = is.0
head_sized false h is = is.sized

subsampled_by : (planes : Bool) (log2_h log2_v : ℕ) (extra : Bool) → is_chroma planes log2_h log2_v extra ≡ true → IsTrue ((nat_le log2_h 2 && nat_le log2_v 2) && ((planes || true) && ((planes && true) || (log2_h == 0 && log2_v == 0))))
subsampled_by true (suc zero) (suc zero) false e = refl
subsampled_by true (suc zero) zero false e = refl
subsampled_by true zero zero extra e = refl
subsampled_by true (suc (suc zero)) zero false e = refl
subsampled_by false zero zero false e = refl
subsampled_by true (suc zero) (suc zero) true e = absurd (cc)
subsampled_by true (suc zero) (suc (suc n)) extra e = absurd (cc)
subsampled_by true (suc zero) zero true e = absurd (cc)
subsampled_by true zero (suc n) extra e = absurd (cc)
subsampled_by true (suc (suc zero)) zero true e = absurd (cc)
subsampled_by true (suc (suc zero)) (suc n) extra e = absurd (cc)
subsampled_by true (suc (suc (suc m))) n extra e = absurd (cc)
subsampled_by false zero zero true e = absurd (cc)
subsampled_by false zero (suc n) extra e = absurd (cc)
subsampled_by false (suc m) n extra e = absurd (cc)

transparent_by : (planes : Bool) (log2_h log2_v : ℕ) (extra : Bool) → is_chroma planes log2_h log2_v extra ≡ true → IsTrue (planes || not extra)
transparent_by true log2_h log2_v extra e = refl
transparent_by false log2_h log2_v false e = refl
transparent_by false zero zero true e = absurd (cc)
transparent_by false zero (suc n) true e = absurd (cc)
transparent_by false (suc m) n true e = absurd (cc)

subsampled : (choice : Choice) (ppm : Bool) (h : SaidHead) → IsHeadBy ppm h.head → IsTrue (is_subsampled (configuration_for choice ppm h))
subsampled choice true h is = rw is.1 refl
subsampled choice false h is = subsampled_by h.head.chroma_planes h.head.log2_h h.head.log2_v h.head.extra_plane is.chroma

transparent : (choice : Choice) (ppm : Bool) (h : SaidHead) → IsHeadBy ppm h.head → IsTrue (is_transparent (configuration_for choice ppm h))
transparent choice true h is = rw is.1 refl
transparent choice false h is = transparent_by h.head.chroma_planes h.head.log2_h h.head.log2_v h.head.extra_plane is.chroma

tabled : (c : CoderChoice) → IsTableOf (replicate 255 (pos 0)) standard → (t : Table) × IsTableFor (coder_for c) t
tabled coder_choice.Standard of = (standard, refl)
tabled coder_choice.Carried of = (standard, of)

coded : (k : RecordProfile) (c : CoderChoice) (depth : ℕ) → IsTrue (nat_le (least_coder k) (type_of (coder_for c)) && suits_depth (coder_for c) depth)
coded record_profiles.Strict coder_choice.Standard depth = refl
coded record_profiles.Strict coder_choice.Carried depth = refl
coded record_profiles.Wide coder_choice.Standard depth = refl
coded record_profiles.Wide coder_choice.Carried depth = refl

-- what is packed is range coded
range_for : (c : CoderChoice) → is_rice (coder_for c) ≡ false
range_for coder_choice.Standard = refl
range_for coder_choice.Carried = refl

pub range_coded : (profile : Profile) (choice : Choice) (ppm : Bool) (h : SaidHead) (a : Accepted) → IsFor profile choice ppm h a → is_rice a.configuration.coder ≡ false
range_coded profile choice ppm h a for = ap (λ (c : Configuration). is_rice c.coder) for.configuration ∙ range_for choice.coder

-- it is refused for its grid, or for an edge in chroma
own_check : (k : RecordProfile) (choice : Choice) (ppm : Bool) (h : SaidHead) (g : RecordFault) → IsTableOf (replicate 255 (pos 0)) standard → IsHeadBy ppm h.head → IsFirstIn k checks (configuration_for choice ppm h) g → is_pack_fault (of_record g) ≡ true
own_check k choice ppm h g of is (inl p) = absurd (p.0 (sized choice ppm h (head_sized ppm h.head is)))
own_check k choice ppm h g of is (inr (a, inl p)) = absurd (p.0 (subsampled choice ppm h is))
own_check k choice ppm h g of is (inr (a, inr (b, inl p))) = absurd (p.0 (transparent choice ppm h is))
own_check k choice ppm h g of is (inr (a, inr (b, inr (d, inl p)))) = absurd (p.0 refl)
own_check k choice ppm h g of is (inr (a, inr (b, inr (d, inr (e, inl p))))) = absurd (p.0 (tabled choice.coder of))
own_check k choice ppm h g of is (inr (a, inr (b, inr (d, inr (e, inr (f, inl p)))))) = rw p.1 refl
own_check k choice ppm h g of is (inr (a, inr (b, inr (d, inr (e, inr (f, inr (i, inl p))))))) = rw p.1 refl
own_check k choice ppm h g of is (inr (a, inr (b, inr (d, inr (e, inr (f, inr (i, inr (j, inl p)))))))) = absurd (p.0 (coded k choice.coder h.depth))
own_check k choice ppm h g of is (inr (a, inr (b, inr (d, inr (e, inr (f, inr (i, inr (j, inr (l, p))))))))) = absurd p

-- or, if that depth is read, for RCT of 16 bits
own_by : (k : RecordProfile) (b : Bool) (choice : Choice) (ppm : Bool) (h : SaidHead) (g : RecordFault) → IsTableOf (replicate 255 (pos 0)) standard → IsHeadBy ppm h.head → IsFirstWhere k b (configuration_for choice ppm h) g → IsPackFault Wide (of_record g)
own_by k true choice ppm h g of is first = inl (own_check k choice ppm h g of is first)
own_by k false choice ppm h g of is (inl size) = absurd (size.0 (sized choice ppm h (head_sized ppm h.head is)))
own_by k false choice ppm h g of is (inr deep) = inr (refl, inl (ap of_record deep.1))

pub own_in : (profile : Profile) (choice : Choice) (ppm : Bool) (h : SaidHead) (g : RecordFault) → IsTableOf (replicate 255 (pos 0)) standard → IsHeadBy ppm h.head → 8 ≤ h.depth → h.depth ≤ greatest_depth profile →
    IsFirstUpTo (record_profile profile) (greatest_depth profile) (configuration_for choice ppm h) g → IsPackFault profile (of_record g)
own_in Strict choice ppm h g of is least most first =
    let few : h.depth ≤ 8 = most in
    let eight : h.depth ≡ 8 = omega (arith, least, few) in
    inl (own_check (record_profile Strict) choice ppm h g of is (first_of_eight (record_profile Strict) (configuration_for choice ppm h) g eight first))
own_in Wide choice ppm h g of is least most first = own_by (record_profile Wide) (has_depth 16 (configuration_for choice ppm h)) choice ppm h g of is first
