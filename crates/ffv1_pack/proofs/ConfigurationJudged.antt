-- A configuration that is judged before its sets are stored, and what is then known of a text.
use Rattle.std.specs.Prelude.{◌≡◌, ℕ, Bool, true, false, IsTrue, List, [], ◌∷◌, length, Option, Some, None}
use Rattle.std.proofs.Common.{refl, sym, ◌∙◌, ap, arith, subst}
use Rattle.ffv1_wire.specs.Passage.{Passage}
use Rattle.ffv1_plane.specs.Quantisation.{Set, contexts_of, large_set, small_set}
use Rattle.ffv1_range.specs.Table.{Table, IsTable}
use Rattle.ffv1_record.specs.Accepted.{Accepted, IsFirstUpTo, IsTableFor, PassesAll, checks, has_depth}
use Rattle.ffv1_record.specs.Configuration.{Configuration, at_depth, with_sets}
use Rattle.ffv1_record.specs.Sets.{AreSets}
use Rattle.ffv1_record.specs.Writable.{IsWritable}
use Rattle.ffv1_record.specs.declared.config.Profile.{Profile as RecordProfile}
use Rattle.ffv1_record.specs.declared.fault.RecordFault.{RecordFault}
use Rattle.ffv1_record.proofs.Checks.{depth_bounds, depth_up_to}
use Rattle.ffv1_record.proofs.Edges.{passes_wide}
use Rattle.ffv1_matroska.specs.Rates.{IsTimed}
use Rattle.ffv1_matroska.specs.Writers.{rate_in}
use Rattle.ffv1_words.specs.declared.order.Choice.{Choice}
use Rattle.ffv1_video.specs.Faults.{cause_of, of_record}
use Rattle.ffv1_video.specs.Faults.Cause.{Content, Memory}
use Rattle.ffv1_video.specs.Profiles.{greatest_depth, record_profile}
use Rattle.ffv1_video.specs.Video.{SaidHead, Video}
use Rattle.ffv1_video.specs.declared.fault.Fault.{Fault}
use Rattle.ffv1_video.specs.declared.fault.Fault.TheVariants as fault
use Rattle.ffv1_video.specs.declared.profile.Profile.{Profile}
use Rattle.ffv1_pack.specs.Grids.{choice_for}
use Rattle.ffv1_pack.specs.Internal.Pack.{EndsVideo}
use Rattle.ffv1_pack.specs.Internal.VideoReads.{HeadKnown, HeadRead, HeadRefused, HeadRefusedBy, VideoReading}
use Rattle.ffv1_pack.specs.Pack.{HasAccepted}
use Rattle.ffv1_pack.specs.PackMatroska.{HasTimed}
use Rattle.ffv1_pack.specs.Packing.{HasConfiguration, IsFor, configuration_for, head_for, set_for}
use Rattle.ffv1_pack.proofs.VideoEncoded.{content_check}

-- the sets of a choice are such as a configuration may have
are_sets : (large : Bool) → AreSets (set_for large ∷ [])
are_sets true = let some : contexts_of large_set ≡ 16638 = refl in (record { five = refl; filled = refl; few = omega (arith, some) }, tt)
are_sets false = let some : contexts_of small_set ≡ 666 = refl in (record { five = refl; filled = refl; few = omega (arith, some) }, tt)

module _ (profile : Profile) (choice : Choice) (ppm : Bool) (h : SaidHead) (c : Configuration) (is : at_depth c h.depth ≡ with_sets (configuration_for choice ppm h) []) where
  -- it is accepted
  pub accepts : (t : Table) → IsTrue (has_depth (greatest_depth profile) (at_depth c h.depth)) → ((ss : List Set) → length ss ≡ 1 → PassesAll (record_profile profile) checks (with_sets (at_depth c h.depth) ss)) →
      IsTableFor c.coder t → IsTable t.floor t.one → IsWritable c.coder → HasConfiguration profile choice ppm h
  accepts t deep passes table closed writable =
      let all = subst (λ z. PassesAll (record_profile profile) checks (with_sets z (set_for choice.large ∷ []))) is (passes (set_for choice.large ∷ []) refl) in
      let coder : c.coder ≡ (configuration_for choice ppm h).coder = ap (λ (z : Configuration). z.coder) is in (
        record { configuration = configuration_for choice ppm h; table = t; profile = record_profile profile },
        record {
          configuration = refl;
          accepted = record {
            depth = depth_up_to (greatest_depth profile) 16 h.depth deep (depth_bounds (greatest_depth profile) h.depth deep).1;
            passes = passes_wide (record_profile profile) (configuration_for choice ppm h) all;
            table = subst (λ z. IsTableFor z t) coder table;
            closed = closed;
            writable = subst IsWritable coder writable;
            sets = are_sets choice.large;
          };
          passes = all;
          profiled = refl;
        },
      )

  -- or this is the first fault that it has
  pub first_of : (f : RecordFault) → ((ss : List Set) → length ss ≡ 1 → IsFirstUpTo (record_profile profile) (greatest_depth profile) (with_sets (at_depth c h.depth) ss) f) →
      IsFirstUpTo (record_profile profile) (greatest_depth profile) (configuration_for choice ppm h) f
  first_of f first = subst (λ z. IsFirstUpTo (record_profile profile) (greatest_depth profile) (with_sets z (set_for choice.large ∷ [])) f) is (first (set_for choice.large ∷ []) refl)

-- which is no want of memory
pub no_memory_first : (k : RecordProfile) (most : ℕ) (c : Configuration) (g : RecordFault) → IsFirstUpTo k most c g → of_record g ≡ fault.OutOfMemory → ⊥
no_memory_first k most c g first e = let told : Content ≡ Memory = sym (content_check k most c g first) ∙ ap cause_of e in absurd (cc)

-- nor is what a head is refused by
pub no_memory_head : (most : ℕ) (p : Passage) (f : Fault) → HeadRefused most p f → f ≡ fault.OutOfMemory → ⊥
no_memory_head most p f h e = subst (λ x. HeadRefusedBy most (cause_of x) p x) e h

-- ---- what is then known of the text

accepted_in : (profile : Profile) (choice : Choice) (old new : Option (List ℕ)) (r : VideoReading) → HeadKnown (greatest_depth profile) old new r.ppm r.head → HasConfiguration profile choice r.ppm r.head → HasAccepted profile choice old
accepted_in profile choice None new r k has = tt
accepted_in profile choice (Some text) None r k has = absurd k
accepted_in profile choice (Some text) (Some rest) r k has = (r.head, rest, k.1, subst (λ b. HasConfiguration profile choice b r.head) k.0 has)

pub has_accepted : (profile : Profile) (choice : Choice) (p : Passage) (r : VideoReading) → HeadRead (greatest_depth profile) p r → HasConfiguration profile choice r.ppm r.head → HasAccepted profile choice p.old
has_accepted profile choice p r h has = accepted_in profile choice p.old p.new r h.known has

pub video_accepted : (profile : Profile) (choice : Choice) (old new : Option (List ℕ)) (v : Video) (a : Accepted) → EndsVideo (greatest_depth profile) old new v → IsFor profile choice v.ppm v.head a → HasAccepted profile choice old
video_accepted profile choice None new v a k for = tt
video_accepted profile choice (Some text) None v a k for = absurd k
video_accepted profile choice (Some text) (Some rest) v a (left, begins, end) for = (v.head, begins.behind, begins.head, (a, subst (λ b. IsFor profile choice b v.head a) begins.kind for))

timed_in : (profile : Profile) (choice : Choice) (old new : Option (List ℕ)) (r : VideoReading) (a : Accepted) → HeadKnown (greatest_depth profile) old new r.ppm r.head → IsFor profile (choice_for profile choice r.head) r.ppm r.head a →
    IsTimed (rate_in (head_for choice r.ppm r.head a.configuration)) → HasTimed profile choice old
timed_in profile choice None new r a k for timed = tt
timed_in profile choice (Some text) None r a k for timed = absurd k
timed_in profile choice (Some text) (Some rest) r a k for timed = (r.head, rest, k.1, a, subst (λ b. IsFor profile (choice_for profile choice r.head) b r.head a) k.0 for, subst (λ b. IsTimed (rate_in (head_for choice b r.head a.configuration))) k.0 timed)

pub has_timed : (profile : Profile) (choice : Choice) (p : Passage) (r : VideoReading) (a : Accepted) → HeadRead (greatest_depth profile) p r → IsFor profile (choice_for profile choice r.head) r.ppm r.head a →
    IsTimed (rate_in (head_for choice r.ppm r.head a.configuration)) → HasTimed profile choice p.old
has_timed profile choice p r a h for timed = timed_in profile choice p.old p.new r a h.known for timed
