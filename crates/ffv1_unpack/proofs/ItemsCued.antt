-- Whether Cues came after the last Cluster, item by item.
use Rattle.std.proofs.Common.{◌≡◌, ◌∙◌, ℕ, suc, Bool, List, Option, Some, None, Ok, refl, sym, ap}
use Rattle.ffv1_reads.specs.Known.{Known}
use Rattle.ffv1_matroska.specs.CuedItems.{CuedBy}
use Rattle.ffv1_files.specs.declared.course.Course.{Course}
use Rattle.ffv1_matroska.proofs.CuedTurns.{CuedSoFar}
use Rattle.ffv1_files.specs.Items.{Next, cued_item, item_read}
use Rattle.ffv1_files.specs.Places.{InAvi, InMatroska, Place, container_of}
use Rattle.ffv1_files.specs.declared.container.Container.TheVariants as container
use Rattle.ffv1_unpack.specs.ItemsEnd.{cued_on, cued_up_to}

module _ (whole : List ℕ → Bool) (most : ℕ) (from : Place) (c : Course) (cued then : Bool) where
  after_item : (x : Next) (at rest : List ℕ) → then ≡ cued_item from c cued at → item_read from c at ≡ Ok (x, rest) → cued_on (cued_up_to most) then (Ok (x, rest)) ≡ cued_up_to (suc most) from c cued at
  unfolding cued_up_to
  after_item x at rest same is = ap (cued_on (cued_up_to most) then) (sym is) ∙ ap (λ b. cued_on (cued_up_to most) b (item_read from c at)) same

  -- one that came, or the end
  pub cued_came : (x : Next) (old now new : Option (List ℕ)) → CuedSoFar whole (cued_up_to (suc most) from c cued) old now → CuedBy (cued_item from c cued) now new then → Known now new (λ text rest. item_read from c text ≡ Ok (x, rest)) →
      CuedSoFar whole (λ rest. cued_on (cued_up_to most) then (Ok (x, rest))) old new
  cued_came x None now new h same read = tt
  cued_came x (Some text) None new h same read = absurd h
  cued_came x (Some text) (Some at) None h same read = absurd same
  cued_came x (Some text) (Some at) (Some rest) h same read = after_item x at rest same read ∙ h

-- at most so many were read
pub cued_many : (whole : List ℕ → Bool) (left : ℕ) (from : Place) (c : Course) (cued : Bool) (old now : Option (List ℕ)) → left ≡ 0 → CuedSoFar whole (cued_up_to left from c cued) old now → CuedBy whole old now cued
unfolding cued_up_to
cued_many whole left from c cued None now none h = tt
cued_many whole left from c cued (Some text) None none h = absurd h
cued_many whole left from c cued (Some text) (Some rest) none h = (rw none at h)

-- an AVI has no Cues
pub avi_uncued : (place : Place) (c : Course) (cued : Bool) (old new : Option (List ℕ)) (P : List ℕ → List ℕ → Type 0) → container_of place ≡ container.Avi → Known old new P → CuedBy (cued_item place c cued) old new cued
unfolding cued_item
avi_uncued (InAvi p) c cued None new P avi h = tt
avi_uncued (InAvi p) c cued (Some text) None P avi h = absurd h
avi_uncued (InAvi p) c cued (Some text) (Some rest) P avi h = refl
avi_uncued (InMatroska size track p) c cued old new P avi h = absurd (cc (avi))
