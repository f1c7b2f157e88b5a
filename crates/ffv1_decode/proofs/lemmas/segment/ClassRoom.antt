-- The states of a class lie in those of a slice.
use Rattle.std.proofs.Common.{◌≡◌, ℕ, zero, suc, ◌+◌, ◌*◌, ◌<◌, ◌≤◌, Bool, true, false, List, [], get_or, length, slice_index, ap, sym, subst, ◌∙◌, arith}
use Rattle.ffv1_plane.specs.Quantisation.{Set, contexts_of}
use Rattle.ffv1_record.specs.Configuration.{Configuration}
use Rattle.ffv1_record.specs.Held.{classes_of}
use Rattle.ffv1_record.specs.Sets.{most_contexts}
use Rattle.ffv1_slice.specs.Grid.{planes_in}
use Rattle.ffv1_frame.specs.Picture.{plane_count}
use Rattle.ffv1_frame.specs.SliceList.{class_of, base_of}
use Rattle.ffv1_slice.specs.declared.head.SliceHead.{SliceHead}
use Rattle.ffv1_decode.specs.Internal.LeftBits.{contexts_in}
use Rattle.ffv1_decode.specs.Internal.Tied.{slots_in}
use Rattle.ffv1_frame.proofs.lemmas.Sizes.{class_room}
use Rattle.ffv1_frame.proofs.lemmas.picture.ByNumber.{few_contexts}
use Rattle.ffv1_frame.proofs.lemmas.picture.ByNumber as numbers

pub class_few : (chroma extra : Bool) (p : ℕ) → p < planes_in chroma extra → class_of p < classes_of chroma extra
class_few chroma true zero h = omega arith
class_few chroma true (suc zero) h = omega arith
class_few chroma true (suc (suc zero)) h = omega arith
class_few chroma true (suc (suc (suc p))) h = omega arith
class_few true false zero h = omega arith
class_few true false (suc zero) h = omega arith
class_few true false (suc (suc zero)) h = omega arith
class_few true false (suc (suc (suc p))) h = absurd (omega (arith, h))
class_few false false zero h = omega arith
class_few false false (suc p) h = absurd (omega (arith, h))

pub classes_most : (chroma extra : Bool) → classes_of chroma extra ≤ 3
classes_most chroma true = omega arith
classes_most true false = omega arith
classes_most false false = omega arith

module _ (c : Configuration) (p class most index : ℕ) (sets : List Set) (set : Set) (count : ℕ) (inside : p < plane_count c) (class_is : class ≡ class_of p) (most_is : most ≡ most_contexts c.sets)
    (few : index < length c.sets) (sets_are : c.sets ≡ sets) (set_is : set ≡ get_or sets index []) (count_is : count ≡ contexts_of set) where
  few_here : count ≤ most
  few_here =
      let h = few_contexts c.sets index few in
      let e : count ≡ contexts_of (get_or c.sets index []) = count_is ∙ ap contexts_of (set_is ∙ ap (λ z. get_or z index []) (sym sets_are)) in
      omega (arith, h, e, most_is)

  pub room : class * most * 32 + count * 32 ≤ slots_in c
  room =
      let less : class < classes_of c.chroma_planes c.extra_plane = subst (λ z. z < classes_of c.chroma_planes c.extra_plane) (sym class_is) (class_few c.chroma_planes c.extra_plane p inside) in
      let all = class_room class (classes_of c.chroma_planes c.extra_plane) most count less few_here in
      let same : classes_of c.chroma_planes c.extra_plane * most * 32 ≡ slots_in c = ap (λ z. classes_of c.chroma_planes c.extra_plane * z * 32) most_is in
      omega (arith, all, same)

  pub base_here : base_of c p ≡ 33 + class * most * 32
  base_here = let same : most * class ≡ most_contexts c.sets * class_of p = ap (λ z. z * class) most_is ∙ ap (λ z. most_contexts c.sets * z) class_is in omega (arith, same)

-- no class of a slice has more contexts than the largest set
pub contexts_few : (c : Configuration) (h : SliceHead) (indexes : List ℕ) → indexes ≡ h.indexes → ((class : ℕ) → class < 3 → slice_index indexes class < length c.sets) →
    (class : ℕ) → class < classes_of c.chroma_planes c.extra_plane → contexts_in c h class ≤ most_contexts c.sets
contexts_few c h indexes are named class less =
    let few : class < 3 = let most = classes_most c.chroma_planes c.extra_plane in omega (arith, less, most) in
    let index : slice_index h.indexes class < length c.sets = subst (λ z. slice_index z class < length c.sets) are (named class few) in
    subst (λ z. contexts_of z ≤ most_contexts c.sets) (sym (numbers.set_is c.sets (slice_index h.indexes class))) (few_contexts c.sets (slice_index h.indexes class) index)
