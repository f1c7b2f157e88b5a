-- The states and the set of a plane's class.
use Rattle.std.proofs.Common.{◌≡◌, refl, ℕ, zero, suc, ◌+◌, ◌-◌, ◌*◌, ◌<◌, ◌≤◌, min, Bool, true, false, if◌then◌else◌, List, [], ◌∷◌, length, get_or, sym, ◌∙◌, ap, arith}
use Rattle.std.proofs.Math.Nat.{mul-le-mul_left}
use Rattle.ffv1_plane.specs.Quantisation.{Set, contexts_of}
use Rattle.ffv1_range.specs.Symbols.{shifted}
use Rattle.ffv1_line.specs.Cell.{Cell}
use Rattle.ffv1_line.specs.Row.{row_steps, chosen_row, cell_steps, chosen_rows}
use Rattle.ffv1_record.specs.Configuration.{Configuration}
use Rattle.ffv1_record.specs.Sets.{most_contexts}
use Rattle.ffv1_record.specs.Held.{classes_of}
use Rattle.ffv1_slice.specs.Grid.{planes_in}
use Rattle.ffv1_frame.specs.SliceList.{Said, class_of, base_of, set_at, set_in, chosen_index, chosen_head}
use Rattle.ffv1_encode.specs.Internal.HasPut.{states_in}

pub set_is : (sets : List Set) (k : ℕ) → set_at sets k ≡ get_or sets k []
set_is [] k = refl
set_is (s ∷ ss) zero = refl
set_is (s ∷ ss) (suc k) = set_is ss k

pub contexts_few : (sets : List Set) (k : ℕ) → k < length sets → contexts_of (get_or sets k []) ≤ most_contexts sets
contexts_few [] k inside = absurd (omega (arith, inside))
contexts_few (s ∷ ss) zero inside = omega arith
contexts_few (s ∷ ss) (suc k) inside = let rest = contexts_few ss k (omega (arith, inside)) in omega (arith, rest)

pub class_inside : (chroma extra : Bool) (p : ℕ) → p < planes_in chroma extra → class_of p < classes_of chroma extra
class_inside chroma true zero inside = omega arith
class_inside chroma true (suc zero) inside = omega arith
class_inside chroma true (suc (suc zero)) inside = omega arith
class_inside chroma true (suc (suc (suc p))) inside = omega arith
class_inside true false zero inside = omega arith
class_inside true false (suc zero) inside = omega arith
class_inside true false (suc (suc zero)) inside = omega arith
class_inside true false (suc (suc (suc p))) inside = absurd (omega (arith, inside))
class_inside false false zero inside = omega arith
class_inside false false (suc p) inside = absurd (omega (arith, inside))

-- the states of a class lie inside all states
pub class_fits : (c : Configuration) (p k : ℕ) → p < planes_in c.chroma_planes c.extra_plane → k < length c.sets → 32 * (most_contexts c.sets * class_of p) + contexts_of (get_or c.sets k []) * 32 ≤ states_in c
class_fits c p k plane inside =
    let few = contexts_few c.sets k inside in
    let class = class_inside c.chroma_planes c.extra_plane p plane in
    let more = mul-le-mul_left {m = suc (class_of p)} {n = classes_of c.chroma_planes c.extra_plane} (most_contexts c.sets) class in
    omega (arith, few, more)

pub set_chosen : (c : Configuration) (info : Said) (p : ℕ) → p < planes_in c.chroma_planes c.extra_plane → set_in c (chosen_head c info) p ≡ get_or c.sets (chosen_index c (class_of p)) []
set_chosen c info zero plane = set_is c.sets (chosen_index c 0)
set_chosen c info (suc zero) plane = set_is c.sets (chosen_index c 1)
set_chosen c info (suc (suc zero)) plane = set_is c.sets (chosen_index c 1)
set_chosen c info (suc (suc (suc p))) plane = third c.chroma_planes c.extra_plane plane
  where
    third : (chroma extra : Bool) → suc (suc (suc p)) < planes_in chroma extra → set_at c.sets (if extra then chosen_index c 2 else 0) ≡ get_or c.sets (chosen_index c 2) []
    third chroma true inside = set_is c.sets (chosen_index c 2)
    third true false inside = absurd (omega (arith, inside))
    third false false inside = absurd (omega (arith, inside))

-- what is looked up of a plane
pub record Looked (c : Configuration) (p : ℕ) (sets : List Set) (most class index : ℕ) (set : Set) : Type 0 where
  pub sets_are : c.sets ≡ sets
  pub most_is : most ≡ most_contexts sets
  pub class_is : class ≡ class_of p
  pub index_is : index ≡ min class (length sets - 1)
  pub index_inside : index < length sets
  pub set_got : set ≡ get_or sets index []

looked_index : (c : Configuration) (p : ℕ) (sets : List Set) (most class index : ℕ) (set : Set) → Looked c p sets most class index set → index ≡ chosen_index c (class_of p)
looked_index c p sets most class index set is = is.index_is ∙ ap (λ (k : ℕ). min k (length sets - 1)) is.class_is ∙ ap (λ (ss : List Set). min (class_of p) (length ss - 1)) (sym is.sets_are)

looked_got : (c : Configuration) (p : ℕ) (sets : List Set) (most class index : ℕ) (set : Set) → Looked c p sets most class index set → set ≡ get_or c.sets (chosen_index c (class_of p)) []
looked_got c p sets most class index set is = is.set_got ∙ ap (λ (ss : List Set). get_or ss index []) (sym is.sets_are) ∙ ap (λ k. get_or c.sets k []) (looked_index c p sets most class index set is)

pub looked_set : (c : Configuration) (info : Said) (p : ℕ) (sets : List Set) (most class index : ℕ) (set : Set) → Looked c p sets most class index set → p < planes_in c.chroma_planes c.extra_plane →
    set ≡ set_in c (chosen_head c info) p
looked_set c info p sets most class index set is plane = looked_got c p sets most class index set is ∙ sym (set_chosen c info p plane)

looked_base : (c : Configuration) (p : ℕ) (sets : List Set) (most class index : ℕ) (set : Set) → Looked c p sets most class index set → most * class ≡ most_contexts c.sets * class_of p
looked_base c p sets most class index set is = ap (λ k. k * class) (is.most_is ∙ ap most_contexts (sym is.sets_are)) ∙ ap (λ k. most_contexts c.sets * k) is.class_is

pub looked_slot : (c : Configuration) (p : ℕ) (sets : List Set) (most class index : ℕ) (set : Set) → Looked c p sets most class index set → 33 + 32 * (most * class) ≡ base_of c p
looked_slot c p sets most class index set is = ap (λ k. 33 + 32 * k) (looked_base c p sets most class index set is)

pub looked_fits : (c : Configuration) (p : ℕ) (sets : List Set) (most class index : ℕ) (set : Set) → Looked c p sets most class index set → p < planes_in c.chroma_planes c.extra_plane →
    32 * (most * class) + contexts_of set * 32 ≤ states_in c
looked_fits c p sets most class index set is plane =
    let inside : chosen_index c (class_of p) < length c.sets = omega (arith, is.index_inside, ap length is.sets_are, looked_index c p sets most class index set is) in
    let fits = class_fits c p (chosen_index c (class_of p)) plane inside in
    omega (arith, fits, looked_base c p sets most class index set is, ap contexts_of (looked_got c p sets most class index set is))

-- the steps of a row by what was looked up
pub line_is : (cell : Cell) (y : ℕ) (s set : Set) (b bits at base : ℕ) → s ≡ set → b ≡ bits → at ≡ base →
    shifted at (row_steps s cell y 0 (chosen_row s b cell y cell.width)) ≡ shifted base (row_steps set cell y 0 (chosen_row set bits cell y cell.width))
line_is cell y s set b bits at base p q r =
    ap (λ z. shifted at (row_steps z cell y 0 (chosen_row z b cell y cell.width))) p ∙ ap (λ k. shifted at (row_steps set cell y 0 (chosen_row set k cell y cell.width))) q
    ∙ ap (λ k. shifted k (row_steps set cell y 0 (chosen_row set bits cell y cell.width))) r

-- and those of the rows of a cell
pub cell_is : (cell : Cell) (n : ℕ) (s set : Set) (b bits at base : ℕ) → s ≡ set → b ≡ bits → at ≡ base →
    shifted at (cell_steps s cell 0 (chosen_rows s b cell n)) ≡ shifted base (cell_steps set cell 0 (chosen_rows set bits cell n))
cell_is cell n s set b bits at base p q r =
    ap (λ z. shifted at (cell_steps z cell 0 (chosen_rows z b cell n))) p ∙ ap (λ k. shifted at (cell_steps set cell 0 (chosen_rows set k cell n))) q
    ∙ ap (λ k. shifted k (cell_steps set cell 0 (chosen_rows set bits cell n))) r
