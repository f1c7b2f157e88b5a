-- Planes that were lent, and the parts of their sides.
use Rattle.std.proofs.Common.{◌≡◌, refl, ℕ, zero, suc, ◌+◌, ◌*◌, ◌/◌, ◌%◌, ◌^◌, ◌<◌, ◌≤◌, List, [], ◌∷◌, length, get_or, sym, ap, arith, subst, inl, inr}
use Rattle.std.proofs.lemmas.Bool.{cases_lt}
use Rattle.std.proofs.Math.Nat.{mod-lt, div-lt_iff_lt-mul}
use Rattle.std.specs.declared.vec.Vec.{Vec}
use Rattle.std.proofs.lemmas.Nat.{pow_pos}
use Rattle.ffv1_samples.specs.Samples.{AreBelow, samples_of}
use Rattle.ffv1_slice.specs.Grid.{Side, IsDivided, Division, IsDivision, first_of, coded_of, whole_of, across, down}
use Rattle.ffv1_frame.specs.Picture.{planes_of, plane, AreInDepth, AreSamples}
use Rattle.ffv1_frame.proofs.lemmas.picture.Words.{none_samples}

pub plane_of : {A : Type 0} (vs : List (Vec ℕ A)) (p : ℕ) (v : Vec ℕ A) → p < length vs → v ≡ get_or vs p v → plane (planes_of vs) p ≡ v.items
plane_of [] p v inside is = absurd (omega (arith, inside))
plane_of (w ∷ ws) zero v inside is = ap (λ (u : Vec ℕ _). u.items) (sym is)
plane_of (w ∷ ws) (suc p) v inside is = plane_of ws p v (omega (arith, inside)) is

-- the column and the row of a slice
pub column_inside : (n columns rows : ℕ) → 0 < columns → n % columns < columns
column_inside n columns rows some = mod-lt n some

pub row_inside : (n columns rows : ℕ) → 0 < columns → n < columns * rows → n / columns < rows
row_inside n columns rows some inside =
    let all : n < rows * columns = omega (arith, inside) in
    (div-lt_iff_lt-mul {k = columns} {x = n} {y = rows} some).1 all

-- the laws of sides
pub record Sides : Type 0 where
  pub across : (d : Division) (p : ℕ) → IsDivision d → IsDivided (across d p)
  pub down : (d : Division) (p : ℕ) → IsDivision d → IsDivided (down d p)
  pub ends : (s : Side) (k : ℕ) → IsDivided s → k < s.count → first_of s k + coded_of s k ≤ whole_of s

-- after the last plane there is none
pub no_plane : {A : Type 0} (vs : List (Vec ℕ A)) (p i : ℕ) → length vs ≤ p → get_or (plane (planes_of vs) p) i 0 < 256
no_plane [] p i past = omega arith
no_plane (v ∷ vs) zero i past = absurd (omega (arith, past))
no_plane (v ∷ vs) (suc p) i past = no_plane vs p i (omega (arith, past))

pub all_planes : {A : Type 0} (vs : List (Vec ℕ A)) (count : ℕ) → length vs ≡ count → ((p i : ℕ) → p < count → get_or (plane (planes_of vs) p) i 0 < 256) → AreSamples (planes_of vs)
all_planes vs count long below = λ p i. elim (cases_lt p count) [
  | inl inside ↦ below p i inside
  | inr past ↦ no_plane vs p i (omega (arith, past, long))
]

-- past the planes there are no samples
past_planes : {A : Type 0} (vs : List (Vec ℕ A)) (p : ℕ) → length vs ≤ p → plane (planes_of vs) p ≡ []
past_planes [] p past = refl
past_planes (v ∷ vs) zero past = absurd (omega (arith, past))
past_planes (v ∷ vs) (suc p) past = past_planes vs p (omega (arith, past))

pub all_in_depth : {A : Type 0} (vs : List (Vec ℕ A)) (count depth : ℕ) → length vs ≡ count → ((p : ℕ) → p < count → AreBelow (2 ^ depth) (samples_of depth (plane (planes_of vs) p))) → AreInDepth depth (planes_of vs)
all_in_depth vs count depth long below = λ p. elim (cases_lt p count) [
  | inl inside ↦ below p inside
  | inr past ↦
      let none = past_planes vs p (omega (arith, past, long)) in
      subst (λ (xs : List ℕ). AreBelow (2 ^ depth) (samples_of depth xs)) (sym none) (λ i. subst (λ (xs : List ℕ). get_or xs i 0 < 2 ^ depth) (sym (none_samples depth)) (pow_pos depth))
]
