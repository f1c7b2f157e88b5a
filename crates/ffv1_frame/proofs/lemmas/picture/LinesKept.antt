-- A line is put in its place.
use Rattle.std.proofs.Common.{◌≡◌, ◌≢◌, refl, ℕ, zero, suc, ◌+◌, ◌*◌, ◌<◌, ◌≤◌, ◌⊎◌, inl, inr, List, [], ◌∷◌, ◌++◌, length, get_or, slice_set, ap, sym, subst, ◌∙◌, arith, length-set}
use Rattle.std.proofs.lemmas.Bool.{cases_eq, cases_lt}
use Rattle.std.proofs.lemmas.List.{map-append, map-set}
use Rattle.std.specs.declared.vec.Vec.{Vec}
use Rattle.ffv1_samples.specs.Samples.{sample_bytes}
use Rattle.ffv1_slice.specs.Grid.{Division, across, down, whole_of}
use Rattle.ffv1_frame.specs.Picture.{Planes, AreOf, planes_of, plane}
use Rattle.ffv1_frame.specs.Decoding.{row_in}
use Rattle.ffv1_frame.specs.Windows.{window}
use Rattle.ffv1_frame.specs.Kept.{IsLine, with_samples, with_line}
use Rattle.ffv1_frame.proofs.lemmas.WrittenParts.{put_long, put_window, put_other}
use Rattle.ffv1_frame.proofs.lemmas.Sizes.{part_apart}
use Rattle.ffv1_frame.proofs.lemmas.picture.ByNumber.{plane_is}
use Rattle.ffv1_frame.proofs.lemmas.picture.ByNumber.{plane_now, plane_other}

module _ {A : Type 0} where
  item_at : (xs : List (Vec ℕ A)) (p : ℕ) (d : Vec ℕ A) → p < length xs → get_or (planes_of xs) p [] ≡ (get_or xs p d).items
  item_at [] p d h = absurd (omega (arith, h))
  item_at (x ∷ xs) zero d h = refl
  item_at (x ∷ xs) (suc p) d h = item_at xs p d (omega (arith, h))

  pub plane_of : (xs : List (Vec ℕ A)) (p : ℕ) (d : Vec ℕ A) → p < length xs → plane (planes_of xs) p ≡ (get_or xs p d).items
  plane_of xs p d h = plane_is (planes_of xs) p ∙ item_at xs p d h

  pub planes_set : (xs : List (Vec ℕ A)) (p : ℕ) (v : Vec ℕ A) → planes_of (slice_set xs p v) ≡ slice_set (planes_of xs) p v.items
  planes_set xs p v = map-set (λ (z : Vec ℕ A). z.items) xs p v

  pub planes_long : (xs : List (Vec ℕ A)) → length (planes_of xs) ≡ length xs
  planes_long [] = refl
  planes_long (x ∷ xs) = ap suc (planes_long xs)

  pub planes_more : (xs : List (Vec ℕ A)) (v : Vec ℕ A) → planes_of (xs ++ (v ∷ [])) ≡ planes_of xs ++ (v.items ∷ [])
  planes_more xs v = map-append (λ (z : Vec ℕ A). z.items) xs (v ∷ [])

-- how many bytes a line of a plane has
abbrev pub row_bytes : Division → ℕ → ℕ
row_bytes d p = sample_bytes d.depth * whole_of (across d p)

turned : (b w h : ℕ) → b * (w * h) ≡ h * (b * w)
turned b w h = omega arith

-- a line fits in its plane
pub line_fits : (d : Division) (planes : Planes) (p y : ℕ) (samples : List ℕ) → AreOf d planes → IsLine d p y samples → y * length samples + length samples ≤ length (plane planes p)
line_fits d planes p y samples are line =
    let size = are.sizes p line.in_plane in
    let w = row_bytes d p in
    let place = part_apart y (whole_of (down d p)) w line.in_height in
    let turn = turned (sample_bytes d.depth) (whole_of (across d p)) (whole_of (down d p)) in
    let all : y * w + w ≤ length (plane planes p) = omega (arith, size, place, turn) in
    subst (λ n. y * n + n ≤ length (plane planes p)) (sym line.long) all

-- planes keep their sizes
pub sizes_kept : (d : Division) (planes : Planes) (p y : ℕ) (samples : List ℕ) → AreOf d planes → IsLine d p y samples → AreOf d (with_line planes p y samples)
sizes_kept d planes p y samples are line =
    let fits = line_fits d planes p y samples are line in
    let new = with_samples (plane planes p) y samples in
    let long : length new ≡ length (plane planes p) = put_long (plane planes p) samples (y * length samples) (length samples) fits refl in
    let inside : p < length planes = omega (arith, line.in_plane, are.count) in
    record {
      count = length-set planes p new ∙ are.count;
      sizes = λ q h. elim (cases_eq q p) [
        | inl here ↦
            let now : length (plane (slice_set planes p new) p) ≡ sample_bytes d.depth * (whole_of (across d p) * whole_of (down d p)) = ap (λ (z : List ℕ). length z) (plane_now planes p new inside) ∙ long ∙ are.sizes p line.in_plane in
            subst (λ z. length (plane (slice_set planes p new) z) ≡ sample_bytes d.depth * (whole_of (across d z) * whole_of (down d z))) (sym here) now
        | inr other ↦ ap (λ (z : List ℕ). length z) (plane_other planes p q new other) ∙ are.sizes q h
      ];
    }

-- a line stands in its place, and the others are as they were
module _ (d : Division) (planes : Planes) (p y : ℕ) (samples : List ℕ) (are : AreOf d planes) (line : IsLine d p y samples) where
  abbrev new : List ℕ
  new = with_samples (plane planes p) y samples

  inside : p < length planes
  inside = omega (arith, line.in_plane, are.count)

  pub line_here : row_in (row_bytes d p) y (plane (with_line planes p y samples) p) ≡ samples
  line_here =
      let fits = line_fits d planes p y samples are line in
      ap (row_in (row_bytes d p) y) (plane_now planes p new inside) ∙ ap (λ w. window (y * w) w new) (sym line.long)
      ∙ put_window (plane planes p) samples (y * length samples) (length samples) fits refl

  pub line_others : (q z : ℕ) → q < d.planes → z < whole_of (down d q) → (q ≢ p) ⊎ (z ≢ y) →
      row_in (row_bytes d q) z (plane (with_line planes p y samples) q) ≡ row_in (row_bytes d q) z (plane planes q)
  line_others q z few low apart = elim (cases_eq q p) [
    | inr other ↦ ap (row_in (row_bytes d q) z) (plane_other planes p q new other)
    | inl same ↦
        let w = length samples in
        let other : z ≢ y = elim apart [ inl no_plane ↦ absurd (no_plane same) | inr no_line ↦ no_line ] in
        let fits = line_fits d planes p y samples are line in
        let low : z < whole_of (down d p) = subst (λ k. z < whole_of (down d k)) same low in
        let size = are.sizes p line.in_plane in
        let place = part_apart z (whole_of (down d p)) w low in
        let turn : sample_bytes d.depth * (whole_of (across d p) * whole_of (down d p)) ≡ whole_of (down d p) * w =
        turned (sample_bytes d.depth) (whole_of (across d p)) (whole_of (down d p)) ∙ ap (λ k. whole_of (down d p) * k) (sym line.long) in
        let within : z * w + w ≤ length (plane planes p) = omega (arith, size, place, turn) in
        let sides : (z * w + w ≤ y * w) ⊎ (y * w + w ≤ z * w) = elim (cases_lt z y) [
          | inl less ↦ inl (part_apart z y w less)
          | inr over ↦ let more : y < z = omega (arith, over, other) in inr (part_apart y z w more)
        ] in
        let here : row_in w z new ≡ row_in w z (plane planes p) = put_other (plane planes p) samples (y * w) w fits refl (z * w) w within sides in
        let all : row_in (row_bytes d p) z (plane (with_line planes p y samples) p) ≡ row_in (row_bytes d p) z (plane planes p) =
        ap (row_in (row_bytes d p) z) (plane_now planes p new inside) ∙ ap (λ k. row_in k z new) (sym line.long) ∙ here ∙ ap (λ k. row_in k z (plane planes p)) line.long in
        subst (λ k. row_in (row_bytes d k) z (plane (with_line planes p y samples) k) ≡ row_in (row_bytes d k) z (plane planes k)) (sym same) all
  ]
