-- Planes that are filled up with zeros.
use Rattle.std.proofs.Common.{◌≡◌, ◌≢◌, refl, ℕ, zero, suc, ◌+◌, ◌-◌, ◌*◌, ◌<◌, ◌≤◌, inl, inr, List, [], ◌∷◌, ◌++◌, length, get_or, slice_set, replicate, take, drop, ap, sym, subst, ◌∙◌, arith, length-append, length-drop, length-set}
use Rattle.std.specs.Vec.{vec_capacity}
use Rattle.std.specs.declared.vec.Vec.{Vec}
use Rattle.std.proofs.lemmas.Bool.{cases_eq, cases_lt}
use Rattle.std.proofs.lemmas.List.{append-nil, append_assoc, drop-append-le, get_or-append-add, get_or-set_other, get_or-set_same, get_or_append_left, length-replicate, replicate-append-replicate, same_lists, set-get_or, take-append-le}
use Rattle.std.proofs.lemmas.List.FromFn.{get_or-map-range_with_len, length-map-range_with_len}
use Rattle.ffv1_slice.specs.Grid.{Division}
use Rattle.ffv1_decode.specs.Filled.{filled, filled_planes, plane_size}
use Rattle.ffv1_decode.specs.Internal.Begun.{AreBegun}
use Rattle.ffv1_frame.specs.Kept.{IsLine, with_samples, zeros_of}
use Rattle.ffv1_frame.specs.Picture.{AreOf, Planes, plane, planes_of}
use Rattle.ffv1_frame.proofs.lemmas.picture.ByNumber.{plane_is}
use Rattle.ffv1_frame.proofs.lemmas.picture.LinesKept.{line_fits, plane_of, planes_long, planes_set}
use Rattle.ffv1_frame.proofs.lemmas.picture.ByNumber.{plane_now, plane_other}
use Rattle.ffv1_frame.proofs.lemmas.WrittenParts.{put, put_long}

-- one plane

pub filled_long : (size : ℕ) (xs : List ℕ) → length xs ≤ size → length (filled size xs) ≡ size
filled_long size xs few =
    let all = length-append xs (replicate (size - length xs) 0) in
    let rest = length-replicate {A = ℕ} (size - length xs) 0 in
    omega (arith, all, rest, few)

pub filled_whole : (size : ℕ) (xs : List ℕ) → size ≤ length xs → filled size xs ≡ xs
filled_whole size xs all =
    let none : size - length xs ≡ 0 = omega (arith, all) in
    ap (λ n. xs ++ replicate n 0) none ∙ append-nil xs

joined : (xs : List ℕ) (m n : ℕ) → (xs ++ replicate m 0) ++ replicate n 0 ≡ xs ++ replicate (m + n) 0
joined xs m n = append_assoc xs (replicate m 0) (replicate n 0) ∙ ap (λ z. xs ++ z) (replicate-append-replicate m n 0)

-- in two steps
pub filled_twice : (size end : ℕ) (xs : List ℕ) → end ≤ size → filled size (filled end xs) ≡ filled size xs
filled_twice size end xs within = elim (cases_lt (length xs) end) [
  | inr over ↦ ap (filled size) (filled_whole end xs over)
  | inl less ↦
      let long : length (filled end xs) ≡ end = filled_long end xs (omega (arith, less)) in
      let parts : (end - length xs) + (size - end) ≡ size - length xs = omega (arith, less, within) in
      ap (λ n. filled end xs ++ replicate (size - n) 0) long ∙ joined xs (end - length xs) (size - end) ∙ ap (λ n. xs ++ replicate n 0) parts
]

-- a line that is put in, with zeros after all
regrouped : (a b c d : List ℕ) → a ++ (b ++ (c ++ d)) ≡ (a ++ (b ++ c)) ++ d
regrouped a b c d = ap (λ z. a ++ z) (sym (append_assoc b c d)) ∙ sym (append_assoc a (b ++ c) d)

put_before_tail : (a k : ℕ) (ws tail ys : List ℕ) → a + k ≤ length ws → put a k (ws ++ tail) ys ≡ put a k ws ys ++ tail
put_before_tail a k ws tail ys fits =
    let second : k ≤ length (drop a ws) = let long = length-drop a ws in omega (arith, long, fits) in
    ap (λ z. z ++ (ys ++ drop k (drop a (ws ++ tail)))) (take-append-le a ws tail (omega (arith, fits)))
    ∙ ap (λ z. take a ws ++ (ys ++ drop k z)) (drop-append-le a ws tail (omega (arith, fits)))
    ∙ ap (λ z. take a ws ++ (ys ++ z)) (drop-append-le k (drop a ws) tail second)
    ∙ regrouped (take a ws) ys (drop k (drop a ws)) tail

module _ (size y : ℕ) (xs line : List ℕ) (few : length xs ≤ size) (within : y * length line + length line ≤ size) where
  abbrev end : ℕ
  end = y * length line + length line

  reached : end ≤ length (filled end xs)
  reached = elim (cases_lt (length xs) end) [
    | inl less ↦ let long = filled_long end xs (omega (arith, less)) in omega (arith, long)
    | inr over ↦ let all = length-append xs (replicate (end - length xs) 0) in omega (arith, all, over)
  ]

  reached_few : length (filled end xs) ≤ size
  reached_few = elim (cases_lt (length xs) end) [
    | inl less ↦ let long = filled_long end xs (omega (arith, less)) in omega (arith, long, within)
    | inr over ↦ let same = ap (λ (z : List ℕ). length z) (filled_whole end xs over) in omega (arith, same, few)
  ]

  put_in_long : length (with_samples (filled end xs) y line) ≡ length (filled end xs)
  put_in_long = put_long (filled end xs) line (y * length line) (length line) reached refl

  pub line_few : length (with_samples (filled end xs) y line) ≤ size
  line_few = omega (arith, put_in_long, reached_few)

  pub line_filled : filled size (with_samples (filled end xs) y line) ≡ with_samples (filled size xs) y line
  line_filled =
      let zs = with_samples (filled end xs) y line in
      let tail = replicate {A = ℕ} (size - length (filled end xs)) 0 in
      ap (λ n. zs ++ replicate (size - n) 0) put_in_long
      ∙ sym (put_before_tail (y * length line) (length line) (filled end xs) tail line reached)
      ∙ ap (λ z. with_samples z y line) (filled_twice size end xs within)

-- all planes

same_at : (planes : Planes) (k : ℕ) (other : List ℕ) → k < length planes → get_or planes k other ≡ get_or planes k []
same_at [] k other h = absurd (omega (arith, h))
same_at (x ∷ xs) zero other h = refl
same_at (x ∷ xs) (suc k) other h = same_at xs k other (omega (arith, h))

module _ (d : Division) (planes : Planes) where
  pub planes_count : length (filled_planes d planes) ≡ d.planes
  planes_count = length-map-range_with_len (λ p. filled (plane_size d p) (plane planes p)) 0 d.planes

  pub plane_filled : (p : ℕ) (other : List ℕ) → p < d.planes → get_or (filled_planes d planes) p other ≡ filled (plane_size d p) (plane planes p)
  plane_filled p other h = get_or-map-range_with_len (λ p. filled (plane_size d p) (plane planes p)) 0 d.planes p p other h (omega arith)

  pub filled_plane : (p : ℕ) → p < d.planes → plane (filled_planes d planes) p ≡ filled (plane_size d p) (plane planes p)
  filled_plane p h = plane_is (filled_planes d planes) p ∙ plane_filled p [] h

  pub all_empty : ((p : ℕ) → p < d.planes → plane planes p ≡ []) → filled_planes d planes ≡ zeros_of d
  all_empty empty =
      let f : ℕ → List ℕ = λ p. replicate (plane_size d p) 0 in
      let long : length (zeros_of d) ≡ d.planes = length-map-range_with_len f 0 d.planes in
      same_lists (filled_planes d planes) (zeros_of d) (planes_count ∙ sym long) (λ k other h.
      let inside : k < d.planes = omega (arith, h, planes_count) in
      let none : plane_size d k - 0 ≡ plane_size d k = omega arith in
      plane_filled k other inside ∙ ap (filled (plane_size d k)) (empty k inside) ∙ ap (λ n. replicate n 0) none
      ∙ sym (get_or-map-range_with_len f 0 d.planes k k other inside (omega arith)))

  pub all_whole : length planes ≡ d.planes → ((p : ℕ) → p < d.planes → length (plane planes p) ≡ plane_size d p) → planes ≡ filled_planes d planes
  all_whole count whole =
      same_lists planes (filled_planes d planes) (count ∙ sym planes_count) (λ k other h.
      let inside : k < d.planes = omega (arith, h, count) in
      let all : plane_size d k ≤ length (plane planes k) = let is = whole k inside in omega (arith, is) in
      same_at planes k other h ∙ sym (plane_is planes k) ∙ sym (filled_whole (plane_size d k) (plane planes k) all) ∙ sym (plane_filled k other inside))

module _ {A : Type 0} (d : Division) (items : List (Vec ℕ A)) (begun : AreBegun d items) where
  pub are_of : AreOf d (filled_planes d (planes_of items))
  are_of = record {
    count = planes_count d (planes_of items);
    sizes = λ p h. ap (λ (z : List ℕ). length z) (filled_plane d (planes_of items) p h) ∙ filled_long (plane_size d p) (plane (planes_of items) p) (begun.few p h);
  }

  -- what is filled up stays as it is
  pub filled_again : filled_planes d (filled_planes d (planes_of items)) ≡ filled_planes d (planes_of items)
  filled_again = sym (all_whole d (filled_planes d (planes_of items)) are_of.count are_of.sizes)

  -- another vector for one of them
  module _ (p : ℕ) (v : Vec ℕ A) (inside : p < d.planes) where
    at_items : p < length items
    at_items = omega (arith, inside, begun.count)

    at_planes : p < length (planes_of items)
    at_planes = omega (arith, inside, begun.count, planes_long items)

    set_is : planes_of (slice_set items p v) ≡ slice_set (planes_of items) p v.items
    set_is = planes_set items p v

    pub plane_new : plane (planes_of (slice_set items p v)) p ≡ v.items
    plane_new = ap (λ z. plane z p) set_is ∙ plane_now (planes_of items) p v.items at_planes

    pub plane_kept : (q : ℕ) → q ≢ p → plane (planes_of (slice_set items p v)) q ≡ plane (planes_of items) q
    plane_kept q other = ap (λ z. plane z q) set_is ∙ plane_other (planes_of items) p q v.items other

    pub still_begun : length v.items ≤ plane_size d p → vec_capacity v ≡ plane_size d p → AreBegun d (slice_set items p v)
    still_begun few room = record {
      division = begun.division;
      count = length-set items p v ∙ begun.count;
      few = λ q h. elim (cases_eq q p) [
        | inl here ↦ subst (λ k. length (plane (planes_of (slice_set items p v)) k) ≤ plane_size d k) (sym here) (subst (λ (z : List ℕ). length z ≤ plane_size d p) (sym plane_new) few)
        | inr other ↦ subst (λ (z : List ℕ). length z ≤ plane_size d q) (sym (plane_kept q other)) (begun.few q h)
      ];
      room = λ q w h. elim (cases_eq q p) [
        | inl here ↦ subst (λ k. vec_capacity (get_or (slice_set items p v) k w) ≡ plane_size d k) (sym here) (subst (λ (z : Vec ℕ A). vec_capacity z ≡ plane_size d p) (sym (get_or-set_same items p v w at_items)) room)
        | inr other ↦ subst (λ (z : Vec ℕ A). vec_capacity z ≡ plane_size d q) (sym (get_or-set_other items p q v w other)) (begun.room q w h)
      ];
    }

    pub filled_set : (new : List ℕ) → filled (plane_size d p) v.items ≡ new →
        filled_planes d (planes_of (slice_set items p v)) ≡ slice_set (filled_planes d (planes_of items)) p new
    filled_set new is =
        let old = filled_planes d (planes_of items) in
        let now = filled_planes d (planes_of (slice_set items p v)) in
        let count_now = planes_count d (planes_of (slice_set items p v)) in
        let count_old = planes_count d (planes_of items) in
        let at_old : p < length old = omega (arith, inside, count_old) in
        same_lists now (slice_set old p new) (count_now ∙ sym count_old ∙ sym (length-set old p new)) (λ k other h.
        let low : k < d.planes = omega (arith, h, count_now) in
        plane_filled d (planes_of (slice_set items p v)) k other low ∙ elim (cases_eq k p) [
          | inl here ↦
              subst (λ z. filled (plane_size d z) (plane (planes_of (slice_set items p v)) z) ≡ get_or (slice_set old p new) z other) (sym here)
              (ap (filled (plane_size d p)) plane_new ∙ is ∙ sym (get_or-set_same old p new other at_old))
          | inr apart ↦
              ap (filled (plane_size d k)) (plane_kept k apart) ∙ sym (plane_filled d (planes_of items) k other low) ∙ sym (get_or-set_other old p k new other apart)
        ])

    -- the same plane, filled up
    pub set_self : v.items ≡ filled (plane_size d p) (plane (planes_of items) p) →
        filled_planes d (planes_of (slice_set items p v)) ≡ filled_planes d (planes_of items)
    set_self made =
        let old = filled_planes d (planes_of items) in
        let count_old = planes_count d (planes_of items) in
        let at_old : p < length old = omega (arith, inside, count_old) in
        let size = plane_size d p in
        let xs = plane (planes_of items) p in
        let here : get_or old p [] ≡ filled size xs = plane_filled d (planes_of items) p [] inside in
        let now : filled size v.items ≡ get_or old p [] = ap (filled size) made ∙ filled_twice size size xs (omega arith) ∙ sym here in
        filled_set (get_or old p []) now ∙ set-get_or old p []

  -- a line is within its plane
  pub line_within : (p y : ℕ) (samples : List ℕ) → IsLine d p y samples → y * length samples + length samples ≤ plane_size d p
  line_within p y samples line =
      let fits = line_fits d (filled_planes d (planes_of items)) p y samples are_of line in
      let size = are_of.sizes p line.in_plane in
      omega (arith, fits, size)

-- a vector that is pushed
module _ {A : Type 0} (items : List (Vec ℕ A)) (v : Vec ℕ A) where
  pub length_more : length (items ++ (v ∷ [])) ≡ length items + 1
  length_more = length-append items (v ∷ [])

  pub other_item : (p : ℕ) (w : Vec ℕ A) → p < length items → get_or (items ++ (v ∷ [])) p w ≡ get_or items p w
  other_item p w h = get_or_append_left items (v ∷ []) w p h

  pub last_item : (p : ℕ) (w : Vec ℕ A) → p ≡ length items → get_or (items ++ (v ∷ [])) p w ≡ v
  last_item p w here =
      let at : p ≡ length items + 0 = omega (arith, here) in
      ap (λ k. get_or (items ++ (v ∷ [])) k w) at ∙ get_or-append-add items (v ∷ []) 0 w

  pub other_plane : (p : ℕ) → p < length items → plane (planes_of (items ++ (v ∷ []))) p ≡ plane (planes_of items) p
  other_plane p h =
      let long : length (items ++ (v ∷ [])) ≡ length items + 1 = length_more in
      plane_of (items ++ (v ∷ [])) p v (omega (arith, h, long)) ∙ ap (λ (z : Vec ℕ A). z.items) (other_item p v h) ∙ sym (plane_of items p v h)

  pub last_plane : (p : ℕ) → p ≡ length items → plane (planes_of (items ++ (v ∷ []))) p ≡ v.items
  last_plane p here =
      let long : length (items ++ (v ∷ [])) ≡ length items + 1 = length_more in
      plane_of (items ++ (v ∷ [])) p v (omega (arith, here, long)) ∙ ap (λ (z : Vec ℕ A). z.items) (last_item p v here)
