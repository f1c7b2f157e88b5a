-- The size of movi, frame by frame.
use Rattle.std.proofs.Common.{◌≡◌, ℕ, suc, zero, ◌+◌, ◌*◌, ◌≤◌, ◌<◌, [], ◌∷◌, List, length, take, get_or, map, sum, add-one, arith}
use Rattle.std.proofs.lemmas.List.Sums.{sum_by-cons}
use Rattle.std.specs.declared.vec.Vec.{Vec}
use Rattle.ffv1_avi.specs.Written.{frame_size, frames_of, movi_size}

sizes_more : {A : Type 0} (frames : List (Vec ℕ A)) (i : ℕ) (d : Vec ℕ A) → i < length frames →
    sum (map frame_size (frames_of (take (suc i) frames))) ≡ sum (map frame_size (frames_of (take i frames))) + frame_size (get_or frames i d).items
sizes_more [] i d inside = absurd (omega (arith, inside))
sizes_more (f ∷ fs) zero d inside = let one : sum (map frame_size (frames_of (f ∷ []))) ≡ frame_size f.items + sum [] = sum_by-cons (λ x. x) (frame_size f.items) [] in
    omega (arith, one)
sizes_more (f ∷ fs) (suc i) d inside =
    let more = sizes_more fs i d (omega (arith, inside)) in
    let front : sum (map frame_size (frames_of (take (suc (suc i)) (f ∷ fs)))) ≡ frame_size f.items + sum (map frame_size (frames_of (take (suc i) fs))) = sum_by-cons (λ x. x) (frame_size f.items) (map frame_size (frames_of (take (suc i) fs))) in
    let back : sum (map frame_size (frames_of (take (suc i) (f ∷ fs)))) ≡ frame_size f.items + sum (map frame_size (frames_of (take i fs))) = sum_by-cons (λ x. x) (frame_size f.items) (map frame_size (frames_of (take i fs))) in
    omega (arith, more, front, back)

sizes_part : {A : Type 0} (frames : List (Vec ℕ A)) (i : ℕ) → sum (map frame_size (frames_of (take i frames))) ≤ sum (map frame_size (frames_of frames))
sizes_part [] zero = omega arith
sizes_part [] (suc i) = omega arith
sizes_part (f ∷ fs) zero = omega arith
sizes_part (f ∷ fs) (suc i) =
    let more = sizes_part fs i in
    let front : sum (map frame_size (frames_of (take (suc i) (f ∷ fs)))) ≡ frame_size f.items + sum (map frame_size (frames_of (take i fs))) = sum_by-cons (λ x. x) (frame_size f.items) (map frame_size (frames_of (take i fs))) in
    let whole : sum (map frame_size (frames_of (f ∷ fs))) ≡ frame_size f.items + sum (map frame_size (frames_of fs)) = sum_by-cons (λ x. x) (frame_size f.items) (map frame_size (frames_of fs)) in
    omega (arith, more, front, whole)

-- one frame more
pub movi_more : {A : Type 0} (frames : List (Vec ℕ A)) (i : ℕ) (d : Vec ℕ A) → i < length frames →
    movi_size (frames_of (take (i + 1) frames)) ≡ movi_size (frames_of (take i frames)) + frame_size (get_or frames i d).items
movi_more frames i d inside = let more = sizes_more frames i d inside in rw add-one (omega (arith, more))

-- some of the frames
pub movi_part : {A : Type 0} (frames : List (Vec ℕ A)) (i : ℕ) → movi_size (frames_of (take i frames)) ≤ movi_size (frames_of frames)
movi_part frames i = let part = sizes_part frames i in omega (arith, part)

-- each frame takes at least eight bytes
pub movi_count : {A : Type 0} (frames : List (Vec ℕ A)) → 8 * length frames + 4 ≤ movi_size (frames_of frames)
movi_count [] = omega arith
movi_count (f ∷ fs) =
    let more = movi_count fs in
    let whole : sum (map frame_size (frames_of (f ∷ fs))) ≡ frame_size f.items + sum (map frame_size (frames_of fs)) = sum_by-cons (λ x. x) (frame_size f.items) (map frame_size (frames_of fs)) in
    omega (arith, more, whole)
