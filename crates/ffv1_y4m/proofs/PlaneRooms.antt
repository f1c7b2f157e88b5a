-- Vectors with room for planes.
use Rattle.std.proofs.Common.{refl, cond, Bool, true, false, ◌*◌, ◌==◌, ◌≡◌, ℕ, ◌+◌, ◌<◌, ◌≤◌, List, [], ◌∷◌, length, drop, get_or, map, sym, subst, arith, add-one, drop-cons}
use Rattle.std.proofs.Math.ListN.{set}
use Rattle.std.proofs.lemmas.List.{drop-set-lt, length-map}
use Rattle.ffv1_y4m.specs.declared.head.VideoHead.{VideoHead}
use Rattle.ffv1_y4m.specs.VideoHead.{plane_bytes, plane_sizes}
use Rattle.std.specs.declared.vec.Vec.{Vec}
use Rattle.std.specs.Vec.{vec_capacity}
use Rattle.ffv1_y4m.specs.State.{HasRoom, samples_of}

parted : {A : Type 0} (sizes : List ℕ) (planes : List (Vec ℕ A)) (i : ℕ) (d : Vec ℕ A) → i < length sizes → i < length planes → HasRoom (drop i sizes) (drop i planes) →
    HasRoom (get_or sizes i 0 ∷ drop (i + 1) sizes) (get_or planes i d ∷ drop (i + 1) planes)
parted {A = A} sizes planes i d inside within h =
    let one : drop i sizes ≡ get_or sizes i 0 ∷ drop (i + 1) sizes = rw add-one (drop-cons sizes i 0 inside) in
    let two : drop i planes ≡ get_or planes i d ∷ drop (i + 1) planes = rw add-one (drop-cons planes i d within) in
    let P : List ℕ → Type 0 = λ z. HasRoom z (drop i planes) in
    let Q : List (Vec ℕ A) → Type 0 = λ z. HasRoom (get_or sizes i 0 ∷ drop (i + 1) sizes) z in
    subst Q two (subst P one h)

pub room_at : {A : Type 0} (sizes : List ℕ) (planes : List (Vec ℕ A)) (i : ℕ) (d : Vec ℕ A) → i < length sizes → i < length planes → HasRoom (drop i sizes) (drop i planes) → get_or sizes i 0 ≤ vec_capacity (get_or planes i d)
room_at sizes planes i d inside within h =
    let both = parted sizes planes i d inside within h in
    both.0

pub room_next : {A : Type 0} (sizes : List ℕ) (planes : List (Vec ℕ A)) (i : ℕ) (d p : Vec ℕ A) → i < length sizes → i < length planes → HasRoom (drop i sizes) (drop i planes) → HasRoom (drop (i + 1) sizes) (drop (i + 1) (set planes i p))
room_next {A = A} sizes planes i d p inside within h =
    let both = parted sizes planes i d inside within h in
    let P : List (Vec ℕ A) → Type 0 = λ z. HasRoom (drop (i + 1) sizes) z in
    subst P (sym (drop-set-lt (i + 1) planes i p (omega arith))) both.1

room_own : {A : Type 0} (planes : List (Vec ℕ A)) → HasRoom (map (λ plane. length plane) (samples_of planes)) planes
room_own [] = tt
room_own (plane ∷ planes) = (omega (arith, plane.ok.0, plane.ok.1), room_own planes)

-- vectors that hold planes have room for them
pub room_left : {A : Type 0} (sizes : List ℕ) (planes : List (Vec ℕ A)) → map (λ plane. length plane) (samples_of planes) ≡ sizes → HasRoom sizes planes
room_left sizes planes e = subst (λ z. HasRoom z planes) e (room_own planes)

long_by : (b : Bool) (h : VideoHead) → length (cond b (plane_sizes h) (map (λ size. 2 * size) (plane_sizes h))) ≡ length (plane_sizes h)
long_by true h = refl
long_by false h = length-map (plane_sizes h) (λ size. 2 * size)

-- as many planes, in samples and in bytes
pub bytes_long : (depth : ℕ) (h : VideoHead) → length (plane_bytes depth h) ≡ length (plane_sizes h)
bytes_long depth h = long_by (depth == 8) h
