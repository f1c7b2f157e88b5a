-- The bytes of a picture, part by part.
use Rattle.std.proofs.Common.{◌≡◌, ℕ, zero, suc, ◌+◌, ◌<◌, List, [], ◌∷◌, ◌++◌, length, take, get_or, ap, sym, subst, ◌∙◌, arith, append_assoc, append-nil, add-one}
use Rattle.std.specs.List.{concat, flat_map, range_with_len}
use Rattle.std.proofs.lemmas.List.{take_more, map-append}
use Rattle.std.proofs.lemmas.List.Folds.{concat-append}
use Rattle.std.proofs.lemmas.Grind.{flat_map-append}
use Rattle.std.specs.declared.vec.Vec.{Vec}
use Rattle.ffv1_video.specs.declared.picture_md5.Hashed.{Hashed}
use Rattle.ffv1_frame.specs.Picture.{Planes, planes_of}
use Rattle.ffv1_video.specs.RawPicture.{pixel}
use Rattle.ffv1_video.specs.Internal.RawPicture.{IsOf}

range_more : (a n : ℕ) → range_with_len a (suc n) ≡ range_with_len a n ++ ((a + n) ∷ [])
range_more a zero = let same : a ≡ a + 0 = omega arith in let f : ℕ → List ℕ = λ k. k ∷ [] in ap f same
range_more a (suc n) =
    let rest = range_more (a + 1) n in
    let same : a + 1 + n ≡ a + suc n = omega arith in
    let f : ℕ → List ℕ = λ k. a ∷ (range_with_len (a + 1) n ++ (k ∷ [])) in
    let g : List ℕ → List ℕ = λ z. a ∷ z in
    ap g rest ∙ ap f same

joined_more : (f : ℕ → List ℕ) (a n : ℕ) → flat_map f (range_with_len a (suc n)) ≡ flat_map f (range_with_len a n) ++ f (a + n)
joined_more f a n =
    ap (flat_map f) (range_more a n) ∙ flat_map-append f (range_with_len a n) ((a + n) ∷ []) ∙ ap (λ z. flat_map f (range_with_len a n) ++ z) (append-nil (f (a + n)))

-- the samples at one position more
pub pixels_more : (h : Hashed) (planes : Planes) (m bytes : List ℕ) (n : ℕ) → bytes ≡ pixel planes n →
    IsOf h ((m ++ flat_map (pixel planes) (range_with_len 0 n)) ++ bytes) → IsOf h (m ++ flat_map (pixel planes) (range_with_len 0 (n + 1)))
pixels_more h planes m bytes n is held =
    let f = pixel planes in
    let none : 0 + n ≡ n = omega arith in
    let here : flat_map f (range_with_len 0 (n + 1)) ≡ flat_map f (range_with_len 0 n) ++ f n =
    rw add-one
    (joined_more f 0 n ∙ ap (λ k. flat_map f (range_with_len 0 n) ++ f k) none) in
    subst (λ z. IsOf h (m ++ z)) (sym here)
    (subst (IsOf h) (append_assoc m (flat_map f (range_with_len 0 n)) (f n)) (subst (λ z. IsOf h ((m ++ flat_map f (range_with_len 0 n)) ++ z)) is held))

-- the bytes of a plane more
pub planes_more : {A : Type 0} (h : Hashed) (planes : List (Vec ℕ A)) (d : Vec ℕ A) (m bytes : List ℕ) (n : ℕ) → n < length planes → bytes ≡ (get_or planes n d).items →
    IsOf h ((m ++ concat (planes_of (take n planes))) ++ bytes) → IsOf h (m ++ concat (planes_of (take (n + 1) planes)))
planes_more h planes d m bytes n inside is held =
    let before = planes_of (take n planes) in
    let here : concat (planes_of (take (n + 1) planes)) ≡ concat before ++ (get_or planes n d).items =
    ap (λ z. concat (planes_of z)) (take_more planes n d inside)
    ∙ ap concat (map-append (λ (v : Vec ℕ _). v.items) (take n planes) (get_or planes n d ∷ []))
    ∙ concat-append before ((get_or planes n d).items ∷ [])
    ∙ ap (λ z. concat before ++ z) (append-nil (get_or planes n d).items) in
    subst (λ z. IsOf h (m ++ z)) (sym here)
    (subst (IsOf h) (append_assoc m (concat before) (get_or planes n d).items) (subst (λ z. IsOf h ((m ++ concat before) ++ z)) is held))
