-- The first fault of a text of images, and that it is whole or has one.
use Rattle.std.proofs.Common.{◌≡◌, ◌⊎◌, ℕ, ◌+◌, ◌*◌, ◌<◌, ◌≤◌, zero, suc, true, false, Option, Some, None, List, [], ◌∷◌, ◌++◌, length, Ok, Err, inl, inr, refl, ap, ◌∙◌, sym, subst, length-append, arith}
use Rattle.ffv1_y4m.specs.declared.fault.Fault.{Fault}
use Rattle.ffv1_y4m.specs.declared.head.DeepHead.{DeepHead}
use Rattle.ffv1_y4m.specs.Images.{IsImagesIn, ReadsImages, samples_text}
use Rattle.ffv1_y4m.specs.Ppm.{bytes_for, colours_read, image_header, image_read}
use Rattle.std.proofs.lemmas.Bool.{true≢false}
use Rattle.ffv1_y4m.specs.Sequence.{Outcome, ◌>>=◌, give}
use Rattle.ffv1_y4m.specs.VideoHead.{IsNamed, IsSized, colour_head}
use Rattle.ffv1_y4m.specs.ImageFaults.{HasImageHeader, HasSamples, ImageFault, ImagesFault, LaterFault, SamplesFault, format_of}
use Rattle.ffv1_y4m.proofs.AnswerParts.{is_fault, is_some, rest_in, value_in}
use Rattle.ffv1_y4m.proofs.HeaderParts.{image_header_known, image_header_only}
use Rattle.ffv1_y4m.proofs.ImageFaults.{header_apart, header_is, header_there, image_known, image_only, image_refused, one_header, samples_known, samples_only, samples_refused}
use Rattle.ffv1_y4m.proofs.ImagesRead.{all_spelled_read, end_told, first_read, image_told, whole_image}
use Rattle.ffv1_y4m.proofs.ImageTexts.{IsSaid, depth_said, first_found, header_some, later_found, samples_found}
use Rattle.ffv1_y4m.proofs.PictureFaults.{given_fault, not_both}

said_of : (most : ℕ) (text : List ℕ) (depth width height : ℕ) (header mid : List ℕ) → HasImageHeader most text depth width height header mid → IsSaid most depth width height
said_of most text depth width height header mid h = record { sized = h.sized; few = h.named.most; says = depth_said most depth width height h.named h.small }

-- an image with its header is read
image_there : (most : ℕ) (text : List ℕ) (depth width height : ℕ) (header mid : List ℕ) (image : List (List ℕ)) (rest : List ℕ) → HasImageHeader most text depth width height header mid → HasSamples depth width height mid image rest → image_read most (format_of depth width height) false text ≡ Ok (Some image, rest)
image_there most text depth width height header mid image rest h s =
    let whole : text ≡ header ++ (samples_text depth image ++ rest) = h.whole ∙ ap (λ z. header ++ z) s.whole in
    ap (image_read most (format_of depth width height) false) whole ∙ later_found most depth width height header image rest (said_of most text depth width height header mid h) h.is s.colours s.small

-- the samples alone
samples_there : (most : ℕ) (depth width height : ℕ) (mid : List ℕ) (image : List (List ℕ)) (rest : List ℕ) → HasSamples depth width height mid image rest → image_read most (format_of depth width height) true mid ≡ Ok (Some image, rest)
samples_there most depth width height mid image rest s = ap (image_read most (format_of depth width height) true) s.whole ∙ first_found most depth width height image rest s.colours s.small

image_long : (most : ℕ) (text : List ℕ) (depth width height : ℕ) (header mid : List ℕ) (image : List (List ℕ)) (rest : List ℕ) → HasImageHeader most text depth width height header mid → HasSamples depth width height mid image rest → length text ≡ length header + length (samples_text depth image) + length rest
image_long most text depth width height header mid image rest h s =
    let a : length text ≡ length (header ++ mid) = ap (λ z. length z) h.whole in
    let b : length mid ≡ length (samples_text depth image ++ rest) = ap (λ z. length z) s.whole in
    omega (arith, a, b, length-append header mid, length-append (samples_text depth image) rest)

-- ---- there is one

later_apart : (most depth width height : ℕ) (text : List ℕ) (f : Fault) (n : ℕ) (header mid : List ℕ) (image : List (List ℕ)) (rest : List ℕ) → ImageFault most (format_of depth width height) text f n → HasImageHeader most text depth width height header mid → HasSamples depth width height mid image rest → ⊥
later_apart most depth width height text f n header mid image rest fails h s =
    let k = image_refused most (format_of depth width height) text f n fails in
    not_both (Some image) rest k.0 f (image_read most (format_of depth width height) false text) (image_there most text depth width height header mid image rest h s) k.1

same_rest : (p q : List (List ℕ)) (u v : List ℕ) (o : Outcome (Option (List (List ℕ)))) → o ≡ Ok (Some p, u) → o ≡ Ok (Some q, v) → u ≡ v
same_rest p q u v o a b = ap rest_in (sym a ∙ b)

later_only : (most depth width height : ℕ) (ps qs : List (List (List ℕ))) (text : List ℕ) (f g : Fault) (m n : ℕ) → LaterFault most depth width height ps text f m → LaterFault most depth width height qs text g n → (f ≡ g) × (m ≡ n)
later_only most depth width height [] [] text f g m n a b = image_only most (format_of depth width height) text f g m n a b
later_only most depth width height [] (q ∷ qs) text f g m n a b = absurd (later_apart most depth width height text f m b.0 b.1 q b.2 a b.3 b.4)
later_only most depth width height (p ∷ ps) [] text f g m n a b = absurd (later_apart most depth width height text g n a.0 a.1 p a.2 b a.3 a.4)
later_only most depth width height (p ∷ ps) (q ∷ qs) text f g m n (header, mid, rest, h, s, i, fails, at) (begun, left, tail, k, t, j, too, there) =
    let same : rest ≡ tail = same_rest p q rest tail (image_read most (format_of depth width height) false text) (image_there most text depth width height header mid p rest h s) (image_there most text depth width height begun left q tail k t) in
    let on = later_only most depth width height ps qs tail f g i j (subst (λ z. LaterFault most depth width height ps z f i) same fails) too in
    let ends : length rest ≡ length tail = ap (λ z. length z) same in
    let one = image_long most text depth width height header mid p rest h s in
    let other = image_long most text depth width height begun left q tail k t in
    (on.0, omega (arith, at, there, on.1, one, other, ends))

abbrev After : ℕ → ℕ → ℕ → ℕ → List ℕ → List ℕ → Fault → ℕ → Type 0
After most depth width height header mid f n =
    (SamplesFault depth (bytes_for depth (width * height)) mid f × (n ≡ length header))
    ⊎ ((image : List (List ℕ)) × (images : List (List (List ℕ))) × (rest : List ℕ) × HasSamples depth width height mid image rest × (m : ℕ) × LaterFault most depth width height images rest f m × (n ≡ length header + length (samples_text depth image) + m))

first_apart : (depth width height : ℕ) (mid : List ℕ) (f : Fault) (image : List (List ℕ)) (rest : List ℕ) → SamplesFault depth (bytes_for depth (width * height)) mid f → HasSamples depth width height mid image rest → ⊥
first_apart depth width height mid f image rest fails s =
    let k = samples_refused depth (bytes_for depth (width * height)) mid f fails in
    let is : colours_read depth (bytes_for depth (width * height)) mid ≡ Ok (image, rest) = ap (colours_read depth (bytes_for depth (width * height))) s.whole ∙ samples_found depth (bytes_for depth (width * height)) image rest (whole_image (format_of depth width height)) s.colours s.small in
    not_both image rest k.0 f (colours_read depth (bytes_for depth (width * height)) mid) is k.1

one_after : (most depth width height : ℕ) (header begun mid : List ℕ) (f g : Fault) (m n : ℕ) → length header ≡ length begun → After most depth width height header mid f m → After most depth width height begun mid g n → (f ≡ g) × (m ≡ n)
one_after most depth width height header begun mid f g m n long (inl (a, at)) (inl (b, there)) = (samples_only depth (bytes_for depth (width * height)) mid f g a b, at ∙ (long ∙ sym there))
one_after most depth width height header begun mid f g m n long (inl (a, at)) (inr k) = absurd (first_apart depth width height mid f k.0 k.2 a k.3)
one_after most depth width height header begun mid f g m n long (inr k) (inl (b, there)) = absurd (first_apart depth width height mid g k.0 k.2 b k.3)
one_after most depth width height header begun mid f g m n long (inr (p, ps, rest, s, i, fails, at)) (inr (q, qs, tail, t, j, too, there)) =
    let same : rest ≡ tail = same_rest p q rest tail (image_read most (format_of depth width height) true mid) (samples_there most depth width height mid p rest s) (samples_there most depth width height mid q tail t) in
    let on = later_only most depth width height ps qs tail f g i j (subst (λ z. LaterFault most depth width height ps z f i) same fails) too in
    let ends : length rest ≡ length tail = ap (λ z. length z) same in
    let one : length (samples_text depth p ++ rest) ≡ length (samples_text depth q ++ tail) = ap (λ z. length z) (sym s.whole ∙ t.whole) in
    (on.0, omega (arith, at, there, on.1, ends, long, one, length-append (samples_text depth p) rest, length-append (samples_text depth q) tail))

pub images_only_fault : (most : ℕ) (text : List ℕ) (f g : Fault) (m n : ℕ) → ImagesFault most text f m → ImagesFault most text g n → (f ≡ g) × (m ≡ n)
images_only_fault most text f g m n (inl a) (inl b) = image_header_only most text f g m n a b
images_only_fault most text f g m n (inl a) (inr k) = absurd (header_apart most text f m k.0 k.1 k.2 k.3 k.4 a k.5)
images_only_fault most text f g m n (inr k) (inl b) = absurd (header_apart most text g n k.0 k.1 k.2 k.3 k.4 b k.5)
images_only_fault most text f g m n (inr (depth, width, height, header, mid, a, after)) (inr (other, wide, high, begun, left, b, behind)) =
    let s = one_header most text depth width height other wide high header begun mid left a b in
    let moved : After most other wide high header left f m = subst (λ z. After most z wide high header left f m) s.deep (subst (λ z. After most depth z high header left f m) s.across (subst (λ z. After most depth width z header left f m) s.down (subst (λ z. After most depth width height header z f m) s.tail after))) in
    one_after most other wide high header begun left f g m n s.long moved behind

-- ---- each text is whole, or has one

abbrev Ends : ℕ → ℕ → ℕ → ℕ → List ℕ → Type 0
Ends most depth width height text =
    ((ps : List (List (List ℕ))) × ReadsImages most (format_of depth width height) text ps)
    ⊎ ((f : Fault) × (n : ℕ) × (ps : List (List (List ℕ))) × LaterFault most depth width height ps text f n)

-- what is known of the first header
pub record IsFormat (most depth width height : ℕ) : Type 0 where
  pub sized : IsSized (colour_head width height)
  pub named : IsNamed depth (colour_head width height)
  pub small : depth ≤ most

ends_by : (most depth width height : ℕ) (text : List ℕ) (o : Outcome (Option (List (List ℕ)))) → IsFormat most depth width height → image_read most (format_of depth width height) false text ≡ o → ((left : List ℕ) → length left < length text → Ends most depth width height left) → Ends most depth width height text
ends_by most depth width height text (Err (f, left)) format is more =
    let k = image_known most (format_of depth width height) text f left is in
    inr (f, k.0, [], k.1)
ends_by most depth width height text (Ok (None, left)) format is more =
    let none : text ≡ [] = end_told most (format_of depth width height) text left is in
    inl ([], ap (image_read most (format_of depth width height) false) none)
ends_by most depth width height text (Ok (Some p, left)) format is more =
    let t = image_told most (format_of depth width height) text p left is in
    let header : HasImageHeader most text depth width height t.header (samples_text depth p ++ left) = record { sized = format.sized; named = format.named; small = format.small; is = t.is; whole = t.whole } in
    let samples : HasSamples depth width height (samples_text depth p ++ left) p left = record { colours = t.fits; small = t.small; whole = refl } in
    let some : 0 < length t.header = header_some most depth width height t.header t.is in
    let long = image_long most text depth width height t.header (samples_text depth p ++ left) p left header samples in
    elim (more left (omega (arith, some, long))) [
      | inl e ↦ inl (p ∷ e.0, (left, is, e.1))
      | inr e ↦ inr (e.0, length t.header + length (samples_text depth p) + e.1, p ∷ e.2, (t.header, samples_text depth p ++ left, left, header, samples, e.1, e.3, refl))
    ]

ends_in : (steps most depth width height : ℕ) (text : List ℕ) → length text < steps → IsFormat most depth width height → Ends most depth width height text
ends_in zero most depth width height text few format = absurd (omega (arith, few))
ends_in (suc steps) most depth width height text few format =
    ends_by most depth width height text (image_read most (format_of depth width height) false text) format refl (λ left less. ends_in steps most depth width height left (omega (arith, few, less)) format)

abbrev Whole : ℕ → List ℕ → Type 0
Whole most text = (depth width height : ℕ) × (image : List (List ℕ)) × (images : List (List (List ℕ))) × IsImagesIn most text depth width height (image ∷ images) × (depth ≤ most)

samples_by : (most : ℕ) (text : List ℕ) (depth width height : ℕ) (header mid : List ℕ) (o : Outcome (Option (List (List ℕ)))) → HasImageHeader most text depth width height header mid → image_read most (format_of depth width height) true mid ≡ o → Whole most text ⊎ ((f : Fault) × (n : ℕ) × ImagesFault most text f n)
samples_by most text depth width height header mid (Err (f, left)) h is =
    let fails = samples_known depth (bytes_for depth (width * height)) mid f left (given_fault (colours_read depth (bytes_for depth (width * height)) mid) f left is) in
    inr (f, length header, inr (depth, width, height, header, mid, h, inl (fails, refl)))
samples_by most text depth width height header mid (Ok (None, left)) h is = absurd (never_none depth width height mid left is)
  where
    none_by : (o : Outcome (List (List ℕ))) (left : List ℕ) → (o >>= λ p. give (Some p.0) p.1) ≡ Ok (None, left) → ⊥
    none_by (Ok p) left e = true≢false (ap (λ r. is_some (value_in None r)) e)
    none_by (Err f) left e = true≢false (ap is_fault e)

    never_none : (depth width height : ℕ) (mid left : List ℕ) → image_read most (format_of depth width height) true mid ≡ Ok (None, left) → ⊥
    never_none depth width height mid left e = none_by (colours_read depth (bytes_for depth (width * height)) mid) left e
samples_by most text depth width height header mid (Ok (Some p, left)) h is =
    let t = first_read depth (bytes_for depth (width * height)) mid p left (whole_image (format_of depth width height)) is in
    let samples : HasSamples depth width height mid p left = record { colours = t.fits; small = t.small; whole = t.whole } in
    elim (ends_in (suc (length left)) most depth width height left (omega arith) (record { sized = h.sized; named = h.named; small = h.small })) [
      | inl e ↦ inl (depth, width, height, p, e.0, all_spelled_read text most depth (colour_head width height) mid p e.0 (header_is most text depth width height header mid h) (left, is, e.1), h.small)
      | inr e ↦ inr (e.0, length header + length (samples_text depth p) + e.1, inr (depth, width, height, header, mid, h, inr (p, e.2, left, samples, e.1, e.3, refl)))
    ]

whole_by : (most : ℕ) (text : List ℕ) (o : Outcome DeepHead) → image_header most text ≡ o → Whole most text ⊎ ((f : Fault) × (n : ℕ) × ImagesFault most text f n)
whole_by most text (Err (f, left)) is =
    let k = image_header_known most text f left is in
    inr (f, k.0, inl k.1)
whole_by most text (Ok (next, rest)) is =
    let t = header_there most text next rest is in
    samples_by most text next.depth next.head.width next.head.height t.0 rest (image_read most (format_of next.depth next.head.width next.head.height) true rest) t.1 refl

pub images_or_fault : (most : ℕ) (text : List ℕ) → Whole most text ⊎ ((f : Fault) × (n : ℕ) × ImagesFault most text f n)
images_or_fault most text = whole_by most text (image_header most text) refl
