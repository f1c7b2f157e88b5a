-- A first fault is in its text.
use Rattle.std.proofs.Common.{◌≡◌, ℕ, ◌+◌, ◌≤◌, List, [], ◌∷◌, ◌++◌, length, flat_map, codes, inl, inr, ap, arith, length-append}
use Rattle.ffv1_y4m.specs.declared.fault.Fault.{Fault}
use Rattle.ffv1_y4m.specs.declared.head.DeepHead.{DeepHead}
use Rattle.ffv1_y4m.specs.declared.head.VideoHead.{VideoHead}
use Rattle.ffv1_y4m.specs.HeaderLine.{spaced}
use Rattle.ffv1_y4m.specs.Images.{samples_text}
use Rattle.ffv1_y4m.specs.Pictures.{frame_line, picture_text}
use Rattle.ffv1_y4m.specs.VideoHead.{plane_bytes}
use Rattle.ffv1_y4m.specs.FirstFaults.{HeaderFault, PictureFault, PlanesFault, TagsFault, TextFault}
use Rattle.ffv1_y4m.specs.ImageFaults.{ImageFault, ImagesFault, LacksPart, LaterFault, format_of, header_parts}

-- the length of a text of two parts
long : (text xs ys : List ℕ) → text ≡ xs ++ ys → length text ≡ length xs + length ys
long text xs ys e =
    let same : length text ≡ length (xs ++ ys) = ap (λ z. length z) e in
    omega (arith, same, length-append xs ys)

tags_inside : (most : ℕ) (tags before : List (List ℕ)) (f : Fault) (n : ℕ) → TagsFault most before tags f n → n ≤ length (spaced tags)
tags_inside most [] before f n (lacks, is, at) = omega (arith, at)
tags_inside most (tag ∷ tags) before f n (inl (is, at)) = omega (arith, at, length-append tag (spaced tags))
tags_inside most (tag ∷ tags) before f n (inr (none, m, fails, at)) =
    let more = tags_inside most tags (before ++ tag ∷ []) f m fails in
    omega (arith, at, more, length-append tag (spaced tags))

header_inside : (most : ℕ) (text : List ℕ) (f : Fault) (n : ℕ) → HeaderFault most text f n → n ≤ length text
header_inside most text f n (inl (none, is, at)) = omega (arith, at)
header_inside most text f n (inr (line, rest, tags, has, t, m, fails, at)) =
    let more = tags_inside most tags [] f m fails in
    let one = long line (codes "YUV4MPEG2") (spaced tags) t.spelled in
    let two = long text line (10 ∷ rest) has.whole in
    omega (arith, at, more, one, two)

planes_inside : (depth : ℕ) (sizes text : List ℕ) (f : Fault) (n : ℕ) → PlanesFault depth sizes text f n → n ≤ length text
planes_inside depth [] text f n h = absurd h
planes_inside depth (size ∷ sizes) text f n (inl (h, at)) = omega (arith, at)
planes_inside depth (size ∷ sizes) text f n (inr (plane, rest, p, m, h, at)) =
    let more = planes_inside depth sizes rest f m h in
    let one = long text plane rest p.whole in
    let size_is = p.long in
    omega (arith, at, more, one, size_is)

picture_inside : (depth : ℕ) (h : VideoHead) (text : List ℕ) (f : Fault) (n : ℕ) → PictureFault depth h text f n → n ≤ length text
picture_inside depth h text f n (inl (there, fails, at)) = omega (arith, at)
picture_inside depth h text f n (inr (rest, is, m, fails, at)) =
    let more = planes_inside depth (plane_bytes depth h) rest f m fails in
    let one = long text frame_line rest is in
    omega (arith, at, more, one)

pub text_inside : (most : ℕ) (text : List ℕ) (f : Fault) (n : ℕ) → TextFault most text f n → n ≤ length text
text_inside most text f n (inl fails) = header_inside most text f n fails
text_inside most text f n (inr (depth, h, rest, count, r, m, fails, at)) =
    let more = picture_inside depth h rest f m fails in
    let one = long text r.line (10 ∷ (flat_map picture_text r.pictures ++ rest)) r.begins.whole in
    let two = length-append (flat_map picture_text r.pictures) rest in
    let counted = r.counted in
    omega (arith, at, more, one, two, counted)

lacks_inside : (parts : List (List ℕ → Type 0)) (text : List ℕ) (n : ℕ) → LacksPart parts text n → n ≤ length text
lacks_inside [] text n h = absurd h
lacks_inside (IsPart ∷ parts) text n (inl (none, at)) = omega (arith, at)
lacks_inside (IsPart ∷ parts) text n (inr (part, rest, is, whole, m, lacks, at)) =
    let more = lacks_inside parts rest m lacks in
    let one = long text part rest whole in
    omega (arith, at, more, one)

image_inside : (most : ℕ) (said : DeepHead) (text : List ℕ) (f : Fault) (n : ℕ) → ImageFault most said text f n → n ≤ length text
image_inside most said text f n (inl (there, h)) = lacks_inside (header_parts most) text n h.0
image_inside most said text f n (inr (depth, width, height, header, rest, h, inl (other, is, at))) = omega (arith, at)
image_inside most said text f n (inr (depth, width, height, header, rest, h, inr (same, fails, at))) =
    let one = long text header rest h.whole in
    omega (arith, at, one)

later_inside : (most depth width height : ℕ) (images : List (List (List ℕ))) (text : List ℕ) (f : Fault) (n : ℕ) → LaterFault most depth width height images text f n → n ≤ length text
later_inside most depth width height [] text f n h = image_inside most (format_of depth width height) text f n h
later_inside most depth width height (image ∷ images) text f n (header, mid, rest, h, s, m, fails, at) =
    let more = later_inside most depth width height images rest f m fails in
    let one = long text header mid h.whole in
    let two = long mid (samples_text depth image) rest s.whole in
    omega (arith, at, more, one, two)

pub images_inside : (most : ℕ) (text : List ℕ) (f : Fault) (n : ℕ) → ImagesFault most text f n → n ≤ length text
images_inside most text f n (inl h) = lacks_inside (header_parts most) text n h.0
images_inside most text f n (inr (depth, width, height, header, mid, h, inl (fails, at))) =
    let one = long text header mid h.whole in
    omega (arith, at, one)
images_inside most text f n (inr (depth, width, height, header, mid, h, inr (image, images, rest, s, m, fails, at))) =
    let more = later_inside most depth width height images rest f m fails in
    let one = long text header mid h.whole in
    let two = long mid (samples_text depth image) rest s.whole in
    omega (arith, at, more, one, two)
