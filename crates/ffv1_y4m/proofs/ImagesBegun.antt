-- Pictures and images that begin, and are read.
use Rattle.std.proofs.Common.{◌≡◌, ℕ, ◌*◌, ◌≤◌, ◌<◌, ◌==◌, cond, map, Bool, true, false, Option, Some, List, [], ◌++◌, length, Ok, Err, inl, inr, refl, ◌∙◌, arith, append-nil}
use Rattle.ffv1_y4m.specs.declared.fault.Fault.{Fault}
use Rattle.ffv1_y4m.specs.declared.fault.Fault.TheVariants as fault
use Rattle.ffv1_y4m.specs.declared.head.DeepHead.{DeepHead}
use Rattle.ffv1_y4m.specs.declared.head.VideoHead.{VideoHead}
use Rattle.ffv1_y4m.specs.Passage.{Passage}
use Rattle.ffv1_y4m.specs.Pictures.{GrowsBeforePlane, GrowsInPicture, frame_begun, picture_read, planes_read}
use Rattle.ffv1_y4m.specs.Ppm.{GrowsInImage, colours_read, image_begun, image_bytes, image_read, image_rest}
use Rattle.ffv1_y4m.specs.Reads.{Decides, IsNone, Nowhere, Stands}
use Rattle.ffv1_y4m.specs.Sequence.{Reading, give, left, where_begun}
use Rattle.ffv1_y4m.specs.VideoHead.{plane_bytes, plane_sizes}
use Rattle.ffv1_y4m.proofs.Colours.{colours_shorten, stands_full}
use Rattle.ffv1_y4m.proofs.Frames.{frame_is, frame_stays}
use Rattle.ffv1_y4m.proofs.ImageTexts.{IsColourHead, begun_again}
use Rattle.ffv1_y4m.proofs.ImagesRead.{begun_read}
use Rattle.ffv1_y4m.proofs.PlaneByPlane.{planes_begun_shorten}
use Rattle.ffv1_y4m.proofs.Sequences.{Local, Shortens, Stays, moved, shortens_then, stands_first, stands_next}

begun_decides : {X : Type 0} (r : Reading X) (bytes : List ℕ) (new : Option (List ℕ)) (x : X) → Decides r bytes new (Ok x) → Decides (where_begun r true) bytes new (Ok (Some x))
begun_decides r bytes new x (inl k) = inl (λ behind. rw (k behind) refl)
begun_decides r bytes new x (inr k) = inr (k.0, rw k.1 refl)

-- what begins is read
pub stands_some : {X : Type 0} (r : Reading X) (g : List ℕ → Type 0) (p : Passage) (x : X) → Stands r g p (Ok x) → Stands (where_begun r true) g p (Ok (Some x))
stands_some r g p x h = record { bytes = h.bytes; taken = h.taken; said = (h.said.0, begun_decides r h.bytes p.new x h.said.1) }

-- what begins is refused
pub stands_stop : {X : Type 0} (r : Reading X) (g : List ℕ → Type 0) (p : Passage) (f : Fault) → Stands r g p (Err f) → Stands (where_begun r true) g p (Err f)
stands_stop r g p f h = stands_first r (λ x. give (Some x)) g g p f (λ x text. omega arith) (λ xs k. k) h

begun_shortens : {X : Type 0} (r : Reading X) → ((text : List ℕ) → length (left (r text)) ≤ length text) → Shortens (where_begun r)
begun_shortens r h = λ b text. by b text
  where
    by : (b : Bool) (text : List ℕ) → length (left (where_begun r b text)) ≤ length text
    by false text = omega arith
    by true text = shortens_then r (λ x. give (Some x)) text (h text) (λ x last. omega arith)

some_by : (b : Bool) (h : VideoHead) → 0 < length (cond b (plane_sizes h) (map (λ size. 2 * size) (plane_sizes h)))
some_by true h = omega arith
some_by false h = omega arith

some_planes : (depth : ℕ) (h : VideoHead) → 0 < length (plane_bytes depth h)
some_planes depth h = some_by (depth == 8) h

-- a picture
pub picture_stops : (depth : ℕ) (h : VideoHead) (p : Passage) (f : Fault) → Stands frame_begun Nowhere p (Err f) → Stands (picture_read depth h) (GrowsInPicture depth h) p (Err f)
picture_stops depth h p f s = stands_first frame_begun (where_begun (planes_read depth (plane_bytes depth h))) Nowhere (GrowsInPicture depth h) p f (begun_shortens (planes_read depth (plane_bytes depth h)) (planes_begun_shorten depth (plane_bytes depth h))) (λ xs k. absurd k) s

pub picture_full : (depth : ℕ) (h : VideoHead) (old mid : Option (List ℕ)) (n m : ℕ) → Stands frame_begun Nowhere (moved old mid n m) (Ok true) → Stands (picture_read depth h) (GrowsInPicture depth h) (moved old mid n m) (Err fault.OutOfMemory)
picture_full depth h old mid n m s =
    stands_next frame_begun (where_begun (planes_read depth (plane_bytes depth h))) Nowhere IsNone (GrowsInPicture depth h) old mid mid n m m true (Err fault.OutOfMemory) frame_stays
    (λ xs ys a b. (ys, rw (frame_is xs a) refl, ([], b, some_planes depth h, refl, tt))) s (stands_full (where_begun (planes_read depth (plane_bytes depth h)) true) mid m)

pub picture_broken : (depth : ℕ) (h : VideoHead) (old mid new : Option (List ℕ)) (n m k : ℕ) (f : Fault) → Stands frame_begun Nowhere (moved old mid n m) (Ok true) → Stands (planes_read depth (plane_bytes depth h)) (GrowsBeforePlane depth (plane_bytes depth h)) (moved mid new m k) (Err f) →
    Stands (picture_read depth h) (GrowsInPicture depth h) (moved old new n k) (Err f)
picture_broken depth h old mid new n m k f s t =
    stands_next frame_begun (where_begun (planes_read depth (plane_bytes depth h))) Nowhere (GrowsBeforePlane depth (plane_bytes depth h)) (GrowsInPicture depth h) old mid new n m k true (Err f) frame_stays
    (λ xs ys a b. (ys, rw (frame_is xs a) refl, b)) s (stands_stop (planes_read depth (plane_bytes depth h)) (GrowsBeforePlane depth (plane_bytes depth h)) (moved mid new m k) f t)

pub picture_whole : (depth : ℕ) (h : VideoHead) (old mid new : Option (List ℕ)) (n m k : ℕ) (planes : List (List ℕ)) → Stands frame_begun Nowhere (moved old mid n m) (Ok true) → Stands (planes_read depth (plane_bytes depth h)) (GrowsBeforePlane depth (plane_bytes depth h)) (moved mid new m k) (Ok planes) →
    Stands (picture_read depth h) (GrowsInPicture depth h) (moved old new n k) (Ok (Some planes))
picture_whole depth h old mid new n m k planes s t =
    stands_next frame_begun (where_begun (planes_read depth (plane_bytes depth h))) Nowhere (GrowsBeforePlane depth (plane_bytes depth h)) (GrowsInPicture depth h) old mid new n m k true (Ok (Some planes)) frame_stays
    (λ xs ys a b. (ys, rw (frame_is xs a) refl, b)) s (stands_some (planes_read depth (plane_bytes depth h)) (GrowsBeforePlane depth (plane_bytes depth h)) (moved mid new m k) planes t)

-- an image
rest_shortens : (said : DeepHead) → Shortens (image_rest said)
rest_shortens said = begun_shortens (colours_read said.depth (image_bytes said)) (colours_shorten said.depth (image_bytes said))

image_stays : (most : ℕ) (said : DeepHead) → IsColourHead said → Stays (image_begun most said) true
image_stays most said is = λ bytes h behind.
    let t = begun_read most said bytes [] h in
    rw (t.whole ∙ append-nil t.header) (begun_again most said t.header behind is t.most_is t.is)

image_grows : (most : ℕ) (said : DeepHead) (xs ys : List ℕ) → Local (image_begun most said) xs true → ys ≡ [] → GrowsInImage most said false (xs ++ ys)
image_grows most said xs ys a none = rw none (a [])

pub image_stops : (most : ℕ) (said : DeepHead) (p : Passage) (f : Fault) → Stands (image_begun most said) Nowhere p (Err f) → Stands (image_read most said false) (GrowsInImage most said false) p (Err f)
image_stops most said p f s = stands_first (image_begun most said) (image_rest said) Nowhere (GrowsInImage most said false) p f (rest_shortens said) (λ xs k. absurd k) s

pub image_broken : (most : ℕ) (said : DeepHead) (old mid new : Option (List ℕ)) (n m k : ℕ) (f : Fault) → IsColourHead said → Stands (image_begun most said) Nowhere (moved old mid n m) (Ok true) → Stands (colours_read said.depth (image_bytes said)) IsNone (moved mid new m k) (Err f) →
    Stands (image_read most said false) (GrowsInImage most said false) (moved old new n k) (Err f)
image_broken most said old mid new n m k f is s t =
    stands_next (image_begun most said) (image_rest said) Nowhere IsNone (GrowsInImage most said false) old mid new n m k true (Err f) (image_stays most said is)
    (image_grows most said) s (stands_stop (colours_read said.depth (image_bytes said)) IsNone (moved mid new m k) f t)

pub image_whole : (most : ℕ) (said : DeepHead) (old mid new : Option (List ℕ)) (n m k : ℕ) (planes : List (List ℕ)) → IsColourHead said → Stands (image_begun most said) Nowhere (moved old mid n m) (Ok true) → Stands (colours_read said.depth (image_bytes said)) IsNone (moved mid new m k) (Ok planes) →
    Stands (image_read most said false) (GrowsInImage most said false) (moved old new n k) (Ok (Some planes))
image_whole most said old mid new n m k planes is s t =
    stands_next (image_begun most said) (image_rest said) Nowhere IsNone (GrowsInImage most said false) old mid new n m k true (Ok (Some planes)) (image_stays most said is)
    (image_grows most said) s (stands_some (colours_read said.depth (image_bytes said)) IsNone (moved mid new m k) planes t)
