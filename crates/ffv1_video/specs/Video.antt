-- What is packed: a video, as YUV4MPEG2 or, if the text begins with `P`, as binary PPM.
use Rattle.std.specs.Prelude.{◌≡◌, ℕ, ◌==◌, Bool, true, false, if◌then◌else◌, List, [], ◌∷◌, Option}
use Rattle.std.specs.Prelude.{Some, Ok, Err}
use Rattle.ffv1_y4m.specs.Header.{header_of}
use Rattle.ffv1_y4m.specs.Images.{IsImages, IsImagesIn}
use Rattle.ffv1_y4m.specs.Pictures.{picture_read}
use Rattle.ffv1_y4m.specs.Ppm.{image_header, image_read}
use Rattle.ffv1_y4m.specs.Sequence.{Outcome, Reading}
use Rattle.ffv1_y4m.specs.Text.{IsText}
use Rattle.ffv1_y4m.specs.VideoHead.{colour_head}
use Rattle.ffv1_y4m.specs.declared.head.VideoHead.{VideoHead}
use Rattle.ffv1_frame.specs.Picture.{Planes}
use Rattle.ffv1_reads.specs.Known.{Known}

-- what the header of a text says: a head, and the bits of a sample
pub record SaidHead : Type 0 where
  pub head : VideoHead
  pub depth : ℕ

-- whether it is PPM, the head with the depth of the samples, and the planes of its pictures
pub record Video : Type 0 where
  pub ppm : Bool
  pub head : SaidHead
  pub pictures : List Planes

-- whether a text is PPM: by its first byte
abbrev pub is_ppm : List ℕ → Bool
is_ppm [] = false
is_ppm (c ∷ cs) = c == 80

-- a text is this video, by tags that say neither range nor siting, and images of three lines
abbrev pub IsVideoBy : Bool → List ℕ → SaidHead → List Planes → Type 0
IsVideoBy true text h pictures =
    (h.head ≡ colour_head h.head.width h.head.height)
    × IsImages text h.depth h.head.width h.head.height pictures
IsVideoBy false text h pictures = IsText 8 text h.depth h.head pictures

abbrev pub IsVideo : List ℕ → Video → Type 0
IsVideo text v = IsVideoBy v.ppm text v.head v.pictures

-- the same, as it is read if depths up to `most` are: above 8 with range and siting, and with
-- headers of PPM as Netpbm writes them
abbrev pub IsReadVideoBy : ℕ → Bool → List ℕ → SaidHead → List Planes → Type 0
IsReadVideoBy most true text h pictures =
    (h.head ≡ colour_head h.head.width h.head.height)
    × IsImagesIn most text h.depth h.head.width h.head.height pictures
IsReadVideoBy most false text h pictures = IsText most text h.depth h.head pictures

abbrev pub IsReadVideo : ℕ → List ℕ → Video → Type 0
IsReadVideo most text v = IsReadVideoBy most v.ppm text v.head v.pictures

-- what was read, seen so
abbrev pub seen_as : {X Y : Type 0} → Outcome X → (X → Y) → Outcome Y
seen_as (Ok p) view = Ok (view p.0, p.1)
seen_as (Err e) view = Err e

-- the head of a text, if depths up to `most` are read
abbrev pub video_head : ℕ → Reading SaidHead
video_head most text =
    if is_ppm text
    then seen_as (image_header most text) (λ h. record { head = h.head; depth = h.depth })
    else seen_as (header_of most text) (λ h. record { head = h.head; depth = h.depth })

-- the next picture, or None at the end; of the first image of PPM the header was read before
abbrev pub picture_next : Bool → ℕ → SaidHead → Bool → Reading (Option Planes)
picture_next true most h first =
    image_read most (record { head = h.head; depth = h.depth }) first
picture_next false most h first = picture_read h.depth h.head

-- whether no picture was read yet
abbrev pub at_first : List Planes → Bool
at_first [] = true
at_first (p ∷ ps) = false

-- these pictures, one after the other, and then this is left
abbrev pub ReadsPictures : Bool → ℕ → SaidHead → Bool → List ℕ → List Planes → List ℕ → Type 0
ReadsPictures ppm most h first text [] left = left ≡ text
ReadsPictures ppm most h first text (p ∷ ps) left =
    (rest : List ℕ) × (picture_next ppm most h first text ≡ Ok (Some p, rest))
    × ReadsPictures ppm most h false rest ps left

-- a text begins with the head and the pictures of this video, if depths up to `most` are read,
-- and then this is left
pub record Begins (most : ℕ) (text : List ℕ) (v : Video) (left : List ℕ) : Type 0 where
  pub kind : v.ppm ≡ is_ppm text
  pub behind : List ℕ
  pub head : video_head most text ≡ Ok (v.head, behind)
  pub pictures : ReadsPictures v.ppm most v.head true behind v.pictures left

-- if the text is known, all of it was read, with depths up to `most`, and it is this video
abbrev pub ReadsVideo : ℕ → Option (List ℕ) → Option (List ℕ) → Video → Type 0
ReadsVideo most old new v = Known old new (λ text rest. IsReadVideo most text v × (rest ≡ []))
