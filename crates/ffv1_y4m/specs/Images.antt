-- The text of a stream of PPM: images of one size and one depth, one after the other.
use Rattle.std.specs.Prelude.{◌≡◌, ℕ, zero, suc, take, drop, ◌-◌, ◌*◌, ◌^◌, ◌≤◌, ◌<◌, true, false}
use Rattle.std.specs.Prelude.{List, [], ◌∷◌, ◌++◌, length, flat_map, codes, decimal, Some, None, Ok}
use Rattle.std.specs.List.{range_with_len}
use Rattle.ffv1_y4m.specs.Ppm.{bytes_for, image_header_text, image_read, interleaved}
use Rattle.ffv1_y4m.specs.Spaces.{IsGap, is_white}
use Rattle.ffv1_wire.specs.Runs.{Line}
use Rattle.ffv1_y4m.specs.Sink.{PpmSink, text_with, kept_behind, row_with}
use Rattle.ffv1_y4m.specs.VideoHead.{AreInDepth, IsNamed, IsSized, colour_head}
use Rattle.ffv1_y4m.specs.declared.head.DeepHead.{DeepHead}

-- planes of red, green and blue, of so many bytes each
pub record AreColours (size : ℕ) (planes : List (List ℕ)) : Type 0 where
  pub red : List ℕ
  pub green : List ℕ
  pub blue : List ℕ
  pub planes_are : planes ≡ red ∷ green ∷ blue ∷ []
  pub red_long : length red ≡ size
  pub green_long : length green ≡ size
  pub blue_long : length blue ≡ size

-- images of so many bytes a plane, with samples below 2 ^ depth
abbrev pub AllColours : ℕ → ℕ → List (List (List ℕ)) → Type 0
AllColours depth size [] = Unit {0}
AllColours depth size (p ∷ ps) =
    (AreColours size p × AreInDepth depth p) × AllColours depth size ps

-- the samples of an image
abbrev pub samples_text : ℕ → List (List ℕ) → List ℕ
samples_text depth [] = []
samples_text depth (red ∷ []) = []
samples_text depth (red ∷ green ∷ []) = []
samples_text depth (red ∷ green ∷ blue ∷ more) = interleaved depth red green blue

-- the text of an image: its header and its samples
abbrev pub image_text : ℕ → ℕ → ℕ → List (List ℕ) → List ℕ
image_text depth width height planes =
    image_header_text depth width height ++ samples_text depth planes

-- a text is these images of this depth and these sizes
pub record IsImages (text : List ℕ) (depth width height : ℕ)
    (images : List (List (List ℕ))) : Type 0 where
  pub sized : IsSized (colour_head width height)
  pub named : IsNamed depth (colour_head width height)
  pub whole : text ≡ flat_map (image_text depth width height) images
  pub fit : AllColours depth (bytes_for depth (width * height)) images

-- the header of an image as Netpbm writes it: `P6`, the sizes and the greatest sample, with white
-- space and comments before each of them, and a byte of white space at the end
pub record IsSpacedHeader (depth width height : ℕ) (header : List ℕ) : Type 0 where
  pub before_width : List ℕ
  pub before_height : List ℕ
  pub before_greatest : List ℕ
  pub last : ℕ
  pub first : IsGap before_width
  pub second : IsGap before_height
  pub third : IsGap before_greatest
  pub white : is_white last ≡ true
  pub whole : header ≡ codes "P6" ++ (before_width ++ (decimal width ++ (before_height
      ++ (decimal height ++ (before_greatest ++ (decimal (2 ^ depth - 1) ++ last ∷ []))))))

-- the header of an image: three lines if depths up to 8 are read, else as Netpbm writes it
pub record IsHeader (most depth width height : ℕ) (header : List ℕ) : Type 0 where
  pub lined : most ≤ 8 → header ≡ image_header_text depth width height
  pub spaced : 8 < most → IsSpacedHeader depth width height header

-- a text is these images, each after a header of its own
abbrev pub AreSpelled : ℕ → ℕ → ℕ → ℕ → List ℕ → List (List (List ℕ)) → Type 0
AreSpelled most depth width height text [] = text ≡ []
AreSpelled most depth width height text (p ∷ ps) =
    (header rest : List ℕ) × IsHeader most depth width height header
    × (text ≡ header ++ (samples_text depth p ++ rest))
    × AreSpelled most depth width height rest ps

-- a text is these images of this depth and these sizes, as it is read if depths up to `most` are
pub record IsImagesIn (most : ℕ) (text : List ℕ) (depth width height : ℕ)
    (images : List (List (List ℕ))) : Type 0 where
  pub sized : IsSized (colour_head width height)
  pub named : IsNamed depth (colour_head width height)
  pub spelled : AreSpelled most depth width height text images
  pub fit : AllColours depth (bytes_for depth (width * height)) images

-- reading image after image gives these and then the end; depths up to `most` are read
abbrev pub ReadsImages : ℕ → DeepHead → List ℕ → List (List (List ℕ)) → Type 0
ReadsImages most h text [] = image_read most h false text ≡ Ok (None, [])
ReadsImages most h text (p ∷ ps) =
    (rest : List ℕ) × (image_read most h false text ≡ Ok (Some p, rest))
    × ReadsImages most h rest ps

-- the same if the header of the first image was read before
abbrev pub ReadsFrom : ℕ → DeepHead → List ℕ → List (List ℕ) → List (List (List ℕ)) → Type 0
ReadsFrom most h text p ps =
    (rest : List ℕ) × (image_read most h true text ≡ Ok (Some p, rest))
    × ReadsImages most h rest ps

-- the lines of rows of an image, of so many bytes each, from this row on: red, green and blue of
-- each
abbrev pub image_lines : ℕ → ℕ → ℕ → List ℕ → List ℕ → List ℕ → List Line
image_lines size row zero red green blue = []
image_lines size row (suc more) red green blue =
    (record { plane = 0; row = row; samples = take size red })
    ∷ (record { plane = 1; row = row; samples = take size green })
    ∷ (record { plane = 2; row = row; samples = take size blue })
    ∷ image_lines size (suc row) more (drop size red) (drop size green) (drop size blue)

-- a sink that has taken whole images
pub record AtImage {W : Type 0} (s : PpmSink W) : Type 0 where
  pub kept : s.kept ≡ []
  pub row : s.row ≡ 0
  pub working : s.failed ≡ false

-- what lines make a sink write, one after the other, by the lines that wait and the row that comes
-- next
abbrev pub text_of_lines : ℕ → ℕ → ℕ → List (List ℕ) → ℕ → List Line → List ℕ
text_of_lines depth width height kept row [] = []
text_of_lines depth width height kept row (l ∷ ls) =
    text_with depth width height row kept l.samples
    ++ text_of_lines depth width height (kept_behind kept l.samples) (row_with height row kept) ls

-- where the lines of an image stand: red, green and blue of each row
abbrev pub image_places : ℕ → List (ℕ × ℕ)
image_places height =
    flat_map (λ y. (0, y) ∷ (1, y) ∷ (2, y) ∷ []) (range_with_len 0 height)
