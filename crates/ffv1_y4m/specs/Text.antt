-- The text of a stream of YUV4MPEG2: a header line, and pictures after it.
use Rattle.std.specs.Prelude.{◌≡◌, ℕ, ◌≤◌, List, [], ◌∷◌, ◌++◌, length, flat_map, Some, None, Ok}
use Rattle.ffv1_y4m.specs.HeaderLine.{IsHeaderLine, Without}
use Rattle.ffv1_y4m.specs.Pictures.{picture_read, picture_text}
use Rattle.ffv1_y4m.specs.VideoHead.{AreInDepth, Fits}
use Rattle.ffv1_y4m.specs.declared.head.VideoHead.{VideoHead}

-- each picture has the planes that the head says, with samples below 2 ^ depth
abbrev pub AllFit : ℕ → VideoHead → List (List (List ℕ)) → Type 0
AllFit depth h [] = Unit {0}
AllFit depth h (p ∷ ps) = (Fits depth h p × AreInDepth depth p) × AllFit depth h ps

-- a text is a line of at most 1024 bytes that says this depth and this head, as it is read if
-- depths up to `most` are, a line feed, and these pictures
pub record IsText (most : ℕ) (text : List ℕ) (depth : ℕ) (h : VideoHead)
    (pictures : List (List (List ℕ))) : Type 0 where
  pub line : List ℕ
  pub single : Without 10 line
  pub short : length line ≤ 1024
  pub said : IsHeaderLine most line depth h
  pub whole : text ≡ line ++ 10 ∷ flat_map picture_text pictures
  pub fit : AllFit depth h pictures

-- reading picture after picture gives these and then the end
abbrev pub ReadsAll : ℕ → VideoHead → List ℕ → List (List (List ℕ)) → Type 0
ReadsAll depth h text [] = picture_read depth h text ≡ Ok (None, [])
ReadsAll depth h text (p ∷ ps) =
    (rest : List ℕ) × (picture_read depth h text ≡ Ok (Some p, rest)) × ReadsAll depth h rest ps
