-- What a header line says: tags after `YUV4MPEG2`, each a letter and a value after one space, in
-- any order.
use Rattle.std.specs.Prelude.{◌≡◌, ℕ, ◌==◌, ◌||◌, Bool, true, false, if◌then◌else◌, List, [], ◌∷◌}
use Rattle.std.specs.Prelude.{◌++◌, codes, flat_map, nat_lt, Option, Some, None, Ok}
use Rattle.ffv1_y4m.specs.Header.{size_of, ratio_of, structure_of, chroma_named, chroma_planes}
use Rattle.ffv1_y4m.specs.Header.{range_of}
use Rattle.ffv1_y4m.specs.declared.head.Range.{Range}
use Rattle.ffv1_y4m.specs.declared.head.VideoHead.{VideoHead}
use Rattle.ffv1_y4m.specs.declared.tags.Chroma.{Chroma}

-- no byte is this one
abbrev pub Without : ℕ → List ℕ → Type 0
Without byte [] = Unit {0}
Without byte (c ∷ cs) = ((c == byte) ≡ false) × Without byte cs

-- the letters of tags: W H F I A C X
abbrev pub is_letter : ℕ → Bool
is_letter c = c == 87 || (c == 72 || (c == 70 || (c == 73 || (c == 65 || (c == 67 || c == 88)))))

-- tags, without spaces
abbrev pub AreTags : List (List ℕ) → Type 0
AreTags [] = Unit {0}
AreTags ([] ∷ tags) = ⊥
AreTags ((letter ∷ value) ∷ tags) =
    (is_letter letter ≡ true) × Without 32 (letter ∷ value) × AreTags tags

-- the tags after one space each
abbrev pub spaced : List (List ℕ) → List ℕ
spaced tags = flat_map (λ tag. 32 ∷ tag) tags

-- the values of the tags of this letter
abbrev pub values_of : ℕ → List (List ℕ) → List (List ℕ)
values_of letter [] = []
values_of letter ([] ∷ tags) = values_of letter tags
values_of letter ((c ∷ value) ∷ tags) =
    if c == letter then value ∷ values_of letter tags else values_of letter tags

-- there is one value, and it says x
abbrev pub Once : {X : Type 0} → (List ℕ → X → Type 0) → List (List ℕ) → X → Type 0
Once says [] x = ⊥
Once says (value ∷ []) x = says value x
Once says (value ∷ second ∷ more) x = ⊥

-- there is one value, and it says x; or none, and x is what stands in its place
abbrev pub AtMostOnce : {X : Type 0} → (List ℕ → X → Type 0) → X → List (List ℕ) → X → Type 0
AtMostOnce says default [] x = x ≡ default
AtMostOnce says default (value ∷ []) x = says value x
AtMostOnce says default (value ∷ second ∷ more) x = ⊥

-- there is one value, and it says what is said; or none, and nothing is
abbrev pub Perhaps : {X : Type 0} → (List ℕ → X → Type 0) → List (List ℕ) → Option X → Type 0
Perhaps says [] said = said ≡ None
Perhaps {X = X} says (value ∷ []) said = (x : X) × says value x × (said ≡ Some x)
Perhaps says (value ∷ second ∷ more) said = ⊥

abbrev pub SaysSize : List ℕ → ℕ → Type 0
SaysSize value n = size_of value ≡ Some n

abbrev pub SaysRatio : ℕ → List ℕ → ℕ × ℕ → Type 0
SaysRatio most value r = ratio_of most value ≡ Some r

abbrev pub SaysStructure : List ℕ → ℕ → Type 0
SaysStructure value s = structure_of value ≡ Ok s

-- the siting is said if depths above 8 are read
abbrev pub SaysChroma : ℕ → List ℕ → Chroma → Type 0
SaysChroma most value c = chroma_named (nat_lt 8 most) value ≡ Some c

abbrev pub SaysRange : ℕ → List ℕ → Range → Type 0
SaysRange most value r = range_of (nat_lt 8 most) value ≡ Some r

-- of the values of tags X, those that say a range, if depths above 8 are read
abbrev pub onto_ranging : List ℕ → Option Range → List (List ℕ) → List (List ℕ)
onto_ranging value None values = values
onto_ranging value (Some r) values = value ∷ values

abbrev pub ranging : Bool → List (List ℕ) → List (List ℕ)
ranging deep [] = []
ranging deep (value ∷ values) = onto_ranging value (range_of deep value) (ranging deep values)

-- the chroma of a head, its siting and its depth
abbrev pub chroma_in : ℕ → VideoHead → Chroma
chroma_in depth h = record {
  planes = h.chroma_planes;
  log2_h = h.log2_h;
  log2_v = h.log2_v;
  extra = h.extra_plane;
  depth = depth;
  siting = h.siting;
}

-- a line says this depth and this head, as it is read if depths up to `most` are: W and H once, F,
-- I, A and C at most once, X any number of times, and a range at most once
pub record IsHeaderLine (most : ℕ) (line : List ℕ) (depth : ℕ) (h : VideoHead) : Type 0 where
  pub tags : List (List ℕ)
  pub are : AreTags tags
  pub spelled : line ≡ codes "YUV4MPEG2" ++ spaced tags
  pub width : Once SaysSize (values_of 87 tags) h.width
  pub height : Once SaysSize (values_of 72 tags) h.height
  pub rate : AtMostOnce (SaysRatio 4294967295) (0, 0) (values_of 70 tags) (h.rate, h.scale)
  pub structure : AtMostOnce SaysStructure 0 (values_of 73 tags) h.structure
  pub aspect : AtMostOnce (SaysRatio 65535) (0, 0) (values_of 65 tags) (h.sar_num, h.sar_den)
  pub chroma : AtMostOnce (SaysChroma most) (chroma_planes 1 1) (values_of 67 tags)
      (chroma_in depth h)
  pub range : Perhaps (SaysRange most) (ranging (nat_lt 8 most) (values_of 88 tags)) h.range
