-- The head of a stream of pictures, and the planes of its pictures.
use Rattle.std.specs.Prelude.{◌≡◌, ℕ, zero, suc, ◌+◌, ◌-◌, ◌*◌, ◌/◌, ◌^◌, ◌≤◌, ◌==◌, if◌then◌else◌}
use Rattle.std.specs.Prelude.{List, [], ◌∷◌, length, map, Bool, true, false, not, nat_lt}
use Rattle.std.specs.Prelude.{◌&&◌, ◌||◌, None}
use Rattle.ffv1_samples.specs.Samples.{are_in_depth}
use Rattle.ffv1_y4m.specs.declared.head.VideoHead.{VideoHead}

-- a size of a chroma plane: rounded up
abbrev pub reduced : ℕ → ℕ → ℕ
reduced log2 size = (size + (2 ^ log2 - 1)) / 2 ^ log2

-- how many samples each plane of a picture has, in the order of the planes: Y, Cb, Cr, transparency
abbrev pub plane_sizes : VideoHead → List ℕ
plane_sizes h =
    (h.width * h.height)
    ∷ (if h.chroma_planes
    then (reduced h.log2_h h.width * reduced h.log2_v h.height)
    ∷ (reduced h.log2_h h.width * reduced h.log2_v h.height)
    ∷ (if h.extra_plane then (h.width * h.height) ∷ [] else [])
    else [])

-- how many bytes each plane of a picture has: at a depth of 8 one a sample, else two
abbrev pub plane_bytes : ℕ → VideoHead → List ℕ
plane_bytes depth h = if depth == 8 then plane_sizes h else map (λ size. 2 * size) (plane_sizes h)

-- planes have the sizes that the head says
abbrev pub Fits : ℕ → VideoHead → List (List ℕ) → Type 0
Fits depth h planes = map (λ p. length p) planes ≡ plane_bytes depth h

-- each sample of these planes is below 2 ^ depth
abbrev pub AreInDepth : ℕ → List (List ℕ) → Type 0
AreInDepth depth [] = Unit {0}
AreInDepth depth (p ∷ ps) = (are_in_depth depth p ≡ true) × AreInDepth depth ps

-- the sizes of a head: 1 to 8192
pub record IsSized (h : VideoHead) : Type 0 where
  pub some_wide : 1 ≤ h.width
  pub wide : h.width ≤ 8192
  pub some_high : 1 ≤ h.height
  pub high : h.height ≤ 8192

-- the factors of the chroma planes
pub record IsReduced (h : VideoHead) : Type 0 where
  pub wide : h.log2_h ≤ 2
  pub high : h.log2_v ≤ 2

-- two numbers of at most so much, both zero or neither
pub record IsRatio (most n d : ℕ) : Type 0 where
  pub first : n ≤ most
  pub second : d ≤ most
  pub both : (n == 0) ≡ (d == 0)

-- the chroma that has a name: 4:2:0, 4:2:2, 4:4:4, 4:1:1, 4:4:4 with transparency, none
abbrev pub is_chroma : Bool → ℕ → ℕ → Bool → Bool
is_chroma true (suc zero) (suc zero) false = true
is_chroma true (suc zero) zero false = true
is_chroma true zero zero extra = true
is_chroma true (suc (suc zero)) zero false = true
is_chroma false zero zero false = true
is_chroma planes log2_h log2_v extra = false

abbrev pub IsChroma : Bool → ℕ → ℕ → Bool → Type 0
IsChroma planes log2_h log2_v extra = is_chroma planes log2_h log2_v extra ≡ true

-- the depths above 8 that have a name, of chroma planes or of none
abbrev pub has_depth_name : Bool → ℕ → Bool
has_depth_name planes depth =
    depth == 9 || (depth == 10 || (depth == 12 || (depth == 16 || (planes && depth == 14))))

-- the chroma and depths that have a name: at 8 bits each chroma, above it 4:2:0, 4:2:2, 4:4:4 and
-- none, without transparency
abbrev pub is_named : ℕ → Bool → ℕ → ℕ → Bool → Bool
is_named depth planes log2_h log2_v extra =
    is_chroma planes log2_h log2_v extra
    && (depth == 8 || (has_depth_name planes depth && (not extra && nat_lt log2_h 2)))

-- the chroma and the depth whose name says a siting: 4:2:0 of 8 bits
abbrev pub has_siting : ℕ → Bool → ℕ → ℕ → Bool
has_siting depth planes log2_h log2_v = depth == 8 && (planes && (log2_h == 1 && log2_v == 1))

-- the chroma of a head has a name at this depth, and a siting only if such a name says one
pub record IsNamed (depth : ℕ) (h : VideoHead) : Type 0 where
  pub least : 8 ≤ depth
  pub most : depth ≤ 16
  pub name : is_named depth h.chroma_planes h.log2_h h.log2_v h.extra_plane ≡ true
  pub sited : has_siting depth h.chroma_planes h.log2_h h.log2_v ≡ false → h.siting ≡ None

-- a head says neither siting nor range
abbrev pub SaysNeither : VideoHead → Type 0
SaysNeither h = (h.siting ≡ None) × (h.range ≡ None)

-- a head as it is read: sizes, numbers, chroma that has a name
pub record IsHead (h : VideoHead) : Type 0 where
  pub sized : IsSized h
  pub factors : IsReduced h
  pub rate : IsRatio 4294967295 h.rate h.scale
  pub structure : h.structure ≤ 3
  pub aspect : IsRatio 65535 h.sar_num h.sar_den
  pub chroma : IsChroma h.chroma_planes h.log2_h h.log2_v h.extra_plane

-- the head of red, green and blue planes of these sizes
abbrev pub colour_head : ℕ → ℕ → VideoHead
colour_head width height = record {
  width = width;
  height = height;
  rate = 0;
  scale = 0;
  structure = 0;
  sar_num = 0;
  sar_den = 0;
  chroma_planes = true;
  log2_h = 0;
  log2_v = 0;
  extra_plane = false;
  siting = None;
  range = None;
}
