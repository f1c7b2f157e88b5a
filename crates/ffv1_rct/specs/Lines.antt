-- The reversible colour transform of lines, place by place.
use Rattle.std.specs.Prelude.{ℕ, ◌≡◌, ◌<◌, ◌≤◌, List, [], ◌∷◌, slice_index, unsigned_abs}
use Rattle.ffv1_rct.specs.Transform.{luma_of, chroma_in, IsCodedIn, HasColourIn, IsOnlyColourIn}

-- at each of the first n places Y, Cb and Cr are the transform of red, green and blue of so many
-- bits
abbrev pub AreCodedIn : ℕ → ℕ → List ℕ → List ℕ → List ℕ → List ℕ → List ℕ → List ℕ → Type 0
AreCodedIn depth n r g b y cb cr =
    (x : ℕ) → x < n →
    IsCodedIn depth (slice_index r x) (slice_index g x) (slice_index b x) (slice_index y x)
    (slice_index cb x) (slice_index cr x)

-- the same of 8 bits
abbrev pub AreCoded : ℕ → List ℕ → List ℕ → List ℕ → List ℕ → List ℕ → List ℕ → Type 0
AreCoded n r g b y cb cr = AreCodedIn 8 n r g b y cb cr

-- place x has a colour of so many bits
abbrev pub HasColourAtIn : ℕ → List ℕ → List ℕ → List ℕ → ℕ → Type 0
HasColourAtIn depth y cb cr x = HasColourIn depth (slice_index y x) (slice_index cb x)
    (slice_index cr x)

-- the same of 8 bits
abbrev pub HasColourAt : List ℕ → List ℕ → List ℕ → ℕ → Type 0
HasColourAt y cb cr x = HasColourAtIn 8 y cb cr x

-- at each of the first n places red, green and blue are the only colour of so many bits
abbrev pub AreOnlyColoursIn : ℕ → ℕ → List ℕ → List ℕ → List ℕ → List ℕ → List ℕ → List ℕ → Type 0
AreOnlyColoursIn depth n y cb cr r g b =
    (x : ℕ) → x < n →
    IsOnlyColourIn depth (slice_index y x) (slice_index cb x) (slice_index cr x) (slice_index r x)
    (slice_index g x) (slice_index b x)

-- the same of 8 bits
abbrev pub AreOnlyColours : ℕ → List ℕ → List ℕ → List ℕ → List ℕ → List ℕ → List ℕ → Type 0
AreOnlyColours n y cb cr r g b = AreOnlyColoursIn 8 n y cb cr r g b

-- from place n on a line is as before
abbrev pub IsKeptFrom : ℕ → List ℕ → List ℕ → Type 0
IsKeptFrom n old new = (x : ℕ) → n ≤ x → slice_index new x ≡ slice_index old x

-- Y at each place, from lines of red, green and blue
abbrev pub lumas : List ℕ → List ℕ → List ℕ → List ℕ
lumas (r ∷ rs) (g ∷ gs) (b ∷ bs) = unsigned_abs (luma_of r g b) ∷ lumas rs gs bs
lumas _ _ _ = []

-- Cb at each place, from lines of blue and green of so many bits, or Cr, from lines of red and
-- green
abbrev pub chromas_in : ℕ → List ℕ → List ℕ → List ℕ
chromas_in depth (v ∷ vs) (g ∷ gs) = unsigned_abs (chroma_in depth v g) ∷ chromas_in depth vs gs
chromas_in depth _ _ = []

-- the same of 8 bits
abbrev pub chromas : List ℕ → List ℕ → List ℕ
chromas vs gs = chromas_in 8 vs gs
