-- What of hdrl is read if every RIFF is read: its streams up to the one that counts, and its
-- lists odml.
use Rattle.std.specs.Prelude.{◌⊎◌, ℕ, suc, zero, List, [], ◌∷◌, codes}
use Rattle.ffv1_avi.specs.declared.place.Extent.TheVariants.{EveryRiff}
use Rattle.ffv1_avi.specs.Begun.{HeaderBegins, ListBegins}
use Rattle.ffv1_avi.specs.Chunks.{Chunk, IsOther, IsStream, Part, is_list, those}
use Rattle.ffv1_reads.specs.Head.{Head}
use Rattle.ffv1_avi.specs.Riffs.{AreExtended}

-- the first so many of some streams can be read, up to the first of FFV1 video, if there is one
abbrev pub AreCounted : ℕ → List Chunk → Type 0
AreCounted zero streams = Unit {0}
AreCounted (suc n) [] = Unit {0}
AreCounted (suc n) (s ∷ ss) =
    ((head : Head) × IsStream EveryRiff s head) ⊎ (IsOther EveryRiff s × AreCounted n ss)

-- each list odml among some chunks of hdrl is made of chunks
abbrev pub HasExtended : List Chunk → Type 0
HasExtended chunks =
    (inners : List (List Chunk)) × AreExtended (those (is_list (codes "odml")) chunks) inners

-- a file up to a position in odml, after chunks of it
pub record ExtendedBegins (file : List ℕ) (parts : List Part) (chunks inner : List Chunk)
    (left : ℕ) (rest : List ℕ) : Type 0 where
  pub room : ℕ
  pub text : List ℕ
  pub header : HeaderBegins file parts chunks room text
  pub extended : ListBegins text room (codes "odml") inner left rest
