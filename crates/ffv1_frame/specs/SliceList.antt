-- The decisions of a slice (RFC 9043, 4.4 to 4.8): its key, its head, and the residuals of its
-- samples in the order of coding. Of its slots 0 is the key's, 1 to 32 are the head's, and after
-- them each class of planes has 32 for each context of the largest set.
use Rattle.std.specs.Prelude.{◌≡◌, ℕ, ℤ, ◌+◌, ◌-◌, ◌*◌, min}
use Rattle.std.specs.Prelude.{if◌then◌else◌, List, [], ◌∷◌, ◌++◌, map, length, slice_index}
use Rattle.std.specs.Prelude.{slice_get, Option, Some, None}
use Rattle.std.proofs.Common.{zero, suc}
use Rattle.std.specs.List.{flat_map, range_with_len}
use Rattle.ffv1_range.specs.Symbols.{Step, shifted}
use Rattle.ffv1_plane.specs.Quantisation.{Set}
use Rattle.ffv1_line.specs.Cell.{Cell}
use Rattle.ffv1_line.specs.Row.{AreSuiting, row_steps, chosen_row}
use Rattle.ffv1_record.specs.Configuration.{Configuration, is_rct}
use Rattle.ffv1_record.specs.Sets.{most_contexts}
use Rattle.ffv1_record.specs.declared.config.Profile.{Profile}
use Rattle.ffv1_record.specs.Accepted.{Accepted}
use Rattle.ffv1_slice.specs.declared.head.SliceHead.{SliceHead}
use Rattle.ffv1_slice.specs.Head.{key_steps, head_steps, aspect_of}
use Rattle.ffv1_frame.specs.Picture.{Planes, plane_count, cell_in, cell_height}
use Rattle.ffv1_line.specs.Coding.{coding_by, RowCoding}

-- no set
abbrev pub set_or_none : Option Set → Set
set_or_none None = []
set_or_none (Some set) = set

-- RFC 9043, 3.6: Y, Cb with Cr, and transparency have states of their own
abbrev pub class_of : ℕ → ℕ
class_of zero = 0
class_of (suc zero) = 1
class_of (suc (suc zero)) = 1
class_of (suc (suc (suc p))) = 2

-- the first slot of a plane's states
abbrev pub base_of : Configuration → ℕ → ℕ
base_of c p = 33 + 32 * (most_contexts c.sets * class_of p)

-- the bits of a coded sample: one more than the depth for each plane of RCT (RFC 9043, 3.8)
abbrev pub bits_of : Configuration → ℕ
bits_of c = if is_rct c.colour then c.depth + 1 else c.depth

-- the set that a head names for a plane
abbrev pub set_at : List Set → ℕ → Set
set_at sets k = set_or_none (slice_get sets k)

abbrev pub set_in : Configuration → SliceHead → ℕ → Set
set_in c h p = set_at c.sets (slice_index h.indexes (class_of p))

-- how its lines are coded
abbrev pub coding_in : Accepted → SliceHead → ℕ → RowCoding
coding_in a h p = coding_by a.table (set_in a.configuration h p) (bits_of a.configuration)

-- a line of a plane
pub record Line : Type 0 where
  pub plane : ℕ
  pub y : ℕ

-- the first so many lines of a plane, and the same line of the first so many planes
abbrev pub lines_of_plane : ℕ → ℕ → List Line
lines_of_plane height p = map (λ y. record { plane = p; y = y }) (range_with_len 0 height)

abbrev pub planes_of_line : ℕ → ℕ → List Line
planes_of_line count y = map (λ p. record { plane = p; y = y }) (range_with_len 0 count)

-- RFC 9043, 4.7: a slice's lines in the order of coding, plane after plane, and for RCT line after
-- line
abbrev pub lines_in : Configuration → ℕ → List Line
lines_in c n =
    if is_rct c.colour
    then flat_map (planes_of_line (plane_count c)) (range_with_len 0 (cell_height c n 0))
    else flat_map (λ p. lines_of_plane (cell_height c n p) p) (range_with_len 0 (plane_count c))

-- the decisions of the residuals of a line
abbrev pub line_steps : Configuration → SliceHead → (ℕ → Cell) → Line → List ℤ → List Step
line_steps c h cell l qs =
    shifted (base_of c l.plane) (row_steps (set_in c h l.plane) (cell l.plane) l.y 0 qs)

-- the decisions of lines, by residuals that suit their samples
unfoldable pub IsBody :
    Configuration → SliceHead → (ℕ → Cell) → List Line → List Step → Type 0
IsBody c h cell [] steps = steps ≡ []
IsBody c h cell (l ∷ ls) steps =
    (qs : List ℤ) × (more : List Step) × (length qs ≡ (cell l.plane).width)
    × AreSuiting (set_in c h l.plane) (bits_of c) (cell l.plane) l.y 0 qs
    × IsBody c h cell ls more × (steps ≡ line_steps c h cell l qs ++ more)

-- the same by the folded residuals, which an encoder takes
abbrev pub chosen_line : Configuration → SliceHead → (ℕ → Cell) → Line → List Step
chosen_line c h cell l =
    line_steps c h cell l
    (chosen_row (set_in c h l.plane) (bits_of c) (cell l.plane) l.y (cell l.plane).width)

abbrev pub chosen_body : Configuration → SliceHead → (ℕ → Cell) → List Line → List Step
chosen_body c h cell ls = flat_map (chosen_line c h cell) ls

-- how a picture is interlaced, and its sample aspect
pub record Said : Type 0 where
  pub structure : ℕ
  pub sar_num : ℕ
  pub sar_den : ℕ

-- the aspect that two numbers say in a profile, and 0 and 0, unknown, if they say none
abbrev pub aspect_or_unknown : Option (ℕ × ℕ) → ℕ × ℕ
aspect_or_unknown None = (0, 0)
aspect_or_unknown (Some aspect) = aspect

unfoldable pub said_aspect : Profile → ℕ → ℕ → ℕ × ℕ
said_aspect p num den = aspect_or_unknown (aspect_of p num den)

-- what a head says in a profile
abbrev pub said_by : Profile → SliceHead → Said
said_by p h = record {
  structure = h.structure;
  sar_num = (said_aspect p h.sar_num h.sar_den).0;
  sar_den = (said_aspect p h.sar_num h.sar_den).1;
}

-- the head that an encoder takes: class k has set k, or the last one
abbrev pub chosen_index : Configuration → ℕ → ℕ
chosen_index c k = min k (length c.sets - 1)

abbrev pub chosen_indexes : Configuration → List ℕ
chosen_indexes c =
    chosen_index c 0 ∷ chosen_index c 1 ∷ (if c.extra_plane then chosen_index c 2 else 0) ∷ []

abbrev pub chosen_head : Configuration → Said → SliceHead
chosen_head c info = record {
  indexes = chosen_indexes c;
  structure = info.structure;
  sar_num = info.sar_num;
  sar_den = info.sar_den;
}

-- the decisions that an encoder takes for slice n
abbrev pub chosen_slice : Configuration → Planes → Said → ℕ → List Step
chosen_slice c planes info n =
    key_steps n ++ (head_steps c n (chosen_head c info)
    ++ chosen_body c (chosen_head c info) (cell_in c planes n) (lines_in c n))
