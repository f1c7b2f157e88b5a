-- What calls leave of the vectors that they are lent.
use Rattle.std.specs.Prelude.{◌≡◌, ℕ, ◌≤◌, List, length, vec_capacity}
use Rattle.ffv1_decode.specs.declared.buffers.Slices.{Slices}
use Rattle.ffv1_decode.specs.declared.buffers.Lines.{Lines}
use Rattle.ffv1_decode.specs.declared.buffers.Lines.TheVariants as kind
use Rattle.ffv1_decode.specs.declared.buffers.Buffers.{Buffers}

-- how many samples lines have
abbrev pub length_of_lines : {A : Type 0} → Lines A → ℕ
length_of_lines (kind.Narrow v) = length v.items
length_of_lines (kind.Wide v) = length v.items

-- the samples of lines
abbrev pub samples_of_lines : {A : Type 0} → Lines A → List ℕ
samples_of_lines (kind.Narrow v) = v.items
samples_of_lines (kind.Wide v) = v.items

-- for how many samples they have memory
abbrev pub capacity_of_lines : {A : Type 0} → Lines A → ℕ
capacity_of_lines (kind.Narrow v) = vec_capacity v
capacity_of_lines (kind.Wide v) = vec_capacity v

-- samples of so many bits are coded in lines of words of this width
abbrev pub HoldBits : {A : Type 0} → Lines A → ℕ → Type 0
HoldBits (kind.Narrow v) bits = (8 ≤ bits) × (bits ≤ 16)
HoldBits (kind.Wide v) bits = bits ≡ 17

-- the vectors of the slices of a row are as long as before, in the memory that they had
pub record KeepsSlices {A : Type 0} (old new : Slices A) : Type 0 where
  pub columns : length new.columns.items ≡ length old.columns.items
  pub states : length new.states.items ≡ length old.states.items
  pub columns_capacity : vec_capacity new.columns ≡ vec_capacity old.columns
  pub states_capacity : vec_capacity new.states ≡ vec_capacity old.states

-- all vectors are, and lines are of the same words
pub record KeepsLengths {A : Type 0} (old new : Buffers A) : Type 0 where
  pub slices : KeepsSlices old.slices new.slices
  pub lines : length_of_lines new.lines ≡ length_of_lines old.lines
  pub words : (bits : ℕ) → HoldBits old.lines bits → HoldBits new.lines bits
  pub out : length new.out.items ≡ length old.out.items
  pub lines_capacity : capacity_of_lines new.lines ≡ capacity_of_lines old.lines
  pub out_capacity : vec_capacity new.out ≡ vec_capacity old.out
