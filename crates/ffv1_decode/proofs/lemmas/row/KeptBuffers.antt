-- What one call after another leaves of the vectors of a row's slices.
use Rattle.std.proofs.Common.{◌≡◌, refl, ℕ, ◌-◌, ◌*◌, ◌<◌, ◌≤◌, inl, inr, length, ap, ◌∙◌, arith, length-drop}
use Rattle.ffv1_record.specs.Configuration.{Configuration}
use Rattle.ffv1_frame.specs.Picture.{plane_count}
use Rattle.ffv1_decode.specs.declared.buffers.Lines.{Lines}
use Rattle.ffv1_decode.specs.declared.buffers.Lines.TheVariants as kind
use Rattle.ffv1_decode.specs.Internal.Tied.{line_length}
use Rattle.ffv1_decode.specs.Internal.Shared.{KeepsChroma, kept_in}
use Rattle.ffv1_decode.specs.declared.buffers.Slices.{Slices}
use Rattle.ffv1_decode.specs.Internal.Buffers.{KeepsSlices, length_of_lines, samples_of_lines}

pub slices_kept : {A : Type 0} {old now new : Slices A} → KeepsSlices now new → KeepsSlices old now → KeepsSlices old new
slices_kept later before = record {
  columns = later.columns ∙ before.columns;
  states = later.states ∙ before.states;
  columns_capacity = later.columns_capacity ∙ before.columns_capacity;
  states_capacity = later.states_capacity ∙ before.states_capacity;
}

-- lines have as many samples as they are long
pub samples_long : {A : Type 0} (lines : Lines A) → length (samples_of_lines lines) ≡ length_of_lines lines
samples_long (kind.Narrow v) = refl
samples_long (kind.Wide v) = refl

-- as many are kept as come after the lines of planes that are coded together
pub kept_long : {A : Type 0} (c : Configuration) (old new : Lines A) → length_of_lines new ≡ length_of_lines old → length (kept_in c (samples_of_lines new)) ≡ length_of_lines old - 3 * line_length c
kept_long c old new same = length-drop (3 * line_length c) (samples_of_lines new) ∙ ap (λ n. n - 3 * line_length c) (samples_long new ∙ same)

pub kept_planes : (c : Configuration) (n : ℕ) → KeepsChroma c n → 0 < n → 3 ≤ plane_count c
kept_planes c n keeps some = elim keeps [
  | inl none ↦ absurd (omega (arith, some, none.0))
  | inr all ↦ all.2
]
