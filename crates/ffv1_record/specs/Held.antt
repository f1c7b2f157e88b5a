-- How much a decoder of pictures holds. The height says only whether two lines of chroma are kept.
use Rattle.std.specs.Prelude.{ℕ, ◌+◌, ◌*◌, Bool, true, false, if◌then◌else◌}
use Rattle.ffv1_samples.specs.Samples.{sample_bytes}
use Rattle.ffv1_record.specs.Sets.{most_contexts}
use Rattle.ffv1_record.specs.declared.checked.Held.{Held}
use Rattle.ffv1_record.specs.declared.config.Colour.{Colour}
use Rattle.ffv1_record.specs.declared.config.Colour.TheVariants as colour
use Rattle.ffv1_record.specs.Configuration.{Configuration}
use Rattle.ffv1_record.specs.Accepted.{are_multiples, reduced}

-- how many classes of planes have states of their own: luma, chroma, transparency
abbrev pub classes_of : Bool → Bool → ℕ
classes_of chroma true = 3
classes_of true false = 2
classes_of false false = 1

-- how many planes are held at once: RCT goes line by line through all of them
abbrev pub planes_of : Colour → Bool → ℕ
planes_of colour.YCbCr extra = 1
planes_of colour.Rct true = 4
planes_of colour.Rct false = 3

-- how many samples of the last lines of Cb and Cr are kept of a row of slices, for the row below
-- it: none if no two rows share a line of chroma
abbrev pub kept_of : Configuration → ℕ
kept_of c = if are_multiples c.height c.rows c.log2_v then 0 else 2 * reduced c.log2_h c.width

abbrev pub held_of : Configuration → Held
held_of c = record {
  states = 32 * c.columns * classes_of c.chroma_planes c.extra_plane * most_contexts c.sets;
  samples = 3 * planes_of c.colour c.extra_plane * c.width + kept_of c;
  output = sample_bytes c.depth * (planes_of c.colour c.extra_plane * c.width);
  columns = c.columns;
  offsets = 1025;
}
