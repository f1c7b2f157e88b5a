-- What a configuration says (RFC 9043, 4.2), and the size of the pictures, which the container
-- tells.
use Rattle.std.specs.Prelude.{ℕ, Bool, true, false, List}
use Rattle.ffv1_plane.specs.Quantisation.{Set}
use Rattle.ffv1_record.specs.declared.config.Config.{Config}
use Rattle.ffv1_record.specs.declared.config.Coder.{Coder}
use Rattle.ffv1_record.specs.declared.config.Colour.{Colour}
use Rattle.ffv1_record.specs.declared.config.Colour.TheVariants as colour

-- a configuration, without where it lies in memory; its depth is the bits of a sample
pub record Configuration : Type 0 where
  pub width : ℕ
  pub height : ℕ
  pub depth : ℕ
  pub coder : Coder
  pub colour : Colour
  pub chroma_planes : Bool
  pub extra_plane : Bool
  pub log2_h : ℕ
  pub log2_v : ℕ
  pub columns : ℕ
  pub rows : ℕ
  pub sets : List Set
  pub ec : Bool
  pub intra : Bool

-- what a configuration in memory says, of samples of 8 bits
abbrev pub configuration_of : {A : Type 0} → Config A → Configuration
configuration_of c = record {
  width = c.width;
  height = c.height;
  depth = 8;
  coder = c.coder;
  colour = c.colour;
  chroma_planes = c.chroma_planes;
  extra_plane = c.extra_plane;
  log2_h = c.log2_h;
  log2_v = c.log2_v;
  columns = c.columns;
  rows = c.rows;
  sets = c.sets;
  ec = c.ec;
  intra = c.intra;
}

-- the same of samples of so many bits
abbrev pub at_depth : Configuration → ℕ → Configuration
at_depth c depth = record c { depth = depth }

-- the same with other sets
abbrev pub with_sets : Configuration → List Set → Configuration
with_sets c ss = record c { sets = ss }

abbrev pub is_rct : Colour → Bool
is_rct colour.YCbCr = false
is_rct colour.Rct = true
