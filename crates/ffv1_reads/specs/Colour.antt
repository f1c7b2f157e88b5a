-- How the samples of pictures stand for colours, and where those of chroma lie, in the numbers of
-- Matroska (RFC 9559, 5.1.4.1.28.17 and 5.1.4.1.28.23 to 5.1.4.1.28.27).
use Rattle.std.specs.Prelude.{◌<◌}
use Rattle.ffv1_reads.specs.declared.colour.Colour.{Colour}

-- nothing is said: the defaults of Matroska, of which 2 says of a number of ITU-T H.273 that it is
-- not specified
abbrev pub unsaid : Colour
unsaid = record {
  matrix = 2;
  transfer = 2;
  primaries = 2;
  range = 0;
  siting_across = 0;
  siting_down = 0;
}

-- numbers of 8 bits
pub record IsColour (c : Colour) : Type 0 where
  pub matrix : c.matrix < 256
  pub transfer : c.transfer < 256
  pub primaries : c.primaries < 256
  pub range : c.range < 256
  pub siting_across : c.siting_across < 256
  pub siting_down : c.siting_down < 256
