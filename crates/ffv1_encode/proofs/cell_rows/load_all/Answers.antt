-- Row y of Y, Cb and Cr in RCT, and of transparency if there is such a plane.
use Rattle.ffv1_encode.proofs.cell_rows.load_all.Goals as goal

pub load_colours-requires-clause-rolled : goal.load_colours-requires-clause-rolled
load_colours-requires-clause-rolled g c = record {
  luma = c.requires.rolled.first;
  blue =
      c.requires.rolled.second;
  red = c.requires.rolled.third;
}

pub returns-clause-loaded : goal.returns-clause-loaded
returns-clause-loaded g c = record {
  first = c.load_colours.ensures.loaded.luma;
  second =
      c.load_colours.ensures.loaded.blue;
  third = c.load_colours.ensures.loaded.red;
  fourth =
      c.load_transparency.ensures.loaded;
}
