-- A text is read as its depth, its head and its pictures, if depths up to that one are read; and
-- what is so read is a text of pictures. The canonical text of a head and of pictures that fit it
-- is one, so it reads back as them. It is what a writer writes of them, picture by picture.
use Rattle.ffv1_y4m.proofs.Texts.{text_found, text_only, canonical_is, canonical_back}
use Rattle.ffv1_y4m.proofs.Texts.{canonical_same, canonical_strict, canonical_written}
use Rattle.ffv1_y4m.proofs.laws.text_is_read_as_its_pictures.Goals as goal

pub returns : goal.returns
returns c = record {
  found = text_found;
  only = text_only;
  canonical = canonical_is;
  strict = canonical_strict;
  same = canonical_same;
  back =
      canonical_back;
  written = canonical_written;
}
