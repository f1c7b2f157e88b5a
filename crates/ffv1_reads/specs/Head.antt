-- The head of a file, apart from where its record lies in memory; and how long the parts of a file
-- may be.
use Rattle.std.specs.Prelude.{ℕ, List}
use Rattle.ffv1_reads.specs.Colour.{unsaid}
use Rattle.ffv1_reads.specs.declared.colour.Colour.{Colour}
use Rattle.ffv1_reads.specs.declared.head.FileHead.{FileHead}

pub record Head : Type 0 where
  pub width : ℕ
  pub height : ℕ
  pub rate : ℕ
  pub scale : ℕ
  pub colour : Colour
  pub config_record : List ℕ

abbrev pub head_of : {A : Type 0} → FileHead A → Head
head_of h = record {
  width = h.width;
  height = h.height;
  rate = h.rate;
  scale = h.scale;
  colour = h.colour;
  config_record = h.config_record.items;
}

-- a head whose colours are not said
abbrev pub without_colour : Head → Head
without_colour head = record head { colour = unsaid }

-- the most bytes of what a container says before its frames that are read, and of a frame where no
-- more than the first list movi of an AVI is: 64 MiB
abbrev pub limit : ℕ
limit = 67108864

-- the most bytes of a frame that are read where a file is read whole: 1 GiB
abbrev pub frame_limit : ℕ
frame_limit = 1073741824
