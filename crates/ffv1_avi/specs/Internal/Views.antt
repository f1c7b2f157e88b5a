-- What the reader's own types say.
use Rattle.std.specs.Prelude.{ℕ, List, Option, Some, None}
use Rattle.ffv1_avi.specs.declared.stream.Sizes.{Sizes}
use Rattle.ffv1_avi.specs.declared.stream.Fields.{Fields}
use Rattle.ffv1_avi.specs.declared.open.Found.{Found}
use Rattle.ffv1_avi.specs.declared.open.Top.{Top}
use Rattle.ffv1_avi.specs.declared.open.Top.TheVariants.{On, Movi}
use Rattle.ffv1_avi.specs.declared.place.Place.{Place}
use Rattle.ffv1_avi.specs.Files.{Headers}
use Rattle.ffv1_reads.specs.Colour.{unsaid}
use Rattle.ffv1_reads.specs.Head.{Head}
use Rattle.ffv1_avi.specs.Streams.{Format, Known}

-- a head, of its sizes and its record
abbrev pub head_with : Sizes → List ℕ → Head
head_with s bytes =
    record {
      width = s.width;
      height = s.height;
      rate = s.rate;
      scale = s.scale;
      colour = unsaid;
      config_record = bytes;
    }

-- a head that may have come
abbrev pub found_with : Option Sizes → List ℕ → Option Head
found_with None bytes = None
found_with (Some s) bytes = Some (head_with s bytes)

-- a format, of its sizes and its record
abbrev pub format_with : Option (ℕ × ℕ) → List ℕ → Option Format
format_with None bytes = None
format_with (Some f) bytes = Some (record { width = f.0; height = f.1; config_record = bytes })

abbrev pub came_with : Option (Option (ℕ × ℕ)) → List ℕ → Option (Option Format)
came_with None bytes = None
came_with (Some f) bytes = Some (format_with f bytes)

-- what is known of a stream
abbrev pub known_with : Fields → List ℕ → Known
known_with fields bytes = record { rates = fields.rates; format = came_with fields.format bytes }

-- with which the walk goes on
abbrev pub known_next : Fields → List ℕ → Known × Option ⊥
known_next fields bytes = (known_with fields bytes, None)

-- what is known before the first movi
abbrev pub headers_with : Found → List ℕ → Headers
headers_with found bytes =
    record {
      passed = found.passed;
      head = found_with found.sizes bytes;
      frames = found.frames;
      streams = found.streams;
      others = found.others;
    }

abbrev pub headers_next : Found → List ℕ → Headers × Option ⊥
headers_next found bytes = (headers_with found bytes, None)

-- where a chunk of RIFF leads
abbrev pub top_with : Top → List ℕ → Headers × Option (Head × Place)
top_with (On found) bytes = (headers_with found bytes, None)
top_with (Movi found sizes place) bytes =
    (headers_with found bytes, Some (head_with sizes bytes, place))
