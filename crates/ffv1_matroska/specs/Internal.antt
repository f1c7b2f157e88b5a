-- What ties types of the code to the definitions. No public clause cites it.
pub mod Keeping
use Rattle.std.specs.Prelude.{ℕ, List, Option, Some, None, Result, Ok, Err}
use Rattle.std.specs.Borrow.{Bor}
use Rattle.ffv1_reads.specs.declared.fault.FileFault.{FileFault}
use Rattle.ffv1_matroska.specs.Rates.{Rate}
use Rattle.ffv1_matroska.specs.Opened.{Opened}
use Rattle.ffv1_matroska.specs.Tracks.{Track}
use Rattle.ffv1_matroska.specs.Salvaged.{Begun, Salvaged}
use Rattle.ffv1_matroska.specs.declared.place.Place.{Place}
use Rattle.ffv1_matroska.specs.declared.told.ToldFault.{ToldFault}
use Rattle.ffv1_matroska.specs.declared.track.Numbers.{Numbers}
use Rattle.ffv1_matroska.specs.declared.track.Track.{Track as LentTrack}

-- a track whose record is lent
abbrev pub track_lent : LentTrack → Track
track_lent t = record {
  numbers = t.numbers;
  head = record {
    width = t.width;
    height = t.height;
    rate = t.rate;
    scale = t.scale;
    colour = t.colour;
    config_record = t.config_record.now;
  };
}

abbrev pub tracks : Result LentTrack FileFault → Result Track FileFault
tracks (Ok t) = Ok (track_lent t)
tracks (Err f) = Err f

abbrev pub track_found : Result (Option LentTrack) FileFault → Result (Option Track) FileFault
track_found (Ok None) = Ok None
track_found (Ok (Some t)) = Ok (Some (track_lent t))
track_found (Err f) = Err f

-- a rate and its scale
abbrev pub rate_with : ℕ × ℕ → Rate
rate_with p = record { rate = p.0; scale = p.1 }

-- bytes that are lent
abbrev pub contents : Result (Bor (List ℕ)) FileFault → Result (List ℕ) FileFault
contents (Ok s) = Ok s.now
contents (Err f) = Err f

-- the bytes of content that an element is known to have
abbrev pub bytes_of : Option ℕ → ℕ
bytes_of None = 0
bytes_of (Some size) = size

-- a track whose record is kept
abbrev pub track_kept : Numbers → List ℕ → Track
track_kept n bytes = record {
  numbers = n.numbers;
  head = record {
    width = n.width;
    height = n.height;
    rate = n.rate;
    scale = n.scale;
    colour = n.colour;
    config_record = bytes;
  };
}

abbrev pub found_kept : Option Numbers → List ℕ → Option Track
found_kept None bytes = None
found_kept (Some n) bytes = Some (track_kept n bytes)

-- a file whose frames begin at a position
abbrev pub opened_kept : Option ℕ × Numbers × Place → List ℕ → Opened
opened_kept p bytes = record { track = track_kept p.1 bytes; segment = p.0; place = p.2 }

-- a vector after a call that answers so
abbrev pub items_after : {X : Type 0} → Result (Unit {0}) FileFault → List X →
    Result (List X) FileFault
items_after (Ok u) items = Ok items
items_after (Err f) items = Err f

-- where frames begin whose track's record is kept
abbrev pub begun_kept : Numbers × Place → List ℕ → Place → List ToldFault → Begun
begun_kept p bytes here faults = record {
  track = track_kept p.0 bytes;
  place = p.1;
  here = here;
  told = faults;
}

-- a file that is read so
abbrev pub salvaged_kept : Opened → ℕ → List ToldFault → Salvaged
salvaged_kept o begun faults = record { opened = o; begun = begun; told = faults }
