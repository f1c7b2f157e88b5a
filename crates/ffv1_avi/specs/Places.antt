-- Where a reader stands in a file, and how far it reads.
use Rattle.std.specs.Prelude.{ℕ, ◌+◌, ◌-◌, ◌==◌, Bool, true, false, if◌then◌else◌}
use Rattle.ffv1_avi.specs.declared.place.Extent.{Extent}
use Rattle.ffv1_avi.specs.declared.place.Extent.TheVariants.{FirstMovi, EveryRiff}
use Rattle.ffv1_avi.specs.declared.place.Names.{Names}
use Rattle.ffv1_avi.specs.declared.place.Names.TheVariants.{Any}
use Rattle.ffv1_avi.specs.declared.place.Open.{Open}
use Rattle.ffv1_avi.specs.declared.place.Open.TheVariants.{Sized, OpenRiff, OpenMovi}
use Rattle.ffv1_avi.specs.declared.place.Place.{Place}

-- how far is read: bytes after this RIFF are looked at only if every RIFF is read
abbrev pub extent_of : Place → Extent
extent_of place = if place.input == 0 then FirstMovi else EveryRiff

-- where a reader stands after the end
abbrev pub ended : Place
ended = record { input = 0; riff = 0; movi = 0; names = Any; owed = 0; open_in = Sized }

-- a number of bytes that no reading from here passes
abbrev pub amount : Place → ℕ
amount place = place.movi + place.riff + place.input

-- the bytes that are read at most after the first RIFF: 2^64 - 1
abbrev pub most_input : ℕ
most_input = 18446744073709551615

-- the first movi, in an RIFF that has so many bytes after it; which chunks stand in it is judged
-- if every RIFF is read
abbrev pub first_place : Extent → ℕ → ℕ → Names → ℕ → Place
first_place FirstMovi riff movi names owed =
    record { input = 0; riff = 0; movi = movi; names = Any; owed = 0; open_in = Sized }
first_place EveryRiff riff movi names owed =
    record {
      input = most_input;
      riff = riff;
      movi = movi;
      names = names;
      owed = owed;
      open_in = Sized;
    }

-- whether a size is not known here
abbrev pub is_open : Open → Bool
is_open Sized = false
is_open OpenRiff = true
is_open OpenMovi = true

-- the first movi, if its size is not known
abbrev pub first_open : Names → ℕ → Place
first_open names owed =
    record {
      input = most_input;
      riff = 0;
      movi = 0;
      names = names;
      owed = owed;
      open_in = OpenMovi;
    }

-- the same place in an RIFF whose size is not known
abbrev pub unsized : Open → Place → Place
unsized Sized place =
    record {
      input = place.input;
      riff = 0;
      movi = place.movi;
      names = place.names;
      owed = place.owed;
      open_in = OpenRiff;
    }
unsized OpenRiff place = place
unsized OpenMovi place = place

-- in an RIFF, or a movi, whose size is not known: so many bytes of the input are read at most,
-- after those of a movi of so many
abbrev pub open_at : Place → Open → ℕ → ℕ → Place
open_at place open_in input movi =
    record {
      input = input;
      riff = 0;
      movi = movi;
      names = place.names;
      owed = place.owed;
      open_in = open_in;
    }

-- after a frame of such a movi
abbrev pub open_frame_at : Place → ℕ → Place
open_frame_at place input =
    record {
      input = input;
      riff = 0;
      movi = 0;
      names = place.names;
      owed = place.owed - 1;
      open_in = OpenMovi;
    }

-- a movi in the same RIFF
abbrev pub movi_at : Place → ℕ × ℕ → Place
movi_at place p =
    record {
      input = place.input;
      riff = p.1;
      movi = p.0;
      names = place.names;
      owed = place.owed;
      open_in = place.open_in;
    }

-- the next RIFF, of so many bytes, before its first movi
abbrev pub riff_at : Place → ℕ → Place
riff_at place size =
    record {
      input = place.input - (8 + size);
      riff = size - 4;
      movi = 0;
      names = place.names;
      owed = place.owed;
      open_in = Sized;
    }

-- after a frame, if movi has so many bytes left
abbrev pub frame_at : Place → ℕ → Place
frame_at place left =
    record {
      input = place.input;
      riff = place.riff;
      movi = left;
      names = place.names;
      owed = place.owed - 1;
      open_in = place.open_in;
    }
