-- Where a reader stands in a Segment (RFC 9559, 5.1).
use Rattle.std.specs.Prelude.{ℕ, ◌+◌, ◌||◌, Bool, false, if◌then◌else◌, nat_lt, Option, Some}
use Rattle.std.specs.Prelude.{None}
use Rattle.ffv1_reads.specs.Reads.{Reading, given, refused}
use Rattle.ffv1_reads.specs.declared.fault.FileFault.TheVariants as fault
use Rattle.ffv1_ebml.specs.Sums.{is_met}
use Rattle.ffv1_ebml.specs.declared.sum.Sum.{Sum}
use Rattle.ffv1_ebml.specs.declared.sum.Sum.TheVariants.{Absent, Begins}
use Rattle.ffv1_matroska.specs.declared.place.Place.{Place}
use Rattle.ffv1_matroska.specs.declared.place.Step.{Step}

-- where a reader stands after the end
abbrev pub ended : Place
ended = record { segment = 0; endless = false; loose = false; cluster = 0; group = 0; sum = Absent }

-- a number of bytes that no reading from here passes
abbrev pub amount : Place → ℕ
amount place = place.segment + place.cluster + place.group

-- after an element of the Segment, in a Cluster of unknown size or in none
abbrev pub segment_at : Place → Bool → ℕ → Place
segment_at place loose left =
    record {
      segment = left;
      endless = place.endless;
      loose = loose;
      cluster = 0;
      group = 0;
      sum = Absent;
    }

-- in a Cluster of so many bytes, of which nothing was read
abbrev pub cluster_entered : Place → ℕ → Place
cluster_entered place size =
    record {
      segment = place.segment;
      endless = place.endless;
      loose = false;
      cluster = size;
      group = 0;
      sum = Begins;
    }

-- after an element of a Cluster
abbrev pub cluster_at : Place → ℕ → Sum → Place
cluster_at place left sum =
    record {
      segment = place.segment;
      endless = place.endless;
      loose = place.loose;
      cluster = left;
      group = 0;
      sum = sum;
    }

-- in a BlockGroup, which has so many bytes left
abbrev pub group_at : Place → ℕ → Sum → Place
group_at place left sum =
    record {
      segment = place.segment;
      endless = place.endless;
      loose = place.loose;
      cluster = place.cluster;
      group = left;
      sum = sum;
    }

-- in the same place, with this sum
abbrev pub summed_at : Place → Sum → Place
summed_at place sum = group_at place place.group sum

-- what was read on to: a position, before a frame of so many bytes or before the next element
abbrev pub step_to : Place → Step
step_to place = record { frame = None; time = None; place = place }

-- the next element, behind a Timestamp that says this
abbrev pub timed_to : ℕ → Place → Step
timed_to time place = record { frame = None; time = Some time; place = place }

-- a frame, with what its block says of time
abbrev pub frame_at : Option ℕ → ℕ → Place → Step
frame_at time size place = record { frame = Some size; time = time; place = place }

-- the Cluster has bytes left, or its CRC-32 is the sum
abbrev pub is_sound : Place → Bool
is_sound place = (nat_lt 0 place.cluster || nat_lt 0 place.group) || is_met place.sum

-- as soon as a Cluster has nothing left, its CRC-32 is judged
abbrev pub closed : {X : Type 0} → X → Place → Reading X
closed x place = if is_sound place then given x else refused fault.Checksum
