-- When frames come (RFC 9559, 11.1 and 11.2): the Timestamp of a Cluster (5.1.3.1) and the two
-- bytes of time of a block (10.1, 10.2), which are a signed number, count ticks of TimestampScale
-- (5.1.2.9) nanoseconds. A frame is told that comes too early or too late for DefaultDuration
-- (5.1.4.1.13).
use Rattle.std.specs.Prelude.{ℕ, ◌+◌, ◌*◌, ◌-◌, ◌%◌, ◌^◌, ◌==◌, ◌||◌, Bool, false, if◌then◌else◌}
use Rattle.std.specs.Prelude.{min, nat_lt, List, Option, Some, None, Result, Ok, Err}
use Rattle.ffv1_wire.specs.Passage.{Passage}
use Rattle.ffv1_reads.specs.Reads.{Reading, Stop}
use Rattle.ffv1_reads.specs.declared.fault.FileFault.{FileFault}
use Rattle.ffv1_matroska.specs.Carried.{CarriedNext, carried}
use Rattle.ffv1_matroska.specs.Readers.{Standing}
use Rattle.ffv1_matroska.specs.Segments.{step_read}
use Rattle.ffv1_matroska.specs.declared.place.Place.{Place}
use Rattle.ffv1_matroska.specs.declared.place.Step.{Step}
use Rattle.ffv1_matroska.specs.declared.times.Times.{Times}
use Rattle.ffv1_matroska.specs.declared.track.TrackNumbers.{TrackNumbers}

-- no frame was read, and a tick has so many nanoseconds; 0 if that is not known
abbrev pub times_begun : ℕ → Times
times_begun tick = record { tick = tick; cluster = 0; first = 0; count = 0; off = None }

-- when a frame comes, in ticks, by the Timestamp of its Cluster and the 16 bits of its block. It is
-- counted from 32768 ticks before 0 on, so that it is no negative number; and it is held in 8 bytes
abbrev pub moment : ℕ → ℕ → ℕ
moment cluster time = min (cluster + (time + 32768) % 65536) (2 ^ 64 - 1)

-- a frame of this number is more than a tick, and a nanosecond for each frame before it, away from
-- where so many durations lead to from the first one
abbrev pub is_away : ℕ → ℕ → ℕ → ℕ → ℕ → Bool
is_away tick duration first count now =
    nat_lt (first * tick + count * duration + (tick + count)) (now * tick)
    || nat_lt (now * tick + (tick + count)) (first * tick + count * duration)

-- it is not judged if the tick or the duration is not known
abbrev pub is_off : ℕ → ℕ → ℕ → ℕ → ℕ → Bool
is_off tick duration first count now =
    if tick == 0 || duration == 0 then false else is_away tick duration first count now

-- the number of the first frame that is off; with one more
abbrev pub first_off : Option ℕ → Bool → ℕ → Option ℕ
first_off (Some number) off count = Some number
first_off None off count = if off then Some count else None

-- when the first frame comes; with one more, after so many
abbrev pub first_moment : ℕ → ℕ → ℕ → ℕ
first_moment count first now = if count == 0 then now else first

-- after a frame that comes then
abbrev pub timed_at : ℕ → ℕ → Times → Times
timed_at duration now t =
    record {
      tick = t.tick;
      cluster = t.cluster;
      first = first_moment t.count t.first now;
      count = min (t.count + 1) (2 ^ 64 - 1);
      off = first_off t.off
          (is_off t.tick duration (first_moment t.count t.first now) t.count now) t.count;
    }

-- after a Timestamp
abbrev pub timed_in : ℕ → Times → Times
timed_in cluster t =
    record { tick = t.tick; cluster = cluster; first = t.first; count = t.count; off = t.off }

-- after what was read on to, which is a frame or none, with what it says of time
abbrev pub timed_with : ℕ → Option ℕ → Option ℕ → Times → Times
timed_with duration frame None t = t
timed_with duration None (Some time) t = timed_in time t
timed_with duration (Some size) (Some time) t = timed_at duration (moment t.cluster time) t

unfoldable pub timed_by : ℕ → Step → Times → Times
timed_by duration s t = timed_with duration s.frame s.time t

abbrev pub timed_read : ℕ → Result (Option Step × List ℕ) Stop → Times → Times
timed_read duration (Ok (Some s, rest)) t = timed_by duration s t
timed_read duration (Ok (None, rest)) t = t
timed_read duration (Err why) t = t

-- the same behind the element that these bytes begin with
unfoldable pub timed_behind : TrackNumbers → Place → List ℕ → Times → Times
timed_behind track place text t = timed_read track.duration (step_read track place text) t

-- an element from its first byte on, and what is known of times behind it
unfoldable pub timed_taken : TrackNumbers → Place × Times → Reading (Place × Times)
timed_taken track from text = carried (timed_behind track) track from text

-- what is known of times after a call for a frame: up to the frame that it gives and with that, or
-- up to the end
abbrev pub TimedAfter : Standing → Passage → Result Bool FileFault → Standing → Type 0
TimedAfter old p result new =
    CarriedNext (timed_taken old.track.numbers) old.track.numbers (old.place, old.times) p result
    (new.place, new.times)
