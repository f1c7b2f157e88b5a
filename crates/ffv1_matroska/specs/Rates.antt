-- Frame rates and how long a frame lasts: Matroska says a whole number of nanoseconds
-- (DefaultDuration, RFC 9559, 5.1.4.1.13).
use Rattle.std.specs.Prelude.{◌≡◌, ℕ, suc, zero, ◌+◌, ◌*◌, ◌/◌, ◌%◌, ◌==◌, ◌&&◌, Bool}
use Rattle.std.specs.Prelude.{if◌then◌else◌, nat_lt, Option, Some, None}

-- a frame rate: so many frames in so many seconds, both 0 if it is unknown
pub record Rate : Type 0 where
  pub rate : ℕ
  pub scale : ℕ

abbrev pub unknown : Rate
unknown = record { rate = 0; scale = 0 }

-- the whole number nearest to a quotient, halves up
abbrev pub nearest : ℕ → ℕ → ℕ
nearest n d = (2 * n + d) / (2 * d)

-- so many frames of a duration are a period, up to less than a nanosecond a frame
abbrev pub fills : ℕ → ℕ → ℕ → Bool
fills period frames duration =
    nat_lt (frames * duration) (period + frames) && nat_lt period (frames * duration + frames)

-- the greatest number up to n that divides both
unfoldable pub common_up_to : ℕ → ℕ → ℕ → ℕ
common_up_to a b zero = 1
common_up_to a b (suc n) =
    if (a % suc n == 0) && (b % suc n == 0) then suc n else common_up_to a b n

-- a second, in nanoseconds
abbrev pub second : ℕ
second = 1000000000

abbrev pub greatest : ℕ
greatest = 4294967295

-- frames a second in lowest terms; unknown if the scale passes 32 bits
abbrev pub reduced_by : ℕ → ℕ → Rate
reduced_by duration divisor =
    if nat_lt greatest (duration / divisor) then unknown
    else record { rate = second / divisor; scale = duration / divisor }

abbrev pub reduced : ℕ → Rate
reduced duration = reduced_by duration (common_up_to second duration duration)

-- the frames of this duration in a period, if they fill it
abbrev pub frames_in : ℕ → ℕ → Option ℕ
frames_in period duration =
    if fills period (nearest period duration) duration then Some (nearest period duration) else None

-- the same, except if they fill it exactly: then the duration itself is a rate in lowest terms
abbrev pub nearly_in : ℕ → ℕ → Option ℕ
nearly_in period duration =
    if nearest period duration * duration == period then None else frames_in period duration

-- so many times these frames in so many seconds; or another rate, if there are none
abbrev pub by_frames : ℕ → ℕ → Option ℕ → Rate → Rate
by_frames times scale None other = other
by_frames times scale (Some frames) other = record { rate = times * frames; scale = scale }

-- the rate that a duration of a frame says, in nanoseconds: of whole frames in a second, of
-- thousands in 1001 seconds, of whole frames in two seconds, of nearly whole frames in 100 or 1000
-- seconds, or else as it stands; none if it is 0
unfoldable pub rate_of : ℕ → Rate
rate_of duration =
    if duration == 0 then unknown
    else by_frames 1 1 (frames_in 1000000000 duration)
    (by_frames 1000 1001 (frames_in 1001000000 duration)
    (by_frames 1 2 (frames_in 2000000000 duration)
    (by_frames 1 100 (nearly_in 100000000000 duration)
    (by_frames 1 1000 (nearly_in 1000000000000 duration) (reduced duration)))))

-- how long a frame lasts, in nanoseconds, to the nearest; 0 if the rate is unknown
abbrev pub duration_of : Rate → ℕ
duration_of r = if r.rate == 0 then 0 else nearest (second * r.scale) r.rate

-- the rate comes back
abbrev pub IsTimed : Rate → Type 0
IsTimed r = rate_of (duration_of r) ≡ r
