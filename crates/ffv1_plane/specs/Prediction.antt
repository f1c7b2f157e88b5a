-- The prediction of a sample.
use Rattle.std.specs.Prelude.{ℕ, ◌+◌, ◌==◌, nat_lt, if◌then◌else◌, ℤ, pos, ◌+ℤ◌, ◌-ℤ◌}
use Rattle.std.specs.Int.{int_min, int_max}
use Rattle.ffv1_plane.specs.declared.prediction.Around.{Around}

-- the middle one of three
abbrev pub median : ℤ → ℤ → ℤ → ℤ
median a b c = int_max (int_min a b) (int_min (int_max a b) c)

-- RFC 9043, 3.3
abbrev pub predicted : Around → ℤ
predicted a = median (pos a.l) (pos a.t) (pos (a.l + a.t) -ℤ pos a.tl)

-- a sample of 16 bits, read as a signed number
abbrev pub signed : ℕ → ℤ
signed n = if nat_lt n 32768 then pos n else pos n -ℤ pos 65536

-- RFC 9043, 3.3: the prediction among samples of 16 bits, read as signed numbers
abbrev pub predicted_signed : Around → ℤ
predicted_signed a = median (signed a.l) (signed a.t) (signed a.l +ℤ signed a.t -ℤ signed a.tl)

-- RFC 9043, 3.3: the prediction among samples of so many bits
abbrev pub predicted_in : ℕ → Around → ℤ
predicted_in bits a = if bits == 16 then predicted_signed a else predicted a
