-- How many decisions heads take.
use Rattle.std.specs.Prelude.{ℕ, ◌+◌, nat_lt, if◌then◌else◌}
use Rattle.ffv1_record.specs.Configuration.{Configuration}

-- at most so many for a head of the profile: 98, 6 more for a third index, and 2 more if a
-- position may be above 15
abbrev pub head_most : Configuration → ℕ
head_most c =
    98
    + (if c.extra_plane then 6 else 0)
    + (if nat_lt 16 c.columns then 2 else 0)
    + (if nat_lt 16 c.rows then 2 else 0)

-- at most so many for any numbers in its place
abbrev pub numbers_most : Configuration → ℕ
numbers_most c = 558 + (if c.extra_plane then 62 else 0)
