-- The rule after the standard's table: the recurrence by which FFmpeg builds it
-- (ff_build_rac_states of libavcodec/rangecoder.c, with the factor 0.05 * 2 ^ 32, cut to 214748364,
-- and the greatest state 248). A probability is a number of 2 ^ 32.
use Rattle.std.specs.Prelude.{ℕ, ◌+◌, ◌-◌, ◌*◌, ◌/◌, ◌==◌, ◌&&◌, nat_lt, nat_le, max, min}
use Rattle.std.specs.Prelude.{if◌then◌else◌, Bool, List, replicate, slice_index, slice_set}
use Rattle.std.proofs.Common.{zero, suc}

-- a probability after a decision 1: nearer to certainty by the factor, rounded
abbrev pub raised_probability : ℕ → ℕ
raised_probability p = p + ((4294967296 - p) * 214748364 + 2147483648) / 4294967296

-- the state of a probability, rounded
abbrev pub state_near : ℕ → ℕ
state_near p = (256 * p + 2147483648) / 4294967296

-- the state of a probability in a chain, above the one before it
abbrev pub next_in_chain : ℕ → ℕ → ℕ
next_in_chain p last = max (state_near p) (suc last)

-- the first state of a chain has none before it, and the chain ends at 248
abbrev pub are_chained : ℕ → ℕ → Bool
are_chained last next = nat_lt 0 last && nat_lt last 256 && nat_le next 248

-- the states along so many decisions 1, from a probability on: each goes to the next
unfoldable pub chained : ℕ → ℕ → ℕ → List ℕ → List ℕ
chained zero p last one = one
chained (suc left) p last one =
    chained left (raised_probability p) (next_in_chain p last)
    (if are_chained last (next_in_chain p last)
    then slice_set one last (next_in_chain p last) else one)

-- where a state that is in no chain goes: by the probability that it is, upward, to at most 248
abbrev pub next_alone : ℕ → ℕ
next_alone state =
    min 248 (max (suc state) (state_near (raised_probability ((4294967296 * state + 128) / 256))))

-- so many states from one on, if the chain passed them over
unfoldable pub filled : ℕ → ℕ → List ℕ → List ℕ
filled zero state one = one
filled (suc left) state one =
    filled left (suc state)
    (if slice_index one state == 0 then slice_set one state (next_alone state) else one)

-- the table that the rule gives
abbrev pub generated : List ℕ
generated = filled 241 8 (chained 128 2147483648 0 (replicate 256 0))
