-- Walking the chunks of a list one by one: the list's budget counts them down, header, bytes and
-- padding.
use Rattle.std.specs.Prelude.{ℕ, suc, zero, ◌+◌, ◌-◌, ◌==◌, ◌&&◌, Bool, true, false}
use Rattle.std.specs.Prelude.{if◌then◌else◌}
use Rattle.std.specs.Prelude.{nat_eq, nat_lt, List, take, drop, codes, Option, Some, None}
use lib.Pointwise.{pointwise}
use Rattle.byteorder.specs.Endian.{little_number}
use Rattle.ffv1_avi.specs.declared.chunk.Entry.{Entry}
use Rattle.ffv1_reads.specs.declared.fault.FileFault.{FileFault}
use Rattle.ffv1_reads.specs.declared.fault.FileFault.TheVariants as fault
use Rattle.ffv1_reads.specs.Reads.{Reading, given, refused, taken, ◌>>=◌}
use Rattle.ffv1_avi.specs.Padding.{padded}

-- these four bytes are this name
abbrev pub is_name : List ℕ → List ℕ → Bool
is_name bytes name = pointwise nat_eq bytes name

-- names of chunks that a list bars: none
abbrev pub bars_none : List ℕ → Bool
bars_none name = false

-- whether a size of RIFF, or of a list movi, says how many bytes it has: 0 and the greatest number
-- stand where a program could not go back to write it
abbrev pub is_known : ℕ → Bool
is_known size = if size == 0 then false else if size == 4294967295 then false else true

-- how a list takes the chunks in it: which names it bars, whether it opens lists, and whether a
-- list in it may have no size
pub record Rule : Type 0 where
  pub bars : List ℕ → Bool
  pub opens : Bool
  pub sizeless : Bool

-- it bars no name, and takes lists whole
abbrev pub plain : Rule
plain = record { bars = bars_none; opens = false; sizeless = false }

-- a list without size, where there may be one
abbrev pub is_sizeless : Rule → List ℕ → ℕ → Bool
is_sizeless rule name size =
    if rule.sizeless
    then (if is_name name (codes "LIST") then (if is_known size then false else true) else false)
    else false

-- how many bytes of a chunk of this size are taken as one: all; of a list that is opened its own
-- name alone, since its chunks come next
abbrev pub size_in : Rule → List ℕ → ℕ → ℕ
size_in rule name size =
    if rule.opens then (if is_name name (codes "LIST") then 4 else size) else size

-- so many bytes of a chunk, in a list with so many bytes left, and what that has left after them
abbrev pub entry_of : ℕ → List ℕ → ℕ → Entry
entry_of left name size = record { name = name; size = size; left = left - (8 + padded size) }

-- a list without size: its header and its own name have to fit; its size is given as 0
abbrev pub sizeless_judged : ℕ → List ℕ → Reading (Option Entry)
sizeless_judged left name =
    if nat_lt left 12 then refused fault.Truncated else given (Some (entry_of left name 0))

-- a fault of a list's size is none if it has no size, where there may be one
abbrev pub sizeless_or : Rule → ℕ → List ℕ → ℕ → FileFault → Reading (Option Entry)
sizeless_or rule left name size f =
    if is_sizeless rule name size then sizeless_judged left name else refused f

-- a header that was read in a list with so many bytes left: the list does not bar its name; then
-- its chunk fits with its padding, and a list has room for its own name
abbrev pub entry_judged : Rule → ℕ → List ℕ → ℕ → Reading (Option Entry)
entry_judged rule left name size =
    if rule.bars name then refused fault.NotAvi
    else if nat_lt left (8 + padded size)
    then sizeless_or rule left name size fault.Truncated
    else if is_name name (codes "LIST") && nat_lt size 4
    then sizeless_or rule left name size fault.NotAvi
    else given (Some (entry_of left name (size_in rule name size)))

-- the next header of a list that takes its chunks so and has so many bytes left, and what the list
-- has left after its chunk; none at the list's end
unfoldable pub entry_in : Rule → ℕ → Reading (Option Entry)
entry_in rule left =
    if left == 0 then given None
    else if nat_lt left 8 then refused fault.Truncated
    else (taken 8 >>= λ head.
    entry_judged rule left (take 4 head) (little_number 4 (drop 4 head)))

-- the same of a list that bars none and opens none
abbrev pub entry_read : ℕ → Reading (Option Entry)
entry_read left = entry_in plain left

-- what is made of a chunk after its header: the state that it leads to, and, if the walk stops,
-- an outcome
abbrev pub Visit : Type 0 → Type 0 → Type 0
Visit S Y = S → Entry → Reading (S × Option Y)

-- the walk goes on after a chunk, or stops
abbrev pub resumed : {S Y : Type 0} → (S → Reading (S × Option Y)) → S → Option Y →
    Reading (S × Option Y)
resumed on s (Some y) = given (s, Some y)
resumed on s None = on s

-- a chunk is visited, or the list has ended
abbrev pub visited : {S Y : Type 0} → Visit S Y → (ℕ → S → Reading (S × Option Y)) → S →
    Option Entry → Reading (S × Option Y)
visited visit on s None = given (s, None)
visited visit on s (Some e) = visit s e >>= λ p. resumed (on e.left) p.0 p.1

-- at most so many chunks of a list that takes them so and has so many bytes left are walked
unfoldable pub walk_up_to : {S Y : Type 0} → Rule → Visit S Y → ℕ → ℕ → S → Reading (S × Option Y)
walk_up_to rule visit zero left s = given (s, None)
walk_up_to rule visit (suc most) left s =
    entry_in rule left >>= visited visit (walk_up_to rule visit most) s

-- the chunks of a list of that size are walked, to its end or to where a visit stops; each takes at
-- least 8 bytes
abbrev pub walk_in : {S Y : Type 0} → Rule → Visit S Y → ℕ → S → Reading (S × Option Y)
walk_in rule visit left s = walk_up_to rule visit left left s

-- the same of a list that bars none and opens none
abbrev pub walk : {S Y : Type 0} → Visit S Y → ℕ → S → Reading (S × Option Y)
walk visit left s = walk_in plain visit left s
