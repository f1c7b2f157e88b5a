-- How the slices of a payload are found: from the last to the first by their footers, and then
-- judged from the first on.
use Rattle.std.specs.Prelude.{ℕ, ◌+◌, ◌-◌, ◌*◌, ◌==◌, nat_lt, Bool, true, false, if◌then◌else◌}
use Rattle.std.specs.Prelude.{Option, Some, None, Result, Ok, Err, List, [], ◌∷◌, length}
use Rattle.std.specs.Prelude.{slice_index}
use Rattle.std.proofs.Common.{zero, suc}
use Rattle.ffv1_record.specs.Configuration.{Configuration}
use Rattle.ffv1_record.specs.Parity.{remainder_of}
use Rattle.ffv1_slice.specs.Footer.{foot_length, size_before, slice_of}
use Rattle.ffv1_slice.specs.declared.fault.SliceFault.TheVariants as fault
use Rattle.ffv1_slice.specs.declared.cutting.CutFault.{CutFault}

-- the reading: the offsets of so many slices up to end, found from the last to the first, before
-- those that stand after
unfoldable pub offsets_onto : List ℕ → ℕ → ℕ → ℕ → List ℕ → Result (List ℕ) CutFault
offsets_onto payload foot zero end after =
    if end == 0 then Ok (0 ∷ after) else Err (record { fault = fault.Leftover; slice = 0 })
offsets_onto payload foot (suc s) end after =
    if nat_lt end (foot + size_before payload foot end)
    then Err (record { fault = fault.Footer; slice = s })
    else offsets_onto payload foot s (end - (foot + size_before payload foot end)) (end ∷ after)

-- the first slice from number s on, of so many, whose parity or status is wrong
unfoldable pub first_damaged : List ℕ → (ℕ → ℕ) → ℕ → ℕ → Option CutFault
first_damaged payload spans s zero = None
first_damaged payload spans s (suc more) =
    if remainder_of (slice_of payload spans s) == 0
    then (if slice_index payload (spans (suc s) - 5) == 0
    then first_damaged payload spans (suc s) more
    else Some (record { fault = fault.SliceStatus; slice = s }))
    else Some (record { fault = fault.SliceParity; slice = s })

abbrev pub judged_by : Option CutFault → List ℕ → Result (List ℕ) CutFault
judged_by None os = Ok os
judged_by (Some f) os = Err f

abbrev pub judged :
    List ℕ → ℕ → Bool → Result (List ℕ) CutFault → Result (List ℕ) CutFault
judged payload count ec (Err f) = Err f
judged payload count false (Ok os) = Ok os
judged payload count true (Ok os) = judged_by (first_damaged payload (slice_index os) 0 count) os

-- what is found: one offset more than there are slices, or the first fault
abbrev pub cut_of : Configuration → List ℕ → Result (List ℕ) CutFault
cut_of c payload =
    judged payload (c.columns * c.rows) c.ec
    (offsets_onto payload (foot_length c.ec) (c.columns * c.rows) (length payload) [])
