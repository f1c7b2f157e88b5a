-- Whether Cues came after the last Cluster, in a file that may be damaged: by the IDs of elements
-- of the Segment, as far as they were read.
use Rattle.std.specs.Prelude.{◌≡◌, ℕ, ◌-◌, ◌^◌, ◌==◌, suc, zero, Bool, false, if◌then◌else◌}
use Rattle.std.specs.Prelude.{nat_lt, List, Option, Some, None, Result, Ok, Err}
use Rattle.ffv1_reads.specs.Known.{Known}
use Rattle.ffv1_reads.specs.Reads.{Stop}
use Rattle.ffv1_reads.specs.declared.fault.FileFault.{FileFault}
use Rattle.ffv1_ebml.specs.Tried.{tried}
use Rattle.ffv1_ebml.specs.Vints.{number_of, vint_read}
use Rattle.ffv1_matroska.specs.Cues.{cued_by}
use Rattle.ffv1_matroska.specs.Items.{moved}
use Rattle.ffv1_matroska.specs.Places.{is_sound}
use Rattle.ffv1_matroska.specs.Turns.{scanned, turn_read}
use Rattle.ffv1_matroska.specs.declared.course.Course.{Course}
use Rattle.ffv1_matroska.specs.declared.course.Pending.{Pending}
use Rattle.ffv1_matroska.specs.declared.course.Pending.TheVariants as pending
use Rattle.ffv1_matroska.specs.declared.course.Turn.{Turn}
use Rattle.ffv1_matroska.specs.declared.course.Turn.TheVariants.{Frame, On, Told}
use Rattle.ffv1_matroska.specs.declared.place.Place.{Place}
use Rattle.ffv1_matroska.specs.declared.track.TrackNumbers.{TrackNumbers}

-- ---- behind one element

-- whose ID was read, or has a fault
abbrev pub cued_named : Bool → Result (List ℕ) FileFault → Bool
cued_named cued (Err f) = cued
cued_named cued (Ok ident) = cued_by (number_of ident) cued

-- if the bytes end in its ID, it has none
abbrev pub cued_read : Bool → Result (Result (List ℕ) FileFault × List ℕ) Stop → Bool
cued_read cued (Ok p) = cued_named cued p.0
cued_read cued (Err why) = cued

-- of the Segment, with which these bytes begin
abbrev pub cued_outer : Bool → List ℕ → Bool
cued_outer cued text = cued_read cued (tried (vint_read 4 4) text)

unfoldable pub cued_open : Place → Bool → List ℕ → Bool
cued_open place cued text = if place.segment == 0 then cued else cued_outer cued text

-- that comes next; one in a Cluster of known size, or in a BlockGroup, changes nothing
unfoldable pub cued_element : Place → Bool → List ℕ → Bool
cued_element place cued text =
    if is_sound place
    then (if nat_lt 0 place.group then cued
    else if nat_lt 0 place.cluster then cued
    else cued_open place cued text)
    else cued

-- behind a search: the ID of a Cluster was found
abbrev pub cued_sought : Bool → Result (Option ℕ × List ℕ) Stop → Bool
cued_sought cued (Ok (Some left, rest)) = false
cued_sought cued (Ok (None, rest)) = cued
cued_sought cued (Err why) = cued

-- behind a turn, by what is pending
unfoldable pub cued_turn : Pending → Place → Bool → List ℕ → Bool
cued_turn pending.Nothing place cued text = cued_element place cued text
cued_turn pending.Grouped place cued text = cued
cued_turn (pending.Passing count) place cued text = cued
cued_turn pending.Seeking place cued text = cued_sought cued (scanned place.segment 0 text)
cued_turn (pending.Named ident) place cued text = cued_by ident cued
cued_turn (pending.Headed ident size) place cued text = cued

-- ---- behind an item

abbrev pub cued_given : (Course → Bool → List ℕ → Bool) → Course → Bool → Turn → List ℕ → Bool
cued_given on c cued (Frame size place) text = cued
cued_given on c cued (On next place) text = on (moved c next place) cued text
cued_given on c cued (Told f next place) text = cued

-- of a turn that was read it is so behind that; if the bytes end in it, it stays as it was
abbrev pub cued_after : (Course → Bool → List ℕ → Bool) → Course → Bool → Bool →
    Result (Option Turn × List ℕ) Stop → Bool
cued_after on c before after (Err why) = before
cued_after on c before after (Ok (None, rest)) = after
cued_after on c before after (Ok (Some turn, rest)) = cued_given on c after turn rest

-- behind the next item, or the end, in at most so many turns
unfoldable pub cued_up_to : ℕ → TrackNumbers → Course → Bool → List ℕ → Bool
cued_up_to zero track c cued text = cued
cued_up_to (suc most) track c cued text =
    cued_after (cued_up_to most track) c cued (cued_turn c.pending c.place cued text)
    (turn_read track c.pending c.place text)

unfoldable pub cued_item : TrackNumbers → Course → Bool → List ℕ → Bool
cued_item track c cued text = cued_up_to (2 ^ 64 - 1) track c cued text

-- it is so by the bytes that were left before a call, if those are known
abbrev pub CuedBy : (List ℕ → Bool) → Option (List ℕ) → Option (List ℕ) → Bool → Type 0
CuedBy by old new cued = Known old new (λ text rest. cued ≡ by text)
