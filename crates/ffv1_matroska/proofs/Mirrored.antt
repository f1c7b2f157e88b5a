-- A turn reads what a step of plain reading does, up to its fault.
use Rattle.std.proofs.Common.{◌≡◌, ◌⊎◌, ◌==◌, ℕ, ◌+◌, ◌-◌, ◌<◌, ◌≤◌, if◌then◌else◌, nat_lt, Bool, true, false, List, length, slice_index, take, drop, Option, Some, None, Result, Ok, Err, inl, inr, refl, arith}
use Rattle.std.proofs.lemmas.Bool.{ltb-false}
use Rattle.ffv1_reads.specs.Head.{frame_limit}
use Rattle.ffv1_ebml.proofs.VintLaws.{vint_sound}
use Rattle.ffv1_reads.specs.Reads.{Met, Reading, Short, Stop, given, read_on, ◌>>=◌}
use Rattle.ffv1_reads.specs.declared.fault.FileFault.{FileFault}
use Rattle.ffv1_reads.specs.declared.fault.FileFault.TheVariants as fault
use Rattle.ffv1_sum.specs.Sum.{number_of as low_number, turned}
use Rattle.ffv1_ebml.specs.Elements.{element_in, element_judged, element_named, is_crc, none_outside}
use Rattle.ffv1_ebml.specs.Sums.{summed}
use Rattle.ffv1_ebml.specs.Tried.{header_judged, header_named, header_sized, header_tried, outcome, size_tried}
use Rattle.ffv1_ebml.specs.Vints.{data_of, number_of, size_of, vint_read}
use Rattle.ffv1_ebml.specs.declared.element.Element.{Element}
use Rattle.ffv1_ebml.specs.declared.sum.Sum.{Sum}
use Rattle.ffv1_ebml.specs.declared.sum.Sum.TheVariants.{Absent, Begins, Awaits}
use Rattle.ffv1_ebml.specs.declared.tried.Header.{Header}
use Rattle.ffv1_ebml.specs.declared.tried.Header.TheVariants.{Broken, Outside, Whole}
use Rattle.ffv1_matroska.specs.WrittenIdents.{timestamp}
use Rattle.ffv1_matroska.specs.Blocks.{block_read, block_rest, fields_read, frame_judged, is_unknown, lacing_of, passed_on, time_of}
use Rattle.ffv1_matroska.specs.Places.{closed, group_at, is_sound, step_to, summed_at, timed_to}
use Rattle.ffv1_matroska.specs.Segments.{beside_read, block, block_group, child_by, cluster_child, crc_read, first_child, group_child, group_read, group_rest, is_beside, simple_block, timestamp_read}
use Rattle.ffv1_matroska.specs.Turns.{block_named, block_turn, child_turn, crc_turn, fields_turn, first_turn, frame_turn, group_headed, group_turn, numbered_turn, passed_turn, turn_by}
use Rattle.ffv1_matroska.specs.declared.course.Pending.{Pending}
use Rattle.ffv1_matroska.specs.declared.course.Pending.TheVariants as pending
use Rattle.ffv1_matroska.specs.declared.course.Turn.{Turn}
use Rattle.ffv1_matroska.specs.declared.course.Turn.TheVariants.{Frame, On, Told}
use Rattle.ffv1_matroska.specs.declared.place.Place.{Place}
use Rattle.ffv1_matroska.specs.declared.place.Step.{Step}
use Rattle.ffv1_matroska.specs.declared.track.TrackNumbers.{TrackNumbers}

-- what a step, a turn, came to
abbrev pub Stepped : Type 0
Stepped = Result (Option Step × List ℕ) Stop

abbrev pub Turned : Type 0
Turned = Result (Turn × List ℕ) Stop

-- a fault is told; that of a Cluster's CRC-32 is so only after the element that ends it; and more
-- bytes may be wanted of an element that passes the Segment
abbrev pub TellsFault : FileFault → Turned → Type 0
TellsFault f z =
    ((next : Pending) × (place : Place) × (more : List ℕ) × (z ≡ Ok (Told f next place, more)))
    ⊎ (((f ≡ fault.Checksum) × (place : Place) × (more : List ℕ) × (is_sound place ≡ false) × (z ≡ Ok (On pending.Nothing place, more)))
    ⊎ ((f ≡ fault.Truncated) × (w : _) × (z ≡ Err (Short w))))

abbrev pub TurnsTo : Option ℕ → Place → List ℕ → Turned → Type 0
TurnsTo None place rest z = (is_sound place ≡ true) × (z ≡ Ok (On pending.Nothing place, rest))
TurnsTo (Some size) place rest z = z ≡ Ok (Frame size place, rest)

abbrev pub Mirrors : Stepped → Turned → Type 0
Mirrors (Ok (None, rest)) z = ⊥
Mirrors (Ok (Some s, rest)) z = TurnsTo s.frame s.place rest z
Mirrors (Err (Short w)) z = z ≡ Err (Short w)
Mirrors (Err (Met f rest)) z = TellsFault f z

-- ---- parts of elements

pub passes : (size : ℕ) (place : Place) (text : List ℕ) → Mirrors (passed_on size place text) (passed_turn size pending.Nothing place text)
unfolding passed_on passed_turn
passes size place text = on_test (nat_lt (length text) size) refl
  where
    now : Place
    now = summed_at place (summed place.sum (take size text))

    on_sound : (b : Bool) → is_sound now ≡ b → Mirrors (closed (Some (step_to now)) now (drop size text)) (Ok (On pending.Nothing now, drop size text))
    on_sound true sound = rw sound (sound, refl)
    on_sound false sound = rw sound (inr (inl (refl, now, drop size text, sound, refl)))

    on_test : (b : Bool) → nat_lt (length text) size ≡ b → Mirrors (passed_on size place text) (passed_turn size pending.Nothing place text)
    on_test true test = rw test refl
    on_test false test = rw test (on_sound (is_sound now) refl)

-- a Timestamp is passed, too
times : (size : ℕ) (place : Place) (text : List ℕ) → Mirrors (timestamp_read size place text) (passed_turn size pending.Nothing place text)
unfolding timestamp_read passed_turn
times size place text = on_test (nat_lt (length text) size) refl
  where
    now : Place
    now = summed_at place (summed place.sum (take size text))

    on_sound : (b : Bool) → is_sound now ≡ b → Mirrors (closed (Some (timed_to (number_of (take size text)) now)) now (drop size text)) (Ok (On pending.Nothing now, drop size text))
    on_sound true sound = rw sound (sound, refl)
    on_sound false sound = rw sound (inr (inl (refl, now, drop size text, sound, refl)))

    on_test : (b : Bool) → nat_lt (length text) size ≡ b → Mirrors (timestamp_read size place text) (passed_turn size pending.Nothing place text)
    on_test true test = rw test refl
    on_test false test = rw test (on_sound (is_sound now) refl)

besides : (ident size : ℕ) (place : Place) (text : List ℕ) → Mirrors (beside_read ident size place text) (passed_turn size pending.Nothing place text)
besides ident size place text = on_time (ident == timestamp) refl
  where
    on_time : (b : Bool) → (ident == timestamp) ≡ b → Mirrors (beside_read ident size place text) (passed_turn size pending.Nothing place text)
    on_time true is = rw is (times size place text)
    on_time false is = rw is (passes size place text)

judges : (time flags size : ℕ) (place : Place) (text : List ℕ) → Mirrors (frame_judged time flags size place text) (Ok (frame_turn flags size place, text))
judges time flags size place text = on_lacing (lacing_of flags == 0) refl (nat_lt frame_limit size) refl (size == 0) refl
  where
    on_lacing : (a : Bool) → (lacing_of flags == 0) ≡ a → (b : Bool) → nat_lt frame_limit size ≡ b → (c : Bool) → (size == 0) ≡ c → Mirrors (frame_judged time flags size place text) (Ok (frame_turn flags size place, text))
    on_lacing false plain b long c none = rw plain (inl (_, _, _, refl))
    on_lacing true plain true long c none = rw (plain, long) (inl (_, _, _, refl))
    on_lacing true plain false long true none = rw (plain, long, none) (inl (_, _, _, refl))
    on_lacing true plain false long false none = rw (plain, long, none) refl

fields : (left : ℕ) (place : Place) (text : List ℕ) → Mirrors (fields_read left place text) (fields_turn left place text)
unfolding fields_read fields_turn
fields left place text = on_few (nat_lt left 3) refl (nat_lt (length text) 3) refl
  where
    on_few : (a : Bool) → nat_lt left 3 ≡ a → (b : Bool) → nat_lt (length text) 3 ≡ b → Mirrors (fields_read left place text) (fields_turn left place text)
    on_few true few b short = rw few (inl (_, _, _, refl))
    on_few false few true short = rw (few, short) refl
    on_few false few false short = rw (few, short) (judges (time_of (take 3 text)) (slice_index (take 3 text) 2) (left - 3) (summed_at place (summed place.sum (take 3 text))) (drop 3 text))

numbers : (track : TrackNumbers) (number left : ℕ) (place : Place) (sum : Sum) (text : List ℕ) →
    Mirrors (block_rest track place (record { value = number; left = left }, sum) text) (numbered_turn track number left (summed_at place sum) text)
unfolding numbered_turn
numbers track number left place sum text = on_number (number == track.number) refl (is_unknown track.known number) refl
  where
    on_number : (a : Bool) → (number == track.number) ≡ a → (b : Bool) → is_unknown track.known number ≡ b → Mirrors (block_rest track place (record { value = number; left = left }, sum) text) (numbered_turn track number left (summed_at place sum) text)
    on_number true ours b known = rw ours (fields left (summed_at place sum) text)
    on_number false ours true known = rw (ours, known) (inl (_, _, _, refl))
    on_number false ours false known = rw (ours, known) (passes left (summed_at place sum) text)

pub blocks : (track : TrackNumbers) (size : ℕ) (place : Place) (text : List ℕ) → Mirrors (block_read track size place text) (block_turn track size place text)
unfolding block_read block_turn
blocks track size place text = on_number (vint_read 8 size text)
  where
    on_number : (z : Result (List ℕ × List ℕ) Stop) → Mirrors
        (read_on (read_on z (λ bytes. given (record { value = data_of bytes; left = size - length bytes }, summed place.sum bytes))) (block_rest track place))
        (read_on (outcome z) (block_named track size place))
    on_number (Ok (bytes, rest)) = numbers track (data_of bytes) (size - length bytes) place (summed place.sum bytes) rest
    on_number (Err (Met f rest)) = inl (_, _, _, refl)
    on_number (Err (Short w)) = refl

-- ---- elements

members : (track : TrackNumbers) (ident size : ℕ) (place : Place) (text : List ℕ) → Mirrors (group_child track ident place (Some size) text) ((if ident == block then block_turn track size place else passed_turn size pending.Nothing place) text)
unfolding group_child
members track ident size place text = on_block (ident == block) refl
  where
    on_block : (b : Bool) → (ident == block) ≡ b → Mirrors (group_child track ident place (Some size) text) ((if ident == block then block_turn track size place else passed_turn size pending.Nothing place) text)
    on_block true is = rw is (blocks track size place text)
    on_block false is = rw is (passes size place text)

-- all but BlockGroups
pub children : (track : TrackNumbers) (ident size : ℕ) (place : Place) (text : List ℕ) → (ident == block_group) ≡ false → Mirrors (cluster_child track ident size place text) (child_turn track ident size place text)
unfolding cluster_child child_turn
children track ident size place text group = on_simple (ident == simple_block) refl (is_beside ident size) refl
  where
    on_simple : (a : Bool) → (ident == simple_block) ≡ a → (b : Bool) → is_beside ident size ≡ b → Mirrors (cluster_child track ident size place text) (child_turn track ident size place text)
    on_simple true simple b beside = rw simple (blocks track size place text)
    on_simple false simple true beside = rw (simple, group, beside) (besides ident size place text)
    on_simple false simple false beside = rw (simple, group, beside) (inl (_, _, _, refl))

sums : (place : Place) (text : List ℕ) → Mirrors (crc_read place text) (crc_turn place text)
unfolding crc_turn
sums place text = on_test (nat_lt (length text) 4) refl
  where
    now : Place
    now = summed_at place (Awaits (low_number (take 4 text)) turned)

    on_sound : (b : Bool) → is_sound now ≡ b → Mirrors (closed (Some (step_to now)) now (drop 4 text)) (Ok (On pending.Nothing now, drop 4 text))
    on_sound true sound = rw sound (sound, refl)
    on_sound false sound = rw sound (inr (inl (refl, now, drop 4 text, sound, refl)))

    on_test : (b : Bool) → nat_lt (length text) 4 ≡ b → Mirrors (crc_read place text) (crc_turn place text)
    on_test true test = rw test refl
    on_test false test = rw test (on_sound (is_sound now) refl)

firsts : (track : TrackNumbers) (ident size : ℕ) (place : Place) (text : List ℕ) → (ident == block_group) ≡ false → Mirrors (first_child track ident size place text) (first_turn track ident size place text)
unfolding first_child first_turn
firsts track ident size place text group = on_crc (is_crc ident size) refl
  where
    on_crc : (b : Bool) → is_crc ident size ≡ b → Mirrors (first_child track ident size place text) (first_turn track ident size place text)
    on_crc true crc = rw crc (sums place text)
    on_crc false crc = rw crc (children track ident size (summed_at place Absent) text group)

pub children_by : (track : TrackNumbers) (ident size : ℕ) (place : Place) (sum : Sum) (text : List ℕ) → (ident == block_group) ≡ false → Mirrors (child_by track ident size place sum text) (turn_by track ident size place sum text)
children_by track ident size place Begins text group = firsts track ident size place text group
children_by track ident size place Absent text group = children track ident size place text group
children_by track ident size place (Awaits stated so_far) text group = children track ident size place text group

-- ---- headers, by what comes after them: a relation that has a fault told, and more bytes wanted
module _ (Like : Stepped → Turned → Type 0) (faults : (f : FileFault) (rest more : List ℕ) (next : Pending) (place : Place) → Like (Err (Met f rest)) (Ok (Told f next place, more))) (wants : (w : _) → Like (Err (Short w)) (Err (Short w)))
    (step : Element × Sum → Reading (Option Step)) (turn : Header → Reading Turn)
    (broken : (f : FileFault) (left : ℕ) (text : List ℕ) → (next : Pending) × (place : Place) × (turn (Broken f left) text ≡ Ok (Told f next place, text)))
    (out : (ident left : ℕ) (text : List ℕ) → (next : Pending) × (place : Place) × (turn (Outside ident left) text ≡ Ok (Told fault.BadElement next place, text)))
    (endless : (ident left : ℕ) (sum : Sum) (text : List ℕ) → step (record { ident = ident; size = None; left = left }, sum) text ≡ Err (Met fault.BadElement text))
    (start : ℕ) (whole : (ident size left : ℕ) (sum : Sum) (text : List ℕ) → size + left < start → Like (step (record { ident = ident; size = Some size; left = left }, sum) text) (turn (Whole ident size left sum) text)) where
  broken_like : (f : FileFault) (left : ℕ) (rest text : List ℕ) → Like (Err (Met f rest)) (turn (Broken f left) text)
  broken_like f left rest text = let b = broken f left text in rw b.2 (faults f rest text b.0 b.1)

  sized_like : (ident left : ℕ) (sum : Sum) (size : Option ℕ) (text : List ℕ) → left < start →
      Like (read_on (read_on (element_judged left ident size text) (λ e. given (e, sum))) step) (turn (header_judged ident sum left size) text)
  sized_like ident left sum None text less = rw (endless ident left sum text) (broken_like fault.BadElement left text text)
  sized_like ident left sum (Some size) text less = on_fits (nat_lt left size) refl
    where
      on_fits : (b : Bool) → nat_lt left size ≡ b → Like (read_on (read_on (element_judged left ident (Some size) text) (λ e. given (e, sum))) step) (turn (header_judged ident sum left (Some size)) text)
      on_fits true long = rw long (broken_like fault.Truncated left text text)
      on_fits false long = let fits : size ≤ left = ltb-false _ _ long in rw long (whole ident size (left - size) sum text (omega (arith, fits, less)))

  pub header_like : (outside : ℕ → Bool) (sum : Sum) (text : List ℕ) → Like ((element_in outside start sum >>= step) text) ((header_tried outside start sum >>= turn) text)
  unfolding element_in header_tried size_tried
  header_like outside sum text = on_ident (vint_read 4 start text) refl
    where
      on_size : (ident : List ℕ) → start - length ident < start → (z : Result (List ℕ × List ℕ) Stop) → Like
          (read_on (read_on z (λ size. element_judged (start - length ident - length size) (number_of ident) (size_of size) >>= λ e. given (e, summed (summed sum ident) size))) step)
          (read_on (read_on (outcome z) (header_sized (number_of ident) (start - length ident) (summed sum ident))) turn)
      on_size ident less (Ok (size, rest)) = sized_like (number_of ident) (start - length ident - length size) (summed (summed sum ident) size) (size_of size) rest (omega (arith, less))
      on_size ident less (Err (Met f rest)) = broken_like f (start - length ident - 1) rest rest
      on_size ident less (Err (Short w)) = wants w

      on_outside : (ident rest : List ℕ) → start - length ident < start → (b : Bool) → outside (number_of ident) ≡ b → Like (read_on (element_named outside start sum ident rest) step) (read_on (header_named outside start sum (Ok ident) rest) turn)
      on_outside ident rest less true is = let o = out (number_of ident) (start - length ident) rest in rw (is, o.2) (faults fault.BadElement rest rest o.0 o.1)
      on_outside ident rest less false is = rw is (on_size ident less (vint_read 8 (start - length ident) rest))

      on_ident : (z : Result (List ℕ × List ℕ) Stop) → vint_read 4 start text ≡ z → Like (read_on (read_on z (element_named outside start sum)) step) (read_on (read_on (outcome z) (header_named outside start sum)) turn)
      on_ident (Ok (ident, rest)) is =
          let read = vint_sound 4 start text (ident, rest) is in
          on_outside ident rest (omega (arith, read.is.0, read.fits)) (outside (number_of ident)) refl
      on_ident (Err (Met f rest)) is = broken_like f (start - 1) rest rest
      on_ident (Err (Short w)) is = wants w

-- an element of a BlockGroup that has had a Block
pub groups : (track : TrackNumbers) (place : Place) (text : List ℕ) → Mirrors (group_read track place text) (group_turn track pending.Nothing place text)
unfolding group_read group_turn group_child
groups track place text =
    header_like Mirrors (λ f rest more next now. inl (next, now, more, refl)) (λ w. refl) (group_rest track place) (group_headed track pending.Nothing place) (λ f left bytes. (_, _, refl)) (λ ident left bytes. (_, _, refl))
    (λ ident left sum bytes. refl) place.group (λ ident size left sum bytes less. members track ident size (group_at place left sum) bytes) none_outside place.sum text
