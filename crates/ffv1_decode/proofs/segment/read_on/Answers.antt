-- Reads a segment into its place of a line.
use Rattle.std.proofs.Common.{◌≡◌, ℕ, ◌++◌, ◌+◌, ◌-◌, ◌*◌, ◌<◌, ◌≤◌, ◌⊎◌, inl, inr, ap, sym, subst}
use Rattle.std.proofs.Common.{◌∙◌, rules, Fits, w64}
use Rattle.std.proofs.Math.Nat.{mul-le-mul_right}
use Rattle.std.proofs.Common.{length, slice_index_or, slice_set, length-set, take, drop, arith}
use Rattle.std.proofs.lemmas.Bool.{cases_Bool}
use Rattle.std.proofs.lemmas.List.{get_or_default, length-take-le}
use Rattle.ffv1_record.specs.Configuration.{Configuration}
use Rattle.ffv1_record.specs.Accepted.{is_rice}
use Rattle.ffv1_record.specs.Held.{classes_of}
use Rattle.ffv1_record.specs.Sets.{most_contexts}
use Rattle.ffv1_frame.specs.Picture.{plane}
use Rattle.ffv1_frame.specs.Windows.{window}
use Rattle.ffv1_frame.specs.Decoding.{slice_at, slice_number, fault_in, left_of, width_in}
use Rattle.ffv1_decode.specs.OwnFaults.{IsOwn}
use Rattle.ffv1_decode.specs.Internal.LeftBits.{AreKept}
use Rattle.ffv1_decode.specs.Internal.RowParts.{IsRow}
use Rattle.ffv1_decode.specs.Internal.Tied.{IsOpen, column_at, no_column, slots_in, row_slices}
use Rattle.ffv1_frame.proofs.lemmas.Sizes.{slots_small, part_small, part_apart}
use Rattle.ffv1_decode.proofs.lemmas.segment.ClassRoom.{classes_most}
use Rattle.ffv1_frame.proofs.lemmas.WrittenParts.{put, put_long, put_other, part_long}
use Rattle.ffv1_decode.proofs.lemmas.states.LeftStates.{part_kept, put_kept}
use Rattle.ffv1_decode.proofs.lemmas.WordLines.{piece_long, window_samples, put_samples}
use Rattle.ffv1_decode.proofs.lemmas.segment.ColumnsOpen.{open_next}
use Rattle.ffv1_decode.proofs.lemmas.row.RowGoesOn.{row_goes_on}
use Rattle.ffv1_decode.proofs.lemmas.segment.SegmentTied.{range_made, bits_made, stopped, bits_stopped}
use Rattle.ffv1_decode.proofs.lemmas.segment.SegmentTied.{stands_here}
use Rattle.ffv1_decode.proofs.segment.read_on.Given.{Over}
use Rattle.ffv1_decode.proofs.segment.read_on.Goals.{After-index-columns-k, After-read_column}
use Rattle.ffv1_decode.proofs.segment.read_on.Goals.{After-extent-left}
use Rattle.ffv1_decode.proofs.segment.read_on.Goals as goal

-- the states of a column lie in those of the row
fits : (k columns slots count all : ℕ) → k < columns → slots ≡ count → all ≡ columns * count → k *
    slots + slots ≤ all
fits k columns slots count all inside same room =
    let part = part_apart k columns slots inside in
    let room : all ≡ columns * slots = room ∙ ap (λ z. columns * z) (sym same) in
    omega (arith, part, room)

-- and are as many as a slice has
thick : (k slots : ℕ) → k * slots + slots - k * slots ≡ slots
thick k slots = omega arith

-- a slice has 32 bytes for each of its contexts
abbrev contexts_of_slice : Configuration → ℕ
contexts_of_slice conf = classes_of conf.chroma_planes conf.extra_plane * most_contexts conf.sets

slots_are : (conf : Configuration) (slots : ℕ) → slots ≡ slots_in conf →
    slots ≡ 32 * contexts_of_slice conf
slots_are conf slots same = omega (arith, same)

slots_begin : (conf : Configuration) (k slots : ℕ) → slots ≡ slots_in conf →
    k * slots ≡ 32 * (k * contexts_of_slice conf)
slots_begin conf k slots same =
    let scaled = ap (λ z. k * z) (slots_are conf slots same) in
    omega (arith, scaled)

-- the column that is read
column_is : (g : Over) (c : After-index-columns-k g) →
    slice_index_or c.args.columns.now c.args.segment.now.column c.index-columns-k.result
    ≡ column_at c.args.columns.now c.args.segment.now.column
column_is g c = get_or_default c.args.columns.now c.args.segment.now.column c.index-columns-k.result
    no_column (omega (arith, c.requires.segment.column, c.requires.row.many))

-- the column was read
module _ (g : Over) (c : After-read_column g) where
  words_fit : c.extent-left.result.0 + (c.extent-left.result.1 - c.extent-left.result.0) ≤ length
      c.args.cur.now
  words_fit = omega (
    arith,
    c.extent-left.ensures.some,
    c.extent-left.ensures.inside,
    c.requires.long.cur,
  )

  row_long : length (g.W.Word.samples c.read_column.new.cur) ≡ c.extent-left.result.1 -
      c.extent-left.result.0
  row_long =
      g.met.W.Word.lengths c.read_column.new.cur ∙ c.read_column.auto.cur
      ∙ piece_long c.extent-left.result.0 (c.extent-left.result.1 - c.extent-left.result.0)
      c.args.cur.now words_fit

  states_long : length c.read_column.new.states ≡ c.args.frame.now.slots
  states_long =
      let k = c.args.segment.now.column in
      let slots = c.args.frame.now.slots in
      c.read_column.auto.states ∙ part_long (k * slots) slots (k * slots + slots - k * slots)
      c.args.states.now (thick k slots) (fits c.args.segment.now.column
      c.args.frame.now.checked.now.configuration.columns c.args.frame.now.slots _ _
      c.requires.segment.column c.requires.row.frame.slots c.requires.row.room)

  -- the line has what was read in its place, and beside it what it had
  others : (b n : ℕ) → b + n ≤ length (g.W.Word.samples c.args.cur.now) →
      (b + n ≤ c.args.segment.now.index * c.args.frame.now.checked.now.configuration.width)
      ⊎ (c.args.segment.now.index * c.args.frame.now.checked.now.configuration.width +
      c.args.frame.now.checked.now.configuration.width ≤ b) →
      window b n (g.W.Word.samples (take c.extent-left.result.0 c.args.cur.now ++
      (c.read_column.new.cur ++ drop (c.extent-left.result.1 - c.extent-left.result.0)
      (drop c.extent-left.result.0 c.args.cur.now))))
      ≡ window b n (g.W.Word.samples c.args.cur.now)
  others b n within apart =
      let left = c.extent-left.result.0 in
      let width = c.extent-left.result.1 - left in
      let cur = g.W.Word.samples c.args.cur.now in
      let cur_long : length cur ≡ length c.args.cur.now = g.met.W.Word.lengths c.args.cur.now in
      let cur_fits : left + width ≤ length cur = omega (arith, words_fit, cur_long) in
      let index = c.args.segment.now.index * c.args.frame.now.checked.now.configuration.width in
      let apart : (b + n ≤ left) ⊎ (left + width ≤ b) = elim apart [
        | inl front ↦ inl (omega (arith, front, c.extent-left.ensures.left))
        | inr behind ↦ inr (omega (
          arith,
          behind,
          c.extent-left.ensures.some,
          c.extent-left.ensures.inside,
        ))
      ] in
      let law = g.met.W.Word in
      rw (put_samples g.W.Word.samples law.takes law.drops law.joins left width c.args.cur.now
      c.read_column.new.cur) (put_other cur (g.W.Word.samples c.read_column.new.cur) left width
      cur_fits row_long b n within apart)

  -- the row goes on with the column and the states that were read
  row_after : IsOpen c.args.frame.now.payload.now
      c.args.frame.now.checked.now.configuration.sets c.read_column.new.column →
      AreKept c.args.frame.now.checked.now c.read_column.new.states →
      IsRow c.args.frame.now c.args.segment.now.row (row_slices
      (slice_set c.args.columns.now c.args.segment.now.column c.read_column.new.column)
      (put (c.args.segment.now.column * c.args.frame.now.slots)
      (c.args.segment.now.column * c.args.frame.now.slots + c.args.frame.now.slots
      - c.args.segment.now.column * c.args.frame.now.slots) c.args.states.now
      c.read_column.new.states))
  row_after is_open kept =
      let a = c.args.frame.now.checked.now in
      let columns = c.args.columns.now in
      let states = c.args.states.now in
      let k = c.args.segment.now.column in
      let slots = c.args.frame.now.slots in
      let fits = fits k a.configuration.columns slots _ _ c.requires.segment.column
      c.requires.row.frame.slots c.requires.row.room in
      rw (thick k slots) (row_goes_on c.args.frame.now c.args.segment.now.row
      (row_slices columns states) (row_slices (slice_set columns k c.read_column.new.column)
      (put (k * slots) slots states c.read_column.new.states)) c.requires.row
      (length-set columns k c.read_column.new.column)
      (put_long states c.read_column.new.states (k * slots) slots fits states_long)
      (open_next c.args.frame.now.payload.now a.configuration.sets columns k
      c.read_column.new.column (omega (arith, c.requires.segment.column, c.requires.row.many))
      c.requires.row.opened is_open)
      (put_kept a states c.read_column.new.states (k * slots) slots
      (k * contexts_of_slice a.configuration) (contexts_of_slice a.configuration) fits states_long
      (slots_begin a.configuration k slots c.requires.row.frame.slots)
      (slots_are a.configuration slots c.requires.row.frame.slots) c.requires.row.held kept))

-- the states of a column end at a place that a number can say
end_small : (g : Over) (c : After-extent-left g) →
    c.args.segment.now.column * c.args.frame.now.slots
    + c.args.frame.now.slots ≤ 100663296
end_small g c =
    let a = c.args.frame.now.checked.now in
    let conf = a.configuration in
    let k = c.args.segment.now.column in
    let slots = c.args.frame.now.slots in
    let most = c.accepted_configuration_has_sound_parts.ensures.most conf a.table
    c.requires.row.frame.accepted in
    let few = slots_small (classes_of conf.chroma_planes conf.extra_plane) _
    (classes_most conf.chroma_planes conf.extra_plane) most in
    let columns = c.accepted_configuration_is_in_range.ensures.columns conf a.table
    c.requires.row.frame.accepted in
    part_small k slots (omega (arith, c.requires.segment.column, columns))
    (omega (arith, few, c.requires.row.frame.slots))

pub overflow_mul-at : goal.overflow_mul-at
overflow_mul-at g c =
    let small = end_small g (goal.at.overflow_mul-at g c).After-extent-left in
    omega (arith, small)

pub overflow_add-at : goal.overflow_add-at
overflow_add-at g c =
    let small = end_small g (goal.at.overflow_add-at g c).After-extent-left in
    omega (arith, small)

-- a segment begins in its line
begins : (g : Over) (c : After-extent-left g) → c.extent-left.result.0 ≤ length c.args.cur.now
begins g c = omega (
  arith,
  c.extent-left.ensures.some,
  c.extent-left.ensures.inside,
  c.requires.long.cur,
)

-- and so does it in bytes
scaled : (left long size : ℕ) → left ≤ long → Fits w64 (long * size) → Fits w64 (left * size)
scaled left long size below fits =
    let less = mul-le-mul_right {m = left} {n = long} size below in
    omega (arith, less, fits)

pub offset_bounds-cur-left : goal.offset_bounds-cur-left
offset_bounds-cur-left g c =
    let below = begins g (goal.at.offset_bounds-cur-left g c).After-extent-left in
    scaled c.extent-left.result.0 (length c.args.cur.now) _ below (search rules)

pub fault_at-requires-clause-x : goal.fault_at-requires-clause-x
fault_at-requires-clause-x g c =
    let conf = c.args.frame.now.checked.now.configuration in
    let right : c.extent-left.result.1 - c.extent-left.result.0
    ≡ width_in conf c.args.segment.now.plane c.args.segment.now.column =
    omega (arith, c.extent-left.ensures.right) in
    let row_is = row_long g (goal.at.fault_at-requires-clause-x g c).After-read_column ∙ right in
    omega (arith, c.in-Err.ensures.inside, row_is)

pub slice_bounds-read_column-end : goal.slice_bounds-read_column-end
slice_bounds-read_column-end g c = fits c.args.segment.now.column
    c.args.frame.now.checked.now.configuration.columns c.args.frame.now.slots _ _
    c.requires.segment.column
    c.requires.row.frame.slots c.requires.row.room

pub read_column-requires-clause-open : goal.read_column-requires-clause-open
read_column-requires-clause-open g c =
    let is = column_is g (goal.at.read_column-requires-clause-open g c).After-index-columns-k in
    subst (IsOpen c.args.frame.now.payload.now c.args.frame.now.checked.now.configuration.sets)
    (sym is)
    (c.requires.row.opened c.args.segment.now.column (omega (
      arith,
      c.requires.segment.column,
      c.requires.row.many,
    )))

pub read_column-requires-clause-wide : goal.read_column-requires-clause-wide
read_column-requires-clause-wide g c =
    let a = c.args.frame.now.checked.now in
    let left = c.extent-left.result.0 in
    let width = c.extent-left.result.1 - left in
    let small = (c.accepted_configuration_is_in_range.ensures.sizes a.configuration a.table
    c.requires.row.frame.accepted).1 in
    let fits : left + width ≤ length c.args.cur.now = omega (
      arith,
      c.extent-left.ensures.some,
      c.extent-left.ensures.inside,
      c.requires.long.cur,
    ) in
    let long = piece_long left width c.args.cur.now fits in
    omega (arith, long, small, c.extent-left.ensures.left, c.extent-left.ensures.inside)

pub read_column-requires-clause-kept : goal.read_column-requires-clause-kept
read_column-requires-clause-kept g c =
    let a = c.args.frame.now.checked.now in
    let k = c.args.segment.now.column in
    let slots = c.args.frame.now.slots in
    let fits = fits c.args.segment.now.column a.configuration.columns
    c.args.frame.now.slots _ _ c.requires.segment.column c.requires.row.frame.slots
    c.requires.row.room in
    rw (thick k slots) (part_kept a c.args.states.now (k * slots) slots
    (k * contexts_of_slice a.configuration)
    (slots_begin a.configuration k slots c.requires.row.frame.slots) fits c.requires.row.held)

pub returns-in-Ok-clause-exact : goal.returns-in-Ok-clause-exact
returns-in-Ok-clause-exact g c = λ coded next s less tied line.
    let a = c.args.frame.now.checked.now in
    let conf = a.configuration in
    let samples = g.W.Word.samples in
    let law = g.met.W.Word in
    let two = samples c.args.above.now.two.now in
    let one = samples c.args.above.now.one.now in
    let cur = samples c.args.cur.now in
    let row = samples c.read_column.new.cur in
    let columns = c.args.columns.now in
    let states = c.args.states.now in
    let payload = c.args.frame.now.payload.now in
    let k = c.args.segment.now.column in
    let p = c.args.segment.now.plane in
    let r = c.args.segment.now.row in
    let y = c.args.segment.now.y in
    let index = c.args.segment.now.index in
    let slots = c.args.frame.now.slots in
    let left = c.extent-left.result.0 in
    let width = c.extent-left.result.1 - left in
    let here = goal.at.returns-in-Ok-clause-exact g c in
    let thick = thick k slots in
    let column_is = column_is g here.After-index-columns-k in
    let right : width ≡ width_in conf p k = omega (arith, c.extent-left.ensures.right) in
    let row_is : length row ≡ width_in conf p k = row_long g here.After-read_column ∙ right in
    let part_is = window_samples samples law.takes law.drops law.joins left width in
    let two_is = part_is c.args.above.now.two.now in
    let one_is = part_is c.args.above.now.one.now in
    let same = rw column_is at c.in-Ok.ensures.same in
    let parked = rw column_is at c.in-Ok.ensures.parked in
    let slots_are : slots ≡ slots_in conf = c.requires.row.frame.slots in
    let left_is : left ≡ index * conf.width + left_of conf p k = c.extent-left.ensures.left in
    let exact = rw (column_is, thick, slots_are, two_is, one_is, right, left_is) at
    c.in-Ok.ensures.exact in
    let bits = rw (column_is, thick, slots_are, two_is, one_is, right, left_is) at
    c.in-Ok.ensures.bits in
    let old = slice_at s k in
    let rolls = line.unread k (omega arith) c.requires.segment.column in
    let cur_back = put_samples samples law.takes law.drops law.joins left width c.args.cur.now
    c.read_column.new.cur in
    let cur_long : length cur ≡ length c.args.cur.now = law.lengths c.args.cur.now in
    let long : length c.read_column.new.states ≡ slots_in conf = states_long g
    here.After-read_column ∙ slots_are in
    let are = c.slices_lie_beside_one_another.ensures.across conf a.table p
    c.requires.row.frame.accepted in
    let room : index * conf.width + conf.width ≤ length cur =
    omega (arith, cur_long, c.requires.long.cur) in
    let rolling = c.reading_its_rows_reads_the_cell.ensures.rolls in
    rw (cur_back, thick, slots_are, right, left_is) (elim (cases_Bool (is_rice conf.coder)) [
      | inl rice ↦
          let known = tied.each k c.requires.segment.column in
          let raw = rw row_is at (bits rice coded (slice_number conf r k) old known.bytes_are
          known.indexes known.stands (known.kept.rice rice) (rw row_is rolls)) in
          bits_made a coded r next payload columns states s tied p index y k two one cur row
          c.read_column.new.column c.requires.segment.column c.requires.row.many same rolls
          c.read_column.new.states c.in-Ok.ensures.small row_is less c.requires.segment.plane
          c.requires.row.room long rice (parked rice) raw are rolling room line
      | inr range ↦
          let stands = stands_here a coded r next payload columns states s tied p index y
          k two one cur row c.read_column.new.column c.requires.segment.column
          c.requires.row.many same range in
          let raw = rw row_is at (exact range old.past (plane old.cells p) y stands
          (rw row_is rolls)) in
          range_made a coded r next payload columns states s tied p index y k two one cur row
          c.read_column.new.column c.requires.segment.column c.requires.row.many same rolls
          c.read_column.new.states c.in-Ok.ensures.small row_is less c.requires.segment.plane
          c.requires.row.room long range raw are rolling room line
    ])

pub returns-in-Ok-clause-beside : goal.returns-in-Ok-clause-beside
returns-in-Ok-clause-beside g c = others g
    (goal.at.returns-in-Ok-clause-beside g c).After-read_column

pub returns-in-Ok-clause-row : goal.returns-in-Ok-clause-row
returns-in-Ok-clause-row g c =
    row_after g (goal.at.returns-in-Ok-clause-row g c).After-read_column c.in-Ok.ensures.open
    c.in-Ok.ensures.kept

pub returns-in-Err-clause-exact : goal.returns-in-Err-clause-exact
returns-in-Err-clause-exact g c = λ coded next s less tied line.
    let a = c.args.frame.now.checked.now in
    let conf = a.configuration in
    let samples = g.W.Word.samples in
    let law = g.met.W.Word in
    let two = samples c.args.above.now.two.now in
    let one = samples c.args.above.now.one.now in
    let cur = samples c.args.cur.now in
    let row = samples c.read_column.new.cur in
    let columns = c.args.columns.now in
    let states = c.args.states.now in
    let payload = c.args.frame.now.payload.now in
    let k = c.args.segment.now.column in
    let p = c.args.segment.now.plane in
    let r = c.args.segment.now.row in
    let y = c.args.segment.now.y in
    let index = c.args.segment.now.index in
    let slots = c.args.frame.now.slots in
    let left = c.extent-left.result.0 in
    let width = c.extent-left.result.1 - left in
    let here = goal.at.returns-in-Err-clause-exact g c in
    let thick = thick k slots in
    let column_is = column_is g here.After-index-columns-k in
    let right : width ≡ width_in conf p k = omega (arith, c.extent-left.ensures.right) in
    let row_is : length row ≡ width_in conf p k = row_long g here.After-read_column ∙ right in
    let part_is = window_samples samples law.takes law.drops law.joins left width in
    let two_is = part_is c.args.above.now.two.now in
    let one_is = part_is c.args.above.now.one.now in
    let same = rw column_is at c.in-Err.ensures.same in
    let parked = rw column_is at c.in-Err.ensures.parked in
    let slots_are : slots ≡ slots_in conf = c.requires.row.frame.slots in
    let left_is : left ≡ index * conf.width + left_of conf p k = c.extent-left.ensures.left in
    let exact = rw (column_is, thick, slots_are, two_is, one_is, right, left_is) at
    c.in-Err.ensures.exact in
    let bits = rw (column_is, thick, slots_are, two_is, one_is, right, left_is) at
    c.in-Err.ensures.bits in
    let old = slice_at s k in
    let rolls = line.unread k (omega arith) c.requires.segment.column in
    let x = c.in-Err.refused.x in
    let few : x < width_in conf p k = omega (arith, c.in-Err.ensures.inside, row_is) in
    let taken : length (take x row) ≡ x = length-take-le x row (omega (arith, few, row_is)) in
    let telling = c.counters_from_zero_show_all_steps.ensures in
    elim (cases_Bool (is_rice conf.coder)) [
      | inl rice ↦
          let known = tied.each k c.requires.segment.column in
          let stop = rw row_is at (bits rice coded (slice_number conf r k) old known.bytes_are
          known.indexes known.stands (known.kept.rice rice) (rw row_is rolls)) in
          bits_stopped a coded r next payload columns states s tied p index y k two one cur row
          c.read_column.new.column c.requires.segment.column c.requires.row.many same rolls rice
          (parked rice) x telling c.in-Err.refused.fault stop c.fault_at.result c.fault_at.ensures
      | inr range ↦
          let stands = stands_here a coded r next payload columns states s tied p index y
          k two one cur (take x row) c.read_column.new.column c.requires.segment.column
          c.requires.row.many same range in
          let raw = rw row_is at (exact range old.past (plane old.cells p) y stands
          (rw row_is rolls)) in
          stopped a coded r next payload columns states s tied p index y k two one cur
          (take x row) c.read_column.new.column c.requires.segment.column c.requires.row.many same
          rolls range x taken few telling raw.0 c.fault_at.result
          (c.fault_at.ensures
          ∙ ap (λ z. fault_in conf z r k p y (left_of conf p k + x)) raw.1)
    ]

pub returns-in-Err-clause-own : goal.returns-in-Err-clause-own
returns-in-Err-clause-own g c = subst IsOwn (sym c.fault_at.ensures) c.in-Err.ensures.own

pub returns-in-Err-clause-beside : goal.returns-in-Err-clause-beside
returns-in-Err-clause-beside g c = others g
    (goal.at.returns-in-Err-clause-beside g c).After-read_column

pub returns-in-Err-clause-row : goal.returns-in-Err-clause-row
returns-in-Err-clause-row g c =
    row_after g (goal.at.returns-in-Err-clause-row g c).After-read_column c.in-Err.ensures.open
    c.in-Err.ensures.kept
