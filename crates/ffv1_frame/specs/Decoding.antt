-- What the decoding of a frame knows, and what each event of its order does, or is refused by (RFC
-- 9043, 3 and 4.4 to 4.8).
use Rattle.std.specs.Prelude.{◌≡◌, ◌≢◌, ◌⊎◌, ℕ, ℤ, ◌+◌, ◌-◌, ◌*◌, ◌^◌, ◌<◌, Bool, true, false}
use Rattle.std.specs.Prelude.{Option, Some, None, List, [], ◌∷◌, ◌++◌, map, length, take, drop}
use Rattle.std.specs.Prelude.{replicate, slice_index, slice_set}
use Rattle.std.proofs.Common.{get_or}
use Rattle.std.specs.List.{flat_map, range_with_len}
use Rattle.ffv1_wire.specs.Runs.{Line}
use Rattle.ffv1_range.specs.Codes.{Codes}
use Rattle.ffv1_range.specs.Symbols.{Step, shifted}
use Rattle.ffv1_samples.specs.Samples.{bytes_of}
use Rattle.ffv1_rct.specs.Lines.{AreOnlyColoursIn, HasColourAtIn}
use Rattle.ffv1_record.specs.Configuration.{Configuration, is_rct}
use Rattle.ffv1_record.specs.Accepted.{Accepted}
use Rattle.ffv1_line.specs.Cell.{Cell, cell_of}
use Rattle.ffv1_line.specs.Row.{row_steps}
use Rattle.ffv1_line.specs.Coded.{CodesRow, RefusesRow, refused_row_steps}
use Rattle.ffv1_rice.specs.Rows as rows
use Rattle.ffv1_rice.specs.Rows.{Reading, AreSamples}
use Rattle.ffv1_rice.specs.declared.fault.Fault.{Fault}
use Rattle.ffv1_rice.specs.declared.fault.Fault.TheVariants as refused
use Rattle.ffv1_record.specs.Accepted.{is_rice}
use Rattle.ffv1_slice.specs.declared.head.SliceHead.{SliceHead}
use Rattle.ffv1_slice.specs.declared.fault.SliceFault.{SliceFault}
use Rattle.ffv1_slice.specs.declared.fault.SliceFault.TheVariants as slice
use Rattle.ffv1_slice.specs.Grid.{division_of, across, down, first_of, coded_of, shared_of, Lies}
use Rattle.ffv1_slice.specs.Head.{CodesHead, RefusesHead, RefusesKey, key_steps, head_steps, no_key}
use Rattle.ffv1_frame.specs.declared.fault.CodecFault.{CodecFault}
use Rattle.ffv1_frame.specs.declared.fault.CodecFault.TheVariants as fault
use Rattle.ffv1_frame.specs.declared.fault.FrameFault.{FrameFault}
use Rattle.ffv1_frame.specs.Picture.{plane, plane_count, green_of, blue_of}
use Rattle.ffv1_frame.specs.SliceList.{Said, said_by, base_of, bits_of, class_of, set_in, coding_in}
use Rattle.ffv1_frame.specs.RiceLines.{ByCoder, LineCoder, fresh_coder, line_reading, bits_in}
use Rattle.ffv1_frame.specs.RiceLines.{coder_after, with_row}
use Rattle.ffv1_frame.specs.Order.{Event, IsLastLine, events_of, lines_down}
use Rattle.ffv1_frame.specs.Order.Event.{Open, Read, Finish, Hand, Close}
use Rattle.ffv1_frame.specs.Overread.{IsWithin, IsOverread}
use Rattle.ffv1_frame.specs.Ending.{IsBehind, SliceEnds, SliceGoesOn}
use Rattle.ffv1_frame.specs.Runs.{Runs, Stops}

-- what is known of a slice: what was decided in it, what its head says, and for each plane the
-- samples of its cell that were read, row after row; of Golomb-Rice coded ones also the bits of
-- these rows, and what the next is coded by
pub record Slice : Type 0 where
  pub past : List Step
  pub head : SliceHead
  pub cells : List (List ℕ)
  pub bits : List Bool
  pub coder : LineCoder

-- a slice of which nothing is known but what was decided in it
abbrev pub decided_in : List Step → Slice
decided_in steps = record {
  past = steps;
  head = record { indexes = 0 ∷ 0 ∷ 0 ∷ []; structure = 0; sar_num = 0; sar_den = 0 };
  cells = [];
  bits = [];
  coder = fresh_coder;
}

abbrev pub unread : Slice
unread = decided_in []

-- how far decoding has come
pub record State : Type 0 where
  -- what the first slice says
  pub info : Option Said
  -- the slices of the rows above, and those of this row, from the left
  pub done : List Slice
  pub columns : List Slice
  -- the lines that are handed over next, in bytes
  pub out : List (List ℕ)
  -- what was handed over
  pub lines : List Line

abbrev pub at_first : Configuration → State
at_first c = record {
  info = None;
  done = [];
  columns = replicate c.columns unread;
  out = [];
  lines = [];
}

-- the slice of a column
abbrev pub slice_at : State → ℕ → Slice
slice_at s k = get_or s.columns k unread

abbrev pub put_slice : State → ℕ → Slice → State
put_slice s k q = record s { columns = slice_set s.columns k q }

-- the number of the slice in row r and column k
abbrev pub slice_number : Configuration → ℕ → ℕ → ℕ
slice_number c r k = r * c.columns + k

-- where the cells of column k begin in a plane, how wide they are, and where those of row r begin
abbrev pub left_of : Configuration → ℕ → ℕ → ℕ
left_of c p k = first_of (across (division_of c) p) k

abbrev pub width_in : Configuration → ℕ → ℕ → ℕ
width_in c p k = coded_of (across (division_of c) p) k

abbrev pub top_of : Configuration → ℕ → ℕ → ℕ
top_of c p r = first_of (down (division_of c) p) r

-- row y of a cell of some width, of its samples
abbrev pub row_in : ℕ → ℕ → List ℕ → List ℕ
row_in width y samples = take width (drop (y * width) samples)

-- the samples of row y of a cell in column k that the column before does not code
abbrev pub own_row : Configuration → ℕ → ℕ → ℕ → List ℕ → List ℕ
own_row c p k y samples =
    drop (shared_of (across (division_of c) p) k) (row_in (width_in c p k) y samples)

-- line y of the slices of a row in plane p, as it is coded, each sample once
abbrev pub coded_line : Configuration → State → ℕ → ℕ → List ℕ
coded_line c s y p =
    flat_map (λ k. own_row c p k y (plane (slice_at s k).cells p)) (range_with_len 0 c.columns)

-- what the slice to the left says of the last sample of line y of its cell in plane p
abbrev pub left_sample : Configuration → State → ℕ → ℕ → ℕ → ℕ
left_sample c s k p y =
    slice_index (plane (slice_at s (k - 1)).cells p)
    (y * width_in c p (k - 1) + (width_in c p (k - 1) - 1))

-- what the slice above says of place x of the last line of its cell in plane p
abbrev pub above_sample : Configuration → State → ℕ → ℕ → ℕ → ℕ → ℕ
above_sample c s r k p x =
    slice_index (plane (get_or s.done (slice_number c (r - 1) k) unread).cells p)
    ((lines_down c p (r - 1) - 1) * width_in c p k + x)

-- v is what the slice to the left, or the one above, says of place x of line y of the cell that
-- column k of row r has in plane p, which both code
abbrev pub SaidBefore : Configuration → State → ℕ → ℕ → ℕ → ℕ → ℕ → ℕ → Type 0
SaidBefore c s r k p y x v =
    ((x < shared_of (across (division_of c) p) k) × (v ≡ left_sample c s k p y))
    ⊎ ((y < shared_of (down (division_of c) p) r) × (v ≡ above_sample c s r k p x))

-- the first so many samples of a line are what slices before say of them
abbrev pub Agrees : Configuration → State → ℕ → ℕ → ℕ → ℕ → ℕ → List ℕ → Type 0
Agrees c s r k p y count row =
    (x v : ℕ) → x < count → SaidBefore c s r k p y x v → slice_index row x ≡ v

-- the fault of a key or a head, as a fault of a frame
abbrev pub of_slice : SliceFault → CodecFault
of_slice slice.OutOfMemory = fault.OutOfMemory
of_slice slice.SymbolTooLong = fault.SymbolTooLong
of_slice slice.NotKey = fault.NotKey
of_slice slice.Place = fault.Place
of_slice slice.SetIndex = fault.SetIndex
of_slice slice.Structure = fault.Structure
of_slice slice.Aspect = fault.Aspect
of_slice slice.Footer = fault.Footer
of_slice slice.Leftover = fault.Leftover
of_slice slice.SliceParity = fault.SliceParity
of_slice slice.SliceStatus = fault.SliceStatus
of_slice slice.SliceTooLong = fault.SliceTooLong

-- a fault that has no other place than its slice
abbrev pub in_slice : CodecFault → ℕ → FrameFault
in_slice f n = record { fault = f; slice = n; plane = 0; line = 0; x = 0 }

-- a fault of line y of the cell that column k of row r has in plane p, at this place of the plane's
-- line
abbrev pub fault_in : Configuration → CodecFault → ℕ → ℕ → ℕ → ℕ → ℕ → FrameFault
fault_in c f r k p y x = record {
  fault = f;
  slice = slice_number c r k;
  plane = p;
  line = top_of c p r + y;
  x = x;
}

-- this is what the first slice said, or it is the first
abbrev pub AgreesWith : Option Said → Said → Type 0
AgreesWith None info = Unit {0}
AgreesWith (Some first) info = info ≡ first

-- the samples that are made of some lines that were read: the same, and for RCT the only colours
-- that these are the transform of, with a transparency of so many bits as it is
abbrev pub FinishesBy : Bool → Configuration → List (List ℕ) → List (List ℕ) → Type 0
FinishesBy false c read made = made ≡ read
FinishesBy true c read made =
    (length made ≡ length read)
    × ((i : ℕ) → i < length read → length (get_or made i []) ≡ c.width)
    × AreOnlyColoursIn c.depth c.width (get_or read 0 []) (get_or read 1 []) (get_or read 2 [])
    (get_or made 0 []) (get_or made (green_of c) []) (get_or made (blue_of c) [])
    × (c.extra_plane ≡ true → (get_or made 3 [] ≡ get_or read 3 [])
    × ((x : ℕ) → x < c.width → slice_index (get_or read 3 []) x < 2 ^ c.depth))

-- the lines that are handed over for some that were read: what is made of them, in bytes
pub record Finishes (c : Configuration) (read out : List (List ℕ)) : Type 0 where
  pub made : List (List ℕ)
  pub by : FinishesBy (is_rct c.colour) c read made
  pub bytes : out ≡ map (bytes_of c.depth) made

-- place x of lines that were read has a colour, and a transparency, of so many bits
abbrev pub HasPlace : Configuration → List (List ℕ) → ℕ → Type 0
HasPlace c read x =
    HasColourAtIn c.depth (get_or read 0 []) (get_or read 1 []) (get_or read 2 []) x
    × (c.extra_plane ≡ true → slice_index (get_or read 3 []) x < 2 ^ c.depth)

-- place x is the first that has not
pub record IsColourless (c : Configuration) (read : List (List ℕ)) (x : ℕ) : Type 0 where
  pub rct : is_rct c.colour ≡ true
  pub inside : x < c.width
  pub before : (y : ℕ) → y < x → HasPlace c read y
  pub none : HasPlace c read x → ⊥

-- the cell of the samples of plane p that were read in a slice, and of a row below them
abbrev pub cell_with : Slice → ℕ → ℕ → List ℕ → Cell
cell_with q p width row = cell_of width (plane q.cells p ++ row)

-- the slice after some steps of a line
abbrev pub after_steps : Slice → List Step → Slice
after_steps q steps = record q { past = q.past ++ steps }

-- how line y of its cell in plane p, so many samples wide, is read from bits
abbrev pub reading_in : Configuration → Slice → ℕ → ℕ → ℕ → List Bool → Reading
reading_in c q p width y text =
    line_reading c q.head (cell_of width (plane q.cells p)) q.coder p y text

-- the bits of that line, and what the next is coded by, if samples are Golomb-Rice coded
abbrev pub bits_of_line : Bool → Configuration → Slice → ℕ → ℕ → ℕ → List ℕ → List Bool
bits_of_line false c q p width y row = []
bits_of_line true c q p width y row = bits_in (reading_in c q p width y []) row

abbrev pub coder_of_line : Bool → Configuration → Slice → ℕ → ℕ → ℕ → List ℕ → LineCoder
coder_of_line false c q p width y row = q.coder
coder_of_line true c q p width y row =
    with_row q.coder (class_of p) (coder_after (reading_in c q p width y []) row)

-- the fault of bits that are those of no line, as a fault of a frame
abbrev pub of_rice : Fault → CodecFault
of_rice refused.BitsEnd = fault.BitsEnd
of_rice refused.BadCode = fault.BadCode

-- the fault of a slice that does not end after the last line of its cells
abbrev pub ending_fault : Bool → CodecFault
ending_fault false = fault.Ending
ending_fault true = fault.Padding

-- a is the configuration with its table; coded n are the coded bytes of slice n
module _ (a : Accepted) (coded : ℕ → List ℕ) where
  -- the bits behind what was read of slice n begin with those of a row of samples
  pub record CodesBits (n p width y : ℕ) (q : Slice) (row : List ℕ) : Type 0 where
    pub text : List Bool
    pub rest : List Bool
    pub behind : IsBehind a (coded n) q.past (q.bits ++ text)
    pub codes : rows.CodesRow (reading_in a.configuration q p width y text) row rest

  -- after what was read of slice n its bytes code line y of its cell in plane p, so many samples
  -- wide: by residuals that suit the samples, or by bits
  pub record ReadsLine (n p width y : ℕ) (q : Slice) (qs : List ℤ) (row : List ℕ) : Type 0 where
    pub above : length (plane q.cells p) ≡ y * width
    pub long : ByCoder (is_rice a.configuration.coder) (length qs ≡ width) (qs ≡ [])
    pub row_long : length row ≡ width
    pub codes : ByCoder (is_rice a.configuration.coder)
        (CodesRow (coded n) (coding_in a q.head p) (base_of a.configuration p) q.past
        (cell_with q p width row) y qs)
        (CodesBits n p width y q row)

  -- or a beginning of that line, and then a symbol that is refused
  pub record StopsInLine (n p width y : ℕ) (q : Slice) (qs : List ℤ) (row : List ℕ) : Type 0 where
    pub above : length (plane q.cells p) ≡ y * width
    pub short : length qs < width
    pub row_long : length row ≡ length qs
    pub refuses : RefusesRow (coded n) (coding_in a q.head p) (base_of a.configuration p) q.past
        (cell_with q p width row) y qs

  -- or the bits behind what was read are refused at place x of that line, for this reason
  pub record RefusesLine (n p width y : ℕ) (q : Slice) (row : List ℕ) (x : ℕ) (reason : Fault)
      : Type 0 where
    pub above : length (plane q.cells p) ≡ y * width
    pub inside : x < width
    pub row_long : length row ≡ width
    pub text : List Bool
    pub behind : IsBehind a (coded n) q.past (q.bits ++ text)
    pub samples : AreSamples (bits_of a.configuration) x row
    pub refuses : rows.IsRefused (reading_in a.configuration q p width y text) row x reason

  -- their decisions
  abbrev pub steps_of_line : Slice → ℕ → ℕ → ℕ → List ℤ → List ℕ → List Step
  steps_of_line q p width y qs row =
      shifted (base_of a.configuration p)
      (row_steps (set_in a.configuration q.head p) (cell_with q p width row) y 0 qs)

  -- the slice after a whole line, with its samples
  abbrev pub after_line : Slice → ℕ → ℕ → ℕ → List ℤ → List ℕ → Slice
  after_line q p width y qs row = record {
    past = q.past ++ steps_of_line q p width y qs row;
    head = q.head;
    cells = slice_set q.cells p (plane q.cells p ++ row);
    bits = q.bits
        ++ bits_of_line (is_rice a.configuration.coder) a.configuration q p width y row;
    coder = coder_of_line (is_rice a.configuration.coder) a.configuration q p width y row;
  }

  abbrev pub steps_of_stop : Slice → ℕ → ℕ → ℕ → List ℤ → List ℕ → List Step
  steps_of_stop q p width y qs row =
      shifted (base_of a.configuration p)
      (refused_row_steps (set_in a.configuration q.head p) (cell_with q p width row) y qs)

  -- why slice n is not opened, if info was said before, and the decisions up to there
  abbrev pub RefusesOpen : Option Said → ℕ → CodecFault → List Step → Type 0
  RefusesOpen info n f steps =
      ((f ≡ fault.BadStart) × (Codes (coded n) [] → ⊥) × (steps ≡ []))
      ⊎ ((f ≡ fault.NotKey) × RefusesKey (coded n) a.table n × (steps ≡ no_key))
      ⊎ ((g : SliceFault) × (more : List Step)
      × RefusesHead (coded n) a.table a.profile a.configuration n g more × (f ≡ of_slice g)
      × (steps ≡ key_steps n ++ shifted 1 more))
      ⊎ ((h : SliceHead) × (first : Said)
      × CodesHead (coded n) a.table a.profile a.configuration n h
      × (info ≡ Some first) × (said_by a.profile h ≢ first) × (f ≡ fault.InfoDiffers)
      × (steps ≡ key_steps n ++ head_steps a.configuration n h)
      × IsWithin a (coded n) (key_steps n ++ head_steps a.configuration n h))
      ⊎ ((h : SliceHead) × CodesHead (coded n) a.table a.profile a.configuration n h
      × (f ≡ fault.Overread) × (steps ≡ key_steps n ++ head_steps a.configuration n h)
      × IsOverread a (coded n) (key_steps n ++ head_steps a.configuration n h))

  -- what is known once slice n is opened
  abbrev pub opened : ℕ → SliceHead → Slice
  opened n h = record {
    past = key_steps n ++ head_steps a.configuration n h;
    head = h;
    cells = replicate (plane_count a.configuration) [];
    bits = [];
    coder = fresh_coder;
  }

  -- the event makes its step
  abbrev pub StepsBy : State → Event → State → Type 0
  StepsBy s (Open r k) t =
      let n = slice_number a.configuration r k in
      (h : SliceHead) × CodesHead (coded n) a.table a.profile a.configuration n h
      × AgreesWith s.info (said_by a.profile h)
      × (t ≡ put_slice (record s { info = Some (said_by a.profile h) }) k (opened n h))
      × IsWithin a (coded n) (key_steps n ++ head_steps a.configuration n h)
  StepsBy s (Read r k p y) t =
      let q = slice_at s k in
      let width = width_in a.configuration p k in
      (qs : List ℤ) × (row : List ℕ)
      × ReadsLine (slice_number a.configuration r k) p width y q qs row
      × (t ≡ put_slice s k (after_line q p width y qs row))
      × IsWithin a (coded (slice_number a.configuration r k))
      (q.past ++ steps_of_line q p width y qs row)
      × (IsLastLine a.configuration r p y →
      SliceEnds a (coded (slice_number a.configuration r k))
      (q.past ++ steps_of_line q p width y qs row) (after_line q p width y qs row).bits)
      × Agrees a.configuration s r k p y width row
  StepsBy s (Finish r planes y) t =
      (out : List (List ℕ))
      × Finishes a.configuration (map (coded_line a.configuration s y) planes) out
      × (t ≡ record s { out = out })
  StepsBy s (Hand r i p y) t =
      t ≡ record s {
        lines = s.lines ++ (record {
          plane = p;
          row = top_of a.configuration p r + y;
          samples = get_or s.out i [];
        } ∷ []);
      }
  StepsBy s Close t =
      t ≡ record s {
        done = s.done ++ s.columns;
        columns = replicate a.configuration.columns unread;
      }

  -- line y of a cell is refused within it, at a place of its bits
  abbrev pub BitsStopAt : State → ℕ → ℕ → ℕ → ℕ → FrameFault → State → Type 0
  BitsStopAt s r k p y f t =
      let n = slice_number a.configuration r k in
      let q = slice_at s k in
      let width = width_in a.configuration p k in
      (row : List ℕ) × (x : ℕ) × (reason : Fault) × RefusesLine n p width y q row x reason
      × (f ≡ fault_in a.configuration (of_rice reason) r k p y (left_of a.configuration p k + x))
      × (t ≡ s)

  -- or at a symbol
  abbrev pub StopsAt : State → ℕ → ℕ → ℕ → ℕ → FrameFault → State → Type 0
  StopsAt s r k p y f t =
      let n = slice_number a.configuration r k in
      let q = slice_at s k in
      let width = width_in a.configuration p k in
      (qs : List ℤ) × (row : List ℕ) × StopsInLine n p width y q qs row
      × (f ≡ fault_in a.configuration fault.SymbolTooLong r k p y
      (left_of a.configuration p k + length qs))
      × (t ≡ put_slice s k (after_steps q (steps_of_stop q p width y qs row)))

  -- it is read, and its slice was read too far
  abbrev pub OverreadsAt : State → ℕ → ℕ → ℕ → ℕ → FrameFault → State → Type 0
  OverreadsAt s r k p y f t =
      let n = slice_number a.configuration r k in
      let q = slice_at s k in
      let width = width_in a.configuration p k in
      (qs : List ℤ) × (row : List ℕ) × ReadsLine n p width y q qs row
      × (f ≡ fault_in a.configuration fault.Overread r k p y 0)
      × (t ≡ put_slice s k (after_line q p width y qs row))
      × IsOverread a (coded n) (q.past ++ steps_of_line q p width y qs row)

  -- it is read, as the last of its slice, which does not end there
  abbrev pub LacksEndingAt : State → ℕ → ℕ → ℕ → ℕ → FrameFault → State → Type 0
  LacksEndingAt s r k p y f t =
      let n = slice_number a.configuration r k in
      let q = slice_at s k in
      let width = width_in a.configuration p k in
      (qs : List ℤ) × (row : List ℕ) × ReadsLine n p width y q qs row
      × (f ≡ fault_in a.configuration (ending_fault (is_rice a.configuration.coder)) r k p y 0)
      × (t ≡ put_slice s k (after_line q p width y qs row))
      × IsWithin a (coded n) (q.past ++ steps_of_line q p width y qs row)
      × IsLastLine a.configuration r p y
      × SliceGoesOn a (coded n) (q.past ++ steps_of_line q p width y qs row)
      (after_line q p width y qs row).bits
      × Agrees a.configuration s r k p y width row

  -- it is read, and x is the first of its samples of which a slice before says another value
  abbrev pub DiffersAt : State → ℕ → ℕ → ℕ → ℕ → FrameFault → State → Type 0
  DiffersAt s r k p y f t =
      let n = slice_number a.configuration r k in
      let q = slice_at s k in
      let width = width_in a.configuration p k in
      (qs : List ℤ) × (row : List ℕ) × (x : ℕ) × ReadsLine n p width y q qs row
      × (f ≡ fault_in a.configuration fault.Overlap r k p y (left_of a.configuration p k + x))
      × (t ≡ put_slice s k (after_line q p width y qs row))
      × IsWithin a (coded n) (q.past ++ steps_of_line q p width y qs row)
      × (x < width) × Agrees a.configuration s r k p y x row
      × (v : ℕ) × SaidBefore a.configuration s r k p y x v × (slice_index row x ≢ v)

  -- the event is refused, with this fault and what is known then
  abbrev pub FaultsWith : State → Event → FrameFault → State → Type 0
  FaultsWith s (Open r k) f t =
      let n = slice_number a.configuration r k in
      (steps : List Step) × RefusesOpen s.info n f.fault steps × (f ≡ in_slice f.fault n)
      × (t ≡ put_slice s k (decided_in steps))
  FaultsWith s (Read r k p y) f t =
      ByCoder (is_rice a.configuration.coder) (StopsAt s r k p y f t) (BitsStopAt s r k p y f t)
      ⊎ OverreadsAt s r k p y f t ⊎ LacksEndingAt s r k p y f t
      ⊎ DiffersAt s r k p y f t
  FaultsWith s (Finish r planes y) f t =
      (x : ℕ) × (k : ℕ)
      × IsColourless a.configuration (map (coded_line a.configuration s y) planes) x
      × Lies (across (division_of a.configuration) 0) x k
      × (f ≡ fault_in a.configuration fault.Colour r k 0 y x)
      × (t ≡ s)
  FaultsWith s (Hand r i p y) f t = ⊥
  FaultsWith s Close f t = ⊥

  -- decoding comes to its end
  abbrev pub Decodes : State → Type 0
  Decodes t = Runs StepsBy (at_first a.configuration) (events_of a.configuration) t

  -- decoding is refused at its first fault
  abbrev pub Refuses : FrameFault → State → Type 0
  Refuses f t = Stops StepsBy FaultsWith (at_first a.configuration) (events_of a.configuration) f t

  -- decoding comes to a line that is to be handed over next
  pub record Offers (r i p y : ℕ) (t : State) : Type 0 where
    pub before : List Event
    pub after : List Event
    pub parts : events_of a.configuration ≡ before ++ (Hand r i p y ∷ after)
    pub runs : Runs StepsBy (at_first a.configuration) before t
