-- Few decisions are made in a slice, and in a frame.
use Rattle.std.proofs.Common.{◌≡◌, refl, ℕ, ℤ, zero, suc, ◌+◌, ◌*◌, ◌^◌, ◌<◌, ◌≤◌, Bool, true, false, if◌then◌else◌, nat_lt, nat_eq, unsigned_abs, Option, List, [], ◌∷◌, ◌++◌, length, set, inl, inr, ap, sym, subst, ◌∙◌, arith, length-append, length-set}
use Rattle.std.specs.List.{range_with_len}
use Rattle.std.proofs.Math.Nat.{mul-le-mul_left}
use Rattle.std.proofs.lemmas.Bool.{cases_eq, eq-eqb, ne_eqb, cases_Bool}
use Rattle.ffv1_record.specs.Accepted.{is_rice}
use Rattle.std.proofs.lemmas.List.{length-replicate}
use Rattle.ffv1_range.specs.Symbols.{Step, shifted, too_long}
use Rattle.ffv1_plane.specs.Quantisation.{Set}
use Rattle.ffv1_plane.specs.Context.{size_of}
use Rattle.ffv1_line.specs.Cell.{Cell, around}
use Rattle.ffv1_line.specs.Row.{AreSuiting, row_steps}
use Rattle.ffv1_line.specs.Length.{AreSmall, decisions_of, row_decisions}
use Rattle.ffv1_record.specs.Configuration.{Configuration}
use Rattle.ffv1_record.specs.Accepted.{Accepted}
use Rattle.ffv1_slice.specs.declared.fault.SliceFault.{SliceFault}
use Rattle.ffv1_slice.specs.declared.head.SliceHead.{SliceHead}
use Rattle.ffv1_slice.specs.Head.{IsHead, Stops, head_rules, head_steps, key_steps}
use Rattle.ffv1_slice.specs.Length.{head_most, numbers_most}
use Rattle.ffv1_frame.specs.declared.fault.CodecFault.{CodecFault}
use Rattle.ffv1_frame.specs.Picture.{plane, plane_count}
use Rattle.ffv1_frame.specs.SliceList.{Said, set_in, bits_of, base_of}
use Rattle.ffv1_frame.specs.Order.{lines_down}
use Rattle.ffv1_frame.specs.Decoding.{Slice, ReadsLine, StopsInLine, RefusesOpen, slice_number, width_in, after_line, steps_of_line, steps_of_stop, opened, cell_with}
use Rattle.ffv1_frame.proofs.lemmas.laws.decoding.SliceBodies.{plane_put, plane_beside}
use Rattle.ffv1_frame.proofs.lemmas.laws.decoding.RowsDone.{empty_cells}
use Rattle.ffv1_frame.proofs.lemmas.Totals.{total, total_most, total_more}

-- how many decisions symbols and heads take
pub record StepLaws (a : Accepted) : Type 0 where
  pub long : (base : ℕ) (steps : List Step) → length (shifted base steps) ≡ length steps
  pub refused : length too_long ≡ 32
  pub row : (set : Set) (c : Cell) (y x : ℕ) (qs : List ℤ) → AreSmall qs → length (row_steps set c y x qs) ≡ row_decisions qs
  pub most : (v : ℤ) → unsigned_abs v < 2 ^ 31 → decisions_of v ≤ 63
  pub small : (set : Set) (bits : ℕ) (c : Cell) (y x : ℕ) (qs : List ℤ) → AreSuiting set bits c y x qs → AreSmall qs
  pub head : (n : ℕ) (h : SliceHead) → IsHead a.profile a.configuration h → n < a.configuration.columns * a.configuration.rows → length (head_steps a.configuration n h) ≤ head_most a.configuration
  pub stopped : (n before : ℕ) (f : SliceFault) (steps : List Step) → Stops (head_rules a.profile a.configuration n) before f steps → length steps ≤ numbers_most a.configuration
  pub short : (n before : ℕ) (f : SliceFault) (steps : List Step) → n < a.configuration.columns * a.configuration.rows → Stops (head_rules a.profile a.configuration n) before f steps → length steps ≤ 168

-- at most so many for the key and the head of a slice
abbrev pub opening_most : Configuration → ℕ
opening_most c = 559 + (if c.extra_plane then 62 else 0)

key_few : (n : ℕ) → length (key_steps n) ≤ 1
key_few zero = omega arith
key_few (suc n) = omega arith

one_at_most : (b : Bool) (n : ℕ) → (if b then n else 0) ≤ n
one_at_most true n = omega arith
one_at_most false n = omega arith

head_few : (c : Configuration) → head_most c ≤ 108
head_few c =
    let extra = one_at_most c.extra_plane 6 in
    let across = one_at_most (nat_lt 16 c.columns) 2 in
    let down = one_at_most (nat_lt 16 c.rows) 2 in
    omega (arith, extra, across, down)

module _ (a : Accepted) (coded : ℕ → List ℕ) (laws : StepLaws a) where
  row_few : (qs : List ℤ) → AreSmall qs → row_decisions qs ≤ 63 * length qs
  row_few [] small = omega arith
  row_few (q ∷ qs) small = let here = laws.most q small.0 in let rest = row_few qs small.1 in omega (arith, here, rest)

  steps_few : (base : ℕ) (set : Set) (cell : Cell) (y : ℕ) (qs : List ℤ) → AreSmall qs → length (shifted base (row_steps set cell y 0 qs)) ≤ 63 * length qs
  steps_few base set cell y qs small =
      let long = laws.long base (row_steps set cell y 0 qs) in
      let steps = laws.row set cell y 0 qs small in
      let few = row_few qs small in
      omega (arith, long, steps, few)

  -- a line that is read
  pub line_few : (n p width y : ℕ) (q : Slice) (qs : List ℤ) (row : List ℕ) → ReadsLine a coded n p width y q qs row → length (steps_of_line a coded q p width y qs row) ≤ 63 * width
  line_few n p width y q qs row f =
      let c = a.configuration in
      let set = set_in c q.head p in
      let cell = cell_with q p width row in
      elim (cases_Bool (is_rice c.coder)) [
        | inl is ↦ subst (λ rs. length (steps_of_line a coded q p width y rs row) ≤ 63 * width) (sym (f.long.rice is)) (omega arith)
        | inr is ↦
            let few = steps_few (base_of c p) set cell y qs (laws.small set (bits_of c) cell y 0 qs (f.codes.range is).suits) in
            subst (λ n. length (steps_of_line a coded q p width y qs row) ≤ 63 * n) (f.long.range is) few
      ]

  -- a line that is refused
  pub stop_few : (n p width y : ℕ) (q : Slice) (qs : List ℤ) (row : List ℕ) → StopsInLine a coded n p width y q qs row → length (steps_of_stop a coded q p width y qs row) ≤ 63 * width
  stop_few n p width y q qs row f =
      let c = a.configuration in
      let set = set_in c q.head p in
      let cell = cell_with q p width row in
      let small = laws.small set (bits_of c) cell y 0 qs f.refuses.suits in
      let first = row_steps set cell y 0 qs in
      let last = shifted (size_of set (around cell (length qs) y) * 32) too_long in
      let long = laws.long (base_of c p) (first ++ last) in
      let sum = length-append first last in
      let steps = laws.row set cell y 0 qs small in
      let few = row_few qs small in
      let refused = laws.long (size_of set (around cell (length qs) y) * 32) too_long in
      omega (arith, long, sum, steps, few, refused, laws.refused, f.short)

  -- the key and the head of a slice
  opening_few : (n : ℕ) (h : SliceHead) → n < a.configuration.columns * a.configuration.rows → IsHead a.profile a.configuration h → length (key_steps n ++ head_steps a.configuration n h) ≤ 109
  opening_few n h inside is =
      let few = laws.head n h is inside in
      let most = head_few a.configuration in
      let sum = length-append (key_steps n) (head_steps a.configuration n h) in
      let key = key_few n in
      omega (arith, few, most, sum, key)

  -- a slice that is not opened
  pub reason_few : (info : Option Said) (n : ℕ) (f : CodecFault) (steps : List Step) → n < a.configuration.columns * a.configuration.rows → RefusesOpen a coded info n f steps → length steps ≤ opening_most a.configuration
  reason_few info n f steps inside refuses = elim refuses [
    | inl bad ↦ rw bad.2 (omega arith)
    | inr more ↦ elim more [
      | inl key ↦ rw key.2 (omega arith)
      | inr later ↦ elim later [
        | inl head ↦
            let stops = laws.stopped n 0 head.0 head.1 head.2.stops in
            let sum = length-append (key_steps n) (shifted 1 head.1) in
            let long = laws.long 1 head.1 in
            let key = key_few n in
            rw head.4 (omega (arith, stops, sum, long, key))
        | inr last ↦ elim last [
          | inl differs ↦ let few = opening_few n differs.0 inside differs.2.head in rw differs.6 (omega (arith, few))
          | inr over ↦ let few = opening_few n over.0 inside over.1.head in rw over.3 (omega (arith, few))
        ]
      ]
    ]
  ]

  -- whatever it is, few decisions were made
  pub reason_short : (info : Option Said) (n : ℕ) (f : CodecFault) (steps : List Step) → n < a.configuration.columns * a.configuration.rows → RefusesOpen a coded info n f steps → length steps ≤ 169
  reason_short info n f steps inside refuses = elim refuses [
    | inl bad ↦ rw bad.2 (omega arith)
    | inr more ↦ elim more [
      | inl key ↦ rw key.2 (omega arith)
      | inr later ↦ elim later [
        | inl head ↦
            let stops = laws.short n 0 head.0 head.1 inside head.2.stops in
            let sum = length-append (key_steps n) (shifted 1 head.1) in
            let long = laws.long 1 head.1 in
            let key = key_few n in
            rw head.4 (omega (arith, stops, sum, long, key))
        | inr last ↦ elim last [
          | inl differs ↦ let few = opening_few n differs.0 inside differs.2.head in rw differs.6 (omega (arith, few))
          | inr over ↦ let few = opening_few n over.0 inside over.1.head in rw over.3 (omega (arith, few))
        ]
      ]
    ]
  ]

  module _ (r k : ℕ) where
    -- the samples of a slice's cells, and those that were read
    abbrev pub capacity : ℕ
    capacity = total (λ p. width_in a.configuration p k * lines_down a.configuration p r) (range_with_len 0 (plane_count a.configuration))

    abbrev pub read_in : Slice → ℕ
    read_in q = total (λ p. length (plane q.cells p)) (range_with_len 0 (plane_count a.configuration))

    -- a slice that was opened
    pub record HasFew (q : Slice) : Type 0 where
      pub many : length q.cells ≡ plane_count a.configuration
      pub within : (p : ℕ) → p < plane_count a.configuration → length (plane q.cells p) ≤ width_in a.configuration p k * lines_down a.configuration p r
      pub few : length q.past ≤ opening_most a.configuration + 63 * read_in q

    pub few_in_all : (q : Slice) → HasFew q → length q.past ≤ opening_most a.configuration + 63 * capacity
    few_in_all q has =
        let fits = total_most (λ p. length (plane q.cells p)) (λ p. width_in a.configuration p k * lines_down a.configuration p r) 0 (plane_count a.configuration)
        (λ p least less. has.within p (omega (arith, less))) in
        let few = has.few in
        omega (arith, fits, few)

    pub few_opened : (h : SliceHead) → slice_number a.configuration r k < a.configuration.columns * a.configuration.rows → IsHead a.profile a.configuration h → HasFew (opened a coded (slice_number a.configuration r k) h)
    few_opened h inside is =
        let c = a.configuration in
        let n = slice_number c r k in
        let few = laws.head n h is inside in
        let most = head_few c in
        let sum = length-append (key_steps n) (head_steps c n h) in
        let key = key_few n in
        record {
          many = length-replicate {A = List ℕ} (plane_count c) [];
          within = λ p less. rw (empty_cells a coded r (plane_count c) p) (omega arith);
          few = omega (arith, few, most, sum, key);
        }

    -- one row fits below those that were read
    row_fits : (p y : ℕ) (q : Slice) → y < lines_down a.configuration p r → length (plane q.cells p) ≡ y * width_in a.configuration p k →
        length (plane q.cells p) + width_in a.configuration p k ≤ width_in a.configuration p k * lines_down a.configuration p r
    row_fits p y q below long =
        let more = mul-le-mul_left {m = suc y} {n = lines_down a.configuration p r} (width_in a.configuration p k) below in
        omega (arith, more, long)

    pub few_read : (p y : ℕ) (q : Slice) (qs : List ℤ) (row : List ℕ) → p < plane_count a.configuration → y < lines_down a.configuration p r → HasFew q →
        ReadsLine a coded (slice_number a.configuration r k) p (width_in a.configuration p k) y q qs row →
        HasFew (after_line a coded q p (width_in a.configuration p k) y qs row)
    few_read p y q qs row few below has f =
        let c = a.configuration in
        let width = width_in c p k in
        let steps = steps_of_line a coded q p width y qs row in
        let cells = set q.cells p (plane q.cells p ++ row) in
        let place : p < length q.cells = rw has.many few in
        let now : plane cells p ≡ plane q.cells p ++ row = plane_put q.cells p (plane q.cells p ++ row) place in
        let longer : length (plane cells p) ≡ length (plane q.cells p) + width =
        ap (λ (xs : List ℕ). length xs) now ∙ length-append (plane q.cells p) row ∙ ap (λ n. length (plane q.cells p) + n) f.row_long in
        let sum : total (λ j. length (plane cells j)) (range_with_len 0 (plane_count c)) ≡ read_in q + width =
        total_more (λ j. length (plane q.cells j)) (λ j. length (plane cells j)) p width 0 (plane_count c) (omega arith) (omega (arith, few))
        (λ j other. ap (λ (xs : List ℕ). length xs) (plane_beside q.cells p j (plane q.cells p ++ row) other)) longer in
        let most = line_few (slice_number c r k) p width y q qs row f in
        let past = length-append q.past steps in
        let before = has.few in
        record {
          many = length-set q.cells p (plane q.cells p ++ row) ∙ has.many;
          within = λ j less. elim (cases_eq j p) [
            | inl same ↦
                let fits = row_fits p y q below f.above in
                subst (λ i. length (plane cells i) ≤ width_in c i k * lines_down c i r) (sym same) (omega (arith, fits, longer))
            | inr other ↦ rw (plane_beside q.cells p j (plane q.cells p ++ row) other) (has.within j less)
          ];
          few = omega (arith, most, past, before, sum);
        }

    pub few_stopped : (p y : ℕ) (q : Slice) (qs : List ℤ) (row : List ℕ) → p < plane_count a.configuration → y < lines_down a.configuration p r → HasFew q →
        StopsInLine a coded (slice_number a.configuration r k) p (width_in a.configuration p k) y q qs row →
        length (q.past ++ steps_of_stop a coded q p (width_in a.configuration p k) y qs row) ≤ opening_most a.configuration + 63 * capacity
    few_stopped p y q qs row few below has f =
        let c = a.configuration in
        let width = width_in c p k in
        let steps = steps_of_stop a coded q p width y qs row in
        let most = stop_few (slice_number c r k) p width y q qs row f in
        let past = length-append q.past steps in
        let before = has.few in
        let fits = row_fits p y q below f.above in
        let raised : ℕ → ℕ = λ j. length (plane q.cells j) + (if nat_eq j p then width else 0) in
        let sum : total raised (range_with_len 0 (plane_count c)) ≡ read_in q + width =
        total_more (λ j. length (plane q.cells j)) raised p width 0 (plane_count c) (omega arith) (omega (arith, few))
        (λ j other. ap (λ b. length (plane q.cells j) + (if b then width else 0)) (ne_eqb j p other) ∙ omega arith)
        (ap (λ b. length (plane q.cells p) + (if b then width else 0)) (eq-eqb p p refl)) in
        let room = total_most raised (λ p. width_in c p k * lines_down c p r) 0 (plane_count c) (λ j least less. elim (cases_eq j p) [
          | inl same ↦
              let here : raised j ≡ length (plane q.cells p) + width =
              ap (λ b. length (plane q.cells j) + (if b then width else 0)) (eq-eqb j p same) ∙ ap (λ i. length (plane q.cells i) + width) same in
              let there : width_in c j k * lines_down c j r ≡ width * lines_down c p r = ap (λ i. width_in c i k * lines_down c i r) same in
              omega (arith, here, there, fits)
          | inr other ↦
              let here : raised j ≡ length (plane q.cells j) + 0 = ap (λ b. length (plane q.cells j) + (if b then width else 0)) (ne_eqb j p other) in
              let within = has.within j (omega (arith, less)) in
              omega (arith, here, within)
        ]) in
        omega (arith, most, past, before, sum, room)
