-- At each state an event makes one step at most, or is refused in one way.
use Rattle.std.proofs.Common.{◌≡◌, ℕ, ℤ, ◌+◌, ◌<◌, ◌++◌, arith, slice_index, true, false, Some, List, map, length, inl, inr, ap, sym, subst, ◌∙◌}
use Rattle.std.proofs.lemmas.Bool.{cases_lt, cases_Bool}
use Rattle.std.proofs.lemmas.List.{length-map}
use Rattle.ffv1_range.specs.Symbols.{Step}
use Rattle.ffv1_record.specs.Configuration.{Configuration, is_rct}
use Rattle.ffv1_record.specs.Accepted.{Accepted}
use Rattle.ffv1_slice.specs.declared.head.SliceHead.{SliceHead}
use Rattle.ffv1_slice.specs.Grid.{Lies, across, division_of}
use Rattle.ffv1_frame.specs.declared.fault.CodecFault.{CodecFault}
use Rattle.ffv1_frame.specs.declared.fault.CodecFault.TheVariants as fault
use Rattle.ffv1_frame.specs.declared.fault.FrameFault.{FrameFault}
use Rattle.ffv1_frame.specs.SliceList.{said_by}
use Rattle.ffv1_frame.specs.Order.{Event}
use Rattle.ffv1_frame.specs.Order.Event.{Open, Read, Finish, Hand, Close}
use Rattle.ffv1_frame.specs.Decoding.{State, Slice, ReadsLine, StepsBy, FaultsWith, StopsAt, BitsStopAt, fault_in, of_rice, OverreadsAt, LacksEndingAt, DiffersAt, slice_at, slice_number, width_in, left_of, top_of, put_slice, opened, after_line, after_steps, decided_in, steps_of_line, steps_of_stop, coded_line, in_slice}
use Rattle.ffv1_frame.proofs.lemmas.laws.decoding.Machines.{OneEach}
use Rattle.ffv1_frame.proofs.lemmas.laws.decoding.OneLine.{RowLaws, one_line, line_or_stop, line_or_refused, one_stop}
use Rattle.ffv1_frame.proofs.lemmas.laws.rice.BitLines.{BitLaws, one_refused}
use Rattle.ffv1_record.specs.Accepted.{is_rice}
use Rattle.ffv1_frame.specs.RiceLines.{ByCoder}
use Rattle.ffv1_rice.specs.declared.fault.Fault.{Fault}
use Rattle.ffv1_frame.proofs.lemmas.laws.decoding.OneColour.{AreFew, one_finish, finish_or_colourless, one_colourless}
use Rattle.ffv1_frame.proofs.lemmas.laws.decoding.OneOpening.{HeadLaws, head_or_refusal, one_reason}
use Rattle.ffv1_frame.specs.Overread.{IsWithin}
use Rattle.ffv1_frame.specs.Ending.{SliceEnds}
use Rattle.ffv1_frame.proofs.lemmas.laws.decoding.TooFar.{not_overread}
use Rattle.ffv1_frame.proofs.lemmas.laws.decoding.SliceEnds.{ends_or_goes_on}

-- an event of pictures of a configuration
abbrev pub IsEvent : Configuration → Event → Type 0
IsEvent c (Open r k) = (r < c.rows) × (k < c.columns)
IsEvent c (Read r k p y) = k < c.columns
IsEvent c (Finish r planes y) = is_rct c.colour ≡ true → AreFew c (length planes)
IsEvent c (Hand r i p y) = Unit {0}
IsEvent c Close = Unit {0}

-- what is known of the coded bytes
pub record BytesLaws (a : Accepted) (coded : ℕ → List ℕ) : Type 0 where
  pub rows : (n : ℕ) → RowLaws (coded n) a.table
  pub bits : (n : ℕ) → BitLaws a (coded n)
  pub heads : (r k : ℕ) → r < a.configuration.rows → k < a.configuration.columns → HeadLaws a (coded (slice_number a.configuration r k)) (slice_number a.configuration r k)
  pub wide : (p k : ℕ) → k < a.configuration.columns → 0 < width_in a.configuration p k
  pub one_column : (x k j : ℕ) → x < a.configuration.width → Lies (across (division_of a.configuration) 0) x k → Lies (across (division_of a.configuration) 0) x j → k ≡ j

module _ (a : Accepted) (coded : ℕ → List ℕ) (laws : BytesLaws a coded) where
  step_same : (s x z : State) (e : Event) → IsEvent a.configuration e → StepsBy a coded s e x → StepsBy a coded s e z → x ≡ z
  step_same s x z (Open r k) kind f g =
      let n = slice_number a.configuration r k in
      let after : SliceHead → State = λ h. put_slice (record s { info = Some (said_by a.profile h) }) k (opened a coded n h) in
      f.3 ∙ ap after ((laws.heads r k kind.0 kind.1).head f.0 g.0 f.1 g.1) ∙ sym g.3
  step_same s x z (Read r k p y) kind f g =
      let q = slice_at s k in
      let width = width_in a.configuration p k in
      let same = one_line a coded (slice_number a.configuration r k) (laws.rows (slice_number a.configuration r k)) (laws.bits (slice_number a.configuration r k)) p width y (laws.wide p k kind) q f.0 g.0 f.1 g.1 f.2 g.2 in
      let after : List ℤ → List ℕ → State = λ qs row. put_slice s k (after_line a coded q p width y qs row) in
      f.3 ∙ ap (λ qs. after qs f.1) same.0 ∙ ap (after g.0) same.1 ∙ sym g.3
  step_same s x z (Finish r planes y) kind f g =
      let read = map (coded_line a.configuration s y) planes in
      let few : is_rct a.configuration.colour ≡ true → AreFew a.configuration (length read) =
      λ rct. subst (AreFew a.configuration) (sym (length-map planes (coded_line a.configuration s y))) (kind rct) in
      f.2 ∙ ap (λ out. record s { out = out }) (one_finish a.configuration read few f.0 g.0 f.1 g.1) ∙ sym g.2
  step_same s x z (Hand r i p y) kind f g = f ∙ sym g
  step_same s x z Close kind f g = f ∙ sym g

  -- a line is refused at a symbol, or at a place of its bits
  abbrev Stop : State → ℕ → ℕ → ℕ → ℕ → FrameFault → State → Type 0
  Stop s r k p y f t = ByCoder (is_rice a.configuration.coder) (StopsAt a coded s r k p y f t) (BitsStopAt a coded s r k p y f t)

  line_or_stopped : (s : State) (r k p y : ℕ) (f : FrameFault) (z : State) → k < a.configuration.columns → (qs : List ℤ) (row : List ℕ) →
      ReadsLine a coded (slice_number a.configuration r k) p (width_in a.configuration p k) y (slice_at s k) qs row → Stop s r k p y f z → ⊥
  line_or_stopped s r k p y f z kind qs row reads stop =
      let n = slice_number a.configuration r k in
      let width = width_in a.configuration p k in
      elim (cases_Bool (is_rice a.configuration.coder)) [
        | inl is ↦
            let h = stop.rice is in
            line_or_refused a coded n (laws.rows n) (laws.bits n) p width y (laws.wide p k kind) (slice_at s k) is qs row h.0 h.1 h.2 reads h.3
        | inr is ↦
            let h = stop.range is in
            line_or_stop a coded n (laws.rows n) (laws.bits n) p width y (laws.wide p k kind) (slice_at s k) is qs h.0 row h.1 reads h.2
      ]

  apart : (s x z : State) (e : Event) (f : FrameFault) → IsEvent a.configuration e → StepsBy a coded s e x → FaultsWith a coded s e f z → ⊥
  apart s x z (Open r k) f kind g h =
      head_or_refusal a (coded (slice_number a.configuration r k)) (slice_number a.configuration r k) (laws.heads r k kind.0 kind.1) s.info g.0 f.fault h.0 g.1 g.2 g.4 h.1
  apart s x z (Read r k p y) f kind g h = elim h [
    | inl stop ↦ line_or_stopped s r k p y f z kind g.0 g.1 g.2 stop
    | inr looked ↦ elim looked [
      | inl over ↦
          let n = slice_number a.configuration r k in
          let q = slice_at s k in
          let width = width_in a.configuration p k in
          let same = one_line a coded n (laws.rows n) (laws.bits n) p width y (laws.wide p k kind) q g.0 over.0 g.1 over.1 g.2 over.2 in
          let within : IsWithin a (coded n) (q.past ++ steps_of_line a coded q p width y over.0 over.1) =
          subst (λ row. IsWithin a (coded n) (q.past ++ steps_of_line a coded q p width y over.0 row)) same.1
          (subst (λ qs. IsWithin a (coded n) (q.past ++ steps_of_line a coded q p width y qs g.1)) same.0 g.4) in
          not_overread a (coded n) (q.past ++ steps_of_line a coded q p width y over.0 over.1) within over.5
      | inr later ↦ elim later [
        | inl late ↦
            let n = slice_number a.configuration r k in
            let q = slice_at s k in
            let width = width_in a.configuration p k in
            let same = one_line a coded n (laws.rows n) (laws.bits n) p width y (laws.wide p k kind) q g.0 late.0 g.1 late.1 g.2 late.2 in
            let after : List ℤ → List ℕ → Slice = λ qs row. after_line a coded q p width y qs row in
            let ending : SliceEnds a (coded n) (after late.0 late.1).past (after late.0 late.1).bits =
            subst (λ row. SliceEnds a (coded n) (after late.0 row).past (after late.0 row).bits) same.1
            (subst (λ qs. SliceEnds a (coded n) (after qs g.1).past (after qs g.1).bits) same.0 (g.5 late.6)) in
            ends_or_goes_on a (coded n) (laws.bits n) (after late.0 late.1).past (after late.0 late.1).bits ending late.7
        | inr differs ↦
            let n = slice_number a.configuration r k in
            let width = width_in a.configuration p k in
            let same = one_line a coded n (laws.rows n) (laws.bits n) p width y (laws.wide p k kind) (slice_at s k) g.0 differs.0 g.1 differs.1 g.2 differs.3 in
            differs.11 (ap (λ row. slice_index row differs.2) (sym same.1) ∙ g.6 differs.2 differs.9 differs.7 differs.10)
      ]
    ]
  ]
  apart s x z (Finish r planes y) f kind g h =
      finish_or_colourless a.configuration (map (coded_line a.configuration s y) planes) h.0 g.0 g.1 h.2
  apart s x z (Hand r i p y) f kind g h = h
  apart s x z Close f kind g h = h

  -- a line that is refused within it is so in one place; one that is read too far, or as the last of
  -- a slice that does not end there, is read in one way
  coded_stop_same : (s x z : State) (r k p y : ℕ) (f g : FrameFault) → k < a.configuration.columns → StopsAt a coded s r k p y f x → StopsAt a coded s r k p y g z → (f ≡ g) × (x ≡ z)
  coded_stop_same s x z r k p y f g kind h j =
      let n = slice_number a.configuration r k in
      let q = slice_at s k in
      let width = width_in a.configuration p k in
      let same = one_stop a coded n (laws.rows n) (laws.bits n) p width y (laws.wide p k kind) q h.0 j.0 h.1 j.1 h.2 j.2 in
      let place : List ℤ → FrameFault = λ qs. record {
        fault = fault.SymbolTooLong;
        slice = n;
        plane = p;
        line = top_of a.configuration p r + y;
        x = left_of a.configuration p k + length qs;
      } in
      let after : List ℤ → List ℕ → State = λ qs row. put_slice s k (after_steps q (steps_of_stop a coded q p width y qs row)) in
      (h.3 ∙ ap place same.0 ∙ sym j.3, h.4 ∙ ap (λ qs. after qs h.1) same.0 ∙ ap (after j.0) same.1 ∙ sym j.4)

  bits_stop_same : is_rice a.configuration.coder ≡ true → (s x z : State) (r k p y : ℕ) (f g : FrameFault) → BitsStopAt a coded s r k p y f x → BitsStopAt a coded s r k p y g z → (f ≡ g) × (x ≡ z)
  bits_stop_same is s x z r k p y f g h j =
      let n = slice_number a.configuration r k in
      let same = one_refused a coded n (laws.bits n) is p (width_in a.configuration p k) y (slice_at s k) h.0 j.0 h.1 j.1 h.2 j.2 h.3 j.3 in
      let place : Fault → ℕ → FrameFault = λ reason i. fault_in a.configuration (of_rice reason) r k p y (left_of a.configuration p k + i) in
      (h.4 ∙ ap (λ i. place h.2 i) same.0 ∙ ap (λ reason. place reason j.1) same.1 ∙ sym j.4, h.5 ∙ sym j.5)

  stop_same : (s x z : State) (r k p y : ℕ) (f g : FrameFault) → k < a.configuration.columns → Stop s r k p y f x → Stop s r k p y g z → (f ≡ g) × (x ≡ z)
  stop_same s x z r k p y f g kind h j = elim (cases_Bool (is_rice a.configuration.coder)) [
    | inl is ↦ bits_stop_same is s x z r k p y f g (h.rice is) (j.rice is)
    | inr is ↦ coded_stop_same s x z r k p y f g kind (h.range is) (j.range is)
  ]

  over_same : (s x z : State) (r k p y : ℕ) (f g : FrameFault) → k < a.configuration.columns → OverreadsAt a coded s r k p y f x → OverreadsAt a coded s r k p y g z → (f ≡ g) × (x ≡ z)
  over_same s x z r k p y f g kind h j =
      let n = slice_number a.configuration r k in
      let q = slice_at s k in
      let width = width_in a.configuration p k in
      let same = one_line a coded n (laws.rows n) (laws.bits n) p width y (laws.wide p k kind) q h.0 j.0 h.1 j.1 h.2 j.2 in
      let after : List ℤ → List ℕ → State = λ qs row. put_slice s k (after_line a coded q p width y qs row) in
      (h.3 ∙ sym j.3, h.4 ∙ ap (λ qs. after qs h.1) same.0 ∙ ap (after j.0) same.1 ∙ sym j.4)

  stop_or_over : (s x z : State) (r k p y : ℕ) (f g : FrameFault) → k < a.configuration.columns → Stop s r k p y f x → OverreadsAt a coded s r k p y g z → ⊥
  stop_or_over s x z r k p y f g kind h j = line_or_stopped s r k p y f x kind j.0 j.1 j.2 h

  late_same : (s x z : State) (r k p y : ℕ) (f g : FrameFault) → k < a.configuration.columns → LacksEndingAt a coded s r k p y f x → LacksEndingAt a coded s r k p y g z → (f ≡ g) × (x ≡ z)
  late_same s x z r k p y f g kind h j =
      let n = slice_number a.configuration r k in
      let q = slice_at s k in
      let width = width_in a.configuration p k in
      let same = one_line a coded n (laws.rows n) (laws.bits n) p width y (laws.wide p k kind) q h.0 j.0 h.1 j.1 h.2 j.2 in
      let after : List ℤ → List ℕ → State = λ qs row. put_slice s k (after_line a coded q p width y qs row) in
      (h.3 ∙ sym j.3, h.4 ∙ ap (λ qs. after qs h.1) same.0 ∙ ap (after j.0) same.1 ∙ sym j.4)

  stop_or_late : (s x z : State) (r k p y : ℕ) (f g : FrameFault) → k < a.configuration.columns → Stop s r k p y f x → LacksEndingAt a coded s r k p y g z → ⊥
  stop_or_late s x z r k p y f g kind h j = line_or_stopped s r k p y f x kind j.0 j.1 j.2 h

  over_or_late : (s x z : State) (r k p y : ℕ) (f g : FrameFault) → k < a.configuration.columns → OverreadsAt a coded s r k p y f x → LacksEndingAt a coded s r k p y g z → ⊥
  over_or_late s x z r k p y f g kind h j =
      let n = slice_number a.configuration r k in
      let q = slice_at s k in
      let width = width_in a.configuration p k in
      let same = one_line a coded n (laws.rows n) (laws.bits n) p width y (laws.wide p k kind) q j.0 h.0 j.1 h.1 j.2 h.2 in
      let within : IsWithin a (coded n) (q.past ++ steps_of_line a coded q p width y h.0 h.1) =
      subst (λ row. IsWithin a (coded n) (q.past ++ steps_of_line a coded q p width y h.0 row)) same.1
      (subst (λ qs. IsWithin a (coded n) (q.past ++ steps_of_line a coded q p width y qs j.1)) same.0 j.5) in
      not_overread a (coded n) (q.past ++ steps_of_line a coded q p width y h.0 h.1) within h.5

  -- the place of the first sample that differs is one
  differs_same : (s x z : State) (r k p y : ℕ) (f g : FrameFault) → k < a.configuration.columns → DiffersAt a coded s r k p y f x → DiffersAt a coded s r k p y g z → (f ≡ g) × (x ≡ z)
  differs_same s x z r k p y f g kind h j =
      let n = slice_number a.configuration r k in
      let q = slice_at s k in
      let width = width_in a.configuration p k in
      let same = one_line a coded n (laws.rows n) (laws.bits n) p width y (laws.wide p k kind) q h.0 j.0 h.1 j.1 h.3 j.3 in
      let here : h.2 ≡ j.2 = elim (cases_lt h.2 j.2) [
        | inl sooner ↦ absurd (h.11 (ap (λ row. slice_index row h.2) same.1 ∙ j.8 h.2 h.9 sooner h.10))
        | inr other ↦ elim (cases_lt j.2 h.2) [
          | inl later ↦ absurd (j.11 (ap (λ row. slice_index row j.2) (sym same.1) ∙ h.8 j.2 j.9 later j.10))
          | inr rest ↦ omega (arith, other, rest)
        ]
      ] in
      let place : ℕ → FrameFault = λ i. record {
        fault = fault.Overlap;
        slice = n;
        plane = p;
        line = top_of a.configuration p r + y;
        x = left_of a.configuration p k + i;
      } in
      let after : List ℤ → List ℕ → State = λ qs row. put_slice s k (after_line a coded q p width y qs row) in
      (h.4 ∙ ap place here ∙ sym j.4, h.5 ∙ ap (λ qs. after qs h.1) same.0 ∙ ap (after j.0) same.1 ∙ sym j.5)

  stop_or_differs : (s x z : State) (r k p y : ℕ) (f g : FrameFault) → k < a.configuration.columns → Stop s r k p y f x → DiffersAt a coded s r k p y g z → ⊥
  stop_or_differs s x z r k p y f g kind h j = line_or_stopped s r k p y f x kind j.0 j.1 j.3 h

  over_or_differs : (s x z : State) (r k p y : ℕ) (f g : FrameFault) → k < a.configuration.columns → OverreadsAt a coded s r k p y f x → DiffersAt a coded s r k p y g z → ⊥
  over_or_differs s x z r k p y f g kind h j =
      let n = slice_number a.configuration r k in
      let q = slice_at s k in
      let width = width_in a.configuration p k in
      let same = one_line a coded n (laws.rows n) (laws.bits n) p width y (laws.wide p k kind) q j.0 h.0 j.1 h.1 j.3 h.2 in
      let within : IsWithin a (coded n) (q.past ++ steps_of_line a coded q p width y h.0 h.1) =
      subst (λ row. IsWithin a (coded n) (q.past ++ steps_of_line a coded q p width y h.0 row)) same.1
      (subst (λ qs. IsWithin a (coded n) (q.past ++ steps_of_line a coded q p width y qs j.1)) same.0 j.6) in
      not_overread a (coded n) (q.past ++ steps_of_line a coded q p width y h.0 h.1) within h.5

  late_or_differs : (s x z : State) (r k p y : ℕ) (f g : FrameFault) → k < a.configuration.columns → LacksEndingAt a coded s r k p y f x → DiffersAt a coded s r k p y g z → ⊥
  late_or_differs s x z r k p y f g kind h j =
      let n = slice_number a.configuration r k in
      let width = width_in a.configuration p k in
      let same = one_line a coded n (laws.rows n) (laws.bits n) p width y (laws.wide p k kind) (slice_at s k) h.0 j.0 h.1 j.1 h.2 j.3 in
      j.11 (ap (λ row. slice_index row j.2) (sym same.1) ∙ h.8 j.2 j.9 j.7 j.10)

  fault_same : (s x z : State) (e : Event) (f g : FrameFault) → IsEvent a.configuration e → FaultsWith a coded s e f x → FaultsWith a coded s e g z → (f ≡ g) × (x ≡ z)
  fault_same s x z (Open r k) f g kind h j =
      let n = slice_number a.configuration r k in
      let same = one_reason a (coded n) n (laws.heads r k kind.0 kind.1) s.info f.fault g.fault h.0 j.0 h.1 j.1 in
      let place : CodecFault → FrameFault = λ cause. in_slice cause n in
      let after : List Step → State = λ steps. put_slice s k (decided_in steps) in
      (h.2 ∙ ap place same.0 ∙ sym j.2, h.3 ∙ ap after same.1 ∙ sym j.3)
  fault_same s x z (Read r k p y) f g kind h j = elim h [
    | inl stop ↦ elim j [
      | inl other ↦ stop_same s x z r k p y f g kind stop other
      | inr looked ↦ elim looked [
        | inl over ↦ absurd (stop_or_over s x z r k p y f g kind stop over)
        | inr later ↦ elim later [
          | inl late ↦ absurd (stop_or_late s x z r k p y f g kind stop late)
          | inr differs ↦ absurd (stop_or_differs s x z r k p y f g kind stop differs)
        ]
      ]
    ]
    | inr looked ↦ elim looked [
      | inl over ↦ elim j [
        | inl stop ↦ absurd (stop_or_over s z x r k p y g f kind stop over)
        | inr more ↦ elim more [
          | inl other ↦ over_same s x z r k p y f g kind over other
          | inr later ↦ elim later [
            | inl late ↦ absurd (over_or_late s x z r k p y f g kind over late)
            | inr differs ↦ absurd (over_or_differs s x z r k p y f g kind over differs)
          ]
        ]
      ]
      | inr last ↦ elim last [
        | inl late ↦ elim j [
          | inl stop ↦ absurd (stop_or_late s z x r k p y g f kind stop late)
          | inr more ↦ elim more [
            | inl over ↦ absurd (over_or_late s z x r k p y g f kind over late)
            | inr later ↦ elim later [
              | inl other ↦ late_same s x z r k p y f g kind late other
              | inr differs ↦ absurd (late_or_differs s x z r k p y f g kind late differs)
            ]
          ]
        ]
        | inr differs ↦ elim j [
          | inl stop ↦ absurd (stop_or_differs s z x r k p y g f kind stop differs)
          | inr more ↦ elim more [
            | inl over ↦ absurd (over_or_differs s z x r k p y g f kind over differs)
            | inr later ↦ elim later [
              | inl late ↦ absurd (late_or_differs s z x r k p y g f kind late differs)
              | inr other ↦ differs_same s x z r k p y f g kind differs other
            ]
          ]
        ]
      ]
    ]
  ]
  fault_same s x z (Finish r planes y) f g kind h j =
      let read = map (coded_line a.configuration s y) planes in
      let same_x = one_colourless a.configuration read h.0 j.0 h.2 j.2 in
      let same_k = laws.one_column j.0 h.1 j.1 j.2.inside (subst (λ x. Lies (across (division_of a.configuration) 0) x h.1) same_x h.3) j.3 in
      let place : ℕ → ℕ → FrameFault = λ x k. record {
        fault = fault.Colour;
        slice = slice_number a.configuration r k;
        plane = 0;
        line = top_of a.configuration 0 r + y;
        x = x;
      } in
      (h.4 ∙ ap (λ x. place x h.1) same_x ∙ ap (place j.0) same_k ∙ sym j.4, h.5 ∙ sym j.5)
  fault_same s x z (Hand r i p y) f g kind h j = absurd h
  fault_same s x z Close f g kind h j = absurd h

  pub one_each : OneEach (StepsBy a coded) (FaultsWith a coded) (IsEvent a.configuration)
  one_each = record { step_same = step_same; apart = apart; fault_same = fault_same }
