-- What a reading of a row answers.
use Rattle.std.proofs.Common.{◌≡◌, refl, sym, ◌∙◌, ap, subst, ℕ, ◌-◌, ◌^◌, ◌<◌, ◌≤◌, ◌⊎◌}
use Rattle.std.proofs.Common.{Bool, true, false, List, ◌∷◌, ◌++◌, length, drop}
use Rattle.std.proofs.Common.{inl, inr, arith, append_assoc, pos, true≢false}
use Rattle.std.proofs.Common.{length-append}
use Rattle.std.proofs.lemmas.List.{append_cancel_left, ext_get_or}
use Rattle.std.proofs.lemmas.Nat.{pow_pos}
use Rattle.ffv1_plane.specs.Context.{size_of}
use Rattle.ffv1_rice.specs.declared.fault.Fault.{Fault}
use Rattle.ffv1_rice.specs.declared.fault.Fault.TheVariants.{BitsEnd, BadCode}
use Rattle.ffv1_rice.specs.Bits.{binary}
use Rattle.ffv1_rice.specs.Number.{Ends}
use Rattle.ffv1_rice.specs.Run.{run_log, EndsInRun, LeavesRow}
use Rattle.ffv1_rice.specs.States.{parameter}
use Rattle.ffv1_rice.specs.Row.{Coder, places_of, places_bits, places_after}
use Rattle.ffv1_rice.specs.Row.{end_bits, IsRunning}
use Rattle.ffv1_rice.specs.Rows.{AgreeBelow, AreSamples, CodesRow, IsNone, IsRefused, Reading}
use Rattle.ffv1_rice.specs.Rows.{RowEnds, RowIsBad, RowRead, StopsAt}
use Rattle.ffv1_rice.specs.declared.state.State.{State}
use Rattle.ffv1_rice.proofs.Binary.{length-binary}
use Rattle.ffv1_rice.proofs.Codes.{one_reason}
use Rattle.ffv1_rice.proofs.Differences.{difference_ends_not}
use Rattle.ffv1_rice.proofs.RowOutcomes.{Stops, IsStop, same_places, same_run, not_none}
use Rattle.ffv1_rice.proofs.RunsOn.{binary_same}
use Rattle.ffv1_rice.proofs.RowSamples.{context_at, length-places_of, samples_agree, places_folded}
use Rattle.ffv1_rice.proofs.RowSamples.{rows_beside}
use Rattle.ffv1_rice.proofs.Rows.{beside_same, places_same}
use Rattle.ffv1_rice.proofs.Scalars.{some_bits}

-- a reading that stops at a place of a row, or after its last one
pub record Read (r : Reading) (row : List ℕ) (x : ℕ) (text : List Bool) : Type 0 where
  pub within : x ≤ length row
  pub samples : AreSamples r.depth x row
  pub bits : r.text ≡ places_bits r.depth r.start (places_of r.set r.depth r.two r.one row x) ++
      text
  pub stops : Stops r.depth (places_after r.depth r.start (places_of r.set r.depth r.two r.one row
      x)) (context_at r.set r.two r.one row x) (length row - x) text

-- two of them stop at one place, with the same samples before it and the same bits after
pub record AreOne (r : Reading) (row other : List ℕ) (x y : ℕ) (t u : List Bool) : Type 0 where
  pub place : x ≡ y
  pub samples : AgreeBelow x row other
  pub bits : t ≡ u

pub readings_one : (r : Reading) (row other : List ℕ) (x y : ℕ) (t u : List Bool) → (r.depth ≡ 8) ⊎
    (r.depth ≡ 9) → IsRunning r.start.index r.start.run → length row ≡ length other →
    Read r row x t → Read r other y u → AreOne r row other x y t u
readings_one r row other x y t u depths small long one two =
    let P = places_of r.set r.depth r.two r.one row x in
    let Q = places_of r.set r.depth r.two r.one other y in
    let some = some_bits r.depth depths in
    let lp = length-places_of r.set r.depth r.two r.one row x in
    let lq = length-places_of r.set r.depth r.two r.one other y in
    let within = one.within in
    let within' = two.within in
    let same : P ≡ Q = same_places r.depth r.start P Q (context_at r.set r.two r.one row x)
    (context_at r.set r.two r.one other y) (length row - x) (length other - y) t u some small
    (rows_beside r.set r.depth r.two r.one row other x y depths one.samples two.samples)
    (places_folded r.set r.depth r.two r.one row x some)
    (places_folded r.set r.depth r.two r.one other y some)
    (omega (arith, lp, lq, within, within', long)) one.stops two.stops (sym one.bits ∙ two.bits) in
    let place : x ≡ y = sym lp ∙ ap length same ∙ lq in
    record {
      place = place;
      samples = samples_agree r.set r.depth r.two r.one row other x depths one.samples
          (subst (λ n. AreSamples r.depth n other) (sym place) two.samples)
          (same ∙ ap (places_of r.set r.depth r.two r.one other) (sym place));
      bits = append_cancel_left (places_bits r.depth r.start P) t u (sym one.bits ∙ two.bits
          ∙ ap (λ ps. places_bits r.depth r.start ps ++ u) (sym same));
    }

-- a row that is coded
pub coded_read : (r : Reading) (row : List ℕ) (rest : List Bool) → CodesRow r row rest → Read r row
    (length row) (end_bits (places_after r.depth r.start (places_of r.set r.depth r.two r.one row
    (length row))).run ++ rest)
coded_read r row rest codes = record {
  within = omega arith;
  samples = codes.samples;
  bits = codes.bits ∙ append_assoc (places_bits r.depth r.start (places_of r.set r.depth r.two r.one
      row (length row))) (end_bits (places_after r.depth r.start (places_of r.set r.depth r.two
      r.one row (length row))).run) rest;
  stops = inl (omega arith, (rest, refl));
}

pub coded_one : (r : Reading) (row other : List ℕ) (rest others : List Bool) → (r.depth ≡ 8) ⊎
    (r.depth ≡ 9) → IsRunning r.start.index r.start.run → length row ≡ length other →
    CodesRow r row rest → CodesRow r other others → (row ≡ other) × (rest ≡ others)
coded_one r row other rest others depths small long codes codes' =
    let last = end_bits (places_after r.depth r.start (places_of r.set r.depth r.two r.one row
    (length row))).run in
    let last' = end_bits (places_after r.depth r.start (places_of r.set r.depth r.two r.one other
    (length other))).run in
    let one = readings_one r row other (length row) (length other) (last ++ rest) (last' ++ others)
    depths small long (coded_read r row rest codes) (coded_read r other others codes') in
    let same : row ≡ other = ext_get_or 0 row other long (λ k less. one.samples.each k less) in (
      same,
      append_cancel_left last rest others (one.bits ∙ ap (λ row. end_bits (places_after r.depth
          r.start (places_of r.set r.depth r.two r.one row (length row))).run ++ others) (sym
          same)),
    )

-- a row that is refused

stops_more : (c : Coder) (context : ℕ) (text : List Bool) (I J : List Bool → Type 0)
    (A B : Bool → List Bool → Type 0) → ((u : List Bool) → I u → J u) →
    ((b : Bool) (u : List Bool) → A b u → B b u) → StopsAt c context text I A → StopsAt c context
    text J B
stops_more c context text I J A B first second (inl scalar) = inl (
  scalar.0,
  second false text scalar.1,
)
stops_more c context text I J A B first second (inr (inl run)) = inr (inl (
  run.0,
  first text run.1,
))
stops_more c context text I J A B first second (inr (inr behind)) = inr (inr (
  behind.0,
  behind.1,
  behind.2,
  behind.3,
  second true behind.1 behind.4,
))

-- where it is refused at the end of the bits, or as a bad code
pub refused_ends : (r : Reading) (row : List ℕ) (x : ℕ) → x < length row → AreSamples r.depth x
    row → (e : RowEnds r row x) → Read r row x e.rest
refused_ends r row x inside small e = record {
  within = omega (arith, inside);
  samples = small;
  bits = e.so_far.text;
  stops = inr (
    omega (arith, inside),
    subst (λ c. IsStop r.depth c (context_at r.set r.two r.one row x) (length row - x) e.rest)
        (sym e.so_far.coder)
        (stops_more e.coder (context_at r.set r.two r.one row x) e.rest
        (EndsInRun e.coder.index)
        (λ u. EndsInRun e.coder.index u ⊎ LeavesRow e.coder.index (length row - x) u)
        (λ b u. Ends r.depth (parameter (e.coder.states (context_at r.set r.two r.one row x))) u)
        (λ b u. Ends r.depth (parameter (e.coder.states (context_at r.set r.two r.one row x))) u ⊎
        IsNone r.depth (e.coder.states (context_at r.set r.two r.one row x)) b u)
        (λ u is. inl is) (λ b u is. inl is) e.ends),
  );
}

pub refused_bad : (r : Reading) (row : List ℕ) (x : ℕ) → x < length row → AreSamples r.depth x
    row → (e : RowIsBad r row x) → Read r row x e.rest
refused_bad r row x inside small e = record {
  within = omega (arith, inside);
  samples = small;
  bits = e.so_far.text;
  stops = inr (
    omega (arith, inside),
    subst (λ c. IsStop r.depth c (context_at r.set r.two r.one row x) (length row - x) e.rest)
        (sym e.so_far.coder)
        (stops_more e.coder (context_at r.set r.two r.one row x) e.rest
        (LeavesRow e.coder.index (length row - x))
        (λ u. EndsInRun e.coder.index u ⊎ LeavesRow e.coder.index (length row - x) u)
        (IsNone r.depth (e.coder.states (context_at r.set r.two r.one row x)))
        (λ b u. Ends r.depth (parameter (e.coder.states (context_at r.set r.two r.one row x))) u ⊎
        IsNone r.depth (e.coder.states (context_at r.set r.two r.one row x)) b u)
        (λ u is. inr is) (λ b u is. inr is) e.bad),
  );
}

-- in either case
pub record Refused (r : Reading) (row : List ℕ) (x : ℕ) : Type 0 where
  pub text : List Bool
  pub read : Read r row x text

pub refused_read : (r : Reading) (row : List ℕ) (x : ℕ) (fault : Fault) → x < length row →
    AreSamples r.depth x row → IsRefused r row x fault → Refused r row x
refused_read r row x BitsEnd inside small is = let e = is.ends refl in record {
  text = e.rest;
  read = refused_ends r row x inside small e;
}
refused_read r row x BadCode inside small is = let e = is.bad refl in record {
  text = e.rest;
  read = refused_bad r row x inside small e;
}

pub coded_not_refused : (r : Reading) (row other : List ℕ) (x : ℕ) (fault : Fault)
    (rest : List Bool) → (r.depth ≡ 8) ⊎ (r.depth ≡ 9) → IsRunning r.start.index r.start.run →
    length row ≡ length other → x < length row → AreSamples r.depth x row →
    IsRefused r row x fault → CodesRow r other rest → ⊥
coded_not_refused r row other x fault rest depths small long inside samples refused codes =
    let stop = refused_read r row x fault inside samples refused in
    let one = readings_one r row other x (length other) stop.text
    (end_bits (places_after r.depth r.start (places_of r.set r.depth r.two r.one other
    (length other))).run ++ rest) depths small long stop.read (coded_read r other rest codes) in
    let same = one.place in
    absurd (omega (arith, same, inside, long))

-- ---- for one reason

-- too few bits for those that say how many differences there are
short_not : (zeros index : ℕ) (text rest : List Bool) → EndsInRun index text → text ≡ false ∷
    (binary (run_log index) zeros ++ rest) → ⊥
short_not zeros index text rest (inl none) is =
    let long = ap length (sym is ∙ none) in absurd (omega (arith, long))
short_not zeros index text rest (inr short) is =
    let log = run_log index in
    let long = ap length (ap (drop 1) (sym short.1 ∙ is)) ∙ length-append (binary log zeros) rest in
    let field = length-binary log zeros in
    let less = short.2 in
    absurd (omega (arith, long, field, less))

behind_not : (depth : ℕ) (c : Coder) (context : ℕ) (text : List Bool) → 0 < depth → Ends depth
    (parameter (c.states context)) text → IsNone depth (c.states context) true text → ⊥
behind_not depth c context text some ends (inl bad) =
    one_reason depth (parameter (c.states context)) text ends bad
behind_not depth c context text some ends (inr great) =
    difference_ends_not depth (c.states context) (pos (2 ^ (depth - 1) - 1)) text great.1.0 some
    great.1.1 ends

reasons : (depth left : ℕ) (c : Coder) (context : ℕ) (text : List Bool) → 0 < depth → 0 < left →
    StopsAt c context text (EndsInRun c.index)
    (λ is_behind u. Ends depth (parameter (c.states context)) u) →
    StopsAt c context text (LeavesRow c.index left) (IsNone depth (c.states context)) → ⊥
reasons depth left c context text some more (inl one) (inl (none, inl bad)) =
    one_reason depth (parameter (c.states context)) text one.1 bad
reasons depth left c context text some more (inl one) (inl (none, inr great)) =
    true≢false (sym great.0)
reasons depth left c context text some more (inl one) (inr (inl two)) =
    not_none 0 (sym two.0 ∙ one.0)
reasons depth left c context text some more (inl one) (inr (inr two)) =
    not_none two.0 (sym two.2 ∙ one.0)
reasons depth left c context text some more (inr (inl one)) (inl two) =
    not_none 0 (sym one.0 ∙ two.0)
reasons depth left c context text some more (inr (inr one)) (inl two) =
    not_none one.0 (sym one.2 ∙ two.0)
reasons depth left c context text some more (inr (inl one)) (inr (inl two)) =
    short_not two.1.zeros c.index text two.1.rest one.1 two.1.is
reasons depth left c context text some more (inr (inl one)) (inr (inr two)) =
    short_not two.0 c.index text two.1 one.1 two.3
reasons depth left c context text some more (inr (inr one)) (inr (inl two)) =
    let zero : one.0 ≡ 0 = same_run one.0 0 (sym one.2 ∙ two.0) in
    let few : one.0 < 2 ^ run_log c.index = rw zero (pow_pos (run_log c.index)) in
    let same = (binary_same (run_log c.index) one.0 two.1.zeros one.1 two.1.rest few two.1.few
    (ap (drop 1) (sym one.3 ∙ two.1.is))).0 in
    let beyond = two.1.beyond in
    absurd (omega (arith, same, zero, beyond, more))
reasons depth left c context text some more (inr (inr one)) (inr (inr two)) =
    let same : one.0 ≡ two.0 = same_run one.0 two.0 (sym one.2 ∙ two.2) in
    let rest : one.1 ≡ two.1 = append_cancel_left (binary (run_log c.index) two.0) one.1 two.1
    (ap (λ n. binary (run_log c.index) n ++ one.1) (sym same) ∙ ap (drop 1) (sym one.3 ∙ two.3)) in
    behind_not depth c context two.1 some
    (subst (λ t. Ends depth (parameter (c.states context)) t) rest one.4) two.4

-- one row ends, and the other is bad
not_both : (r : Reading) (row other : List ℕ) (x y : ℕ) → (r.depth ≡ 8) ⊎ (r.depth ≡ 9) → IsRunning
    r.start.index r.start.run → length row ≡ length other → x < length row → y < length other →
    AreSamples r.depth x row → AreSamples r.depth y other → RowEnds r row x → RowIsBad r other y → ⊥
not_both r row other x y depths small long inside inside' samples samples' e f =
    let one = readings_one r row other x y e.rest f.rest depths small long
    (refused_ends r row x inside samples e) (refused_bad r other y inside' samples' f) in
    let context = λ (row : List ℕ) (n : ℕ). context_at r.set r.two r.one row n in
    let c = e.coder in
    let places : places_of r.set r.depth r.two r.one row x ≡ places_of r.set r.depth r.two r.one
    other y = places_same r.set r.depth x r.two r.one row other x one.samples (omega arith) ∙
    ap (places_of r.set r.depth r.two r.one other) one.place in
    let coder : c ≡ f.coder = sym e.so_far.coder ∙ ap (places_after r.depth r.start) places ∙
    f.so_far.coder in
    let at : context row x ≡ context other y = ap (size_of r.set) (beside_same x r.two r.one row
    other x one.samples (omega arith)) ∙ ap (context other) one.place in
    let room : length row - x ≡ length other - y = let place = one.place in omega (
      arith,
      place,
      long,
    ) in
    let bad : StopsAt c (context row x) e.rest (LeavesRow c.index (length row - x))
    (IsNone r.depth (c.states (context row x))) =
    subst (λ d. StopsAt d (context row x) e.rest (LeavesRow d.index (length row - x))
    (IsNone r.depth (d.states (context row x)))) (sym coder)
    (subst (λ k. StopsAt f.coder k e.rest (LeavesRow f.coder.index (length row - x))
    (IsNone r.depth (f.coder.states k))) (sym at)
    (subst (λ n. StopsAt f.coder (context other y) e.rest (LeavesRow f.coder.index n)
    (IsNone r.depth (f.coder.states (context other y)))) (sym room)
    (subst (λ u. StopsAt f.coder (context other y) u (LeavesRow f.coder.index (length other - y))
    (IsNone r.depth (f.coder.states (context other y)))) (sym one.bits) f.bad))) in
    reasons r.depth (length row - x) c (context row x) e.rest (some_bits r.depth depths)
    (omega (arith, inside)) e.ends bad

pub refused_once : (r : Reading) (row other : List ℕ) (x y : ℕ) (fault reason : Fault) →
    (r.depth ≡ 8) ⊎ (r.depth ≡ 9) → IsRunning r.start.index r.start.run → length row ≡ length
    other → x < length row → y < length other →
    AreSamples r.depth x row → AreSamples r.depth y other → IsRefused r row x fault → IsRefused r
    other y reason → (x ≡ y) × (fault ≡ reason)
refused_once r row other x y BitsEnd BitsEnd depths small long inside inside' samples samples' one
    two = (
      (readings_one r row other x y _ _ depths small long
          (refused_ends r row x inside samples (one.ends refl))
          (refused_ends r other y inside' samples' (two.ends refl))).place,
      refl,
    )
refused_once r row other x y BadCode BadCode depths small long inside inside' samples samples' one
    two = (
      (readings_one r row other x y _ _ depths small long
          (refused_bad r row x inside samples (one.bad refl))
          (refused_bad r other y inside' samples' (two.bad refl))).place,
      refl,
    )
refused_once r row other x y BitsEnd BadCode depths small long inside inside' samples samples' one
    two =
    absurd (not_both r row other x y depths small long inside inside' samples samples'
    (one.ends refl) (two.bad refl))
refused_once r row other x y BadCode BitsEnd depths small long inside inside' samples samples' one
    two =
    absurd (not_both r other row y x depths small (sym long) inside' inside samples' samples
    (two.ends refl) (one.bad refl))

-- ---- what a reader answers

-- a row that is read to its end is the one that is coded
pub coded_done : (r : Reading) (row other : List ℕ) (x index : ℕ) (states : ℕ → State)
    (rest others : List Bool) → (r.depth ≡ 8) ⊎ (r.depth ≡ 9) → IsRunning r.start.index r.start.run
    → length other ≡ length row → x ≡ length row → AreSamples r.depth x row →
    RowRead r row states index rest → CodesRow r other others → (row ≡ other) × (rest ≡ others)
coded_done r row other x index states rest others depths small long end samples read codes =
    coded_one r row other rest others depths small (sym long) (record {
      samples = subst (λ n. AreSamples r.depth n row) end samples;
      bits = read.bits;
    }) codes
