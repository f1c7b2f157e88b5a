-- Elements of a Segment, which turns follow.
use Rattle.std.proofs.Common.{◌≡◌, ◌⊎◌, ◌==◌, ◌&&◌, ℕ, ◌+◌, ◌-◌, ◌<◌, ◌≤◌, ◌++◌, nat_lt, Bool, true, false, List, length, slice_index, take, drop, Option, Some, None, Result, Ok, Err, inl, inr, refl, ap, arith, length-append, length-take, length-drop}
use Rattle.std.proofs.lemmas.Bool.{eqb-true, le-ltb, lt-ltb, ltb-false, ltb-true, ne_eqb}
use Rattle.std.proofs.lemmas.List.{drop-drop}
use Rattle.std.proofs.lemmas.Bool.Decides.{nat_tests}
use Rattle.ffv1_reads.proofs.Results.{read_on_twice}
use Rattle.ffv1_reads.specs.Reads.{Met, Reading, Short, Stop, given, passed, read_on, taken, ◌>>=◌}
use Rattle.ffv1_reads.specs.declared.fault.FileFault.TheVariants as fault
use Rattle.ffv1_sum.specs.Sum.{number_of as low_number, turned}
use Rattle.ffv1_ebml.specs.Elements.{content_judged, content_passed, element_in, element_judged, element_named, element_read, element_rest, is_crc, none_outside, stated_judged, sum_judged}
use Rattle.ffv1_ebml.specs.Sums.{is_met, passed_summed, summed}
use Rattle.ffv1_ebml.specs.Tried.{outcome}
use Rattle.ffv1_ebml.specs.Vints.{length_of, number_of, size_of, vint_read}
use Rattle.ffv1_ebml.specs.declared.element.Element.{Element}
use Rattle.ffv1_ebml.specs.declared.sum.Sum.{Sum}
use Rattle.ffv1_ebml.specs.declared.sum.Sum.TheVariants.{Absent, Awaits}
use Rattle.ffv1_ebml.specs.declared.tried.Header.TheVariants.{Whole as Headed}
use Rattle.ffv1_ebml.proofs.VintLaws.{vint_sound}
use Rattle.ffv1_matroska.specs.Internal.{bytes_of}
use Rattle.ffv1_matroska.specs.Places.{amount, cluster_entered, is_sound, segment_at, step_to}
use Rattle.ffv1_matroska.specs.Segments.{block_group, cluster, is_filler, is_of_cluster, is_section, other_read, segment_child}
use Rattle.ffv1_matroska.specs.Turns.{named_sized, named_turn, outer_turn, plain_section, section_end, section_headed, section_turn, segment_named, segment_turn, sized_turn, summed_section}
use Rattle.ffv1_matroska.specs.declared.course.Pending.TheVariants as pending
use Rattle.ffv1_matroska.specs.declared.course.Turn.TheVariants.{On}
use Rattle.ffv1_matroska.specs.declared.place.Place.{Place}
use Rattle.ffv1_matroska.specs.declared.place.Step.{Step}
use Rattle.ffv1_matroska.specs.declared.track.TrackNumbers.{TrackNumbers}
use Rattle.ffv1_matroska.proofs.Mirrored.{Mirrors, TellsFault, children, header_like, passes}
use Rattle.ffv1_matroska.proofs.Followed.{InCluster, enters}

-- ---- an integer in a parent that may have fewer bytes left than it has

-- it passes the parent; or the bytes end in it
abbrev pub Longer : ℕ → Result (List ℕ × List ℕ) Stop → Type 0
Longer left z = ((bytes rest : List ℕ) × (z ≡ Ok (bytes, rest)) × (left < length bytes)) ⊎ ((w : _) × (z ≡ Err (Short w)))

abbrev pub Wider : ℕ → ℕ → List ℕ → Type 0
Wider most left text =
    (vint_read most left text ≡ vint_read most most text)
    ⊎ ((rest : List ℕ) × (vint_read most left text ≡ Err (Met fault.Truncated rest)) × Longer left (vint_read most most text))

pub wider : (most left : ℕ) (text : List ℕ) → 0 < most → 0 < left → Wider most left text
unfolding vint_read
wider most left text some_most some_left = on_first (nat_lt (length text) 1) refl
  where
    none : (left == 0) ≡ false
    none = ne_eqb _ _ (λ e. omega (arith, e, some_left))

    none_most : (most == 0) ≡ false
    none_most = ne_eqb _ _ (λ e. omega (arith, e, some_most))

    size : ℕ
    size = length_of (slice_index (take 1 text) 0)

    rest : List ℕ
    rest = drop 1 text

    long : nat_lt (length text) 1 ≡ false → nat_lt (length rest) (size - 1) ≡ false → left < size → left < length (take 1 text ++ take (size - 1) rest)
    long first others passes =
        let one : 1 ≤ length text = ltb-false _ _ first in
        let more : size - 1 ≤ length rest = ltb-false _ _ others in
        omega (arith, one, more, passes, length-append (take 1 text) (take (size - 1) rest), length-take 1 text, length-take (size - 1) rest)

    on_others : nat_lt (length text) 1 ≡ false → nat_lt most size ≡ false → left < size → (b : Bool) → nat_lt (length rest) (size - 1) ≡ b → Longer left ((taken (size - 1) >>= λ more. given (take 1 text ++ more)) rest)
    on_others first fits passes true short = rw short (inr (_, refl))
    on_others first fits passes false short = rw short (inl (_, _, refl, long first short passes))

    on_left : nat_lt (length text) 1 ≡ false → nat_lt most size ≡ false → (b : Bool) → nat_lt left size ≡ b → Wider most left text
    on_left first fits true passes = rw (none, none_most, first, fits, passes) (inr (rest, refl, on_others first fits (ltb-true _ _ passes) (nat_lt (length rest) (size - 1)) refl))
    on_left first fits false passes = rw (none, none_most, first, fits, passes) (inl refl)

    on_most : nat_lt (length text) 1 ≡ false → (b : Bool) → nat_lt most size ≡ b → Wider most left text
    on_most first true passes = rw (none, none_most, first, passes) (inl refl)
    on_most first false passes = on_left first passes (nat_lt left size) refl

    on_first : (b : Bool) → nat_lt (length text) 1 ≡ b → Wider most left text
    on_first true short = rw (none, none_most, short) (inl refl)
    on_first false short = on_most short (nat_lt most size) refl

-- ---- content whose CRC-32 is judged

sections : (n : ℕ) (now : Place) (text : List ℕ) → is_sound now ≡ true → Mirrors ((content_passed n >>= λ done. given (Some (step_to now))) text) (section_turn n now text)
unfolding content_passed section_turn summed_section plain_section
sections n now text sound = on_none (n == 0) refl
  where
    after : Unit {0} → Reading (Option Step)
    after done = given (Some (step_to now))

    step : Element × Sum → Reading (Option Step)
    step p = content_judged p.0 p.0.size >>= after

    on_met : (sum : Sum) (rest : List ℕ) (b : Bool) → is_met sum ≡ b → Mirrors (read_on (sum_judged sum rest) after) (Ok (section_end now sum, rest))
    on_met sum rest true met = rw met (sound, refl)
    on_met sum rest false met = rw met (inl (_, _, _, refl))

    on_left : (stated rest : List ℕ) (left : ℕ) (b : Bool) → nat_lt (length rest) left ≡ b → Mirrors (read_on (stated_judged left stated rest) after) ((passed_summed left (Awaits (low_number stated) turned) >>= λ sum. given (section_end now sum)) rest)
    on_left stated rest left true short = rw short refl
    on_left stated rest left false short = rw short (on_met (summed (Awaits (low_number stated) turned) (take left rest)) (drop left rest) (is_met (summed (Awaits (low_number stated) turned) (take left rest))) refl)

    on_stated : (rest : List ℕ) (left : ℕ) (b : Bool) → nat_lt (length rest) 4 ≡ b → Mirrors (read_on ((taken 4 >>= stated_judged left) rest) after) (summed_section left now rest)
    on_stated rest left true short = rw short refl
    on_stated rest left false short = rw short (on_left (take 4 rest) (drop 4 rest) left (nat_lt (length (drop 4 rest)) left) refl)

    on_passed : (rest : List ℕ) (size left : ℕ) (a b : Bool) → nat_lt (length rest) size ≡ a → nat_lt (length (drop size rest)) left ≡ b → Mirrors (read_on (passed (size + left) rest) after) (plain_section size left now rest)
    on_passed rest size left true b first second =
        let short : nat_lt (length rest) (size + left) ≡ true = lt-ltb _ _ (let less = ltb-true _ _ first in omega (arith, less)) in
        rw (short, first) refl
    on_passed rest size left false true first second =
        let short : nat_lt (length rest) (size + left) ≡ true = lt-ltb _ _ (let less = ltb-true _ _ second in omega (arith, less, length-drop size rest)) in
        rw (short, first, second) refl
    on_passed rest size left false false first second =
        let there : nat_lt (length rest) (size + left) ≡ false = le-ltb _ _ (let some = ltb-false _ _ first in let more = ltb-false _ _ second in omega (arith, some, more, length-drop size rest)) in
        rw (there, first, second) (sound, ap (λ r. Ok (On pending.Nothing now, r)) (drop-drop left size rest))

    on_crc : (ident size left : ℕ) (sum : Sum) (rest : List ℕ) (b : Bool) → is_crc ident size ≡ b → Mirrors (step (record { ident = ident; size = Some size; left = left }, sum) rest) (section_headed now (Headed ident size left sum) rest)
    on_crc ident size left sum rest true crc = rw crc (on_stated rest left (nat_lt (length rest) 4) refl)
    on_crc ident size left sum rest false crc = rw crc (on_passed rest size left (nat_lt (length rest) size) (nat_lt (length (drop size rest)) left) refl refl)

    on_none : (b : Bool) → (n == 0) ≡ b → Mirrors ((content_passed n >>= after) text) (section_turn n now text)
    on_none true none = rw none (sound, refl)
    on_none false none =
        rw (none, read_on_twice (element_read n Absent text) (λ p. content_judged p.0 p.0.size) after)
        (header_like Mirrors (λ f rest more next p. inl (next, p, more, refl)) (λ w. refl) step (section_headed now) (λ f left bytes. (_, _, refl)) (λ ident left bytes. (_, _, refl)) (λ ident left sum bytes. refl) n
        (λ ident size left sum bytes less. on_crc ident size left sum bytes (is_crc ident size) refl) none_outside Absent text)

-- ---- an element of the Segment

entered_sound : (now : Place) (n : ℕ) (b : Bool) → nat_lt 0 n ≡ b → is_sound (cluster_entered now n) ≡ true
entered_sound now n true some = rw some refl
entered_sound now n false some = rw some refl

module _ (track : TrackNumbers) (place : Place) where
  outers : (ident : ℕ) (now : Place) (size : Option ℕ) (rest : List ℕ) → now.group ≡ 0 → bytes_of size + amount now < amount place → InCluster track place (segment_child track ident now size rest) (outer_turn track ident now size rest)
  unfolding segment_child outer_turn other_read
  outers ident now None rest group less = on_cluster (ident == cluster) refl
    where
      on_cluster : (b : Bool) → (ident == cluster) ≡ b → InCluster track place (segment_child track ident now None rest) (outer_turn track ident now None rest)
      on_cluster true is = rw is (inl (refl, refl))
      on_cluster false is = rw is (inl (inl (_, _, _, refl)))
  outers ident now (Some n) rest group less = on_cluster (ident == cluster) refl (now.loose && is_of_cluster ident) refl (ident == block_group) refl (is_section ident) refl (is_filler ident) refl
    where
      Whole : Type 0
      Whole = InCluster track place (segment_child track ident now (Some n) rest) (outer_turn track ident now (Some n) rest)

      on_cluster : (a : Bool) → (ident == cluster) ≡ a → (b : Bool) → (now.loose && is_of_cluster ident) ≡ b → (c : Bool) → (ident == block_group) ≡ c → (d : Bool) → is_section ident ≡ d → (e : Bool) → is_filler ident ≡ e → Whole
      on_cluster true is b loose c group_is d section e filler = rw is (inl (entered_sound now n (nat_lt 0 n) refl, refl))
      on_cluster false is true loose true group_is d section e filler = rw (is, loose) (inr (enters track place ident n now rest (eqb-true _ _ group_is) (omega (arith, less, group))))
      on_cluster false is true loose false group_is d section e filler = rw (is, loose) (inl (children track ident n now rest group_is))
      on_cluster false is false loose c group_is true section e filler = rw (is, loose, section) (inl (sections n (segment_at now false now.segment) rest refl))
      on_cluster false is false loose c group_is false section true filler = rw (is, loose, section, filler) (inl (passes n now rest))
      on_cluster false is false loose c group_is false section false filler = rw (is, loose, section, filler) (inl (inl (_, _, _, refl)))

  abbrev child_of : Element × Sum → Reading (Option Step)
  child_of p = segment_child track p.0.ident (segment_at place place.loose p.0.left) p.0.size

  abbrev with_none : Element → Reading (Element × Sum)
  with_none e = given (e, Absent)

  -- if the Segment has no more bytes than its ID, that is told
  passing : (ident count : ℕ) (rest : List ℕ) → place.segment ≤ count → TellsFault fault.Truncated (named_turn track ident count place rest)
  unfolding named_turn
  passing ident count rest most = on_size (vint_read 8 8 rest) refl
    where
      over : nat_lt count place.segment ≡ false
      over = le-ltb _ _ most

      on_size : (z : Result (List ℕ × List ℕ) Stop) → vint_read 8 8 rest ≡ z → TellsFault fault.Truncated (read_on (outcome z) (named_sized track ident count place))
      on_size (Ok (size, more)) is =
          let read = vint_sound 8 8 rest (size, more) is in
          let passes_it : nat_lt place.segment (count + length size) ≡ true = lt-ltb _ _ (omega (arith, most, read.is.0)) in
          rw passes_it (inl (_, _, _, refl))
      on_size (Err (Met f more)) is = rw over (inl (_, _, _, refl))
      on_size (Err (Short w)) is = inr (inr (refl, w, refl))

  -- after its header
  judged : (ident count width : ℕ) (size : Option ℕ) (rest : List ℕ) → place.cluster ≡ 0 → place.group ≡ 0 → 0 < count → count + width ≤ place.segment →
      InCluster track place (read_on (read_on (element_judged (place.segment - count - width) ident size rest) with_none) child_of) (sized_turn track ident (count + width) place size rest)
  judged ident count width None rest none empty some fits =
      let within : nat_lt place.segment (count + width) ≡ false = le-ltb _ _ fits in
      let zero_fits : nat_lt (place.segment - (count + width)) 0 ≡ false = le-ltb _ _ (omega arith) in
      let left : place.segment - (count + width) - 0 ≡ place.segment - count - width = omega arith in
      rw (within, zero_fits, left) (outers ident (segment_at place place.loose (place.segment - count - width)) None rest refl (omega (arith, none, empty, some, fits)))
  judged ident count width (Some n) rest none empty some fits = on_fits (nat_lt (place.segment - count - width) n) refl
    where
      left : place.segment - (count + width) ≡ place.segment - count - width
      left = omega arith

      within : nat_lt place.segment (count + width) ≡ false
      within = le-ltb _ _ fits

      on_fits : (b : Bool) → nat_lt (place.segment - count - width) n ≡ b →
          InCluster track place (read_on (read_on (element_judged (place.segment - count - width) ident (Some n) rest) with_none) child_of) (sized_turn track ident (count + width) place (Some n) rest)
      on_fits true long = rw (within, left, long) (inl (inl (_, _, _, refl)))
      on_fits false long =
          let most : n ≤ place.segment - count - width = ltb-false _ _ long in
          rw (within, left, long) (outers ident (segment_at place place.loose (place.segment - count - width - n)) (Some n) rest refl (omega (arith, none, empty, some, fits, most)))

  -- after its ID
  named : (ident : List ℕ) (rest : List ℕ) → place.cluster ≡ 0 → place.group ≡ 0 → 0 < length ident → length ident ≤ place.segment →
      InCluster track place (read_on (element_rest place.segment Absent ident rest) child_of) (named_turn track (number_of ident) (length ident) place rest)
  unfolding named_turn vint_read
  named ident rest none empty some fits = on_left (place.segment - length ident == 0) refl
    where
      count : ℕ
      count = length ident

      sized : List ℕ → Reading (Element × Sum)
      sized size = element_judged (place.segment - count - length size) (number_of ident) (size_of size) >>= with_none

      Whole : Type 0
      Whole = InCluster track place (read_on (element_rest place.segment Absent ident rest) child_of) (named_turn track (number_of ident) count place rest)

      on_size : 0 < place.segment - count → (z : Result (List ℕ × List ℕ) Stop) → vint_read 8 (place.segment - count) rest ≡ z → InCluster track place (read_on (read_on z sized) child_of) (read_on (outcome z) (named_sized track (number_of ident) count place))
      on_size more (Ok (size, after)) is =
          let read = vint_sound 8 (place.segment - count) rest (size, after) is in
          judged (number_of ident) count (length size) (size_of size) after none empty some (omega (arith, read.fits, more, fits))
      on_size more (Err (Met f after)) is = let less : nat_lt count place.segment ≡ true = lt-ltb _ _ (omega (arith, more)) in rw less (inl (inl (_, _, _, refl)))
      on_size more (Err (Short w)) is = inl refl

      longer : (after : List ℕ) (z : Result (List ℕ × List ℕ) Stop) → Longer (place.segment - count) z → TellsFault fault.Truncated (read_on (outcome z) (named_sized track (number_of ident) count place))
      longer after z (inl (size, left, is, long)) =
          let passes_it : nat_lt place.segment (count + length size) ≡ true = lt-ltb _ _ (omega (arith, long)) in
          rw (is, passes_it) (inl (_, _, _, refl))
      longer after z (inr (w, is)) = rw is (inr (inr (refl, w, refl)))

      on_wider : 0 < place.segment - count → Wider 8 (place.segment - count) rest → Whole
      on_wider more (inl same) = rw (← same) (on_size more (vint_read 8 (place.segment - count) rest) refl)
      on_wider more (inr (after, short, long)) = rw short (inl (longer after (vint_read 8 8 rest) long))

      on_left : (b : Bool) → (place.segment - count == 0) ≡ b → Whole
      on_left true end =
          let least : place.segment - count ≡ 0 = eqb-true _ _ end in
          rw end (inl (passing (number_of ident) count rest (omega (arith, least))))
      on_left false end =
          let more : 0 < place.segment - count = grind (arith, nat_tests, end) in
          on_wider more (wider 8 (place.segment - count) rest (omega arith) more)

  pub segments : (text : List ℕ) → place.cluster ≡ 0 → place.group ≡ 0 → 0 < place.segment → InCluster track place ((element_read place.segment Absent >>= child_of) text) (segment_turn track place text)
  unfolding element_in segment_turn
  segments text none empty some = on_wider (wider 4 place.segment text (omega arith) some)
    where
      on_ident : (z : Result (List ℕ × List ℕ) Stop) → vint_read 4 place.segment text ≡ z → InCluster track place (read_on (read_on z (element_named none_outside place.segment Absent)) child_of) (read_on (outcome z) (segment_named track place))
      on_ident (Ok (ident, rest)) is = let read = vint_sound 4 place.segment text (ident, rest) is in named ident rest none empty (omega (arith, read.is.0)) read.fits
      on_ident (Err (Met f rest)) is = inl (inl (_, _, _, refl))
      on_ident (Err (Short w)) is = inl refl

      longer : (z : Result (List ℕ × List ℕ) Stop) → Longer place.segment z → TellsFault fault.Truncated (read_on (outcome z) (segment_named track place))
      longer z (inl (ident, rest, is, long)) = rw is (passing (number_of ident) (length ident) rest (omega (arith, long)))
      longer z (inr (w, is)) = rw is (inr (inr (refl, w, refl)))

      on_wider : Wider 4 place.segment text → InCluster track place ((element_read place.segment Absent >>= child_of) text) (segment_turn track place text)
      on_wider (inl same) = rw (← same) (on_ident (vint_read 4 place.segment text) refl)
      on_wider (inr (rest, short, long)) = rw short (inl (longer (vint_read 4 4 text) long))
