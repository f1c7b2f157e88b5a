-- What is read as an element that is not divided is one.
use Rattle.std.proofs.Common.{◌≡◌, ◌≤◌, ◌<◌, ◌+◌, ◌-◌, ◌==◌, ◌∙◌, ◌++◌, ◌∷◌, [], ℕ, List, Bool, true, false, nat_lt, Option, Some, Ok, length, slice_index, refl, sym, ap, subst, arith, append_assoc, length-append}
use Rattle.std.proofs.lemmas.Bool.{eqb-false, eqb-true, ltb-false}
use Rattle.ffv1_reads.specs.declared.fault.FileFault.TheVariants as fault
use Rattle.ffv1_reads.specs.Reads.{Kept, Met, given, taken, wanted, ◌>>=◌}
use Rattle.ffv1_reads.proofs.Results.{ok_is, read_on_ok}
use Rattle.ffv1_reads.proofs.WantedBytes.{taken_sound, wanted_sound}
use Rattle.ffv1_ebml.specs.Elements.{data_read}
use Rattle.ffv1_ebml.specs.Sums.{kept_summed, passed_summed, summed, taken_summed}
use Rattle.ffv1_ebml.specs.Vints.{IsVint, data_of, vint_read}
use Rattle.ffv1_ebml.specs.declared.element.Data.{Data}
use Rattle.ffv1_ebml.specs.declared.sum.Sum.{Sum}
use Rattle.ffv1_ebml.proofs.ElementLaws.{summed_twice}
use Rattle.ffv1_ebml.proofs.VintLaws.{vint_sound}
use Rattle.ffv1_matroska.specs.Blocks.{block_read, block_rest, fields_read, frame_judged, is_unknown, lacing_of, passed_on, time_of}
use Rattle.ffv1_matroska.specs.Elements.{Content, IsContent, IsOwn, Plain, Other, Own, content_frames, content_text}
use Rattle.ffv1_matroska.specs.Places.{closed, frame_at, is_sound, step_to, summed_at}
use Rattle.ffv1_matroska.specs.declared.place.Place.{Place}
use Rattle.ffv1_matroska.specs.declared.place.Step.{Step}
use Rattle.ffv1_matroska.proofs.BlockLaws.{after_bytes, content_read}
use Rattle.ffv1_matroska.proofs.FrameTurns.{Turn, kept_by, step_kept}
use Rattle.ffv1_matroska.proofs.StepBounds.{err_is_no_ok}
use Rattle.ffv1_reads.specs.Head.{frame_limit}
use Rattle.ffv1_matroska.specs.declared.track.TrackNumbers.{TrackNumbers}

-- a Cluster that has nothing left was judged
pub record WasClosed {X : Type 0} (x : X) (place : Place) (text : List ℕ) (y : X) (rest : List ℕ) : Type 0 where
  pub sound : is_sound place ≡ true
  pub value : y ≡ x
  pub text_is : text ≡ rest

pub closed_sound : {X : Type 0} (x : X) (place : Place) (text : List ℕ) (y : X) (rest : List ℕ) → closed x place text ≡ Ok (y, rest) → WasClosed x place text y rest
closed_sound {X = X} x place text y rest h = on_test (is_sound place) refl h
  where
    on_test : (b : Bool) → is_sound place ≡ b → closed x place text ≡ Ok (y, rest) → WasClosed x place text y rest
    on_test true t h =
        let same = ok_is (x, text) (y, rest) (rw t at h) in
        record { sound = t; value = ap (λ (z : X × List ℕ). z.0) (sym same); text_is = ap (λ (z : X × List ℕ). z.1) same }
    on_test false t h = absurd (err_is_no_ok (Met fault.Checksum text) (y, rest) (rw t at h))

-- bytes that were passed
pub record WasPassed (size : ℕ) (place : Place) (text : List ℕ) (o : Option Step) (rest : List ℕ) : Type 0 where
  pub bytes : List ℕ
  pub text_is : text ≡ bytes ++ rest
  pub long : length bytes ≡ size
  pub sound : is_sound (after_bytes place bytes) ≡ true
  pub step : o ≡ Some (step_to (after_bytes place bytes))

pub passed_on_sound : (size : ℕ) (place : Place) (text : List ℕ) (o : Option Step) (rest : List ℕ) → passed_on size place text ≡ Ok (o, rest) → WasPassed size place text o rest
unfolding passed_on
passed_on_sound size place text o rest h =
    let first = read_on_ok (passed_summed size place.sum text) (λ sum. closed (Some (step_to (summed_at place sum))) (summed_at place sum)) (o, rest) h in
    let second = read_on_ok (taken size text) (λ bytes. given (summed place.sum bytes)) first.0 first.1 in
    let parts = taken_sound size text second.0 second.1 in
    let bytes = second.0.0 in
    let same = ok_is (summed place.sum bytes, second.0.1) first.0 second.2 in
    let P : Sum × List ℕ → Type 0 = λ z. closed (Some (step_to (summed_at place z.0))) (summed_at place z.0) z.1 ≡ Ok (o, rest) in
    let end = closed_sound (Some (step_to (after_bytes place bytes))) (after_bytes place bytes) second.0.1 o rest (subst P (sym same) first.2) in
    record { bytes = bytes; text_is = parts.0 ∙ ap (λ z. bytes ++ z) end.text_is; long = parts.1; sound = end.sound; step = end.value }

-- the track number of a block
record HasData (size : ℕ) (sum : Sum) (text : List ℕ) (p : Data × Sum) (rest : List ℕ) : Type 0 where
  number : List ℕ
  text_is : text ≡ number ++ rest
  is : IsVint number
  few : length number ≤ 8
  fits : length number + p.0.left ≡ size
  value : data_of number ≡ p.0.value
  sum_is : p.1 ≡ summed sum number

data_sound : (size : ℕ) (sum : Sum) (text : List ℕ) (p : Data × Sum) (rest : List ℕ) → data_read size sum text ≡ Ok (p, rest) → HasData size sum text p rest
data_sound size sum text p rest h =
    let first = read_on_ok {Y = Data × Sum} (vint_read 8 size text) (λ bytes. given (record { value = data_of bytes; left = size - length bytes }, summed sum bytes)) (p, rest) h in
    let v = vint_sound 8 size text first.0 first.1 in
    let number = first.0.0 in
    let made : Data = record { value = data_of number; left = size - length number } in
    let same = ok_is ((made, summed sum number), first.0.1) (p, rest) first.2 in
    let left : size - length number ≡ p.0.left = ap (λ (z : (Data × Sum) × List ℕ). z.0.0.left) same in
    record {
      number = number;
      text_is = v.text_is ∙ ap (λ z. number ++ z) (ap (λ (z : (Data × Sum) × List ℕ). z.1) same);
      is = v.is;
      few = v.few;
      fits = omega (arith, left, v.fits);
      value = ap (λ (z : (Data × Sum) × List ℕ). z.0.0.value) same;
      sum_is = ap (λ (z : (Data × Sum) × List ℕ). z.0.1) (sym same);
    }

-- its fields
record HasFields (left : ℕ) (place : Place) (text : List ℕ) (o : Option Step) (rest : List ℕ) : Type 0 where
  time : List ℕ
  flags : ℕ
  size : ℕ
  text_is : text ≡ (time ++ flags ∷ []) ++ rest
  timed : length time ≡ 2
  unlaced : lacing_of flags ≡ 0
  some : 0 < size
  short : size ≤ frame_limit
  fits : 3 + size ≡ left
  bits : ℕ
  step : o ≡ Some (frame_at (Some bits) size (after_bytes place (time ++ flags ∷ [])))

record IsFrame (bits flags size : ℕ) (place : Place) (text : List ℕ) (o : Option Step) (rest : List ℕ) : Type 0 where
  unlaced : lacing_of flags ≡ 0
  some : 0 < size
  short : size ≤ frame_limit
  step : o ≡ Some (frame_at (Some bits) size place)
  text_is : text ≡ rest

frame_sound : (bits flags size : ℕ) (place : Place) (text : List ℕ) (o : Option Step) (rest : List ℕ) → frame_judged bits flags size place text ≡ Ok (o, rest) → IsFrame bits flags size place text o rest
frame_sound bits flags size place text o rest h = on_tests (lacing_of flags == 0) (nat_lt frame_limit size) (size == 0) refl refl refl h
  where
    on_tests : (a b c : Bool) → (lacing_of flags == 0) ≡ a → nat_lt frame_limit size ≡ b → (size == 0) ≡ c → frame_judged bits flags size place text ≡ Ok (o, rest) → IsFrame bits flags size place text o rest
    on_tests false b c r s t h = absurd (err_is_no_ok (Met fault.Laced text) (o, rest) (rw r at h))
    on_tests true true c r s t h = absurd (err_is_no_ok (Met fault.ChunkTooLong text) (o, rest) (rw (r, s) at h))
    on_tests true false true r s t h = absurd (err_is_no_ok (Met fault.EmptyFrame text) (o, rest) (rw (r, s, t) at h))
    on_tests true false false r s t h =
        let made : Option Step = Some (frame_at (Some bits) size place) in
        let same = ok_is (made, text) (o, rest) (rw (r, s, t) at h) in
        record { unlaced = eqb-true _ _ r; some = omega (arith, eqb-false size 0 t); short = ltb-false _ _ s; step = ap (λ (z : Option Step × List ℕ). z.0) (sym same); text_is = ap (λ (z : Option Step × List ℕ). z.1) same }

three_parts : (bytes : List ℕ) → length bytes ≡ 3 → (time : List ℕ) × (flags : ℕ) × (bytes ≡ time ++ flags ∷ []) × (length time ≡ 2) × (slice_index bytes 2 ≡ flags)
three_parts [] long = absurd (omega (arith, long))
three_parts (a ∷ []) long = absurd (omega (arith, long))
three_parts (a ∷ b ∷ []) long = absurd (omega (arith, long))
three_parts (a ∷ b ∷ c ∷ []) long = (a ∷ b ∷ [], c, refl, refl, refl)
three_parts (a ∷ b ∷ c ∷ d ∷ ds) long = absurd (omega (arith, long))

fields_sound : (left : ℕ) (place : Place) (text : List ℕ) (o : Option Step) (rest : List ℕ) → fields_read left place text ≡ Ok (o, rest) → HasFields left place text o rest
unfolding fields_read
fields_sound left place text o rest h = on_test (nat_lt left 3) refl h
  where
    on_test : (b : Bool) → nat_lt left 3 ≡ b → fields_read left place text ≡ Ok (o, rest) → HasFields left place text o rest
    on_test true t h = absurd (err_is_no_ok (Met fault.Truncated text) (o, rest) (rw t at h))
    on_test false t h =
        let enough : 3 ≤ left = ltb-false _ _ t in
        let whole : (taken_summed 3 place.sum >>= λ p. frame_judged (time_of p.0) (slice_index p.0 2) (left - 3) (summed_at place p.1)) text ≡ Ok (o, rest) = rw t at h in
        let first = read_on_ok (taken_summed 3 place.sum text) (λ p. frame_judged (time_of p.0) (slice_index p.0 2) (left - 3) (summed_at place p.1)) (o, rest) whole in
        let second = read_on_ok {Y = List ℕ × Sum} (taken 3 text) (λ bytes. given (bytes, summed place.sum bytes)) first.0 first.1 in
        let parts = taken_sound 3 text second.0 second.1 in
        let bytes = second.0.0 in
        let same = ok_is ((bytes, summed place.sum bytes), second.0.1) first.0 second.2 in
        let P : (List ℕ × Sum) × List ℕ → Type 0 = λ z. frame_judged (time_of z.0.0) (slice_index z.0.0 2) (left - 3) (summed_at place z.0.1) z.1 ≡ Ok (o, rest) in
        let three = three_parts bytes parts.1 in
        let frame = frame_sound (time_of bytes) (slice_index bytes 2) (left - 3) (after_bytes place bytes) second.0.1 o rest (subst P (sym same) first.2) in
        let Q : List ℕ → Type 0 = λ z. o ≡ Some (frame_at (Some (time_of bytes)) (left - 3) (after_bytes place z)) in
        record {
          time = three.0;
          flags = three.1;
          size = left - 3;
          text_is = parts.0 ∙ ap (λ z. bytes ++ z) frame.text_is ∙ ap (λ z. z ++ rest) three.2;
          timed = three.3;
          unlaced = ap lacing_of (sym three.4) ∙ frame.unlaced;
          some = frame.some;
          short = frame.short;
          fits = omega (arith, enough);
          bits = time_of bytes;
          step = subst Q three.2 frame.step;
        }

-- a frame that was kept
record WasKept (size : ℕ) (place : Place) (text : List ℕ) (o : Turn) (rest : List ℕ) : Type 0 where
  frame : List ℕ
  text_is : text ≡ frame ++ rest
  long : length frame ≡ size
  sound : is_sound (after_bytes place frame) ≡ true
  turn : o ≡ Some (frame ∷ [], after_bytes place frame)

kept_sound : (size : ℕ) (place : Place) (text : List ℕ) (o : Turn) (rest : List ℕ) → kept_by (Some size) place text ≡ Ok (o, rest) → WasKept size place text o rest
kept_sound size place text o rest h =
    let first = read_on_ok (kept_summed size place.sum text) (λ q. closed (Some (q.0 ∷ [], summed_at place q.1)) (summed_at place q.1)) (o, rest) h in
    let second = read_on_ok {Y = List ℕ × Sum} (wanted Kept size text) (λ bytes. given (bytes, summed place.sum bytes)) first.0 first.1 in
    let parts = wanted_sound Kept size text second.0 second.1 in
    let frame = second.0.0 in
    let same = ok_is ((frame, summed place.sum frame), second.0.1) first.0 second.2 in
    let P : (List ℕ × Sum) × List ℕ → Type 0 = λ z. closed {X = Turn} (Some (z.0.0 ∷ [], summed_at place z.0.1)) (summed_at place z.0.1) z.1 ≡ Ok (o, rest) in
    let made : Turn = Some (frame ∷ [], after_bytes place frame) in
    let end = closed_sound made (after_bytes place frame) second.0.1 o rest (subst P (sym same) first.2) in
    record { frame = frame; text_is = parts.0 ∙ ap (λ z. frame ++ z) end.text_is; long = parts.1; sound = end.sound; turn = end.value }

-- what was read of content, a block or none
pub record HasContent (track : TrackNumbers) (is_block : Bool) (size : ℕ) (place : Place) (text : List ℕ) (o : Turn) (rest : List ℕ) : Type 0 where
  pub content : Content
  pub is : IsContent track is_block content
  pub text_is : text ≡ content_text content ++ rest
  pub long : length (content_text content) ≡ size
  pub sound : is_sound (after_bytes place (content_text content)) ≡ true
  pub turn : o ≡ Some (content_frames content, after_bytes place (content_text content))

-- bytes that were passed are what an element holds
passed_content : (track : TrackNumbers) (is_block : Bool) (size : ℕ) (place : Place) (text : List ℕ) (o : Turn) (rest : List ℕ) (c : Content) (p : Option Step × List ℕ) → IsContent track is_block c → content_frames c ≡ [] → text ≡ content_text c ++ p.1 →
    length (content_text c) ≡ size → is_sound (after_bytes place (content_text c)) ≡ true → p.0 ≡ Some (step_to (after_bytes place (content_text c))) → step_kept p.0 p.1 ≡ Ok (o, rest) → HasContent track is_block size place text o rest
passed_content track is_block size place text o rest c p is none whole long sound step kept =
    let made : Turn = Some ([], after_bytes place (content_text c)) in
    let P : Option Step → Type 0 = λ z. step_kept z p.1 ≡ Ok (o, rest) in
    let same = ok_is (made, p.1) (o, rest) (subst P step kept) in
    record {
      content = c;
      is = is;
      text_is = whole ∙ ap (λ z. content_text c ++ z) (ap (λ (z : Turn × List ℕ). z.1) same);
      long = long;
      sound = sound;
      turn = ap (λ (z : Turn × List ℕ). z.0) (sym same) ∙ ap (λ (fs : List (List ℕ)). Some (fs, after_bytes place (content_text c))) (sym none);
    }

block_sound : (track : TrackNumbers) (size : ℕ) (place : Place) (text : List ℕ) (p : Option Step × List ℕ) (o : Turn) (rest : List ℕ) → block_read track size place text ≡ Ok p → step_kept p.0 p.1 ≡ Ok (o, rest) → HasContent track true size place text o rest
unfolding block_read
block_sound track size place text p o rest h kept =
    let first = read_on_ok (data_read size place.sum text) (block_rest track place) p h in
    on_data first.0.0 first.0.1 first.1 first.2
  where
    on_data : (d : Data × Sum) (more : List ℕ) → data_read size place.sum text ≡ Ok (d, more) → block_rest track place d more ≡ Ok p → HasContent track true size place text o rest
    on_data d more one two = on_test (d.0.value == track.number) (is_unknown track.known d.0.value) refl refl two
      where
        found : HasData size place.sum text d more
        found = data_sound size place.sum text d more one

        number : List ℕ
        number = found.number

        now : Place
        now = summed_at place d.1

        sums : (bytes : List ℕ) → summed d.1 bytes ≡ summed place.sum (number ++ bytes)
        sums bytes = ap (λ (s : Sum). summed s bytes) found.sum_is ∙ summed_twice place.sum number bytes

        on_test : (b u : Bool) → (d.0.value == track.number) ≡ b → is_unknown track.known d.0.value ≡ u → block_rest track place d more ≡ Ok p → HasContent track true size place text o rest
        on_test false true t n h = absurd (err_is_no_ok (Met fault.BadElement more) p (rw (t, n) at h))
        on_test false false t n h =
            let passed = passed_on_sound d.0.left now more p.0 p.1 (rw (t, n) at h) in
            let c : Content = Other number passed.bytes in
            let named : is_unknown track.known (data_of number) ≡ false = ap (is_unknown track.known) found.value ∙ n in
            let apart : data_of number ≡ track.number → ⊥ = λ e. eqb-false _ _ t (sym found.value ∙ e) in
            let same = sums passed.bytes in
            let sound : is_sound (after_bytes place (number ++ passed.bytes)) ≡ true = ap (λ (s : Sum). is_sound (summed_at place s)) (sym same) ∙ passed.sound in
            let step : p.0 ≡ Some (step_to (after_bytes place (number ++ passed.bytes))) = passed.step ∙ ap (λ (s : Sum). Some (step_to (summed_at place s))) same in
            let long : length (number ++ passed.bytes) ≡ size = omega (arith, passed.long, found.fits, length-append number passed.bytes) in
            passed_content track true size place text o rest c p (refl, found.is, found.few, apart, named) refl (found.text_is ∙ ap (λ z. number ++ z) passed.text_is ∙ sym (append_assoc number passed.bytes p.1)) long sound step kept
        on_test true u t n h =
            let fields = fields_sound d.0.left now more p.0 p.1 (rw t at h) in
            let three = fields.time ++ fields.flags ∷ [] in
            let P : Option Step → Type 0 = λ z. step_kept z p.1 ≡ Ok (o, rest) in
            let held = kept_sound fields.size (after_bytes now three) p.1 o rest (subst P fields.step kept) in
            let c : Content = Own number fields.time fields.flags held.frame in
            let same : summed (summed d.1 three) held.frame ≡ summed place.sum (number ++ (three ++ held.frame)) = summed_twice d.1 three held.frame ∙ sums (three ++ held.frame) in
            let own : IsOwn track number fields.time fields.flags held.frame = record {
              own = (found.is, found.few, found.value ∙ eqb-true _ _ t);
              timed = fields.timed;
              unlaced = fields.unlaced;
              some = rw held.long fields.some;
              short = rw held.long fields.short;
            } in
            let long : length (number ++ (three ++ held.frame)) ≡ size = omega (arith, found.fits, fields.fits, fields.timed, held.long, length-append number (three ++ held.frame), length-append three held.frame, length-append fields.time (fields.flags ∷ [])) in
            record {
              content = c;
              is = (refl, own);
              text_is = found.text_is ∙ ap (λ z. number ++ z) (fields.text_is ∙ ap (λ z. three ++ z) held.text_is) ∙ regrouped number three held.frame rest;
              long = long;
              sound = ap (λ (s : Sum). is_sound (summed_at place s)) (sym same) ∙ held.sound;
              turn = held.turn ∙ ap (λ (s : Sum). Some (held.frame ∷ [], summed_at place s)) same;
            }
          where
            regrouped : (a b c d : List ℕ) → a ++ (b ++ (c ++ d)) ≡ (a ++ (b ++ c)) ++ d
            regrouped a b c d = simp append_assoc

pub content_sound : (track : TrackNumbers) (is_block : Bool) (size : ℕ) (place : Place) (text : List ℕ) (o : Turn) (rest : List ℕ) → content_read track is_block size place text ≡ Ok (o, rest) → HasContent track is_block size place text o rest
content_sound track true size place text o rest h =
    let first = read_on_ok (block_read track size place text) step_kept (o, rest) h in
    block_sound track size place text first.0 o rest first.1 first.2
content_sound track false size place text o rest h =
    let first = read_on_ok (passed_on size place text) step_kept (o, rest) h in
    let passed = passed_on_sound size place text first.0.0 first.0.1 first.1 in
    passed_content track false size place text o rest (Plain passed.bytes) first.0 refl refl passed.text_is passed.long passed.sound passed.step first.2
