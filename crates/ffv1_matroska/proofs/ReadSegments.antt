-- What is read in a Segment is its parts.
use Rattle.std.proofs.Common.{◌≡◌, ◌<◌, ◌+◌, ◌==◌, ◌∙◌, ◌++◌, ◌∷◌, [], ℕ, List, Bool, true, false, Option, Some, None, Result, Ok, Err, inl, inr, length, refl, sym, ap, subst, arith, append_assoc, length-append}
use Rattle.std.proofs.lemmas.Bool.{eqb-false, eqb-true}
use Rattle.ffv1_reads.specs.declared.fault.FileFault.{FileFault}
use Rattle.ffv1_reads.specs.declared.fault.FileFault.TheVariants as fault
use Rattle.ffv1_reads.specs.Reads.{Met, given, passed, taken, ◌>>=◌}
use Rattle.ffv1_reads.proofs.Results.{ok_is, read_on_ok}
use Rattle.ffv1_reads.proofs.WantedBytes.{passed_sound, taken_sound}
use Rattle.ffv1_sum.specs.Sum.{number_of as low_number, turned}
use Rattle.ffv1_ebml.specs.Contents.{content_told}
use Rattle.ffv1_ebml.specs.Elements.{content_judged, content_passed, crc_ident, element_or_end, element_read, first_read, stated_judged, sum_judged}
use Rattle.ffv1_ebml.specs.Sums.{is_met, passed_summed, summed}
use Rattle.ffv1_ebml.specs.declared.element.Element.{Element}
use Rattle.ffv1_ebml.specs.declared.sum.Sum.{Sum}
use Rattle.ffv1_ebml.specs.declared.sum.Sum.TheVariants.{Absent, Awaits}
use Rattle.ffv1_ebml.proofs.ContentTold.{content_bad}
use Rattle.ffv1_matroska.specs.Internal.{bytes_of}
use Rattle.ffv1_matroska.specs.Places.{segment_at}
use Rattle.ffv1_matroska.specs.Segments.{header_read}
use Rattle.ffv1_matroska.specs.declared.place.Place.{Place}
use Rattle.ffv1_matroska.proofs.FileLaws.{HasEnded}
use Rattle.ffv1_matroska.proofs.HeaderLaws.{HasHeader, header_sound}
use Rattle.ffv1_matroska.proofs.StepBounds.{err_is_no_ok}

-- content that was passed
pub record HasPassed (n : ℕ) (text : List ℕ) (rest : List ℕ) : Type 0 where
  pub bytes : List ℕ
  pub text_is : text ≡ bytes ++ rest
  pub long : length bytes ≡ n

judged_uses : (sum : Sum) (text : List ℕ) (p : Unit {0} × List ℕ) → sum_judged sum text ≡ Ok p → text ≡ p.1
judged_uses sum text p h = on_test (is_met sum) refl h
  where
    on_test : (b : Bool) → is_met sum ≡ b → sum_judged sum text ≡ Ok p → text ≡ p.1
    on_test true t h = ap (λ (z : Unit {0} × List ℕ). z.1) (ok_is (tt, text) p (rw t at h))
    on_test false t h = absurd (err_is_no_ok (Met fault.Checksum text) p (rw t at h))

stated_uses : (left : ℕ) (stated text : List ℕ) (p : Unit {0} × List ℕ) → stated_judged left stated text ≡ Ok p → HasPassed left text p.1
stated_uses left stated text p h =
    let sum = Awaits (low_number stated) turned in
    let first = read_on_ok (passed_summed left sum text) sum_judged p h in
    let second = read_on_ok (taken left text) (λ bytes. given (summed sum bytes)) first.0 first.1 in
    let parts = taken_sound left text second.0 second.1 in
    let same = ok_is (summed sum second.0.0, second.0.1) first.0 second.2 in
    let end : second.0.1 ≡ p.1 = ap (λ (z : Sum × List ℕ). z.1) same ∙ judged_uses first.0.0 first.0.1 p first.2 in
    record { bytes = second.0.0; text_is = parts.0 ∙ ap (λ z. second.0.0 ++ z) end; long = parts.1 }

after_header : (e : Element) (text : List ℕ) (p : Unit {0} × List ℕ) → content_judged e e.size text ≡ Ok p → HasPassed (bytes_of e.size + e.left) text p.1
after_header e text p h = on_size e.size h
  where
    on_size : (size : Option ℕ) → content_judged e size text ≡ Ok p → HasPassed (bytes_of size + e.left) text p.1
    on_size None h = absurd (err_is_no_ok (Met fault.BadElement text) p h)
    on_size (Some n) h = on_test (e.ident == crc_ident) (n == 4) refl refl h
      where
        plain : passed (n + e.left) text ≡ Ok p → HasPassed (n + e.left) text p.1
        plain h = let gone = passed_sound (n + e.left) text p h in record { bytes = gone.0; text_is = gone.1; long = gone.2 }

        on_test : (a b : Bool) → (e.ident == crc_ident) ≡ a → (n == 4) ≡ b → content_judged e (Some n) text ≡ Ok p → HasPassed (n + e.left) text p.1
        on_test true true s t h =
            let first = read_on_ok (taken 4 text) (stated_judged e.left) p (rw (s, t) at h) in
            let parts = taken_sound 4 text first.0 first.1 in
            let rest = stated_uses e.left first.0.0 first.0.1 p first.2 in
            record {
              bytes = first.0.0 ++ rest.bytes;
              text_is = parts.0 ∙ ap (λ z. first.0.0 ++ z) rest.text_is ∙ sym (append_assoc first.0.0 rest.bytes p.1);
              long = length-append first.0.0 rest.bytes ∙ (omega (arith, parts.1, rest.long, eqb-true n 4 t));
            }
        on_test true false s t h = plain (rw (s, t) at h)
        on_test false b s t h = plain (rw s at h)

content_uses : (n : ℕ) (text : List ℕ) (p : Unit {0} × List ℕ) → content_passed n text ≡ Ok p → HasPassed n text p.1
unfolding content_passed
content_uses n text p h = on_test (n == 0) refl h
  where
    on_test : (b : Bool) → (n == 0) ≡ b → content_passed n text ≡ Ok p → HasPassed n text p.1
    on_test true t h = record { bytes = []; text_is = ap (λ (z : Unit {0} × List ℕ). z.1) (ok_is (tt, text) p (rw t at h)); long = sym (eqb-true _ _ t) }
    on_test false t h =
        let first = read_on_ok (element_read n Absent text) (λ p. content_judged p.0 p.0.size) p (rw t at h) in
        let head = header_sound n Absent text first.0.0 first.0.1 first.1 in
        let rest = after_header first.0.0.0 first.0.1 p first.2 in
        let front = head.ident ++ head.size in
        record {
          bytes = front ++ rest.bytes;
          text_is = head.text_is ∙ ap (λ z. front ++ z) rest.text_is ∙ sym (append_assoc front rest.bytes p.1);
          long = length-append front rest.bytes ∙ (omega (arith, rest.long, head.left_is));
        }

-- its CRC-32 is right
pub record WasTold (n : ℕ) (text : List ℕ) (rest : List ℕ) : Type 0 where
  pub bytes : List ℕ
  pub text_is : text ≡ bytes ++ rest
  pub long : length bytes ≡ n
  pub told : content_told bytes ≡ Ok tt

pub content_passed_sound : (n : ℕ) (text : List ℕ) (p : Unit {0} × List ℕ) → content_passed n text ≡ Ok p → WasTold n text p.1
content_passed_sound n text p h = on_told (content_uses n text p h) (content_told (content_uses n text p h).bytes) refl
  where
    on_told : (u : HasPassed n text p.1) (r : Result (Unit {0}) FileFault) → content_told u.bytes ≡ r → WasTold n text p.1
    on_told u (Ok t) is = record { bytes = u.bytes; text_is = u.text_is; long = u.long; told = is }
    on_told u (Err f) is =
        let bad = content_bad u.bytes p.1 f is in
        let read : content_passed (length u.bytes) (u.bytes ++ p.1) ≡ Ok p = ap (λ k. content_passed k (u.bytes ++ p.1)) u.long ∙ ap (content_passed n) (sym u.text_is) ∙ h in
        absurd (err_is_no_ok (Met f bad.0) p (sym bad.1 ∙ read))

-- the header of an element of a Segment; or its end, or that of the input
abbrev pub Headed : Place → ℕ → List ℕ → Option Element → List ℕ → Type 0
Headed base n text None rest = (text ≡ rest) × HasEnded base n rest
Headed base n text (Some e) rest = (s : Sum) × HasHeader n Absent text (e, s) rest

pub headed_sound : (base : Place) (loose : Bool) (n : ℕ) (text : List ℕ) (o : Option Element) (rest : List ℕ) → header_read (segment_at base loose n) text ≡ Ok (o, rest) → Headed base n text o rest
unfolding header_read first_read
headed_sound base loose n text o rest h = on_tests (n == 0) base.endless refl refl h
  where
    At : Option Element × List ℕ → Type 0
    At z = Headed base n text z.0 z.1

    some : (t : List ℕ) → (element_read n Absent >>= λ p. given (Some p.0)) t ≡ Ok (o, rest) → Headed base n t o rest
    some t h =
        let first = read_on_ok (element_read n Absent t) (λ p. given (Some p.0)) (o, rest) h in
        let head = header_sound n Absent t first.0.0 first.0.1 first.1 in
        let P : Option Element × List ℕ → Type 0 = λ z. Headed base n t z.0 z.1 in
        subst P (ok_is (Some first.0.0.0, first.0.1) (o, rest) first.2) (first.0.0.1, head)

    or_end : (t : List ℕ) → 0 < n → base.endless ≡ true → element_or_end n t ≡ Ok (o, rest) → Headed base n t o rest
    or_end [] left e h =
        let P : Option Element × List ℕ → Type 0 = λ z. Headed base n [] z.0 z.1 in
        subst P (ok_is (None, []) (o, rest) h) (refl, inr (left, refl, e))
    or_end (b ∷ bs) left e h = some (b ∷ bs) h

    on_tests : (a b : Bool) → (n == 0) ≡ a → base.endless ≡ b → header_read (segment_at base loose n) text ≡ Ok (o, rest) → Headed base n text o rest
    on_tests true b s t h = subst At (ok_is (None, text) (o, rest) (rw s at h)) (refl, inl (eqb-true _ _ s))
    on_tests false true s t h = let left : 0 < n = omega (arith, eqb-false n 0 s) in or_end text left t (rw (s, t) at h)
    on_tests false false s t h = some text (rw (s, t) at h)
