-- How many bytes an element has that is read with what is told of it: as many as plainly, whatever
-- that is.
use Rattle.std.proofs.Common.{◌≡◌, ◌+◌, ◌==◌, ℕ, List, Bool, true, false, if◌then◌else◌, nat_lt, length, take, drop, Option, Some, None, Result, Ok, Err, inl, inr, refl, ap, arith}
use Rattle.std.proofs.Common.{◌⊎◌}
use Rattle.std.proofs.lemmas.Bool.Decides.{nat_tests}
use Rattle.ffv1_reads.specs.Reads.{Looked, Met, Reading, Short, Stop, given, passed, read_on, refused, taken, ◌>>=◌}
use Rattle.ffv1_reads.specs.declared.fault.FileFault.{FileFault}
use Rattle.ffv1_reads.specs.declared.fault.FileFault.TheVariants as fault
use Rattle.ffv1_reads.proofs.Made.{Made, made_given, made_if, made_meets, made_passed, made_refused, made_then, made_wanted}
use Rattle.ffv1_reads.proofs.Taking.{Any, Takes, takes_given, takes_if, takes_passed, takes_refused, takes_same, takes_then, takes_wanted}
use Rattle.ffv1_sum.specs.Sum.{number_of as low_number, turned}
use Rattle.ffv1_ebml.specs.Elements.{content_judged, content_passed, element_in, element_judged, element_read, is_crc, stated_judged, sum_judged}
use Rattle.ffv1_ebml.specs.Sums.{is_met, passed_summed, summed}
use Rattle.ffv1_ebml.specs.Vints.{vint_read}
use Rattle.ffv1_ebml.specs.Tried.{outcome}
use Rattle.ffv1_ebml.specs.declared.element.Element.{Element}
use Rattle.ffv1_ebml.specs.declared.sum.Sum.{Sum}
use Rattle.ffv1_ebml.specs.declared.sum.Sum.TheVariants.{Absent, Awaits}
use Rattle.ffv1_matroska.specs.Internal.{bytes_of}
use Rattle.ffv1_matroska.specs.Opened.{told, tracks}
use Rattle.ffv1_matroska.specs.Opening.{content_kept}
use Rattle.ffv1_matroska.specs.Salvaged.{content_salvaged, element_salvaged, sound_part, sum_fault, sum_told, tracks_or_salvaged, tracks_salvaged}
use Rattle.ffv1_matroska.specs.Segments.{is_section}
use Rattle.ffv1_matroska.specs.Tracks.{Track, track_in}
use Rattle.ffv1_matroska.proofs.ElementTaken.{content_takes, element_takes}
use Rattle.ffv1_matroska.proofs.SalvageLaws.{no_err, no_ok, read_on_met, same_met, same_ok, short_met}
use Rattle.ffv1_matroska.proofs.SpotReadings.{kept_takes, told_takes}

-- ---- the header of an element has no CRC-32

ruleset made = (made_if, made_then, made_refused, made_wanted, made_given, made_passed)

abbrev pub is_header_fault : FileFault → Bool
is_header_fault fault.Truncated = true
is_header_fault fault.BadElement = true
is_header_fault f = false

of_vint : {ends : Bool} (most left : ℕ) → Made is_header_fault ends (vint_read most left)
unfolding vint_read
of_vint most left = search made depth 12

of_judged : {ends : Bool} (left ident : ℕ) (size : Option ℕ) → Made is_header_fault ends (element_judged left ident size)
of_judged left ident None = search made
of_judged left ident (Some n) = search made

of_element : {ends : Bool} (left : ℕ) (sum : Sum) → Made is_header_fault ends (element_read left sum)
unfolding element_in
of_element left sum = search (made, of_vint, of_judged) depth 14

-- ---- content whose CRC-32 is not the sum

abbrev taken_by : Bool → ℕ → List ℕ → Result (List ℕ × List ℕ) Stop
taken_by b n text = if b then Err (Short Looked) else Ok (take n text, drop n text)

abbrev passed_by : Bool → ℕ → List ℕ → Result (Unit {0} × List ℕ) Stop
passed_by b n text = if b then Err (Short Looked) else Ok (tt, drop n text)

abbrev judged_by : Bool → Reading (Unit {0})
judged_by b = if b then given tt else refused fault.Checksum

taken_none : {P : Type 0} (n : ℕ) (text rest : List ℕ) (f : FileFault) → taken n text ≡ Err (Met f rest) → P
taken_none {P = P} n text rest f h = on_test (nat_lt (length text) n) h
  where
    on_test : (b : Bool) → taken_by b n text ≡ Err (Met f rest) → P
    on_test true k = short_met {X = List ℕ × List ℕ} Looked f rest k
    on_test false k = no_err (take n text, drop n text) (Met f rest) k

passed_none : {P : Type 0} (n : ℕ) (text rest : List ℕ) (f : FileFault) → passed n text ≡ Err (Met f rest) → P
passed_none {P = P} n text rest f h = on_test (nat_lt (length text) n) h
  where
    on_test : (b : Bool) → passed_by b n text ≡ Err (Met f rest) → P
    on_test true k = short_met {X = Unit {0} × List ℕ} Looked f rest k
    on_test false k = no_err (tt, drop n text) (Met f rest) k

sum_left : (sum : Sum) (text rest : List ℕ) → sum_judged sum text ≡ Err (Met fault.Checksum rest) → length text ≡ length rest
sum_left sum text rest h = on_test (is_met sum) h
  where
    on_test : (b : Bool) → judged_by b text ≡ Err (Met fault.Checksum rest) → length text ≡ length rest
    on_test true k = no_err (tt, text) (Met fault.Checksum rest) k
    on_test false k = ap length (same_rest text rest k)
      where
        same_rest : (a b : List ℕ) → ◌≡◌ {A = Result (Unit {0} × List ℕ) Stop} (Err (Met fault.Checksum a)) (Err (Met fault.Checksum b)) → a ≡ b
        same_rest a b e = let met : ◌≡◌ {A = Stop} (Met fault.Checksum a) (Met fault.Checksum b) = cc in cc

-- what readings in a row meet
abbrev InRow : {X Y : Type 0} → Result (X × List ℕ) Stop → (X → Reading Y) → List ℕ → Type 0
InRow {X = X} z k rest = (z ≡ Err (Met fault.Checksum rest)) ⊎ ((p : X × List ℕ) × (z ≡ Ok p) × (k p.0 p.1 ≡ Err (Met fault.Checksum rest)))

summed_left : (n : ℕ) (sum : Sum) (text rest : List ℕ) → (passed_summed n sum >>= sum_judged) text ≡ Err (Met fault.Checksum rest) → length text ≡ length rest + n
summed_left n sum text rest h = on_summed (read_on_met (passed_summed n sum text) sum_judged fault.Checksum rest h)
  where
    on_taken : InRow (taken n text) (λ bytes. given (summed sum bytes)) rest → length text ≡ length rest + n
    on_taken (inl none) = taken_none n text rest fault.Checksum none
    on_taken (inr (p, one, two)) = no_err (summed sum p.0, p.1) (Met fault.Checksum rest) two

    on_summed : InRow (passed_summed n sum text) sum_judged rest → length text ≡ length rest + n
    on_summed (inl met) = on_taken (read_on_met (taken n text) (λ bytes. given (summed sum bytes)) fault.Checksum rest met)
    on_summed (inr (p, one, two)) =
        let all : Takes Any n (λ _. 0) (passed_summed n sum) = takes_then (taken n) (λ bytes. given (summed sum bytes)) (takes_same _ n (taken n) (omega arith) (takes_wanted Looked n 0)) (λ bytes _. takes_given (summed sum bytes) tt refl) in
        let first = (all.only text p.1 p.0 one).1 in
        let last = sum_left p.0 p.1 rest two in
        omega (arith, first, last)

judged_left : (e : Element) (size : Option ℕ) (text rest : List ℕ) → content_judged e size text ≡ Err (Met fault.Checksum rest) → length text ≡ length rest + (bytes_of size + e.left)
judged_left e None text rest h = absurd (let same : fault.BadElement ≡ fault.Checksum = same_met {X = Unit {0} × List ℕ} fault.BadElement fault.Checksum text rest h in cc)
judged_left e (Some n) text rest h = on_crc (is_crc e.ident n) refl h
  where
    crc_size : is_crc e.ident n ≡ true → n ≡ 4
    crc_size is = grind (arith, nat_tests, is)

    on_stated : n ≡ 4 → InRow (taken 4 text) (stated_judged e.left) rest → length text ≡ length rest + (n + e.left)
    on_stated four (inl none) = taken_none 4 text rest fault.Checksum none
    on_stated four (inr (p, one, two)) =
        let first = ((takes_wanted Looked 4 0).only text p.1 p.0 one).1 in
        let last = summed_left e.left (Awaits (low_number p.0) turned) p.1 rest two in
        omega (arith, four, first, last)

    on_crc : (b : Bool) → is_crc e.ident n ≡ b → (if b then (taken 4 >>= stated_judged e.left) else passed (n + e.left)) text ≡ Err (Met fault.Checksum rest) → length text ≡ length rest + (n + e.left)
    on_crc true crc k = on_stated (crc_size crc) (read_on_met (taken 4 text) (stated_judged e.left) fault.Checksum rest k)
    on_crc false crc k = passed_none (n + e.left) text rest fault.Checksum k

content_left : (n : ℕ) (text rest : List ℕ) → content_passed n text ≡ Err (Met fault.Checksum rest) → length text ≡ length rest + n
unfolding content_passed
content_left n text rest h = on_zero (n == 0) h
  where
    on_element : InRow (element_read n Absent text) (λ p. content_judged p.0 p.0.size) rest → length text ≡ length rest + n
    on_element (inl met) = absurd (let none = made_meets (of_element {ends = false} n Absent) text rest fault.Checksum met in cc)
    on_element (inr (p, one, two)) =
        let first = ((element_takes n Absent).only text p.1 p.0 one).1 in
        let last = judged_left p.0.0 p.0.0.size p.1 rest two in
        omega (arith, first, last)

    on_zero : (b : Bool) → (if b then (λ more. Ok (tt, more)) else (element_read n Absent >>= λ p. content_judged p.0 p.0.size)) text ≡ Err (Met fault.Checksum rest) → length text ≡ length rest + n
    on_zero true k = no_err (tt, text) (Met fault.Checksum rest) k
    on_zero false k = on_element (read_on_met (element_read n Absent text) (λ p. content_judged p.0 p.0.size) fault.Checksum rest k)

-- ---- elements of which faults are told

content_all : (n : ℕ) → Takes Any n (λ (o : Option FileFault). 0) (content_salvaged n)
unfolding content_salvaged
content_all n = record { only = λ text rest o h. (tt, on_content text rest o (content_passed n text) refl h) }
  where
    on_content : (text rest : List ℕ) (o : Option FileFault) (z : Result (Unit {0} × List ℕ) Stop) → content_passed n text ≡ z → read_on (outcome z) (λ r. told (sum_told r)) ≡ Ok (o, rest) → length text + 0 ≡ length rest + n
    on_content text rest o (Ok (u, left)) is h =
        let all = ((content_takes n).only text left u is).1 in
        let same = ap length (same_ok None o left rest h).1 in
        omega (arith, all, same)
    on_content text rest o (Err (Met fault.Checksum left)) is h =
        let all = content_left n text left is in
        let same = ap length (same_ok (Some fault.Checksum) o left rest h).1 in
        omega (arith, all, same)
    on_content text rest o (Err (Met f left)) is h = no_ok (o, rest) (Met f left) h
    on_content text rest o (Err (Short w)) is h = no_ok (o, rest) (Short w) h

pub element_all : (ident : ℕ) (size : Option ℕ) → Takes Any (bytes_of size) (λ (o : Option FileFault). 0) (element_salvaged ident size)
unfolding element_salvaged
element_all ident None = takes_refused fault.BadElement
element_all ident (Some n) =
    takes_if (is_section ident) (content_salvaged n) _ (λ _. content_all n)
    (λ _. takes_then (passed n) _ (takes_same _ n (passed n) (omega arith) (takes_passed n 0)) (λ _ _. takes_given _ tt refl))

pub tracks_all : (size : Option ℕ) → Takes Any (bytes_of size) (λ (p : Track × Option FileFault). 0) (tracks_salvaged size)
unfolding tracks_salvaged
tracks_all size = takes_then (content_kept size) _ (kept_takes size) (λ content _. takes_then (told (track_in (sound_part content))) _ (told_takes (track_in (sound_part content))) (λ track _. takes_given (track, sum_fault content) tt refl))

pub visit_all : (found : Option Track) (ident : ℕ) (size : Option ℕ) → Takes Any (bytes_of size) (λ (p : Option Track × Option FileFault). 0) (tracks_or_salvaged found ident size)
visit_all None ident size =
    takes_if (ident == tracks) _ _ (λ _. takes_then (tracks_salvaged size) _ (tracks_all size) (λ p _. takes_given (Some p.0, p.1) tt refl))
    (λ _. takes_then (element_salvaged ident size) _ (element_all ident size) (λ f _. takes_given (None, f) tt refl))
visit_all (Some track) ident size = takes_then (element_salvaged ident size) _ (element_all ident size) (λ f _. takes_given (Some track, f) tt refl)
