-- What is read before the content of a Segment is the header of EBML, Voids and the header of the
-- Segment.
use Rattle.std.proofs.Common.{◌≡◌, ◌≤◌, ◌<◌, ◌-◌, ◌==◌, ◌∙◌, ◌++◌, ◌∷◌, [], ℕ, suc, zero, List, Bool, true, false, if◌then◌else◌, nat_lt, Option, Some, None, Result, Ok, Err, length, slice_index, refl, sym, ap, subst, arith, append_assoc}
use Rattle.std.proofs.lemmas.Bool.{eqb-true, ltb-false}
use Rattle.ffv1_reads.specs.Head.{limit}
use Rattle.ffv1_reads.specs.declared.fault.FileFault.{FileFault}
use Rattle.ffv1_reads.specs.declared.fault.FileFault.TheVariants as fault
use Rattle.ffv1_reads.specs.Reads.{Kept, Met, given, refused, taken, wanted, ◌>>=◌}
use Rattle.ffv1_reads.proofs.Results.{ok_is, read_on_ok}
use Rattle.ffv1_reads.proofs.WantedBytes.{passed_sound, taken_sound, wanted_sound}
use Rattle.ffv1_ebml.specs.Elements.{data_read}
use Rattle.ffv1_ebml.specs.Spelled.{SaysSize}
use Rattle.ffv1_ebml.specs.Sums.{summed}
use Rattle.ffv1_ebml.specs.Vints.{data_of, number_of, size_of, vint_read}
use Rattle.ffv1_ebml.specs.declared.element.Data.{Data}
use Rattle.ffv1_ebml.specs.declared.sum.Sum.{Sum}
use Rattle.ffv1_ebml.specs.declared.sum.Sum.TheVariants.{Absent}
use Rattle.ffv1_ebml.proofs.VintLaws.{vint_sound}
use Rattle.ffv1_matroska.specs.Elements.{TopLevel, top_text, tops_text}
use Rattle.ffv1_matroska.specs.MatroskaFiles.{AreVoids, IsVoid, SaysFour}
use Rattle.ffv1_matroska.specs.Opened.{ebml, ebml_read, told}
use Rattle.ffv1_matroska.specs.Opening.{content_kept, header_in, ident_read, root_or_on, root_read, segment, segment_after, segment_up_to, top_size, void, void_or_segment, void_read, void_sized}
use Rattle.ffv1_matroska.specs.Sizes.{size_with}
use Rattle.ffv1_matroska.proofs.OpenedLaws.{size_same}
use Rattle.ffv1_matroska.proofs.StepBounds.{err_is_no_ok}

-- a size at the top of a file
record HasSize (text : List ℕ) (size : Option ℕ) (rest : List ℕ) : Type 0 where
  bytes : List ℕ
  text_is : text ≡ bytes ++ rest
  says : SaysSize bytes size

size_sound : (text : List ℕ) (p : Option ℕ × List ℕ) → top_size text ≡ Ok p → HasSize text p.0 p.1
unfolding top_size
size_sound text p h =
    let first = read_on_ok {X = Data × Sum} (data_read 8 Absent text) (λ d. given (size_with (8 - d.0.left) d.0.value)) p h in
    let second = read_on_ok {Y = Data × Sum} (vint_read 8 8 text) (λ bytes. given (record { value = data_of bytes; left = 8 - length bytes }, summed Absent bytes)) first.0 first.1 in
    let v = vint_sound 8 8 text second.0 second.1 in
    let bytes = second.0.0 in
    let made : Data = record { value = data_of bytes; left = 8 - length bytes } in
    let same = ok_is ((made, Absent), second.0.1) first.0 second.2 in
    let P : (Data × Sum) × List ℕ → Type 0 = λ z. given (size_with (8 - z.0.0.left) z.0.0.value) z.1 ≡ Ok p in
    let last = ok_is (size_with (8 - (8 - length bytes)) (data_of bytes), second.0.1) p (subst P (sym same) first.2) in
    let count : 8 - (8 - length bytes) ≡ length bytes = omega (arith, v.few) in
    let known : size_of bytes ≡ p.0 = sym (ap (λ n. size_with n (data_of bytes)) count ∙ size_same bytes v.few) ∙ ap (λ (z : Option ℕ × List ℕ). z.0) last in
    record { bytes = bytes; text_is = v.text_is ∙ ap (λ z. bytes ++ z) (ap (λ (z : Option ℕ × List ℕ). z.1) last); says = (v.is, v.few, known) }

-- an ID at the top of a file
record HasFour (ident : ℕ) (text rest : List ℕ) : Type 0 where
  bytes : List ℕ
  text_is : text ≡ bytes ++ rest
  says : SaysFour bytes ident

ident_sound : (ident : ℕ) (text : List ℕ) (p : Unit {0} × List ℕ) → ident_read ident text ≡ Ok p → HasFour ident text p.1
unfolding ident_read
ident_sound ident text p h =
    let first = read_on_ok (taken 4 text) (λ bytes. if number_of bytes == ident then given tt else refused fault.NotMatroska) p h in
    let parts = taken_sound 4 text first.0 first.1 in
    on_test first.0 parts.0 parts.1 (number_of first.0.0 == ident) refl first.2
  where
    on_test : (q : List ℕ × List ℕ) → text ≡ q.0 ++ q.1 → length q.0 ≡ 4 → (b : Bool) → (number_of q.0 == ident) ≡ b → (if number_of q.0 == ident then given tt else refused fault.NotMatroska) q.1 ≡ Ok p → HasFour ident text p.1
    on_test q whole long true t h = record { bytes = q.0; text_is = whole ∙ ap (λ z. q.0 ++ z) (ap (λ (z : Unit {0} × List ℕ). z.1) (ok_is (tt, q.1) p (rw t at h))); says = (long, eqb-true _ _ t) }
    on_test q whole long false t h = absurd (err_is_no_ok (Met fault.NotMatroska q.1) p (rw t at h))

-- the header of EBML
pub record HasEbml (text rest : List ℕ) : Type 0 where
  pub ident : List ℕ
  pub size : List ℕ
  pub header : List ℕ
  pub text_is : text ≡ (ident ++ size) ++ (header ++ rest)
  pub is : SaysFour ident ebml
  pub says : SaysSize size (Some (length header))
  pub short : length header ≤ limit
  pub good : header_in header ≡ Ok tt

pub ebml_sound : (text : List ℕ) (p : Unit {0} × List ℕ) → ebml_read text ≡ Ok p → HasEbml text p.1
unfolding ebml_read content_kept
ebml_sound text p h =
    let first = read_on_ok (ident_read ebml text) (λ _. top_size >>= λ size. (content_kept size >>= λ content. told (header_in content))) p h in
    let four = ident_sound ebml text first.0 first.1 in
    let second = read_on_ok (top_size first.0.1) (λ size. content_kept size >>= λ content. told (header_in content)) p first.2 in
    let size = size_sound first.0.1 second.0 second.1 in
    on_size four second.0.0 second.0.1 size second.2
  where
    on_told : (r : Result (Unit {0}) FileFault) (rest : List ℕ) → told r rest ≡ Ok p → (r ≡ Ok tt) × (rest ≡ p.1)
    on_told (Ok u) rest h = (refl, ap (λ (z : Unit {0} × List ℕ). z.1) (ok_is (tt, rest) p h))
    on_told (Err f) rest h = absurd (err_is_no_ok (Met f rest) p h)

    on_size : {more : List ℕ} → HasFour ebml text more → (size : Option ℕ) (rest : List ℕ) → HasSize more size rest → (content_kept size >>= λ content. told (header_in content)) rest ≡ Ok p → HasEbml text p.1
    on_size four None rest size h = absurd (err_is_no_ok (Met fault.BadElement rest) p h)
    on_size {more = more} four (Some n) rest size h = on_limit (nat_lt limit n) refl h
      where
        on_limit : (b : Bool) → nat_lt limit n ≡ b → (content_kept (Some n) >>= λ content. told (header_in content)) rest ≡ Ok p → HasEbml text p.1
        on_limit true t h = absurd (err_is_no_ok (Met fault.ChunkTooLong rest) p (rw t at h))
        on_limit false t h =
            let third = read_on_ok (wanted Kept n rest) (λ content. told (header_in content)) p (rw t at h) in
            let parts = wanted_sound Kept n rest third.0 third.1 in
            let good = on_told (header_in third.0.0) third.0.1 third.2 in
            record {
              ident = four.bytes;
              size = size.bytes;
              header = third.0.0;
              text_is = four.text_is ∙ ap (λ z. four.bytes ++ z) (size.text_is ∙ ap (λ z. size.bytes ++ z) (parts.0 ∙ ap (λ z. third.0.0 ++ z) good.1)) ∙ sym (append_assoc four.bytes size.bytes (third.0.0 ++ p.1));
              is = four.says;
              says = rw parts.1 size.says;
              short = rw parts.1 (ltb-false _ _ t);
              good = good.0;
            }

-- a Void, or the header of the Segment
record HasVoid (text rest : List ℕ) : Type 0 where
  top : TopLevel
  text_is : text ≡ top_text top ++ rest
  is : IsVoid top

record HasHead (text : List ℕ) (known : Option ℕ) (rest : List ℕ) : Type 0 where
  ident : List ℕ
  size : List ℕ
  text_is : text ≡ (ident ++ size) ++ rest
  is : SaysFour ident segment
  says : SaysSize size known

abbrev HasRoot : Option (Option ℕ) → List ℕ → List ℕ → Type 0
HasRoot None text rest = HasVoid text rest
HasRoot (Some known) text rest = HasHead text known rest

void_sound : (text rest : List ℕ) (p : Unit {0} × List ℕ) → text ≡ void ∷ rest → void_read rest ≡ Ok p → HasVoid text p.1
unfolding void_read
void_sound text rest p whole h =
    let first = read_on_ok (top_size rest) void_sized p h in
    on_size first.0.0 first.0.1 (size_sound rest first.0 first.1) first.2
  where
    on_size : (known : Option ℕ) (more : List ℕ) → HasSize rest known more → void_sized known more ≡ Ok p → HasVoid text p.1
    on_size None more size h = absurd (err_is_no_ok (Met fault.BadElement more) p h)
    on_size (Some n) more size h =
        let gone = passed_sound n more p h in
        record {
          top = record { ident = void ∷ []; size = size.bytes; content = gone.0 };
          text_is = whole ∙ ap (λ z. void ∷ z) (size.text_is ∙ ap (λ z. size.bytes ++ z) gone.1 ∙ sym (append_assoc size.bytes gone.0 p.1));
          is = record { named = refl; sized = rw gone.2 size.says };
        }

head_sound : (first : ℕ) (text rest : List ℕ) (p : Option ℕ × List ℕ) → text ≡ first ∷ rest → segment_after first rest ≡ Ok p → HasHead text p.0 p.1
unfolding segment_after
head_sound first text rest p whole h =
    let others = read_on_ok (taken 3 rest) (λ others. if number_of (first ∷ others) == segment then top_size else refused fault.NotMatroska) p h in
    let parts = taken_sound 3 rest others.0 others.1 in
    on_test others.0.0 others.0.1 parts.0 parts.1 (number_of (first ∷ others.0.0) == segment) refl others.2
  where
    on_test : (others more : List ℕ) → rest ≡ others ++ more → length others ≡ 3 → (b : Bool) → (number_of (first ∷ others) == segment) ≡ b → (if number_of (first ∷ others) == segment then top_size else refused fault.NotMatroska) more ≡ Ok p → HasHead text p.0 p.1
    on_test others more parts three true t h =
        let size = size_sound more p (rw t at h) in
        record {
          ident = first ∷ others;
          size = size.bytes;
          text_is = whole ∙ ap (λ z. first ∷ z) (parts ∙ ap (λ z. others ++ z) size.text_is ∙ sym (append_assoc others size.bytes p.1));
          is = (omega (arith, three), eqb-true _ _ t);
          says = size.says;
        }
    on_test others more parts three false t h = absurd (err_is_no_ok (Met fault.NotMatroska more) p (rw t at h))

root_sound : (text : List ℕ) (p : Option (Option ℕ) × List ℕ) → root_read text ≡ Ok p → HasRoot p.0 text p.1
unfolding root_read
root_sound text p h =
    let first = read_on_ok (taken 1 text) (λ bytes. void_or_segment (slice_index bytes 0)) p h in
    let parts = taken_sound 1 text first.0 first.1 in
    on_bytes first.0.0 first.0.1 parts.0 parts.1 first.2
  where
    Root : Option (Option ℕ) × List ℕ → Type 0
    Root q = HasRoot q.0 text q.1

    on_first : (b : ℕ) (rest : List ℕ) → text ≡ b ∷ rest → (t : Bool) → (b == void) ≡ t → void_or_segment b rest ≡ Ok p → HasRoot p.0 text p.1
    on_first b rest whole true t h =
        let there : text ≡ void ∷ rest = whole ∙ ap (λ z. z ∷ rest) (eqb-true _ _ t) in
        let passed = read_on_ok (void_read rest) (λ _. given None) p (rw t at h) in
        subst Root (ok_is (None, passed.0.1) p passed.2) (void_sound text rest passed.0 there passed.1)
    on_first b rest whole false t h =
        let entered = read_on_ok (segment_after b rest) (λ size. given (Some size)) p (rw t at h) in
        subst Root (ok_is (Some entered.0.0, entered.0.1) p entered.2) (head_sound b text rest entered.0 whole entered.1)

    on_bytes : (bytes rest : List ℕ) → text ≡ bytes ++ rest → length bytes ≡ 1 → void_or_segment (slice_index bytes 0) rest ≡ Ok p → HasRoot p.0 text p.1
    on_bytes [] rest whole one h = absurd (omega (arith, one))
    on_bytes (b ∷ []) rest whole one h = on_first b rest whole (b == void) refl h
    on_bytes (a ∷ b ∷ more) rest whole one h = absurd (omega (arith, one))

-- Voids and the header of the Segment
pub record HasSegment (most : ℕ) (text : List ℕ) (known : Option ℕ) (rest : List ℕ) : Type 0 where
  pub voids : List TopLevel
  pub ident : List ℕ
  pub size : List ℕ
  pub text_is : text ≡ tops_text voids ++ ((ident ++ size) ++ rest)
  pub are : AreVoids voids
  pub few : length voids < most
  pub is : SaysFour ident segment
  pub says : SaysSize size known

pub entered_sound : (most : ℕ) (text : List ℕ) (p : Option ℕ × List ℕ) → segment_up_to most text ≡ Ok p → HasSegment most text p.0 p.1
unfolding segment_up_to
entered_sound zero text p h = absurd (err_is_no_ok (Met fault.NotMatroska text) p h)
entered_sound (suc most) text p h =
    let first = read_on_ok (root_read text) (root_or_on (segment_up_to most)) p h in
    on_root (λ more again. entered_sound most more p again) first.0.0 first.0.1 (root_sound text first.0 first.1) first.2
  where
    Begun : Option ℕ × List ℕ → Type 0
    Begun q = HasSegment (suc most) text q.0 q.1

    on_root : ((more : List ℕ) → segment_up_to most more ≡ Ok p → HasSegment most more p.0 p.1) → (o : Option (Option ℕ)) (more : List ℕ) → HasRoot o text more → root_or_on (segment_up_to most) o more ≡ Ok p → HasSegment (suc most) text p.0 p.1
    on_root again None more v h =
        let next = again more h in
        record {
          voids = v.top ∷ next.voids;
          ident = next.ident;
          size = next.size;
          text_is = v.text_is ∙ ap (λ z. top_text v.top ++ z) next.text_is ∙ sym (append_assoc (top_text v.top) (tops_text next.voids) ((next.ident ++ next.size) ++ p.1));
          are = (v.is, next.are);
          few = omega (arith, next.few);
          is = next.is;
          says = next.says;
        }
    on_root again (Some known) more s h = subst Begun (ok_is (known, more) p h) (record { voids = []; ident = s.ident; size = s.size; text_is = s.text_is; are = tt; few = omega arith; is = s.is; says = s.says })
