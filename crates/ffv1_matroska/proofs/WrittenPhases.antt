-- Where a reader of a written Segment stands, from one element to the next.
use Rattle.std.proofs.Common.{append-nil, ◌≡◌, ◌⊎◌, ◌<◌, ◌+◌, ◌-◌, ◌^◌, ◌∙◌, ◌++◌, ℕ, suc, List, [], ◌∷◌, Bool, true, false, Option, Some, None, Result, Ok, length, refl, sym, ap, arith, inl, inr, append_assoc, length-append}
use Rattle.std.specs.Int.{bytes_high_first, bytes_low_first}
use Rattle.ffv1_sum.specs.Sum.{crc_of, number_of as low_number, turned}
use Rattle.ffv1_reads.specs.Reads.{Kept, Stop, given, read_on}
use Rattle.ffv1_reads.proofs.Results.{ok_is}
use Rattle.ffv1_reads.proofs.WantedBytes.{wanted_complete}
use Rattle.ffv1_ebml.specs.Spelled.{ident_bytes, number_element, short}
use Rattle.ffv1_ebml.specs.Sums.{summed}
use Rattle.ffv1_ebml.specs.declared.sum.Sum.{Sum}
use Rattle.ffv1_ebml.specs.declared.sum.Sum.TheVariants.{Absent, Begins, Awaits}
use Rattle.ffv1_matroska.specs.Offsets.{element_taken, frame_taken, step_taken}
use Rattle.ffv1_matroska.specs.Places.{closed, is_sound, summed_at}
use Rattle.ffv1_matroska.specs.Segments.{step_read}
use Rattle.ffv1_matroska.specs.Written.{checked, cluster_content, cluster_element, clusters_from, long_element}
use Rattle.ffv1_matroska.specs.WrittenFiles.{AreWritten}
use Rattle.ffv1_matroska.specs.WrittenIdents.{cues, timestamp}
use Rattle.ffv1_matroska.specs.declared.place.Place.{Place}
use Rattle.ffv1_matroska.specs.declared.place.Step.{Step}
use Rattle.ffv1_matroska.proofs.PieceLaws.{IsPast, past_summed}
use Rattle.ffv1_matroska.proofs.WrittenBytes.{AreBytes}
use Rattle.ffv1_matroska.proofs.WrittenClusters.{written_numbers}
use Rattle.ffv1_matroska.proofs.WrittenSteps.{at, block_of, block_some, block_step, cluster_step, crc_step, cues_step, end_step, time_step}

-- before a Cluster of this number or what comes after the last one, which are Cues of some content
-- or nothing; and in a Cluster with a frame, after its header, its CRC-32 or its Timestamp
pub data Phase : Type 0 where
  Before : ℕ → List (List ℕ) → Option (List ℕ) → Sum → Phase
  Entered : ℕ → List ℕ → List (List ℕ) → Option (List ℕ) → Phase
  Summed : ℕ → List ℕ → List (List ℕ) → Option (List ℕ) → Sum → Phase
  Dated : ℕ → List ℕ → List (List ℕ) → Option (List ℕ) → Sum → Phase

-- what comes after the last Cluster
abbrev pub tail_text : Option (List ℕ) → List ℕ
tail_text None = []
tail_text (Some content) = long_element cues (checked content)

-- the Clusters from this one on, and what comes after them
abbrev pub after : ℕ → List (List ℕ) → Option (List ℕ) → List ℕ
after number frames tail = clusters_from number frames ++ tail_text tail

-- the bytes that are left there
abbrev pub text_of : Phase → List ℕ
text_of (Before number frames tail s) = after number frames tail
text_of (Entered number frame frames tail) = checked (cluster_content number frame) ++ after (suc number) frames tail
text_of (Summed number frame frames tail s) = cluster_content number frame ++ after (suc number) frames tail
text_of (Dated number frame frames tail s) = block_of frame ++ after (suc number) frames tail

-- and the place, in a Segment that counts so many bytes more
abbrev pub place_of : Bool → ℕ → Phase → Place
place_of e spare (Before number frames tail s) = at e (length (after number frames tail) + spare) 0 s
place_of e spare (Entered number frame frames tail) = at e (length (after (suc number) frames tail) + spare) (length (checked (cluster_content number frame))) Begins
place_of e spare (Summed number frame frames tail s) = at e (length (after (suc number) frames tail) + spare) (length (cluster_content number frame)) s
place_of e spare (Dated number frame frames tail s) = at e (length (after (suc number) frames tail) + spare) (length (block_of frame)) s

-- what an element is: its frame, its time
abbrev pub frame_of : Phase → Option ℕ
frame_of (Before number frames tail s) = None
frame_of (Entered number frame frames tail) = None
frame_of (Summed number frame frames tail s) = None
frame_of (Dated number frame frames tail s) = Some (length frame)

abbrev pub time_at : Phase → Option ℕ
time_at (Before number frames tail s) = None
time_at (Entered number frame frames tail) = None
time_at (Summed number frame frames tail s) = Some number
time_at (Dated number frame frames tail s) = Some 0

abbrev pub step_by : Phase → Place → Step
step_by p place = record { frame = frame_of p; time = time_at p; place = place }

-- none comes at the end
abbrev pub step_of : Phase → Place → Option Step
step_of (Before number [] None s) place = None
step_of (Before number [] (Some content) s) place = Some (step_by (Before number [] (Some content) s) place)
step_of (Before number (frame ∷ frames) tail s) place = Some (step_by (Before number (frame ∷ frames) tail s) place)
step_of (Entered number frame frames tail) place = Some (step_by (Entered number frame frames tail) place)
step_of (Summed number frame frames tail s) place = Some (step_by (Summed number frame frames tail s) place)
step_of (Dated number frame frames tail s) place = Some (step_by (Dated number frame frames tail s) place)

-- what comes after it, with this sum
abbrev pub next_of : Phase → Sum → Phase
next_of (Before number [] None s) x = Before number [] None s
next_of (Before number [] (Some content) s) x = Before number [] None x
next_of (Before number (frame ∷ frames) tail s) x = Entered number frame frames tail
next_of (Entered number frame frames tail) x = Summed number frame frames tail x
next_of (Summed number frame frames tail s) x = Dated number frame frames tail x
next_of (Dated number frame frames tail s) x = Before (suc number) frames tail x

-- Cues are bytes, and not too many
abbrev pub IsTail : Option (List ℕ) → Type 0
IsTail None = Unit {0}
IsTail (Some content) = AreBytes content × (length (checked content) < 2 ^ 56 - 1)

abbrev Fits : ℕ → List (List ℕ) → Option (List ℕ) → Type 0
Fits number frames tail = (number + length frames < 2 ^ 63) × AreWritten frames × IsTail tail

abbrev pub IsFine : Phase → Type 0
IsFine (Before number frames tail s) = Fits number frames tail
IsFine (Entered number frame frames tail) = Fits number (frame ∷ frames) tail
IsFine (Summed number frame frames tail s) = IsPast s × Fits number (frame ∷ frames) tail
IsFine (Dated number frame frames tail s) = IsPast s × Fits number (frame ∷ frames) tail

fits_next : (number : ℕ) (frame : List ℕ) (frames : List (List ℕ)) (tail : Option (List ℕ)) → Fits number (frame ∷ frames) tail → Fits (suc number) frames tail
fits_next number frame frames tail (few, written, is) = (omega (arith, few), written.1, is)

pub content_some : (number : ℕ) (frame : List ℕ) → 0 < length (cluster_content number frame)
unfolding cluster_content
content_some number frame = omega (arith, length-append (number_element timestamp 8 number) (block_of frame), block_some frame)

module _ (duration : ℕ) (e : Bool) (spare : ℕ) (ends : (spare ≡ 0) ⊎ (e ≡ true)) where
  abbrev pub Lands : Phase → Place → List ℕ → Type 0
  Lands p to left = (x : Sum) × (to ≡ place_of e spare (next_of p x)) × (left ≡ text_of (next_of p x)) × IsFine (next_of p x)

  -- the element that comes next, and where it leads to if it is read
  pub record Comes (p : Phase) : Type 0 where
    pub place : Place
    pub rest : List ℕ
    pub read : step_read (written_numbers duration) (place_of e spare p) (text_of p) ≡ Ok (step_of p place, rest)
    pub lands : (to : Place) (left : List ℕ) → step_taken (place_of e spare p) (step_of p place) rest ≡ Ok (to, left) → Lands p to left

  -- it is where it is given
  landed : (p : Phase) (x : Sum) (place : Place) (rest : List ℕ) → place ≡ place_of e spare (next_of p x) → rest ≡ text_of (next_of p x) → IsFine (next_of p x) → (to : Place) (left : List ℕ) → ◌≡◌ {A = Result (Place × List ℕ) Stop} (Ok (place, rest)) (Ok (to, left)) → Lands p to left
  landed p x place rest here text fine to left is =
      let same = ok_is (place, rest) (to, left) is in
      (x, ap (λ (z : Place × List ℕ). z.0) (sym same) ∙ here, ap (λ (z : Place × List ℕ). z.1) (sym same) ∙ text, fine)

  -- behind a frame, if its Cluster is sound
  frame_lands : (number : ℕ) (frame : List ℕ) (frames : List (List ℕ)) (tail : Option (List ℕ)) (s sum : Sum) → Fits (suc number) frames tail → (to : Place) (left : List ℕ) →
      frame_taken (at e (length (after (suc number) frames tail) + spare) 0 sum) (Some (length frame)) (frame ++ after (suc number) frames tail) ≡ Ok (to, left) → Lands (Dated number frame frames tail s) to left
  frame_lands number frame frames tail s sum fits to left is = on_sound (is_sound now) refl
    where
      rest : List ℕ
      rest = after (suc number) frames tail

      now : Place
      now = at e (length rest + spare) 0 (summed sum frame)

      kept : closed now now rest ≡ Ok (to, left)
      kept = sym (ap (λ z. read_on {X = List ℕ × Sum} (read_on z (λ bytes. given (bytes, summed sum bytes))) (λ q. closed (summed_at (at e (length rest + spare) 0 sum) q.1) (summed_at (at e (length rest + spare) 0 sum) q.1))) (wanted_complete Kept (length frame) frame rest refl)) ∙ is

      on_sound : (b : Bool) → is_sound now ≡ b → Lands (Dated number frame frames tail s) to left
      on_sound true sound = landed (Dated number frame frames tail s) (summed sum frame) now rest refl refl fits to left (rw sound at kept)
      on_sound false sound = absurd (cc (rw sound at kept))

  pub comes : (p : Phase) → IsFine p → Comes p
  unfolding clusters_from
  comes (Before number [] None s) fine =
      let none : 0 + spare ≡ spare = omega arith in
      record {
        place = at e (0 + spare) 0 s;
        rest = [];
        read = end_step (written_numbers duration) e (0 + spare) s (ends_at none ends);
        lands = landed (Before number [] None s) s (at e (0 + spare) 0 s) [] refl refl fine;
      }
    where
      ends_at : 0 + spare ≡ spare → (spare ≡ 0) ⊎ (e ≡ true) → (0 + spare ≡ 0) ⊎ (e ≡ true)
      ends_at same (inl none) = inl (same ∙ none)
      ends_at same (inr endless) = inr endless
  comes (Before number [] (Some content) s) fine =
      let text = long_element cues (checked content) in
      let none : 0 + spare ≡ spare = omega arith in
      let whole = append_none text in
      record {
        place = at e spare 0 Absent;
        rest = [];
        read = ap (step_read (written_numbers duration) (at e (length text + spare) 0 s)) whole ∙ cues_step (written_numbers duration) e spare content [] s fine.2.0 fine.2.1;
        lands = landed (Before number [] (Some content) s) Absent (at e spare 0 Absent) [] (ap (λ k. at e k 0 Absent) (sym none)) refl (fine.0, tt, tt);
      }
    where
      append_none : (text : List ℕ) → text ≡ text ++ []
      append_none text = sym (simp append-nil)
  comes (Before number (frame ∷ frames) tail s) fine =
      let one = cluster_element number frame in
      let more = clusters_from (suc number) frames in
      let rest = more ++ tail_text tail in
      let long_is : length ((one ++ more) ++ tail_text tail) + spare ≡ length one + (length rest + spare) = omega (arith, ap length (append_assoc one more (tail_text tail)), length-append one rest) in
      let content = checked (cluster_content number frame) in
      let place = at e (length rest + spare) (length content) Begins in
      record {
        place = place;
        rest = content ++ rest;
        read = ap (λ k. step_read (written_numbers duration) (at e k 0 s) ((one ++ more) ++ tail_text tail)) long_is
            ∙ ap (step_read (written_numbers duration) (at e (length one + (length rest + spare)) 0 s)) (append_assoc one more (tail_text tail))
            ∙ cluster_step (written_numbers duration) e (length rest + spare) number frame rest s fine.1.0.1;
        lands = landed (Before number (frame ∷ frames) tail s) s place (content ++ rest) refl refl fine;
      }
  comes (Entered number frame frames tail) fine =
      let rest = after (suc number) frames tail in
      let content = cluster_content number frame in
      let sum = Awaits (low_number (bytes_low_first 0 4 (crc_of content))) turned in
      let place = at e (length rest + spare) (length content) sum in
      record {
        place = place;
        rest = content ++ rest;
        read = crc_step (written_numbers duration) e (length rest + spare) content rest (content_some number frame);
        lands = landed (Entered number frame frames tail) sum place (content ++ rest) refl refl (tt, fine);
      }
  comes (Summed number frame frames tail s) (past, fine) =
      let rest = after (suc number) frames tail in
      let sum = summed (summed s (ident_bytes timestamp ++ short 8)) (bytes_high_first 8 number) in
      let place = at e (length rest + spare) (length (block_of frame)) sum in
      let small = fine.0 in
      record {
        place = place;
        rest = block_of frame ++ rest;
        read = time_step (written_numbers duration) e (length rest + spare) number frame rest s past (omega (arith, small));
        lands = landed (Summed number frame frames tail s) sum place (block_of frame ++ rest) refl refl (past_summed (summed s (ident_bytes timestamp ++ short 8)) (bytes_high_first 8 number) (past_summed s (ident_bytes timestamp ++ short 8) past), fine);
      }
  comes (Dated number frame frames tail s) (past, fine) =
      let rest = after (suc number) frames tail in
      let one = block_step duration e (length rest + spare) frame rest s past fine.1.0.0 fine.1.0.1 in
      record {
        place = at e (length rest + spare) 0 one.0;
        rest = frame ++ rest;
        read = one.1;
        lands = frame_lands number frame frames tail s one.0 (fits_next number frame frames tail fine);
      }

  -- one element more
  pub goes_on : (p : Phase) (to : Place) (left : List ℕ) → IsFine p → element_taken (written_numbers duration) (place_of e spare p) (text_of p) ≡ Ok (to, left) → Lands p to left
  unfolding element_taken
  goes_on p to left fine is =
      let c = comes p fine in
      c.lands to left (sym (ap (λ z. read_on z (step_taken (place_of e spare p))) c.read) ∙ is)
