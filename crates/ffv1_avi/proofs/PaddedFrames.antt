-- The bytes of a frame that comes next, with their padding.
use Rattle.std.proofs.Common.{◌≡◌, ◌∙◌, ◌+◌, ◌%◌, ℕ, nat_lt, Bool, true, false, List, [], length, take, drop, Some, Ok, Err, refl, sym, ap, arith}
use Rattle.std.proofs.lemmas.Bool.{le-ltb, lt-ltb, ltb-false, ltb-true}
use Rattle.std.proofs.lemmas.List.{drop-drop, length-drop}
use Rattle.ffv1_reads.specs.declared.fault.FileFault.{FileFault}
use Rattle.ffv1_reads.specs.declared.fault.FileFault.TheVariants as fault
use Rattle.ffv1_reads.specs.Reads.{Kept, Looked, Met, Short, Stop, Want}
use Rattle.ffv1_reads.proofs.Results.{ok_is}
use Rattle.ffv1_reads.specs.Items.{GivesFrame, Tells}
use Rattle.ffv1_avi.specs.Items.{headed_by, frame_given, framed, over}
use Rattle.ffv1_avi.specs.Padding.{content, padded}
use Rattle.ffv1_avi.specs.declared.course.Course.{Course}
use Rattle.ffv1_avi.specs.declared.place.Place.{Place}

module _ (size : ℕ) (text : List ℕ) where
  -- what content reads as: its bytes, or more are wanted
  whole : nat_lt (length text) size ≡ false → nat_lt (length (drop size text)) (size % 2) ≡ false → content Kept size text ≡ Ok (take size text, drop (size % 2) (drop size text))
  whole p q = rw (p, q) refl

  long : nat_lt (length text) size ≡ false → nat_lt (length (drop size text)) (size % 2) ≡ false → nat_lt (length text) (padded size) ≡ false
  long p q = le-ltb _ _ (omega (arith, ltb-false _ _ p, ltb-false _ _ q, length-drop size text))

  few : nat_lt (length text) size ≡ true → nat_lt (length text) (padded size) ≡ true
  few p = lt-ltb _ _ (omega (arith, ltb-true _ _ p))

  unpadded : nat_lt (length text) size ≡ false → nat_lt (length (drop size text)) (size % 2) ≡ true → nat_lt (length text) (padded size) ≡ true
  unpadded p q = lt-ltb _ _ (omega (arith, ltb-false _ _ p, ltb-true _ _ q, length-drop size text))

  rest_is : drop (size % 2) (drop size text) ≡ drop (padded size) text
  rest_is = drop-drop (size % 2) size text

  module _ (c : Course) (count : ℕ) (place : Place) where
    there : (bytes rest : List ℕ) (a b : Bool) → nat_lt (length text) size ≡ a → nat_lt (length (drop size text)) (size % 2) ≡ b → content Kept size text ≡ Ok (bytes, rest) → frame_given c count size place text ≡ Ok (Some (GivesFrame bytes, framed c count size place), rest)
    there bytes rest true b p q is = absurd (cc (rw p at is))
    there bytes rest false true p q is = absurd (cc (rw (p, q) at is))
    there bytes rest false false p q is =
        let same = ok_is (take size text, drop (size % 2) (drop size text)) (bytes, rest) (sym (whole p q) ∙ is) in
        let given : frame_given c count size place text ≡ Ok (Some (GivesFrame (take size text), framed c count size place), drop (padded size) text) = rw (long p q) refl in
        let other : frame_given c count size place text ≡ Ok (Some (GivesFrame (take size text), framed c count size place), drop (size % 2) (drop size text)) = given ∙ (rw (← rest_is) refl) in
        other ∙ ap (λ (z : List ℕ × List ℕ). Ok (Some (GivesFrame z.0, framed c count size place), z.1)) same

    short : (w : Want) (a b : Bool) → nat_lt (length text) size ≡ a → nat_lt (length (drop size text)) (size % 2) ≡ b → content Kept size text ≡ Err (Short w) → frame_given c count size place text ≡ Ok (Some (Tells fault.Truncated (headed_by c count), over c), [])
    short w true b p q is = rw (few p) refl
    short w false true p q is = rw (unpadded p q) refl
    short w false false p q is = absurd (cc (rw (p, q) at is))

  long_of : (bytes rest : List ℕ) (a b : Bool) → nat_lt (length text) size ≡ a → nat_lt (length (drop size text)) (size % 2) ≡ b → content Kept size text ≡ Ok (bytes, rest) → length rest + padded size ≡ length text
  long_of bytes rest true b p q is = absurd (cc (rw p at is))
  long_of bytes rest false true p q is = absurd (cc (rw (p, q) at is))
  long_of bytes rest false false p q is =
      let same : drop (size % 2) (drop size text) ≡ rest = ap (λ (z : List ℕ × List ℕ). z.1) (ok_is (take size text, drop (size % 2) (drop size text)) (bytes, rest) (sym (whole p q) ∙ is)) in
      let left : length (drop (size % 2) (drop size text)) ≡ length rest = ap length same in
      omega (arith, left, ltb-false _ _ p, ltb-false _ _ q, length-drop size text, length-drop (size % 2) (drop size text))

  meets : (rest : List ℕ) (f : FileFault) (a b : Bool) → nat_lt (length text) size ≡ a → nat_lt (length (drop size text)) (size % 2) ≡ b → content Kept size text ≡ Err (Met f rest) → ⊥
  meets rest f true b p q is = let both : ◌≡◌ {A = Stop} (Short Kept) (Met f rest) = cc (rw p at is) in absurd (cc)
  meets rest f false true p q is = let both : ◌≡◌ {A = Stop} (Short Looked) (Met f rest) = cc (rw (p, q) at is) in absurd (cc)
  meets rest f false false p q is = absurd (cc (rw (p, q) at is))

pub content_there : (c : Course) (count size : ℕ) (place : Place) (text bytes rest : List ℕ) → content Kept size text ≡ Ok (bytes, rest) → frame_given c count size place text ≡ Ok (Some (GivesFrame bytes, framed c count size place), rest)
content_there c count size place text bytes rest is = there size text c count place bytes rest (nat_lt (length text) size) (nat_lt (length (drop size text)) (size % 2)) refl refl is

pub content_short : (c : Course) (count size : ℕ) (place : Place) (text : List ℕ) (w : Want) → content Kept size text ≡ Err (Short w) → frame_given c count size place text ≡ Ok (Some (Tells fault.Truncated (headed_by c count), over c), [])
content_short c count size place text w is = short size text c count place w (nat_lt (length text) size) (nat_lt (length (drop size text)) (size % 2)) refl refl is

pub content_meets : (size : ℕ) (text rest : List ℕ) (f : FileFault) → content Kept size text ≡ Err (Met f rest) → ⊥
content_meets size text rest f is = meets size text rest f (nat_lt (length text) size) (nat_lt (length (drop size text)) (size % 2)) refl refl is

pub content_long : (size : ℕ) (text bytes rest : List ℕ) → content Kept size text ≡ Ok (bytes, rest) → length rest + padded size ≡ length text
content_long size text bytes rest is = long_of size text bytes rest (nat_lt (length text) size) (nat_lt (length (drop size text)) (size % 2)) refl refl is
