-- Coded bytes with their footers, one slice's after the other's, are cut where they were joined.
use Rattle.std.proofs.Common.{◌≡◌, refl, ℕ, zero, suc, ◌+◌, ◌-◌, ◌*◌, ◌/◌, ◌%◌, ◌<◌, ◌≤◌, Bool, true, false, Some, List, [], ◌∷◌, ◌++◌}
use Rattle.std.proofs.Common.{length, take, drop, get_or, slice_get, slice_index, ap, sym, ◌∙◌, arith, append_assoc, length-append}
use Rattle.std.proofs.lemmas.List.{get_or-append-add}
use Rattle.std.proofs.Math.Seq.{drop-append_seam, take-append_seam}
use Rattle.ffv1_range.specs.Codes.{AreBytes}
use Rattle.ffv1_record.specs.Configuration.{Configuration}
use Rattle.ffv1_record.specs.Parity.{remainder_of}
use Rattle.ffv1_slice.specs.Footer.{foot_length, footer_of}
use Rattle.ffv1_slice.specs.Cutting.{IsSized, IsSound, Cuts, slice_of, coded_of}
use Rattle.ffv1_slice.specs.Cutting.{joined_of, offset_in, AreCodedBytes, AreCodedIn}
use Rattle.ffv1_slice.proofs.WholeSlices.{footer_long}

-- slice s among them
pub record Stands (ec : Bool) (codes : List (List ℕ)) (s : ℕ) : Type 0 where
  pub bytes : List ℕ
  pub before : List ℕ
  pub rest : List ℕ
  pub is : slice_get codes s ≡ Some bytes
  pub are : AreBytes bytes
  pub few : length bytes ≤ 16777215
  pub parts : joined_of ec codes ≡ before ++ ((bytes ++ footer_of ec bytes) ++ rest)
  pub here : length before ≡ offset_in ec codes s
  pub next : offset_in ec codes (suc s) ≡ length before + (length bytes + foot_length ec)

pub stands : (ec : Bool) (codes : List (List ℕ)) (s : ℕ) → s < length codes → AreCodedBytes codes → Stands ec codes s
stands ec [] s inside are = absurd (omega (arith, inside))
stands ec (bytes ∷ more) zero inside are = record {
  bytes = bytes;
  before = [];
  rest = joined_of ec more;
  is = refl;
  are = are.0;
  few = are.1;
  parts = refl;
  here = refl;
  next = omega arith;
}
stands ec (bytes ∷ more) (suc s) inside are =
    let later = stands ec more s (omega (arith, inside)) are.2 in
    let first = bytes ++ footer_of ec bytes in
    let foot = footer_long ec bytes in
    let here = later.here in
    let next = later.next in
    let sum = length-append bytes (footer_of ec bytes) in
    let all = length-append first later.before in
    record {
      bytes = later.bytes;
      before = first ++ later.before;
      rest = later.rest;
      is = later.is;
      are = later.are;
      few = later.few;
      parts = ap (λ xs. first ++ xs) later.parts ∙ sym (append_assoc first later.before ((later.bytes ++ footer_of ec later.bytes) ++ later.rest));
      here = omega (arith, foot, here, sum, all);
      next = omega (arith, foot, here, next, sum, all);
    }

pub whole_length : (ec : Bool) (codes : List (List ℕ)) → offset_in ec codes (length codes) ≡ length (joined_of ec codes)
whole_length ec [] = refl
whole_length ec (bytes ∷ more) =
    let rest = whole_length ec more in
    let first = bytes ++ footer_of ec bytes in
    let foot = footer_long ec bytes in
    let sum = length-append bytes (footer_of ec bytes) in
    let all = length-append first (joined_of ec more) in
    omega (arith, rest, foot, sum, all)

-- the number of bytes in a footer
three : (n : ℕ) → n < 16777216 → 65536 * (n / 256 / 256 % 256) + 256 * (n / 256 % 256) + n % 256 ≡ n
three n small = omega (arith, small)

-- a position after two lists
at_place : (before bytes ys : List ℕ) (k : ℕ) → get_or (before ++ (bytes ++ ys)) (length before + length bytes + k) 0 ≡ get_or ys k 0
at_place before bytes ys k =
    let sum : length before + length bytes + k ≡ length before + (length bytes + k) = omega arith in
    ap (λ j. get_or (before ++ (bytes ++ ys)) j 0) sum
    ∙ get_or-append-add before (bytes ++ ys) (length bytes + k) 0
    ∙ get_or-append-add bytes ys k 0

-- the first three bytes of a footer, whatever follows
size_in : (ec : Bool) (bytes ys : List ℕ) →
    (get_or (footer_of ec bytes ++ ys) 0 0 ≡ length bytes / 256 / 256 % 256)
    × (get_or (footer_of ec bytes ++ ys) 1 0 ≡ length bytes / 256 % 256)
    × (get_or (footer_of ec bytes ++ ys) 2 0 ≡ length bytes % 256)
size_in false bytes ys = (refl, refl, refl)
size_in true bytes ys = (refl, refl, refl)

status_in : (bytes ys : List ℕ) → get_or (footer_of true bytes ++ ys) 3 0 ≡ 0
status_in bytes ys = refl

pub joined_sized : (ec : Bool) (codes : List (List ℕ)) (s : ℕ) → Stands ec codes s → IsSized (joined_of ec codes) (foot_length ec) (offset_in ec codes) s
joined_sized ec codes s st =
    let foot = foot_length ec in
    let all = joined_of ec codes in
    let ys = footer_of ec st.bytes ++ st.rest in
    let at : ℕ = length st.before + length st.bytes in
    let here = st.here in
    let next = st.next in
    let begin : offset_in ec codes (suc s) - foot ≡ at = omega (arith, next) in
    let parts : all ≡ st.before ++ (st.bytes ++ ys) = st.parts ∙ ap (λ xs. st.before ++ xs) (append_assoc st.bytes (footer_of ec st.bytes) st.rest) in
    let byte : (k : ℕ) → get_or all (at + k) 0 ≡ get_or ys k 0 = λ k. ap (λ xs. get_or xs (at + k) 0) parts ∙ at_place st.before st.bytes ys k in
    let size = size_in ec st.bytes st.rest in
    let none : at ≡ at + 0 = omega arith in
    let b0 : get_or all (offset_in ec codes (suc s) - foot) 0 ≡ length st.bytes / 256 / 256 % 256 = ap (λ k. get_or all k 0) (begin ∙ none) ∙ byte 0 ∙ size.0 in
    let b1 : get_or all (offset_in ec codes (suc s) - foot + 1) 0 ≡ length st.bytes / 256 % 256 = ap (λ k. get_or all (k + 1) 0) begin ∙ byte 1 ∙ size.1 in
    let b2 : get_or all (offset_in ec codes (suc s) - foot + 2) 0 ≡ length st.bytes % 256 = ap (λ k. get_or all (k + 2) 0) begin ∙ byte 2 ∙ size.2 in
    let few = st.few in
    let number = three (length st.bytes) (omega (arith, few)) in
    omega (arith, here, next, b0, b1, b2, number)

-- the parts of a joined payload
pub joined_parts : (ec : Bool) (codes : List (List ℕ)) (s : ℕ) → Stands ec codes s → (st : Stands ec codes s) →
    (slice_of (joined_of ec codes) (offset_in ec codes) s ≡ st.bytes ++ footer_of ec st.bytes)
    × (coded_of (joined_of ec codes) (foot_length ec) (offset_in ec codes) s ≡ st.bytes)
joined_parts ec codes s unused st =
    let foot = foot_length ec in
    let slice = st.bytes ++ footer_of ec st.bytes in
    let here = st.here in
    let next = st.next in
    let footed = footer_long ec st.bytes in
    let sum = length-append st.bytes (footer_of ec st.bytes) in
    let behind : drop (offset_in ec codes s) (joined_of ec codes) ≡ slice ++ st.rest =
    ap (λ k. drop k (joined_of ec codes)) (sym here) ∙ ap (drop (length st.before)) st.parts ∙ drop-append_seam st.before (slice ++ st.rest) in
    let long : offset_in ec codes (suc s) - offset_in ec codes s ≡ length slice = omega (arith, here, next, sum, footed) in
    let short : offset_in ec codes (suc s) - foot - offset_in ec codes s ≡ length st.bytes = omega (arith, here, next) in (
      ap (λ k. take k (drop (offset_in ec codes s) (joined_of ec codes))) long ∙ ap (take (length slice)) behind ∙ take-append_seam slice st.rest,
      ap (λ k. take k (drop (offset_in ec codes s) (joined_of ec codes))) short ∙ ap (take (length st.bytes)) behind
          ∙ ap (take (length st.bytes)) (append_assoc st.bytes (footer_of ec st.bytes) st.rest)
          ∙ take-append_seam st.bytes (footer_of ec st.bytes ++ st.rest),
    )

pub joined_status : (codes : List (List ℕ)) (s : ℕ) → (st : Stands true codes s) → slice_index (joined_of true codes) (offset_in true codes (suc s) - 5) ≡ 0
joined_status codes s st =
    let ys = footer_of true st.bytes ++ st.rest in
    let at : ℕ = length st.before + length st.bytes in
    let next = st.next in
    let place : offset_in true codes (suc s) - 5 ≡ at + 3 = omega (arith, next) in
    let parts : joined_of true codes ≡ st.before ++ (st.bytes ++ ys) = st.parts ∙ ap (λ xs. st.before ++ xs) (append_assoc st.bytes (footer_of true st.bytes) st.rest) in
    ap (λ k. get_or (joined_of true codes) k 0) place ∙ ap (λ xs. get_or xs (at + 3) 0) parts ∙ at_place st.before st.bytes ys 3 ∙ status_in st.bytes st.rest

pub joined_sound : (ec : Bool) (codes : List (List ℕ)) (s : ℕ) → ((bytes : List ℕ) → AreBytes bytes → remainder_of (bytes ++ footer_of true bytes) ≡ 0) →
    Stands ec codes s → IsSound ec (joined_of ec codes) (offset_in ec codes) s
joined_sound false codes s whole st = tt
joined_sound true codes s whole st = record {
  parity = ap remainder_of (joined_parts true codes s st st).0 ∙ whole st.bytes st.are;
  status = joined_status codes s st;
}

pub joined_cuts : (c : Configuration) (codes : List (List ℕ)) → ((bytes : List ℕ) → AreBytes bytes → remainder_of (bytes ++ footer_of true bytes) ≡ 0) →
    AreCodedBytes codes → length codes ≡ c.columns * c.rows → Cuts c (joined_of c.ec codes) (offset_in c.ec codes)
joined_cuts c codes whole are many = record {
  cutting = record {
    first = refl;
    last = ap (offset_in c.ec codes) (sym many) ∙ whole_length c.ec codes;
    each = λ s inside. joined_sized c.ec codes s (stands c.ec codes s (omega (arith, inside, many)) are);
  };
  sound = λ s inside. joined_sound c.ec codes s whole (stands c.ec codes s (omega (arith, inside, many)) are);
}

pub joined_coded : (ec : Bool) (codes : List (List ℕ)) → AreCodedBytes codes → AreCodedIn (joined_of ec codes) (foot_length ec) (offset_in ec codes) codes
joined_coded ec codes are = record {
  each = λ s inside.
      let st = stands ec codes s inside are in
      st.is ∙ ap Some (sym (joined_parts ec codes s st st).1);
}
