-- Parts of a line that are written one after the other.
use Rattle.std.proofs.Common.{◌≡◌, ℕ, ◌+◌, ◌<◌, ◌≤◌, Option, Result, Ok, Err, List, ◌++◌, length, take, refl, true, true≢false, inl, inr, ap, sym, subst, ◌∙◌, arith, length-append}
use Rattle.std.specs.Io.KnownBytes.{Appends}
use Rattle.std.specs.Result.{is_err}
use Rattle.std.proofs.KnownBytes.{Appends-trans}
use Rattle.std.proofs.lemmas.List.{take-append-le}
use Rattle.ffv1_wire.specs.Failures.{one_more}
use Rattle.ffv1_wire.specs.Passage.{between}
use Rattle.ffv1_video.specs.declared.fault.Fault.{Fault}
use Rattle.ffv1_video.specs.declared.fault.Fault.TheVariants as fault
use Rattle.ffv1_unpack.specs.Internal.FrameLines.{WritesPart}
use Rattle.ffv1_unpack.specs.Internal.Told.{WritesFrame}
use Rattle.ffv1_video.proofs.Output.{take_past}

-- parts that were written one after the other
pub parts_done : (o m n : Option (List ℕ)) (b c a : ℕ) (xs ys : List ℕ) → (c ≡ b) × Appends o m xs → (a ≡ c) × Appends m n ys → (a ≡ b) × Appends o n (xs ++ ys)
parts_done o m n b c a xs ys first h = (h.0 ∙ first.0, Appends-trans o m n xs ys first.1 h.1)

-- a part after others that were written
pub part_then : {E : Type 0} (o m n : Option (List ℕ)) (b c a : ℕ) (xs ys : List ℕ) (r : Result (Unit {0}) E) → (c ≡ b) × Appends o m xs → WritesPart ys (between m n c a) r →
    WritesPart (xs ++ ys) (between o n b a) r
part_then o m n b c a xs ys (Ok done) first h = parts_done o m n b c a xs ys first h
part_then o m n b c a xs ys (Err e) first h =
    let long : length (xs ++ ys) ≡ length xs + length ys = length-append xs ys in
    let short : length xs + h.1.0 < length (xs ++ ys) = omega (arith, long, h.1.1) in
    (h.0 ∙ ap one_more first.0, (length xs + h.1.0, short, subst (Appends o n) (sym (take_past xs ys h.1.0)) (Appends-trans o m n xs (take h.1.0 ys) first.1 h.1.2)))

-- a part that was not written whole, before others
pub part_stops : {E : Type 0} (o n : Option (List ℕ)) (b a : ℕ) (xs ys : List ℕ) (e : E) → WritesPart xs (between o n b a) (Err e) → WritesPart {E = E} (xs ++ ys) (between o n b a) (Err e)
part_stops o n b a xs ys e h =
    let long : length (xs ++ ys) ≡ length xs + length ys = length-append xs ys in
    let most : h.1.0 ≤ length xs = omega (arith, h.1.1) in
    let short : h.1.0 < length (xs ++ ys) = omega (arith, long, h.1.1) in
    (h.0, (h.1.0, short, subst (Appends o n) (sym (take-append-le h.1.0 xs ys most)) h.1.2))

-- a frame's lines whose first part was not written whole, or lacked memory
pub frame_stops : (o n : Option (List ℕ)) (b a : ℕ) (xs ys : List ℕ) (f : Fault) → WritesFrame xs (between o n b a) (Err f) → WritesFrame (xs ++ ys) (between o n b a) (Err f)
frame_stops o n b a xs ys f h = elim h [
  | inl write ↦ let part = part_stops o n b a xs ys f (write.1, write.2) in inl (write.0, part.0, part.1)
  | inr none ↦ inr none
]

-- a line after those that were written was not written
pub line_not_written : {E : Type 0} (o m n : Option (List ℕ)) (b c a : ℕ) (xs ys : List ℕ) (r : Result (Unit {0}) E) → is_err r ≡ true → (c ≡ b) × Appends o m xs → WritesPart ys (between m n c a) r →
    WritesFrame (xs ++ ys) (between o n b a) (Err fault.Write)
line_not_written o m n b c a xs ys (Ok done) failed first h = absurd (true≢false (sym failed))
line_not_written o m n b c a xs ys (Err e) failed first h = let part = part_then o m n b c a xs ys (Err e) first h in inl (refl, part.0, part.1)
