-- Writes a file of the head and the frames.
use Rattle.std.proofs.Common.{◌≡◌, ℕ, List, ◌++◌, ◌<◌, ◌≤◌, ◌^◌, ap, Bool, true, false, cond, refl}
use Rattle.std.proofs.Common.{sym, length, nat_le, flat_map, Option, Some, None, Result, Ok, Err}
use Rattle.std.proofs.Common.{arith, rules}
use Rattle.std.proofs.lemmas.Bool.{leb-true}
use Rattle.std.proofs.lemmas.List.{length-map}
use Rattle.std.proofs.lemmas.Result.{err_from_is_err_and}
use Rattle.ffv1_reads.specs.declared.fault.FileFault.{FileFault}
use Rattle.ffv1_reads.specs.declared.fault.FileFault.TheVariants as fault
use Rattle.ffv1_reads.specs.Head.{Head, head_of}
use Rattle.ffv1_avi.specs.Written.{file_of, frame_chunk, frames_of, head_text, most, movi}
use Rattle.ffv1_avi.specs.Written.{movi_size, riff_size, sizes_of, spelled}
use Rattle.ffv1_wire.specs.Passage.{between}
use Rattle.ffv1_reads.specs.Writes.{Writes}
use Rattle.ffv1_avi.specs.Writes.{WritesFile}
use Rattle.ffv1_avi.proofs.Sizes.{movi_count}
use Rattle.ffv1_reads.proofs.Writing.{writes_stop, writes_then}
use Rattle.ffv1_avi.proofs.write.write_avi.Goals as goal

record AreSizes (head : Head) (frames : List (List ℕ)) (p : ℕ × ℕ) : Type 0 where
  small : riff_size head frames ≤ most
  movi_is : p.0 ≡ movi_size frames
  riff_is : p.1 ≡ riff_size head frames

are_sizes : (head : Head) (frames : List (List ℕ)) (p : ℕ × ℕ) → Some p ≡ sizes_of head frames →
    AreSizes head frames p
are_sizes head frames p e = by_test (nat_le (riff_size head frames) most) refl e
  where
    same : (q : ℕ × ℕ) → Some p ≡ Some q → (p.0 ≡ q.0) × (p.1 ≡ q.1)
    same q e = let is : p ≡ q = cc in (ap (λ (z : ℕ × ℕ). z.0) is, ap (λ (z : ℕ × ℕ). z.1) is)

    by_test : (b : Bool) → nat_le (riff_size head frames) most ≡ b → Some p ≡ cond b
        (Some (movi_size frames, riff_size head frames)) None → AreSizes head frames p
    by_test true t e = let h = same (movi_size frames, riff_size head frames) e in
        record { small = leb-true _ _ t; movi_is = h.0; riff_is = h.1 }
    by_test false t e = absurd (cc)

writes_file : (old new : Option (List ℕ)) (m n : ℕ) (head : Head) (frames : List (List ℕ))
    (r : Result (Unit {0}) FileFault) → riff_size head frames ≤ most → Writes (between old new m n)
    (file_of head frames) r → WritesFile (between old new m n) head frames r
writes_file old new m n head frames (Ok u) small w = (small, w)
writes_file old new m n head frames (Err fault.Write) small w = (small, w)
writes_file old new m n head frames (Err f) small w = absurd w

pub overflow_cast-frames : goal.overflow_cast-frames
overflow_cast-frames g c =
    let q : ℕ × ℕ = (c.in-Some.movi, c.in-Some.riff) in
    let z = are_sizes (head_of c.args.head.now) (frames_of c.args.frames.now) q c.in-Some.ensures in
    let many = movi_count c.args.frames.now in
    let few : length c.args.frames.now < 2 ^ 32 = omega (arith, z.small, many) in
    search (rules, few)

pub returns-in_err-put_head : goal.returns-in_err-put_head
returns-in_err-put_head g c =
    let p = err_from_is_err_and c.from_residual.result c.from_residual.ensures.1 in
    let h = head_of c.args.head.now in
    let fs = frames_of c.args.frames.now in
    let q : ℕ × ℕ = (c.in-Some.movi, c.in-Some.riff) in
    let z = are_sizes h fs q c.in-Some.ensures in
    let count : length c.args.frames.now ≡ length fs =
    sym (length-map c.args.frames.now (λ v. v.items)) in
    let w = rw (count, z.riff_is) at c.in_err-put_head.ensures in
    rw (p.1, p.2) (writes_file _ _ _ _ h fs (Err c.in_err-put_head.field-0.0) z.small
    (writes_stop _ _ _ _ (head_text h (length fs) (riff_size h fs))
    (spelled (movi (movi_size fs)) ++ flat_map frame_chunk fs) _ w))

pub returns : goal.returns
returns g c =
    let h = head_of c.args.head.now in
    let fs = frames_of c.args.frames.now in
    let q : ℕ × ℕ = (c.in-Some.movi, c.in-Some.riff) in
    let z = are_sizes h fs q c.in-Some.ensures in
    let count : length c.args.frames.now ≡ length fs =
    sym (length-map c.args.frames.now (λ v. v.items)) in
    let w1 = rw (count, z.riff_is) at c.in_ok-put_head.ensures in
    let w2 = rw z.movi_is at c.put_movi.ensures in
    writes_file _ _ _ _ h fs c.put_movi.result z.small
    (writes_then _ _ _ _ _ _ (head_text h (length fs) (riff_size h fs))
    (spelled (movi (movi_size fs)) ++ flat_map frame_chunk fs) c.put_movi.result w1.0 w1.1 w2)
