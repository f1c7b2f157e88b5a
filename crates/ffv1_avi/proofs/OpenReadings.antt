-- Chunks of an RIFF or a movi without size, by the calls of which the reading of each is made.
use Rattle.std.proofs.Common.{◌≡◌, inl, inr, ◌+◌, ◌-◌, ◌^◌, ◌≤◌, ◌<◌, ◌==◌, min, nat_lt, ℕ, Bool, true, false, Option, Some, None, Result, Ok, List, [], ◌++◌, length, codes, refl, sym, ap, ◌∙◌, subst, arith, length-append}
use Rattle.std.proofs.lemmas.Bool.{le-ltb, ltb-false, ne_eqb}
use Rattle.byteorder.specs.Endian.{little_number}
use Rattle.ffv1_reads.specs.declared.fault.FileFault.{FileFault}
use Rattle.ffv1_reads.specs.Ends.{RefusedOrEnds}
use Rattle.ffv1_reads.specs.Offsets.{ReadsCounted}
use Rattle.ffv1_reads.specs.Reads.{Read, Stop, read_on, ◌>>=◌}
use Rattle.ffv1_reads.proofs.EndRefusals.{ends_refused_none}
use Rattle.ffv1_reads.proofs.OffsetLaws.{counts_more}
use Rattle.ffv1_reads.proofs.Reading.{goes_none, goes_same}
use Rattle.ffv1_reads.proofs.Results.{ok_is, some_is}
use Rattle.ffv1_avi.specs.declared.chunk.Entry.{Entry}
use Rattle.ffv1_avi.specs.declared.place.Extent.TheVariants.{EveryRiff}
use Rattle.ffv1_avi.specs.declared.place.Open.{Open}
use Rattle.ffv1_avi.specs.declared.place.Open.TheVariants.{Sized, OpenRiff, OpenMovi}
use Rattle.ffv1_avi.specs.declared.place.Place.{Place}
use Rattle.ffv1_avi.specs.Internal.Ending.{ReadOrNone, RefusedOrNone}
use Rattle.ffv1_avi.specs.Internal.Offsets.{FrameStarts, step_size}
use Rattle.ffv1_avi.specs.Names.{rule_of}
use Rattle.ffv1_avi.specs.Offsets.{ReadsUpTo, beyond_taken, chunk_taken, movi_left, open_taken}
use Rattle.ffv1_avi.specs.Opens.{Step, open_found, open_framed, open_named, open_passed, visit_movi, visit_riff}
use Rattle.ffv1_avi.specs.Padding.{padded}
use Rattle.ffv1_avi.specs.Places.{ended, is_open, open_at, open_frame_at}
use Rattle.ffv1_avi.specs.Walk.{entry_of, size_in}
use Rattle.ffv1_avi.proofs.ChunkReadings.{visit_takes}
use Rattle.ffv1_avi.proofs.OpenCases.{IsAhead, IsOfMovi, IsOfRiff, IsStep, open_case}
use Rattle.ffv1_avi.proofs.RiffReadings.{counts_more_by, over, riff_takes}
use Rattle.ffv1_avi.proofs.TakenChunks.{size_fits}

-- the bytes of movi do not matter
open_left : (place : Place) (text : List ℕ) → open_found (movi_left place 0) text ≡ open_found place text
unfolding open_found open_named
open_left place text = refl

-- so the end is the same
pub open_over : (place : Place) {b c : Option (List ℕ)} → ReadOrNone EveryRiff (open_found place) b c None → ReadOrNone EveryRiff (open_found (movi_left place 0)) b c None
unfolding open_found open_named
open_over place h = h

-- what comes after movi is a chunk
pub open_chunk : (place : Place) → is_open place.open_in ≡ true → 0 < place.input → (text : List ℕ) → chunk_taken (movi_left place 0) text ≡ (open_found place >>= open_taken) text
unfolding chunk_taken Rattle.ffv1_avi.specs.Walk.entry_in
open_chunk place unknown some text =
    let more : (place.input == 0) ≡ false = ne_eqb place.input 0 (λ e. omega (arith, e, some)) in
    rw more (by_open place.open_in unknown)
  where
    by_open : (o : Open) → is_open o ≡ true → beyond_taken o (movi_left place 0) text ≡ (open_found place >>= open_taken) text
    by_open Sized e = absurd (cc)
    by_open OpenRiff e = ap (λ z. read_on z open_taken) (open_left place text)
    by_open OpenMovi e = ap (λ z. read_on z open_taken) (open_left place text)

-- how many bytes a step reads
abbrev pub step_long : Place → Step → ℕ
step_long place (None, next) = step_size place next
step_long place (Some size, next) = 8

-- those of a chunk, or of a movi that was entered
long_chunk : (place next : Place) (n : ℕ) → next.movi ≡ 0 → next.input + n ≡ place.input → step_size place next ≡ n
long_chunk place next n none all = rw (le-ltb 0 next.movi (omega (arith, none))) (omega (arith, all))

long_movi : (place next : Place) → next.movi + next.input + 12 ≤ place.input + next.movi → (next.movi ≡ 0 → next.input + 12 ≡ place.input) → step_size place next ≡ 12
long_movi place next room all = on_movi (nat_lt 0 next.movi) refl
  where
    on_movi : (b : Bool) → nat_lt 0 next.movi ≡ b → step_size place next ≡ 12
    on_movi true p = rw p refl
    on_movi false p = let none : next.movi ≡ 0 = omega (arith, ltb-false _ _ p) in rw p (omega (arith, all none))

twelve : (a size b rest text : List ℕ) → length a ≡ 4 → length size ≡ 4 → length b ≡ 4 → text ≡ (a ++ size ++ b) ++ rest → length text ≡ length rest + 12
twelve a size b rest text one two three whole = omega (arith, one, two, three, ap length whole, length-append ((a ++ size) ++ b) rest, length-append (a ++ size) b, length-append a size)

-- a chunk of RIFF
riff_long : (place : Place) (text : List ℕ) (next : Place) (rest : List ℕ) → IsOfRiff place text next rest → length text ≡ length rest + step_size place next
riff_long place text next rest is = subst P (sym is.place_is) (on_found is.found is.visit)
  where
    P : Place → Type 0
    P z = length text ≡ length rest + step_size place z

    n : ℕ
    n = little_number 4 is.size

    e : Entry
    e = entry_of (place.input - 1) is.name n

    left : ℕ
    left = place.input - 1 - (8 + padded n)

    front : length text ≡ length is.middle + 8
    front = omega (arith, is.named, is.sized, ap length is.text_is, length-append (is.name ++ is.size) is.middle, length-append is.name is.size)

    on_found : (o : Option (ℕ × ℕ)) → visit_riff place.names tt e is.middle ≡ Ok ((tt, o), rest) → P (open_passed place left o)
    on_found None visit =
        let takes = ((riff_takes place.names e is.room).only is.middle rest (tt, None) visit).1 in
        omega (arith, front, takes, long_chunk place (open_passed place left None) (8 + padded n) refl (omega (arith, is.whole)))
    on_found (Some p) visit =
        let both = (riff_takes place.names e is.room).only is.middle rest (tt, Some p) visit in
        let stop = Rattle.ffv1_avi.proofs.RiffLaws.riff_stop place.names tt e is.middle tt p rest visit in
        let next = open_passed place left (Some p) in
        omega (arith, front, both.0, both.1, long_movi place next (omega (arith, is.whole, both.0)) (λ none. omega (arith, none, stop.size, both.0, is.whole)))

-- a chunk of movi
movi_long : (place : Place) (text : List ℕ) (s : Step) (rest : List ℕ) → IsOfMovi place text s rest → length text ≡ length rest + step_long place s
movi_long place text s rest is = on_found is.found is.visit is.step
  where
    P : Step → Type 0
    P z = length text ≡ length rest + step_long place z

    n : ℕ
    n = little_number 4 is.size

    k : ℕ
    k = size_in (rule_of place.names) is.name n

    e : Entry
    e = entry_of (place.input - 1) is.name k

    left : ℕ
    left = place.input - 1 - (8 + padded k)

    fits : padded k ≤ padded n
    fits = size_fits (rule_of place.names) is.name n is.room

    front : length text ≡ length is.middle + 8
    front = omega (arith, is.named, is.sized, ap length is.text_is, length-append (is.name ++ is.size) is.middle, length-append is.name is.size)

    same : (o : Option Step) → ◌≡◌ {A = Result (Option Step × List ℕ) Stop} (Ok (o, rest)) (Ok (Some s, rest)) → o ≡ Some s
    same o q = ap (λ (z : Option Step × List ℕ). z.0) (ok_is (o, rest) (Some s, rest) q)

    on_found : (o : Option (ℕ × ℕ)) → visit_movi place.names tt e is.middle ≡ Ok ((tt, o), rest) → open_framed place left o rest ≡ Ok (Some s, rest) → P s
    on_found None visit step =
        let made : Step = (None, open_at place OpenMovi (left + 1) 0) in
        let takes = ((visit_takes place.names e).only is.middle rest (tt, None) visit).1 in
        subst P (some_is made s (same (Some made) step)) (omega (arith, front, takes, long_chunk place made.1 (8 + padded k) refl (omega (arith, is.whole, fits))))
    on_found (Some y) visit step =
        let made : Step = (Some y.0, open_frame_at place (y.1 + 1)) in
        let takes = ((visit_takes place.names e).only is.middle rest (tt, Some y) visit).1 in
        subst P (some_is made s (same (Some made) step)) (omega (arith, front, takes))

ahead_long : (place : Place) (text : List ℕ) (next : Place) (rest : List ℕ) → IsAhead place text next rest → length text ≡ length rest + step_size place next
ahead_long place text next rest (inl is) =
    let P : Place → Type 0 = λ z. length text ≡ length rest + step_size place z in
    let q = open_at place OpenRiff (place.input - 12) 0 in
    subst P (sym is.place_is) (omega (arith, twelve (codes "RIFF") is.size (codes "AVIX") rest text refl is.sized refl is.text_is, long_chunk place q 12 refl (omega (arith, is.fits))))
ahead_long place text next rest (inr (inl is)) = riff_long place text next rest is
ahead_long place text next rest (inr (inr is)) =
    let P : Place → Type 0 = λ z. length text ≡ length rest + step_size place z in
    let q = open_at place OpenMovi (place.input - 12) 0 in
    subst P (sym is.place_is) (omega (arith, twelve (codes "LIST") is.size (codes "movi") rest text refl is.sized refl is.text_is, long_chunk place q 12 refl (omega (arith, is.fits))))

found_long : (place : Place) (text : List ℕ) (s : Step) (rest : List ℕ) → open_found place text ≡ Ok (Some s, rest) → length text ≡ length rest + step_long place s
found_long place text s rest h = on_case (open_case place text (Some s, rest) h).1
  where
    on_case : IsStep place text s rest → length text ≡ length rest + step_long place s
    on_case (inl is) = movi_long place text s rest is
    on_case (inr (none, is)) =
        let made : Step = (None, s.1) in
        let same : s ≡ made = ap (λ (z : Option ℕ). (z, s.1)) none in
        let P : Step → Type 0 = λ z. length text ≡ length rest + step_long place z in
        subst P (sym same) (ahead_long place text s.1 rest is)

read_long : (place : Place) (s : Step) {b c : Option (List ℕ)} (read : Read (open_found place) b c (Some s)) → length read.bytes ≡ step_long place s
read_long place s read = omega (arith, found_long place (read.bytes ++ []) s [] (read.is []), length-append read.bytes [], none)
  where
    none : length {A = ℕ} [] ≡ 0
    none = refl

-- a chunk without a frame was read
open_counted : (place next : Place) {b c : Option (List ℕ)} → is_open place.open_in ≡ true → 0 < place.input → Read (open_found place) b c (Some (None, next)) → ReadsCounted (chunk_taken (movi_left place 0)) b c next (step_size place next)
open_counted place next unknown some read =
    record { bytes = read.bytes; consumed = read.consumed; is = λ rest. open_chunk place unknown some (read.bytes ++ rest) ∙ ap (λ z. read_on z open_taken) (read.is rest); counted = read_long place (None, next) read }

pub open_next : {from : Place} {a b c : Option (List ℕ)} {first mid after : ℕ} (place next : Place) → is_open place.open_in ≡ true → 0 < place.input → ReadsUpTo from a b (movi_left place 0) first mid → Read (open_found place) b c (Some (None, next)) → after ≡ min (mid + step_size place next) (2 ^ 64 - 1) → ReadsUpTo from a c next first after
open_next {first = first} {mid = mid} {after = after} place next unknown some h read is =
    (h.0 + step_size place next, counts_more h.1 (open_counted place next unknown some read), counts_more_by first mid after h.0 (step_size place next) (step_size place next) h.2 is refl)

-- a frame starts
pub open_starts : (place : Place) (size : ℕ) (next : Place) (b c : Option (List ℕ)) → is_open place.open_in ≡ true → 0 < place.input → Read (open_found place) b c (Some (Some size, next)) → FrameStarts (movi_left place 0) b c size next
open_starts place size next b c unknown some read =
    record { bytes = read.bytes; consumed = read.consumed; is = λ rest. open_chunk place unknown some (read.bytes ++ rest) ∙ ap (λ z. read_on z open_taken) (read.is rest); counted = read_long place (Some size, next) read }

-- it was refused
pub open_refused : (place : Place) (old new : Option (List ℕ)) (before after : ℕ) (f : FileFault) → is_open place.open_in ≡ true → 0 < place.input → RefusedOrNone EveryRiff (open_found place) old new before after f → RefusedOrEnds (chunk_taken (movi_left place 0)) old new before after f
open_refused place old new before after f unknown some why =
    ends_refused_none (open_found place) open_taken ended new after f (λ text. refl)
    (goes_same (chunk_taken (movi_left place 0)) (open_found place >>= open_taken) (open_chunk place unknown some) (goes_none (chunk_taken (movi_left place 0)) old before))
    (over EveryRiff (open_found place) old new before after f why)
