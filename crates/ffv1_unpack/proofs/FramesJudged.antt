-- Frames are judged one after the other.
use Rattle.std.proofs.Common.{◌≡◌, refl, ℕ, suc, ◌+◌, Bool, true, Option, Some, None, List, [], ◌∷◌, ◌++◌, length, ap, sym, ◌∙◌, arith, append-nil, append_assoc}
use Rattle.std.specs.Prelude.{slice_get}
use Rattle.std.specs.Io.KnownBytes.{Appends}
use Rattle.ffv1_range.specs.Counts.{saturated}
use Rattle.ffv1_wire.specs.Passage.{Passage, between}
use Rattle.ffv1_record.specs.Configuration.{Configuration}
use Rattle.ffv1_record.specs.Accepted.{Accepted}
use Rattle.ffv1_files.specs.Places.{Place}
use Rattle.ffv1_files.specs.declared.notes.Notes.{Notes}
use Rattle.ffv1_files.specs.Readers.{Standing}
use Rattle.ffv1_words.specs.declared.order.FrameRange.{FrameRange}
use Rattle.ffv1_video.specs.declared.fault.Fault.{Fault}
use Rattle.ffv1_unpack.specs.declared.judging.JudgedCounts.{JudgedCounts}
use Rattle.ffv1_video.specs.Faults.{Cause}
use Rattle.ffv1_unpack.specs.Internal.Located.{LocatedAfter, StaysReached}
use Rattle.ffv1_video.specs.Output.{Silent}
use Rattle.ffv1_unpack.specs.Judged.{IsJudged, Judged, judged_from, judged_line, payload_of, refusal_of, refusals, with_refusal}
use Rattle.ffv1_unpack.specs.Internal.Judged.{AreCounts, JudgeStopsBy, first_of, one_counted}
use Rattle.ffv1_unpack.specs.Internal.Play.{ReadsEnd}
use Rattle.ffv1_unpack.specs.Plays.{AtMost, GoesFrom, HasThen, has_more}
use Rattle.ffv1_unpack.specs.Ranges.{number_in}
use Rattle.ffv1_unpack.specs.Internal.Plays.{PlaysMost, PlaysOne}
use Rattle.ffv1_unpack.proofs.FramesInTurn.{counted_more}
use Rattle.ffv1_unpack.proofs.FramesPlayed.{SoFar, goes_by, none_yet, one_so, plays_over}

-- ---- one more

from_more : (place : Bool) (c : Configuration) (i : ℕ) (js : List Judged) (j : Judged) →
    judged_from place c i (js ++ (j ∷ [])) ≡ judged_from place c i js ++ judged_line place c (saturated (i + length js)) j
from_more place c i [] j =
    let same : i ≡ i + 0 = omega arith in
    append-nil (judged_line place c (saturated i) j) ∙ ap (λ n. judged_line place c (saturated n) j) same
from_more place c i (k ∷ ks) j =
    let here = judged_line place c (saturated i) k in
    let same : suc i + length ks ≡ i + suc (length ks) = omega arith in
    ap (λ z. here ++ z) (from_more place c (suc i) ks j)
    ∙ sym (append_assoc here (judged_from place c (suc i) ks) (judged_line place c (saturated (suc i + length ks)) j))
    ∙ ap (λ n. (here ++ judged_from place c (suc i) ks) ++ judged_line place c (saturated n) j) same

-- ---- counts

pub with_more : (o : Option Fault) (xs ys : List Fault) → with_refusal o (xs ++ ys) ≡ with_refusal o xs ++ ys
with_more None xs ys = refl
with_more (Some f) xs ys = refl

refusals_more : (js : List Judged) (j : Judged) → refusals (js ++ (j ∷ [])) ≡ refusals js ++ with_refusal (refusal_of j) []
refusals_more [] j = refl
refusals_more (k ∷ ks) j = ap (with_refusal (refusal_of k)) (refusals_more ks j) ∙ with_more (refusal_of k) (refusals ks) (with_refusal (refusal_of j) [])

pub first_more : (fs : List Fault) (f : Fault) → slice_get (fs ++ (f ∷ [])) 0 ≡ first_of (slice_get fs 0) f
first_more [] f = refl
first_more (g ∷ gs) f = refl

pub no_more : (fs : List Fault) → fs ++ [] ≡ fs
no_more [] = refl
no_more (g ∷ gs) = ap (λ z. g ∷ z) (no_more gs)

counts_by : (c : JudgedCounts) (js : List Judged) (j : Judged) (o : Option Fault) → refusals (js ++ (j ∷ [])) ≡ refusals js ++ with_refusal o [] → AreCounts c js → AreCounts (one_counted c o) (js ++ (j ∷ []))
counts_by c js j None e h =
    let same : refusals (js ++ (j ∷ [])) ≡ refusals js = e ∙ no_more (refusals js) in
    record {
      frames = (let long = counted_more js j in let is = h.frames in omega (arith, long, is));
      faults = rw same h.faults;
      first = rw same h.first;
    }
counts_by c js j (Some f) e h =
    record {
      frames = (let long = counted_more js j in let is = h.frames in omega (arith, long, is));
      faults = rw e (let long = counted_more (refusals js) f in let is = h.faults in omega (arith, long, is));
      first = rw e (ap (λ z. first_of z f) h.first ∙ sym (first_more (refusals js) f));
    }

pub counts_more : (c : JudgedCounts) (js : List Judged) (j : Judged) → AreCounts c js → AreCounts (one_counted c (refusal_of j)) (js ++ (j ∷ []))
counts_more c js j h = counts_by c js j (refusal_of j) (refusals_more js j) h

-- ---- so far

-- so many were judged, up to this place
pub record JudgedSo (place : Bool) (range : FrameRange) (a : Accepted) (from : Place) (input output : Passage) (counts : JudgedCounts) (to : Place) : Type 0 where
  pub js : List Judged
  pub counted : AreCounts counts js
  pub so : SoFar (IsJudged a) payload_of (judged_from place a.configuration range.first) from input output js to

module _ (place : Bool) (range : FrameRange) (a : Accepted) (from : Place) where
  unfoldable pub so_none : (i o : Option (List ℕ)) (ib ob : ℕ) (counts : JudgedCounts) → AreCounts counts [] → JudgedSo place range a from (between i i ib ib) (between o o ob ob) counts from
  so_none i o ib ob counts none = record { js = []; counted = none; so = none_yet (IsJudged a) payload_of (judged_from place a.configuration range.first) refl from i o ib ob }

-- the lines of one more
pub one_line : (place : Bool) (c : Configuration) (range : FrameRange) (js : List Judged) (n : ℕ) → n ≡ number_in range (length js) → (j : Judged) →
    judged_from place c range.first (js ++ (j ∷ [])) ≡ judged_from place c range.first js ++ judged_line place c n j
one_line place c range js n is j = from_more place c range.first js j ∙ ap (λ m. judged_from place c range.first js ++ judged_line place c m j) (sym is)

module _ (place byte : Bool) (range : FrameRange) (a : Accepted) (from to : Standing) (last : Place) (counts : JudgedCounts) (number : ℕ) (i0 i1 i2 o0 o1 o2 : Option (List ℕ)) (ib im ia ob om oa : ℕ)
    (so : JudgedSo place range a from.place (between i0 i1 ib im) (between o0 o1 ob om) counts to.place) where
  abbrev lines : List Judged → List ℕ
  lines = judged_from place a.configuration range.first

  module _ (numbered : number ≡ number_in range (length so.js)) where
    unfoldable pub so_more : (new : JudgedCounts) (j : Judged) → PlaysOne (IsJudged a) payload_of to.place last (between i1 i2 im ia) j → oa ≡ om → Appends o1 o2 (judged_line place a.configuration number j) →
        new ≡ one_counted counts (refusal_of j) → JudgedSo place range a from.place (between i0 i2 ib ia) (between o0 o2 ob oa) new last
    so_more new j here same writes is = record {
      js = so.js ++ (j ∷ []);
      counted = rw is (counts_more counts so.js j so.counted);
      so =
          one_so (IsJudged a) payload_of lines from.place to.place last i0 i1 i2 o0 o1 o2 ib im ia ob om oa so.js so.so (judged_line place a.configuration number)
          (one_line place a.configuration range so.js number numbered) j here same writes;
    }

    -- why no further one is judged
    pub so_stops : StaysReached from to (between i0 i1 ib im) → (f : Fault) (why : Cause) → JudgeStopsBy place byte a number to last (between i1 i2 im ia) (between o1 o2 om oa) f why →
        GoesFrom (IsJudged a) payload_of (HasThen from.place) lines (between i0 i2 ib ia) (between o0 o2 ob oa) (number_in range) (LocatedAfter from (between i0 i2 ib ia)) byte f why
    so_stops reached =
        goes_by (IsJudged a) payload_of lines byte (number_in range) from to last i0 i1 i2 o0 o1 o2 ib im ia ob om oa so.js so.so reached (judged_line place a.configuration number)
        (one_line place a.configuration range so.js number numbered) number numbered

  -- and there is none
  pub so_over : (notes : Notes) (most : Option ℕ) → has_more most (length so.js) ≡ true → AtMost most (length so.js) → ReadsEnd to.place notes (between i1 i2 im ia) → Silent (between o1 o2 om oa) →
      PlaysMost (IsJudged a) payload_of (HasThen from.place) lines (between i0 i2 ib ia) (between o0 o2 ob oa) notes most so.js
  so_over = plays_over (IsJudged a) payload_of lines from.place to.place last i0 i1 i2 o0 o1 o2 ib im ia ob om oa so.js so.so
