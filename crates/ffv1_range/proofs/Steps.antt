-- Steps one after another.
use Rattle.std.proofs.Common.{◌≡◌, refl, ℕ, ◌+◌, List, [], ◌∷◌, ◌++◌, length, min, ap, sym, subst, ◌∙◌, add-one, true}
use Rattle.ffv1_range.specs.Interval.{Decision, narrowed, start, interval_of}
use Rattle.ffv1_range.specs.Codes.{AreStates}
use Rattle.ffv1_range.specs.Table.{Table}
use Rattle.ffv1_range.specs.Reading.{Reading, At, summed}
use Rattle.ffv1_range.specs.declared.tally.Sums.{Sums}
use Rattle.ffv1_range.specs.Symbols.{Step, raising, stepped, moved_by, decided}
use Rattle.ffv1_range.specs.Counts.{Counts, Counted, ones_in}
use Rattle.ffv1_range.specs.Follows.{Follows}
use Rattle.ffv1_range.specs.Writing.{Writing, summed_writing}
use Rattle.ffv1_range.specs.Puts.{Puts}
use Rattle.ffv1_range.specs.Internal.Registers.{Reads, Writes}
use Rattle.ffv1_range.proofs.Nested.{narrowed-append}
use Rattle.ffv1_range.proofs.Counting.{counted_none, counted_append, summed_counts}

pub moved_by-append : (t : Table) (states : List ℕ) (xs ys : List Step) → moved_by t states (xs ++ ys) ≡ moved_by t (moved_by t states xs) ys
moved_by-append t states [] ys = refl
moved_by-append t states (x ∷ xs) ys = moved_by-append t (stepped t states x) xs ys

pub decided-append : (t : Table) (states : List ℕ) (xs ys : List Step) → decided t states (xs ++ ys) ≡ decided t states xs ++ decided t (moved_by t states xs) ys
decided-append t states [] ys = refl
decided-append t states (x ∷ xs) ys =
    let rest = decided-append t (stepped t states x) xs ys in cc

pub AreStates-append : (xs ys : List Decision) → AreStates xs → AreStates ys → AreStates (xs ++ ys)
AreStates-append [] ys p q = q
AreStates-append (x ∷ xs) ys p q = (p.0, AreStates-append xs ys p.1 q)

pub follows_none : (t : Table) (r : Reading) (states : List ℕ) → Follows t r states r states []
follows_none t r states = record { bytes = refl; at = λ i h. h; counts = counted_none r.counts; moves = refl; named = tt }

pub follows_append : (t : Table) (a b c : Reading) (ss ts us : List ℕ) (xs ys : List Step) →
    Follows t a ss b ts xs → Follows t b ts c us ys → Follows t a ss c us (xs ++ ys)
follows_append t a b c ss ts us xs ys first second = record {
  bytes = second.bytes ∙ first.bytes;
  at = λ i h.
      rw (decided-append t ss xs ys, narrowed-append i, ← first.moves) (second.at (narrowed i (decided t ss xs)) (first.at i h));
  counts = counted_append a.counts b.counts c.counts xs ys first.counts second.counts;
  moves = second.moves ∙ ap (λ s. moved_by t s ys) first.moves ∙ sym (moved_by-append t ss xs ys);
  named = rw (decided-append t ss xs ys, ← first.moves) (AreStates-append (decided t ss xs) (decided t ts ys) first.named second.named);
}

pub reads_none : (t : Table) (r : Reading) (states : List ℕ) → Reads t r states r states []
reads_none t r states = record { bytes = refl; at = λ i h. h; counts = refl; moves = refl; named = tt }

pub reads_append : (t : Table) (a b c : Reading) (ss ts us : List ℕ) (xs ys : List Step) →
    Reads t a ss b ts xs → Reads t b ts c us ys → Reads t a ss c us (xs ++ ys)
reads_append t a b c ss ts us xs ys first second = record {
  bytes = second.bytes ∙ first.bytes;
  at = λ i h.
      rw (decided-append t ss xs ys, narrowed-append i, ← first.moves) (second.at (narrowed i (decided t ss xs)) (first.at i h));
  counts = second.counts ∙ first.counts;
  moves = second.moves ∙ ap (λ s. moved_by t s ys) first.moves ∙ sym (moved_by-append t ss xs ys);
  named = rw (decided-append t ss xs ys, ← first.moves) (AreStates-append (decided t ss xs) (decided t ts ys) first.named second.named);
}

-- the decoder with other counts
abbrev pub counting : Reading → Counts → Reading
counting r counts = record { bytes = r.bytes; width = r.width; gap = r.gap; renormalisations = r.renormalisations; counts = counts }

-- steps that are counted when they have been read
pub reads_counted : (t : Table) (a b c : Reading) (ss ts : List ℕ) (xs : List Step) →
    Reads t a ss b ts xs → c ≡ counting b c.counts → Counted b.counts xs c.counts → Follows t a ss c ts xs
reads_counted t a b c ss ts xs reads same counts = record {
  bytes = ap (λ (r : Reading). r.bytes) same ∙ reads.bytes;
  at = λ i h.
      let now = reads.at i h in
      subst (λ r. At r (narrowed i (decided t ss xs))) (sym same) (record { inside = now.inside; width = now.width; gap = now.gap; renormalisations = now.renormalisations });
  counts = subst (λ (k : Counts). Counted k xs c.counts) reads.counts counts;
  moves = reads.moves;
  named = reads.named;
}

-- the same by sums, which are added to the counts of either side
pub reads_summed_by : (t : Table) (a b : Reading) (ss ts : List ℕ) (xs : List Step) (before after : Sums) (u z : ℕ) → Reads t a ss b ts xs →
    after.ones ≡ before.ones + u → after.zeros ≡ before.zeros + z → u ≡ ones_in xs → u + z ≡ length xs → Follows t (summed a before) ss (summed b after) ts xs
reads_summed_by t a b ss ts xs before after u z reads of_ones of_zeros ones all = record {
  bytes = reads.bytes;
  at = λ i h.
      let now = reads.at i (record { inside = h.inside; width = h.width; gap = h.gap; renormalisations = h.renormalisations }) in
      record { inside = now.inside; width = now.width; gap = now.gap; renormalisations = now.renormalisations };
  counts = summed_counts a.counts b.counts before after xs u z reads.counts of_ones of_zeros ones all;
  moves = reads.moves;
  named = reads.named;
}

pub reads_summed : (t : Table) (a b : Reading) (ss ts : List ℕ) (xs : List Step) (before after : Sums) (u z : ℕ) → Reads t a ss b ts xs →
    after ≡ record { ones = before.ones + u; zeros = before.zeros + z } → u ≡ ones_in xs → u + z ≡ length xs → Follows t (summed a before) ss (summed b after) ts xs
reads_summed t a b ss ts xs before after u z reads goes_on ones all =
    reads_summed_by t a b ss ts xs before after u z reads (ap (λ (s : Sums). s.ones) goes_on) (ap (λ (s : Sums). s.zeros) goes_on) ones all

pub raising-add-one : (k : ℕ) → raising (k + 1) ≡ raising k ++ (record { slot = 1 + min k 9; bit = true } ∷ [])
unfolding raising
raising-add-one k = rw add-one refl

pub raising-zero : raising 0 ≡ []
unfolding raising
raising-zero = refl

pub puts_none : (t : Table) (w : Writing) (states : List ℕ) → Puts t w states w states []
puts_none t w states = record { interval = refl; counts = counted_none w.counts; failed = refl; moves = refl; named = tt }

pub puts_append : (t : Table) (a b c : Writing) (ss ts us : List ℕ) (xs ys : List Step) →
    Puts t a ss b ts xs → Puts t b ts c us ys → Puts t a ss c us (xs ++ ys)
puts_append t a b c ss ts us xs ys first second = record {
  interval = rw (decided-append t ss xs ys, narrowed-append a.interval, ← first.moves, ← first.interval) second.interval;
  counts = counted_append a.counts b.counts c.counts xs ys first.counts second.counts;
  failed = second.failed ∙ first.failed;
  moves = second.moves ∙ ap (λ s. moved_by t s ys) first.moves ∙ sym (moved_by-append t ss xs ys);
  named = rw (decided-append t ss xs ys, ← first.moves) (AreStates-append (decided t ss xs) (decided t ts ys) first.named second.named);
}

pub writes_none : (t : Table) (w : Writing) (states : List ℕ) → Writes t w states w states []
writes_none t w states = record { interval = refl; counts = refl; failed = refl; moves = refl; named = tt }

pub writes_append : (t : Table) (a b c : Writing) (ss ts us : List ℕ) (xs ys : List Step) →
    Writes t a ss b ts xs → Writes t b ts c us ys → Writes t a ss c us (xs ++ ys)
writes_append t a b c ss ts us xs ys first second = record {
  interval = rw (decided-append t ss xs ys, narrowed-append a.interval, ← first.moves, ← first.interval) second.interval;
  counts = second.counts ∙ first.counts;
  failed = second.failed ∙ first.failed;
  moves = second.moves ∙ ap (λ s. moved_by t s ys) first.moves ∙ sym (moved_by-append t ss xs ys);
  named = rw (decided-append t ss xs ys, ← first.moves) (AreStates-append (decided t ss xs) (decided t ts ys) first.named second.named);
}

-- steps that are counted when they have been written, by a copy of the encoder's interval
pub writes_counted : (t : Table) (a b c d : Writing) (ss ts : List ℕ) (xs : List Step) →
    Writes t a ss b ts xs → a.interval ≡ c.interval → d.interval ≡ b.interval → d.failed ≡ c.failed → Counted c.counts xs d.counts → Puts t c ss d ts xs
writes_counted t a b c d ss ts xs writes before after failed counts = record {
  interval = after ∙ writes.interval ∙ ap (λ i. narrowed i (decided t ss xs)) before;
  counts = counts;
  failed = failed;
  moves = writes.moves;
  named = writes.named;
}

-- the same by sums, which are added to the counts of either side
pub writes_summed : (t : Table) (a b c d : Writing) (ss ts : List ℕ) (xs : List Step) (before after : Sums) (u z : ℕ) →
    Writes t a ss b ts xs → a.interval ≡ c.interval → d.interval ≡ b.interval → d.failed ≡ c.failed → d.counts ≡ c.counts →
    after.ones ≡ before.ones + u → after.zeros ≡ before.zeros + z → u ≡ ones_in xs → u + z ≡ length xs → Puts t (summed_writing c before) ss (summed_writing d after) ts xs
writes_summed t a b c d ss ts xs before after u z writes first last failed counts of_ones of_zeros ones all = record {
  interval = last ∙ writes.interval ∙ ap (λ i. narrowed i (decided t ss xs)) first;
  counts = summed_counts c.counts d.counts before after xs u z counts of_ones of_zeros ones all;
  failed = failed;
  moves = writes.moves;
  named = writes.named;
}

-- where the decoder stands after what it had read before
pub read_on : (t : Table) (old : Reading) (states : List ℕ) (new : Reading) (after : List ℕ) (steps : List Step) (past : List Decision) →
    At old (interval_of past) → Follows t old states new after steps → At new (interval_of (past ++ decided t states steps))
read_on t old states new after steps past h f = rw (narrowed-append start past (decided t states steps)) (f.at (interval_of past) h)

pub written_on : (t : Table) (old : Writing) (states : List ℕ) (new : Writing) (after : List ℕ) (steps : List Step) (past : List Decision) →
    old.interval ≡ interval_of past → Puts t old states new after steps → new.interval ≡ interval_of (past ++ decided t states steps)
written_on t old states new after steps past e p =
    p.interval ∙ ap (λ i. narrowed i (decided t states steps)) e ∙ sym (narrowed-append start past (decided t states steps))
