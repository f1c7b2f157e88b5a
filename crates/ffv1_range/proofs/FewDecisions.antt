-- Few decisions of a history, a decoder and an encoder for their renormalisations.
use Rattle.std.proofs.Common.{◌≡◌, refl, ℕ, ◌+◌, ◌-◌, ◌*◌, ◌^◌, ◌<◌, ◌≤◌, List, [], ◌∷◌, ◌++◌, length, min, arith, ap, subst}
use Rattle.ffv1_range.specs.Interval.{Interval, Decision, narrowed, interval_of, start}
use Rattle.ffv1_range.specs.Table.{Table, IsTable}
use Rattle.ffv1_range.specs.Symbols.{Step, stepped, decided, AllHeld}
use Rattle.ffv1_range.specs.History.{decisions_after, AreBelow}
use Rattle.ffv1_range.specs.Weight.{AreHeldBy}
use Rattle.ffv1_range.specs.Counts.{Counts, Counted, uncounted, total, saturated}
use Rattle.ffv1_range.specs.Reading.{Reading, At}
use Rattle.ffv1_range.specs.Writing.{Writing}
use Rattle.ffv1_range.specs.Follows.{Follows}
use Rattle.ffv1_range.specs.Puts.{Puts}
use Rattle.ffv1_range.specs.Renormalising.{IsNormalised, decisions_a_byte}
use Rattle.ffv1_range.proofs.Counting.{from_nothing}
use Rattle.ffv1_range.proofs.Growth.{narrowed-count}
use Rattle.ffv1_range.proofs.HeldLists.{decided_held}
use Rattle.ffv1_range.proofs.Named.{state_held}
use Rattle.ffv1_range.proofs.Renormalising.{start_normalised, few}

after_length : (t : Table) (past ss : List Step) → length (decisions_after t past ss) ≡ length ss
after_length t past [] = refl
after_length t past (s ∷ ss) = let rest = after_length t (past ++ (s ∷ [])) ss in omega arith

decided_length : (t : Table) (states : List ℕ) (ss : List Step) → length (decided t states ss) ≡ length ss
decided_length t states [] = refl
decided_length t states (s ∷ ss) = let rest = decided_length t (stepped t states s) ss in omega arith

pub after_held : (t : Table) → IsTable t.floor t.one → (past ss : List Step) → AreHeldBy t.floor (decisions_after t past ss)
after_held t table past [] = tt
after_held t table past (s ∷ ss) =
    let held = state_held t table s.slot past in
    (record { least = held.least; most = held.most }, after_held t table (past ++ (s ∷ [])) ss)

-- a counter below its greatest value shows the bytes of an interval after the first two
shown : (c n : ℕ) → n + 2 ≡ min c (2 ^ 64 + 1) → n < 2 ^ 64 - 1 → c - 2 ≡ n
shown c n counts below = omega arith

shown_between : (c d m n : ℕ) → c ≤ d → m + 2 ≡ min c (2 ^ 64 + 1) → n + 2 ≡ min d (2 ^ 64 + 1) → n < 2 ^ 64 - 1 → d - c ≡ n - m
shown_between c d m n grows before after below = omega arith

pub few_in_history : (t : Table) (past : List Step) → IsTable t.floor t.one →
    length past < decisions_a_byte t.floor * ((interval_of (decisions_after t [] past)).count - 2 + 1)
few_in_history t past table =
    let less = few t.floor start (decisions_after t [] past) table.positive table.middle start_normalised (after_held t table [] past) in
    subst (λ k. k < decisions_a_byte t.floor * ((interval_of (decisions_after t [] past)).count - 2 + 1)) (after_length t [] past) less

pub few_decoded : (t : Table) (r : Reading) (past : List Step) → IsTable t.floor t.one → At r (interval_of (decisions_after t [] past)) →
    r.renormalisations < 2 ^ 64 - 1 → length past < decisions_a_byte t.floor * (r.renormalisations + 1)
few_decoded t r past table at below =
    let same = shown (interval_of (decisions_after t [] past)).count r.renormalisations at.renormalisations below in
    subst (λ k. length past < decisions_a_byte t.floor * (k + 1)) same (few_in_history t past table)

pub few_read : (t : Table) (i : Interval) (old : Reading) (states : List ℕ) (new : Reading) (after : List ℕ) (steps : List Step) → IsTable t.floor t.one →
    AllHeld t states → AreBelow steps (length states) → IsNormalised i → At old i → Follows t old states new after steps → new.renormalisations < 2 ^ 64 - 1 →
    length steps < decisions_a_byte t.floor * (new.renormalisations - old.renormalisations + 1)
few_read t i old states new after steps table all below normal at follows room =
    let ds : List Decision = decided t states steps in
    let now = follows.at i at in
    let same = shown_between i.count (narrowed i ds).count old.renormalisations new.renormalisations (narrowed-count i ds) at.renormalisations now.renormalisations room in
    let less = few t.floor i ds table.positive table.middle normal (decided_held t table states steps below all) in
    let long = subst (λ k. k < decisions_a_byte t.floor * ((narrowed i ds).count - i.count + 1)) (decided_length t states steps) less in
    subst (λ k. length steps < decisions_a_byte t.floor * (k + 1)) same long

pub few_written : (t : Table) (old : Writing) (states : List ℕ) (new : Writing) (after : List ℕ) (steps : List Step) → IsTable t.floor t.one →
    AllHeld t states → AreBelow steps (length states) → IsNormalised old.interval → Puts t old states new after steps →
    length steps < decisions_a_byte t.floor * (new.interval.count - old.interval.count + 1)
few_written t old states new after steps table all below normal puts =
    let less = few t.floor old.interval (decided t states steps) table.positive table.middle normal (decided_held t table states steps below all) in
    let same = ap (λ (i : Interval). i.count) puts.interval in
    let long = subst (λ k. k < decisions_a_byte t.floor * ((narrowed old.interval (decided t states steps)).count - old.interval.count + 1)) (decided_length t states steps) less in
    rw same long

pub few_counted : (steps : List Step) (c : Counts) → Counted uncounted steps c → total c ≤ length steps
few_counted steps c all = at_most (total c) (length steps) (from_nothing steps c all).2
  where
    at_most : (c n : ℕ) → c ≡ saturated n → c ≤ n
    at_most c n is = omega arith
