-- The cost of what an encoder has put.
use Rattle.std.proofs.Common.{◌≡◌, refl, ℕ, ◌+◌, ◌-◌, ◌*◌, ◌^◌, ◌≤◌, false, List, [], ◌∷◌, length, arith, sym}
use Rattle.ffv1_range.specs.Interval.{Decision, narrow, interval_of, start}
use Rattle.ffv1_range.specs.Table.{Table, IsTable}
use Rattle.ffv1_range.specs.Symbols.{Step, decided, AllHeld}
use Rattle.ffv1_range.specs.History.{AreBelow}
use Rattle.ffv1_range.specs.Counts.{ones_in, zeros_in}
use Rattle.ffv1_range.specs.Weight.{weight, ones, zeros, sealed}
use Rattle.ffv1_range.specs.Writing.{Writing, unwritten}
use Rattle.ffv1_range.specs.Puts.{Puts}
use Rattle.ffv1_range.proofs.Nested.{narrowed-append}
use Rattle.ffv1_range.proofs.Counting.{decided_ones, decided_zeros}
use Rattle.ffv1_range.proofs.HeldLists.{decided_held}
use Rattle.ffv1_range.proofs.Cost.{cost, cost_sentinel}
use Rattle.ffv1_range.proofs.CostLower.{cost_least}

sealed_ones : (ds : List Decision) → ones (sealed ds) ≡ ones ds
sealed_ones [] = refl
sealed_ones (d ∷ ds) = let rest = sealed_ones ds in omega arith

sealed_zeros : (ds : List Decision) → zeros (sealed ds) ≡ zeros ds + 1
sealed_zeros [] = refl
sealed_zeros (d ∷ ds) = let rest = sealed_zeros ds in omega arith

regroup : (a b c : ℕ) → a * (b * c) ≡ a * b * c
regroup a b c = omega arith

sealed_weight : (ds : List Decision) → weight (sealed ds) ≡ weight ds * 127
sealed_weight [] = refl
sealed_weight (d ∷ ds) = rw (sealed_weight ds) (regroup _ _ _)

module _ (t : Table) (states : List ℕ) (w : Writing) (after : List ℕ) (steps : List Step) (table : IsTable t.floor t.one) (all : AllHeld t states)
    (below : AreBelow steps (length states)) (puts : Puts t unwritten states w after steps) where
  pub written_most : t.floor ^ ones_in steps * 256 ^ (w.interval.count - 2) * weight (decided t states steps) ≤ (256 * (t.floor + 1)) ^ ones_in steps * 256 ^ zeros_in steps
  written_most =
      rw (puts.interval, ← decided_ones t states steps, ← decided_zeros t states steps)
      (cost t.floor (decided t states steps) table.positive (decided_held t table states steps below all))

  pub written_least : 256 ^ ones_in steps * (256 * t.floor) ^ zeros_in steps ≤ 255 * 256 ^ (w.interval.count - 2) * (t.floor + 1) ^ zeros_in steps * weight (decided t states steps)
  written_least =
      rw (puts.interval, ← decided_ones t states steps, ← decided_zeros t states steps)
      (cost_least t.floor (decided t states steps) table.positive (decided_held t table states steps below all))

  pub written_sentinel : t.floor ^ ones_in steps * 256 ^ ((narrow w.interval 129 false).count - 2) * (weight (decided t states steps) * 127) ≤ (256 * (t.floor + 1)) ^ ones_in steps * 256 ^ (zeros_in steps + 1)
  written_sentinel =
      let ds = decided t states steps in
      let whole = cost_sentinel t.floor ds table.positive (decided_held t table states steps below all) in
      let last : narrow (interval_of ds) 129 false ≡ interval_of (sealed ds) = sym (narrowed-append start ds (record { state = 129; bit = false } ∷ [])) in
      rw (puts.interval, ← decided_ones t states steps, ← decided_zeros t states steps, last, ← sealed_weight ds, ← sealed_ones ds, ← sealed_zeros ds) whole
