-- The key and the head of a slice, put by fresh states.
use Rattle.std.proofs.Common.{◌≡◌, ℕ, zero, suc, ◌+◌, ◌<◌, List, [], ◌∷◌, ◌++◌, length, replicate, ap, arith, subst, inl}
use Rattle.ffv1_range.specs.Table.{Table}
use Rattle.ffv1_range.specs.Writing.{Writing, unwritten}
use Rattle.ffv1_range.specs.Symbols.{Step, shifted, unsigned_steps}
use Rattle.ffv1_range.specs.History.{AreBelow, AreOutside, HasStates}
use Rattle.ffv1_range.specs.Counts.{Counts, Counted}
use Rattle.ffv1_slice.specs.Head.{key_steps, values_steps}
use Rattle.ffv1_slice.specs.Coding.{PutsAt}
use Rattle.ffv1_encode.specs.Internal.HasPut.{HasPut}

-- the laws of slots and of states that are kept
pub record Fresh : Type 0 where
  pub unsigned : (n : ℕ) → AreBelow (unsigned_steps n) 32
  pub shifted_below : (base count : ℕ) (steps : List Step) → AreBelow steps count → AreBelow (shifted base steps) (base + count)
  pub below : (xs ys : List Step) (count : ℕ) → AreBelow xs count → AreBelow ys count → AreBelow (xs ++ ys) count
  pub fresh : (t : Table) (count base : ℕ) → HasStates t (replicate count 128) base []
  pub others : (t : Table) (states : List ℕ) (base : ℕ) (past steps : List Step) → AreOutside steps base (length states) → HasStates t states base past → HasStates t states base (past ++ steps)
  pub counts : (a b c : Counts) (xs ys : List Step) → Counted a xs b → Counted b ys c → Counted a (xs ++ ys) c

values_below : Fresh → (vs : List ℕ) → AreBelow (values_steps vs) 32
values_below laws [] = tt
values_below laws (v ∷ vs) = laws.below (unsigned_steps v) (values_steps vs) 32 (laws.unsigned v) (values_below laws vs)

key_below : (n base : ℕ) → 0 < base → AreBelow (key_steps n) base
key_below zero base some = (some, tt)
key_below (suc n) base some = tt

outside : (steps : List Step) (base count : ℕ) → AreBelow steps base → AreOutside steps base count
outside [] base count below = tt
outside (s ∷ ss) base count below = (inl below.0, outside ss base count below.1)

pub begun : (t : Table) (n count : ℕ) (vs : List ℕ) (old mid new : Writing) → Fresh → old ≡ unwritten → PutsAt t 0 1 old mid (key_steps n) → PutsAt t 1 32 mid new (shifted 1 (values_steps vs)) →
    HasPut t (key_steps n ++ shifted 1 (values_steps vs)) new (replicate count 128)
begun t n count vs old mid new laws is key head =
    let head_steps = shifted 1 (values_steps vs) in
    let first = key.interval [] tt (ap (λ (w : Writing). w.interval) is) in
    let second = head.interval (key_steps n) (outside (key_steps n) 1 32 (key_below n 1 (omega arith))) first in
    let all : AreBelow (key_steps n ++ head_steps) 33 = laws.below (key_steps n) head_steps 33 (key_below n 33 (omega arith)) (laws.shifted_below 1 32 (values_steps vs) (values_below laws vs)) in
    record {
      interval = second;
      has = laws.others t (replicate count 128) 33 [] (key_steps n ++ head_steps) (outside (key_steps n ++ head_steps) 33 (length (replicate count 128)) all) (laws.fresh t count 33);
      counts = laws.counts _ _ _ _ _ (subst (λ k. Counted k (key_steps n) mid.counts) (ap (λ (w : Writing). w.counts) is) key.counts) head.counts;
    }
